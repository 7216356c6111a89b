-- The value by which the successors of points are found: the same as in `Linked`, of its parts.
use Rattle.std.specs.Prelude.{ℕ, List}
use Rattle.uz_schedule.specs.declared.lines.Schedule.{Schedule}
use Rattle.uz_schedule.specs.declared.states.Instance.{Instance}
use Rattle.uz_schedule.specs.declared.states.Point.{Point}
use Rattle.uz_schedule.specs.declared.states.Rest.{Rest}
use Rattle.uz_rules.specs.declared.next.Next.{Next}
use Rattle.uz_paths.specs.declared.linking.Linking.{Linking}
use Rattle.uz_paths.specs.declared.lists.Lists.{Lists}
use Rattle.uz_paths.specs.Linked.{AreEntered, AreSearched, HasFew, HasSuccessor, HaveNumbers, IsEntered, LeadsToEntries, LeadsToResults}
use Rattle.uz_paths.specs.Linked.{VectorsLead, pieces_at}
use Rattle.uz_paths.specs.Plan.{AreLinks}

-- the instances of a search with all their results, each of which has the number of a point
pub record IsLinking (l : Linking) : Type 0 where
  pub searched : AreSearched l.image.now l.program.now l.nodes.now.keys
  pub numbered : HaveNumbers l.nodes.now.keys l.numbers.now l.count

abbrev pub HasSuccessorBy : Linking → Instance → List ℕ → Type 0
HasSuccessorBy l = HasSuccessor l.nodes.now.keys l.numbers.now

abbrev pub LeadsToResultsBy : Linking → Instance → List ℕ → Type 0
LeadsToResultsBy l = LeadsToResults l.image.now l.program.now l.nodes.now.keys l.numbers.now

abbrev pub HasFewBy : Linking → Instance → ℕ → Type 0
HasFewBy l = HasFew l.image.now l.program.now

abbrev pub pieces_by : Linking → Instance → Next → List Instance
pieces_by l = pieces_at l.program.now

abbrev pub LeadsToEntriesBy : Linking → Schedule → Rest → List ℕ → Type 0
LeadsToEntriesBy l s = LeadsToEntries l.image.now l.program.now s l.nodes.now.keys l.numbers.now

abbrev pub IsEnteredBy : Linking → Schedule → Rest → Type 0
IsEnteredBy l s = IsEntered l.program.now s l.nodes.now.keys

abbrev pub AreEnteredBy : Linking → Schedule → List Rest → Type 0
AreEnteredBy l s rests = AreEntered l.program.now s rests l.nodes.now.keys

abbrev pub VectorsLeadBy : Linking → Schedule → List Rest → ℕ → List Point → Type 0
VectorsLeadBy l s rests = VectorsLead l.image.now l.program.now s rests l.nodes.now.keys l.numbers.now

abbrev pub AreLinksBy : Linking → ℕ → Lists → ℕ → Type 0
AreLinksBy l vectors = AreLinks l.image.now l.program.now vectors l.nodes.now.keys l.numbers.now l.count
