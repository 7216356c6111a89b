-- What is found, and why nothing is.
use Rattle.std.specs.Prelude.{◌≡◌, ◌≢◌, ⊤, ℕ, Contains, List, length}
use Rattle.std.specs.Ordering.{nat_cmp}
use Rattle.std.specs.FinMap.{FinMap}
use Rattle.avr_asm.specs.declared.output.Hint.{Hint as SourceHint}
use Rattle.uz_schedule.specs.Schedule.{length_of}
use Rattle.uz_schedule.specs.declared.kinds.Response.{Response}
use Rattle.uz_schedule.specs.declared.kinds.RuleVersion.{RuleVersion}
use Rattle.uz_schedule.specs.declared.states.Instance.{Instance}
use Rattle.uz_schedule.specs.declared.states.Entry.{Entry}
use Rattle.uz_schedule.specs.declared.states.Rest.{Rest}
use Rattle.uz_schedule.specs.declared.certificate.Cert.{Cert}
use Rattle.uz_search.specs.declared.found.NotFound.{NotFound}
use Rattle.uz_search.specs.declared.found.NotFound.TheVariants.{Stuck, Split, Full, Hint, NoRest, Memory}
use Rattle.uz_search.specs.declared.program.Program.{Program}
use Rattle.uz_search.specs.Following.{ReturnsTo, lines_of}
use Rattle.uz_search.specs.Trails.{OnTrail}
use Rattle.uz_search.specs.Refusing.{Refusal}
use Rattle.uz_paths.specs.Faults.{HintRefusal}
use Rattle.uz_paths.specs.ProgramOf.{IsProgramOf, start_entry}
use Rattle.uz_paths.specs.Splits.{IsWhole, SplitsFit}

-- the most distinct instances of a search
abbrev pub instance_limit : ℕ
instance_limit = 524288

-- some versions of the rules
abbrev pub Versions : Type 1
Versions = RuleVersion → Type 0

abbrev pub any_version : Versions
any_version version = ⊤

abbrev pub only : RuleVersion → Versions
only version other = other ≡ version

-- what is told of the program by the hints, and the refusal of a search over it, without splits, by the rules of such a version
pub record Licensed (versions : Versions) (image : FinMap nat_cmp ℕ) (irq : Response) (hints : List SourceHint) (e : NotFound)
    : Type 0 where
  pub program : Program
  pub of : IsProgramOf irq hints program
  pub rules : versions program.head.version
  pub whole : IsWhole program
  pub shows : Refusal image program instance_limit e

-- the cause of each answer without a certificate by the rules of such a version
abbrev pub CauseBy : Versions → FinMap nat_cmp ℕ → Response → List SourceHint → NotFound → Type 0
CauseBy versions image irq hints (Stuck trail why) = Licensed versions image irq hints (Stuck trail why)
CauseBy versions image irq hints (Split first second) = Licensed versions image irq hints (Split first second)
CauseBy versions image irq hints (Full instances) = Licensed versions image irq hints (Full instances)
CauseBy versions image irq hints (Hint index) = HintRefusal image irq hints index
CauseBy versions image irq hints (NoRest count) = Licensed versions image irq hints (NoRest count)
CauseBy versions image irq hints Memory = ⊤

-- by the rules of any
abbrev pub Cause : FinMap nat_cmp ℕ → Response → List SourceHint → NotFound → Type 0
Cause image irq hints e = CauseBy any_version image irq hints e

-- nothing stands that refuses these hints or the program that they tell of by the rules of a version
abbrev pub NoCause : RuleVersion → FinMap nat_cmp ℕ → Response → List SourceHint → Type 0
NoCause version image irq hints = (e : NotFound) → e ≢ Memory → CauseBy (only version) image irq hints e → ⊥

-- the certificate is judged by the rules of this version
abbrev pub IsBy : RuleVersion → Cert → Type 0
IsBy version cert = cert.head.version ≡ version

-- the handler returns so with an instance that lies on a trail
pub record IsReturn (image : FinMap nat_cmp ℕ) (p : Program) (rest : Rest) : Type 0 where
  pub at : Instance
  pub on_trail : OnTrail image p at
  pub end : Instance
  pub returns : ReturnsTo image p at end
  pub line : rest.line ≡ end.line
  pub clock : rest.clock ≡ end.clock
  pub cells : rest.cells ≡ end.cells

-- the certificate has the header, the lines, their lengths and the fall of the program, and this entry; and each rest is a return of
-- some trail
pub record IsFoundBy (image : FinMap nat_cmp ℕ) (p : Program) (entry : Entry) (cert : Cert) : Type 0 where
  pub head : cert.head ≡ p.head
  pub lines : length cert.schedule.lines ≡ lines_of p
  pub lengths : (l : ℕ) → length_of cert.schedule l ≡ length_of p.schedule l
  pub fall : cert.schedule.fall ≡ p.schedule.fall
  pub enters : cert.entry ≡ record entry { id = cert.entry.id }
  pub rests : (rest : Rest) → Contains cert.rests rest → IsReturn image p rest

-- the certificate has the header, the lines, their lengths, the fall and the entry that the hints ask for, and each rest is a return of
-- some trail, by the rules that the header names, with splits that are allowed
pub record IsAskedWith (allowed : Program → Type 0) (image : FinMap nat_cmp ℕ) (irq : Response) (hints : List SourceHint) (cert : Cert)
    : Type 0 where
  pub program : Program
  pub of : IsProgramOf irq hints program
  pub splits : allowed program
  pub found : IsFoundBy image program (start_entry hints program.head of.start 0) cert

-- with any that the rules know: where they are those of version 2 there is none
abbrev pub IsAsked : FinMap nat_cmp ℕ → Response → List SourceHint → Cert → Type 0
IsAsked image irq hints cert = IsAskedWith SplitsFit image irq hints cert

-- with none
abbrev pub IsAskedWhole : FinMap nat_cmp ℕ → Response → List SourceHint → Cert → Type 0
IsAskedWhole image irq hints cert = IsAskedWith IsWhole image irq hints cert
