-- What an ended search gives of the schedule that is made of it: it is steady, the handler's returns are quiet, and each instance passes
-- the local rule.
use Rattle.std.specs.Prelude.{◌≡◌, ℕ, ◌+◌, ◌<◌, ◌≤◌, true, false, length, List, Option, Some, None, Ok}
use Rattle.avr_table.specs.declared.Instr.{Instr}
use Rattle.uz_schedule.specs.Instances.{rest_instance}
use Rattle.uz_schedule.specs.Schedule.{length_of, start_of, next_line, event_at, level_at, response_clocks}
use Rattle.uz_schedule.specs.declared.certificate.Cert.{Cert}
use Rattle.uz_schedule.specs.declared.lines.EventKind.{EventKind}
use Rattle.uz_schedule.specs.declared.lines.EventKind.TheVariants.{Sync, Leave}
use Rattle.uz_schedule.specs.declared.lines.Schedule.{Schedule}
use Rattle.uz_schedule.specs.declared.states.Instance.{Instance}
use Rattle.uz_schedule.specs.declared.states.Rest.{Rest}
use Rattle.uz_transfer.specs.Step.{IsReadAt}
use Rattle.uz_rules.specs.declared.next.Next.{Next}
use Rattle.uz_rules.specs.EdgeRule.{position_of}
use Rattle.uz_rules.specs.Inside.{inside}
use Rattle.uz_rules.specs.Local.{local_fail, passes}
use Rattle.uz_rules.specs.Successors.{lies_in_any}
use Rattle.uz_search.specs.declared.found.Found.{Found}
use Rattle.uz_search.specs.declared.program.Program.{Program}
use Rattle.uz_search.specs.declared.returns.Return.{Return}
use Rattle.uz_search.specs.Fitting.{ProgramFits}
use Rattle.uz_search.specs.Following.{Among, Flash, After, lines_of}
use Rattle.uz_search.specs.Returning.{ReturnAt}
use Rattle.uz_search.specs.Searching.{IsEnded}
use Rattle.uz_search.specs.Pieces.{pieces}
use Rattle.uz_search.specs.Widened.{widened}
use Rattle.uz_search.specs.Made.{marked_at, IsScheduleOf, IsMadeOf}

-- at the fall of each line stands sync 0, nothing stands before it, and no other sync 0
pub record FallsOnce (p : Program) (s : Schedule) : Type 0 where
  pub first : (l : ℕ) → l < lines_of p → event_at s (start_of s l + p.schedule.fall) ≡ Some (Sync 0)
  pub above : (l k : ℕ) (e : EventKind) → l < lines_of p → k < length_of s l → event_at s (start_of s l + k) ≡ Some e → p.schedule.fall ≤ k
  pub once : (l k : ℕ) → l < lines_of p → k < length_of s l → event_at s (start_of s l + k) ≡ Some (Sync 0) → k ≡ p.schedule.fall

abbrev pub EndedFallsOnce : Type 0
EndedFallsOnce = (image : Flash) (p : Program) (found : Found) (s : Schedule) → ProgramFits p → IsEnded image p found → IsScheduleOf p
    found.marks.items s → FallsOnce p s

-- a marked level is 0 or 1
abbrev pub EndedLevelsFit : Type 0
EndedLevelsFit = (image : Flash) (p : Program) (found : Found) (y v : ℕ) → ProgramFits p → IsEnded image p found
    → marked_at found.marks.items y ≡ Some (Sync v) → v ≤ 1

-- a return leaves at its clock, nothing stands after it on its line, nor on the next line up to the latest end of an interrupt's entry
pub record IsQuietRest (p : Program) (s : Schedule) (l : ℕ) (r : Return) : Type 0 where
  pub in_line : r.clock < length_of s l
  pub leave : event_at s (start_of s l + r.clock) ≡ Some Leave
  pub quiet : (k : ℕ) → r.clock < k → k < length_of s l → event_at s (start_of s l + k) ≡ None
  pub quiet_next : (k : ℕ) → k ≤ response_clocks p.head.irq + 3 → event_at s (start_of s (next_line s l) + k) ≡ None

abbrev pub EndedRestsAreQuiet : Type 0
EndedRestsAreQuiet = (image : Flash) (p : Program) (found : Found) (s : Schedule) (l : ℕ) (r : Return) → ProgramFits p → IsEnded image p
    found → IsScheduleOf p found.marks.items s
    → l < lines_of p → ReturnAt found.returns.items l r → IsQuietRest p s l r

-- the level of each instance is the schedule's at its position
abbrev pub EndedLevels : Type 0
EndedLevels = (image : Flash) (p : Program) (found : Found) (s : Schedule) (x : Instance) → ProgramFits p → IsEnded image p found
    → IsScheduleOf p found.marks.items s
    → Among found.nodes.keys x → level_at s (position_of s x) ≡ Some x.level

-- the handler's first state after a rest is an instance of the search, whatever the latency
abbrev pub EndedRestsEnter : Type 0
EndedRestsEnter = (image : Flash) (p : Program) (found : Found) (cert : Cert) (rest : Rest) (r : Return) (c : ℕ) → ProgramFits p
    → IsEnded image p found → cert.head ≡ p.head
    → IsScheduleOf p found.marks.items cert.schedule → ReturnAt found.returns.items rest.line r → rest.cells.items ≡ r.cells.items → c ≤ 3
    → Among found.nodes.keys (rest_instance cert rest c)

-- each instance passes the local rule, with successors in which its results lie, or are covered by the values of a register
abbrev pub HasSuccessors : Flash → Program → Cert → List ℕ → Option ℕ → Instance → Type 0
HasSuccessors image p cert ids split x = (next : Next) (y : Instance) → After image p x (Ok next) → next.back ≡ false
    → Among next.out.items y → passes cert ids split (Some y) ≡ true

abbrev pub EndedPassesLocal : Type 0
EndedPassesLocal = (image : Flash) (p : Program) (found : Found) (cert : Cert) (ids : List ℕ) (split : Option ℕ) (row : Option Instr)
    (x : Instance)
    → ProgramFits p → IsEnded image p found → IsMadeOf p found cert
    → Among found.nodes.keys x → HasSuccessors image p cert ids split x → IsReadAt image x.pc row
    → local_fail image cert ids split row (Some x) ≡ None

-- a result of 16 at most passes where whatever lies in what its pieces are widened to lies in the named successors
abbrev pub PiecesPass : Type 0
PiecesPass = (p : Program) (cert : Cert) (ids : List ℕ) (split : Option ℕ) (results : List Instance) (y : Instance) → length results ≤ 16
    → ((z w : Instance) → Among (pieces split results) z → inside w (widened p z) ≡ true → lies_in_any cert ids w ≡ true)
    → Among results y → passes cert ids split (Some y) ≡ true
