-- What the induction takes: what acceptance gives of each instance, of each rest and of the entry, and the laws of the rules.
use Rattle.uz_check.proofs.Common.{Goes, Running, Invariant, clock_of, State, PadHistory, Edge, ◌≡◌, Contains, ℕ, ◌+◌, ◌%◌, ◌<◌, ◌≤◌, Bool}
use Rattle.uz_check.proofs.Common.{true, false, List, Option, Some, None, Ok, nat_cmp, FinMap, word_of, Instr, Reads, effect_of, length_of}
use Rattle.uz_check.proofs.Common.{start_of, next_line, event_at, response_clocks, Kind, Main, Handler, Alone, Rest, Instance, Cert, Exit}
use Rattle.uz_check.proofs.Common.{Step, inside, cells_inside, restored, StateInside, LiesInPoint, passes, shown_at, listed, narrowed}
use Rattle.uz_check.proofs.Common.{IsStep, successor, main_emits, scheduled, order_of, position_of, instance_at, entry_instance}
use Rattle.uz_check.proofs.Common.{rest_instance}
use Rattle.uz_check.proofs.Steps.{Comes}
use Rattle.uz_rules.specs.CoverMeets.{CoverMeets}
use Rattle.uz_rules.specs.OneStep.{AloneContained, HandlerContained, MainContained}
use Rattle.uz_check.proofs.Fits.{Limits}

-- an instance lies in an instance of a point
pub record IsCovered (cert : Cert) (r : Instance) : Type 0 where
  pub id : ℕ
  pub l : ℕ
  pub c : ℕ
  pub inst : Instance
  pub is : instance_at cert id l c ≡ Some inst
  pub inside : inside r inst ≡ true

-- a handler's RETI, whose end is at a rest
pub record Returns (cert : Cert) (inst : Instance) (step : Step) : Type 0 where
  pub kind : inst.kind ≡ Handler
  pub rest : Rest
  pub is_rest : Contains cert.rests rest
  pub exit : Exit
  pub is_exit : Contains step.exits.items exit
  pub restored : restored (successor (order_of cert.schedule) inst step exit) ≡ true
  pub line : (successor (order_of cert.schedule) inst step exit).line ≡ rest.line
  pub clock : (successor (order_of cert.schedule) inst step exit).clock ≡ rest.clock
  pub cells : cells_inside step.draft.cells.items rest.cells.items ≡ true

-- the events that the schedule has on the way to each exit are just what is emitted. Main stores nothing that is seen
abbrev pub EdgeHolds : FinMap nat_cmp ℕ → Cert → Kind → Instance → Step → Type 0
EdgeHolds image cert Main inst step =
    (i : Instr) → Reads (word_of image (inst.pc % 32768)) (word_of image ((inst.pc + 1) % 32768)) i → main_emits (effect_of i) inst ≡ false
EdgeHolds image cert Handler inst step =
    (exit : Exit) (k : ℕ) → Contains step.exits.items exit → 1 ≤ exit.clocks
    → scheduled (event_at cert.schedule) (position_of cert.schedule inst) k exit.clocks ≡ listed (shown_at step.emit (k + exit.clocks))
EdgeHolds image cert Alone inst step =
    (exit : Exit) (k : ℕ) → Contains step.exits.items exit → 1 ≤ exit.clocks
    → scheduled (event_at cert.schedule) (position_of cert.schedule inst) k exit.clocks ≡ listed (shown_at step.emit (k + exit.clocks))

-- what is left at each exit passes, or the handler returns
abbrev pub Succeeds : Cert → List ℕ → Option ℕ → Instance → Step → Bool → Type 0
Succeeds cert next split inst step false = (exit : Exit) → Contains step.exits.items exit
    → passes cert next split (narrowed step.test exit (successor (order_of cert.schedule) inst step exit)) ≡ true
Succeeds cert next split inst step true = Returns cert inst step

pub record LocalHolds (image : FinMap nat_cmp ℕ) (cert : Cert) (inst : Instance) : Type 0 where
  pub step : Step
  pub step_is : IsStep cert.head (order_of cert.schedule) image inst (Ok step)
  pub edge : EdgeHolds image cert inst.kind inst step
  -- the point's named successors, and the register of its cover
  pub next : List ℕ
  pub split : Option ℕ
  pub successor : Succeeds cert next split inst step step.back

-- What the rules of a rest give

pub record RestHolds (cert : Cert) (rest : Rest) : Type 0 where
  pub within : rest.clock < length_of cert.schedule rest.line
  pub quiet : (k : ℕ) → rest.clock < k → k < length_of cert.schedule rest.line → event_at cert.schedule
      (start_of cert.schedule rest.line + k) ≡ None
  pub quiet_next : (k : ℕ) → k ≤ response_clocks cert.head.irq + 3 → event_at cert.schedule
      (start_of cert.schedule (next_line cert.schedule rest.line) + k) ≡ None
  pub vector : (c : ℕ) → c ≤ 3 → IsCovered cert (rest_instance cert rest c)

-- The laws of the rules: a state that meets an instance goes on as the abstract step says
pub record RuleLaws : Type 0 where
  pub alone : AloneContained
  pub handler : HandlerContained
  pub main : MainContained
  pub inside : StateInside
  pub lies : LiesInPoint
  pub cover : CoverMeets

-- What makes every run keep to the schedule
pub record Premises (image : FinMap nat_cmp ℕ) (cert : Cert) : Type 0 where
  pub laws : RuleLaws
  pub limits : Limits cert
  pub local : (id l c : ℕ) (inst : Instance) → instance_at cert id l c ≡ Some inst → LocalHolds image cert inst
  pub rests : (rest : Rest) → Contains cert.rests rest → RestHolds cert rest
  pub entry : IsCovered cert (entry_instance cert)

-- What a turn leads to, and which way it goes
pub record Turned (image : FinMap nat_cmp ℕ) (cert : Cert) (p : ℕ) (s : State PadHistory) (running : Running) (edges : List Edge)
    (next : State PadHistory) : Type 0 where
  pub follows : Comes clock_of (event_at cert.schedule) (Invariant image cert) p s 1 edges next
  pub goes : Goes cert s next follows.clocks running follows.meets.running edges
