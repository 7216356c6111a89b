-- What is known of an instance on a trail stays within a certificate's limits, so that a point can say it.
use Rattle.std.specs.Prelude.{◌≡◌, ℕ, ◌+◌, ◌*◌, ◌<◌, ◌≤◌, ⊤, true, List, Some, length, slice_get}
use Rattle.uz_schedule.specs.Ends.{Ends, whole_pair}
use Rattle.uz_schedule.specs.Instances.{hull_at}
use Rattle.uz_schedule.specs.Tracked.{tracked, depth_of}
use Rattle.uz_schedule.specs.WellFormed.{AgainstFits, BitFits, spans_fit}
use Rattle.uz_schedule.specs.declared.facts.Compared.{Compared}
use Rattle.uz_schedule.specs.declared.facts.Compared.TheVariants.{Byte, Nothing, Pair, PairResult, Result, Value}
use Rattle.uz_schedule.specs.declared.facts.Val.{Val}
use Rattle.uz_schedule.specs.declared.facts.Val.TheVariants.{Range, Old, OldFlags}
use Rattle.uz_schedule.specs.declared.kinds.Kind.{Kind}
use Rattle.uz_schedule.specs.declared.kinds.Kind.TheVariants.{Main, Handler, Alone}
use Rattle.uz_schedule.specs.declared.kinds.RuleVersion.{RuleVersion}
use Rattle.uz_schedule.specs.declared.kinds.RuleVersion.TheVariants.{Two, Three}
use Rattle.uz_schedule.specs.declared.states.Instance.{Instance}
use Rattle.uz_search.specs.declared.found.Found.{Found}
use Rattle.uz_search.specs.declared.program.Program.{Program}
use Rattle.uz_search.specs.Fitting.{ProgramFits}
use Rattle.uz_search.specs.Following.{Among, Flash}
use Rattle.uz_search.specs.Searching.{IsEnded}
use Rattle.uz_search.specs.Widened.{widened}
use Rattle.uz_rules.specs.Inside.{inside}

-- it holds of each element
abbrev pub Each : {A : Type 0} → (A → Type 0) → List A → Type 0
Each P xs = (i : ℕ) (x : _) → slice_get xs i ≡ Some x → P x

-- interrupted values are known in handlers alone
abbrev pub OldFits : Kind → Val → Type 0
OldFits kind (Range e) = ⊤
OldFits kind (Old r) = (kind ≡ Handler) × (r < 32)
OldFits kind OldFlags = kind ≡ Handler

-- every number of 16 bits lies in it
abbrev pub IsOpen : Ends → Type 0
IsOpen e = (e.lo ≡ 0) × (65535 ≤ e.hi)

-- the registers that a comparison names are there, and what it takes away is a byte, or a number of 16 bits
abbrev pub ComparedIsThere : Compared → Type 0
ComparedIsThere Nothing = ⊤
ComparedIsThere (Byte d source) = (d < 32) × AgainstFits source
ComparedIsThere (Pair d low high) = (d < 31) × AgainstFits low × (high < 32)
ComparedIsThere (Result d k old) = (d < 32) × (k ≤ 255)
ComparedIsThere (PairResult d k old) = (d < 31) × (k ≤ 65535)
ComparedIsThere (Value d) = d < 32

-- by the rules of version 2, and outside main, nothing is known of comparisons
abbrev pub ComparedKnown : RuleVersion → Kind → Compared → Type 0
ComparedKnown Two kind c = c ≡ Nothing
ComparedKnown Three Main c = ComparedIsThere c
ComparedKnown Three Handler c = c ≡ Nothing
ComparedKnown Three Alone c = c ≡ Nothing

pub record IsWithinLimits (p : Program) (x : Instance) : Type 0 where
  pub pc : x.pc < 32768
  pub register_count : length x.regs ≡ 32
  pub registers : Each (OldFits x.kind) x.regs
  pub pair_count : length x.pairs ≡ 3
  -- of a pair of which nothing is known nothing is known of its bytes
  pub hulls : (k : ℕ) → k < 3 → slice_get x.pairs k ≡ Some whole_pair → IsOpen (hull_at x.regs (26 + 2 * k))
  pub flag_count : length x.flags ≡ 7
  pub flags : Each (BitFits x.kind) x.flags
  pub compared : ComparedKnown p.head.version x.kind x.compared
  pub slots : length x.stack.items ≤ depth_of p.head x.kind
  pub stack : Each (OldFits x.kind) x.stack.items
  -- a range for each cell that its kind tracks, within the header's
  pub cells : spans_fit (tracked p.head x.kind) x.cells.items ≡ true

-- where the starts are within the limits each instance is
abbrev pub EndedWithinLimits : Type 0
EndedWithinLimits = (image : Flash) (p : Program) (found : Found) (x : Instance) → ProgramFits p
    → ((s : Instance) → Among p.starts s → IsWithinLimits p s)
    → IsEnded image p found → Among found.nodes.keys x → IsWithinLimits p x

-- an instance lies in what widening makes of it
abbrev pub LiesInWidened : Type 0
LiesInWidened = (p : Program) (x : Instance) → inside x (widened p x) ≡ true
