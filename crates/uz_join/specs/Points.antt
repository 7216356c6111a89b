-- The point that says what an instance says, and the point of a handler's first states.
use Rattle.std.specs.Prelude.{◌≡◌, ⊤, ℕ, zero, suc, ◌-◌, ◌&&◌, nat_eq, nat_lt, pos, Bool, false, List, [], ◌∷◌, Some, map, slice_get}
use Rattle.std.specs.Prelude.{None, slice_index_or, replicate, if◌then◌else◌}
use Rattle.uz_schedule.specs.Ends.{Ends, whole_byte, whole_pair}
use Rattle.uz_schedule.specs.Instances.{hull_at}
use Rattle.uz_schedule.specs.Lines.{Lines}
use Rattle.uz_schedule.specs.WellFormed.{is_carry_and_zero_default, RangeFits}
use Rattle.uz_schedule.specs.declared.facts.Compared.{Compared}
use Rattle.uz_schedule.specs.declared.facts.Compared.TheVariants.{Byte, Nothing, Pair, PairResult, Result, Value}
use Rattle.uz_schedule.specs.declared.facts.Fact.{Fact}
use Rattle.uz_schedule.specs.declared.facts.Fact.TheVariants.{Any, Between, Old as OldFact, OldFlags as OldFlagsFact}
use Rattle.uz_schedule.specs.declared.facts.PairFact.{PairFact}
use Rattle.uz_schedule.specs.declared.facts.PairFact.TheVariants.{Any as AnyPair, Between as BetweenPair, Loop as LoopPair}
use Rattle.uz_schedule.specs.declared.facts.Val.{Val}
use Rattle.uz_schedule.specs.declared.facts.Val.TheVariants.{Range, Old, OldFlags}
use Rattle.uz_schedule.specs.declared.facts.Bit.{Bit}
use Rattle.uz_schedule.specs.declared.facts.Bit.TheVariants.{Old as OldBit}
use Rattle.uz_schedule.specs.declared.kinds.Kind.{Kind}
use Rattle.uz_schedule.specs.declared.kinds.Kind.TheVariants.{Handler}
use Rattle.uz_schedule.specs.declared.states.Instance.{Instance}
use Rattle.uz_schedule.specs.declared.states.Point.{Point}
use Rattle.uz_schedule.specs.declared.states.Rest.{Rest}

-- Facts

-- a range of bytes; the whole one says nothing
abbrev pub byte_fact : Ends → Fact
byte_fact e = if nat_eq e.lo 0 && nat_eq e.hi 255 then Any else Between e

abbrev pub fact_of : Val → Fact
fact_of (Range e) = byte_fact e
fact_of (Old r) = OldFact r
fact_of OldFlags = OldFlagsFact

abbrev pub same_ends : Ends → Ends → Bool
same_ends a b = nat_eq a.lo b.lo && nat_eq a.hi b.hi

-- In the text `z=0` and `z=1` may mean the flag Z, where it and the flag C are left out. The pair Z that is exactly 0 or 1 is said there by
-- a factor of the count, which is 0
abbrev pub range_fact : Bool → Ends → PairFact
range_fact ambiguous e = if ambiguous && (nat_eq e.lo e.hi && nat_lt e.hi 2) then LoopPair 1 e.lo else BetweenPair e

-- a pair that is what its bytes say needs no fact
abbrev pub pair_fact : Bool → Ends → Ends → PairFact
pair_fact ambiguous hull e = if same_ends e hull then AnyPair else range_fact ambiguous e

abbrev pub pair_facts : Kind → List Val → List Ends → List Bit → List PairFact
pair_facts kind regs pairs flags =
    pair_fact false (hull_at regs 26) (slice_index_or pairs 0 whole_pair)
    ∷ pair_fact false (hull_at regs 28) (slice_index_or pairs 1 whole_pair)
    ∷ pair_fact (is_carry_and_zero_default kind flags) (hull_at regs 30) (slice_index_or pairs 2 whole_pair)
    ∷ []

-- Points

-- at one line and count 0
abbrev pub point_of : Instance → List ℕ → Point
point_of x next = record {
  kind = x.kind;
  pc = x.pc;
  l0 = x.line;
  l1 = x.line;
  c0 = 0;
  c1 = 0;
  clock = x.clock;
  slope = pos 0;
  pending = x.pending;
  top = x.top;
  temp = x.temp;
  regs = map fact_of x.regs;
  pairs = pair_facts x.kind x.regs x.pairs x.flags;
  flags = x.flags;
  compared = x.compared;
  split = None;
  stack = record { items = map fact_of x.stack.items };
  cells = record { items = map byte_fact x.cells.items };
  next = record { items = next };
}

-- the interrupted registers from k on
abbrev pub old_facts : ℕ → ℕ → List Fact
old_facts k zero = []
old_facts k (suc n) = OldFact k ∷ old_facts (suc k) n

-- where the interrupt is taken at the clocks 0 to 3 of a line, so many clocks pass until the handler's first instruction, and the timer
-- came to this OCR1A
abbrev pub vector_point : List Ends → ℕ → ℕ → ℕ → List ℕ → Point
vector_point cells line response top next = record {
  kind = Handler;
  pc = 26;
  l0 = line;
  l1 = line;
  c0 = 0;
  c1 = 3;
  clock = response;
  slope = pos 1;
  pending = false;
  top = top;
  temp = whole_byte;
  regs = old_facts 0 32;
  pairs = AnyPair ∷ AnyPair ∷ AnyPair ∷ [];
  flags = replicate 7 OldBit;
  compared = Nothing;
  split = None;
  stack = record { items = [] };
  cells = record { items = map byte_fact cells };
  next = record { items = next };
}

-- the vector's point of a rest: the timer came to the last clock of the rest's line
abbrev pub vector_after : ℕ → Lines → Rest → List ℕ → Point
vector_after response lines rest next =
    vector_point rest.cells.items (lines.next rest.line) response (lines.length rest.line - 1) next

-- Ranges

-- the ends of a byte's range are in order, and bytes
abbrev pub IsOrderedVal : Val → Type 0
IsOrderedVal (Range e) = RangeFits 255 e
IsOrderedVal (Old r) = ⊤
IsOrderedVal OldFlags = ⊤

abbrev pub AreOrderedVals : List Val → Type 0
AreOrderedVals vals = (i : ℕ) (v : Val) → slice_get vals i ≡ Some v → IsOrderedVal v

-- these are ranges of numbers from 0 to top
abbrev pub AreOrdered : ℕ → List Ends → Type 0
AreOrdered top ranges = (i : ℕ) (e : Ends) → slice_get ranges i ≡ Some e → RangeFits top e

-- of the numbers from which a constant was taken away
abbrev pub IsOrderedCompared : Compared → Type 0
IsOrderedCompared Nothing = ⊤
IsOrderedCompared (Byte d source) = ⊤
IsOrderedCompared (Pair d low high) = ⊤
IsOrderedCompared (Result d k old) = RangeFits 255 old
IsOrderedCompared (PairResult d k old) = RangeFits 65535 old
IsOrderedCompared (Value d) = ⊤

-- all ranges of an instance are in order
pub record IsOrdered (x : Instance) : Type 0 where
  pub registers : AreOrderedVals x.regs
  pub pairs : AreOrdered 65535 x.pairs
  pub stack : AreOrderedVals x.stack.items
  pub cells : AreOrdered 255 x.cells.items
  pub temp : RangeFits 255 x.temp
  pub compared : IsOrderedCompared x.compared
