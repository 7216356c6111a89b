-- An instance of a point that is moved to another line and count: what depends on neither stays, and the rest is put anew.
use Rattle.std.specs.Prelude.{◌≡◌, ℕ, suc, ◌+◌, Bool, true, false, ◌&&◌, List, [], ◌∷◌, length, slice_index_or, slice_set, if◌then◌else◌}
use Rattle.std.specs.Prelude.{Option, Some, None, option_and_then}
use Rattle.uz_schedule.specs.Ends.{Ends}
use Rattle.uz_schedule.specs.declared.facts.Fact.{Fact}
use Rattle.uz_schedule.specs.declared.facts.Fact.TheVariants.{Any, Between, Line, Loop, Old as OldFact, OldFlags as OldFlagsFact}
use Rattle.uz_schedule.specs.declared.facts.PairFact.{PairFact}
use Rattle.uz_schedule.specs.declared.facts.PairFact.TheVariants.{Any as AnyPair, Between as BetweenPair, Line as LinePair}
use Rattle.uz_schedule.specs.declared.facts.PairFact.TheVariants.{Loop as LoopPair}
use Rattle.uz_schedule.specs.declared.states.Instance.{Instance}
use Rattle.uz_schedule.specs.declared.states.Point.{Point}
use Rattle.uz_schedule.specs.declared.lines.Schedule.{Schedule}
use Rattle.uz_schedule.specs.Schedule.{start_of, level_at}
use Rattle.uz_schedule.specs.Instances.{val_of, cell_span, pair_of, instance_of, is_in_box, clock_at}
use Rattle.uz_rules.specs.declared.varying.Varying.{Varying}

-- Which facts say the same at each line and count

abbrev pub is_steady : Fact → Bool
is_steady Any = true
is_steady (Between e) = true
is_steady (Line a b) = false
is_steady (Loop a b) = false
is_steady (OldFact r) = true
is_steady OldFlagsFact = true

-- what the fact says at a place; any byte past the last one
abbrev pub fact_at : List Fact → ℕ → Fact
fact_at facts i = slice_index_or facts i Any

abbrev pub pair_fact_at : List PairFact → ℕ → PairFact
pair_fact_at facts k = slice_index_or facts k AnyPair

-- a pair of which nothing else is said is as its bytes are
abbrev pub is_steady_pair : List Fact → ℕ → PairFact → Bool
is_steady_pair regs r AnyPair = is_steady (fact_at regs r) && is_steady (fact_at regs (r + 1))
is_steady_pair regs r (BetweenPair e) = true
is_steady_pair regs r (LinePair a b) = false
is_steady_pair regs r (LoopPair a b) = false

-- the places of those that don't, of facts whose first stands at place k
unfoldable pub varying_from : ℕ → List Fact → List ℕ
varying_from k [] = []
varying_from k (f ∷ facts) = if is_steady f then varying_from (suc k) facts else k ∷ varying_from (suc k) facts

-- the places of a point's facts that don't
pub record IsVarying (p : Point) (varying : Varying) : Type 0 where
  pub register_count : length p.regs ≡ 32
  pub registers : varying.registers.items ≡ varying_from 0 p.regs
  pub stack : varying.stack.items ≡ varying_from 0 p.stack.items
  pub cells : varying.cells.items ≡ varying_from 0 p.cells.items
  pub x : varying.x ≡ is_steady_pair p.regs 26 (pair_fact_at p.pairs 0)
  pub y : varying.y ≡ is_steady_pair p.regs 28 (pair_fact_at p.pairs 1)
  pub z : varying.z ≡ is_steady_pair p.regs 30 (pair_fact_at p.pairs 2)

-- Moving

-- what facts say anew, at these places of a list
unfoldable pub put_facts : {A : Type 0} → (Fact → A) → List Fact → List ℕ → List A → List A
put_facts says facts [] xs = xs
put_facts says facts (i ∷ places) xs = put_facts says facts places (slice_set xs i (says (fact_at facts i)))

abbrev pub with_registers : Point → ℕ → ℕ → List ℕ → Instance → Instance
with_registers p l c places inst = record inst { regs = put_facts (val_of l c) p.regs places inst.regs }

abbrev pub with_stack : Point → ℕ → ℕ → List ℕ → Instance → Instance
with_stack p l c places inst = record inst { stack = record { items = put_facts (val_of l c) p.stack.items places inst.stack.items } }

abbrev pub with_cells : Point → ℕ → ℕ → List ℕ → Instance → Instance
with_cells p l c places inst = record inst { cells = record { items = put_facts (cell_span l c) p.cells.items places inst.cells.items } }

-- one of the pairs, but where it is the same at each line and count
abbrev pub put_pair : Bool → ℕ → Ends → List Ends → List Ends
put_pair steady k new pairs = if steady then pairs else slice_set pairs k new

-- pair k, whose low register is r, by the registers
abbrev pub with_pair : Point → ℕ → ℕ → Bool → ℕ → ℕ → Instance → Instance
with_pair p l c steady k r inst =
    record inst { pairs = put_pair steady k (pair_of l c inst.regs r (pair_fact_at p.pairs k)) inst.pairs }

abbrev pub with_pairs : Point → ℕ → ℕ → Varying → Instance → Instance
with_pairs p l c varying inst =
    with_pair p l c varying.z 2 30 (with_pair p l c varying.y 1 28 (with_pair p l c varying.x 0 26 inst))

-- an instance of the point at line l and count c, made of one at any line and count
abbrev pub moved : Point → Varying → ℕ → ℕ → ℕ → ℕ → Instance → Instance
moved p varying l c clock level inst =
    with_pairs p l c varying (with_cells p l c varying.cells.items (with_stack p l c varying.stack.items
    (with_registers p l c varying.registers.items (record inst { line = l; clock = clock; level = level }))))

-- the clock of a point at line l and count c of its box, and the schedule's level there
abbrev pub place_at_clock : Schedule → ℕ → ℕ → Option (ℕ × ℕ)
place_at_clock s l clock = option_and_then (λ level. Some (clock, level)) (level_at s (start_of s l + clock))

abbrev pub place_in : Schedule → Point → ℕ → ℕ → Option (ℕ × ℕ)
place_in s p l c = if is_in_box p l c then option_and_then (place_at_clock s l) (clock_at s p l c) else None

-- an instance is what the point says at some line and count, with some clock and level
pub record IsOfPoint (p : Point) (inst : Instance) : Type 0 where
  pub line : ℕ
  pub count : ℕ
  pub clock : ℕ
  pub level : ℕ
  pub is : inst ≡ instance_of p line count clock level
