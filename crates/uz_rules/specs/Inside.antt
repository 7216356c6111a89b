-- When one instance lies in another, and when a handler has restored what it interrupted.
use Rattle.std.proofs.Common.{refl}
use Rattle.std.specs.List.{AllByRecursion}
use Rattle.std.specs.Prelude.{Bool, List, false, length, nat_eq, not, suc, true, zero, ℕ, ◌&&◌, ◌||◌, ◌≡◌, ◌%◌}
use Rattle.uz_schedule.specs.declared.facts.Bit.{Bit}
use Rattle.uz_schedule.specs.declared.facts.Bit.TheVariants.{Free, Old as OldBit, One, Zero}
use Rattle.uz_schedule.specs.contracts.facts.ComparedPartialEq as comparisons
use Rattle.uz_schedule.specs.declared.facts.Compared.{Compared}
use Rattle.uz_schedule.specs.declared.facts.Compared.TheVariants.{Nothing}
use Rattle.uz_schedule.specs.declared.facts.Val.{Val}
use Rattle.uz_schedule.specs.declared.facts.Val.TheVariants.{Old, OldFlags, Range}
use Rattle.uz_schedule.specs.declared.header.Head.{Head}
use Rattle.uz_schedule.specs.declared.kinds.Kind.{Kind}
use Rattle.uz_schedule.specs.declared.kinds.Kind.TheVariants.{Alone, Handler, Main}
use Rattle.uz_schedule.specs.declared.states.Instance.{Instance}
use Rattle.uz_core.specs.Core.{Core}
use Rattle.uz_core.specs.CoreRange.{IsByte, IsCore}
use Rattle.uz_range.specs.Answers.{ends}
use Rattle.uz_transfer.specs.Values.{value_at, flag_at, pair_at, span_at}
use Rattle.uz_transfer.specs.Refusals.{range_inside}
use Rattle.uz_rules.specs.CoreMeets.{CoreMeets}
use Rattle.uz_rules.specs.MemoryMeets.{MemoryMeets}
use Rattle.uz_rules.specs.Meets.{LevelMeets, Meets}
use Rattle.uz_core.specs.PadLine.{PadHistory}
use Rattle.uz_core.specs.Turn.{State, sync_level}
use Rattle.uz_core.specs.StateRange.{IsState}
use Rattle.uz_schedule.specs.Ends.{Ends}
use Rattle.uz_transfer.specs.Memory.{is_old}

-- an interrupted value lies in 0..255, and in itself
abbrev pub value_inside : Val → Val → Bool
value_inside (Range a) (Range b) = range_inside a b
value_inside (Old r) (Range b) = range_inside (ends 0 255) b
value_inside OldFlags (Range b) = range_inside (ends 0 255) b
value_inside (Old r) (Old s) = nat_eq r s
value_inside OldFlags OldFlags = true
value_inside a b = false

abbrev pub flag_inside : Bit → Bit → Bool
flag_inside a Free = true
flag_inside Zero Zero = true
flag_inside One One = true
flag_inside OldBit OldBit = true
flag_inside a b = false

-- a test holds of each number below a bound
unfoldable pub all_below : ℕ → (ℕ → Bool) → Bool
all_below zero test = true
all_below (suc n) test = all_below n test && test n

abbrev pub same_kind : Kind → Kind → Bool
same_kind Main Main = true
same_kind Handler Handler = true
same_kind Alone Alone = true
same_kind a b = false

abbrev pub same_bool : Bool → Bool → Bool
same_bool true b = b
same_bool false b = not b

-- what is known of the timer besides its clock and TEMP is one: whether a match is pending, and OCR1A
abbrev pub same_timer : Instance → Instance → Bool
same_timer a b = same_bool a.pending b.pending && nat_eq a.top b.top

-- two instances stand at one place: kind, pc, line and clock are one, and what is known of the timer
abbrev pub same_place : Instance → Instance → Bool
same_place a b =
    same_kind a.kind b.kind && (nat_eq a.pc b.pc && (nat_eq a.line b.line && (nat_eq a.clock b.clock && same_timer a b)))

abbrev pub tells_nothing : Compared → Bool
tells_nothing Nothing = true
tells_nothing c = false

abbrev pub registers_inside : List Val → List Val → Bool
registers_inside a b = all_below 32 (λ r. value_inside (value_at a r) (value_at b r))

abbrev pub pairs_inside : List Ends → List Ends → Bool
pairs_inside a b = all_below 3 (λ k. range_inside (pair_at a k) (pair_at b k))

abbrev pub flags_inside : List Bit → List Bit → Bool
flags_inside a b = all_below 7 (λ k. flag_inside (flag_at a k) (flag_at b k))

abbrev pub slots_inside : List Val → List Val → Bool
slots_inside a b = nat_eq (length a) (length b) && all_below (length a) (λ i. value_inside (value_at a i) (value_at b i))

abbrev pub cells_inside : List Ends → List Ends → Bool
cells_inside a b = nat_eq (length a) (length b) && all_below (length a) (λ j. range_inside (span_at a j) (span_at b j))

-- nothing is known in b of the last comparison, or the same as in a
abbrev pub compared_inside : Compared → Compared → Bool
compared_inside a b = tells_nothing b || (comparisons.TheImpl.eq-value).it a b

-- what is known in a of the stack's bytes, the cells, flags, the last comparison, pairs and registers lies in what is known of them in b
abbrev pub contents_inside : Instance → Instance → Bool
contents_inside a b =
    slots_inside a.stack.items b.stack.items
    && (cells_inside a.cells.items b.cells.items
    && (flags_inside a.flags b.flags
    && (compared_inside a.compared b.compared && (pairs_inside a.pairs b.pairs && registers_inside a.regs b.regs))))

-- and so does what is known of TEMP
abbrev pub known_inside : Instance → Instance → Bool
known_inside a b = range_inside a.temp b.temp && contents_inside a b

-- instance a lies in b: they stand at one place, and what is known in a lies in what is known in b. Levels aren't compared
abbrev pub inside : Instance → Instance → Bool
inside a b = same_place a b && known_inside a b

-- what the test of places tells
pub record SamePlace (a b : Instance) : Type 0 where
  pub kind : a.kind ≡ b.kind
  pub pc : a.pc ≡ b.pc
  pub line : a.line ≡ b.line
  pub clock : a.clock ≡ b.clock
  pub pending : a.pending ≡ b.pending
  pub top : a.top ≡ b.top

-- each stands at its own place
pub place_of_itself : (a : Instance) → SamePlace a a
place_of_itself a = record { kind = refl; pc = refl; line = refl; clock = refl; pending = refl; top = refl }

abbrev pub PlaceTells : Type 0
PlaceTells = (a b : Instance) → same_place a b ≡ true → SamePlace a b

abbrev pub PlaceHolds : Type 0
PlaceHolds = (a b : Instance) → SamePlace a b → same_place a b ≡ true

-- what is known lies in itself
abbrev pub KnownInItself : Type 0
KnownInItself = (a : Instance) → known_inside a a ≡ true

-- a core and the bytes of a data space that meet an instance meet each in which it lies
abbrev pub InsideKeeps : Type 0
InsideKeeps =
    (head : Head) (a b : Instance) (o core : Core) (d sp : ℕ) (bytes : List ℕ) → IsCore core → AllByRecursion IsByte bytes
    → inside a b ≡ true
    → CoreMeets a o core → MemoryMeets head a o d sp bytes → CoreMeets b o core × MemoryMeets head b o d sp bytes

-- and so does a state, where its level is that instance's: levels aren't compared
abbrev pub StateInside : Type 0
StateInside =
    (head : Head) (a b : Instance) (o : Core) (d : ℕ) (s : State PadHistory) → IsState s → inside a b ≡ true
    → LevelMeets b.kind b.level (sync_level s.space) → Meets head a o d s → Meets head b o d s

-- What a handler restores

abbrev pub is_old_register : ℕ → Val → Bool
is_old_register r (Range e) = false
is_old_register r (Old q) = nat_eq r q
is_old_register r OldFlags = false

-- each register holds its interrupted value, the flags are the interrupted ones, nothing is left on the stack, and no match is pending
abbrev pub restored : Instance → Bool
restored inst =
    nat_eq (length inst.stack.items) 0
    && (not inst.pending && (all_below 7 (λ k. is_old (flag_at inst.flags k)) && all_below 32
    (λ r. is_old_register r (value_at inst.regs r))))

-- a core that meets a restored instance has the interrupted registers and flags
abbrev pub RestoredGives : Type 0
RestoredGives =
    (inst : Instance) (o core : Core) → IsCore core → IsCore o → restored inst ≡ true → CoreMeets inst o core
    → (core.registers ≡ o.registers) × (core.sreg % 128 ≡ o.sreg % 128)
