-- Widening leaves where an instance stands, and all that no fact speaks of.
use Rattle.uz_search.proofs.Common.{◌≡◌, List, [], ◌∷◌, Bool, true, false, refl, ap, ◌∙◌, if◌then◌else◌, Instance, Program, Widening}
use Rattle.uz_search.proofs.Common.{Register, Pair, widened_all, widened_by, loosened, facts_at, widened}

-- two instances that differ in registers and pairs alone
pub record SamePlace (a b : Instance) : Type 0 where
  pub kind : a.kind ≡ b.kind
  pub pc : a.pc ≡ b.pc
  pub line : a.line ≡ b.line
  pub clock : a.clock ≡ b.clock
  pub level : a.level ≡ b.level
  pub pending : a.pending ≡ b.pending
  pub top : a.top ≡ b.top
  pub temp : a.temp ≡ b.temp
  pub flags : a.flags ≡ b.flags
  pub compared : a.compared ≡ b.compared
  pub stack : a.stack ≡ b.stack
  pub cells : a.cells ≡ b.cells

-- registers and pairs alone are others
abbrev pub LeavesRest : Instance → Instance → Type 0
LeavesRest y x = y ≡ record x { regs = y.regs; pairs = y.pairs }

either : (b : Bool) (y x : Instance) → LeavesRest y x → LeavesRest (if b then y else x) x
either true y x h = h
either false y x h = refl

by_one : (fact : Widening) (x : Instance) → LeavesRest (widened_by fact x) x
unfolding widened_by
by_one (Register r range) x = either _ _ x refl
by_one (Pair k range) x = either _ _ x refl

by_all : (facts : List Widening) (x : Instance) → LeavesRest (widened_all facts x) x
by_all [] x = refl
by_all (fact ∷ facts) x = by_all facts (widened_by fact x)
    ∙ ap (λ (z : Instance). record z { regs = (widened_all (fact ∷ facts) x).regs; pairs = (widened_all (fact ∷ facts) x).pairs })
    (by_one fact x)

pub widened_rest : (program : Program) (x : Instance) → LeavesRest (widened program x) x
unfolding widened
widened_rest program x = by_all (facts_at program x.pc) (loosened x)
    ∙ ap (λ (z : Instance). record z { regs = y.regs; pairs = y.pairs }) loose
  where
    y : Instance
    y = widened_all (facts_at program x.pc) (loosened x)

    loose : LeavesRest (loosened x) x
    loose = refl

pub widened_place : (program : Program) (x : Instance) → SamePlace (widened program x) x
widened_place program x = let is = widened_rest program x in record {
  kind = ap (λ (z : Instance). z.kind) is;
  pc = ap (λ (z : Instance). z.pc) is;
  line = ap (λ (z : Instance). z.line) is;
  clock = ap (λ (z : Instance). z.clock) is;
  level = ap (λ (z : Instance). z.level) is;
  pending = ap (λ (z : Instance). z.pending) is;
  top = ap (λ (z : Instance). z.top) is;
  temp = ap (λ (z : Instance). z.temp) is;
  flags = ap (λ (z : Instance). z.flags) is;
  compared = ap (λ (z : Instance). z.compared) is;
  stack = ap (λ (z : Instance). z.stack) is;
  cells = ap (λ (z : Instance). z.cells) is;
}
