-- The last exit of an instruction, and what the two ways show.
use Rattle.std.proofs.Common.{◌≡◌, ◌<◌, ◌+◌, ◌∙◌, ℕ, Bool, true, false, List, [], ◌∷◌, ◌++◌, Option, Some, None, refl, ap, sym, drop, get_or, length, map, max, arith}
use Rattle.std.proofs.lemmas.List.{drop_all, drop_more}
use Rattle.avr_table.specs.declared.Outcome.{Outcome}
use Rattle.avr_table.specs.declared.Outcome.TheVariants.{Taken}
use Rattle.uz_core.specs.declared.machine.Effect.TheVariants.{Branch, SkipIf}
use Rattle.uz_core.specs.declared.machine.SkipTest.{SkipTest}
use Rattle.uz_schedule.specs.declared.states.Instance.{Instance}
use Rattle.uz_transfer.specs.Exits.{choices}
use Rattle.uz_transfer.specs.Step.{exits_of}
use Rattle.uz_transfer.specs.declared.step.Exit.{Exit}
use Rattle.uz_explanations.specs.Ways.{most}

-- the clocks of exits
abbrev pub clocks_of_all : List Exit → List ℕ
clocks_of_all = map (λ exit. exit.clocks)

-- a branch and a skip have an exit for each outcome

pub branch_most : (clocks : Outcome → ℕ) (following flag offset : ℕ) (set : Bool) (x : Instance) (d : Option Bool)
    → most (clocks_of_all (exits_of (Branch flag set offset) clocks following x (choices d Taken))) ≡ most (map clocks (choices d Taken))
branch_most clocks following flag offset set x (Some true) = refl
branch_most clocks following flag offset set x (Some false) = refl
branch_most clocks following flag offset set x None = refl

pub skip_most : (clocks : Outcome → ℕ) (following : ℕ) (test : SkipTest) (x : Instance) (d : Option Bool) (over : Outcome)
    → most (clocks_of_all (exits_of (SkipIf test) clocks following x (choices d over))) ≡ most (map clocks (choices d over))
skip_most clocks following test x (Some true) over = refl
skip_most clocks following test x (Some false) over = refl
skip_most clocks following test x None over = refl

-- one more exit

greater_of : (m x rest new all : ℕ) → new ≡ max m x → max m (max x rest) ≡ all → max new rest ≡ all
greater_of m x rest new all is before = omega (arith, is, before)

pub most_next : (exits : List Exit) (i : ℕ) (x : Exit) (old new all : ℕ) → i < length exits → x ≡ get_or exits i x → new ≡ max old x.clocks
    → max old (most (clocks_of_all (drop i exits))) ≡ all → max new (most (clocks_of_all (drop (i + 1) exits))) ≡ all
most_next exits i x old new all below is more before =
    greater_of old x.clocks (most (clocks_of_all (drop (i + 1) exits))) new all more
    (ap (λ l. max old (most (clocks_of_all l))) (sym (drop_more exits i x below ∙ ap (λ y. y ∷ drop (i + 1) exits) (sym is))) ∙ before)
