-- Whether an instance shows something at a position: its results decide it.
use Rattle.uz_search.proofs.Common.{◌≡◌, ◌≢◌, ℕ, Bool, Option, Result, Ok, Err, sym, subst, IsTrue, ◌↔◌, Main, EventKind, Instance, Fail}
use Rattle.uz_search.proofs.Common.{Next, Program, Flash, After, Shows, most_clocks}
use Rattle.uz_search.specs.Following.{Passing}
use Rattle.uz_search.proofs.OneResult.{one_next, one_result}

module _ (image : Flash) (p : Program) (x : Instance) (y : ℕ) (e : Option EventKind) where
  pub shows_with : (next : Next) (passes : Bool) (most : ℕ) → After image p x (Ok next) → x.kind ≢ Main
      → most ≡ most_clocks p x next.out.items → IsTrue passes ↔ Passing p x most next.emit y e → IsTrue passes ↔ Shows image p x y e
  shows_with next passes most after apart is both = (
    λ t. (next, after, apart, subst (λ n. Passing p x n next.emit y e) is (both.0 t)),
    λ shows. both.1 (subst (λ n. Passing p x n next.emit y e) (sym is)
        (subst (λ (n : Next). Passing p x (most_clocks p x n.out.items) n.emit y e)
        (one_next image p x shows.0 next shows.1 after) shows.3)),
  )

  pub shows_nothing : (why : Fail) → After image p x (Err why) → Shows image p x y e → ⊥
  shows_nothing why after shows =
      let one : ◌≡◌ {A = Result Next Fail} (Ok shows.0) (Err why) = one_result image p x (Ok shows.0) (Err why) shows.1 after in cc
