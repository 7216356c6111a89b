use Rattle.std.proofs.Common.{◌≡◌, ◌≢◌, ◌*◌, ◌^◌, ◌%◌, ℕ, arith, sym, ap, subst, ◌∙◌}
use Rattle.std.specs.Prelude.{bit_or}
use Rattle.std.specs.Int.{bit_at}
use Rattle.std.proofs.lemmas.Nat.Bits.{shr_and_one}
use Rattle.avr_decode.proofs.GatheredLemmas.{shifted-exact}
use Rattle.avr_decode.proofs.ScatteredLemmas.{Spread, spread_init, spread_set, spread_clear, spread_end}
use Rattle.avr_decode.proofs.encoder.scatter.Goals as goal
use Rattle.avr_decode.proofs.encoder.scatter.Goals.{then-mask-i-eq1, else-mask-i-eq1}

pub loop-i-init : goal.loop-i-init
loop-i-init c = spread_init c.args.mask c.args.base c.args.x c.requires.free

same_spread : (i mask base x n n' r r' : ℕ) → n ≡ n' → r ≡ r' → Spread i mask base x n r → Spread i mask base x n' r'
same_spread i mask base x n n' r r' e f h = rw (sym e, sym f) h

pub loop-i-preserved : goal.loop-i-preserved
loop-i-preserved c = elim c.if-mask-i-eq1.branch [
  | then-mask-i-eq1 w ↦
      let b : bit_at c.args.mask c.loop-i.i ≡ 1 = sym (shr_and_one c.args.mask c.loop-i.i) ∙ w.if-mask-i-eq1.true in
      let e : c.loop-i.rest % 2 * 2 ^ c.loop-i.i % 4294967296 ≡ c.loop-i.rest % 2 * 2 ^ c.loop-i.i = shifted-exact (c.loop-i.rest % 2)
      c.loop-i.i (omega arith) (omega arith) in
      same_spread _ _ _ _ _ _ _ _ (sym (w.number-is ∙ ap (bit_or c.loop-i.number) e)) (sym w.rest-is)
      (spread_set c.loop-i.i c.args.mask c.args.base c.args.x c.loop-i.number c.loop-i.rest b c.loop-i.invariant)
  | else-mask-i-eq1 w ↦
      let b : bit_at c.args.mask c.loop-i.i ≢ 1 = λ h. w.if-mask-i-eq1.false (shr_and_one c.args.mask c.loop-i.i ∙ h) in
      same_spread _ _ _ _ _ _ _ _ (sym w.number-is) (sym w.rest-is)
      (spread_clear c.loop-i.i c.args.mask c.args.base c.args.x c.loop-i.number c.loop-i.rest b c.loop-i.invariant)
]

pub returns-clause-own : goal.returns-clause-own
returns-clause-own c =
    let e : c.loop-i.i ≡ 32 = omega arith in
    spread_end c.args.mask c.args.base c.args.x c.loop-i.number c.loop-i.rest c.requires.fits
    (subst (λ k. Spread k c.args.mask c.args.base c.args.x c.loop-i.number c.loop-i.rest) e c.loop-i.invariant)

pub returns-clause-others : goal.returns-clause-others
returns-clause-others c = c.loop-i.invariant.others
