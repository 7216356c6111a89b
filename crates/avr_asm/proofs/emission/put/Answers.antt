use Rattle.std.proofs.Common.{sym, ◌∙◌, ap, arith, is_some}
use Rattle.avr_asm.proofs.EmissionLemmas.{put_more, put_past, put_taken}
use Rattle.avr_asm.proofs.emission.put.Goals as goal

pub returns-then-at-ge65536 : goal.returns-then-at-ge65536
returns-then-at-ge65536 c = sym c.loop-byte.invariant.left ∙ put_past _ _ _ _ c.loop-byte-test.true c.if-at-ge65536.true

pub returns-then-is_some : goal.returns-then-is_some
returns-then-is_some c =
    sym c.loop-byte.invariant.left ∙ put_taken _ _ _ _ c.loop-byte-test.true (omega arith)
    (ap is_some (sym c.byte.ensures) ∙ sym c.is_some.ensures ∙ c.if-is_some.true)

pub loop-byte-preserved : goal.loop-byte-preserved
loop-byte-preserved c = record {
  within = omega arith;
  left =
      put_more _ _ _ _ _ c.loop-byte-test.true (omega arith)
      (ap is_some (sym c.byte.ensures) ∙ sym c.is_some.ensures ∙ c.if-is_some.false) c.set.ensures ∙ c.loop-byte.invariant.left;
}
