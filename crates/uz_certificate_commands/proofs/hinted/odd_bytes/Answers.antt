use Rattle.std.proofs.Common.{◌∙◌, sym, subst, arith}
use Rattle.uz_certificate_commands.proofs.HintedBytes.{AreOddBelow, odd_kept, odd_set, odd_start, odd_told, odd_whole}
use Rattle.uz_certificate_commands.proofs.hinted.odd_bytes.Goals.{in-Some, in_default}
use Rattle.uz_certificate_commands.proofs.hinted.odd_bytes.Goals as goal

pub loop-at-init : goal.loop-at-init
loop-at-init c = odd_start c.args.placed.now c.args.image.now c.in_ok-odd.odd c.in_ok-odd.ensures

pub loop-at-preserved : goal.loop-at-preserved
loop-at-preserved c = elim c.match-odd_byte.branch [
  | in-Some w ↦ odd_set c.args.placed.now c.args.image.now c.loop-at.odd c.match-odd_byte.odd c.loop-at.at w.in-Some.byte c.loop-at.invariant
      (odd_told c.args.placed.now c.args.image.now c.loop-at.at c.byte.result c.byte-in-loop-at.result c.odd_byte.result _ c.byte.ensures
      c.byte-in-loop-at.ensures c.odd_byte.ensures w.in-Some.is) (w.odd-is ∙ w.set.ensures)
  | in_default w ↦ odd_kept c.args.placed.now c.args.image.now c.match-odd_byte.odd c.loop-at.at
      (subst (λ odd. AreOddBelow c.loop-at.at c.args.placed.now c.args.image.now odd) (sym w.odd-is) c.loop-at.invariant)
      (odd_told c.args.placed.now c.args.image.now c.loop-at.at c.byte.result c.byte-in-loop-at.result c.odd_byte.result _ c.byte.ensures
      c.byte-in-loop-at.ensures c.odd_byte.ensures w.in_default.is)
]

pub returns : goal.returns
returns c = odd_whole c.args.placed.now c.args.image.now c.loop-at.odd c.loop-at.at c.is_flash.ensures (omega arith) c.loop-at.invariant
