use Rattle.std.proofs.Common.{◌≡◌, ◌∙◌, not, sym, ap, get_or, ◌==◌, ◌&&◌}
use Rattle.avr_macro.proofs.TextLines.{byte_put}
use Rattle.avr_macro.proofs.arguments.with_number.Goals.{then-not-named, else-not-named}
use Rattle.avr_macro.proofs.arguments.with_number.Goals as goal

pub loop-byte-preserved : goal.loop-byte-preserved
loop-byte-preserved c = λ call is.
    let test = get_or c.args.text.now c.loop-byte.byte-index 0 == 64 in
    let then : c.if-not-named.named ≡ (not c.loop-byte.named && test) = elim c.if-not-named.branch [
      | then-not-named w ↦ w.named-is ∙ sym (ap (λ t. not t && test) w.if-not-named.true)
      | else-not-named w ↦ w.named-is ∙ ap not w.if-not-named.false ∙ sym (ap (λ t. not t && test) w.if-not-named.false)
    ] in
    byte_put _ _ _ _ _ _ _ _ c.loop-byte-test.true (c.in_ok-put_byte.ensures call is) then ∙ c.loop-byte.invariant call is
