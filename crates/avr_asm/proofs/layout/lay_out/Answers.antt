use Rattle.std.proofs.Common.{◌≤◌, ◌+◌, ◌∷◌, [], All, length, ap, refl, sym, ◌∙◌, subst, arith}
use Rattle.std.proofs.lemmas.List.{length-append}
use Rattle.std.proofs.lemmas.List.Elements.{All-nil, All-cons, All-append}
use Rattle.avr_asm.proofs.LayoutLemmas.{told_fault, more_lent, faulty_lent, last_lent}
use Rattle.avr_asm.proofs.layout.lay_out.Goals as goal

pub returns-in-Err-lay_line-clause-layout : goal.returns-in-Err-lay_line-clause-layout
returns-in-Err-lay_line-clause-layout c = told_fault _ _ _ _ _ c.in-Err-lay_line.ensures.place (λ e. sym c.loop-i.invariant.left
    ∙ faulty_lent _ _ _ _ _ _ _ _ c.loop-i-test.true c.in-Ok.ensures refl e) c.in_line.ensures.why c.in_line.ensures.line

pub loop-i-preserved : goal.loop-i-preserved
loop-i-preserved c = record {
  flash = c.in-Ok-lay_line.ensures.flash;
  below = subst (All (λ a. a ≤ 65536)) (sym c.in_ok-push-in-Ok-lay_line.ensures.items)
      (All-append (λ a. a ≤ 65536) c.loop-i.addresses.items (c.loop-i.place.address ∷ []) c.loop-i.invariant.below
      (All-cons (λ a. a ≤ 65536) c.loop-i.place.address [] c.loop-i.invariant.flash (All-nil (λ a. a ≤ 65536))));
  count = omega (
    arith,
    ap length c.in_ok-push-in-Ok-lay_line.ensures.items,
    length-append c.loop-i.addresses.items
        (c.loop-i.place.address ∷ []),
    c.loop-i.invariant.count,
  );
  left =
      more_lent _ _ _ _ _ _ _ _ _
      c.loop-i-test.true c.in-Ok.ensures refl c.in-Ok-lay_line.ensures.place c.in_ok-push-in-Ok-lay_line.ensures.items
      ∙ c.loop-i.invariant.left;
}

pub returns-clause-layout : goal.returns-clause-layout
returns-clause-layout c = sym c.loop-i.invariant.left ∙ last_lent (c.loop-i.i + 1) c.loop-i.i c.loop-i.place c.args.lines.now
    c.loop-i.addresses.items (omega arith)
