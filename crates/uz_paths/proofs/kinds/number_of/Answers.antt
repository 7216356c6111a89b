use Rattle.std.proofs.Common.{◌∙◌, sym, ap, arith}
use Rattle.std.specs.Prelude.{Some, slice_get}
use Rattle.uz_paths.proofs.KindLemmas.{adds_new, adds_old, number_fits}
use Rattle.uz_paths.proofs.kinds.number_of.Goals as goal

pub returns-in_ok-push-in-None-2 : goal.returns-in_ok-push-in-None-2
returns-in_ok-push-in-None-2 c =
    adds_new c.args.kinds.now.items c.push.new.self.items c.args.lengths.now.items c.push-in-None.new.self.items c.args.events c.args.clocks
    c.len-number.result c.requires.sizes
    (λ i at. c.in-None.ensures i (
      ap (λ ks. slice_get ks i) c.as_slice.ensures.value ∙ (at.0 ∙ ap (λ es. Some es) (sym c.as_slice-3.ensures)),
      ap (λ ns. slice_get ns i) c.as_slice-2.ensures.value ∙ at.1,
    )) c.in_ok-push-in-None.ensures.items c.in_ok-push-in-None-2.ensures.items
    (omega (arith, c.len-number.ensures))

pub overflow_cast-result : goal.overflow_cast-result
overflow_cast-result c =
    number_fits c.as_slice.result.now c.args.kinds.now.items c.in-Some.i _ c.as_slice.ensures.value c.requires.few c.in-Some.ensures.0

pub returns-in-Some : goal.returns-in-Some
returns-in-Some c =
    adds_old c.args.kinds.now.items c.args.lengths.now.items c.args.events c.args.clocks c.in-Some.i c.requires.sizes (
      ap (λ ks. slice_get ks c.in-Some.i) (sym c.as_slice.ensures.value) ∙ (c.in-Some.ensures.0 ∙ ap (λ es. Some es) c.as_slice-3.ensures),
      ap (λ ns. slice_get ns c.in-Some.i) (sym c.as_slice-2.ensures.value) ∙ c.in-Some.ensures.1,
    )
