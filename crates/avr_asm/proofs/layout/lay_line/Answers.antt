use Rattle.std.proofs.Common.{subst}
use Rattle.avr_text.specs.Faults.{Gives}
use Rattle.avr_asm.proofs.LayoutLemmas.{after_told}
use Rattle.avr_asm.proofs.layout.lay_line.Goals as goal

pub returns-clause-place : goal.returns-clause-place
returns-clause-place c =
    subst (Gives (λ x. c.apply.new.place) c.apply.result)
    (after_told c.args.follows c.args.line.now c.args.place.now _ _ _ _ _ c.in_ok-tokens.ensures.tokens c.as_slice-tokens.ensures.value
    c.in_ok-effect.ensures.effect c.label_of.ensures c.first_argument.ensures) c.apply.ensures.place
