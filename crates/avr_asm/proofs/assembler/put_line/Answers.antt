use Rattle.std.proofs.Common.{length, map, sym, ◌∙◌, ap, subst}
use Rattle.avr_text.specs.Faults.{Gives}
use Rattle.avr_text.specs.Operands.{AllLie, EachLies}
use Rattle.avr_asm.specs.Assembly.{seen_built}
use Rattle.avr_asm.proofs.AssemblyLemmas.{line_told}
use Rattle.avr_asm.proofs.assembler.put_line.Goals as goal

pub body_of-body-requires : goal.body_of-body-requires
body_of-body-requires c =
    subst (AllLie (length c.args.line.now.text.now)) (sym c.as_slice-tokens.ensures.value) c.in_ok-tokens.ensures.lie

pub put_action-requires-clause-lie : goal.put_action-requires-clause-lie
put_action-requires-clause-lie c =
    subst (EachLies (length c.args.line.now.text.now)) (sym c.as_slice.ensures.value) c.in_ok-parts.ensures.lie

pub returns : goal.returns
returns c =
    subst (Gives (λ x. seen_built c.put_action.new.built) c.put_action.result) (line_told _ _ _ _ _ _ _ _ _ _ _ _
    c.in_ok-tokens.ensures.tokens c.as_slice-tokens.ensures.value c.body_of-body.ensures.body c.action_of-action.ensures
    c.arguments_of-arguments.ensures.arguments (ap (map (λ p. p.now)) c.as_slice.ensures.value ∙ c.in_ok-parts.ensures.parts))
    c.put_action.ensures
