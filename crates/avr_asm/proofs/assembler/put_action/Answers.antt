use Rattle.std.proofs.Common.{map, sym, ◌∙◌, ap, subst}
use Rattle.avr_text.specs.Faults.{Gives, ◌>>=◌}
use Rattle.avr_asm.specs.Assembly.{seen_built, with_action, with_instruction}
use Rattle.avr_asm.proofs.AssemblyLemmas.{no_output}
use Rattle.avr_asm.proofs.assembler.put_action.Goals as goal

pub returns-in_ok-instr-in-Instruction : goal.returns-in_ok-instr-in-Instruction
returns-in_ok-instr-in-Instruction c =
    subst (Gives (λ x. seen_built c.put_instruction.new.built) c.put_instruction.result)
    (ap (λ o. o >>= with_instruction c.args.line.now.number c.args.line.now.address (seen_built c.args.built.now))
    c.in_ok-instr-in-Instruction.ensures.instruction
    ∙ ap (λ a. with_action a c.args.line.now.text.now c.args.symbols.now c.args.line.now.number c.args.line.now.address c.args.line.now.following
    (map (λ p. p.now) c.args.parts.now) (seen_built c.args.built.now)) (sym c.in-Instruction.is))
    c.put_instruction.ensures

pub returns-in-Directive : goal.returns-in-Directive
returns-in-Directive c =
    subst (Gives (λ x. seen_built c.put_directive.new.built) c.put_directive.result)
    (ap (λ a. with_action a c.args.line.now.text.now c.args.symbols.now c.args.line.now.number c.args.line.now.address c.args.line.now.following
    (map (λ p. p.now) c.args.parts.now) (seen_built c.args.built.now)) (sym c.in-Directive.is))
    c.put_directive.ensures

pub returns-in_default : goal.returns-in_default
returns-in_default c = no_output _ _ _ _ _ _ _ _ c.in_default.not-Instruction c.in_default.not-Directive
