use Rattle.std.proofs.Common.{◌≡◌, ◌⊎◌, subst}
use Rattle.avr_asm.specs.FirstFault.{IsFirstFault}
use Rattle.avr_text.specs.declared.errors.AsmWhy.TheVariants.{Memory}
use Rattle.avr_macro.specs.Answers.{names_of}
use Rattle.uz_program_commands.proofs.MacroLemmas.{text_refused}
use Rattle.uz_program_commands.proofs.macro_commands.assemble_flat.Goals as goal

pub returns-in-Ok-fault_of-clause-fails : goal.returns-in-Ok-fault_of-clause-fails
returns-in-Ok-fault_of-clause-fails c =
    text_refused (names_of c.args.source.now.names) c.args.source.now.flat.origins.items c.args.source.now.flat.text.items c.in-Err.error
    c.in-Ok-fault_of.failure
    (subst (λ bytes. (c.in-Err.error.why ≡ Memory) ⊎ IsFirstFault bytes c.in-Err.error.line c.in-Err.error.why) c.as_slice.ensures.value
    c.in-Err.ensures.first)
    c.in-Ok-fault_of.ensures
