use Rattle.avr_asm.proofs.DecodedItems.{decoded_built, in_flash_built}
use Rattle.avr_asm.proofs.FirstFaults.{first_built, faulty_built}
use Rattle.avr_asm.proofs.ExactAssembly.{complete_built}
use Rattle.avr_asm.proofs.Statements.{relation_built}
use Rattle.avr_asm.proofs.assembler.assemble.Goals as goal

pub returns-clause-decodes : goal.returns-clause-decodes
returns-clause-decodes c = decoded_built c.args.text.now c.assemble_lines.result c.assemble_lines.ensures.built
    c.assemble_lines.ensures.flash

pub returns-clause-in_flash : goal.returns-clause-in_flash
returns-clause-in_flash c = in_flash_built c.args.text.now c.assemble_lines.result c.assemble_lines.ensures.built
    c.assemble_lines.ensures.flash

pub returns-clause-relation : goal.returns-clause-relation
returns-clause-relation c = relation_built c.value_is_kept.ensures c.name_gives_word_count.ensures c.args.text.now c.assemble_lines.result
    c.assemble_lines.ensures.built

pub returns-clause-complete : goal.returns-clause-complete
returns-clause-complete c = complete_built c.name_gives_word_count.ensures c.args.text.now c.assemble_lines.result
    c.assemble_lines.ensures.built

pub returns-clause-first : goal.returns-clause-first
returns-clause-first c = first_built c.name_gives_word_count.ensures c.args.text.now c.assemble_lines.result c.assemble_lines.ensures.built

pub returns-clause-faulty : goal.returns-clause-faulty
returns-clause-faulty c = faulty_built c.name_gives_word_count.ensures c.args.text.now c.assemble_lines.result
    c.assemble_lines.ensures.built
