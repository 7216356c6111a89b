use Rattle.std.proofs.Common.{◌∙◌, ap, map}
use Rattle.avr_asm.proofs.LineLemmas.{each_short, few_lines}
use Rattle.avr_asm.proofs.assembler.assemble_over.Goals as goal

pub lay_out-requires-clause-few : goal.lay_out-requires-clause-few
lay_out-requires-clause-few c = few_lines _ _ c.requires (ap (map (λ l. l.now)) c.as_slice-lines.ensures.value ∙ c.in_ok-lines.ensures)

pub put_lines-requires-clause-few : goal.put_lines-requires-clause-few
put_lines-requires-clause-few c = few_lines _ _ c.requires (ap (map (λ l. l.now)) c.as_slice-lines.ensures.value ∙ c.in_ok-lines.ensures)

pub lay_out-requires-clause-short : goal.lay_out-requires-clause-short
lay_out-requires-clause-short c = each_short _ _ c.requires (ap (map (λ l. l.now)) c.as_slice-lines.ensures.value ∙ c.in_ok-lines.ensures)

pub put_lines-requires-clause-short : goal.put_lines-requires-clause-short
put_lines-requires-clause-short c = each_short _ _ c.requires (ap (map (λ l. l.now)) c.as_slice-lines.ensures.value ∙ c.in_ok-lines.ensures)
