use Rattle.std.proofs.Common.{◌∙◌, ap, map}
use Rattle.avr_asm.proofs.LineLemmas.{each_short, few_lines}
use Rattle.avr_asm.proofs.source_maps.source_map.Goals as goal

pub labels_of-requires-clause-few : goal.labels_of-requires-clause-few
labels_of-requires-clause-few c = few_lines _ _ c.requires (ap (map (λ l. l.now)) c.as_slice-lines.ensures.value ∙ c.in_ok-lines.ensures)

pub labels_of-requires-clause-short : goal.labels_of-requires-clause-short
labels_of-requires-clause-short c = each_short _ _ c.requires (ap (map (λ l. l.now)) c.as_slice-lines.ensures.value ∙ c.in_ok-lines.ensures)

pub hint_lines_of-requires-clause-few : goal.hint_lines_of-requires-clause-few
hint_lines_of-requires-clause-few c =
    few_lines _ _ c.requires (ap (map (λ l. l.now)) c.as_slice-lines.ensures.value ∙ c.in_ok-lines.ensures)

pub hint_lines_of-requires-clause-short : goal.hint_lines_of-requires-clause-short
hint_lines_of-requires-clause-short c =
    each_short _ _ c.requires (ap (map (λ l. l.now)) c.as_slice-lines.ensures.value ∙ c.in_ok-lines.ensures)
