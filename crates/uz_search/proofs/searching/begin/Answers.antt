use Rattle.uz_search.proofs.Common.{◌∙◌, ap, replicate, None, Unpassed, line_start}
use Rattle.uz_search.proofs.StepLemmas.{begun}
use Rattle.uz_search.proofs.searching.begin.Goals as goal

pub returns : goal.returns
returns c =
    begun c.args.program.now c.started.result c.in_ok-starts.starts.items c.in_ok-marks.marks.items c.in_ok-returns.returns.items
    c.started.ensures (c.in_ok-starts.ensures ∙ c.as_slice.ensures)
    (c.in_ok-marks.ensures ∙ ap (λ n. replicate n Unpassed) (c.line_start.ensures.value ∙ ap line_start c.lines-lines.ensures))
    (c.in_ok-returns.ensures ∙ ap (λ n. replicate n None) (c.from.ensures ∙ c.lines-lines.ensures))
