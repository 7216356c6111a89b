use Rattle.std.proofs.Common.{ap, sym, ◌∙◌}
use Rattle.uz_search.proofs.SpanLists.{equal_spans, spans_equal}
use Rattle.uz_search.proofs.returns.are_same_cells.Goals as goal

pub returns : goal.returns
returns c =
    let e = c.eq.ensures in (
      λ yes. let same = equal_spans c.args.a.now.items c.args.b.now.items (sym e ∙ yes) in λ i. record { items = same i },
      λ same. e ∙ spans_equal c.args.a.now.items c.args.b.now.items (ap (λ v. v.items) same),
    )
