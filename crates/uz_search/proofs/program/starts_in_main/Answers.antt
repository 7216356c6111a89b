use Rattle.uz_search.proofs.Common.{◌≡◌, ◌∙◌, sym, Main}
use Rattle.std.proofs.lemmas.Bool.{false≢true}
use Rattle.uz_search.proofs.Lists.{each_next}
use Rattle.uz_search.proofs.program.starts_in_main.Goals as goal

pub each-preserved : goal.each-preserved
each-preserved c = each_next (λ s. s.kind ≡ Main → ⊥) c.args.starts.now c.each.start-index c.start-item.result c.each-test.true
    c.start-item.is c.each.invariant (λ main. false≢true (sym c.if-is_main.false ∙ c.is_main.ensures.1 main))
