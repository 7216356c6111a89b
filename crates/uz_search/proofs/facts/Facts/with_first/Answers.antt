use Rattle.uz_search.proofs.PlaceLemmas.{facts_more}
use Rattle.uz_search.proofs.facts.Facts.with_first.Goals as goal

pub invariant_of-result : goal.invariant_of-result
invariant_of-result c =
    facts_more c.args.fact c.self.inside.facts.items c.self.inside.chains.items c.in_ok-facts.facts.items c.in_ok-chains.chains.items
    c.self.invariant c.in_ok-facts.ensures c.in_ok-chains.ensures.chains c.in_ok-chains.ensures.told
