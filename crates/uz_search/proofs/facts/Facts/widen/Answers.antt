use Rattle.uz_search.proofs.Common.{◌∙◌, ◌≡◌, ◌+◌, ◌<◌, List, [], ap, slice_index_or, subst, ℕ, Ends, whole_byte, whole_pair, Range}
use Rattle.uz_search.proofs.Common.{widened_all, folded, folded_value}
use Rattle.uz_search.proofs.PlaceLemmas.{by_places}
use Rattle.uz_search.proofs.facts.Facts.widen.Goals as goal

pub returns : goal.returns
returns c =
    by_places _ c.self.inside.chains.items c.args.at.now c.widen_registers.new.registers c.widen_pairs.new.pairs c.self.invariant
    c.widen_registers.ensures.before c.widen_pairs.ensures.before c.widen_registers.ensures.after c.widen_pairs.ensures.after
    (subst (λ (l : List (List Ends)). (q : ℕ) → q < 32 → slice_index_or c.widen_registers.new.registers q (Range whole_byte)
    ≡ folded_value (slice_index_or l q []) (slice_index_or c.args.at.now.regs q (Range whole_byte))) c.as_slice-chains.ensures.value
    c.widen_registers.ensures.each)
    (subst (λ (l : List (List Ends)). (k : ℕ) → k < 3 → slice_index_or c.widen_pairs.new.pairs k whole_pair
    ≡ folded (slice_index_or l (32 + k) []) (slice_index_or c.args.at.now.pairs k whole_pair)) c.as_slice-chains.ensures.value
    c.widen_pairs.ensures.each)
    ∙ ap (λ facts. widened_all facts c.args.at.now) c.self.view_is
