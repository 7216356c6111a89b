use Rattle.std.proofs.Common.{rules}
use Rattle.std.proofs.lemmas.List.Sorted.{IsNonDecreasingBy-from_sort_by_key, answers_always}
use Rattle.avr_asm.proofs.LabelOrder.{sorted_is}
use Rattle.avr_asm.proofs.labels.sorted.Goals as goal

pub returns-clause-rising : goal.returns-clause-rising
returns-clause-rising c =
    IsNonDecreasingBy-from_sort_by_key (λ l. l.address) _ c.in_ok-sort_by_key.ensures.sorted (λ a r q k. search rules)

pub returns-clause-order : goal.returns-clause-order
returns-clause-order c =
    let rising = IsNonDecreasingBy-from_sort_by_key (λ l. l.address) _ c.in_ok-sort_by_key.ensures.sorted (λ a r q k. search rules) in
    sorted_is _ _ rising (c.in_ok-sort_by_key.ensures.stable (λ l. l.address) (answers_always _ _ _ (λ f a r q k. search rules)))
