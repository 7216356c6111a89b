use Rattle.uz_rules.proofs.Common.{rules, ◌<◌, ◌≤◌, ◌+◌, ◌++◌, [], ◌∷◌, length, drop, sym, ◌∙◌, ap, append-nil, varying_from}
use Rattle.std.proofs.lemmas.List.{append_assoc}
use Rattle.uz_rules.proofs.MovingLaws.{varying_one, varying_end}
use Rattle.uz_rules.proofs.varying.varying_places.Goals as goal

pub loop-place-preserved : goal.loop-place-preserved
loop-place-preserved c =
    let facts = c.args.facts.now in
    let n = c.loop-place.place in
    let low : n < length facts = search rules in
    let before = c.loop-place.places.items in
    let fact = c.index-facts-place.result in
    let rest = varying_from (n + 1) (drop (n + 1) facts) in
    let one = ap (λ f. varying_from n (f ∷ []) ++ rest) c.index-facts-place.is ∙ varying_one facts n fact low in
    record {
      few = c.note_place.ensures.room;
      first = ap (λ ys. ys ++ rest) c.note_place.ensures.noted
          ∙ (append_assoc before (varying_from n (fact ∷ [])) rest ∙ (ap (λ ys. before ++ ys) one ∙ c.loop-place.invariant.first));
    }

pub returns : goal.returns
returns c =
    let facts = c.args.facts.now in
    let n = c.loop-place.place in
    let past : length facts ≤ n = search rules in
    let items = c.loop-place.places.items in
    sym (append-nil items) ∙ (ap (λ ys. items ++ ys) (sym (varying_end n n facts past)) ∙ c.loop-place.invariant.first)
