-- Where an edge stands among others, by its clock.
use Rattle.uz_check.proofs.Common.{◌≡◌, inl, inr, ℕ, ◌≤◌, List, [], ◌∷◌, ◌++◌, sym, ◌∙◌, ap, subst, arith, reverse-append, Edge, AreTimed}
use Rattle.uz_check.proofs.Common.{newest_first}
use Rattle.std.proofs.Common.{reverse}
use Rattle.std.proofs.lemmas.List.{reverse-reverse}
use Rattle.uz_check.proofs.EventLists.{Among, among_both, among_left, among_right}
use Rattle.uz_check.proofs.RunParts.{timed_ends}

-- the clock between two parts
pub record SplitAt (from to : ℕ) (a b : List Edge) : Type 0 where
  pub mid : ℕ
  pub first : AreTimed from mid a
  pub rest : AreTimed mid to b

pub split : (from to : ℕ) (a b : List Edge) → AreTimed from to (a ++ b) → SplitAt from to a b
split from to [] b t = record { mid = from; first = omega arith; rest = t }
split from to (e ∷ a) b t =
    let more = split e.clock to a b t.1 in
    record { mid = more.mid; first = (t.0, more.first); rest = more.rest }

pub bounds : (from to : ℕ) (edges : List Edge) (x : Edge) → AreTimed from to edges → Among x edges → (from ≤ x.clock) × (x.clock ≤ to)
bounds from to [] x t none = absurd none
bounds from to (e ∷ edges) x t (inl is) =
    let same : e.clock ≡ x.clock = ap (λ (y : Edge). y.clock) is in
    let first = t.0 in
    let rest = timed_ends e.clock to edges t.1 in
    (omega arith, omega arith)
bounds from to (e ∷ edges) x t (inr later) =
    let more = bounds e.clock to edges x t.1 later in
    let first = t.0 in
    let low = more.0 in
    (omega arith, more.1)

pub among_newest : (x : Edge) (edges : List Edge) → Among x (newest_first edges) → Among x edges
among_newest x [] none = absurd none
among_newest x (e ∷ edges) h =
    elim (among_both x (newest_first edges) (e ∷ []) (subst (Among x) (reverse-append (e ∷ []) edges) h)) [
      | inl more ↦ inr (among_newest x edges more)
      | inr (inl is) ↦ inl is
      | inr (inr none) ↦ absurd none
    ]

pub among_oldest : (x : Edge) (edges : List Edge) → Among x edges → Among x (newest_first edges)
among_oldest x [] none = absurd none
among_oldest x (e ∷ edges) (inl is) = subst (Among x) (sym (reverse-append (e ∷ []) edges))
    (among_right x (newest_first edges) (e ∷ []) (inl is))
among_oldest x (e ∷ edges) (inr more) = subst (Among x) (sym (reverse-append (e ∷ []) edges))
    (among_left x (newest_first edges) (e ∷ []) (among_oldest x edges more))

-- a list in the order of time, cut at an edge of its history
in_order : (edges since earlier : List Edge) (e : Edge) → newest_first edges ≡ since ++ e ∷ earlier
    → edges ≡ (newest_first earlier ++ e ∷ []) ++ newest_first since
in_order edges since earlier e cut =
    sym (reverse-reverse edges)
    ∙ (ap reverse cut
    ∙ (reverse-append since (e ∷ earlier)
    ∙ ap (λ x. x ++ newest_first since) (reverse-append (e ∷ []) earlier)))

-- A line that begins with one edge and ends with another, among edges in the order of time
pub record LineOrder (since earlier later : List Edge) (fall ending : Edge) : Type 0 where
  pub before_end : fall.clock ≤ ending.clock
  pub since_fall : (x : Edge) → Among x since → fall.clock ≤ x.clock
  pub until_end : (x : Edge) → Among x since → x.clock ≤ ending.clock
  pub earlier_ones : (x : Edge) → Among x (fall ∷ earlier) → x.clock ≤ fall.clock
  pub later_ones : (x : Edge) → Among x (ending ∷ later) → ending.clock ≤ x.clock

pub line_order : (from to : ℕ) (before since earlier later : List Edge) (fall ending : Edge) → AreTimed from to (before ++ ending ∷ later)
    → newest_first before ≡ since ++ fall ∷ earlier → LineOrder since earlier later fall ending
line_order from to before since earlier later fall ending timed cut =
    let one = split from to before (ending ∷ later) timed in
    let ends = (one.rest).0 in
    let parts = in_order before since earlier fall cut in
    let two = split from one.mid (newest_first earlier ++ fall ∷ []) (newest_first since) (subst (AreTimed from one.mid) parts one.first) in
    let three = split from two.mid (newest_first earlier) (fall ∷ []) two.first in
    let falls_after = (three.rest).0 in
    let falls_before : fall.clock ≤ two.mid = (three.rest).1 in
    let further = timed_ends two.mid one.mid (newest_first since) two.rest in
    record {
      before_end = omega arith;
      since_fall = λ x h. (let b = bounds two.mid one.mid (newest_first since) x two.rest (among_oldest x since h) in let low = b.0 in
          omega arith);
      until_end = λ x h. (let b = bounds two.mid one.mid (newest_first since) x two.rest (among_oldest x since h) in let high = b.1 in
          omega arith);
      earlier_ones = λ x h. earlier_one x three.mid falls_after three.first h;
      later_ones = λ x h. later_one x h (one.rest).1;
    }
  where
    earlier_one : (x : Edge) (mid : ℕ) → mid ≤ fall.clock → AreTimed from mid (newest_first earlier) → Among x (fall ∷ earlier)
        → x.clock ≤ fall.clock
    earlier_one x mid h t (inl is) = (let same : fall.clock ≡ x.clock = ap (λ (y : Edge). y.clock) is in omega arith)
    earlier_one x mid h t (inr more) = (let b = bounds from mid (newest_first earlier) x t (among_oldest x earlier more) in
        let high = b.1 in omega arith)

    later_one : (x : Edge) → Among x (ending ∷ later) → AreTimed ending.clock to later → ending.clock ≤ x.clock
    later_one x (inl is) t = (let same : ending.clock ≡ x.clock = ap (λ (y : Edge). y.clock) is in omega arith)
    later_one x (inr more) t = (bounds ending.clock to later x t more).0
