-- The lines of a pad file give one list of pairs or one first fault, and not both.
use Rattle.std.proofs.Common.{◌≡◌, ℕ, ◌+◌, ◌≤◌, true, List, [], ◌∷◌, ◌++◌, ◌⊎◌, length, refl, sym, ap, subst, inl, inr}
use Rattle.std.proofs.Common.{append_assoc, append-nil, arith}
use Rattle.std.proofs.lemmas.Bool.{cases_lt}
use Rattle.std.proofs.lemmas.List.Elements.{All-nil}
use Rattle.std.proofs.lemmas.List.{length-append}
use Rattle.uz_pads.specs.declared.pads.Pad.{Pad}
use Rattle.uz_pads.specs.declared.lines.Line.{Line}
use Rattle.uz_pads.specs.declared.lines.Line.TheVariants.{Blank, Pair, Faulty}
use Rattle.uz_pads.specs.declared.errors.PadWhy.{PadWhy}
use Rattle.uz_pads.specs.declared.errors.PadWhy.TheVariants.{Digits, Count, Memory}
use Rattle.uz_pads.specs.Lines.{HasFault, IsFault, IsFirstFault, IsRead, is_good_line, is_well_formed, kind_of, pads_in, pads_of, pads_on}
use Rattle.uz_pads.proofs.ItemLaws.{one_faulty, one_text, text_or_faulty}
use Rattle.uz_pads.proofs.ItemLemmas.{more_read}

pub one_list : (lines : List (List ℕ)) (a b : List Pad) → IsRead lines a → IsRead lines b → a ≡ b
one_list = one_text pads_on is_good_line

no_fault : (line : Line) (before after : ℕ) (why : PadWhy) → IsFault line before why → is_well_formed line ≡ true
    → before + (length (pads_of line) + after) ≤ 65536 → ⊥
no_fault Faulty before after Digits fault good few = absurd cc
no_fault (Pair pad) before after Count fault good few = omega (arith, fault)
no_fault line before after why fault good few = fault

same_why : (line : Line) (before : ℕ) (v w : PadWhy) → IsFault line before v → IsFault line before w → v ≡ w
same_why Blank before v w a b = absurd a
same_why (Pair pad) before Count Count a b = refl
same_why (Pair pad) before Count Digits a b = absurd b
same_why (Pair pad) before Count Memory a b = absurd b
same_why (Pair pad) before Digits w a b = absurd a
same_why (Pair pad) before Memory w a b = absurd a
same_why Faulty before Digits Digits a b = refl
same_why Faulty before Digits Count a b = absurd b
same_why Faulty before Digits Memory a b = absurd b
same_why Faulty before Count w a b = absurd a
same_why Faulty before Memory w a b = absurd a

pub read_or_faulty : (lines : List (List ℕ)) (pads : List Pad) (number : ℕ) (why : PadWhy) → IsRead lines pads → IsFirstFault lines number
    why → ⊥
read_or_faulty = text_or_faulty pads_on is_good_line HasFault (λ line. no_fault (kind_of line)) (λ line. same_why (kind_of line))

pub one_fault : (lines : List (List ℕ)) (n m : ℕ) (v w : PadWhy) → IsFirstFault lines n v → IsFirstFault lines m w → (n ≡ m) × (v ≡ w)
one_fault = one_faulty pads_on is_good_line HasFault (λ line. no_fault (kind_of line)) (λ line. same_why (kind_of line))

-- Lines are read or have a first fault

abbrev pub Decided : List (List ℕ) → Type 0
Decided lines = ((pads : List Pad) × IsRead lines pads) ⊎ ((number : ℕ) × (why : PadWhy) × IsFirstFault lines number why)

-- lines that are read give their own pairs
own : (lines : List (List ℕ)) (pads : List Pad) → IsRead lines pads → IsRead lines (pads_in lines)
own lines pads r = record { well_formed = r.well_formed; few = r.few; are = refl }

-- one more line, as it is
one_line : (earlier : List (List ℕ)) (line : List ℕ) (rest : List (List ℕ)) (kind : Line) → kind_of line ≡ kind → IsRead earlier
    (pads_in earlier)
    → (IsRead (earlier ++ line ∷ []) (pads_in (earlier ++ line ∷ [])) → Decided (earlier ++ line ∷ rest)) → Decided (earlier ++ line ∷ rest)
one_line earlier line rest Blank e r more =
    let few : length (pads_in earlier ++ []) ≤ 65536 = subst (λ (xs : List Pad). length xs ≤ 65536) (sym (append-nil (pads_in earlier)))
    r.few in
    more (own (earlier ++ line ∷ []) (pads_in earlier ++ []) (more_read pads_on is_good_line earlier line (pads_in earlier) [] r (ap pads_of e)
    (ap is_well_formed e) few))
one_line earlier line rest Faulty e r more =
    inr (
      length earlier + 1,
      Digits,
      record {
        earlier = earlier;
        line = line;
        later = rest;
        cut = refl;
        number_is = refl;
        read = r;
        fault = subst (λ k. IsFault k (length (pads_in earlier)) Digits) (sym e) tt;
      },
    )
one_line earlier line rest (Pair pad) e r more = elim (cases_lt (length (pads_in earlier)) 65536) [
  | inl room ↦
      let few : length (pads_in earlier ++ pad ∷ []) ≤ 65536 = omega (arith, length-append (pads_in earlier) (pad ∷ [])) in
      more (own (earlier ++ line ∷ []) (pads_in earlier ++ pad ∷ []) (more_read pads_on is_good_line earlier line (pads_in earlier) (pad ∷ []) r (ap pads_of e)
      (ap is_well_formed e) few))
  | inr full ↦
      let most : length (pads_in earlier) ≤ 65536 = r.few in
      let all : length (pads_in earlier) ≡ 65536 = omega arith in
      inr (
        length earlier + 1,
        Count,
        record {
          earlier = earlier;
          line = line;
          later = rest;
          cut = refl;
          number_is = refl;
          read = r;
          fault = subst (λ k. IsFault k (length (pads_in earlier)) Count) (sym e) all;
        },
      )
]

decided : (earlier rest : List (List ℕ)) → IsRead earlier (pads_in earlier) → Decided (earlier ++ rest)
decided earlier [] r = subst Decided (sym (append-nil earlier)) (inl (pads_in earlier, r))
decided earlier (line ∷ rest) r =
    one_line earlier line rest (kind_of line) refl r (λ read. subst Decided (append_assoc earlier (line ∷ []) rest)
    (decided (earlier ++ line ∷ []) rest read))

pub read_or_fault : (lines : List (List ℕ)) → Decided lines
read_or_fault lines = decided [] lines (record {
  well_formed = All-nil (λ (x : List ℕ). is_well_formed (kind_of x) ≡ true);
  few = omega arith;
  are = refl;
})
