-- Lines that are put behind a text.
use Rattle.std.proofs.Common.{◌≡◌, ◌+◌, ◌∙◌, ℕ, List, [], ◌++◌, sym, ap, add-one, append_assoc}
use Rattle.std.specs.Prelude.{flat_map}
use Rattle.std.proofs.lemmas.List.{append-nil}
use Rattle.uz_schedule.specs.declared.states.Instance.{Instance}
use Rattle.uz_explanations.specs.declared.parts.Class.{Class}
use Rattle.uz_explanations.specs.declared.parts.Class.TheVariants.{Register, Pair, Flag, Slot}
use Rattle.uz_explanations.specs.declared.ranking.Crowd.{Crowd}
use Rattle.uz_explanations.specs.Counting.{counts, crowd}
use Rattle.uz_explanations.specs.Differing.{cells_text, different, differing, part_line, parts_text}
use Rattle.uz_explanations.specs.Ranking.{greatest}
use Rattle.uz_explanations.specs.Crowds.{crowd_lines, crowds_text, head_line}

pub parts_none : (text : List ℕ) (class : Class) (xs : List Instance) → text ≡ text ++ parts_text class 0 xs
unfolding parts_text
parts_none text class xs = sym (append-nil text)

-- one more part
pub parts_more : (old mid new : List ℕ) (class : Class) (k n : ℕ) (xs : List Instance) → mid ≡ old ++ parts_text class k xs
    → n ≡ different class k xs → new ≡ mid ++ part_line class k n → new ≡ old ++ parts_text class (k + 1) xs
unfolding parts_text
parts_more old mid new class k n xs before is put =
    rw add-one (put ∙ (ap (λ t. t ++ part_line class k n) before ∙ (append_assoc old (parts_text class k xs) (part_line class k n)
    ∙ ap (λ m. old ++ (parts_text class k xs ++ part_line class k m)) is)))

-- the kinds of parts, one after another
pub all_parts : (t0 t1 t2 t3 t4 t5 : List ℕ) (xs : List Instance) → t1 ≡ t0 ++ parts_text Register 32 xs
    → t2 ≡ t1 ++ parts_text Pair 3 xs → t3 ≡ t2 ++ parts_text Flag 7 xs → t4 ≡ t3 ++ parts_text Slot 32 xs
    → t5 ≡ t4 ++ cells_text xs → t5 ≡ t0 ++ differing xs
unfolding differing
all_parts t0 t1 t2 t3 t4 t5 xs a b c d e =
    let r = parts_text Register 32 xs in
    let p = parts_text Pair 3 xs in
    let f = parts_text Flag 7 xs in
    let s = parts_text Slot 32 xs in
    e ∙ ap (λ t. t ++ cells_text xs) (d ∙ ap (λ t. t ++ s) (c ∙ ap (λ t. t ++ f) (b ∙ ap (λ t. t ++ p) a ∙ append_assoc t0 r p)
    ∙ append_assoc t0 (r ++ p) f) ∙ append_assoc t0 (r ++ p ++ f) s) ∙ append_assoc t0 (r ++ p ++ f ++ s) (cells_text xs)

pub three_more : (t0 t1 t2 t3 a b c : List ℕ) → t1 ≡ t0 ++ a → t2 ≡ t1 ++ b → t3 ≡ t2 ++ c → t3 ≡ t0 ++ (a ++ b ++ c)
three_more t0 t1 t2 t3 a b c first more last =
    last ∙ ap (λ t. t ++ c) (more ∙ ap (λ t. t ++ b) first ∙ append_assoc t0 a b) ∙ append_assoc t0 (a ++ b) c

-- a program counter
pub crowd_told : (t0 t1 t2 : List ℕ) (instances here : List Instance) (c : Crowd) → t1 ≡ t0 ++ head_line c
    → here ≡ crowd c.pc instances → t2 ≡ t1 ++ differing here → t2 ≡ t0 ++ crowd_lines instances c
unfolding crowd_lines
crowd_told t0 t1 t2 instances here c head is told =
    told ∙ (ap (λ t. t ++ differing here) head ∙ (append_assoc t0 (head_line c) (differing here)
    ∙ ap (λ l. t0 ++ (head_line c ++ differing l)) is))

pub all_told : (text cs : List ℕ) (crowds : List Crowd) (instances : List Instance) → cs ≡ counts instances → crowds ≡ greatest cs
    → text ≡ [] ++ flat_map (crowd_lines instances) crowds → text ≡ crowds_text instances
unfolding crowds_text
all_told text cs crowds instances counted ranked told = told ∙ ap (flat_map (crowd_lines instances)) (ranked ∙ ap greatest counted)
