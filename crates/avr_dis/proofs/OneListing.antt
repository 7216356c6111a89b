-- An image has at most one listing.
use Rattle.std.proofs.Common.{◌≡◌, ℕ, zero, suc, ◌++◌, Bool, true, false, ◌&&◌, List, inl, inr, sym, ap, subst, ◌∙◌, nat_eq, not}
use Rattle.std.specs.Ordering.{nat_cmp}
use Rattle.std.specs.FinMap.{FinMap}
use Rattle.avr_table.specs.declared.Instr.{Instr}
use Rattle.avr_table.specs.Rows.{Reads, words_of}
use Rattle.avr_dis.specs.Listing.{Adds, AddsLine, LineAt, Listed, present, row_line}

-- of any two words at most one instruction is read
abbrev pub AtMostOne : Type 0
AtMostOne = (first second : ℕ) (i j : Instr) → Reads first second i → Reads first second j → i ≡ j

same_line : AtMostOne → (image : FinMap nat_cmp ℕ) (at : ℕ) (two two' : Bool) (text text' : List ℕ) → LineAt image at two text
    → LineAt image at two' text' → (text ≡ text') × (two ≡ two')
same_line one image at two two' text text' (inl a) (inl b) =
    let e : a.0 ≡ b.0 = one _ _ a.0 b.0 a.1 b.1 in
    (a.3 ∙ ap (row_line image at) e ∙ sym b.3, a.2 ∙ ap (λ i. nat_eq (words_of i) 2) e ∙ sym b.2)
same_line one image at two two' text text' (inl a) (inr b) = absurd (b.0 a.0 a.1)
same_line one image at two two' text text' (inr a) (inl b) = absurd (a.0 b.0 b.1)
same_line one image at two two' text text' (inr a) (inr b) = (a.2 ∙ sym b.2, a.1 ∙ sym b.1)

same_added : AtMostOne → (adds : Bool) (image : FinMap nat_cmp ℕ) (at : ℕ) (text text' : List ℕ) (two two' : Bool) → AddsLine adds image at
    text two → AddsLine adds image at text' two' → (text ≡ text') × (two ≡ two')
same_added one false image at text text' two two' a b = (a.1 ∙ sym b.1, a.0 ∙ sym b.0)
same_added one true image at text text' two two' a b = same_line one image at two two' text text' a b

same_adds : AtMostOne → (image : FinMap nat_cmp ℕ) (at : ℕ) (taken taken' : Bool) (text text' : List ℕ) (two two' : Bool) → taken ≡ taken'
    → Adds image at taken text two → Adds image at taken' text' two' → (text ≡ text') × (two ≡ two')
same_adds one image at taken taken' text text' two two' e a b =
    same_added one (not taken && present image at) image at text text' two two' a
    (subst (λ t. AddsLine (not t && present image at) image at text' two') (sym e) b)

pub same_listing : AtMostOne → (image : FinMap nat_cmp ℕ) (at : ℕ) (text text' : List ℕ) (two two' : Bool) → Listed image at text two
    → Listed image at text' two' → (text ≡ text') × (two ≡ two')
unfolding Listed
same_listing one image zero text text' two two' a b = (a.0 ∙ sym b.0, a.1 ∙ sym b.1)
same_listing one image (suc at) text text' two two' a b =
    let before : (a.0 ≡ b.0) × (a.1 ≡ b.1) = same_listing one image at a.0 b.0 a.1 b.1 a.3 b.3 in
    let added : (a.2 ≡ b.2) × (two ≡ two') = same_adds one image at a.1 b.1 a.2 b.2 two two' before.1 a.4 b.4 in
    (a.5 ∙ ap (λ x. x ++ a.2) before.0 ∙ ap (λ x. b.0 ++ x) added.0 ∙ sym b.5, added.1)
