-- The image and the symbols are made of the entries that the lines give.
use Rattle.std.proofs.Common.{◌≡◌, ℕ, ◌+◌, Bool, true, false, ◌&&◌, not, cond, List, [], ◌∷◌, ◌++◌, nat_le, refl, sym, ◌∙◌, ap, subst}
use Rattle.std.proofs.Common.{append_assoc, Option, None, Some, Ok, Err, is_some, is_none, ℤ, append-nil}
use Rattle.std.specs.Ordering.{nat_cmp, eq_by_cmp}
use Rattle.std.specs.Cmp.Lexicographic.{slice_cmp, nat_list_cmp_total}
use Rattle.std.proofs.lemmas.Cmp.{nat_cmp_total}
use Rattle.std.specs.List.{AllByRecursion, list_any, IsDistinct}
use Rattle.std.specs.Map.{keys_of}
use Rattle.std.specs.FinMap.{nat_cmp-IsAntisymmetric, slice_cmp-IsAntisymmetric, get, insert, empty}
use Rattle.avr_text.specs.Names.{NameMap}
use Rattle.avr_text.specs.declared.errors.AsmWhy.TheVariants as why
use Rattle.avr_asm.specs.declared.first_pass.Effect.{Effect}
use Rattle.avr_asm.specs.declared.first_pass.Effect.TheVariants.{Define}
use Rattle.avr_asm.specs.declared.layout.Place.{Place}
use Rattle.avr_asm.specs.Emission.{Flash, put}
use Rattle.avr_text.specs.Faults.{OrFault}
use Rattle.avr_asm.specs.Layout.{is_reserved, defined, with_symbols, labelled, named, with_value, with_values, port_names, core_names}
use Rattle.avr_asm.specs.Layout.{data_names, with_first_ports, with_last_ports, with_core, with_data, predefined}
use Rattle.avr_asm.specs.Relation.{bytes_from, label_entries, equ_entries, predefined_names}
use Rattle.avr_asm.proofs.OutcomeLemmas.{ok_same}
use Rattle.avr_asm.proofs.EntryLists.{IsMadeOf, made_more, found_absent}

no_value : {X : Type 0} (o : Option X) → is_some o ≡ false → o ≡ None
no_value None e = refl
no_value (Some x) e = absurd cc

-- bytes that were put
pub put_made : (at : ℕ) (bytes : List ℕ) (old new : Flash) (es : List (ℕ × ℕ)) → put at bytes old ≡ Ok new → IsMadeOf old es
    → IsMadeOf new (es ++ bytes_from at bytes)
put_made at [] old new es e made = subst (IsMadeOf new) (sym (append-nil es)) (subst (λ m. IsMadeOf m es) (ok_same old new e) made)
put_made at (b ∷ bs) old new es e made = by_case (nat_le 65536 at) (is_some (get old at)) refl
    (λ f more. put_made (at + 1) bs (insert old at b) new (es ++ (at, b) ∷ []) f more) e
  where
    by_case : (past taken : Bool) → is_some (get old at) ≡ taken
        → (put (at + 1) bs (insert old at b) ≡ Ok new → IsMadeOf (insert old at b) (es ++ (at, b) ∷ [])
        → IsMadeOf new ((es ++ (at, b) ∷ []) ++ bytes_from (at + 1) bs))
        → cond past (Err why.Past) (cond taken (Err why.Overlap) (put (at + 1) bs (insert old at b))) ≡ Ok new → IsMadeOf new
        (es ++ bytes_from at (b ∷ bs))
    by_case true taken t rest e' = absurd cc
    by_case false true t rest e' = absurd cc
    by_case false false t rest e' =
        subst (IsMadeOf new) (append_assoc es ((at, b) ∷ []) (bytes_from (at + 1) bs))
        (rest e' (made_more nat_cmp_total nat_cmp-IsAntisymmetric old es at b made (no_value (get old at) t)))

-- a name that was defined is none of a register or pointer, and new
pub record IsDefined (name : List ℕ) (value : ℤ) (old new : NameMap) : Type 0 where
  pub free : is_reserved name ≡ false
  pub fresh : get old name ≡ None
  pub is : insert old name value ≡ new

is_defined : (name : List ℕ) (value : ℤ) (old new : NameMap) → defined name value old ≡ Ok new → IsDefined name value old new
is_defined name value old new e = by_case (is_reserved name) (is_some (get old name)) refl refl e
  where
    by_case : (reserved there : Bool) → is_reserved name ≡ reserved → is_some (get old name) ≡ there
        → cond reserved (Err why.Twice) (cond there (Err why.Twice) (Ok (insert old name value))) ≡ Ok new → IsDefined name value old new
    by_case true there r t e' = absurd cc
    by_case false true r t e' = absurd cc
    by_case false false r t e' = record { free = r; fresh = no_value (get old name) t; is = ok_same (insert old name value) new e' }

abbrev pub AreFree : List (List ℕ × ℤ) → Type 0
AreFree entries = AllByRecursion (λ entry. is_reserved entry.0 ≡ false) entries

defined_made : (name : List ℕ) (value : ℤ) (old new : NameMap) (es : List (List ℕ × ℤ)) → defined name value old ≡ Ok new → IsMadeOf old es
    → IsMadeOf new (es ++ (name, value) ∷ []) × AreFree ((name, value) ∷ [])
defined_made name value old new es e made =
    let d = is_defined name value old new e in (
      subst (λ m. IsMadeOf m (es ++ (name, value) ∷ [])) d.is
          (made_more nat_list_cmp_total (slice_cmp-IsAntisymmetric nat_cmp-IsAntisymmetric) old es name value made d.fresh),
      (d.free, tt),
    )

with_symbols_ok : (address : ℕ) (o : OrFault NameMap) (next : Place) → with_symbols address o ≡ Ok next → o ≡ Ok next.symbols
with_symbols_ok address (Ok symbols) next e =
    let same : record { address = address; symbols = symbols } ≡ next = ok_same (record { address = address; symbols = symbols }) next e in
    ap (λ (p : Place). Ok p.symbols) same
with_symbols_ok address (Err fault) next e = absurd cc

unchanged_made : (old new : Place) (es : List (List ℕ × ℤ)) → ◌≡◌ {A = OrFault Place} (Ok old) (Ok new) → IsMadeOf old.symbols es
    → IsMadeOf new.symbols (es ++ [])
unchanged_made old new es e made = subst (IsMadeOf new.symbols) (sym (append-nil es))
    (subst (λ (p : Place). IsMadeOf p.symbols es) (ok_same old new e) made)

-- a label
pub label_made : (label : Option (List ℕ)) (old new : Place) (es : List (List ℕ × ℤ)) → labelled label old ≡ Ok new → IsMadeOf old.symbols
    es
    → IsMadeOf new.symbols (es ++ label_entries label old.address) × AreFree (label_entries label old.address)
label_made None old new es e made = (unchanged_made old new es e made, tt)
label_made (Some name) old new es e made = defined_made _ _ _ _ es (with_symbols_ok _ _ _ e) made

-- an `.equ` name
pub equ_made : (effect : Effect) (name : List ℕ) (old new : Place) (es : List (List ℕ × ℤ)) → named effect name old ≡ Ok new
    → IsMadeOf old.symbols es
    → IsMadeOf new.symbols (es ++ equ_entries effect name) × AreFree (equ_entries effect name)
equ_made (Define value) name old new es e made = defined_made _ _ _ _ es (with_symbols_ok _ _ _ e) made
equ_made other name old new es e made = (unchanged_made old new es e made, tt)

-- the predefined names are all new
abbrev fresh : List (List ℕ × ℤ) → List (List ℕ) → Bool
fresh [] ks = true
fresh (n ∷ ns) ks = not (list_any (eq_by_cmp (slice_cmp nat_cmp) n.0) ks) && fresh ns (ks ++ n.0 ∷ [])

values_made : (ns es : List (List ℕ × ℤ)) (m : NameMap) → fresh ns (keys_of es) ≡ true → IsMadeOf m es → IsMadeOf (with_values ns m)
    (es ++ ns)
values_made [] es m f made = subst (IsMadeOf m) (sym (append-nil es)) made
values_made (n ∷ ns) es m f made =
    let parts = split (list_any (eq_by_cmp (slice_cmp nat_cmp) n.0) (keys_of es)) (fresh ns (keys_of es ++ n.0 ∷ [])) f in
    let none : get m n.0 ≡ None = found_absent nat_list_cmp_total (slice_cmp-IsAntisymmetric nat_cmp-IsAntisymmetric) m es n.0 made
    parts.0 in
    let more : IsMadeOf (with_value m n.0 n.1) (es ++ (n.0, n.1) ∷ []) =
    subst (λ x. IsMadeOf x (es ++ (n.0, n.1) ∷ [])) (sym (ap (λ (o : Option ℤ). cond (is_none o) (insert m n.0 n.1) m) none))
    (made_more nat_list_cmp_total (slice_cmp-IsAntisymmetric nat_cmp-IsAntisymmetric) m es n.0 n.1 made none) in
    let rest : fresh ns (keys_of (es ++ n ∷ [])) ≡ true = ap (fresh ns) (keys_more es n) ∙ parts.1 in
    subst (IsMadeOf (with_values ns (with_value m n.0 n.1))) (append_assoc es (n ∷ []) ns)
    (values_made ns (es ++ n ∷ []) (with_value m n.0 n.1) rest more)
  where
    split : (a b : Bool) → (not a && b) ≡ true → (a ≡ false) × (b ≡ true)
    split true b e = absurd cc
    split false b e = (refl, e)

    keys_more : (es : List (List ℕ × ℤ)) (n : List ℕ × ℤ) → keys_of (es ++ n ∷ []) ≡ keys_of es ++ n.0 ∷ []
    keys_more [] n = refl
    keys_more (x ∷ xs) n = ap (λ ks. x.0 ∷ ks) (keys_more xs n)

nothing_twice : IsDistinct (eq_by_cmp (slice_cmp nat_cmp)) []
unfolding IsDistinct
nothing_twice = tt

pub predefined_made : IsMadeOf predefined predefined_names
unfolding with_first_ports with_last_ports with_core with_data
predefined_made =
    let none : IsMadeOf empty [] = record { is = refl; once = nothing_twice } in
    let ports = values_made port_names [] empty refl none in
    let core = values_made core_names port_names (with_values port_names empty) refl ports in
    let all = values_made data_names (port_names ++ core_names) (with_values core_names (with_values port_names empty)) refl core in
    all
