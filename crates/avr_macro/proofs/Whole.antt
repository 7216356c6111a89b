-- What came of a whole expansion.
use Rattle.std.proofs.Common.{◌≡◌, ℕ, ◌≤◌, List, [], ◌∷◌, ◌++◌, length, refl, sym, ◌∙◌, ap, subst, inl, inr, arith}
use Rattle.std.specs.Prelude.{◌≢◌, ◌⊎◌, Option, Some, None, Result, Ok, Err, IfOk, IfErr}
use Rattle.std.specs.FinMap.{get}
use Rattle.uz_shelf.specs.Files.{FileMap, HoldsFile, LacksFile}
use Rattle.avr_macro.specs.declared.errors.MacroError.{MacroError}
use Rattle.avr_macro.specs.declared.errors.MacroWhy.{MacroWhy}
use Rattle.avr_macro.specs.declared.errors.MacroWhy.TheVariants.{Unread, TooLong}
use Rattle.avr_macro.specs.declared.flat.Flat.{Flat}
use Rattle.avr_macro.specs.declared.origin.Origin.{Origin}
use Rattle.avr_macro.specs.States.{State, around, first_state}
use Rattle.avr_macro.specs.Expansion.{BeginsWith, End, Ends, ends_flat, ends_refused, ends_unread, ends_too_long, ends_loaded, Expands}
use Rattle.avr_macro.specs.Expansion.{expands_lacking, expands_too_long, expands_lines, FlatText, LacksLast, Reaches, reaches_here, Refusal}
use Rattle.avr_macro.specs.Expansion.{first_place, flat_end, refused_end}
use Rattle.avr_macro.specs.Answers.{Agrees, CameOf, CutBy, FailsFirst, IsAsked, IsCutOff, IsRefused, flat_seen, refused_seen}
use Rattle.avr_macro.proofs.Paths.{asked_begins, names_begin, one_end}
use Rattle.avr_macro.proofs.Reasons.{line_reason, file_reason, stays_short}
use Rattle.std.proofs.lemmas.Bool.Decides.{nat_tests}

-- ---- the flat text

end_of : List (List ℕ) → List ℕ → List Origin → End
end_of names text origins = record { names = names; answer = Ok (record { text = text; origins = origins }) }

pub flat_expands : (files : Option FileMap) (load_fault : Type 0) (name : List ℕ) (names : List (List ℕ)) (flat : Flat)
    → CameOf files load_fault name names (Ok flat) → Expands files name (flat_seen names flat)
unfolding end_of
flat_expands files load_fault name names flat (bytes, s, held, short, r, e, t, o) =
    subst (Expands files name) (ap (λ x. end_of names x s.origins) (sym t) ∙ ap (end_of names flat.text.items) (sym o))
    (expands_lines bytes names s held short r (ends_flat e))

-- ---- the refusal

lacks_last : (files : Option FileMap) (names : List (List ℕ)) (name : List ℕ) → LacksFile files name → LacksLast files (names ++ name ∷ [])
lacks_last files (n ∷ m ∷ names) name h = lacks_last files (m ∷ names) name h
lacks_last files other name h = h

-- the parts of a refusal
same_names : (a b : List (List ℕ)) (p q : Origin) (x y : MacroWhy) → refused_end a p x ≡ refused_end b q y → a ≡ b
same_names a b p q x y e = ap (λ (end : End). end.names) e

same_reason : (a b : List (List ℕ)) (p q : Origin) (x y : MacroWhy) → refused_end a p x ≡ refused_end b q y → x ≡ y
same_reason a b p q x y e = grind (arith, nat_tests)

not_flat : (a b : List (List ℕ)) (s : State) (q : Origin) (y : MacroWhy) → flat_end a s ≡ refused_end b q y → ⊥
not_flat a b s q y e =
    let k : ◌≡◌ {A = Result FlatText Refusal} (Ok (record { text = s.text; origins = s.origins })) (Err (record { at = q; reason = y })) =
    ap (λ (end : End). end.answer) e in cc

-- a file is lacking, or the reason is another
abbrev Lacking : Option FileMap → List (List ℕ) → MacroWhy → Type 0
Lacking files later reason = ((reason ≡ Unread) × LacksLast files later) ⊎ (reason ≢ Unread)

reason_told : (files : Option FileMap) (names later : List (List ℕ)) (s : State) (at : Origin) (reason : MacroWhy) (end : End)
    → length s.text ≤ 1048576 → Ends files names s end → end ≡ refused_end later at reason → Lacking files later reason
reason_told files names later s at reason _ h (ends_flat e) is = absurd (not_flat names later s at reason is)
reason_told files names later s at reason _ h (ends_refused level outer r d) is =
    inr (λ u. line_reason level (around outer s) r h d.does (same_reason names later level.origin at r reason is ∙ u))
reason_told files names later s at reason _ h (ends_unread level outer name d lacks) is =
    inl (
      sym (same_reason _ _ _ _ _ _ is),
      subst (LacksLast files) (same_names _ _ _ _ _ _ is) (lacks_last _ names _ lacks),
    )
reason_told files names later s at reason _ h (ends_too_long level outer name d longer) is =
    inr (λ u. let k : TooLong ≡ Unread = same_reason (names ++ name ∷ []) later level.origin at TooLong reason is ∙ u in cc)
reason_told files names later s at reason _ h (ends_loaded level outer name bytes r d held short i) is =
    inr (λ u. file_reason (length names) bytes level (around outer s) _ h i (same_reason _ _ _ _ _ _ is ∙ u))

told : (files : Option FileMap) (names : List (List ℕ)) (reason : MacroWhy) → Lacking files names reason → reason ≡ Unread → LacksLast files
    names
told files names reason (inl (u, lacks)) e = lacks
told files names reason (inr other) e = absurd (other e)

first_end : (files : Option FileMap) (name : List ℕ) (names : List (List ℕ)) (e : MacroError) (reason : MacroWhy) → names ≡ name ∷ []
    → e.at ≡ first_place → e.why ≡ reason
    → Expands files name (refused_end (name ∷ []) first_place reason) → Expands files name (refused_seen names e)
first_end files name names e reason is at t x =
    subst (λ n. Expands files name (refused_end n e.at e.why)) (sym is)
    (subst (λ o. Expands files name (refused_end (name ∷ []) o e.why)) (sym at)
    (subst (λ w. Expands files name (refused_end (name ∷ []) first_place w)) (sym t) x))

refused_first : (files : Option FileMap) (load_fault : Type 0) (name : List ℕ) (names : List (List ℕ)) (e : MacroError) → names ≡ name ∷ []
    → FailsFirst files load_fault name e → IsRefused files load_fault name names e
refused_first files load_fault name names e is (inl m) = inl m
refused_first files load_fault name names e is (inr (at, inl (u, inl fault))) = inr (inl (u, fault))
refused_first files load_fault name names e is (inr (at, inl (u, inr lacks))) =
    inr (inr (first_end files name names e Unread is at u (expands_lacking lacks), λ _. subst (LacksLast files) (sym is) lacks))
refused_first files load_fault name names e is (inr (at, inr (t, longer))) =
    inr (inr (
      first_end files name names e TooLong is at t (expands_too_long longer),
      λ u. let k : TooLong ≡ Unread = sym t ∙ u in
          absurd cc,
    ))

refused_cut : (files : Option FileMap) (load_fault : Type 0) (name bytes : List ℕ) (names there : List (List ℕ)) (s : State)
    (e : MacroError) → HoldsFile files name bytes → length bytes ≤ 1048576
    → Reaches files (name ∷ []) (first_state bytes) there s → CutBy files load_fault there s names e → IsRefused files load_fault name names
    e
refused_cut files load_fault name bytes names there s e held short r (inl m) = inl m
refused_cut files load_fault name bytes names there s e held short r (inr (inl (u, fault))) = inr (inl (u, fault))
refused_cut files load_fault name bytes names there s e held short r (inr (inr x)) =
    inr (inr (
      expands_lines bytes there s held short r x,
      told files names _ (reason_told _ _ _ _ _ _ _ (stays_short _ _ _ _ _ (omega arith) r) x refl),
    ))

pub refusal : (files : Option FileMap) (load_fault : Type 0) (name : List ℕ) (names : List (List ℕ)) (e : MacroError) → IsCutOff files
    load_fault name names e → IsRefused files load_fault name names e
refusal files load_fault name names e (inl (m, none)) = inl m
refusal files load_fault name names e (inr (inl (is, f))) = refused_first files load_fault name names e is f
refusal files load_fault name names e (inr (inr (bytes, held, short, c))) = refused_cut _ _ _ _ _ _ _ _ held short c.reached c.cut

-- ---- one end, over a shelf that tells its files

same_bytes : (m : FileMap) (name a b : List ℕ) → get m name ≡ Some a → get m name ≡ Some b → a ≡ b
same_bytes m name a b e f = let k : ◌≡◌ {A = Option (List ℕ)} (Some a) (Some b) = sym e ∙ f in cc

record Arrives (m : FileMap) (name bytes : List ℕ) (end : End) : Type 0 where
  there : List (List ℕ)
  state : State
  way : Reaches (Some m) (name ∷ []) (first_state bytes) there state
  ends : Ends (Some m) there state end

arrives : (m : FileMap) (name bytes : List ℕ) (end : End) → get m name ≡ Some bytes → length bytes ≤ 1048576 → Expands (Some m) name end
    → Arrives m name bytes end
arrives m name bytes _ e h (expands_lacking none) = let k : ◌≡◌ {A = Option (List ℕ)} (Some bytes) None = sym e ∙ none in absurd cc
arrives m name bytes _ e h (expands_too_long longer) = absurd (let k : longer.0 ≡ bytes = same_bytes m name longer.0 bytes longer.1 e in
    omega (arith, ap length k, longer.2, h))
arrives m name bytes end e h (expands_lines other there s held short r x) =
    record {
      there = there;
      state = s;
      way = subst (λ b. Reaches (Some m) (name ∷ []) (first_state b) there s) (same_bytes _ _ _ _ held e) r;
      ends = x;
    }

pub unique : (m : FileMap) (name : List ℕ) (x y : End) → Expands (Some m) name x → Expands (Some m) name y → x ≡ y
unique m name _ _ (expands_lacking none) (expands_too_long longer) = let k : ◌≡◌ {A = Option (List ℕ)} (Some longer.0) None = sym longer.1
    ∙ none in absurd cc
unique m name _ y (expands_lacking none) (expands_lines bytes there s held short r x) = let k : ◌≡◌ {A = Option (List ℕ)} (Some bytes)
    None = sym held ∙ none in absurd cc
unique m name _ _ (expands_too_long longer) (expands_lacking none) = let k : ◌≡◌ {A = Option (List ℕ)} (Some longer.0) None = sym longer.1
    ∙ none in absurd cc
unique m name _ y (expands_too_long longer) (expands_lines bytes there s held short r x) =
    absurd (let k : longer.0 ≡ bytes = same_bytes m name longer.0 bytes longer.1 held in omega (arith, ap length k, longer.2, short))
unique m name x y (expands_lines bytes there s held short r ex) other =
    let a = arrives m name bytes y held short other in
    one_end m (name ∷ []) there a.there (first_state bytes) s a.state x y r ex a.way a.ends
unique m name _ _ other rest = refl

-- the answer agrees with the end
agrees_at : (m : FileMap) (load_fault : Type 0) (name : List ℕ) (names : List (List ℕ)) (e : MacroError) (end : End) → Expands (Some m) name
    (refused_seen names e) → Expands (Some m) name end → Agrees load_fault (Err e) end
agrees_at m load_fault name names e end x y = inr (inr (sym (ap (λ (z : End). z.answer) (unique m name (refused_seen names e) end x y))))

agrees_first : (m : FileMap) (load_fault : Type 0) (name : List ℕ) (e : MacroError) (end : End) (reason : MacroWhy) → e.at ≡ first_place
    → e.why ≡ reason → Expands (Some m) name (refused_end (name ∷ []) first_place reason) → Expands (Some m) name end → Agrees load_fault
    (Err e) end
agrees_first m load_fault name e end reason at t x y =
    agrees_at m load_fault name (name ∷ []) e end (subst (λ o. Expands (Some m) name (refused_end (name ∷ []) o e.why)) (sym at)
    (subst (λ w. Expands (Some m) name (refused_end (name ∷ []) first_place w)) (sym t) x)) y

agrees_fails : (m : FileMap) (load_fault : Type 0) (name : List ℕ) (e : MacroError) (end : End) → FailsFirst (Some m) load_fault name e
    → Expands (Some m) name end → Agrees load_fault (Err e) end
agrees_fails m load_fault name e end (inl w) y = inl w
agrees_fails m load_fault name e end (inr (at, inl (u, inl fault))) y = inr (inl (u, fault))
agrees_fails m load_fault name e end (inr (at, inl (u, inr lacks))) y = agrees_first _ _ _ _ _ _ at u (expands_lacking lacks) y
agrees_fails m load_fault name e end (inr (at, inr (t, longer))) y = agrees_first _ _ _ _ _ _ at t (expands_too_long longer) y

agrees_cut : (m : FileMap) (load_fault : Type 0) (name bytes : List ℕ) (names there : List (List ℕ)) (s : State) (e : MacroError)
    (end : End) → get m name ≡ Some bytes → length bytes ≤ 1048576
    → Reaches (Some m) (name ∷ []) (first_state bytes) there s → CutBy (Some m) load_fault there s names e → Expands (Some m) name end
    → Agrees load_fault (Err e) end
agrees_cut m load_fault name bytes names there s e end held short r (inl w) y = inl w
agrees_cut m load_fault name bytes names there s e end held short r (inr (inl (u, fault))) y = inr (inl (u, fault))
agrees_cut m load_fault name bytes names there s e end held short r (inr (inr x)) y = agrees_at m load_fault name names e end
    (expands_lines bytes there s held short r x) y

agrees_told : (m : FileMap) (load_fault : Type 0) (name : List ℕ) (names : List (List ℕ)) (result : Result Flat MacroError) (end : End)
    → CameOf (Some m) load_fault name names result → Expands (Some m) name end → Agrees load_fault result end
agrees_told m load_fault name names (Ok flat) end c y =
    sym (ap (λ (z : End). z.answer) (unique m name (flat_seen names flat) end (flat_expands (Some m) load_fault name names flat c) y))
agrees_told m load_fault name names (Err e) end (inl (w, none)) y = inl w
agrees_told m load_fault name names (Err e) end (inr (inl (is, f))) y = agrees_fails m load_fault name e end f y
agrees_told m load_fault name names (Err e) end (inr (inr (bytes, held, short, c))) y = agrees_cut m load_fault name bytes names c.names
    c.state e end held short c.reached c.cut y

pub agrees : (files : Option FileMap) (load_fault : Type 0) (name : List ℕ) (names : List (List ℕ)) (result : Result Flat MacroError)
    (m : FileMap) (end : End) → CameOf files load_fault name names result → files ≡ Some m → Expands (Some m) name end → Agrees load_fault
    result end
agrees files load_fault name names result m end c e y = agrees_told _ _ _ _ _ _ (subst (λ f. CameOf f load_fault name names result) e c) y

-- the names are the first ones of the end's
first_begins : (m : FileMap) (name : List ℕ) (end : End) → Expands (Some m) name end → BeginsWith (name ∷ []) end.names
first_begins m name end (expands_lines bytes there s held short r x) = names_begin _ _ _ _ _ _ _ _ reaches_here r x
first_begins m name _ other = ([], refl)

begins_from : (m : FileMap) (name bytes : List ℕ) (there names : List (List ℕ)) (s : State) (end : End) → Reaches (Some m) (name ∷ [])
    (first_state bytes) there s → IsAsked there s names → Arrives m name bytes end → BeginsWith names end.names
begins_from m name bytes there names s end r (inl is) a = subst (λ n. BeginsWith n end.names) (sym is)
    (names_begin m (name ∷ []) there a.there (first_state bytes) s a.state end r a.way a.ends)
begins_from m name bytes there names s end r (inr (level, outer, asked, d, is)) a =
    subst (λ n. BeginsWith n end.names) (sym is) (asked_begins _ _ _ _ _ _ _ _ _ _ _ r a.way a.ends d)

begins_told : (m : FileMap) (load_fault : Type 0) (name : List ℕ) (names : List (List ℕ)) (result : Result Flat MacroError) (end : End)
    → CameOf (Some m) load_fault name names result → Expands (Some m) name end → BeginsWith names end.names
begins_told m load_fault name names (Ok flat) end (bytes, s, held, short, r, e, t, o) y = begins_from m name bytes names names s end r
    (inl refl) (arrives m name bytes end held short y)
begins_told m load_fault name names (Err e) end (inl (w, none)) y = subst (λ n. BeginsWith n end.names) (sym none) (end.names, refl)
begins_told m load_fault name names (Err e) end (inr (inl (is, f))) y = subst (λ n. BeginsWith n end.names) (sym is) (first_begins _ _ _ y)
begins_told m load_fault name names (Err e) end (inr (inr (bytes, held, short, c))) y = begins_from m name bytes c.names names c.state end
    c.reached c.asked (arrives m name bytes end held short y)

pub begins : (files : Option FileMap) (load_fault : Type 0) (name : List ℕ) (names : List (List ℕ)) (result : Result Flat MacroError)
    (m : FileMap) (end : End) → CameOf files load_fault name names result → files ≡ Some m → Expands (Some m) name end → BeginsWith names
    end.names
begins files load_fault name names result m end c e y = begins_told _ _ _ _ _ _ (subst (λ f. CameOf f load_fault name names result) e c) y

-- ---- the clauses of the answer

pub flat_answer : (files : Option FileMap) (load_fault : Type 0) (name : List ℕ) (names : List (List ℕ)) (result : Result Flat MacroError)
    → CameOf files load_fault name names result → IfOk result (λ flat. Expands files name (flat_seen names flat))
flat_answer files load_fault name names (Ok flat) c = flat_expands files load_fault name names flat c
flat_answer files load_fault name names (Err e) c = tt

pub refused_answer : (files : Option FileMap) (load_fault : Type 0) (name : List ℕ) (names : List (List ℕ))
    (result : Result Flat MacroError) → CameOf files load_fault name names result → IfErr result (IsRefused files load_fault name names)
refused_answer files load_fault name names (Ok flat) c = tt
refused_answer files load_fault name names (Err e) c = refusal files load_fault name names e c

pub short_answer : (files : Option FileMap) (load_fault : Type 0) (name : List ℕ) (names : List (List ℕ)) (result : Result Flat MacroError)
    → CameOf files load_fault name names result → IfOk result (λ flat. length flat.text.items ≤ 1048576)
short_answer files load_fault name names (Ok flat) (bytes, s, held, short, r, e, t, o) =
    let k : length s.text ≤ 1048576 = stays_short files (name ∷ []) (first_state bytes) names s (omega arith) r in
    omega (arith, ap length t, k)
short_answer files load_fault name names (Err e) c = tt
