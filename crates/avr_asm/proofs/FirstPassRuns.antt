-- What the first pass over all lines says: they are laid out, or one has the first fault.
use Rattle.std.proofs.Common.{◌≡◌, ℕ, suc, ◌+◌, Bool, List, [], ◌∷◌, ◌++◌, length, map, nat_lt, inl, inr, refl, sym, ◌∙◌, ap, subst}
use Rattle.std.proofs.Common.{append_assoc, append-nil, arith, Result, Ok, Err, ◌%◌, ◌==◌, ◌&&◌, true, false, not, cond, nat_cmp}
use Rattle.std.specs.List.{list_any}
use Rattle.std.specs.Cmp.Lexicographic.{slice_cmp}
use Rattle.std.specs.FinMap.{from_entries}
use Rattle.avr_text.specs.declared.tokens.Token.{Token}
use Rattle.avr_text.specs.declared.errors.AsmWhy.{AsmWhy}
use Rattle.avr_text.specs.declared.errors.AsmWhy.TheVariants as why
use Rattle.avr_text.specs.Faults.{OrFault, number_of}
use Rattle.avr_asm.specs.declared.errors.AsmError.{AsmError}
use Rattle.avr_asm.specs.declared.first_pass.Effect.{Effect}
use Rattle.avr_asm.specs.declared.first_pass.Effect.TheVariants.{Move, Take, Wrong}
use Rattle.avr_asm.specs.declared.layout.Place.{Place}
use Rattle.avr_asm.specs.FirstFault.{IsLeast, Laid, end_after, end_from, names_in, names_by, place_after, InFirstPass, IsLaid, AreLaid}
use Rattle.avr_asm.specs.FirstFault.{FirstPassFault}
use Rattle.avr_asm.specs.Layout.{Layout, arguments_in, effect_in, address_after, after_line, is_instruction_line, with_address, at_line}
use Rattle.avr_asm.specs.Layout.{layout_from, layout_of, start}
use Rattle.avr_asm.specs.Lines.{content_of, label_of, first_text}
use Rattle.avr_asm.specs.Relation.{label_entries, equ_entries, predefined_names}
use Rattle.avr_asm.proofs.EntryLists.{IsMadeOf}
use Rattle.avr_asm.proofs.FirstPassFaults.{NoPlace, no_place, refused_stands, sound_line, least_line}
use Rattle.avr_asm.proofs.LaidLines.{LaidLine, laid_line}
use Rattle.avr_asm.proofs.MadeMaps.{label_made, equ_made, predefined_made}
use Rattle.avr_asm.proofs.OutcomeLemmas.{ok_same}
use Rattle.std.proofs.lemmas.Bool.Decides.{nat_tests}

-- ---- numbers of whys

abbrev why_at : ℕ → AsmWhy
why_at n =
    cond (n == 1) why.Lex (cond (n == 2) why.Mnemonic (cond (n == 3) why.Operand (cond (n == 4) why.Range (cond (n == 5) why.Symbol
    (cond (n == 6) why.Twice (cond (n == 7) why.Overlap (cond (n == 8) why.Past (cond (n == 9) why.Directive why.Memory))))))))

why_back : (w : AsmWhy) → why_at (number_of w) ≡ w
why_back why.Lex = refl
why_back why.Mnemonic = refl
why_back why.Operand = refl
why_back why.Range = refl
why_back why.Symbol = refl
why_back why.Twice = refl
why_back why.Overlap = refl
why_back why.Past = refl
why_back why.Directive = refl
why_back why.Memory = refl

-- the least why is one
pub same_least : (Stands : AsmWhy → Type 0) (v w : AsmWhy) → IsLeast Stands v → IsLeast Stands w → v ≡ w
same_least Stands v w a b = grind (arith, nat_tests, why_back v, why_back w)

-- ---- one line

-- where some lines end, and the names by then
pub record IsAfter (before : List Laid) (place : Place) : Type 0 where
  pub address : place.address ≡ end_from 0 before
  pub made : IsMadeOf place.symbols (predefined_names ++ names_by before)

pub same_place : (before : List Laid) (place : Place) → IsAfter before place → place ≡ place_after before
same_place before place a = λ i. record { address = a.address i; symbols = a.made.is i }

abbrev pub lay : List ℕ → Place → List Token → Effect → Laid
lay line place tokens effect = record { source = line; address = place.address; tokens = tokens; effect = effect }

end_more : (address : ℕ) (before : List Laid) (l : Laid) → end_from address (before ++ l ∷ []) ≡ end_after l.effect
    (end_from address before)
end_more address [] l = refl
end_more address (b ∷ bs) l = end_more (end_after b.effect address) bs l

names_more : (before : List Laid) (l : Laid) → names_by (before ++ l ∷ []) ≡ names_by before ++ names_in l
names_more [] l = append-nil (names_in l)
names_more (b ∷ bs) l = ap (λ ns. names_in b ++ ns) (names_more bs l) ∙ sym (append_assoc (names_in b) (names_by bs) (names_in l))

placed_end : (effect : Effect) (address next : ℕ) → address_after effect address ≡ Ok next → next ≡ end_after effect address
placed_end (Move to) address next e = sym (ok_same to next e)
placed_end Wrong address next e = absurd cc
placed_end (Take n even) address next e = go (nat_lt 65536 (address + n)) (even && not (address % 2 == 0)) e
  where
    go : (past odd : Bool) → cond past (Err why.Past) (cond odd (Err why.Directive) (Ok (address + n))) ≡ Ok next → next ≡ address + n
    go true odd e' = absurd cc
    go false true e' = absurd cc
    go false false e' = sym (ok_same (address + n) next e')
placed_end other address next e = sym (ok_same address next e)

-- the place after a line that was laid out
past_line : (follows : Bool) (line : List ℕ) (before : List Laid) (place next : Place) (l : LaidLine follows line place next)
    → IsAfter before place → IsAfter (before ++ lay line place l.tokens l.effect ∷ []) next
past_line follows line before place next l a =
    let s = lay line place l.tokens l.effect in
    let es = predefined_names ++ names_by before in
    let labels = label_entries (label_of line l.tokens) place.address in
    let equs = equ_entries l.effect (first_text line (arguments_in line l.tokens)) in
    let label = label_made (label_of line l.tokens) place l.first es l.is_labelled a.made in
    let equ = equ_made l.effect (first_text line (arguments_in line l.tokens)) l.first l.second (es ++ labels) l.is_named label.0 in
    let order : (es ++ labels) ++ equs ≡ predefined_names ++ names_by (before ++ s ∷ []) =
    append_assoc es labels equs ∙ append_assoc predefined_names (names_by before) (labels ++ equs) ∙ ap (λ ns. predefined_names ++ ns)
    (sym (names_more before s)) in
    record {
      address = placed_end l.effect place.address next.address l.is_placed ∙ ap (end_after l.effect) a.address ∙ sym (end_more 0 before s);
      made = subst (IsMadeOf next.symbols) order (subst (λ m. IsMadeOf m ((es ++ labels) ++ equs)) (sym l.has_symbols) equ.0);
    }

-- it has no fault
laid_sound : (follows : Bool) (line : List ℕ) (before : List Laid) (place next : Place) (l : LaidLine follows line place next)
    → after_line follows line place ≡ Ok next → IsAfter before place → IsLaid before (lay line place l.tokens l.effect) follows
laid_sound follows line before place next l e a = record {
  located = a.address;
  read = l.is_content;
  does = ap (λ m. effect_in line m follows l.tokens) (sym a.made.is) ∙ l.is_effect;
  sound = λ w h. sound_line follows line place next e w (subst (λ p. InFirstPass follows line p w) (sym (same_place before place a)) h);
}

-- a line without fault is laid out
pub record IsPassed (before : List Laid) (l : Laid) (follows : Bool) (place : Place) : Type 0 where
  pub next : Place
  pub goes : after_line follows l.source place ≡ Ok next
  pub after : IsAfter (before ++ l ∷ []) next

passed : (before : List Laid) (l : Laid) (follows : Bool) (place : Place) → IsLaid before l follows → IsAfter before place → IsPassed before
    l follows place
passed before l follows place is a = go (after_line follows l.source place) refl
  where
    same_laid : (tokens : List Token) (effect : Effect) → content_of l.source ≡ Ok tokens → effect_in l.source place.symbols follows
        tokens ≡ Ok effect → lay l.source place tokens effect ≡ l
    same_laid tokens effect c f =
        let t : tokens ≡ l.tokens = ok_same tokens l.tokens (sym c ∙ is.read) in
        let g : effect_in l.source place.symbols follows tokens ≡ Ok l.effect = ap (λ ts. effect_in l.source place.symbols follows ts) t
        ∙ ap (λ m. effect_in l.source m follows l.tokens) a.made.is ∙ is.does in
        let e : effect ≡ l.effect = ok_same effect l.effect (sym f ∙ g) in
        let at : place.address ≡ l.address = a.address ∙ sym is.located in
        λ i. record { source = l.source; address = at i; tokens = t i; effect = e i }

    go : (o : OrFault Place) → after_line follows l.source place ≡ o → IsPassed before l follows place
    go (Err w) e = absurd (is.sound w (subst (λ p. InFirstPass follows l.source p w) (same_place before place a)
        (refused_stands follows l.source place w e)))
    go (Ok next) e =
        let it = laid_line follows l.source place next e in
        record {
          next = next;
          goes = e;
          after = subst (λ x. IsAfter (before ++ x ∷ []) next)
              (same_laid it.tokens it.effect it.is_content it.is_effect) (past_line follows l.source before place next it a);
        }

-- ---- all lines

-- lines that were laid out after others
pub record LaidOut (before : List Laid) (lines : List (List ℕ)) (layout : Layout) : Type 0 where
  pub rest : List Laid
  pub sources : map (λ x. x.source) rest ≡ lines
  pub addresses : map (λ x. x.address) rest ≡ layout.addresses
  pub laid : AreLaid before rest []
  pub symbols : layout.symbols ≡ (place_after (before ++ rest)).symbols

-- the first fault of lines after others
pub record FaultFrom (before : List Laid) (k : ℕ) (lines : List (List ℕ)) (e : AsmError) : Type 0 where
  pub more : List Laid
  pub line : List ℕ
  pub after : List (List ℕ)
  pub cut : lines ≡ map (λ x. x.source) more ++ line ∷ after
  pub numbered : e.line ≡ k + length more
  pub laid : AreLaid before more (line ∷ after)
  pub fault : IsLeast (InFirstPass (list_any is_instruction_line after) line (place_after (before ++ more))) e.why

abbrev pub LayoutSays : List Laid → ℕ → List (List ℕ) → Result Layout AsmError → Type 0
LayoutSays before k lines (Ok layout) = LaidOut before lines layout
LayoutSays before k lines (Err e) = FaultFrom before k lines e

one_more_says : (before : List Laid) (l : Laid) (k : ℕ) (lines : List (List ℕ)) (r : Result Layout AsmError) → IsLaid before l
    (list_any is_instruction_line lines)
    → LayoutSays (before ++ l ∷ []) (k + 1) lines r → LayoutSays before k (l.source ∷ lines) (with_address l.address r)
one_more_says before l k lines (Ok layout) is h = record {
  rest = l ∷ h.rest;
  sources = ap (λ ls. l.source ∷ ls) h.sources;
  addresses = ap (λ xs. l.address ∷ xs) h.addresses;
  laid = (
    subst (λ ls. IsLaid before l (list_any is_instruction_line ls))
        (sym h.sources ∙ sym (append-nil (map (λ (x : Laid). x.source) h.rest))) is,
    h.laid,
  );
  symbols = h.symbols ∙ ap (λ ls. (place_after ls).symbols) (append_assoc before (l ∷ []) h.rest);
}
one_more_says before l k lines (Err e) is h = record {
  more = l ∷ h.more;
  line = h.line;
  after = h.after;
  cut = ap (λ ls. l.source ∷ ls) h.cut;
  numbered = omega (arith, h.numbered);
  laid = (subst (λ ls. IsLaid before l (list_any is_instruction_line ls)) h.cut is, h.laid);
  fault = subst (λ ls. IsLeast (InFirstPass (list_any is_instruction_line h.after) h.line (place_after ls)) e.why)
      (append_assoc before (l ∷ []) h.more) h.fault;
}

line_says : (before : List Laid) (line : List ℕ) (k : ℕ) (place : Place) (lines : List (List ℕ)) → IsAfter before place
    → ((bs : List Laid) (next : Place) → IsAfter bs next → LayoutSays bs (k + 1) lines (layout_from (k + 1) next lines))
    → (o : OrFault Place) → after_line (list_any is_instruction_line lines) line place ≡ o
    → LayoutSays before k (line ∷ lines) (at_line k o (λ next. with_address place.address (layout_from (k + 1) next lines)))
line_says before line k place lines a more (Err w) e = record {
  more = [];
  line = line;
  after = lines;
  cut = refl;
  numbered = omega arith;
  laid = tt;
  fault = subst (λ p. IsLeast (InFirstPass (list_any is_instruction_line lines) line p) w)
      (same_place _ _ a ∙ ap place_after (sym (append-nil before))) (least_line _ _ _ _ e);
}
line_says before line k place lines a more (Ok next) e =
    let it = laid_line (list_any is_instruction_line lines) line place next e in
    let l = lay line place it.tokens it.effect in
    one_more_says before l k lines (layout_from (k + 1) next lines) (laid_sound (list_any is_instruction_line lines) line before place next
    it e a) (more (before ++ l ∷ []) next (past_line (list_any is_instruction_line lines) line before place next it a))

layout_says : (lines : List (List ℕ)) (before : List Laid) (k : ℕ) (place : Place) → IsAfter before place → LayoutSays before k lines
    (layout_from k place lines)
unfolding layout_from
layout_says [] before k place a = record {
  rest = [];
  sources = refl;
  addresses = refl;
  laid = tt;
  symbols = a.made.is ∙ ap (λ ls. from_entries {R = slice_cmp nat_cmp} (predefined_names ++ names_by ls)) (sym (append-nil before));
}
layout_says (line ∷ lines) before k place a =
    line_says before line k place lines a (λ bs next h. layout_says lines bs (k + 1) next h)
    (after_line (list_any is_instruction_line lines) line place) refl

pub begins : IsAfter [] start
begins = record { address = refl; made = subst (IsMadeOf start.symbols) (sym (append-nil predefined_names)) predefined_made }

-- what the first pass says of a source's lines
pub lines_say : (lines : List (List ℕ)) → LayoutSays [] 1 lines (layout_of lines)
lines_say lines = layout_says lines [] 1 start begins

pub first_pass_fault : (lines : List (List ℕ)) (e : AsmError) → FaultFrom [] 1 lines e → FirstPassFault lines e.line e.why
first_pass_fault lines e f = record {
  before = f.more;
  line = f.line;
  after = f.after;
  cut = f.cut;
  numbered = omega (arith, f.numbered);
  laid = f.laid;
  fault = f.fault;
}

-- ---- and back

abbrev pub with_front : List ℕ → Result Layout AsmError → Result Layout AsmError
with_front front (Ok layout) = Ok (record { addresses = front ++ layout.addresses; symbols = layout.symbols })
with_front front (Err e) = Err e

front_none : (r : Result Layout AsmError) → r ≡ with_front [] r
front_none (Ok layout) = refl
front_none (Err e) = refl

front_more : (address : ℕ) (front : List ℕ) (r : Result Layout AsmError) → with_address address (with_front front r) ≡ with_front
    (address ∷ front) r
front_more address front (Ok layout) = refl
front_more address front (Err e) = refl

-- lines without fault are passed
pub record ArePassed (before ls : List Laid) (k : ℕ) (place : Place) (after : List (List ℕ)) : Type 0 where
  pub next : Place
  pub ends : IsAfter (before ++ ls) next
  pub goes : layout_from k place (map (λ x. x.source) ls ++ after) ≡ with_front (map (λ x. x.address) ls)
      (layout_from (k + length ls) next after)

all_passed : (before ls : List Laid) (k : ℕ) (place : Place) (after : List (List ℕ)) → IsAfter before place → AreLaid before ls after
    → ArePassed before ls k place after
unfolding layout_from
all_passed before [] k place after a laid =
    let same : k ≡ k + 0 = omega arith in
    record {
      next = place;
      ends = subst (λ ls. IsAfter ls place) (sym (append-nil before)) a;
      goes = ap (λ n. layout_from n place after) same ∙ front_none (layout_from (k + 0) place after);
    }
all_passed before (l ∷ ls) k place after a laid =
    let lines = map (λ (x : Laid). x.source) ls ++ after in
    let here = passed _ _ _ _ laid.0 a in
    let rest = all_passed (before ++ l ∷ []) ls (k + 1) here.next after here.after laid.1 in
    let count : k + 1 + length ls ≡ k + suc (length ls) = omega arith in
    let at : place.address ≡ l.address = a.address ∙ sym laid.0.located in
    record {
      next = rest.next;
      ends = subst (λ xs. IsAfter xs rest.next) (append_assoc before (l ∷ []) ls) rest.ends;
      goes =
          ap (λ (o : OrFault Place). at_line k o (λ next. with_address place.address (layout_from (k + 1) next lines))) here.goes
          ∙ ap (λ (n : ℕ). with_address n (layout_from (k + 1) here.next lines)) at ∙ ap (with_address l.address) rest.goes
          ∙ front_more _ _ _ ∙ ap (λ n. with_front (l.address ∷ map (λ (x : Laid). x.address) ls) (layout_from n rest.next after)) count;
    }

-- a line with a fault is refused for it
fault_refused : (follows : Bool) (line : List ℕ) (place : Place) (w : AsmWhy) → IsLeast (InFirstPass follows line place) w
    → after_line follows line place ≡ Err w
fault_refused follows line place w is = go (after_line follows line place) refl
  where
    go : (o : OrFault Place) → after_line follows line place ≡ o → o ≡ Err w
    go (Ok next) e = absurd (sound_line follows line place next e w is.stands)
    go (Err v) e = ap (λ u. Err u) (same_least (InFirstPass follows line place) v w (least_line follows line place v e) is)

pub fault_laid : (lines : List (List ℕ)) (n : ℕ) (w : AsmWhy) → FirstPassFault lines n w → layout_of lines ≡ Err
    (record { line = n; why = w })
unfolding layout_from
fault_laid lines n w f =
    let p = all_passed _ _ _ _ _ begins f.laid in
    let follows = list_any is_instruction_line f.after in
    let refused = fault_refused _ _ _ _ (subst (λ q. IsLeast (InFirstPass follows f.line q) w) (sym (same_place _ _ p.ends)) f.fault) in
    let count : 1 + length f.before ≡ n = omega (arith, f.numbered) in
    ap layout_of f.cut ∙ p.goes ∙ ap (λ (o : OrFault Place). with_front (map (λ (x : Laid). x.address) f.before)
    (at_line (1 + length f.before) o (λ next. with_address p.next.address (layout_from (1 + length f.before + 1) next f.after)))) refused
    ∙ ap (λ m. Err (record { line = m; why = w })) count

-- lines of which none has a fault are laid out
pub all_laid_out : (ls : List Laid) → AreLaid [] ls [] → layout_of (map (λ x. x.source) ls) ≡ Ok
    (record { addresses = map (λ x. x.address) ls; symbols = (place_after ls).symbols })
unfolding layout_from
all_laid_out ls laid =
    let p = all_passed [] ls 1 start [] begins laid in
    ap layout_of (sym (append-nil (map (λ (x : Laid). x.source) ls))) ∙ p.goes
    ∙ (λ i. Ok (record { addresses = append-nil (map (λ (x : Laid). x.address) ls) i; symbols = p.ends.made.is i }))

-- where a line without fault ends
pub placed_laid : (front : List Laid) (l : Laid) (follows : Bool) → IsLaid front l follows → address_after l.effect l.address ≡ Ok
    (end_after l.effect l.address)
placed_laid front l follows is = subst (λ a. address_after l.effect a ≡ Ok (end_after l.effect a)) (sym is.located)
    (go (address_after l.effect (end_from 0 front)) refl)
  where
    none_stands : (w : AsmWhy) → NoPlace l.effect (end_from 0 front) w → ⊥
    none_stands w (inl past) = is.sound why.Past (l.tokens, is.read, (past.1, past.2, is.does ∙ ap (λ f. Ok f) past.3, past.4))
    none_stands w (inr (is_w, inl wrong)) = is.sound why.Directive (l.tokens, is.read, inl (is.does ∙ ap (λ f. Ok f) wrong))
    none_stands w (inr (is_w, inr odd)) = is.sound why.Directive (l.tokens, is.read, inr (odd.0, is.does ∙ ap (λ f. Ok f) odd.1, odd.2))

    go : (o : OrFault ℕ) → address_after l.effect (end_from 0 front) ≡ o → o ≡ Ok (end_after l.effect (end_from 0 front))
    go (Ok next) e = ap (λ n. Ok n) (placed_end l.effect (end_from 0 front) next e)
    go (Err w) e = absurd (none_stands w (no_place l.effect (end_from 0 front) w e))
