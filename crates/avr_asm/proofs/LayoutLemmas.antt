-- One more line is laid out.
use Rattle.std.proofs.Common.{◌≡◌, ℕ, zero, suc, ◌+◌, ◌-◌, ◌<◌, ◌≤◌, Bool, true, false, ◌||◌, List, [], ◌∷◌, ◌++◌, Bor, length, get_or}
use Rattle.std.proofs.Common.{drop, map, nat_lt, ◌⊎◌, inl, inr, refl, sym, ◌∙◌, ap, append_assoc, add-one, drop-cons, drop-drop, arith}
use Rattle.std.specs.Prelude.{Option, Result, Ok, Err}
use Rattle.std.specs.List.{list_any}
use Rattle.std.proofs.lemmas.List.{drop_all, append-nil}
use Rattle.std.proofs.lemmas.Bool.Decides.{nat_tests}
use Rattle.avr_text.specs.declared.tokens.Token.{Token}
use Rattle.avr_text.specs.Tokens.{text_of}
use Rattle.avr_asm.specs.declared.errors.AsmError.{AsmError}
use Rattle.avr_text.specs.declared.errors.AsmWhy.{AsmWhy}
use Rattle.avr_text.specs.declared.errors.AsmWhy.TheVariants.{Memory}
use Rattle.avr_asm.specs.declared.layout.Place.{Place}
use Rattle.avr_asm.specs.declared.first_pass.Effect.{Effect}
use Rattle.avr_asm.specs.declared.lines.Action.{Action}
use Rattle.avr_text.specs.Faults.{OrFault}
use Rattle.avr_asm.specs.Lines.{content_of, label_of, body_of, action_of, arguments_of, first_text}
use Rattle.avr_asm.specs.Layout.{Layout, with_address, at_line, layout_from, after_line, is_instruction_line, IsLast}
use Rattle.avr_asm.specs.Layout.{applied, arguments_in, effect_in}

-- addresses in front of those of a layout
abbrev pub with_addresses : List ℕ → Result Layout AsmError → Result Layout AsmError
with_addresses front (Ok layout) = Ok (record { addresses = front ++ layout.addresses; symbols = layout.symbols })
with_addresses front (Err fault) = Err fault

with_more : (front : List ℕ) (a : ℕ) (r : Result Layout AsmError) → with_addresses (front ++ a ∷ []) r ≡ with_addresses front
    (with_address a r)
with_more front a (Ok layout) = cc (append_assoc front (a ∷ []) layout.addresses)
with_more front a (Err fault) = refl

line_there : (k i : ℕ) (place : Place) (lines : List (List ℕ)) (line : List ℕ) → i < length lines → line ≡ get_or lines i [] → layout_from k
    place (drop i lines)
    ≡ at_line k (after_line (list_any is_instruction_line (drop (i + 1) lines)) line place)
    (λ next. with_address place.address (layout_from (k + 1) next (drop (i + 1) lines)))
unfolding layout_from
line_there k i place lines line h e = rw (e, add-one, drop-cons lines i [] h) refl

-- a line that is laid out
pub more_lines : (i : ℕ) (place next : Place) (lines : List (List ℕ)) (line : List ℕ) (follows : Bool) (front more : List ℕ)
    → i < length lines → line ≡ get_or lines i [] → follows ≡ list_any is_instruction_line (drop (i + 1) lines)
    → after_line follows line place ≡ Ok next → more ≡ front ++ place.address ∷ []
    → with_addresses more (layout_from (i + 1 + 1) next (drop (i + 1) lines)) ≡ with_addresses front
    (layout_from (i + 1) place (drop i lines))
more_lines i place next lines line follows front more h e is_follows is_next is_more =
    grind (arith, nat_tests, line_there (i + 1) i place lines line h e, with_more front place.address)

-- a line with a fault
pub faulty_line : (i : ℕ) (place : Place) (lines : List (List ℕ)) (line : List ℕ) (follows : Bool) (front : List ℕ) (why : AsmWhy)
    → i < length lines → line ≡ get_or lines i [] → follows ≡ list_any is_instruction_line (drop (i + 1) lines)
    → after_line follows line place ≡ Err why → with_addresses front (layout_from (i + 1) place (drop i lines)) ≡ Err
    (record { line = i + 1; why = why })
faulty_line i place lines line follows front why h e is_follows is_fault =
    grind (arith, nat_tests, line_there (i + 1) i place lines line h e)

-- no line is left
pub last_line : (k i : ℕ) (place : Place) (lines : List (List ℕ)) (front : List ℕ) → length lines ≤ i → with_addresses front
    (layout_from k place (drop i lines)) ≡ Ok (record { addresses = front; symbols = place.symbols })
unfolding layout_from
last_line k i place lines front h = cc (drop_all i lines h, append-nil front)

-- which lines are followed by an instruction's
any_here : (f : List ℕ → Bool) (lines : List (List ℕ)) (i : ℕ) → i < length lines → f (get_or lines i []) ≡ true
    → list_any f (drop i lines) ≡ true
any_here f lines i h e = rw (drop-cons lines i [] h) (ap (λ b. b || list_any f (drop (suc i) lines)) e)

any_before : (f : List ℕ → Bool) (n : ℕ) (lines : List (List ℕ)) → list_any f (drop n lines) ≡ true → list_any f lines ≡ true
any_before f (suc n) (x ∷ xs) e = elim (f x) as (λ b. (b || list_any f xs) ≡ true) [ true ↦ refl | false ↦ any_before f n xs e ]
any_before f other lines e = e

none_after : (f : List ℕ → Bool) (n : ℕ) (lines : List (List ℕ)) → list_any f lines ≡ false → list_any f (drop n lines) ≡ false
none_after f n lines e = grind (arith, nat_tests, any_before f n lines)

pub is_last : (lines : List (List ℕ)) (i : ℕ) → i < length lines → is_instruction_line (get_or lines i []) ≡ true
    → list_any is_instruction_line (drop (i + 1) lines) ≡ false → IsLast lines (i + 1)
is_last lines i h here none k =
    grind (
      arith,
      nat_tests,
      drop-drop (i - k) k lines,
      any_before is_instruction_line (i - k),
      any_here is_instruction_line lines i h here,
      drop-drop (k - (i + 1)) (i + 1) lines,
      none_after is_instruction_line (k - (i + 1)),
    )

pub none_last : (lines : List (List ℕ)) → list_any is_instruction_line (drop 0 lines) ≡ false → IsLast lines 0
none_last lines e k = let no : nat_lt k 0 ≡ false = grind (arith, nat_tests) in no ∙ sym (none_after is_instruction_line k lines e)

-- the same of lines that are lent
mapped_at : (ls : List (Bor (List ℕ))) (i : ℕ) (d : Bor (List ℕ)) → i < length ls → get_or (map (λ l. l.now) ls) i [] ≡ (get_or ls i d).now
mapped_at [] i d h = absurd (omega arith)
mapped_at (l ∷ ls) zero d h = refl
mapped_at (l ∷ ls) (suc i) d h = mapped_at ls i d (omega arith)

mapped_len : (ls : List (Bor (List ℕ))) → length (map (λ l. l.now) ls) ≡ length ls
mapped_len [] = refl
mapped_len (l ∷ ls) = ap suc (mapped_len ls)

pub here_last : (ls : List (Bor (List ℕ))) (i : ℕ) (d : Bor (List ℕ)) (b : Bool) → 0 < i → i ≤ length ls → b ≡ is_instruction_line
    (get_or ls (i - 1) d).now → b ≡ true
    → list_any is_instruction_line (drop i (map (λ l. l.now) ls)) ≡ false → IsLast (map (λ l. l.now) ls) (i - 1 + 1)
here_last ls i d b some within is here none = grind (arith, nat_tests, mapped_len ls, is_last, mapped_at ls (i - 1) d)

pub none_here : (ls : List (Bor (List ℕ))) (i : ℕ) (d : Bor (List ℕ)) (b : Bool) → 0 < i → i ≤ length ls → b ≡ is_instruction_line
    (get_or ls (i - 1) d).now → b ≡ false
    → list_any is_instruction_line (drop i (map (λ l. l.now) ls)) ≡ false → list_any is_instruction_line
    (drop (i - 1) (map (λ l. l.now) ls)) ≡ false
none_here ls i d b some within is here none = grind (arith, nat_tests, mapped_len ls, mapped_at ls (i - 1) d, drop-cons)

-- all lines: the place in the list is past the end
pub none_at_end : (ls : List (Bor (List ℕ))) (i : ℕ) → length ls ≤ i → list_any is_instruction_line (drop i (map (λ l. l.now) ls)) ≡ false
none_at_end ls i h = ap (list_any is_instruction_line) (drop_all i (map (λ (l : Bor (List ℕ)). l.now) ls) (omega (arith, mapped_len ls)))

pub more_lent : (i : ℕ) (place next : Place) (ls : List (Bor (List ℕ))) (d : Bor (List ℕ)) (follows : Bool) (last : ℕ) (front more : List ℕ)
    → i < length ls → IsLast (map (λ l. l.now) ls) last → follows ≡ nat_lt (i + 1) last
    → after_line follows (get_or ls i d).now place ≡ Ok next → more ≡ front ++ place.address ∷ []
    → with_addresses more (layout_from (i + 1 + 1) next (drop (i + 1) (map (λ l. l.now) ls))) ≡ with_addresses front
    (layout_from (i + 1) place (drop i (map (λ l. l.now) ls)))
more_lent i place next ls d follows last front more h is_last is_follows is_next is_more =
    grind (arith, nat_tests, more_lines i place next, mapped_len ls, mapped_at ls i d h)

pub faulty_lent : (i : ℕ) (place : Place) (ls : List (Bor (List ℕ))) (d : Bor (List ℕ)) (follows : Bool) (last : ℕ) (front : List ℕ)
    (why : AsmWhy) → i < length ls → IsLast (map (λ l. l.now) ls) last → follows ≡ nat_lt (i + 1) last
    → after_line follows (get_or ls i d).now place ≡ Err why → with_addresses front
    (layout_from (i + 1) place (drop i (map (λ l. l.now) ls))) ≡ Err (record { line = i + 1; why = why })
faulty_lent i place ls d follows last front why h is_last is_follows is_fault =
    grind (arith, nat_tests, faulty_line i place, mapped_len ls, mapped_at ls i d h)

pub last_lent : (k i : ℕ) (place : Place) (ls : List (Bor (List ℕ))) (front : List ℕ) → length ls ≤ i → with_addresses front
    (layout_from k place (drop i (map (λ l. l.now) ls))) ≡ Ok (record { addresses = front; symbols = place.symbols })
last_lent k i place ls front h = last_line k i place (map (λ (l : Bor (List ℕ)). l.now) ls) front (omega (arith, mapped_len ls))

pub none_last_from : (lines : List (List ℕ)) (i : ℕ) → i ≤ 0 → list_any is_instruction_line (drop i lines) ≡ false → IsLast lines 0
none_last_from lines zero h e = none_last lines e
none_last_from lines (suc i) h e = absurd (omega arith)

-- a line's fault is told with its line, and want of memory with none
pub told_fault : {X Y : Type 0} (k : ℕ) (why : AsmWhy) (told : AsmError) (says : OrFault X) (whole : Result Y AsmError) → (why ≡ Memory)
    ⊎ (says ≡ Err why) → (says ≡ Err why → whole ≡ Err (record { line = k; why = why }))
    → told.why ≡ why → (why ≡ Memory) ⊎ (told.line ≡ k) → (told.why ≡ Memory) ⊎ (whole ≡ Err told)
told_fault k why told says whole (inl m) f w l = inl (w ∙ m)
told_fault k why told says whole (inr e) f w (inl m) = inl (w ∙ m)
told_fault k why told says whole (inr e) f w (inr l) = inr (f e ∙ (λ i. Err (record { line = sym l i; why = sym w i })))

-- the arguments of a line, and the text of the first
pub arguments_told : (line : List ℕ) (tokens body arguments : List Token) (action : Action) → body ≡ body_of tokens
    → action ≡ action_of line body → arguments ≡ arguments_of action body → arguments ≡ arguments_in line tokens
arguments_told line tokens body arguments action body_is action_is is = cc

pub first_there : (line : List ℕ) (arguments there : List Token) (d : Token) → 1 ≤ length arguments → arguments ≡ there
    → text_of line (get_or arguments 0 d) ≡ first_text line there
first_there line [] there d h is = absurd (omega arith)
first_there line (t ∷ ts) there d h is = ap (first_text line) is

pub first_missing : (line : List ℕ) (arguments there : List Token) → length arguments ≡ 0 → arguments ≡ there → [] ≡ first_text line there
first_missing line [] there h is = ap (first_text line) is
first_missing line (t ∷ ts) there h is = absurd (omega arith)

-- a line's tokens and what they do give its place
pub after_told : (follows : Bool) (line : List ℕ) (place : Place) (tokens lent : List Token) (effect : Effect) (label : Option (List ℕ))
    (name : List ℕ) → content_of line ≡ Ok tokens → lent ≡ tokens → effect_in line place.symbols follows lent ≡ Ok effect
    → label ≡ label_of line lent → name ≡ first_text line (arguments_in line lent)
    → applied label name effect place ≡ after_line follows line place
unfolding after_line
after_told follows line place tokens lent effect label name content is does label_is name_is = cc
