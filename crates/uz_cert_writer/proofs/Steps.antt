-- One more word or line at the end of a text.
use Rattle.uz_cert_writer.proofs.Common.{◌≡◌, ℕ, ◌+◌, ◌<◌, ◌≤◌, Bool, true, false, cond, List, [], ◌∷◌, ◌++◌, map, drop, get_or, length}
use Rattle.uz_cert_writer.proofs.Common.{decimal, refl, sym, ◌∙◌, ap, arith, append_assoc, append-nil, Cell, Event, line_of, unless, item}
use Rattle.uz_cert_writer.proofs.Common.{fact_word, register_items, cell_items, Second, kind_words, event_words, kinds_then, spaced}
use Rattle.uz_cert_writer.proofs.Common.{ended, line_end}
use Rattle.std.proofs.{lemmas.Bool.Decides.nat_tests, lemmas.List.drop_all, Common.suc, Common.add-one, Common.drop-cons}
use Rattle.uz_schedule.specs.{Limits.lengths_fit, Tracked.tracks, declared.kinds.Kind.Kind, declared.facts.Fact.Fact}
use Rattle.uz_cert_lines.specs.Defaults.{is_default, is_range}
use Rattle.uz_cert_writer.specs.Spelling.{options, register_item}
use Rattle.uz_cert_writer.proofs.Joining.{spaced_append, ended_append, line_ended}

-- pieces put one after another

pub added : (old new piece rest all : List ℕ) → new ≡ old ++ piece → old ++ (piece ++ rest) ≡ all → new ++ rest ≡ all
added old new piece rest all e f = ap (λ t. t ++ rest) e ∙ append_assoc old piece rest ∙ f

pub added_two : (old mid new a b rest all : List ℕ) → mid ≡ old ++ a → new ≡ mid ++ b → old ++ (a ++ (b ++ rest)) ≡ all → new ++ rest ≡ all
added_two old mid new a b rest all e f g =
    added mid new b rest all f (added old mid a (b ++ rest) all e g)

-- an item, or none, and then others
pub unless_first : (t : Bool) (word : List ℕ) (words : List (List ℕ)) → spaced (unless t word words) ≡ spaced (unless t word [])
    ++ spaced words
unless_first true word words = refl
unless_first false word words = ap (λ t. 32 ∷ t) (ap (λ t. t ++ spaced words) (sym (append-nil word)))

pub left : {A : Type 0} (xs : List A) (k : ℕ) (x d : A) → k < length xs → x ≡ get_or xs k d → drop k xs ≡ x ∷ drop (k + 1) xs
left xs k x d h e = drop-cons xs k d h ∙ ap (λ y. y ∷ drop (suc k) xs) (sym e) ∙ ap (λ n. x ∷ drop n xs) (sym (add-one k))

-- pieces put, and what was left with one of them
pub put : (old new piece rest left all : List ℕ) → new ≡ old ++ piece → left ≡ piece ++ rest → old ++ left ≡ all → new ++ rest ≡ all
put old new piece rest left all e f g = added old new piece rest all e (ap (λ t. old ++ t) (sym f) ∙ g)

pub put_two : (old mid new a b rest left all : List ℕ) → mid ≡ old ++ a → new ≡ mid ++ b → left ≡ a ++ (b ++ rest) → old ++ left ≡ all
    → new ++ rest ≡ all
put_two old mid new a b rest left all e f g h = added_two old mid new a b rest all e f (ap (λ t. old ++ t) (sym g) ∙ h)

-- one more word of a list of them, behind a space
pub word_added : {A : Type 0} (word : A → List ℕ) (old mid new all : List ℕ) (xs : List A) (k : ℕ) (x : A) → k < length xs
    → x ≡ get_or xs k x → mid ≡ old ++ (32 ∷ []) → new ≡ mid ++ word x → old ++ spaced (map word (drop k xs)) ≡ all
    → new ++ spaced (map word (drop (k + 1) xs)) ≡ all
word_added word old mid new all xs k x h e f g before =
    put_two old mid new (32 ∷ []) (word x) (spaced (map word (drop (k + 1) xs))) (spaced (map word (drop k xs))) all f g
    (ap (λ ys. spaced (map word ys)) (left xs k x x h e)) before

-- one more word of a list of them, with its space
pub word_put : {A : Type 0} (word : A → List ℕ) (old new all : List ℕ) (xs : List A) (k : ℕ) (x d : A) → k < length xs → x ≡ get_or xs k d
    → new ≡ old ++ (32 ∷ word x) → old ++ spaced (map word (drop k xs)) ≡ all → new ++ spaced (map word (drop (k + 1) xs)) ≡ all
word_put word old new all xs k x d h e f before =
    put old new (32 ∷ word x) (spaced (map word (drop (k + 1) xs))) (spaced (map word (drop k xs))) all f
    (ap (λ ys. spaced (map word ys)) (left xs k x d h e)) before

-- one more word that begins as they all do, with a space before it
pub word_begun : {A : Type 0} (begin : List ℕ) (word : A → List ℕ) (old mid new all : List ℕ) (xs : List A) (k : ℕ) (x d : A)
    → k < length xs → x ≡ get_or xs k d → mid ≡ old ++ (32 ∷ begin) → new ≡ mid ++ word x
    → old ++ spaced (map (λ y. begin ++ word y) (drop k xs)) ≡ all → new ++ spaced (map (λ y. begin ++ word y) (drop (k + 1) xs)) ≡ all
word_begun begin word old mid new all xs k x d h e f g before =
    let rest = spaced (map (λ y. begin ++ word y) (drop (k + 1) xs)) in
    put_two old mid new (32 ∷ begin) (word x) rest (spaced (map (λ y. begin ++ word y) (drop k xs))) all f g
    (ap (λ ys. spaced (map (λ y. begin ++ word y) ys)) (left xs k x d h e) ∙ ap (λ t. 32 ∷ t) (append_assoc begin (word x) rest)) before

-- nothing is left
pub nothing_left : (text left all : List ℕ) → left ≡ [] → text ++ left ≡ all → text ≡ all
nothing_left text left all e f = sym (append-nil text) ∙ ap (λ t. text ++ t) (sym e) ∙ f

-- no word is left
pub words_over : {A : Type 0} (word : A → List ℕ) (text all : List ℕ) (xs : List A) (k : ℕ) → length xs ≤ k
    → text ++ spaced (map word (drop k xs)) ≡ all → text ≡ all
words_over word text all xs k h before = nothing_left text _ all (ap (λ ys. spaced (map word ys)) (drop_all k xs h)) before

-- lists of optional items

pub item_left : {K A : Type 0} (d : K → A → Bool) (w : K → A → List ℕ) (keys : List K) (xs : List A) (i : ℕ) (k k0 : K) (x x0 : A)
    → i < length keys → i < length xs → k ≡ get_or keys i k0 → x ≡ get_or xs i x0
    → spaced (options d w (drop i keys) (drop i xs))
    ≡ spaced (unless (d k x) (w k x) []) ++ spaced (options d w (drop (i + 1) keys) (drop (i + 1) xs))
item_left d w keys xs i k k0 x x0 h j e f =
    ap (λ ks. spaced (options d w ks (drop i xs))) (left keys i k k0 h e)
    ∙ ap (λ ys. spaced (options d w (k ∷ drop (i + 1) keys) ys)) (left xs i x x0 j f)
    ∙ unless_first (d k x) (w k x) (options d w (drop (i + 1) keys) (drop (i + 1) xs))

no_values : {K A : Type 0} (d : K → A → Bool) (w : K → A → List ℕ) (keys : List K) → options d w keys [] ≡ []
no_values d w [] = refl
no_values d w (key ∷ keys) = refl

pub items_over : {K A : Type 0} (d : K → A → Bool) (w : K → A → List ℕ) (keys : List K) (xs : List A) (i : ℕ) → length xs ≤ i
    → spaced (options d w (drop i keys) (drop i xs)) ≡ []
items_over d w keys xs i h =
    ap (λ ys. spaced (options d w (drop i keys) ys)) (drop_all i xs h) ∙ ap spaced (no_values d w (drop i keys))

-- registers

-- one more register
pub register_added : (old new all : List ℕ) (kind : Kind) (fs : List Fact) (r : ℕ) (x : Fact) → r < length fs → x ≡ get_or fs r x
    → new ≡ old ++ spaced (unless (is_default kind r x) (item (114 ∷ decimal r) (fact_word x)) [])
    → old ++ spaced (register_items kind r (drop r fs)) ≡ all
    → new ++ spaced (register_items kind (r + 1) (drop (r + 1) fs)) ≡ all
register_added old new all kind fs r x h e f g =
    let word = register_item r x in
    put old new _ (spaced (register_items kind (r + 1) (drop (r + 1) fs))) (spaced (register_items kind r (drop r fs))) all f
    (ap (λ ys. spaced (register_items kind r ys)) (left fs r x x h e)
    ∙ unless_first (is_default kind r x) word (register_items kind (suc r) (drop (r + 1) fs))
    ∙ ap (λ n. spaced (unless (is_default kind r x) word []) ++ spaced (register_items kind n (drop (r + 1) fs))) (sym (add-one r))) g

-- no register is left
pub registers_over : (text all : List ℕ) (kind : Kind) (fs : List Fact) (r : ℕ) → length fs ≤ r
    → text ++ spaced (register_items kind r (drop r fs)) ≡ all → text ≡ all
registers_over text all kind fs r h before = nothing_left text _ all (ap (λ ys. spaced (register_items kind r ys)) (drop_all r fs h)) before

-- cells

no_cells : (kind : Kind) (i : ℕ) (cs : List Cell) → cell_items kind i cs [] ≡ []
no_cells kind i [] = refl
no_cells kind i (c ∷ cs) = refl

-- a cell that the kind tracks, with its fact
pub cell_added : (old new : List ℕ) (kind : Kind) (i next : ℕ) (c : Cell) (cs : List Cell) (fs : List Fact) (x : Fact)
    → tracks kind c.owner ≡ true → next < length fs → x ≡ get_or fs next x
    → new ≡ old ++ spaced (unless (is_range c.range x) (item (109 ∷ decimal i) (fact_word x)) [])
    → new ++ spaced (cell_items kind (i + 1) cs (drop (next + 1) fs)) ≡ old ++ spaced (cell_items kind i (c ∷ cs) (drop next fs))
cell_added old new kind i next c cs fs x t h e f =
    let word = item (109 ∷ decimal i) (fact_word x) in
    let later = cell_items kind (suc i) cs (drop (next + 1) fs) in
    ap (λ n. new ++ spaced (cell_items kind n cs (drop (next + 1) fs))) (add-one i)
    ∙ put old new (spaced (unless (is_range c.range x) word [])) (spaced later) (spaced (unless (is_range c.range x) word later))
    (old ++ spaced (unless (is_range c.range x) word later)) f (unless_first (is_range c.range x) word later) refl
    ∙ ap (λ b. old ++ spaced (cond b (unless (is_range c.range x) word later) (cell_items kind (suc i) cs (x ∷ drop (next + 1) fs))))
    (sym t)
    ∙ ap (λ ys. old ++ spaced (cell_items kind i (c ∷ cs) ys)) (sym (left fs next x x h e))

passed : (kind : Kind) (i : ℕ) (c : Cell) (cs : List Cell) (fs : List Fact) → tracks kind c.owner ≡ false
    → cell_items kind i (c ∷ cs) fs ≡ cell_items kind (suc i) cs fs
passed kind i c cs [] t = sym (no_cells kind (suc i) cs)
passed kind i c cs (f ∷ fs) t =
    ap (λ b. cond b (unless (is_range c.range f) (item (109 ∷ decimal i) (fact_word f)) (cell_items kind (suc i) cs fs))
    (cell_items kind (suc i) cs (f ∷ fs))) t

-- one that it doesn't track
pub cell_passed : (text : List ℕ) (kind : Kind) (i next : ℕ) (c : Cell) (cs : List Cell) (fs : List Fact) → tracks kind c.owner ≡ false
    → text ++ spaced (cell_items kind (i + 1) cs (drop next fs)) ≡ text ++ spaced (cell_items kind i (c ∷ cs) (drop next fs))
cell_passed text kind i next c cs fs t =
    ap (λ n. text ++ spaced (cell_items kind n cs (drop next fs))) (add-one i)
    ∙ ap (λ t. text ++ spaced t) (sym (passed kind i c cs (drop next fs) t))

-- no fact is left
pub cell_missing : (text : List ℕ) (kind : Kind) (i next : ℕ) (c : Cell) (cs : List Cell) (fs : List Fact) → length fs ≤ next
    → text ++ spaced (cell_items kind (i + 1) cs (drop next fs)) ≡ text ++ spaced (cell_items kind i (c ∷ cs) (drop next fs))
cell_missing text kind i next c cs fs e =
    ap (λ ys. text ++ spaced (cell_items kind (i + 1) cs ys)) (drop_all next fs e)
    ∙ ap (λ t. text ++ spaced t) (no_cells kind (i + 1) cs)
    ∙ ap (λ ys. text ++ spaced (cell_items kind i (c ∷ cs) ys)) (sym (drop_all next fs e))

-- one more cell, whatever the cells behind it
pub cell_taken : (old new all : List ℕ) (kind : Kind) (k : ℕ) (x : Cell) (cells : List Cell) (facts others : List Fact)
    → k < length cells → x ≡ get_or cells k x
    → ((cs : List Cell) → new ++ spaced (cell_items kind (k + 1) cs others) ≡ old ++ spaced (cell_items kind k (x ∷ cs) facts))
    → old ++ spaced (cell_items kind k (drop k cells) facts) ≡ all
    → new ++ spaced (cell_items kind (k + 1) (drop (k + 1) cells) others) ≡ all
cell_taken old new all kind k x cells facts others h e step before =
    step (drop (k + 1) cells)
    ∙ ap (λ cs. old ++ spaced (cell_items kind k cs facts)) (sym (left cells k x x h e))
    ∙ before

-- no cell is left
pub cells_over : (text all : List ℕ) (kind : Kind) (k : ℕ) (cells : List Cell) (facts : List Fact) → length cells ≤ k
    → text ++ spaced (cell_items kind k (drop k cells) facts) ≡ all → text ≡ all
cells_over text all kind k cells facts h before =
    nothing_left text _ all (ap (λ cs. spaced (cell_items kind k cs facts)) (drop_all k cells h)) before

-- kinds of line

pub kind_added : (old mid new : List ℕ) (events : List Event) (clocks : ℕ) (kinds : List (List Event)) (lengths : List ℕ)
    → mid ≡ old ++ line_end (kind_words Second (length events) clocks) → new ≡ mid ++ ended (map (λ e. line_of (event_words e)) events)
    → new ++ ended (kinds_then Second kinds lengths []) ≡ old ++ ended (kinds_then Second (events ∷ kinds) (clocks ∷ lengths) [])
kind_added old mid new events clocks kinds lengths e f =
    let lines = map (λ e. line_of (event_words e)) events in
    let words = kind_words Second (length events) clocks in
    let others = kinds_then Second kinds lengths [] in
    added_two old mid new (line_end words) (ended lines) (ended others)
    (old ++ ended (kinds_then Second (events ∷ kinds) (clocks ∷ lengths) [])) e f
    (ap (λ t. old ++ t) (ap (λ t. line_end words ++ t) (sym (ended_append lines others)) ∙ line_ended words (lines ++ others)))

-- one length for each kind
pub lengths_count : (kinds : List (List Event)) (lengths : List ℕ) → lengths_fit kinds lengths ≡ true → length kinds ≤ length lengths
lengths_count [] lengths h = omega arith
lengths_count (es ∷ kinds) [] h = absurd cc
lengths_count (es ∷ kinds) (n ∷ lengths) h =
    let later = lengths_count kinds lengths (grind (arith, nat_tests, h)) in
    omega (arith, later)

-- two lists of words
pub added_both : (old mid new : List ℕ) (ws vs : List (List ℕ)) → mid ≡ old ++ spaced ws → new ≡ mid ++ spaced vs → new ≡ old
    ++ spaced (ws ++ vs)
added_both old mid new ws vs e f =
    f ∙ ap (λ t. t ++ spaced vs) e ∙ append_assoc old (spaced ws) (spaced vs) ∙ ap (λ t. old ++ t) (sym (spaced_append ws vs))

-- four pieces
pub added_four : (old t1 t2 t3 new a b d e : List ℕ) → t1 ≡ old ++ a → t2 ≡ t1 ++ b → t3 ≡ t2 ++ d → new ≡ t3 ++ e
    → new ≡ old ++ (a ++ (b ++ (d ++ e)))
added_four old t1 t2 t3 new a b d e f g h i =
    i ∙ ap (λ t. t ++ e) (h ∙ ap (λ t. t ++ d) (g ∙ ap (λ t. t ++ b) f)) ∙ simp append_assoc

-- lines that are left
pub lines_left : {A : Type 0} (words : A → List (List ℕ)) (xs : List A) (k : ℕ) (x d : A) → k < length xs → x ≡ get_or xs k d
    → ended (map (λ y. line_of (words y)) (drop k xs)) ≡ line_end (words x) ++ ended (map (λ y. line_of (words y)) (drop (k + 1) xs))
lines_left words xs k x d h e =
    ap (λ ys. ended (map (λ y. line_of (words y)) ys)) (left xs k x d h e)
    ∙ sym (line_ended (words x) (map (λ y. line_of (words y)) (drop (k + 1) xs)))

-- one more line of them
pub line_added : {A : Type 0} (words : A → List (List ℕ)) (old new all : List ℕ) (xs : List A) (k : ℕ) (x d : A) → k < length xs
    → x ≡ get_or xs k d → new ≡ old ++ line_end (words x) → old ++ ended (map (λ y. line_of (words y)) (drop k xs)) ≡ all
    → new ++ ended (map (λ y. line_of (words y)) (drop (k + 1) xs)) ≡ all
line_added words old new all xs k x d h e f before =
    put old new (line_end (words x)) (ended (map (λ y. line_of (words y)) (drop (k + 1) xs)))
    (ended (map (λ y. line_of (words y)) (drop k xs))) all f (lines_left words xs k x d h e) before

-- no line is left
pub lines_over : {A : Type 0} (words : A → List (List ℕ)) (text all : List ℕ) (xs : List A) (k : ℕ) → length xs ≤ k
    → text ++ ended (map (λ y. line_of (words y)) (drop k xs)) ≡ all → text ≡ all
lines_over words text all xs k h before =
    nothing_left text _ all (ap (λ ys. ended (map (λ y. line_of (words y)) ys)) (drop_all k xs h)) before
