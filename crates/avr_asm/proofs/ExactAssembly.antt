-- What stands in the relation of a source is what the passes give.
use Rattle.std.proofs.Common.{◌≡◌, ◌≢◌, ℕ, zero, suc, ◌+◌, ◌<◌, ◌≤◌, false, cond, List, [], ◌∷◌, ◌++◌, length, map, get_or, nat_le, refl}
use Rattle.std.proofs.Common.{sym, ◌∙◌, ap, subst, append_assoc, arith, Option, None, Some, Result, Ok, Err, is_some, ℤ, pos, Ordering}
use Rattle.std.specs.List.{list_any, AllPairs}
use Rattle.std.specs.Ordering.{nat_cmp}
use Rattle.std.specs.Cmp.{IsTotalOrder}
use Rattle.std.specs.Cmp.Lexicographic.{slice_cmp, nat_list_cmp_total}
use Rattle.std.specs.FinMap.{FinMap, IsAntisymmetric, nat_cmp-IsAntisymmetric, slice_cmp-IsAntisymmetric, find, get, insert, from_entries}
use Rattle.std.specs.FinMap.{get-from_entries, from_entries_push, same_map}
use Rattle.std.proofs.lemmas.Bool.Decides.{nat_tests}
use Rattle.std.proofs.lemmas.Cmp.{nat_cmp_total, eq_by_cmp_equiv}
use Rattle.std.proofs.lemmas.List.{append-nil, length-append}
use Rattle.std.proofs.lemmas.List.Elements.{recursion_from_All}
use Rattle.std.proofs.lemmas.Map.Views.{Contains-from_lookup}
use Rattle.avr_text.specs.declared.tokens.Token.{Token}
use Rattle.avr_text.specs.Names.{NameMap}
use Rattle.avr_asm.specs.declared.errors.AsmError.{AsmError}
use Rattle.avr_text.specs.declared.errors.AsmWhy.TheVariants as why
use Rattle.avr_asm.specs.declared.first_pass.Effect.{Effect}
use Rattle.avr_asm.specs.declared.first_pass.Effect.TheVariants.{Define}
use Rattle.avr_asm.specs.declared.layout.Place.{Place}
use Rattle.avr_asm.specs.declared.output.Built.{Built}
use Rattle.avr_asm.specs.Emission.{Flash, put}
use Rattle.avr_text.specs.Faults.{OrFault, ◌>>=◌}
use Rattle.avr_asm.specs.Hints.{mapped}
use Rattle.avr_asm.specs.Layout.{is_reserved, defined, with_symbols, labelled, named, at_address, address_after, applied, arguments_in}
use Rattle.avr_asm.specs.Layout.{effect_in, after_line, is_instruction_line, with_address, at_line as at_laid, layout_from, layout_of}
use Rattle.avr_asm.specs.Layout.{start, GivesLayout}
use Rattle.avr_asm.specs.Lines.{lines_of, label_of, first_text, body_of, action_of, parts_of}
use Rattle.avr_asm.specs.LineOutputs.{LineOutput, tokens_output, line_output}
use Rattle.avr_asm.specs.Assembly.{Output, seen_built, nothing, with_line, following, at_line, output_from, output_of, assembly}
use Rattle.avr_asm.specs.Relation.{IsMapOf, Statement, end_by, end_of, label_entries, equ_entries, definitions_in, definitions_of}
use Rattle.avr_asm.specs.Relation.{predefined_names, names_of, bytes_from, bytes_of, item_of, items_of, hint_list, hints_of, IsStatement}
use Rattle.avr_asm.specs.Relation.{IsAssembly}
use Rattle.avr_asm.proofs.OutcomeLemmas.{ok_same}
use Rattle.avr_asm.proofs.EntryLists.{same_key, looked_up}
use Rattle.avr_asm.proofs.MadeMaps.{predefined_made, AreFree}
use Rattle.avr_asm.proofs.LinePuts.{with_output, line_put}
use Rattle.avr_asm.proofs.LineEnds.{WordsByName, line_end}
use Rattle.avr_asm.proofs.Statements.{Chain, chain_from, end_more, names_more, bytes_more, definitions_append}

-- no two entries have one key
abbrev pub Once : {K X : Type 0} → List (K × X) → Type 0
Once entries = AllPairs (λ a b. a.0 ≢ b.0) entries

front_at : {A : Type 0} (xs ys : List A) (i : ℕ) (d : A) → i < length xs → get_or (xs ++ ys) i d ≡ get_or xs i d
front_at [] ys i d h = absurd (omega arith)
front_at (x ∷ xs) ys zero d h = refl
front_at (x ∷ xs) ys (suc i) d h = front_at xs ys i d (omega arith)

back_at : {A : Type 0} (xs ys : List A) (y d : A) → get_or (xs ++ y ∷ ys) (length xs) d ≡ y
back_at [] ys y d = refl
back_at (x ∷ xs) ys y d = back_at xs ys y d

module _ {K X : Type 0} {R : K → K → Ordering} (o : IsTotalOrder R) (exact : IsAntisymmetric R) where
  -- a key is none of those before it
  pub new_key : (xs ys : List (K × X)) (k : K) (v : X) → Once (xs ++ (k, v) ∷ ys) → find R k xs ≡ None
  new_key xs ys k v once = by_case (find R k xs) refl
    where
      by_case : (f : Option X) → find R k xs ≡ f → f ≡ None
      by_case None e = refl
      by_case (Some w) e =
          let c = Contains-from_lookup (same_key exact) k w xs (sym (looked_up R k xs) ∙ e) in
          let inside : length xs < length (xs ++ (k, v) ∷ ys) = omega (arith, length-append xs ((k, v) ∷ ys)) in
          let first : get_or (xs ++ (k, v) ∷ ys) c.0 (k, w) ≡ (k, w) = front_at xs ((k, v) ∷ ys) c.0 (k, w) c.1 ∙ c.2 in
          let second : get_or (xs ++ (k, v) ∷ ys) (length xs) (k, w) ≡ (k, v) = back_at xs ys (k, v) (k, w) in
          absurd (once c.0 (length xs) (k, w) c.1 inside (ap (λ e. e.0) first ∙ sym (ap (λ e. e.0) second)))

  -- one that is there is found
  pub found_there : (es : List (K × X)) (k : K) (v : X) (i : ℕ) → i < length es → get_or es i (k, v) ≡ (k, v) → find R k es ≡ None → ⊥
  found_there [] k v i h e none = omega arith
  found_there (x ∷ es) k v zero h e none = grind (arith, nat_tests, eq_by_cmp_equiv o)
  found_there (x ∷ es) k v (suc i) h e none = grind (arith, nat_tests, found_there es k v i (omega arith) e)

  -- a map of entries is the one made from them
  is_made : (m : FinMap R X) (es : List (K × X)) → IsMapOf m es → m ≡ from_entries es
  is_made m es is = same_map o exact m (from_entries es) (λ q. by_case q (get m q) (find R q es) refl refl ∙ sym (get-from_entries o es q))
    where
      by_case : (q : K) (a b : Option X) → get m q ≡ a → find R q es ≡ b → get m q ≡ find R q es
      by_case q None None e f = e ∙ sym f
      by_case q a (Some v) e f = (is.exact q v).1 (Contains-from_lookup (same_key exact) q v es (sym (looked_up R q es) ∙ f)) ∙ sym f
      by_case q (Some v) None e f = let c = (is.exact q v).0 e in absurd (found_there es q v c.0 c.1 c.2 f)

-- bytes at free addresses of the flash are put
is_put_at : (at : ℕ) (bytes : List ℕ) (flash : Flash) (es ys : List (ℕ × ℕ)) → flash ≡ from_entries es
    → Once ((es ++ bytes_from at bytes) ++ ys) → (0 < length bytes → at + length bytes ≤ 65536)
    → put at bytes flash ≡ Ok (from_entries (es ++ bytes_from at bytes))
is_put_at at [] flash es ys is once within = ap (λ m. Ok m) (is ∙ ap (λ xs. from_entries {R = nat_cmp} xs) (sym (append-nil es)))
is_put_at at (b ∷ bs) flash es ys is once within =
    let below : nat_le 65536 at ≡ false = let w : at + suc (length bs) ≤ 65536 = within (omega arith) in grind (arith, nat_tests) in
    let order : (es ++ (at, b) ∷ bytes_from (at + 1) bs) ++ ys ≡ es ++ (at, b) ∷ (bytes_from (at + 1) bs ++ ys) = append_assoc es
    ((at, b) ∷ bytes_from (at + 1) bs) ys in
    let none : find nat_cmp at es ≡ None = new_key nat_cmp_total nat_cmp-IsAntisymmetric _ _ at b (subst (λ xs. Once xs) order once) in
    let free : is_some (get flash at) ≡ false = ap is_some (ap (λ m. get m at) is ∙ get-from_entries nat_cmp_total es at ∙ none) in
    let next : insert flash at b ≡ from_entries (es ++ (at, b) ∷ []) = ap (λ m. insert m at b) is
    ∙ sym (from_entries_push nat_cmp_total nat_cmp-IsAntisymmetric es at b none) in
    let regroup : (es ++ (at, b) ∷ []) ++ bytes_from (at + 1) bs ≡ es ++ bytes_from at (b ∷ bs) = append_assoc es ((at, b) ∷ [])
    (bytes_from (at + 1) bs) in
    let rest = is_put_at (at + 1) bs (insert flash at b) (es ++ (at, b) ∷ []) ys next (subst (λ xs. Once (xs ++ ys)) (sym regroup) once)
    (λ h. let w : at + suc (length bs) ≤ 65536 = within (omega arith) in omega arith) in
    ap (λ t. cond t (Err why.Past) (cond (is_some (get flash at)) (Err why.Overlap) (put (at + 1) bs (insert flash at b)))) below
    ∙ ap (λ t. cond t (Err why.Overlap) (put (at + 1) bs (insert flash at b))) free
    ∙ rest ∙ ap (λ xs. Ok (from_entries {R = nat_cmp} xs)) regroup

-- a name that is free and new is defined
is_defined_new : (name : List ℕ) (value : ℤ) (symbols : NameMap) (es ys : List (List ℕ × ℤ)) → symbols ≡ from_entries es
    → is_reserved name ≡ false → Once (es ++ (name, value) ∷ ys)
    → defined name value symbols ≡ Ok (from_entries (es ++ (name, value) ∷ []))
is_defined_new name value symbols es ys is free once =
    let none : find (slice_cmp nat_cmp) name es ≡ None = new_key nat_list_cmp_total (slice_cmp-IsAntisymmetric nat_cmp-IsAntisymmetric) _
    _ name value once in
    let lacks : is_some (get symbols name) ≡ false = ap is_some (ap (λ m. get m name) is ∙ get-from_entries nat_list_cmp_total es name
    ∙ none) in
    ap (λ t. cond t (Err why.Twice) (cond (is_some (get symbols name)) (Err why.Twice) (Ok (insert symbols name value)))) free
    ∙ ap (λ t. cond t (Err why.Twice) (Ok (insert symbols name value))) lacks ∙ ap (λ m. Ok m) (ap (λ m. insert m name value) is
    ∙ sym (from_entries_push nat_list_cmp_total (slice_cmp-IsAntisymmetric nat_cmp-IsAntisymmetric) es name value none))

-- a place whose symbols are those of some entries
abbrev place_of : ℕ → List (List ℕ × ℤ) → Place
place_of address es = record { address = address; symbols = from_entries es }

label_gives : (label : Option (List ℕ)) (address : ℕ) (es ys : List (List ℕ × ℤ)) → AreFree (label_entries label address)
    → Once ((es ++ label_entries label address) ++ ys)
    → labelled label (place_of address es) ≡ Ok (place_of address (es ++ label_entries label address))
label_gives None address es ys free once = ap (λ xs. Ok (place_of address xs)) (sym (append-nil es))
label_gives (Some name) address es ys free once =
    ap (with_symbols address) (is_defined_new name (pos address) (from_entries es) es ys refl free.0
    (subst (λ xs. Once xs) (append_assoc es ((name, pos address) ∷ []) ys) once))

equ_gives : (effect : Effect) (name : List ℕ) (address : ℕ) (es ys : List (List ℕ × ℤ)) → AreFree (equ_entries effect name)
    → Once ((es ++ equ_entries effect name) ++ ys)
    → named effect name (place_of address es) ≡ Ok (place_of address (es ++ equ_entries effect name))
equ_gives (Define value) name address es ys free once = ap (with_symbols address) (is_defined_new name value (from_entries es) es ys refl
    free.0 (subst (λ xs. Once xs) (append_assoc es ((name, value) ∷ []) ys) once))
equ_gives other name address es ys free once = ap (λ xs. Ok (place_of address xs)) (sym (append-nil es))

free_front : (xs ys : List (List ℕ × ℤ)) → AreFree (xs ++ ys) → AreFree xs
free_front [] ys f = tt
free_front (x ∷ xs) ys f = (f.0, free_front xs ys f.1)

free_back : (xs ys : List (List ℕ × ℤ)) → AreFree (xs ++ ys) → AreFree ys
free_back [] ys f = f
free_back (x ∷ xs) ys f = free_back xs ys f.1

-- the first pass over a statement
statement_laid : (symbols : NameMap) (before : List Statement) (s : Statement) (after : List Statement) (ys : List (List ℕ × ℤ))
    → IsStatement symbols before s after → AreFree (definitions_in s)
    → Once ((names_of before ++ definitions_in s) ++ ys)
    → after_line (list_any is_instruction_line (map (λ t. t.source) after)) s.source (place_of s.address (names_of before)) ≡ Ok
    (place_of (end_by s.effect s.address s.output.bytes) (names_of (before ++ s ∷ [])))
unfolding after_line applied
statement_laid symbols before s after ys is free once =
    let follows = list_any is_instruction_line (map (λ (t : Statement). t.source) after) in
    let labels = label_entries (label_of s.source s.tokens) s.address in
    let name = first_text s.source (arguments_in s.source s.tokens) in
    let equs = equ_entries s.effect name in
    let es = names_of before in
    let regroup : (es ++ (labels ++ equs)) ++ ys ≡ (es ++ labels) ++ (equs ++ ys) = ap (λ xs. xs ++ ys) (sym (append_assoc es labels equs))
    ∙ append_assoc (es ++ labels) equs ys in
    let label = label_gives _ _ es (equs ++ ys) (free_front labels equs free) (subst (λ xs. Once xs) regroup once) in
    let equ = equ_gives _ _ _ (es ++ labels) ys (free_back labels equs free)
    (subst (λ xs. Once xs) (regroup ∙ sym (append_assoc (es ++ labels) equs ys)) once) in
    ap (λ (o : OrFault (List Token)). o >>= (λ tokens. effect_in s.source (from_entries es) follows tokens >>=
    (λ effect. applied (label_of s.source tokens) (first_text s.source (arguments_in s.source tokens)) effect (place_of s.address es))))
    is.read
    ∙ ap (λ (o : OrFault Effect). o >>= (λ effect. applied (label_of s.source s.tokens) name effect (place_of s.address es))) is.known
    ∙ ap (λ (o : OrFault Place). o >>=
    (λ first. named s.effect name first >>= (λ second. at_address second.symbols (address_after s.effect second.address)))) label
    ∙ ap (λ (o : OrFault Place). o >>= (λ second. at_address second.symbols (address_after s.effect second.address))) equ
    ∙ ap (at_address (from_entries ((es ++ labels) ++ equs))) is.fits
    ∙ ap (λ xs. Ok (place_of (end_by s.effect s.address s.output.bytes) xs)) (append_assoc es labels equs ∙ names_more before s)

all_laid : (symbols : NameMap) (k address : ℕ) (before ss : List Statement) → Chain symbols before ss → address ≡ end_of 0 before
    → AreFree (definitions_of ss) → Once (names_of (before ++ ss))
    → layout_from k (place_of address (names_of before)) (map (λ s. s.source) ss) ≡ Ok
    (record { addresses = map (λ s. s.address) ss; symbols = from_entries (names_of (before ++ ss)) })
unfolding layout_from
all_laid symbols k address before [] chain at free once = cc (append-nil before)
all_laid symbols k address before (s ∷ ss) chain at free once =
    let front : (before ++ s ∷ []) ++ ss ≡ before ++ s ∷ ss = append_assoc before (s ∷ []) ss in
    let here : address ≡ s.address = at ∙ sym chain.0.located in
    let next : end_by s.effect s.address s.output.bytes ≡ end_of 0 (before ++ s ∷ []) = ap (λ a. end_by s.effect a s.output.bytes)
    chain.0.located ∙ sym (end_more 0 before s) in
    let names : names_of (before ++ s ∷ ss) ≡ (names_of before ++ definitions_in s) ++ definitions_of ss =
    ap (λ ds. predefined_names ++ ds) (definitions_append before (s ∷ ss))
    ∙ sym (append_assoc predefined_names (definitions_of before) (definitions_in s ++ definitions_of ss))
    ∙ sym (append_assoc (names_of before) (definitions_in s) (definitions_of ss)) in
    let step = statement_laid symbols before s ss (definitions_of ss) chain.0 (free_front (definitions_in s) (definitions_of ss) free)
    (subst (λ xs. Once xs) names once) in
    let rest = all_laid symbols (k + 1) (end_by s.effect s.address s.output.bytes) (before ++ s ∷ []) ss chain.1 next
    (free_back (definitions_in s) (definitions_of ss) free) (subst (λ bs. Once (names_of bs)) (sym front) once) in
    ap (λ a. layout_from k (place_of a (names_of before)) (s.source ∷ map (λ (t : Statement). t.source) ss)) here
    ∙ ap (λ (o : OrFault Place). at_laid k o
    (λ next. with_address s.address (layout_from (k + 1) next (map (λ (t : Statement). t.source) ss)))) step
    ∙ ap (with_address s.address) rest
    ∙ ap (λ bs. Ok (record { addresses = s.address ∷ map (λ (t : Statement). t.address) ss; symbols = from_entries (names_of bs) })) front

-- the bytes of a statement end within the flash
pub within_flash : (counts : WordsByName) (symbols : NameMap) (before : List Statement) (s : Statement) (after : List Statement)
    → IsStatement symbols before s after → 0 < length s.output.bytes → s.address + length s.output.bytes ≤ 65536
unfolding effect_in
within_flash counts symbols before s after is =
    (line_end counts (action_of s.source (body_of s.tokens)) s.source (from_entries (names_of before)) symbols
    (arguments_in s.source s.tokens) (parts_of (arguments_in s.source s.tokens))
    (list_any is_instruction_line (map (λ (t : Statement). t.source) after)) _ (following (map (λ (t : Statement). t.source) after)
    (map (λ (t : Statement). t.address) after)) _ _ _ is.known is.puts is.fits).1

-- the second pass over a statement
abbrev output_of_statements : List Statement → List Statement → Output → Output
output_of_statements before ss out = record {
  image = from_entries (bytes_of (before ++ ss));
  items = out.items ++ items_of ss;
  hints = out.hints ++ hints_of ss;
}

statement_put : (counts : WordsByName) (symbols : NameMap) (k : ℕ) (before : List Statement) (s : Statement) (after : List Statement)
    (ys : List (ℕ × ℕ)) (out : Output) → IsStatement symbols before s after → s.number ≡ k → out.image ≡ from_entries (bytes_of before)
    → Once ((bytes_of before ++ bytes_from s.address s.output.bytes) ++ ys)
    → with_line s.source symbols k s.address (following (map (λ t. t.source) after) (map (λ t. t.address) after)) out
    ≡ Ok (record {
      image = from_entries (bytes_of (before ++ s ∷ []));
      items = out.items ++ item_of s.number s.address s.output.instruction;
      hints = out.hints ++ hint_list s.output.hint;
    })
unfolding line_output
statement_put counts symbols k before s after ys out is number image once =
    let next = following (map (λ (t : Statement). t.source) after) (map (λ (t : Statement). t.address) after) in
    let bytes = is_put_at _ _ _ (bytes_of before) ys image once (within_flash counts symbols before s after is) in
    line_put _ _ _ _ _ _
    ∙ ap (λ (o : OrFault (List Token)). (o >>= tokens_output s.source symbols s.address next) >>= with_output k s.address out) is.read
    ∙ ap (λ (o : OrFault LineOutput). o >>= with_output k s.address out) is.puts ∙ ap (λ (o : OrFault Flash). mapped o (λ image. record {
      image = image;
      items = out.items ++ item_of k s.address s.output.instruction;
      hints = out.hints ++ hint_list s.output.hint;
    })) bytes ∙ ap (λ n. Ok (record {
      image = from_entries (bytes_of before ++ bytes_from s.address s.output.bytes);
      items = out.items ++ item_of n s.address s.output.instruction;
      hints = out.hints ++ hint_list s.output.hint;
    })) (sym number) ∙ ap (λ xs. Ok (record {
      image = from_entries xs;
      items = out.items ++ item_of s.number s.address s.output.instruction;
      hints = out.hints ++ hint_list s.output.hint;
    })) (bytes_more before s)

pub bytes_append : (xs ys : List Statement) → bytes_of (xs ++ ys) ≡ bytes_of xs ++ bytes_of ys
bytes_append [] ys = refl
bytes_append (x ∷ xs) ys = cc (bytes_append xs ys, append_assoc (bytes_from x.address x.output.bytes) (bytes_of xs) (bytes_of ys))

all_put : (counts : WordsByName) (symbols : NameMap) (k : ℕ) (before ss : List Statement) (out : Output) → Chain symbols before ss
    → k ≡ length before + 1 → out.image ≡ from_entries (bytes_of before) → Once (bytes_of (before ++ ss))
    → output_from k symbols out (map (λ s. s.source) ss) (map (λ s. s.address) ss) ≡ Ok (output_of_statements before ss out)
unfolding output_from
all_put counts symbols k before [] out chain count image once =
    λ i. Ok (record {
      image = (image ∙ ap (λ bs. from_entries {R = nat_cmp} (bytes_of bs)) (sym (append-nil before))) i;
      items = sym (append-nil out.items) i;
      hints = sym (append-nil out.hints) i;
    })
all_put counts symbols k before (s ∷ ss) out chain count image once =
    let front : (before ++ s ∷ []) ++ ss ≡ before ++ s ∷ ss = append_assoc before (s ∷ []) ss in
    let number : s.number ≡ k = chain.0.numbered ∙ sym count in
    let bytes : bytes_of (before ++ s ∷ ss) ≡ (bytes_of before ++ bytes_from s.address s.output.bytes) ++ bytes_of ss =
    bytes_append before (s ∷ ss) ∙ sym (append_assoc (bytes_of before) (bytes_from s.address s.output.bytes) (bytes_of ss)) in
    let next : Output = record {
      image = from_entries (bytes_of (before ++ s ∷ []));
      items = out.items ++ item_of s.number s.address s.output.instruction;
      hints = out.hints ++ hint_list s.output.hint;
    } in
    let step = statement_put counts _ _ _ _ _ (bytes_of ss) _ chain.0 number image (subst (λ xs. Once xs) bytes once) in
    let more : k + 1 ≡ length (before ++ s ∷ []) + 1 = omega (arith, count, length-append before (s ∷ [])) in
    let rest = all_put counts symbols (k + 1) (before ++ s ∷ []) ss next chain.1 more refl
    (subst (λ bs. Once (bytes_of bs)) (sym front) once) in
    ap (λ (o : OrFault Output). at_line k o (λ n. output_from (k + 1) symbols n (map (λ (t : Statement). t.source) ss)
    (map (λ (t : Statement). t.address) ss))) step ∙ rest ∙ (λ i. Ok (record {
      image = from_entries (bytes_of (front i));
      items = append_assoc out.items (item_of s.number s.address s.output.instruction) (items_of ss) i;
      hints = append_assoc out.hints (hint_list s.output.hint) (hints_of ss) i;
    }))

-- the first pass over an assembly
pub exact_layout : (text : List ℕ) (out : Output) (is : IsAssembly text out) → layout_of (lines_of text) ≡ Ok
    (record { addresses = map (λ s. s.address) is.statements; symbols = is.symbols })
exact_layout text out is =
    let ss = is.statements in
    let chain = chain_from _ [] _ is.meanings in
    let symbols : is.symbols ≡ from_entries (names_of ss) = is_made nat_list_cmp_total (slice_cmp-IsAntisymmetric nat_cmp-IsAntisymmetric)
    is.symbols (names_of ss) is.names in
    let begins : start ≡ place_of 0 (names_of []) =
    λ i. record {
      address = 0;
      symbols = (predefined_made.is ∙ ap (λ xs. from_entries {R = slice_cmp nat_cmp} xs) (sym (append-nil predefined_names))) i;
    } in
    let laid = all_laid _ _ _ _ _ chain refl (recursion_from_All (λ entry. is_reserved entry.0 ≡ false) (definitions_of ss)
    is.free) is.names.once in
    ap layout_of (sym is.sources) ∙ ap (λ p. layout_from 1 p (map (λ (s : Statement). s.source) ss)) begins ∙ laid
    ∙ ap (λ m. Ok (record { addresses = map (λ (s : Statement). s.address) ss; symbols = m })) (sym symbols)

pub exact_assembly : (counts : WordsByName) (text : List ℕ) (out : Output) → IsAssembly text out → assembly text ≡ Ok out
exact_assembly counts text out is =
    let ss = is.statements in
    let chain = chain_from _ _ _ is.meanings in
    let image : out.image ≡ from_entries (bytes_of ss) = is_made nat_cmp_total nat_cmp-IsAntisymmetric out.image (bytes_of ss) is.image in
    let puts = all_put counts is.symbols 1 [] ss nothing chain refl refl is.image.once in
    let same : Output = record { image = from_entries (bytes_of ss); items = items_of ss; hints = hints_of ss } in
    ap (output_of (lines_of text)) (exact_layout text out is)
    ∙ ap (λ ls. output_from 1 is.symbols nothing ls (map (λ (s : Statement). s.address) ss)) (sym is.sources) ∙ puts
    ∙ (λ i. Ok (record { image = sym image i; items = sym is.items i; hints = sym is.hints i }))

-- so a source has one assembly at most
pub one_assembly : (counts : WordsByName) (text : List ℕ) (a b : Output) → IsAssembly text a → IsAssembly text b → a ≡ b
one_assembly counts text a b p q = ok_same a b (sym (exact_assembly counts text a p) ∙ exact_assembly counts text b q)

pub complete_built : (counts : WordsByName) (text : List ℕ) (result : Result Built AsmError) → GivesLayout seen_built result (assembly text)
    → (out : Output) → IsAssembly text out → GivesLayout seen_built result (Ok out)
complete_built counts text result e out is = subst (GivesLayout seen_built result) (exact_assembly counts text out is) e
