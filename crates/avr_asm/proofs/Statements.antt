-- The lines of an assembled source are statements, one after another.
use Rattle.std.proofs.Common.{◌≡◌, ℕ, ◌+◌, Bool, false, List, [], ◌∷◌, ◌++◌, length, map, refl, sym, ◌∙◌, ap, subst, append_assoc, arith}
use Rattle.std.specs.Prelude.{Result, Ok, Err, IfOk, ℤ}
use Rattle.std.specs.List.{list_any, IsDistinct}
use Rattle.std.specs.Ordering.{nat_cmp}
use Rattle.std.proofs.lemmas.Cmp.{nat_cmp_total}
use Rattle.std.specs.Cmp.Lexicographic.{slice_cmp, nat_list_cmp_total}
use Rattle.std.specs.FinMap.{nat_cmp-IsAntisymmetric, slice_cmp-IsAntisymmetric, empty, from_entries}
use Rattle.std.proofs.lemmas.List.{append-nil, length-append}
use Rattle.std.proofs.lemmas.List.Elements.{All-from_recursion}
use Rattle.avr_text.specs.declared.tokens.Token.{Token}
use Rattle.avr_text.specs.Names.{NameMap, Keeps}
use Rattle.avr_asm.specs.declared.errors.AsmError.{AsmError}
use Rattle.avr_asm.specs.declared.layout.Place.{Place}
use Rattle.avr_asm.specs.declared.output.Built.{Built}
use Rattle.avr_asm.specs.Emission.{put}
use Rattle.avr_asm.specs.Layout.{Layout, start, layout_from, arguments_in, is_reserved, effect_in, is_instruction_line, GivesLayout}
use Rattle.avr_asm.specs.Lines.{content_of, label_of, first_text, body_of, action_of, parts_of}
use Rattle.avr_asm.specs.LineOutputs.{LineOutput, tokens_output, line_output}
use Rattle.avr_asm.specs.Assembly.{Output, nothing, assembly, seen_built, following, output_from}
use Rattle.avr_asm.specs.Relation.{Statement, end_by, end_of, label_entries, equ_entries, definitions_in, definitions_of, predefined_names}
use Rattle.avr_asm.specs.Relation.{names_of, bytes_from, bytes_of, item_of, items_of, hint_list, hints_of, IsStatement, IsAssembly}
use Rattle.avr_asm.proofs.OutcomeLemmas.{ok_same, bound, made}
use Rattle.avr_asm.proofs.EntryLists.{IsMadeOf, map_of_made}
use Rattle.avr_asm.proofs.MadeMaps.{put_made, label_made, equ_made, AreFree, predefined_made}
use Rattle.avr_asm.proofs.LinePuts.{with_output, line_put}
use Rattle.avr_asm.proofs.Decoding.{at_line_ok}
use Rattle.avr_asm.proofs.LaidLines.{LaidLine, laid_lines, no_lines}
use Rattle.avr_asm.proofs.KeptEffects.{ValuesStay, effect_stays, front_kept}
use Rattle.avr_asm.proofs.LineEnds.{WordsByName, line_end}
use Rattle.avr_asm.proofs.DecodedItems.{laid_out}

-- statements one after another
abbrev pub Chain : NameMap → List Statement → List Statement → Type 0
Chain symbols before [] = Unit {0}
Chain symbols before (s ∷ after) = IsStatement symbols before s after × Chain symbols (before ++ s ∷ []) after

chain_at : (symbols : NameMap) (front before : List Statement) (s : Statement) (after : List Statement) → Chain symbols front
    (before ++ s ∷ after) → IsStatement symbols (front ++ before) s after
chain_at symbols front [] s after c = subst (λ f. IsStatement symbols f s after) (sym (append-nil front)) c.0
chain_at symbols front (b ∷ bs) s after c = subst (λ f. IsStatement symbols f s after) (append_assoc front (b ∷ []) bs)
    (chain_at symbols (front ++ b ∷ []) bs s after c.1)

pub chain_from : (symbols : NameMap) (front ss : List Statement) → ((b : List Statement) (s : Statement) (a : List Statement) → ss ≡ b
    ++ s ∷ a → IsStatement symbols (front ++ b) s a) → Chain symbols front ss
chain_from symbols front [] h = tt
chain_from symbols front (s ∷ ss) h = (
  subst (λ f. IsStatement symbols f s ss) (append-nil front) (h [] s ss refl),
  chain_from symbols (front ++ s ∷ []) ss (λ b t a e. subst (λ f. IsStatement symbols f t a) (sym (append_assoc front (s ∷ []) b))
      (h (s ∷ b) t a (ap (λ xs. s ∷ xs) e))),
)

-- one more statement
definitions_more : (before : List Statement) (s : Statement) → definitions_of (before ++ s ∷ []) ≡ definitions_of before ++ definitions_in s
definitions_more [] s = append-nil (definitions_in s)
definitions_more (b ∷ bs) s = cc (definitions_more bs s, append_assoc (definitions_in b) (definitions_of bs) (definitions_in s))

pub definitions_append : (xs ys : List Statement) → definitions_of (xs ++ ys) ≡ definitions_of xs ++ definitions_of ys
definitions_append [] ys = refl
definitions_append (x ∷ xs) ys = cc (definitions_append xs ys, append_assoc (definitions_in x) (definitions_of xs) (definitions_of ys))

names_append : (xs ys : List Statement) → names_of (xs ++ ys) ≡ names_of xs ++ definitions_of ys
names_append xs ys = cc (definitions_append xs ys, append_assoc predefined_names (definitions_of xs) (definitions_of ys))

pub names_more : (before : List Statement) (s : Statement) → names_of before ++ definitions_in s ≡ names_of (before ++ s ∷ [])
names_more before s = cc (append_assoc predefined_names (definitions_of before) (definitions_in s), definitions_more before s)

pub bytes_more : (before : List Statement) (s : Statement) → bytes_of before ++ bytes_from s.address s.output.bytes ≡ bytes_of
    (before ++ s ∷ [])
bytes_more [] s = sym (append-nil (bytes_from s.address s.output.bytes))
bytes_more (b ∷ bs) s = append_assoc (bytes_from b.address b.output.bytes) (bytes_of bs) (bytes_from s.address s.output.bytes)
    ∙ ap (λ ds. bytes_from b.address b.output.bytes ++ ds) (bytes_more bs s)

pub end_more : (address : ℕ) (before : List Statement) (s : Statement) → end_of address (before ++ s ∷ []) ≡ end_by s.effect
    (end_of address before) s.output.bytes
end_more address [] s = refl
end_more address (b ∷ bs) s = end_more (end_by b.effect address b.output.bytes) bs s

-- what holds before a line
pub record IsReady (before : List Statement) (k : ℕ) (place : Place) (out : Output) : Type 0 where
  pub numbered : k ≡ length before + 1
  pub placed : place.address ≡ end_of 0 before
  pub names : IsMadeOf place.symbols (names_of before)
  pub image : IsMadeOf out.image (bytes_of before)

-- what the lines give that are left
pub record AreStated (all : NameMap) (before : List Statement) (out last : Output) (lines : List (List ℕ)) (layout : Layout) : Type 0 where
  pub statements : List Statement
  pub sources : map (λ s. s.source) statements ≡ lines
  pub addresses : map (λ s. s.address) statements ≡ layout.addresses
  pub chain : Chain all before statements
  pub names : IsMadeOf layout.symbols (names_of (before ++ statements))
  pub free : AreFree (definitions_of statements)
  pub image : IsMadeOf last.image (bytes_of (before ++ statements))
  pub items : last.items ≡ out.items ++ items_of statements
  pub hints : last.hints ≡ out.hints ++ hints_of statements

-- a line's statement
abbrev pub statement : {follows : Bool} {line : List ℕ} {place next : Place} → ℕ → LaidLine follows line place next → LineOutput → Statement
statement {line = line} {place = place} k l o = record {
  source = line;
  number = k;
  address = place.address;
  tokens = l.tokens;
  effect = l.effect;
  output = o;
}

tokens_put : (line : List ℕ) (symbols : NameMap) (address next : ℕ) (tokens : List Token) (o : LineOutput) → content_of line ≡ Ok tokens
    → line_output symbols address next line ≡ Ok o → tokens_output line symbols address next tokens ≡ Ok o
unfolding line_output
tokens_put line symbols address next tokens o is e = cc

ended : (counts : WordsByName) (follows : Bool) (line : List ℕ) (place next : Place) (all : NameMap) (after : ℕ)
    (l : LaidLine follows line place next) (o : LineOutput) → tokens_output line all place.address after l.tokens ≡ Ok o → end_by l.effect
    place.address o.bytes ≡ next.address
unfolding effect_in
ended counts follows line place next all after l o e =
    (line_end counts (action_of line (body_of l.tokens)) line place.symbols all (arguments_in line l.tokens)
    (parts_of (arguments_in line l.tokens)) follows place.address after next.address l.effect o l.is_effect e l.is_placed).0

free_append : (xs ys : List (List ℕ × ℤ)) → AreFree xs → AreFree ys → AreFree (xs ++ ys)
free_append [] ys f g = g
free_append (x ∷ xs) ys f g = (f.0, free_append xs ys f.1 g)

named_more : (follows : Bool) (line : List ℕ) (place next : Place) (before : List Statement) (k : ℕ) (l : LaidLine follows line place next)
    (o : LineOutput) → IsMadeOf place.symbols (names_of before)
    → IsMadeOf next.symbols (names_of (before ++ statement k l o ∷ [])) × AreFree (definitions_in (statement k l o))
named_more follows line place next before k l o names =
    let s = statement k l o in
    let label = label_made _ _ _ (names_of before) l.is_labelled names in
    let labels = label_entries (label_of line l.tokens) place.address in
    let equs = equ_entries l.effect (first_text line (arguments_in line l.tokens)) in
    let equ = equ_made _ _ _ _ (names_of before ++ labels) l.is_named label.0 in
    let in_order : IsMadeOf l.second.symbols (names_of (before ++ s ∷ [])) = subst (IsMadeOf l.second.symbols)
    (append_assoc (names_of before) labels equs ∙ names_more before s) equ.0 in
    (subst (λ m. IsMadeOf m (names_of (before ++ s ∷ []))) (sym l.has_symbols) in_order, free_append labels equs label.1 equ.1)

-- the second pass's step
pub record IsPut (k address : ℕ) (out next : Output) (o : LineOutput) : Type 0 where
  pub bytes : put address o.bytes out.image ≡ Ok next.image
  pub items : next.items ≡ out.items ++ item_of k address o.instruction
  pub hints : next.hints ≡ out.hints ++ hint_list o.hint

is_put : (k address : ℕ) (out next : Output) (o : LineOutput) → with_output k address out o ≡ Ok next → IsPut k address out next o
is_put k address out next o e =
    let it = made (put address o.bytes out.image) (λ image. record {
      image = image;
      items = out.items ++ item_of k address o.instruction;
      hints = out.hints ++ hint_list o.hint;
    }) next e in
    record {
      bytes = it.1 ∙ ap (λ (n : Output). Ok n.image) it.2;
      items = sym (ap (λ (n : Output). n.items) it.2);
      hints = sym (ap (λ (n : Output). n.hints) it.2);
    }

ready_more : (counts : WordsByName) (follows : Bool) (line : List ℕ) (place next : Place) (before : List Statement) (k : ℕ) (all : NameMap)
    (after : ℕ) (l : LaidLine follows line place next) (out put_out : Output) (o : LineOutput)
    → IsReady before k place out → tokens_output line all place.address after l.tokens ≡ Ok o → IsPut k place.address out put_out o
    → IsReady (before ++ statement k l o ∷ []) (k + 1) next put_out
ready_more counts follows line place next before k all after l out put_out o ready e p =
    let s = statement k l o in
    record {
      numbered = omega (arith, ready.numbered, length-append before (s ∷ []));
      placed = sym (end_more 0 before s ∙ ap (λ a. end_by l.effect a o.bytes) (sym ready.placed) ∙ ended counts follows line place next all
          after l o e);
      names = (named_more follows line place next before k l o ready.names).0;
      image = subst (IsMadeOf put_out.image) (bytes_more before s) (put_made place.address o.bytes out.image put_out.image (bytes_of before)
          p.bytes ready.image);
    }

pub stated : (stay : ValuesStay) (counts : WordsByName) (all : NameMap) (before : List Statement) (k : ℕ) (place : Place)
    (out last : Output) (lines : List (List ℕ)) (layout : Layout)
    → layout.symbols ≡ all → layout_from k place lines ≡ Ok layout → output_from k all out lines layout.addresses ≡ Ok last → IsReady before
    k place out → AreStated all before out last lines layout
unfolding output_from
stated stay counts all before k place out last [] layout is_all e f ready =
    let end = no_lines k place layout e in
    let same : out ≡ last = ok_same out last f in
    record {
      statements = [];
      sources = refl;
      addresses = ap (λ (l : Layout). l.addresses) end;
      chain = tt;
      names = subst (λ ss. IsMadeOf layout.symbols (names_of ss)) (sym (append-nil before))
          (subst (λ (l : Layout). IsMadeOf l.symbols (names_of before)) end ready.names);
      free = tt;
      image = subst (λ ss. IsMadeOf last.image (bytes_of ss)) (sym (append-nil before))
          (subst (λ (o : Output). IsMadeOf o.image (bytes_of before)) same ready.image);
      items = sym (ap (λ (o : Output). o.items) same) ∙ sym (append-nil out.items);
      hints = sym (ap (λ (o : Output). o.hints) same) ∙ sym (append-nil out.hints);
    }
stated stay counts all before k place out last (line ∷ lines) layout is_all e f ready =
    let laid = laid_lines _ _ _ _ _ e in
    let l = laid.here in
    let g : output_from k all out (line ∷ lines) (place.address ∷ laid.rest.addresses) ≡ Ok last = ap (output_from k all out (line ∷ lines))
    (sym laid.addresses) ∙ f in
    let after = following lines laid.rest.addresses in
    let it = at_line_ok _ _ (λ next. output_from (k + 1) all next lines laid.rest.addresses) _ g in
    let step = bound _ (with_output k place.address out) _ (sym (line_put _ _ _ _ _ _) ∙ it.1) in
    let o = step.0 in
    let p = is_put _ _ _ _ _ step.2 in
    let puts = tokens_put _ _ _ _ _ _ l.is_content step.1 in
    let s = statement k l o in
    let rest = stated stay counts all (before ++ s ∷ []) (k + 1) laid.next it.0 last lines laid.rest (sym laid.symbols ∙ is_all)
    laid.is_rest it.2 (ready_more counts (list_any is_instruction_line lines) _ _ _ _ _ _ _ l _ _ _ ready puts p) in
    let front : (before ++ s ∷ []) ++ rest.statements ≡ before ++ s ∷ rest.statements = append_assoc before (s ∷ []) rest.statements in
    let keeps : Keeps (from_entries (names_of before)) all =
    front_kept (names_of before) (definitions_of (s ∷ rest.statements)) _ (sym is_all ∙ laid.symbols ∙ rest.names.is
    ∙ ap (λ ns. from_entries {R = slice_cmp nat_cmp} ns) (ap names_of front ∙ names_append before (s ∷ rest.statements))) in
    let known = ap (λ m. effect_in line m (list_any is_instruction_line (map (λ (t : Statement). t.source) rest.statements)) l.tokens)
    (sym ready.names.is) ∙ ap (λ ls. effect_in line place.symbols (list_any is_instruction_line ls) l.tokens) rest.sources ∙ l.is_effect in
    let here : IsStatement all before s rest.statements = record {
      numbered = ready.numbered;
      located = ready.placed;
      read = l.is_content;
      known = known;
      fits = l.is_placed ∙ ap Ok (sym (ended counts (list_any is_instruction_line lines) line place laid.next all after l _ puts));
      does = effect_stays stay _ _ keeps _ _ _ _ known;
      puts = ap (λ ls. tokens_output line all place.address (following ls (map (λ (t : Statement). t.address) rest.statements)) l.tokens)
          rest.sources ∙ ap (λ xs. tokens_output line all place.address (following lines xs) l.tokens) rest.addresses ∙ puts;
    } in
    record {
      statements = s ∷ rest.statements;
      sources = ap (λ ls. line ∷ ls) rest.sources;
      addresses = ap (λ xs. place.address ∷ xs) rest.addresses ∙ sym laid.addresses;
      chain = (here, rest.chain);
      names = subst (λ m. IsMadeOf m (names_of (before ++ s ∷ rest.statements))) (sym laid.symbols)
          (subst (λ ss. IsMadeOf laid.rest.symbols (names_of ss)) front rest.names);
      free = free_append (definitions_in s) (definitions_of rest.statements) (named_more (list_any is_instruction_line lines) line place
          laid.next before k l o ready.names).1 rest.free;
      image = subst (λ ss. IsMadeOf last.image (bytes_of ss)) front rest.image;
      items = rest.items ∙ ap (λ xs. xs ++ items_of rest.statements) p.items ∙ append_assoc out.items
          (item_of k place.address o.instruction) (items_of rest.statements);
      hints = rest.hints ∙ ap (λ xs. xs ++ hints_of rest.statements) p.hints ∙ append_assoc out.hints (hint_list o.hint)
          (hints_of rest.statements);
    }

nothing_made : IsMadeOf {X = ℕ} {R = nat_cmp} empty []
unfolding IsDistinct
nothing_made = record { is = refl; once = tt }

pub is_assembly : (stay : ValuesStay) (counts : WordsByName) (text : List ℕ) (out : Output) → assembly text ≡ Ok out → IsAssembly text out
is_assembly stay counts text out e =
    let l = laid_out text _ e in
    let ready : IsReady [] 1 start nothing = record {
      numbered = refl;
      placed = refl;
      names = subst (IsMadeOf start.symbols) (sym (append-nil predefined_names)) predefined_made;
      image = nothing_made;
    } in
    let all = stated stay counts _ _ _ _ _ _ _ _ refl l.1 l.2 ready in
    record {
      statements = all.statements;
      symbols = l.0.symbols;
      sources = all.sources;
      meanings = λ before s after is. chain_at _ _ _ _ _ (subst (Chain l.0.symbols []) is all.chain);
      names = map_of_made nat_list_cmp_total (slice_cmp-IsAntisymmetric nat_cmp-IsAntisymmetric) _ (names_of all.statements) all.names;
      free = All-from_recursion (λ entry. is_reserved entry.0 ≡ false) (definitions_of all.statements) all.free;
      image = map_of_made nat_cmp_total nat_cmp-IsAntisymmetric _ (bytes_of all.statements) all.image;
      items = all.items;
      hints = all.hints;
    }

pub relation_built : (stay : ValuesStay) (counts : WordsByName) (text : List ℕ) (result : Result Built AsmError) → GivesLayout seen_built
    result (assembly text) → IfOk result (λ b. IsAssembly text (seen_built b))
relation_built stay counts text (Ok b) e = is_assembly stay counts text (seen_built b) e
relation_built stay counts text (Err fault) e = tt
