-- What the second pass over laid lines says: each puts something out at free addresses, or one has the first fault.
use Rattle.std.proofs.Common.{◌≡◌, ℕ, zero, suc, ◌+◌, ◌<◌, ◌≤◌, Bool, true, false, cond, List, [], ◌∷◌, ◌++◌, length, map, nat_le, inl, inr}
use Rattle.std.proofs.Common.{refl, sym, ◌∙◌, ap, subst, append_assoc, append-nil, arith, Option, None, Some, Result, Ok, Err, is_some}
use Rattle.std.specs.List.{list_any}
use Rattle.std.specs.FinMap.{get, insert, gets, from_entries}
use Rattle.std.proofs.lemmas.Bool.Decides.{nat_tests}
use Rattle.avr_text.specs.declared.tokens.Token.{Token}
use Rattle.avr_text.specs.Names.{NameMap}
use Rattle.avr_text.specs.declared.errors.AsmWhy.{AsmWhy}
use Rattle.avr_text.specs.declared.errors.AsmWhy.TheVariants as why
use Rattle.avr_text.specs.Faults.{OrFault, ◌>>=◌, number_of}
use Rattle.avr_asm.specs.declared.errors.AsmError.{AsmError}
use Rattle.avr_asm.specs.Assembly.{Output, following, with_line, at_line, output_from}
use Rattle.avr_asm.specs.Emission.{Flash, put}
use Rattle.avr_asm.specs.FirstFault.{IsLeast, Laid, place_after, IsLaid, AreLaid, Filled, bytes_by, puts_out, InSecondPass, IsFilled}
use Rattle.avr_asm.specs.FirstFault.{AreFilled}
use Rattle.avr_asm.specs.Hints.{mapped}
use Rattle.avr_asm.specs.Layout.{arguments_in, effect_in, is_instruction_line}
use Rattle.avr_asm.specs.LineOutputs.{LineOutput, tokens_output, line_output}
use Rattle.avr_asm.specs.Lines.{body_of, action_of, parts_of}
use Rattle.avr_asm.specs.Relation.{bytes_from, item_of, hint_list}
use Rattle.avr_asm.proofs.EntryLists.{IsMadeOf}
use Rattle.avr_asm.proofs.FirstPassFaults.{err_same}
use Rattle.avr_asm.proofs.FirstPassRuns.{same_least, placed_laid}
use Rattle.avr_asm.proofs.LineEnds.{WordsByName, line_end}
use Rattle.avr_asm.proofs.LinePuts.{with_output, line_put}
use Rattle.avr_asm.proofs.MadeMaps.{put_made}
use Rattle.avr_asm.proofs.OutcomeLemmas.{ok_same}

-- ---- bytes

pub get_other : (m : Flash) (k v q : ℕ) → ¬ (q ≡ k) → get (insert m k v) q ≡ get m q
get_other m k v q h = grind (arith, gets, nat_tests)

-- bytes within the flash fall on free addresses, or one of them on another byte
abbrev pub PutSays : ℕ → List ℕ → Flash → OrFault Flash → Type 0
PutSays at bytes image (Ok next) = (i : ℕ) → i < length bytes → get image (at + i) ≡ None
PutSays at bytes image (Err w) = (w ≡ why.Overlap) × (i : ℕ) × (i < length bytes) × (byte : ℕ) × (get image (at + i) ≡ Some byte)

more_says : (at b : ℕ) (bs : List ℕ) (image : Flash) (r : OrFault Flash) → get image at ≡ None → PutSays (at + 1) bs (insert image at b) r
    → PutSays at (b ∷ bs) image r
more_says at b bs image (Ok next) free h = go
  where
    go : (i : ℕ) → i < suc (length bs) → get image (at + i) ≡ None
    go zero lt = let e : at + 0 ≡ at = omega arith in ap (get image) e ∙ free
    go (suc j) lt =
        let e : at + suc j ≡ at + 1 + j = omega arith in
        let other : ¬ (at + 1 + j ≡ at) = (λ same. omega (arith, same)) in
        ap (get image) e ∙ sym (get_other image at b (at + 1 + j) other) ∙ h j (omega arith)
more_says at b bs image (Err w) free h =
    let e : at + suc h.1 ≡ at + 1 + h.1 = omega arith in
    let other : ¬ (at + 1 + h.1 ≡ at) = (λ same. omega (arith, same)) in
    (h.0, suc h.1, omega (arith, h.2), h.3, ap (get image) e ∙ sym (get_other image at b (at + 1 + h.1) other) ∙ h.4)

pub put_says : (at : ℕ) (bytes : List ℕ) (image : Flash) → (0 < length bytes → at + length bytes ≤ 65536) → PutSays at bytes image
    (put at bytes image)
put_says at [] image within = λ i lt. absurd (omega arith)
put_says at (b ∷ bs) image within =
    let all : at + suc (length bs) ≤ 65536 = within (omega arith) in
    go (nat_le 65536 at) (get image at) (let below : nat_le 65536 at ≡ false = grind (arith, nat_tests) in below) refl
    (put_says (at + 1) bs (insert image at b) (λ some. omega (arith, all)))
  where
    go : (past : Bool) (there : Option ℕ) → past ≡ false → get image at ≡ there → PutSays (at + 1) bs (insert image at b)
        (put (at + 1) bs (insert image at b))
        → PutSays at (b ∷ bs) image (cond past (Err why.Past)
        (cond (is_some there) (Err why.Overlap) (put (at + 1) bs (insert image at b))))
    go true there e f more = absurd cc
    go false (Some byte) e f more = let z : at + 0 ≡ at = omega arith in (refl, 0, omega arith, byte, ap (get image) z ∙ f)
    go false None e f more = more_says at b bs image (put (at + 1) bs (insert image at b)) f more

-- ---- one line

-- the bytes of a line without fault end within the flash
within_flash : (counts : WordsByName) (symbols : NameMap) (front : List Laid) (l : Laid) (follows : Bool) (after : List Laid)
    (o : LineOutput) → IsLaid front l follows → puts_out symbols l after ≡ Ok o
    → 0 < length o.bytes → l.address + length o.bytes ≤ 65536
unfolding effect_in
within_flash counts symbols front l follows after o is puts =
    (line_end counts (action_of l.source (body_of l.tokens)) l.source (place_after front).symbols symbols (arguments_in l.source l.tokens)
    (parts_of (arguments_in l.source l.tokens)) follows _
    (following (map (λ (x : Laid). x.source) after) (map (λ (x : Laid). x.address) after)) _ _ _ is.does puts (placed_laid _ _ _ is)).1

-- a line is put out by what it puts out by itself
line_is : (symbols : NameMap) (front : List Laid) (l : Laid) (follows : Bool) (after : List Laid) (k : ℕ) (out : Output) → IsLaid front l
    follows
    → with_line l.source symbols k l.address (following (map (λ x. x.source) after) (map (λ x. x.address) after))
    out ≡ (puts_out symbols l after >>= with_output k l.address out)
unfolding line_output
line_is symbols front l follows after k out is =
    let next = following (map (λ (x : Laid). x.source) after) (map (λ (x : Laid). x.address) after) in
    line_put l.source symbols k l.address next out
    ∙ ap (λ (o : OrFault (List Token)). (o >>= tokens_output l.source symbols l.address next) >>= with_output k l.address out) is.read

-- what comes of a line
record Goes (symbols : NameMap) (before : List Filled) (l : Laid) (after : List Laid) (next : Output) : Type 0 where
  pub output : LineOutput
  pub filled : IsFilled symbols before (record { laid = l; output = output }) after
  pub made : IsMadeOf next.image (bytes_by (before ++ record { laid = l; output = output } ∷ []))

abbrev LineSays : NameMap → List Filled → Laid → List Laid → OrFault Output → Type 0
LineSays symbols before l after (Ok next) = Goes symbols before l after next
LineSays symbols before l after (Err w) = IsLeast (InSecondPass symbols (from_entries (bytes_by before)) l after) w

bytes_more : (before : List Filled) (f : Filled) → bytes_by (before ++ f ∷ []) ≡ bytes_by before ++ bytes_from f.laid.address f.output.bytes
bytes_more [] f = append-nil (bytes_from f.laid.address f.output.bytes)
bytes_more (b ∷ bs) f = ap (λ xs. bytes_from b.laid.address b.output.bytes ++ xs) (bytes_more bs f)
    ∙ sym (append_assoc (bytes_from b.laid.address b.output.bytes) (bytes_by bs) (bytes_from f.laid.address f.output.bytes))

-- a line that puts nothing out for want of a meaning
no_output_says : (symbols : NameMap) (before : List Filled) (l : Laid) (after : List Laid) (w : AsmWhy) → puts_out symbols l after ≡ Err w
    → IsLeast (InSecondPass symbols (from_entries (bytes_by before)) l after) w
no_output_says symbols before l after w e = grind (arith, nat_tests, err_same)

output_says : (symbols : NameMap) (before : List Filled) (l : Laid) (after : List Laid) (k : ℕ) (out : Output) (o : LineOutput)
    (p : OrFault Flash) → puts_out symbols l after ≡ Ok o
    → put l.address o.bytes out.image ≡ p → IsMadeOf out.image (bytes_by before) → PutSays l.address o.bytes out.image p
    → LineSays symbols before l after
    (mapped p (λ image. record {
      image = image;
      items = out.items ++ item_of k l.address o.instruction;
      hints = out.hints
          ++ hint_list o.hint;
    }))
output_says symbols before l after k out o (Ok image) puts e made says = record {
  output = o;
  filled = record { puts = puts; sound = sound };
  made = subst (IsMadeOf image) (sym (bytes_more before (record { laid = l; output = o }))) (put_made _ _ _ _ (bytes_by before) e made);
}
  where
    sound : (w : AsmWhy) → ¬ InSecondPass symbols (from_entries (bytes_by before)) l after w
    sound w (inl f) = let no : ◌≡◌ {A = OrFault LineOutput} (Ok o) (Err w) = sym puts ∙ f in cc
    sound w (inr (is_w, (other, f, i, lt, byte, held))) =
        let same : other ≡ o = ok_same other o (sym f ∙ puts) in
        let none : get out.image (l.address + i) ≡ None = says i (subst (λ (x : LineOutput). i < length x.bytes) same lt) in
        let some : get out.image (l.address + i) ≡ Some byte = ap (λ m. get m (l.address + i)) made.is ∙ held in
        let no : ◌≡◌ {A = Option ℕ} None (Some byte) = sym none ∙ some in
        cc
output_says symbols before l after k out o (Err v) puts e made says = record {
  stands = inr (says.0, (o, puts, says.1, says.2, says.3, ap (λ m. get m (l.address + says.1)) (sym made.is) ∙ says.4));
  least = least;
}
  where
    least : (w : AsmWhy) → InSecondPass symbols (from_entries (bytes_by before)) l after w → number_of v ≤ number_of w
    least w (inl f) = let no : ◌≡◌ {A = OrFault LineOutput} (Ok o) (Err w) = sym puts ∙ f in absurd cc
    least w (inr (is_w, rest)) = subst (λ u. number_of v ≤ number_of u) (says.0 ∙ sym is_w) (omega arith)

line_says : (counts : WordsByName) (symbols : NameMap) (front : List Laid) (before : List Filled) (l : Laid) (follows : Bool)
    (after : List Laid) (k : ℕ) (out : Output) → IsLaid front l follows
    → IsMadeOf out.image (bytes_by before) → LineSays symbols before l after
    (with_line l.source symbols k l.address (following (map (λ x. x.source) after) (map (λ x. x.address) after)) out)
line_says counts symbols front before l follows after k out is made =
    subst (LineSays symbols before l after) (sym (line_is symbols front l follows after k out is)) (go (puts_out symbols l after) refl)
  where
    go : (p : OrFault LineOutput) → puts_out symbols l after ≡ p → LineSays symbols before l after (p >>= with_output k l.address out)
    go (Err w) e = no_output_says symbols before l after w e
    go (Ok o) e =
        output_says symbols before l after k out o (put l.address o.bytes out.image) e refl made
        (put_says l.address o.bytes out.image (within_flash counts symbols front l follows after o is e))

-- ---- all lines

-- the first fault of lines after others
pub record FaultFrom (symbols : NameMap) (before : List Filled) (k : ℕ) (ls : List Laid) (e : AsmError) : Type 0 where
  pub more : List Filled
  pub line : Laid
  pub after : List Laid
  pub cut : ls ≡ map (λ f. f.laid) more ++ line ∷ after
  pub numbered : e.line ≡ k + length more
  pub filled : AreFilled symbols before more (line ∷ after)
  pub fault : IsLeast (InSecondPass symbols (from_entries (bytes_by (before ++ more))) line after) e.why

abbrev pub OutputSays : NameMap → List Filled → ℕ → List Laid → Result Output AsmError → Type 0
OutputSays symbols before k ls (Ok out) = Unit {0}
OutputSays symbols before k ls (Err e) = FaultFrom symbols before k ls e

one_more_says : (symbols : NameMap) (before : List Filled) (f : Filled) (k : ℕ) (ls : List Laid) (r : Result Output AsmError)
    → IsFilled symbols before f ls
    → OutputSays symbols (before ++ f ∷ []) (k + 1) ls r → OutputSays symbols before k (f.laid ∷ ls) r
one_more_says symbols before f k ls (Ok out) is h = tt
one_more_says symbols before f k ls (Err e) is h = record {
  more = f ∷ h.more;
  line = h.line;
  after = h.after;
  cut = ap (λ xs. f.laid ∷ xs) h.cut;
  numbered = omega (arith, h.numbered);
  filled = (subst (λ xs. IsFilled symbols before f xs) h.cut is, h.filled);
  fault = subst (λ fs. IsLeast (InSecondPass symbols (from_entries (bytes_by fs)) h.line h.after) e.why)
      (append_assoc before (f ∷ []) h.more) h.fault;
}

lines_say_from : (symbols : NameMap) (before : List Filled) (l : Laid) (k : ℕ) (ls : List Laid) (o : OrFault Output) → LineSays symbols
    before l ls o
    → ((bs : List Filled) (next : Output) → IsMadeOf next.image (bytes_by bs) → OutputSays symbols bs (k + 1) ls
    (output_from (k + 1) symbols next (map (λ x. x.source) ls) (map (λ x. x.address) ls)))
    → OutputSays symbols before k (l ∷ ls)
    (at_line k o (λ next. output_from (k + 1) symbols next (map (λ x. x.source) ls) (map (λ x. x.address) ls)))
lines_say_from symbols before l k ls (Err w) says more = record {
  more = [];
  line = l;
  after = ls;
  cut = refl;
  numbered = omega arith;
  filled = tt;
  fault = subst (λ fs. IsLeast (InSecondPass symbols (from_entries (bytes_by fs)) l ls) w) (sym (append-nil before)) says;
}
lines_say_from symbols before l k ls (Ok next) says more =
    let f : Filled = record { laid = l; output = says.output } in
    one_more_says _ _ _ _ _ _ says.filled (more (before ++ f ∷ []) next says.made)

pub outputs_say : (counts : WordsByName) (symbols : NameMap) (ls front : List Laid) (before : List Filled) (k : ℕ) (out : Output)
    → AreLaid front ls [] → IsMadeOf out.image (bytes_by before)
    → OutputSays symbols before k ls (output_from k symbols out (map (λ x. x.source) ls) (map (λ x. x.address) ls))
unfolding output_from
outputs_say counts symbols [] front before k out laid made = tt
outputs_say counts symbols (l ∷ ls) front before k out laid made =
    lines_say_from _ _ _ _ _ _ (line_says counts _ _ _ _ _ _ _ _ laid.0 made)
    (λ bs next h. outputs_say counts symbols ls (front ++ l ∷ []) bs (k + 1) next laid.1 h)

-- ---- and back

-- lines without fault are put out
record IsPut (symbols : NameMap) (before : List Filled) (f : Filled) (after : List Laid) (k : ℕ) (out : Output) : Type 0 where
  pub next : Output
  pub goes : with_line f.laid.source symbols k f.laid.address (following (map (λ x. x.source) after) (map (λ x. x.address) after)) out ≡ Ok
      next
  pub made : IsMadeOf next.image (bytes_by (before ++ f ∷ []))

filled_put : (counts : WordsByName) (symbols : NameMap) (front : List Laid) (before : List Filled) (f : Filled) (follows : Bool)
    (after : List Laid) (k : ℕ) (out : Output) → IsLaid front f.laid follows
    → IsMadeOf out.image (bytes_by before) → IsFilled symbols before f after → IsPut symbols before f after k out
filled_put counts symbols front before f follows after k out laid made is =
    let next = following (map (λ (x : Laid). x.source) after) (map (λ (x : Laid). x.address) after) in
    go (with_line f.laid.source symbols k f.laid.address next out) refl (line_says counts symbols front before f.laid follows after k out
    laid made)
  where
    go : (o : OrFault Output) → with_line f.laid.source symbols k f.laid.address (following (map (λ (x : Laid). x.source) after)
        (map (λ (x : Laid). x.address) after)) out ≡ o
        → LineSays symbols before f.laid after o → IsPut symbols before f after k out
    go (Err w) e says = absurd (is.sound w says.stands)
    go (Ok next) e says =
        let same : says.output ≡ f.output = ok_same says.output f.output (sym says.filled.puts ∙ is.puts) in
        record {
          next = next;
          goes = e;
          made = subst (λ (o : LineOutput). IsMadeOf next.image (bytes_by (before ++ record { laid = f.laid; output = o } ∷ []))) same
              says.made;
        }

pub record ArePut (symbols : NameMap) (front : List Laid) (before fs : List Filled) (after : List Laid) (k : ℕ) (out : Output) : Type
    0 where
  pub next : Output
  pub made : IsMadeOf next.image (bytes_by (before ++ fs))
  pub laid : AreLaid (front ++ map (λ f. f.laid) fs) after []
  pub goes : output_from k symbols out (map (λ x. x.source) (map (λ f. f.laid) fs ++ after))
      (map (λ x. x.address) (map (λ f. f.laid) fs ++ after))
      ≡ output_from (k + length fs) symbols next (map (λ x. x.source) after) (map (λ x. x.address) after)

all_put : (counts : WordsByName) (symbols : NameMap) (fs : List Filled) (after front : List Laid) (before : List Filled) (k : ℕ)
    (out : Output) → AreLaid front (map (λ f. f.laid) fs ++ after) []
    → AreFilled symbols before fs after → IsMadeOf out.image (bytes_by before) → ArePut symbols front before fs after k out
unfolding output_from
all_put counts symbols [] after front before k out laid filled made =
    let same : k ≡ k + 0 = omega arith in
    record {
      next = out;
      made = subst (λ bs. IsMadeOf out.image (bytes_by bs)) (sym (append-nil before)) made;
      laid = subst (λ ls. AreLaid ls after []) (sym (append-nil front)) laid;
      goes = ap (λ n. output_from n symbols out (map (λ (x : Laid). x.source) after) (map (λ (x : Laid). x.address) after)) same;
    }
all_put counts symbols (f ∷ fs) after front before k out laid filled made =
    let ls = map (λ (g : Filled). g.laid) fs ++ after in
    let here = filled_put counts _ _ _ _ _ _ _ _ laid.0 made filled.0 in
    let rest = all_put counts symbols fs after (front ++ f.laid ∷ []) (before ++ f ∷ []) (k + 1) here.next laid.1 filled.1 here.made in
    let count : k + 1 + length fs ≡ k + suc (length fs) = omega arith in
    record {
      next = rest.next;
      made = subst (λ bs. IsMadeOf rest.next.image (bytes_by bs)) (append_assoc before (f ∷ []) fs) rest.made;
      laid = subst (λ xs. AreLaid xs after []) (append_assoc front (f.laid ∷ []) (map (λ (g : Filled). g.laid) fs)) rest.laid;
      goes =
          ap (λ (o : OrFault Output). at_line k o (λ next. output_from (k + 1) symbols next (map (λ (x : Laid). x.source) ls)
          (map (λ (x : Laid). x.address) ls))) here.goes ∙ rest.goes
          ∙ ap (λ n. output_from n symbols rest.next (map (λ (x : Laid). x.source) after) (map (λ (x : Laid). x.address) after)) count;
    }

-- the first line with a fault is refused for it
pub fault_put : (counts : WordsByName) (symbols : NameMap) (fs : List Filled) (l : Laid) (after : List Laid) (k : ℕ) (out : Output)
    (w : AsmWhy) → AreLaid [] (map (λ f. f.laid) fs ++ l ∷ after) []
    → AreFilled symbols [] fs (l ∷ after) → IsMadeOf out.image [] → IsLeast (InSecondPass symbols (from_entries (bytes_by fs)) l after) w
    → output_from k symbols out (map (λ x. x.source) (map (λ f. f.laid) fs ++ l ∷ after))
    (map (λ x. x.address) (map (λ f. f.laid) fs ++ l ∷ after)) ≡ Err (record { line = k + length fs; why = w })
unfolding output_from
fault_put counts symbols fs l after k out w laid filled made fault =
    let p = all_put counts symbols fs (l ∷ after) [] [] k out laid filled made in
    let says = line_says counts symbols (map (λ (f : Filled). f.laid) fs) fs l
    (list_any is_instruction_line (map (λ (x : Laid). x.source) after ++ [])) after (k + length fs) p.next p.laid.0 p.made in
    p.goes ∙ ap (λ (o : OrFault Output). at_line (k + length fs) o (λ next. output_from (k + length fs + 1) symbols next
    (map (λ (x : Laid). x.source) after) (map (λ (x : Laid). x.address) after)))
    (refused (with_line l.source symbols (k + length fs) l.address (following (map (λ (x : Laid). x.source) after)
    (map (λ (x : Laid). x.address) after)) p.next) says)
  where
    refused : (o : OrFault Output) → LineSays symbols fs l after o → o ≡ Err w
    refused (Ok next) says = absurd (says.filled.sound w fault.stands)
    refused (Err v) says = ap (λ u. Err u) (same_least (InSecondPass symbols (from_entries (bytes_by fs)) l after) v w says fault)
