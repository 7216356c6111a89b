-- What reading the lines of a text says of them all, both ways.
use Rattle.std.proofs.Common.{◌≡◌, ◌≢◌, ℕ, suc, ◌+◌, List, [], ◌∷◌, ◌++◌, length, Result, Ok, Err, Some, None, inl, inr, refl, sym, ap}
use Rattle.std.proofs.Common.{subst, ◌∙◌, arith, append_assoc, add-zero}
use Rattle.std.specs.Ordering.{nat_cmp}
use Rattle.std.specs.Cmp.{nat_cmp_total}
use Rattle.std.specs.FinMap.{get, empty, get-empty, same_map, nat_cmp-IsAntisymmetric}
use Rattle.std.specs.Prelude.{Option}
use Rattle.std.proofs.lemmas.List.{append-nil}
use Rattle.uz_hex.specs.Records.{Record, Spells, given, base_after, base_of, placed}
use Rattle.uz_hex.specs.HexText.{Spelled, InFlash, Agree, Holds, MakesImage, IsLeast, FaultAfter, HasFault}
use Rattle.uz_hex.specs.Reading.{Flash, Fault, after_line, go_on, read_lines}
use Rattle.uz_hex.specs.declared.records.RecordType.TheVariants.{EndOfFile}
use Rattle.uz_hex.specs.declared.records.Progress.{Progress}
use Rattle.uz_hex.specs.declared.records.Progress.TheVariants.{More, Ended}
use Rattle.uz_hex.specs.declared.errors.HexWhy.{HexWhy}
use Rattle.uz_hex.specs.declared.errors.HexWhy.TheVariants as why
use Rattle.uz_hex.proofs.PlaceLaws.{gives_left, gives_right, gives_either, agree_held}
use Rattle.uz_hex.proofs.LineLaws.{LineEffect, outcome, goes_on, ends, fails}

abbrev Entries : Type 0
Entries = List (ℕ × ℕ)

-- ---- the relations, from a base and the bytes that were given on

record MakesFrom (base : ℕ) (es : Entries) (lines : List (List ℕ)) (image : Flash) : Type 0 where
  before : List (List ℕ)
  last : List ℕ
  after : List (List ℕ)
  parts : lines ≡ before ++ last ∷ after
  records : List Record
  spelled : Spelled before records
  in_flash : InFlash (es ++ placed base records)
  end : Record
  ended : Spells last end
  is_end : end.kind ≡ EndOfFile
  holds : Holds image (es ++ placed base records)

abbrev FaultNext : ℕ → ℕ → Entries → List (List ℕ) → List Record → List (List ℕ) → ℕ → HexWhy → Type 0
FaultNext k base es before records [] n w = (n ≡ k + length before) × (w ≡ why.NoEnd)
FaultNext k base es before records (line ∷ after) n w = (n ≡ k + length before + 1) × IsLeast (base_of base records)
    (es ++ placed base records) line w

record FaultFrom (k base : ℕ) (es : Entries) (lines : List (List ℕ)) (n : ℕ) (w : HexWhy) : Type 0 where
  before : List (List ℕ)
  rest : List (List ℕ)
  parts : lines ≡ before ++ rest
  records : List Record
  spelled : Spelled before records
  in_flash : InFlash (es ++ placed base records)
  agree : Agree (es ++ placed base records)
  fault : FaultNext k base es before records rest n w

in_flash_both : (xs ys : Entries) → InFlash xs → InFlash ys → InFlash (xs ++ ys)
in_flash_both xs ys hx hy at b g = elim (gives_either xs ys at b g) [ inl l ↦ hx at b l | inr r ↦ hy at b r ]

in_flash_nil : (es : Entries) → InFlash es → InFlash (es ++ [])
in_flash_nil es h = subst InFlash (sym (append-nil es)) h

-- the bytes of one record more
placed_more : (base : ℕ) (es : Entries) (r : Record) (records : List Record) → (es ++ given base r) ++ placed (base_after base r)
    records ≡ es ++ placed base (r ∷ records)
placed_more base es r records = append_assoc es (given base r) (placed (base_after base r) records)

-- ---- what was read is so

makes_blank : (base : ℕ) (es : Entries) (lines : List (List ℕ)) (image : Flash) → MakesFrom base es lines image → MakesFrom base es
    ([] ∷ lines) image
makes_blank base es lines image m = record {
  before = [] ∷ m.before;
  last = m.last;
  after = m.after;
  parts = ap (λ ls. [] ∷ ls) m.parts;
  records = m.records;
  spelled = m.spelled;
  in_flash = m.in_flash;
  end = m.end;
  ended = m.ended;
  is_end = m.is_end;
  holds = m.holds;
}

makes_more : (base : ℕ) (es : Entries) (c : ℕ) (line : List ℕ) (lines : List (List ℕ)) (r : Record) (image : Flash) → Spells (c ∷ line) r
    → r.kind ≢ EndOfFile
    → MakesFrom (base_after base r) (es ++ given base r) lines image → MakesFrom base es ((c ∷ line) ∷ lines) image
makes_more base es c line lines r image s goes m = record {
  before = (c ∷ line) ∷ m.before;
  last = m.last;
  after = m.after;
  parts = ap (λ ls. (c ∷ line) ∷ ls) m.parts;
  records = r ∷ m.records;
  spelled = (s, goes, m.spelled);
  in_flash = subst InFlash (placed_more base es r m.records) m.in_flash;
  end = m.end;
  ended = m.ended;
  is_end = m.is_end;
  holds = subst (Holds image) (placed_more base es r m.records) m.holds;
}

makes_last : (base : ℕ) (es : Entries) (line : List ℕ) (lines : List (List ℕ)) (r : Record) (image : Flash) → Spells line r
    → r.kind ≡ EndOfFile
    → InFlash es → Holds image es → MakesFrom base es (line ∷ lines) image
makes_last base es line lines r image s is flash holds = record {
  before = [];
  last = line;
  after = lines;
  parts = refl;
  records = [];
  spelled = tt;
  in_flash = in_flash_nil es flash;
  end = r;
  ended = s;
  is_end = is;
  holds = subst (Holds image) (sym (append-nil es)) holds;
}

fault_none : (k base : ℕ) (es : Entries) (flash : Flash) → InFlash es → Holds flash es → FaultFrom k base es [] k why.NoEnd
fault_none k base es flash in' holds = record {
  before = [];
  rest = [];
  parts = refl;
  records = [];
  spelled = tt;
  in_flash = in_flash_nil es in';
  agree = subst Agree (sym (append-nil es)) (agree_held flash es holds);
  fault = (sym (add-zero k), refl);
}

fault_here : (k base : ℕ) (es : Entries) (flash : Flash) (line : List ℕ) (lines : List (List ℕ)) (w : HexWhy) → InFlash es → Holds flash es
    → IsLeast base es line w
    → FaultFrom k base es (line ∷ lines) (suc k) w
fault_here k base es flash line lines w in' holds least = record {
  before = [];
  rest = line ∷ lines;
  parts = refl;
  records = [];
  spelled = tt;
  in_flash = in_flash_nil es in';
  agree = subst Agree (sym (append-nil es)) (agree_held flash es holds);
  fault = (omega arith, subst (λ ys. IsLeast base ys line w) (sym (append-nil es)) least);
}

-- a line more before it
fault_moved : (k base : ℕ) (es : Entries) (line : List ℕ) (before : List (List ℕ)) (records : List Record) (rest : List (List ℕ)) (n : ℕ)
    (w : HexWhy)
    → FaultNext (suc k) base es before records rest n w → FaultNext k base es (line ∷ before) records rest n w
fault_moved k base es line before records [] n w f = let e = f.0 in (omega arith, f.1)
fault_moved k base es line before records (next ∷ after) n w f = let e = f.0 in (omega arith, f.1)

fault_record : (k base : ℕ) (es : Entries) (line : List ℕ) (before : List (List ℕ)) (r : Record) (records : List Record)
    (rest : List (List ℕ)) (n : ℕ) (w : HexWhy)
    → FaultNext (suc k) (base_after base r) (es ++ given base r) before records rest n w → FaultNext k base es (line ∷ before) (r ∷ records)
    rest n w
fault_record k base es line before r records [] n w f = let e = f.0 in (omega arith, f.1)
fault_record k base es line before r records (next ∷ after) n w f =
    let e = f.0 in
    (omega arith, subst (λ ys. IsLeast (base_of base (r ∷ records)) ys next w) (placed_more base es r records) f.1)

fault_blank : (k base : ℕ) (es : Entries) (lines : List (List ℕ)) (n : ℕ) (w : HexWhy) → FaultFrom (suc k) base es lines n w
    → FaultFrom k base es ([] ∷ lines) n w
fault_blank k base es lines n w f = record {
  before = [] ∷ f.before;
  rest = f.rest;
  parts = ap (λ ls. [] ∷ ls) f.parts;
  records = f.records;
  spelled = f.spelled;
  in_flash = f.in_flash;
  agree = f.agree;
  fault = fault_moved k base es [] f.before f.records f.rest n w f.fault;
}

fault_more : (k base : ℕ) (es : Entries) (c : ℕ) (line : List ℕ) (lines : List (List ℕ)) (r : Record) (n : ℕ) (w : HexWhy)
    → Spells (c ∷ line) r → r.kind ≢ EndOfFile
    → FaultFrom (suc k) (base_after base r) (es ++ given base r) lines n w → FaultFrom k base es ((c ∷ line) ∷ lines) n w
fault_more k base es c line lines r n w s goes f = record {
  before = (c ∷ line) ∷ f.before;
  rest = f.rest;
  parts = ap (λ ls. (c ∷ line) ∷ ls) f.parts;
  records = r ∷ f.records;
  spelled = (s, goes, f.spelled);
  in_flash = subst InFlash (placed_more base es r f.records) f.in_flash;
  agree = subst Agree (placed_more base es r f.records) f.agree;
  fault = fault_record k base es (c ∷ line) f.before r f.records f.rest n w f.fault;
}

-- what reading answers is so
abbrev Answers : ℕ → ℕ → Entries → List (List ℕ) → Result Flash Fault → Type 0
Answers k base es lines (Ok image) = MakesFrom base es lines image
Answers k base es lines (Err fault) = FaultFrom k base es lines fault.0 fault.1

answers_blank : (k base : ℕ) (es : Entries) (lines : List (List ℕ)) (result : Result Flash Fault) → Answers (suc k) base es lines result
    → Answers k base es ([] ∷ lines) result
answers_blank k base es lines (Ok image) a = makes_blank base es lines image a
answers_blank k base es lines (Err fault) a = fault_blank k base es lines fault.0 fault.1 a

answers_more : (k base : ℕ) (es : Entries) (c : ℕ) (line : List ℕ) (lines : List (List ℕ)) (r : Record) (result : Result Flash Fault)
    → Spells (c ∷ line) r → r.kind ≢ EndOfFile
    → Answers (suc k) (base_after base r) (es ++ given base r) lines result → Answers k base es ((c ∷ line) ∷ lines) result
answers_more k base es c line lines r (Ok image) s goes a = makes_more base es c line lines r image s goes a
answers_more k base es c line lines r (Err fault) s goes a = fault_more k base es c line lines r fault.0 fault.1 s goes a

-- what comes after a line that isn't blank
after_filled : (k base : ℕ) (es : Entries) (flash : Flash) (c : ℕ) (line : List ℕ) (lines : List (List ℕ))
    (came : Result (Progress × Flash) HexWhy)
    → InFlash es → Holds flash es → LineEffect base flash es (c ∷ line) came
    → ((next : ℕ) (held : Flash) (ys : Entries) → InFlash ys → Holds held ys → Answers (suc k) next ys lines
    (read_lines (suc k) next held lines))
    → Answers k base es ((c ∷ line) ∷ lines) (go_on (suc k) came (λ next held. read_lines (suc k) next held lines))
after_filled k base es flash c line lines (Ok (More next, held)) in' holds (inl blank) rest = cc blank.0
after_filled k base es flash c line lines (Ok (More next, held)) in' holds (inr went) rest =
    let r = went.0 in
    answers_more k base es c line lines r (read_lines (suc k) next held lines) went.1 went.2
    (subst (λ b. Answers (suc k) b (es ++ given base r) lines (read_lines (suc k) next held lines)) went.3
    (rest next held (es ++ given base r) (in_flash_both es (given base r) in' went.5) went.4))
after_filled k base es flash c line lines (Ok (Ended, held)) in' holds ended rest =
    makes_last base es (c ∷ line) lines ended.0 held ended.1 ended.2 in' (subst (λ f. Holds f es) (sym ended.3) holds)
after_filled k base es flash c line lines (Err w) in' holds least rest = fault_here k base es flash (c ∷ line) lines w in' holds least

reads_so : (lines : List (List ℕ)) (k base : ℕ) (es : Entries) (flash : Flash) → InFlash es → Holds flash es → Answers k base es lines
    (read_lines k base flash lines)
reads_so [] k base es flash in' holds = fault_none k base es flash in' holds
reads_so ([] ∷ lines) k base es flash in' holds = answers_blank k base es lines (read_lines (suc k) base flash lines)
    (reads_so lines (suc k) base es flash in' holds)
reads_so ((c ∷ line) ∷ lines) k base es flash in' holds =
    after_filled k base es flash c line lines (after_line base flash (c ∷ line)) in' holds (outcome base flash es (c ∷ line) holds)
    (λ next held ys iy hy. reads_so lines (suc k) next ys held iy hy)

-- nothing is held yet
holds_empty : Holds empty []
holds_empty at b = ((λ e. cc (sym (get-empty nat_cmp at) ∙ e)), (λ g. absurd g))

in_flash_empty : InFlash []
in_flash_empty at b g = absurd g

-- what the relation says of the answer
abbrev pub IsAnswer : List (List ℕ) → Result Flash Fault → Type 0
IsAnswer lines (Ok image) = MakesImage lines image
IsAnswer lines (Err fault) = HasFault lines fault.0 fault.1

fault_start : (before : List (List ℕ)) (records : List Record) (rest : List (List ℕ)) (n : ℕ) (w : HexWhy) → FaultNext 0 0 [] before records
    rest n w → FaultAfter before records rest n w
fault_start before records [] n w f = let e = f.0 in (omega arith, f.1)
fault_start before records (line ∷ after) n w f = let e = f.0 in (omega arith, f.1)

answer_is : (lines : List (List ℕ)) (result : Result Flash Fault) → Answers 0 0 [] lines result → IsAnswer lines result
answer_is lines (Ok image) m = record {
  before = m.before;
  last = m.last;
  after = m.after;
  parts = m.parts;
  records = m.records;
  sound = record { spelled = m.spelled; in_flash = m.in_flash; agree = agree_held image (placed 0 m.records) m.holds };
  end = m.end;
  ended = m.ended;
  is_end = m.is_end;
  holds = m.holds;
}
answer_is lines (Err fault) f = record {
  before = f.before;
  rest = f.rest;
  parts = f.parts;
  records = f.records;
  sound = record { spelled = f.spelled; in_flash = f.in_flash; agree = f.agree };
  fault = fault_start f.before f.records f.rest fault.0 fault.1 f.fault;
}

pub read_is : (lines : List (List ℕ)) → IsAnswer lines (read_lines 0 0 empty lines)
read_is lines = answer_is lines (read_lines 0 0 empty lines) (reads_so lines 0 0 [] empty in_flash_empty holds_empty)

-- ---- what is so is read

-- sound lines are read, and the lines behind them from there
abbrev Passed : ℕ → ℕ → Entries → Flash → List (List ℕ) → List Record → List (List ℕ) → Type 0
Passed k base es flash before records more = (held : Flash) × Holds held (es ++ placed base records)
    × (read_lines k base flash (before ++ more) ≡ read_lines (k + length before) (base_of base records) held more)

passed_nil : (k base : ℕ) (es : Entries) (flash : Flash) (more : List (List ℕ)) → Holds flash es → Passed k base es flash [] [] more
passed_nil k base es flash more holds = (
  flash,
  subst (Holds flash) (sym (append-nil es)) holds,
  ap (λ n. read_lines n base flash more)
      (sym (add-zero k)),
)

passed_blank : (k base : ℕ) (es : Entries) (flash : Flash) (before : List (List ℕ)) (records : List Record) (more : List (List ℕ))
    → Passed (suc k) base es flash before records more → Passed k base es flash ([] ∷ before) records more
passed_blank k base es flash before records more p =
    let one : suc k + length before ≡ k + suc (length before) = omega arith in
    (p.0, p.1, p.2 ∙ ap (λ n. read_lines n (base_of base records) p.0 more) one)

passed_record : (k base : ℕ) (es : Entries) (flash held : Flash) (c : ℕ) (line : List ℕ) (before : List (List ℕ)) (r : Record)
    (records : List Record) (more : List (List ℕ))
    → after_line base flash (c ∷ line) ≡ Ok (More (base_after base r), held)
    → Passed (suc k) (base_after base r) (es ++ given base r) held before records more → Passed k base es flash ((c ∷ line) ∷ before)
    (r ∷ records) more
passed_record k base es flash held c line before r records more is p =
    let one : suc k + length before ≡ k + suc (length before) = omega arith in
    let on : ℕ → Flash → Result Flash Fault = λ next f. read_lines (suc k) next f (before ++ more) in (
      p.0,
      subst (Holds p.0) (placed_more base es r records) p.1,
      ap (λ came. go_on (suc k) came on) is
          ∙ (p.2 ∙ ap (λ n. read_lines n (base_of base (r ∷ records)) p.0 more) one),
    )

agree_front : (xs ys : Entries) → Agree (xs ++ ys) → Agree xs
agree_front xs ys h at b c gb gc = h at b c (gives_left xs ys at b gb) (gives_left xs ys at c gc)

in_flash_back : (xs ys : Entries) → InFlash (xs ++ ys) → InFlash ys
in_flash_back xs ys h at b g = h at b (gives_right xs ys at b g)

in_flash_front : (xs ys : Entries) → InFlash (xs ++ ys) → InFlash xs
in_flash_front xs ys h at b g = h at b (gives_left xs ys at b g)

pass : (before : List (List ℕ)) (records : List Record) (more : List (List ℕ)) (k base : ℕ) (es : Entries) (flash : Flash) → Holds flash es
    → Spelled before records
    → InFlash (es ++ placed base records) → Agree (es ++ placed base records) → Passed k base es flash before records more
pass [] [] more k base es flash holds s in' agree = passed_nil k base es flash more holds
pass [] (r ∷ records) more k base es flash holds s in' agree = absurd s
pass ([] ∷ before) records more k base es flash holds s in' agree = passed_blank k base es flash before records more
    (pass before records more (suc k) base es flash holds s in' agree)
pass ((c ∷ line) ∷ before) [] more k base es flash holds s in' agree = absurd s
pass ((c ∷ line) ∷ before) (r ∷ records) more k base es flash holds s in' agree =
    let whole = placed_more base es r records in
    let in2 = subst InFlash (sym whole) in' in
    let agree2 = subst Agree (sym whole) agree in
    let on = goes_on base flash es (c ∷ line) r holds s.0 s.1
    (in_flash_back es (given base r) (in_flash_front (es ++ given base r) (placed (base_after base r) records) in2))
    (agree_front (es ++ given base r) (placed (base_after base r) records) agree2) in
    passed_record k base es flash on.0 c line before r records more on.1
    (pass before records more (suc k) (base_after base r) (es ++ given base r) on.0 on.2 s.2 in2 agree2)

-- maps that hold the same bytes are one
same_option : (o p : Option ℕ) → ((b : ℕ) → o ≡ Some b → p ≡ Some b) → ((b : ℕ) → p ≡ Some b → o ≡ Some b) → o ≡ p
same_option None None f g = refl
same_option None (Some b) f g = g b refl
same_option (Some b) p f g = sym (f b refl)

same_held : (es : Entries) (a b : Flash) → Holds a es → Holds b es → a ≡ b
same_held es a b ha hb = same_map nat_cmp_total nat_cmp-IsAntisymmetric a b (λ q. same_option (get a q) (get b q)
    (λ v e. (hb q v).1 ((ha q v).0 e)) (λ v e. (ha q v).1 ((hb q v).0 e)))

-- lines that make an image are read so
pub read_made : (lines : List (List ℕ)) (image : Flash) → MakesImage lines image → read_lines 0 0 empty lines ≡ Ok image
read_made lines image m =
    let p = pass m.before m.records (m.last ∷ m.after) 0 0 [] empty holds_empty m.sound.spelled m.sound.in_flash m.sound.agree in
    let end = ends (base_of 0 m.records) p.0 (placed 0 m.records) m.last m.end p.1 m.ended m.is_end in
    let on : ℕ → Flash → Result Flash Fault = λ next f. read_lines (suc (0 + length m.before)) next f m.after in
    ap (read_lines 0 0 empty) m.parts
    ∙ (p.2 ∙ (ap (λ came. go_on (suc (0 + length m.before)) came on) end
    ∙ ap Ok (same_held (placed 0 m.records) p.0 image p.1 m.holds)))

-- the rest after sound lines, where the first fault is
fault_read : (before : List (List ℕ)) (records : List Record) (rest : List (List ℕ)) (held : Flash) (n : ℕ) (w : HexWhy)
    → Holds held (placed 0 records) → FaultAfter before records rest n w
    → read_lines (0 + length before) (base_of 0 records) held rest ≡ Err (n, w)
fault_read before records [] held n w holds f =
    let e = f.0 in
    let num : 0 + length before ≡ n = omega arith in
    ap (λ k. Err (k, why.NoEnd)) num ∙ ap (λ v. Err (n, v)) (sym f.1)
fault_read before records (line ∷ after) held n w holds f =
    let e = f.0 in
    let num : suc (0 + length before) ≡ n = omega arith in
    let on : ℕ → Flash → Result Flash Fault = λ next h. read_lines (suc (0 + length before)) next h after in
    ap (λ came. go_on (suc (0 + length before)) came on) (fails (base_of 0 records) held (placed 0 records) line w holds f.1)
    ∙ ap (λ k. Err (k, w)) num

pub read_faulty : (lines : List (List ℕ)) (n : ℕ) (w : HexWhy) → HasFault lines n w → read_lines 0 0 empty lines ≡ Err (n, w)
read_faulty lines n w f =
    let p = pass f.before f.records f.rest 0 0 [] empty holds_empty f.sound.spelled f.sound.in_flash f.sound.agree in
    ap (read_lines 0 0 empty) f.parts ∙ (p.2 ∙ fault_read f.before f.records f.rest p.0 n w p.1 f.fault)
