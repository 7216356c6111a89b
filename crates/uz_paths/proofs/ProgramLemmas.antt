-- One more fact, and that the program of hints that aren't at fault is fit to be searched.
use Rattle.std.proofs.Common.{◌≡◌, ◌≢◌, ◌∙◌, sym, ap, refl, arith, ℕ, zero, suc, ◌+◌, ◌-◌, ◌<◌, ◌≤◌, true, List, [], ◌∷◌, ◌++◌}
use Rattle.std.proofs.Common.{length, drop, get_or, subst, ⊎_elim, Bool, false, if◌then◌else◌}
use Rattle.std.specs.Prelude.{Option, Some, None, ◌||◌, slice_get}
use Rattle.std.specs.Ordering.{nat_cmp}
use Rattle.std.specs.FinMap.{FinMap}
use Rattle.std.proofs.Math.Seq.{drop-cons}
use Rattle.std.proofs.lemmas.Bool.{cases_lt}
use Rattle.std.proofs.lemmas.Option.{slice_get-get_or, slice_get_cases, same_Some}
use Rattle.avr_asm.specs.declared.output.Hint.{Hint}
use Rattle.uz_schedule.specs.Ends.{Ends}
use Rattle.uz_schedule.specs.Instances.{entry_instance_at}
use Rattle.uz_schedule.specs.Limits.{is_length, is_top}
use Rattle.uz_schedule.specs.Schedule.{length_of, length_of_kind, response_clocks, scanline, half_line}
use Rattle.uz_schedule.specs.WellFormed.{HeadFits}
use Rattle.uz_schedule.specs.declared.kinds.Kind.{Kind}
use Rattle.uz_schedule.specs.declared.kinds.Kind.TheVariants.{Main, Handler, Alone}
use Rattle.uz_schedule.specs.declared.kinds.Response.{Response}
use Rattle.uz_schedule.specs.declared.header.Head.{Head}
use Rattle.uz_schedule.specs.declared.lines.Schedule.{Schedule}
use Rattle.uz_schedule.specs.declared.states.Instance.{Instance}
use Rattle.uz_search.specs.declared.program.Program.{Program}
use Rattle.uz_search.specs.Fitting.{StartFits, ProgramFits}
use Rattle.uz_search.specs.Following.{Among, lines_of}
use Rattle.uz_search.proofs.TimerLaws.{last_clock}
use Rattle.uz_transfer.specs.Kinds.{is_main}
use Rattle.uz_paths.specs.declared.words.Beginning.{Beginning}
use Rattle.uz_paths.specs.declared.reading.Reading.{Reading}
use Rattle.uz_paths.specs.Faults.{FactPart, FactsFine}
use Rattle.uz_paths.specs.Reading.{IsReading, ReadingFits, LengthsFit}
use Rattle.uz_paths.specs.Words.{halves, is_half, length_by}
use Rattle.uz_paths.specs.ProgramOf.{entry_with, first_state, first_states, starts_of, AreKindsBy, AreShortened}

-- Facts

pub fact_at : (hints : List Hint) (i : ℕ) (d : Hint) → FactsFine hints → i < length hints → FactPart (get_or hints i d)
fact_at hints i d fine within = fine i (get_or hints i d) (slice_get-get_or hints i d within)

-- one more before those of the hints from n on
pub facts_before : {A : Type 0} (f : Hint → List A) (all : List Hint → List A)
    → ((h : Hint) (hs : List Hint) → all (h ∷ hs) ≡ f h ++ all hs) → (hints : List Hint) (n i : ℕ) (d : Hint) (old new : List A)
    → n ≡ suc i → i < length hints → new ≡ f (get_or hints i d) ++ old → old ≡ all (drop n hints) → new ≡ all (drop i hints)
facts_before f all step hints n i d old new next within is was =
    is ∙ (ap (λ xs. f (get_or hints i d) ++ xs) (was ∙ ap (λ k. all (drop k hints)) next)
    ∙ sym (ap all (drop-cons hints i d within) ∙ step (get_or hints i d) (drop (suc i) hints)))

-- One more hint of halves

by_cases : (named more : Bool) (old new k : Option ℕ) → (named ≡ true → new ≡ Some 1) → (named ≡ false → new ≡ old)
    → (if named || more then Some 1 else old) ≡ k → (if more then Some 1 else new) ≡ k
by_cases true true old new k of_it others e = e
by_cases true false old new k of_it others e = of_it refl ∙ e
by_cases false true old new k of_it others e = e
by_cases false false old new k of_it others e = others refl ∙ e

pub one_more : (hints : List Hint) (i n line : ℕ) (d : Hint) (before old new : List ℕ) (k : Option ℕ) → i < length hints → old ≡ before
    → length before ≡ n → AreShortened (get_or hints i d) old new → line < n
    → (if is_half line (drop i hints) then Some 1 else slice_get before line) ≡ k
    → (if is_half line (drop (i + 1) hints) then Some 1 else slice_get new line) ≡ k
one_more hints i n line d before old new k within same long short low e =
    let next : suc i ≡ i + 1 = omega arith in
    let at : drop i hints ≡ get_or hints i d ∷ drop (i + 1) hints =
    drop-cons hints i d within ∙ ap (λ j. get_or hints i d ∷ drop j hints) next in
    by_cases (halves line (get_or hints i d)) (is_half line (drop (i + 1) hints)) (slice_get before line) (slice_get new line) k
    (short.named line (subst (λ m. line < m) (sym (ap length same ∙ long)) low))
    (λ other. short.others line other ∙ ap (λ ns. slice_get ns line) same)
    (subst (λ hs. (if is_half line hs then Some 1 else slice_get before line) ≡ k) at e)

-- The frame

-- lines of these kinds are as long as the hints say, also past the last one
pub long_by : (hints : List Hint) (n : ℕ) (s : Schedule) → s.lengths ≡ scanline ∷ half_line ∷ [] → AreKindsBy hints n s.lines
    → ((line : ℕ) → is_half line hints ≡ true → line < n) → (l : ℕ) → length_of s l ≡ length_by hints l
long_by hints n s long are below l =
    ap (λ ns. length_of_kind ns (slice_get s.lines l)) long ∙ ⊎_elim within past (cases_lt l n)
  where
    of_kind : (b : Bool) → length_of_kind (scanline ∷ half_line ∷ []) (Some (if b then 1 else 0)) ≡ (if b then half_line else scanline)
    of_kind true = refl
    of_kind false = refl

    within : l < n → length_of_kind (scanline ∷ half_line ∷ []) (slice_get s.lines l) ≡ length_by hints l
    within less = ap (length_of_kind (scanline ∷ half_line ∷ [])) (are.each l less) ∙ of_kind (is_half l hints)

    none : n ≤ l → slice_get s.lines l ≡ None
    none after = ⊎_elim
        (λ (there : (x : ℕ) × (l < length s.lines) × (slice_get s.lines l ≡ Some x) × (get_or s.lines l x ≡ x)).
        let less = there.1 in let count = are.count in absurd (omega (arith, less, count, after)))
        (λ (gone : (length s.lines ≤ l) × (slice_get s.lines l ≡ None)). gone.1)
        (slice_get_cases s.lines l).1

    past : n ≤ l → length_of_kind (scanline ∷ half_line ∷ []) (slice_get s.lines l) ≡ length_by hints l
    past after = ap (length_of_kind (scanline ∷ half_line ∷ [])) (none after) ∙ by_test (is_half l hints) refl
      where
        by_test : (b : Bool) → is_half l hints ≡ b → scanline ≡ (if b then half_line else scanline)
        by_test true e = let less = below l e in absurd (omega (arith, less, after))
        by_test false e = refl

-- Starts

-- what is asked of a program's numbers
pub record Sizes (p : Program) (start : Beginning) : Type 0 where
  pub some : 1 ≤ lines_of p
  pub fall_some : 1 ≤ p.schedule.fall
  pub fall_in_line : (l : ℕ) → p.schedule.fall < length_of p.schedule l
  pub above : is_main start.kind ≡ true → response_clocks p.head.irq + 3 < p.schedule.fall
  pub enters : start.kind ≢ Handler

start_fits : (p : Program) (start : Beginning) (registers : List Ends) (head : Head) → Sizes p start
    → StartFits p (entry_instance_at (entry_with registers head start 0) 1)
start_fits p start registers head s = record {
  stands = record {
    line = let some = s.some in omega arith;
    clock = let less = s.fall_in_line 0 in omega arith;
    level = omega arith;
    main = λ e. (refl, refl);
    entered = λ e. absurd (s.enters e);
    pending = λ e. refl;
    top = refl;
    timer = λ e. (refl, refl);
    told = refl;
  };
  level = refl;
  line = λ e. refl;
  before = λ e. let some = s.fall_some in omega arith;
}

first_fits : (p : Program) (start : Beginning) (top : ℕ) (cells : List Ends) (c : ℕ) → Sizes p start → is_main start.kind ≡ true
    → is_top top ≡ true → c ≤ 3 → StartFits p (first_state p.head.irq top cells c)
first_fits p start top cells c s main last few =
    let above = s.above main in
    let low = s.fall_in_line 0 in
    let some = s.some in
    record {
      stands = record {
        line = omega arith;
        clock = omega arith;
        level = omega arith;
        main = λ e. absurd (cc);
        entered = λ e. above;
        pending = λ e. refl;
        top = last;
        timer = λ e. absurd (e refl);
        told = refl;
      };
      level = refl;
      line = λ e. refl;
      before = λ e. omega arith;
    }

pub first_of_five : {A : Type 0} (P : A → Type 0) (a b c d e x : A) (i : ℕ) → P a → P b → P c → P d → P e
    → slice_get (a ∷ b ∷ c ∷ d ∷ e ∷ []) i ≡ Some x → P x
first_of_five P a b c d e x zero pa pb pc pd pe h = subst P (same_Some a x h) pa
first_of_five P a b c d e x (suc zero) pa pb pc pd pe h = subst P (same_Some b x h) pb
first_of_five P a b c d e x (suc (suc zero)) pa pb pc pd pe h = subst P (same_Some c x h) pc
first_of_five P a b c d e x (suc (suc (suc zero))) pa pb pc pd pe h = subst P (same_Some d x h) pd
first_of_five P a b c d e x (suc (suc (suc (suc zero)))) pa pb pc pd pe h = subst P (same_Some e x h) pe
first_of_five P a b c d e x (suc (suc (suc (suc (suc i))))) pa pb pc pd pe h = absurd (cc)

pub first_of_one : {A : Type 0} (P : A → Type 0) (a x : A) (i : ℕ) → P a → slice_get (a ∷ []) i ≡ Some x → P x
first_of_one P a x zero pa h = subst P (same_Some a x h) pa
first_of_one P a x (suc i) pa h = absurd (cc)

all_start : (p : Program) (start : Beginning) (registers : List Ends) (top : ℕ) (cells : List Ends) (head : Head) (kind : Kind)
    → start.kind ≡ kind → Sizes p start → is_top top ≡ true
    → p.starts ≡ entry_instance_at (entry_with registers head start 0) 1 ∷ first_states kind p.head.irq top cells → (x : Instance)
    → Among p.starts x → StartFits p x
all_start p start registers top cells head Main k s last e x (i, there) =
    let main : is_main start.kind ≡ true = ap is_main k in
    first_of_five (StartFits p) _ _ _ _ _ x i (start_fits p start registers head s)
    (first_fits p start top cells 0 s main last (omega arith)) (first_fits p start top cells 1 s main last (omega arith))
    (first_fits p start top cells 2 s main last (omega arith)) (first_fits p start top cells 3 s main last (omega arith))
    (ap (λ xs. slice_get xs i) (sym e) ∙ there)
all_start p start registers top cells head Handler k s last e x a = absurd (s.enters k)
all_start p start registers top cells head Alone k s last e x (i, there) =
    first_of_one (StartFits p) _ x i (start_fits p start registers head s) (ap (λ xs. slice_get xs i) (sym e) ∙ there)

one_begins : (p : Program) (start : Beginning) (registers : List Ends) (top : ℕ) (cells : List Ends) (head : Head) (kind : Kind)
    → start.kind ≡ kind → kind ≢ Handler
    → p.starts ≡ entry_instance_at (entry_with registers head start 0) 1 ∷ first_states kind p.head.irq top cells → (x : Instance)
    × Among p.starts x × (x.kind ≢ Main)
one_begins p start registers top cells head Main k n e = (first_state p.head.irq top cells 0, (1, ap (λ xs. slice_get xs 1) e), λ h. cc)
one_begins p start registers top cells head Handler k n e = absurd (n refl)
one_begins p start registers top cells head Alone k n e = (
  entry_instance_at (entry_with registers head start 0) 1,
  (0, ap (λ xs. slice_get xs 0) e),
  λ h. cc,
)

pub program_fits : (hints : List Hint) (r : Reading) (p : Program) (last : ℕ) → ReadingFits r → p.head ≡ r.head → lines_of p ≡ r.size.lines
    → p.schedule.fall ≡ r.size.fall → LengthsFit hints r → ((l : ℕ) → length_of p.schedule l ≡ length_by hints l)
    → p.starts ≡ entry_instance_at (entry_with r.registers r.head r.start 0) 1
    ∷ first_states r.start.kind p.head.irq (length_of p.schedule last - 1) r.firsts.items
    → ProgramFits p
program_fits hints r p last fits head lines fall lengths long starts =
    let some = fits.some in
    let few = fits.few in
    let fall_some = fits.fall_some in
    let sizes : Sizes p r.start = record {
      some = omega arith;
      fall_some = omega arith;
      fall_in_line = in_line;
      above = λ main. subst (λ h. response_clocks h.irq + 3 < p.schedule.fall) (sym head) (let low = fits.above main in omega arith);
      enters = fits.enters;
    } in
    record {
      head = subst HeadFits (sym head) fits.head;
      some = omega arith;
      few = omega arith;
      lengths = are_lengths;
      fall_some = omega arith;
      fall_in_line = in_line;
      starts = all_start p r.start r.registers (length_of p.schedule last - 1) r.firsts.items r.head r.start.kind refl sizes
          (last_clock (length_of p.schedule last) (are_lengths last)) starts;
      begins = one_begins p r.start r.registers (length_of p.schedule last - 1) r.firsts.items r.head r.start.kind refl fits.enters
          starts;
    }
  where
    in_line : (l : ℕ) → p.schedule.fall < length_of p.schedule l
    in_line l = let less = lengths.fall l in let is = long l in omega (arith, less, is, fall)

    of_length : (b : Bool) → is_length (if b then half_line else scanline) ≡ true
    of_length true = refl
    of_length false = refl

    are_lengths : (l : ℕ) → is_length (length_of p.schedule l) ≡ true
    are_lengths l = ap is_length (long l) ∙ of_length (is_half l hints)

-- the starts are those of the hints that were read
pub program_starts : (hints : List Hint) (irq : Response) (r : Reading) (top lines : ℕ) (starts : List Instance)
    → {image : FinMap nat_cmp ℕ} → IsReading image irq hints r → top ≡ length_by hints (lines - 1) - 1
    → starts ≡ entry_instance_at (entry_with r.registers r.head r.start 0) 1 ∷ first_states r.start.kind r.head.irq top r.firsts.items
    → starts ≡ starts_of irq hints r.head r.start lines
program_starts hints irq r top lines starts reading last is =
    is ∙ (λ i. entry_instance_at (entry_with (reading.registers i) r.head r.start 0) 1 ∷ first_states r.start.kind (reading.head.response i)
    (last i) (reading.firsts i))
