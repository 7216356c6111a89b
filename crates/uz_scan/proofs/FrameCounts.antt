-- There are so few frames that their number fits: each begins after a broad pulse, which takes 300 clocks.
use Rattle.std.proofs.Common.{◌≡◌, ℕ, ◌+◌, ◌-◌, ◌*◌, ◌^◌, ◌≤◌, ◌<◌, Bool, true, false, not, ◌&&◌, cond, List, [], ◌∷◌, Option, Some, None}
use Rattle.std.proofs.Common.{refl, sym, ap, subst, ◌∙◌, leb, lit≤, arith}
use Rattle.std.proofs.lemmas.Bool.{false≢true}
use Rattle.std.specs.Prelude.{unwrap_or}
use Rattle.std.proofs.lemmas.Bool.Decides.{nat_tests}
use Rattle.uz_core.specs.declared.machine.Edge.{Edge}
use Rattle.uz_scan.specs.Lines.{is_high, is_fall, is_rise, last_clock, line_start, before_line, low_time, is_broad}
use Rattle.uz_scan.specs.Pictures.{frames, begins_frame}
use Rattle.uz_scan.specs.Scanning.{IsInOrder, broad}

-- 300 clocks for a broad pulse
abbrev paid : Bool → ℕ
paid true = 300
paid false = 0

-- what is paid by the clocks so far: before the line's rise by those before the line, then by all
abbrev Paid : Option ℕ → List Edge → Type 0
Paid None edges = 300 * frames edges + paid (is_broad (before_line edges)) ≤ unwrap_or (line_start edges) 0
Paid (Some low) edges = 300 * frames edges + paid (is_broad edges) ≤ last_clock edges

record Counted (edges : List Edge) : Type 0 where
  paid : Paid (low_time edges) edges
  start : unwrap_or (line_start edges) 0 ≤ last_clock edges
  low : is_high edges ≡ false → low_time edges ≡ None

-- tests of two levels
no_both : (old new : Bool) → (old && not new) ≡ true → (not old && new) ≡ true → ⊥
no_both true true f r = cc
no_both true false f r = cc
no_both false true f r = cc
no_both false false f r = cc

was_low : (old new : Bool) → (not old && new) ≡ true → old ≡ false
was_low true new r = absurd cc
was_low false new r = refl

is_now_high : (old new : Bool) → (not old && new) ≡ true → new ≡ true
is_now_high true new r = absurd cc
is_now_high false new r = r

stayed_low : (old new : Bool) → (old && not new) ≡ false → new ≡ false → old ≡ false
stayed_low true true f n = absurd cc
stayed_low true false f n = absurd cc
stayed_low false new f n = refl

-- what was paid before a fall
paid_before : (edges : List Edge) (low : Option ℕ) → low_time edges ≡ low → Paid low edges → unwrap_or (line_start edges) 0 ≤ last_clock
    edges → 300 * frames edges + paid (is_broad edges) ≤ last_clock edges
paid_before edges None e h s = simp e (omega arith)
paid_before edges (Some low) e h s = h

-- no line runs: none has been broad
none_broad : (e : Edge) (edges : List Edge) (b q : Bool) → 300 * frames edges + paid b ≤ 0 → 300 * cond (not q && b) (frames edges + 1)
    (frames edges) + paid b ≤ 0
none_broad e edges true q h = absurd (omega arith)
none_broad e edges false true h = h
none_broad e edges false false h = h

-- a line's rise
rise_paid : (count start clock : ℕ) (b q : Bool) → leb 300 (clock - start) ≡ q → 300 * count + paid b ≤ start → start ≤ clock
    → 300 * cond (not q && b) (count + 1) count + paid q ≤ clock
rise_paid count start clock true true e h s = grind (arith, nat_tests)
rise_paid count start clock true false e h s = omega arith
rise_paid count start clock false true e h s = grind (arith, nat_tests)
rise_paid count start clock false false e h s = omega arith

not_begun : (e : Edge) (edges : List Edge) → is_rise e edges ≡ false → begins_frame e edges ≡ false
not_begun e edges rises = ap (λ r. r && (not (is_broad (e ∷ edges)) && is_broad (before_line edges))) rises

frames_are : (e : Edge) (edges : List Edge) (b : Bool) → begins_frame e edges ≡ b → frames (e ∷ edges) ≡ cond b (frames edges + 1)
    (frames edges)
frames_are e edges b begins = ap (λ x. cond x (frames edges + 1) (frames edges)) begins

paid_none : (e : Edge) (edges : List Edge) (count start : ℕ) (broad : Bool) → frames (e ∷ edges) ≡ count
    → is_broad (before_line (e ∷ edges)) ≡ broad → unwrap_or (line_start (e ∷ edges)) 0 ≡ start → 300 * count + paid broad ≤ start
    → Paid None (e ∷ edges)
paid_none e edges count start broad f b s h = let p = ap paid b in omega arith

paid_some : (e : Edge) (edges : List Edge) (low count : ℕ) (broad : Bool) → frames (e ∷ edges) ≡ count → is_broad (e ∷ edges) ≡ broad
    → 300 * count + paid broad ≤ e.clock → Paid (Some low) (e ∷ edges)
paid_some e edges low count broad f b h = let p = ap paid b in omega arith

risen_paid : (e : Edge) (edges : List Edge) (o : Option ℕ) → line_start edges ≡ o → is_fall e edges ≡ false → is_rise e edges ≡ true
    → 300 * frames edges + paid (is_broad (before_line edges)) ≤ unwrap_or o 0 → unwrap_or o 0 ≤ e.clock → Paid (low_time (e ∷ edges))
    (e ∷ edges)
risen_paid e edges None s f r h t =
    let low : low_time (e ∷ edges) ≡ None = simp (f, r, s) refl in
    let begins : begins_frame e edges ≡ (not (is_broad (e ∷ edges)) && is_broad (before_line edges)) =
    ap (λ x. x && (not (is_broad (e ∷ edges)) && is_broad (before_line edges))) r in
    subst (λ l. Paid l (e ∷ edges)) (sym low)
    (paid_none e edges _ 0 (is_broad (before_line edges)) (frames_are e edges _ begins)
    (ap (λ x. is_broad (cond x edges (before_line edges))) f) (ap (λ x. unwrap_or (cond x (Some e.clock) (line_start edges)) 0) f
    ∙ ap (λ o. unwrap_or o 0) s)
    (none_broad e edges (is_broad (before_line edges)) (is_broad (e ∷ edges)) h))
risen_paid e edges (Some start) s f r h t =
    let low : low_time (e ∷ edges) ≡ Some (e.clock - start) = simp (f, r, s) refl in
    let begins : begins_frame e edges ≡ (not (is_broad (e ∷ edges)) && is_broad (before_line edges)) =
    ap (λ x. x && (not (is_broad (e ∷ edges)) && is_broad (before_line edges))) r in
    subst (λ l. Paid l (e ∷ edges)) (sym low)
    (paid_some e edges (e.clock - start) _ (is_broad (e ∷ edges)) (frames_are e edges _ begins) refl
    (rise_paid (frames edges) start e.clock (is_broad (before_line edges)) (is_broad (e ∷ edges)) (sym (ap broad low)) h t))

-- where an edge keeps the level
quiet_paid : (e : Edge) (edges : List Edge) (low : Option ℕ) → low_time edges ≡ low → is_fall e edges ≡ false → is_rise e edges ≡ false
    → last_clock edges ≤ e.clock → Paid low edges → Paid low (e ∷ edges)
quiet_paid e edges None l f r o h =
    paid_none e edges _ _ _ (frames_are e edges false (not_begun e edges r)) (ap (λ x. is_broad (cond x edges (before_line edges))) f)
    (ap (λ x. unwrap_or (cond x (Some e.clock) (line_start edges)) 0) f) h
quiet_paid e edges (Some low) l f r o h =
    let same : low_time (e ∷ edges) ≡ low_time edges = simp (f, r) refl in
    paid_some e edges low _ _ (frames_are e edges false (not_begun e edges r)) (ap broad same) (omega arith)

counted : (e : Edge) (edges : List Edge) (falls rises : Bool) → is_fall e edges ≡ falls → is_rise e edges ≡ rises
    → last_clock edges ≤ e.clock → Counted edges → Counted (e ∷ edges)
counted e edges true true f r o c = absurd (no_both (is_high edges) (is_high (e ∷ edges)) f r)
counted e edges true false f r o c =
    let h = paid_before edges (low_time edges) refl c.paid c.start in
    let low : low_time (e ∷ edges) ≡ None = simp f refl in
    record {
      paid = subst (λ l. Paid l (e ∷ edges)) (sym low) (paid_none e edges _ _ _ (frames_are e edges false (not_begun e edges r))
          (ap (λ x. is_broad (cond x edges (before_line edges))) f) (ap (λ x. unwrap_or (cond x (Some e.clock) (line_start edges)) 0) f)
          (omega arith));
      start = simp f (omega arith);
      low = λ _. low;
    }
counted e edges false true f r o c =
    let none = c.low (was_low (is_high edges) (is_high (e ∷ edges)) r) in
    let h = subst (λ l. Paid l edges) none c.paid in
    let s = c.start in
    record {
      paid = risen_paid e edges _ refl f r h (omega arith);
      start = simp f (omega arith);
      low = λ l. absurd (false≢true (sym l ∙ is_now_high (is_high edges) (is_high (e ∷ edges)) r));
    }
counted e edges false false f r o c =
    let low : low_time (e ∷ edges) ≡ low_time edges = simp (f, r) refl in
    record {
      paid = subst (λ l. Paid l (e ∷ edges)) (sym low) (quiet_paid e edges (low_time edges) refl f r o c.paid);
      start = simp f (omega arith);
      low = λ l. low ∙ c.low (stayed_low (is_high edges) (is_high (e ∷ edges)) f l);
    }

all_counted : (edges : List Edge) → IsInOrder edges → Counted edges
all_counted [] o = record { paid = lit≤ tt; start = lit≤ tt; low = λ _. refl }
all_counted (e ∷ edges) o = counted e edges _ _ refl refl o.0 (all_counted edges o.1)

counts_fit : (low : Option ℕ) (edges : List Edge) → low_time edges ≡ low → Counted edges → 300 * frames edges ≤ last_clock edges
counts_fit None edges e c = let h = subst (λ l. Paid l edges) e c.paid in omega arith
counts_fit (Some low) edges e c = let h = subst (λ l. Paid l edges) e c.paid in omega arith

pub frames_fit : (edges : List Edge) → IsInOrder edges → last_clock edges < 2 ^ 64 → frames edges < 2 ^ 64
frames_fit edges o l = let h = counts_fit _ edges refl (all_counted edges o) in omega arith
