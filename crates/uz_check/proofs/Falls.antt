-- The falls of a history (newest first).
use Rattle.uz_check.proofs.Common.{same_Some, and_parts, not-true, both_ways, ◌≡◌, ◌≢◌, inl, inr, ℕ, Bool, true, false, not, cond, List, []}
use Rattle.uz_check.proofs.Common.{◌∷◌, ◌++◌, refl, sym, ◌∙◌, ap, subst, arith, ⊤, ◌==◌, ◌&&◌, Some, unwrap_or, nat_tests, Edge, EdgeKind}
use Rattle.uz_check.proofs.Common.{Enter, is_high, Pixel, Sound, Leave}
use Rattle.uz_core.specs.declared.machine.EdgeKind.TheVariants.{Sync}
use Rattle.uz_scan.specs.Lines.{ends_line, is_fall, level_brought, line_start}
use Rattle.uz_check.proofs.Changes.{Changes, IsChange}
use Rattle.uz_check.proofs.EventLists.{Among}

low_is_zero : (value : ℕ) → not (not (value == 0)) ≡ true → value ≡ 0
low_is_zero value h = grind (arith, nat_tests)

-- what a fall is
kind_falls : (kind : EdgeKind) (high : Bool) → (high && not (unwrap_or (level_brought kind) high)) ≡ true → (high ≡ true) × (kind ≡ Sync 0)
kind_falls (Sync value) high h = (let b = and_parts high (not (not (value == 0))) h in (b.0, ap Sync (low_is_zero value b.1)))
kind_falls kind high h = (let b = and_parts high (not high) h in absurd (both_ways high (not-true high b.1) b.0))

pub fall_is : (e : Edge) (before : List Edge) → is_fall e before ≡ true → (is_high before ≡ true) × (e.kind ≡ Sync 0)
fall_is e before h = kind_falls e.kind (is_high before) h

pub ending_falls : (e : Edge) (before : List Edge) → ends_line e before ≡ true → is_fall e before ≡ true
ending_falls e before h = (and_parts (is_fall e before) _ h).0

-- sync 0 is a fall, where sync edges are changes
zero_is_change : (high : Bool) → IsChange (Sync 0) high → (high && not (unwrap_or (level_brought (Sync 0)) high)) ≡ true
zero_is_change true change = refl
zero_is_change false change = absurd (change refl)

pub zero_falls : (e : Edge) (before : List Edge) → Changes (e ∷ before) → e.kind ≡ Sync 0 → is_fall e before ≡ true
zero_falls e before changes zero_sync =
    subst (λ k. (is_high before && not (unwrap_or (level_brought k) (is_high before))) ≡ true) (sym zero_sync)
    (zero_is_change (is_high before) (subst (λ k. IsChange k (is_high before)) zero_sync changes.0))

-- Since a line's start

abbrev pub NoFalls : List Edge → List Edge → Type 0
NoFalls [] before = ⊤
NoFalls (e ∷ later) before = (is_fall e (later ++ before) ≡ false) × NoFalls later before

-- the fall that begins the line that runs, and the edges since then
pub record Began (edges : List Edge) (from : ℕ) : Type 0 where
  pub since : List Edge
  pub fall : Edge
  pub earlier : List Edge
  pub cut : edges ≡ since ++ fall ∷ earlier
  pub falls : is_fall fall earlier ≡ true
  pub clock : fall.clock ≡ from
  pub none : NoFalls since (fall ∷ earlier)

began_here : (e : Edge) (before : List Edge) (from : ℕ) (b : Bool) → is_fall e before ≡ b → cond b (Some e.clock) (line_start before) ≡ Some
    from → (line_start before ≡ Some from → Began before from) → Began (e ∷ before) from
began_here e before from true is h more = record {
  since = [];
  fall = e;
  earlier = before;
  cut = refl;
  falls = is;
  clock = same_Some e.clock from h;
  none = tt;
}
began_here e before from false is h more =
    let b = more h in
    record {
      since = e ∷ b.since;
      fall = b.fall;
      earlier = b.earlier;
      cut = ap (λ x. e ∷ x) b.cut;
      falls = b.falls;
      clock = b.clock;
      none = (subst (λ x. is_fall e x ≡ false) b.cut is, b.none);
    }

pub began : (edges : List Edge) (from : ℕ) → line_start edges ≡ Some from → Began edges from
began [] from h = absurd (cc h)
began (e ∷ before) from h = began_here e before from (is_fall e before) refl h (began before from)

-- no sync 0 among edges that don't fall
pub no_zero : (later before : List Edge) (e : Edge) → Changes (later ++ before) → NoFalls later before → Among e later → e.kind ≡ Sync 0 → ⊥
no_zero [] before e changes none here is = absurd here
no_zero (x ∷ later) before e changes none (inl same) is =
    both_ways (is_fall x (later ++ before)) none.0 (zero_falls x (later ++ before) changes (ap (λ (y : Edge). y.kind) same ∙ is))
no_zero (x ∷ later) before e changes none (inr here) is = no_zero later before e changes.1 none.1 here is

-- where the level has come to be high there was a rise
pub record Rise (edges : List Edge) : Type 0 where
  pub edge : Edge
  pub among : Among edge edges
  pub value : ℕ
  pub kind : edge.kind ≡ Sync value
  pub high : value ≢ 0

further : (e : Edge) (later : List Edge) → Rise later → Rise (e ∷ later)
further e later r = record { edge = r.edge; among = inr r.among; value = r.value; kind = r.kind; high = r.high }

raised : (value : ℕ) → not (value == 0) ≡ true → value ≢ 0
raised value h is = grind (arith, nat_tests)

rose_by : (e : Edge) (later : List Edge) (high : Bool) (kind : EdgeKind) → e.kind ≡ kind → unwrap_or (level_brought kind) high ≡ true
    → (high ≡ true → Rise later) → Rise (e ∷ later)
rose_by e later high (Sync value) is h more = record { edge = e; among = inl refl; value = value; kind = is; high = raised value h }
rose_by e later high (Pixel value) is h more = further e later (more h)
rose_by e later high (Sound value) is h more = further e later (more h)
rose_by e later high (Enter count) is h more = further e later (more h)
rose_by e later high Leave is h more = further e later (more h)

pub rose_since : (later before : List Edge) → is_high before ≡ false → is_high (later ++ before) ≡ true → Rise later
rose_since [] before low high = absurd (both_ways (is_high before) low high)
rose_since (e ∷ later) before low high = rose_by e later (is_high (later ++ before)) e.kind refl high (rose_since later before low)
