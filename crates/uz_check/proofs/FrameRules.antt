-- The rules of rests and of the entry in a frame of scanlines.
use Rattle.uz_check.proofs.Common.{or_right, or_left, and_parts, ◌≡◌, inl, inr, Contains, ℕ, zero, suc, ◌+◌, ◌-◌, ◌<◌, ◌≤◌, Bool, true}
use Rattle.uz_check.proofs.Common.{false, cond, leb, Option, Some, None, length, sym, ◌∙◌, ap, subst, arith, ◌↔◌, ◌&&◌, unwrap_or}
use Rattle.uz_check.proofs.Common.{option_and_then, slice_get, leb-true, eqb_tells, instance_of, instance_in, instance_at, is_in_box}
use Rattle.uz_check.proofs.Common.{entry_instance, rest_instance, clock_at, instance_at_clock, ScheduleFits, length_of, start_of, next_line}
use Rattle.uz_check.proofs.Common.{event_at, level_at, response_clocks, RestFits, WellFormed, Cert, Schedule, Instance, Point, Rest, inside}
use Rattle.uz_check.proofs.Common.{same_place, same_place_tells as place_tells, lies_at, any_from, lies_in_point, LiesInPoint, RestPasses}
use Rattle.uz_check.proofs.Common.{EntryPasses, AreScanlines, position, event_by_position, level_by_position, LiesByPosition}
use Rattle.uz_check.proofs.Fitting.{opened, tested}
use Rattle.uz_schedule.specs.Instances.{entry_instance_at, handler_entry}
use Rattle.uz_check.specs.ByPosition.{entry_by_position, rest_by_position, RestByPosition, EntryByPosition}
use Rattle.uz_check.proofs.Positions.{line_clocks, place_is, event_is, level_there, instance_is}

-- the event at a clock of a line
event_there : (s : Schedule) (l k : ℕ) → ScheduleFits s → AreScanlines s → event_at s (start_of s l + k)
    ≡ event_by_position s (position l k)
event_there s l k fits h = ap (event_at s) (place_is s l k h) ∙ event_is s (position l k) fits h

-- and some clocks after it
pub event_past : (s : Schedule) (l k c : ℕ) → ScheduleFits s → AreScanlines s → event_at s (start_of s l + k + c)
    ≡ event_by_position s (position l k + c)
event_past s l k c fits h = ap (λ n. event_at s (n + c)) (place_is s l k h) ∙ event_is s (position l k + c) fits h

-- Lies in

-- one of the numbers from k on for which a test holds
any_told : (test : ℕ → Bool) (k n c : ℕ) → k ≤ c → c < k + n → test c ≡ true → any_from test k n ≡ true
unfolding any_from
any_told test k zero c low high e = absurd (omega (arith, low, high))
any_told test k (suc n) c low high e =
    elim (eqb_tells k c) [
      | inl t ↦ or_left (test k) (any_from test (suc k) n) (ap test t.1 ∙ e)
      | inr t ↦ or_right (test k) (any_from test (suc k) n) (any_told test (suc k) n c (omega (arith, low, t.1)) (omega (arith, high)) e)
    ]

-- an instance of a point is at its line, and its count one of the box's
record InBox (p : Point) (l c : ℕ) (inst : Instance) : Type 0 where
  low : p.c0 ≤ c
  high : c ≤ p.c1
  line : l ≡ inst.line

in_box : (s : Schedule) (p : Point) (l c : ℕ) (inst : Instance) → instance_in s p l c ≡ Some inst → InBox p l c inst
in_box s p l c inst e =
    let box = tested (is_in_box p l c) (option_and_then (instance_at_clock s p l c) (clock_at s p l c)) inst e in
    let counts = and_parts (leb p.c0 c) (leb c p.c1) (and_parts (leb p.l0 l && leb l p.l1) (leb p.c0 c && leb c p.c1) box.0).1 in
    record {
      low = leb-true p.c0 c counts.0;
      high = leb-true c p.c1 counts.1;
      line = at_line (is_in_box p l c) (clock_at s p l c) e;
    }
  where
    at_level : (k : ℕ) (o : Option ℕ) → option_and_then (λ level. Some (instance_of p l c k level)) o ≡ Some inst → l ≡ inst.line
    at_level k None e = absurd cc
    at_level k (Some level) e = let same : instance_of p l c k level ≡ inst = cc in ap (λ (i : Instance). i.line) same

    at_line : (t : Bool) (o : Option ℕ) → cond t (option_and_then (instance_at_clock s p l c) o) None ≡ Some inst → l ≡ inst.line
    at_line true None e = absurd cc
    at_line true (Some k) e = at_level k (level_at s (start_of s l + k)) e
    at_line false o e = absurd cc

-- the test holds where there is such an instance
lies_told : (cert : Cert) (id c : ℕ) (r b : Instance) → instance_at cert id r.line c ≡ Some b → inside r b ≡ true → lies_in_point cert id r
    ≡ true
lies_told cert id c r b is within =
    let found = opened (λ p. instance_in cert.schedule p r.line c) (slice_get cert.points id) b is in
    let p = found.0 in
    let box = in_box cert.schedule p r.line c b found.2 in
    let here : lies_at (instance_at cert id r.line c) r ≡ true = ap (λ o. lies_at o r) is ∙ within in
    let all : any_from (λ c. lies_at (instance_at cert id r.line c) r) p.c0 (suc p.c1 - p.c0) ≡ true =
    any_told (λ c. lies_at (instance_at cert id r.line c) r) p.c0 (suc p.c1 - p.c0) c box.low (omega (arith, box.low, box.high)) here in
    rw found.1 all

pub lies_is : LiesInPoint → (cert : Cert) (id : ℕ) (r : Instance) → ScheduleFits cert.schedule → AreScanlines cert.schedule
    → (lies_in_point cert id r ≡ true) ↔ LiesByPosition cert id r
lies_is laws cert id r fits h = (forth, back)
  where
    forth : lies_in_point cert id r ≡ true → LiesByPosition cert id r
    forth e =
        let told = laws cert id r e in
        record {
          line = r.line;
          count = told.count;
          point_instance = told.point_instance;
          is = sym (instance_is cert id r.line told.count fits h) ∙ told.is;
          inside = told.inside;
        }

    back : LiesByPosition cert id r → lies_in_point cert id r ≡ true
    back told =
        let b = told.point_instance in
        let is : instance_at cert id told.line told.count ≡ Some b = instance_is cert id told.line told.count fits h ∙ told.is in
        let found = opened (λ p. instance_in cert.schedule p told.line told.count) (slice_get cert.points id) b is in
        let box = in_box cert.schedule found.0 told.line told.count b found.2 in
        let place = place_tells r b (and_parts (same_place r b) _ told.inside).0 in
        let line : told.line ≡ r.line = box.line ∙ sym place.line in
        lies_told cert id told.count r b (subst (λ l. instance_at cert id l told.count ≡ Some b) line is) told.inside

-- The handler's first states and the entry's

rest_state : (cert : Cert) (rest : Rest) (c : ℕ) → ScheduleFits cert.schedule → AreScanlines cert.schedule → rest_instance cert rest c
    ≡ rest_by_position cert rest c
rest_state cert rest c fits h =
    let s = cert.schedule in
    let l = next_line s rest.line in
    let k = c + response_clocks cert.head.irq in
    ap (λ v. handler_entry rest.cells.items l k (unwrap_or v 0) (length_of s rest.line - 1)) (level_there s l k fits h)
    ∙ ap (λ n. handler_entry rest.cells.items l k (unwrap_or (level_by_position s (position l k)) 0) (n - 1)) (line_clocks s rest.line h)

entry_state : (cert : Cert) → ScheduleFits cert.schedule → AreScanlines cert.schedule → entry_instance cert ≡ entry_by_position cert
entry_state cert fits h =
    ap (λ v. entry_instance_at cert.entry (unwrap_or v 0)) (level_there cert.schedule cert.entry.line cert.entry.clock fits h)

-- The rules

rest_fits : (cert : Cert) (rest : Rest) → WellFormed cert → Contains cert.rests rest → RestFits cert.head (length cert.schedule.lines)
    (length cert.points) rest
rest_fits cert rest formed has =
    subst (RestFits cert.head (length cert.schedule.lines) (length cert.points)) has.2 (formed.rests.each has.0 rest has.1)

rest_passes : LiesInPoint → (cert : Cert) (rest : Rest) → WellFormed cert → AreScanlines cert.schedule → Contains cert.rests rest
    → RestPasses cert rest → RestByPosition cert rest
rest_passes laws cert rest formed h has passes =
    let s = cert.schedule in
    let fits = formed.schedule in
    record {
      leave = sym (event_there s rest.line rest.clock fits h) ∙ passes.leave;
      quiet = λ k low high. sym (event_there s rest.line k fits h) ∙ passes.quiet k low (omega (arith, high, line_clocks s rest.line h));
      quiet_next = λ k low. sym (event_there s (next_line s rest.line) k fits h) ∙ passes.quiet_next k low;
      vector = λ c few. (lies_is laws cert rest.vector (rest_by_position cert rest c) fits h).0
          (ap (lies_in_point cert rest.vector) (sym (rest_state cert rest c fits h)) ∙ passes.vector c few);
    }

rest_told : LiesInPoint → (cert : Cert) (rest : Rest) → WellFormed cert → AreScanlines cert.schedule → Contains cert.rests rest
    → RestByPosition cert rest → RestPasses cert rest
rest_told laws cert rest formed h has told =
    let s = cert.schedule in
    let fits = formed.schedule in
    record {
      within = omega (arith, (rest_fits cert rest formed has).clock, line_clocks s rest.line h);
      leave = event_there s rest.line rest.clock fits h ∙ told.leave;
      quiet = λ k low high. event_there s rest.line k fits h ∙ told.quiet k low (omega (arith, high, line_clocks s rest.line h));
      quiet_next = λ k low. event_there s (next_line s rest.line) k fits h ∙ told.quiet_next k low;
      vector = λ c few. ap (lies_in_point cert rest.vector) (rest_state cert rest c fits h)
          ∙ (lies_is laws cert rest.vector (rest_by_position cert rest c) fits h).1 (told.vector c few);
    }

pub rest_is : LiesInPoint → (cert : Cert) (rest : Rest) → WellFormed cert → AreScanlines cert.schedule → Contains cert.rests rest
    → RestPasses cert rest ↔ RestByPosition cert rest
rest_is laws cert rest formed h has = (rest_passes laws cert rest formed h has, rest_told laws cert rest formed h has)

pub entry_is : LiesInPoint → (cert : Cert) → WellFormed cert → AreScanlines cert.schedule → EntryPasses cert ↔ EntryByPosition cert
entry_is laws cert formed h = (
  λ passes. record {
    rest = passes.rest;
    lies = (lies_is laws cert cert.entry.id (entry_by_position cert) formed.schedule h).0
        (ap (lies_in_point cert cert.entry.id) (sym (entry_state cert formed.schedule h)) ∙ passes.lies);
  },
  λ told. record {
    rest = told.rest;
    lies = ap (lies_in_point cert cert.entry.id) (entry_state cert formed.schedule h)
        ∙ (lies_is laws cert cert.entry.id (entry_by_position cert) formed.schedule h).1 told.lies;
  },
)
