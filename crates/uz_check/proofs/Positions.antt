-- Places, events and levels of a frame of scanlines, and the instances of points in it, by positions.
use Rattle.uz_check.proofs.Common.{level_by_position, instance_by_level, instance_by_point, instance_by_position, ScheduleFits, scanline}
use Rattle.uz_check.proofs.Common.{length_of, start_of, level_at, Cert, Schedule, Point, AreScanlines, position, slice_get, is_in_box}
use Rattle.uz_check.proofs.Common.{clock_below, instance_of, instance_at_clock, instance_in, instance_at, ◌≡◌, ℕ, ◌+◌, if◌then◌else◌}
use Rattle.uz_check.proofs.Common.{Option, Some, None, refl, ◌∙◌, ap, pos, ◌+ℤ◌, ◌*ℤ◌, option_and_then, zero, suc, ◌-◌, ◌*◌, ◌/◌, ◌%◌, ◌<◌}
use Rattle.uz_check.proofs.Common.{◌≤◌, length, sym, arith, ◌↔◌, frame_of, At, event_at, sync_of, or_else, event_by_position}
use Rattle.std.proofs.Math.Nat.{mod-lt}
use Rattle.uz_schedule.proofs.Starts.{scanline_line, event_there}
use Rattle.uz_schedule.specs.Schedule.{last_level}
use Rattle.uz_check.specs.ByPosition.{frame_clocks}

pub line_clocks : (s : Schedule) (l : ℕ) → AreScanlines s → length_of s l ≡ scanline
line_clocks s l h = scanline_line s h l

-- where a line begins
pub line_start : (s : Schedule) (l : ℕ) → AreScanlines s → start_of s l ≡ scanline * l
line_start s zero h = refl
line_start s (suc l) h =
    let here = line_clocks s l h in
    let before = line_start s l h in
    omega (arith, here, before)

pub line_begins : (s : Schedule) (l : ℕ) → AreScanlines s → start_of s l ≡ position l 0
line_begins s l h = omega (arith, line_start s l h)

pub frame_is : (s : Schedule) → AreScanlines s → frame_of s ≡ frame_clocks s
frame_is s h = line_start s (length s.lines) h

pub place_is : (s : Schedule) (l k : ℕ) → AreScanlines s → start_of s l + k ≡ position l k
place_is s l k h = ap (λ n. n + k) (line_start s l h)

pub places_are : (s : Schedule) (p l k : ℕ) → AreScanlines s → At s p l k ↔ (p % frame_clocks s ≡ position l k % frame_clocks s)
places_are s p l k h =
    let here = ap (λ n. p % n) (frame_is s h) in
    let there = ap (λ n. (start_of s l + k) % n) (frame_is s h) ∙ ap (λ n. n % frame_clocks s) (place_is s l k h) in
    (λ e. sym here ∙ (e ∙ there), λ e. here ∙ (e ∙ sym there))

-- the event at a position is that of the line and the clock to which it divides
pub event_is : (s : Schedule) (p : ℕ) → ScheduleFits s → AreScanlines s → event_at s p ≡ event_by_position s p
event_is s p fits h =
    let n = length s.lines in
    let q = p % frame_clocks s in
    let some : 1 ≤ n = fits.lines.some in
    let low : q < frame_clocks s = mod-lt p (omega (arith, some)) in
    let l = q / scanline in
    let k = q % scanline in
    let inside : l < n = omega (arith, low) in
    let short : k < length_of s l = omega (arith, line_clocks s l h) in
    let whole : scanline * l + k ≡ q = omega arith in
    let at : start_of s l + k ≡ p % frame_of s = place_is s l k h ∙ (whole ∙ sym (ap (λ m. p % m) (frame_is s h))) in
    event_there s p l k inside short at

last_same : (f g : ℕ → Option ℕ) (count p : ℕ) → ((q : ℕ) → f q ≡ g q) → last_level f count p ≡ last_level g count p
last_same f g zero p same = refl
last_same f g (suc count) p same = λ i. or_else (same p i) (last_same f g count (p - 1) same i)

pub level_is : (s : Schedule) (p : ℕ) → ScheduleFits s → AreScanlines s → level_at s p ≡ level_by_position s p
level_is s p fits h =
    let set : ℕ → Option ℕ = λ q. sync_of (event_by_position s q) in
    last_same (λ q. sync_of (event_at s q)) set (frame_of s) (p % frame_of s + frame_of s) (λ q. ap sync_of (event_is s q fits h))
    ∙ ap (λ n. last_level set n (p % n + n)) (frame_is s h)

-- Instances of points

-- the level at a clock of a line
pub level_there : (s : Schedule) (l k : ℕ) → ScheduleFits s → AreScanlines s → level_at s (start_of s l + k)
    ≡ level_by_position s (position l k)
level_there s l k fits h = ap (level_at s) (place_is s l k h) ∙ level_is s (position l k) fits h

same_then : {A B : Type 0} (f g : A → Option B) (o : Option A) → ((x : A) → f x ≡ g x) → option_and_then f o ≡ option_and_then g o
same_then f g None same = refl
same_then f g (Some x) same = same x

clock_is : (s : Schedule) (p : Point) (l c k : ℕ) → ScheduleFits s → AreScanlines s → instance_at_clock s p l c k
    ≡ instance_by_level s p l c k
clock_is s p l c k fits h = ap (option_and_then (λ level. Some (instance_of p l c k level))) (level_there s l k fits h)

point_is : (s : Schedule) (p : Point) (l c : ℕ) → ScheduleFits s → AreScanlines s → instance_in s p l c ≡ instance_by_point s p l c
point_is s p l c fits h =
    let clock = pos p.clock +ℤ p.slope *ℤ pos c in
    let there : option_and_then (instance_at_clock s p l c) (clock_below (length_of s l) clock)
    ≡ option_and_then (instance_by_level s p l c) (clock_below scanline clock) =
    ap (λ n. option_and_then (instance_at_clock s p l c) (clock_below n clock)) (line_clocks s l h)
    ∙ same_then (instance_at_clock s p l c) (instance_by_level s p l c) (clock_below scanline clock) (λ k. clock_is s p l c k fits h) in
    ap (λ o. if is_in_box p l c then o else None) there

pub instance_is : (cert : Cert) (id l c : ℕ) → ScheduleFits cert.schedule → AreScanlines cert.schedule → instance_at cert id l c
    ≡ instance_by_position cert id l c
instance_is cert id l c fits h =
    same_then (λ p. instance_in cert.schedule p l c) (λ p. instance_by_point cert.schedule p l c) (slice_get cert.points id)
    (λ p. point_is cert.schedule p l c fits h)
