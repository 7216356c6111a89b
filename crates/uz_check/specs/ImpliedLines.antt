-- Lines of a point's box that the line before implies: the local rule answers there as it does at that line. And how many
-- instances of a certificate are left to check, on lines that no line implies.
use Rattle.std.specs.Prelude.{◌≡◌, ℕ, zero, suc, ◌+◌, ◌-◌, ◌*◌, ◌<◌, ◌≤◌, nat_lt, Bool, true, false, ◌&&◌, List, [], ◌∷◌, length, Some}
use Rattle.std.specs.Prelude.{slice_get, if◌then◌else◌}
use Rattle.uz_schedule.specs.declared.states.Point.{Point}
use Rattle.uz_schedule.specs.declared.certificate.Cert.{Cert}
use Rattle.uz_check.specs.Folding.{lines_alike, is_plain, folds}
use Rattle.uz_check.specs.declared.reach.Reach.{Reach}

-- a line of a point's box that isn't its first, and that the line before implies
abbrev pub is_implied : Cert → Point → ℕ → Bool
is_implied cert p l = nat_lt p.l0 l && folds cert p (l - 1)

-- how many of the first n lines of a point's box aren't implied
abbrev pub lines_to_check : Cert → Point → ℕ → ℕ
lines_to_check cert p zero = 0
lines_to_check cert p (suc n) = lines_to_check cert p n + (if is_implied cert p (p.l0 + n) then 0 else 1)

-- how many instances of a point are on lines that aren't implied. The instances of a line are the counts of the box, whatever
-- their clocks
abbrev pub instances_to_check_of : Cert → Point → ℕ
instances_to_check_of cert p = lines_to_check cert p (suc p.l1 - p.l0) * (suc p.c1 - p.c0)

abbrev pub instances_to_check_in : Cert → List Point → ℕ
instances_to_check_in cert [] = 0
instances_to_check_in cert (p ∷ points) = instances_to_check_of cert p + instances_to_check_in cert points

-- and of all points
abbrev pub instances_to_check : Cert → ℕ
instances_to_check cert = instances_to_check_in cert cert.points

-- from line l on the conditions on lines hold up to line e, of a frame of n lines, and no further
pub record IsRun (cert : Cert) (n l e : ℕ) : Type 0 where
  pub onward : l ≤ e
  pub within : e ≤ n
  pub alike : (k : ℕ) → l ≤ k → k < e → lines_alike cert k ≡ true
  pub ended : e < n → lines_alike cert e ≡ false

-- each line from one on is noted with the line up to which they hold
abbrev pub RunsFrom : Cert → List ℕ → ℕ → Type 0
RunsFrom cert runs from =
    (l : ℕ) → from ≤ l → l < length cert.schedule.lines → (e : ℕ) × (slice_get runs l ≡ Some e) × IsRun cert (length cert.schedule.lines) l
    e

-- the first line from one on that isn't implied, or the one past the box's last
pub record IsNextToCheck (cert : Cert) (p : Point) (from to : ℕ) : Type 0 where
  pub onward : from ≤ to
  pub within : to ≤ suc p.l1
  pub implied : (l : ℕ) → from ≤ l → l < to → is_implied cert p l ≡ true
  pub not_implied : to ≤ p.l1 → is_implied cert p to ≡ false

-- the boxes of the first n of these points hold the lines from first to last
abbrev pub HoldTo : Cert → List ℕ → ℕ → ℕ → ℕ → Type 0
HoldTo cert ids first last n =
    (k id : ℕ) (q : Point) → k < n → slice_get ids k ≡ Some id → slice_get cert.points id ≡ Some q → (q.l0 ≤ first) × (last ≤ q.l1)

-- what is asked of a point whatever the line
pub record IsReach (cert : Cert) (p : Point) (reach : Reach) : Type 0 where
  pub plain : reach.plain ≡ is_plain cert p
  pub inside : reach.last < length cert.schedule.lines
  pub boxes : HoldTo cert p.next.items reach.first reach.last (length p.next.items)
