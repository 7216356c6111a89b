-- When an instance lies in what a point says at the instance's own line: what is asked once, and what is asked of each count.
use Rattle.std.specs.Prelude.{◌≡◌, ◌≤◌, ℕ, ◌+◌, pos, ◌+ℤ◌, ◌*ℤ◌, Bool, true, ◌&&◌, nat_le, nat_lt}
use Rattle.uz_schedule.specs.declared.states.Instance.{Instance}
use Rattle.uz_schedule.specs.declared.states.Point.{Point}
use Rattle.uz_schedule.specs.declared.lines.Schedule.{Schedule}
use Rattle.uz_schedule.specs.Schedule.{length_of, start_of, level_at}
use Rattle.uz_schedule.specs.Instances.{instance_of}
use Rattle.uz_transfer.specs.Refusals.{range_inside, is_some}
use Rattle.uz_rules.specs.Inside.{same_timer, contents_inside}
use Rattle.uz_rules.specs.Successors.{same_program_place}

-- what a point says at the instance's line, clock and level and at count c
abbrev pub said_at : Point → Instance → ℕ → Instance
said_at p inst c = instance_of p inst.line c inst.clock inst.level

-- the contents of an instance lie in what the facts of a point say at the instance's line and count c
unfoldable pub facts_inside : Instance → Point → ℕ → Bool
facts_inside inst p c = contents_inside inst (said_at p inst c)

-- the clock is one of the line, and there is a level
abbrev pub has_level : Schedule → ℕ → ℕ → Bool
has_level s l k = nat_lt k (length_of s l) && is_some (level_at s (start_of s l + k))

-- a line is one of the point's box
abbrev pub is_line_of : Point → ℕ → Bool
is_line_of p l = nat_le p.l0 l && nat_le l p.l1

-- what is known of the timer lies in what the point says of it, which is the same at each count
abbrev pub timer_inside : Point → Instance → Bool
timer_inside p inst = same_timer inst (said_at p inst p.c0) && range_inside inst.temp p.temp

-- the point has the instance's kind and pc, the timer lies in what it says, and its box has the instance's line
abbrev pub is_beside : Point → Instance → Bool
is_beside p inst = (same_program_place p inst && timer_inside p inst) && is_line_of p inst.line

-- and the schedule has a level at the instance's place
unfoldable pub stands_beside : Schedule → Point → Instance → Bool
stands_beside s p inst = is_beside p inst && has_level s inst.line inst.clock

-- clock k is the point's at count c of its box
pub record IsAtCount (p : Point) (k c : ℕ) : Type 0 where
  pub first : p.c0 ≤ c
  pub last : c ≤ p.c1
  pub clock : pos p.clock +ℤ p.slope *ℤ pos c ≡ pos k

-- at a count of the box the clocks are equal, and what is known lies in what the facts say
pub record LiesAtSome (p : Point) (inst : Instance) : Type 0 where
  pub count : ℕ
  pub at : IsAtCount p inst.clock count
  pub facts : facts_inside inst p count ≡ true
