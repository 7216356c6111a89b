-- Of a pair of which nothing is known nothing is known of its bytes: a point can say no more of them. So what a branch told of a byte of X, Y
-- or Z goes where all of the pair is open.
use Rattle.std.specs.Prelude.{ℕ, ◌+◌, max, List, if◌then◌else◌, slice_index_or, slice_set}
use Rattle.uz_schedule.specs.Ends.{Ends, whole_byte, whole_pair}
use Rattle.uz_schedule.specs.declared.facts.Val.{Val}
use Rattle.uz_schedule.specs.declared.facts.Val.TheVariants.{Range, Old, OldFlags}
use Rattle.uz_schedule.specs.declared.states.Instance.{Instance}
use Rattle.uz_search.specs.Widenings.{is_whole}

-- every byte; interrupted values stay
abbrev pub loosened_value : Val → Val
loosened_value (Range e) = Range (record { lo = 0; hi = max e.hi 255 })
loosened_value (Old r) = Old r
loosened_value OldFlags = OldFlags

abbrev pub loosened_register : ℕ → List Val → List Val
loosened_register r regs = slice_set regs r (loosened_value (slice_index_or regs r (Range whole_byte)))

-- the bytes of a pair that is so, from register d on
abbrev pub loosened_pair : Ends → ℕ → List Val → List Val
loosened_pair pair d regs = if is_whole pair then loosened_register (d + 1) (loosened_register d regs) else regs

abbrev pub loosened : Instance → Instance
loosened x = record x {
  regs = loosened_pair (slice_index_or x.pairs 2 whole_pair) 30 (loosened_pair (slice_index_or x.pairs 1 whole_pair) 28
      (loosened_pair (slice_index_or x.pairs 0 whole_pair) 26 x.regs));
}
