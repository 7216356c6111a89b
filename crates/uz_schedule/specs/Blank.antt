-- The instance and the point that say nothing, of which all others are made by what is known.
use Rattle.std.specs.Prelude.{◌-◌, false, [], None, pos, replicate}
use Rattle.uz_schedule.specs.Ends.{whole_byte, whole_pair}
use Rattle.uz_schedule.specs.declared.facts.Fact.TheVariants.{Any}
use Rattle.uz_schedule.specs.declared.facts.PairFact.TheVariants.{Any as AnyPair}
use Rattle.uz_schedule.specs.declared.facts.Val.TheVariants.{Range}
use Rattle.uz_schedule.specs.declared.facts.Bit.TheVariants.{Free}
use Rattle.uz_schedule.specs.declared.facts.Compared.TheVariants.{Nothing}
use Rattle.uz_schedule.specs.declared.kinds.Kind.TheVariants.{Alone}
use Rattle.uz_schedule.specs.declared.states.Instance.{Instance}
use Rattle.uz_schedule.specs.declared.states.Point.{Point}
use Rattle.uz_schedule.specs.Schedule.{scanline}

-- alone, all numbers 0, no slot and no cell, each register any byte and each flag free; OCR1A is the last clock of a scanline, and
-- TEMP any byte
abbrev pub blank_instance : Instance
blank_instance =
    record {
      kind = Alone;
      pc = 0;
      line = 0;
      clock = 0;
      level = 0;
      pending = false;
      top = scanline - 1;
      temp = whole_byte;
      regs = replicate 32 (Range whole_byte);
      pairs = replicate 3 whole_pair;
      flags = replicate 7 Free;
      compared = Nothing;
      stack = record { items = [] };
      cells = record { items = [] };
    }

-- likewise, at line 0 and count 0, with no successor
abbrev pub blank_point : Point
blank_point =
    record {
      kind = Alone;
      pc = 0;
      l0 = 0;
      l1 = 0;
      c0 = 0;
      c1 = 0;
      clock = 0;
      slope = pos 0;
      pending = false;
      top = scanline - 1;
      temp = whole_byte;
      regs = replicate 32 Any;
      pairs = replicate 3 AnyPair;
      flags = replicate 7 Free;
      compared = Nothing;
      stack = record { items = [] };
      cells = record { items = [] };
      split = None;
      next = record { items = [] };
    }
