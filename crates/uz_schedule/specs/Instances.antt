-- What is known of the machine where a point stands, at one line and one count of its box; where runs enter; and where
-- the handler's next run begins. The timer's interrupt has its vector at the word address 26 (ATmega644 data sheet).
use Rattle.std.specs.Prelude.{ℕ, zero, suc, ◌+◌, ◌-◌, ◌*◌, ◌%◌, ℤ, pos, negsuc, ◌+ℤ◌, ◌*ℤ◌, nat_le, nat_lt, Bool, ◌&&◌, List, [], ◌∷◌}
use Rattle.std.specs.Prelude.{map, replicate, Option, Some, None, unwrap_or, option_and_then, slice_get, slice_index_or, if◌then◌else◌}
use Rattle.uz_schedule.specs.Ends.{Ends, whole_byte, one_number, hull}
use Rattle.uz_schedule.specs.declared.facts.Fact.{Fact}
use Rattle.uz_schedule.specs.declared.facts.Fact.TheVariants.{Any, Between, Line, Loop, Old as OldFact, OldFlags as OldFlagsFact}
use Rattle.uz_schedule.specs.declared.facts.PairFact.{PairFact}
use Rattle.uz_schedule.specs.declared.facts.PairFact.TheVariants.{Any as AnyPair, Between as BetweenPair, Line as LinePair}
use Rattle.uz_schedule.specs.declared.facts.PairFact.TheVariants.{Loop as LoopPair}
use Rattle.uz_schedule.specs.declared.facts.Val.{Val}
use Rattle.uz_schedule.specs.declared.facts.Val.TheVariants.{Range, Old, OldFlags}
use Rattle.uz_schedule.specs.declared.facts.Bit.TheVariants.{Old as OldBit}
use Rattle.uz_schedule.specs.declared.kinds.Kind.TheVariants.{Handler}
use Rattle.uz_schedule.specs.declared.lines.Schedule.{Schedule}
use Rattle.uz_schedule.specs.declared.states.Entry.{Entry}
use Rattle.uz_schedule.specs.declared.states.Rest.{Rest}
use Rattle.uz_schedule.specs.declared.states.Point.{Point}
use Rattle.uz_schedule.specs.declared.states.Instance.{Instance}
use Rattle.uz_schedule.specs.declared.certificate.Cert.{Cert}
use Rattle.uz_schedule.specs.Blank.{blank_instance}
use Rattle.uz_schedule.specs.Schedule.{length_of, start_of, next_line, level_at, response_clocks}

-- Bytes and pairs

-- what a fact says of a byte at line l and count c
abbrev pub val_of : ℕ → ℕ → Fact → Val
val_of l c Any = Range whole_byte
val_of l c (Between e) = Range e
val_of l c (Line a b) = Range (one_number ((a * l + b) % 256))
val_of l c (Loop a b) = Range (one_number ((a * c + b) % 256))
val_of l c (OldFact r) = Old r
val_of l c OldFlagsFact = OldFlags

-- the values that a byte may have; an interrupted one may be any
abbrev pub span_of_val : Val → Ends
span_of_val (Range e) = e
span_of_val (Old r) = whole_byte
span_of_val OldFlags = whole_byte

abbrev pub cell_span : ℕ → ℕ → Fact → Ends
cell_span l c f = span_of_val (val_of l c f)

-- what is known of register r, where this is known of all
abbrev pub val_at : List Val → ℕ → Val
val_at vals r = slice_index_or vals r (Range whole_byte)

-- what the bytes of the pair say whose low register is r
abbrev pub hull_at : List Val → ℕ → Ends
hull_at regs r = hull (span_of_val (val_at regs r)) (span_of_val (val_at regs (r + 1)))

-- what a fact says of a pair at line l and count c, where its bytes say this
abbrev pub pair_by : ℕ → ℕ → Ends → PairFact → Ends
pair_by l c bytes AnyPair = bytes
pair_by l c bytes (BetweenPair e) = e
pair_by l c bytes (LinePair a b) = one_number ((a * l + b) % 65536)
pair_by l c bytes (LoopPair a b) = one_number ((a * c + b) % 65536)

abbrev pub pair_of : ℕ → ℕ → List Val → ℕ → PairFact → Ends
pair_of l c regs r f = pair_by l c (hull_at regs r) f

-- the pairs X, Y and Z are the registers 26 and 27, 28 and 29, 30 and 31
abbrev pub pairs_of : ℕ → ℕ → List Val → List PairFact → List Ends
pairs_of l c regs facts =
    pair_of l c regs 26 (slice_index_or facts 0 AnyPair) ∷ pair_of l c regs 28 (slice_index_or facts 1 AnyPair) ∷ pair_of l c regs 30
    (slice_index_or facts 2 AnyPair) ∷ []

-- Points. Each state is made of the one that says nothing, by what is known

abbrev pub is_in_box : Point → ℕ → ℕ → Bool
is_in_box p l c = (nat_le p.l0 l && nat_le l p.l1) && (nat_le p.c0 c && nat_le c p.c1)

abbrev pub clock_below : ℕ → ℤ → Option ℕ
clock_below length (pos k) = if nat_lt k length then Some k else None
clock_below length (negsuc k) = None

-- the clock at count c, where it is one of line l
abbrev pub clock_at : Schedule → Point → ℕ → ℕ → Option ℕ
clock_at s p l c = clock_below (length_of s l) (pos p.clock +ℤ p.slope *ℤ pos c)

abbrev pub instance_of : Point → ℕ → ℕ → ℕ → ℕ → Instance
instance_of p l c clock level =
    record blank_instance {
      kind = p.kind;
      pc = p.pc;
      line = l;
      clock = clock;
      level = level;
      pending = p.pending;
      top = p.top;
      temp = p.temp;
      regs = map (val_of l c) p.regs;
      pairs = pairs_of l c (map (val_of l c) p.regs) p.pairs;
      flags = p.flags;
      compared = p.compared;
      stack = record { items = map (val_of l c) p.stack.items };
      cells = record { items = map (cell_span l c) p.cells.items };
    }

-- with the schedule's level at the place
abbrev pub instance_at_clock : Schedule → Point → ℕ → ℕ → ℕ → Option Instance
instance_at_clock s p l c clock = option_and_then (λ level. Some (instance_of p l c clock level)) (level_at s (start_of s l + clock))

-- the instance of a point at line l and count c: where they are in its box, the clock is one of the line, and there is a level
abbrev pub instance_in : Schedule → Point → ℕ → ℕ → Option Instance
instance_in s p l c = if is_in_box p l c then option_and_then (instance_at_clock s p l c) (clock_at s p l c) else None

abbrev pub instance_at : Cert → ℕ → ℕ → ℕ → Option Instance
instance_at cert id l c = option_and_then (λ p. instance_in cert.schedule p l c) (slice_get cert.points id)

-- The entry

abbrev pub entry_instance_at : Entry → ℕ → Instance
entry_instance_at e level =
    record blank_instance {
      kind = e.kind;
      pc = e.pc;
      line = e.line;
      clock = e.clock;
      level = level;
      regs = map Range e.regs;
      pairs = hull_at (map Range e.regs) 26 ∷ hull_at (map Range e.regs) 28 ∷ hull_at (map Range e.regs) 30 ∷ [];
      flags = e.flags;
      stack = record { items = map Range e.stack.items };
      cells = record { items = e.cells.items };
    }

-- the schedule's level at a clock of a line, 0 where it has none
abbrev pub level_or_zero : Schedule → ℕ → ℕ → ℕ
level_or_zero s l k = unwrap_or (level_at s (start_of s l + k)) 0

abbrev pub entry_instance : Cert → Instance
entry_instance cert = entry_instance_at cert.entry (level_or_zero cert.schedule cert.entry.line cert.entry.clock)

-- A rest

-- the interrupted registers from k on
abbrev pub old_from : ℕ → ℕ → List Val
old_from k zero = []
old_from k (suc n) = Old k ∷ old_from (suc k) n

-- the handler's first state where its interrupt is taken: nothing of what is interrupted has changed, its stack is empty, OCR1A is
-- `top` and TEMP any byte
abbrev pub handler_entry : List Ends → ℕ → ℕ → ℕ → ℕ → Instance
handler_entry cells line clock level top =
    record blank_instance {
      kind = Handler;
      pc = 26;
      line = line;
      clock = clock;
      level = level;
      top = top;
      regs = old_from 0 32;
      flags = replicate 7 OldBit;
      cells = record { items = cells };
    }

-- the handler's first state after a rest, where its interrupt is taken at clock c of the next line: the timer came to the last clock
-- of the rest's line
abbrev pub rest_instance : Cert → Rest → ℕ → Instance
rest_instance cert rest c =
    handler_entry rest.cells.items (next_line cert.schedule rest.line) (c + response_clocks cert.head.irq)
    (level_or_zero cert.schedule (next_line cert.schedule rest.line) (c + response_clocks cert.head.irq))
    (length_of cert.schedule rest.line - 1)
