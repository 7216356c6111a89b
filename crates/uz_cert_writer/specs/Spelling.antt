-- The text of a certificate. Its lines end in LF (10), words stand apart by one space (32), numbers are decimal.
use Rattle.std.specs.Prelude.{ℕ, zero, suc, ◌+◌, ◌==◌, ◌&&◌, Bool, true, false, ℤ, pos, negsuc, List, [], ◌∷◌, ◌++◌, map, length, codes, decimal, Option}
use Rattle.std.specs.Prelude.{Some, None}
use Rattle.std.specs.Prelude.{if◌then◌else◌}
use Rattle.std.specs.List.{join_with_byte}
use Prim.Native.Char.{code}
use Rattle.uz_schedule.specs.Ends.{Ends}
use Rattle.uz_schedule.specs.Schedule.{response_clocks}
use Rattle.uz_schedule.specs.declared.kinds.Kind.{Kind}
use Rattle.uz_schedule.specs.declared.kinds.Kind.TheVariants.{Main, Handler, Alone}
use Rattle.uz_schedule.specs.Tracked.{tracks}
use Rattle.uz_schedule.specs.WellFormed.{is_default_flag}
use Rattle.uz_cert_lines.specs.Defaults.{is_default, is_any_pair, is_range, range_fact}
use Rattle.uz_cert_lines.specs.Named.{ValueForm, a_number, a_range, a_comparison, a_register, ValueOf, is_usual, NamedItem, named_items}
use Rattle.uz_cert_lines.specs.Named.{NamedValues, values_of}
use Rattle.uz_cert_lines.specs.Lines.{head_line}
use Rattle.uz_cert_lines.specs.declared.version.Version.{Version}
use Rattle.uz_cert_lines.specs.declared.version.Version.TheVariants.{First, Second, Third}
use Rattle.uz_schedule.specs.declared.kinds.Owner.{Owner}
use Rattle.uz_schedule.specs.declared.kinds.Owner.TheVariants.{Main as MainCell, Handler as HandlerCell}
use Rattle.uz_schedule.specs.declared.facts.Fact.{Fact}
use Rattle.uz_schedule.specs.declared.facts.Fact.TheVariants.{Any, Between, Line, Loop, Old, OldFlags}
use Rattle.uz_schedule.specs.declared.facts.PairFact.{PairFact}
use Rattle.uz_schedule.specs.declared.facts.PairFact.TheVariants.{Any as AnyPair, Between as BetweenPair, Line as LinePair}
use Rattle.uz_schedule.specs.declared.facts.PairFact.TheVariants.{Loop as LoopPair}
use Rattle.uz_schedule.specs.declared.facts.Bit.{Bit}
use Rattle.uz_schedule.specs.declared.facts.Bit.TheVariants.{Zero, One, Free, Old as OldBit}
use Rattle.uz_schedule.specs.declared.facts.Against.TheVariants.{Register, Constant}
use Rattle.uz_schedule.specs.declared.facts.Compared.{Compared}
use Rattle.uz_schedule.specs.declared.facts.Compared.TheVariants as told
use Rattle.uz_schedule.specs.declared.header.Cell.{Cell}
use Rattle.uz_schedule.specs.declared.header.Head.{Head}
use Rattle.uz_schedule.specs.declared.lines.Event.{Event}
use Rattle.uz_schedule.specs.declared.lines.EventKind.{EventKind}
use Rattle.uz_schedule.specs.declared.lines.EventKind.TheVariants.{Sync, Pixel, Sound, Leave}
use Rattle.uz_schedule.specs.declared.lines.Schedule.{Schedule}
use Rattle.uz_schedule.specs.declared.states.Entry.{Entry}
use Rattle.uz_schedule.specs.declared.states.Point.{Point}
use Rattle.uz_schedule.specs.declared.states.Rest.{Rest}
use Rattle.uz_schedule.specs.declared.certificate.Cert.{Cert}

abbrev pub line_of : List (List ℕ) → List ℕ
line_of words = join_with_byte (code " ") words

-- ranges and facts

-- `n`, or `lo..hi`
abbrev pub range_word : Ends → List ℕ
range_word e = if e.lo == e.hi then decimal e.lo else decimal e.lo ++ codes ".." ++ decimal e.hi

-- `*` is the whole range up to top
abbrev pub ends_word : ℕ → Ends → List ℕ
ends_word top e = if e.lo == 0 && e.hi == top then codes "*" else range_word e

-- `l*A+B` and `c*A+B`
abbrev pub slope_word : List ℕ → ℕ → ℕ → List ℕ
slope_word of a b = of ++ codes "*" ++ decimal a ++ codes "+" ++ decimal b

abbrev pub fact_word : Fact → List ℕ
fact_word Any = codes "*"
fact_word (Between e) = ends_word 255 e
fact_word (Line a b) = slope_word (codes "l") a b
fact_word (Loop a b) = slope_word (codes "c") a b
fact_word (Old r) = code "o" ∷ decimal r
fact_word OldFlags = codes "of"

abbrev pub pair_word : PairFact → List ℕ
pair_word AnyPair = codes "*"
pair_word (BetweenPair e) = ends_word 65535 e
pair_word (LinePair a b) = slope_word (codes "l") a b
pair_word (LoopPair a b) = slope_word (codes "c") a b

abbrev pub flag_word : Bit → List ℕ
flag_word Zero = codes "0"
flag_word One = codes "1"
flag_word Free = codes "?"
flag_word OldBit = codes "o"

-- what the flags tell: a name, `:`, and numbers with commas between them

abbrev pub two_word : ℕ → ℕ → List ℕ
two_word a b = decimal a ++ code "," ∷ decimal b

abbrev pub three_word : ℕ → ℕ → ℕ → List ℕ
three_word a b c = decimal a ++ code "," ∷ two_word b c

abbrev pub four_word : ℕ → ℕ → ℕ → ℕ → List ℕ
four_word a b c d = decimal a ++ code "," ∷ three_word b c d

abbrev pub comparison_word : Compared → List ℕ
comparison_word told.Nothing = []
comparison_word (told.Byte d (Register r)) = codes "cp:" ++ two_word d r
comparison_word (told.Byte d (Constant k)) = codes "cpi:" ++ two_word d k
comparison_word (told.Pair d (Register r) high) = codes "cpw:" ++ three_word d r high
comparison_word (told.Pair d (Constant k) high) = codes "cpiw:" ++ three_word d k high
comparison_word (told.Result d k old) = codes "sub:" ++ four_word d k old.lo old.hi
comparison_word (told.PairResult d k old) = codes "subw:" ++ four_word d k old.lo old.hi
comparison_word (told.Value d) = codes "tst:" ++ decimal d

-- a register of a cover

abbrev pub split_word : Option ℕ → List ℕ
split_word None = []
split_word (Some r) = decimal r

-- items: what is said of registers, pairs, flags, slots, cells, and by items of one value; a default is left out

abbrev pub item : List ℕ → List ℕ → List ℕ
item key value = key ++ code "=" ∷ value

abbrev pub unless : Bool → List ℕ → List (List ℕ) → List (List ℕ)
unless is_default word words = if is_default then words else word ∷ words

-- of each key one value, whose item is left out where the value is its default
abbrev pub options : {K A : Type 0} → (K → A → Bool) → (K → A → List ℕ) → List K → List A → List (List ℕ)
options is_usual word [] values = []
options is_usual word (key ∷ keys) [] = []
options is_usual word (key ∷ keys) (value ∷ values) = unless (is_usual key value) (word key value) (options is_usual word keys values)

abbrev pub numbers_from : ℕ → ℕ → List ℕ
numbers_from r zero = []
numbers_from r (suc count) = r ∷ numbers_from (suc r) count

-- the registers from r on
abbrev pub register_item : ℕ → Fact → List ℕ
register_item r f = item (code "r" ∷ decimal r) (fact_word f)

abbrev pub register_items : Kind → ℕ → List Fact → List (List ℕ)
register_items kind r fs = options (is_default kind) register_item (numbers_from r (length fs)) fs

-- the pairs of these letters
abbrev pub pair_item : ℕ → PairFact → List ℕ
pair_item letter f = item (letter ∷ []) (pair_word f)

abbrev pub pair_items : List ℕ → List PairFact → List (List ℕ)
pair_items letters fs = options (λ letter f. is_any_pair f) pair_item letters fs

-- the flags of these letters
abbrev pub flag_item : ℕ → Bit → List ℕ
flag_item letter b = item (letter ∷ []) (flag_word b)

abbrev pub flag_items : Kind → List ℕ → List Bit → List (List ℕ)
flag_items kind letters bs = options (λ letter b. is_default_flag kind b) flag_item letters bs

-- the stack from the bottom, no slot left out
abbrev pub slot_items : List Fact → List (List ℕ)
slot_items slots = map (λ f. codes "s:" ++ fact_word f) slots

-- of the cells, i of which came before
abbrev pub cell_items : Kind → ℕ → List Cell → List Fact → List (List ℕ)
cell_items kind i [] facts = []
cell_items kind i (c ∷ cs) [] = []
cell_items kind i (c ∷ cs) (f ∷ fs) =
    if tracks kind c.owner
    then unless (is_range c.range f) (item (code "m" ∷ decimal i) (fact_word f)) (cell_items kind (suc i) cs fs)
    else cell_items kind (suc i) cs (f ∷ fs)

-- items of one value that have a name, in their order
abbrev pub value_word : (form : ValueForm) → ValueOf form → List ℕ
value_word (a_number limit may usual) n = decimal n
value_word a_range e = range_word e
value_word a_comparison compared = comparison_word compared
value_word a_register register = split_word register

abbrev pub value_item : (i : NamedItem) → ValueOf i.form → List ℕ
value_item i x = item i.key (value_word i.form x)

abbrev pub value_items : (i : NamedItem) → ValueOf i.form → List (List ℕ)
value_items i x = unless (is_usual i.form x) (value_item i x) []

abbrev pub listed_items : (is : List NamedItem) → NamedValues is → List (List ℕ)
listed_items [] v = []
listed_items (i ∷ is) v = value_items i v.0 ++ listed_items is v.1

abbrev pub successor_items : List ℕ → List (List ℕ)
successor_items ids = map (λ id. code ">" ∷ decimal id) ids

-- lines

abbrev pub size_words : Cert → List (List ℕ)
size_words c = codes "size" ∷ decimal (length c.schedule.kinds) ∷ decimal (length c.schedule.lines) ∷ decimal (length c.rests) ∷ decimal
    (length c.points) ∷ decimal (length c.head.cells.items) ∷ []

abbrev pub irq_words : Head → List (List ℕ)
irq_words h = codes "irq" ∷ decimal (response_clocks h.irq) ∷ []

abbrev pub stack_words : Head → List (List ℕ)
stack_words h = codes "stack" ∷ decimal h.lo ∷ decimal h.hi ∷ decimal h.main ∷ decimal h.handler ∷ []

abbrev pub owner_word : Owner → List ℕ
owner_word MainCell = codes "main"
owner_word HandlerCell = codes "handler"

abbrev pub cell_words : Cell → List (List ℕ)
cell_words c = codes "cell" ∷ decimal c.at ∷ owner_word c.owner ∷ decimal c.range.lo ∷ decimal c.range.hi ∷ []

-- from version 2 on the text says the length of a kind of line
abbrev pub length_words : Version → ℕ → List (List ℕ)
length_words First clocks = []
length_words Second clocks = decimal clocks ∷ []
length_words Third clocks = decimal clocks ∷ []

abbrev pub kind_words : Version → ℕ → ℕ → List (List ℕ)
kind_words version events clocks = codes "kind" ∷ decimal events ∷ length_words version clocks

abbrev pub event_kind_words : EventKind → List (List ℕ)
event_kind_words (Sync level) = codes "sync" ∷ decimal level ∷ []
event_kind_words Pixel = codes "pixel" ∷ []
event_kind_words Sound = codes "sound" ∷ []
event_kind_words Leave = codes "leave" ∷ []

abbrev pub event_words : Event → List (List ℕ)
event_words e = decimal e.clock ∷ event_kind_words e.kind

abbrev pub fall_words : Schedule → List (List ℕ)
fall_words s = codes "fall" ∷ decimal s.fall ∷ []

-- lines that follow each other and are of one kind: how many, and the kind
abbrev pub run_before : ℕ → List (ℕ × ℕ) → List (ℕ × ℕ)
run_before kind [] = (1, kind) ∷ []
run_before kind (r ∷ rs) = if r.1 == kind then (r.0 + 1, kind) ∷ rs else (1, kind) ∷ r ∷ rs

abbrev pub runs_of : List ℕ → List (ℕ × ℕ)
runs_of [] = []
runs_of (kind ∷ kinds) = run_before kind (runs_of kinds)

abbrev pub run_words : ℕ × ℕ → List (List ℕ)
run_words r = codes "run" ∷ decimal r.0 ∷ decimal r.1 ∷ []

abbrev pub rest_words : Rest → List (List ℕ)
rest_words r = codes "rest" ∷ decimal r.line ∷ decimal r.clock ∷ decimal r.vector ∷ map (ends_word 255) r.cells.items

abbrev pub kind_word : Kind → List ℕ
kind_word Main = codes "main"
kind_word Handler = codes "handler"
kind_word Alone = codes "alone"

abbrev pub range_facts : List Ends → List Fact
range_facts spans = map range_fact spans

abbrev pub entry_items : List Cell → Entry → List (List ℕ)
entry_items cells e =
    register_items e.kind 0 (range_facts e.regs)
    ++ (flag_items e.kind (codes "cznvsht") e.flags
    ++ (slot_items (range_facts e.stack.items)
    ++ cell_items e.kind 0 cells (range_facts e.cells.items)))

abbrev pub entry_words : List Cell → Entry → List (List ℕ)
entry_words cells e =
    codes "entry" ∷ kind_word e.kind ∷ decimal e.id ∷ decimal e.pc ∷ decimal e.line ∷ decimal e.clock ∷ entry_items cells e

abbrev pub signed_word : ℤ → List ℕ
signed_word (pos n) = decimal n
signed_word (negsuc n) = code "-" ∷ decimal (n + 1)

abbrev pub truth_word : Bool → List ℕ
truth_word true = codes "1"
truth_word false = codes "0"

abbrev pub point_items : List Cell → Point → List (List ℕ)
point_items cells p =
    register_items p.kind 0 p.regs
    ++ (pair_items (codes "xyz") p.pairs
    ++ (flag_items p.kind (codes "cznvsht") p.flags
    ++ (slot_items p.stack.items
    ++ (cell_items p.kind 0 cells p.cells.items
    ++ (listed_items named_items (values_of p)
    ++ successor_items p.next.items)))))

abbrev pub point_words : List Cell → Point → List (List ℕ)
point_words cells p =
    codes "point" ∷ kind_word p.kind ∷ decimal p.pc ∷ decimal p.l0 ∷ decimal p.l1 ∷ decimal p.c0 ∷ decimal p.c1
    ∷ decimal p.clock ∷ signed_word p.slope ∷ truth_word p.pending ∷ point_items cells p

-- the whole text

-- the lines of the kinds, each with its length, and then these
abbrev pub kinds_then : Version → List (List Event) → List ℕ → List (List ℕ) → List (List ℕ)
kinds_then version [] lengths others = others
kinds_then version (events ∷ kinds) [] others = others
kinds_then version (events ∷ kinds) (clocks ∷ lengths) others =
    line_of (kind_words version (length events) clocks)
    ∷ (map (λ e. line_of (event_words e)) events ++ kinds_then version kinds lengths others)

-- `end` and, after the last LF, the empty line
abbrev pub last_lines : List (List ℕ)
last_lines = codes "end" ∷ [] ∷ []

abbrev pub state_lines : List Cell → Entry → List Point → List (List ℕ)
state_lines cells entry points =
    line_of (entry_words cells entry) ∷ (map (λ p. line_of (point_words cells p)) points ++ last_lines)

abbrev pub schedule_lines : Version → Schedule → List (List ℕ) → List (List ℕ)
schedule_lines version s others =
    kinds_then version s.kinds s.lengths (line_of (fall_words s) ∷ (map (λ r. line_of (run_words r)) (runs_of s.lines) ++ others))

abbrev pub lines_of_certificate : Version → Cert → List (List ℕ)
lines_of_certificate version c =
    head_line version ∷ line_of (size_words c) ∷ line_of (irq_words c.head) ∷ line_of (stack_words c.head)
    ∷ (map (λ m. line_of (cell_words m)) c.head.cells.items
    ++ schedule_lines version c.schedule (map (λ r. line_of (rest_words r)) c.rests ++ state_lines c.head.cells.items c.entry c.points))

-- the text of a version, which for version 1 says nothing of lengths; and nothing of the timer, where each point has the defaults
abbrev pub spelling : Version → Cert → List ℕ
spelling version c = join_with_byte (code "\n") (lines_of_certificate version c)
