-- Which words are which command.
use Rattle.std.specs.Prelude.{◌≡◌, ◌≢◌, ℕ, ◌||◌, List, [], ◌∷◌, map, codes, string_bytes, bytes_eq, Option, Some, None, IfSome}
use Rattle.std.specs.Prelude.{if◌then◌else◌}
use Rattle.std.specs.declared.string.String.{String}
use Rattle.std.specs.declared.alloc.Global.{Global}
use Rattle.uz_hex.specs.Numbers.{number_below, number_within}
use Rattle.uz_top.specs.Topics.{help_text, text_of, version_text}
use Rattle.uz_schedule.specs.declared.kinds.Response.{Response}
use Rattle.uz_schedule.specs.declared.kinds.Response.TheVariants.{Four, Five}

-- a command, with the names of its files
pub data Command : Type 0 where
  Check : (hex cert : List ℕ) → Command
  Dis : (hex : List ℕ) → Command
  Asm : (source hex : List ℕ) → Command
  Trace : (hex pads : List ℕ) → (irq : Response) → (clocks : ℕ) → Command
  Expand : (source flat : List ℕ) → Command
  Build : (source hex : List ℕ) → Command
  Play : (hex cert pads : List ℕ) → (clocks : ℕ) → (frames : List ℕ) → Command
  Debug : (hex pads : List ℕ) → (irq : Response) → (script : List ℕ) → Command
  Certify : (source : List ℕ) → (irq : Response) → (hex cert : List ℕ) → Command
  Demo : (number : ℕ) → Command
  Migrate : (older newer : List ℕ) → Command
  Report : (hex cert : List ℕ) → Command
  Timing : (hex cert : List ℕ) → Command
  Wave : (hex pads : List ℕ) → (irq : Response) → (clocks : ℕ) → (wav : List ℕ) → Command
  -- `help` and `version`: the words alone decide the text
  Prints : (text : List ℕ) → Command
  Find : (hex hints : List ℕ) → (irq : Response) → (cert : List ℕ) → Command
  Hints : (hex pads : List ℕ) → (irq : Response) → (clocks : ℕ) → (hints : List ℕ) → Command
  Why : (hex hints : List ℕ) → (irq : Response) → Command

-- the file words of a command differ
abbrev pub check_words : List (List ℕ) → Option Command
check_words (hex ∷ cert ∷ []) = if bytes_eq hex cert then None else Some (Check hex cert)
check_words other = None

abbrev pub asm_words : List (List ℕ) → Option Command
asm_words (source ∷ hex ∷ []) = if bytes_eq source hex then None else Some (Asm source hex)
asm_words other = None

abbrev pub expand_words : List (List ℕ) → Option Command
expand_words (source ∷ flat ∷ []) = if bytes_eq source flat then None else Some (Expand source flat)
expand_words other = None

abbrev pub build_words : List (List ℕ) → Option Command
build_words (source ∷ hex ∷ []) = if bytes_eq source hex then None else Some (Build source hex)
build_words other = None

abbrev pub dis_words : List (List ℕ) → Option Command
dis_words (hex ∷ []) = Some (Dis hex)
dis_words other = None

-- the clocks of an interrupt's entry, 4 or 5
abbrev pub response_of : List ℕ → Option Response
response_of word = if bytes_eq word (codes "4") then Some Four else if bytes_eq word (codes "5") then Some Five else None

abbrev pub trace_with : List ℕ → List ℕ → Option Response → Option ℕ → Option Command
trace_with hex pads (Some irq) (Some clocks) = Some (Trace hex pads irq clocks)
trace_with hex pads irq clocks = None

-- the clocks are 1 to 1,000,000,000
abbrev pub trace_words : List (List ℕ) → Option Command
trace_words (hex ∷ pads ∷ irq ∷ clocks ∷ []) =
    if bytes_eq hex pads then None else trace_with hex pads (response_of irq) (number_within 1 1000000001 clocks)
trace_words other = None

abbrev pub play_with : List ℕ → List ℕ → List ℕ → Option ℕ → List ℕ → Option Command
play_with hex cert pads (Some clocks) frames = Some (Play hex cert pads clocks frames)
play_with hex cert pads None frames = None

-- the clocks are 1 to 1,000,000,000
abbrev pub play_words : List (List ℕ) → Option Command
play_words (hex ∷ cert ∷ pads ∷ clocks ∷ frames ∷ []) =
    if bytes_eq hex cert || (bytes_eq hex pads || bytes_eq hex frames) then None
    else if bytes_eq cert pads || (bytes_eq cert frames || bytes_eq pads frames) then None
    else play_with hex cert pads (number_within 1 1000000001 clocks) frames
play_words other = None

abbrev pub debug_with : List ℕ → List ℕ → Option Response → List ℕ → Option Command
debug_with hex pads (Some irq) script = Some (Debug hex pads irq script)
debug_with hex pads None script = None

abbrev pub debug_words : List (List ℕ) → Option Command
debug_words (hex ∷ pads ∷ irq ∷ script ∷ []) =
    if bytes_eq hex pads || (bytes_eq hex script || bytes_eq pads script) then None else debug_with hex pads (response_of irq) script
debug_words other = None

abbrev pub certify_with : List ℕ → Option Response → List ℕ → List ℕ → Option Command
certify_with source (Some irq) hex cert = Some (Certify source irq hex cert)
certify_with source None hex cert = None

abbrev pub certify_words : List (List ℕ) → Option Command
certify_words (source ∷ irq ∷ hex ∷ cert ∷ []) =
    if bytes_eq source hex || (bytes_eq source cert || bytes_eq hex cert) then None else certify_with source (response_of irq) hex cert
certify_words other = None

abbrev pub demo_with : Option ℕ → Option Command
demo_with (Some number) = Some (Demo number)
demo_with None = None

-- the number is 0 to 65,535
abbrev pub demo_words : List (List ℕ) → Option Command
demo_words (number ∷ []) = demo_with (number_below 65536 number)
demo_words other = None

abbrev pub migrate_words : List (List ℕ) → Option Command
migrate_words (older ∷ newer ∷ []) = if bytes_eq older newer then None else Some (Migrate older newer)
migrate_words other = None

abbrev pub report_words : List (List ℕ) → Option Command
report_words (hex ∷ cert ∷ []) = if bytes_eq hex cert then None else Some (Report hex cert)
report_words other = None

abbrev pub timing_words : List (List ℕ) → Option Command
timing_words (hex ∷ cert ∷ []) = if bytes_eq hex cert then None else Some (Timing hex cert)
timing_words other = None

abbrev pub wave_with : List ℕ → List ℕ → Option Response → Option ℕ → List ℕ → Option Command
wave_with hex pads (Some irq) (Some clocks) wav = Some (Wave hex pads irq clocks wav)
wave_with hex pads irq clocks wav = None

-- the clocks are 1 to 1,000,000,000
abbrev pub wave_words : List (List ℕ) → Option Command
wave_words (hex ∷ pads ∷ irq ∷ clocks ∷ wav ∷ []) =
    if bytes_eq hex pads || (bytes_eq hex wav || bytes_eq pads wav) then None
    else wave_with hex pads (response_of irq) (number_within 1 1000000001 clocks) wav
wave_words other = None

abbrev pub prints : Option (List ℕ) → Option Command
prints (Some text) = Some (Prints text)
prints None = None

-- no word, or the name of a command
abbrev pub help_words : List (List ℕ) → Option Command
help_words [] = Some (Prints help_text)
help_words (name ∷ []) = prints (text_of name)
help_words other = None

abbrev pub version_words : List (List ℕ) → Option Command
version_words [] = Some (Prints version_text)
version_words other = None

abbrev pub find_with : List ℕ → List ℕ → Option Response → List ℕ → Option Command
find_with hex hints (Some irq) cert = Some (Find hex hints irq cert)
find_with hex hints None cert = None

abbrev pub find_words : List (List ℕ) → Option Command
find_words (hex ∷ hints ∷ irq ∷ cert ∷ []) =
    if bytes_eq hex hints || (bytes_eq hex cert || bytes_eq hints cert) then None else find_with hex hints (response_of irq) cert
find_words other = None

abbrev pub hints_with : List ℕ → List ℕ → Option Response → Option ℕ → List ℕ → Option Command
hints_with hex pads (Some irq) (Some clocks) hints = Some (Hints hex pads irq clocks hints)
hints_with hex pads irq clocks hints = None

-- the clocks are 1 to 1,000,000,000
abbrev pub hints_words : List (List ℕ) → Option Command
hints_words (hex ∷ pads ∷ irq ∷ clocks ∷ hints ∷ []) =
    if bytes_eq hex pads || (bytes_eq hex hints || bytes_eq pads hints) then None
    else hints_with hex pads (response_of irq) (number_within 1 1000000001 clocks) hints
hints_words other = None

abbrev pub why_with : List ℕ → List ℕ → Option Response → Option Command
why_with hex hints (Some irq) = Some (Why hex hints irq)
why_with hex hints None = None

abbrev pub why_words : List (List ℕ) → Option Command
why_words (hex ∷ hints ∷ irq ∷ []) = if bytes_eq hex hints then None else why_with hex hints (response_of irq)
why_words other = None

abbrev pub command_of : List (List ℕ) → Option Command
command_of [] = None
command_of (verb ∷ words) =
    if bytes_eq verb (codes "check") then check_words words
    else if bytes_eq verb (codes "dis") then dis_words words
    else if bytes_eq verb (codes "asm") then asm_words words
    else if bytes_eq verb (codes "trace") then trace_words words
    else if bytes_eq verb (codes "play") then play_words words
    else if bytes_eq verb (codes "debug") then debug_words words
    else if bytes_eq verb (codes "expand") then expand_words words
    else if bytes_eq verb (codes "build") then build_words words
    else if bytes_eq verb (codes "certify") then certify_words words
    else if bytes_eq verb (codes "demo") then demo_words words
    else if bytes_eq verb (codes "migrate") then migrate_words words
    else if bytes_eq verb (codes "report") then report_words words
    else if bytes_eq verb (codes "timing") then timing_words words
    else if bytes_eq verb (codes "wave") then wave_words words
    else if bytes_eq verb (codes "help") then help_words words
    else if bytes_eq verb (codes "version") then version_words words
    else if bytes_eq verb (codes "find") then find_words words
    else if bytes_eq verb (codes "hints") then hints_words words
    else if bytes_eq verb (codes "why") then why_words words
    else None

-- the words are no command
abbrev pub AreNoCommand : List (String Global) → Type 0
AreNoCommand words = command_of (map string_bytes words) ≡ None

-- what holds of the command that the words are, if they are one
abbrev pub IfCommand : List (String Global) → (Command → Type 0) → Type 0
IfCommand words holds = IfSome (command_of (map string_bytes words)) holds

-- the two files that a command writes have different names
abbrev pub WritesApart : Command → Type 0
WritesApart (Certify source irq hex cert) = hex ≢ cert
WritesApart other = Unit {0}
