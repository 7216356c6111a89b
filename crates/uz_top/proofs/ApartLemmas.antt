-- The two files that a command writes have different names.
use Rattle.std.proofs.Common.{◌≡◌, ◌||◌, ℕ, Bool, true, false, List, [], ◌∷◌, map, codes, bytes_eq, if◌then◌else◌, refl, sym, subst}
use Rattle.std.specs.Prelude.{Option, Some, None, IfSome, string_bytes}
use Rattle.std.proofs.lemmas.Slice.Eq.{bytes_eq-Decides}
use Rattle.std.specs.declared.string.String.{String}
use Rattle.std.specs.declared.alloc.Global.{Global}
use Rattle.uz_hex.specs.Numbers.{number_below, number_within}
use Rattle.uz_schedule.specs.declared.kinds.Response.{Response}
use Rattle.uz_top.specs.Topics.{text_of}
use Rattle.uz_top.specs.Words.{help_words, hints_with, hints_words, prints, version_words}
use Rattle.uz_top.specs.Words.{Command, Asm, Build, Check, Expand, Migrate, Report, Timing, WritesApart, asm_words, build_words, certify_with}
use Rattle.uz_top.specs.Words.{certify_words, find_with, find_words, migrate_words, report_words, timing_words, wave_with, wave_words}
use Rattle.uz_top.specs.Words.{check_words, command_of, debug_with, debug_words, demo_with, demo_words, dis_words, expand_words, play_with}
use Rattle.uz_top.specs.Words.{play_words, response_of, trace_with, trace_words, why_with, why_words}

abbrev Apart : Option Command → Type 0
Apart o = IfSome o WritesApart

by_test : (b : Bool) (x y : Option Command) → Apart x → Apart y → Apart (if b then x else y)
by_test true x y p q = p
by_test false x y p q = q

check_apart : (words : List (List ℕ)) → Apart (check_words words)
check_apart [] = tt
check_apart (a ∷ []) = tt
check_apart (a ∷ b ∷ []) = by_test (bytes_eq a b) None (Some (Check a b)) tt tt
check_apart (a ∷ b ∷ c ∷ words) = tt

asm_apart : (words : List (List ℕ)) → Apart (asm_words words)
asm_apart [] = tt
asm_apart (a ∷ []) = tt
asm_apart (a ∷ b ∷ []) = by_test (bytes_eq a b) None (Some (Asm a b)) tt tt
asm_apart (a ∷ b ∷ c ∷ words) = tt

expand_apart : (words : List (List ℕ)) → Apart (expand_words words)
expand_apart [] = tt
expand_apart (a ∷ []) = tt
expand_apart (a ∷ b ∷ []) = by_test (bytes_eq a b) None (Some (Expand a b)) tt tt
expand_apart (a ∷ b ∷ c ∷ words) = tt

build_apart : (words : List (List ℕ)) → Apart (build_words words)
build_apart [] = tt
build_apart (a ∷ []) = tt
build_apart (a ∷ b ∷ []) = by_test (bytes_eq a b) None (Some (Build a b)) tt tt
build_apart (a ∷ b ∷ c ∷ words) = tt

dis_apart : (words : List (List ℕ)) → Apart (dis_words words)
dis_apart [] = tt
dis_apart (a ∷ []) = tt
dis_apart (a ∷ b ∷ words) = tt

trace_with_apart : (hex pads : List ℕ) (irq : Option Response) (clocks : Option ℕ) → Apart (trace_with hex pads irq clocks)
trace_with_apart hex pads (Some irq) (Some clocks) = tt
trace_with_apart hex pads (Some irq) None = tt
trace_with_apart hex pads None clocks = tt

trace_apart : (words : List (List ℕ)) → Apart (trace_words words)
trace_apart [] = tt
trace_apart (a ∷ []) = tt
trace_apart (a ∷ b ∷ []) = tt
trace_apart (a ∷ b ∷ c ∷ []) = tt
trace_apart (a ∷ b ∷ c ∷ d ∷ []) = by_test (bytes_eq a b) None (trace_with a b (response_of c) (number_within 1 1000000001 d)) tt
    (trace_with_apart a b (response_of c) (number_within 1 1000000001 d))
trace_apart (a ∷ b ∷ c ∷ d ∷ e ∷ words) = tt

play_with_apart : (hex cert pads : List ℕ) (clocks : Option ℕ) (frames : List ℕ) → Apart (play_with hex cert pads clocks frames)
play_with_apart hex cert pads (Some clocks) frames = tt
play_with_apart hex cert pads None frames = tt

-- once the first of the four names differs from the others
abbrev play_names : (hex cert pads clocks frames : List ℕ) → Option Command
play_names hex cert pads clocks frames = if bytes_eq cert pads || (bytes_eq cert frames || bytes_eq pads frames) then None else play_with
    hex cert pads (number_within 1 1000000001 clocks) frames

play_apart : (words : List (List ℕ)) → Apart (play_words words)
play_apart [] = tt
play_apart (a ∷ []) = tt
play_apart (a ∷ b ∷ []) = tt
play_apart (a ∷ b ∷ c ∷ []) = tt
play_apart (a ∷ b ∷ c ∷ d ∷ []) = tt
play_apart (a ∷ b ∷ c ∷ d ∷ e ∷ []) =
    by_test (bytes_eq a b || (bytes_eq a c || bytes_eq a e)) None (play_names a b c d e) tt
    (by_test (bytes_eq b c || (bytes_eq b e || bytes_eq c e)) None (play_with a b c (number_within 1 1000000001 d) e) tt
    (play_with_apart a b c (number_within 1 1000000001 d) e))
play_apart (a ∷ b ∷ c ∷ d ∷ e ∷ f ∷ words) = tt

debug_with_apart : (hex pads : List ℕ) (irq : Option Response) (script : List ℕ) → Apart (debug_with hex pads irq script)
debug_with_apart hex pads (Some irq) script = tt
debug_with_apart hex pads None script = tt

debug_apart : (words : List (List ℕ)) → Apart (debug_words words)
debug_apart [] = tt
debug_apart (a ∷ []) = tt
debug_apart (a ∷ b ∷ []) = tt
debug_apart (a ∷ b ∷ c ∷ []) = tt
debug_apart (a ∷ b ∷ c ∷ d ∷ []) = by_test (bytes_eq a b || (bytes_eq a d || bytes_eq b d)) None (debug_with a b (response_of c) d) tt
    (debug_with_apart a b (response_of c) d)
debug_apart (a ∷ b ∷ c ∷ d ∷ e ∷ words) = tt

or_last : (a b c : Bool) → c ≡ true → (a || (b || c)) ≡ true
or_last true b c is = refl
or_last false true c is = refl
or_last false false c is = is

certify_with_apart : (same : Bool) (source : List ℕ) (irq : Option Response) (hex cert : List ℕ) → (hex ≡ cert → same ≡ true)
    → Apart (if same then None else certify_with source irq hex cert)
certify_with_apart true source irq hex cert told = tt
certify_with_apart false source (Some irq) hex cert told = λ e. absurd (cc (told e))
certify_with_apart false source None hex cert told = tt

certify_apart : (words : List (List ℕ)) → Apart (certify_words words)
certify_apart [] = tt
certify_apart (a ∷ []) = tt
certify_apart (a ∷ b ∷ []) = tt
certify_apart (a ∷ b ∷ c ∷ []) = tt
certify_apart (a ∷ b ∷ c ∷ d ∷ []) =
    certify_with_apart (bytes_eq a c || (bytes_eq a d || bytes_eq c d)) a (response_of b) c d
    (λ e. or_last (bytes_eq a c) (bytes_eq a d) (bytes_eq c d) ((bytes_eq-Decides c d).1 e))
certify_apart (a ∷ b ∷ c ∷ d ∷ e ∷ words) = tt

demo_with_apart : (number : Option ℕ) → Apart (demo_with number)
demo_with_apart (Some number) = tt
demo_with_apart None = tt

demo_apart : (words : List (List ℕ)) → Apart (demo_words words)
demo_apart [] = tt
demo_apart (a ∷ []) = demo_with_apart (number_below 65536 a)
demo_apart (a ∷ b ∷ words) = tt

migrate_apart : (words : List (List ℕ)) → Apart (migrate_words words)
migrate_apart [] = tt
migrate_apart (a ∷ []) = tt
migrate_apart (a ∷ b ∷ []) = by_test (bytes_eq a b) None (Some (Migrate a b)) tt tt
migrate_apart (a ∷ b ∷ c ∷ words) = tt

report_apart : (words : List (List ℕ)) → Apart (report_words words)
report_apart [] = tt
report_apart (a ∷ []) = tt
report_apart (a ∷ b ∷ []) = by_test (bytes_eq a b) None (Some (Report a b)) tt tt
report_apart (a ∷ b ∷ c ∷ words) = tt

timing_apart : (words : List (List ℕ)) → Apart (timing_words words)
timing_apart [] = tt
timing_apart (a ∷ []) = tt
timing_apart (a ∷ b ∷ []) = by_test (bytes_eq a b) None (Some (Timing a b)) tt tt
timing_apart (a ∷ b ∷ c ∷ words) = tt

wave_with_apart : (hex pads : List ℕ) (irq : Option Response) (clocks : Option ℕ) (wav : List ℕ)
    → Apart (wave_with hex pads irq clocks wav)
wave_with_apart hex pads (Some irq) (Some clocks) wav = tt
wave_with_apart hex pads (Some irq) None wav = tt
wave_with_apart hex pads None clocks wav = tt

wave_apart : (words : List (List ℕ)) → Apart (wave_words words)
wave_apart [] = tt
wave_apart (a ∷ []) = tt
wave_apart (a ∷ b ∷ []) = tt
wave_apart (a ∷ b ∷ c ∷ []) = tt
wave_apart (a ∷ b ∷ c ∷ d ∷ []) = tt
wave_apart (a ∷ b ∷ c ∷ d ∷ e ∷ []) =
    by_test (bytes_eq a b || (bytes_eq a e || bytes_eq b e)) None (wave_with a b (response_of c) (number_within 1 1000000001 d) e) tt
    (wave_with_apart a b (response_of c) (number_within 1 1000000001 d) e)
wave_apart (a ∷ b ∷ c ∷ d ∷ e ∷ f ∷ words) = tt

prints_apart : (text : Option (List ℕ)) → Apart (prints text)
prints_apart (Some text) = tt
prints_apart None = tt

help_apart : (words : List (List ℕ)) → Apart (help_words words)
help_apart [] = tt
help_apart (a ∷ []) = prints_apart (text_of a)
help_apart (a ∷ b ∷ words) = tt

version_apart : (words : List (List ℕ)) → Apart (version_words words)
version_apart [] = tt
version_apart (a ∷ words) = tt

find_with_apart : (hex hints : List ℕ) (irq : Option Response) (cert : List ℕ) → Apart (find_with hex hints irq cert)
find_with_apart hex hints (Some irq) cert = tt
find_with_apart hex hints None cert = tt

find_apart : (words : List (List ℕ)) → Apart (find_words words)
find_apart [] = tt
find_apart (a ∷ []) = tt
find_apart (a ∷ b ∷ []) = tt
find_apart (a ∷ b ∷ c ∷ []) = tt
find_apart (a ∷ b ∷ c ∷ d ∷ []) = by_test (bytes_eq a b || (bytes_eq a d || bytes_eq b d)) None (find_with a b (response_of c) d) tt
    (find_with_apart a b (response_of c) d)
find_apart (a ∷ b ∷ c ∷ d ∷ e ∷ words) = tt

hints_with_apart : (hex pads : List ℕ) (irq : Option Response) (clocks : Option ℕ) (hints : List ℕ)
    → Apart (hints_with hex pads irq clocks hints)
hints_with_apart hex pads (Some irq) (Some clocks) hints = tt
hints_with_apart hex pads (Some irq) None hints = tt
hints_with_apart hex pads None clocks hints = tt

hints_apart : (words : List (List ℕ)) → Apart (hints_words words)
hints_apart [] = tt
hints_apart (a ∷ []) = tt
hints_apart (a ∷ b ∷ []) = tt
hints_apart (a ∷ b ∷ c ∷ []) = tt
hints_apart (a ∷ b ∷ c ∷ d ∷ []) = tt
hints_apart (a ∷ b ∷ c ∷ d ∷ e ∷ []) =
    by_test (bytes_eq a b || (bytes_eq a e || bytes_eq b e)) None (hints_with a b (response_of c) (number_within 1 1000000001 d) e) tt
    (hints_with_apart a b (response_of c) (number_within 1 1000000001 d) e)
hints_apart (a ∷ b ∷ c ∷ d ∷ e ∷ f ∷ words) = tt

why_with_apart : (hex hints : List ℕ) (irq : Option Response) → Apart (why_with hex hints irq)
why_with_apart hex hints (Some irq) = tt
why_with_apart hex hints None = tt

why_apart : (words : List (List ℕ)) → Apart (why_words words)
why_apart [] = tt
why_apart (a ∷ []) = tt
why_apart (a ∷ b ∷ []) = tt
why_apart (a ∷ b ∷ c ∷ []) = by_test (bytes_eq a b) None (why_with a b (response_of c)) tt (why_with_apart a b (response_of c))
why_apart (a ∷ b ∷ c ∷ d ∷ words) = tt

-- the commands from one of them on, in the order in which the first word is compared

abbrev from_why : List ℕ → List (List ℕ) → Option Command
from_why verb words = if bytes_eq verb (codes "why") then why_words words else None

abbrev from_hints : List ℕ → List (List ℕ) → Option Command
from_hints verb words = if bytes_eq verb (codes "hints") then hints_words words else from_why verb words

abbrev from_find : List ℕ → List (List ℕ) → Option Command
from_find verb words = if bytes_eq verb (codes "find") then find_words words else from_hints verb words

abbrev from_version : List ℕ → List (List ℕ) → Option Command
from_version verb words = if bytes_eq verb (codes "version") then version_words words else from_find verb words

abbrev from_help : List ℕ → List (List ℕ) → Option Command
from_help verb words = if bytes_eq verb (codes "help") then help_words words else from_version verb words

abbrev from_wave : List ℕ → List (List ℕ) → Option Command
from_wave verb words = if bytes_eq verb (codes "wave") then wave_words words else from_help verb words

abbrev from_timing : List ℕ → List (List ℕ) → Option Command
from_timing verb words = if bytes_eq verb (codes "timing") then timing_words words else from_wave verb words

abbrev from_report : List ℕ → List (List ℕ) → Option Command
from_report verb words = if bytes_eq verb (codes "report") then report_words words else from_timing verb words

abbrev from_migrate : List ℕ → List (List ℕ) → Option Command
from_migrate verb words = if bytes_eq verb (codes "migrate") then migrate_words words else from_report verb words

abbrev from_demo : List ℕ → List (List ℕ) → Option Command
from_demo verb words = if bytes_eq verb (codes "demo") then demo_words words else from_migrate verb words

abbrev from_certify : List ℕ → List (List ℕ) → Option Command
from_certify verb words = if bytes_eq verb (codes "certify") then certify_words words else from_demo verb words

abbrev from_build : List ℕ → List (List ℕ) → Option Command
from_build verb words = if bytes_eq verb (codes "build") then build_words words else from_certify verb words

abbrev from_expand : List ℕ → List (List ℕ) → Option Command
from_expand verb words = if bytes_eq verb (codes "expand") then expand_words words else from_build verb words

abbrev from_debug : List ℕ → List (List ℕ) → Option Command
from_debug verb words = if bytes_eq verb (codes "debug") then debug_words words else from_expand verb words

abbrev from_play : List ℕ → List (List ℕ) → Option Command
from_play verb words = if bytes_eq verb (codes "play") then play_words words else from_debug verb words

abbrev from_trace : List ℕ → List (List ℕ) → Option Command
from_trace verb words = if bytes_eq verb (codes "trace") then trace_words words else from_play verb words

abbrev from_asm : List ℕ → List (List ℕ) → Option Command
from_asm verb words = if bytes_eq verb (codes "asm") then asm_words words else from_trace verb words

abbrev from_dis : List ℕ → List (List ℕ) → Option Command
from_dis verb words = if bytes_eq verb (codes "dis") then dis_words words else from_asm verb words

command_apart : (words : List (List ℕ)) → Apart (command_of words)
command_apart [] = tt
command_apart (verb ∷ words) =
    by_test (bytes_eq verb (codes "check")) (check_words words) (from_dis verb words) (check_apart words)
    (by_test (bytes_eq verb (codes "dis")) (dis_words words) (from_asm verb words) (dis_apart words)
    (by_test (bytes_eq verb (codes "asm")) (asm_words words) (from_trace verb words) (asm_apart words)
    (by_test (bytes_eq verb (codes "trace")) (trace_words words) (from_play verb words) (trace_apart words)
    (by_test (bytes_eq verb (codes "play")) (play_words words) (from_debug verb words) (play_apart words)
    (by_test (bytes_eq verb (codes "debug")) (debug_words words) (from_expand verb words) (debug_apart words)
    (by_test (bytes_eq verb (codes "expand")) (expand_words words) (from_build verb words) (expand_apart words)
    (by_test (bytes_eq verb (codes "build")) (build_words words) (from_certify verb words) (build_apart words)
    (by_test (bytes_eq verb (codes "certify")) (certify_words words) (from_demo verb words) (certify_apart words)
    (by_test (bytes_eq verb (codes "demo")) (demo_words words) (from_migrate verb words) (demo_apart words)
    (by_test (bytes_eq verb (codes "migrate")) (migrate_words words) (from_report verb words) (migrate_apart words)
    (by_test (bytes_eq verb (codes "report")) (report_words words) (from_timing verb words) (report_apart words)
    (by_test (bytes_eq verb (codes "timing")) (timing_words words) (from_wave verb words) (timing_apart words)
    (by_test (bytes_eq verb (codes "wave")) (wave_words words) (from_help verb words) (wave_apart words)
    (by_test (bytes_eq verb (codes "help")) (help_words words) (from_version verb words) (help_apart words)
    (by_test (bytes_eq verb (codes "version")) (version_words words) (from_find verb words) (version_apart words)
    (by_test (bytes_eq verb (codes "find")) (find_words words) (from_hints verb words) (find_apart words)
    (by_test (bytes_eq verb (codes "hints")) (hints_words words) (from_why verb words) (hints_apart words)
    (by_test (bytes_eq verb (codes "why")) (why_words words) None (why_apart words) tt))))))))))))))))))

-- what holds of the command where the names of its files differ
pub holds_apart : (words : List (String Global)) (c : Command) (holds : Command → Type 0) → Some c ≡ command_of (map string_bytes words)
    → (WritesApart c → holds c) → IfSome (command_of (map string_bytes words)) holds
holds_apart words c holds is given =
    subst (λ o. IfSome o holds) is (given (subst (λ o. IfSome o WritesApart) (sym is) (command_apart (map string_bytes words))))
