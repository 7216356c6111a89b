-- The line that says why a search finds no certificate, and what the search's promise allows.
use Rattle.std.specs.Prelude.{◌≡◌, ℕ, ◌-◌, List, [], ◌++◌, length, codes, decimal, slice_get, Option, option_map, unwrap_or}
use Rattle.std.specs.Prelude.{Result, Ok, Err, IsOk}
use Rattle.uz_hex.specs.Reading.{Flash}
use Rattle.avr_asm.specs.declared.output.Hint.{Hint as SourceHint}
use Rattle.uz_schedule.specs.declared.kinds.Response.{Response}
use Rattle.uz_schedule.specs.declared.kinds.RuleVersion.TheVariants.{Two}
use Rattle.uz_schedule.specs.declared.certificate.Cert.{Cert}
use Rattle.uz_schedule.specs.declared.states.Instance.{Instance}
use Rattle.uz_schedule.specs.WellFormed.{WellFormed}
use Rattle.uz_check.specs.Acceptance.{Accepts}
use Rattle.uz_transfer.specs.declared.fail.Fail.{Fail}
use Rattle.uz_search.specs.declared.found.NotFound.{NotFound}
use Rattle.uz_search.specs.declared.found.NotFound.TheVariants.{Stuck, Split, Full, Hint, NoRest, Memory}
use Rattle.uz_paths.specs.Finding.{Cause, NoCause, IsAsked}
use Rattle.uz_files.specs.Lines.{number_line}
use Rattle.uz_certificate_commands.specs.VerdictLines.{fail_name}
use Rattle.uz_hex.specs.Hexadecimals.{hex_word}

-- the last instance of a trail
abbrev pub last_of : List Instance → Option Instance
last_of trail = slice_get trail (length trail - 1)

abbrev pub last_pc : List Instance → ℕ
last_pc trail = unwrap_or (option_map (λ x. x.pc) (last_of trail)) 0

abbrev pub last_line : List Instance → ℕ
last_line trail = unwrap_or (option_map (λ x. x.line) (last_of trail)) 0

abbrev pub last_clock : List Instance → ℕ
last_clock trail = unwrap_or (option_map (λ x. x.clock) (last_of trail)) 0

-- the places and start clocks are those of the trails' last instances
abbrev pub stuck_line : List Instance → Fail → List ℕ
stuck_line trail why =
    codes "refused stuck pc 0x" ++ hex_word (last_pc trail) ++ codes " line " ++ decimal (last_line trail) ++ codes " clock "
    ++ decimal (last_clock trail) ++ codes " " ++ fail_name why ++ codes "\n"

abbrev pub split_line : List Instance → List Instance → List ℕ
split_line first second =
    codes "refused split line " ++ decimal (last_line first) ++ codes " clock " ++ decimal (last_clock first) ++ codes " and clock "
    ++ decimal (last_clock second) ++ codes "\n"

-- why no certificate is found
abbrev pub not_found_line : NotFound → List ℕ
not_found_line (Stuck trail why) = stuck_line trail why
not_found_line (Split first second) = split_line first second
not_found_line (Full instances) = number_line (codes "refused full ") (length instances)
not_found_line (Hint index) = number_line (codes "refused hint ") index
not_found_line (NoRest count) = codes "refused no rest\n"
not_found_line Memory = []

-- a certificate is accepted and is what the hints ask for, and a refusal has its cause
abbrev pub IsWorth : Flash → Response → List SourceHint → Result Cert NotFound → Type 0
IsWorth image irq hints (Ok cert) = WellFormed cert × Accepts image cert × IsAsked image irq hints cert
IsWorth image irq hints (Err Memory) = ⊥
IsWorth image irq hints (Err e) = Cause image irq hints e

-- where a hint is at fault or one is missing, this is told and nothing else
abbrev pub TellsHint : Flash → Response → List SourceHint → Result Cert NotFound → Type 0
TellsHint image irq hints found = (index : ℕ) → Cause image irq hints (Hint index) → found ≡ Err (Hint index)

-- what the search's promise allows of an image, a response and hints. A certificate comes where no refusal has a cause by the rules of
-- version 2, whose search is always made
pub record Allowed (image : Flash) (irq : Response) (hints : List SourceHint) (found : Result Cert NotFound) : Type 0 where
  pub worth : IsWorth image irq hints found
  pub hint : TellsHint image irq hints found
  pub complete : NoCause Two image irq hints → IsOk found
