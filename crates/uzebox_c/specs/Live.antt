-- What the calls of live play answer.
use Rattle.std.specs.Prelude.{◌≡◌, ℕ, ◌<◌, ◌==◌, ◌⊎◌, if◌then◌else◌, List, [], ◌++◌, drop, length}
use Rattle.std.specs.Ordering.{nat_cmp}
use Rattle.std.specs.FinMap.{FinMap}
use Rattle.uz_hex.specs.HexText.{IsHexOf, IsFirstFault}
use Rattle.uz_hex.specs.declared.errors.HexWhy.{HexWhy}
use Rattle.uz_core.specs.Turn.{history_at_reset, state_at_reset}
use Rattle.uz_pads.specs.declared.pads.Pad.{Pad}
use Rattle.uz_player.specs.declared.calls.Called.{Called}
use Rattle.uz_player.specs.declared.frame.Frame.{Frame}
use Rattle.uz_player.specs.declared.frame.Frame.TheVariants as how
use Rattle.uz_player.specs.declared.state.State.{State}
use Rattle.uz_player.specs.Calls.{IsCalled}
use Rattle.uz_player.specs.States.{StandsFor}
use Rattle.uzebox_c.specs.declared.live.Answer.{Answer}

abbrev pub number_of : Frame → ℕ
number_of how.Over = 0
number_of how.Quiet = 1
number_of how.Stopped = 2

-- an interrupt is entered in 5 clocks or in 4
abbrev pub response_named : ℕ → ℕ
response_named n = if n == 5 then 5 else 4

-- a text has a first fault, or it is too long to be read
abbrev pub NoHex : List ℕ → Type 0
NoHex text = (0xFFFFFFFE < length text) ⊎ ((line : ℕ) × (why : HexWhy) × IsFirstFault text line why)

-- 3: the text isn't Intel HEX. 5: memory was lacking
abbrev pub Refuses : List ℕ → ℕ → Type 0
Refuses text status = ((status ≡ 3) × NoHex text) ⊎ (status ≡ 5)

-- the state is at reset of the console with the flash that the text spells
abbrev pub StartsAt : List ℕ → ℕ → State → Type 0
StartsAt text response state =
    (image : FinMap nat_cmp ℕ) × IsHexOf text image × StandsFor state (state_at_reset image (history_at_reset []) (response_named response)) []

abbrev pub ResetAnswers : List ℕ → ℕ → State → State → Answer → Type 0
ResetAnswers text response old new answer =
    ((answer.status ≡ 0) × StartsAt text response new) ⊎ (Refuses text answer.status × (new ≡ old))

-- a call over the flash that the text spells, with these records
abbrev pub Played : List ℕ → Pad → ℕ → State → Called → List ℕ → Type 0
Played text pad clocks old called records =
    (image : FinMap nat_cmp ℕ) × IsHexOf text image × IsCalled pad clocks image old [] records called

-- 0 to 2: the call was made, and its records come first. 4: they have no room. 3, 5: it wasn't made
abbrev pub FrameAnswers : List ℕ → Pad → ℕ → State → State → List ℕ → List ℕ → Answer → Type 0
FrameAnswers text pad clocks old new before after answer =
    ((called : Called) × (records : List ℕ) × Played text pad clocks old called records × (answer.length ≡ length records)
    × (((answer.status ≡ number_of called.frame) × (answer.latches ≡ called.latches) × (new ≡ called.state)
    × (after ≡ records ++ drop (length records) before))
    ⊎ ((answer.status ≡ 4) × (length before < length records) × (new ≡ old) × (after ≡ before))))
    ⊎ (Refuses text answer.status × (new ≡ old) × (after ≡ before))
