-- The lines of one command more.
use Rattle.std.proofs.Common.{◌≡◌, ℕ, suc, ◌+◌, ◌%◌, arith, List, [], ◌∷◌, ◌++◌, append_assoc, refl, sym, ◌∙◌, ap, subst}
use Rattle.std.specs.Prelude.{Result, Ok, Err, OnOk}
use Rattle.std.proofs.lemmas.List.{append-nil}
use Rattle.uz_core.specs.PadLine.{PadHistory}
use Rattle.uz_core.specs.Turn.{State}
use Rattle.uz_debug.specs.declared.command.Command.{Command}
use Rattle.uz_debug.specs.declared.command.Reply.{Reply}
use Rattle.uz_debug.specs.Sessions.{Session, Acts}
use Rattle.uz_hex.specs.Hexadecimals.{hex_byte}
use Rattle.uz_debug.specs.SessionText.{AddsLine, IsLineOf, Prints, bytes_text, gap, shown_text}
use Rattle.uz_core.specs.Space.{history_wiring}
use Rattle.uz_core.specs.Turn.{state_byte}
use Rattle.uz_console.specs.declared.console.Console.{Console}
use Rattle.uz_console.specs.Consoles.{StandsFor}
use Rattle.uz_console.proofs.TurnLemmas.{byte_is}
use Rattle.uz_debug.specs.declared.command.Reply.TheVariants as reply
use Rattle.uz_debug.specs.Debuggers.{read_of}
use Rattle.uz_debug.specs.Timelines.{IsAt}

prints_push : (start : State PadHistory) (old mid new : Session) (commands : List Command) (command : Command) (answer : Reply)
    (text line : List ℕ) →
    Prints start old commands text mid → Acts start mid command answer new → IsLineOf start new.turn command answer line → Prints start old
    (commands ++ command ∷ []) (text ++ line) new
prints_push start old mid new [] command answer text line prints acts is = (
  answer,
  new,
  line,
  [],
  subst (λ s. Acts start s command answer new) prints.1 acts,
  is,
  (refl, refl),
  ap (λ t. t ++ line) prints.0
      ∙ sym (append-nil line),
)
prints_push start old mid new (first ∷ commands) command answer text line (said, next, head, rest, does, tells, prints, cut) acts is = (
  said,
  next,
  head,
  rest ++ line,
  does,
  tells,
  prints_push start next mid new commands command answer rest line prints acts is,
  ap (λ t. t ++ line) cut ∙ append_assoc head rest line,
)

pub prints_more : (start : State PadHistory) (old mid new : Session) (commands : List Command) (command : Command) (answer : Reply)
    (text more : List ℕ) →
    Prints start old commands text mid → Acts start mid command answer new → AddsLine start new.turn command answer text more
    → Prints start old (commands ++ command ∷ []) more new
prints_more start old mid new commands command answer text more prints acts (line, is, all) =
    subst (λ t. Prints start old (commands ++ command ∷ []) t new) (sym all) (prints_push start old mid new commands command answer text
    line prints acts is)

-- one byte more
pub bytes_more : (read : ℕ → ℕ) (at n place : ℕ) (start space old new : List ℕ) → old ≡ start ++ bytes_text read at n → space ≡ gap n
    → new ≡ old ++ (space ++ hex_byte (read place)) → place ≡ (at + n) % 65536 → new ≡ start ++ bytes_text read at (n + 1)
bytes_more read at n place start space old new first before last same =
    let one : suc n ≡ n + 1 = omega arith in
    let row = bytes_text read at n in
    let byte = hex_byte (read place) in
    last
    ∙ (ap (λ t. t ++ (space ++ byte)) first
    ∙ (ap (λ g. start ++ row ++ (g ++ byte)) before
    ∙ (append_assoc start row (gap n ++ byte)
    ∙ (ap (λ t. start ++ t) (sym (append_assoc row (gap n) byte))
    ∙ (ap (λ p. start ++ (row ++ gap n ++ hex_byte (read p))) same
    ∙ ap (λ m. start ++ bytes_text read at m) one)))))

-- what a console shows is what the state shows that it stands for
same_read : (console : Console) (s : State PadHistory) → StandsFor console s → read_of console ≡ state_byte history_wiring s
same_read console s h = λ i at. byte_is console s at h i

pub shows : (start : State PadHistory) (command : Command) (turn clock pc : ℕ) (console : Console) (old new : List ℕ) → IsAt start turn
    console → ((s : State PadHistory) → StandsFor console s → clock ≡ s.clock) → ((s : State PadHistory) → StandsFor console s
    → pc ≡ s.core.pc) →
    new ≡ old ++ shown_text command turn clock pc (read_of console) → AddsLine start turn command reply.Shown old new
shows start command turn clock pc console old new (s, after, stands) clocks pcs is = (
  shown_text command turn clock pc (read_of console),
  (
    s,
    after,
    ap (λ n. shown_text command turn n pc (read_of console)) (clocks s stands)
        ∙ (ap (λ n. shown_text command turn s.clock n (read_of console)) (pcs s stands)
        ∙ ap (λ f. shown_text command turn s.clock s.core.pc f) (same_read console s stands)),
  ),
  is,
)

pub on_ok : {T E : Type 0} (r : Result T E) (P Q : Type 0) → (P → Q) → OnOk r P → OnOk r Q
on_ok (Ok x) P Q f p = f p
on_ok (Err e) P Q f p = tt
