-- What is kept stays true of its turns.
use Rattle.std.proofs.Common.{◌≡◌, ℕ, suc, Bool, true, false, if◌then◌else◌, List, [], ◌∷◌, ◌++◌, take, drop, sym, ◌∙◌}
use Rattle.std.specs.Prelude.{All, remove}
use Rattle.std.specs.FinSet as set
use Rattle.std.proofs.lemmas.List.Elements.{All-append, All-drop, All-push, All-take}
use Rattle.uz_core.specs.PadLine.{PadHistory}
use Rattle.uz_core.specs.Turn.{State}
use Rattle.uz_console.specs.SaveStates.{IsSameConsole}
use Rattle.uz_console.proofs.SaveLemmas.{run_keeps}
use Rattle.uz_debug.specs.declared.run.Halt.{Halt}
use Rattle.uz_debug.specs.declared.run.Halt.TheVariants as halt
use Rattle.uz_debug.specs.Sessions.{IsAfter}
use Rattle.uz_debug.specs.Timelines.{IsHalt}
use Rattle.uz_debug.specs.Checkpoints.{HasState}
use Rattle.uz_debug.proofs.RunLemmas.{goes_before, none_heeded}

pub all_removed : {X : Type 0} (P : X → Type 0) (xs : List X) (i : ℕ) → All P xs → All P (remove xs i)
all_removed P xs i h = All-append P (take i xs) (drop (suc i) xs) (All-take P i xs h) (All-drop P (suc i) xs h)

pub all_pushed : {X : Type 0} (P : X → Type 0) (b : Bool) (xs : List X) (x : X) → All P xs → P x → All P (if b then xs ++ x ∷ [] else xs)
all_pushed P true xs x h p = All-push P xs x h p
all_pushed P false xs x h p = h

-- the states of two turns are of one console
pub same_console : (start a b : State PadHistory) (n m : ℕ) → IsAfter start n a → IsAfter start m b → IsSameConsole a b
same_console start a b n m r q =
    let to_a = run_keeps n start a r.0 r.1 in
    let to_b = run_keeps m start b q.0 q.1 in
    record { image = to_b.image ∙ sym to_a.image; pairs = to_b.pairs ∙ sym to_a.pairs; response = to_b.response ∙ sym to_a.response }

-- with no breakpoint heeded a run to a turn that has a state comes there
pub halts_at_goal : (start : State PadHistory) (from goal at : ℕ) (h : Halt) → IsHalt start set.empty from goal at h → HasState start goal
    → at ≡ goal
halts_at_goal start from goal at halt.Goal h there = h.0
halts_at_goal start from goal at halt.Breakpoint h there = absurd (none_heeded start at h.1.here)
halts_at_goal start from goal at halt.Stuck h there = absurd (goes_before start at goal there.0 h.0 there.1 h.2)
