-- A copy stands for what its console stands for, and a save state that is loaded for the state that was saved.
use Rattle.std.proofs.Common.{◌≡◌, ℕ, zero, suc, ◌^◌, Bool, true, false, nat_eq, nat_lt, if◌then◌else◌, List, [], ◌∷◌, refl, sym, ◌∙◌, ap}
use Rattle.std.proofs.Common.{subst, inl, inr}
use Rattle.uz_core.specs.declared.machine.HeldStore.{HeldStore}
use Rattle.uz_core.specs.declared.machine.HeldStore.TheVariants.{Byte, Bit}
use Rattle.uz_core.specs.Arithmetic.{with_bit}
use Rattle.uz_core.specs.declared.machine.Edge.{Edge}
use Rattle.uz_core.specs.PadLine.{PadHistory}
use Rattle.avr_table.specs.Rows.{clocks_of}
use Rattle.uz_core.specs.Core.{Core, content_after_loads, interrupted_core, is_core_address, load_addresses, sample_clock}
use Rattle.uz_core.specs.Effects.{effect_of}
use Rattle.uz_core.specs.Space.{Space, history_wiring, is_pin, takes_one_bit, byte_at, space_after, space_loads, space_taken, after_byte}
use Rattle.uz_core.specs.Space.{after_store}
use Rattle.uz_core.specs.Timer.{is_timer_address}
use Rattle.uz_core.specs.Turn.{State, state_after, after_stores, entry_stores, instruction_result, Turn}
use Rattle.uz_core.specs.Run.{MachineTurn, Run}
use Rattle.uz_pads.specs.declared.pads.Pads.{Pads}
use Rattle.uz_pads.specs.Pads as pads
use Rattle.uz_pads.specs.Pads.{list_of, pad_state_of, pairs_of}
use Rattle.uz_pads.proofs.History.{stands_again}
use Rattle.uz_schedule.specs.Schedule.{response_clocks}
use Rattle.uz_console.specs.declared.console.Console.{Console}
use Rattle.uz_console.specs.declared.copying.SaveState.{SaveState}
use Rattle.uz_console.specs.Consoles.{StandsFor, StateStandsFor, state_of}
use Rattle.uz_console.specs.SaveStates.{SameConsole, Saved, saved, saved_of, with_saved, IsOf, IsSaveOf, IsSameConsole}

same_pads : (p q : Pads) (history : PadHistory) → list_of q ≡ list_of p → pad_state_of q ≡ pad_state_of p → pads.StandsFor p history
    → pads.StandsFor q history
same_pads p q history list state h = subst (λ l. pads.StateStandsFor l (pad_state_of q) history) (sym list)
    (subst (λ s. pads.StateStandsFor (list_of p) s history) (sym state) h)

pub copy_stands : (a b : Console) → SameConsole a b → (s : State PadHistory) → StandsFor a s → StandsFor b s
copy_stands a b same s h = record {
  image = h.image ∙ sym same.image;
  core = h.core ∙ sym same.core;
  bytes = h.bytes ∙ sym same.board.space.bytes;
  timer = h.timer ∙ sym same.board.space.timer;
  pads = same_pads (state_of a).space.pads (state_of b).space.pads s.space.pads same.board.space.pads.list same.board.space.pads.state
      h.pads;
  response = h.response ∙ ap response_clocks (sym same.response);
  is_owed = h.is_owed ∙ sym same.is_owed;
  clock = h.clock ∙ sym same.board.clock;
}

of_state : (t : State Pads) (s : State PadHistory) → StateStandsFor t s → IsOf (saved_of t) s
of_state t s h = record {
  core = h.core;
  bytes = h.bytes;
  timer = h.timer;
  list = list_of t.space.pads;
  pads = h.pads;
  is_owed = h.is_owed;
  clock = h.clock;
}

pub save_stands : (console : Console) (save : SaveState) → saved save ≡ saved_of (state_of console) → (s : State PadHistory)
    → StandsFor console s → IsSaveOf save s
save_stands console save e s h = subst (λ x. IsOf x s) (sym e) (of_state (state_of console) s h)

with_stands : (save : Saved) (t : State Pads) (now s : State PadHistory) → StateStandsFor t now → IsOf save s → IsSameConsole now s
    → StateStandsFor (with_saved save t) s
with_stands save t now s h of_s same = record {
  image = same.image ∙ h.image;
  core = of_s.core;
  bytes = of_s.bytes;
  timer = of_s.timer;
  pads = stands_again t.space.pads save.board.pads of_s.list s.space.pads of_s.pads (sym h.pads.pairs ∙ (sym same.pairs ∙ of_s.pads.pairs));
  response = same.response ∙ h.response;
  is_owed = of_s.is_owed;
  clock = of_s.clock;
}

pub load_stands : (old new : Console) (save : SaveState) → state_of new ≡ with_saved (saved save) (state_of old)
    → (now s : State PadHistory) → StandsFor old now → IsSaveOf save s → IsSameConsole now s → StandsFor new s
load_stands old new save e now s h of_s same = subst (λ t. StateStandsFor t s) (sym e) (with_stands (saved save) (state_of old) now s h of_s
    same)

-- Turns leave the pairs of the pads

abbrev pairs_in : Space PadHistory → List (ℕ × ℕ)
pairs_in space = space.pads.pairs

choose_pairs : (b : Bool) (x y : Space PadHistory) (pairs : List (ℕ × ℕ)) → pairs_in x ≡ pairs → pairs_in y ≡ pairs
    → pairs_in (if b then x else y) ≡ pairs
choose_pairs true x y pairs ex ey = ex
choose_pairs false x y pairs ex ey = ey

byte_keeps : (at value : ℕ) (space : Space PadHistory) → pairs_in (after_byte history_wiring at value space) ≡ pairs_in space
byte_keeps at value space =
    choose_pairs (nat_eq at 0x20) _ _ _ refl
    (choose_pairs (nat_eq at 0x22) _ _ _ refl
    (choose_pairs (is_pin at) _ _ _ refl
    (choose_pairs (is_timer_address at) _ _ _ refl
    (choose_pairs (nat_lt 0x10FF at) _ _ _ refl refl))))

store_keeps : (store : HeldStore) (space : Space PadHistory) → pairs_in (after_store history_wiring store space) ≡ pairs_in space
store_keeps (Byte at value) space = byte_keeps at value space
store_keeps (Bit at bit set) space =
    choose_pairs (takes_one_bit at) _ _ _
    (choose_pairs set _ _ _ (byte_keeps at (2 ^ bit) space) refl)
    (byte_keeps at (with_bit bit set (byte_at history_wiring space at)) space)

stores_keep : (stores : List HeldStore) (space : Space PadHistory) → pairs_in (after_stores history_wiring stores space) ≡ pairs_in space
stores_keep [] space = refl
stores_keep (store ∷ stores) space = stores_keep stores (after_store history_wiring store space) ∙ store_keeps store space

state_keeps : (s : State PadHistory) (core : Core) (space : Space PadHistory) (stores : List HeldStore) (clocks : ℕ) (owed : Bool)
    → pairs_in space ≡ pairs_in s.space →
    IsSameConsole s (state_after history_wiring s core space stores clocks owed)
state_keeps s core space stores clocks owed e = record {
  image = refl;
  pairs = stores_keep stores (space_after clocks space) ∙ e;
  response = refl;
}

same_again : (s t u : State PadHistory) → IsSameConsole s t → IsSameConsole t u → IsSameConsole s u
same_again s t u a b = record { image = b.image ∙ a.image; pairs = b.pairs ∙ a.pairs; response = b.response ∙ a.response }

loads_keep : (late : ℕ) (space : Space PadHistory) (ats : List ℕ) → pairs_in (content_after_loads (space_loads history_wiring) late space
    ats) ≡ pairs_in space
loads_keep late space [] = refl
loads_keep late space (at ∷ more) =
    choose_pairs (is_core_address at) _ _ _ (loads_keep late space more)
    (loads_keep late ((space_loads history_wiring).content_after space at late) more)

turn_keeps : (s next : State PadHistory) (edges : List Edge) → Turn history_wiring s edges next → IsSameConsole s next
turn_keeps s next edges (inl turn) =
    subst (IsSameConsole s) (sym turn.goes_to) (state_keeps s (interrupted_core s.core) (space_taken s.space) (entry_stores s) s.response
    false refl)
turn_keeps s next edges (inr turn) =
    let d = instruction_result history_wiring turn.row s in
    let loaded = loads_keep (sample_clock (effect_of turn.row) (clocks_of turn.row)) s.space (load_addresses (effect_of turn.row) s.core) in
    subst (IsSameConsole s) (sym turn.goes_to) (state_keeps s d.core d.content d.stores d.clocks d.owed loaded)

pub run_keeps : (n : ℕ) (s last : State PadHistory) (edges : List Edge) → Run MachineTurn n s edges last → IsSameConsole s last
run_keeps zero s last edges run = subst (IsSameConsole s) (sym run.1) (record { image = refl; pairs = refl; response = refl })
run_keeps (suc n) s last edges (first, mid, rest, turn, run, cut) = same_again s mid last (turn_keeps s mid first turn)
    (run_keeps n mid last rest run)
