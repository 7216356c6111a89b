-- What a window shows after one more turn.
use Rattle.std.proofs.Common.{◌≡◌, ℕ, ◌+◌, ◌-◌, ◌<◌, ◌≤◌, Bool, true, false, if◌then◌else◌, nat_eq, List, [], ◌∷◌, ◌++◌, length, refl, sym, ap}
use Rattle.std.proofs.Common.{◌∙◌, subst, arith, get_or, set, get_or-set_other, replicate}
use Rattle.std.specs.Prelude.{Option, None, Some}
use Rattle.std.proofs.lemmas.Bool.Decides.{nat_tests}
use Rattle.std.proofs.lemmas.Grind.{get_or-set_at}
use Rattle.std.proofs.lemmas.List.{get_or-replicate, length-replicate, length-set}
use Rattle.uz_core.specs.PadLine.{PadHistory}
use Rattle.uz_core.specs.Space.{history_wiring}
use Rattle.uz_core.specs.Turn.{State, Turn, is_entry}
use Rattle.uz_core.specs.declared.step.Why.{Why}
use Rattle.uz_console.specs.declared.console.Console.{Console}
use Rattle.uz_console.specs.Consoles.{StandsFor, clock_of}
use Rattle.uz_proposal.specs.declared.extents.Extent.{Extent}
use Rattle.uz_proposal.specs.declared.glance.Glance.{Glance}
use Rattle.uz_proposal.specs.declared.stores.Stored.{Stored}
use Rattle.uz_proposal.specs.declared.window.Window.{Window}
use Rattle.uz_proposal.specs.Depths.{deeper, handler_top}
use Rattle.uz_proposal.specs.Extents.{after_store, extent_of, is_in_ram, with_byte}
use Rattle.uz_proposal.specs.Matches.{matches_in}
use Rattle.uz_proposal.specs.Moments.{Moment, Leads, after_edges, byte_at, bytes_stored, is_handling, matches_of, store_by}
use Rattle.uz_proposal.specs.Stores.{StoresOf}
use Rattle.uz_proposal.specs.Windows.{AreExtents, IsGlance, IsSeen, IsWatched, IsWatchedSoFar, TakesTurn, Tells}

-- no byte at an address
nothing : Option Extent
nothing = None

-- no turn: no byte at any address
pub none_stored : (first who : Bool) (extents : List (Option Extent)) → extents ≡ replicate 4096 None → AreExtents first who [] extents
unfolding nothing
none_stored first who extents e = record {
  size = ap length e ∙ length-replicate 4096 nothing;
  each = λ k h. ap (λ xs. get_or xs k None) e ∙ get_or-replicate 4096 k nothing nothing h;
}

-- one store, at each address
at_place : (was : List (Option Extent)) (w : Stored) (bs : List ℕ) (k : ℕ) (inside same : Bool) → is_in_ram w.at ≡ inside
    → nat_eq w.at (256 + k) ≡ same → length was ≡ 4096 → k < 4096 → get_or was k None ≡ extent_of bs
    → get_or (if inside then set was (w.at - 256) (Some (with_byte w.value (get_or was (w.at - 256) None))) else was) k None
    ≡ extent_of ((if same then w.value ∷ [] else []) ++ bs)
at_place was w bs k true true e f size below old =
    let place : w.at - 256 ≡ k = grind (arith, nat_tests) in
    get_or-set_at was (w.at - 256) k _ None (sym place) (omega (arith, place, size, below))
    ∙ ap (λ x. Some (with_byte w.value x)) (ap (λ i. get_or was i None) place ∙ old)
at_place was w bs k true false e f size below old =
    get_or-set_other was (w.at - 256) k _ None (λ j. grind (arith, nat_tests, j)) ∙ old
at_place was w bs k false true e f size below old = grind (arith, nat_tests)
at_place was w bs k false false e f size below old = old

one_store : (was : List (Option Extent)) (store : Option Stored) (bs : List ℕ) (k : ℕ) → length was ≡ 4096 → k < 4096
    → get_or was k None ≡ extent_of bs → get_or (after_store was store) k None ≡ extent_of (byte_at (256 + k) store ++ bs)
one_store was None bs k size below old = old
one_store was (Some w) bs k size below old = at_place was w bs k (is_in_ram w.at) (nat_eq w.at (256 + k)) refl refl size below old

same_size : (was : List (Option Extent)) (store : Option Stored) → length (after_store was store) ≡ length was
same_size was None = refl
same_size was (Some w) = by (is_in_ram w.at)
  where
    by : (inside : Bool)
        → length (if inside then set was (w.at - 256) (Some (with_byte w.value (get_or was (w.at - 256) None))) else was) ≡ length was
    by true = length-set was (w.at - 256) _
    by false = refl

pub stored_more : (first who : Bool) (turns : List Moment) (m : Moment) (was is : List (Option Extent)) (handling : Bool) (store : Option Stored)
    → AreExtents first who turns was → handling ≡ is_handling first turns → store ≡ m.store
    → is ≡ after_store was (store_by who handling store) → AreExtents first who (m ∷ turns) is
stored_more first who turns m was is handling store so_far runs same e =
    let same_store = ap (λ h. store_by who h store) runs ∙ ap (λ x. store_by who (is_handling first turns) x) same in
    let next = e ∙ ap (λ x. after_store was x) same_store in
    record {
      size = ap length next ∙ same_size was (store_by who (is_handling first turns) m.store) ∙ so_far.size;
      each = λ k h. ap (λ xs. get_or xs k None) next
          ∙ one_store was (store_by who (is_handling first turns) m.store) (bytes_stored first who (256 + k) turns) k so_far.size h (so_far.each k h);
    }

-- the handler's first SP after one more turn
stands_at : (was top : ℕ) (entering : Bool) (m : Moment) → was ≡ top → entering ≡ is_entry m.before
    → (if entering then m.after.core.sp else was) ≡ (if is_entry m.before then m.after.core.sp else top)
stands_at was top entering m same entry =
    ap (λ b. if b then m.after.core.sp else was) entry ∙ ap (λ t. if is_entry m.before then m.after.core.sp else t) same

-- what a window tells after one more turn
pub tells_more : (first : Bool) (turns : List Moment) (m : Moment) (was is : Window) (glance : Glance) → Tells first turns was
    → IsGlance m.before glance → glance.store ≡ m.store → TakesTurn was is glance m.after.clock m.after.core.sp m.edges → Tells first (m ∷ turns) is
tells_more first turns m was is glance so_far seen same takes = record {
  edges = takes.edges ∙ ap (λ es. es ++ m.edges) so_far.edges;
  matches = takes.matches ∙ ap (λ xs. xs ++ matches_in glance.clock m.after.clock glance.left) so_far.matches
      ∙ ap (λ x. matches_of turns ++ matches_in x m.after.clock glance.left) seen.clock ∙ ap (λ x. matches_of turns ++ matches_in m.before.clock m.after.clock x) seen.left;
  main = stored_more first false turns m was.main.items is.main.items was.handling glance.store so_far.main so_far.handling same takes.main;
  handler = stored_more first true turns m was.handler.items is.handler.items was.handling glance.store so_far.handler so_far.handling same
      takes.handler;
  handling = takes.handling ∙ ap (λ h. after_edges h m.edges) so_far.handling;
  top = takes.top ∙ stands_at was.top (handler_top turns) glance.entering m so_far.top seen.entering;
  depth = takes.depth ∙ ap (λ h. deeper (after_edges h m.edges) (if glance.entering then m.after.core.sp else was.top) m.after.core.sp was.depth) so_far.handling
      ∙ ap (λ t. deeper (is_handling first (m ∷ turns)) t m.after.core.sp was.depth)
      (stands_at was.top (handler_top turns) glance.entering m so_far.top seen.entering)
      ∙ ap (λ d. deeper (is_handling first (m ∷ turns)) (handler_top (m ∷ turns)) m.after.core.sp d) so_far.depth;
}

-- the window of no turn
pub tells_none : (handling : Bool) (window : Window) → window.edges.items ≡ [] → window.matches.items ≡ []
    → window.main.items ≡ replicate 4096 None → window.handler.items ≡ replicate 4096 None → window.handling ≡ handling
    → window.top ≡ 0 → window.depth ≡ 0 → Tells handling [] window
tells_none handling window edges matches main handler runs top depth = record {
  edges = edges;
  matches = matches;
  main = none_stored handling false window.main.items main;
  handler = none_stored handling true window.handler.items handler;
  handling = runs;
  top = top;
  depth = depth;
}

-- before the first turn
pub watched_none : (limit : ℕ) (first : Bool) (s : State PadHistory) (console : Console) (window : Window) → StandsFor console s
    → Tells first [] window → IsWatchedSoFar limit first s console window
watched_none limit first s console window stands tells =
    record { turns = []; last = s; leads = refl; stands = stands; tells = tells }

-- one more turn of what is watched
pub watched_more : (limit : ℕ) (first : Bool) (s : State PadHistory) (old new : Console) (was is : Window)
    → IsWatchedSoFar limit first s old was → clock_of old < limit
    → ((t : State PadHistory) → StandsFor old t → IsSeen t new was is None) → IsWatchedSoFar limit first s new is
watched_more limit first s old new was is so_far before step =
    let (m, glance, same, turn, stands, seen, store, takes) = step so_far.last so_far.stands in
    let glanced : IsGlance m.before glance = subst (λ t. IsGlance t glance) (sym same) seen in
    let in_time : m.before.clock < limit = subst (λ n. n < limit) (sym (ap (λ t. t.clock) same ∙ so_far.stands.clock)) before in
    record {
      turns = m ∷ so_far.turns;
      last = m.after;
      leads = (
        refl,
        record {
          turn = (in_time, subst (λ t. Turn history_wiring t m.edges m.after) (sym same) turn);
          store = subst (λ x. StoresOf m.before x) store glanced.store;
        },
        subst (λ t. Leads limit s so_far.turns t) (sym same) so_far.leads,
      );
      stands = stands;
      tells = tells_more first so_far.turns m was is glance so_far.tells glanced store takes;
    }

-- the end of what is watched
pub watched_over : (limit : ℕ) (first : Bool) (s : State PadHistory) (console : Console) (window : Window)
    → IsWatchedSoFar limit first s console window → limit ≤ clock_of console → IsWatched limit first s console window None
watched_over limit first s console window so_far over = record {
  turns = so_far.turns;
  last = so_far.last;
  leads = so_far.leads;
  stands = so_far.stands;
  tells = so_far.tells;
  ends = subst (λ n. limit ≤ n) (sym so_far.stands.clock) over;
}

pub watched_stop : (limit : ℕ) (first : Bool) (s : State PadHistory) (old new : Console) (was is : Window) (why : Why)
    → IsWatchedSoFar limit first s old was → clock_of old < limit
    → ((t : State PadHistory) → StandsFor old t → IsSeen t new was is (Some why)) → IsWatched limit first s new is (Some why)
watched_stop limit first s old new was is why so_far before step =
    let (halts, stands, same) = step so_far.last so_far.stands in
    record {
      turns = so_far.turns;
      last = so_far.last;
      leads = so_far.leads;
      stands = stands;
      tells = subst (λ w. Tells first so_far.turns w) (sym same) so_far.tells;
      ends = (subst (λ n. n < limit) (sym so_far.stands.clock) before, halts);
    }
