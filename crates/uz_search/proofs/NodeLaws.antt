-- What the results of one instance owe the frame, and where its handler's entries stand.
use Rattle.uz_search.proofs.Common.{◌≡◌, ◌≢◌, ℕ, ◌<◌, ◌≤◌, ◌+◌, ◌⊎◌, Option, Some, None, Ok, true, refl, sym, ap, subst, inl, inr, ⊎_elim}
use Rattle.uz_search.proofs.Common.{slice_get, arith, cases_eq, cases_lt, response_clocks, Main, EventKind, Sync, Leave, Instance, Fail}
use Rattle.uz_search.proofs.Common.{Edge, Next, Program, Stands, ProgramFits, Among, Flash, After, entries, entry_at, lines_of, clock_on}
use Rattle.uz_search.proofs.Common.{most_clocks, clocks_between, shown_at, StuckWith, IsUnsteady}
use Rattle.uz_search.proofs.FramePlaces.{IsNext, Reaches, next_is, reach_on}
use Rattle.uz_search.proofs.OneResult.{Steps, steps}
use Rattle.uz_search.proofs.Results.{Moves}
use Rattle.uz_search.proofs.Standing.{entry_of}
use Rattle.uz_search.proofs.Results as results

-- what an instance's results owe, outside main
pub record Owes (program : Program) (x : Instance) (next : Next) : Type 0 where
  pub out : (y : Instance) × (slice_get next.out.items 0 ≡ Some y)
  -- a return has the one state at its end
  pub one : next.back ≡ true → (y : Instance) → Among next.out.items y → slice_get next.out.items 0 ≡ Some y
  pub few : most_clocks program x next.out.items ≤ 4
  pub moves : (y : Instance) → Among next.out.items y → Moves program x y
  -- what is shown is shown at the end
  pub at_end : (t : ℕ) (e : EventKind) (y : Instance) → next.emit ≡ Some (t, e) → Among next.out.items y → t ≡ clocks_between program x y
  -- a return leaves, and nothing else does
  pub leaves : next.back ≡ true → (t : ℕ) × (next.emit ≡ Some (t, Leave))
  pub returns : (t : ℕ) → next.emit ≡ Some (t, Leave) → next.back ≡ true
  -- a sync event turns the level, and nothing else does
  pub syncs : (t v : ℕ) (y : Instance) → next.emit ≡ Some (t, Sync v) → Among next.out.items y → (y.level ≡ v) × (x.level + v ≡ 1)
  pub keeps : ((t v : ℕ) → next.emit ≡ Some (t, Sync v) → ⊥) → (y : Instance) → Among next.out.items y → y.level ≡ x.level

pub owes : (image : Flash) (program : Program) → ProgramFits program → (x : Instance) (next : Next) → Stands program x → x.kind ≢ Main
    → After image program x (Ok next) → ((y : Instance) × (slice_get next.out.items 0 ≡ Some y)) → Owes program x next
owes image program fits x next stands apart after some = record {
  out = some;
  one = results.one_return image program x next s;
  few = results.most_moves image program fits x stands apart next s;
  moves = results.moves image program fits x stands apart next s;
  at_end = results.at_end image program fits x stands apart next s;
  leaves = results.leaves image program fits x stands apart next s;
  returns = results.returns image program fits x stands apart next s;
  syncs = results.syncs image program fits x stands apart next s;
  keeps = results.keeps image program fits x stands apart next s;
}
  where
    s : Steps image program x next
    s = steps image program x next after

-- what is asked of the places that an instance passes: nothing is shown before the fall, and sync 0 at the fall and nowhere else
pub record Clear (program : Program) (x : Instance) (next : Next) : Type 0 where
  pub above : (l q k : ℕ) (e : EventKind) → 1 ≤ k → k ≤ most_clocks program x next.out.items → Reaches program.schedule x.line x.clock k l q
      → shown_at next.emit k ≡ Some e → program.schedule.fall ≤ q
  pub falls : (l k : ℕ) → 1 ≤ k → k ≤ most_clocks program x next.out.items
      → Reaches program.schedule x.line x.clock k l program.schedule.fall
      → shown_at next.emit k ≡ Some (Sync 0)
  pub once : (l q k : ℕ) → 1 ≤ k → k ≤ most_clocks program x next.out.items → Reaches program.schedule x.line x.clock k l q
      → shown_at next.emit k ≡ Some (Sync 0) → q ≡ program.schedule.fall

-- whether an event is this one
shown_choice : (shown : Option EventKind) → (shown ≡ Some (Sync 0)) ⊎ (shown ≢ Some (Sync 0))
shown_choice None = inr (λ h. cc)
shown_choice (Some (Sync v)) = ⊎_elim (λ (e : v ≡ 0). inl (ap (λ n. Some (Sync n)) e)) (λ (n : v ≢ 0). inr (λ h. n (level_is h)))
    (cases_eq v 0)
  where
    level_is : Some (Sync v) ≡ Some (Sync 0) → v ≡ 0
    level_is h = cc
shown_choice (Some e) = inr (λ h. cc)

pub cleared : (image : Flash) (program : Program) (x : Instance) (next : Next) → Stands program x → x.kind ≢ Main
    → ((why : Fail) → StuckWith image program x next why → ⊥) → Clear program x next
cleared image program x next stands apart clear = record {
  above = λ l q k e some few reach shown. ⊎_elim
      (λ (below : q < program.schedule.fall). absurd (no k some few q (at l q k reach) (inl (e, shown, below))))
      (λ (le : program.schedule.fall ≤ q). le)
      (cases_lt q program.schedule.fall);
  falls = λ l k some few reach. ⊎_elim
      (λ yes. yes)
      (λ not. absurd (no k some few program.schedule.fall (at l program.schedule.fall k reach) (inr (inr (refl, not)))))
      (shown_choice (shown_at next.emit k));
  once = λ l q k some few reach shown. ⊎_elim
      (λ (same : q ≡ program.schedule.fall). same)
      (λ (other : q ≢ program.schedule.fall). absurd (no k some few q (at l q k reach) (inr (inl (shown, other)))))
      (cases_eq q program.schedule.fall);
}
  where
    at : (l q k : ℕ) → Reaches program.schedule x.line x.clock k l q → clock_on program x k ≡ q
    at l q k reach = (reach_on program.schedule x.line x.clock k l q stands.line reach).1

    no : (k : ℕ) → 1 ≤ k → k ≤ most_clocks program x next.out.items → (q : ℕ) → clock_on program x k ≡ q
        → IsUnsteady program.schedule.fall q (shown_at next.emit k) → ⊥
    no k some few q at_q unsteady = clear Edge (inl (
      refl,
      inr (record {
        apart = apart;
        clocks = k;
        some = some;
        few = few;
        unsteady = subst (λ c. IsUnsteady program.schedule.fall c (shown_at next.emit k)) (sym at_q) unsteady;
      }),
    ))

-- Entries

-- an instance before the fall of its line
pub record Before (program : Program) (x : Instance) : Type 0 where
  pub apart : x.kind ≢ Main
  pub clock : x.clock < program.schedule.fall

pub entry_place : (program : Program) (end e : Instance) → response_clocks program.head.irq + 3 < program.schedule.fall
    → end.line < lines_of program → Among (entries program end) e
    → Before program e × IsNext program.schedule end.line e.line × (e.level ≡ end.level)
entry_place program end e entered below there =
    let it = entry_of program end e there in
    let few = it.few in
    subst (λ (z : Instance). Before program z × IsNext program.schedule end.line z.line × (z.level ≡ end.level)) it.is
    (record { apart = λ h. cc; clock = omega (arith, few, entered) }, next_is program.schedule end.line below, refl)

pub some_entry : (program : Program) (end : Instance) → (e : Instance) × Among (entries program end) e
some_entry program end = (entry_at program end 0, (0, refl))

pub start_place : (program : Program) (fits : ProgramFits program) (s : Instance) → Among program.starts s → s.kind ≢ Main → Before program
    s × (s.line ≡ 0)
start_place program fits s h apart = (record { apart = apart; clock = (fits.starts s h).before apart }, (fits.starts s h).line apart)
