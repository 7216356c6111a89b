-- Main's visits of a place, one after another.
use Rattle.std.proofs.Common.{◌≡◌, ℕ, ◌+◌, ◌<◌, ◌≤◌, Bool, true, false, if◌then◌else◌, nat_eq, nat_lt, List, [], ◌∷◌, length}
use Rattle.std.proofs.Common.{refl, sym, ap, ◌∙◌, subst, arith, get_or, set, get_or-set_other, replicate, inl, inr}
use Rattle.std.specs.Prelude.{None, Some}
use Rattle.std.proofs.lemmas.Bool.Decides.{nat_tests}
use Rattle.std.proofs.lemmas.Grind.{get_or-set_at}
use Rattle.std.proofs.lemmas.List.{get_or-replicate}
use Rattle.uz_core.specs.Core.{Core, register}
use Rattle.uz_core.specs.PadLine.{PadHistory}
use Rattle.uz_core.specs.Space.{history_wiring}
use Rattle.uz_core.specs.Turn.{State, Turn}
use Rattle.uz_console.specs.declared.console.Console.{Console}
use Rattle.uz_console.specs.Consoles.{StandsFor, clock_of}
use Rattle.uz_proposal.specs.declared.visits.Registers.{Registers}
use Rattle.uz_proposal.specs.Moments.{after_edges, is_handling}
use Rattle.uz_proposal.specs.Visits.{AreRegisters, IsLook, IsVisited, IsVisitedSoFar, IsVisitTurn, KeepsVisits, Passes, TellsVisits}
use Rattle.uz_proposal.specs.Visits.{VisitIsAdded, count_of, first_value, is_constant, is_still, is_visit, one_more, visits, with_core}

-- an array that is written from its begin on
pub set_more : {A : Type 0} (xs : List A) (n : ℕ) (x d : A) (wanted : ℕ → A) → n < length xs
    → ((i : ℕ) → i < n → get_or xs i d ≡ wanted i) → x ≡ wanted n → (i : ℕ) → i < n + 1 → get_or (set xs n x) i d ≡ wanted i
set_more xs n x d wanted within so_far here i below = by (nat_eq i n) refl
  where
    by : (same : Bool) → nat_eq i n ≡ same → get_or (set xs n x) i d ≡ wanted i
    by true e =
        let place : i ≡ n = grind (arith, nat_tests) in
        get_or-set_at xs n i x d place within ∙ here ∙ ap wanted (sym place)
    by false e = get_or-set_other xs n i x d (λ j. grind (arith, nat_tests, j)) ∙ so_far i (grind (arith, nat_tests))

-- no visit is told of
pub none_tell : (seen : Registers) → seen.visits ≡ 0 → seen.values ≡ replicate 32 0 → seen.same ≡ replicate 32 true → TellsVisits [] seen
none_tell seen count values same = record {
  count = count;
  values = λ n h. ap (λ xs. get_or xs n 0) values ∙ get_or-replicate 32 n 0 0 h;
  same = λ n h. ap (λ xs. get_or xs n false) same ∙ get_or-replicate 32 n true false h;
}

-- a visit, by the registers' values there
pub visit_seen : (core : Core) (now : List ℕ) (was seen : Registers) → AreRegisters core now → VisitIsAdded was now seen
    → IsLook true core was seen
visit_seen core now was seen here added = record {
  count = added.count;
  values = λ n h. ap (λ xs. get_or xs n 0) added.values ∙ by (nat_eq was.visits 0) n h;
  same = λ n h. added.same n h ∙ ap (λ v. is_still (get_or was.same n false) (get_or seen.values n 0) v) (here n h);
}
  where
    by : (none : Bool) (n : ℕ) → n < 32
        → get_or (if none then now else was.values) n 0 ≡ (if none then register core n else get_or was.values n 0)
    by true n h = here n h
    by false n h = refl

pub nothing_seen : (core : Core) (seen : Registers) → IsLook false core seen seen
nothing_seen core seen = record { count = refl; values = λ n h. refl; same = λ n h. refl }

-- what is read of the next instruction adds no visit
pub look_kept : (here there : Bool) (core other : Core) (was mid seen : Registers) → IsLook here core was mid → KeepsVisits mid seen
    → here ≡ there → other ≡ core → IsLook there other was seen
look_kept here there core other was mid seen look keeps same cores =
    subst (λ b. IsLook b other was seen) same (subst (λ x. IsLook here x was seen) (sym cores) (record {
      count = keeps.count ∙ look.count;
      values = λ n h. ap (λ xs. get_or xs n 0) keeps.values ∙ look.values n h;
      same = λ n h. ap (λ xs. get_or xs n false) keeps.same ∙ look.same n h
          ∙ ap (λ xs. if here then is_still (get_or was.same n false) (get_or xs n 0) (register core n) else get_or was.same n false)
          (sym keeps.values);
    }))

one_more_some : (n : ℕ) → nat_eq (one_more n) 0 ≡ false
one_more_some n = by (nat_lt n 4294967295) refl
  where
    by : (less : Bool) → nat_lt n 4294967295 ≡ less → nat_eq (if less then n + 1 else n) 0 ≡ false
    by true e = grind (arith, nat_tests)
    by false e = grind (arith, nat_tests)

-- the value at the first visit, after one more
first_more : (core : Core) (cores : List Core) (was seen : Registers) (n : ℕ) → n < 32 → TellsVisits cores was
    → IsLook true core was seen → get_or seen.values n 0 ≡ first_value (core ∷ cores) n
first_more core [] was seen n h tells look =
    look.values n h ∙ ap (λ v. if nat_eq v 0 then register core n else get_or was.values n 0) tells.count
first_more core (c ∷ cores) was seen n h tells look =
    look.values n h ∙ ap (λ v. if nat_eq v 0 then register core n else get_or was.values n 0) tells.count
    ∙ ap (λ b. if b then register core n else get_or was.values n 0) (one_more_some (count_of cores)) ∙ tells.values n h

-- what is told after one more turn
pub tells_visit : (here : Bool) (core : Core) (cores : List Core) (was seen : Registers) → TellsVisits cores was
    → IsLook here core was seen → TellsVisits (with_core here core cores) seen
tells_visit true core cores was seen tells look = record {
  count = look.count ∙ ap one_more tells.count;
  values = λ n h. first_more core cores was seen n h tells look;
  same = λ n h. look.same n h ∙ ap (λ b. is_still b (get_or seen.values n 0) (register core n)) (tells.same n h)
      ∙ ap (λ v. is_still (is_constant cores n) v (register core n)) (first_more core cores was seen n h tells look);
}
tells_visit false core cores was seen tells look = record {
  count = look.count ∙ tells.count;
  values = λ n h. look.values n h ∙ tells.values n h;
  same = λ n h. look.same n h ∙ tells.same n h;
}

-- before the first turn
pub visited_none : (limit : ℕ) (first : Bool) (pc sp : ℕ) (s : State PadHistory) (console : Console) (seen : Registers) → StandsFor console s
    → TellsVisits [] seen → IsVisitedSoFar limit first pc sp s console first seen
visited_none limit first pc sp s console seen stands tells =
    record { turns = []; last = s; leads = refl; stands = stands; tells = tells; handling = refl }

-- one more turn
pub visited_more : (limit : ℕ) (first : Bool) (pc sp : ℕ) (s : State PadHistory) (old new : Console) (handling runs : Bool) (was seen : Registers)
    → IsVisitedSoFar limit first pc sp s old handling was → clock_of old < limit
    → ((t : State PadHistory) → StandsFor old t → IsVisitTurn (is_visit handling pc sp t) t new handling was seen (Some runs))
    → IsVisitedSoFar limit first pc sp s new runs seen
visited_more limit first pc sp s old new handling runs was seen so_far before step =
    let (m, same, turn, stands, look, after) = step so_far.last so_far.stands in
    let in_time : m.before.clock < limit = subst (λ n. n < limit) (sym (ap (λ t. t.clock) same ∙ so_far.stands.clock)) before in
    let placed : IsLook (is_visit handling pc sp m.before) m.before.core was seen =
    subst (λ t. IsLook (is_visit handling pc sp t) t.core was seen) (sym same) look in
    let looked : IsLook (is_visit (is_handling first so_far.turns) pc sp m.before) m.before.core was seen =
    subst (λ b. IsLook (is_visit b pc sp m.before) m.before.core was seen) so_far.handling placed in
    record {
      turns = m ∷ so_far.turns;
      last = m.after;
      leads = (
        refl,
        (in_time, subst (λ t. Turn history_wiring t m.edges m.after) (sym same) turn),
        subst (λ t. Passes limit s so_far.turns t) (sym same) so_far.leads,
      );
      stands = stands;
      tells = tells_visit (is_visit (is_handling first so_far.turns) pc sp m.before) m.before.core (visits first pc sp so_far.turns) was seen
          so_far.tells looked;
      handling = after ∙ ap (λ b. after_edges b m.edges) so_far.handling;
    }

-- the end
pub visited_over : (limit : ℕ) (first : Bool) (pc sp : ℕ) (s : State PadHistory) (console : Console) (handling : Bool) (seen : Registers)
    → IsVisitedSoFar limit first pc sp s console handling seen → limit ≤ clock_of console → IsVisited limit first pc sp s console seen
visited_over limit first pc sp s console handling seen so_far over = record {
  turns = so_far.turns;
  last = so_far.last;
  leads = so_far.leads;
  stands = so_far.stands;
  tells = so_far.tells;
  ends = inl (subst (λ n. limit ≤ n) (sym so_far.stands.clock) over);
}

pub visited_stop : (limit : ℕ) (first : Bool) (pc sp : ℕ) (s : State PadHistory) (old new : Console) (handling : Bool) (was seen : Registers)
    → IsVisitedSoFar limit first pc sp s old handling was
    → ((t : State PadHistory) → StandsFor old t → IsVisitTurn (is_visit handling pc sp t) t new handling was seen None)
    → IsVisited limit first pc sp s new seen
visited_stop limit first pc sp s old new handling was seen so_far step =
    let (none, stands, same) = step so_far.last so_far.stands in
    record {
      turns = so_far.turns;
      last = so_far.last;
      leads = so_far.leads;
      stands = stands;
      tells = subst (λ r. TellsVisits (visits first pc sp so_far.turns) r) (sym same) so_far.tells;
      ends = inr none;
    }
