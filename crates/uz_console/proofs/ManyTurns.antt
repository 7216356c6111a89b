-- Turns one after another, up to one with edges.
use Rattle.std.proofs.Common.{◌≡◌, ◌≢◌, ℕ, ◌+◌, ◌<◌, ◌≤◌, List, [], ◌∷◌, refl, sym, ◌∙◌, ap, subst, arith}
use Rattle.std.proofs.Common.{inl, inr}
use Rattle.std.proofs.lemmas.Bool.{cases_lt}
use Rattle.uz_core.specs.declared.machine.Edge.{Edge}
use Rattle.uz_core.specs.Core.{Core}
use Rattle.uz_core.specs.PadLine.{PadHistory}
use Rattle.uz_core.specs.Space.{history_wiring}
use Rattle.uz_core.specs.Turn.{State}
use Rattle.uz_core.specs.Turn as machine
use Rattle.uz_console.specs.declared.console.Console.{Console}
use Rattle.uz_console.specs.declared.turn.Made.{Made}
use Rattle.uz_console.specs.declared.turn.Made.TheVariants as made
use Rattle.uz_pads.specs.declared.pads.Pads.{Pads}
use Rattle.uz_console.specs.Consoles.{StateStandsFor, StandsFor, state_of, clock_of}
use Rattle.uz_console.specs.ManyTurns.{AreMade, LeadsTo}
use Rattle.uz_console.specs.Turns.{Halts, IsMade, HasSome, TakesTime}
use Rattle.uz_console.proofs.ApproachLemmas.{unentered_quietly}
use Rattle.uz_console.proofs.RunLemmas.{goes_on_quietly}

-- no turn yet
pub leads_nowhere : (limit watched : ℕ) (console : Console) → LeadsTo limit watched console console
leads_nowhere limit watched console = record {
  run = λ start edges run. run;
  unmet = λ cert pc not. not;
  unentered = λ cert pc not start edges run. run;
  time = omega arith;
  before = λ h. h;
  none = λ h. refl;
}

-- one more turn without edges
pub leads_on : (limit watched : ℕ) (first old new : Console) → LeadsTo limit watched first old →
    ((s : State PadHistory) → StandsFor old s → (next : State PadHistory) × machine.Turn history_wiring s [] next × StandsFor new next) →
    clock_of old < clock_of new → clock_of new < limit → (state_of new).core.pc ≢ watched → LeadsTo limit watched first new
leads_on limit watched first old new quiet turn later within apart =
    let before : clock_of old < limit = omega arith in
    let since : clock_of first ≤ clock_of old = quiet.time in
    record {
      run = λ start edges run. goes_on_quietly old new limit turn before start edges (quiet.run start edges run);
      unmet = λ cert pc not s stands p meets. apart (ap (λ (core : Core). core.pc) (sym stands.core) ∙ (meets.pc ∙ pc));
      unentered = λ cert pc not start edges run. unentered_quietly cert old new limit turn before (quiet.unmet cert pc not) start edges
          (quiet.unentered cert pc not start edges run);
      time = omega arith;
      before = λ h. within;
      none = λ h. absurd (omega arith);
    }

-- where the console's state is the same
pub leads_same : (limit watched : ℕ) (old new : Console) → state_of new ≡ state_of old → LeadsTo limit watched old new
leads_same limit watched old new e =
    let clock : clock_of new ≡ clock_of old = ap (λ (t : State Pads). t.clock) e in
    record {
      run = λ start edges (last, part, stands). (last, part, subst (λ t. StateStandsFor t last) (sym e) stands);
      unmet = λ cert pc not s stands. not s (subst (λ t. StateStandsFor t s) e stands);
      unentered = λ cert pc not start edges run. record {
        last = run.last;
        part = run.part;
        stands = subst (λ t. StateStandsFor t run.last) (sym e) run.stands;
        none_before = run.none_before;
      };
      time = omega (arith, clock);
      before = λ h. omega (arith, clock, h);
      none = λ h. e;
    }

-- and then more of them
pub leads_further : (limit watched : ℕ) (first mid last : Console) → LeadsTo limit watched first mid → LeadsTo limit watched mid last
    → LeadsTo limit watched first last
leads_further limit watched first mid last a b = record {
  run = λ start edges run. b.run start edges (a.run start edges run);
  unmet = λ cert pc not. b.unmet cert pc (a.unmet cert pc not);
  unentered = λ cert pc not start edges run. b.unentered cert pc (a.unmet cert pc not) start edges
      (a.unentered cert pc not start edges run);
  time = (let since = a.time in let later = b.time in omega (arith, since, later));
  before = λ h. b.before (a.before h);
  none = λ h. (let same : state_of mid ≡ state_of first = a.none h in
      b.none (subst (λ (t : State Pads). limit ≤ t.clock) (sym same) h) ∙ same);
}

-- within the limit, or where they are none
pub stays_low : (limit watched top : ℕ) (first mid : Console) → LeadsTo limit watched first mid → limit ≤ top → clock_of first < top
    → clock_of mid < top
stays_low limit watched top first mid quiet h low = elim (cases_lt (clock_of first) limit) [
  | inl within ↦ (let there = quiet.before within in omega (arith, there, h))
  | inr over ↦ subst (λ (t : State Pads). t.clock < top) (sym (quiet.none over)) low
]

-- where the limit is 0 there are no others before the last

pub one_made : (watched : ℕ) (old new : Console) (edges : List Edge) (answer : Made) → AreMade 0 watched old new edges answer
    → IsMade old new edges answer
one_made watched old new edges made.Quiet h = subst (λ (t : State Pads). (s : State PadHistory) → StateStandsFor t s →
    (next : State PadHistory) × machine.Turn history_wiring s [] next × StandsFor new next) ((h.quiet).none (omega arith)) h.last
one_made watched old new edges (made.Edge edge) h = subst (λ (t : State Pads). (s : State PadHistory) → StateStandsFor t s →
    (next : State PadHistory) × machine.Turn history_wiring s (edge ∷ []) next × StandsFor new next) ((h.quiet).none (omega arith)) h.last
one_made watched old new edges made.Edges h = subst (λ (t : State Pads). (s : State PadHistory) → StateStandsFor t s →
    (next : State PadHistory) × machine.Turn history_wiring s edges next × StandsFor new next) ((h.quiet).none (omega arith)) h.last
one_made watched old new edges (made.Stopped why) h = subst (λ (t : State Pads). (state_of new ≡ t)
    × ((s : State PadHistory) → StateStandsFor t s → Halts s why)) ((h.quiet).none (omega arith)) h.last

pub one_shows : (watched : ℕ) (old new : Console) (edges : List Edge) (answer : Made) → AreMade 0 watched old new edges answer
    → HasSome edges answer
one_shows watched old new edges answer h = h.some

pub one_takes : (watched : ℕ) (old new : Console) (edges : List Edge) (answer : Made) → AreMade 0 watched old new edges answer
    → TakesTime old new answer
one_takes watched old new edges made.Quiet h = subst (λ (t : State Pads). (t.clock < clock_of new) × (clock_of new ≤ t.clock + 5))
    ((h.quiet).none (omega arith)) h.time
one_takes watched old new edges (made.Edge edge) h = subst (λ (t : State Pads). (t.clock < clock_of new) × (clock_of new ≤ t.clock + 5))
    ((h.quiet).none (omega arith)) h.time
one_takes watched old new edges made.Edges h = subst (λ (t : State Pads). (t.clock < clock_of new) × (clock_of new ≤ t.clock + 5))
    ((h.quiet).none (omega arith)) h.time
one_takes watched old new edges (made.Stopped why) h = subst (λ (t : State Pads). clock_of new ≡ t.clock) ((h.quiet).none (omega arith))
    h.time
