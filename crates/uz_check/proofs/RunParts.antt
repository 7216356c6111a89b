-- The clocks of a run's edges, and a run in two parts.
use Rattle.uz_check.proofs.Common.{◌≡◌, ◌⊎◌, inl, inr, ℕ, zero, suc, ◌+◌, ◌<◌, ◌≤◌, Bool, true, false, cond, leb, List, [], ◌∷◌, ◌++◌}
use Rattle.uz_check.proofs.Common.{append_assoc, refl, sym, ◌∙◌, ap, subst, arith, leb_tells, Edge, EdgeKind, PadHistory, history_wiring}
use Rattle.uz_check.proofs.Common.{State, Turn, edges_at, entry_edges, instruction_edges, Run, TurnBefore, edges_until, AreTimed}
use Rattle.uz_core.specs.Run.{HasNoTurn}
use Rattle.uz_console.proofs.RunLaws.{turn_is_unique}

-- Clocks

pub timed_earlier : (from earlier to : ℕ) (edges : List Edge) → earlier ≤ from → AreTimed from to edges → AreTimed earlier to edges
timed_earlier from earlier to [] h t = omega arith
timed_earlier from earlier to (e ∷ edges) h t = (let first = t.0 in omega arith, t.1)

pub timed_ends : (from to : ℕ) (edges : List Edge) → AreTimed from to edges → from ≤ to
timed_ends from to [] t = t
timed_ends from to (e ∷ edges) t = (let rest = timed_ends e.clock to edges t.1 in let first = t.0 in omega arith)

timed_both : (from mid to : ℕ) (a b : List Edge) → AreTimed from mid a → AreTimed mid to b → AreTimed from to (a ++ b)
timed_both from mid to [] b t u = timed_earlier mid from to b t u
timed_both from mid to (e ∷ a) b t u = (t.0, timed_both e.clock mid to a b t.1 u)

at_one_clock : (from clock to : ℕ) (kinds : List EdgeKind) → from ≤ clock → clock ≤ to → AreTimed from to (edges_at clock kinds)
at_one_clock from clock to [] h g = omega arith
at_one_clock from clock to (kind ∷ kinds) h g = (h, at_one_clock clock clock to kinds (omega arith) g)

turn_timed : (s next : State PadHistory) (edges : List Edge) → Turn history_wiring s edges next → AreTimed s.clock next.clock edges
turn_timed s next edges (inl enter) =
    subst (λ x. AreTimed s.clock next.clock x) (sym enter.emits)
    (subst (λ (n : State PadHistory). AreTimed s.clock n.clock (entry_edges history_wiring s)) (sym enter.goes_to)
    (omega arith, at_one_clock s.clock (s.clock + s.response) (s.clock + s.response) _ (omega arith) (omega arith)))
turn_timed s next edges (inr run) =
    subst (λ x. AreTimed s.clock next.clock x) (sym run.emits)
    (subst (λ (n : State PadHistory). AreTimed s.clock n.clock (instruction_edges history_wiring run.row s)) (sym run.goes_to)
    (at_one_clock s.clock _ _ _ (omega arith) (omega arith)))

pub run_timed : (limit n : ℕ) (s last : State PadHistory) (edges : List Edge) → Run (TurnBefore limit) n s edges last → AreTimed s.clock
    last.clock edges
run_timed limit zero s last edges run =
    subst (λ es. AreTimed s.clock last.clock es) (sym run.0) (subst (λ (x : State PadHistory). s.clock ≤ x.clock) (sym run.1) (omega arith))
run_timed limit (suc n) s last edges (first, mid, rest, turn, run, cut) =
    subst (λ es. AreTimed s.clock last.clock es) (sym cut) (timed_both s.clock mid.clock last.clock first rest
    (turn_timed s mid first turn.1) (run_timed limit n mid last rest run))

-- and of turns without a limit
pub turns_timed : (n : ℕ) (s last : State PadHistory) (edges : List Edge) → Run (Turn history_wiring) n s edges last → AreTimed s.clock
    last.clock edges
turns_timed zero s last edges run =
    subst (λ es. AreTimed s.clock last.clock es) (sym run.0) (subst (λ (x : State PadHistory). s.clock ≤ x.clock) (sym run.1) (omega arith))
turns_timed (suc n) s last edges (first, mid, rest, turn, run, cut) =
    subst (λ es. AreTimed s.clock last.clock es) (sym cut) (timed_both s.clock mid.clock last.clock first rest
    (turn_timed s mid first turn) (turns_timed n mid last rest run))

none_until : (limit from to : ℕ) (edges : List Edge) → AreTimed from to edges → limit < from → edges_until limit edges ≡ []
none_until limit from to [] t past = refl
none_until limit from to (e ∷ edges) t past =
    elim (leb_tells e.clock limit) [
      | inl within ↦ absurd (let first = t.0 in let in_time = within.1 in omega arith)
      | inr late ↦ (let first = t.0 in let none = none_until limit e.clock to edges t.1 (omega arith) in
          ap (λ b. cond b (e ∷ edges_until limit edges) (edges_until limit edges)) late.0 ∙ none)
    ]

-- all are in time where the last is
pub all_in_time : (limit from to : ℕ) (edges : List Edge) → AreTimed from to edges → to ≤ limit → edges_until limit edges ≡ edges
all_in_time limit from to [] t before = refl
all_in_time limit from to (e ∷ edges) t before =
    elim (leb_tells e.clock limit) [
      | inl within ↦ ap (λ b. cond b (e ∷ edges_until limit edges) (edges_until limit edges)) within.0
          ∙ ap (λ x. e ∷ x) (all_in_time limit e.clock to edges t.1 before)
      | inr late ↦ absurd (let past = late.1 in let ends = timed_ends e.clock to edges t.1 in omega arith)
    ]

-- the edges in time come first
pub in_time_first : (limit from to : ℕ) (edges : List Edge) → AreTimed from to edges → (rest : List Edge)
    × (edges ≡ edges_until limit edges ++ rest)
in_time_first limit from to [] t = ([], refl)
in_time_first limit from to (e ∷ edges) t =
    elim (leb_tells e.clock limit) [
      | inl within ↦ (let more = in_time_first limit e.clock to edges t.1 in (
        more.0,
        ap (λ x. e ∷ x) more.1 ∙ ap (λ b. cond b (e ∷ edges_until limit edges) (edges_until limit edges) ++ more.0)
            (sym within.0),
      ))
      | inr late ↦ (let past = late.1 in let none = none_until limit e.clock to edges t.1 (omega arith) in (
        e ∷ edges,
        ap (λ x. x ++ e ∷ edges) (sym (ap (λ b. cond b (e ∷ edges_until limit edges) (edges_until limit edges)) late.0
            ∙ none)),
      ))
    ]

pub within_until : (limit from to : ℕ) (edges : List Edge) → AreTimed from to edges → AreTimed from to (edges_until limit edges)
within_until limit from to [] t = t
within_until limit from to (e ∷ edges) t = chosen (leb e.clock limit) (within_until limit e.clock to edges t.1)
  where
    chosen : (b : Bool) → AreTimed e.clock to (edges_until limit edges) → AreTimed from to
        (cond b (e ∷ edges_until limit edges) (edges_until limit edges))
    chosen true h = (t.0, h)
    chosen false h = timed_earlier e.clock from to (edges_until limit edges) t.0 h

-- Parts

-- a whole run has come to its end
abbrev pub IsEnd : ℕ → State PadHistory → Type 0
IsEnd limit last = (limit ≤ last.clock) ⊎ HasNoTurn last

no_more : (limit : ℕ) (s next : State PadHistory) (edges : List Edge) → IsEnd limit s → s.clock < limit → Turn history_wiring s edges next
    → ⊥
no_more limit s next edges (inl over) before turn = omega arith
no_more limit s next edges (inr stopped) before turn = stopped edges next turn

-- the rest of a whole run, from a state that it passes
pub record HasRest (limit : ℕ) (mid last : State PadHistory) (first all : List Edge) : Type 0 where
  pub turns : ℕ
  pub rest : List Edge
  pub run : Run (TurnBefore limit) turns mid rest last
  pub cut : all ≡ first ++ rest

pub passes : (limit m n : ℕ) (s mid last : State PadHistory) (first all : List Edge) → Run (TurnBefore limit) m s first mid
    → Run (TurnBefore limit) n s all last → IsEnd limit last → HasRest limit mid last first all
passes limit zero n s mid last first all part run end = record {
  turns = n;
  rest = all;
  run = subst (λ x. Run (TurnBefore limit) n x all last) (sym part.1) run;
  cut = ap (λ x. x ++ all) (sym part.0);
}
passes limit (suc m) zero s mid last first all (one, next, more, turn, part, cut) run end =
    absurd (no_more limit s next one (subst (IsEnd limit) run.1 end) turn.0 turn.1)
passes limit (suc m) (suc n) s mid last first all (one, next, more, turn, part, cut) (one', next', more', turn', run, cut') end =
    let same = turn_is_unique s next next' one one' turn.1 turn'.1 in
    let after = passes limit m n next mid last more more' part (subst (λ x. Run (TurnBefore limit) n x more' last) (sym same.1) run) end in
    record {
      turns = after.turns;
      rest = after.rest;
      run = after.run;
      cut = cut' ∙ (ap (λ x. x ++ more') (sym same.0)
          ∙ (ap (λ x. one ++ x) after.cut ∙ (sym (append_assoc one more after.rest) ∙ ap (λ x. x ++ after.rest) (sym cut))));
    }
