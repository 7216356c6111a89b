-- The returns and entries between two returns, as gaps, out of what is told of main's time.
use Rattle.std.proofs.Common.{◌≡◌, All, ℕ, ◌-◌, List, [], ◌∷◌, ◌++◌, cond, refl, sym, ◌∙◌, ap, subst, arith}
use Rattle.std.specs.Prelude.{⊤}
use Rattle.std.specs.List.{flat_map}
use Rattle.std.proofs.lemmas.List.Elements.{All-cons}
use Rattle.uz_core.specs.declared.machine.Edge.{Edge}
use Rattle.uz_core.specs.declared.machine.EdgeKind.{EdgeKind}
use Rattle.uz_core.specs.declared.machine.EdgeKind.TheVariants.{Sync, Pixel, Sound, Enter, Leave}
use Rattle.uz_schedule.specs.declared.states.Rest.{Rest}
use Rattle.uz_schedule.specs.declared.certificate.Cert.{Cert}
use Rattle.uz_schedule.specs.Schedule.{length_of}
use Rattle.uz_check.specs.ReturnTimes.{return_at}
use Rattle.uz_check.specs.Ways.{Phase, InMain, InHandler, MainsTime, ReturnsAt, told}
use Rattle.uz_report.specs.MainsTime.{Gap, IsWithin, clocks_of, edges_of, entries_and_returns, is_entry_or_return}
use Rattle.uz_report.proofs.Gaps.{within}

-- entries and returns that are those of gaps
pub record AreGaps (cert : Cert) (start p : ℕ) (passed : List Edge) : Type 0 where
  pub gaps : List Gap
  pub passed_is : passed ≡ flat_map edges_of gaps
  pub returned : All (λ (gap : Gap). ReturnsAt cert start p gap.left gap.rest) gaps
  pub within_rest : All (λ (gap : Gap). IsWithin cert gap.rest (clocks_of gap)) gaps

-- in the handler, or in main since a return at a rest
data Now : Type 0 where
  Handles : Now
  Left : ℕ → Rest → Now

abbrev phase_of : Now → Phase
phase_of Handles = InHandler
phase_of (Left left rest) = InMain left rest.line rest.clock

-- with the return that came last
abbrev open_of : Now → List Edge → List Edge
open_of Handles passed = passed
open_of (Left left rest) passed = return_at left ∷ passed

module _ (cert : Cert) (start p : ℕ) where
  abbrev Known : Now → Type 0
  Known Handles = ⊤
  Known (Left left rest) = ReturnsAt cert start p left rest

  none : AreGaps cert start p []
  none = record { gaps = []; passed_is = refl; returned = λ k gap below. absurd (omega arith); within_rest = λ k gap below. absurd (omega arith) }

  one_gap : (left entered count : ℕ) (rest : Rest) (e : Edge) (passed : List Edge) → e ≡ record { clock = entered; kind = Enter count }
      → ReturnsAt cert start p left rest → IsWithin cert rest (entered - left) → AreGaps cert start p passed
      → AreGaps cert start p (return_at left ∷ e ∷ passed)
  one_gap left entered count rest e passed is returned lies more =
      let gap : Gap = record { rest = rest; left = left; entered = entered; count = count } in
      record {
        gaps = gap ∷ more.gaps;
        passed_is = ap (λ (x : Edge). return_at left ∷ x ∷ passed) is
            ∙ ap (λ (xs : List Edge). return_at left ∷ record { clock = entered; kind = Enter count } ∷ xs) more.passed_is;
        returned = All-cons (λ (g : Gap). ReturnsAt cert start p g.left g.rest) gap more.gaps returned more.returned;
        within_rest = All-cons (λ (g : Gap). IsWithin cert g.rest (clocks_of g)) gap more.gaps lies more.within_rest;
      }

  edge_is : (e : Edge) (kind : EdgeKind) → e.kind ≡ kind → e ≡ record { clock = e.clock; kind = kind }
  edge_is e kind is = ap (λ (k : EdgeKind). record { clock = e.clock; kind = k }) is

  one_on : (now : Now) (e : Edge) (es : List Edge) (kind : EdgeKind) (tail : List (ℕ × EdgeKind)) → e.kind ≡ kind → Known now
      → MainsTime cert start p (phase_of now) ((e.clock, kind) ∷ tail)
      → ((later : Now) → Known later → MainsTime cert start p (phase_of later) tail
      → AreGaps cert start p (open_of later (entries_and_returns es)))
      → AreGaps cert start p (open_of now (cond (is_entry_or_return kind) (e ∷ entries_and_returns es) (entries_and_returns es)))
  one_on now e es (Sync level) tail is known h more = more now known h
  one_on now e es (Pixel value) tail is known h more = more now known h
  one_on now e es (Sound value) tail is known h more = more now known h
  one_on Handles e es (Enter count) tail is known h more = absurd h
  one_on (Left left rest) e es (Enter count) tail is known h more =
      one_gap left e.clock count rest e (entries_and_returns es) (edge_is e (Enter count) is) known
      (within (length_of cert.schedule rest.line) rest.clock left e.clock count h.0 h.1) (more Handles tt h.2)
  one_on Handles e es Leave tail is known (rest, returned, later) more =
      subst (λ (x : Edge). AreGaps cert start p (x ∷ entries_and_returns es)) (sym (edge_is e Leave is))
      (more (Left e.clock rest) returned later)
  one_on (Left left rest) e es Leave tail is known h more = absurd h

  -- up to the next return main has entered
  gaps_up_to : (now : Now) (es : List Edge) (again : ℕ) (tail : List (ℕ × EdgeKind)) → Known now
      → MainsTime cert start p (phase_of now) (told es ++ (again, Leave) ∷ tail)
      → AreGaps cert start p (open_of now (entries_and_returns es))
  gaps_up_to Handles [] again tail known h = none
  gaps_up_to (Left left rest) [] again tail known h = absurd h
  gaps_up_to now (e ∷ es) again tail known h =
      one_on now e es e.kind (told es ++ (again, Leave) ∷ tail) refl known h
      (λ later sure more. gaps_up_to later es again tail sure more)

  -- between two returns
  pub gaps_between : (phase : Phase) (left again : ℕ) (between : List Edge) (tail : List (ℕ × EdgeKind))
      → MainsTime cert start p phase ((left, Leave) ∷ (told between ++ (again, Leave) ∷ tail))
      → AreGaps cert start p (return_at left ∷ entries_and_returns between)
  gaps_between (InMain since line at) left again between tail h = absurd h
  gaps_between InHandler left again between tail (rest, returned, more) = gaps_up_to (Left left rest) between again tail returned more
