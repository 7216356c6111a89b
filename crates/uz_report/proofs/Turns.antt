-- Entries and returns take turns, out of what is told of main's time.
use Rattle.std.proofs.Common.{◌≡◌, ◌⊎◌, inl, inr, ℕ, Bool, true, false, not, cond, List, [], ◌∷◌, ◌++◌, refl, sym, subst}
use Rattle.std.specs.Prelude.{⊤}
use Rattle.uz_core.specs.declared.machine.Edge.{Edge}
use Rattle.uz_core.specs.declared.machine.EdgeKind.{EdgeKind}
use Rattle.uz_core.specs.declared.machine.EdgeKind.TheVariants.{Sync, Pixel, Sound, Enter, Leave}
use Rattle.uz_schedule.specs.declared.certificate.Cert.{Cert}
use Rattle.uz_check.specs.Ways.{Phase, InMain, InHandler, MainsTime, told}
use Rattle.uz_report.specs.MainsTime.{IsEntry, TakeTurns, entries_and_returns, is_entry_or_return}

-- an entry of main, a return of the handler
abbrev IsNext : Bool → EdgeKind → Type 0
IsNext true kind = IsEntry kind
IsNext false kind = kind ≡ Leave

abbrev Alternate : Bool → List Edge → Type 0
Alternate in_main [] = ⊤
Alternate in_main (e ∷ es) = IsNext in_main e.kind × Alternate (not in_main) es

abbrev in_main : Phase → Bool
in_main (InMain since line at) = true
in_main InHandler = false

one_more : (cert : Cert) (start p : ℕ) (phase : Phase) (e : Edge) (es : List Edge) (kind : EdgeKind) → e.kind ≡ kind
    → MainsTime cert start p phase ((e.clock, kind) ∷ told es)
    → ((later : Phase) → MainsTime cert start p later (told es) → Alternate (in_main later) (entries_and_returns es))
    → Alternate (in_main phase) (cond (is_entry_or_return kind) (e ∷ entries_and_returns es) (entries_and_returns es))
one_more cert start p phase e es (Sync level) is h more = more phase h
one_more cert start p phase e es (Pixel value) is h more = more phase h
one_more cert start p phase e es (Sound value) is h more = more phase h
one_more cert start p (InMain since line at) e es (Enter count) is h more = (subst IsEntry (sym is) tt, more InHandler h.2)
one_more cert start p InHandler e es (Enter count) is h more = absurd h
one_more cert start p (InMain since line at) e es Leave is h more = absurd h
one_more cert start p InHandler e es Leave is (rest, returned, later) more = (is, more (InMain e.clock rest.line rest.clock) later)

alternate : (cert : Cert) (start p : ℕ) (phase : Phase) (edges : List Edge) → MainsTime cert start p phase (told edges)
    → Alternate (in_main phase) (entries_and_returns edges)
alternate cert start p phase [] h = tt
alternate cert start p phase (e ∷ es) h =
    one_more cert start p phase e es e.kind refl h (λ later more. alternate cert start p later es more)

two_of : (in_main : Bool) (e next : Edge) → IsNext in_main e.kind → IsNext (not in_main) next.kind
    → (IsEntry e.kind × (next.kind ≡ Leave)) ⊎ ((e.kind ≡ Leave) × IsEntry next.kind)
two_of true e next first second = inl (first, second)
two_of false e next first second = inr (first, second)

two_at : (in_main : Bool) (before : List Edge) (e next : Edge) (later : List Edge) → Alternate in_main (before ++ e ∷ next ∷ later)
    → (IsEntry e.kind × (next.kind ≡ Leave)) ⊎ ((e.kind ≡ Leave) × IsEntry next.kind)
two_at in_main [] e next later h = two_of in_main e next h.0 h.1.0
two_at in_main (x ∷ before) e next later h = two_at (not in_main) before e next later h.1

-- from main on
pub take_turns : (cert : Cert) (start p since line at : ℕ) (edges : List Edge) → MainsTime cert start p (InMain since line at) (told edges)
    → TakeTurns edges
take_turns cert start p since line at edges h =
    let all = alternate cert start p (InMain since line at) edges h in
    record {
      first = λ e later cut. (subst (Alternate true) cut all).0;
      in_turn = λ before e next later cut. two_at true before e next later (subst (Alternate true) cut all);
    }
