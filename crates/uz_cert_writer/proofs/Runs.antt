-- Lines of one kind that follow each other, counted from the front.
use Rattle.uz_cert_writer.proofs.Common.{◌≡◌, ℕ, ◌+◌, false, cond, List, [], ◌∷◌, ◌++◌, append_assoc, refl, sym, ◌∙◌, ap}
use Rattle.uz_cert_writer.proofs.Common.{arith, ◌<◌, drop, get_or, length, runs_of, ended, line_end, run_lines, run_on}
use Rattle.uz_cert_writer.specs.Spelling.{run_before, run_words}
use Rattle.std.proofs.{Common.eqb, lemmas.Bool.Decides.nat_tests}
use Rattle.uz_cert_writer.proofs.{Steps.left, Joining.line_ended}

pub first_run : (kind : ℕ) (runs : List (ℕ × ℕ)) → run_on 1 kind runs ≡ run_before kind runs
first_run kind [] = refl
first_run kind (r ∷ rs) = refl

-- one more line of the kind
pub run_goes_on : (count kind : ℕ) (runs : List (ℕ × ℕ)) → run_on count kind (run_before kind runs) ≡ run_on (count + 1) kind runs
run_goes_on count kind [] = grind (arith, nat_tests)
run_goes_on count kind (r ∷ rs) = grind (arith, nat_tests)

-- a line of another kind
pub run_ends : (count kind next : ℕ) (runs : List (ℕ × ℕ)) → eqb next kind ≡ false
    → run_on count kind (run_before next runs) ≡ (count, kind) ∷ run_before next runs
run_ends count kind next [] ne = ap (λ t. cond t ((1 + count, kind) ∷ []) ((count, kind) ∷ (1, next) ∷ [])) ne
run_ends count kind next (r ∷ rs) ne = grind (arith, nat_tests)

-- the runs of a text with one more line of the kind
pub run_kept : (text : List ℕ) (count kind next : ℕ) (runs : List (ℕ × ℕ)) → next ≡ kind
    → text ++ ended (run_lines (run_on (count + 1) next runs)) ≡ text ++ ended (run_lines (run_on count kind (run_before next runs)))
run_kept text count kind next runs e =
    rw e (ap (λ r. text ++ ended (run_lines r)) (sym (run_goes_on count kind runs)))

-- the runs of a text with a line of another kind
pub run_over : (old new : List ℕ) (count kind next : ℕ) (runs : List (ℕ × ℕ)) → eqb next kind ≡ false → new ≡ old
    ++ line_end (run_words (count, kind))
    → new ++ ended (run_lines (run_on 1 next runs)) ≡ old ++ ended (run_lines (run_on count kind (run_before next runs)))
run_over old new count kind next runs ne e =
    ap (λ t. t ++ ended (run_lines (run_on 1 next runs))) e
    ∙ append_assoc old (line_end (run_words (count, kind))) (ended (run_lines (run_on 1 next runs)))
    ∙ ap (λ r. old ++ (line_end (run_words (count, kind)) ++ ended (run_lines r))) (first_run next runs)
    ∙ ap (λ t. old ++ t) (line_ended (run_words (count, kind)) (run_lines (run_before next runs)))
    ∙ ap (λ r. old ++ ended (run_lines r)) (sym (run_ends count kind next runs ne))

-- one more line of a list, whatever the runs behind it
pub run_taken : (old new all : List ℕ) (count n kind next i : ℕ) (lines : List ℕ) → i < length lines → next ≡ get_or lines i 0
    → ((runs : List (ℕ × ℕ)) → new ++ ended (run_lines (run_on n next runs))
    ≡ old ++ ended (run_lines (run_on count kind (run_before next runs))))
    → old ++ ended (run_lines (run_on count kind (runs_of (drop i lines)))) ≡ all
    → new ++ ended (run_lines (run_on n next (runs_of (drop (i + 1) lines)))) ≡ all
run_taken old new all count n kind next i lines h e step before =
    step (runs_of (drop (i + 1) lines))
    ∙ ap (λ ks. old ++ ended (run_lines (run_on count kind (runs_of ks)))) (sym (left lines i next 0 h e))
    ∙ before
