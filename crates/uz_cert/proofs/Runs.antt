-- The lines of a frame as runs of one kind, and back.
use Rattle.uz_cert.proofs.Common.{◌≡◌, ◌≢◌, ℕ, zero, suc, ◌+◌, ◌<◌, ◌≤◌, Bool, true, false, cond, eqb, List, [], ◌∷◌, ◌++◌, replicate}
use Rattle.uz_cert.proofs.Common.{All, refl, sym, ◌∙◌, ap, subst, append-nil, arith, ⊤, eqb-true, eqb-false, not_number, All-nil}
use Rattle.uz_cert.proofs.Common.{All-cons, All-head, All-tail, runs_of, LastIs}
use Rattle.std.proofs.{lemmas.Bool.Decides.nat_tests, Common.add-one}
use Rattle.uz_cert_laws.proofs.Tests.{same_number}
use Rattle.uz_cert_writer.specs.Spelling.{run_before}
use Rattle.uz_cert.proofs.SpelledText.{expand, Apart}

-- the runs of lines give the lines

expand_before : (kind : ℕ) (rs : List (ℕ × ℕ)) → expand (run_before kind rs) ≡ kind ∷ expand rs
expand_before kind [] = refl
expand_before kind (r ∷ rs) = by (eqb r.1 kind) refl
  where
    longer : (n k : ℕ) → replicate (n + 1) k ≡ k ∷ replicate n k
    longer n k = ap (λ m. replicate m k) (add-one n)

    by : (t : Bool) → eqb r.1 kind ≡ t → expand (cond t ((r.0 + 1, kind) ∷ rs) ((1, kind) ∷ r ∷ rs)) ≡ kind ∷ expand (r ∷ rs)
    by true e =
        ap (λ ks. ks ++ expand rs) (longer r.0 kind) ∙ ap (λ k. kind ∷ (replicate r.0 k ++ expand rs)) (sym (eqb-true r.1 kind e))
    by false e = refl

pub expand_runs : (lines : List ℕ) → expand (runs_of lines) ≡ lines
expand_runs [] = refl
expand_runs (kind ∷ lines) = expand_before kind (runs_of lines) ∙ ap (λ ls. kind ∷ ls) (expand_runs lines)

-- they have lines, and change their kind

abbrev Good : List (ℕ × ℕ) → Type 0
Good [] = ⊤
Good (r ∷ rs) = (1 ≤ r.0) × Apart r.1 rs

good_before : (kind : ℕ) (rs : List (ℕ × ℕ)) → Good rs → Good (run_before kind rs)
good_before kind [] h = (omega arith, tt)
good_before kind (r ∷ rs) h = by (eqb r.1 kind) refl
  where
    by : (t : Bool) → eqb r.1 kind ≡ t → Good (cond t ((r.0 + 1, kind) ∷ rs) ((1, kind) ∷ r ∷ rs))
    by true e = (omega arith, subst (λ k. Apart k rs) (eqb-true r.1 kind e) h.1)
    by false e = (omega arith, (h.0, eqb-false r.1 kind e, h.1))

good_runs : (lines : List ℕ) → Good (runs_of lines)
good_runs [] = tt
good_runs (kind ∷ lines) = good_before kind (runs_of lines) (good_runs lines)

all_before : (most kind : ℕ) (rs : List (ℕ × ℕ)) → kind < most → All (λ r. r.1 < most) rs → All (λ r. r.1 < most) (run_before kind rs)
all_before most kind [] h all = All-cons (λ r. r.1 < most) (1, kind) [] h (All-nil (λ r. r.1 < most))
all_before most kind (r ∷ rs) h all = by (eqb r.1 kind)
  where
    by : (t : Bool) → All (λ x. x.1 < most) (cond t ((r.0 + 1, kind) ∷ rs) ((1, kind) ∷ r ∷ rs))
    by true = All-cons (λ x. x.1 < most) (r.0 + 1, kind) rs h (All-tail (λ x. x.1 < most) r rs all)
    by false = All-cons (λ x. x.1 < most) (1, kind) (r ∷ rs) h all

pub all_runs : (most : ℕ) (lines : List ℕ) → All (λ kind. kind < most) lines → All (λ r. r.1 < most) (runs_of lines)
all_runs most [] all = All-nil (λ r. r.1 < most)
all_runs most (kind ∷ lines) all =
    all_before most kind (runs_of lines) (All-head (λ k. k < most) kind lines all)
    (all_runs most lines (All-tail (λ k. k < most) kind lines all))

good_apart : (most other : ℕ) (rs : List (ℕ × ℕ)) → most ≤ other → All (λ r. r.1 < most) rs → Good rs → Apart other rs
good_apart most other [] h all g = tt
good_apart most other (r ∷ rs) h all g = (g.0, apart r.1 (All-head (λ x. x.1 < most) r rs all), g.1)
  where
    apart : (k : ℕ) → k < most → k ≢ other
    apart k low e = omega (arith, h, low, e)

pub runs_apart : (most other : ℕ) (lines : List ℕ) → most ≤ other → All (λ kind. kind < most) lines → Apart other (runs_of lines)
runs_apart most other lines h all = good_apart most other (runs_of lines) h (all_runs most lines all) (good_runs lines)

-- the lines of such runs have these runs

new_before : (kind : ℕ) (rs : List (ℕ × ℕ)) → Apart kind rs → run_before kind rs ≡ (1, kind) ∷ rs
new_before kind [] h = refl
new_before kind (r ∷ rs) h = ap (λ t. cond t ((r.0 + 1, kind) ∷ rs) ((1, kind) ∷ r ∷ rs)) (not_number r.1 kind h.1)

same_before : (n kind : ℕ) (rs : List (ℕ × ℕ)) → run_before kind ((n, kind) ∷ rs) ≡ (suc n, kind) ∷ rs
same_before n kind rs =
    ap (λ t. cond t ((n + 1, kind) ∷ rs) ((1, kind) ∷ (n, kind) ∷ rs)) (same_number kind) ∙ ap (λ m. (m, kind) ∷ rs) (add-one n)

run_again : (n kind : ℕ) (rs : List (ℕ × ℕ)) → Apart kind rs → runs_of (expand rs) ≡ rs → runs_of (replicate (suc n) kind ++ expand rs)
    ≡ (suc n, kind) ∷ rs
run_again zero kind rs apart e = ap (run_before kind) e ∙ new_before kind rs apart
run_again (suc n) kind rs apart e = ap (run_before kind) (run_again n kind rs apart e) ∙ same_before (suc n) kind rs

-- one run more, of another kind than the last line

before_some : (kind : ℕ) (rs : List (ℕ × ℕ)) (r : ℕ × ℕ) → rs ≢ [] → run_before kind (rs ++ r ∷ []) ≡ run_before kind rs ++ r ∷ []
before_some kind [] r h = absurd (h refl)
before_some kind (q ∷ rs) r h = grind (arith, nat_tests)

runs_some : (x : ℕ) (xs : List ℕ) → runs_of (x ∷ xs) ≢ []
runs_some x xs = by (runs_of xs)
  where
    by : (rs : List (ℕ × ℕ)) → run_before x rs ≢ []
    by [] e = cc e
    by (r ∷ rs) e = grind (arith, nat_tests)

pub runs_more : (before kind : ℕ) (lines : List ℕ) (n : ℕ) → LastIs before lines → kind ≢ before → 1 ≤ n
    → runs_of (lines ++ replicate n kind) ≡ runs_of lines ++ (n, kind) ∷ []
runs_more before kind lines zero l other h = absurd (omega (arith, h))
runs_more before kind [] (suc n) l other h = ap runs_of (sym (append-nil (replicate (suc n) kind))) ∙ run_again n kind [] tt refl
runs_more before kind (x ∷ []) (suc n) l other h =
    ap (run_before x) (runs_more before kind [] (suc n) tt other h)
    ∙ new_before x ((suc n, kind) ∷ []) (omega arith, (λ e. other (e ∙ l)), tt)
runs_more before kind (x ∷ y ∷ ys) (suc n) l other h =
    ap (run_before x) (runs_more before kind (y ∷ ys) (suc n) l other h)
    ∙ before_some x (runs_of (y ∷ ys)) (suc n, kind) (runs_some y ys)
