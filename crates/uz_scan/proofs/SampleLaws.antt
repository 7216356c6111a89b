-- The sampler holds the samples that it should after one more edge.
use Rattle.std.proofs.Common.{◌≡◌, ℕ, ◌+◌, ◌-◌, ◌*◌, ◌≤◌, ◌<◌, Bool, true, false, cond, List, ◌∷◌, Option, Some, None, refl, sym, ◌∙◌, inl}
use Rattle.std.proofs.Common.{inr, arith, slice_index, ◌⊎◌}
use Rattle.std.specs.Prelude.{unwrap_or, nat_le, nat_lt}
use Rattle.std.proofs.lemmas.Bool.{cases_lt}
use Rattle.std.proofs.lemmas.List.FromFn.{fill_by_all}
use Rattle.std.proofs.lemmas.Bool.Decides.{nat_tests}
use Rattle.uz_core.specs.declared.machine.Edge.{Edge}
use Rattle.uz_scan.specs.declared.sampler.Sampler.{Sampler}
use Rattle.uz_scan.specs.Lines.{last_clock}
use Rattle.uz_scan.specs.Pictures.{pixel_brought, pixel_at, sample, row_of}
use Rattle.uz_scan.specs.Places.{samples_within}
use Rattle.uz_scan.specs.Scanning.{FillsSamples, IsFinished, IsTaken, IsSampled, SamplesLine}

pub within_before : (clocks k : ℕ) → k < samples_within clocks → 4 * k < clocks
within_before clocks k h = omega arith

pub within_after : (clocks k : ℕ) → samples_within clocks ≤ k → k < 455 → clocks ≤ 4 * k
within_after clocks k h w = omega arith

pub below_all : (clocks k : ℕ) → k < samples_within clocks → k < 455
below_all clocks k h = omega arith

-- a pixel counts from its clock on
pub pixel_before : (e : Edge) (edges : List Edge) (clock : ℕ) → clock < e.clock → pixel_at clock (e ∷ edges) ≡ pixel_at clock edges
pixel_before e edges clock h = let b : nat_le e.clock clock ≡ false = grind (arith, nat_tests) in simp b refl

pub pixel_from : (e : Edge) (edges : List Edge) (clock value : ℕ) → e.clock ≤ clock → pixel_brought e.kind ≡ Some value → pixel_at clock
    (e ∷ edges) ≡ value
pixel_from e edges clock value h p = let b : nat_le e.clock clock ≡ true = grind (arith, nat_tests) in simp (b, p) refl

pub no_pixel : (e : Edge) (edges : List Edge) (clock : ℕ) → pixel_brought e.kind ≡ None → pixel_at clock (e ∷ edges) ≡ pixel_at clock edges
no_pixel e edges clock p = either (nat_le e.clock clock) p
  where
    either : (b : Bool) → pixel_brought e.kind ≡ None → cond b (unwrap_or (pixel_brought e.kind) (pixel_at clock edges))
        (pixel_at clock edges) ≡ pixel_at clock edges
    either true p = simp p refl
    either false p = refl

-- after a pixel
pixel_samples : (s new : Sampler) (start value : ℕ) (e : Edge) (edges : List Edge) → IsSampled s start edges
    → FillsSamples (e.clock - start) s new → new.value ≡ value → pixel_brought e.kind ≡ Some value → last_clock edges ≤ e.clock
    → IsSampled new start (e ∷ edges)
pixel_samples s new start value e edges h f v p o = record {
  filled = λ k b. filled k b (cases_lt k s.filled);
  passed = λ k b. passed k b (cases_lt k s.filled);
  rest = λ k b w. (let g = f.filled in let a = within_after (e.clock - start) k (omega arith) w in pixel_from e edges (start + 4 * k) value
      (omega arith) p) ∙ sym v;
}
  where
    passed : (k : ℕ) → k < new.filled → (k < s.filled) ⊎ (s.filled ≤ k) → start + 4 * k < e.clock
    passed k b (inl old) = let g = h.passed k old in omega arith
    passed k b (inr later) = let g = f.filled in let a = within_before (e.clock - start) k (omega arith) in omega arith

    filled : (k : ℕ) → k < new.filled → (k < s.filled) ⊎ (s.filled ≤ k) → slice_index new.samples k ≡ pixel_at (start + 4 * k) (e ∷ edges)
    filled k b (inl old) = f.kept k old ∙ h.filled k old ∙ sym (pixel_before e edges (start + 4 * k) (passed k b (inl old)))
    filled k b (inr later) = let g = f.filled in let a = below_all (e.clock - start) k (omega arith) in f.added k later b
        ∙ sym (h.rest k later a) ∙ sym (pixel_before e edges (start + 4 * k) (passed k b (inr later)))

pub pixel_line : (s new : Sampler) (o : Option ℕ) (value : ℕ) (e : Edge) (edges : List Edge) → SamplesLine o s edges → IsTaken o e.clock s
    new → new.value ≡ value → pixel_brought e.kind ≡ Some value → last_clock edges ≤ e.clock → SamplesLine o new (e ∷ edges)
pixel_line s new None value e edges h t v p o = t.0 ∙ h
pixel_line s new (Some start) value e edges h t v p o = pixel_samples s new start value e edges h t v p o

-- after an edge that brings no pixel, and begins no line
pub same_line : (s : Sampler) (o : Option ℕ) (e : Edge) (edges : List Edge) → SamplesLine o s edges → pixel_brought e.kind ≡ None
    → last_clock edges ≤ e.clock → SamplesLine o s (e ∷ edges)
same_line s None e edges h p o = h
same_line s (Some start) e edges h p o = record {
  filled = λ k b. h.filled k b ∙ sym (no_pixel e edges (start + 4 * k) p);
  passed = λ k b. (let g = h.passed k b in omega arith);
  rest = λ k b w. no_pixel e edges (start + 4 * k) p ∙ h.rest k b w;
}

-- where a line begins
pub new_line : (s : Sampler) (e : Edge) (edges : List Edge) → s.filled ≡ 0
    → ((clock : ℕ) → e.clock ≤ clock → pixel_at clock (e ∷ edges) ≡ s.value) → IsSampled s e.clock (e ∷ edges)
new_line s e edges z v = record {
  filled = λ k b. absurd (omega arith);
  passed = λ k b. absurd (omega arith);
  rest = λ k b w. v (e.clock + 4 * k) (omega arith);
}

-- the row of a line that ends
pub finished_row : (s : Sampler) (start end : ℕ) (edges : List Edge) (row : List ℕ) → IsSampled s start edges → last_clock edges ≤ end
    → IsFinished (end - start) s row → row ≡ row_of edges start end
finished_row s start end edges row h o f = fill_by_all (sample edges start end) row 455 0 f.width
    (λ k b. at k b (cases_lt k s.filled) (cases_lt k (samples_within (end - start))))
  where
    before : (k : ℕ) → start + 4 * k < end → sample edges start end k ≡ pixel_at (start + 4 * k) edges
    before k b = let t : nat_lt (start + 4 * k) end ≡ true = grind (arith, nat_tests) in simp t refl

    after : (k : ℕ) → end ≤ start + 4 * k → sample edges start end k ≡ 0
    after k b = let t : nat_lt (start + 4 * k) end ≡ false = grind (arith, nat_tests) in simp t refl

    at : (k : ℕ) → k < 455 → (k < s.filled) ⊎ (s.filled ≤ k) → (k < samples_within (end - start)) ⊎ (samples_within (end - start) ≤ k)
        → slice_index row k ≡ sample edges start end k
    at k b (inl old) w = let g = h.passed k old in f.kept k old ∙ h.filled k old ∙ sym (before k (omega arith))
    at k b (inr later) (inl within) = let g = within_before (end - start) k within in f.added k later within ∙ sym (h.rest k later b)
        ∙ sym (before k (omega arith))
    at k b (inr later) (inr past) = let g = within_after (end - start) k past b in f.over k later past b ∙ sym (after k (omega arith))
