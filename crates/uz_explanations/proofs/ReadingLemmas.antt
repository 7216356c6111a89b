-- Two words are read in one way, and all words of a flash are read.
use Rattle.std.proofs.Common.{◌≡◌, ℕ, ◌+◌, ◌%◌, ◌<◌, ◌≤◌, Bool, true, false, cond, nat_eq, Option, Some, None, refl, sym, ap, subst, arith}
use Rattle.std.proofs.Math.Nat.{mod-add-mod, mod-mod}
use Rattle.std.proofs.lemmas.Bool.{eqb-true}
use Rattle.std.proofs.lemmas.Bool.Decides.{nat_tests}
use Rattle.std.proofs.lemmas.Nat.{mod_below}
use Rattle.std.specs.Ordering.{nat_cmp}
use Rattle.std.specs.FinMap.{FinMap}
use Rattle.uz_hex.specs.Cells.{word_of}
use Rattle.avr_table.specs.declared.Instr.{Instr}
use Rattle.avr_table.specs.Rows.{Reads}
use Rattle.avr_decode.specs.Decoded.{Decoded}
use Rattle.uz_transfer.specs.Step.{IsReadAt}
use Rattle.uz_explanations.specs.Readings.{Reading, IsReading}

pub same_answer : (first second : ℕ) → ((i j : Instr) → Reads first second i → Reads first second j → i ≡ j) → (a b : Option Instr)
    → Decoded first second a → Decoded first second b → a ≡ b
same_answer first second one None None h k = refl
same_answer first second one None (Some j) h k = absurd (h.none j k.found)
same_answer first second one (Some i) None h k = absurd (k.none i h.found)
same_answer first second one (Some i) (Some j) h k = ap Some (one i j h.found k.found)

-- the words below a number are read
abbrev pub ReadBelow : FinMap nat_cmp ℕ → ℕ → Type 0
ReadBelow image count = (read : Reading) × ((at : ℕ) → at < count → IsReadAt image at (read at))

-- one more word is read
pub one_more_read : (image : FinMap nat_cmp ℕ) (pc : ℕ) (row : Option Instr) → ReadBelow image pc → IsReadAt image pc row
    → ReadBelow image (pc + 1)
one_more_read image pc row before is = (reads, each)
  where
    reads : Reading
    reads at = cond (nat_eq at pc) row (before.0 at)

    by : (at : ℕ) (same : Bool) → nat_eq at pc ≡ same → at < pc + 1 → IsReadAt image at (cond same row (before.0 at))
    by at true e h = subst (λ k. IsReadAt image k row) (sym (eqb-true at pc e)) is
    by at false e h = before.1 at (below at pc e h)
      where
        below : (at pc : ℕ) → nat_eq at pc ≡ false → at < pc + 1 → at < pc
        below at pc e h = grind (arith, nat_tests, e, h)

    each : (at : ℕ) → at < pc + 1 → IsReadAt image at (reads at)
    each at h = by at (nat_eq at pc) refl h

-- all words are read: addresses go round the flash
pub whole_reading : (image : FinMap nat_cmp ℕ) (count : ℕ) → 32768 ≤ count → ReadBelow image count
    → (read : Reading) × IsReading image read
whole_reading image count h before =
    (λ pc. before.0 (pc % 32768), λ pc. turned pc (before.1 (pc % 32768) (low pc (mod_below pc 32768 (omega arith)))))
  where
    low : (pc : ℕ) → pc % 32768 < 32768 → pc % 32768 < count
    low pc k = below (pc % 32768) count k h
      where
        below : (at count : ℕ) → at < 32768 → 32768 ≤ count → at < count
        below at count k h = omega (arith, k, h)

    turned : (pc : ℕ) → IsReadAt image (pc % 32768) (before.0 (pc % 32768)) → IsReadAt image pc (before.0 (pc % 32768))
    turned pc is =
        subst (λ n. Decoded (word_of image (pc % 32768)) (word_of image n) (before.0 (pc % 32768))) (mod-add-mod pc 32768 1)
        (subst (λ n. Decoded (word_of image n) (word_of image ((pc % 32768 + 1) % 32768)) (before.0 (pc % 32768))) (mod-mod pc 32768) is)
