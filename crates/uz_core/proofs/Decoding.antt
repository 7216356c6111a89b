-- An instruction decoded has what its row has.
use Rattle.std.proofs.Common.{◌≡◌, ℕ, ◌%◌, ◌+◌, sym, subst}
use Rattle.std.specs.Ordering.{nat_cmp}
use Rattle.std.specs.FinMap.{FinMap}
use Rattle.uz_hex.specs.Cells.{word_of}
use Rattle.avr_table.specs.declared.Instr.{Instr}
use Rattle.avr_table.specs.declared.Outcome.{Outcome}
use Rattle.avr_table.specs.declared.Outcome.TheVariants.{Next, Taken, SkipOne, SkipTwo}
use Rattle.avr_table.specs.Rows.{Reads, clocks_of}
use Rattle.uz_core.specs.OperandRanges.{EffectFits}
use Rattle.uz_core.proofs.EffectRanges.{effect_fits}
use Rattle.uz_core.specs.declared.decoded.Clocks.{Clocks}
use Rattle.uz_core.specs.declared.decoded.Decoded.{Decoded}
use Rattle.uz_core.specs.RowClocks.{clocks_in}
use Rattle.uz_core.specs.Programs.{IsDecoded, IsInstructionAt}

pub same_clocks : (i : Instr) (clocks : Clocks) → clocks.next ≡ clocks_of i Next → clocks.taken ≡ clocks_of i Taken
    → clocks.skip_one ≡ clocks_of i SkipOne → clocks.skip_two ≡ clocks_of i SkipTwo →
    clocks_in clocks ≡ clocks_of i
same_clocks i clocks next taken one two = λ k outcome. each outcome k
  where
    each : (outcome : Outcome) → clocks_in clocks outcome ≡ clocks_of i outcome
    each Next = next
    each Taken = taken
    each SkipOne = one
    each SkipTwo = two

-- the operands of its effect are in range
pub decoded_fits : (i : Instr) (d : Decoded) → IsDecoded i d → EffectFits d.effect
decoded_fits i d h = subst EffectFits (sym h.effect) (effect_fits i)

abbrev Only : ℕ → ℕ → Type 0
Only first second = (i j : Instr) → Reads first second i → Reads first second j → i ≡ j

-- the only instruction of two words is the one at an address that has them
pub instruction_at : (image : FinMap nat_cmp ℕ) (at first second : ℕ) (i : Instr) → first ≡ word_of image at → second ≡ word_of image
    ((at + 1) % 32768) →
    Reads first second i → Only first second → IsInstructionAt image at i
instruction_at image at first second i f s reads only = record {
  reads = to (λ a b. Reads a b i) reads;
  only = λ j h. to Only only j i h (to (λ a b. Reads a b i) reads);
}
  where
    to : (Q : ℕ → ℕ → Type 0) → Q first second → Q (word_of image at) (word_of image ((at + 1) % 32768))
    to Q q = subst (λ a. Q a (word_of image ((at + 1) % 32768))) f (subst (λ b. Q first b) s q)
