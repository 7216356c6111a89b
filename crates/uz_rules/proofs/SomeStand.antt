-- Containment isn't about nothing.
use Rattle.uz_rules.proofs.Common.{◌≡◌, ℕ, zero, suc, ◌+◌, ◌*◌, [], ◌∷◌, Some, None, refl, sym, subst, inl, arith, slice_index}
use Rattle.uz_rules.proofs.Common.{slice_index_or, replicate, word_of, Nop, Reads, words_of, clocks_of, effect_of, reset_is_state, Free}
use Rattle.uz_rules.proofs.Common.{Range, ends, value_at}
use Rattle.avr_table.specs.Pattern.{stands}
use Rattle.uz_schedule.specs.Blank.{blank_instance}
use Rattle.uz_rules.specs.Example.{example_head, SomeInstructionBegins}
use Rattle.uz_rules.proofs.CoreSteps.{seven_at}
use Rattle.uz_rules.proofs.Containment.{plan_of}

reads_nop : Reads 0 0 Nop
unfolding stands
reads_nop = record { fixed = refl; letters = tt }

whole_vals : (n r : ℕ) → value_at (replicate n (Range (ends 0 255))) r ≡ Range (ends 0 255)
whole_vals zero r = refl
whole_vals (suc n) zero = refl
whole_vals (suc n) (suc r) = whole_vals n r

zeros : (n r : ℕ) → slice_index (replicate n 0) r ≡ 0
zeros zero r = refl
zeros (suc n) zero = refl
zeros (suc n) (suc r) = zeros n r

whole_pairs : (k : ℕ) → slice_index_or (ends 0 65535 ∷ ends 0 65535 ∷ ends 0 65535 ∷ []) k (ends 0 65535) ≡ ends 0 65535
whole_pairs (suc (suc (suc k))) = refl
whole_pairs k = refl

pub some_stand : SomeInstructionBegins
some_stand lines image flash first second = (
  plan_of example_head (lines.length 0) image (effect_of Nop) (words_of Nop) (clocks_of Nop) blank_instance None,
  record {
    is_state = reset_is_state image [] 4 flash (inl refl);
    flash = refl;
    head_fits = record {
      low = omega arith;
      high = omega arith;
      room = omega arith;
      cells_ram = λ at e h. absurd cc;
      cells_off = λ at e h. absurd cc;
    };
    fits = record { flags = refl; old = λ e. absurd cc; depth = omega arith };
    depth = omega arith;
    meets = record {
      pc = refl;
      enabled = refl;
      core = record {
        regs = λ r h. rw (whole_vals 32 r, zeros 32 r) (record { above = omega arith; below = omega arith });
        pairs = λ k h. rw (whole_pairs k, zeros 32 (26 + 2 * k), zeros 32 (26 + 2 * k + 1))
            (record { above = omega arith; below = omega arith });
        flags = λ k h. rw (seven_at (λ k. Free) Free k h) tt;
      };
      compared = tt;
      memory = record {
        slots = λ i h. absurd (omega arith);
        cells = λ at j h. absurd cc;
        ranges = λ at e h. absurd cc;
        depth = refl;
      };
      timer = tt;
      ticks = tt;
      level = refl;
      response = refl;
    };
    step_is = record {
      row = Some Nop;
      reads = record {
        found = subst (λ n. Reads n (word_of image 1) Nop) (sym first) (subst (λ n. Reads 0 n Nop) (sym second) reads_nop);
        none = tt;
      };
      is = refl;
    };
    no_return = refl;
  },
)
