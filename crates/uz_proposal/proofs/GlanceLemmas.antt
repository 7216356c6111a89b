-- What a console's next turn stores, of the states that it stands for.
use Rattle.std.proofs.Common.{◌≡◌, ℕ, ◌+◌, ◌*◌, ◌/◌, ◌%◌, arith, true, false, refl, sym, subst, ◌∙◌, ap}
use Rattle.std.specs.Prelude.{Option, None}
use Rattle.std.specs.Ordering.{nat_cmp}
use Rattle.std.specs.FinMap.{FinMap}
use Rattle.avr_table.specs.declared.Instr.{Instr}
use Rattle.avr_table.specs.Rows.{Reads}
use Rattle.uz_hex.specs.Cells.{word_of}
use Rattle.uz_core.specs.PadLine.{PadHistory}
use Rattle.uz_core.specs.Turn.{State, is_entry}
use Rattle.uz_core.specs.Steps.{ReadsHere}
use Rattle.uz_console.specs.declared.console.Console.{Console}
use Rattle.uz_console.specs.Consoles.{StandsFor, state_of}
use Rattle.uz_proposal.specs.declared.stores.Stored.{Stored}
use Rattle.uz_proposal.specs.Stores.{StoresOf, instruction_store}

-- SP by its two bytes
pub sp_of_core : (sp : ℕ) → sp % 256 + 256 * (sp / 256) ≡ sp
sp_of_core sp = omega arith

pub entry_stores : (s : State PadHistory) → is_entry s ≡ true → StoresOf s None
entry_stores s enters = record {
  entry = λ yes. refl;
  row = λ no. absurd cc;
}

pub row_stores : (c : Console) (s : State PadHistory) (stored : Option Stored) → StandsFor c s → is_entry s ≡ false
    → ((i : Instr) → ReadsHere (state_of c).image (state_of c).core i → stored ≡ instruction_store (state_of c).core i) → StoresOf s stored
row_stores c s stored stands enters row = record {
  entry = λ yes. absurd cc;
  row = λ no i reads.
      subst (λ core. stored ≡ instruction_store core i) (sym stands.core)
      (row i (subst (λ core. ReadsHere (state_of c).image core i) stands.core (subst (λ image. ReadsHere image s.core i) stands.image reads)));
}

-- the words of an instruction, as they are read
pub words_here : (image read : FinMap nat_cmp ℕ) (pc at first second : ℕ) (i : Instr) → first ≡ word_of image pc
    → second ≡ word_of read ((at + 1) % 32768) → read ≡ image → at ≡ pc
    → Reads (word_of image pc) (word_of image ((pc + 1) % 32768)) i → Reads first second i
words_here image read pc at first second i one two same here reads =
    subst (λ w. Reads w second i) (sym one)
    (subst (λ w. Reads (word_of image pc) w i) (sym (two ∙ ap (λ m. word_of m ((at + 1) % 32768)) same ∙ ap (λ a. word_of image ((a + 1) % 32768)) here))
    reads)
