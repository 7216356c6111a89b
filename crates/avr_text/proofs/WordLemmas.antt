-- The row of a name has as many words as the name says, whatever its operands.
use Rattle.std.proofs.Common.{◌≡◌, ℕ, Bool, true, false, List, [], ◌∷◌, refl, sym, subst, ℤ, pos, Option, Some, None, Ok, Err, IfOk}
use Rattle.avr_table.specs.declared.Instr.{Instr}
use Rattle.avr_table.specs.declared.Instr.TheVariants as i
use Rattle.avr_table.specs.Rows.{words_of as row_words}
use Rattle.avr_text.specs.declared.tokens.Token.{Token}
use Rattle.avr_text.specs.declared.instructions.OperandForms.{OperandForms}
use Rattle.avr_text.specs.declared.instructions.OperandForms.TheVariants.{Zero, One, Two}
use Rattle.avr_text.specs.declared.mnemonics.Mnemonic.{Mnemonic}
use Rattle.avr_text.specs.declared.mnemonics.Mnemonic.TheVariants as m
use Rattle.avr_text.specs.declared.pointers.Pointer.{Pointer}
use Rattle.avr_text.specs.declared.pointers.Pointer.TheVariants.{X, Y, Z}
use Rattle.avr_text.specs.declared.pointers.Step.{Step}
use Rattle.avr_text.specs.declared.pointers.Step.TheVariants.{Plain, Increment, Decrement}
use Rattle.avr_text.specs.Faults.{OrFault}
use Rattle.avr_text.specs.Fields.{field}
use Rattle.avr_text.specs.Instructions.{none_of, mapped, load, store, at_address, loaded, stored, displaced, displaced_of, loaded_displaced}
use Rattle.avr_text.specs.Instructions.{stored_displaced, program_row, from_program, loaded_from_program, program_memory, forms_of, row_of}
use Rattle.avr_text.specs.Instructions.{by_forms, instruction_of}
use Rattle.avr_text.specs.Mnemonics.{words_of}
use Rattle.avr_text.specs.Operands.{Operands, register, one_value, two_values, pair_of}

-- an instruction, if there is one, has n words
abbrev pub HasWords : ℕ → OrFault Instr → Type 0
HasWords n outcome = IfOk outcome (λ i. row_words i ≡ n)

pub words_of_row : (name : Mnemonic) (x y : ℤ) → row_words (row_of name x y) ≡ words_of name
words_of_row m.Jmp x y = refl
words_of_row name x y = refl

words_of_load : (d : ℤ) (pointer : Pointer) (step : Step) → row_words (load d pointer step) ≡ 1
words_of_load d X Plain = refl
words_of_load d X Increment = refl
words_of_load d X Decrement = refl
words_of_load d Y Plain = refl
words_of_load d Y Increment = refl
words_of_load d Y Decrement = refl
words_of_load d Z Plain = refl
words_of_load d Z Increment = refl
words_of_load d Z Decrement = refl

words_of_store : (r : ℤ) (pointer : Pointer) (step : Step) → row_words (store r pointer step) ≡ 1
words_of_store r X Plain = refl
words_of_store r X Increment = refl
words_of_store r X Decrement = refl
words_of_store r Y Plain = refl
words_of_store r Y Increment = refl
words_of_store r Y Decrement = refl
words_of_store r Z Plain = refl
words_of_store r Z Increment = refl
words_of_store r Z Decrement = refl

-- from an outcome to the row that it gives
of_mapped : {A : Type 0} (n : ℕ) (f : A → Instr) → ((a : A) → row_words (f a) ≡ n) → (o : OrFault A) → HasWords n (mapped o f)
of_mapped n f h (Ok x) = h x
of_mapped n f h (Err why) = tt

of_none : (instr : Instr) (parts : List (List Token)) → HasWords (row_words instr) (none_of instr parts)
of_none instr [] = refl
of_none instr (p ∷ ps) = tt

of_address : (f : ℤ → Pointer → Step → Instr) → ((x : ℤ) (pointer : Pointer) (step : Step) → row_words (f x pointer step) ≡ 1)
    → (x : OrFault ℤ) (address : Option (Pointer × Step)) → HasWords 1 (at_address x address f)
of_address f h (Ok x) (Some a) = h x a.0 a.1
of_address f h other address = tt

of_loaded : (line : List ℕ) (pair : Option (List Token × List Token)) → HasWords 1 (loaded line pair)
of_loaded line None = tt
of_loaded line (Some p) = of_address load words_of_load _ _

of_stored : (line : List ℕ) (pair : Option (List Token × List Token)) → HasWords 1 (stored line pair)
of_stored line None = tt
of_stored line (Some p) = of_address store words_of_store _ _

of_displaced : (f : ℤ → ℤ → ℤ → Instr) → ((x y q : ℤ) → row_words (f x y q) ≡ 1) → (x : OrFault ℤ) (d : Option (ℤ × List Token))
    (o : Operands) → HasWords 1 (displaced x d o f)
of_displaced f h x None o = tt
of_displaced f h x (Some d) o = of_mapped _ (λ (p : ℤ × ℤ). f p.0 d.0 p.1) (λ p. h p.0 d.0 p.1) _

of_loaded_displaced : (o : Operands) (pair : Option (List Token × List Token)) → HasWords 1 (loaded_displaced o pair)
of_loaded_displaced o None = tt
of_loaded_displaced o (Some p) = of_displaced (λ d y q. i.Ldd (field 5 d) (field 1 y) (field 6 q)) (λ x y q. refl) (register o.line p.0)
    (displaced_of o.line p.1) o

of_stored_displaced : (o : Operands) (pair : Option (List Token × List Token)) → HasWords 1 (stored_displaced o pair)
of_stored_displaced o None = tt
of_stored_displaced o (Some p) = of_displaced (λ r y q. i.Std (field 1 y) (field 6 q) (field 5 r)) (λ x y q. refl) (register o.line p.1)
    (displaced_of o.line p.0) o

of_program_row : (d : ℤ) (address : Option (Pointer × Step)) → HasWords 1 (program_row d address)
of_program_row d (Some (Z, Plain)) = refl
of_program_row d (Some (Z, Increment)) = refl
of_program_row d other = tt

of_from_program : (x : OrFault ℤ) (address : Option (Pointer × Step)) → HasWords 1 (from_program x address)
of_from_program (Err why) address = tt
of_from_program (Ok d) address = of_program_row d address

of_pair_from_program : (line : List ℕ) (pair : Option (List Token × List Token)) → HasWords 1 (loaded_from_program line pair)
of_pair_from_program line None = tt
of_pair_from_program line (Some p) = of_from_program _ _

of_program_memory : (line : List ℕ) (parts : List (List Token)) → HasWords 1 (program_memory line parts)
of_program_memory line [] = refl
of_program_memory line (p ∷ ps) = of_pair_from_program line (pair_of (p ∷ ps))

-- the forms whose row has the operands' numbers
abbrev is_by_number : OperandForms → Bool
is_by_number Zero = true
is_by_number (One form) = true
is_by_number (Two form other) = true
is_by_number forms = false

of_numbers : (forms : OperandForms) (name : Mnemonic) (o : Operands) → is_by_number forms ≡ true
    → HasWords (words_of name) (by_forms forms name o)
of_numbers Zero name o h = subst (λ n. HasWords n (none_of (row_of name (pos 0) (pos 0)) o.parts)) (words_of_row name (pos 0) (pos 0))
    (of_none (row_of name (pos 0) (pos 0)) o.parts)
of_numbers (One form) name o h = of_mapped (words_of name) (λ x. row_of name x (pos 0)) (λ x. words_of_row name x (pos 0))
    (one_value form o o.parts)
of_numbers (Two form other) name o h = of_mapped (words_of name) (λ (p : ℤ × ℤ). row_of name p.0 p.1) (λ p. words_of_row name p.0 p.1)
    (two_values form other o (pair_of o.parts))
of_numbers other name o h = absurd cc

pub words_of_instruction : (name : Mnemonic) (o : Operands) → HasWords (words_of name) (instruction_of name o)
unfolding instruction_of
words_of_instruction m.Ld o = of_loaded o.line (pair_of o.parts)
words_of_instruction m.St o = of_stored o.line (pair_of o.parts)
words_of_instruction m.Ldd o = of_loaded_displaced o (pair_of o.parts)
words_of_instruction m.Std o = of_stored_displaced o (pair_of o.parts)
words_of_instruction m.Lpm o = of_program_memory o.line o.parts
words_of_instruction name o = of_numbers (forms_of name) name o refl

-- the same of what a call gave
pub words_of_result : (name : Mnemonic) (o : Operands) (result : OrFault Instr) → result ≡ instruction_of name o → HasWords (words_of name)
    result
words_of_result name o result e = subst (HasWords (words_of name)) (sym e) (words_of_instruction name o)

-- the same of an instruction
pub words_of_made : (name : Mnemonic) (o : Operands) (instr : Instr) → instruction_of name o ≡ Ok instr → row_words instr ≡ words_of name
words_of_made name o instr e = subst (HasWords (words_of name)) e (words_of_instruction name o)
