-- The hints by the places of their operands.
use Rattle.std.proofs.Common.{◌≡◌, ℕ, Bool, List, [], ◌∷◌, Bor, length, get_or, map, refl, arith, Err, codes, if◌then◌else◌}
use Rattle.avr_text.specs.declared.tokens.Token.{Token}
use Rattle.avr_text.specs.Names.{NameMap}
use Rattle.avr_text.specs.declared.errors.AsmWhy.TheVariants.{Directive}
use Rattle.avr_text.specs.Faults.{OrFault}
use Rattle.avr_text.specs.Operands.{both}
use Rattle.avr_asm.specs.declared.output.Hint.{Hint}
use Rattle.avr_asm.specs.declared.output.Hint.TheVariants as hint
use Rattle.avr_asm.specs.Hints.{byte, bytes_at, fact_address, fact_at, fact_hint, half_hint, handler_cell_hint, lines_hint, mapped, part_at}
use Rattle.avr_asm.specs.Hints.{place_of, ranged, short, shorts_at, stack_hint, start_hint, word_address}
use Rattle.avr_asm.specs.Layout.{is_word}
use Rattle.uz_schedule.specs.declared.kinds.Kind.{Kind}
use Rattle.uz_schedule.specs.declared.kinds.Kind.TheVariants.{Main, Handler, Alone}
use Rattle.std.proofs.lemmas.Bool.Decides.{nat_tests}

two : (parts : List (Bor (List Token))) (d e : Bor (List Token)) → length parts ≡ 2
    → (get_or parts 0 d).now ∷ (get_or parts 1 e).now ∷ [] ≡ map (λ p. p.now) parts
two (p ∷ q ∷ []) d e h = refl
two other d e h = absurd (omega arith)

-- two numbers of 16 bits
shorts_are : (line : List ℕ) (symbols : NameMap) (first second : List Token) (low high : OrFault ℕ) (range : OrFault (ℕ × ℕ))
    → low ≡ short line symbols first → high ≡ short line symbols second → range ≡ both low high
    → range ≡ both (short line symbols first) (short line symbols second)
shorts_are line symbols first second low high range low_is high_is range_is = cc

abbrev pub half_from : OrFault (ℕ × ℕ) → OrFault Hint
half_from range = mapped range (λ p. hint.Half p.0 p.1)

abbrev pub lines_from : OrFault (ℕ × ℕ) → OrFault Hint
lines_from range = mapped range (λ p. hint.Lines p.0 p.1)

pub half_told : (line : List ℕ) (symbols : NameMap) (parts : List (Bor (List Token))) (d e : Bor (List Token))
    (low high : OrFault ℕ) (range : OrFault (ℕ × ℕ)) → length parts ≡ 2 → low ≡ short line symbols (get_or parts 0 d).now
    → high ≡ short line symbols (get_or parts 1 e).now → range ≡ both low high
    → half_from range ≡ half_hint line symbols (map (λ p. p.now) parts)
half_told line symbols parts d e low high range len low_is high_is range_is =
    cc (shorts_are line symbols (get_or parts 0 d).now (get_or parts 1 e).now low high range low_is high_is range_is, two parts d e len)

pub lines_told : (line : List ℕ) (symbols : NameMap) (parts : List (Bor (List Token))) (d e : Bor (List Token))
    (low high : OrFault ℕ) (range : OrFault (ℕ × ℕ)) → length parts ≡ 2 → low ≡ short line symbols (get_or parts 0 d).now
    → high ≡ short line symbols (get_or parts 1 e).now → range ≡ both low high
    → lines_from range ≡ lines_hint line symbols (map (λ p. p.now) parts)
lines_told line symbols parts d e low high range len low_is high_is range_is =
    cc (shorts_are line symbols (get_or parts 0 d).now (get_or parts 1 e).now low high range low_is high_is range_is, two parts d e len)

pub fact_told : (line : List ℕ) (symbols : NameMap) (parts : List (List Token)) (following : ℕ) (first : List Token) (at place : OrFault ℕ)
    (range : OrFault (ℕ × ℕ)) (hint : OrFault Hint) → at ≡ fact_address line symbols parts following → place ≡ place_of line first
    → first ≡ part_at parts 0 → range ≡ shorts_at line symbols parts 1 → hint ≡ fact_at at place range
    → hint ≡ fact_hint line symbols parts following
fact_told line symbols parts following first at place range hint at_is place_is first_is range_is hint_is = cc

-- the stack's ranges
abbrev pub stack_from : OrFault ((ℕ × ℕ) × (ℕ × ℕ)) → OrFault Hint
stack_from ranges = mapped ranges (λ p. hint.Stack p.0.0 p.0.1 p.1.0 p.1.1)

pub stack_told : (line : List ℕ) (symbols : NameMap) (parts : List (List Token)) (cells depths : OrFault (ℕ × ℕ))
    (ranges : OrFault ((ℕ × ℕ) × (ℕ × ℕ))) → cells ≡ shorts_at line symbols parts 0 → depths ≡ bytes_at line symbols parts 2
    → ranges ≡ both cells depths → stack_from ranges ≡ stack_hint line symbols parts
stack_told line symbols parts cells depths ranges cells_are depths_are ranges_are = cc

-- the address and the range of a cell
pub range_told : (line : List ℕ) (symbols : NameMap) (parts : List (List Token)) (first : List Token) (at : OrFault ℕ)
    (bounds : OrFault (ℕ × ℕ)) (range : OrFault (ℕ × (ℕ × ℕ))) → at ≡ short line symbols first → first ≡ part_at parts 0
    → bounds ≡ bytes_at line symbols parts 2 → range ≡ both at bounds → range ≡ ranged line symbols parts
unfolding ranged
range_told line symbols parts first at bounds range at_is first_is bounds_are range_is = cc

-- a cell of the handler
abbrev pub cell_from : OrFault ((ℕ × (ℕ × ℕ)) × ℕ) → OrFault Hint
cell_from cell = mapped cell (λ p. hint.Cell p.0.0 Handler p.0.1.0 p.0.1.1 p.1)

pub cell_told : (line : List ℕ) (symbols : NameMap) (parts : List (List Token)) (last : List Token) (range : OrFault (ℕ × (ℕ × ℕ)))
    (first : OrFault ℕ) (cell : OrFault ((ℕ × (ℕ × ℕ)) × ℕ)) → range ≡ ranged line symbols parts → first ≡ byte line symbols last
    → last ≡ part_at parts 4 → cell ≡ both range first → cell_from cell ≡ handler_cell_hint line symbols parts
cell_told line symbols parts last range first cell range_is first_is last_is cell_is = cc

-- a start
abbrev pub start_from : Kind → OrFault ℕ → OrFault Hint
start_from kind at = mapped at (λ a. hint.Start kind a)

pub start_told : (line : List ℕ) (symbols : NameMap) (parts : List (Bor (List Token))) (d e : Bor (List Token)) (kind : Kind) (test : Bool)
    (at : OrFault ℕ) → length parts ≡ 2 → test ≡ is_word (codes "main") line (get_or parts 0 d).now
    → kind ≡ (if test then Main else Alone) → at ≡ word_address line symbols (get_or parts 1 e).now
    → start_from kind at ≡ start_hint line symbols (map (λ p. p.now) parts)
start_told line symbols parts d e kind test at len test_is kind_is at_is = grind (arith, nat_tests, two parts d e len)

pub no_start : (line : List ℕ) (symbols : NameMap) (parts : List (Bor (List Token))) → (length parts ≡ 2 → ⊥)
    → Err Directive ≡ start_hint line symbols (map (λ p. p.now) parts)
no_start line symbols (p ∷ q ∷ []) h = absurd (h refl)
no_start line symbols other h = refl
