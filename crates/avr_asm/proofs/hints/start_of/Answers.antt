use Rattle.std.proofs.Common.{◌≡◌, sym, ◌∙◌, ap, arith, if◌then◌else◌}
use Rattle.uz_schedule.specs.declared.kinds.Kind.TheVariants.{Main, Alone}
use Rattle.avr_asm.proofs.HintLemmas.{start_from, start_told, no_start}
use Rattle.avr_asm.proofs.hints.start_of.Goals.{then-is_word, else-is_word}
use Rattle.avr_asm.proofs.hints.start_of.Goals as goal

pub is_word-requires : goal.is_word-requires
is_word-requires c = c.requires 0 _ (omega arith)

pub word_address-requires : goal.word_address-requires
word_address-requires c = c.requires 1 _ (omega arith)

pub returns-in-Ok : goal.returns-in-Ok
returns-in-Ok c =
    let kind : c.if-is_word.kind ≡ (if c.is_word.result then Main else Alone) = elim c.if-is_word.branch [
      | then-is_word w ↦ w.kind-is ∙ sym (ap (λ t. if t then Main else Alone) w.if-is_word.true)
      | else-is_word w ↦ w.kind-is ∙ sym (ap (λ t. if t then Main else Alone) w.if-is_word.false)
    ] in
    ap (start_from c.if-is_word.kind) (sym c.in-Ok.is)
    ∙ start_told c.args.line.now c.args.symbols.now c.args.parts.now _ _ _ _ _ (omega arith) c.is_word.ensures kind c.word_address.ensures

pub returns-in-Err : goal.returns-in-Err
returns-in-Err c =
    let kind : c.if-is_word.kind ≡ (if c.is_word.result then Main else Alone) = elim c.if-is_word.branch [
      | then-is_word w ↦ w.kind-is ∙ sym (ap (λ t. if t then Main else Alone) w.if-is_word.true)
      | else-is_word w ↦ w.kind-is ∙ sym (ap (λ t. if t then Main else Alone) w.if-is_word.false)
    ] in
    ap (start_from c.if-is_word.kind) (sym c.in-Err.is)
    ∙ start_told c.args.line.now c.args.symbols.now c.args.parts.now _ _ _ _ _ (omega arith) c.is_word.ensures kind c.word_address.ensures

pub returns-in_default : goal.returns-in_default
returns-in_default c = no_start c.args.line.now c.args.symbols.now c.args.parts.now (λ two. omega (arith, two))

pub returns-in_default-2 : goal.returns-in_default-2
returns-in_default-2 c = no_start c.args.line.now c.args.symbols.now c.args.parts.now (λ two. omega (arith, two))
