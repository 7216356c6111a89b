use Rattle.std.proofs.Common.{sym, ◌∙◌, arith}
use Rattle.avr_asm.specs.Lines.{is_content}
use Rattle.avr_asm.proofs.LineLemmas.{passes_no_more}
use Rattle.avr_asm.proofs.lines.content_len.Goals as goal

pub returns-then-not-is_content : goal.returns-then-not-is_content
returns-then-not-is_content c = record {
  len = omega (
    arith,
    passes_no_more is_content c.args.tokens.now c.loop-n.n _ c.loop-n-test.true
        (sym c.is_content.ensures ∙ c.if-not-is_content.true),
    c.loop-n.invariant,
  );
}
