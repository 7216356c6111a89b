use Rattle.std.proofs.Common.{◌<◌, ◌+◌, inl, sym, ◌∙◌, subst, arith}
use Rattle.avr_asm.specs.Assembly.{seen_built}
use Rattle.avr_asm.proofs.LayoutLemmas.{told_fault}
use Rattle.avr_asm.proofs.AssemblyLemmas.{output_more, output_fault, output_end}
use Rattle.avr_asm.proofs.assembler.put_each.Goals as goal

pub bounds-addresses-i : goal.bounds-addresses-i
bounds-addresses-i c = subst (λ n. c.loop-i.i < n) (sym c.requires.same) c.loop-i-test.true

pub put_line-requires-clause-address : goal.put_line-requires-clause-address
put_line-requires-clause-address c =
    c.requires.below c.loop-i.i _ (subst (λ n. c.loop-i.i < n) (sym c.requires.same) c.loop-i-test.true)

pub returns-in-Err-clause-built : goal.returns-in-Err-clause-built
returns-in-Err-clause-built c = inl c.in-Err.ensures

pub returns-in-Err-following_line-clause-built : goal.returns-in-Err-following_line-clause-built
returns-in-Err-following_line-clause-built c = inl c.in-Err-following_line.ensures

pub returns-in-Err-put_line-clause-built : goal.returns-in-Err-put_line-clause-built
returns-in-Err-put_line-clause-built c = told_fault _ _ _ _ _ c.in-Err-put_line.ensures (λ e. sym c.loop-i.invariant.left
    ∙ output_fault _ _ _ _ _ _ _ _ c.loop-i-test.true c.requires.same c.in-Ok-following_line.ensures e)
    c.in_line.ensures.why c.in_line.ensures.line

pub loop-i-preserved : goal.loop-i-preserved
loop-i-preserved c = record {
  following = c.in-Ok-following_line.ensures;
  left =
      output_more _ _ _ _ _ _ _ _ c.loop-i-test.true c.requires.same c.in-Ok-following_line.ensures c.in_default.ensures
      ∙ c.loop-i.invariant.left;
}

pub returns-clause-built : goal.returns-clause-built
returns-clause-built c = sym c.loop-i.invariant.left ∙ output_end (c.loop-i.i + 1) c.args.symbols.now (seen_built c.loop-i.built)
    c.args.lines.now c.args.addresses.now c.loop-i.i (omega arith)
