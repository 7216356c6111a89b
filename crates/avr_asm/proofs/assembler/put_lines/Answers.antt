use Rattle.std.proofs.Common.{◌≡◌, ◌⊎◌, map, subst, Ok, Err}
use Rattle.avr_text.specs.declared.errors.AsmWhy.TheVariants.{Memory}
use Rattle.avr_asm.specs.Assembly.{Output, output_from, seen_built}
use Rattle.avr_asm.specs.Taken.{over}
use Rattle.avr_asm.proofs.assembler.put_lines.Goals as goal

pub returns-in-Ok-clause-built : goal.returns-in-Ok-clause-built
returns-in-Ok-clause-built c =
    let start : seen_built (record { image = c.args.taken; items = c.new.result; hints = c.new-2.result }) ≡ over c.args.taken =
    λ i. record { image = c.args.taken; items = c.new.ensures.items i; hints = c.new-2.ensures.items i } in
    subst (λ (out : Output). output_from 1 c.args.symbols.now out (map (λ line. line.now) c.args.lines.now) c.args.addresses.now
    ≡ Ok (seen_built c.put_each.new.built)) start c.in-Ok.ensures.built

pub returns-in-Err-clause-built : goal.returns-in-Err-clause-built
returns-in-Err-clause-built c =
    let start : seen_built (record { image = c.args.taken; items = c.new.result; hints = c.new-2.result }) ≡ over c.args.taken =
    λ i. record { image = c.args.taken; items = c.new.ensures.items i; hints = c.new-2.ensures.items i } in
    subst (λ (out : Output). (c.in-Err.error.why ≡ Memory)
    ⊎ (output_from 1 c.args.symbols.now out (map (λ line. line.now) c.args.lines.now) c.args.addresses.now
    ≡ Err c.in-Err.error)) start c.in-Err.ensures.built
