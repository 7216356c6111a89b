use Rattle.std.proofs.Common.{◌≡◌, ◌+◌, ◌++◌, ◌%◌, ap, arith, ◌∙◌}
use Rattle.uz_debug.specs.Debuggers.{read_of}
use Rattle.uz_debug.specs.SessionText.{bytes_text}
use Rattle.uz_debug.proofs.TextLemmas.{bytes_more}
use Rattle.uz_debug.proofs.session_lines.add_bytes.Goals as goal

pub loop-n-preserved : goal.loop-n-preserved
loop-n-preserved c =
    bytes_more (read_of c.args.console.now) c.args.at c.loop-n.n ((c.args.at + c.from.result) % 65536) c.args.text.now.items
    c.gap_before.result.now c.loop-n.text.items c.add_byte.new.text.items
    c.loop-n.invariant c.gap_before.ensures c.in_ok-add_byte.ensures (ap (λ n. (c.args.at + n) % 65536) c.from.ensures)

pub returns : goal.returns
returns c =
    let all : c.loop-n.n ≡ c.args.count = omega arith in
    c.loop-n.invariant ∙ ap (λ n. c.args.text.now.items ++ bytes_text (read_of c.args.console.now) c.args.at n) all
