use Rattle.std.proofs.Common.{◌<◌, length, sym, ◌∙◌, ap, inr, rules}
use Rattle.uz_pads.specs.Lines.{kind_of}
use Rattle.uz_pads.proofs.LineLemmas.{read_blank, read_pair, read_all, count_fault}
use Rattle.uz_pads.proofs.reading.read_pieces.Goals as goal
use Rattle.uz_pads.proofs.reading.read_pieces.Goals.{in-Blank, in-Pair+else-len-eq-MAX_PAIRS+in_ok-push-in-Pair}

pub returns-then-len-eq-MAX_PAIRS-clause-refused : goal.returns-then-len-eq-MAX_PAIRS-clause-refused
returns-then-len-eq-MAX_PAIRS-clause-refused c =
    inr (count_fault c.args.pieces.now c.loop-at.at c.loop-at.list.items c.in-Pair.pad (search rules) (ap kind_of (sym c.line_at.ensures)
    ∙ sym c.in-Pair.ensures) (search rules) c.loop-at.invariant)

pub loop-at-preserved : goal.loop-at-preserved
loop-at-preserved c =
    let here : c.loop-at.at < length c.args.pieces.now = search rules in
    elim c.match-line_kind.branch [
      | in-Blank w ↦ rw w.list-is (read_blank c.args.pieces.now c.loop-at.at c.loop-at.list.items here (ap kind_of (sym c.line_at.ensures)
          ∙ sym w.in-Blank.ensures) c.loop-at.invariant)
      | in-Pair+else-len-eq-MAX_PAIRS+in_ok-push-in-Pair w ↦
          rw w.list-is (rw w.in_ok-push-in-Pair.ensures.items (read_pair c.args.pieces.now c.loop-at.at c.loop-at.list.items w.in-Pair.pad
          here (ap kind_of (sym c.line_at.ensures) ∙ sym w.in-Pair.ensures) (search rules) c.loop-at.invariant))
    ]

pub returns-clause-read : goal.returns-clause-read
returns-clause-read c = read_all c.args.pieces.now c.loop-at.at c.loop-at.list.items c.loop-at-test.false c.loop-at.invariant
