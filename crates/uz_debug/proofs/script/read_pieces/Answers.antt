use Rattle.std.proofs.Common.{◌<◌, length, sym, ◌∙◌, ap, subst, inr, rules}
use Rattle.std.proofs.lemmas.List.Elements.{All-push}
use Rattle.uz_debug.specs.Scripts.{kind_of, IsLineInRange}
use Rattle.uz_debug.specs.Sessions.{IsInRange}
use Rattle.uz_debug.proofs.ScriptLemmas.{read_blank, read_command, read_all, count_fault, faulty}
use Rattle.uz_debug.proofs.script.read_pieces.Goals as goal
use Rattle.uz_debug.proofs.script.read_pieces.Goals.{in-Blank, in-Command+else-len-eq-MOST_COMMANDS+in_ok-push-in-Command}

pub returns-then-len-eq-MOST_COMMANDS-clause-refused : goal.returns-then-len-eq-MOST_COMMANDS-clause-refused
returns-then-len-eq-MOST_COMMANDS-clause-refused c =
    inr (count_fault c.args.pieces.now c.loop-at.at c.loop-at.list.items c.in-Command.command (search rules)
    (ap kind_of (sym c.line_at.ensures) ∙ (sym c.in_ok-kind.ensures.line ∙ c.in-Command.is)) (search rules) c.loop-at.invariant.read)

pub returns-in-Faulty-clause-refused : goal.returns-in-Faulty-clause-refused
returns-in-Faulty-clause-refused c =
    inr (faulty c.args.pieces.now c.loop-at.at c.loop-at.list.items c.in-Faulty.why (search rules) (ap kind_of (sym c.line_at.ensures)
    ∙ (sym c.in_ok-kind.ensures.line ∙ c.in-Faulty.is)) c.loop-at.invariant.read)

pub returns-in-Faulty-clause-memory : goal.returns-in-Faulty-clause-memory
returns-in-Faulty-clause-memory c = λ e. absurd (subst IsLineInRange c.in-Faulty.is c.in_ok-kind.ensures.range e)

pub loop-at-preserved : goal.loop-at-preserved
loop-at-preserved c =
    let here : c.loop-at.at < length c.args.pieces.now = search rules in
    elim c.match-branch-2.branch [
      | in-Blank w ↦ rw w.list-is (record {
        read = read_blank c.args.pieces.now c.loop-at.at c.loop-at.list.items here (ap kind_of (sym c.line_at.ensures)
            ∙ (sym c.in_ok-kind.ensures.line ∙ w.in-Blank.is)) c.loop-at.invariant.read;
        range = c.loop-at.invariant.range;
      })
      | in-Command+else-len-eq-MOST_COMMANDS+in_ok-push-in-Command w ↦
          let range : IsInRange w.in-Command.command = subst IsLineInRange w.in-Command.is c.in_ok-kind.ensures.range in
          rw w.list-is (rw w.in_ok-push-in-Command.ensures.items (record {
            read = read_command c.args.pieces.now c.loop-at.at c.loop-at.list.items w.in-Command.command here
                (ap kind_of (sym c.line_at.ensures) ∙ (sym c.in_ok-kind.ensures.line ∙ w.in-Command.is)) (search rules)
                c.loop-at.invariant.read;
            range = All-push IsInRange c.loop-at.list.items w.in-Command.command c.loop-at.invariant.range range;
          }))
    ]

pub returns-clause-read : goal.returns-clause-read
returns-clause-read c = read_all c.args.pieces.now c.loop-at.at c.loop-at.list.items c.loop-at-test.false c.loop-at.invariant.read
