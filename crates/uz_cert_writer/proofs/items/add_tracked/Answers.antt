use Rattle.uz_cert_writer.proofs.{Common.sym, Common.◌∙◌, Steps.cell_added, Steps.cell_passed, Steps.cell_missing}
use Rattle.uz_cert_writer.proofs.items.add_tracked.Goals as goal

pub returns-then-not-tracks : goal.returns-then-not-tracks
returns-then-not-tracks c cells = cell_passed c.args.text.now.items c.args.kind c.args.number c.args.next c.args.cell.now cells
    c.args.facts.now (sym c.tracks.ensures ∙ c.if-not-tracks.true)

pub returns-in_ok-add_cell-in-Some : goal.returns-in_ok-add_cell-in-Some
returns-in_ok-add_cell-in-Some c cells = cell_added c.args.text.now.items c.add_cell.new.text.items c.args.kind c.args.number c.args.next
    c.args.cell.now cells c.args.facts.now c.in-Some.fact.now (sym c.tracks.ensures ∙ c.if-not-tracks.false)
    c.in-Some.ensures.lookup.3.0 c.in-Some.ensures.lookup.1 c.in_ok-add_cell-in-Some.ensures

pub returns-in-None : goal.returns-in-None
returns-in-None c cells = cell_missing c.args.text.now.items c.args.kind c.args.number c.args.next c.args.cell.now cells c.args.facts.now
    c.in-None.ensures.lookup.3
