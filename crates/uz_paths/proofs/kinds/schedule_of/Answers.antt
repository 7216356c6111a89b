use Rattle.std.proofs.Common.{List, [], refl, sym, subst, arith, ℕ}
use Rattle.uz_schedule.specs.declared.lines.Event.{Event}
use Rattle.uz_paths.proofs.KindLemmas.{AreMade, made_none, made_more, schedule_made}
use Rattle.uz_paths.proofs.kinds.schedule_of.Goals as goal

pub loop-line-init : goal.loop-line-init
loop-line-init c =
    let marks = c.args.marks.now in
    let frame = c.args.frame.now in
    subst (λ (ns : List ℕ). AreMade marks frame 0 ns c.new-kinds.result.items c.new-lengths.result.items) (sym c.new-numbers.ensures.items)
    (subst (λ (ks : List (List Event)). AreMade marks frame 0 [] ks c.new-lengths.result.items) (sym c.new-kinds.ensures.items)
    (subst (λ (ns : List ℕ). AreMade marks frame 0 [] [] ns) (sym c.new-lengths.ensures.items) (made_none marks frame)))

pub loop-line-preserved : goal.loop-line-preserved
loop-line-preserved c = made_more c.args.marks.now c.args.frame.now c.loop-line.line c.in_ok-number.number c.loop-line.numbers.items
    c.push.new.self.items c.loop-line.kinds.items c.number_of.new.kinds.items c.loop-line.lengths.items c.number_of.new.lengths.items
    c.in_ok-events.events c.length-clocks.result c.loop-line.invariant c.in_ok-number.ensures c.in_ok-push.ensures.items c.length-clocks.ensures
    c.in_ok-events.ensures

pub returns : goal.returns
returns c =
    let past = c.loop-line-test.false in
    schedule_made c.args.marks.now c.args.frame.now c.loop-line.line c.loop-line.numbers.items c.loop-line.kinds.items
    c.loop-line.lengths.items _ c.from_vec-3.ensures c.from_vec.ensures c.from_vec-2.ensures (omega arith) refl c.loop-line.invariant
