use Rattle.std.proofs.Common.{◌≡◌, ◌∙◌, ap, refl}
use Rattle.std.specs.FinMap as map
use Rattle.uz_debug.specs.Checkpoints.{turn_of}
use Rattle.uz_debug.proofs.DebuggerLemmas.{slots_kept, save_session, kept_slots}
use Rattle.uz_debug.proofs.debugger.Debugger.save.Goals as goal

pub returns : goal.returns
returns c = λ start k.
    let turn : c.turn.result ≡ turn_of c.args.self.now.timeline = c.turn.ensures.turn ∙ c.mark.ensures.turn in
    let slots : c.keep.new.self ≡ map.insert c.args.self.now.slots c.args.slot (turn_of c.args.self.now.timeline) = c.keep.ensures
    ∙ ap (map.insert c.args.self.now.slots c.args.slot) turn in
    let old = k.timeline.here in (
      (refl, save_session c.args.self.now c.mark.new.self c.keep.new.self c.args.slot c.mark.ensures.turn slots),
      record {
        timeline = c.mark.ensures.keeps start k.timeline;
        slots = kept_slots start c.keep.new.self (map.insert c.args.self.now.slots c.args.slot (turn_of c.args.self.now.timeline)) slots
            (slots_kept start c.args.self.now.slots c.args.slot (turn_of c.args.self.now.timeline) k.slots (old.0, old.1));
      },
    )
