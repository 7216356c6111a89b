use Rattle.std.proofs.Common.{◌++◌, ◌∷◌, [], sym, ◌∙◌, ap}
use Rattle.uz_schedule.proofs.Searched.{sync_put, other_put}
use Rattle.uz_schedule.proofs.line_events.LineEvents.push.Goals as goal

pub invariant_of-self-in_default : goal.invariant_of-self-in_default
invariant_of-self-in_default c = sync_put c.self.inside.events.items c.self.inside.syncs.items c.push.new.self.items
    c.push-then-is_sync.new.self.items c.args.event c.self.invariant (sym c.is_sync.ensures ∙ c.if-is_sync.true)
    c.in_ok-push.ensures.items c.in_default.ensures.items

pub invariant_of-self-else-is_sync : goal.invariant_of-self-else-is_sync
invariant_of-self-else-is_sync c = other_put c.self.inside.events.items c.self.inside.syncs.items c.push.new.self.items c.args.event
    c.self.invariant (sym c.is_sync.ensures ∙ c.if-is_sync.false) c.in_ok-push.ensures.items

pub returns-in_default-clause-ok : goal.returns-in_default-clause-ok
returns-in_default-clause-ok c = c.in_ok-push.ensures.items ∙ ap (λ es. es ++ c.args.event ∷ []) c.self.view_is

pub returns-else-is_sync-clause-ok : goal.returns-else-is_sync-clause-ok
returns-else-is_sync-clause-ok c = c.in_ok-push.ensures.items ∙ ap (λ es. es ++ c.args.event ∷ []) c.self.view_is
