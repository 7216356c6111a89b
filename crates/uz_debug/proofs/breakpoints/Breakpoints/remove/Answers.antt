use Rattle.std.proofs.Common.{ap, ◌∙◌, sym}
use Rattle.std.specs.FinSet as set
use Rattle.uz_debug.proofs.MarkLemmas.{counted_less, counted_some}
use Rattle.uz_debug.proofs.breakpoints.Breakpoints.remove.Goals as goal

pub overflow_sub-self : goal.overflow_sub-self
overflow_sub-self c =
    counted_some c.self.inside.marks.items c.self.inside.count c.args.pc c.self.invariant
    (ap (λ s. set.contains s c.args.pc) c.self.view_is ∙ (sym c.contains.ensures ∙ c.if-not-contains.false))

pub invariant_of-self : goal.invariant_of-self
invariant_of-self c =
    counted_less c.self.inside.marks.items c.self.inside.count c.args.pc c.self.invariant c.requires
    (ap (λ s. set.contains s c.args.pc) c.self.view_is ∙ (sym c.contains.ensures ∙ c.if-not-contains.false))
