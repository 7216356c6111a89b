use Rattle.std.proofs.Common.{ap, ◌∙◌, sym}
use Rattle.std.specs.FinSet as set
use Rattle.uz_debug.proofs.MarkLemmas.{counted_more}
use Rattle.uz_debug.proofs.breakpoints.Breakpoints.insert.Goals as goal

pub invariant_of-self : goal.invariant_of-self
invariant_of-self c =
    counted_more c.self.inside.marks.items c.self.inside.count c.args.pc c.self.invariant c.requires
    (ap (λ s. set.contains s c.args.pc) c.self.view_is ∙ (sym c.contains.ensures ∙ c.if-contains.false)) c.if-self-eq-MOST.false
