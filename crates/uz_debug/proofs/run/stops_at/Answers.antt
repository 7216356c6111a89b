use Rattle.std.proofs.Common.{Bor, subst, sym}
use Rattle.std.specs.Prelude.{MatchBool, Option}
use Rattle.std.specs.Ordering.{nat_cmp}
use Rattle.std.specs.FinSet as set
use Rattle.uz_debug.specs.Sessions.{IsBreak}
use Rattle.uz_debug.specs.Timelines.{stops_of}
use Rattle.uz_debug.proofs.RunLemmas.{heeded, none_heeded}
use Rattle.uz_debug.proofs.run.stops_at.Goals as goal

pub returns-in-Some : goal.returns-in-Some
returns-in-Some c = λ start turn at.
    subst (λ (stops : Option (Bor (set.FinSet nat_cmp))). MatchBool c.contains.result (IsBreak start (stops_of stops) turn)
    (IsBreak start (stops_of stops) turn → ⊥)) (sym c.in-Some.is)
    (heeded start c.in-Some.breakpoints.now turn c.pc.result c.contains.result c.args.console.now c.pc.ensures.stands c.contains.ensures at)

pub returns-in-None : goal.returns-in-None
returns-in-None c = λ start turn at.
    subst (λ (stops : Option (Bor (set.FinSet nat_cmp))). IsBreak start (stops_of stops) turn → ⊥) (sym c.in-None.is)
    (none_heeded start turn)
