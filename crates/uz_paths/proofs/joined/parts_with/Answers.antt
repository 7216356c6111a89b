use Rattle.std.proofs.Common.{◌∙◌, List, ap, map, subst, sym}
use Rattle.uz_join.specs.Joined.{rest_unnumbered}
use Rattle.uz_join.specs.Coverage.{SaysInstances}
use Rattle.uz_schedule.specs.declared.states.Point.{Point}
use Rattle.uz_paths.proofs.joined.parts_with.Goals as goal

pub returns : goal.returns
returns c = record {
  schedule = c.in-Ok-made_schedule.ensures.made;
  rests = c.in-Ok.ensures ∙ ap (map rest_unnumbered) c.requires.rests;
  enters = c.entry_at.ensures;
  said = subst (λ (ps : List Point). SaysInstances c.args.found.now.nodes.keys ps) (sym (ap (λ v. v.items) c.points_in.ensures))
      c.requires.said;
}
