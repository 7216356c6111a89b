use Rattle.std.proofs.Common.{map, sym, subst, if◌then◌else◌}
use Rattle.std.specs.List.{flat_map}
use Rattle.uz_search.specs.Following.{Among, entries}
use Rattle.uz_search.specs.Widened.{widened}
use Rattle.uz_search.proofs.Lists.{in_map}
use Rattle.uz_paths.specs.Linked.{pieces_at}
use Rattle.uz_paths.proofs.certificate.nodes_are_searched.Goals as goal

pub returns : goal.returns
returns c = record {
  fits = c.requires.fits;
  stand = λ x node. c.nodes_are_reached.ensures.stand c.args.image.now c.args.program.now c.args.found.now x c.requires.fits
      c.requires.ended node;
  closed = λ x y result node after on there. c.nodes_are_reached.ensures.closed c.args.image.now c.args.program.now c.args.found.now x
      (widened c.args.program.now y) c.requires.ended node (record {
        next = result;
        after = after;
        is = subst (λ b. Among (if b then flat_map (entries c.args.program.now) result.out.items else map (widened c.args.program.now)
            (pieces_at c.args.program.now x result)) (widened c.args.program.now y)) (sym on)
            (there.0, in_map (widened c.args.program.now) (pieces_at c.args.program.now x result) there.0 y there.1);
      });
}
