use Rattle.std.proofs.Common.{refl, subst, []}
use Rattle.uz_console.specs.Consoles.{StandsFor}
use Rattle.uz_schedule.specs.declared.kinds.Response.TheVariants.{Four}
use Rattle.uz_files.specs.RunFiles.{start_of}
use Rattle.uz_certificate_commands.proofs.demo_start.reset_demo.Goals as goal

pub returns-in-Ok-reset : goal.returns-in-Ok-reset
returns-in-Ok-reset c = record {
  same = refl;
  in_range = c.reset_is_in_range.ensures c.args.image [] Four c.is_flash.ensures;
  stands = subst (λ list. StandsFor c.in-Ok-reset.console (start_of c.args.image list Four)) c.new.ensures.items
      c.in-Ok-reset.ensures.stands;
  is_line = c.in-Ok.ensures;
}
