use Rattle.uz_check.proofs.AcceptedPremises.{premises_hold}
use Rattle.uz_check.proofs.Beginning.{certified_of, begins_with}
use Rattle.uz_check.proofs.ClockRuns.{plays_of}
use Rattle.uz_check.proofs.Headline.{kept_of, holds_along, every_turn_goes}
use Rattle.uz_check.proofs.MainTime.{mains_time}
use Rattle.uz_check.proofs.Premises.{RuleLaws}
use Rattle.uz_check.proofs.ReturnTimes.{returns_hold}
use Rattle.uz_check.proofs.soundness_laws.soundness.Goals as goal

pub returns : goal.returns
returns c =
    let laws : RuleLaws = record {
      alone = c.alone_contained.ensures;
      handler = c.handler_contained.ensures;
      main = c.main_contained.ensures;
      inside = c.state_inside.ensures;
      lies = c.lies_in_point_tells.ensures;
      cover = c.cover_meets.ensures;
    } in
    record {
      certified = λ image cert formed h. certified_of image cert (premises_hold laws image cert formed h);
      begins = λ image cert formed h. begins_with image cert (premises_hold laws image cert formed h);
      kept = λ image cert formed h. kept_of image cert (premises_hold laws image cert formed h);
      along = λ image cert formed h. holds_along image cert (premises_hold laws image cert formed h);
      goes = λ image cert formed h. every_turn_goes image cert (premises_hold laws image cert formed h);
      mains_time = λ image cert formed h. mains_time image cert (premises_hold laws image cert formed h);
      returns = returns_hold;
      plays = plays_of;
    }
