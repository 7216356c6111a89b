use Rattle.uz_join.proofs.Common.{refl, subst, IfSome, IsWhollyTold}
use Rattle.uz_join.proofs.PutLemmas.{box_left_out, box_put}
use Rattle.uz_join.proofs.replacing.Replacing.begin_box.Goals as goal

pub returns-in_ok-push-in-Some : goal.returns-in_ok-push-in-Some
returns-in_ok-push-in-Some c = λ points i.
    box_put points i c.args.self.now
    (record {
      left = c.args.self.now.left;
      begun = c.saturating_add-self.result;
      joined = c.push.new.self;
    })
    c.in-Some.point
    (subst (λ left. IsWhollyTold left c.in-Some.point) c.as_slice.ensures.value
    (subst (λ o. IfSome o (IsWhollyTold c.as_slice.result.now)) c.in-Some.is c.in_ok-point.ensures))
    c.in_ok-push-in-Some.ensures.items refl

pub returns-in-None : goal.returns-in-None
returns-in-None c = λ points i.
    box_left_out points i c.args.self.now
    (record {
      left = c.args.self.now.left;
      begun = c.saturating_add-self-in-None.result;
      joined = c.args.self.now.joined;
    }) refl refl
