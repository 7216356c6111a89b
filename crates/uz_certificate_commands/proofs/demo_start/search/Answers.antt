use Rattle.std.proofs.Common.{rules, subst, Ok, Err}
use Rattle.std.proofs.lemmas.Result.{IfOk-weaker}
use Rattle.uz_schedule.specs.declared.kinds.Response.TheVariants.{Four}
use Rattle.uz_certificate_commands.specs.SearchLines.{IsWorth}
use Rattle.uz_paths.specs.Finding.{IsAsked}
use Rattle.uz_certificate_commands.specs.DemoValues.{IsPrepared, IsSearched}
use Rattle.uz_certificate_commands.proofs.CertifyLemmas.{allowed_of}
use Rattle.uz_certificate_commands.proofs.DemoLemmas.{ready_found}
use Rattle.uz_certificate_commands.proofs.demo_start.search.Goals as goal
use Rattle.uz_certificate_commands.proofs.demo_start.search.Goals.{In_ok-line-in-Err}

pub returns-in-Ok : goal.returns-in-Ok
returns-in-Ok c =
    let image = c.args.built.image in
    let hints = c.args.built.hints.items in
    let asked = subst (λ h. IsAsked image Four h c.in-Ok.cert) c.as_slice.ensures.value c.in-Ok.ensures.asked in
    IfOk-weaker c.reset_demo.result (IsPrepared image c.in-Ok.cert) (IsSearched image hints)
    (λ start. ready_found image hints c.in-Ok.cert start
    (allowed_of image Four c.as_slice.result.now hints (Ok c.in-Ok.cert) c.find.result c.as_slice.ensures.value c.in-Ok.is
    (c.in-Ok.ensures.accepted.0, c.in-Ok.ensures.accepted.1, asked) c.find.ensures.hint c.find.ensures.complete))
    c.reset_demo.ensures

refusal_worth : (c : In_ok-line-in-Err) → IsWorth c.args.built.image Four c.args.built.hints.items (Err c.in-Err.why)
refusal_worth c = search rules

pub returns-in_ok-line-in-Err : goal.returns-in_ok-line-in-Err
returns-in_ok-line-in-Err c = record {
  why = c.in-Err.why;
  allowed = allowed_of c.args.built.image Four c.as_slice.result.now c.args.built.hints.items (Err c.in-Err.why) c.find.result
      c.as_slice.ensures.value c.in-Err.is (refusal_worth c) c.find.ensures.hint c.find.ensures.complete;
  is_line = c.in_ok-line-in-Err.ensures;
}
