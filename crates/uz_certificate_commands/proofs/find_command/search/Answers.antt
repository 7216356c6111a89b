use Rattle.std.proofs.Common.{inl, refl, rules, Ok, Err}
use Rattle.uz_certificate_commands.specs.SearchLines.{IsWorth}
use Rattle.uz_certificate_commands.proofs.CertifyLemmas.{allowed_of}
use Rattle.uz_certificate_commands.proofs.find_command.search.Goals as goal
use Rattle.uz_certificate_commands.proofs.find_command.search.Goals.{In_ok-line-in-Err}

pub returns-in_ok-work-in-Ok-clause-sought : goal.returns-in_ok-work-in-Ok-clause-sought
returns-in_ok-work-in-Ok-clause-sought c = record {
  cert = c.in-Ok.cert;
  allowed = allowed_of c.args.image.now c.args.irq c.args.hints.now c.args.hints.now (Ok c.in-Ok.cert) c.find_by_either.result
      refl c.in-Ok.is (c.in-Ok.ensures.accepted.0, c.in-Ok.ensures.accepted.1, c.in-Ok.ensures.asked) c.find_by_either.ensures.hint
      (λ free. c.find_by_either.ensures.complete (inl free));
  of = c.in_ok-work-in-Ok.ensures;
}

refusal_worth : (c : In_ok-line-in-Err) → IsWorth c.args.image.now c.args.irq c.args.hints.now (Err c.in-Err.why)
refusal_worth c = search rules

pub returns-in_ok-line-in-Err-clause-sought : goal.returns-in_ok-line-in-Err-clause-sought
returns-in_ok-line-in-Err-clause-sought c = record {
  why = c.in-Err.why;
  allowed = allowed_of c.args.image.now c.args.irq c.args.hints.now c.args.hints.now (Err c.in-Err.why) c.find_by_either.result
      refl c.in-Err.is (refusal_worth c) c.find_by_either.ensures.hint
      (λ free. c.find_by_either.ensures.complete (inl free));
  status = refl;
  is_line = c.in_ok-line-in-Err.ensures;
}
