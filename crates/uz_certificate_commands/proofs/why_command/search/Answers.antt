use Rattle.std.proofs.Common.{inl, refl, rules, subst, Ok, Err}
use Rattle.uz_certificate_commands.specs.SearchLines.{Allowed, IsWorth}
use Rattle.uz_certificate_commands.specs.HintedValues.{hints_seen}
use Rattle.uz_certificate_commands.proofs.CertifyLemmas.{allowed_of}
use Rattle.uz_certificate_commands.proofs.WhyLemmas.{found_told, refusal_told}
use Rattle.uz_certificate_commands.proofs.why_command.search.Goals as goal
use Rattle.uz_certificate_commands.proofs.why_command.search.Goals.{In_ok-line-in-Err}

pub returns-in_ok-line-in-Ok-clause-sought : goal.returns-in_ok-line-in-Ok-clause-sought
returns-in_ok-line-in-Ok-clause-sought c =
    found_told c.args.irq c.args.read.now.image (hints_seen c.args.read.now.hints) c.in-Ok.cert _
    (subst (λ l. Allowed c.args.read.now.image c.args.irq l (Ok c.in-Ok.cert)) c.as_slice.ensures.value
    (allowed_of c.args.read.now.image c.args.irq c.as_slice.result.now c.as_slice.result.now (Ok c.in-Ok.cert) c.find_by_either.result refl
    c.in-Ok.is (c.in-Ok.ensures.accepted.0, c.in-Ok.ensures.accepted.1, c.in-Ok.ensures.asked) c.find_by_either.ensures.hint
    (λ free. c.find_by_either.ensures.complete (inl free))))
    c.in_ok-line-in-Ok.ensures

refusal_worth : (c : In_ok-line-in-Err) → IsWorth c.args.read.now.image c.args.irq c.as_slice.result.now (Err c.in-Err.why)
refusal_worth c = search rules

pub returns-in_ok-line-in-Err-clause-sought : goal.returns-in_ok-line-in-Err-clause-sought
returns-in_ok-line-in-Err-clause-sought c =
    refusal_told c.args.irq c.args.read.now.image (hints_seen c.args.read.now.hints) c.in-Err.why _
    (subst (λ l. Allowed c.args.read.now.image c.args.irq l (Err c.in-Err.why)) c.as_slice.ensures.value
    (allowed_of c.args.read.now.image c.args.irq c.as_slice.result.now c.as_slice.result.now (Err c.in-Err.why) c.find_by_either.result refl
    c.in-Err.is (refusal_worth c) c.find_by_either.ensures.hint
    (λ free. c.find_by_either.ensures.complete (inl free))))
    c.in_ok-line-in-Err.ensures
