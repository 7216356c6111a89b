use Rattle.std.proofs.Common.{rules, subst, Ok, Err}
use Rattle.uz_paths.specs.Finding.{IsAsked}
use Rattle.uz_certificate_commands.specs.SearchLines.{IsWorth}
use Rattle.uz_certificate_commands.proofs.CertifyLemmas.{allowed_of, found_pair}
use Rattle.uz_certificate_commands.proofs.certify_command.search_built.Goals as goal
use Rattle.uz_certificate_commands.proofs.certify_command.search_built.Goals.{In_ok-line-in-Err}

pub returns-in_ok-pair-in-Ok-clause-found : goal.returns-in_ok-pair-in-Ok-clause-found
returns-in_ok-pair-in-Ok-clause-found c =
    let hints = c.args.built.now.hints.items in
    let asked = subst (λ h. IsAsked c.args.built.now.image c.args.irq h c.in-Ok.cert) c.as_slice.ensures.value c.in-Ok.ensures.asked in
    found_pair c.args.built.now.image c.args.irq hints c.in-Ok.cert c.in_ok-pair-in-Ok.field-0
    (allowed_of c.args.built.now.image c.args.irq c.as_slice.result.now hints (Ok c.in-Ok.cert) c.find.result c.as_slice.ensures.value
    c.in-Ok.is (c.in-Ok.ensures.accepted.0, c.in-Ok.ensures.accepted.1, asked) c.find.ensures.hint c.find.ensures.complete)
    c.in_ok-pair-in-Ok.ensures

refusal_worth : (c : In_ok-line-in-Err) → IsWorth c.args.built.now.image c.args.irq c.args.built.now.hints.items (Err c.in-Err.why)
refusal_worth c = search rules

pub returns-in_ok-line-in-Err : goal.returns-in_ok-line-in-Err
returns-in_ok-line-in-Err c = record {
  found = record {
    why = c.in-Err.why;
    allowed = allowed_of c.args.built.now.image c.args.irq c.as_slice.result.now c.args.built.now.hints.items (Err c.in-Err.why)
        c.find.result c.as_slice.ensures.value c.in-Err.is (refusal_worth c) c.find.ensures.hint
        c.find.ensures.complete;
    is_line = c.in_ok-line-in-Err.ensures;
  };
  lacks = tt;
}
