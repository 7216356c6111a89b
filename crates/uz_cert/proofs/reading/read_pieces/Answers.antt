use Rattle.uz_cert.proofs.Common.{inl, inr, ◌+◌, ◌<◌, ◌^◌, ap, sym, ◌∙◌, subst, arith, Result, Cert, CertWhy, Fault, bytes_left}
use Rattle.uz_cert.proofs.Common.{pieces_left, pieces_of, read_from}
use Rattle.std.proofs.Common.{Err}
use Rattle.std.specs.Prelude.{ℕ}
use Rattle.uz_cert.proofs.{Whole.gives_fits, Steps.step_on, Steps.step_fault}
use Rattle.uz_cert.proofs.reading.read_pieces.Goals as goal

abbrev fault : ℕ → CertWhy → Result Cert Fault
fault n w = Err (n, w)

pub returns-in-Err : goal.returns-in-Err
returns-in-Err c =
    let draft = c.loop-left.draft in
    record {
      gives =
          elim c.in-Err.ensures.err [
            | inl m ↦ inl m
            | inr f ↦ inr (sym c.loop-left.invariant.same ∙ (ap (λ o. read_from draft (pieces_left o)) c.in-Some.is
                ∙ (step_fault draft c.in-Some-expected_line.expected c.cut_line.result.0.now (pieces_of c.in-Some.text.now)
                (pieces_left c.cut_line.result.1) c.is_left.result
                c.in-Err.error.why c.cut_line.ensures.pieces (sym c.expected_line.ensures ∙ c.in-Some-expected_line.is) c.is_left.ensures f.1
                ∙ ap (λ n. fault n c.in-Err.error.why) (sym f.0))))
          ];
      well_formed = tt;
    }

pub returns-in-None-clause-well_formed : goal.returns-in-None-clause-well_formed
returns-in-None-clause-well_formed c =
    gives_fits c.loop-left.draft c.cut_line.result.0.now (pieces_left c.cut_line.result.1) c.finish.result c.loop-left.invariant.kept
    (sym c.expected_line.ensures ∙ c.in-None.is) c.finish.ensures

pub loop-left-preserved : goal.loop-left-preserved
loop-left-preserved c =
    let draft = c.loop-left.draft in
    let held = subst (λ o. draft.read + bytes_left o < 2 ^ 32) c.in-Some.is c.loop-left.invariant.few in
    let fewer = c.cut_line.ensures.fewer in
    let read = c.in-Ok.ensures.read in
    record {
      same =
          step_on draft c.take.new.self c.in-Some-expected_line.expected c.cut_line.result.0.now (pieces_of c.in-Some.text.now)
          (pieces_left c.cut_line.result.1) c.is_left.result
          c.cut_line.ensures.pieces (sym c.expected_line.ensures ∙ c.in-Some-expected_line.is) c.is_left.ensures c.in-Ok.ensures.ok
          ∙ (ap (λ o. read_from draft (pieces_left o)) (sym c.in-Some.is) ∙ c.loop-left.invariant.same);
      kept = c.in-Ok.ensures.kept;
      few = omega (arith, held, fewer, read);
    }
