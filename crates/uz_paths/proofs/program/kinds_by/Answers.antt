use Rattle.std.proofs.Common.{◌≡◌, ◌∙◌, ◌+◌, Some, ap, drop, if◌then◌else◌, length, subst, sym}
use Rattle.std.specs.Prelude.{slice_get}
use Rattle.uz_paths.specs.Words.{is_half}
use Rattle.uz_paths.specs.ProgramOf.{kind_by}
use Rattle.uz_paths.proofs.MakeLemmas.{written}
use Rattle.uz_paths.proofs.ProgramLemmas.{one_more}
use Rattle.uz_paths.proofs.program.kinds_by.Goals as goal

pub loop-hint-preserved : goal.loop-hint-preserved
loop-hint-preserved c =
    let hints = c.args.hints.now in
    let new = c.put_half.new.kinds in
    let count = c.put_half.ensures.count ∙ ap length c.as_mut_slice.ensures.value in
    let same = written c.loop-hint.kinds.items new c.loop-hint.kinds.len (count ∙ sym c.loop-hint.kinds.ok.0) in
    record {
      count = ap length same ∙ (count ∙ c.loop-hint.invariant.count);
      each = λ line low. subst (λ ns. (if is_half line (drop (c.loop-hint.hint-index + 1) hints) then Some 1 else slice_get ns line)
          ≡ Some (kind_by hints line)) (sym same)
          (one_more hints c.loop-hint.hint-index c.args.lines line _ c.loop-hint.kinds.items _ new _ c.loop-hint-test.true
          c.as_mut_slice.ensures.value c.loop-hint.invariant.count c.put_half.ensures low (c.loop-hint.invariant.each line low));
    }
