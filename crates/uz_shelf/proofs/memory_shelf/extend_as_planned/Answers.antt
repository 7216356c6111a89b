use Rattle.std.proofs.Common.{ℕ, List, Option, Some, Ok, Err, Result, length, min, take, ◌≡◌, ◌≤◌, arith, sym, ◌∙◌, ap, subst}
use Rattle.std.proofs.lemmas.List.{length-take, take-take, take_min}
use Rattle.std.specs.Prelude.{OnErr}
use Rattle.uz_shelf.specs.Files.{AppendsAll, AppendsPrefix}
use Rattle.uz_shelf.specs.InMemory.{files_of, open_in}
use Rattle.uz_shelf.specs.Planned.{kept_of}
use Rattle.uz_shelf.specs.declared.fail.Fail.{Fail}
use Rattle.uz_shelf.specs.declared.memory_shelf.File.{File}
use Rattle.uz_shelf.proofs.memory_shelf.extend_as_planned.Goals as goal

-- a prefix of a prefix is one of the whole piece
shorter : {T E : Type 0} (result : Result T E) (old new : List File) (piece : List ℕ) (keep : ℕ) →
    AppendsPrefix (Some (files_of old)) (open_in old) (take keep piece) (Some (files_of new)) →
    OnErr result (AppendsPrefix (Some (files_of old)) (open_in old) piece (Some (files_of new)))
shorter (Ok x) old new piece keep some = tt
shorter (Err e) old new piece keep (count, appends) =
    let kept = take keep piece in
    let fewer : min count (length kept) ≤ keep = omega (arith, length-take keep piece) in (
      min count (length kept),
      subst (λ part. AppendsAll (Some (files_of old)) (open_in old) part (Some (files_of new)))
          (sym (take_min count kept) ∙ take-take (min count (length kept)) keep piece fewer) appends,
    )

-- what fits of a piece is all that a planned fault keeps of it
kept_as_planned : (planned : Option Fail) (fail : Fail) (keep : ℕ) (old new : List File) (piece : List ℕ) → planned ≡ Some fail →
    keep ≡ min (length piece) fail.keep →
    AppendsAll (Some (files_of old)) (open_in old) (take keep piece) (Some (files_of new)) →
    AppendsAll (Some (files_of old)) (open_in old) (kept_of planned piece) (Some (files_of new))
kept_as_planned planned fail keep old new piece is least =
    let other_way : keep ≡ min fail.keep (length piece) = omega (arith, least) in
    subst (λ part. AppendsAll (Some (files_of old)) (open_in old) part (Some (files_of new)))
    (ap (λ n. take n piece) other_way ∙ take_min fail.keep piece ∙ ap (λ p. kept_of p piece) (sym is))

pub returns-in_err-extend_first-in-Some-clause-err : goal.returns-in_err-extend_first-in-Some-clause-err
returns-in_err-extend_first-in-Some-clause-err c =
    shorter c.from_residual.result c.args.files.now.items c.extend_first.new.files.items c.args.piece.now c.min-keep.result
    c.in_err-extend_first-in-Some.ensures.err

pub returns-in_ok-extend_first-in-Some-clause-err : goal.returns-in_ok-extend_first-in-Some-clause-err
returns-in_ok-extend_first-in-Some-clause-err c = (c.min-keep.result, c.in_ok-extend_first-in-Some.ensures.ok)

pub returns-in_ok-extend_first-in-Some-clause-kept : goal.returns-in_ok-extend_first-in-Some-clause-kept
returns-in_ok-extend_first-in-Some-clause-kept c failed =
    kept_as_planned c.args.planned c.in-Some.fail c.min-keep.result c.args.files.now.items c.extend_first.new.files.items c.args.piece.now
    c.in-Some.is c.min-keep.ensures c.in_ok-extend_first-in-Some.ensures.ok
