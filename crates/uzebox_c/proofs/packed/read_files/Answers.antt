use Rattle.std.proofs.Common.{◌++◌, ◌∷◌, [], ◌∙◌, ap, arith, length, refl, sym}
use Rattle.std.proofs.lemmas.List.{map-append}
use Rattle.uzebox_c.specs.Held.{given_files}
use Rattle.uzebox_c.specs.Packed.{as_texts, field, packed}
use Rattle.uzebox_c.proofs.PackedLaws.{file_more, files_left, longer, no_files, not_empty}
use Rattle.uzebox_c.proofs.packed.read_files.Goals as goal

pub returns-in_default-clause-malformed : goal.returns-in_default-clause-malformed
returns-in_default-clause-malformed c is files are =
    let some = c.loop-rest.invariant.left files are in
    no_files c.loop-rest.rest.now (not_empty (length c.loop-rest.rest.now) c.is_empty.result c.is_empty.ensures c.loop-rest-test.true)
    c.in_default.ensures.none some.0 some.1

pub loop-rest-smaller : goal.loop-rest-smaller
loop-rest-smaller c =
    let text = c.in-Some.file.bytes.now in
    let behind = field text ++ c.in-Some.more.now in
    omega (arith, longer c.loop-rest.rest.now c.in-Some.file.name.now behind c.in-Some.ensures.cut, longer behind text c.in-Some.more.now refl)

pub loop-rest-preserved : goal.loop-rest-preserved
loop-rest-preserved c =
    let file = c.in-Some.file in
    let more = c.in-Some.more.now in
    let rest = c.loop-rest.rest.now in
    let before = c.loop-rest.invariant in
    let cut = c.in-Some.ensures in
    let told = ap given_files c.in_ok-push.ensures.items ∙ map-append (λ f. (f.name.now, f.bytes.now)) c.loop-rest.files.items (file ∷ []) in
    record {
      whole = file_more c.args.bytes.now file.name.now file.bytes.now rest more (given_files c.loop-rest.files.items) cut.cut before.whole
          ∙ ap (λ f. packed (as_texts f) ++ more) (sym told);
      left = λ all are. let some = before.left all are in
          files_left rest file.name.now file.bytes.now more cut.cut cut.name_fits cut.bytes_fit some.0 some.1;
    }
