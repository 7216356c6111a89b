use Rattle.std.proofs.Common.{◌++◌, ◌∷◌, [], ◌∙◌, ap, length, sym, subst}
use Rattle.std.specs.Prelude.{map, string_bytes}
use Rattle.std.specs.List.{AllByRecursion}
use Rattle.std.specs.Str.{IsUtf8}
use Rattle.std.proofs.lemmas.List.{map-append}
use Rattle.uzebox_c.specs.Packed.{packed}
use Rattle.uzebox_c.proofs.PackedLaws.{all_more, longer, no_words, not_empty, text_more, words_left}
use Rattle.uzebox_c.proofs.packed.read_words.Goals as goal

pub returns-in_default-clause-malformed : goal.returns-in_default-clause-malformed
returns-in_default-clause-malformed c is words are =
    let some = c.loop-rest.invariant.left words are in
    no_words c.loop-rest.rest.now (not_empty (length c.loop-rest.rest.now) c.is_empty.result c.is_empty.ensures c.loop-rest-test.true)
    c.in_default.ensures.none some.0 some.1

pub returns-in_default-from_utf8-clause-malformed : goal.returns-in_default-from_utf8-clause-malformed
returns-in_default-from_utf8-clause-malformed c is words are =
    let some = c.loop-rest.invariant.left words are in
    let cut = c.in-Some.ensures in
    c.in_default-from_utf8.ensures.cases.0
    (words_left c.loop-rest.rest.now c.in-Some.word.now c.in-Some.more.now cut.cut cut.fits some.0 some.1).0

pub loop-rest-smaller : goal.loop-rest-smaller
loop-rest-smaller c = longer c.loop-rest.rest.now c.in-Some.word.now c.in-Some.more.now c.in-Some.ensures.cut

pub loop-rest-preserved : goal.loop-rest-preserved
loop-rest-preserved c =
    let word = c.in-Some.word.now in
    let more = c.in-Some.more.now in
    let rest = c.loop-rest.rest.now in
    let before = c.loop-rest.invariant in
    let words = map string_bytes c.loop-rest.words.items in
    let cut = c.in-Some.ensures in
    let told = ap (map string_bytes) c.in_ok-push.ensures.items
    ∙ map-append string_bytes c.loop-rest.words.items (c.in_ok-from_str.field-0 ∷ [])
    ∙ ap (λ w. words ++ w ∷ []) (c.in_ok-from_str.ensures.ok ∙ c.in-Ok.ensures.cases.0) in
    record {
      whole = text_more c.args.bytes.now word rest more words cut.cut before.whole ∙ ap (λ t. packed t ++ more) (sym told);
      utf8 = subst (AllByRecursion IsUtf8) (sym told) (all_more words word before.utf8 c.in-Ok.ensures.cases.1);
      left = λ all are. let some = before.left all are in (words_left rest word more cut.cut cut.fits some.0 some.1).1;
    }
