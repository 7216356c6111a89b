use Rattle.std.proofs.Common.{◌+◌, ◌++◌, append_assoc, ap, drop, sym, take, ◌∙◌}
use Rattle.std.proofs.lemmas.List.{append-nil}
use Rattle.uzebox_c.specs.Changes.{if_news, news_from}
use Rattle.uzebox_c.specs.Held.{files_of, given_files}
use Rattle.uzebox_c.specs.Packed.{as_texts, packed}
use Rattle.uzebox_c.proofs.ChangeLaws.{news_on, news_over}
use Rattle.uzebox_c.proofs.changes.put_news.Goals as goal

pub loop-index-preserved : goal.loop-index-preserved
loop-index-preserved c =
    let given = given_files c.args.given.now in
    let files = c.args.files.now in
    let i = c.loop-index.index in
    let file = c.index-files-index.result in
    let news = packed (as_texts (if_news given (files_of (take i files)) (file.name.items, file.bytes.items))) in
    let later = packed (as_texts (news_from given (files_of (take (i + 1) files)) (files_of (drop (i + 1) files)))) in
    ap (λ b. b ++ later) c.in_ok-put_if_news.ensures ∙ append_assoc c.loop-index.bytes.items news later
    ∙ ap (λ t. c.loop-index.bytes.items ++ t) (sym (news_on given files i file c.loop-index-test.true c.index-files-index.is))
    ∙ c.loop-index.invariant

pub returns : goal.returns
returns c =
    sym (append-nil c.loop-index.bytes.items)
    ∙ ap (λ t. c.loop-index.bytes.items ++ t) (sym (news_over (given_files c.args.given.now) (files_of (take c.loop-index.index c.args.files.now))
    c.args.files.now c.loop-index.index c.loop-index-test.false))
    ∙ c.loop-index.invariant
