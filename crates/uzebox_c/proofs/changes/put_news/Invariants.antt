use Rattle.std.proofs.Common.{◌≡◌, ◌++◌, take, drop}
use Rattle.uzebox_c.specs.Changes.{news_from, news_of}
use Rattle.uzebox_c.specs.Held.{files_of, given_files}
use Rattle.uzebox_c.specs.Packed.{as_texts, packed}
use Rattle.uzebox_c.proofs.changes.put_news.Given as goal

-- what is put so far and what is to come are all
abbrev pub invariant-loop-index : goal.invariant-loop-index
invariant-loop-index l =
    l.bytes.items ++ packed (as_texts (news_from (given_files l.given) (files_of (take l.index l.files)) (files_of (drop l.index l.files))))
    ≡ l.initial.bytes.items ++ packed (as_texts (news_of (given_files l.given) (files_of l.files)))
