use Rattle.std.proofs.Common.{◌++◌, [], ap, subst, ◌∙◌}
use Rattle.std.specs.Prelude.{map, string_bytes}
use Rattle.uzebox_c.specs.Changes.{news_of}
use Rattle.uzebox_c.specs.Held.{files_of, given_files, held_files, map_of}
use Rattle.uzebox_c.specs.Packed.{as_texts, field, packed}
use Rattle.uzebox_c.specs.Printed.{text_of}
use Rattle.uzebox_c.proofs.ChangeLaws.{news_are_changes}
use Rattle.uzebox_c.proofs.RunLaws.{IsCall, faultless}
use Rattle.uzebox_c.proofs.run.run.Goals as goal

pub returns-clause-answered : goal.returns-clause-answered
returns-clause-answered c =
    let words = c.in_ok-words.words.items in
    let given = given_files c.in_ok-given.given.items in
    let before = held_files c.in_ok-held.held in
    let after = held_files c.uzebox-status.new.shelf in
    let came = c.uzebox-status.result in
    let printed = text_of c.uzebox-status.new.out in
    let said = c.uzebox-status.ensures in
    let call : IsCall (map string_bytes c.as_slice-2.result.now) came (map_of before) (map_of after) (text_of c.new-printed.result) printed
    = record {
      usage = said.usage;
      no_command = said.no_command;
      usage_line = said.usage_line;
      usage_files = said.usage_files;
      answered = said.answered;
      exact = said.exact;
      unread = said.unread;
      unwritten = said.unwritten;
      complete = said.complete;
      certified = said.certified;
      halted = said.halted;
      untouched = said.untouched;
    } in
    record {
      words = map string_bytes words;
      files = given;
      new = map_of after;
      printed = printed;
      changes = news_of given after;
      are_words = c.in_ok-words.ensures.words;
      are_files = c.in_ok-given.ensures.files;
      is_run = faultless (map string_bytes words) came (map_of given) (map_of after) printed
          (subst (λ ws. IsCall (map string_bytes ws) came (map_of given) (map_of after) [] printed) c.as_slice-2.ensures.value
          (subst (λ b. IsCall (map string_bytes c.as_slice-2.result.now) came (map_of b) (map_of after) [] printed)
          (c.in_ok-held.ensures.files ∙ ap given_files c.as_slice.ensures.value)
          (subst (λ t. IsCall (map string_bytes c.as_slice-2.result.now) came (map_of before) (map_of after) t printed) c.new-printed.ensures
          call)));
      are_changes = news_are_changes given after;
      whole = c.in_ok-put_news.ensures
          ∙ ap (λ b. b ++ packed (as_texts (news_of (given_files c.as_slice-3.result.now) (files_of c.all.result.now)))) (c.in_ok-put.ensures
          ∙ (λ i. c.new-bytes.ensures.items i ++ field (c.text.ensures i)))
          ∙ (λ i. field printed ++ packed (as_texts (news_of (given_files (c.as_slice-3.ensures.value i)) (c.all.ensures i))));
    }
