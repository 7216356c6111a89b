use Rattle.std.proofs.Common.{◌∙◌}
use Rattle.uz_paths.proofs.ListLemmas.{IsPut, one_more, stands_last, stays}
use Rattle.uz_paths.proofs.lists.put_list.Goals as goal

put : (c : goal.In_ok-push) → IsPut c.args.lists.now (record { starts = c.push.new.self; numbers = c.extend_from_slice.new.self }) c.args.list.now c.len.result
put c = record {
  numbers = c.in_ok-extend_from_slice.ensures.items;
  starts = c.in_ok-push.ensures.items;
  end_is = c.len.ensures ∙ c.extend_from_slice.new.self.ok.0;
}

pub returns-clause-more : goal.returns-clause-more
returns-clause-more c = one_more _ _ _ _ _ c.requires.lists c.requires.short (put c)

pub returns-clause-last : goal.returns-clause-last
returns-clause-last c = stands_last _ _ _ _ _ c.requires.lists (put c)

pub returns-clause-kept : goal.returns-clause-kept
returns-clause-kept c = stays _ _ _ _ (put c)
