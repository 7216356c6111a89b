use Rattle.uz_top.specs.CommandValues.{value_of}
use Rattle.uz_top.specs.Commands.{Certifies}
use Rattle.uz_top.proofs.ApartLemmas.{holds_apart}
use Rattle.uz_top.proofs.CommandLemmas.{complete_in, exact_in, unread_in, unwritten, usage_in}
use Rattle.uz_top.proofs.top.answer.Goals as goal

pub returns-in-Some-clause-usage : goal.returns-in-Some-clause-usage
returns-in-Some-clause-usage g c =
    usage_in c.expansion_is_unique.ensures c.readings_are_unique.ensures c.reading_is_unique.ensures _ (value_of c.in-Some.command)
    _ _ _ _ _ _ c.in-Some.ensures c.run.ensures.outcome

pub returns-in-Some-clause-exact : goal.returns-in-Some-clause-exact
returns-in-Some-clause-exact g c = exact_in c.expansion_is_unique.ensures c.readings_are_unique.ensures c.reading_is_unique.ensures _
    (value_of c.in-Some.command) _ _ _ _ _ _
    c.in-Some.ensures c.run.ensures.outcome

pub returns-in-Some-clause-unread : goal.returns-in-Some-clause-unread
returns-in-Some-clause-unread g c =
    unread_in c.expansion_is_unique.ensures c.readings_are_unique.ensures c.reading_is_unique.ensures _ (value_of c.in-Some.command)
    _ _ _ _ _ _ c.in-Some.ensures c.run.ensures.outcome

pub returns-in-Some-clause-unwritten : goal.returns-in-Some-clause-unwritten
returns-in-Some-clause-unwritten g c =
    unwritten c.expansion_is_unique.ensures c.readings_are_unique.ensures c.reading_is_unique.ensures _ _ _ (value_of c.in-Some.command)
    _ _ _ c.run.ensures.outcome

pub returns-in-Some-clause-complete : goal.returns-in-Some-clause-complete
returns-in-Some-clause-complete g c = complete_in c.expansion_is_unique.ensures c.readings_are_unique.ensures c.reading_is_unique.ensures _
    (value_of c.in-Some.command) _ _ _ _ _ _
    c.in-Some.ensures c.run.ensures.outcome

pub returns-in-Some-clause-certified : goal.returns-in-Some-clause-certified
returns-in-Some-clause-certified g c = λ done.
    holds_apart c.args.words.now (value_of c.in-Some.command)
    (Certifies (g.H.Shelf.files c.args.shelf.now) (g.H.Shelf.files c.run.new.shelf)) c.in-Some.ensures (c.run.ensures.certified done)

pub returns-in-None-clause-usage_line : goal.returns-in-None-clause-usage_line
returns-in-None-clause-usage_line g c = λ none. c.end_usage.ensures.comes (g.H.Shelf.files c.args.shelf.now)
