use Rattle.std.proofs.Common.{◌≡◌, length, refl, arith}
use Rattle.std.proofs.lemmas.List.{nil_from_length}
use Rattle.uz_console.proofs.PageLemmas.{page_runs}
use Rattle.uz_player.proofs.PlayerLaws.{edges_are_nearer, edges_come, entered_edges, entered_over, entered_stopped, page_ends, page_stops}
use Rattle.uz_player.proofs.player.Player.go_on_entered.Goals as goal

pub returns-then-len-gt0-clause-further : goal.returns-then-len-gt0-clause-further
returns-then-len-gt0-clause-further c =
    λ start handed none plays.
    let old = c.args.self.now in
    let page = c.advance_page-paged.new.page.items in
    let new = record old { console = c.advance_page-paged.new.self; page = c.advance_page-paged.new.page; next = 0; short = c.self-1.given.0 } in
    edges_come old new page start handed none refl refl refl refl c.advance_page-paged.ensures.few old.short
    (entered_edges old new old.recorder.counts.entered page start c.requires refl refl
    (page_runs old.limit old.console c.advance_page-paged.new.self page c.advance_page-paged.result c.advance_page-paged.ensures.run)
    c.advance_page-paged.ensures.edges) plays

pub returns-then-len-gt0-clause-nearer : goal.returns-then-len-gt0-clause-nearer
returns-then-len-gt0-clause-nearer c = λ none.
    let old = c.args.self.now in
    let new = record old { console = c.advance_page-paged.new.self; page = c.advance_page-paged.new.page; next = 0; short = c.self-1.given.0 } in
    edges_are_nearer old new c.advance_page-paged.new.page.items refl refl c.advance_page-paged.ensures.few

pub returns-in-Over-clause-further : goal.returns-in-Over-clause-further
returns-in-Over-clause-further c =
    λ none start handed plays.
    let old = c.args.self.now in
    let none_left : length c.advance_page-paged.new.page.items ≡ 0 = omega arith in
    let empty = nil_from_length c.advance_page-paged.new.page.items none_left in
    entered_over old _ start handed c.requires none empty refl refl refl c.in-Over.ensures.time
    (page_ends old.limit old.console c.advance_page-paged.new.self c.advance_page-paged.new.page.items empty c.in-Over.ensures.run) plays

pub returns-in-Stopped-clause-further : goal.returns-in-Stopped-clause-further
returns-in-Stopped-clause-further c =
    λ none start handed plays.
    let old = c.args.self.now in
    let none_left : length c.advance_page-paged.new.page.items ≡ 0 = omega arith in
    let empty = nil_from_length c.advance_page-paged.new.page.items none_left in
    entered_stopped old _ start handed _ _ c.in-Stopped.field-0 c.requires none empty refl refl refl c.in-Stopped.ensures.time
    (λ s st. (c.pc.ensures.stands s st, c.word.ensures.stands s st))
    (page_stops old.limit old.console c.advance_page-paged.new.self c.advance_page-paged.new.page.items c.in-Stopped.field-0 empty
    c.in-Stopped.ensures.run) plays
