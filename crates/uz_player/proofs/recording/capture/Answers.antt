use Rattle.std.proofs.Common.{sym, subst}
use Rattle.uz_player.specs.Playing.{cert_of, counts_of}
use Rattle.uz_player.specs.Captures.{IsCapturePart, IsPlayedInto}
use Rattle.uz_player.proofs.CaptureLaws.{created, not_created}
use Rattle.uz_player.proofs.recording.capture.Goals as goal

pub returns-in-Err-clause-err : goal.returns-in-Err-clause-err
returns-in-Err-clause-err g c = λ start stands. not_created c.args.clocks start _ _ c.args.name.now c.in-Err.ensures.err

pub returns-in-Ok-ended-clause-ok : goal.returns-in-Ok-ended-clause-ok
returns-in-Ok-ended-clause-ok g c = λ start stands.
    let old = g.H.Shelf.files c.args.shelf.now in
    let new = g.H.Shelf.files c.append_records-ended.new.shelf in
    let end = c.in-Ok-ended.end in
    let player = c.new-player.ensures in
    let played = c.append_records-ended.new.player in
    let done = c.in-Ok-ended.ensures.ok start old c.args.name.now (player.plays start stands) c.in-Ok.ensures.open
    (created old (g.H.Shelf.files c.create.new.self) c.args.name.now c.in-Ok.ensures.ok) in
    subst (λ counts. IsPlayedInto c.args.cert c.args.clocks start end counts old c.args.name.now new) (sym c.counts-counts.ensures)
    (subst (λ cert. IsPlayedInto cert c.args.clocks start end (counts_of played) old c.args.name.now new) player.cert
    (subst (λ limit. IsPlayedInto (cert_of c.new-player.result) limit start end (counts_of played) old c.args.name.now new)
    player.limit done))

pub returns-in-Err-ended-clause-err : goal.returns-in-Err-ended-clause-err
returns-in-Err-ended-clause-err g c = λ start stands.
    let old = g.H.Shelf.files c.args.shelf.now in
    let player = c.new-player.ensures in
    let cut = c.in-Err-ended.ensures.err start old c.args.name.now (player.plays start stands) c.in-Ok.ensures.open
    (created old (g.H.Shelf.files c.create.new.self) c.args.name.now c.in-Ok.ensures.ok) in
    subst (λ limit. IsCapturePart limit start old c.args.name.now (g.H.Shelf.files c.append_records-ended.new.shelf)) player.limit cut
