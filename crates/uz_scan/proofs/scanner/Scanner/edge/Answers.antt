use Rattle.std.proofs.Common.{◌≡◌, ◌<◌, ◌^◌, ◌∷◌, refl, sym, ap, subst, arith}
use Rattle.uz_core.specs.declared.machine.Edge.{Edge}
use Rattle.uz_scan.specs.Lines.{level_brought}
use Rattle.uz_scan.specs.Pictures.{pixel_brought, sound_brought, shown_by}
use Rattle.uz_scan.specs.Scanning.{StandsFor}
use Rattle.uz_scan.proofs.ScannerLaws.{level_stays, other_stands, pixel_stands, sync_shows_it, sync_stands}
use Rattle.uz_scan.proofs.TrackerLaws.{quiet_shows, quiet_tracks, sound_tracks}
use Rattle.uz_scan.proofs.scanner.Scanner.edge.Goals as goal

pub returns-in-Sync-clause-stands : goal.returns-in-Sync-clause-stands
returns-in-Sync-clause-stands c =
    λ edges h.
    let fits : c.args.edge.clock < 2 ^ 64 = omega arith in
    subst (λ (e : Edge). StandsFor c.sync.new.self (e ∷ edges)) (λ i. record { clock = c.args.edge.clock; kind = (sym c.in-Sync.is) i })
    (sync_stands c.args.self.now c.sync.new.self c.sync.result edges c.args.edge.clock c.in-Sync.value h c.requires fits
    c.sync.ensures.clock c.sync.ensures.tracker c.sync.ensures.shown c.sync.ensures.line)

pub returns-in-Sync-clause-shown : goal.returns-in-Sync-clause-shown
returns-in-Sync-clause-shown c =
    λ edges h.
    subst (λ (e : Edge). c.sync.result ≡ shown_by e edges) (λ i. record { clock = c.args.edge.clock; kind = (sym c.in-Sync.is) i })
    (sync_shows_it c.args.self.now c.sync.result edges c.args.edge.clock c.in-Sync.value h c.sync.ensures.shown)

pub returns-in-Pixel-clause-stands : goal.returns-in-Pixel-clause-stands
returns-in-Pixel-clause-stands c =
    λ edges h.
    pixel_stands c.args.self.now _ c.args.edge edges c.in-Pixel.value h c.requires (ap level_brought c.in-Pixel.is)
    (ap sound_brought c.in-Pixel.is) (ap pixel_brought c.in-Pixel.is) refl refl c.pixel.ensures.samples c.pixel.ensures.value refl

pub returns-in-Pixel-clause-shown : goal.returns-in-Pixel-clause-shown
returns-in-Pixel-clause-shown c =
    λ edges h. sym (quiet_shows c.args.edge edges (level_stays c.args.edge edges (ap level_brought c.in-Pixel.is)))

pub returns-in-Sound-clause-stands : goal.returns-in-Sound-clause-stands
returns-in-Sound-clause-stands c =
    λ edges h.
    other_stands c.args.self.now _ c.args.edge edges h c.requires (ap level_brought c.in-Sound.is) (ap pixel_brought c.in-Sound.is) refl
    (sound_tracks c.args.self.now.tracker c.args.edge edges c.in-Sound.value
    (level_stays c.args.edge edges (ap level_brought c.in-Sound.is)) (ap sound_brought c.in-Sound.is) h.tracks) refl refl

pub returns-in-Sound-clause-shown : goal.returns-in-Sound-clause-shown
returns-in-Sound-clause-shown c =
    λ edges h. sym (quiet_shows c.args.edge edges (level_stays c.args.edge edges (ap level_brought c.in-Sound.is)))

pub returns-in-Enter-clause-stands : goal.returns-in-Enter-clause-stands
returns-in-Enter-clause-stands c =
    λ edges h.
    let stays = level_stays c.args.edge edges (ap level_brought c.in-Enter.is) in
    other_stands c.args.self.now _ c.args.edge edges h c.requires (ap level_brought c.in-Enter.is) (ap pixel_brought c.in-Enter.is) refl
    (quiet_tracks c.args.self.now.tracker c.args.edge edges stays (let n = ap sound_brought c.in-Enter.is in simp n refl) h.tracks) refl
    refl

pub returns-in-Enter-clause-shown : goal.returns-in-Enter-clause-shown
returns-in-Enter-clause-shown c =
    λ edges h. sym (quiet_shows c.args.edge edges (level_stays c.args.edge edges (ap level_brought c.in-Enter.is)))

pub returns-in-Leave-clause-stands : goal.returns-in-Leave-clause-stands
returns-in-Leave-clause-stands c =
    λ edges h.
    let stays = level_stays c.args.edge edges (ap level_brought c.in-Leave.is) in
    other_stands c.args.self.now _ c.args.edge edges h c.requires (ap level_brought c.in-Leave.is) (ap pixel_brought c.in-Leave.is) refl
    (quiet_tracks c.args.self.now.tracker c.args.edge edges stays (let n = ap sound_brought c.in-Leave.is in simp n refl) h.tracks) refl
    refl

pub returns-in-Leave-clause-shown : goal.returns-in-Leave-clause-shown
returns-in-Leave-clause-shown c =
    λ edges h. sym (quiet_shows c.args.edge edges (level_stays c.args.edge edges (ap level_brought c.in-Leave.is)))
