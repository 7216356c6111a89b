use Rattle.uz_cert.proofs.Common.{◌-◌, ◌<◌, ◌≤◌, ◌^◌, length, arith, scanline, length_few, Kept, Draft, ◌≡◌, refl, sym, subst, Some, Ok}
use Rattle.uz_cert.proofs.Common.{Words, reads, ParsedLine, line, expected_line, form_of, SaidFits, expected_as, said_words, ExpectedLine}
use Rattle.uz_cert_laws.specs.LineWords.{PlacesAre}
use Rattle.uz_cert.proofs.{KeptLaws.length_in, ExpectedLineLaws.IsExpected, ExpectedLineLaws.is_expected}
use Rattle.uz_cert_lines.specs.declared.lines.ParsedLine.TheVariants as parsed
use Rattle.uz_cert.specs.declared.expected_line.ExpectedLine.TheVariants as expected
use Rattle.uz_cert.proofs.line_laws.said_lines.Goals as goal

-- what is within limits where a line is due

places : (d : Draft) → Kept d → PlacesAre d.head d.sizes.lines d.sizes.points
places d k =
    let few = k.cells.few in
    let most = k.sizes.cells_few in
    grind (arith, few, most, k.cells.each, k.stack, k.sizes.lines_few, k.sizes.points_few)

few_left : (d : Draft) → Kept d → d.left ≤ 2 ^ 30
few_left d k = let sum = k.states.2.instances in omega (arith, sum)

kinds_few : (d : Draft) → Kept d → d.sizes.kinds ≤ 2 ^ 31
kinds_few d k = let few = k.sizes.kinds_few in omega (arith, few)

lines_left : (d : Draft) → Kept d → d.sizes.lines - length d.lines < 2 ^ 31
lines_left d k = let few = k.sizes.lines_few in omega (arith, few)

clocks_few : (d : Draft) → Kept d → d.clocks ≤ scanline
clocks_few d k = length_few d.clocks (length_in d.version d.clocks k.schedule.0.own)

abbrev IsSaid : Draft → ExpectedLine → Words → ParsedLine → Type 0
IsSaid d kind words s = (words ≡ line (said_words d.version d.head s)) × (kind ≡ expected_as s) × SaidFits d s

pub returns : goal.returns
unfolding form_of
returns c = record { again = again; only = λ d kind words s k e h. only d kind words s k (is_expected d kind k.begun e) h }
  where
    again : (d : Draft) (s : ParsedLine) → Kept d → expected_line d ≡ Some (expected_as s) → SaidFits d s
        → reads (form_of d (expected_as s)) (line (said_words d.version d.head s)) ≡ Ok s
    again d (parsed.Size s) k e f = c.size_line.ensures.again s f.1
    again d (parsed.Irq r) k e f = c.irq_line.ensures.again r
    again d (parsed.Stack s) k e f = c.stack_line.ensures.again d.head s f.1
    again d (parsed.Cell x) k e f = c.cell_line.ensures.again d.head d.cell_least x f.fits f.order
    again d (parsed.Kind n) k e f = c.kind_line.ensures.again d.version n f.fits
    again d (parsed.Event x) k e f = c.event_line.ensures.again d.clocks d.event_least x (clocks_few d k) f.fits f.below f.order
    again d (parsed.Fall n) k e f = c.fall_line.ensures.again n f.1 f.2
    again d (parsed.Run r) k e f =
        let few = f.few in
        c.run_line.ensures.again d.sizes.kinds (d.sizes.lines - length d.lines) d.run_kind r.count r.kind (kinds_few d k)
        (lines_left d k) (record { some = f.some; few = omega (arith, few); there = f.there; other = f.other })
    again d (parsed.Rest r) k e f =
        c.rest_line.ensures.again d.head d.sizes.lines d.sizes.points d.rest_least r (places d k) f.fits f.order
    again d (parsed.Entry x) k e f = c.entry_line.ensures.again d.head d.sizes.lines d.sizes.points x (places d k) f.fits
    again d (parsed.Point p) k e f =
        c.point_line.ensures.again d.version d.head d.sizes.lines d.sizes.points d.left p (places d k) (few_left d k) f.fits f.own
        f.instances
    again d parsed.End k e f = c.end_line.ensures.again

    only : (d : Draft) (kind : ExpectedLine) (words : Words) (s : ParsedLine) → Kept d → IsExpected d kind → reads (form_of d kind) words ≡ Ok s
        → (words ≡ line (said_words d.version d.head s)) × (kind ≡ expected_as s) × SaidFits d s
    only d expected.Size words s k i h =
        let x = c.size_line.ensures.only words s h in
        subst (IsSaid d expected.Size words) (sym x.1) (x.2, refl, (omega (arith, i), x.3))
    only d expected.Irq words s k i h =
        let x = c.irq_line.ensures.only words s h in
        subst (IsSaid d expected.Irq words) (sym x.1) (x.2, refl, omega (arith, i))
    only d expected.Stack words s k i h =
        let x = c.stack_line.ensures.only words s h in
        subst (IsSaid d expected.Stack words) (sym x.1) (x.2, refl, (omega (arith, i), x.3 d.head))
    only d expected.Cell words s k i h =
        let x = c.cell_line.ensures.only d.head d.cell_least words s h in
        subst (IsSaid d expected.Cell words) (sym x.1) (x.2, refl, record { body = i.0; room = i.1; fits = x.3; order = x.4 })
    only d expected.Kind words s k i h =
        let x = c.kind_line.ensures.only d.version words s h in
        subst (IsSaid d expected.Kind words) (sym x.1) (x.2, refl, record { body = i.0.body; none_owed = i.1; room = i.2; fits = x.3 })
    only d expected.Event words s k i h =
        let x = c.event_line.ensures.only d.clocks d.event_least words s (clocks_few d k) h in
        subst (IsSaid d expected.Event words) (sym x.1)
        (x.2, refl, record { body = i.0.body; owed = i.1; fits = x.3; below = x.4; order = x.5 })
    only d expected.Fall words s k i h =
        let x = c.fall_line.ensures.only words s h in
        subst (IsSaid d expected.Fall words) (sym x.1) (x.2, refl, (i.0.body, x.3, x.4))
    only d expected.Run words s k i h =
        let x = c.run_line.ensures.only d.sizes.kinds (d.sizes.lines - length d.lines) d.run_kind words s (kinds_few d k)
        (lines_left d k) h in
        let room = i.2 in
        let few = x.3.few in
        subst (IsSaid d expected.Run words) (sym x.1)
        (x.2, refl, record { body = i.0.body; some = x.3.some; few = omega (arith, room, few); there = x.3.there; other = x.3.other })
    only d expected.Rest words s k i h =
        let x = c.rest_line.ensures.only d.head d.sizes.lines d.sizes.points d.rest_least words s (places d k) h in
        subst (IsSaid d expected.Rest words) (sym x.1) (x.2, refl, record { after = i.0.after; room = i.1; fits = x.3; order = x.4 })
    only d expected.Entry words s k i h =
        let x = c.entry_line.ensures.only d.head d.sizes.lines d.sizes.points words s (places d k) k.sizes.lines_some h in
        subst (IsSaid d expected.Entry words) (sym x.1) (x.2, refl, record { after = i.0.after; fits = x.3 })
    only d expected.Point words s k i h =
        let x = c.point_line.ensures.only d.version d.head d.sizes.lines d.sizes.points d.left words s (places d k)
        k.sizes.lines_some (few_left d k) h in
        subst (IsSaid d expected.Point words) (sym x.1)
        (x.2, refl, record { after = i.0.after; room = i.3; fits = x.3; own = x.4; instances = x.5 })
    only d expected.End words s k i h =
        let x = c.end_line.ensures.only words s h in
        subst (IsSaid d expected.End words) (sym x.0) (x.1, refl, i.0.after.body)
