-- The schedule of an ended search: its falls, its returns and its levels.
use Rattle.uz_search.proofs.Common.{◌≡◌, ◌≢◌, ℕ, zero, suc, ◌<◌, ◌≤◌, ◌+◌, ◌-◌, ◌%◌, Some, refl, sym, ap, ◌∙◌, subst, ⊎_elim, arith}
use Rattle.uz_search.proofs.Common.{if◌then◌else◌, ◌==◌, mod-eq_of_lt, length_of, start_of, frame_of, next_line, level_at, response_clocks}
use Rattle.uz_search.proofs.Common.{level_mod, place_below, Head, Main, Sync, Leave, Instance, Next, position_of}
use Rattle.uz_search.proofs.Common.{Among, entries, entry_at, lines_of, Treated}
use Rattle.std.specs.Prelude.{unwrap_or}
use Rattle.uz_schedule.specs.Instances.{handler_entry, level_or_zero, rest_instance}
use Rattle.uz_search.proofs.FramePlaces.{at, next_is, next_below, IsNext}
use Rattle.uz_search.proofs.Lists.{kind_cases}
use Rattle.uz_search.specs.Complete.{EndedFallsOnce, EndedLevelsFit, EndedRestsAreQuiet, EndedLevels, EndedRestsEnter}
use Rattle.uz_search.proofs.Closing.{shown_is}
use Rattle.uz_search.proofs.ScheduleOf.{start_same, frame_same, event_on, level_is, seen_shows, shown_seen, none_shown}
use Rattle.uz_search.proofs.OneResult as result
use Rattle.uz_search.proofs.Coverage as cover
use Rattle.uz_search.proofs.Levels as levels

pub falls_once : EndedFallsOnce
falls_once image p found s fits ended of = record {
  first = λ l below. event_on p found.marks.items s of l p.schedule.fall below (fits.fall_in_line l)
      ∙ seen_shows found.marks.items (at l p.schedule.fall) (Some (Sync 0)) (cover.steady_first over l below);
  above = λ l k e below in_line shown. cover.steady_above over l k e (inside l k in_line)
      (shown_seen found.marks.items (at l k) e (sym (of.events l k below in_line) ∙ shown));
  once = λ l k below in_line shown. cover.steady_once over l k (inside l k in_line)
      (shown_seen found.marks.items (at l k) (Sync 0) (sym (of.events l k below in_line) ∙ shown));
}
  where
    over : cover.Ended
    over = record { image = image; program = p; fits = fits; found = found; s = ended }

    inside : (l k : ℕ) → k < length_of s l → k < length_of p.schedule l
    inside l k in_line = subst (λ n. k < n) (of.lengths l) in_line

-- a mark is shown by an instance, and a level that is shown turns the one before it
pub levels_fit : EndedLevelsFit
levels_fit image p found y v fits ended is =
    let it = ended.marked y (Some (Sync v)) (shown_seen found.marks.items y (Sync v) is) in
    let x = it.x in
    let node : Among found.nodes.keys x = (it.number, it.there) in
    let next = it.shows.0 in
    let t = cover.treated over x node in
    let same = result.one_next image p x next t.next it.shows.1 t.after in
    let apart = it.shows.2 in
    let passing = it.shows.3 in
    let emit = subst (λ (n : Next). n.emit ≡ Some (passing.clocks, Sync v)) same
    (shown_is next.emit passing.clocks (Sync v) (sym passing.shows)) in
    let o = cover.owed over x node apart in
    let sum = (o.syncs passing.clocks v o.out.0 emit (0, o.out.1)).1 in
    omega (arith, sum)
  where
    over : cover.Ended
    over = record { image = image; program = p; fits = fits; found = found; s = ended }

pub rests_are_quiet : EndedRestsAreQuiet
rests_are_quiet image p found s l r fits ended of below noted = record {
  in_line = subst (λ n. r.clock < n) (sym (of.lengths l)) leave.in_line;
  leave = event_on p found.marks.items s of l r.clock below leave.in_line ∙ seen_shows found.marks.items (at l r.clock) (Some Leave)
      leave.seen;
  quiet = λ k after in_line. of.events l k below in_line
      ∙ none_shown found.marks.items (at l k) (λ e seen. cover.quiet_after over l r k e noted after (subst (λ n. k < n) (of.lengths l) in_line) seen);
  quiet_next = λ k few.
      let early : k < p.schedule.fall = omega (arith, few, entered) in
      let in_line : k < length_of p.schedule next = (let f = fits.fall_in_line next in omega (arith, f, early)) in
      event_on p found.marks.items s of next k next_below' in_line
      ∙ none_shown found.marks.items (at next k) (λ e seen.
      let above = cover.steady_above over next k e in_line seen in omega (arith, above, early));
}
  where
    over : cover.Ended
    over = record { image = image; program = p; fits = fits; found = found; s = ended }

    leave : cover.LeavesAt over l r
    leave = cover.leaves_at over l r noted

    entered : response_clocks p.head.irq + 3 < p.schedule.fall
    entered = cover.entered over leave.x leave.node leave.back

    next : ℕ
    next = next_line s l

    next_below' : next < lines_of p
    next_below' = next_below p.schedule l next below (subst (λ n. IsNext p.schedule l (if suc l == n then 0 else suc l)) (sym of.lines)
        (next_is p.schedule l below))

pub levels_are : EndedLevels
levels_are image p found s x fits ended of node = ⊎_elim
    (λ (main : x.kind ≡ Main).
    let stands = cover.stands over x node in
    let place = stands.main main in
    let f = levels.first_level over 0 fits.fall_some in
    let level : levels.LevelIs p.schedule found.marks.items f.p x.level =
    subst (λ (v : ℕ). levels.LevelIs p.schedule found.marks.items f.p v)
    (sym (levels.main_all over x node main)) f.level in
    let start : start_of p.schedule 0 ≡ start_of p.schedule x.line = ap (start_of p.schedule) (sym place.0) in
    let clock = place.1 in
    at_place f.p level (f.place ∙ omega (arith, start, clock)))
    (λ (apart : x.kind ≢ Main).
    let g = levels.good_all over x node apart in
    at_place g.p g.level g.at)
    (kind_cases x.kind)
  where
    over : cover.Ended
    over = record { image = image; program = p; fits = fits; found = found; s = ended }

    at_place : (n : ℕ) → levels.LevelIs p.schedule found.marks.items n x.level → n % frame_of p.schedule ≡ position_of p.schedule x
        → level_at s (position_of s x) ≡ Some x.level
    at_place n level place =
        let stands = cover.stands over x node in
        let same = frame_same p found.marks.items s of in
        let here : position_of s x ≡ position_of p.schedule x = ap (λ m. m + x.clock) (start_same p found.marks.items s of x.line) in
        let below : position_of p.schedule x < frame_of p.schedule = place_below p.schedule x.line x.clock stands.line stands.clock in
        let round : n % frame_of s ≡ position_of s x % frame_of s =
        ap (λ f. n % f) same ∙ place ∙ sym (mod-eq_of_lt below) ∙ ap (λ y. y % frame_of p.schedule) (sym here)
        ∙ ap (λ f. position_of s x % f) (sym same) in
        level_mod s (position_of s x) n (sym round) ∙ level_is p found.marks.items s of n x.level (levels.frame_some over) level

-- The handler's first state after a rest

pub rests_enter : EndedRestsEnter
rests_enter image p found cert rest r c fits ended head of noted cells few = subst (Among found.nodes.keys) (sym same) node
  where
    over : cover.Ended
    over = record { image = image; program = p; fits = fits; found = found; s = ended }

    leave : cover.LeavesAt over rest.line r
    leave = cover.leaves_at over rest.line r noted

    t : Treated image p found.nodes.keys found.marks.items found.returns.items leave.x
    t = cover.treated over leave.x leave.node

    e : Instance
    e = entry_at p leave.end c

    among : (c : ℕ) → c ≤ 3 → Among (entries p leave.end) (entry_at p leave.end c)
    among zero le = (0, refl)
    among (suc zero) le = (1, refl)
    among (suc (suc zero)) le = (2, refl)
    among (suc (suc (suc zero))) le = (3, refl)
    among (suc (suc (suc (suc k)))) le = absurd (omega arith)

    node : Among found.nodes.keys e
    node = cover.entry_there over leave.x leave.node leave.end e leave.back leave.out (among c few)

    line : next_line cert.schedule rest.line ≡ e.line
    line = ap (λ n. if suc rest.line == n then 0 else suc rest.line) of.lines
        ∙ ap (λ l. if suc l == lines_of p then 0 else suc l) leave.line

    clock : c + response_clocks cert.head.irq ≡ e.clock
    clock = ap (λ (h : Head). c + response_clocks h.irq) head

    level : level_or_zero cert.schedule (next_line cert.schedule rest.line) (c + response_clocks cert.head.irq) ≡ e.level
    level =
        ap (λ l. level_or_zero cert.schedule l (c + response_clocks cert.head.irq)) line
        ∙ ap (λ k. level_or_zero cert.schedule e.line k) clock
        ∙ ap (λ o. unwrap_or o 0) (levels_are image p found cert.schedule e fits ended of node)

    ranges : rest.cells.items ≡ leave.end.cells.items
    ranges = cells ∙ ap (λ v. v.items) leave.cells

    top : length_of cert.schedule rest.line - 1 ≡ e.top
    top = ap (λ n. n - 1) (of.lengths rest.line ∙ ap (length_of p.schedule) leave.line)

    same : rest_instance cert rest c ≡ e
    same = λ i. handler_entry (ranges i) (line i) (clock i) (level i) (top i)
