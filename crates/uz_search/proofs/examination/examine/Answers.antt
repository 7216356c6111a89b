use Rattle.uz_search.proofs.Common.{◌≡◌, ◌<◌, ◌+◌, ℕ, List, Option, Some, Result, Ok, Err, inl, inr, sym, subst, slice_get, arith, ⊤}
use Rattle.uz_search.proofs.Common.{slice_get_within, Fail, Stop, Instance, Next, Mark, Shown, Program, StuckWith, AreMarked, MarksWay}
use Rattle.uz_search.proofs.Common.{NotesEnd, After, Flash, place_on}
use Rattle.uz_search.specs.Searching.{ShownBefore}
use Rattle.uz_search.specs.declared.examination.Stop.TheVariants.{Split, Stuck}
use Rattle.uz_search.proofs.OneResult.{steps}
use Rattle.uz_search.proofs.Results.{apart_main, passes_within, some_result, stands_next}
use Rattle.uz_search.proofs.SearchingLemmas.{treats_from}
use Rattle.uz_search.proofs.examination.examine.Goals as goal

pub put_results-requires-clause-stands : goal.put_results-requires-clause-stands
put_results-requires-clause-stands c = c.requires.stands c.args.examined.at.now (c.args.examined.by, c.requires.here)

pub mark_way-requires-clause-line : goal.mark_way-requires-clause-line
mark_way-requires-clause-line c = (c.requires.stands c.args.examined.at.now (c.args.examined.by, c.requires.here)).line

pub first_to_show-requires-clause-within : goal.first_to_show-requires-clause-within
first_to_show-requires-clause-within c = slice_get_within c.args.nodes.now c.args.examined.by c.args.examined.at.now c.requires.here

pub note_end-requires : goal.note_end-requires
note_end-requires c = λ back end at0.
    let image = c.args.image.now in
    let program = c.args.program.now in
    let x = c.args.examined.at.now in
    let next = c.put_results.new.next in
    subst (λ n. end.line < n) (sym c.requires.lines)
    (stands_next image program c.requires.fits x (c.requires.stands x (c.args.examined.by, c.requires.here)) next
    (steps image program x next c.in_default.ensures.ok) end (0, at0)).line

pub mark_way-requires-clause-there : goal.mark_way-requires-clause-there
mark_way-requires-clause-there c = λ apart k few.
    let image = c.args.image.now in
    let program = c.args.program.now in
    let x = c.args.examined.at.now in
    let next = c.put_results.new.next in
    subst (λ n. place_on program x k < n) (sym c.requires.frame)
    (passes_within image program c.requires.fits x (c.requires.stands x (c.args.examined.by, c.requires.here)) apart next
    (steps image program x next c.in_default.ensures.ok) k few)

pub returns-clause-ok : goal.returns-clause-ok
returns-clause-ok c =
    let image = c.args.image.now in
    let program = c.args.program.now in
    let x = c.args.examined.at.now in
    let next = c.put_results.new.next in
    treats_from image program x c.args.examined.by c.args.marks.now c.mark_way.new.marks c.args.returns.now c.note_end.new.returns next
    c.in_default.ensures.ok (λ apart. some_result image program x next (steps image program x next c.in_default.ensures.ok)
    (apart_main x.kind apart) c.is_ordered.ensures)
    c.in_default-stuck.ensures.none c.in_default-mark_way.ensures
    (subst (λ (o : Option ℕ). NotesEnd next c.args.examined.by c.args.returns.now o c.note_end.new.returns) c.in_default-2.is c.in_ok-other.ensures)

why_is : (a b : Fail) → ◌≡◌ {A = Result ⊤ Stop} (Err (Stuck a)) (Err (Stuck b)) → a ≡ b
why_is a b e = cc

pub returns-in-Some-clause-stuck : goal.returns-in-Some-clause-stuck
returns-in-Some-clause-stuck c = λ why e.
    let image = c.args.image.now in
    let program = c.args.program.now in
    let x = c.args.examined.at.now in
    let next = c.put_results.new.next in
    inr (next, c.in_default.ensures.ok, subst (StuckWith image program x next) (why_is c.in-Some.why why e) c.in-Some.ensures.some)

-- what is noted is shown by one of the instances so far, or by this one
noted_before : (image : Flash) (p : Program) (nodes : List Instance) (by : ℕ) (x : Instance) (next : Next) (noted : Shown)
    (old new : List Mark) → slice_get nodes by ≡ Some x → AreMarked image p nodes old by → After image p x (Ok next)
    → MarksWay p x next old (Some noted) new → ShownBefore image p nodes (by + 1) noted.place noted.event
noted_before image p nodes by x next noted old new here marked after (was, _) = elim was [
  | inl before ↦ let it = marked noted.place noted.event before in record {
    number = it.number;
    below = (let below = it.below in omega arith);
    x = it.x;
    there = it.there;
    shows = it.shows;
  }
  | inr own ↦ record { number = by; below = omega arith; x = x; there = here; shows = (next, after, own.0, own.1) }
]

pub first_to_show-requires-clause-some : goal.first_to_show-requires-clause-some
first_to_show-requires-clause-some c =
    let next = c.put_results.new.next in
    noted_before c.args.image.now c.args.program.now c.args.nodes.now c.args.examined.by c.args.examined.at.now next c.in-Some-mark_way.noted
    c.args.marks.now c.mark_way.new.marks c.requires.here c.requires.marked c.in_default.ensures.ok c.in-Some-mark_way.ensures

other_is : (a b : ℕ) → ◌≡◌ {A = Result ⊤ Stop} (Err (Split a)) (Err (Split b)) → a ≡ b
other_is a b e = cc

pub returns-in-Some-mark_way-clause-split : goal.returns-in-Some-mark_way-clause-split
returns-in-Some-mark_way-clause-split c = λ other e.
    let next = c.put_results.new.next in
    let noted = c.in-Some-mark_way.noted in
    let first = c.first_to_show.ensures in
    let way = c.in-Some-mark_way.ensures in
    inl (
      first.0,
      subst (λ n. slice_get c.args.nodes.now n ≡ Some first.0) (other_is c.first_to_show.result other e) first.1,
      (
        noted.place,
        noted.event,
        way.1.0,
        first.2,
        (next, c.in_default.ensures.ok, way.1.1.0, way.1.1.1),
        way.1.2,
      ),
    )
