-- What follows an instance stands in the frame as it does.
use Rattle.uz_search.proofs.Common.{◌≡◌, ℕ, zero, suc, ◌<◌, ◌≤◌, List, map, Option, true, false, refl, sym, ap, ◌∙◌, subst, ⊎_elim}
use Rattle.uz_search.proofs.Common.{if◌then◌else◌, arith, flat_map, is_top, length_of, next_line, response_clocks, IsInstanceTold, Handler}
use Rattle.uz_search.proofs.Common.{Instance, Next, Program, Stands, ProgramFits, Among, Flash, Follows, entries, entry_at, lines_of}
use Rattle.uz_search.proofs.Common.{split_at, pieces, IsTree, widened, cases_Bool, same_Some}
use Rattle.uz_schedule.specs.declared.kinds.Response.{Response}
use Rattle.uz_schedule.specs.declared.kinds.Response.TheVariants.{Four, Five}
use Rattle.uz_search.proofs.FramePlaces.{length_some, next_is, next_below}
use Rattle.uz_search.proofs.Lists.{of_flat}
use Rattle.uz_search.proofs.OneResult.{Steps, steps}
use Rattle.uz_search.proofs.Results.{same_kind, stands_next, back_is_handler}
use Rattle.uz_search.proofs.SearchingLemmas.{tree_all}
use Rattle.uz_search.proofs.TimerLaws.{last_clock}
use Rattle.uz_search.proofs.ToldLaws.{told_so}
use Rattle.uz_search.proofs.PiecesLaws.{from_result, result_place, result_rest}
use Rattle.uz_search.proofs.WidenedLaws.{LeavesRest, SamePlace}

-- a place of another instance
pub stands_so : (program : Program) (a b : Instance) → SamePlace a b → LeavesRest a b → Stands program b → Stands program a
stands_so program a b same rest h = record {
  line = subst (λ n. n < lines_of program) (sym same.line) h.line;
  clock = subst (λ l. a.clock < length_of program.schedule l) (sym same.line)
      (subst (λ n. n < length_of program.schedule b.line) (sym same.clock) h.clock);
  level = subst (λ n. n ≤ 1) (sym same.level) h.level;
  main = λ main. let m = h.main (sym same.kind ∙ main) in (same.line ∙ m.0, same.clock ∙ m.1);
  entered = λ handler. h.entered (sym same.kind ∙ handler);
  pending = λ apart. same.pending ∙ h.pending (λ e. apart (same.kind ∙ e));
  top = ap is_top same.top ∙ h.top;
  timer = λ apart. (let t = h.timer (λ e. apart (same.kind ∙ e)) in (same.top ∙ t.0, same.temp ∙ t.1));
  told = subst IsInstanceTold (sym rest) (told_so b (record b { regs = a.regs; pairs = a.pairs }) refl h.told);
}

few_response : (irq : Response) → response_clocks irq ≤ 5
few_response Four = omega arith
few_response Five = omega arith

-- the handler's entry after a return
pub record EntryOf (program : Program) (end e : Instance) : Type 0 where
  pub c : ℕ
  pub few : c ≤ 3
  pub is : entry_at program end c ≡ e

pub entry_of : (program : Program) (end e : Instance) → Among (entries program end) e → EntryOf program end e
entry_of program end e (zero, h) = record { c = 0; few = omega arith; is = same_Some _ e h }
entry_of program end e (suc zero, h) = record { c = 1; few = omega arith; is = same_Some _ e h }
entry_of program end e (suc (suc zero), h) = record { c = 2; few = omega arith; is = same_Some _ e h }
entry_of program end e (suc (suc (suc zero)), h) = record { c = 3; few = omega arith; is = same_Some _ e h }
entry_of program end e (suc (suc (suc (suc i))), h) = cc

pub stands_entry : (program : Program) (end e : Instance) → ProgramFits program → Stands program end → end.kind ≡ Handler
    → Among (entries program end) e → Stands program e
stands_entry program end e fits stands handler h =
    let it = entry_of program end e h in
    let few = it.few in
    let response = few_response program.head.irq in
    let room = length_some program fits (next_line program.schedule end.line) in
    subst (Stands program) it.is (record {
      line = next_below program.schedule end.line _ stands.line (next_is program.schedule end.line stands.line);
      clock = omega (arith, few, response, room);
      level = stands.level;
      main = λ main. cc;
      entered = λ _. stands.entered handler;
      pending = λ other. absurd (other refl);
      top = last_clock (length_of program.schedule end.line) (fits.lengths end.line);
      timer = λ other. absurd (other refl);
      told = refl;
    })

-- what follows an instance that stands in the frame stands in it
pub stands_more : (image : Flash) (program : Program) → ProgramFits program → (x y : Instance) → Stands program x
    → Follows image program x y → Stands program y
stands_more image program fits x y stands follows = ⊎_elim
    (λ (back : next.back ≡ true).
    let flat : Among (flat_map (entries program) next.out.items) y = subst (λ l. Among l y)
    (ap (λ b. if b then flat_map (entries program) next.out.items else map (widened program) (pieces (split_at program x) next.out.items))
    back) follows.is in
    let from = of_flat (entries program) next.out.items y flat in
    let handler = back_is_handler image program x next s back in
    stands_entry program from.0 y fits (stands_next image program fits x stands next s from.0 from.1)
    (same_kind image program x next s from.0 from.1 ∙ handler) from.2)
    (λ (back : next.back ≡ false).
    let f = from_result program x next y back follows.is in
    stands_so program y f.result (result_place program x next y f) (result_rest program x next y f)
    (stands_next image program fits x stands next s f.result f.there))
    (cases_Bool next.back)
  where
    next : Next
    next = follows.next

    s : Steps image program x next
    s = steps image program x next follows.after

pub stands_all : (image : Flash) (program : Program) (nodes : List Instance) (parents : List (Option ℕ)) → ProgramFits program
    → IsTree image program nodes parents → (x : Instance) → Among nodes x → Stands program x
stands_all image program nodes parents fits tree = tree_all image program (Stands program) (λ y h. (fits.starts y h).stands)
    (stands_more image program fits) nodes parents tree
