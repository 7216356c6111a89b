use Rattle.uz_search.proofs.Common.{◌≡◌, ◌≢◌, Bool, true, false, not, sym, ap, ◌∙◌, true≢false, refl, IsTrue, ◌↔◌, Main, Instance, Next}
use Rattle.uz_search.proofs.Common.{Program, most_clocks, PassesUnsteady, is_clear_way}
use Rattle.uz_search.proofs.ClearWay.{passes_from, passes_not}
use Rattle.uz_search.proofs.stuck.passes_unsteady.Goals as goal

told : (program : Program) (x : Instance) (next : Next) (b : Bool) → x.kind ≢ Main → b ≡ is_clear_way program x next.emit
    (most_clocks program x next.out.items) → IsTrue (not b) ↔ PassesUnsteady program x next
told program x next true apart e = (λ h. absurd (true≢false (sym h)), λ u. absurd (passes_not program x next (sym e) u))
told program x next false apart e = (λ h. passes_from program x next apart (sym e), λ u. refl)

pub returns-then-not-is_main : goal.returns-then-not-is_main
returns-then-not-is_main c =
    let program = c.args.program.now in
    let x = c.args.at.now in
    let next = c.args.next.now in
    told program x next c.passes_clear.result (λ main. true≢false (sym (c.if-not-is_main.ensures.1 main)))
    (c.passes_clear.ensures ∙ ap (is_clear_way program x next.emit) (c.most_clocks.ensures.clocks ∙ ap (most_clocks program x)
    c.as_slice.ensures.value))
