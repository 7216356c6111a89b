use Rattle.std.proofs.Common.{◌≡◌, ℕ, List, ◌++◌, append_assoc, sym, ◌∙◌, ap, codes}
use Rattle.std.specs.Prelude.{Result, Ok, Err, OnOk}
use Rattle.uz_debug.specs.Debuggers.{read_of}
use Rattle.uz_debug.specs.SessionText.{at_text, bytes_text, status_text}
use Rattle.uz_debug.proofs.session_lines.add_registers.Goals as goal

-- a place, a status and a row behind a text
behind : {T E : Type 0} (result : Result T E) (old first second new place status row end : List ℕ) →
    first ≡ old ++ place → second ≡ first ++ status → OnOk result (new ≡ second ++ (row ++ end)) →
    OnOk result (new ≡ old ++ (place ++ status ++ row ++ end))
behind (Ok x) old first second new place status row end e f g =
    g ∙ ap (λ text. text ++ (row ++ end)) (f ∙ ap (λ text. text ++ status) e ∙ append_assoc old place status)
    ∙ append_assoc old (place ++ status) (row ++ end)
    ∙ ap (λ text. old ++ text) (sym (append_assoc (place ++ status) row end))
behind (Err e) old first second new place status row end _ _ _ = tt

pub returns : goal.returns
returns c =
    let read = read_of c.args.console.now in
    behind c.add_row.result c.args.text.now.items c.add_place.new.text.items c.add_status.new.text.items c.add_row.new.text.items
    (at_text c.args.turn c.args.clock c.args.pc) (status_text read) (bytes_text read 0 32) (codes "\n") c.in_ok-add_place.ensures
    c.in_ok-add_status.ensures c.add_row.ensures
