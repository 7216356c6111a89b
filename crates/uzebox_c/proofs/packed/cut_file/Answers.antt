use Rattle.std.proofs.Common.{◌≡◌, ◌++◌, ◌∙◌, ℕ, List, sym, subst}
use Rattle.std.specs.Prelude.{IfNone}
use Rattle.uzebox_c.specs.Packed.{field}
use Rattle.uzebox_c.proofs.PackedLaws.{unique}
use Rattle.uzebox_c.proofs.packed.cut_file.Goals as goal

pub returns-in_err-text-clause-none : goal.returns-in_err-text-clause-none
returns-in_err-text-clause-none c =
    let cut = c.in_ok-name.ensures in
    subst (λ r. IfNone r ((name text rest : List ℕ) → c.args.bytes.now ≡ field name ++ (field text ++ rest) → ⊥))
    (sym c.from_residual-in_err-text.ensures) (λ name text rest e.
    c.in_err-text.ensures.none text rest
    (sym (unique name (field text ++ rest) c.in_ok-name.name.now c.in_ok-name.more.now cut.fits (sym e ∙ cut.cut)).1))
