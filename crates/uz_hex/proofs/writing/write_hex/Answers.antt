use Rattle.std.proofs.Common.{◌≡◌, Result, Ok, Err, IfOk}
use Rattle.uz_hex.specs.Writing.{hex_text}
use Rattle.uz_hex.proofs.Written.{cells_text, written_exact}
use Rattle.uz_hex.proofs.writing.write_hex.Goals as goal

-- what holds of the value of a result, where it follows from what is known of it
if_ok : {T E : Type 0} (r : Result T E) (P Q : T → Type 0) → ((v : T) → P v → Q v) → IfOk r P → IfOk r Q
if_ok (Ok v) P Q f h = f v h
if_ok (Err e) P Q f h = tt

pub returns-clause-exact : goal.returns-clause-exact
returns-clause-exact c =
    if_ok c.write_cells.result (λ v. v.items ≡ cells_text c.cells.result.now) (λ v. v.items ≡ hex_text c.args.image.now)
    (λ v is. written_exact c.args.image.now c.cells.result.now v.items c.cells.ensures.view is) c.write_cells.ensures
