-- Steps that gave a value, taken apart.
use Rattle.std.proofs.Common.{◌≡◌, refl, Result, Ok, Err}
use Rattle.avr_text.specs.Faults.{OrFault, ◌>>=◌}
use Rattle.avr_asm.specs.Hints.{mapped}

-- both are Ok of one value
pub ok_same : {X E : Type 0} (x y : X) → ◌≡◌ {A = Result X E} (Ok x) (Ok y) → x ≡ y
ok_same x y e = cc

pub bound : {X Y : Type 0} (o : OrFault X) (f : X → OrFault Y) (y : Y) → (o >>= f) ≡ Ok y → (x : X) × (o ≡ Ok x) × (f x ≡ Ok y)
bound (Ok x) f y e = (x, refl, e)
bound (Err why) f y e = absurd cc

pub made : {X Y : Type 0} (o : OrFault X) (f : X → Y) (y : Y) → mapped o f ≡ Ok y → (x : X) × (o ≡ Ok x) × (f x ≡ y)
made (Ok x) f y e = (x, refl, ok_same (f x) y e)
made (Err why) f y e = absurd cc
