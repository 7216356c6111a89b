-- The names that a map's entries have.
use Rattle.std.specs.Prelude.{◌≡◌, ℕ, ℤ, List, map, Vec, Option, Some, None, Ok, Err}
use Rattle.std.specs.declared.alloc.Global.{Global}
use Rattle.std.specs.Ordering.{nat_cmp}
use Rattle.std.specs.Cmp.Lexicographic.{slice_cmp}
use Rattle.std.specs.FinMap.{FinMap, get}
use Rattle.avr_text.specs.declared.values.ValueWhy.TheVariants.{Unknown}
use Rattle.avr_text.specs.Arithmetic.{ValueOrWhy}

-- names as lists of bytes
abbrev pub named : List (Vec ℕ Global × ℤ) → List (List ℕ × ℤ)
named entries = map {B = List ℕ × ℤ} (λ (e : Vec ℕ Global × ℤ). (e.0.items, e.1)) entries

-- the values of names
abbrev pub NameMap : Type 0
NameMap = FinMap {K = List ℕ} (slice_cmp nat_cmp) ℤ

-- the value of a name, where it has one
abbrev pub known : Option ℤ → ValueOrWhy
known None = Err Unknown
known (Some x) = Ok x

-- each name that has a value keeps it
abbrev pub Keeps : NameMap → NameMap → Type 0
Keeps before after = (name : List ℕ) (x : ℤ) → get before name ≡ Some x → get after name ≡ Some x
