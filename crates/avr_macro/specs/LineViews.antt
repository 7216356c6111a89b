-- What the values of the code stand for.
use Rattle.std.specs.Prelude.{ℕ, List, map, Vec}
use Rattle.std.specs.declared.alloc.Global.{Global}
use Rattle.std.specs.Borrow.{Bor}
use Rattle.avr_macro.specs.declared.values.Setting.{Setting as SettingValue}
use Rattle.avr_macro.specs.Values.{Setting}

-- texts that are borrowed
abbrev pub lent : Vec (Bor (List ℕ)) Global → List (List ℕ)
lent parts = map (λ (part : Bor (List ℕ)). part.now) parts.items

-- a name and its value
abbrev pub seen_setting : SettingValue → Setting
seen_setting setting = (setting.name.items, setting.value)
