-- Lists of numbers that are kept one behind the other.
use Rattle.std.specs.Prelude.{◌≡◌, ℕ, ◌+◌, ◌*◌, ◌≤◌, List, Some, length, slice_get}
use Rattle.std.specs.List.{between}
use Rattle.uz_paths.specs.declared.lists.Lists.{Lists}

-- the list of number i: from where it begins to where the next one does
pub record IsListAt (lists : Lists) (i : ℕ) (list : List ℕ) : Type 0 where
  pub from : ℕ
  pub to : ℕ
  pub begins : slice_get lists.starts.items i ≡ Some from
  pub ends : slice_get lists.starts.items (i + 1) ≡ Some to
  pub order : from ≤ to
  pub within : to ≤ length lists.numbers.items
  pub is : list ≡ between from to lists.numbers.items

-- there is a list of number i, of at most 16 numbers
pub record HasListAt (lists : Lists) (i : ℕ) : Type 0 where
  pub list : List ℕ
  pub there : IsListAt lists i list
  pub few : length list ≤ 16

-- there are so many lists, of at most 16 numbers each
pub record AreLists (lists : Lists) (count : ℕ) : Type 0 where
  pub starts : length lists.starts.items ≡ count + 1
  pub last : slice_get lists.starts.items count ≡ Some (length lists.numbers.items)
  pub few : length lists.numbers.items ≤ 16 * count
