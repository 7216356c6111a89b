-- How many elements at the front of a list pass a test.
use Rattle.std.proofs.Common.{◌≡◌, ℕ, ◌+◌, ◌<◌, Bool, true, false, List, length, get_or, drop, refl, add-one, drop-cons}
use Rattle.std.specs.List.{prefix_len}

-- one that passes more
pub prefix_more : (p : ℕ → Bool) (xs : List ℕ) (n : ℕ) → n < length xs → p (get_or xs n 0) ≡ true → prefix_len p (drop n xs) ≡ 1
    + prefix_len p (drop (n + 1) xs)
prefix_more p xs n h e = rw (add-one, drop-cons xs n 0 h) (rw e refl)

-- the first that doesn't pass
pub prefix_ends : (p : ℕ → Bool) (xs : List ℕ) (n : ℕ) → n < length xs → p (get_or xs n 0) ≡ false → prefix_len p (drop n xs) ≡ 0
prefix_ends p xs n h e = rw (drop-cons xs n 0 h) (rw e refl)
