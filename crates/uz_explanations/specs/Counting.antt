-- How many instances stand at each program counter.
use Rattle.std.specs.Prelude.{ℕ, zero, suc, ◌+◌, ◌==◌, List, [], ◌∷◌, max, count_by, filter}
use Rattle.uz_schedule.specs.declared.states.Instance.{Instance}

-- the instances at a program counter
abbrev pub crowd : ℕ → List Instance → List Instance
crowd pc instances = filter (λ x. x.pc == pc) instances

-- how many there are
abbrev pub count_at : ℕ → List Instance → ℕ
count_at pc instances = count_by (λ x. x.pc == pc) instances

-- one more than the greatest program counter, 0 if there is no instance
abbrev pub pc_end : List Instance → ℕ
pc_end [] = 0
pc_end (x ∷ xs) = max (x.pc + 1) (pc_end xs)

-- how many instances each of n program counters has, from this one on
abbrev pub counts_from : List Instance → ℕ → ℕ → List ℕ
counts_from instances pc zero = []
counts_from instances pc (suc n) = count_at pc instances ∷ counts_from instances (suc pc) n

abbrev pub counts : List Instance → List ℕ
counts instances = counts_from instances 0 (pc_end instances)
