-- The program counters in the order of how many instances each one has.
use Rattle.std.specs.Prelude.{ℕ, suc, ◌≡◌, ◌≤◌, ◌<◌, ◌⊎◌, List, [], ◌∷◌, Some, length, nat_eq, nat_lt, slice_get, take, if◌then◌else◌}
use Rattle.uz_schedule.specs.declared.states.Instance.{Instance}
use Rattle.uz_explanations.specs.declared.ranking.Crowd.{Crowd}
use Rattle.uz_explanations.specs.Counting.{count_at}

-- how many are told of at most
abbrev pub most_crowds : ℕ
most_crowds = 20

-- behind those with more instances, before all others
abbrev pub placed : Crowd → List Crowd → List Crowd
placed c [] = c ∷ []
placed c (d ∷ ds) = if nat_lt c.count d.count then d ∷ placed c ds else c ∷ d ∷ ds

-- of the counts of the program counters from this one on: those that have an instance, most instances first, and of as many the lower
-- program counter first
abbrev pub ranked : ℕ → List ℕ → List Crowd
ranked pc [] = []
ranked pc (count ∷ counts) =
    if nat_eq count 0 then ranked (suc pc) counts else placed (record { pc = pc; count = count }) (ranked (suc pc) counts)

-- of the counts of all program counters
abbrev pub greatest : List ℕ → List Crowd
greatest counts = take most_crowds (ranked 0 counts)

-- how many at the begin of a list have more instances
abbrev pub before : ℕ → List Crowd → ℕ
before count [] = 0
before count (d ∷ ds) = if nat_lt count d.count then suc (before count ds) else 0

-- What the order comes to

-- one has no fewer instances than another, and where it has as many, the lower program counter
abbrev pub Precedes : Crowd → Crowd → Type 0
Precedes c d = (d.count ≤ c.count) × (d.count ≡ c.count → c.pc < d.pc)

abbrev pub IsSorted : List Crowd → Type 0
IsSorted crowds = (i j : ℕ) (c d : Crowd) → i < j → slice_get crowds i ≡ Some c → slice_get crowds j ≡ Some d → Precedes c d

abbrev pub IsAmong : List Crowd → Crowd → Type 0
IsAmong crowds c = (i : ℕ) × (slice_get crowds i ≡ Some c)

-- the crowd of a program counter
abbrev pub crowd_of : List Instance → ℕ → Crowd
crowd_of instances pc = record { pc = pc; count = count_at pc instances }

-- these are the program counters with most instances: at most 20, in their order, with their numbers; and of those that have instances, each
-- is one of them, or there are 20 and each of these precedes it
pub record AreGreatest (instances : List Instance) (told : List Crowd) : Type 0 where
  pub few : length told ≤ most_crowds
  pub sorted : IsSorted told
  pub counted : (c : Crowd) → IsAmong told c → (c ≡ crowd_of instances c.pc) × (0 < c.count)
  pub all : (pc : ℕ) → 0 < count_at pc instances → IsAmong told (crowd_of instances pc)
      ⊎ ((length told ≡ most_crowds) × ((c : Crowd) → IsAmong told c → Precedes c (crowd_of instances pc)))
