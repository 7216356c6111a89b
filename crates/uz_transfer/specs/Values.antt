-- What is known of registers, pairs and flags in an instance, and how it changes where one of them is written.
use Rattle.std.specs.Prelude.{Bool, List, [], if◌then◌else◌, nat_eq, nat_le, slice_index_or, slice_set, ℕ, ◌*◌, ◌+◌, ◌-◌, ◌/◌, ◌||◌, ◌∷◌}
use Rattle.uz_schedule.specs.Ends.{Ends, hull}
use Rattle.uz_schedule.specs.declared.facts.Bit.{Bit}
use Rattle.uz_schedule.specs.declared.facts.Bit.TheVariants.{Free}
use Rattle.uz_schedule.specs.declared.facts.Val.{Val}
use Rattle.uz_schedule.specs.declared.facts.Val.TheVariants.{Old, OldFlags, Range}
use Rattle.uz_schedule.specs.declared.states.Instance.{Instance}
use Rattle.uz_range.specs.Answers.{is_single, ends}
use Rattle.uz_range.specs.Rules.{high_answer, low_answer}

-- the range of a byte; an interrupted value may be any byte
abbrev pub span_of : Val → Ends
span_of (Range e) = e
span_of (Old r) = ends 0 255
span_of OldFlags = ends 0 255

-- Places. Nothing is known past an end

abbrev pub value_at : List Val → ℕ → Val
value_at vals r = slice_index_or vals r (Range (ends 0 255))

abbrev pub flag_at : List Bit → ℕ → Bit
flag_at flags k = slice_index_or flags k Free

abbrev pub pair_at : List Ends → ℕ → Ends
pair_at pairs k = slice_index_or pairs k (ends 0 65535)

abbrev pub span_at : List Ends → ℕ → Ends
span_at spans j = slice_index_or spans j (ends 0 255)

-- one for each of the flags C Z N V S H T
abbrev pub each_flag : {A : Type 0} → (ℕ → A) → List A
each_flag f = f 0 ∷ f 1 ∷ f 2 ∷ f 3 ∷ f 4 ∷ f 5 ∷ f 6 ∷ []

-- Registers and pairs; a pair is named by its low register

-- the hull of a pair's bytes
abbrev pub byte_hull : List Val → ℕ → Ends
byte_hull regs d = hull (span_of (value_at regs d)) (span_of (value_at regs (d + 1)))

-- X, Y and Z have a range of their own
abbrev pub is_pointer : ℕ → Bool
is_pointer d = nat_eq d 26 || nat_eq d 28 || nat_eq d 30

-- the number of the pair, among X, Y and Z, that register d from 26 on is part of
abbrev pub pair_number : ℕ → ℕ
pair_number d = (d - 26) / 2

abbrev pub pair_range : Instance → ℕ → Ends
pair_range inst d = if is_pointer d then pair_at inst.pairs (pair_number d) else byte_hull inst.regs d

-- what a step of a pair begins with: the bytes, where both are single, else the range of the pair
abbrev pub exact_pair : Instance → ℕ → Ends
exact_pair inst d = if is_single (byte_hull inst.regs d) then byte_hull inst.regs d else pair_range inst d

-- where a register is written, its pair is the hull of its bytes
abbrev pub pairs_after_byte : ℕ → List Val → List Ends → List Ends
pairs_after_byte d regs pairs = if nat_le 26 d then slice_set pairs (pair_number d) (byte_hull regs (26 + 2 * pair_number d)) else pairs

abbrev pub with_value : ℕ → Val → Instance → Instance
with_value d v inst = record inst { regs = slice_set inst.regs d v; pairs = pairs_after_byte d (slice_set inst.regs d v) inst.pairs }

abbrev pub with_pair_range : ℕ → Ends → Instance → Instance
with_pair_range d e inst = record inst { pairs = if is_pointer d then slice_set inst.pairs (pair_number d) e else inst.pairs }

-- a pair takes a range
abbrev pub with_pair_value : ℕ → Ends → Instance → Instance
with_pair_value d e inst = with_pair_range d e (with_value (d + 1) (Range (high_answer e)) (with_value d (Range (low_answer e)) inst))

abbrev pub with_flag_list : List Bit → Instance → Instance
with_flag_list flags inst = record inst { flags = flags }

-- the flags that an instruction keeps stay, and the others are its answer's
abbrev pub merged_flags : (ℕ → Bool) → List Bit → List Bit → List Bit
merged_flags keeps new old = each_flag (λ k. if keeps k then flag_at old k else flag_at new k)

abbrev pub any_byte : Val
any_byte = Range (ends 0 255)

abbrev pub known_byte : ℕ → Val
known_byte v = Range (ends v v)
