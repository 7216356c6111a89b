-- A shelf that tells its files gives one answer, unless loading met a fault.
use Rattle.std.proofs.Common.{◌≡◌, ◌⊎◌, inl, inr, ℕ, ◌<◌, ◌≤◌, List, length, sym, ◌∙◌, ap, subst, arith}
use Rattle.std.specs.Prelude.{Option, Some}
use Rattle.std.specs.FinMap.{get}
use Rattle.uz_shelf.specs.Files.{FileMap, LacksFile}
use Rattle.uz_files.specs.declared.status.Status.TheVariants.{Unread, BadInput}
use Rattle.uz_files.specs.Answers.{Answer, one_line}
use Rattle.uz_files.specs.Lines.{bad_line}
use Rattle.uz_files.specs.Reading.{Fault, Fails, IsFaulty, IsReader, Reads, Says}

-- a file that ends the command, by its status
pub fails_status : (files : Option FileMap) (load_fault : Type 0) (name : List ℕ) (limit : ℕ) (refuses : List ℕ → Fault → Type 0)
    (answer : Answer) → Fails files load_fault name limit refuses answer → ((answer.status ≡ Unread) × (load_fault ⊎ LacksFile files name))
    ⊎ (answer.status ≡ BadInput)
fails_status files load_fault name limit refuses answer (inl (inl (same, cause))) = inl (ap (λ a. a.status) same, cause)
fails_status files load_fault name limit refuses answer (inl (inr (same, long))) = inr (ap (λ a. a.status) same)
fails_status files load_fault name limit refuses answer (inr faulty) = inr (ap (λ a. a.status) faulty.answer)

same_bytes : (files : FileMap) (name x y : List ℕ) → get files name ≡ Some x → get files name ≡ Some y → x ≡ y
same_bytes files name x y p q = cc

too_long : (x y : List ℕ) (limit : ℕ) → x ≡ y → limit < length x → length y ≤ limit → ⊥
too_long x y limit e long short = omega (arith, ap length e)

module _ {A : Type 0} (files : FileMap) (load_fault : Type 0) (name : List ℕ) (limit : ℕ) (spells : List ℕ → A → Type 0)
    (refuses : List ℕ → Fault → Type 0) (reader : IsReader spells refuses) where
  pub says_same : (x y : A) → Says (Some files) name limit spells x → Says (Some files) name limit spells y → x ≡ y
  says_same x y p q =
      let e : p.bytes ≡ q.bytes = same_bytes files name p.bytes q.bytes p.held q.held in
      reader.one q.bytes x y (subst (λ b. spells b x) e p.reads) q.reads

  -- a file that says something fails by a fault alone
  pub fails_says : (fault : Type 0) (a : Answer) (x : A) → Fails (Some files) fault name limit refuses a → Says (Some files) name limit
      spells x → fault
  fails_says fault a x (inl (inl (same, inl met))) q = met
  fails_says fault a x (inl (inl (same, inr lacks))) q = absurd (cc (lacks, q.held))
  fails_says fault a x (inl (inr (same, long))) q =
      absurd (too_long long.0 q.bytes limit (same_bytes files name long.0 q.bytes long.1 q.held) long.2 q.short)
  fails_says fault a x (inr p) q =
      let e : q.bytes ≡ p.bytes = same_bytes files name q.bytes p.bytes q.held p.held in
      absurd (reader.apart p.bytes x p.fault (subst (λ b. spells b x) e q.reads) p.reads)

  faulty_same : (a b : Answer) → IsFaulty (Some files) name limit refuses a → IsFaulty (Some files) name limit refuses b → a ≡ b
  faulty_same a b p q =
      let e : p.bytes ≡ q.bytes = same_bytes files name p.bytes q.bytes p.held q.held in
      let g : p.fault ≡ q.fault = reader.first q.bytes p.fault q.fault (subst (λ c. refuses c p.fault) e p.reads) q.reads in
      p.answer ∙ (ap (λ (x : Fault). one_line BadInput (bad_line name x.0 x.1)) g ∙ sym q.answer)

  fails_same : (a b : Answer) → Fails (Some files) load_fault name limit refuses a → Fails (Some files) ⊥ name limit refuses b → (a ≡ b)
      ⊎ load_fault
  fails_same a b (inl (inl (same, inl fault))) q = inr fault
  fails_same a b (inl (inl (same, inr lacks))) (inl (inl (other, inl never))) = absurd never
  fails_same a b (inl (inl (same, inr lacks))) (inl (inl (other, inr none))) = inl (same ∙ sym other)
  fails_same a b (inl (inl (same, inr lacks))) (inl (inr (other, long))) = absurd (cc (lacks, long.1))
  fails_same a b (inl (inl (same, inr lacks))) (inr q) = absurd (cc (lacks, q.held))
  fails_same a b (inl (inr (same, long))) (inl (inl (other, inl never))) = absurd never
  fails_same a b (inl (inr (same, long))) (inl (inl (other, inr lacks))) = absurd (cc (lacks, long.1))
  fails_same a b (inl (inr (same, long))) (inl (inr (other, rest))) = inl (same ∙ sym other)
  fails_same a b (inl (inr (same, long))) (inr q) =
      absurd (too_long long.0 q.bytes limit (same_bytes files name long.0 q.bytes long.1 q.held) long.2 q.short)
  fails_same a b (inr p) (inl (inl (other, inl never))) = absurd never
  fails_same a b (inr p) (inl (inl (other, inr lacks))) = absurd (cc (lacks, p.held))
  fails_same a b (inr p) (inl (inr (other, long))) =
      absurd (too_long long.0 p.bytes limit (same_bytes files name long.0 p.bytes long.1 p.held) long.2 p.short)
  fails_same a b (inr p) (inr q) = inl (faulty_same a b p q)

  pub reads_same : (next wanted : A → Answer → Type 0) (a b : Answer) → ((x : A) → next x a → wanted x b → (a ≡ b) ⊎ load_fault)
      → Reads (Some files) load_fault name limit spells refuses next a → Reads (Some files) ⊥ name limit spells refuses wanted b → (a ≡ b)
      ⊎ load_fault
  reads_same next wanted a b same (inl p) (inl q) = fails_same a b p q
  reads_same next wanted a b same (inl p) (inr (y, says, q)) = inr (fails_says load_fault a y p says)
  reads_same next wanted a b same (inr (x, says, p)) (inl q) = absurd (fails_says ⊥ b x q says)
  reads_same next wanted a b same (inr (x, first, p)) (inr (y, second, q)) =
      same x p (subst (λ z. wanted z b) (says_same y x second first) q)

-- loading met a fault, or none is needed for the answer
fails_or_fault : (files : Option FileMap) (load_fault : Type 0) (name : List ℕ) (limit : ℕ) (refuses : List ℕ → Fault → Type 0)
    (answer : Answer) → Fails files load_fault name limit refuses answer → load_fault ⊎ Fails files ⊥ name limit refuses answer
fails_or_fault files load_fault name limit refuses answer (inl (inl (is, inl fault))) = inl fault
fails_or_fault files load_fault name limit refuses answer (inl (inl (is, inr lacks))) = inr (inl (inl (is, inr lacks)))
fails_or_fault files load_fault name limit refuses answer (inl (inr long)) = inr (inl (inr long))
fails_or_fault files load_fault name limit refuses answer (inr faulty) = inr (inr faulty)

pub reads_or_fault : {A : Type 0} (files : Option FileMap) (load_fault : Type 0) (name : List ℕ) (limit : ℕ) (spells : List ℕ → A → Type 0)
    (refuses : List ℕ → Fault → Type 0) (next wanted : A → Answer → Type 0) (answer : Answer)
    → ((x : A) → next x answer → load_fault ⊎ wanted x answer) → Reads files load_fault name limit spells refuses next answer → load_fault
    ⊎ Reads files ⊥ name limit spells refuses wanted answer
reads_or_fault files load_fault name limit spells refuses next wanted answer goes (inl fails) =
    elim (fails_or_fault files load_fault name limit refuses answer fails) [
      | inl fault ↦ inl fault
      | inr free ↦ inr (inl free)
    ]
reads_or_fault files load_fault name limit spells refuses next wanted answer goes (inr (x, says, h)) =
    elim (goes x h) [
      | inl fault ↦ inl fault
      | inr free ↦ inr (inr (x, says, free))
    ]
