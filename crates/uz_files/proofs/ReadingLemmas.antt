-- From what a reader answers to what reading a file gives.
use Rattle.std.proofs.Common.{◌≡◌, inl, inr, ℕ, ◌≤◌, List, length, sym, ap, ◌∙◌}
use Rattle.std.specs.Prelude.{Option}
use Rattle.uz_shelf.specs.Files.{FileMap, HoldsFile}
use Rattle.uz_files.specs.declared.ending.Failure.{Failure}
use Rattle.uz_files.specs.declared.ending.Failure.TheVariants.{Unread as UnreadFile, BadInput as BadFile, Memory as NoRoom}
use Rattle.uz_files.specs.declared.status.Status.TheVariants.{Unread, BadInput}
use Rattle.uz_files.specs.declared.text_fault.TextFault.{TextFault}
use Rattle.uz_files.specs.declared.text_fault.TextFault.TheVariants.{At, Memory}
use Rattle.uz_files.specs.Endings.{EndsBy}
use Rattle.uz_files.specs.Answers.{Answer, one_line}
use Rattle.uz_files.specs.Reading.{Fault, Fails, Refuses, Says}
use Rattle.uz_files.specs.TextFaults.{Tells, TellsFault}

-- a value of the code that a file says, and what it stands for
pub says_seen : {A B : Type 0} (files : Option FileMap) (name : List ℕ) (limit : ℕ) (spells : List ℕ → B → Type 0) (seen : A → B) (said : A)
    → Says files name limit (λ text x. spells text (seen x)) said → Says files name limit spells (seen said)
says_seen files name limit spells seen said says =
    record { bytes = says.bytes; held = says.held; short = says.short; reads = says.reads }

pub ends_by : (P Q : Answer → Type 0) (failure : Failure) → ((answer : Answer) → P answer → Q answer) → EndsBy P failure → EndsBy Q failure
ends_by P Q (UnreadFile line) leads h = leads (one_line Unread line.items) h
ends_by P Q (BadFile line) leads h = leads (one_line BadInput line.items) h
ends_by P Q NoRoom leads h = tt

-- a loaded text that is refused
pub fault_fails : (files : Option FileMap) (load_fault : Type 0) (name bytes : List ℕ) (limit : ℕ) (refuses : List ℕ → Fault → Type 0)
    (fault : TextFault) (failure : Failure) → HoldsFile files name bytes → length bytes ≤ limit → Tells (refuses bytes) fault
    → EndsBy (TellsFault name fault) failure → EndsBy (Fails files load_fault name limit refuses) failure
fault_fails files load_fault name bytes limit refuses (At line why) failure held short refused tells =
    ends_by (TellsFault name (At line why)) (Fails files load_fault name limit refuses) failure
    (λ answer h. inr (record { bytes = bytes; held = held; short = short; fault = (line, why.now); reads = refused; answer = h })) tells
fault_fails files load_fault name bytes limit refuses Memory failure held short refused tells =
    ends_by (TellsFault name Memory) (Fails files load_fault name limit refuses) failure (λ answer h. absurd h) tells

-- a fault is its line and its name
same_fault : (x y : Fault) → x.0 ≡ y.0 → x.1 ≡ y.1 → x ≡ y
same_fault x y p q = λ i. (p i, q i)

-- where a text has one first fault, it has one with the name of its why
pub one_refusal : {W : Type 0} (is_first : List ℕ → ℕ → W → Type 0) (name_of : W → List ℕ)
    → ((text : List ℕ) (m n : ℕ) (v w : W) → is_first text m v → is_first text n w → (m ≡ n) × (v ≡ w))
    → (text : List ℕ) (x y : Fault) → Refuses is_first name_of text x → Refuses is_first name_of text y → x ≡ y
one_refusal is_first name_of one text x y (v, first, named) (w, second, called) =
    let same = one text x.0 y.0 v w first second in
    same_fault x y same.0 (named ∙ (ap name_of same.1 ∙ sym called))

-- a fault of loading in one of several calls
pub fails_by : (files : Option FileMap) (narrow wide : Type 0) (name : List ℕ) (limit : ℕ) (refuses : List ℕ → Fault → Type 0)
    (answer : Answer) → (narrow → wide) → Fails files narrow name limit refuses answer → Fails files wide name limit refuses answer
fails_by files narrow wide name limit refuses answer widen (inl (inl (same, inl fault))) = inl (inl (same, inl (widen fault)))
fails_by files narrow wide name limit refuses answer widen (inl (inl (same, inr lacks))) = inl (inl (same, inr lacks))
fails_by files narrow wide name limit refuses answer widen (inl (inr long)) = inl (inr long)
fails_by files narrow wide name limit refuses answer widen (inr faulty) = inr faulty
