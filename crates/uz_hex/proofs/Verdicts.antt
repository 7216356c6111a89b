-- What the answer of the reader says of the text.
use Rattle.std.proofs.Common.{◌≡◌, ℕ, List, Result, Ok, Err, ◌⊎◌, inl, inr, sym, ap, subst, ◌∙◌}
use Rattle.std.specs.Prelude.{IfOk, IfErr, ◌↔◌}
use Rattle.uz_hex.specs.HexText.{lines_of, IsHexOf, IsFirstFault}
use Rattle.uz_hex.specs.Reading.{Flash, Fault, read_text, GivesHex}
use Rattle.uz_hex.specs.declared.errors.HexError.{HexError}
use Rattle.uz_hex.specs.declared.errors.HexWhy.{HexWhy}
use Rattle.uz_hex.specs.declared.errors.HexWhy.TheVariants as why
use Rattle.uz_hex.proofs.TextLaws.{IsAnswer, read_is, read_made, read_faulty}

pub answer_found : (text : List ℕ) (r : Result Flash HexError) → GivesHex r (read_text text) → IfOk r (λ image. IsHexOf text image)
answer_found text (Ok image) is = subst (IsAnswer (lines_of text)) is (read_is (lines_of text))
answer_found text (Err e) is = tt

pub answer_only : (text : List ℕ) (r : Result Flash HexError) → GivesHex r (read_text text) → (image : Flash) → IsHexOf text image
    → GivesHex r (Ok image)
answer_only text r is image made = subst (GivesHex r) (read_made (lines_of text) image made) is

pub answer_first : (text : List ℕ) (r : Result Flash HexError) → GivesHex r (read_text text)
    → IfErr r (λ e. (e.why ≡ why.Memory) ⊎ IsFirstFault text e.line e.why)
answer_first text (Ok image) is = tt
answer_first text (Err e) (inl memory) = inl memory
answer_first text (Err e) (inr is) = inr (subst (IsAnswer (lines_of text)) is (read_is (lines_of text)))

pub answer_faulty : (text : List ℕ) (r : Result Flash HexError) → GivesHex r (read_text text) → (line : ℕ) (w : HexWhy) → IsFirstFault text
    line w → GivesHex r (Err (line, w))
answer_faulty text r is line w fault = subst (GivesHex r) (read_faulty (lines_of text) line w fault) is

pub ruleset verdicts = (answer_found, answer_only, answer_first, answer_faulty)

-- a text is of an image or has a first fault
abbrev pub Decided : List ℕ → Type 0
Decided text = ((image : Flash) × IsHexOf text image) ⊎ ((line : ℕ) × (w : HexWhy) × IsFirstFault text line w)

decided_by : (text : List ℕ) (r : Result Flash Fault) → IsAnswer (lines_of text) r → Decided text
decided_by text (Ok image) is = inl (image, is)
decided_by text (Err fault) is = inr (fault.0, fault.1, is)

pub text_decided : (text : List ℕ) → Decided text
text_decided text = decided_by text (read_text text) (read_is (lines_of text))

pub one_image : (text : List ℕ) (a b : Flash) → IsHexOf text a → IsHexOf text b → a ≡ b
one_image text a b ha hb =
    let e : Ok a ≡ Ok b = sym (read_made (lines_of text) a ha) ∙ read_made (lines_of text) b hb in
    cc e

pub not_both : (text : List ℕ) (image : Flash) (line : ℕ) (w : HexWhy) → IsHexOf text image → IsFirstFault text line w → ⊥
not_both text image line w made fault =
    let e : Ok image ≡ Err (line, w) = sym (read_made (lines_of text) image made) ∙ read_faulty (lines_of text) line w fault in
    cc e

abbrev fault_or : Fault → Result Flash Fault → Fault
fault_or other (Ok image) = other
fault_or other (Err fault) = fault

pub one_fault : (text : List ℕ) (m n : ℕ) (v w : HexWhy) → IsFirstFault text m v → IsFirstFault text n w → (m ≡ n) × (v ≡ w)
one_fault text m n v w a b =
    let e : Err (m, v) ≡ Err (n, w) = sym (read_faulty (lines_of text) m v a) ∙ read_faulty (lines_of text) n w b in
    (ap (λ r. (fault_or (m, v) r).0) e, ap (λ r. (fault_or (m, v) r).1) e)

-- the plain reader gives an image exactly where the text is of it, and a fault exactly where it is the first
pub image_exact : (text : List ℕ) (image : Flash) → (read_text text ≡ Ok image) ↔ IsHexOf text image
image_exact text image = (λ is. subst (IsAnswer (lines_of text)) is (read_is (lines_of text)), read_made (lines_of text) image)

pub fault_exact : (text : List ℕ) (line : ℕ) (w : HexWhy) → (read_text text ≡ Err (line, w)) ↔ IsFirstFault text line w
fault_exact text line w = (λ is. subst (IsAnswer (lines_of text)) is (read_is (lines_of text)), read_faulty (lines_of text) line w)
