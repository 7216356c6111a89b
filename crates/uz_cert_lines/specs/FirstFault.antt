-- Which lines a form allows, and what the first fault of another is: a relation over all words of the line. The words are
-- taken from left to right, and the first that isn't as its place asks is the faulty one. A word that is missing is a fault
-- at its place; so is a word too many.
use Rattle.std.specs.Prelude.{◌≡◌, ◌⊎◌, ℕ, ℤ, Bool, true, false, List, [], ◌∷◌, Result, Ok, Err}
use Rattle.uz_schedule.specs.Ends.{Ends}
use Rattle.uz_cert_lines.specs.Grammar.{Words, rest_of, missing, fixed_of, number_of, choice_of, slope_of, end_of}
use Rattle.uz_cert_lines.specs.Items.{first_facts, take_item}
use Rattle.uz_cert_lines.specs.Forms.{LineForm, fixed, number, choice, slope, spans, items, finish, spans_of}
use Rattle.uz_cert_lines.specs.declared.items.Facts.{Facts}
use Rattle.uz_cert_lines.specs.declared.lines.ParsedLine.{ParsedLine}
use Rattle.uz_cert_lines.specs.declared.items.Shape.{Shape}
use Rattle.uz_schedule.specs.declared.header.Cell.{Cell}
use Rattle.uz_cert_lines.specs.declared.why.CertWhy.{CertWhy}
use Rattle.uz_cert_lines.specs.declared.why.CertWhy.TheVariants as whys

-- the next word is there and is read as this
pub record NextIs {A : Type 0} (judge : List ℕ → Result A CertWhy) (words : Words) (a : A) : Type 0 where
  pub word : List ℕ
  pub others : List (List ℕ)
  pub parts : words.list ≡ word ∷ others
  pub is : judge word ≡ Ok a

-- the next word is there and has this fault
pub record NextHasFault {A : Type 0} (judge : List ℕ → Result A CertWhy) (words : Words) (why : CertWhy) : Type 0 where
  pub word : List ℕ
  pub others : List (List ℕ)
  pub parts : words.list ≡ word ∷ others
  pub has : judge word ≡ Err why

-- no word is left
pub record IsMissing (words : Words) (why : CertWhy) : Type 0 where
  pub none : words.list ≡ []
  pub as_missing : why ≡ missing words.ended

abbrev pub NextFails : {A : Type 0} → (List ℕ → Result A CertWhy) → Words → CertWhy → Type 0
NextFails judge words why = IsMissing words why ⊎ NextHasFault judge words why

-- the items of a line, one after another to its end, make these facts of those
abbrev pub ItemsSay : Shape → List Cell → Bool → Facts → List (List ℕ) → Facts → Type 0
ItemsSay shape cells ended facts [] said = (ended ≡ true) × (said ≡ facts)
ItemsSay shape cells ended facts (w ∷ ws) said =
    (more : Facts) × (take_item shape cells facts w ws ≡ Ok more) × ItemsSay shape cells ended more ws said

-- the items before one are taken, and that one has this fault; or all are taken, and the line doesn't end in LF
abbrev pub ItemsFail : Shape → List Cell → Bool → Facts → List (List ℕ) → CertWhy → Type 0
ItemsFail shape cells ended facts [] why = (ended ≡ false) × (why ≡ whys.NoEnd)
ItemsFail shape cells ended facts (w ∷ ws) why =
    (take_item shape cells facts w ws ≡ Err why)
    ⊎ ((more : Facts) × (take_item shape cells facts w ws ≡ Ok more) × ItemsFail shape cells ended more ws why)

-- all words of a line are as its form asks, and say this
abbrev pub Allows : LineForm → Words → ParsedLine → Type 0
Allows (fixed wanted form) words said = (n : ℕ) × NextIs (fixed_of wanted) words n × Allows form (rest_of words) said
Allows (number a form) words said = (n : ℕ) × NextIs (number_of a) words n × Allows (form n) (rest_of words) said
Allows (choice wanted form) words said = (n : ℕ) × NextIs (choice_of wanted) words n × Allows (form n) (rest_of words) said
Allows (slope limit form) words said = (n : ℤ) × NextIs (slope_of limit) words n × Allows (form n) (rest_of words) said
Allows (spans cells form) words said = (p : List Ends × Words) × (spans_of cells words ≡ Ok p) × Allows (form p.0) p.1 said
Allows (items shape cells say) words said =
    (facts : Facts) × ItemsSay shape cells words.ended (first_facts shape.kind cells) words.list facts × (said ≡ say facts)
Allows (finish says) words said = (end_of words.ended words.list ≡ Ok 0) × (said ≡ says)

-- the words before one are as the form asks, and that one has this fault
abbrev pub HasFirstFault : LineForm → Words → CertWhy → Type 0
HasFirstFault (fixed wanted form) words why =
    NextFails (fixed_of wanted) words why ⊎ ((n : ℕ) × NextIs (fixed_of wanted) words n × HasFirstFault form (rest_of words) why)
HasFirstFault (number a form) words why =
    NextFails (number_of a) words why ⊎ ((n : ℕ) × NextIs (number_of a) words n × HasFirstFault (form n) (rest_of words) why)
HasFirstFault (choice wanted form) words why =
    NextFails (choice_of wanted) words why ⊎ ((n : ℕ) × NextIs (choice_of wanted) words n × HasFirstFault (form n) (rest_of words) why)
HasFirstFault (slope limit form) words why =
    NextFails (slope_of limit) words why ⊎ ((n : ℤ) × NextIs (slope_of limit) words n × HasFirstFault (form n) (rest_of words) why)
HasFirstFault (spans cells form) words why =
    (spans_of cells words ≡ Err why) ⊎ ((p : List Ends × Words) × (spans_of cells words ≡ Ok p) × HasFirstFault (form p.0) p.1 why)
HasFirstFault (items shape cells say) words why =
    ItemsFail shape cells words.ended (first_facts shape.kind cells) words.list why
HasFirstFault (finish says) words why = end_of words.ended words.list ≡ Err why
