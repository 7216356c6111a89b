-- What comes after a text that is printed already.
use Rattle.std.proofs.Common.{◌≡◌, inl, inr, ℕ, ◌+◌, List, [], ◌++◌, length, take, refl, sym, ap, subst}
use Rattle.std.specs.Prelude.{Option}
use Rattle.std.proofs.lemmas.List.{append-nil}
use Rattle.std.proofs.Math.Seq.{take-append-add, take-append_seam}
use Rattle.uz_shelf.specs.Files.{FileMap}
use Rattle.uz_shelf.specs.Text.{TakesAll, TakesPrefix}
use Rattle.uz_files.specs.declared.ending.Ending.{Ending}
use Rattle.uz_files.specs.declared.status.Status.{Status}
use Rattle.uz_files.specs.declared.status.Status.TheVariants as status
use Rattle.uz_files.specs.Answers.{ComesOf, IsCut, ended, one_line, outside}
use Rattle.uz_files.specs.Endings.{answer_of}
use Rattle.uz_files.proofs.TextLemmas.{takes_both}

-- a piece, and then a prefix of another
pub takes_then_prefix : (old mid new : Option (List ℕ)) (a b : List ℕ) → TakesAll old a mid → TakesPrefix mid b new → TakesPrefix old (a ++ b)
    new
takes_then_prefix old mid new a b whole part = (
  length a + part.0,
  subst (λ p. TakesAll old p new) (sym (take-append-add a b part.0)) (takes_both old a (take part.0 b) mid new whole
      part.1),
)

-- a whole text is a prefix of itself and a line
takes_seam : (printed line : List ℕ) (old new : Option (List ℕ)) → TakesAll old printed new → TakesPrefix old (printed ++ line) new
takes_seam printed line old new whole =
    (length printed, subst (λ p. TakesAll old p new) (sym (take-append_seam printed line)) whole)

cut_after : (printed line : List ℕ) (s : Status) (files : Option FileMap) (old mid new : Option (List ℕ)) → TakesAll old printed mid
    → IsCut (one_line s line) (outside files mid) (outside files new) → IsCut (ended printed s line) (outside files old)
    (outside files new)
cut_after printed line s files old mid new before (inl (same, text)) =
    inr (
      refl,
      takes_seam printed line old new
          (subst (λ p. TakesAll old p new) (append-nil printed) (takes_both old printed [] mid new before text)),
    )
cut_after printed line s files old mid new before (inr (same, part)) =
    inr (refl, takes_then_prefix old mid new printed line before part)

pub comes_after : (printed line : List ℕ) (s came : Status) (write_fault : Type 0) (files : Option FileMap) (old mid new : Option (List ℕ))
    → TakesAll old printed mid → ComesOf (one_line s line) write_fault came (outside files mid) (outside files new)
    → ComesOf (ended printed s line) write_fault came (outside files old) (outside files new)
comes_after printed line s came write_fault files old mid new before (inl ends) = inl (record {
  status = ends.status;
  files = refl;
  done = λ d. takes_both old printed line mid new before (ends.done d);
  whole = λ none. takes_both old printed line mid new before (ends.whole none);
  text = (ends.text.0, takes_both old printed (take ends.text.0 line) mid new before ends.text.1);
})
comes_after printed line s came write_fault files old mid new before (inr (inl (is, fault, inl (none, part, text)))) = absurd (none refl)
comes_after printed line s came write_fault files old mid new before (inr (inl (is, fault, inr (same, (text, inl (done, all), part))))) =
    inr (inl (
      is,
      fault,
      inr (refl, (printed ++ text, inl (done, ap (λ t. printed ++ t) all), takes_then_prefix old mid new printed text before part)),
    ))
comes_after printed line s came write_fault files old mid new before (inr (inl (is, fault, inr (same, (text, inr (none, all), part))))) =
    absurd (none refl)
comes_after printed line s came write_fault files old mid new before (inr (inr lacks)) =
    inr (inr (lacks.0, cut_after printed line s files old mid new before lacks.1))

pub lacks_after : (printed line : List ℕ) (s came : Status) (write_fault : Type 0) (files : Option FileMap) (old new : Option (List ℕ))
    → TakesAll old printed new → came ≡ status.NoMemory → ComesOf (ended printed s line) write_fault came (outside files old)
    (outside files new)
lacks_after printed line s came write_fault files old new before same = inr (inr (same, inr (refl, takes_seam printed line old new before)))

-- a part of the lines is printed, and then it is cut short
pub cut_part : (printed : List ℕ) (files : Option FileMap) (old new : Option (List ℕ)) → TakesPrefix old printed new
    → IsCut (ended printed status.Unwritten []) (outside files old) (outside files new)
cut_part printed files old new part =
    inr (refl, (part.0, subst (λ p. TakesAll old (take part.0 p) new) (sym (append-nil printed)) part.1))

pub comes_ended : (ending : Ending) (printed line : List ℕ) (s came : Status) (write_fault : Type 0) (files : Option FileMap)
    (old mid new : Option (List ℕ)) → (ending.status ≡ s) × (ending.line.items ≡ line) → TakesAll old printed mid
    → ComesOf (answer_of ending) write_fault came (outside files mid) (outside files new) → ComesOf (ended printed s line) write_fault came
    (outside files old) (outside files new)
comes_ended ending printed line s came write_fault files old mid new same before comes =
    subst (λ l. ComesOf (ended printed s l) write_fault came (outside files old) (outside files new)) same.1
    (subst (λ t. ComesOf (ended printed t ending.line.items) write_fault came (outside files old) (outside files new)) same.0
    (comes_after printed ending.line.items ending.status came write_fault files old mid new before comes))
