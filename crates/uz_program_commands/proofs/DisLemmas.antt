-- What `dis` answers.
use Rattle.std.proofs.Common.{◌≡◌, ◌⊎◌, inl, inr, ℕ, ◌+◌, ◌*◌, List, refl, sym, ap, ◌∙◌}
use Rattle.std.specs.Prelude.{Option, Some}
use Rattle.uz_shelf.specs.Files.{FileMap, LacksFile}
use Rattle.uz_hex.specs.Reading.{Flash}
use Rattle.uz_files.specs.declared.status.Status.TheVariants.{Done, Unread, BadInput}
use Rattle.uz_files.specs.Answers.{Answer, one_line}
use Rattle.uz_files.specs.Reading.{Says, text_limit}
use Rattle.uz_program_commands.specs.DisCommand.{DisAnswers, DisSucceeds, IsListed}
use Rattle.avr_dis.specs.Listing.{IsListing}
use Rattle.avr_decode.proofs.Unique.{unique}
use Rattle.avr_dis.proofs.OneListing.{same_listing}
use Rattle.uz_files.proofs.ReadsLemmas.{fails_status, reads_or_fault, reads_same}
use Rattle.uz_hex.specs.HexText.{IsHexOf}
use Rattle.uz_files.specs.Formats.{Readings, RefusesHex}

-- the image is read, and this is its listing
pub dis_listed : (files : Option FileMap) (load_fault : Type 0) (hex : List ℕ) (image : Flash) (text : List ℕ) → Says files hex text_limit
    IsHexOf image → IsListing image text → DisAnswers files load_fault hex (one_line Done text)
dis_listed files load_fault hex image text says listing = inr (image, says, record { text = text; listing = listing; printed = refl })

-- an image has one listing
same_text : (image : Flash) (a b : List ℕ) → IsListing image a → IsListing image b → a ≡ b
same_text image a b p q = (same_listing (λ first second. unique (first * 65536 + second)) image 32768 a b p.0 q.0 p.1 q.1).0

-- the statuses of `dis`, and the cause of Unread
pub dis_status : (files : Option FileMap) (load_fault : Type 0) (hex : List ℕ) (answer : Answer) → DisAnswers files load_fault hex answer
    → ((answer.status ≡ Unread) × (load_fault ⊎ LacksFile files hex)) ⊎ ((answer.status ≡ BadInput) ⊎ (answer.status ≡ Done))
dis_status files load_fault hex answer (inl fails) =
    elim (fails_status files load_fault hex text_limit RefusesHex answer fails) [
      | inl unread ↦ inl unread
      | inr bad ↦ inr (inl bad)
    ]
dis_status files load_fault hex answer (inr (image, says, listed)) = inr (inr (ap (λ a. a.status) listed.printed))

-- a shelf that tells its files gives one answer, unless loading met a fault
pub dis_same : (readings : Readings) (files : FileMap) (load_fault : Type 0) (hex : List ℕ) (a b : Answer)
    → DisAnswers (Some files) load_fault hex a
    → DisAnswers (Some files) ⊥ hex b → (a ≡ b) ⊎ load_fault
dis_same readings files load_fault hex a b =
    reads_same files load_fault hex text_limit IsHexOf RefusesHex readings.image IsListed IsListed a b (λ image p q.
    inl (p.printed ∙ (ap (one_line Done) (same_text image p.text q.text p.listing q.listing) ∙ sym q.printed)))

-- where all is well the answer is one that is done
pub dis_done : (files : Option FileMap) (hex : List ℕ) → DisSucceeds files hex → (answer : Answer) × DisAnswers files ⊥ hex answer
    × (answer.status ≡ Done)
dis_done files hex h =
    (one_line Done h.text, dis_listed files ⊥ hex h.image h.text h.spelled h.listing, refl)

-- loading met a fault, or none is needed for the answer
pub dis_or_fault : (files : Option FileMap) (load_fault : Type 0) (hex : List ℕ) (answer : Answer) → DisAnswers files load_fault hex answer
    → load_fault ⊎ DisAnswers files ⊥ hex answer
dis_or_fault files load_fault hex answer h =
    reads_or_fault files load_fault hex text_limit IsHexOf RefusesHex IsListed IsListed answer (λ image h. inr h) h
