-- What is answered of an image and hints beside it, however a command tells what is found.
use Rattle.std.proofs.Common.{◌≡◌, ◌≢◌, ◌⊎◌, ◌≤◌, inl, inr, ℕ, List, refl, sym, ap, ◌∙◌, subst}
use Rattle.std.specs.Prelude.{Option, Some, Result, Ok, Err, codes}
use Rattle.std.specs.FinMap.{empty}
use Rattle.uz_shelf.specs.Faults.{Rose}
use Rattle.uz_shelf.specs.Files.{FileMap}
use Rattle.uz_hex.specs.HexText.{IsHexOf}
use Rattle.uz_hex.specs.Reading.{Flash}
use Rattle.avr_asm.specs.Assembly.{Output}
use Rattle.avr_asm.specs.Relation.{IsAssembly}
use Rattle.avr_macro.specs.Expansion.{Expands, FlatText}
use Rattle.avr_text.specs.WhyNames.{asm_why_name}
use Rattle.uz_schedule.specs.declared.kinds.Response.{Response}
use Rattle.uz_schedule.specs.declared.certificate.Cert.{Cert}
use Rattle.uz_search.specs.declared.found.NotFound.{NotFound}
use Rattle.uz_search.specs.declared.found.NotFound.TheVariants.{Memory as NoRoomToSearch}
use Rattle.uz_files.specs.declared.ending.Failure.{Failure}
use Rattle.uz_files.specs.declared.status.Status.TheVariants.{Done, Unread, BadInput, Refused}
use Rattle.uz_files.specs.Answers.{Answer}
use Rattle.uz_files.specs.Endings.{EndsBy}
use Rattle.uz_files.specs.Formats.{Readings, RefusesHex}
use Rattle.uz_files.specs.Reading.{Fault, Fails, Says, text_limit}
use Rattle.uz_files.proofs.FaultLemmas.{rose_later}
use Rattle.uz_files.proofs.ReadingLemmas.{ends_by}
use Rattle.uz_files.proofs.ReadsLemmas.{fails_says, fails_status, reads_or_fault, reads_same, says_same}
use Rattle.uz_certificate_commands.specs.SearchLines.{Allowed}
use Rattle.uz_program_commands.specs.MacroCommands.{IsUnbuilt, origin_of}
use Rattle.uz_program_commands.specs.MacroSource.{ExpandFails, ReadsFlat, bad_at, flat_of}
use Rattle.uz_program_commands.proofs.MacroLemmas.{OneEnd, flat_or_fault, flat_same, not_both, same_next}
use Rattle.uz_program_commands.proofs.MacroLemmas.{fails_status as expand_fails_status}
use Rattle.uz_certificate_commands.specs.HintedSearch.{AllowedOfHinted, AreOdd, Fits, HintSource, HintedLacks, HintedSucceeds, IsHinted}
use Rattle.uz_certificate_commands.specs.HintedSearch.{IsMisfit, IsSought, IsSoughtBy, IsWithin, ReadsHinted, ReadsHints, SpellsHinted}
use Rattle.uz_certificate_commands.specs.HintedSearch.{Telling, first_odd_line, source_of}
use Rattle.uz_certificate_commands.specs.HintedValues.{HintedFails, HintsFail, NoSearch}
use Rattle.uz_certificate_commands.proofs.HintedBytes.{one_odd, within_none}

-- what a search leads on to
abbrev pub Next : Type 1
Next = Flash → HintSource → Answer → Type 0

-- What leads on to more answers

hinted_leads : (image : Flash) (next wanted : HintSource → Answer → Type 0) (names : List (List ℕ)) (flat : FlatText) (answer : Answer)
    → ((source : HintSource) → next source answer → wanted source answer) → IsHinted image next names flat answer
    → IsHinted image wanted names flat answer
hinted_leads image next wanted names flat answer leads (inl (output, is, inl (within, h))) =
    inl (output, is, inl (within, leads (source_of names flat output) h))
hinted_leads image next wanted names flat answer leads (inl (output, is, inr misfit)) = inl (output, is, inr misfit)
hinted_leads image next wanted names flat answer leads (inr unbuilt) = inr unbuilt

flat_leads : (files : Option FileMap) (load_fault : Type 0) (hints : List ℕ) (image : Flash) (next wanted : HintSource → Answer → Type 0)
    (answer : Answer) → ((source : HintSource) → next source answer → wanted source answer)
    → ReadsFlat files load_fault hints (IsHinted image next) answer → ReadsFlat files load_fault hints (IsHinted image wanted) answer
flat_leads files load_fault hints image next wanted answer leads (inl fails) = inl fails
flat_leads files load_fault hints image next wanted answer leads (inr (names, flat, expands, is)) =
    inr (names, flat, expands, hinted_leads image next wanted names flat answer leads is)

pub reads_leads : (files : Option FileMap) (load_fault : Type 0) (hex hints : List ℕ) (next wanted : Next) (answer : Answer)
    → ((image : Flash) (source : HintSource) → next image source answer → wanted image source answer)
    → ReadsHinted files load_fault hex hints next answer → ReadsHinted files load_fault hex hints wanted answer
reads_leads files load_fault hex hints next wanted answer leads (inl fails) = inl fails
reads_leads files load_fault hex hints next wanted answer leads (inr (image, says, flat)) =
    inr (image, says, flat_leads files load_fault hints image (next image) (wanted image) answer (leads image) flat)

-- both files are read and fit: a search leads on
pub spelled_reads : (files : Option FileMap) (load_fault : Type 0) (hex hints : List ℕ) (next : Next) (image : Flash) (source : HintSource)
    (answer : Answer) → SpellsHinted files hex hints image source → next image source answer
    → ReadsHinted files load_fault hex hints next answer
spelled_reads files load_fault hex hints next image source answer spelled h =
    inr (
      image,
      spelled.spelled_image,
      inr (
        source.names,
        source.flat,
        spelled.fits.expands,
        inl (source.output, spelled.fits.assembles, inl (spelled.fits.within, h)),
      ),
    )

-- no search is made, or both files are read and fit
record Searches (files : Option FileMap) (hex hints : List ℕ) (next : Next) (answer : Answer) : Type 0 where
  image : Flash
  source : HintSource
  spelled : SpellsHinted files hex hints image source
  goes : next image source answer

hinted_cases : (files : Option FileMap) (load_fault : Type 0) (hex hints : List ℕ) (next : Next) (answer : Answer) (image : Flash)
    → Says files hex text_limit IsHexOf image → (names : List (List ℕ)) (flat : FlatText) → Expands files hints (flat_of names flat)
    → IsHinted image (next image) names flat answer → HintedFails files load_fault hex hints answer ⊎ Searches files hex hints next answer
hinted_cases files load_fault hex hints next answer image says names flat expands (inl (output, is, inl (within, h))) =
    inr (record {
      image = image;
      source = source_of names flat output;
      spelled = record { spelled_image = says; fits = record { expands = expands; assembles = is; within = within } };
      goes = h;
    })
hinted_cases files load_fault hex hints next answer image says names flat expands (inl (output, is, inr misfit)) =
    inl (inr (image, says, inr (names, flat, expands, inl (output, is, inr misfit))))
hinted_cases files load_fault hex hints next answer image says names flat expands (inr unbuilt) =
    inl (inr (image, says, inr (names, flat, expands, inr unbuilt)))

fails_or_searches : (files : Option FileMap) (load_fault : Type 0) (hex hints : List ℕ) (next : Next) (answer : Answer)
    → ReadsHinted files load_fault hex hints next answer → HintedFails files load_fault hex hints answer
    ⊎ Searches files hex hints next answer
fails_or_searches files load_fault hex hints next answer (inl fails) = inl (inl fails)
fails_or_searches files load_fault hex hints next answer (inr (image, says, inl fails)) = inl (inr (image, says, inl fails))
fails_or_searches files load_fault hex hints next answer (inr (image, says, inr (names, flat, expands, is))) =
    hinted_cases files load_fault hex hints next answer image says names flat expands is

-- Over told files that are read and fit, only a search answers, unless loading met a fault
module _ (one : OneEnd) (readings : Readings) (files : FileMap) (load_fault : Type 0) (hex hints : List ℕ) where
  hinted_goes : (next : HintSource → Answer → Type 0) (answer : Answer) (image : Flash) (output : Output) (names : List (List ℕ))
      (flat : FlatText) → IsAssembly flat.text output → IsWithin output.image image → IsHinted image next names flat answer
      → next (source_of names flat output) answer
  hinted_goes next answer image output names flat assembles within (inl (other, is, inl (also, h))) =
      subst (λ (o : Output). next (source_of names flat o) answer) (readings.source.one flat.text other output is assembles) h
  hinted_goes next answer image output names flat assembles within (inl (other, is, inr misfit)) =
      let same : output ≡ other = readings.source.one flat.text output other assembles is in
      absurd (misfit.some (within_none other.image image misfit.odd misfit.are (subst (λ (o : Output). IsWithin o.image image) same within)))
  hinted_goes next answer image output names flat assembles within (inr (line, why, first, told)) =
      absurd (readings.source.apart flat.text output (line, asm_why_name why) assembles (why, first, refl))

  flat_goes : (next : HintSource → Answer → Type 0) (answer : Answer) (image : Flash) (source : HintSource)
      → Fits (Some files) hints image source → ReadsFlat (Some files) load_fault hints (IsHinted image next) answer
      → load_fault ⊎ next source answer
  flat_goes next answer image source fits (inl (inl (fault, rest))) = inl fault
  flat_goes next answer image source fits (inl (inr refused)) =
      absurd (not_both (flat_of source.names source.flat) refused.end source.flat refused.refusal
      (one files hints (flat_of source.names source.flat) refused.end fits.expands refused.expands) refl refused.refused)
  flat_goes next answer image source fits (inr (names, flat, expands, is)) =
      inr (hinted_goes next answer image source.output source.names source.flat fits.assembles fits.within
      (same_next source.names names source.flat flat (IsHinted image next) answer
      (one files hints (flat_of source.names source.flat) (flat_of names flat) fits.expands expands) is))

  pub reads_goes : (next : Next) (answer : Answer) (image : Flash) (source : HintSource) → SpellsHinted (Some files) hex hints image source
      → ReadsHinted (Some files) load_fault hex hints next answer → load_fault ⊎ next image source answer
  reads_goes next answer image source spelled (inl fails) =
      inl (fails_says files load_fault hex text_limit IsHexOf RefusesHex readings.image load_fault answer image fails spelled.spelled_image)
  reads_goes next answer image source spelled (inr (other, says, flat)) =
      let same : other ≡ image = says_same files load_fault hex text_limit IsHexOf RefusesHex readings.image other image says
      spelled.spelled_image in
      flat_goes (next image) answer image source spelled.fits
      (subst (λ i. ReadsHints (Some files) load_fault hints next i answer) same flat)

  -- one answer of each search gives one answer
  abbrev OneNext : Next → Type 0
  OneNext next = (image : Flash) (source : HintSource) (a b : Answer) → next image source a → next image source b → a ≡ b

  one_misfit : (image : Flash) (names : List (List ℕ)) (flat : FlatText) (output other : Output) (a b : Answer) → output ≡ other
      → IsMisfit image names flat output a → IsMisfit image names flat other b → a ≡ b
  one_misfit image names flat output other a b same p q =
      let odd : p.odd ≡ q.odd = one_odd other.image image p.odd q.odd (subst (λ (o : Output). AreOdd o.image image p.odd) same p.are) q.are in
      p.told ∙ ap (λ odd. bad_at names (origin_of flat.origins (first_odd_line odd flat.text)) (codes "Image")) odd ∙ sym q.told

  hinted_same : (next : Next) → OneNext next → (image : Flash) (names : List (List ℕ)) (flat : FlatText) (a b : Answer)
      → IsHinted image (next image) names flat a → IsHinted image (next image) names flat b → a ≡ b
  hinted_same next same image names flat a b (inl (output, is, inl (within, h))) q =
      same image (source_of names flat output) a b h (hinted_goes (next image) b image output names flat is within q)
  hinted_same next same image names flat a b (inl (output, is, inr p)) (inl (other, also, inl (within, h))) =
      sym (same image (source_of names flat other) b a h
      (hinted_goes (next image) a image other names flat also within (inl (output, is, inr p))))
  hinted_same next same image names flat a b (inl (output, is, inr p)) (inl (other, also, inr q)) =
      one_misfit image names flat output other a b (readings.source.one flat.text output other is also) p q
  hinted_same next same image names flat a b (inl (output, is, inr p)) (inr (line, why, first, told)) =
      absurd (readings.source.apart flat.text output (line, asm_why_name why) is (why, first, refl))
  hinted_same next same image names flat a b (inr (line, why, first, told)) (inl (other, also, q)) =
      absurd (readings.source.apart flat.text other (line, asm_why_name why) also (why, first, refl))
  hinted_same next same image names flat a b (inr (line, why, first, told)) (inr (number, cause, second, tells)) =
      told
      ∙ (ap (λ (f : Fault). bad_at names (origin_of flat.origins f.0) f.1) (readings.source.first flat.text (line, asm_why_name why)
      (number, asm_why_name cause) (why, first, refl) (cause, second, refl))
      ∙ sym tells)

  hints_same : (next : Next) → OneNext next → (a b : Answer) → ReadsHinted (Some files) load_fault hex hints next a
      → ReadsHinted (Some files) ⊥ hex hints next b → (a ≡ b) ⊎ load_fault
  hints_same next same a b =
      reads_same files load_fault hex text_limit IsHexOf RefusesHex readings.image (ReadsHints (Some files) load_fault hints next)
      (ReadsHints (Some files) ⊥ hints next) a b (λ image.
      flat_same one files load_fault hints (IsHinted image (next image)) a b (hinted_same next same image))

-- Statuses: a certificate that is found is done, and a search that finds none is refused

pub record TellsStatus (tells : Telling) : Type 0 where
  pub found : (image : Flash) (source : HintSource) (cert : Cert) (answer : Answer) → tells image source (Ok cert) answer
      → answer.status ≡ Done
  pub refused : (image : Flash) (source : HintSource) (why : NotFound) (answer : Answer) → tells image source (Err why) answer
      → answer.status ≡ Refused

-- what is found is told by one answer
abbrev pub TellsOne : Telling → Type 0
TellsOne tells = (image : Flash) (source : HintSource) (found : Result Cert NotFound) (a b : Answer) → tells image source found a
    → tells image source found b → a ≡ b

module _ (tells : Telling) (statuses : TellsStatus tells) (irq : Response) where
  sought_status : (image : Flash) (source : HintSource) (answer : Answer) → IsSought tells irq image source answer
      → (answer.status ≡ Refused) ⊎ (answer.status ≡ Done)
  sought_status image source answer (Ok cert, allowed, is) = inr (statuses.found image source cert answer is)
  sought_status image source answer (Err why, allowed, is) = inl (statuses.refused image source why answer is)

  hinted_status : (image : Flash) (names : List (List ℕ)) (flat : FlatText) (answer : Answer)
      → IsHinted image (IsSought tells irq image) names flat answer
      → (answer.status ≡ BadInput) ⊎ ((answer.status ≡ Refused) ⊎ (answer.status ≡ Done))
  hinted_status image names flat answer (inl (output, is, inl (within, h))) =
      inr (sought_status image (source_of names flat output) answer h)
  hinted_status image names flat answer (inl (output, is, inr misfit)) = inl (ap (λ a. a.status) misfit.told)
  hinted_status image names flat answer (inr (line, why, first, told)) = inl (ap (λ a. a.status) told)

  -- the statuses of the command, and the cause of Unread
  pub search_status : (files : Option FileMap) (load_fault : Type 0) (hex hints : List ℕ) (answer : Answer)
      → ReadsHinted files load_fault hex hints (IsSought tells irq) answer
      → ((answer.status ≡ Unread) × (load_fault ⊎ HintedLacks files hex hints))
      ⊎ ((answer.status ≡ BadInput) ⊎ ((answer.status ≡ Refused) ⊎ (answer.status ≡ Done)))
  search_status files load_fault hex hints answer (inl fails) =
      elim (fails_status files load_fault hex text_limit RefusesHex answer fails) [
        | inl (is, inl fault) ↦ inl (is, inl fault)
        | inl (is, inr lacks) ↦ inl (is, inr (inl lacks))
        | inr bad ↦ inr (inl bad)
      ]
  search_status files load_fault hex hints answer (inr (image, says, inl fails)) =
      elim (expand_fails_status files load_fault hints answer fails) [
        | inl (is, inl fault) ↦ inl (is, inl fault)
        | inl (is, inr lacks) ↦ inl (is, inr (inr (image, says, lacks)))
        | inr bad ↦ inr (inl bad)
      ]
  search_status files load_fault hex hints answer (inr (image, says, inr (names, flat, expands, is))) =
      inr (hinted_status image names flat answer is)

  -- where all is well each answer is done, unless loading met a fault
  pub search_always : (one : OneEnd) (readings : Readings) (files : FileMap) (load_fault : Type 0) (hex hints : List ℕ)
      → HintedSucceeds (Some files) hex hints irq → (load_fault → ⊥) → (answer : Answer)
      → ReadsHinted (Some files) load_fault hex hints (IsSought tells irq) answer → answer.status ≡ Done
  search_always one readings files load_fault hex hints well loads answer h =
      by_case (reads_goes one readings files load_fault hex hints (IsSought tells irq) answer well.image well.source well.spelled h)
    where
      by_case : load_fault ⊎ IsSought tells irq well.image well.source answer → answer.status ≡ Done
      by_case (inl fault) = absurd (loads fault)
      by_case (inr (Ok cert, allowed, is)) = statuses.found well.image well.source cert answer is
      by_case (inr (Err why, allowed, is)) =
          let found = allowed.complete well.free in
          absurd (cc found)

-- loading met a fault, or none is needed for the answer
pub search_or_fault : (tells : Telling) (irq : Response) (files : Option FileMap) (load_fault : Type 0) (hex hints : List ℕ) (answer : Answer)
    → ReadsHinted files load_fault hex hints (IsSought tells irq) answer
    → load_fault ⊎ ReadsHinted files ⊥ hex hints (IsSought tells irq) answer
search_or_fault tells irq files load_fault hex hints answer =
    reads_or_fault files load_fault hex text_limit IsHexOf RefusesHex (ReadsHints files load_fault hints (IsSought tells irq))
    (ReadsHints files ⊥ hints (IsSought tells irq)) answer (λ image.
    flat_or_fault files load_fault hints (IsHinted image (IsSought tells irq image)) answer)

-- A shelf that tells its files and what the search answered give one answer

pub record SearchDecided (tells : Telling) (files : FileMap) (hex hints : List ℕ) (irq : Response) (answer : Answer) : Type 0 where
  pub found : Result Cert NotFound
  pub allowed : AllowedOfHinted (Some files) hex hints irq found
  pub decided : (wanted : Answer) → ReadsHinted (Some files) ⊥ hex hints (IsSoughtBy tells found) wanted → answer ≡ wanted

one_of : {A : Type 0} → A ⊎ ⊥ → A
one_of (inl a) = a
one_of (inr none) = absurd none

pub other_of : {A : Type 0} → ⊥ ⊎ A → A
other_of (inl none) = absurd none
other_of (inr a) = a

module _ (tells : Telling) (tells_one : TellsOne tells) (one : OneEnd) (readings : Readings) (files : FileMap) (hex hints : List ℕ)
    (irq : Response) (answer : Answer) where
  same_by : (found : Result Cert NotFound) → ReadsHinted (Some files) ⊥ hex hints (IsSoughtBy tells found) answer → (wanted : Answer)
      → ReadsHinted (Some files) ⊥ hex hints (IsSoughtBy tells found) wanted → answer ≡ wanted
  same_by found p wanted q =
      one_of (hints_same one readings files ⊥ hex hints (IsSoughtBy tells found) (λ image source. tells_one image source found) answer wanted p
      q)

  by_case : HintedFails (Some files) ⊥ hex hints answer ⊎ Searches (Some files) hex hints (IsSought tells irq) answer
      → SearchDecided tells files hex hints irq answer
  by_case (inl fails) = record {
    found = Err NoRoomToSearch;
    allowed = λ image source spelled.
        absurd (other_of (reads_goes one readings files ⊥ hex hints NoSearch answer image source spelled fails));
    decided = same_by (Err NoRoomToSearch) (reads_leads (Some files) ⊥ hex hints NoSearch (IsSoughtBy tells (Err NoRoomToSearch))
        answer (λ image source none. absurd none) fails);
  }
  by_case (inr made) =
      let found : Result Cert NotFound = made.goes.0 in
      record {
        found = found;
        allowed = λ image source spelled.
            other_of (reads_goes one readings files ⊥ hex hints (λ i (s : HintSource) a. Allowed i irq s.output.hints found) answer image
            source spelled
            (spelled_reads (Some files) ⊥ hex hints (λ i (s : HintSource) a. Allowed i irq s.output.hints found) made.image made.source
            answer made.spelled made.goes.1));
        decided = same_by found (spelled_reads (Some files) ⊥ hex hints (IsSoughtBy tells found) made.image made.source answer
            made.spelled made.goes.2);
      }

  pub search_decided : ReadsHinted (Some files) ⊥ hex hints (IsSought tells irq) answer → SearchDecided tells files hex hints irq answer
  search_decided h = by_case (fails_or_searches (Some files) ⊥ hex hints (IsSought tells irq) answer h)

-- What the steps of reading give

-- the source of the hints ends the command
pub hints_unread : (files : Option FileMap) (load_fault : Type 0) (hints : List ℕ) (image : Flash) (failure : Failure)
    → EndsBy (ExpandFails files load_fault hints) failure → EndsBy (HintsFail files load_fault hints image) failure
hints_unread files load_fault hints image failure =
    ends_by (ExpandFails files load_fault hints) (HintsFail files load_fault hints image) failure (λ answer fails. inl fails)

pub hints_unbuilt : (files : Option FileMap) (load_fault : Type 0) (hints : List ℕ) (image : Flash) (names : List (List ℕ)) (flat : FlatText)
    (failure : Failure) → Expands files hints (flat_of names flat) → EndsBy (IsUnbuilt names flat.origins flat.text) failure
    → EndsBy (HintsFail files load_fault hints image) failure
hints_unbuilt files load_fault hints image names flat failure expands =
    ends_by (IsUnbuilt names flat.origins flat.text) (HintsFail files load_fault hints image) failure
    (λ answer unbuilt. inr (names, flat, expands, inr unbuilt))

pub hints_misfit : (files : Option FileMap) (load_fault : Type 0) (hints : List ℕ) (image odd : Flash) (names : List (List ℕ))
    (flat : FlatText) (output : Output) (answer : Answer) → Expands files hints (flat_of names flat)
    → IsAssembly flat.text output → AreOdd output.image image odd → odd ≢ empty
    → answer ≡ bad_at names (origin_of flat.origins (first_odd_line odd flat.text)) (codes "Image")
    → HintsFail files load_fault hints image answer
hints_misfit files load_fault hints image odd names flat output answer expands is are some told =
    inr (names, flat, expands, inl (output, is, inr (record { odd = odd; are = are; some = some; told = told })))

-- a file ends the command
pub image_fails : (files : Option FileMap) (load_fault : Type 0) (hex hints : List ℕ) (failure : Failure)
    → EndsBy (Fails files load_fault hex text_limit RefusesHex) failure → EndsBy (HintedFails files load_fault hex hints) failure
image_fails files load_fault hex hints failure =
    ends_by (Fails files load_fault hex text_limit RefusesHex) (HintedFails files load_fault hex hints) failure (λ answer fails. inl fails)

flat_by : (files : Option FileMap) (narrow wide : Type 0) (hints : List ℕ) (next : List (List ℕ) → FlatText → Answer → Type 0)
    (answer : Answer) → (narrow → wide) → ReadsFlat files narrow hints next answer → ReadsFlat files wide hints next answer
flat_by files narrow wide hints next answer widen (inl (inl (fault, told))) = inl (inl (widen fault, told))
flat_by files narrow wide hints next answer widen (inl (inr refused)) = inl (inr refused)
flat_by files narrow wide hints next answer widen (inr flat) = inr flat

pub hints_fail : (files after : Option FileMap) (old mid new : ℕ) (hex hints : List ℕ) (image : Flash) (failure : Failure)
    → after ≡ files → old ≤ mid → Says files hex text_limit IsHexOf image
    → EndsBy (HintsFail after (Rose mid new) hints image) failure → EndsBy (HintedFails files (Rose old new) hex hints) failure
hints_fail files after old mid new hex hints image failure same up says fails =
    ends_by (HintsFail after (Rose mid new) hints image) (HintedFails files (Rose old new) hex hints) failure
    (λ answer h. inr (
      image,
      says,
      flat_by files (Rose mid new) (Rose old new) hints (IsHinted image (NoSearch image)) answer (rose_later old mid new up)
          (subst (λ f. HintsFail f (Rose mid new) hints image answer) same h),
    )) fails

-- no search is made: a command that searches answers so too
pub fails_so : (tells : Telling) (irq : Response) (files : Option FileMap) (load_fault : Type 0) (hex hints : List ℕ) (failure : Failure)
    → EndsBy (HintedFails files load_fault hex hints) failure
    → EndsBy (ReadsHinted files load_fault hex hints (IsSought tells irq)) failure
fails_so tells irq files load_fault hex hints failure =
    ends_by (HintedFails files load_fault hex hints) (ReadsHinted files load_fault hex hints (IsSought tells irq)) failure
    (λ answer h. reads_leads files load_fault hex hints NoSearch (IsSought tells irq) answer (λ image source none. absurd none) h)

-- both files are read and fit
pub spelled_after : (files after : Option FileMap) (hex hints : List ℕ) (image : Flash) (source : HintSource) → after ≡ files
    → Says files hex text_limit IsHexOf image → Fits after hints image source → SpellsHinted files hex hints image source
spelled_after files after hex hints image source same says fits = record {
  spelled_image = says;
  fits = subst (λ f. Fits f hints image source) same fits;
}
