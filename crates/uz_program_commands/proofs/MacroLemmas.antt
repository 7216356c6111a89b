-- What `expand` and `build` answer.
use Rattle.std.proofs.Common.{◌≡◌, ◌⊎◌, inl, inr, ℕ, List, refl, sym, ap, subst, ◌∙◌}
use Rattle.std.specs.Prelude.{Option, Some, Result, Ok, Err, IfOk, IfErr}
use Rattle.uz_shelf.specs.Files.{FileMap}
use Rattle.avr_asm.specs.Assembly.{Output}
use Rattle.avr_asm.specs.FirstFault.{IsFirstFault}
use Rattle.avr_asm.specs.Relation.{IsAssembly}
use Rattle.avr_asm.specs.declared.errors.AsmError.{AsmError}
use Rattle.avr_text.specs.declared.errors.AsmWhy.TheVariants as asm_why
use Rattle.avr_macro.specs.declared.errors.MacroError.{MacroError}
use Rattle.avr_macro.specs.declared.errors.MacroWhy.{MacroWhy}
use Rattle.avr_macro.specs.declared.errors.MacroWhy.TheVariants as why
use Rattle.avr_macro.specs.declared.flat.Flat.{Flat}
use Rattle.avr_macro.specs.declared.origin.Origin.{Origin}
use Rattle.avr_macro.specs.Answers.{IsRefused, refused_seen}
use Rattle.avr_macro.specs.Expansion.{End, Expands, FlatText, Refusal}
use Rattle.uz_files.specs.declared.work.Work.{Work}
use Rattle.uz_files.specs.declared.ending.Failure.{Failure}
use Rattle.uz_files.specs.declared.status.Status.TheVariants.{Done, Unread, BadInput}
use Rattle.uz_files.specs.Answers.{Answer}
use Rattle.uz_files.specs.Endings.{EndsBy}
use Rattle.uz_program_commands.specs.AsmCommand.{assembled_line}
use Rattle.uz_files.specs.Writing.{Prepares, WritesWork, hex_file, written_then}
use Rattle.uz_program_commands.specs.MacroSource.{ExpandFails, IsRefusedSource, MacroLacks, ReadsFlat, TellsRefusal, flat_of, last_name}
use Rattle.uz_program_commands.specs.MacroSource.{bad_at, refusal_answer}
use Rattle.uz_program_commands.specs.MacroCommands.{BuildAnswers, BuildSucceeds, ExpandAnswers, ExpandSucceeds, FilesBuilt, IsBuilt}
use Rattle.uz_program_commands.specs.MacroCommands.{IsExpanded, IsUnbuilt, expanded_line, origin_of}
use Rattle.uz_program_commands.specs.MacroValues.{IsImageWork, IsMacroWork, TellsAt}
use Rattle.avr_text.specs.WhyNames.{asm_why_name}
use Rattle.uz_files.specs.Formats.{Readings}
use Rattle.uz_files.specs.Reading.{Fault}
use Rattle.uz_files.proofs.WriteLemmas.{holds_written}
use Rattle.uz_files.proofs.ReadingLemmas.{ends_by}

-- what is prepared of an expanded source leads to the answer, and a source that ends the command to its own
pub macro_prepared : (files : Option FileMap) (load_fault : Type 0) (source name : List ℕ)
    (next : List (List ℕ) → FlatText → Answer → Type 0) (prepared : Result Work Failure)
    → IfOk prepared (IsMacroWork files source name next) → IfErr prepared (EndsBy (ReadsFlat files load_fault source next))
    → Prepares (ReadsFlat files load_fault source next) name prepared
macro_prepared files load_fault source name next (Ok work) given fails = inr (given.names, given.flat, given.expands, given.written)
macro_prepared files load_fault source name next (Err failure) given fails = fails

-- the HEX text of an image is written
pub build_worth : (files mid after : Option FileMap) (source hex : List ℕ) (prepared : Result Work Failure)
    → IfOk prepared (IsImageWork files source) → WritesWork mid hex prepared after → FilesBuilt files after source hex
build_worth files mid after source hex (Ok work) given written = record {
  names = given.names;
  flat = given.flat;
  expands = given.expands;
  output = given.output;
  assembles = given.assembles;
  text = work.text.items;
  holds = holds_written mid after hex work.text.items written;
  is_hex = given.reads_back;
}
build_worth files mid after source hex (Err failure) given never = absurd never

-- the source ends the command
pub fails_flat : (files : Option FileMap) (load_fault : Type 0) (source : List ℕ) (next : List (List ℕ) → FlatText → Answer → Type 0)
    (failure : Failure) → EndsBy (ExpandFails files load_fault source) failure → EndsBy (ReadsFlat files load_fault source next) failure
fails_flat files load_fault source next failure h = ends_by (ExpandFails files load_fault source) (ReadsFlat files load_fault source next)
    failure (λ answer f. inl f) h

-- ---- how a source is refused

told_by : (files : Option FileMap) (load_fault : Type 0) (source : List ℕ) (names : List (List ℕ)) (error : MacroError) (answer : Answer)
    → IsRefused files load_fault source names error → TellsRefusal names error answer → ExpandFails files load_fault source answer
told_by files load_fault source names error answer (inl memory) tells = absurd (tells.0 memory)
told_by files load_fault source names error answer (inr (inl (unread, fault))) tells =
    inl (fault, (last_name names, tells.1 ∙ ap (refusal_answer names error.at) unread))
told_by files load_fault source names error answer (inr (inr (expands, lacks))) tells =
    inr (record {
      end = refused_seen names error;
      expands = expands;
      refusal = record { at = error.at; reason = error.why };
      refused = refl;
      lacks = lacks;
      told = tells.1;
    })

pub source_refused : (files : Option FileMap) (load_fault : Type 0) (source : List ℕ) (names : List (List ℕ)) (error : MacroError)
    (failure : Failure) → IsRefused files load_fault source names error → EndsBy (TellsRefusal names error) failure
    → EndsBy (ExpandFails files load_fault source) failure
source_refused files load_fault source names error failure refused h =
    ends_by (TellsRefusal names error) (ExpandFails files load_fault source) failure (λ answer tells. told_by files load_fault source names
    error answer refused tells) h

-- the flat text is refused by the assembler
pub text_refused : (names : List (List ℕ)) (origins : List Origin) (text : List ℕ) (error : AsmError) (failure : Failure)
    → (error.why ≡ asm_why.Memory) ⊎ IsFirstFault text error.line error.why → EndsBy (TellsAt names origins error) failure
    → EndsBy (IsUnbuilt names origins text) failure
text_refused names origins text error failure gives h = ends_by (TellsAt names origins error) (IsUnbuilt names origins text) failure
    (λ answer tells. by_cause gives answer tells) h
  where
    by_cause : (error.why ≡ asm_why.Memory) ⊎ IsFirstFault text error.line error.why → (answer : Answer) → TellsAt names origins error
        answer → IsUnbuilt names origins text answer
    by_cause (inl memory) answer tells = absurd (tells.0 memory)
    by_cause (inr first) answer tells = (error.line, error.why, first, tells.1)

pub unbuilt_fails : (files : Option FileMap) (load_fault : Type 0) (source hex : List ℕ) (names : List (List ℕ)) (flat : FlatText)
    (failure : Failure) → Expands files source (flat_of names flat) → EndsBy (IsUnbuilt names flat.origins flat.text) failure
    → EndsBy (BuildAnswers files load_fault source hex) failure
unbuilt_fails files load_fault source hex names flat failure expands h =
    ends_by (IsUnbuilt names flat.origins flat.text) (BuildAnswers files load_fault source hex) failure
    (λ answer unbuilt. inr (names, flat, expands, inr unbuilt)) h

pub built_work : (files : Option FileMap) (source hex : List ℕ) (names : List (List ℕ)) (flat : FlatText) (output : Output) (work : Work)
    → Expands files source (flat_of names flat) → IsAssembly flat.text output → work.text.items ≡ (hex_file hex output.image).bytes
    → work.line.items ≡ assembled_line output.image
    → IsMacroWork files source hex (IsBuilt hex) work
built_work files source hex names flat output work expands is text line = record {
  names = names;
  flat = flat;
  expands = expands;
  written = inl (
    output,
    is,
    ap (λ t. written_then (record { name = hex; bytes = t }) work.line.items) text
        ∙ ap (written_then (hex_file hex output.image)) line,
  );
}

pub expanded_work : (files : Option FileMap) (source file : List ℕ) (names : List (List ℕ)) (flat : FlatText) (work : Work) → Expands files
    source (flat_of names flat) → work.text.items ≡ flat.text → work.line.items ≡ expanded_line flat.origins → IsMacroWork files source file
    (IsExpanded file) work
expanded_work files source file names flat work expands text line = record {
  names = names;
  flat = flat;
  expands = expands;
  written =
      ap (λ t. written_then (record { name = file; bytes = t }) work.line.items) text
      ∙ ap (written_then (record { name = file; bytes = flat.text })) line;
}

-- ---- what holds of every answer

refusal_status : (names : List (List ℕ)) (at : Origin) (reason : MacroWhy) → (((refusal_answer names at reason).status ≡ Unread)
    × (reason ≡ why.Unread)) ⊎ ((refusal_answer names at reason).status ≡ BadInput)
refusal_status names at why.Unread = inl (refl, refl)
refusal_status names at why.TooLong = inr refl
refusal_status names at why.Depth = inr refl
refusal_status names at why.Form = inr refl
refusal_status names at why.Unclosed = inr refl
refusal_status names at why.Twice = inr refl
refusal_status names at why.Value = inr refl
refusal_status names at why.Argument = inr refl
refusal_status names at why.Full = inr refl
refusal_status names at why.Memory = inr refl

pub fails_status : (files : Option FileMap) (load_fault : Type 0) (source : List ℕ) (answer : Answer) → ExpandFails files load_fault source
    answer → ((answer.status ≡ Unread) × (load_fault ⊎ MacroLacks files source)) ⊎ (answer.status ≡ BadInput)
fails_status files load_fault source answer (inl (fault, (name, is))) = inl (ap (λ a. a.status) is, inl fault)
fails_status files load_fault source answer (inr r) =
    elim (refusal_status r.end.names r.refusal.at r.refusal.reason) [
      | inl (is, unread) ↦ inl (ap (λ a. a.status) r.told ∙ is, inr (r.end, r.expands, r.lacks unread))
      | inr is ↦ inr (ap (λ a. a.status) r.told ∙ is)
    ]

built_status : (hex : List ℕ) (names : List (List ℕ)) (flat : FlatText) (answer : Answer) → IsBuilt hex names flat answer
    → (answer.status ≡ BadInput) ⊎ (answer.status ≡ Done)
built_status hex names flat answer (inl (output, is, told)) = inr (ap (λ a. a.status) told)
built_status hex names flat answer (inr (line, why, first, told)) = inl (ap (λ a. a.status) told)

pub expand_status : (files : Option FileMap) (load_fault : Type 0) (source file : List ℕ) (answer : Answer) → ExpandAnswers files load_fault
    source file answer → ((answer.status ≡ Unread) × (load_fault ⊎ MacroLacks files source))
    ⊎ ((answer.status ≡ BadInput) ⊎ (answer.status ≡ Done))
expand_status files load_fault source file answer (inl fails) = elim (fails_status files load_fault source answer fails)
    [ inl unread ↦ inl unread | inr bad ↦ inr (inl bad) ]
expand_status files load_fault source file answer (inr (names, flat, expands, is)) = inr (inr (ap (λ a. a.status) is))

pub build_status : (files : Option FileMap) (load_fault : Type 0) (source hex : List ℕ) (answer : Answer) → BuildAnswers files load_fault
    source hex answer → ((answer.status ≡ Unread) × (load_fault ⊎ MacroLacks files source))
    ⊎ ((answer.status ≡ BadInput) ⊎ (answer.status ≡ Done))
build_status files load_fault source hex answer (inl fails) = elim (fails_status files load_fault source answer fails)
    [ inl unread ↦ inl unread | inr bad ↦ inr (inl bad) ]
build_status files load_fault source hex answer (inr (names, flat, expands, is)) =
    elim (built_status hex names flat answer is) [
      | inl bad ↦ inr (inl bad)
      | inr done ↦ inr (inr done)
    ]

-- over told files there is one end at most
abbrev pub OneEnd : Type 0
OneEnd = (files : FileMap) (name : List ℕ) (x y : End) → Expands (Some files) name x → Expands (Some files) name y → x ≡ y

same_refusal : (x y : End) (p q : Refusal) → x ≡ y → x.answer ≡ Err p → y.answer ≡ Err q → p ≡ q
same_refusal x y p q e f g = let k : ◌≡◌ {A = Result FlatText Refusal} (Err p) (Err q) = sym f ∙ ap (λ (z : End). z.answer) e ∙ g in cc

pub not_both : (x y : End) (flat : FlatText) (p : Refusal) → x ≡ y → x.answer ≡ Ok flat → y.answer ≡ Err p → ⊥
not_both x y flat p e f g = let k : ◌≡◌ {A = Result FlatText Refusal} (Ok flat) (Err p) = sym f ∙ ap (λ (z : End). z.answer) e ∙ g in cc

-- one flat text, with its names, and what it leads on to
pub same_next : (a b : List (List ℕ)) (x y : FlatText) (next : List (List ℕ) → FlatText → Answer → Type 0) (answer : Answer) → flat_of a x
    ≡ flat_of b y → next b y answer → next a x answer
same_next a b x y next answer e h =
    let names : a ≡ b = ap (λ (z : End). z.names) e in
    let answers : ◌≡◌ {A = Result FlatText Refusal} (Ok x) (Ok y) = ap (λ (z : End). z.answer) e in
    let flat : x ≡ y = cc in
    subst (λ n. next n x answer) (sym names) (subst (λ f. next b f answer) (sym flat) h)

refused_same : (one : OneEnd) (files : FileMap) (source : List ℕ) (a b : Answer) → IsRefusedSource (Some files) source a → IsRefusedSource
    (Some files) source b → a ≡ b
refused_same one files source a b p q =
    let e : p.end ≡ q.end = one files source p.end q.end p.expands q.expands in
    let r : p.refusal ≡ q.refusal = same_refusal p.end q.end p.refusal q.refusal e p.refused q.refused in
    p.told ∙ ap (λ (z : End). refusal_answer z.names p.refusal.at p.refusal.reason) e
    ∙ ap (λ (z : Refusal). refusal_answer q.end.names z.at z.reason) r ∙ sym q.told

-- a flat text leads on to one answer
abbrev pub OneAnswer : (List (List ℕ) → FlatText → Answer → Type 0) → Type 0
OneAnswer next = (names : List (List ℕ)) (flat : FlatText) (a b : Answer) → next names flat a → next names flat b → a ≡ b

pub flat_same : (one : OneEnd) (files : FileMap) (load_fault : Type 0) (source : List ℕ) (next : List (List ℕ) → FlatText → Answer → Type 0)
    (a b : Answer) → OneAnswer next → ReadsFlat (Some files) load_fault source next a → ReadsFlat (Some files) ⊥ source next b → (a ≡ b)
    ⊎ load_fault
flat_same one files load_fault source next a b same (inl (inl (fault, rest))) q = inr fault
flat_same one files load_fault source next a b same (inl (inr p)) (inl (inl (never, rest))) = absurd never
flat_same one files load_fault source next a b same (inl (inr p)) (inl (inr q)) = inl (refused_same one files source a b p q)
flat_same one files load_fault source next a b same (inl (inr p)) (inr (names, flat, expands, is)) =
    absurd (not_both (flat_of names flat) p.end flat p.refusal (one files source (flat_of names flat) p.end expands p.expands) refl
    p.refused)
flat_same one files load_fault source next a b same (inr (names, flat, expands, is)) (inl (inl (never, rest))) = absurd never
flat_same one files load_fault source next a b same (inr (names, flat, expands, is)) (inl (inr q)) =
    absurd (not_both (flat_of names flat) q.end flat q.refusal (one files source (flat_of names flat) q.end expands q.expands) refl
    q.refused)
flat_same one files load_fault source next a b same (inr (names, flat, expands, is)) (inr (others, other, also, so)) =
    inl (same names flat a b is (same_next names others flat other next b
    (one files source (flat_of names flat) (flat_of others other) expands also) so))

pub expand_same : (one : OneEnd) (files : FileMap) (load_fault : Type 0) (source file : List ℕ) (a b : Answer) → ExpandAnswers (Some files)
    load_fault source file a → ExpandAnswers (Some files) ⊥ source file b → (a ≡ b) ⊎ load_fault
expand_same one files load_fault source file a b = flat_same one files load_fault source (IsExpanded file) a b
    (λ names flat x y p q. p ∙ sym q)

one_build : (readings : Readings) (hex : List ℕ) (names : List (List ℕ)) (flat : FlatText) (a b : Answer) → IsBuilt hex names flat a
    → IsBuilt hex names flat b → a ≡ b
one_build readings hex names flat a b (inl (output, is, told)) (inl (other, also, tells)) =
    told
    ∙ (ap (λ (o : Output). written_then (hex_file hex o.image) (assembled_line o.image))
    (readings.source.one flat.text output other is also)
    ∙ sym tells)
one_build readings hex names flat a b (inl (output, is, told)) (inr (line, why, first, tells)) =
    absurd (readings.source.apart flat.text output (line, asm_why_name why) is (why, first, refl))
one_build readings hex names flat a b (inr (line, why, first, told)) (inl (output, is, tells)) =
    absurd (readings.source.apart flat.text output (line, asm_why_name why) is (why, first, refl))
one_build readings hex names flat a b (inr (line, why, first, told)) (inr (number, cause, second, tells)) =
    told
    ∙ (ap (λ (f : Fault). bad_at names (origin_of flat.origins f.0) f.1) (readings.source.first flat.text (line, asm_why_name why)
    (number, asm_why_name cause) (why, first, refl) (cause, second, refl))
    ∙ sym tells)

pub build_same : (one : OneEnd) (readings : Readings) (files : FileMap) (load_fault : Type 0) (source hex : List ℕ) (a b : Answer)
    → BuildAnswers (Some files) load_fault source hex a → BuildAnswers (Some files) ⊥ source hex b → (a ≡ b) ⊎ load_fault
build_same one readings files load_fault source hex a b = flat_same one files load_fault source (IsBuilt hex) a b (one_build readings hex)

-- where all is well the answer is one that is done
pub expand_done : (files : Option FileMap) (source file : List ℕ) → ExpandSucceeds files source → (answer : Answer) × ExpandAnswers files ⊥
    source file answer × (answer.status ≡ Done)
expand_done files source file h = (
  written_then (record { name = file; bytes = h.flat.text }) (expanded_line h.flat.origins),
  inr (h.names, h.flat, h.expands, refl),
  refl,
)

pub build_done : (files : Option FileMap) (source hex : List ℕ) → BuildSucceeds files source → (answer : Answer) × BuildAnswers files ⊥
    source hex answer × (answer.status ≡ Done)
build_done files source hex h = (
  written_then (hex_file hex h.output.image) (assembled_line h.output.image),
  inr (h.names, h.flat, h.expands, inl (h.output, h.assembles, refl)),
  refl,
)

-- a flat text as the program keeps it
abbrev pub text_of : Flat → FlatText
text_of flat = record { text = flat.text.items; origins = flat.origins.items }

-- loading met a fault, or none is needed for the answer
pub flat_or_fault : (files : Option FileMap) (load_fault : Type 0) (source : List ℕ) (next : List (List ℕ) → FlatText → Answer → Type 0)
    (answer : Answer) → ReadsFlat files load_fault source next answer → load_fault ⊎ ReadsFlat files ⊥ source next answer
flat_or_fault files load_fault source next answer (inl (inl (fault, told))) = inl fault
flat_or_fault files load_fault source next answer (inl (inr refused)) = inr (inl (inr refused))
flat_or_fault files load_fault source next answer (inr flat) = inr (inr flat)
