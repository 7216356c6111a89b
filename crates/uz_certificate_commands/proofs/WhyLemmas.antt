-- What `why` answers: lines, and no file.
use Rattle.std.proofs.Common.{◌≡◌, ◌<◌, inl, inr, ℕ, Bool, true, false, nat_lt, List, ◌++◌, arith, ap, ◌∙◌, refl, subst, sym}
use Rattle.std.proofs.lemmas.Bool.Decides.{nat_tests}
use Rattle.std.proofs.lemmas.Option.{slice_get_within}
use Rattle.std.specs.Prelude.{Option, Some, None, Result, Ok, Err, IfErr, IfOk, Vec, slice_get, unwrap_or}
use Rattle.std.specs.declared.alloc.Global.{Global}
use Rattle.uz_shelf.specs.Files.{FileMap}
use Rattle.uz_hex.specs.Reading.{Flash}
use Rattle.avr_table.specs.declared.Instr.{Instr}
use Rattle.avr_decode.specs.Decoded.{Decoded}
use Rattle.avr_table.specs.Rows.{Reads}
use Rattle.avr_asm.specs.declared.output.Hint.{Hint as SourceHint}
use Rattle.uz_schedule.specs.declared.kinds.Response.{Response}
use Rattle.uz_schedule.specs.declared.certificate.Cert.{Cert}
use Rattle.uz_schedule.specs.WellFormed.{WellFormed}
use Rattle.uz_check.specs.Acceptance.{Accepts}
use Rattle.uz_check.specs.Certified.{Certified}
use Rattle.uz_search.specs.declared.found.NotFound.{NotFound}
use Rattle.uz_search.specs.declared.found.NotFound.TheVariants.{Hint}
use Rattle.uz_files.specs.declared.ending.Ending.{Ending}
use Rattle.uz_files.specs.declared.ending.Failure.{Failure}
use Rattle.uz_files.specs.declared.ending.Failure.TheVariants.{Memory as NoRoom}
use Rattle.uz_files.specs.declared.status.Status.TheVariants.{Done, Refused}
use Rattle.uz_files.specs.Answers.{one_line}
use Rattle.uz_files.specs.Endings.{EndsBy, Gives, answer_of}
use Rattle.uz_certificate_commands.specs.SearchLines.{Allowed, not_found_line}
use Rattle.uz_certificate_commands.specs.VerdictLines.{accepted_line}
use Rattle.avr_asm.specs.SourceMap.{labels_of}
use Rattle.avr_asm.specs.declared.labels.Label.{Label}
use Rattle.uz_paths.specs.Rules.{IsBroken, IsRuleAt, hint_rules}
use Rattle.uz_explanations.specs.Explanations.{explanation}
use Rattle.uz_explanations.specs.Readings.{IsReading, Reading}
use Rattle.uz_certificate_commands.specs.HintLines.{hint_text}
use Rattle.uz_paths.specs.declared.rules.Rule.{Rule}
use Rattle.uz_certificate_commands.specs.HintedSearch.{HintSource, IsSought, SpellsHinted}
use Rattle.uz_certificate_commands.specs.WhyCommand.{HintsLead, IsHintPart, IsWay, OneReading, TellsRefusal, WhyAnswers, WhyTells}
use Rattle.uz_certificate_commands.proofs.HintedLemmas.{TellsOne, TellsStatus, spelled_reads}

-- one rule is broken first
one_broken : (image : Flash) (irq : Response) (hints : List SourceHint) (index : ℕ) (h : SourceHint) (r s : Rule)
    → IsBroken image irq hints index h hint_rules r → IsBroken image irq hints index h hint_rules s → r ≡ s
one_broken image irq hints index h r s p q = by_test (nat_lt p.place q.place) (nat_lt q.place p.place) refl refl
  where
    by_test : (a b : Bool) → nat_lt p.place q.place ≡ a → nat_lt q.place p.place ≡ b → r ≡ s
    by_test true b e f = absurd (p.broken (q.before p.place r (grind (arith, nat_tests, e)) p.there))
    by_test false true e f = absurd (q.broken (p.before q.place s (grind (arith, nat_tests, f)) q.there))
    by_test false false e f =
        let same : p.place ≡ q.place = grind (arith, nat_tests, e, f) in
        let got : Some r ≡ Some s = sym p.there ∙ ap (slice_get hint_rules) same ∙ q.there in
        ap (λ o. unwrap_or o r) got

one_rule : (image : Flash) (irq : Response) (hints : List SourceHint) (index : ℕ) (r s : Rule) → IsRuleAt image irq hints index r
    → IsRuleAt image irq hints index s → r ≡ s
one_rule image irq hints index r s (inl p) (inl q) =
    let got : Some p.hint ≡ Some q.hint = sym p.there ∙ q.there in
    let same : p.hint ≡ q.hint = ap (λ o. unwrap_or o p.hint) got in
    one_broken image irq hints index q.hint r s (subst (λ h. IsBroken image irq hints index h hint_rules r) same p.first) q.first
one_rule image irq hints index r s (inl p) (inr (past, is)) =
    absurd (omega (arith, slice_get_within hints index p.hint p.there, past))
one_rule image irq hints index r s (inr (past, is)) (inl q) =
    absurd (omega (arith, slice_get_within hints index q.hint q.there, past))
one_rule image irq hints index r s (inr (past, is)) (inr (also, other)) =
    let got : Some r ≡ Some s = sym is ∙ other in
    ap (λ o. unwrap_or o r) got

one_part : (image : Flash) (irq : Response) (source : HintSource) (e : NotFound) (s t : List ℕ) → IsHintPart image irq source e s
    → IsHintPart image irq source e t → s ≡ t
one_part image irq source (Hint index) s t (rule, is, told) (other, also, tells) =
    told ∙ ap (hint_text source index) (one_rule image irq source.output.hints index rule other is also) ∙ sym tells
one_part image irq source other s t p q = p ∙ sym q

pub why_statuses : (irq : Response) → TellsStatus (WhyTells irq)
why_statuses irq = record {
  found = λ image source cert answer told. ap (λ a. a.status) told;
  refused = λ image source why answer told. ap (λ a. a.status) told.told;
}

-- two words are read as one instruction at most
pub one_row : (one : (first second : ℕ) (i j : Instr) → Reads first second i → Reads first second j → i ≡ j) (first second : ℕ)
    (a b : Option Instr) → Decoded first second a → Decoded first second b → a ≡ b
one_row one first second (Some i) (Some j) p q = ap (λ k. Some k) (one first second i j p.found q.found)
one_row one first second (Some i) None p q = absurd (q.none i p.found)
one_row one first second None (Some j) p q = absurd (p.none j q.found)
one_row one first second None None p q = refl

one_way : (one : OneReading) (image : Flash) (source : HintSource) (e : NotFound) (s t : List ℕ) → IsWay image source e s
    → IsWay image source e t → s ≡ t
one_way one image source e s t (read, is, told) (other, also, tells) =
    let same : read ≡ other = λ i pc. one image read other pc is also i in
    told ∙ ap (λ (r : Reading). explanation image r (labels_of source.flat.text) e) same ∙ sym tells

pub why_tells_one : (one : OneReading) (irq : Response) → TellsOne (WhyTells irq)
why_tells_one one irq image source (Ok cert) a b p q = p ∙ sym q
why_tells_one one irq image source (Err e) a b p q =
    p.told
    ∙ (ap (λ w. one_line Refused (not_found_line e ++ w ++ p.hint)) (one_way one image source e p.way q.way p.is_way q.is_way)
    ∙ (ap (λ h. one_line Refused (not_found_line e ++ q.way ++ h)) (one_part image irq source e p.hint q.hint p.is_hint q.is_hint)
    ∙ sym q.told))

-- both files are read and fit, and this came of the search
module _ (files : Option FileMap) (hex hints : List ℕ) (irq : Response) (image : Flash) (source : HintSource)
    (spelled : SpellsHinted files hex hints image source) where
  pub searched_gives : (load_fault : Type 0) (r : Result Ending Failure)
      → IfOk r (λ e. IsSought (WhyTells irq) irq image source (answer_of e)) → IfErr r (λ failure. failure ≡ NoRoom)
      → Gives (WhyAnswers files load_fault hex hints irq) r
  searched_gives load_fault (Ok ending) is lacks =
      spelled_reads files load_fault hex hints (IsSought (WhyTells irq) irq) image source (answer_of ending) spelled is
  searched_gives load_fault (Err failure) is lacks = subst (EndsBy (WhyAnswers files load_fault hex hints irq)) (sym lacks) tt

  leads : ((image : Flash) (cert : Cert) → WellFormed cert → Accepts image cert → Certified image cert)
      → (ending : Ending) → IsSought (WhyTells irq) irq image source (answer_of ending) → ending.status ≡ Done
      → HintsLead files hex hints irq
  leads sound ending (Ok cert, allowed, told) done = record {
    image = image;
    source = source;
    spelled = spelled;
    certificate = cert;
    asked = allowed.worth.2;
    accepted = allowed.worth.1;
    certified = sound image cert allowed.worth.0 allowed.worth.1;
  }
  leads sound ending (Err why, allowed, told) done =
      let refused : ending.status ≡ Refused = ap (λ a. a.status) told.told in
      let no : Refused ≡ Done = sym refused ∙ done in
      absurd (cc no)

  pub searched_leads : ((image : Flash) (cert : Cert) → WellFormed cert → Accepts image cert → Certified image cert)
      → (r : Result Ending Failure) → IfOk r (λ e. IsSought (WhyTells irq) irq image source (answer_of e))
      → IfOk r (λ e. e.status ≡ Done → HintsLead files hex hints irq)
  searched_leads sound (Ok ending) is = leads sound ending is
  searched_leads sound (Err failure) is = tt

-- what the search answered, told
pub found_told : (irq : Response) (image : Flash) (source : HintSource) (cert : Cert) (line : List ℕ)
    → Allowed image irq source.output.hints (Ok cert) → line ≡ accepted_line cert
    → IsSought (WhyTells irq) irq image source (one_line Done line)
found_told irq image source cert line allowed is = (Ok cert, allowed, ap (one_line Done) is)

pub refusal_told : (irq : Response) (image : Flash) (source : HintSource) (why : NotFound) (line : List ℕ)
    → Allowed image irq source.output.hints (Err why) → WhyTells irq image source (Err why) (one_line Refused line)
    → IsSought (WhyTells irq) irq image source (one_line Refused line)
refusal_told irq image source why line allowed told = (Err why, allowed, told)

-- of the hint at an index
pub hint_told : {E : Type 0} (image : Flash) (irq : Response) (source : HintSource) (index : ℕ) (rule : Rule) (r : Result (Vec ℕ Global) E)
    → IsRuleAt image irq source.output.hints index rule → IfOk r (λ text. text.items ≡ hint_text source index rule)
    → IfOk r (λ text. IsHintPart image irq source (Hint index) text.items)
hint_told image irq source index rule (Ok text) is told = (rule, is, told)
hint_told image irq source index rule (Err e) is told = tt

-- the whole text of a refusal
pub refusal_lines : (irq : Response) (image : Flash) (source : HintSource) (e : NotFound) (way hint text : List ℕ)
    → IsWay image source e way → IsHintPart image irq source e hint → text ≡ not_found_line e ++ way ++ hint
    → TellsRefusal irq image source e (one_line Refused text)
refusal_lines irq image source e way hint text is part whole =
    record { way = way; is_way = is; hint = hint; is_hint = part; told = ap (one_line Refused) whole }

-- the way, by the reading that the flash has
pub way_told : {E : Type 0} (image : Flash) (source : HintSource) (e : NotFound) (labels : List Label) (r : Result (Vec ℕ Global) E)
    → (read : Reading) × IsReading image read → labels ≡ labels_of source.flat.text
    → IfOk r (λ text. (read : Reading) → IsReading image read → text.items ≡ explanation image read labels e)
    → IfOk r (λ text. IsWay image source e text.items)
way_told image source e labels (Ok text) (read, is) same told =
    (read, is, told read is ∙ ap (λ l. explanation image read l e) same)
way_told image source e labels (Err why) has same told = tt
