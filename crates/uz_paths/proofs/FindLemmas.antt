-- What the parts of a certificate give, and what a refusal of the search is licensed by.
use Rattle.std.proofs.Common.{◌≡◌, ◌⊎◌, ◌∙◌, inl, inr, sym, ap, refl, ℕ, List, [], subst}
use Rattle.std.specs.Prelude.{None, Option, Some, Result, Ok, Err, IfOk, IfErr, IfSome, IsOk}
use Rattle.std.specs.Ordering.{nat_cmp}
use Rattle.std.specs.FinMap.{FinMap}
use Rattle.std.proofs.lemmas.Option.{slice_get_within, same_Some}
use Rattle.avr_asm.specs.declared.output.Hint.{Hint as SourceHint}
use Rattle.avr_asm.specs.declared.output.Hint.TheVariants.{Fact}
use Rattle.uz_schedule.specs.declared.kinds.Response.{Response}
use Rattle.uz_schedule.specs.declared.kinds.RuleVersion.{RuleVersion}
use Rattle.uz_schedule.specs.declared.certificate.Cert.{Cert}
use Rattle.uz_schedule.specs.declared.states.Entry.{Entry}
use Rattle.uz_schedule.specs.declared.states.Instance.{Instance}
use Rattle.uz_search.specs.declared.found.Found.{Found}
use Rattle.uz_search.specs.declared.found.NotFound.{NotFound}
use Rattle.uz_search.specs.declared.found.NotFound.TheVariants.{Stuck, Split, Full, Hint, NoRest, Memory}
use Rattle.uz_search.specs.declared.program.Program.{Program}
use Rattle.uz_search.specs.Following.{Among}
use Rattle.uz_search.specs.Refusing.{Refusal}
use Rattle.uz_search.specs.Searching.{IsEnded}
use Rattle.uz_search.specs.Trails.{OnTrail}
use Rattle.uz_paths.specs.declared.reading.Reading.{Reading}
use Rattle.uz_paths.specs.Faults.{IsFine, FactPart, FactsFine}
use Rattle.uz_paths.specs.Reading.{IsReading}
use Rattle.uz_paths.specs.declared.certificate.Parts.{Parts}
use Rattle.uz_paths.specs.Certificate.{ArePartsOf, cert_of}
use Rattle.uz_paths.specs.Finding.{instance_limit, any_version, only, Cause, CauseBy, IsBy, Licensed, NoCause, IsFoundBy, IsAsked}
use Rattle.uz_paths.specs.Finding.{IsAskedWhole, IsAskedWith}
use Rattle.uz_paths.specs.ProgramOf.{IsProgramOf, start_entry, entry_with}
use Rattle.uz_paths.proofs.RestLemmas.{is_return}
use Rattle.uz_paths.proofs.SplitLemmas.{none_fit}

pub found_by : (image : FinMap nat_cmp ℕ) (p : Program) (entry : Entry) (found : Found) (parts : Parts) (cert : Cert) → cert ≡ cert_of p
    parts → ArePartsOf image p entry found parts → IsEnded image p found
    → ((x : Instance) → Among found.nodes.keys x → OnTrail image p x) → IsFoundBy image p entry cert
found_by image p entry found parts cert is a ended trails = subst (IsFoundBy image p entry) (sym is) (record {
  head = refl;
  lines = a.schedule.count;
  lengths = a.schedule.lengths;
  fall = a.schedule.falls;
  enters = a.enters;
  rests = is_return image p found parts.rests.items a.rests ended trails;
})

fact_part : (image : FinMap nat_cmp ℕ) (irq : Response) (hints : List SourceHint) (i : ℕ) (h : SourceHint) → IsFine image irq hints i h
    → FactPart h
fact_part image irq hints i (Fact at place lo hi) f = (f.order, f.there, f.byte)
fact_part image irq hints i other f = tt

pub facts_fine : (image : FinMap nat_cmp ℕ) (irq : Response) (hints : List SourceHint) (r : Reading) → IsReading image irq hints r
    → FactsFine hints
facts_fine image irq hints r is i h there = fact_part image irq hints i h (is.fine i h (slice_get_within hints i h there) there)

pub licensed : (version : RuleVersion) (image : FinMap nat_cmp ℕ) (irq : Response) (hints : List SourceHint) (p : Program) (e : NotFound)
    → IsProgramOf irq hints p → p.head.version ≡ version → p.splits ≡ [] → Refusal image p instance_limit e → CauseBy (only version) image irq hints e
licensed version image irq hints p (Stuck trail why) of rules whole shows = record { program = p; of = of; rules = rules; whole = whole; shows = shows }
licensed version image irq hints p (Split first second) of rules whole shows = record { program = p; of = of; rules = rules; whole = whole; shows = shows }
licensed version image irq hints p (Full instances) of rules whole shows = record { program = p; of = of; rules = rules; whole = whole; shows = shows }
licensed version image irq hints p (Hint index) of rules whole shows = absurd shows
licensed version image irq hints p (NoRest count) of rules whole shows = record { program = p; of = of; rules = rules; whole = whole; shows = shows }
licensed version image irq hints p Memory of rules whole shows = tt

any_licence : (version : RuleVersion) (image : FinMap nat_cmp ℕ) (irq : Response) (hints : List SourceHint) (e : NotFound)
    → Licensed (only version) image irq hints e → Licensed any_version image irq hints e
any_licence version image irq hints e h = record { program = h.program; of = h.of; rules = tt; whole = h.whole; shows = h.shows }

-- a cause by the rules of one version is a cause
pub any_cause : (version : RuleVersion) (image : FinMap nat_cmp ℕ) (irq : Response) (hints : List SourceHint) (e : NotFound)
    → CauseBy (only version) image irq hints e → Cause image irq hints e
any_cause version image irq hints (Stuck trail why) h = any_licence version image irq hints (Stuck trail why) h
any_cause version image irq hints (Split first second) h = any_licence version image irq hints (Split first second) h
any_cause version image irq hints (Full instances) h = any_licence version image irq hints (Full instances) h
any_cause version image irq hints (Hint index) h = h
any_cause version image irq hints (NoRest count) h = any_licence version image irq hints (NoRest count) h
any_cause version image irq hints Memory h = tt

pub any_err : {A : Type 0} (version : RuleVersion) (image : FinMap nat_cmp ℕ) (irq : Response) (hints : List SourceHint)
    (answer : Result A NotFound) → IfErr answer (CauseBy (only version) image irq hints) → IfErr answer (Cause image irq hints)
any_err version image irq hints (Ok found) h = tt
any_err version image irq hints (Err e) h = any_cause version image irq hints e h

-- what is found has the program's version
pub ok_by : (version : RuleVersion) (image : FinMap nat_cmp ℕ) (p : Program) (entry : Entry) (answer : Result (Option Cert) NotFound)
    → p.head.version ≡ version → IfOk answer (λ o. IfSome o (IsFoundBy image p entry)) → IfOk answer (λ o. IfSome o (IsBy version))
ok_by version image p entry (Ok (Some cert)) rules found = ap (λ h. h.version) found.head ∙ rules
ok_by version image p entry (Ok None) rules found = tt
ok_by version image p entry (Err why) rules found = tt

pub asked : (allowed : Program → Type 0) (image : FinMap nat_cmp ℕ) (irq : Response) (hints : List SourceHint) (r : Reading) (p : Program)
    (entry : Entry) (cert : Cert) → IsReading image irq hints r → IsProgramOf irq hints p → allowed p → p.head ≡ r.head
    → entry ≡ entry_with r.registers r.head r.start 0 → IsFoundBy image p entry cert → IsAskedWith allowed image irq hints cert
asked allowed image irq hints r p entry cert is of splits head e found =
    let start : r.start ≡ of.start = same_Some r.start of.start (sym is.start ∙ of.starts_at) in
    let same : entry ≡ start_entry hints p.head of.start 0 =
    e ∙ (ap (λ rs. entry_with rs r.head r.start 0) is.registers ∙ (ap (λ h. start_entry hints h r.start 0) (sym head)
    ∙ ap (λ s. start_entry hints p.head s 0) start)) in
    record { program = p; of = of; splits = splits; found = subst (λ x. IsFoundBy image p x cert) same found }

pub ok_asked : (allowed : Program → Type 0) (image : FinMap nat_cmp ℕ) (irq : Response) (hints : List SourceHint) (r : Reading)
    (p : Program) (entry : Entry) (answer : Result (Option Cert) NotFound) → IsReading image irq hints r → IsProgramOf irq hints p
    → allowed p → p.head ≡ r.head → entry ≡ entry_with r.registers r.head r.start 0
    → IfOk answer (λ o. IfSome o (IsFoundBy image p entry)) → IfOk answer (λ o. IfSome o (IsAskedWith allowed image irq hints))
ok_asked allowed image irq hints r p entry (Ok (Some cert)) is of splits head e found =
    asked allowed image irq hints r p entry cert is of splits head e found
ok_asked allowed image irq hints r p entry (Ok None) is of splits head e found = tt
ok_asked allowed image irq hints r p entry (Err why) is of splits head e found = tt

-- what is asked without splits is asked
pub any_splits : (image : FinMap nat_cmp ℕ) (irq : Response) (hints : List SourceHint) (cert : Cert) → IsAskedWhole image irq hints cert
    → IsAsked image irq hints cert
any_splits image irq hints cert a = record { program = a.program; of = a.of; splits = none_fit a.program a.splits; found = a.found }

pub ok_any_splits : {E : Type 0} (image : FinMap nat_cmp ℕ) (irq : Response) (hints : List SourceHint) (answer : Result Cert E)
    → IfOk answer (IsAskedWhole image irq hints) → IfOk answer (IsAsked image irq hints)
ok_any_splits image irq hints (Ok cert) a = any_splits image irq hints cert a
ok_any_splits image irq hints (Err why) a = tt

pub err_cause : {A : Type 0} (version : RuleVersion) (image : FinMap nat_cmp ℕ) (irq : Response) (hints : List SourceHint) (p : Program)
    (answer : Result A NotFound) → IsProgramOf irq hints p → p.head.version ≡ version → p.splits ≡ []
    → IfErr answer (Refusal image p instance_limit) → IfErr answer (CauseBy (only version) image irq hints)
err_cause version image irq hints p (Ok found) of rules whole shows = tt
err_cause version image irq hints p (Err e) of rules whole shows = licensed version image irq hints p e of rules whole shows

pub no_hint : (r : Reading) (index : ℕ) → Ok r ≡ Err index → ⊥
no_hint r index e = cc

pub same_hint : {A : Type 0} (a b : ℕ) → ◌≡◌ {A = Result Reading ℕ} (Err a) (Err b)
    → ◌≡◌ {A = Result A NotFound} (Err (Hint a)) (Err (Hint b))
same_hint a b e = let same : a ≡ b = cc in ap (λ i. Err (Hint i)) same

pub some_both : {A : Type 0} (P Q : A → Type 0) (o : Option A) → IfSome o P → IfSome o Q → IfSome o (λ x. P x × Q x)
some_both P Q None p q = p
some_both P Q (Some x) p q = (p, q)

pub err_is : {A : Type 0} (a b : NotFound) → ◌≡◌ {A = Result A NotFound} (Err a) (Err b) → a ≡ b
err_is a b e = cc

-- where something is found, no hint is at fault
pub found_unhinted : {A B : Type 0} (a : A) (b : B) (index : ℕ) → (◌≡◌ {A = Result A NotFound} (Ok a) (Err (Hint index)))
    ⊎ (◌≡◌ {A = Result A NotFound} (Ok a) (Err Memory)) → (◌≡◌ {A = Result B NotFound} (Ok b) (Err (Hint index)))
    ⊎ (◌≡◌ {A = Result B NotFound} (Ok b) (Err Memory))
found_unhinted a b index (inl e) = absurd (cc)
found_unhinted a b index (inr e) = absurd (cc)

-- and a refusal is one, whatever was looked for
pub refused_alike : {A B : Type 0} (why : NotFound) (index : ℕ) → (◌≡◌ {A = Result A NotFound} (Err why) (Err (Hint index)))
    ⊎ (◌≡◌ {A = Result A NotFound} (Err why) (Err Memory)) → (◌≡◌ {A = Result B NotFound} (Err why) (Err (Hint index)))
    ⊎ (◌≡◌ {A = Result B NotFound} (Err why) (Err Memory))
refused_alike why index (inl e) = inl (ap Err (err_is why (Hint index) e))
refused_alike why index (inr e) = inr (ap Err (err_is why Memory e))

-- without a cause there is a certificate, or memory lacks
pub complete_answer : {A : Type 0} (version : RuleVersion) (image : FinMap nat_cmp ℕ) (irq : Response) (hints : List SourceHint)
    (answer : Result A NotFound) → IfErr answer (CauseBy (only version) image irq hints) → NoCause version image irq hints
    → IsOk answer ⊎ (answer ≡ Err Memory)
complete_answer version image irq hints (Ok found) cause none = inl refl
complete_answer version image irq hints (Err (Stuck trail why)) cause none = absurd (none (Stuck trail why) (λ h. cc) cause)
complete_answer version image irq hints (Err (Split first second)) cause none = absurd (none (Split first second) (λ h. cc) cause)
complete_answer version image irq hints (Err (Full instances)) cause none = absurd (none (Full instances) (λ h. cc) cause)
complete_answer version image irq hints (Err (Hint index)) cause none = absurd (none (Hint index) (λ h. cc) cause)
complete_answer version image irq hints (Err (NoRest count)) cause none = absurd (none (NoRest count) (λ h. cc) cause)
complete_answer version image irq hints (Err Memory) cause none = inr refl
