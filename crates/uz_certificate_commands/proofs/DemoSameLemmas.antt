-- A number and an answer of the search give one demo.
use Rattle.std.proofs.Common.{◌≡◌, ◌⊎◌, inl, inr, ℕ, [], sym, ap, ◌∙◌, subst}
use Rattle.std.specs.Prelude.{Result, Ok, Err}
use Rattle.avr_asm.specs.Assembly.{Output}
use Rattle.uz_hex.specs.Reading.{Flash}
use Rattle.uz_schedule.specs.declared.certificate.Cert.{Cert}
use Rattle.uz_schedule.specs.declared.kinds.Response.TheVariants.{Four}
use Rattle.uz_console.proofs.RunLaws.{over_or_stopped}
use Rattle.uz_search.specs.declared.found.NotFound.{NotFound}
use Rattle.uz_files.specs.declared.status.Status.{Status}
use Rattle.uz_files.specs.declared.status.Status.TheVariants as status
use Rattle.uz_files.specs.Answers.{Answer, ended}
use Rattle.uz_files.specs.Formats.{Readings}
use Rattle.uz_certificate_commands.specs.SearchLines.{Allowed}
use Rattle.uz_certificate_commands.specs.VerdictLines.{accepted_line}
use Rattle.uz_certificate_commands.specs.Runs.{IsFramedRun}
use Rattle.uz_certificate_commands.proofs.SameRunLemmas.{same_run}
use Rattle.uz_certificate_commands.specs.DemoCommand.{AllowedOfDemo, Assembles, DemoAnswers, DemoAnswersBy, DemoSucceeds, IsDemoBy, IsDemoRun}
use Rattle.uz_certificate_commands.specs.DemoCommand.{RunEnters, demo_clocks, demo_start}
use Rattle.uz_demo.specs.Source.{source}

-- a source has one assembly
one_output : (readings : Readings) (number : ℕ) (a b : Output) → Assembles number a → Assembles number b → a ≡ b
one_output readings number a b h k = readings.source.one (source number) a b h k

one_run : (image : Flash) (cert : Cert) (a b : Answer) → IsDemoRun image cert a → IsDemoRun image cert b → a ≡ b
one_run image cert a b p q =
    p.told
    ∙ (ap (λ (x : Answer). ended (accepted_line cert) x.status x.line) (same_run [] cert (demo_clocks cert) (demo_start image) p.played
    q.played p.run q.run)
    ∙ sym q.told)

one_answer : (found : Result Cert NotFound) (image : Flash) (a b : Answer) → IsDemoBy found image a → IsDemoBy found image b → a ≡ b
one_answer (Ok cert) image a b p q = one_run image cert a b p q
one_answer (Err e) image a b p q = p ∙ sym q

pub demo_same : (readings : Readings) (number : ℕ) (a b : Answer) (given : DemoAnswers number a) → DemoAnswersBy number given.found b
    → a ≡ b
demo_same readings number a b given wanted =
    one_answer given.found (given.output).image a b given.answers
    (subst (λ (o : Output). IsDemoBy given.found o.image b) (one_output readings number wanted.output given.output wanted.assembles
    given.assembles) wanted.answers)

pub demo_allowed : (readings : Readings) (number : ℕ) (a : Answer) (given : DemoAnswers number a) → AllowedOfDemo number given.found
demo_allowed readings number a given = λ output assembles. subst (λ (o : Output). Allowed o.image Four o.hints given.found)
    (one_output readings number given.output output given.assembles assembles) given.allowed

-- Statuses

abbrev pub IsDemoStatus : Status → Type 0
IsDemoStatus s = (s ≡ status.Refused) ⊎ ((s ≡ status.Done) ⊎ ((s ≡ status.NotEntered) ⊎ (s ≡ status.Stopped)))

run_status : (cert : Cert) (image : Flash) (played : Answer) → IsFramedRun [] cert (demo_clocks cert) (demo_start image) played
    → IsDemoStatus played.status
run_status cert image played (inl entered) = inr (inl (ap (λ (a : Answer). a.status) entered.told))
run_status cert image played (inr (inl unentered)) = inr (inr (inl (ap (λ (a : Answer). a.status) unentered.told)))
run_status cert image played (inr (inr halted)) = inr (inr (inr (ap (λ (a : Answer). a.status) halted.told)))

by_status : (found : Result Cert NotFound) (image : Flash) (answer : Answer) → IsDemoBy found image answer → IsDemoStatus answer.status
by_status (Ok cert) image answer run = subst IsDemoStatus (sym (ap (λ (a : Answer). a.status) run.told))
    (run_status cert image run.played run.run)
by_status (Err e) image answer told = inl (ap (λ (a : Answer). a.status) told)

pub demo_status : (number : ℕ) (answer : Answer) → DemoAnswers number answer → IsDemoStatus answer.status
demo_status number answer given = by_status given.found (given.output).image answer given.answers

-- where all is well each answer is done

run_done : (image : Flash) (cert : Cert) (played : Answer) → RunEnters image cert → IsFramedRun [] cert (demo_clocks cert)
    (demo_start image) played → played.status ≡ status.Done
run_done image cert played well (inl entered) = ap (λ (a : Answer). a.status) entered.told
run_done image cert played well (inr (inl unentered)) =
    let enters = well.enters in
    absurd (unentered.never enters.turns enters.edges enters.state enters.run enters.in_run enters.position enters.meets)
run_done image cert played well (inr (inr halted)) = absurd (over_or_stopped (demo_clocks cert) (demo_start image) well.last halted.last
    well.edges halted.edges well.run halted.run)

by_found : (number : ℕ) (well : DemoSucceeds number) (found : Result Cert NotFound) (answer : Answer) → Allowed (well.output).image Four
    (well.output).hints found → IsDemoBy found (well.output).image answer → answer.status ≡ status.Done
by_found number well (Ok cert) answer allowed run = ap (λ (a : Answer). a.status) run.told ∙ run_done (well.output).image cert run.played
    (well.runs cert allowed) run.run
by_found number well (Err e) answer allowed told = absurd (well.free e allowed)

pub demo_done : (readings : Readings) (number : ℕ) → DemoSucceeds number → (answer : Answer) → DemoAnswers number answer
    → answer.status ≡ status.Done
demo_done readings number well answer given =
    let same = one_output readings number given.output well.output given.assembles well.assembles in
    by_found number well given.found answer (subst (λ (o : Output). Allowed o.image Four o.hints given.found) same given.allowed)
    (subst (λ (o : Output). IsDemoBy given.found o.image answer) same given.answers)
