-- What holds of every command.
use Rattle.std.proofs.Common.{◌≡◌, ◌≢◌, ◌⊎◌, inl, inr, ℕ, List, refl, sym, subst, ap, ◌∙◌}
use Rattle.std.specs.Prelude.{Option, Some, None, IfSome, Result, Err}
use Rattle.uz_shelf.specs.Files.{FileMap}
use Rattle.uz_schedule.specs.declared.certificate.Cert.{Cert}
use Rattle.uz_search.specs.declared.found.NotFound.{NotFound}
use Rattle.uz_search.specs.declared.found.NotFound.TheVariants.{Memory as NoRoomToSearch}
use Rattle.uz_files.specs.declared.status.Status.{Status}
use Rattle.uz_files.specs.declared.status.Status.TheVariants as status
use Rattle.uz_files.specs.Answers.{Answer, ComesOf, Ends, Outside, MayCome, one_line, outside}
use Rattle.uz_files.specs.Formats.{Readings}
use Rattle.uz_top.specs.Words.{Command, Asm, Build, Certify, Check, Debug, Demo, Dis, Expand, Find, Hints, Migrate, Play, Prints, Report, Timing, Trace, Wave, Why}
use Rattle.uz_top.specs.Commands.{AllowedFor, Answers, AnswersBy, IsDecided, LacksRead, PartAnswers, Succeeds}
use Rattle.uz_files.proofs.EndingLemmas.{comes_by, comes_of_line}
use Rattle.uz_files.proofs.OutcomeLemmas.{came_from, from_answer, unwritten_by}
use Rattle.uz_program_commands.proofs.TraceAnswerLemmas.{trace_status, trace_done}
use Rattle.uz_program_commands.proofs.TraceSameLemmas.{trace_or_fault, trace_same}
use Rattle.uz_program_commands.proofs.MacroLemmas.{OneEnd, build_done, build_same, build_status, expand_done, expand_same, expand_status}
use Rattle.uz_program_commands.proofs.MacroLemmas.{flat_or_fault}
use Rattle.uz_program_commands.specs.MacroCommands.{IsBuilt, IsExpanded}
use Rattle.uz_certificate_commands.proofs.PlayLemmas.{play_status}
use Rattle.uz_certificate_commands.proofs.PlaySameLemmas.{play_done, play_or_fault, play_same}
use Rattle.uz_program_commands.proofs.DebugLemmas.{debug_status, debug_or_fault, debug_same, debug_done}
use Rattle.uz_program_commands.proofs.AsmLemmas.{asm_done_answer, asm_or_fault, asm_same, asm_status}
use Rattle.uz_program_commands.proofs.DisLemmas.{dis_status, dis_or_fault, dis_same, dis_done}
use Rattle.uz_certificate_commands.proofs.CertifyLemmas.{certify_always, certify_decided, certify_or_fault, certify_status}
use Rattle.uz_certificate_commands.proofs.DemoSameLemmas.{demo_allowed, demo_done, demo_same, demo_status}
use Rattle.uz_certificate_commands.proofs.HintedLemmas.{search_always, search_decided, search_or_fault, search_status}
use Rattle.uz_certificate_commands.proofs.FindLemmas.{find_statuses, find_tells_one}
use Rattle.uz_certificate_commands.specs.FindCommand.{FindTells}
use Rattle.uz_certificate_commands.specs.WhyCommand.{OneReading, WhyTells}
use Rattle.uz_certificate_commands.proofs.WhyLemmas.{why_statuses, why_tells_one}
use Rattle.uz_certificate_commands.proofs.MigrateLemmas.{migrate_done_answer, migrate_or_fault, migrate_same, migrate_status}
use Rattle.uz_certificate_commands.proofs.PairLemmas.{pair_done, pair_or_fault, pair_same, pair_status}
use Rattle.uz_certificate_commands.specs.VerdictLines.{accepted_line}
use Rattle.uz_certificate_commands.specs.ReportCommand.{report_text}
use Rattle.uz_report.specs.Timing.{timing_text}
use Rattle.uz_program_commands.specs.HintsCommand.{BadSource, Proposal}
use Rattle.uz_program_commands.proofs.HintsLemmas.{hints_decided, hints_or_fault, hints_status}
use Rattle.uz_program_commands.proofs.WaveLemmas.{wave_done, wave_or_fault, wave_same, wave_status}

-- a status that a command's own work gives
abbrev IsOwn : Status → Type 0
IsOwn status.Done = Unit {0}
IsOwn status.Usage = ⊥
IsOwn status.Unread = ⊥
IsOwn status.BadInput = Unit {0}
IsOwn status.Refused = Unit {0}
IsOwn status.Unwritten = ⊥
IsOwn status.Stopped = Unit {0}
IsOwn status.NotEntered = Unit {0}
IsOwn status.NoMemory = Unit {0}

-- an answer's status: a file wasn't read, for its cause, or it is the work's own
abbrev StatusTells : Option FileMap → Type 0 → Command → Answer → Type 0
StatusTells files load_fault c answer = ((answer.status ≡ status.Unread) × (load_fault ⊎ LacksRead files c)) ⊎ IsOwn answer.status

-- what the told files, an answer of the search and what is proposed decide
record Decision (told : FileMap) (c : Command) (answer : Answer) : Type 0 where
  found : Result Cert NotFound
  proposal : Proposal
  allowed : AllowedFor (Some told) c found proposal
  same : (wanted : Answer) → AnswersBy (Some told) found proposal c wanted → answer ≡ wanted

-- What holds of each command
record CommandLaw (files : Option FileMap) (load_fault : Type 0) (c : Command) : Type 0 where
  tells : (answer : Answer) → Answers files load_fault c answer → StatusTells files load_fault c answer
  -- loading met a fault, or none is needed for the answer
  free : (answer : Answer) → Answers files load_fault c answer → load_fault ⊎ Answers files ⊥ c answer
  -- an answer without a fault of loading is the one that is decided
  decided : (told : FileMap) (answer : Answer) → Answers (Some told) ⊥ c answer → Decision told c answer
  -- where all is well each answer is done, unless loading met a fault
  done : (told : FileMap) → Succeeds (Some told) c → (load_fault → ⊥) → (answer : Answer) → Answers (Some told) load_fault c answer
      → answer.status ≡ status.Done

own : (answer : Answer) (s : Status) → answer.status ≡ s → IsOwn s → IsOwn answer.status
own answer s same is = subst IsOwn (sym same) is

-- of the statuses of an answer the first is Unread, the others the work's own
own_two : (A : Type 0) (answer : Answer) (s t : Status) → IsOwn s → IsOwn t → A ⊎ ((answer.status ≡ s) ⊎ (answer.status ≡ t))
    → A ⊎ IsOwn answer.status
own_two A answer s t p q (inl a) = inl a
own_two A answer s t p q (inr (inl e)) = inr (own answer s e p)
own_two A answer s t p q (inr (inr e)) = inr (own answer t e q)

own_three : (A : Type 0) (answer : Answer) (r s t : Status) → IsOwn r → IsOwn s → IsOwn t
    → A ⊎ ((answer.status ≡ r) ⊎ ((answer.status ≡ s) ⊎ (answer.status ≡ t))) → A ⊎ IsOwn answer.status
own_three A answer r s t p q u (inl a) = inl a
own_three A answer r s t p q u (inr (inl e)) = inr (own answer r e p)
own_three A answer r s t p q u (inr (inr (inl e))) = inr (own answer s e q)
own_three A answer r s t p q u (inr (inr (inr e))) = inr (own answer t e u)

sure : (a b : Answer) → (a ≡ b) ⊎ ⊥ → a ≡ b
sure a b (inl same) = same
sure a b (inr never) = absurd never

-- no certificate is searched, and no hints are proposed
unsearched : (told : FileMap) (c : Command) (answer : Answer) → AllowedFor (Some told) c (Err NoRoomToSearch) BadSource
    → ((wanted : Answer) → AnswersBy (Some told) (Err NoRoomToSearch) BadSource c wanted → (answer ≡ wanted) ⊎ ⊥) → Decision told c answer
unsearched told c answer allowed same = record {
  found = Err NoRoomToSearch;
  proposal = BadSource;
  allowed = allowed;
  same = λ wanted q. sure answer wanted (same wanted q);
}

-- an answer that is this one, or loading met a fault
done_as : (load_fault : Type 0) (answer wanted : Answer) → (answer ≡ wanted) ⊎ load_fault → wanted.status ≡ status.Done → (load_fault → ⊥)
    → answer.status ≡ status.Done
done_as load_fault answer wanted (inl same) is loads = ap (λ a. a.status) same ∙ is
done_as load_fault answer wanted (inr fault) is loads = absurd (loads fault)

-- a new command has its clause here
law_of : (one : OneEnd) (readings : Readings) (reading : OneReading) (files : Option FileMap) (load_fault : Type 0) (c : Command) → CommandLaw files load_fault c
law_of one readings reading files load_fault (Check hex cert) = record {
  tells = λ answer h. own_three _ answer status.BadInput status.Done status.Refused tt tt tt
      (pair_status accepted_line files load_fault hex cert answer h);
  free = λ answer h. pair_or_fault accepted_line files load_fault hex cert answer h;
  decided = λ told answer p. unsearched told (Check hex cert) answer tt
      (λ wanted q. pair_same accepted_line readings told ⊥ hex cert answer wanted p q);
  done = λ told h loads answer p. let d = pair_done accepted_line (Some told) hex cert h in
      done_as load_fault answer d.0 (pair_same accepted_line readings told load_fault hex cert answer d.0 p d.1) d.2 loads;
}
law_of one readings reading files load_fault (Dis hex) = record {
  tells = λ answer h. own_two _ answer status.BadInput status.Done tt tt (dis_status files load_fault hex answer h);
  free = λ answer h. dis_or_fault files load_fault hex answer h;
  decided = λ told answer p. unsearched told (Dis hex) answer tt (λ wanted q. dis_same readings told ⊥ hex answer wanted p q);
  done = λ told h loads answer p. let d = dis_done (Some told) hex h in
      done_as load_fault answer d.0 (dis_same readings told load_fault hex answer d.0 p d.1) d.2 loads;
}
law_of one readings reading files load_fault (Asm source hex) = record {
  tells = λ answer h. own_two _ answer status.BadInput status.Done tt tt (asm_status files load_fault source hex answer h);
  free = λ answer h. asm_or_fault files load_fault source hex answer h;
  decided = λ told answer p. unsearched told (Asm source hex) answer tt (λ wanted q. asm_same readings told ⊥ source hex answer wanted p q);
  done = λ told h loads answer p. let d = asm_done_answer (Some told) source hex h in
      done_as load_fault answer d.0 (asm_same readings told load_fault source hex answer d.0 p d.1) d.2 loads;
}
law_of one readings reading files load_fault (Expand source flat) = record {
  tells = λ answer h. own_two _ answer status.BadInput status.Done tt tt (expand_status files load_fault source flat answer h);
  free = λ answer h. flat_or_fault files load_fault source (IsExpanded flat) answer h;
  decided = λ told answer p.
      unsearched told (Expand source flat) answer tt (λ wanted q. expand_same one told ⊥ source flat answer wanted p q);
  done = λ told h loads answer p. let d = expand_done (Some told) source flat h in
      done_as load_fault answer d.0 (expand_same one told load_fault source flat answer d.0 p d.1) d.2 loads;
}
law_of one readings reading files load_fault (Build source hex) = record {
  tells = λ answer h. own_two _ answer status.BadInput status.Done tt tt (build_status files load_fault source hex answer h);
  free = λ answer h. flat_or_fault files load_fault source (IsBuilt hex) answer h;
  decided = λ told answer p.
      unsearched told (Build source hex) answer tt (λ wanted q. build_same one readings told ⊥ source hex answer wanted p q);
  done = λ told h loads answer p. let d = build_done (Some told) source hex h in
      done_as load_fault answer d.0 (build_same one readings told load_fault source hex answer d.0 p d.1) d.2 loads;
}
law_of one readings reading files load_fault (Trace hex pads irq clocks) = record {
  tells = λ answer h. own_three _ answer status.BadInput status.Done status.Stopped tt tt tt
      (trace_status files load_fault hex pads irq clocks answer h);
  free = λ answer h. trace_or_fault files load_fault hex pads irq clocks answer h;
  decided = λ told answer p. unsearched told (Trace hex pads irq clocks) answer tt
      (λ wanted q. trace_same readings told ⊥ hex pads irq clocks answer wanted p q);
  done = λ told h loads answer p. let d = trace_done (Some told) hex pads irq clocks h in
      done_as load_fault answer d.0 (trace_same readings told load_fault hex pads irq clocks answer d.0 p d.1) d.2 loads;
}
law_of one readings reading files load_fault (Play hex cert pads clocks frames) = record {
  tells = λ answer h. elim (play_status files load_fault hex cert pads clocks frames answer h) [
    | inl unread ↦ inl unread
    | inr (inl e) ↦ inr (own answer _ e tt)
    | inr (inr (inl e)) ↦ inr (own answer _ e tt)
    | inr (inr (inr (inl e))) ↦ inr (own answer _ e tt)
    | inr (inr (inr (inr (inl e)))) ↦ inr (own answer _ e tt)
    | inr (inr (inr (inr (inr e)))) ↦ inr (own answer _ e tt)
  ];
  free = λ answer h. play_or_fault files load_fault hex cert pads clocks frames answer h;
  decided = λ told answer p. unsearched told (Play hex cert pads clocks frames) answer tt
      (λ wanted q. play_same readings told ⊥ hex cert pads clocks frames answer wanted p q);
  done = λ told h loads answer p. play_done readings told load_fault hex cert pads clocks frames h loads answer p;
}
law_of one readings reading files load_fault (Debug hex pads irq script) = record {
  tells = λ answer h. own_two _ answer status.BadInput status.Done tt tt (debug_status files load_fault hex pads irq script answer h);
  free = λ answer h. debug_or_fault files load_fault hex pads irq script answer h;
  decided = λ told answer p. unsearched told (Debug hex pads irq script) answer tt
      (λ wanted q. debug_same readings told ⊥ hex pads irq script answer wanted p q);
  done = λ told h loads answer p. debug_done readings told load_fault hex pads irq script h loads answer p;
}
law_of one readings reading files load_fault (Certify source irq hex cert) = record {
  tells = λ answer h. own_three _ answer status.BadInput status.Refused status.Done tt tt tt
      (certify_status files load_fault source irq hex cert answer h);
  free = λ answer h. certify_or_fault files load_fault source irq hex cert answer h;
  decided = λ told answer p. let d = certify_decided readings told source irq hex cert answer p in
      record { found = d.found; proposal = BadSource; allowed = d.allowed; same = d.decided };
  done = λ told h loads answer p. certify_always readings told load_fault source irq hex cert h loads answer p;
}
law_of one readings reading files load_fault (Demo number) = record {
  tells = λ answer h. elim (demo_status number answer h) [
    | inl e ↦ inr (own answer _ e tt)
    | inr (inl e) ↦ inr (own answer _ e tt)
    | inr (inr (inl e)) ↦ inr (own answer _ e tt)
    | inr (inr (inr e)) ↦ inr (own answer _ e tt)
  ];
  free = λ answer h. inr h;
  decided = λ told answer p. record {
    found = p.found;
    proposal = BadSource;
    allowed = demo_allowed readings number answer p;
    same = λ wanted q. demo_same readings number answer wanted p q;
  };
  done = λ told h loads answer p. demo_done readings number h answer p;
}
law_of one readings reading files load_fault (Migrate older newer) = record {
  tells = λ answer h. own_two _ answer status.BadInput status.Done tt tt (migrate_status files load_fault older newer answer h);
  free = λ answer h. migrate_or_fault files load_fault older newer answer h;
  decided = λ told answer p. unsearched told (Migrate older newer) answer tt
      (λ wanted q. migrate_same readings told ⊥ older newer answer wanted p q);
  done = λ told h loads answer p. let d = migrate_done_answer (Some told) older newer h in
      done_as load_fault answer d.0 (migrate_same readings told load_fault older newer answer d.0 p d.1) d.2 loads;
}
law_of one readings reading files load_fault (Report hex cert) = record {
  tells = λ answer h. own_three _ answer status.BadInput status.Done status.Refused tt tt tt
      (pair_status report_text files load_fault hex cert answer h);
  free = λ answer h. pair_or_fault report_text files load_fault hex cert answer h;
  decided = λ told answer p. unsearched told (Report hex cert) answer tt
      (λ wanted q. pair_same report_text readings told ⊥ hex cert answer wanted p q);
  done = λ told h loads answer p. let d = pair_done report_text (Some told) hex cert h in
      done_as load_fault answer d.0 (pair_same report_text readings told load_fault hex cert answer d.0 p d.1) d.2 loads;
}
law_of one readings reading files load_fault (Timing hex cert) = record {
  tells = λ answer h. own_three _ answer status.BadInput status.Done status.Refused tt tt tt
      (pair_status timing_text files load_fault hex cert answer h);
  free = λ answer h. pair_or_fault timing_text files load_fault hex cert answer h;
  decided = λ told answer p. unsearched told (Timing hex cert) answer tt
      (λ wanted q. pair_same timing_text readings told ⊥ hex cert answer wanted p q);
  done = λ told h loads answer p. let d = pair_done timing_text (Some told) hex cert h in
      done_as load_fault answer d.0 (pair_same timing_text readings told load_fault hex cert answer d.0 p d.1) d.2 loads;
}
law_of one readings reading files load_fault (Wave hex pads irq clocks wav) = record {
  tells = λ answer h. own_three _ answer status.BadInput status.Done status.Stopped tt tt tt
      (wave_status files load_fault hex pads irq clocks wav answer h);
  free = λ answer h. wave_or_fault files load_fault hex pads irq clocks wav answer h;
  decided = λ told answer p. unsearched told (Wave hex pads irq clocks wav) answer tt
      (λ wanted q. wave_same readings told ⊥ hex pads irq clocks wav answer wanted p q);
  done = λ told h loads answer p. let d = wave_done (Some told) hex pads irq clocks wav h in
      done_as load_fault answer d.0 (wave_same readings told load_fault hex pads irq clocks wav answer d.0 p d.1) d.2 loads;
}
law_of one readings reading files load_fault (Prints text) = record {
  tells = λ answer h. inr (own answer status.Done (ap (λ a. a.status) h) tt);
  free = λ answer h. inr h;
  decided = λ told answer p. unsearched told (Prints text) answer tt (λ wanted q. inl (p ∙ sym q));
  done = λ told h loads answer p. ap (λ a. a.status) p;
}
law_of one readings reading files load_fault (Find hex hints irq cert) = record {
  tells = λ answer h. own_three _ answer status.BadInput status.Refused status.Done tt tt tt
      (search_status (FindTells cert) (find_statuses cert) irq files load_fault hex hints answer h);
  free = λ answer h. search_or_fault (FindTells cert) irq files load_fault hex hints answer h;
  decided = λ told answer p. let d = search_decided (FindTells cert) (find_tells_one cert) one readings told hex hints irq answer p in
      record { found = d.found; proposal = BadSource; allowed = d.allowed; same = d.decided };
  done = λ told h loads answer p.
      search_always (FindTells cert) (find_statuses cert) irq one readings told load_fault hex hints h loads answer p;
}
law_of one readings reading files load_fault (Hints hex pads irq clocks hints) = record {
  tells = λ answer h. own_three _ answer status.BadInput status.Refused status.Done tt tt tt
      (hints_status files load_fault hex pads irq hints answer h);
  free = λ answer h. hints_or_fault files load_fault hex pads irq hints answer h;
  decided = λ told answer p. let d = hints_decided readings told hex pads irq hints answer p in
      record { found = Err NoRoomToSearch; proposal = d.proposal; allowed = d.allowed; same = d.decided };
  done = λ told never loads answer p. absurd never;
}
law_of one readings reading files load_fault (Why hex hints irq) = record {
  tells = λ answer h. own_three _ answer status.BadInput status.Refused status.Done tt tt tt
      (search_status (WhyTells irq) (why_statuses irq) irq files load_fault hex hints answer h);
  free = λ answer h. search_or_fault (WhyTells irq) irq files load_fault hex hints answer h;
  decided = λ told answer p. let d = search_decided (WhyTells irq) (why_tells_one reading irq) one readings told hex hints irq answer p in
      record { found = d.found; proposal = BadSource; allowed = d.allowed; same = d.decided };
  done = λ told h loads answer p.
      search_always (WhyTells irq) (why_statuses irq) irq one readings told load_fault hex hints h loads answer p;
}

-- What follows for every command

never_usage : (one : OneEnd) (readings : Readings) (reading : OneReading) (files : Option FileMap) (load_fault : Type 0) (c : Command) (answer : Answer)
    → Answers files load_fault c answer → answer.status ≢ status.Usage
never_usage one readings reading files load_fault c answer h is =
    elim ((law_of one readings reading files load_fault c).tells answer h) [
      | inl (e, cause) ↦ absurd (cc (e, is))
      | inr is_own ↦ subst IsOwn is is_own
    ]

never_unwritten : (one : OneEnd) (readings : Readings) (reading : OneReading) (files : Option FileMap) (load_fault : Type 0) (c : Command) (answer : Answer)
    → Answers files load_fault c answer → answer.status ≢ status.Unwritten
never_unwritten one readings reading files load_fault c answer h is =
    elim ((law_of one readings reading files load_fault c).tells answer h) [
      | inl (e, cause) ↦ absurd (cc (e, is))
      | inr is_own ↦ subst IsOwn is is_own
    ]

unread_cause : (one : OneEnd) (readings : Readings) (reading : OneReading) (files : Option FileMap) (load_fault : Type 0) (c : Command) (answer : Answer)
    → Answers files load_fault c answer → answer.status ≡ status.Unread → load_fault ⊎ LacksRead files c
unread_cause one readings reading files load_fault c answer h is =
    elim ((law_of one readings reading files load_fault c).tells answer h) [
      | inl (e, cause) ↦ cause
      | inr is_own ↦ absurd (subst IsOwn is is_own)
    ]

decided_by : (one : OneEnd) (readings : Readings) (reading : OneReading) (files : FileMap) (write_fault : Type 0) (c : Command) (answer : Answer) (came : Status)
    (old new : Outside) → Answers (Some files) ⊥ c answer → Ends answer write_fault came old new
    → IsDecided (Some files) write_fault c came old new
decided_by one readings reading files write_fault c answer came old new h ends =
    let d = (law_of one readings reading (Some files) ⊥ c).decided files answer h in
    record {
      found = d.found;
      proposal = d.proposal;
      allowed = d.allowed;
      decided = λ wanted q. subst (λ a. Ends a write_fault came old new) (d.same wanted q) ends;
    }

usage_not_memory : status.Usage ≢ status.NoMemory
usage_not_memory e = cc

usage_not_unwritten : status.Usage ≢ status.Unwritten
usage_not_unwritten e = cc

unread_not_memory : status.Unread ≢ status.NoMemory
unread_not_memory e = cc

unread_not_unwritten : status.Unread ≢ status.Unwritten
unread_not_unwritten e = cc

module _ (one : OneEnd) (readings : Readings) (reading : OneReading) (files : Option FileMap) (load_fault write_fault : Type 0) (c : Command) (came : Status)
    (old new : Outside) where
  not_usage : MayCome (Answers files load_fault c) (PartAnswers files c) write_fault came old new → came ≢ status.Usage
  not_usage h is =
      let from = from_answer (Answers files load_fault c) (PartAnswers files c) write_fault came old new status.Usage usage_not_memory
      usage_not_unwritten h is in
      never_usage one readings reading files load_fault c from.0 from.1 from.2

  unread_by : MayCome (Answers files load_fault c) (PartAnswers files c) write_fault came old new → came ≡ status.Unread → load_fault
      ⊎ LacksRead files c
  unread_by h is =
      let from = from_answer (Answers files load_fault c) (PartAnswers files c) write_fault came old new status.Unread unread_not_memory
      unread_not_unwritten h is in
      unread_cause one readings reading files load_fault c from.0 from.1 from.2

  pub unwritten : MayCome (Answers files load_fault c) (PartAnswers files c) write_fault came old new → came ≡ status.Unwritten
      → write_fault
  unwritten = unwritten_by (Answers files load_fault c) (PartAnswers files c) write_fault came old new
      (never_unwritten one readings reading files load_fault c)

module _ (one : OneEnd) (readings : Readings) (reading : OneReading) (told : FileMap) (load_fault write_fault : Type 0) (c : Command) (came : Status)
    (old new : Outside) where
  exact : MayCome (Answers (Some told) load_fault c) (PartAnswers (Some told) c) write_fault came old new → (came ≡ status.NoMemory)
      ⊎ (load_fault ⊎ (((came ≡ status.Unwritten) × write_fault) ⊎ IsDecided (Some told) write_fault c came old new))
  exact h =
      elim (came_from (Answers (Some told) load_fault c) (PartAnswers (Some told) c) write_fault came old new h) [
        | inl none ↦ inl none
        | inr (inl cut) ↦ inr (inr (inl cut))
        | inr (inr given) ↦ ended given.0 given.2 ((law_of one readings reading (Some told) load_fault c).free given.0 given.1)
      ]
    where
      ended : (answer : Answer) → Ends answer write_fault came old new → load_fault ⊎ Answers (Some told) ⊥ c answer
          → (came ≡ status.NoMemory)
          ⊎ (load_fault ⊎ (((came ≡ status.Unwritten) × write_fault) ⊎ IsDecided (Some told) write_fault c came old new))
      ended answer ends (inl fault) = inr (inl fault)
      ended answer ends (inr free) = inr (inr (inr (decided_by one readings reading told write_fault c answer came old new free ends)))

  complete : MayCome (Answers (Some told) load_fault c) (PartAnswers (Some told) c) write_fault came old new → Succeeds (Some told) c
      → (load_fault → ⊥) → (write_fault → ⊥) → (came ≡ status.Done) ⊎ (came ≡ status.NoMemory)
  complete h well loads writes =
      elim (came_from (Answers (Some told) load_fault c) (PartAnswers (Some told) c) write_fault came old new h) [
        | inl none ↦ inr none
        | inr (inl cut) ↦ absurd (writes cut.1)
        | inr (inr given) ↦ inl (given.2.status ∙ (law_of one readings reading (Some told) load_fault c).done told well loads given.0 given.1)
      ]

-- a fault of the sink is one of writing
pub outcome_wider : (Whole Part : Answer → Type 0) (narrow wide : Type 0) (came : Status) (old new : Outside) → (narrow → wide)
    → MayCome Whole Part narrow came old new → MayCome Whole Part wide came old new
outcome_wider Whole Part narrow wide came old new widen (inl starts) = inl starts
outcome_wider Whole Part narrow wide came old new widen (inr (inl (answer, given, comes))) =
    inr (inl (answer, given, comes_by answer came narrow wide old new widen comes))
outcome_wider Whole Part narrow wide came old new widen (inr (inr (answer, given, inl cut))) =
    inr (inr (answer, given, inl (cut.0, widen cut.1, cut.2)))
outcome_wider Whole Part narrow wide came old new widen (inr (inr (answer, given, inr lacks))) = inr (inr (answer, given, inr lacks))

pub outcome_at : (k l : Command) (files : Option FileMap) (load_fault write_fault : Type 0) (came : Status) (old new : Outside) → k ≡ l
    → MayCome (Answers files load_fault l) (PartAnswers files l) write_fault came old new → MayCome (Answers files load_fault k)
    (PartAnswers files k) write_fault came old new
outcome_at k l files load_fault write_fault came old new same h = subst (λ c. MayCome (Answers files load_fault c) (PartAnswers files c)
    write_fault came old new) (sym same) h

-- a text that the words alone decide
pub prints_outcome : (k : Command) (text lines : List ℕ) (files : Option FileMap) (load_fault narrow wide : Type 0) (came : Status)
    (old new : Option (List ℕ)) → k ≡ Prints text → (narrow → wide) → lines ≡ text
    → ComesOf (one_line status.Done lines) narrow came (outside files old) (outside files new)
    → MayCome (Answers files load_fault k) (PartAnswers files k) wide came (outside files old) (outside files new)
prints_outcome k text lines files load_fault narrow wide came old new is widen same comes =
    outcome_at k (Prints text) files load_fault wide came (outside files old) (outside files new) is
    (inr (inl (
      one_line status.Done text,
      refl,
      comes_by (one_line status.Done text) came narrow wide (outside files old) (outside files new) widen
          (comes_of_line status.Done text lines narrow came (outside files old) (outside files new) same comes),
    )))

-- told files decide the answer, unless memory is lacking or a fault came
abbrev pub Exact : Command → Option FileMap → Type 0 → Type 0 → Status → Outside → Outside → Type 0
Exact c files load_fault write_fault came old new =
    IfSome files (λ told. (came ≡ status.NoMemory)
    ⊎ (load_fault ⊎ (((came ≡ status.Unwritten) × write_fault) ⊎ IsDecided files write_fault c came old new)))

exact_told : (one : OneEnd) (readings : Readings) (reading : OneReading) (files : Option FileMap) (load_fault write_fault : Type 0) (c : Command)
    (came : Status) (old new : Outside)
    → MayCome (Answers files load_fault c) (PartAnswers files c) write_fault came old new → Exact c files load_fault write_fault came old
    new
exact_told one readings reading None load_fault write_fault c came old new h = tt
exact_told one readings reading (Some told) load_fault write_fault c came old new h =
    exact one readings reading told load_fault write_fault c came old new h

pub exact_in : (one : OneEnd) (readings : Readings) (reading : OneReading) (o : Option Command) (c : Command) (files : Option FileMap)
    (load_fault write_fault : Type 0) (came : Status)
    (old new : Outside) → Some c ≡ o → MayCome (Answers files load_fault c) (PartAnswers files c) write_fault came old new
    → IfSome o (λ k. Exact k files load_fault write_fault came old new)
exact_in one readings reading o c files load_fault write_fault came old new is h =
    subst (λ p. IfSome p (λ k. Exact k files load_fault write_fault came old new)) is
    (exact_told one readings reading files load_fault write_fault c came old new h)

pub unread_in : (one : OneEnd) (readings : Readings) (reading : OneReading) (o : Option Command) (c : Command) (files : Option FileMap)
    (load_fault write_fault : Type 0) (came : Status) (old new : Outside) → Some c ≡ o
    → MayCome (Answers files load_fault c) (PartAnswers files c) write_fault came old new
    → came ≡ status.Unread → IfSome o (λ k. load_fault ⊎ LacksRead files k)
unread_in one readings reading o c files load_fault write_fault came old new is h unread =
    subst (λ p. IfSome p (λ k. load_fault ⊎ LacksRead files k)) is
    (unread_by one readings reading files load_fault write_fault c came old new h unread)

complete_told : (one : OneEnd) (readings : Readings) (reading : OneReading) (files : Option FileMap) (load_fault write_fault : Type 0) (c : Command)
    (came : Status) (old new : Outside)
    → MayCome (Answers files load_fault c) (PartAnswers files c) write_fault came old new
    → IfSome files (λ told. Succeeds files c → (load_fault → ⊥) → (write_fault → ⊥) → (came ≡ status.Done) ⊎ (came ≡ status.NoMemory))
complete_told one readings reading None load_fault write_fault c came old new h = tt
complete_told one readings reading (Some told) load_fault write_fault c came old new h =
    complete one readings reading told load_fault write_fault c came old new h

pub complete_in : (one : OneEnd) (readings : Readings) (reading : OneReading) (o : Option Command) (c : Command) (files : Option FileMap)
    (load_fault write_fault : Type 0)
    (came : Status) (old new : Outside) → Some c ≡ o
    → MayCome (Answers files load_fault c) (PartAnswers files c) write_fault came old new
    → IfSome o (λ k. IfSome files (λ told. Succeeds files k → (load_fault → ⊥) → (write_fault → ⊥) → (came ≡ status.Done)
    ⊎ (came ≡ status.NoMemory)))
complete_in one readings reading o c files load_fault write_fault came old new is h =
    subst (λ p. IfSome p (λ k. IfSome files (λ told. Succeeds files k → (load_fault → ⊥) → (write_fault → ⊥) → (came ≡ status.Done)
    ⊎ (came ≡ status.NoMemory)))) is
    (complete_told one readings reading files load_fault write_fault c came old new h)

pub usage_in : (one : OneEnd) (readings : Readings) (reading : OneReading) (o : Option Command) (c : Command) (files : Option FileMap)
    (load_fault write_fault : Type 0) (came : Status) (old new : Outside) → Some c ≡ o
    → MayCome (Answers files load_fault c) (PartAnswers files c) write_fault came old new
    → came ≡ status.Usage → o ≡ None
usage_in one readings reading o c files load_fault write_fault came old new is h usage =
    absurd (not_usage one readings reading files load_fault write_fault c came old new h usage)
