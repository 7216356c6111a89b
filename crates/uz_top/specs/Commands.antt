-- What each command answers, and what is asked of its files.
use Rattle.std.specs.Prelude.{◌≡◌, Option, Result}
use Rattle.uz_shelf.specs.Files.{FileMap, LacksFile}
use Rattle.uz_schedule.specs.declared.certificate.Cert.{Cert}
use Rattle.uz_search.specs.declared.found.NotFound.{NotFound}
use Rattle.uz_files.specs.declared.status.Status.{Status}
use Rattle.uz_files.specs.declared.status.Status.TheVariants.{Done}
use Rattle.uz_files.specs.Answers.{Answer, Ends, NoPart, Outside, one_line}
use Rattle.uz_top.specs.Words.{Command, Asm, Build, Certify, Check, Debug, Demo, Dis, Expand, Find, Hints, Migrate, Play, Prints, Report, Timing, Trace, Wave, Why}
use Rattle.uz_program_commands.specs.TraceCommand.{TraceAnswers, TraceParts}
use Rattle.uz_files.specs.RunFiles.{RunLacks, RunSucceeds}
use Rattle.uz_program_commands.specs.MacroCommands.{BuildAnswers, BuildSucceeds, ExpandAnswers, ExpandSucceeds, FilesBuilt}
use Rattle.uz_program_commands.specs.MacroSource.{MacroLacks}
use Rattle.uz_certificate_commands.specs.PlayCommand.{FilesHalted, FilesPlayed, PlayAnswers, PlayLacks, PlayParts, PlaySucceeds}
use Rattle.uz_program_commands.specs.DebugCommand.{DebugAnswers, DebugLacks, DebugSucceeds}
use Rattle.uz_program_commands.specs.AsmCommand.{AsmAnswers, AsmSucceeds, FilesAssembled}
use Rattle.uz_program_commands.specs.DisCommand.{DisAnswers, DisSucceeds}
use Rattle.uz_certificate_commands.specs.CertifyCommand.{AllowedOf, CertifyAnswers, CertifyAnswersBy, CertifySucceeds, FilesCertify}
use Rattle.uz_certificate_commands.specs.DemoCommand.{AllowedOfDemo, DemoAnswers, DemoAnswersBy, DemoHalted, DemoParts, DemoPlayed, DemoSucceeds}
use Rattle.uz_certificate_commands.specs.HintedSearch.{AllowedOfHinted, HintedLacks, HintedSucceeds}
use Rattle.uz_certificate_commands.specs.FindCommand.{FilesFound, FindAnswers, FindAnswersBy}
use Rattle.uz_certificate_commands.specs.WhyCommand.{HintsLead, WhyAnswers, WhyAnswersBy}
use Rattle.uz_certificate_commands.specs.MigrateCommand.{FilesMigrated, MigrateAnswers, MigrateSucceeds}
use Rattle.uz_certificate_commands.specs.CheckCommand.{CheckAnswers, FilesCertified}
use Rattle.uz_certificate_commands.specs.ReportCommand.{FilesReported, ReportAnswers}
use Rattle.uz_certificate_commands.specs.TimingCommand.{TimingAnswers}
use Rattle.uz_program_commands.specs.WaveCommand.{FilesHeard, WaveAnswers}
use Rattle.uz_program_commands.specs.HintsCommand.{FilesHinted, HintsAnswers, HintsAnswersBy, IsProposal, Proposal}
use Rattle.uz_certificate_commands.specs.PairFiles.{PairLacks, SpellPair}
use Rattle.uz_check.specs.Acceptance.{Accepts}

-- the answer of a command, from what its files say
abbrev pub Answers : Option FileMap → Type 0 → Command → Answer → Type 0
Answers files load_fault (Check hex cert) answer = CheckAnswers files load_fault hex cert answer
Answers files load_fault (Dis hex) answer = DisAnswers files load_fault hex answer
Answers files load_fault (Asm source hex) answer = AsmAnswers files load_fault source hex answer
Answers files load_fault (Trace hex pads irq clocks) answer = TraceAnswers files load_fault hex pads irq clocks answer
Answers files load_fault (Expand source flat) answer = ExpandAnswers files load_fault source flat answer
Answers files load_fault (Build source hex) answer = BuildAnswers files load_fault source hex answer
Answers files load_fault (Play hex cert pads clocks frames) answer = PlayAnswers files load_fault hex cert pads clocks frames answer
Answers files load_fault (Debug hex pads irq script) answer = DebugAnswers files load_fault hex pads irq script answer
Answers files load_fault (Certify source irq hex cert) answer = CertifyAnswers files load_fault source irq hex cert answer
Answers files load_fault (Demo number) answer = DemoAnswers number answer
Answers files load_fault (Migrate older newer) answer = MigrateAnswers files load_fault older newer answer
Answers files load_fault (Report hex cert) answer = ReportAnswers files load_fault hex cert answer
Answers files load_fault (Timing hex cert) answer = TimingAnswers files load_fault hex cert answer
Answers files load_fault (Wave hex pads irq clocks wav) answer = WaveAnswers files load_fault hex pads irq clocks wav answer
Answers files load_fault (Prints text) answer = answer ≡ one_line Done text
Answers files load_fault (Find hex hints irq cert) answer = FindAnswers files load_fault hex hints irq cert answer
Answers files load_fault (Hints hex pads irq clocks hints) answer = HintsAnswers files load_fault hex pads irq hints answer
Answers files load_fault (Why hex hints irq) answer = WhyAnswers files load_fault hex hints irq answer

-- a file that the command reads isn't there, and all earlier ones are read
abbrev pub LacksRead : Option FileMap → Command → Type 0
LacksRead files (Check hex cert) = PairLacks files hex cert
LacksRead files (Dis hex) = LacksFile files hex
LacksRead files (Asm source hex) = LacksFile files source
LacksRead files (Trace hex pads irq clocks) = RunLacks files hex pads
LacksRead files (Expand source flat) = MacroLacks files source
LacksRead files (Build source hex) = MacroLacks files source
LacksRead files (Play hex cert pads clocks frames) = PlayLacks files hex cert pads
LacksRead files (Debug hex pads irq script) = DebugLacks files hex pads script
LacksRead files (Certify source irq hex cert) = LacksFile files source
LacksRead files (Demo number) = ⊥
LacksRead files (Migrate older newer) = LacksFile files older
LacksRead files (Report hex cert) = PairLacks files hex cert
LacksRead files (Timing hex cert) = PairLacks files hex cert
LacksRead files (Wave hex pads irq clocks wav) = RunLacks files hex pads
LacksRead files (Prints text) = ⊥
LacksRead files (Find hex hints irq cert) = HintedLacks files hex hints
LacksRead files (Hints hex pads irq clocks hints) = RunLacks files hex pads
LacksRead files (Why hex hints irq) = HintedLacks files hex hints

-- all that the command reads is there and in its grammar, and what it asks of it holds
abbrev pub Succeeds : Option FileMap → Command → Type 0
Succeeds files (Check hex cert) = SpellPair files hex cert Accepts
Succeeds files (Dis hex) = DisSucceeds files hex
Succeeds files (Asm source hex) = AsmSucceeds files source
Succeeds files (Trace hex pads irq clocks) = RunSucceeds files hex pads irq clocks
Succeeds files (Expand source flat) = ExpandSucceeds files source
Succeeds files (Build source hex) = BuildSucceeds files source
Succeeds files (Play hex cert pads clocks frames) = PlaySucceeds files hex cert pads clocks
Succeeds files (Debug hex pads irq script) = DebugSucceeds files hex pads script
Succeeds files (Certify source irq hex cert) = CertifySucceeds files source irq
Succeeds files (Demo number) = DemoSucceeds number
Succeeds files (Migrate older newer) = MigrateSucceeds files older
Succeeds files (Report hex cert) = SpellPair files hex cert Accepts
Succeeds files (Timing hex cert) = SpellPair files hex cert Accepts
Succeeds files (Wave hex pads irq clocks wav) = RunSucceeds files hex pads irq clocks
Succeeds files (Prints text) = Unit {0}
Succeeds files (Find hex hints irq cert) = HintedSucceeds files hex hints irq
-- which hints a run gives, and whether it gives some, is a choice: nothing that is asked of the files leads to them
Succeeds files (Hints hex pads irq clocks hints) = ⊥
Succeeds files (Why hex hints irq) = HintedSucceeds files hex hints irq

-- the command creates no file
abbrev pub CreatesNone : Command → Type 0
CreatesNone (Check hex cert) = Unit {0}
CreatesNone (Dis hex) = Unit {0}
CreatesNone (Asm source hex) = ⊥
CreatesNone (Trace hex pads irq clocks) = Unit {0}
CreatesNone (Expand source flat) = ⊥
CreatesNone (Build source hex) = ⊥
CreatesNone (Play hex cert pads clocks frames) = ⊥
CreatesNone (Debug hex pads irq script) = Unit {0}
CreatesNone (Certify source irq hex cert) = ⊥
CreatesNone (Demo number) = Unit {0}
CreatesNone (Migrate older newer) = ⊥
CreatesNone (Report hex cert) = Unit {0}
CreatesNone (Timing hex cert) = Unit {0}
CreatesNone (Wave hex pads irq clocks wav) = ⊥
CreatesNone (Prints text) = Unit {0}
CreatesNone (Find hex hints irq cert) = ⊥
CreatesNone (Hints hex pads irq clocks hints) = ⊥
CreatesNone (Why hex hints irq) = Unit {0}

-- what a command is worth where it is done, with the files before it and after it
abbrev pub Certifies : Option FileMap → Option FileMap → Command → Type 0
Certifies files new (Check hex cert) = FilesCertified files hex cert
Certifies files new (Dis hex) = Unit {0}
Certifies files new (Asm source hex) = FilesAssembled files new source hex
Certifies files new (Trace hex pads irq clocks) = Unit {0}
Certifies files new (Expand source flat) = Unit {0}
Certifies files new (Build source hex) = FilesBuilt files new source hex
Certifies files new (Play hex cert pads clocks frames) = FilesPlayed files hex cert pads clocks
Certifies files new (Debug hex pads irq script) = Unit {0}
Certifies files new (Certify source irq hex cert) = FilesCertify files new source irq hex cert
Certifies files new (Demo number) = DemoPlayed number
Certifies files new (Migrate older newer) = FilesMigrated files new older newer
Certifies files new (Report hex cert) = FilesReported files hex cert
Certifies files new (Timing hex cert) = FilesCertified files hex cert
Certifies files new (Wave hex pads irq clocks wav) = FilesHeard files new hex pads irq clocks wav
Certifies files new (Prints text) = Unit {0}
Certifies files new (Find hex hints irq cert) = FilesFound files new hex hints irq cert
Certifies files new (Hints hex pads irq clocks hints) = FilesHinted files new hex pads hints
Certifies files new (Why hex hints irq) = HintsLead files hex hints irq

-- what a command tells where it is stopped
abbrev pub StopTells : Option FileMap → Command → Type 0
StopTells files (Check hex cert) = Unit {0}
StopTells files (Dis hex) = Unit {0}
StopTells files (Asm source hex) = Unit {0}
StopTells files (Trace hex pads irq clocks) = Unit {0}
StopTells files (Expand source flat) = Unit {0}
StopTells files (Build source hex) = Unit {0}
StopTells files (Play hex cert pads clocks frames) = FilesHalted files hex cert pads clocks
StopTells files (Debug hex pads irq script) = Unit {0}
StopTells files (Certify source irq hex cert) = Unit {0}
StopTells files (Demo number) = DemoHalted number
StopTells files (Migrate older newer) = Unit {0}
StopTells files (Report hex cert) = Unit {0}
StopTells files (Timing hex cert) = Unit {0}
StopTells files (Wave hex pads irq clocks wav) = Unit {0}
StopTells files (Prints text) = Unit {0}
StopTells files (Find hex hints irq cert) = Unit {0}
StopTells files (Hints hex pads irq clocks hints) = Unit {0}
StopTells files (Why hex hints irq) = Unit {0}

-- what a command has come to that is cut short in the midst of its work
abbrev pub PartAnswers : Option FileMap → Command → Answer → Type 0
PartAnswers files (Check hex cert) = NoPart
PartAnswers files (Dis hex) = NoPart
PartAnswers files (Asm source hex) = NoPart
PartAnswers files (Trace hex pads irq clocks) = TraceParts files hex pads irq clocks
PartAnswers files (Expand source flat) = NoPart
PartAnswers files (Build source hex) = NoPart
PartAnswers files (Play hex cert pads clocks frames) = PlayParts files hex cert pads clocks frames
PartAnswers files (Debug hex pads irq script) = NoPart
PartAnswers files (Certify source irq hex cert) = NoPart
PartAnswers files (Demo number) = DemoParts number
PartAnswers files (Migrate older newer) = NoPart
PartAnswers files (Report hex cert) = NoPart
PartAnswers files (Timing hex cert) = NoPart
PartAnswers files (Wave hex pads irq clocks wav) = NoPart
PartAnswers files (Prints text) = NoPart
PartAnswers files (Find hex hints irq cert) = NoPart
PartAnswers files (Hints hex pads irq clocks hints) = NoPart
PartAnswers files (Why hex hints irq) = NoPart

-- Where the shelf tells its files, they decide the answer, and for `certify`, `find`, `why` and `demo` an answer of the search does besides,
-- for `hints` what is proposed, as plain data

abbrev pub AnswersBy : Option FileMap → Result Cert NotFound → Proposal → Command → Answer → Type 0
AnswersBy files found proposal (Check hex cert) answer = CheckAnswers files ⊥ hex cert answer
AnswersBy files found proposal (Dis hex) answer = DisAnswers files ⊥ hex answer
AnswersBy files found proposal (Asm source hex) answer = AsmAnswers files ⊥ source hex answer
AnswersBy files found proposal (Trace hex pads irq clocks) answer = TraceAnswers files ⊥ hex pads irq clocks answer
AnswersBy files found proposal (Expand source flat) answer = ExpandAnswers files ⊥ source flat answer
AnswersBy files found proposal (Build source hex) answer = BuildAnswers files ⊥ source hex answer
AnswersBy files found proposal (Play hex cert pads clocks frames) answer = PlayAnswers files ⊥ hex cert pads clocks frames answer
AnswersBy files found proposal (Debug hex pads irq script) answer = DebugAnswers files ⊥ hex pads irq script answer
AnswersBy files found proposal (Certify source irq hex cert) answer = CertifyAnswersBy files source hex cert found answer
AnswersBy files found proposal (Demo number) answer = DemoAnswersBy number found answer
AnswersBy files found proposal (Migrate older newer) answer = MigrateAnswers files ⊥ older newer answer
AnswersBy files found proposal (Report hex cert) answer = ReportAnswers files ⊥ hex cert answer
AnswersBy files found proposal (Timing hex cert) answer = TimingAnswers files ⊥ hex cert answer
AnswersBy files found proposal (Wave hex pads irq clocks wav) answer = WaveAnswers files ⊥ hex pads irq clocks wav answer
AnswersBy files found proposal (Prints text) answer = answer ≡ one_line Done text
AnswersBy files found proposal (Find hex hints irq cert) answer = FindAnswersBy files hex hints cert found answer
AnswersBy files found proposal (Hints hex pads irq clocks hints) answer = HintsAnswersBy files hex pads irq hints proposal answer
AnswersBy files found proposal (Why hex hints irq) answer = WhyAnswersBy files hex hints irq found answer

-- what the search's promise allows: a certificate that is accepted and as the hints ask, or a refusal whose cause stands; and what may be
-- proposed
abbrev pub AllowedFor : Option FileMap → Command → Result Cert NotFound → Proposal → Type 0
AllowedFor files (Check hex cert) found proposal = Unit {0}
AllowedFor files (Dis hex) found proposal = Unit {0}
AllowedFor files (Asm source hex) found proposal = Unit {0}
AllowedFor files (Trace hex pads irq clocks) found proposal = Unit {0}
AllowedFor files (Expand source flat) found proposal = Unit {0}
AllowedFor files (Build source hex) found proposal = Unit {0}
AllowedFor files (Play hex cert pads clocks frames) found proposal = Unit {0}
AllowedFor files (Debug hex pads irq script) found proposal = Unit {0}
AllowedFor files (Certify source irq hex cert) found proposal = AllowedOf files source irq found
AllowedFor files (Demo number) found proposal = AllowedOfDemo number found
AllowedFor files (Migrate older newer) found proposal = Unit {0}
AllowedFor files (Report hex cert) found proposal = Unit {0}
AllowedFor files (Timing hex cert) found proposal = Unit {0}
AllowedFor files (Wave hex pads irq clocks wav) found proposal = Unit {0}
AllowedFor files (Prints text) found proposal = Unit {0}
AllowedFor files (Find hex hints irq cert) found proposal = AllowedOfHinted files hex hints irq found
AllowedFor files (Hints hex pads irq clocks hints) found proposal = IsProposal proposal
AllowedFor files (Why hex hints irq) found proposal = AllowedOfHinted files hex hints irq found

-- it ended with the one answer that they decide
pub record IsDecided (files : Option FileMap) (write_fault : Type 0) (c : Command) (came : Status) (old new : Outside) : Type 0 where
  pub found : Result Cert NotFound
  pub proposal : Proposal
  pub allowed : AllowedFor files c found proposal
  pub decided : (wanted : Answer) → AnswersBy files found proposal c wanted → Ends wanted write_fault came old new
