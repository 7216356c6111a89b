-- The command of the code as a command of the words.
use Rattle.uz_top.specs.Words.{Command, Asm, Build, Certify, Check, Debug, Demo, Dis, Expand, Find, Hints, Migrate, Play, Prints, Report, Timing, Trace, Wave, Why}
use Rattle.uz_top.specs.declared.command.Command.{Command as CommandValue}
use Rattle.uz_top.specs.declared.command.Command.TheVariants as value

abbrev pub value_of : CommandValue → Command
value_of (value.Check hex cert) = Check hex.now cert.now
value_of (value.Dis hex) = Dis hex.now
value_of (value.Trace hex pads irq clocks) = Trace hex.now pads.now irq clocks
value_of (value.Expand source flat) = Expand source.now flat.now
value_of (value.Build source hex) = Build source.now hex.now
value_of (value.Play hex cert pads clocks frames) = Play hex.now cert.now pads.now clocks.count frames.now
value_of (value.Debug hex pads irq script) = Debug hex.now pads.now irq script.now
value_of (value.Asm source hex) = Asm source.now hex.now
value_of (value.Certify source irq hex cert) = Certify source.now irq hex.now cert.now
value_of (value.Demo number) = Demo number
value_of (value.Migrate older newer) = Migrate older.now newer.now
value_of (value.Report hex cert) = Report hex.now cert.now
value_of (value.Timing hex cert) = Timing hex.now cert.now
value_of (value.Wave hex pads irq clocks wav) = Wave hex.now pads.now irq clocks wav.now
value_of (value.Prints text) = Prints text.now
value_of (value.Find hex hints irq cert) = Find hex.now hints.now irq cert.now
value_of (value.Hints hex pads irq clocks hints) = Hints hex.now pads.now irq clocks hints.now
value_of (value.Why hex hints irq) = Why hex.now hints.now irq
