-- What `help` and `version` print, and the line that tells the commands.
use Rattle.std.specs.Prelude.{ℕ, List, [], ◌∷◌, ◌++◌, codes, bytes_eq, Option, Some, None, if◌then◌else◌}

-- what is told of a command: its first word, all its words, what it does, and then lines of its files and its statuses
pub record Topic : Type 0 where
  pub name : List ℕ
  pub words : List ℕ
  pub does : List ℕ
  pub more : List ℕ

-- what is told of each command, in one order everywhere
abbrev pub topics : List Topic
topics =
    record {
      name = codes "asm";
      words = codes "asm SRC HEX";
      does = codes "assembles a source and writes the HEX file";
      more = codes "reads SRC, a flat source; writes HEX\n0 done, 2 SRC not read, 3 a fault in SRC, 5 not written, 8 no memory\n";
    }
    ∷ record {
      name = codes "dis";
      words = codes "dis HEX";
      does = codes "prints a listing";
      more = codes "reads HEX; writes no file\n0 done, 2 HEX not read, 3 a fault in HEX, 5 not written, 8 no memory\n";
    }
    ∷ record {
      name = codes "trace";
      words = codes "trace HEX PADS IRQ CLOCKS";
      does = codes "runs from reset, prints each sync edge, pixel, sound, interrupt and return";
      more = codes "reads HEX, PADS; writes no file; IRQ is 4 or 5, CLOCKS 1 to 1000000000\n0 done, 2 a file not read, 3 a fault in a file, 5 not written, 6 the run stopped, 8 no memory\n";
    }
    ∷ record {
      name = codes "certify";
      words = codes "certify SRC IRQ HEX CERT";
      does = codes "assembles a flat source, finds a certificate by its hints, writes both";
      more = codes "reads SRC; writes HEX, CERT; IRQ is 4 or 5\n0 done, 2 SRC not read, 3 a fault in SRC, 4 refused, 5 not written, 8 no memory\n";
    }
    ∷ record {
      name = codes "check";
      words = codes "check HEX CERT";
      does = codes "says whether the image keeps the certificate's schedule";
      more = codes "reads HEX, CERT; writes no file\n0 accepted, 2 a file not read, 3 a fault in a file, 4 refused, 5 not written, 8 no memory\n";
    }
    ∷ record {
      name = codes "play";
      words = codes "play HEX CERT PADS CLOCKS FRAMES";
      does = codes "checks, runs from reset, and writes the run's picture";
      more = codes "reads HEX, CERT, PADS; writes FRAMES; CLOCKS is 1 to 1000000000\n0 done, 2 a file not read, 3 a fault in a file, 4 refused, 5 not written,\n6 the run stopped, 7 the run never entered, 8 no memory\n";
    }
    ∷ record {
      name = codes "demo";
      words = codes "demo NUMBER";
      does = codes "certifies a generated kernel, and runs it for three frames' time";
      more = codes "reads and writes no file; NUMBER is 0 to 65535\n0 done, 4 refused, 5 not written, 6 the run stopped, 7 the run never entered, 8 no memory\n";
    }
    ∷ record {
      name = codes "migrate";
      words = codes "migrate OLD NEW";
      does = codes "writes a certificate of the older text, version 1, in version 2";
      more = codes "reads OLD; writes NEW\n0 done, 2 OLD not read, 3 a fault in OLD, 5 not written, 8 no memory\n";
    }
    ∷ record {
      name = codes "expand";
      words = codes "expand SRC FLAT";
      does = codes "expands macros, blocks and included files, and writes the flat source";
      more = codes "reads SRC and the files that it includes; writes FLAT\n0 done, 2 a file not read, 3 a fault in a file, 5 not written, 8 no memory\n";
    }
    ∷ record {
      name = codes "build";
      words = codes "build SRC HEX";
      does = codes "expands a source, assembles it, and writes the HEX file";
      more = codes "reads SRC and the files that it includes; writes HEX\n0 done, 2 a file not read, 3 a fault in a file, 5 not written, 8 no memory\n";
    }
    ∷ record {
      name = codes "debug";
      words = codes "debug HEX PADS IRQ SCRIPT";
      does = codes "runs from reset as a script says, on and back, with breakpoints";
      more = codes "reads HEX, PADS, SCRIPT; writes no file; IRQ is 4 or 5\n0 done, 2 a file not read, 3 a fault in a file, 5 not written, 8 no memory\n";
    }
    ∷ record {
      name = codes "report";
      words = codes "report HEX CERT";
      does = codes "checks, and says how many clocks the main program has";
      more = codes "reads HEX, CERT; writes no file\n0 done, 2 a file not read, 3 a fault in a file, 4 refused, 5 not written, 8 no memory\n";
    }
    ∷ record {
      name = codes "wave";
      words = codes "wave HEX PADS IRQ CLOCKS WAV";
      does = codes "runs from reset, and writes the run's sound, one sample a line";
      more = codes "reads HEX, PADS; writes WAV; IRQ is 4 or 5, CLOCKS 1 to 1000000000\n0 done, 2 a file not read, 3 a fault in a file, 5 not written, 6 the run stopped, 8 no memory\n";
    }
    ∷ record {
      name = codes "help";
      words = codes "help [COMMAND]";
      does = codes "prints what each command does, or the words, files and statuses of one";
      more = codes "reads and writes no file\n0 done, 5 not written, 8 no memory\n";
    }
    ∷ record {
      name = codes "version";
      words = codes "version";
      does = codes "prints the release, and the toolchain that it is proved with";
      more = codes "reads and writes no file\n0 done, 5 not written, 8 no memory\n";
    }
    ∷ record {
      name = codes "find";
      words = codes "find HEX HINTS IRQ CERT";
      does = codes "finds a certificate of an image by hints beside it, and writes it";
      more = codes "reads HEX, HINTS and the files that it includes; writes CERT; IRQ is 4 or 5\n0 done, 2 a file not read, 3 a fault in a file, 4 refused, 5 not written, 8 no memory\n";
    }
    ∷ record {
      name = codes "timing";
      words = codes "timing HEX CERT";
      does = codes "checks, and says what the schedule is beside NTSC's";
      more = codes "reads HEX, CERT; writes no file\n0 done, 2 a file not read, 3 a fault in a file, 4 refused, 5 not written, 8 no memory\n";
    }
    ∷ record {
      name = codes "hints";
      words = codes "hints HEX PADS IRQ CLOCKS HINTS";
      does = codes "runs from reset, and writes hints for find by what the run shows";
      more = codes "reads HEX, PADS; writes HINTS; IRQ is 4 or 5, CLOCKS 1 to 1000000000\n0 done, 2 a file not read, 3 a fault in a file, 4 no hints, 5 not written, 8 no memory\n";
    }
    ∷ record {
      name = codes "why";
      words = codes "why HEX HINTS IRQ";
      does = codes "searches as find does, and if it finds none says how the refusal comes about";
      more = codes "reads HEX, HINTS and the files that it includes; writes no file; IRQ is 4 or 5\n0 accepted, 2 a file not read, 3 a fault in a file, 4 refused, 5 not written, 8 no memory\n";
    }
    ∷ []

-- a command's words, and below them what it does
abbrev pub head_of : Topic → List ℕ
head_of topic = topic.words ++ codes "\n    " ++ topic.does ++ codes "\n"

abbrev pub heads : List Topic → List ℕ
heads [] = []
heads (topic ∷ rest) = head_of topic ++ heads rest

-- what `help` prints
abbrev pub help_text : List ℕ
help_text = heads topics

-- what it prints of the command of that name
abbrev pub text_in : List ℕ → List Topic → Option (List ℕ)
text_in name [] = None
text_in name (topic ∷ rest) = if bytes_eq name topic.name then Some (head_of topic ++ topic.more) else text_in name rest

abbrev pub text_of : List ℕ → Option (List ℕ)
text_of name = text_in name topics

-- what `version` prints: the release, and the toolchain's own line
abbrev pub version_text : List ℕ
version_text = codes "uzebox 1.0\nproved with rattle-kit-13f logic dac8208d650f15bf\n"

abbrev pub names_from : List Topic → List ℕ
names_from [] = codes "\n"
names_from (topic ∷ rest) = codes ", " ++ topic.name ++ names_from rest

-- the line that is printed where the words are no command
abbrev pub usage_from : List Topic → List ℕ
usage_from [] = []
usage_from (topic ∷ rest) = codes "usage: uzebox " ++ topic.name ++ names_from rest

abbrev pub usage_line : List ℕ
usage_line = usage_from topics
