-- The directives, by their names in either case.
use Rattle.std.specs.Prelude.{ℕ, List, codes, Option, Some, None, if◌then◌else◌}
use Rattle.avr_text.specs.Words.{is_word_named}
use Rattle.avr_asm.specs.declared.directives.Directive.{Directive}
use Rattle.avr_asm.specs.declared.directives.Directive.TheVariants.{Org, Db, Dw, Equ, Start, Lines, Half, Stack, Cell, Fact}

abbrev pub directive_of : List ℕ → Option Directive
directive_of word =
    if is_word_named word (codes "org") then Some Org
    else if is_word_named word (codes "db") then Some Db
    else if is_word_named word (codes "dw") then Some Dw
    else if is_word_named word (codes "equ") then Some Equ
    else if is_word_named word (codes "start") then Some Start
    else if is_word_named word (codes "lines") then Some Lines
    else if is_word_named word (codes "half") then Some Half
    else if is_word_named word (codes "stack") then Some Stack
    else if is_word_named word (codes "cell") then Some Cell
    else if is_word_named word (codes "fact") then Some Fact
    else None
