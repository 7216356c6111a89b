-- Printed text in memory.
use Rattle.std.specs.Prelude.{ℕ, List}
use Rattle.uzebox_c.specs.declared.printed.Printed.{Printed}

-- the text so far
abbrev pub text_of : Printed → List ℕ
text_of printed = printed.text.items
