-- What the program keeps of a row: its place, its words, and its clocks by outcome.
use Rattle.avr_table.specs.Places.{place_of}
use Rattle.avr_table.specs.Rows.{clocks_of, words_of}
use Rattle.avr_table.specs.declared.Instr.{Instr}
use Rattle.avr_table.specs.declared.Outcome.TheVariants.{Next, Taken, SkipOne, SkipTwo}
use Rattle.avr_table.specs.declared.facts.RowFacts.{RowFacts}

abbrev pub row_facts : Instr → RowFacts
row_facts i = record {
  place = place_of i;
  words = words_of i;
  next = clocks_of i Next;
  taken = clocks_of i Taken;
  skip_one = clocks_of i SkipOne;
  skip_two = clocks_of i SkipTwo;
}
