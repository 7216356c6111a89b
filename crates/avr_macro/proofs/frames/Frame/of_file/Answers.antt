use Rattle.avr_macro.proofs.Files.{at_least_none, file_begins, lines_numbered, lines_within}
use Rattle.avr_macro.proofs.frames.Frame.of_file.Goals as goal

pub returns : goal.returns
returns c = file_begins _ _ c.args.bytes.now _ _ _ c.count-end.ensures c.in_ok-body.ensures c.in_ok-lines.ensures.lines

pub invariant_of-result : goal.invariant_of-result
invariant_of-result c = record {
  turn = at_least_none _;
  order = at_least_none _;
  within = lines_within _ _ _ c.count-end.ensures c.in_ok-body.ensures;
  few_includes = c.requires.depth;
  few_blocks = at_least_none _;
  repeats = λ h. h;
  numbered = λ e. lines_numbered _ _ _ c.count-end.ensures c.in_ok-lines.ensures.few c.requires.short;
}
