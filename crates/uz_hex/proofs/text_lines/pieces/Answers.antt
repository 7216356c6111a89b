use Rattle.std.proofs.Common.{eqb, rules}
use Rattle.std.proofs.lemmas.Iterator.Consumers.{map_from_collect}
use Rattle.std.proofs.lemmas.Iterator.Splits.{YieldsList-from_slice_split}
use Rattle.uz_hex.proofs.text_lines.pieces.Goals as goal

pub returns-clause-pieces : goal.returns-clause-pieces
returns-clause-pieces c = map_from_collect _ c.collect.ensures.ran (YieldsList-from_slice_split _ (λ b. eqb b 10) c.args.text.now
    c.split.ensures.rest c.split.ensures.done c.split.ensures.closure (search rules))
