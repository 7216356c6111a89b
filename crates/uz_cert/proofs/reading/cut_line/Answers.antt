use Rattle.uz_cert.proofs.Pieces.{next_piece, last_piece, rest_shorter}
use Rattle.uz_cert.proofs.reading.cut_line.Goals as goal

pub returns-in-Some-clause-pieces : goal.returns-in-Some-clause-pieces
returns-in-Some-clause-pieces c = next_piece c.args.text.now c.in-Some.line.now c.in-Some.rest.now c.in-Some.ensures

pub returns-in-Some-clause-fewer : goal.returns-in-Some-clause-fewer
returns-in-Some-clause-fewer c = rest_shorter c.args.text.now c.in-Some.line.now c.in-Some.rest.now c.in-Some.ensures

pub returns-in-None-clause-pieces : goal.returns-in-None-clause-pieces
returns-in-None-clause-pieces c = last_piece c.args.text.now c.in-None.ensures
