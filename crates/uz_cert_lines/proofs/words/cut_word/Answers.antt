use Rattle.uz_cert_lines.proofs.Cutting.{next_cut, last_cut}
use Rattle.uz_cert_lines.proofs.words.cut_word.Goals as goal

pub returns-in-Some : goal.returns-in-Some
returns-in-Some c = next_cut c.args.line.now c.in-Some.word.now c.in-Some.rest.now c.in-Some.ensures

pub returns-in-None : goal.returns-in-None
returns-in-None c = last_cut c.args.line.now c.in-None.ensures
