use Rattle.uz_certificate_commands.proofs.WhyLemmas.{one_row}
use Rattle.uz_certificate_commands.proofs.why_law.reading_is_unique.Goals as goal

pub returns : goal.returns
returns c = λ image read other pc p q. one_row c.at_most_one.ensures _ _ (read pc) (other pc) (p pc) (q pc)
