use Rattle.uz_certificate_commands.proofs.FindLawLemmas.{certify_found, find_certified}
use Rattle.uz_certificate_commands.proofs.find_law.find_is_certify.Goals as goal

pub returns-clause-certify : goal.returns-clause-certify
returns-clause-certify c = λ files hex source other name irq output flat answer h.
    certify_found files hex source other name irq output flat c.readings_are_unique.ensures answer h

pub returns-clause-find : goal.returns-clause-find
returns-clause-find c = λ files hex source other name irq output flat answer h.
    find_certified files hex source other name irq output flat c.expansion_is_unique.ensures c.readings_are_unique.ensures answer h
