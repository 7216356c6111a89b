-- What joining points leaves of a certificate.
use Rattle.std.specs.Prelude.{◌≡◌, map}
use Rattle.uz_schedule.specs.declared.states.Entry.{Entry}
use Rattle.uz_schedule.specs.declared.states.Rest.{Rest}
use Rattle.uz_schedule.specs.declared.certificate.Cert.{Cert}

-- a rest and an entry without the number of their point
abbrev pub rest_unnumbered : Rest → Rest
rest_unnumbered rest = record rest { vector = 0 }

abbrev pub entry_unnumbered : Entry → Entry
entry_unnumbered entry = record entry { id = 0 }

-- header and schedule are the same, and so are entry and rests but for the numbers of their points
pub record SameButPoints (a b : Cert) : Type 0 where
  pub head : a.head ≡ b.head
  pub schedule : a.schedule ≡ b.schedule
  pub entry : entry_unnumbered a.entry ≡ entry_unnumbered b.entry
  pub rests : map rest_unnumbered a.rests ≡ map rest_unnumbered b.rests
