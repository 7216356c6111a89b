use Rattle.avr_text.proofs.FieldLemmas.{same_field, value_is}
use Rattle.avr_text.proofs.fields.field.Goals as goal

pub returns : goal.returns
returns g c = same_field _ _ _ (value_is _ _ _ c.requires c.ranges.number c.rem_euclid-value.ensures.value)
