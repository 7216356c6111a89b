use Rattle.std.proofs.Common.{refl}
use Rattle.avr_table.specs.declared.Instr.TheVariants as i
use Rattle.avr_text.specs.Fields.{field}
use Rattle.avr_text.specs.Instructions.{load}
use Rattle.avr_text.specs.declared.pointers.Pointer.TheVariants.{Y, Z}
use Rattle.avr_text.specs.declared.pointers.Step.TheVariants.{Increment, Decrement}
use Rattle.avr_text.proofs.RowTold.{pointer_told}
use Rattle.avr_text.proofs.instructions.load.Goals as goal

pub returns-in-Plain : goal.returns-in-Plain
returns-in-Plain c = pointer_told i.LdX (field 5) load _ _ c.ranges.d c.in-X.is c.in-Plain.is c.field.ensures refl

pub returns-in-Increment : goal.returns-in-Increment
returns-in-Increment c = pointer_told i.LdXInc (field 5) load _ _ c.ranges.d c.in-X.is c.in-Increment.is c.field-in-Increment.ensures refl

pub returns-in-Decrement : goal.returns-in-Decrement
returns-in-Decrement c = pointer_told i.LdXDec (field 5) load _ _ c.ranges.d c.in-X.is c.in-Decrement.is c.field-in-Decrement.ensures refl

pub returns-in-Increment-step : goal.returns-in-Increment-step
returns-in-Increment-step c =
    pointer_told i.LdYInc (field 5) load Y Increment c.ranges.d c.in-Y.is c.in-Increment-step.is c.field-in-Increment-step.ensures refl

pub returns-in-Decrement-step : goal.returns-in-Decrement-step
returns-in-Decrement-step c =
    pointer_told i.LdYDec (field 5) load Y Decrement c.ranges.d c.in-Y.is c.in-Decrement-step.is c.field-in-Decrement-step.ensures refl

pub returns-in-Increment-step-2 : goal.returns-in-Increment-step-2
returns-in-Increment-step-2 c =
    pointer_told i.LdZInc (field 5) load Z Increment c.ranges.d c.in-Z.is c.in-Increment-step-2.is c.field-in-Increment-step-2.ensures refl

pub returns-in-Decrement-step-2 : goal.returns-in-Decrement-step-2
returns-in-Decrement-step-2 c =
    pointer_told i.LdZDec (field 5) load Z Decrement c.ranges.d c.in-Z.is c.in-Decrement-step-2.is c.field-in-Decrement-step-2.ensures refl
