use Rattle.avr_asm.specs.Labels.{by_address}
use Rattle.avr_asm.proofs.LabelOrder.{does_not_fall, order_rises, order_keeps}
use Rattle.avr_asm.proofs.laws.labels_stay_in_order.Goals as goal

pub returns-clause-rising : goal.returns-clause-rising
returns-clause-rising c = λ labels. does_not_fall 0 (by_address labels) (order_rises labels)

pub returns-clause-stable : goal.returns-clause-stable
returns-clause-stable c = λ labels n. order_keeps n labels
