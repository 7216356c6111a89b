use Rattle.avr_text.proofs.Stacks.{room_left}
use Rattle.avr_text.proofs.operator_stack.Stack.pop.Goals as goal

pub returns-clause-room : goal.returns-clause-room
returns-clause-room c = room_left _ _ c.pop.result c.self.invariant c.pop.ensures.items c.pop.ensures.variant
