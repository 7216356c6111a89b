use Rattle.std.proofs.Common.{inl, inr, refl, ◌⊎◌, ◌≡◌}
use Rattle.uz_schedule.specs.Schedule.{response_clocks}
use Rattle.uz_schedule.specs.declared.kinds.Response.{Response}
use Rattle.uz_schedule.specs.declared.kinds.Response.TheVariants.{Four, Five}
use Rattle.uz_core.proofs.StateKept.{reset_is_state}
use Rattle.uz_console.proofs.laws.reset_is_in_range.Goals as goal

four_or_five : (irq : Response) → (response_clocks irq ≡ 4) ⊎ (response_clocks irq ≡ 5)
four_or_five Four = inl refl
four_or_five Five = inr refl

pub returns : goal.returns
returns c = λ image pairs irq flash. reset_is_state image pairs (response_clocks irq) flash (four_or_five irq)
