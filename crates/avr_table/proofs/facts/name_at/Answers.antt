use Rattle.std.proofs.Common.{ℕ, List, Bor}
use Rattle.avr_table.proofs.RowLemmas.{of_place}
use Rattle.avr_table.proofs.facts.name_at.Goals as goal

pub returns : goal.returns
returns c = of_place (λ (name : Bor (List ℕ)). name.now) c.args.names.now c.args.place _
