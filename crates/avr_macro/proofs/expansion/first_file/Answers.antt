use Rattle.avr_macro.proofs.Runs.{few_bytes, first_unloaded}
use Rattle.avr_macro.proofs.expansion.first_file.Goals as goal

pub new-requires : goal.new-requires
new-requires g c = few_bytes _ _ _ c.as_slice.ensures.value c.in-Ok.bytes.ok.0 c.in-Ok.ensures.limit

pub returns-clause-fails : goal.returns-clause-fails
returns-clause-fails g c = first_unloaded _ _ _ _ _ c.why_unloaded.ensures c.in-Err.ensures.failed c.in-Err.ensures.too_long
