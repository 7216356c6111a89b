use Rattle.uz_check.proofs.Common.{refl, EntryRefusal, sym, ◌∙◌}
use Rattle.uz_check.proofs.FrameTold.{entry_tells, entry_told}
use Rattle.uz_check.proofs.entering.entry_refusal.Goals as goal

pub returns-then-entry_passes : goal.returns-then-entry_passes
unfolding EntryRefusal
returns-then-entry_passes c = entry_tells c.args.cert.now (sym c.entry_passes.ensures ∙ c.if-entry_passes.true)

pub returns-else-entry_passes : goal.returns-else-entry_passes
unfolding EntryRefusal
returns-else-entry_passes c = (
  λ passes. let e = sym (entry_told c.args.cert.now passes)
      ∙ (sym c.entry_passes.ensures ∙ c.if-entry_passes.false) in cc e,
  refl,
)
