use Rattle.std.proofs.Common.{inl, inr, arith}
use Rattle.std.proofs.lemmas.Bool.{cases_lt}
use Rattle.uz_scan.proofs.sampler.set_all.Goals as goal

pub returns-clause-after : goal.returns-clause-after
returns-clause-after c =
    λ i h.
    elim (cases_lt i c.args.from) [
      | inl below ↦ c.loop-k.invariant.others i below
      | inr above ↦ elim (cases_lt c.args.to c.args.from) [
        | inl empty ↦ c.loop-k.invariant.later i (let e = c.loop-k.invariant.still empty in omega arith)
        | inr some ↦ c.loop-k.invariant.later i (let e = c.loop-k.auto.k-end some in omega arith)
      ]
    ]
