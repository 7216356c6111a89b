use Rattle.std.proofs.Common.{◌-◌, ◌<◌, ◌≡◌, arith, length, refl, suc}
use Rattle.std.specs.BTreeMap.{get}
use Rattle.std.specs.Ordering.{nat_cmp}
use Rattle.avr_asm.specs.declared.output.Hint.TheVariants.{Start}
use Rattle.uz_schedule.specs.declared.kinds.Kind.TheVariants.{Main}
use Rattle.uz_search.specs.Widened.{facts_in}
use Rattle.uz_paths.specs.ProgramOf.{hint_facts, facts_for}
use Rattle.uz_paths.proofs.ProgramLemmas.{fact_at, facts_before}
use Rattle.uz_paths.proofs.program.facts_of.Goals as goal

pub put_hint-requires : goal.put_hint-requires
put_hint-requires c =
    fact_at c.args.hints.now (c.each.left - 1) (Start Main 0) c.requires (omega (arith, c.each.invariant.few, c.each-test.true))

pub each-preserved : goal.each-preserved
each-preserved c =
    let within : c.each.left - 1 < length c.args.hints.now = omega (arith, c.each.invariant.few, c.each-test.true) in
    let next : c.each.left ≡ suc (c.each.left - 1) = omega (arith, c.each-test.true) in
    record {
      few = omega (arith, c.each.invariant.few);
      kept = λ pc. facts_before (hint_facts pc) (facts_for pc) (λ h hs. refl) c.args.hints.now c.each.left (c.each.left - 1) (Start Main 0)
          (facts_in (get nat_cmp c.each.facts pc)) (facts_in (get nat_cmp c.put_hint.new.facts pc)) next within
          (c.in_ok-put_hint.ensures pc) (c.each.invariant.kept pc);
    }
