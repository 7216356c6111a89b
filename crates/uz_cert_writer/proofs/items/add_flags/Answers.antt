use Rattle.uz_cert_writer.proofs.Common.{◌<◌, ◌+◌, ◌∷◌, [], length, drop, get_or, refl, arith, common_steps, codes, spaced, item, unless}
use Rattle.uz_cert_writer.proofs.Common.{flag_items}
use Rattle.uz_cert_writer.specs.Spelling.{flag_word, flag_item}
use Rattle.uz_cert_writer.proofs.Steps.{put, item_left}
use Rattle.uz_schedule.specs.{WellFormed.is_default_flag, declared.facts.Bit.TheVariants.Free}
use Rattle.uz_cert_writer.proofs.items.add_flags.Goals as goal

pub loop-b-preserved : goal.loop-b-preserved
loop-b-preserved c =
    let few : c.loop-b.b < length c.args.bits.now = omega (arith, c.loop-b-test.true, c.told-bits) in
    put c.loop-b.text.items c.add_flag.new.text.items
    (spaced (unless (is_default_flag c.args.kind (get_or c.args.bits.now c.loop-b.b Free))
    (item (get_or (codes "cznvsht") c.loop-b.b 0 ∷ []) (flag_word (get_or c.args.bits.now c.loop-b.b Free))) []))
    (spaced (flag_items c.args.kind (drop (c.loop-b.b + 1) (codes "cznvsht")) (drop (c.loop-b.b + 1) c.args.bits.now)))
    (spaced (flag_items c.args.kind (drop c.loop-b.b (codes "cznvsht")) (drop c.loop-b.b c.args.bits.now)))
    _
    (grind (arith, common_steps, c.in_ok-add_flag.ensures))
    (item_left (λ letter x. is_default_flag c.args.kind x) flag_item (codes "cznvsht") c.args.bits.now c.loop-b.b
    (get_or (codes "cznvsht") c.loop-b.b 0) 0 (get_or c.args.bits.now c.loop-b.b Free) Free c.loop-b-test.true few refl refl)
    c.loop-b.invariant
