use Rattle.std.proofs.Common.{◌≡◌, ◌*◌, ◌/◌, ◌%◌, ◌^◌, arith}
use Rattle.std.proofs.lemmas.Nat.{one_shl, and_mask}
use Rattle.avr_decode.proofs.fields.bits.Goals as goal

pub returns-clause-value : goal.returns-clause-value
returns-clause-value c =
    let e : 1 * 2 ^ c.args.width % 4294967296 ≡ 2 ^ c.args.width = one_shl c.args.width 32 (omega arith) in
    rw e (and_mask (c.args.word / 2 ^ c.args.low) c.args.width)
