-- What was interrupted is given back.
use Rattle.uz_check.proofs.Common.{eqb-true, not-true, and_parts, ◌≡◌, ℕ, ◌<◌, Bool, true, false, sym, ◌∙◌, ap, not, nat_eq, Val, Old, Bit}
use Rattle.uz_check.proofs.Common.{OldBit, Instance, bit_is_set, Core, register, value_at, flag_at, ValueHolds, FlagHolds, CoreMeets}
use Rattle.uz_check.proofs.Common.{depth_of, all_below, is_old, restored}
use Rattle.uz_rules.specs.Inside.{is_old_register}
use Rattle.uz_check.proofs.Fitting.{below_tells}

register_back : (r : ℕ) (v : Val) (o : Core) (x : ℕ) → is_old_register r v ≡ true → ValueHolds v o x → x ≡ register o r
register_back r (Old s) o x t h = h ∙ ap (register o) (sym (eqb-true r s t))
register_back r v o x t h = absurd cc

flag_back : (b : Bit) (before now : Bool) → is_old b ≡ true → FlagHolds b before now → now ≡ before
flag_back OldBit before now t h = h
flag_back b before now t h = absurd cc

pub record GivenBack (inst : Instance) (o core : Core) : Type 0 where
  pub registers : (r : ℕ) → r < 32 → register core r ≡ register o r
  pub flags : (k : ℕ) → k < 7 → bit_is_set core.sreg k ≡ bit_is_set o.sreg k
  pub slots : depth_of inst ≡ 0
  pub pending : inst.pending ≡ false

pub given_back : (inst : Instance) (o core : Core) → restored inst ≡ true → CoreMeets inst o core → GivenBack inst o core
given_back inst o core e h =
    let a = and_parts (nat_eq (depth_of inst) 0) _ e in
    let b = and_parts (not inst.pending) _ a.1 in
    let c = and_parts (all_below 7 (λ k. is_old (flag_at inst.flags k))) (all_below 32 (λ r. is_old_register r (value_at inst.regs r)))
    b.1 in
    record {
      registers = λ r few. register_back r (value_at inst.regs r) o (register core r)
          (below_tells 32 (λ r. is_old_register r (value_at inst.regs r)) c.1 r few) (h.regs r few);
      flags = λ k few. flag_back (flag_at inst.flags k) (bit_is_set o.sreg k) (bit_is_set core.sreg k)
          (below_tells 7 (λ k. is_old (flag_at inst.flags k)) c.0 k few) (h.flags k few);
      slots = eqb-true (depth_of inst) 0 a.0;
      pending = not-true inst.pending b.0;
    }
