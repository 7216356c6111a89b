-- The timer of version 1: OCR1A is the last clock of each line, and TEMP may be any byte.
use Rattle.uz_check.proofs.Common.{and_parts, and_from, or_left, or_right, ◌≡◌, ℕ, suc, ◌+◌, ◌-◌, ◌*◌, Bool, true, false, List, refl, sym}
use Rattle.uz_check.proofs.Common.{◌∙◌, ap, ◌&&◌, not, nat_eq, None, if◌then◌else◌, eq-eqb, returns_from_interrupt, Effect, Store, Ends}
use Rattle.uz_check.proofs.Common.{whole_byte, uniform, scanline, Head, Instance, Exit, keeps_time, sets_ahead, returns_with_top}
use Rattle.uz_check.proofs.Common.{is_in_time, clock_holds, is_handler, address_range, fail_of, handler_stores, stores_top, span_of}
use Rattle.uz_check.proofs.Common.{value_at, is_single}
use Rattle.uz_check.proofs.LocalTells.{unrefused}
use Rattle.uz_schedule.specs.Limits.{is_top}
use Rattle.uz_transfer.specs.Refusals.{io_fails, is_setup_register, top_fails}
use Rattle.uz_check.proofs.OldRules.{each_true}
use Rattle.uz_transfer.specs.declared.fail.Fail.TheVariants as fail

clash : (b : Bool) → b ≡ false → b ≡ true → true ≡ false
clash true p q = p
clash false p q = sym q

-- a store to OCR1AL is refused, since TEMP isn't known
top_unstored : (head : Head) (e : Effect) (inst : Instance) → inst.temp ≡ whole_byte → fail_of head e inst ≡ None → stores_top e inst
    ≡ false
top_unstored head (Store to r) inst temp none = by_test (handler_stores 0x88 to inst) refl
  where
    by_test : (b : Bool) → handler_stores 0x88 to inst ≡ b → b ≡ false
    by_test false e = refl
    by_test true e =
        let a = address_range to inst in
        let v = value_at inst.regs r in
        let handler = and_parts (is_handler inst.kind) _ e in
        let place = and_parts (is_single a) _ handler.1 in
        let first = unrefused _ fail.Flag _ (sym none) in
        let second = unrefused _ fail.Mask _ first.1 in
        let third = unrefused _ fail.Store _ second.1 in
        let fourth = unrefused (is_single a && io_fails inst a.lo v) fail.Io _ third.1 in
        let top : top_fails inst v ≡ true =
        ap (λ (t : Ends). not (is_single t && (is_single (span_of v) && is_top (t.lo * 256 + (span_of v).lo)))) temp in
        let io : io_fails inst a.lo v ≡ true =
        ap (λ t. if t then top_fails inst v else (if is_handler inst.kind && nat_eq a.lo 0x89 then false else is_setup_register a.lo))
        (and_from (is_handler inst.kind) (nat_eq a.lo 0x88) handler.0 place.1) ∙ top in
        clash (is_single a && io_fails inst a.lo v) fourth.0 (and_from (is_single a) (io_fails inst a.lo v) place.0 io)
top_unstored head e inst temp none = refl

pub timer_in_time : (head : Head) (e : Effect) (inst : Instance) (exits : List Exit) (n : ℕ) → inst.top ≡ scanline - 1
    → inst.temp ≡ whole_byte → fail_of head e inst ≡ None → clock_holds (uniform n) e inst exits ≡ true
timer_in_time head e inst exits n top temp none =
    or_right (not (is_handler inst.kind)) _ (each_true (λ exit. is_in_time (uniform n) e inst exit) exits in_time)
  where
    last : nat_eq (suc inst.top) scanline ≡ true
    last = eq-eqb (suc inst.top) scanline (ap suc top)

    in_time : (exit : Exit) → is_in_time (uniform n) e inst exit ≡ true
    in_time exit =
        let keeps : keeps_time (uniform n) inst exit ≡ true = or_left (nat_eq (suc inst.top) scanline) _ last in
        let ahead : sets_ahead (uniform n) e inst exit ≡ true =
        or_left (not (stores_top e inst)) _ (ap not (top_unstored head e inst temp none)) in
        let returns : returns_with_top (uniform n) e inst exit ≡ true = or_right (not (returns_from_interrupt e)) _ last in
        and_from (keeps_time (uniform n) inst exit) _ keeps (and_from (sets_ahead (uniform n) e inst exit) _ ahead returns)
