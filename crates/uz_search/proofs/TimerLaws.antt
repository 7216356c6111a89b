-- OCR1A stays the last clock of a line, and outside handlers nothing becomes known of the timer.
use Rattle.uz_search.proofs.Common.{◌≡◌, ◌≢◌, ℕ, ◌+◌, ◌-◌, ◌*◌, Option, None, Bool, true, false, not, ◌&&◌, nat_eq, refl, ap, if◌then◌else◌}
use Rattle.uz_search.proofs.Common.{true≢false, arith, nat_tests, AddressMode, Effect, NoOperation, Load, Store, Ends, is_length, is_top}
use Rattle.uz_search.proofs.Common.{Head, Kind, Main, Handler, Alone, Instance, is_single, Fail, is_handler, address_range, fail_of}
use Rattle.uz_search.proofs.Common.{flag_fails, mask_fails, may_store, refuse_if, span_of, value_at}
use Rattle.uz_transfer.specs.Refusals.{io_fails, is_setup_register, top_fails}
use Rattle.uz_transfer.specs.Timer.{temp_after, temp_loaded, top_after}
use Rattle.uz_transfer.specs.declared.fail.Fail.TheVariants as why

-- Lines

-- a line's last clock
pub last_clock : (n : ℕ) → is_length n ≡ true → is_top (n - 1) ≡ true
last_clock n e = grind (arith, nat_tests)

-- Stores

pub refused : (b : Bool) (reason : Fail) (later : Option Fail) → refuse_if b reason later ≡ None → (b ≡ false) × (later ≡ None)
refused true reason later h = cc
refused false reason later h = (refl, h)

-- a store that isn't refused isn't so for its address among the I/O registers
io_fine : (head : Head) (to : AddressMode) (r : ℕ) (x : Instance) → fail_of head (Store to r) x ≡ None
    → (is_single (address_range to x) && io_fails x (address_range to x).lo (value_at x.regs r)) ≡ false
io_fine head to r x fine =
    let a = address_range to x in
    let v = value_at x.regs r in
    let flag = refused (is_single a && flag_fails x.kind a.lo v) why.Flag _ fine in
    let mask = refused (is_single a && mask_fails x.kind a.lo v) why.Mask _ flag.1 in
    let may = refused (not (may_store head x.kind a v)) why.Store _ mask.1 in
    (refused (is_single a && io_fails x a.lo v) why.Io _ may.1).0

-- where a handler's store to OCR1AL isn't refused, what it gives is a line's last clock
is_last : (temp value : Ends) → not (is_single temp && (is_single value && is_top (temp.lo * 256 + value.lo))) ≡ false
    → is_top (temp.lo * 256 + value.lo) ≡ true
is_last temp value h = by (is_single temp) (is_single value) (is_top (temp.lo * 256 + value.lo)) h
  where
    by : (a b c : Bool) → not (a && (b && c)) ≡ false → c ≡ true
    by true true true h = refl
    by true true false h = absurd (true≢false h)
    by true false c h = absurd (true≢false h)
    by false b c h = absurd (true≢false h)

pub top_stays : (head : Head) (e : Effect) (x : Instance) → fail_of head e x ≡ None → is_top x.top ≡ true → is_top (top_after e x) ≡ true
top_stays head (Store to r) x fine top =
    by (is_handler x.kind) (is_single (address_range to x)) (nat_eq (address_range to x).lo 0x88) (io_fine head to r x fine)
  where
    a : Ends
    a = address_range to x

    value : Ends
    value = span_of (value_at x.regs r)

    by : (handler single here : Bool)
        → (single && (if handler && here then top_fails x (value_at x.regs r) else if handler && nat_eq a.lo 0x89 then false else
        is_setup_register a.lo)) ≡ false
        → is_top (if handler && (single && here) then x.temp.lo * 256 + value.lo else x.top) ≡ true
    by true true true h = is_last x.temp value h
    by true true false h = top
    by true false here h = top
    by false single here h = top
top_stays head NoOperation x fine top = top
top_stays head e x fine top = top

-- Outside handlers

pub handler_not : (k : Kind) → k ≢ Handler → is_handler k ≡ false
handler_not Handler h = absurd (h refl)
handler_not Main h = refl
handler_not Alone h = refl

pub top_kept : (e : Effect) (x : Instance) → x.kind ≢ Handler → top_after e x ≡ x.top
top_kept (Store to r) x other =
    ap (λ b. if b && (is_single (address_range to x) && nat_eq (address_range to x).lo 0x88) then x.temp.lo * 256
    + (span_of (value_at x.regs r)).lo else x.top) (handler_not x.kind other)
top_kept NoOperation x other = refl
top_kept e x other = refl

pub temp_kept : (sampled : ℕ) (e : Effect) (x : Instance) → x.kind ≢ Handler → temp_after sampled e x ≡ x.temp
temp_kept sampled (Load d from) x other =
    ap (λ b. if b then temp_loaded sampled (address_range from x) x.temp else x.temp) (handler_not x.kind other)
temp_kept sampled (Store to r) x other =
    ap (λ b. if b && (is_single (address_range to x) && nat_eq (address_range to x).lo 0x89) then span_of (value_at x.regs r) else x.temp)
    (handler_not x.kind other)
temp_kept sampled NoOperation x other = refl
temp_kept sampled e x other = refl
