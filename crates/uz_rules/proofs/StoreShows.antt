-- The events that a store shows, and the level of sync after it, are what the abstract store emits.
use Rattle.uz_rules.proofs.Common.{◌≡◌, ◌≢◌, inl, inr, ℕ, zero, suc, ◌+◌, ◌-◌, ◌%◌, ◌^◌, ◌<◌, Bool, true, false, if◌then◌else◌, nat_eq}
use Rattle.uz_rules.proofs.Common.{Option, Some, None, List, [], ◌∷◌, ◌++◌, length, refl, sym, ◌∙◌, ap, subst, arith, ◌||◌, ◌&&◌, ◌==◌}
use Rattle.uz_rules.proofs.Common.{filter_map, AllByRecursion, eqb_tells, nat_tests, bit_at_lowest, Byte, BitCall, EdgeKind, SyncEdge}
use Rattle.uz_rules.proofs.Common.{PixelEdge, SoundEdge, bit_is_set, with_bit, PadWiring, Space, plain_byte, byte_at, after_byte}
use Rattle.uz_rules.proofs.Common.{after_store, takes_one_bit, sync_level, edge_kinds, Bit, Zero, One, Val, EventKind, Sync, Pixel, Sound}
use Rattle.uz_rules.proofs.Common.{IsWithin, Admits, bst_answer, bst_covers, span_of, level_event, toggle_event, byte_event, bit_event}
use Rattle.uz_rules.proofs.Common.{level_after, bit_of_bool, event_of, IsNoEntry, bit_of_with_bit, and_right, same_Some, is_store}
use Rattle.uz_rules.proofs.SpaceStores.{level_other, level_stored, level_toggled}

abbrev pub kinds_listed : Option EventKind → List EventKind
kinds_listed None = []
kinds_listed (Some kind) = kind ∷ []

-- edges that show an event or nothing, and the level after them
pub record Shows (kinds : List EdgeKind) (old new : ℕ) (emitted : Option EventKind) : Type 0 where
  pub events : filter_map event_of kinds ≡ kinds_listed emitted
  pub level : new ≡ level_after emitted old
  pub calm : AllByRecursion IsNoEntry kinds

-- the edges of one store, by what they look at
abbrev kinds_by : ℕ → ℕ → Bool → ℕ → Bool → ℕ → List EdgeKind
kinds_by old new pixel p sound v =
    (if old == new then [] else SyncEdge new ∷ []) ++ (if pixel then PixelEdge p ∷ [] else []) ++ (if sound then SoundEdge v ∷ [] else [])

abbrev sync_event : ℕ → ℕ → Option EventKind
sync_event old new = if nat_eq old new then None else Some (Sync new)

by_sync : (old new p v : ℕ) → Shows (kinds_by old new false p false v) old new (sync_event old new)
by_sync old new p v =
    elim (eqb_tells old new) [
      | inl t ↦ rw t.0 (record { events = refl; level = sym t.1; calm = tt })
      | inr t ↦ rw t.0 (record { events = refl; level = refl; calm = (tt, tt) })
    ]

by_pixel : (old new p v : ℕ) → new ≡ old → Shows (kinds_by old new true p false v) old new (Some Pixel)
by_pixel old new p v e =
    let t : nat_eq old new ≡ true = grind (arith, nat_tests) in
    rw t (record { events = refl; level = e; calm = (tt, tt) })

by_sound : (old new p v : ℕ) → new ≡ old → Shows (kinds_by old new false p true v) old new (Some Sound)
by_sound old new p v e =
    let t : nat_eq old new ≡ true = grind (arith, nat_tests) in
    rw t (record { events = refl; level = e; calm = (tt, tt) })

by_none : (old new : ℕ) (pixel : Bool) (p : ℕ) (sound : Bool) (v : ℕ) → new ≡ old → pixel ≡ false → sound ≡ false
    → Shows (kinds_by old new pixel p sound v) old new None
by_none old new pixel p sound v e f g =
    let t : nat_eq old new ≡ true = grind (arith, nat_tests) in
    rw (f, g, t) (record { events = refl; level = e; calm = tt })

-- what is known of a level tells its event

low_bit : (v : ℕ) (b : Bool) → bit_is_set v 0 ≡ b → v % 2 ≡ (if b then 1 else 0)
low_bit v true e = let l = bit_at_lowest v in grind (arith, nat_tests)
low_bit v false e = let l = bit_at_lowest v in grind (arith, nat_tests)

stored_event : (level : ℕ) (b : Bit) (v : ℕ) (emitted : Option EventKind) → Admits b (Some (bit_is_set v 0)) → level_event level b ≡ Some
    emitted → emitted ≡ sync_event level (v % 2)
stored_event level Zero v emitted a e = let n : v % 2 ≡ 0 = low_bit v false (cc) in rw n (sym (same_Some _ _ e))
stored_event level One v emitted a e = let n : v % 2 ≡ 1 = low_bit v true (cc) in rw n (sym (same_Some _ _ e))
stored_event level b v emitted a e = absurd cc

toggled_event : (level : ℕ) (b : Bit) (v : ℕ) (emitted : Option EventKind) → level < 2 → Admits b (Some (bit_is_set v 0))
    → toggle_event level b ≡ Some emitted → emitted ≡ sync_event level ((level + v % 2) % 2)
toggled_event level Zero v emitted h a e =
    let n : v % 2 ≡ 0 = low_bit v false (cc) in
    let s : nat_eq level ((level + v % 2) % 2) ≡ true = (let i : (level + v % 2) % 2 ≡ level = omega arith in grind (arith, nat_tests)) in
    rw s (sym (same_Some _ _ e))
toggled_event level One v emitted h a e =
    let n : v % 2 ≡ 1 = low_bit v true (cc) in
    let i : (level + v % 2) % 2 ≡ 1 - level = omega arith in
    let s : nat_eq level (1 - level) ≡ false = (let j : level ≢ 1 - level = (λ q. omega (arith, q)) in grind (arith, nat_tests)) in
    rw (i, s) (sym (same_Some _ _ e))
toggled_event level b v emitted h a e = absurd cc

-- A byte is stored

abbrev ByteShows : {P : Type 0} → PadWiring P → Space P → ℕ → ℕ → ℕ → Option EventKind → Type 0
ByteShows w s level v at emitted = Shows (edge_kinds (Byte at v) s (after_byte w at v s)) level (sync_level (after_byte w at v s)) emitted

pub byte_shows : {P : Type 0} (w : PadWiring P) (s : Space P) (at v level : ℕ) (val : Val) (emitted : Option EventKind)
    → length s.bytes ≡ 4352 → sync_level s ≡ level → IsWithin v (span_of val)
    → byte_event level val at ≡ Some emitted → ByteShows w s level v at emitted
byte_shows {P} w s at v level val emitted size is within e = by_case (nat_eq at 0x23) (nat_eq at 0x25) (nat_eq at 0x26) (nat_eq at 0x28)
    (nat_eq at 0xB3) refl refl refl refl refl e
  where
    low : level < 2
    low = omega (arith, is)

    by_case : (a b c d f : Bool) → nat_eq at 0x23 ≡ a → nat_eq at 0x25 ≡ b → nat_eq at 0x26 ≡ c → nat_eq at 0x28 ≡ d → nat_eq at 0xB3 ≡ f
        → (if a then toggle_event level (bst_answer (span_of val) 0) else if b then level_event level (bst_answer (span_of val) 0) else if c
        || d then Some (Some Pixel) else if f then Some (Some Sound) else Some None) ≡ Some emitted
        → ByteShows w s level v at emitted
    by_case true b c d f p q r t u e =
        let i : at ≡ 0x23 = grind (arith, nat_tests) in
        let new : sync_level (after_byte w 0x23 v s) ≡ (level + v % 2) % 2 = level_toggled w s v size ∙ ap (λ n. (n + v % 2) % 2) is in
        subst (λ a. ByteShows w s level v a emitted) (sym i)
        (rw (toggled_event level _ v emitted low (bst_covers (span_of val) 0 v within) e, is, new)
        (by_sync level ((level + v % 2) % 2) 0 0))
    by_case false true c d f p q r t u e =
        let i : at ≡ 0x25 = grind (arith, nat_tests) in
        let new : sync_level (after_byte w 0x25 v s) ≡ v % 2 = level_stored w s v size in
        subst (λ a. ByteShows w s level v a emitted) (sym i)
        (rw (stored_event level _ v emitted (bst_covers (span_of val) 0 v within) e, is, new) (by_sync level (v % 2) 0 0))
    by_case false false true d f p q r t u e =
        let i : at ≡ 0x26 = grind (arith, nat_tests) in
        let new : sync_level (after_byte w 0x26 v s) ≡ level = level_other w s 0x26 v (λ q. omega (arith, q)) (λ q. omega (arith, q))
        ∙ is in
        subst (λ a. ByteShows w s level v a emitted) (sym i)
        (rw (sym (same_Some _ _ e), is) (by_pixel level (sync_level (after_byte w 0x26 v s)) (plain_byte (after_byte w 0x26 v s) 0x28) 0
        new))
    by_case false false false true f p q r t u e =
        let i : at ≡ 0x28 = grind (arith, nat_tests) in
        let new : sync_level (after_byte w 0x28 v s) ≡ level = level_other w s 0x28 v (λ q. omega (arith, q)) (λ q. omega (arith, q))
        ∙ is in
        subst (λ a. ByteShows w s level v a emitted) (sym i)
        (rw (sym (same_Some _ _ e), is) (by_pixel level (sync_level (after_byte w 0x28 v s)) (plain_byte (after_byte w 0x28 v s) 0x28) 0
        new))
    by_case false false false false true p q r t u e =
        let i : at ≡ 0xB3 = grind (arith, nat_tests) in
        let new : sync_level (after_byte w 0xB3 v s) ≡ level = level_other w s 0xB3 v (λ q. omega (arith, q)) (λ q. omega (arith, q))
        ∙ is in
        subst (λ a. ByteShows w s level v a emitted) (sym i)
        (rw (sym (same_Some _ _ e), is) (by_sound level (sync_level (after_byte w 0xB3 v s)) 0 (plain_byte (after_byte w 0xB3 v s) 0xB3)
        new))
    by_case false false false false false p q r t u e =
        let new : sync_level (after_byte w at v s) ≡ level = level_other w s at v (λ i. grind (arith, nat_tests))
        (λ i. grind (arith, nat_tests)) ∙ is in
        rw (sym (same_Some _ _ e))
        (subst (λ l. Shows (kinds_by l (sync_level (after_byte w at v s)) (at == 0x28 || at == 0x26) (plain_byte (after_byte w at v s) 0x28)
        (at == 0xB3) (plain_byte (after_byte w at v s) 0xB3)) level (sync_level (after_byte w at v s)) None) (sym is)
        (by_none level (sync_level (after_byte w at v s)) (at == 0x28 || at == 0x26) (plain_byte (after_byte w at v s) 0x28) (at == 0xB3)
        (plain_byte (after_byte w at v s) 0xB3) new (grind (arith, nat_tests)) (grind (arith, nat_tests))))

-- A bit of a port is set or cleared

abbrev BitShows : {P : Type 0} → PadWiring P → Space P → ℕ → ℕ → Bool → ℕ → Option EventKind → Type 0
BitShows w s level b set at emitted = Shows (edge_kinds (BitCall at b set) s (after_store w (BitCall at b set) s)) level
    (sync_level (after_store w (BitCall at b set) s)) emitted

-- the level after bit b of PORTB is written
port_level : (x b : ℕ) (set : Bool) → b < 8 → with_bit b set x % 2 ≡ (if nat_eq b 0 then (if set then 1 else 0) else x % 2)
port_level x b set h =
    let e = bit_of_with_bit b 0 x set h (omega arith) in
    by_case (nat_eq 0 b) set refl e
  where
    by_case : (t v : Bool) → nat_eq 0 b ≡ t → bit_is_set (with_bit b v x) 0 ≡ (if t then v else bit_is_set x 0) → with_bit b v x %
        2 ≡ (if nat_eq b 0 then (if v then 1 else 0) else x % 2)
    by_case true true p e = let l = low_bit (with_bit b true x) true e in let q : nat_eq b 0 ≡ true = grind (arith, nat_tests) in rw q l
    by_case true false p e = let l = low_bit (with_bit b false x) false e in let q : nat_eq b 0 ≡ true = grind (arith, nat_tests) in rw q l
    by_case false v p e =
        let l = bit_at_lowest (with_bit b v x) in
        let k = bit_at_lowest x in
        let q : nat_eq b 0 ≡ false = grind (arith, nat_tests) in
        rw q (grind (arith, nat_tests))

one_bit : (b : ℕ) → 2 ^ b % 2 ≡ (if nat_eq b 0 then 1 else 0)
one_bit zero = refl
one_bit (suc b) = let e : nat_eq (suc b) 0 ≡ false = grind (arith, nat_tests) in rw e (let p : 2 ^ suc b ≡ 2 ^ b + 2 ^ b = omega arith in
    omega arith)

kept_level : {P : Type 0} (w : PadWiring P) (s : Space P) (at b : ℕ) (set : Bool) → at ≢ 0x23 → at ≢ 0x25
    → sync_level (after_store w (BitCall at b set) s) ≡ sync_level s
kept_level {P} w s at b set p q = by_case (takes_one_bit at) set
  where
    by_case : (t u : Bool) → sync_level (if t then (if u then after_byte w at (2 ^ b) s else s) else after_byte w at
        (with_bit b set (byte_at w s at)) s) ≡ sync_level s
    by_case true true = level_other w s at (2 ^ b) p q
    by_case true false = refl
    by_case false u = level_other w s at (with_bit b set (byte_at w s at)) p q

pin_shows : {P : Type 0} (w : PadWiring P) (s : Space P) (b level : ℕ) (set : Bool) (emitted : Option EventKind) → length s.bytes ≡ 4352
    → sync_level s ≡ level
    → (if nat_eq b 0 && set then Some (Some (Sync (1 - level))) else Some None) ≡ Some emitted → BitShows w s level b set 0x23 emitted
pin_shows {P} w s b level false emitted size is e =
    let n : (nat_eq b 0 && false) ≡ false = and_right (nat_eq b 0) false refl in
    let q : emitted ≡ None = sym (same_Some _ _ (rw n at e)) in
    rw (q, is) (by_none level level false 0 false 0 refl refl refl)
pin_shows {P} w s b level true emitted size is e = by_case (nat_eq b 0) refl e
  where
    new : sync_level (after_byte w 0x23 (2 ^ b) s) ≡ (level + (if nat_eq b 0 then 1 else 0)) % 2
    new = level_toggled w s (2 ^ b) size ∙ rw (is, one_bit b) refl

    by_case : (t : Bool) → nat_eq b 0 ≡ t → (if t && true then Some (Some (Sync (1 - level))) else Some None) ≡ Some emitted
        → BitShows w s level b true 0x23 emitted
    by_case true p e =
        let v : (level + (if nat_eq b 0 then 1 else 0)) % 2 ≡ 1 - level = rw p (omega (arith, is)) in
        let t : nat_eq level (1 - level) ≡ false = (let j : level ≢ 1 - level = (λ q. omega (arith, q)) in grind (arith, nat_tests)) in
        let f : emitted ≡ sync_event level (1 - level) = rw t (sym (same_Some _ _ e)) in
        rw (f, is, new, v) (by_sync level (1 - level) 0 0)
    by_case false p e =
        let v : (level + (if nat_eq b 0 then 1 else 0)) % 2 ≡ level = rw p (omega (arith, is)) in
        let f : emitted ≡ None = sym (same_Some _ _ e) in
        rw (f, is, new, v) (by_none level level false 0 false 0 refl refl refl)

port_shows : {P : Type 0} (w : PadWiring P) (s : Space P) (b level : ℕ) (set : Bool) (emitted : Option EventKind) → length s.bytes ≡ 4352
    → b < 8 → sync_level s ≡ level
    → (if nat_eq b 0 then level_event level (bit_of_bool set) else Some None) ≡ Some emitted → BitShows w s level b set 0x25 emitted
port_shows {P} w s b level set emitted size h is e =
    let new : sync_level (after_byte w 0x25 (with_bit b set (plain_byte s 0x25)) s) ≡ (if nat_eq b 0 then (if set then 1 else 0) else
    plain_byte s 0x25 % 2) =
    level_stored w s (with_bit b set (plain_byte s 0x25)) size ∙ port_level (plain_byte s 0x25) b set h in
    by_case (nat_eq b 0) set refl new e
  where
    by_case : (t u : Bool) → nat_eq b 0 ≡ t → sync_level (after_byte w 0x25 (with_bit b u (plain_byte s 0x25)) s)
        ≡ (if t then (if u then 1 else 0) else plain_byte s 0x25 % 2)
        → (if t then level_event level (bit_of_bool u) else Some None) ≡ Some emitted → BitShows w s level b u 0x25 emitted
    by_case true true p new e = rw (sym (same_Some _ _ e), is, new) (by_sync level 1 0 0)
    by_case true false p new e = rw (sym (same_Some _ _ e), is, new) (by_sync level 0 0 0)
    by_case false true p new e = rw (sym (same_Some _ _ e), is, new) (by_none level (plain_byte s 0x25 % 2) false 0 false 0 is refl refl)
    by_case false false p new e = rw (sym (same_Some _ _ e), is, new) (by_none level (plain_byte s 0x25 % 2) false 0 false 0 is refl refl)

pub bit_shows : {P : Type 0} (w : PadWiring P) (s : Space P) (at b level : ℕ) (set : Bool) (emitted : Option EventKind)
    → length s.bytes ≡ 4352 → at < 64 → b < 8 → sync_level s ≡ level
    → bit_event level b set at ≡ Some emitted → BitShows w s level b set at emitted
bit_shows {P} w s at b level set emitted size low h is e = by_case (nat_eq at 0x23) (nat_eq at 0x25) (nat_eq at 0x26) (nat_eq at 0x28) refl
    refl refl refl e
  where
    clear_pin : (u : Bool) → (if u then Some (Some Pixel) else Some None) ≡ Some emitted → BitShows w s level b u 0x26 emitted
    clear_pin true e =
        let new : sync_level (after_byte w 0x26 (2 ^ b) s) ≡ level = level_other w s 0x26 (2 ^ b) (λ q. omega (arith, q))
        (λ q. omega (arith, q)) ∙ is in
        rw (sym (same_Some _ _ e), is) (by_pixel level (sync_level (after_byte w 0x26 (2 ^ b) s))
        (plain_byte (after_byte w 0x26 (2 ^ b) s) 0x28) 0 new)
    clear_pin false e = rw (sym (same_Some _ _ e), is) (by_none level level false 0 false 0 refl refl refl)

    by_case : (a f c d : Bool) → nat_eq at 0x23 ≡ a → nat_eq at 0x25 ≡ f → nat_eq at 0x26 ≡ c → nat_eq at 0x28 ≡ d
        → (if a then (if nat_eq b 0 && set then Some (Some (Sync (1 - level))) else Some None) else if f then
        (if nat_eq b 0 then level_event level (bit_of_bool set) else Some None)
        else if c then (if set then Some (Some Pixel) else Some None) else if d then Some (Some Pixel) else Some None) ≡ Some emitted
        → BitShows w s level b set at emitted
    by_case true f c d p q r t e =
        let i : at ≡ 0x23 = grind (arith, nat_tests) in
        subst (λ a. BitShows w s level b set a emitted) (sym i) (pin_shows w s b level set emitted size is e)
    by_case false true c d p q r t e =
        let i : at ≡ 0x25 = grind (arith, nat_tests) in
        subst (λ a. BitShows w s level b set a emitted) (sym i) (port_shows w s b level set emitted size h is e)
    by_case false false true d p q r t e =
        let i : at ≡ 0x26 = grind (arith, nat_tests) in
        subst (λ a. BitShows w s level b set a emitted) (sym i) (clear_pin set e)
    by_case false false false true p q r t e =
        let i : at ≡ 0x28 = grind (arith, nat_tests) in
        let new : sync_level (after_byte w 0x28 (with_bit b set (plain_byte s 0x28)) s) ≡ level = level_other w s 0x28
        (with_bit b set (plain_byte s 0x28)) (λ q. omega (arith, q)) (λ q. omega (arith, q)) ∙ is in
        subst (λ a. BitShows w s level b set a emitted) (sym i) (by_set set (same_Some _ _ e) new)
      where
        by_set : (u : Bool) → Some Pixel ≡ emitted → sync_level (after_byte w 0x28 (with_bit b u (plain_byte s 0x28)) s) ≡ level
            → BitShows w s level b u 0x28 emitted
        by_set true e new = rw (sym e, is) (by_pixel level (sync_level (after_byte w 0x28 (with_bit b true (plain_byte s 0x28)) s))
            (plain_byte (after_byte w 0x28 (with_bit b true (plain_byte s 0x28)) s) 0x28) 0 new)
        by_set false e new = rw (sym e, is) (by_pixel level (sync_level (after_byte w 0x28 (with_bit b false (plain_byte s 0x28)) s))
            (plain_byte (after_byte w 0x28 (with_bit b false (plain_byte s 0x28)) s) 0x28) 0 new)
    by_case false false false false p q r t e =
        let new : sync_level (after_store w (BitCall at b set) s) ≡ level = kept_level w s at b set (λ i. grind (arith, nat_tests))
        (λ i. grind (arith, nat_tests)) ∙ is in
        rw (sym (same_Some _ _ e))
        (subst (λ l. Shows (kinds_by l (sync_level (after_store w (BitCall at b set) s))
        (is_store (BitCall at b set) && (at == 0x28 || at == 0x26)) (plain_byte (after_store w (BitCall at b set) s) 0x28)
        (is_store (BitCall at b set) && at == 0xB3) (plain_byte (after_store w (BitCall at b set) s) 0xB3)) level
        (sync_level (after_store w (BitCall at b set) s)) None) (sym is)
        (by_none level (sync_level (after_store w (BitCall at b set) s)) (is_store (BitCall at b set) && (at == 0x28 || at == 0x26))
        (plain_byte (after_store w (BitCall at b set) s) 0x28) (is_store (BitCall at b set) && at == 0xB3)
        (plain_byte (after_store w (BitCall at b set) s) 0xB3) new
        (and_right (is_store (BitCall at b set)) (at == 0x28 || at == 0x26) (grind (arith, nat_tests)))
        (and_right (is_store (BitCall at b set)) (at == 0xB3) (grind (arith, nat_tests)))))
