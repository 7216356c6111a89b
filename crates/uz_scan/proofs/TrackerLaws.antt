-- The tracker tells what it should after one more edge.
use Rattle.std.proofs.Common.{◌≡◌, ℕ, ◌+◌, ◌-◌, ◌%◌, ◌^◌, ◌<◌, Bool, true, false, not, ◌&&◌, ◌==◌, cond, List, ◌∷◌, Option, Some, None}
use Rattle.std.proofs.Common.{refl, sym, ap, ◌∙◌}
use Rattle.std.specs.Prelude.{nat_lt, is_some, unwrap_or}
use Rattle.std.specs.Option.{option_map}
use Rattle.std.proofs.Math.Nat.{mod-add-mod, mod-eq_of_lt}
use Rattle.uz_core.specs.declared.machine.Edge.{Edge}
use Rattle.uz_core.specs.declared.machine.EdgeKind.TheVariants.{Sync}
use Rattle.uz_scan.specs.declared.tracker.Tracker.{Tracker}
use Rattle.uz_scan.specs.declared.scanner.Scan.TheVariants.{More, Line, Frame}
use Rattle.uz_scan.specs.Lines.{is_high, is_fall, is_rise, ends_line, line_start, before_line, low_time, is_broad}
use Rattle.uz_scan.specs.Pictures.{frames, sound_brought, sound_of, begins_frame, ends_frame, shown_by}
use Rattle.uz_scan.specs.Scanning.{Tracks, broad, fallen, risen, starts_frame, low_until, line_until, frame_until, sync_shows, synced}

-- an edge is a fall, a rise or neither
record Falls (e : Edge) (edges : List Edge) : Type 0 where
  falls : is_fall e edges ≡ true
  rises : is_rise e edges ≡ false
  level : is_high (e ∷ edges) ≡ false
  sound : sound_of (e ∷ edges) ≡ sound_of edges

record Rises (e : Edge) (edges : List Edge) : Type 0 where
  falls : is_fall e edges ≡ false
  rises : is_rise e edges ≡ true
  level : is_high (e ∷ edges) ≡ true
  sound : sound_of (e ∷ edges) ≡ sound_of edges

pub record Stays (e : Edge) (edges : List Edge) : Type 0 where
  pub falls : is_fall e edges ≡ false
  pub rises : is_rise e edges ≡ false
  pub level : is_high (e ∷ edges) ≡ is_high edges

not_begun : (e : Edge) (edges : List Edge) → is_rise e edges ≡ false → begins_frame e edges ≡ false
not_begun e edges rises = ap (λ r. r && (not (is_broad (e ∷ edges)) && is_broad (before_line edges))) rises

pub line_ends : (e : Edge) (edges : List Edge) (b : Bool) → is_fall e edges ≡ b → ends_line e edges ≡ (b && is_some (line_start edges))
line_ends e edges b falls = ap (λ f. f && is_some (line_start edges)) falls

pub quiet_tracks : (t : Tracker) (e : Edge) (edges : List Edge) → Stays e edges → sound_of (e ∷ edges) ≡ sound_of edges → Tracks t edges
    → Tracks t (e ∷ edges)
quiet_tracks t e edges s q k =
    let falls = s.falls in
    let rises = s.rises in
    let begins = not_begun e edges s.rises in
    let ends = line_ends e edges false s.falls in
    record {
      is_high = k.is_high ∙ sym s.level;
      sound = k.sound ∙ sym q;
      start = simp falls k.start;
      low = simp (falls, rises) k.low;
      after_broad = simp falls k.after_broad;
      frame = simp begins k.frame;
      rows = simp (begins, ends) k.rows;
    }

-- a sound
pub sound_tracks : (t : Tracker) (e : Edge) (edges : List Edge) (value : ℕ) → Stays e edges → sound_brought e.kind ≡ Some value
    → Tracks t edges → Tracks (record t { sound = value }) (e ∷ edges)
sound_tracks t e edges value s q k =
    let falls = s.falls in
    let rises = s.rises in
    let begins = not_begun e edges s.rises in
    let ends = line_ends e edges false s.falls in
    record {
      is_high = k.is_high ∙ sym s.level;
      sound = simp q refl;
      start = simp falls k.start;
      low = simp (falls, rises) k.low;
      after_broad = simp falls k.after_broad;
      frame = simp begins k.frame;
      rows = simp (begins, ends) k.rows;
    }

rows_more : (b : Bool) (n m : ℕ) → n ≡ m % 2 ^ 64 → cond b ((n + 1) % 2 ^ 64) n ≡ cond b (m + 1) m % 2 ^ 64
rows_more true n m e = ap (λ x. (x + 1) % 2 ^ 64) e ∙ mod-add-mod m (2 ^ 64) 1
rows_more false n m e = e

ends_same : (t : Tracker) (edges : List Edge) → Tracks t edges → (is_some t.start && nat_lt 0 t.frame) ≡ (is_some (line_start edges)
    && nat_lt 0 (frames edges))
ends_same t edges k = ap (λ o. is_some o && nat_lt 0 t.frame) k.start ∙ ap (λ n. is_some (line_start edges) && nat_lt 0 n) k.frame

fallen_tracks : (t : Tracker) (e : Edge) (edges : List Edge) → Falls e edges → Tracks t edges → Tracks (fallen e.clock t) (e ∷ edges)
fallen_tracks t e edges s k =
    let falls = s.falls in
    let rises = s.rises in
    let begins = not_begun e edges s.rises in
    let ends = line_ends e edges true s.falls in
    record {
      is_high = sym s.level;
      sound = k.sound ∙ sym s.sound;
      start = simp falls refl;
      low = simp falls refl;
      after_broad = simp falls (ap broad k.low);
      frame = simp begins k.frame;
      rows = simp (begins, ends) (ap (λ b. cond b ((t.rows + 1) % 2 ^ 64) t.rows) (ends_same t edges k) ∙ rows_more _ _ _ k.rows);
    }

rise_low : (t : Tracker) (e : Edge) (edges : List Edge) → Rises e edges → Tracks t edges → low_time (e ∷ edges) ≡ low_until e.clock t
rise_low t e edges s k =
    let falls = s.falls in
    let rises = s.rises in
    simp (falls, rises) (ap (option_map (λ start. e.clock - start)) (sym k.start))

rise_begins : (t : Tracker) (e : Edge) (edges : List Edge) → Rises e edges → Tracks t edges → begins_frame e edges ≡ starts_frame
    (low_until e.clock t) t
rise_begins t e edges s k =
    ap (λ r. r && (not (is_broad (e ∷ edges)) && is_broad (before_line edges))) s.rises
    ∙ ap (λ low. not (broad low) && is_broad (before_line edges)) (rise_low t e edges s k)
    ∙ ap (λ b. not (broad (low_until e.clock t)) && b) (sym k.after_broad)

risen_tracks : (t : Tracker) (e : Edge) (edges : List Edge) (b : Bool) → starts_frame (low_until e.clock t) t ≡ b → Rises e edges
    → frames (e ∷ edges) < 2 ^ 64 → Tracks t edges → Tracks (risen e.clock t) (e ∷ edges)
risen_tracks t e edges true starts s fits k =
    let falls = s.falls in
    let rises = s.rises in
    let begins = rise_begins t e edges s k ∙ starts in
    record {
      is_high = simp starts (sym s.level);
      sound = simp starts (k.sound ∙ sym s.sound);
      start = simp (starts, falls) k.start;
      low = simp starts (sym (rise_low t e edges s k));
      after_broad = simp (starts, falls) k.after_broad;
      frame = simp (starts, begins) (ap (λ n. (n + 1) % 2 ^ 64) k.frame ∙ mod-eq_of_lt (simp begins at fits));
      rows = simp (starts, begins) refl;
    }
risen_tracks t e edges false starts s fits k =
    let falls = s.falls in
    let rises = s.rises in
    let begins = rise_begins t e edges s k ∙ starts in
    let ends = line_ends e edges false s.falls in
    record {
      is_high = simp starts (sym s.level);
      sound = simp starts (k.sound ∙ sym s.sound);
      start = simp (starts, falls) k.start;
      low = simp starts (sym (rise_low t e edges s k));
      after_broad = simp (starts, falls) k.after_broad;
      frame = simp (starts, begins) k.frame;
      rows = simp (starts, begins, ends) k.rows;
    }

-- What it says

fallen_shows : (t : Tracker) (e : Edge) (edges : List Edge) (o : Option ℕ) → t.start ≡ o → Falls e edges → Tracks t edges
    → line_until e.clock t o ≡ shown_by e edges
fallen_shows t e edges None started s k =
    let none : line_start edges ≡ None = sym k.start ∙ started in
    let ends : ends_line e edges ≡ false = line_ends e edges true s.falls ∙ ap is_some none in
    let begins = not_begun e edges s.rises in
    simp (ends, begins) refl
fallen_shows t e edges (Some start) started s k =
    let some : line_start edges ≡ Some start = sym k.start ∙ started in
    let ends : ends_line e edges ≡ true = line_ends e edges true s.falls ∙ ap is_some some in
    simp ends (ap Line (λ i. record {
      frame = k.frame i;
      row = k.rows i;
      length = (ap (λ o. e.clock - unwrap_or o 0) (sym some)) i;
      low = (ap (λ o. unwrap_or o 0) k.low) i;
      sound = k.sound i;
    }))

risen_shows : (t : Tracker) (e : Edge) (edges : List Edge) → Rises e edges → Tracks t edges → frame_until e.clock t ≡ shown_by e edges
risen_shows t e edges s k =
    let ends : ends_line e edges ≡ false = line_ends e edges false s.falls in
    let tells : ends_frame e edges ≡ (starts_frame (low_until e.clock t) t && nat_lt 0 t.frame) = ap (λ b. b && nat_lt 0 (frames edges))
    (rise_begins t e edges s k) ∙ ap (λ n. starts_frame (low_until e.clock t) t && nat_lt 0 n) (sym k.frame) in
    simp (ends, tells) (ap (λ r. cond (starts_frame (low_until e.clock t) t && nat_lt 0 t.frame) (Frame r) More)
    (λ i. record { frame = k.frame i; rows = k.rows i }))

pub quiet_shows : (e : Edge) (edges : List Edge) → Stays e edges → shown_by e edges ≡ More
quiet_shows e edges s =
    let ends : ends_line e edges ≡ false = line_ends e edges false s.falls in
    let begins = not_begun e edges s.rises in
    simp (ends, begins) refl

-- A sync edge

abbrev pub sync_edge : ℕ → ℕ → Edge
sync_edge clock value = record { clock = clock; kind = Sync value }

falls_here : (clock value : ℕ) (edges : List Edge) → not (value == 0) ≡ false → is_high edges ≡ true → Falls (sync_edge clock value) edges
falls_here clock value edges l h = record { falls = simp (h, l) refl; rises = simp (h, l) refl; level = l; sound = refl }

rises_here : (clock value : ℕ) (edges : List Edge) → not (value == 0) ≡ true → is_high edges ≡ false → Rises (sync_edge clock value) edges
rises_here clock value edges l h = record { falls = simp (h, l) refl; rises = simp (h, l) refl; level = l; sound = refl }

stays_here : (clock value : ℕ) (edges : List Edge) (b : Bool) → not (value == 0) ≡ b → is_high edges ≡ b → Stays (sync_edge clock value)
    edges
stays_here clock value edges true l h = record { falls = simp (h, l) refl; rises = simp (h, l) refl; level = l ∙ sym h }
stays_here clock value edges false l h = record { falls = simp (h, l) refl; rises = simp (h, l) refl; level = l ∙ sym h }

pub sync_tracks : (t : Tracker) (edges : List Edge) (clock value : ℕ) (level high : Bool) → not (value == 0) ≡ level → is_high edges ≡ high
    → frames (sync_edge clock value ∷ edges) < 2 ^ 64 → Tracks t edges
    → Tracks (synced clock level t) (sync_edge clock value ∷ edges)
sync_tracks t edges clock value true true l h fits k = let kh : t.is_high ≡ true = k.is_high ∙ h in
    simp kh (quiet_tracks t (sync_edge clock value) edges (stays_here clock value edges true l h) refl k)
sync_tracks t edges clock value true false l h fits k = let kh : t.is_high ≡ false = k.is_high ∙ h in
    simp kh (risen_tracks t (sync_edge clock value) edges _ refl (rises_here clock value edges l h) fits k)
sync_tracks t edges clock value false true l h fits k = let kh : t.is_high ≡ true = k.is_high ∙ h in
    simp kh (fallen_tracks t (sync_edge clock value) edges (falls_here clock value edges l h) k)
sync_tracks t edges clock value false false l h fits k = let kh : t.is_high ≡ false = k.is_high ∙ h in
    simp kh (quiet_tracks t (sync_edge clock value) edges (stays_here clock value edges false l h) refl k)

pub sync_shown : (t : Tracker) (edges : List Edge) (clock value : ℕ) (level high : Bool) → not (value == 0) ≡ level → is_high edges ≡ high
    → Tracks t edges
    → sync_shows clock level t ≡ shown_by (sync_edge clock value) edges
sync_shown t edges clock value true true l h k = let kh : t.is_high ≡ true = k.is_high ∙ h in
    simp kh (sym (quiet_shows (sync_edge clock value) edges (stays_here clock value edges true l h)))
sync_shown t edges clock value true false l h k = let kh : t.is_high ≡ false = k.is_high ∙ h in
    simp kh (risen_shows t (sync_edge clock value) edges (rises_here clock value edges l h) k)
sync_shown t edges clock value false true l h k = let kh : t.is_high ≡ true = k.is_high ∙ h in
    simp kh (fallen_shows t (sync_edge clock value) edges t.start refl (falls_here clock value edges l h) k)
sync_shown t edges clock value false false l h k = let kh : t.is_high ≡ false = k.is_high ∙ h in
    simp kh (sym (quiet_shows (sync_edge clock value) edges (stays_here clock value edges false l h)))
