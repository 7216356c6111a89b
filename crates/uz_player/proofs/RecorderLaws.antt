-- A recorder that takes one more edge.
use Rattle.std.proofs.Common.{◌≡◌, ℕ, suc, ◌+◌, ◌%◌, ◌^◌, ◌<◌, ◌≤◌, Bool, true, false, cond, List, [], ◌∷◌, ◌++◌, length, Option, refl, sym}
use Rattle.std.proofs.Common.{ap, subst, ◌∙◌, arith}
use Rattle.std.specs.Prelude.{nat_lt}
use Rattle.std.proofs.Math.Nat.{mod-eq_of_lt}
use Rattle.std.proofs.lemmas.List.{reverse-append, length-reverse}
use Rattle.uz_core.specs.declared.machine.Edge.{Edge}
use Rattle.uz_core.specs.declared.machine.EdgeKind.{EdgeKind}
use Rattle.uz_core.specs.declared.machine.EdgeKind.TheVariants.{Sync, Pixel, Sound, Enter, Leave}
use Rattle.uz_scan.specs.declared.scanner.Scan.{Scan}
use Rattle.uz_scan.specs.declared.scanner.Scan.TheVariants.{More, Line, Frame}
use Rattle.uz_scan.specs.Pictures.{newest_first, records, record_of, row_records, row_records_of, end_records, end_records_of, shown_by}
use Rattle.uz_scan.specs.Pictures.{last_row}
use Rattle.uz_scan.specs.Scanning as scanning
use Rattle.uz_player.specs.declared.counts.Counts.{Counts}
use Rattle.uz_player.specs.declared.recorder.Record.{Record}
use Rattle.uz_player.specs.declared.recorder.Recorder.{Recorder}
use Rattle.uz_player.specs.Counting.{count_of, is_sync, is_pixel, is_sound, with_kind}
use Rattle.uz_player.specs.Seen.{HasSeen, HasTaken, record_bytes}

few_row : (shown : Scan) → row_records_of shown ≤ 1
few_row More = omega arith
few_row (Line line) = by_test (nat_lt 0 line.frame)
  where
    by_test : (b : Bool) → cond b 1 0 ≤ 1
    by_test true = omega arith
    by_test false = omega arith
few_row (Frame frame) = omega arith

few_end : (shown : Scan) → end_records_of shown ≤ 1
few_end More = omega arith
few_end (Line line) = omega arith
few_end (Frame frame) = omega arith

few_rows : (edges : List Edge) → row_records edges ≤ length edges
few_rows [] = omega arith
few_rows (e ∷ before) = (let h = few_rows before in let one = few_row (shown_by e before) in omega arith)

few_ends : (edges : List Edge) → end_records edges ≤ length edges
few_ends [] = omega arith
few_ends (e ∷ before) = (let h = few_ends before in let one = few_end (shown_by e before) in omega arith)

few_of : (is_kind : EdgeKind → Bool) (edges : List Edge) → count_of is_kind edges ≤ length edges
few_of is_kind [] = omega arith
few_of is_kind (e ∷ before) = by_test (is_kind e.kind) (few_of is_kind before)
  where
    by_test : (b : Bool) → count_of is_kind before ≤ length before → cond b (count_of is_kind before + 1) (count_of is_kind before) ≤ suc
        (length before)
    by_test true h = omega arith
    by_test false h = omega arith

one_more : (n m k : ℕ) → n ≡ m → m ≤ k → k < 2 ^ 63 → (n + 1) % 2 ^ 64 ≡ m + 1
one_more n m k e h f = mod-eq_of_lt (omega arith) ∙ ap (λ x. x + 1) e

-- the numbers of kinds
record KindsCounted (c : Counts) (edges : List Edge) : Type 0 where
  sync : c.sync ≡ count_of is_sync edges
  pixels : c.pixels ≡ count_of is_pixel edges
  sounds : c.sounds ≡ count_of is_sound edges

kind_counted : (c : Counts) (edges : List Edge) (clock : ℕ) (kind : EdgeKind) → length edges < 2 ^ 63 → KindsCounted c edges
    → KindsCounted (with_kind kind c) (record { clock = clock; kind = kind } ∷ edges)
kind_counted c edges clock (Sync value) f h = record {
  sync = one_more _ _ _ h.sync (few_of is_sync edges) f;
  pixels = h.pixels;
  sounds = h.sounds;
}
kind_counted c edges clock (Pixel value) f h = record {
  sync = h.sync;
  pixels = one_more _ _ _ h.pixels (few_of is_pixel edges) f;
  sounds = h.sounds;
}
kind_counted c edges clock (Sound value) f h = record {
  sync = h.sync;
  pixels = h.pixels;
  sounds = one_more _ _ _ h.sounds
      (few_of is_sound edges) f;
}
kind_counted c edges clock (Enter count) f h = record { sync = h.sync; pixels = h.pixels; sounds = h.sounds }
kind_counted c edges clock Leave f h = record { sync = h.sync; pixels = h.pixels; sounds = h.sounds }

-- the numbers after a record, or none
abbrev pub CountsShown : Counts → Counts → Scan → Type 0
CountsShown old new shown =
    (new.sync ≡ old.sync) × (new.pixels ≡ old.pixels) × (new.sounds ≡ old.sounds) ×
    (old.rows < 2 ^ 63 → new.rows ≡ old.rows + row_records_of shown) × (old.frames < 2 ^ 63 → new.frames ≡ old.frames + end_records_of
    shown)

pub counts_same : (old new : Counts) (shown : Scan) → new ≡ old → row_records_of shown ≡ 0 → end_records_of shown ≡ 0 → CountsShown old new
    shown
counts_same old new shown e r f = (
  ap (λ (c : Counts). c.sync) e,
  ap (λ (c : Counts). c.pixels) e,
  ap (λ (c : Counts). c.sounds) e,
  λ few. (let h = ap (λ (c : Counts). c.rows) e in omega arith),
  λ few. (let h = ap (λ (c : Counts). c.frames) e in omega arith),
)

pub row_counted : (old c : Counts) (shown : Scan) → c ≡ old → row_records_of shown ≡ 1 → end_records_of shown ≡ 0 → CountsShown old
    (record c { rows = (c.rows + 1) % 2 ^ 64 }) shown
row_counted old c shown e r f = (
  ap (λ (c : Counts). c.sync) e,
  ap (λ (c : Counts). c.pixels) e,
  ap (λ (c : Counts). c.sounds) e,
  λ few. (let h = ap (λ (c : Counts). c.rows) e in one_more c.rows old.rows old.rows h (omega arith) few ∙ ap (λ x. old.rows + x) (sym r)),
  λ few. (let h = ap (λ (c : Counts). c.frames) e in omega arith),
)

pub end_counted : (old c : Counts) (shown : Scan) → c ≡ old → row_records_of shown ≡ 0 → end_records_of shown ≡ 1 → CountsShown old
    (record c { frames = (c.frames + 1) % 2 ^ 64 }) shown
end_counted old c shown e r f = (
  ap (λ (c : Counts). c.sync) e,
  ap (λ (c : Counts). c.pixels) e,
  ap (λ (c : Counts). c.sounds) e,
  λ few. (let h = ap (λ (c : Counts). c.rows) e in omega arith),
  λ few. (let h = ap (λ (c : Counts). c.frames) e in one_more c.frames old.frames old.frames h (omega arith) few ∙ ap (λ x. old.frames + x)
      (sym f)),
)

rows_stay : (kind : EdgeKind) (c : Counts) → (with_kind kind c).rows ≡ c.rows
rows_stay (Sync value) c = refl
rows_stay (Pixel value) c = refl
rows_stay (Sound value) c = refl
rows_stay (Enter count) c = refl
rows_stay Leave c = refl

frames_stay : (kind : EdgeKind) (c : Counts) → (with_kind kind c).frames ≡ c.frames
frames_stay (Sync value) c = refl
frames_stay (Pixel value) c = refl
frames_stay (Sound value) c = refl
frames_stay (Enter count) c = refl
frames_stay Leave c = refl

pub has_taken : (old new : Recorder) (edge : Edge) (given : Option Record) (shown : Scan) (seen : List Edge) →
    CountsShown (with_kind edge.kind old.counts) new.counts shown → scanning.StandsFor new.scanner (edge ∷ newest_first seen)
    → scanning.clock_of new.scanner ≡ edge.clock →
    shown ≡ shown_by edge (newest_first seen) → ((row : List ℕ) → record_bytes given row ≡ record_of shown row) →
    HasSeen old seen → length seen < 2 ^ 63 → HasTaken new seen edge given
has_taken old new edge given shown seen c stands clock told bytes h few =
    let before = newest_first seen in
    let more : newest_first (seen ++ edge ∷ []) ≡ edge ∷ newest_first seen = reverse-append seen (edge ∷ []) in
    let size : length before ≡ length seen = length-reverse seen in
    let small : length before < 2 ^ 63 = omega arith in
    let rows_were : (with_kind edge.kind old.counts).rows ≡ row_records before = rows_stay edge.kind old.counts ∙ (h.counts).rows in
    let frames_were : (with_kind edge.kind old.counts).frames ≡ end_records before = frames_stay edge.kind old.counts ∙ (h.counts).frames in
    let few_r = few_rows before in
    let few_e = few_ends before in
    let kinds : KindsCounted (with_kind edge.kind old.counts) (edge ∷ before) = kind_counted old.counts before edge.clock edge.kind small
    (record { sync = (h.counts).sync; pixels = (h.counts).pixels; sounds = (h.counts).sounds }) in
    let rows_now = c.3 (omega arith) ∙ (ap (λ x. x + row_records_of shown) rows_were ∙ ap (λ s. row_records before + row_records_of s)
    told) in
    let frames_now = c.4 (omega arith) ∙ (ap (λ x. x + end_records_of shown) frames_were ∙ ap (λ s. end_records before + end_records_of s)
    told) in
    record {
      seen_more = record {
        scanner = subst (scanning.StandsFor new.scanner) (sym more) stands;
        counts = record {
          frames = frames_now ∙ ap end_records (sym more);
          rows = rows_now ∙ ap row_records (sym more);
          sync = c.0 ∙ (kinds.sync ∙ ap (count_of is_sync) (sym more));
          pixels = c.1 ∙ (kinds.pixels ∙ ap (count_of is_pixel) (sym more));
          sounds = c.2 ∙ (kinds.sounds ∙ ap (count_of is_sound) (sym more));
        };
      };
      clock = clock;
      records = ap records more ∙ ap (λ x. records before ++ x)
          (sym (ap (λ es. record_bytes given (last_row es)) more
          ∙ (bytes (last_row (edge ∷ before)) ∙ ap (λ s. record_of s (last_row (edge ∷ before))) told)));
    }
