-- The scanner stands for the list with one more edge.
use Rattle.std.proofs.Common.{◌≡◌, ℕ, ◌^◌, ◌≤◌, ◌<◌, Bool, true, false, not, ◌&&◌, ◌==◌, cond, List, ◌∷◌, Option, Some, None, refl, sym, ap}
use Rattle.std.proofs.Common.{subst, ◌∙◌, arith}
use Rattle.std.specs.Prelude.{is_some, unwrap_or}
use Rattle.uz_core.specs.declared.machine.Edge.{Edge}
use Rattle.uz_scan.specs.declared.records.FrameInfo.{FrameInfo}
use Rattle.uz_scan.specs.declared.scanner.Scan.{Scan}
use Rattle.uz_scan.specs.declared.scanner.Scan.TheVariants.{More, Line, Frame}
use Rattle.uz_scan.specs.declared.scanner.Scanner.{Scanner}
use Rattle.uz_scan.specs.Lines.{level_brought, is_high, is_fall, ends_line, last_clock, line_start}
use Rattle.uz_scan.specs.Pictures.{pixel_brought, sound_brought, pixel_at, row_of, last_row, frames, ends_frame, shown_by, line_ended}
use Rattle.uz_scan.specs.Pictures.{frame_ended}
use Rattle.uz_scan.specs.Scanning.{Tracks, TakesLine, SamplesLine, StandsFor, IsTaken, synced, sync_shows}
use Rattle.uz_scan.proofs.FrameCounts.{frames_fit}
use Rattle.uz_scan.proofs.SampleLaws.{pixel_from, no_pixel, pixel_line, same_line, new_line, finished_row}
use Rattle.uz_scan.proofs.TrackerLaws.{Stays, line_ends, quiet_tracks, sync_edge, sync_tracks, sync_shown}

not_both : (b : Bool) → (b && not b) ≡ false
not_both true = refl
not_both false = refl

not_either : (b : Bool) → (not b && b) ≡ false
not_either true = refl
not_either false = refl

-- an edge that brings no level
pub level_stays : (e : Edge) (edges : List Edge) → level_brought e.kind ≡ None → Stays e edges
level_stays e edges n =
    let level : is_high (e ∷ edges) ≡ is_high edges = simp n refl in
    record {
      falls = ap (λ b. is_high edges && not b) level ∙ not_both (is_high edges);
      rises = ap (λ b. not (is_high edges) && b) level ∙ not_either (is_high edges);
      level = level;
    }

-- where no line ends, and none begins
stands_on : (s new : Scanner) (e : Edge) (edges : List Edge) → StandsFor s edges → last_clock edges ≤ e.clock → new.clock ≡ e.clock
    → is_fall e edges ≡ false → Tracks new.tracker (e ∷ edges)
    → ((clock : ℕ) → e.clock ≤ clock → pixel_at clock (e ∷ edges) ≡ new.sampler.value) → SamplesLine (line_start edges) new.sampler
    (e ∷ edges) → new.row ≡ s.row → StandsFor new (e ∷ edges)
stands_on s new e edges h o c falls tracks value samples row =
    let ends = line_ends e edges false falls in
    record {
      clock = c;
      order = (o, h.order);
      tracks = tracks;
      value = value;
      samples = subst (λ l. SamplesLine l new.sampler (e ∷ edges)) (sym (ap (λ b. cond b (Some e.clock) (line_start edges)) falls)) samples;
      row = row ∙ (h.row ∙ sym (ap (λ b. cond b (row_of edges (unwrap_or (line_start edges) 0) e.clock) (last_row edges)) ends));
    }

-- the value stays where no pixel comes
value_stays : (s : Scanner) (e : Edge) (edges : List Edge) → StandsFor s edges → last_clock edges ≤ e.clock → pixel_brought e.kind ≡ None
    → (clock : ℕ) → e.clock ≤ clock → pixel_at clock (e ∷ edges) ≡ s.sampler.value
value_stays s e edges h o p clock le = no_pixel e edges clock p ∙ h.value clock (omega arith)

pub pixel_stands : (s new : Scanner) (e : Edge) (edges : List Edge) (value : ℕ) → StandsFor s edges → s.clock ≤ e.clock → level_brought
    e.kind ≡ None → sound_brought e.kind ≡ None → pixel_brought e.kind ≡ Some value → new.clock ≡ e.clock → new.tracker ≡ s.tracker
    → IsTaken s.tracker.start e.clock s.sampler new.sampler → new.sampler.value ≡ value → new.row ≡ s.row → StandsFor new (e ∷ edges)
pixel_stands s new e edges value h o l q p c t taken v row =
    let since : last_clock edges ≤ e.clock = subst (λ x. x ≤ e.clock) h.clock o in
    let stays = level_stays e edges l in
    stands_on s new e edges h since c stays.falls
    (subst (λ x. Tracks x (e ∷ edges)) (sym t) (quiet_tracks s.tracker e edges stays (simp q refl) h.tracks))
    (λ clock le. pixel_from e edges clock value le p ∙ sym v)
    (pixel_line s.sampler new.sampler (line_start edges) value e edges h.samples (subst (λ x. IsTaken x e.clock s.sampler new.sampler)
    h.tracks.start taken) v p since)
    row

pub other_stands : (s new : Scanner) (e : Edge) (edges : List Edge) → StandsFor s edges → s.clock ≤ e.clock → level_brought e.kind ≡ None
    → pixel_brought e.kind ≡ None → new.clock ≡ e.clock → Tracks new.tracker (e ∷ edges) → new.sampler ≡ s.sampler → new.row ≡ s.row
    → StandsFor new (e ∷ edges)
other_stands s new e edges h o l p c t same row =
    let since : last_clock edges ≤ e.clock = subst (λ x. x ≤ e.clock) h.clock o in
    stands_on s new e edges h since c (level_stays e edges l).falls t
    (subst (λ x. (clock : ℕ) → e.clock ≤ clock → pixel_at clock (e ∷ edges) ≡ x.value) (sym same) (value_stays s e edges h since p))
    (subst (λ x. SamplesLine (line_start edges) x (e ∷ edges)) (sym same) (same_line s.sampler (line_start edges) e edges h.samples p
    since))
    row

-- what is shown isn't a line: samples and row stay
kept : (s new : Scanner) (shown : Scan) (b : Bool) (frame : FrameInfo) → shown ≡ cond b (Frame frame) More → TakesLine shown s.sampler s.row
    new → (new.sampler ≡ s.sampler) × (new.row ≡ s.row)
kept s new More b frame e t = t
kept s new (Frame f) b frame e t = t
kept s new (Line line) true frame e t = absurd cc
kept s new (Line line) false frame e t = absurd cc

no_line : (s new : Scanner) (shown : Scan) (e : Edge) (edges : List Edge) → ends_line e edges ≡ false → shown ≡ shown_by e edges
    → TakesLine shown s.sampler s.row new → (new.sampler ≡ s.sampler) × (new.row ≡ s.row)
no_line s new shown e edges ends is t = kept s new shown (ends_frame e edges) (frame_ended edges) (is ∙ simp ends refl) t

sync_stands_by : (s new : Scanner) (shown : Scan) (e : Edge) (edges : List Edge) (falls : Bool) (o : Option ℕ) → is_fall e edges ≡ falls
    → line_start edges ≡ o → StandsFor s edges → last_clock edges ≤ e.clock → pixel_brought e.kind ≡ None → new.clock ≡ e.clock
    → Tracks new.tracker (e ∷ edges) → shown ≡ shown_by e edges → TakesLine shown s.sampler s.row new → StandsFor new (e ∷ edges)
sync_stands_by s new shown e edges false o f l h since p c tracks is t =
    let same = no_line s new shown e edges (line_ends e edges false f) is t in
    stands_on s new e edges h since c f tracks
    (subst (λ x. (clock : ℕ) → e.clock ≤ clock → pixel_at clock (e ∷ edges) ≡ x.value) (sym same.0) (value_stays s e edges h since p))
    (subst (λ x. SamplesLine (line_start edges) x (e ∷ edges)) (sym same.0) (same_line s.sampler (line_start edges) e edges h.samples p
    since))
    same.1
sync_stands_by s new shown e edges true None f l h since p c tracks is t =
    let ends : ends_line e edges ≡ false = line_ends e edges true f ∙ ap is_some l in
    let same = no_line s new shown e edges ends is t in
    let value = subst (λ x. (clock : ℕ) → e.clock ≤ clock → pixel_at clock (e ∷ edges) ≡ x.value) (sym same.0)
    (value_stays s e edges h since p) in
    record {
      clock = c;
      order = (since, h.order);
      tracks = tracks;
      value = value;
      samples = subst (λ o. SamplesLine o new.sampler (e ∷ edges)) (sym (ap (λ b. cond b (Some e.clock) (line_start edges)) f))
          (new_line new.sampler e edges (ap (λ x. x.filled) same.0 ∙ subst (λ o. SamplesLine o s.sampler edges) l h.samples) value);
      row = same.1 ∙ (h.row ∙ sym (ap (λ b. cond b (row_of edges (unwrap_or (line_start edges) 0) e.clock) (last_row edges)) ends));
    }
sync_stands_by s new shown e edges true (Some start) f l h since p c tracks is t =
    let ends : ends_line e edges ≡ true = line_ends e edges true f ∙ ap is_some l in
    let told : shown ≡ Line (line_ended e edges) = is
    ∙ ap (λ b. cond b (Line (line_ended e edges)) (cond (ends_frame e edges) (Frame (frame_ended edges)) More)) ends in
    let takes = subst (λ x. TakesLine x s.sampler s.row new) told t in
    let value : (clock : ℕ) → e.clock ≤ clock → pixel_at clock (e ∷ edges) ≡ new.sampler.value =
    (λ clock le. value_stays s e edges h since p clock le ∙ sym takes.1) in
    let begun : unwrap_or (line_start edges) 0 ≡ start = ap (λ o. unwrap_or o 0) l in
    record {
      clock = c;
      order = (since, h.order);
      tracks = tracks;
      value = value;
      samples = subst (λ o. SamplesLine o new.sampler (e ∷ edges)) (sym (ap (λ b. cond b (Some e.clock) (line_start edges)) f))
          (new_line new.sampler e edges takes.2 value);
      row = finished_row s.sampler (unwrap_or (line_start edges) 0) e.clock edges new.row (subst (λ x. SamplesLine (Some x) s.sampler edges)
          (sym begun) (subst (λ o. SamplesLine o s.sampler edges) l h.samples)) since takes.0
          ∙ sym (ap (λ b. cond b (row_of edges (unwrap_or (line_start edges) 0) e.clock) (last_row edges)) ends);
    }

pub sync_stands : (s new : Scanner) (shown : Scan) (edges : List Edge) (clock value : ℕ) → StandsFor s edges → s.clock ≤ clock
    → clock < 2 ^ 64 → new.clock ≡ clock → new.tracker ≡ synced clock (not (value == 0)) s.tracker → shown ≡ sync_shows clock
    (not (value == 0)) s.tracker → TakesLine shown s.sampler s.row new → StandsFor new (sync_edge clock value ∷ edges)
sync_stands s new shown edges clock value h o fits c t shows takes =
    let since : last_clock edges ≤ clock = subst (λ x. x ≤ clock) h.clock o in
    let e = sync_edge clock value in
    let few : frames (sync_edge clock value ∷ edges) < 2 ^ 64 = frames_fit (sync_edge clock value ∷ edges) (since, h.order) fits in
    sync_stands_by s new shown (sync_edge clock value) edges _ _ refl refl h since refl c
    (subst (λ x. Tracks x (sync_edge clock value ∷ edges)) (sym t) (sync_tracks s.tracker edges clock value _ _ refl refl few h.tracks))
    (shows ∙ sync_shown s.tracker edges clock value _ _ refl refl h.tracks) takes

pub sync_shows_it : (s : Scanner) (shown : Scan) (edges : List Edge) (clock value : ℕ) → StandsFor s edges → shown ≡ sync_shows clock
    (not (value == 0)) s.tracker → shown ≡ shown_by (sync_edge clock value) edges
sync_shows_it s shown edges clock value h shows = shows ∙ sync_shown s.tracker edges clock value _ _ refl refl h.tracks
