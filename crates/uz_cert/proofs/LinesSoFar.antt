-- The lines that were read are those that are spelled of what was read: each line that is due adds its own.
use Rattle.uz_cert.proofs.Common.{◌≡◌, inl, inr, ℕ, zero, suc, ◌+◌, ◌-◌, ◌<◌, ◌≤◌, Bool, true, false, ◌&&◌, cond, eqb, List, [], ◌∷◌}
use Rattle.uz_cert.proofs.Common.{◌++◌, length, map, decimal, refl, sym, ◌∙◌, ap, append_assoc, append-nil, subst, zero-add, arith}
use Rattle.uz_cert.proofs.Common.{length-append, Option, Some, None, ⊤, map-append, is_length, clocks_below, lengths_fit, Cell, Event}
use Rattle.uz_cert.proofs.Common.{Entry, ParsedLine, Version, and_true, not_number, line_of, runs_of, lacks, draft_after, Kept, SaidFits}
use Rattle.uz_cert.proofs.Common.{EventSaid, cert_from, KindLine, scanline, Cert, expected_as, Draft}
use Rattle.uz_cert_writer.specs.Spelling.{cell_words, kind_words, event_words, run_words, rest_words, entry_words, point_words}
use Rattle.uz_cert_writer.specs.Spelling.{kinds_then, size_words, irq_words, stack_words, schedule_lines, state_lines}
use Rattle.uz_cert.proofs.SpelledText.{spelled, with_event, with_last, event_next, last_next}
use Rattle.uz_cert_laws.proofs.Tests.{both_of, so, else_so, number_is}
use Rattle.std.proofs.Common.{take, codes}
use Rattle.uz_cert_laws.specs.LineWords.{sizes_words, response_words, stack_line_words}
use Rattle.uz_cert.specs.Kept.{Later}
use Rattle.uz_cert.proofs.{ExpectedLineLaws.not_equal, ExpectedLineLaws.IsExpected, ExpectedLineLaws.IsWhole, KeptLaws.none}
use Rattle.uz_cert.proofs.{Runs.runs_more}
use Rattle.uz_cert_lines.specs.declared.lines.ParsedLine.TheVariants as parsed

abbrev Lines : Type 0
Lines = List (List ℕ)

-- the lines of each section

abbrev event_lines : List Event → Lines
event_lines es = map (λ e. line_of (event_words e)) es

-- a kind of line, and its events
abbrev kind_lines : Version → ℕ → List Event → ℕ → Lines
kind_lines v count es clocks = line_of (kind_words v count clocks) ∷ event_lines es

abbrev begun_lines : Version → ℕ → List Event → ℕ → Lines
begun_lines v owed es clocks = cond (eqb owed 0) [] (kind_lines v (length es + owed) es clocks)

abbrev fall_line : ℕ → Lines
fall_line n = cond (eqb n 0) [] (line_of (codes "fall" ∷ decimal n ∷ []) ∷ [])

abbrev entry_line : List Cell → Option Entry → Lines
entry_line cells None = []
entry_line cells (Some e) = line_of (entry_words cells e) ∷ []

abbrev end_line : Bool → Lines
end_line ended = cond ended (codes "end" ∷ []) []

-- the sections from each on

abbrev from_points : List Cell → Draft → List Lines
from_points cells d = map (λ p. line_of (point_words cells p)) d.points ∷ end_line d.ended ∷ []

abbrev from_entry : List Cell → Draft → List Lines
from_entry cells d = entry_line cells d.entry ∷ from_points cells d

abbrev from_rests : List Cell → Draft → List Lines
from_rests cells d = map (λ r. line_of (rest_words r)) d.rests ∷ from_entry cells d

abbrev from_runs : List Cell → Draft → List Lines
from_runs cells d = map (λ r. line_of (run_words r)) (runs_of d.lines) ∷ from_rests cells d

abbrev from_fall : List Cell → Draft → List Lines
from_fall cells d = fall_line d.fall ∷ from_runs cells d

-- the kinds so far, with the one that is begun
abbrev kinds_so_far : Draft → Lines
kinds_so_far d = kinds_then d.version d.kinds d.lengths [] ++ begun_lines d.version d.owed d.events d.clocks

abbrev from_kinds : List Cell → Draft → List Lines
from_kinds cells d = kinds_so_far d ∷ from_fall cells d

abbrev from_cells : Draft → List Lines
from_cells d = map (λ c. line_of (cell_words c)) d.head.cells.items ∷ from_kinds d.head.cells.items d

abbrev opening : Draft → Lines
opening d =
    line_of (sizes_words d.sizes) ∷ line_of (response_words d.head.irq)
    ∷ line_of (stack_line_words (record { lo = d.head.lo; hi = d.head.hi; main = d.head.main; handler = d.head.handler })) ∷ []

abbrev sections : Draft → List Lines
sections d = take (d.read - 1) (opening d) ∷ from_cells d

abbrev flat : List Lines → Lines
flat [] = []
flat (xs ∷ rest) = xs ++ flat rest

-- all lines after the head that were read
abbrev pub so_far : Draft → Lines
so_far d = flat (sections d)

-- sections that are still empty

abbrev AreEmpty : List Lines → Type 0
AreEmpty [] = ⊤
AreEmpty (xs ∷ rest) = (xs ≡ []) × AreEmpty rest

flat_empty : (xs : List Lines) → AreEmpty xs → flat xs ≡ []
flat_empty [] h = refl
flat_empty (xs ∷ rest) h = ap (λ t. t ++ flat rest) h.0 ∙ flat_empty rest h.1

module _ (d : Draft) (k : Kept d) (cells : List Cell) where
  no_end : length d.points < d.sizes.points → AreEmpty (end_line d.ended ∷ [])
  no_end h = (ap end_line (k.later.late.4 h), tt)

  no_points : d.entry ≡ None → AreEmpty (from_points cells d)
  no_points e =
      let none_yet = k.later.late.3 e in
      (ap (map (λ p. line_of (point_words cells p))) none_yet, no_end (none d.points d.sizes.points none_yet k.sizes.points_some))

  no_entry : d.entry ≡ None → AreEmpty (from_entry cells d)
  no_entry e = (ap (entry_line cells) e, no_points e)

  no_rests : length d.lines < d.sizes.lines → AreEmpty (from_rests cells d)
  no_rests h = (ap (map (λ r. line_of (rest_words r))) (k.later.late.1 h), no_entry (k.later.late.2 (inl h)))

  no_runs : d.fall ≡ 0 → AreEmpty (from_runs cells d)
  no_runs e =
      let none_yet = k.later.late.0 e in (
        ap (λ ls. map (λ r. line_of (run_words r)) (runs_of ls)) none_yet,
        no_rests (none d.lines d.sizes.lines none_yet k.sizes.lines_some),
      )

  no_fall : d.fall ≡ 0 → AreEmpty (from_fall cells d)
  no_fall e = (ap fall_line e, no_runs e)

  no_kinds : (d.kinds ≡ []) × (d.lengths ≡ []) × (d.owed ≡ 0) → d.fall ≡ 0 → AreEmpty (from_kinds cells d)
  no_kinds h e = (
    ap (λ ks. kinds_then d.version ks d.lengths [] ++ begun_lines d.version d.owed d.events d.clocks) h.0
        ∙ ap (λ n. begun_lines d.version n d.events d.clocks) h.2,
    no_fall e,
  )

no_cells : (d : Draft) → Kept d → d.read ≤ 3 → AreEmpty (from_cells d)
no_cells d k o = (
  ap (map (λ c. line_of (cell_words c))) (k.later.cells o),
  no_kinds d k d.head.cells.items (k.later.kinds (inl o)) (k.later.fall (inl (inl o))),
)

-- one line more

-- at the end of the section at this place, after which all are empty
abbrev Grows : ℕ → List ℕ → List Lines → List Lines → Type 0
Grows n w [] ys = ⊥
Grows n w (x ∷ xs) [] = ⊥
Grows zero w (x ∷ xs) (y ∷ ys) = (y ≡ x ++ w ∷ []) × AreEmpty xs × AreEmpty ys
Grows (suc n) w (x ∷ xs) (y ∷ ys) = (y ≡ x) × Grows n w xs ys

with_rest : {A B : Type 0} → A → B → A × B × B
with_rest a b = (a, b, b)

grow : (n : ℕ) (w : List ℕ) (xs ys : List Lines) → Grows n w xs ys → flat ys ≡ flat xs ++ w ∷ []
grow n w [] ys h = absurd h
grow n w (x ∷ xs) [] h = absurd h
grow zero w (x ∷ xs) (y ∷ ys) h =
    ap (λ t. y ++ t) (flat_empty ys h.2) ∙ append-nil y ∙ h.0
    ∙ ap (λ t. t ++ w ∷ []) (sym (ap (λ t. x ++ t) (flat_empty xs h.1) ∙ append-nil x))
grow (suc n) w (x ∷ xs) (y ∷ ys) h =
    ap (λ t. t ++ flat ys) h.0 ∙ ap (λ t. x ++ t) (grow n w xs ys h.1) ∙ sym (append_assoc x (flat xs) (w ∷ []))

map_last : {A : Type 0} (f : A → List ℕ) (xs : List A) (x : A) → map f (xs ++ x ∷ []) ≡ map f xs ++ f x ∷ []
map_last f xs x = map-append f xs (x ∷ [])

kinds_last : (v : Version) (kinds : List (List Event)) (lengths : List ℕ) (es : List Event) (n : ℕ) → lengths_fit kinds lengths ≡ true
    → kinds_then v (kinds ++ es ∷ []) (lengths ++ n ∷ []) [] ≡ kinds_then v kinds lengths [] ++ kind_lines v (length es) es n
kinds_last v [] [] es n h = ap (λ t. line_of (kind_words v (length es) n) ∷ t) (append-nil (event_lines es))
kinds_last v [] (m ∷ lengths) es n h = absurd cc
kinds_last v (ds ∷ kinds) [] es n h = absurd cc
kinds_last v (ds ∷ kinds) (m ∷ lengths) es n h =
    let rest = and_true (is_length m && clocks_below ds m) (lengths_fit kinds lengths) h in
    ap (λ t. line_of (kind_words v (length ds) m) ∷ t)
    (ap (λ t. event_lines ds ++ t) (kinds_last v kinds lengths es n rest.1)
    ∙ sym (append_assoc (event_lines ds) (kinds_then v kinds lengths []) (kind_lines v (length es) es n)))

pub kinds_split : (v : Version) (kinds : List (List Event)) (lengths : List ℕ) (others : Lines)
    → kinds_then v kinds lengths [] ++ others ≡ kinds_then v kinds lengths others
kinds_split v [] lengths others = refl
kinds_split v (es ∷ kinds) [] others = refl
kinds_split v (es ∷ kinds) (n ∷ lengths) others =
    ap (λ t. line_of (kind_words v (length es) n) ∷ t)
    (append_assoc (event_lines es) (kinds_then v kinds lengths []) others
    ∙ ap (λ t. event_lines es ++ t) (kinds_split v kinds lengths others))

-- after the opening

open_take : (n : ℕ) (a b c : List ℕ) → 4 ≤ n → take (n - 1) (a ∷ b ∷ c ∷ []) ≡ a ∷ b ∷ c ∷ []
open_take n a b c h = all (n - 1) (omega (arith, h))
  where
    all : (m : ℕ) → 3 ≤ m → take m (a ∷ b ∷ c ∷ []) ≡ a ∷ b ∷ c ∷ []
    all zero g = absurd (omega (arith, g))
    all (suc zero) g = absurd (omega (arith, g))
    all (suc (suc zero)) g = absurd (omega (arith, g))
    all (suc (suc (suc zero))) g = refl
    all (suc (suc (suc (suc m)))) g = refl

open_more : (d : Draft) → 4 ≤ d.read → take (d.read + 1 - 1) (opening d) ≡ take (d.read - 1) (opening d)
open_more d h = open_take (d.read + 1) _ _ _ (omega (arith, h)) ∙ sym (open_take d.read _ _ _ h)

-- each line adds its own

module _ (d : Draft) (k : Kept d) where
  abbrev l : Later d
  l = k.later

  abbrev cs : List Cell
  cs = d.head.cells.items

  abbrev kinds_closed : Lines
  kinds_closed = kinds_then d.version d.kinds d.lengths []

  abbrev begun_so_far : Lines
  begun_so_far = begun_lines d.version d.owed d.events d.clocks

  abbrev kind_line : KindLine → List ℕ
  kind_line n = line_of (kind_words d.version n.events n.clocks)

  begin_kind : (n : KindLine) → d.owed ≡ 0 → 1 ≤ n.events
      → begun_lines d.version n.events d.events n.clocks ≡ begun_so_far ++ kind_line n ∷ []
  begin_kind n o some =
      else_so (eqb n.events 0) [] (kind_lines d.version (length d.events + n.events) d.events n.clocks) (not_equal n.events 0 some)
      ∙ ap (λ es. kind_lines d.version (length es + n.events) es n.clocks) (k.schedule.0.present o)
      ∙ ap (λ m. line_of (kind_words d.version m n.clocks) ∷ []) (zero-add n.events)
      ∙ ap (λ m. begun_lines d.version m d.events d.clocks ++ kind_line n ∷ []) (sym o)

  abbrev with : Event → List Event
  with e = d.events ++ e ∷ []

  abbrev event_line : Event → List ℕ
  event_line e = line_of (event_words e)

  one_longer : (e : Event) → length (with e) ≡ length d.events + 1
  one_longer e = length-append d.events (e ∷ [])

  -- so many events in all, the last of which is this
  begun_with : (e : Event) (count : ℕ) → 1 ≤ d.owed → count ≡ length d.events + d.owed
      → kind_lines d.version count (with e) d.clocks ≡ begun_so_far ++ event_line e ∷ []
  begun_with e count some same =
      ap (λ c. kind_lines d.version c (with e) d.clocks) same
      ∙ ap (λ t. line_of (kind_words d.version (length d.events + d.owed) d.clocks) ∷ t) (map_last (λ x. line_of (event_words x)) d.events e)
      ∙ ap (λ t. t ++ event_line e ∷ [])
      (sym (else_so (eqb d.owed 0) [] (kind_lines d.version (length d.events + d.owed) d.events d.clocks) (not_equal d.owed 0 some)))

  event_adds : (e : Event) → EventSaid d e → (t : Bool) → eqb (d.owed - 1) 0 ≡ t
      → so_far (draft_after d (parsed.Event e)) ≡ so_far d ++ event_line e ∷ []
  unfolding draft_after
  event_adds e f false is =
      let longer = one_longer e in
      let some = f.owed in
      let empty = no_fall d k cs (l.fall (inr (inl f.owed))) in
      ap so_far (event_next d e is)
      ∙ grow 2 (event_line e) (sections d) (sections (with_event d e))
      (both_of (open_more d f.body) (both_of refl (with_rest (ap (λ t. kinds_closed ++ t)
      (else_so (eqb (d.owed - 1) 0) [] (kind_lines d.version (length (with e) + (d.owed - 1)) (with e) d.clocks) is
      ∙ begun_with e (length (with e) + (d.owed - 1)) f.owed (omega (arith, longer, some)))
      ∙ sym (append_assoc kinds_closed begun_so_far (event_line e ∷ []))) empty)))
  event_adds e f true is =
      let longer = one_longer e in
      let some = f.owed in
      let last = number_is (d.owed - 1) 0 is in
      let empty = no_fall d k cs (l.fall (inr (inl f.owed))) in
      let kinds = kinds_then d.version (d.kinds ++ with e ∷ []) (d.lengths ++ d.clocks ∷ []) [] in
      ap so_far (last_next d e is)
      ∙ grow 2 (event_line e) (sections d) (sections (with_last d e))
      (both_of (open_more d f.body) (both_of refl (with_rest (ap (λ t. kinds ++ t)
      (so (eqb (d.owed - 1) 0) [] (kind_lines d.version (length {A = Event} [] + (d.owed - 1)) [] scanline) is)
      ∙ append-nil kinds
      ∙ kinds_last d.version d.kinds d.lengths (with e) d.clocks k.schedule.1.fit
      ∙ ap (λ t. kinds_closed ++ t) (begun_with e (length (with e)) f.owed (omega (arith, longer, last, some)))
      ∙ sym (append_assoc kinds_closed begun_so_far (event_line e ∷ []))) empty)))

  -- the next line of the opening, which is empty so far
  opened : (e : Draft) (w : List ℕ) (n : ℕ) → d.read ≡ n → d.read ≤ 3 → e.read ≡ d.read + 1 → from_cells e ≡ from_cells d
      → take (n + 1 - 1) (opening e) ≡ take (n - 1) (opening d) ++ w ∷ [] → so_far e ≡ so_far d ++ w ∷ []
  opened e w n i o r c t =
      let empty = no_cells d k o in
      grow 0 w (sections d) (sections e) (
        ap (λ m. take (m - 1) (opening e)) (r ∙ ap (λ m. m + 1) i) ∙ t ∙ ap (λ m. take (m - 1) (opening d) ++ w ∷ []) (sym i),
        empty,
        subst AreEmpty (sym c) empty,
      )

  lacks_none : (o : Option Entry) → lacks o ≡ true → o ≡ None
  lacks_none None e = refl
  lacks_none (Some x) e = absurd cc

  pub so_far_after : (s : ParsedLine) → IsExpected d (expected_as s) → SaidFits d s → so_far (draft_after d s) ≡ so_far d ++ spelled d.version d.head s ∷ []
  unfolding draft_after
  so_far_after (parsed.Size s) i f =
      opened (draft_after d (parsed.Size s)) (spelled d.version d.head (parsed.Size s)) 1 i f.0 refl refl refl
  so_far_after (parsed.Irq r) i f =
      opened (draft_after d (parsed.Irq r)) (spelled d.version d.head (parsed.Irq r)) 2 i f refl refl refl
  so_far_after (parsed.Stack s) i f =
      opened (draft_after d (parsed.Stack s)) (spelled d.version d.head (parsed.Stack s)) 3 i f.0 refl refl refl
  so_far_after (parsed.Cell c) i f =
      let empty = l.kinds (inr f.room) in
      let fall = l.fall (inl (inr f.room)) in
      grow 1 (line_of (cell_words c)) (sections d) (sections (draft_after d (parsed.Cell c)))
      (open_more d f.body, (map_last (λ x. line_of (cell_words x)) cs c, no_kinds d k cs empty fall, no_kinds d k (cs ++ c ∷ []) empty fall))
  so_far_after (parsed.Kind n) i f =
      let empty = no_fall d k cs (l.fall (inr (inr f.room))) in
      grow 2 (kind_line n) (sections d) (sections (draft_after d (parsed.Kind n)))
      (both_of (open_more d f.body) (both_of refl (with_rest (ap (λ t. kinds_closed ++ t) (begin_kind n f.none_owed f.fits.some)
      ∙ sym (append_assoc kinds_closed begun_so_far (kind_line n ∷ []))) empty)))
  so_far_after (parsed.Event e) i f = event_adds e f (eqb (d.owed - 1) 0) refl
  so_far_after (parsed.Fall n) i f =
      let w = line_of (codes "fall" ∷ decimal n ∷ []) in
      let empty = no_runs d k cs i.3 in
      grow 3 w (sections d) (sections (draft_after d (parsed.Fall n)))
      (both_of (open_more d f.0) (both_of refl (both_of refl (with_rest (else_so (eqb n 0) [] (w ∷ []) (not_equal n 0 f.1)
      ∙ ap (λ m. fall_line m ++ w ∷ []) (sym i.3)) empty))))
  so_far_after (parsed.Run r) i f =
      let empty = no_rests d k cs i.2 in
      grow 4 (line_of (run_words (r.count, r.kind))) (sections d) (sections (draft_after d (parsed.Run r)))
      (both_of (open_more d f.body) (both_of refl (both_of refl (both_of refl (with_rest (ap (map (λ x. line_of (run_words x)))
      (runs_more d.run_kind r.kind d.lines r.count l.run f.other f.some)
      ∙ map_last (λ x. line_of (run_words x)) (runs_of d.lines) (r.count, r.kind)) empty)))))
  so_far_after (parsed.Rest r) i f =
      let empty = no_entry d k cs (l.late.2 (inr f.room)) in
      grow 5 (line_of (rest_words r)) (sections d) (sections (draft_after d (parsed.Rest r)))
      (both_of (open_more d f.after.body) (both_of refl (both_of refl (both_of refl (both_of refl
      (with_rest (map_last (λ x. line_of (rest_words x)) d.rests r) empty))))))
  so_far_after (parsed.Entry e) i f =
      let none_yet = lacks_none d.entry i.2 in
      let empty = no_points d k cs none_yet in
      let w = line_of (entry_words cs e) in
      grow 6 w (sections d) (sections (draft_after d (parsed.Entry e)))
      (both_of (open_more d f.after.body) (both_of refl (both_of refl (both_of refl (both_of refl (both_of refl
      (with_rest (ap (λ o. entry_line cs o ++ w ∷ []) (sym none_yet)) empty)))))))
  so_far_after (parsed.Point p) i f =
      let empty = no_end d k cs f.room in
      grow 7 (line_of (point_words cs p)) (sections d) (sections (draft_after d (parsed.Point p)))
      (both_of (open_more d f.after.body) (both_of refl (both_of refl (both_of refl (both_of refl (both_of refl (both_of refl
      (with_rest (map_last (λ x. line_of (point_words cs x)) d.points p) empty))))))))
  so_far_after parsed.End i f =
      grow 8 (codes "end") (sections d) (sections (draft_after d parsed.End))
      (both_of (open_more d f) (both_of refl (both_of refl (both_of refl (both_of refl (both_of refl (both_of refl (both_of refl
      (with_rest (ap (λ t. end_line t ++ codes "end" ∷ []) (sym i.2)) tt)))))))))

-- the whole text

abbrev pub later_lines : Version → Cert → Lines
later_lines v c =
    line_of (size_words c) ∷ line_of (irq_words c.head) ∷ line_of (stack_words c.head)
    ∷ (map (λ m. line_of (cell_words m)) c.head.cells.items
    ++ schedule_lines v c.schedule (map (λ r. line_of (rest_words r)) c.rests ++ state_lines c.head.cells.items c.entry c.points))

abbrev flat_then : List Lines → Lines → Lines
flat_then [] ys = ys
flat_then (xs ∷ rest) ys = xs ++ flat_then rest ys

flat_onto : (xs : List Lines) (ys : Lines) → flat xs ++ ys ≡ flat_then xs ys
flat_onto [] ys = refl
flat_onto (x ∷ xs) ys = append_assoc x (flat xs) ys ∙ ap (λ t. x ++ t) (flat_onto xs ys)

pub whole_text : (d : Draft) (e : Entry) → Kept d → 4 ≤ d.read → IsWhole d → d.entry ≡ Some e
    → so_far d ++ [] ∷ [] ≡ later_lines d.version (cert_from d e)
whole_text d e k b w is =
    let few_kinds = k.schedule.1.few in
    let all_kinds = w.states.kinds in
    let few_lines = k.schedule.3.few in
    let all_lines = w.states.lines in
    let few_rests = k.states.0.few in
    let all_rests = w.rests in
    let few_points = k.states.2.few in
    let all_points = w.points in
    let few_cells = k.cells.few in
    let all_cells = w.states.after.cells in
    let kinds_are : d.sizes.kinds ≡ length d.kinds = omega (arith, few_kinds, all_kinds) in
    let lines_are : d.sizes.lines ≡ length d.lines = omega (arith, few_lines, all_lines) in
    let rests_are : d.sizes.rests ≡ length d.rests = omega (arith, few_rests, all_rests) in
    let points_are : d.sizes.points ≡ length d.points = omega (arith, few_points, all_points) in
    let cells_are : d.sizes.cells ≡ length d.head.cells.items = omega (arith, few_cells, all_cells) in
    flat_onto (sections d) ([] ∷ [])
    ∙ (λ i. opened_all i ++ (cell_lines ++ (kinds i ++ (fall i ++ (run_lines ++ (rest_lines ++ (entry i ++ (point_lines
    ++ (end i ++ [] ∷ [])))))))))
    ∙ ap (λ t. opening d ++ (cell_lines ++ t)) (kinds_split d.version d.kinds d.lengths late)
    ∙ (λ i. line_of (sizes_words (record {
      kinds = kinds_are i;
      lines = lines_are i;
      rests = rests_are i;
      points = points_are i;
      cells = cells_are i;
    })) ∷ line_of (response_words d.head.irq) ∷ line_of (stack_words d.head) ∷ (cell_lines ++ kinds_then d.version d.kinds d.lengths late))
  where
    opened_all : take (d.read - 1) (opening d) ≡ opening d
    opened_all = open_take d.read _ _ _ b

    cell_lines : Lines
    cell_lines = map (λ c. line_of (cell_words c)) d.head.cells.items

    run_lines : Lines
    run_lines = map (λ r. line_of (run_words r)) (runs_of d.lines)

    rest_lines : Lines
    rest_lines = map (λ r. line_of (rest_words r)) d.rests

    point_lines : Lines
    point_lines = map (λ p. line_of (point_words d.head.cells.items p)) d.points

    late : Lines
    late = line_of (codes "fall" ∷ decimal d.fall ∷ [])
        ∷ (run_lines ++ (rest_lines ++ state_lines d.head.cells.items e d.points))

    kinds : kinds_so_far d ≡ kinds_then d.version d.kinds d.lengths []
    kinds =
        ap (λ n. kinds_then d.version d.kinds d.lengths [] ++ begun_lines d.version n d.events d.clocks) w.states.none_owed
        ∙ append-nil (kinds_then d.version d.kinds d.lengths [])

    fall : fall_line d.fall ≡ line_of (codes "fall" ∷ decimal d.fall ∷ []) ∷ []
    fall = else_so (eqb d.fall 0) [] (line_of (codes "fall" ∷ decimal d.fall ∷ []) ∷ []) (not_number d.fall 0 w.states.fall)

    entry : entry_line d.head.cells.items d.entry ≡ line_of (entry_words d.head.cells.items e) ∷ []
    entry = ap (entry_line d.head.cells.items) is

    end : end_line d.ended ≡ codes "end" ∷ []
    end = ap end_line w.ended
