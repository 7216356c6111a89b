-- What the cut of an image into records is.
use Rattle.std.proofs.Common.{◌≡◌, ℕ, zero, suc, ◌+◌, ◌<◌, ◌≤◌, ◌==◌, ◌&&◌, Bool, true, false, cond, List, [], ◌∷◌, ◌++◌, length, get_or}
use Rattle.std.proofs.Common.{Option, Some, None, inl, inr, refl, sym, ap, subst, ◌∙◌, arith, append_assoc, zero-add, length-append}
use Rattle.std.specs.Prelude.{nat_lt}
use Rattle.std.specs.List.{AllByRecursion}
use Rattle.std.specs.Ordering.{nat_cmp}
use Rattle.std.specs.Cmp.{nat_cmp_total}
use Rattle.std.specs.FinMap.{FinMap, empty, entries, put, entries-insert, len-entries, len-empty}
use Rattle.std.proofs.lemmas.Bool.Decides.{nat_tests}
use Rattle.std.proofs.lemmas.List.{append-nil}
use Rattle.uz_hex.specs.Cells.{present, held_from}
use Rattle.uz_hex.specs.Records.{Record, numbered, placed, HoldsByteAt}
use Rattle.uz_hex.specs.HexText.{Holds}
use Rattle.uz_hex.specs.Writing.{data_record, closed, goes_on, cut, records_of, IsDataRecord, FullBefore, IsCutOf}
use Rattle.uz_hex.proofs.CellsLemmas.{get-present_0}

-- ---- the entries of cells

no_entries : (es : List (ℕ × ℕ)) → length es ≡ 0 → es ≡ []
no_entries [] h = refl
no_entries (e ∷ es) h = absurd (omega arith)

put_front : (cells : List (Option ℕ)) (from at byte : ℕ) → at < from → put nat_cmp at byte (held_from from cells) ≡ (at, byte) ∷ held_from
    from cells
put_front [] from at byte h = refl
put_front (None ∷ cells) from at byte h = put_front cells (suc from) at byte (omega arith)
put_front (Some b ∷ cells) from at byte h = grind (arith, nat_tests)

pub entries-present : (cells : List (Option ℕ)) (at : ℕ) → entries (present at cells) ≡ held_from at cells
entries-present [] at = no_entries (entries empty) (sym (len-entries (empty {X = ℕ} {R = nat_cmp})) ∙ len-empty nat_cmp ℕ)
entries-present (None ∷ cells) at = entries-present cells (suc at)
entries-present (Some b ∷ cells) at =
    entries-insert nat_cmp_total (present (suc at) cells) at b ∙ (ap (put nat_cmp at b) (entries-present cells (suc at)) ∙ put_front cells
    (suc at) at b (omega arith))

-- the bytes of cells are those that the list gives
held_gives : (cells : List (Option ℕ)) (from at byte : ℕ) → HoldsByteAt (held_from from cells) at byte → (k : ℕ) × (at ≡ from + k)
    × (get_or cells k None ≡ Some byte)
held_gives [] from at byte g = absurd g
held_gives (None ∷ cells) from at byte g = let r = held_gives cells (suc from) at byte g in let e = r.1 in (suc r.0, omega arith, r.2)
held_gives (Some b ∷ cells) from at byte (inl here) = let e = here.0 in (0, omega arith, ap Some here.1)
held_gives (Some b ∷ cells) from at byte (inr later) = let r = held_gives cells (suc from) at byte later in let e = r.1 in
    (suc r.0, omega arith, r.2)

gives_held : (cells : List (Option ℕ)) (from k byte at : ℕ) → at ≡ from + k → get_or cells k None ≡ Some byte
    → HoldsByteAt (held_from from cells)
    at byte
gives_held [] from k byte at e h = cc h
gives_held (None ∷ cells) from zero byte at e h = cc h
gives_held (None ∷ cells) from (suc k) byte at e h = gives_held cells (suc from) k byte at (omega arith) h
gives_held (Some b ∷ cells) from zero byte at e h = inl (omega arith, cc h)
gives_held (Some b ∷ cells) from (suc k) byte at e h = inr (gives_held cells (suc from) k byte at (omega arith) h)

pub holds-present : (cells : List (Option ℕ)) → Holds (present 0 cells) (entries (present 0 cells))
holds-present cells at byte = (
  λ g. subst (λ es. HoldsByteAt es at byte) (sym (entries-present cells 0)) (gives_held cells 0 at byte at (sym (zero-add at))
      (sym (get-present_0 cells at) ∙ g)),
  λ g.
      let r = held_gives cells 0 at byte (subst (λ es. HoldsByteAt es at byte) (entries-present cells 0) g) in
      let e = r.1 in
      let same : at ≡ r.0 = omega arith in
      get-present_0 cells at ∙ (ap (λ k. get_or cells k None) same ∙ r.2),
)

-- ---- each record has 1 to 16 data bytes

-- with a bound on what stands already
each_after : (start : ℕ) (bytes : List ℕ) (records : List Record) → length bytes ≤ 16 → AllByRecursion IsDataRecord records → AllByRecursion
    IsDataRecord (closed start bytes ++ records)
each_after start [] records h all = all
each_after start (b ∷ bytes) records h all = (record { kind = refl; some = omega arith; most = h }, all)

goes_on_few : (start at : ℕ) (bytes : List ℕ) → goes_on start bytes at ≡ true → (at ≡ start + length bytes) × (length bytes < 16)
goes_on_few start at bytes h = (grind (arith, nat_tests), grind (arith, nat_tests))

stops : (start at n : ℕ) → ((at == start + n) && nat_lt n 16) ≡ false → at ≡ start + n → 16 ≤ n
stops start at n h e = grind (arith, nat_tests)

pub cut_each : (es : List (ℕ × ℕ)) (start : ℕ) (bytes : List ℕ) → length bytes ≤ 16 → AllByRecursion IsDataRecord (cut start bytes es)
cut_each [] start bytes h = subst (AllByRecursion IsDataRecord) (append-nil (closed start bytes)) (each_after start bytes [] h tt)
cut_each (e ∷ es) start bytes h = each_by (goes_on start bytes e.0) refl
    (λ on. cut_each es start (bytes ++ e.1 ∷ []) (let few = goes_on_few start e.0 bytes on in simp length-append (omega arith)))
    (cut_each es e.0 (e.1 ∷ []) (omega arith))
  where
    each_by : (b : Bool) → goes_on start bytes e.0 ≡ b → (goes_on start bytes e.0 ≡ true → AllByRecursion IsDataRecord
        (cut start (bytes ++ e.1 ∷ []) es))
        → AllByRecursion IsDataRecord (cut e.0 (e.1 ∷ []) es)
        → AllByRecursion IsDataRecord (cond b (cut start (bytes ++ e.1 ∷ []) es) (closed start bytes ++ cut e.0 (e.1 ∷ []) es))
    each_by true is on off = on is
    each_by false is on off = each_after start bytes (cut e.0 (e.1 ∷ []) es) h off

-- ---- they give the entries

numbered_push : (at : ℕ) (bytes : List ℕ) (b : ℕ) → numbered at (bytes ++ b ∷ []) ≡ numbered at bytes ++ (at + length bytes, b) ∷ []
numbered_push at [] b = ap (λ n. (n, b) ∷ []) (omega arith)
numbered_push at (byte ∷ bytes) b = ap (λ xs. (at, byte) ∷ xs) (numbered_push (suc at) bytes b
    ∙ ap (λ n. numbered (suc at) bytes ++ (n, b) ∷ []) (omega arith))

closed_placed : (start : ℕ) (bytes : List ℕ) (records : List Record) → placed 0 (closed start bytes ++ records) ≡ numbered start bytes
    ++ placed 0 records
closed_placed start [] records = refl
closed_placed start (b ∷ bytes) records = ap (λ at. numbered at (b ∷ bytes) ++ placed 0 records) (zero-add start)

pub cut_placed : (es : List (ℕ × ℕ)) (start : ℕ) (bytes : List ℕ) → placed 0 (cut start bytes es) ≡ numbered start bytes ++ es
cut_placed [] start bytes = ap (placed 0) (sym (append-nil (closed start bytes))) ∙ closed_placed start bytes []
cut_placed (e ∷ es) start bytes = placed_by (goes_on start bytes e.0) refl (cut_placed es start (bytes ++ e.1 ∷ []))
    (cut_placed es e.0 (e.1 ∷ []))
  where
    placed_by : (b : Bool) → goes_on start bytes e.0 ≡ b → placed 0 (cut start (bytes ++ e.1 ∷ []) es) ≡ numbered start (bytes ++ e.1 ∷ [])
        ++ es
        → placed 0 (cut e.0 (e.1 ∷ []) es) ≡ numbered e.0 (e.1 ∷ []) ++ es
        → placed 0 (cond b (cut start (bytes ++ e.1 ∷ []) es) (closed start bytes ++ cut e.0 (e.1 ∷ []) es)) ≡ numbered start bytes
        ++ e ∷ es
    placed_by true is on off =
        let few = goes_on_few start e.0 bytes is in
        on ∙ (ap (λ xs. xs ++ es) (numbered_push start bytes e.1) ∙ (append_assoc (numbered start bytes) ((start + length bytes, e.1) ∷ [])
        es ∙ ap (λ at. numbered start bytes ++ (at, e.1) ∷ es) (sym few.0)))
    placed_by false is on off = closed_placed start bytes (cut e.0 (e.1 ∷ []) es) ∙ ap (λ xs. numbered start bytes ++ xs) off

-- ---- only a run's last record isn't full

-- a cut with bytes begins with a record at their address
abbrev StartsAt : ℕ → List Record → Type 0
StartsAt start records = (r : Record) × (rest : List Record) × (records ≡ r ∷ rest) × (r.address ≡ start)

cut_head : (es : List (ℕ × ℕ)) (start b : ℕ) (bytes : List ℕ) → StartsAt start (cut start (b ∷ bytes) es)
cut_head [] start b bytes = (data_record start (b ∷ bytes), [], refl, refl)
cut_head (e ∷ es) start b bytes = head_by (goes_on start (b ∷ bytes) e.0) (cut_head es start b (bytes ++ e.1 ∷ []))
  where
    head_by : (t : Bool) → StartsAt start (cut start (b ∷ bytes ++ e.1 ∷ []) es)
        → StartsAt start (cond t (cut start ((b ∷ bytes) ++ e.1 ∷ []) es) (closed start (b ∷ bytes) ++ cut e.0 (e.1 ∷ []) es))
    head_by true on = on
    head_by false on = (data_record start (b ∷ bytes), cut e.0 (e.1 ∷ []) es, refl, refl)

full_after : (start : ℕ) (bytes : List ℕ) (next : ℕ) (records : List Record) → StartsAt next records
    → (next ≡ start + length bytes → length bytes ≡ 16)
    → FullBefore records → FullBefore (closed start bytes ++ records)
full_after start [] next records head last full = full
full_after start (b ∷ bytes) next records head last full =
    subst (λ rs. FullBefore (data_record start (b ∷ bytes) ∷ rs)) (sym head.2)
    ((λ e. last (sym head.3 ∙ e)), subst FullBefore head.2 full)

closed_full : (start : ℕ) (bytes : List ℕ) → FullBefore (closed start bytes)
closed_full start [] = tt
closed_full start (b ∷ bytes) = tt

pub cut_full : (es : List (ℕ × ℕ)) (start : ℕ) (bytes : List ℕ) → length bytes ≤ 16 → FullBefore (cut start bytes es)
cut_full [] start bytes h = closed_full start bytes
cut_full (e ∷ es) start bytes h = full_by (goes_on start bytes e.0) refl
    (λ on. cut_full es start (bytes ++ e.1 ∷ []) (let few = goes_on_few start e.0 bytes on in simp length-append (omega arith)))
    (cut_full es e.0 (e.1 ∷ []) (omega arith))
  where
    full_by : (b : Bool) → goes_on start bytes e.0 ≡ b → (goes_on start bytes e.0 ≡ true → FullBefore (cut start (bytes ++ e.1 ∷ []) es))
        → FullBefore (cut e.0 (e.1 ∷ []) es)
        → FullBefore (cond b (cut start (bytes ++ e.1 ∷ []) es) (closed start bytes ++ cut e.0 (e.1 ∷ []) es))
    full_by true is on off = on is
    full_by false is on off = full_after start bytes e.0 (cut e.0 (e.1 ∷ []) es) (cut_head es e.0 e.1 [])
        (λ at. let many = stops start e.0 (length bytes) is at in omega arith) off

-- the records of an image are its cut
pub records_cut : (image : FinMap nat_cmp ℕ) → IsCutOf image (records_of image)
records_cut image = record {
  each = cut_each (entries image) 0 [] (omega arith);
  whole = cut_placed (entries image) 0 [];
  full = cut_full (entries image) 0 [] (omega arith);
}
