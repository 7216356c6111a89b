-- A file that is created and then written, and a line.
use Rattle.std.proofs.Common.{◌≡◌, ◌≢◌, Bool, true, false, inl, inr, ℕ, ◌+◌, cond, List, [], ◌∷◌, ◌++◌, length, take, refl, sym, ap}
use Rattle.std.proofs.Common.{subst, ◌∙◌}
use Rattle.std.specs.Prelude.{Option, Some, None, min, unwrap_or, Result, Ok, Err, OnOk, OnErr}
use Rattle.std.proofs.lemmas.List.{take-append-le, take_min}
use Rattle.std.proofs.Math.Nat.{min-le_right}
use Rattle.std.proofs.Math.Seq.{take-append-add}
use Rattle.std.specs.Ordering.{eq_by_cmp, is_eq, nat_cmp}
use Rattle.std.specs.Cmp.{tied_itself}
use Rattle.std.specs.Cmp.Lexicographic.{nat_list_cmp_total, slice_cmp, texts_ties}
use Rattle.std.proofs.lemmas.Slice.Eq.{bytes_eq-Decides}
use Rattle.std.specs.FinMap.{get, insert, get-insert}
use Rattle.uz_shelf.specs.Files.{FileMap, HoldsFile, AppendsAll, AppendsPrefix, Creates, CreatesOrKeeps, bytes_so_far}
use Rattle.uz_shelf.specs.Text.{TakesAll}
use Rattle.uz_shelf.proofs.HeldLemmas.{insert_again}
use Rattle.uz_files.specs.declared.status.Status.{Status}
use Rattle.uz_files.specs.declared.status.Status.TheVariants.{Unwritten, NoMemory}
use Rattle.uz_files.specs.Answers.{Answer, ComesOf, IsCut, Write, WritesAll, WritesFile, WritesPart, one_line, outside}
use Rattle.uz_files.specs.Writing.{WritesSome}
use Rattle.uz_files.proofs.TextLemmas.{takes_none}

-- a file that was written has just those bytes
so_far : (m : FileMap) (name bytes : List ℕ) → bytes_so_far (insert m name bytes) name ≡ bytes
so_far m name bytes =
    ap (λ o. unwrap_or o []) (get-insert nat_list_cmp_total m name bytes name)
    ∙ ap (λ b. unwrap_or (cond b (Some bytes) (get m name)) []) (ap is_eq (tied_itself nat_list_cmp_total name))

-- a file that is written goes on by a piece
pub write_append : (old mid new : Option FileMap) (opened : Option (List ℕ)) (name before piece : List ℕ) → WritesFile old name before mid
    → opened ≡ Some name → AppendsAll mid opened piece new → WritesFile old name (before ++ piece) new
write_append None mid new opened name before piece written is appends = subst (λ m. AppendsAll m opened piece new) written appends
write_append (Some m) mid new opened name before piece written is appends =
    let at_name : AppendsAll mid (Some name) piece new = subst (λ o. AppendsAll mid o piece new) is appends in
    let at_new : new ≡ Some (insert (insert m name before) name (bytes_so_far (insert m name before) name ++ piece)) =
    subst (λ x. AppendsAll x (Some name) piece new) written at_name in
    at_new ∙ ap Some (insert_again m name before (bytes_so_far (insert m name before) name ++ piece) ∙ ap (λ b. insert m name (b ++ piece))
    (so_far m name before))

-- or by a prefix of it
pub write_append_part : (old mid new : Option FileMap) (opened : Option (List ℕ)) (name before piece : List ℕ)
    → WritesFile old name before mid → opened ≡ Some name → AppendsPrefix mid opened piece new → WritesSome old name (before ++ piece) new
write_append_part old mid new opened name before piece written is (count, appends) =
    inr (
      length before + count,
      subst (λ t. WritesFile old name t new) (sym (take-append-add before piece count))
          (write_append old mid new opened name before (take count piece) written is appends),
    )

-- a file that holds a prefix holds one of all that was to come
pub write_some_more : (old new : Option FileMap) (name bytes more : List ℕ) → WritesSome old name bytes new
    → WritesSome old name (bytes ++ more) new
write_some_more old new name bytes more (inl same) = inl same
write_some_more old new name bytes more (inr (count, written)) =
    let k = min count (length bytes) in
    let cut : take k (bytes ++ more) ≡ take count bytes =
    take-append-le k bytes more (min-le_right count (length bytes)) ∙ take_min count bytes in
    inr (k, subst (λ t. WritesFile old name t new) (sym cut) written)

-- a file is made empty, and then it goes on by these bytes
create_append : (old mid new : Option FileMap) (opened : Option (List ℕ)) (name bytes : List ℕ) → Creates old name mid → opened ≡ Some name
    → AppendsAll mid opened bytes new → WritesFile old name bytes new
create_append None mid new opened name bytes creates = write_append None mid new opened name [] bytes creates
create_append (Some m) mid new opened name bytes creates = write_append (Some m) mid new opened name [] bytes creates

create_append_part : (old mid new : Option FileMap) (opened : Option (List ℕ)) (name bytes : List ℕ) → Creates old name mid → opened ≡ Some
    name → AppendsPrefix mid opened bytes new → WritesSome old name bytes new
create_append_part old mid new opened name bytes creates is part = inr (
  part.0,
  create_append old mid new opened name (take part.0 bytes)
      creates is part.1,
)

pub create_fails : (old new : Option FileMap) (name bytes : List ℕ) → CreatesOrKeeps old name new → WritesSome old name bytes new
create_fails old new name bytes (inl same) = inl same
create_fails None new name bytes (inr creates) = inr (0, creates)
create_fails (Some m) new name bytes (inr creates) = inr (0, creates)

-- files are written, and then a line is printed
abbrev pub with_files : List Write → Status → List ℕ → Answer
with_files ws s line = record { writes = ws; printed = []; status = s; line = line }

module _ (ws : List Write) (s : Status) (line : List ℕ) (files after : Option FileMap) (written : WritesAll files ws after)
    (old new : Option (List ℕ)) where
  cut_after_files : IsCut (one_line s line) (outside after old) (outside after new)
      → IsCut (with_files ws s line) (outside files old) (outside after new)
  cut_after_files (inl (same, text)) = inr (written, (0, text))
  cut_after_files (inr (same, text)) = inr (written, text)

  pub comes_after_files : (write_fault : Type 0) (came : Status) → ComesOf (one_line s line) write_fault came (outside after old)
      (outside after new) → ComesOf (with_files ws s line) write_fault came (outside files old) (outside after new)
  comes_after_files write_fault came (inl ends) = inl (record {
    status = ends.status;
    files = written;
    done = ends.done;
    whole = ends.whole;
    text = ends.text;
  })
  comes_after_files write_fault came (inr (inl (is, fault, inl (none, part, text)))) = absurd (none refl)
  comes_after_files write_fault came (inr (inl (is, fault, inr (same, lost)))) = inr (inl (is, fault, inr (written, lost)))
  comes_after_files write_fault came (inr (inr lacks)) =
      inr (inr (lacks.0, cut_after_files lacks.1))

  -- no memory for the line
  pub lacks_line : (write_fault : Type 0) (came : Status) → came ≡ NoMemory → TakesAll old [] new
      → ComesOf (with_files ws s line) write_fault came (outside files old) (outside after new)
  lacks_line write_fault came is text = inr (inr (is, inr (written, (0, text))))

-- a fault of writing, or want of memory, in the midst of the files
pub files_cut : (w : Write) (ws : List Write) (s came : Status) (line : List ℕ) (write_fault : Type 0) (files after : Option FileMap)
    (text : Option (List ℕ)) → write_fault → came ≡ Unwritten → WritesPart files (w ∷ ws) after
    → ComesOf (with_files (w ∷ ws) s line) write_fault came (outside files text) (outside after text)
files_cut w ws s came line write_fault files after text fault is part =
    inr (inl (is, fault, inl ((λ none. cc none), part, takes_none text)))

pub files_lack : (ws : List Write) (s came : Status) (line : List ℕ) (write_fault : Type 0) (files after : Option FileMap)
    (old new : Option (List ℕ)) → came ≡ NoMemory → TakesAll old [] new → WritesPart files ws after
    → ComesOf (with_files ws s line) write_fault came (outside files old) (outside after new)
files_lack ws s came line write_fault files after old new is text part = inr (inr (is, inl (part, text)))

pub part_written : (name bytes : List ℕ) (files after : Option FileMap) → WritesSome files name bytes after
    → WritesPart files (record { name = name; bytes = bytes } ∷ []) after
part_written name bytes files after (inl same) = inl same
part_written name bytes files after (inr part) = inr (inl part)

pub appended_ok : {A E : Type 0} (r : Result A E) (old mid new : Option FileMap) (opened : Option (List ℕ)) (name bytes : List ℕ)
    → Creates old name mid → opened ≡ Some name → OnOk r (AppendsAll mid opened bytes new) → OnOk r (WritesFile old name bytes new)
appended_ok (Ok x) old mid new opened name bytes creates is appends = create_append old mid new opened name bytes creates is appends
appended_ok (Err e) old mid new opened name bytes creates is appends = tt

pub appended_err : {A E : Type 0} (r : Result A E) (old mid new : Option FileMap) (opened : Option (List ℕ)) (name bytes : List ℕ)
    → Creates old name mid → opened ≡ Some name → OnErr r (AppendsPrefix mid opened bytes new) → OnErr r (WritesSome old name bytes new)
appended_err (Ok x) old mid new opened name bytes creates is part = tt
appended_err (Err e) old mid new opened name bytes creates is part = create_append_part old mid new opened name bytes creates is part

-- What a file holds after a write

pub holds_written : (old new : Option FileMap) (name bytes : List ℕ) → WritesFile old name bytes new → HoldsFile new name bytes
holds_written None new name bytes written = subst (λ f. HoldsFile f name bytes) (sym written) tt
holds_written (Some m) new name bytes written =
    subst (λ f. HoldsFile f name bytes) (sym written)
    (get-insert nat_list_cmp_total m name bytes name ∙ ap (λ b. cond b (Some bytes) (get m name))
    (ap is_eq (tied_itself nat_list_cmp_total name)))

other_name : (b : Bool) (name other : List ℕ) (x y : Option (List ℕ)) → eq_by_cmp (slice_cmp nat_cmp) name other ≡ b → name ≢ other
    → cond b x y ≡ y
other_name true name other x y is apart = absurd (apart ((bytes_eq-Decides name other).0 (texts_ties name other ∙ is)))
other_name false name other x y is apart = refl

-- a write of another file keeps it
pub holds_after : (old new : Option FileMap) (name bytes other more : List ℕ) → name ≢ other → HoldsFile old name bytes → WritesFile old
    other more new → HoldsFile new name bytes
holds_after None new name bytes other more apart held written = subst (λ f. HoldsFile f name bytes) (sym written) tt
holds_after (Some m) new name bytes other more apart held written =
    subst (λ f. HoldsFile f name bytes) (sym written)
    (get-insert nat_list_cmp_total m other more name ∙ (other_name (eq_by_cmp (slice_cmp nat_cmp) name other) name other (Some more)
    (get m name) refl apart ∙ held))
