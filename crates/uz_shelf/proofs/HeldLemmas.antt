-- The map of the files of the shelf in memory: what it has under a name, and writes to it.
use Rattle.std.proofs.Common.{◌≡◌, ℕ, Bool, true, false, cond, List, [], ◌∷◌, ◌++◌, ◌<◌, ◌≢◌, length, take, refl, sym, ◌∙◌, ap, bytes_eq}
use Rattle.std.proofs.Common.{if◌then◌else◌, slice_index_or, slice_set, arith}
use Rattle.std.proofs.lemmas.List.{append-nil}
use Rattle.std.specs.Prelude.{Option, Some, None, unwrap_or, Result, Ok, Err, is_ok, IsSome, IfSome, OnOk, OnErr}
use Rattle.std.specs.List.{insert as list_insert}
use Rattle.std.proofs.lemmas.Slice.Eq.{bytes_eq-Decides}
use Rattle.std.specs.Ordering.{nat_cmp, eq_by_cmp, is_eq}
use Rattle.std.specs.Cmp.{tied_itself}
use Rattle.std.specs.Cmp.Lexicographic.{slice_cmp, texts_ties, nat_list_cmp_total}
use Rattle.std.specs.FinMap.{get, insert, get-insert, get-empty, same_map, slice_cmp-IsAntisymmetric, nat_cmp-IsAntisymmetric}
use Rattle.uz_shelf.specs.Files.{FileMap, bytes_so_far, AppendsAll, AppendsPrefix}
use Rattle.uz_shelf.specs.InMemory.{files_of, bytes_of, first_name, open_in}
use Rattle.uz_shelf.specs.declared.memory_shelf.File.{File}

pub get_files : (files : List File) (name : List ℕ) → get (files_of files) name ≡ bytes_of files name
get_files [] name = get-empty (slice_cmp nat_cmp) name
get_files (f ∷ fs) name =
    get-insert nat_list_cmp_total (files_of fs) f.name.items f.bytes.items name
    ∙ (ap (λ b. cond b (Some f.bytes.items) (get (files_of fs) name)) (sym (texts_ties name f.name.items))
    ∙ ap (cond (bytes_eq name f.name.items) (Some f.bytes.items)) (get_files fs name))

same_files : (m n : FileMap) → ((q : List ℕ) → get m q ≡ get n q) → m ≡ n
same_files = same_map nat_list_cmp_total (slice_cmp-IsAntisymmetric nat_cmp-IsAntisymmetric)

-- a file that is written twice has the later bytes
pub insert_again : (m : FileMap) (name old new : List ℕ) → insert (insert m name old) name new ≡ insert m name new
insert_again m name old new = same_files _ _ (λ q.
    get-insert nat_list_cmp_total (insert m name old) name new q
    ∙ (ap (cond (eq_by_cmp (slice_cmp nat_cmp) q name) (Some new)) (get-insert nat_list_cmp_total m name old q)
    ∙ (inner (eq_by_cmp (slice_cmp nat_cmp) q name) (get m q)
    ∙ sym (get-insert nat_list_cmp_total m name new q))))
  where
    inner : (b : Bool) (x : Option (List ℕ)) → cond b (Some new) (cond b (Some old) x) ≡ cond b (Some new) x
    inner true x = refl
    inner false x = refl

apart_of : (x y q : List ℕ) → y ≢ x → eq_by_cmp (slice_cmp nat_cmp) q x ≡ true → eq_by_cmp (slice_cmp nat_cmp) q y ≡ true → ⊥
apart_of x y q apart with_x with_y =
    let to_x : q ≡ x = (bytes_eq-Decides q x).0 (texts_ties q x ∙ with_x) in
    let to_y : q ≡ y = (bytes_eq-Decides q y).0 (texts_ties q y ∙ with_y) in
    apart (sym to_y ∙ to_x)

-- tests that don't hold together may be asked in either order
swapped : (a b : Bool) (x y : List ℕ) (z : Option (List ℕ)) → (a ≡ true → b ≡ true → ⊥) → cond a (Some x) (cond b (Some y) z) ≡ cond b
    (Some y) (cond a (Some x) z)
swapped true true x y z apart = absurd (apart refl refl)
swapped true false x y z apart = refl
swapped false b x y z apart = refl

-- writes of two files may come in either order
insert_swapped : (m : FileMap) (first second x y : List ℕ) → second ≢ first → insert (insert m second y) first x ≡ insert (insert m first x)
    second y
insert_swapped m first second x y apart = same_files _ _ (λ q.
    get-insert nat_list_cmp_total (insert m second y) first x q
    ∙ (ap (cond (eq_by_cmp (slice_cmp nat_cmp) q first) (Some x)) (get-insert nat_list_cmp_total m second y q)
    ∙ (swapped (eq_by_cmp (slice_cmp nat_cmp) q first) (eq_by_cmp (slice_cmp nat_cmp) q second) x y (get m q)
    (apart_of first second q apart)
    ∙ (ap (cond (eq_by_cmp (slice_cmp nat_cmp) q second) (Some y)) (sym (get-insert nat_list_cmp_total m first x q))
    ∙ sym (get-insert nat_list_cmp_total (insert m first x) second y q)))))

-- the first file may stand behind another
files_of-behind : (f g : File) (fs : List File) → Some f.name.items ≢ Some g.name.items → files_of (f ∷ g ∷ fs) ≡ insert (files_of (f ∷ fs))
    g.name.items g.bytes.items
files_of-behind f g fs apart = insert_swapped (files_of fs) f.name.items g.name.items f.bytes.items g.bytes.items
    (λ e. apart (ap Some (sym e)))

-- the first file with other bytes
files_of-replaced : (f g : File) (fs : List File) → g.name.items ≡ f.name.items → files_of (g ∷ fs) ≡ insert (files_of (f ∷ fs))
    f.name.items g.bytes.items
files_of-replaced f g fs same =
    ap (λ n. insert (files_of fs) n g.bytes.items) same
    ∙ sym (insert_again (files_of fs) f.name.items f.bytes.items g.bytes.items)

-- the first file's bytes
so_far-first : (f : File) (fs : List File) → bytes_so_far (files_of (f ∷ fs)) f.name.items ≡ f.bytes.items
so_far-first f fs =
    ap (λ o. unwrap_or o []) (get-insert nat_list_cmp_total (files_of fs) f.name.items f.bytes.items f.name.items)
    ∙ ap (λ b. unwrap_or (cond b (Some f.bytes.items) (get (files_of fs) f.name.items)) [])
    (ap is_eq (tied_itself nat_list_cmp_total f.name.items))

appends_open : (is_open : Bool) (m n : FileMap) (name piece : List ℕ) → IsSome (cond is_open (Some name) None) → n ≡ insert m name
    (bytes_so_far m name ++ piece) → AppendsAll (Some m) (cond is_open (Some name) None) piece (Some n)
appends_open true m n name piece opened e = ap Some e
appends_open false m n name piece opened e = absurd cc

-- the first file, grown by a piece
extended : (files : List File) (f g : File) (piece : List ℕ) → f ≡ slice_index_or files 0 f → IsSome (open_in files)
    → g.name.items ≡ f.name.items → g.bytes.items ≡ f.bytes.items ++ piece → AppendsAll (Some (files_of files)) (open_in files) piece
    (Some (files_of (slice_set files 0 g)))
extended [] f g piece at opened named grown = absurd cc
extended (h ∷ hs) f g piece at opened named grown =
    appends_open h.is_open (files_of (h ∷ hs)) (files_of (g ∷ hs)) h.name.items piece opened
    (files_of-replaced h g hs (named ∙ ap (λ x. x.name.items) at)
    ∙ ap (insert (files_of (h ∷ hs)) h.name.items)
    (grown ∙ (ap (λ x. x.bytes.items ++ piece) at ∙ ap (λ b. b ++ piece) (sym (so_far-first h hs)))))

pub extended_ok : {A E : Type 0} (r : Result A E) (files : List File) (f g : File) (piece : List ℕ) → f ≡ slice_index_or files 0 f
    → IsSome (open_in files) → g.name.items ≡ f.name.items → g.bytes.items ≡ (if is_ok r then f.bytes.items ++ piece else f.bytes.items)
    → OnOk r (AppendsAll (Some (files_of files)) (open_in files) piece (Some (files_of (slice_set files 0 g))))
extended_ok (Ok x) files f g piece at opened named grown = extended files f g piece at opened named grown
extended_ok (Err e) files f g piece at opened named grown = tt

pub extended_err : {A E : Type 0} (r : Result A E) (files : List File) (f g : File) (piece : List ℕ) → f ≡ slice_index_or files 0 f
    → IsSome (open_in files) → g.name.items ≡ f.name.items → g.bytes.items ≡ (if is_ok r then f.bytes.items ++ piece else f.bytes.items)
    → OnErr r (AppendsPrefix (Some (files_of files)) (open_in files) piece (Some (files_of (slice_set files 0 g))))
extended_err (Ok x) files f g piece at opened named grown = tt
extended_err (Err e) files f g piece at opened named grown =
    (0, extended files f g (take 0 piece) at opened named (grown ∙ sym (append-nil _)))

pub replaced_first : (files : List File) (f g : File) → f ≡ slice_index_or files 0 f → g.name.items ≡ f.name.items
    → IfSome (first_name files) (λ name. files_of (slice_set files 0 g) ≡ insert (files_of files) name g.bytes.items)
replaced_first [] f g at named = tt
replaced_first (h ∷ hs) f g at named = files_of-replaced h g hs (named ∙ ap (λ x. x.name.items) at)

pub files_of-insert_behind : (files : List File) (g : File) → first_name files ≢ Some g.name.items → 0 < length files
    → files_of (list_insert files 1 g) ≡ insert (files_of files) g.name.items g.bytes.items
files_of-insert_behind [] g apart some = absurd (omega arith)
files_of-insert_behind (f ∷ fs) g apart some = files_of-behind f g fs apart
