-- The map of files in memory: what it has under a name, and writes to it.
use Rattle.std.proofs.Common.{◌≡◌, ℕ, Bool, true, false, cond, List, [], ◌∷◌, ◌++◌, take, refl, sym, ◌∙◌, ap, bytes_eq, if◌then◌else◌, slice_index_or, slice_set}
use Rattle.std.proofs.lemmas.List.{append-nil}
use Rattle.std.specs.Prelude.{Option, Some, None, unwrap_or, Result, Ok, Err, is_ok, IsSome, OnOk, OnErr}
use Rattle.std.specs.Ordering.{nat_cmp, eq_by_cmp, is_eq}
use Rattle.std.specs.Cmp.{tied_itself}
use Rattle.std.specs.Cmp.Lexicographic.{slice_cmp, texts_ties, nat_list_cmp_total}
use Rattle.std.specs.FinMap.{get, insert, get-insert, get-empty, same_map, slice_cmp-IsAntisymmetric, nat_cmp-IsAntisymmetric}
use Rattle.uz_shelf.specs.Files.{FileMap, bytes_so_far, AppendsAll, AppendsPrefix}
use Rattle.uzebox_c.specs.Packed.{NamedFile}
use Rattle.uzebox_c.specs.Held.{map_of, bytes_of, files_of, open_in}
use Rattle.uzebox_c.specs.declared.held.Held.{Held}

pub get_named : (files : List NamedFile) (name : List ℕ) → get (map_of files) name ≡ bytes_of files name
get_named [] name = get-empty (slice_cmp nat_cmp) name
get_named (f ∷ fs) name =
    get-insert nat_list_cmp_total (map_of fs) f.0 f.1 name
    ∙ (ap (λ b. cond b (Some f.1) (get (map_of fs) name)) (sym (texts_ties name f.0))
    ∙ ap (cond (bytes_eq name f.0) (Some f.1)) (get_named fs name))

-- a file that is written twice has the later bytes
insert_again : (m : FileMap) (name old new : List ℕ) → insert (insert m name old) name new ≡ insert m name new
insert_again m name old new = same_map nat_list_cmp_total (slice_cmp-IsAntisymmetric nat_cmp-IsAntisymmetric) _ _ (λ q.
    get-insert nat_list_cmp_total (insert m name old) name new q
    ∙ (ap (cond (eq_by_cmp (slice_cmp nat_cmp) q name) (Some new)) (get-insert nat_list_cmp_total m name old q)
    ∙ (inner (eq_by_cmp (slice_cmp nat_cmp) q name) (get m q)
    ∙ sym (get-insert nat_list_cmp_total m name new q))))
  where
    inner : (b : Bool) (x : Option (List ℕ)) → cond b (Some new) (cond b (Some old) x) ≡ cond b (Some new) x
    inner true x = refl
    inner false x = refl

-- the first file's bytes
so_far : (m : FileMap) (name bytes : List ℕ) → bytes_so_far (insert m name bytes) name ≡ bytes
so_far m name bytes =
    ap (λ o. unwrap_or o []) (get-insert nat_list_cmp_total m name bytes name)
    ∙ ap (λ b. unwrap_or (cond b (Some bytes) (get m name)) []) (ap is_eq (tied_itself nat_list_cmp_total name))

appends_open : (is_open : Bool) (m n : FileMap) (name piece : List ℕ) → IsSome (cond is_open (Some name) None)
    → n ≡ insert m name (bytes_so_far m name ++ piece) → AppendsAll (Some m) (cond is_open (Some name) None) piece (Some n)
appends_open true m n name piece opened e = ap Some e
appends_open false m n name piece opened e = absurd cc

-- the first file, grown by a piece
extended : (files : List Held) (f g : Held) (piece : List ℕ) → f ≡ slice_index_or files 0 f → IsSome (open_in files)
    → g.name.items ≡ f.name.items → g.bytes.items ≡ f.bytes.items ++ piece
    → AppendsAll (Some (map_of (files_of files))) (open_in files) piece (Some (map_of (files_of (slice_set files 0 g))))
extended [] f g piece at opened named grown = absurd cc
extended (h ∷ hs) f g piece at opened named grown =
    let m = map_of (files_of hs) in
    appends_open h.is_open (map_of (files_of (h ∷ hs))) (map_of (files_of (g ∷ hs))) h.name.items piece opened
    (ap (λ n. insert m n g.bytes.items) (named ∙ ap (λ x. x.name.items) at)
    ∙ sym (insert_again m h.name.items h.bytes.items g.bytes.items)
    ∙ ap (insert (map_of (files_of (h ∷ hs))) h.name.items)
    (grown ∙ (ap (λ x. x.bytes.items ++ piece) at ∙ ap (λ b. b ++ piece) (sym (so_far m h.name.items h.bytes.items)))))

pub extended_ok : {A E : Type 0} (r : Result A E) (files : List Held) (f g : Held) (piece : List ℕ) → f ≡ slice_index_or files 0 f
    → IsSome (open_in files) → g.name.items ≡ f.name.items → g.bytes.items ≡ (if is_ok r then f.bytes.items ++ piece else f.bytes.items)
    → OnOk r (AppendsAll (Some (map_of (files_of files))) (open_in files) piece (Some (map_of (files_of (slice_set files 0 g)))))
extended_ok (Ok x) files f g piece at opened named grown = extended files f g piece at opened named grown
extended_ok (Err e) files f g piece at opened named grown = tt

pub extended_err : {A E : Type 0} (r : Result A E) (files : List Held) (f g : Held) (piece : List ℕ) → f ≡ slice_index_or files 0 f
    → IsSome (open_in files) → g.name.items ≡ f.name.items → g.bytes.items ≡ (if is_ok r then f.bytes.items ++ piece else f.bytes.items)
    → OnErr r (AppendsPrefix (Some (map_of (files_of files))) (open_in files) piece (Some (map_of (files_of (slice_set files 0 g)))))
extended_err (Ok x) files f g piece at opened named grown = tt
extended_err (Err e) files f g piece at opened named grown =
    (0, extended files f g (take 0 piece) at opened named (grown ∙ sym (append-nil _)))
