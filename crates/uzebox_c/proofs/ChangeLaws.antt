-- The files that aren't as they were handed in.
use Rattle.std.proofs.Common.{◌≡◌, ℕ, suc, ◌+◌, ◌<◌, ◌≤◌, length, arith, take, drop, drop-cons, get_or, Bool, true, false, cond, not, List, [], ◌∷◌, ◌++◌, refl, sym, ap, ◌∙◌, bytes_eq}
use Rattle.std.specs.Prelude.{Option, Some, None, is_some, if◌then◌else◌}
use Rattle.std.proofs.lemmas.Slice.Eq.{bytes_eq-Decides}
use Rattle.std.proofs.lemmas.List.{drop_all, map-append, take_more}
use Rattle.uzebox_c.specs.Packed.{NamedFile, as_texts, packed}
use Rattle.uzebox_c.specs.Held.{bytes_of, files_of, map_of}
use Rattle.uzebox_c.specs.declared.held.Held.{Held}
use Rattle.uzebox_c.specs.Changes.{changed, EachOnce, AreChanges, if_news, is_news, is_same, news_from, news_of}
use Rattle.uzebox_c.proofs.HeldLaws.{get_named}
use Rattle.uzebox_c.proofs.PackedLaws.{as_texts-append, packed-append}

-- a list with a file more at its end has that one's name
after_more : (files : List NamedFile) (file : NamedFile) (name : List ℕ) → is_some (bytes_of (files ++ file ∷ []) name)
    ≡ (if is_some (bytes_of files name) then true else bytes_eq name file.0)
after_more [] file name = last (bytes_eq name file.0)
  where
    last : (b : Bool) → is_some (cond b (Some file.1) None) ≡ b
    last true = refl
    last false = refl
after_more (f ∷ fs) file name = first (bytes_eq name f.0) (after_more fs file name)
  where
    first : (b : Bool) → is_some (bytes_of (fs ++ file ∷ []) name) ≡ (if is_some (bytes_of fs name) then true else bytes_eq name file.0)
        → is_some (cond b (Some f.1) (bytes_of (fs ++ file ∷ []) name))
        ≡ (if is_some (cond b (Some f.1) (bytes_of fs name)) then true else bytes_eq name file.0)
    first true e = refl
    first false e = e

-- what is told under a name: nothing if a newer file has it, else what changed
told : (given newer files : List NamedFile) (name : List ℕ) → bytes_of (news_from given newer files) name
    ≡ (if is_some (bytes_of newer name) then None else changed (bytes_of given name) (bytes_of files name))
unfolding news_from
told given newer [] name = nothing (is_some (bytes_of newer name))
  where
    nothing : (b : Bool) → ◌≡◌ {A = Option (List ℕ)} None (cond b None None)
    nothing true = refl
    nothing false = refl
told given newer (file ∷ files) name =
    let more = newer ++ file ∷ [] in
    let given_now = bytes_of given name in
    let is_newer = is_some (bytes_of newer name) in
    first_of (is_news given newer file) file (news_from given more files) name
    ∙ step (is_news given newer file) is_newer (bytes_eq name file.0) given_now (bytes_of files name) (bytes_of (news_from given more files) name) file.1
    (λ same. ap (λ n. cond (is_some (bytes_of newer n)) false (not (is_same (bytes_of given n) file.1))) (sym ((bytes_eq-Decides name file.0).0 same)))
    (told given more files name ∙ ap (λ b. cond b None (changed given_now (bytes_of files name))) (after_more newer file name))
  where
    first_of : (news : Bool) (f : NamedFile) (fs : List NamedFile) (n : List ℕ)
        → bytes_of (cond news (f ∷ []) [] ++ fs) n ≡ cond news (cond (bytes_eq n f.0) (Some f.1) (bytes_of fs n)) (bytes_of fs n)
    first_of true f fs n = refl
    first_of false f fs n = refl

    same_or_not : (t : Bool) (x : List ℕ) (inner : Option (List ℕ)) → inner ≡ None → cond (not t) (Some x) inner ≡ cond t None (Some x)
    same_or_not true x inner e = e
    same_or_not false x inner e = refl

    both : (news : Bool) (a b : Option (List ℕ)) → a ≡ b → cond news a a ≡ b
    both true a b e = e
    both false a b e = e

    step : (news newer_has same : Bool) (old rest inner : Option (List ℕ)) (now : List ℕ)
        → (same ≡ true → news ≡ cond newer_has false (not (is_same old now)))
        → inner ≡ cond (cond newer_has true same) None (changed old rest)
        → cond news (cond same (Some now) inner) inner ≡ cond newer_has None (changed old (cond same (Some now) rest))
    step news true false old rest inner now x i = both news inner None i
    step news false false old rest inner now x i = both news inner (changed old rest) i
    step news true true old rest inner now x i = ap (λ t. cond t (Some now) inner) (x refl) ∙ i
    step news false true None rest inner now x i = ap (λ t. cond t (Some now) inner) (x refl)
    step news false true (Some was) rest inner now x i = ap (λ t. cond t (Some now) inner) (x refl) ∙ same_or_not (bytes_eq was now) now inner i

has_itself : (files : List NamedFile) (file : NamedFile) → is_some (bytes_of (files ++ file ∷ []) file.0) ≡ true
has_itself files file = after_more files file file.0 ∙ either (is_some (bytes_of files file.0)) (bytes_eq file.0 file.0) ((bytes_eq-Decides file.0 file.0).1 refl)
  where
    either : (a b : Bool) → b ≡ true → cond a true b ≡ true
    either true b e = refl
    either false b e = e

once : (given newer files : List NamedFile) → EachOnce (news_from given newer files)
unfolding news_from
once given newer [] = tt
once given newer (file ∷ files) =
    let more = newer ++ file ∷ [] in
    by_news (is_news given newer file) (news_from given more files)
    (told given more files file.0 ∙ ap (λ b. cond b None (changed (bytes_of given file.0) (bytes_of files file.0))) (has_itself newer file))
    (once given more files)
  where
    by_news : (news : Bool) (rest : List NamedFile) → bytes_of rest file.0 ≡ None → EachOnce rest → EachOnce (cond news (file ∷ []) [] ++ rest)
    by_news true rest lacks each = (lacks, each)
    by_news false rest lacks each = each

-- the news are just the changes
pub news_are_changes : (given files : List NamedFile) → AreChanges (map_of given) (map_of files) (news_of given files)
news_are_changes given files = record {
  each = λ name. told given [] files name ∙ sym (λ i. changed (get_named given name i) (get_named files name i));
  once = once given [] files;
}

pub no_news : (given newer : List NamedFile) → news_from given newer [] ≡ []
unfolding news_from
no_news given newer = refl

-- the news from a file on
pub news_step : (given newer : List NamedFile) (file : NamedFile) (files : List NamedFile) → packed (as_texts (news_from given newer (file ∷ files)))
    ≡ packed (as_texts (if_news given newer file)) ++ packed (as_texts (news_from given (newer ++ file ∷ []) files))
unfolding news_from
news_step given newer file files =
    let rest = news_from given (newer ++ file ∷ []) files in
    ap packed (as_texts-append (if_news given newer file) rest) ∙ packed-append (as_texts (if_news given newer file)) (as_texts rest)

-- the news from a place on, in a list that is gone through by places
pub news_on : (given : List NamedFile) (files : List Held) (i : ℕ) (file : Held) → i < length files → file ≡ get_or files i file
    → packed (as_texts (news_from given (files_of (take i files)) (files_of (drop i files))))
    ≡ packed (as_texts (if_news given (files_of (take i files)) (file.name.items, file.bytes.items)))
    ++ packed (as_texts (news_from given (files_of (take (i + 1) files)) (files_of (drop (i + 1) files))))
news_on given files i file within at =
    let newer = files_of (take i files) in
    let named : NamedFile = (file.name.items, file.bytes.items) in
    let plus : suc i ≡ i + 1 = omega arith in
    let here : drop i files ≡ file ∷ drop (i + 1) files = drop-cons files i file within
    ∙ ap (λ k. get_or files i file ∷ drop k files) plus ∙ ap (λ f. f ∷ drop (i + 1) files) (sym at) in
    let one_more : files_of (take (i + 1) files) ≡ newer ++ named ∷ [] =
    ap files_of (take_more files i file within ∙ ap (λ f. take i files ++ f ∷ []) (sym at))
    ∙ map-append (λ f. (f.name.items, f.bytes.items)) (take i files) (file ∷ []) in
    ap (λ fs. packed (as_texts (news_from given newer (files_of fs)))) here
    ∙ news_step given newer named (files_of (drop (i + 1) files))
    ∙ ap (λ n. packed (as_texts (if_news given newer named)) ++ packed (as_texts (news_from given n (files_of (drop (i + 1) files))))) (sym one_more)

-- none are left behind the last place
pub news_over : (given newer : List NamedFile) (files : List Held) (i : ℕ) → length files ≤ i
    → packed (as_texts (news_from given newer (files_of (drop i files)))) ≡ []
news_over given newer files i over =
    ap (λ fs. packed (as_texts (news_from given newer (files_of fs)))) (drop_all i files over) ∙ ap (λ n. packed (as_texts n)) (no_news given newer)
