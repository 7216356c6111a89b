-- One more line of a script is read.
use Rattle.std.proofs.Common.{◌≡◌, ◌≢◌, ℕ, suc, ◌+◌, ◌<◌, ◌≤◌, Bool, true, false, if◌then◌else◌, List, [], ◌∷◌, ◌++◌, length, get_or, rules}
use Rattle.std.proofs.Common.{take, map, Bor, refl, sym, ◌∙◌, ap, subst, append-nil, arith}
use Rattle.std.specs.Prelude.{filter, ◌==◌, not}
use Rattle.std.specs.List.{slice_split}
use Rattle.std.proofs.lemmas.List.{map-append, take_all}
use Rattle.std.proofs.lemmas.List.Elements.{filter-append}
use Rattle.std.proofs.Math.Seq.{take-suc}
use Rattle.uz_hex.specs.Lines.{is_blank, line_at, lines_of_pieces}
use Rattle.uz_pads.proofs.ItemLemmas.{blank_read, faulty_at, item_read, nothing_read, whole_read}
use Rattle.uz_debug.specs.declared.command.Command.{Command}
use Rattle.uz_debug.specs.declared.script_lines.Line.TheVariants as line
use Rattle.uz_debug.specs.declared.errors.ScriptWhy.{ScriptWhy}
use Rattle.uz_debug.specs.declared.errors.ScriptWhy.TheVariants.{Word, Count}
use Rattle.uz_debug.specs.Scripts.{HasFault, IsFault, IsFirstFault, IsScript, commands_of, commands_on, has_bytes, is_good_line}
use Rattle.uz_debug.specs.Scripts.{is_well_formed, kind_in, kind_of, one_number_in, one_word_in, two_numbers_in, words_of}

pub read_none : (pieces : List (Bor (List ℕ))) → IsScript (take 0 (lines_of_pieces (map (λ piece. piece.now) pieces))) []
read_none pieces = nothing_read commands_on is_good_line pieces

pub read_blank : (pieces : List (Bor (List ℕ))) (at : ℕ) (commands : List Command) → at < length pieces
    → kind_of (line_at (map (λ piece. piece.now) pieces) at) ≡ line.Blank →
    IsScript (take at (lines_of_pieces (map (λ piece. piece.now) pieces))) commands
    → IsScript (take (at + 1) (lines_of_pieces (map (λ piece. piece.now) pieces))) commands
read_blank pieces at commands h e r =
    blank_read commands_on is_good_line pieces at commands h (ap commands_of e) (ap is_well_formed e) r

pub read_command : (pieces : List (Bor (List ℕ))) (at : ℕ) (commands : List Command) (command : Command) → at < length pieces
    → kind_of (line_at (map (λ piece. piece.now) pieces) at) ≡ line.Command command → length commands ≢ 65536 →
    IsScript (take at (lines_of_pieces (map (λ piece. piece.now) pieces))) commands
    → IsScript (take (at + 1) (lines_of_pieces (map (λ piece. piece.now) pieces))) (commands ++ command ∷ [])
read_command pieces at commands command h e ne r =
    item_read commands_on is_good_line pieces at commands command h (ap commands_of e) (ap is_well_formed e) ne r

pub read_all : (pieces : List (Bor (List ℕ))) (at : ℕ) (commands : List Command) → length pieces ≤ at
    → IsScript (take at (lines_of_pieces (map (λ piece. piece.now) pieces))) commands →
    IsScript (lines_of_pieces (map (λ piece. piece.now) pieces)) commands
read_all pieces at commands h r = whole_read commands_on is_good_line pieces at commands h r

pub faulty : (pieces : List (Bor (List ℕ))) (at : ℕ) (commands : List Command) (why : ScriptWhy) → at < length pieces
    → kind_of (line_at (map (λ piece. piece.now) pieces) at) ≡ line.Faulty why →
    IsScript (take at (lines_of_pieces (map (λ piece. piece.now) pieces))) commands
    → IsFirstFault (lines_of_pieces (map (λ piece. piece.now) pieces)) (at + 1) why
faulty pieces at commands why h e r = faulty_at commands_on is_good_line HasFault pieces at commands why h
    (subst (λ kind. IsFault kind (length commands) why) (sym e) refl) r

pub count_fault : (pieces : List (Bor (List ℕ))) (at : ℕ) (commands : List Command) (command : Command) → at < length pieces
    → kind_of (line_at (map (λ piece. piece.now) pieces) at) ≡ line.Command command → length commands ≡ 65536 →
    IsScript (take at (lines_of_pieces (map (λ piece. piece.now) pieces))) commands
    → IsFirstFault (lines_of_pieces (map (λ piece. piece.now) pieces)) (at + 1) Count
count_fault pieces at commands command h e full r = faulty_at commands_on is_good_line HasFault pieces at commands Count h
    (subst (λ kind. IsFault kind (length commands) Count) (sym e) (full, refl)) r

-- more than three words are no command
pub many_words : (words : List (List ℕ)) → 4 ≤ length words → line.Faulty Word ≡ kind_in words
many_words [] h = absurd (omega arith)
many_words (a ∷ []) h = absurd (omega arith)
many_words (a ∷ b ∷ []) h = absurd (omega arith)
many_words (a ∷ b ∷ c ∷ []) h = absurd (omega arith)
many_words (a ∷ b ∷ c ∷ d ∷ more) h = refl

-- one word, two and three
pub one_word_kind : (words : List (Bor (List ℕ))) (d : Bor (List ℕ)) → 1 ≤ length words → length words < 2
    → one_word_in (get_or words 0 d).now ≡ kind_in (map (λ word. word.now) words)
one_word_kind [] d low high = absurd (omega arith)
one_word_kind (a ∷ []) d low high = refl
one_word_kind (a ∷ b ∷ more) d low high = absurd (omega arith)

pub one_number_kind : (words : List (Bor (List ℕ))) (d e : Bor (List ℕ)) → 2 ≤ length words → length words < 3
    → one_number_in (get_or words 0 d).now (get_or words 1 e).now ≡ kind_in (map (λ word. word.now) words)
one_number_kind [] d e low high = absurd (omega arith)
one_number_kind (a ∷ []) d e low high = absurd (omega arith)
one_number_kind (a ∷ b ∷ []) d e low high = refl
one_number_kind (a ∷ b ∷ c ∷ more) d e low high = absurd (omega arith)

pub two_numbers_kind : (words : List (Bor (List ℕ))) (d e f : Bor (List ℕ)) → 3 ≤ length words → length words < 4
    → two_numbers_in (get_or words 0 d).now (get_or words 1 e).now (get_or words 2 f).now ≡ kind_in (map (λ word. word.now) words)
two_numbers_kind [] d e f low high = absurd (omega arith)
two_numbers_kind (a ∷ []) d e f low high = absurd (omega arith)
two_numbers_kind (a ∷ b ∷ []) d e f low high = absurd (omega arith)
two_numbers_kind (a ∷ b ∷ c ∷ []) d e f low high = refl
two_numbers_kind (a ∷ b ∷ c ∷ g ∷ more) d e f low high = absurd (omega arith)

-- a piece is a word where it isn't empty
pub piece_bytes : (piece : List ℕ) (empty : Bool) → empty ≡ (length piece == 0) → not empty ≡ has_bytes piece
piece_bytes [] empty e = ap not e
piece_bytes (byte ∷ piece) empty e = ap not e ∙ (search rules)

-- one more word, where a piece has bytes, and none where it has not
pub word_more : (pieces : List (Bor (List ℕ))) (words : List (Bor (List ℕ))) (at : ℕ) (d : Bor (List ℕ)) → at < length pieces → (b : Bool)
    → b ≡ has_bytes (get_or pieces at d).now →
    map (λ word. word.now) words ≡ filter has_bytes (map (λ piece. piece.now) (take at pieces)) →
    map (λ word. word.now) (if b then words ++ get_or pieces at d ∷ [] else words) ≡ filter has_bytes
    (map (λ piece. piece.now) (take (at + 1) pieces))
word_more pieces words at d h b e same =
    let now : Bor (List ℕ) → List ℕ = λ x. x.now in
    let one : at + 1 ≡ suc at = omega arith in
    let taken : take (at + 1) pieces ≡ take at pieces ++ get_or pieces at d ∷ [] = ap (λ n. take n pieces) one ∙ take-suc pieces at d h in
    let all : filter has_bytes (map now (take (at + 1) pieces)) ≡ filter has_bytes (map now (take at pieces)) ++ filter has_bytes
    (now (get_or pieces at d) ∷ []) =
    ap (λ xs. filter has_bytes (map now xs)) taken ∙ (ap (filter has_bytes) (map-append now (take at pieces) (get_or pieces at d ∷ []))
    ∙ filter-append has_bytes (map now (take at pieces)) (now (get_or pieces at d) ∷ [])) in
    with_word b words (get_or pieces at d) ∙ (ap (λ xs. xs ++ (if b then now (get_or pieces at d) ∷ [] else [])) same
    ∙ (ap (λ t. filter has_bytes (map now (take at pieces)) ++ (if t then now (get_or pieces at d) ∷ [] else [])) e ∙ sym all))
  where
    with_word : (b : Bool) (xs : List (Bor (List ℕ))) (x : Bor (List ℕ)) → map (λ word. word.now) (if b then xs ++ x ∷ [] else xs) ≡ map
        (λ word. word.now) xs ++ (if b then x.now ∷ [] else [])
    with_word true xs x = map-append (λ word. word.now) xs (x ∷ [])
    with_word false xs x = sym (append-nil (map (λ word. word.now) xs))

-- once all pieces are read
pub all_words : (pieces : List (Bor (List ℕ))) (at : ℕ) (line : List ℕ) → length pieces ≤ at
    → map (λ piece. piece.now) pieces ≡ slice_split is_blank line →
    filter has_bytes (map (λ piece. piece.now) (take at pieces)) ≡ words_of line
all_words pieces at line h split =
    ap (λ (xs : List (Bor (List ℕ))). filter has_bytes (map (λ piece. piece.now) xs)) (take_all at pieces h) ∙ ap (filter has_bytes) split

-- what of a script is read with one more line, and what is wrong with it
pub ruleset readings = (read_none, read_blank, read_command, read_all, faulty, count_fault)
