-- Words and lines that are put one after another are joined by spaces and line ends.
use Rattle.uz_cert_writer.proofs.Common.{◌≡◌, ℕ, List, [], ◌∷◌, ◌++◌, length, map, refl, sym, ◌∙◌, ap, append_assoc, append-nil, codes}
use Rattle.uz_cert_writer.proofs.Common.{Event, Second, line_of, kind_words, event_words, kinds_then, runs_of, cell_words, rest_words}
use Rattle.uz_cert_writer.proofs.Common.{entry_words, point_words, spaced, ended, line_end, run_lines}
use Rattle.std.specs.List.{join_with_byte}
use Rattle.uz_schedule.specs.declared.kinds.RuleVersion.TheVariants.{Two, Three}
use Rattle.uz_cert_writer.specs.Spelling.{fall_words, size_words, irq_words, stack_words, spelling}
use Rattle.uz_cert_writer.specs.Joined.{head_text, schedule_text, state_text}
use Rattle.uz_schedule.specs.{declared.certificate.Cert.Cert, declared.kinds.RuleVersion.RuleVersion}
use Rattle.uz_cert_lines.specs.{Lines.head_line, Lines.text_version, declared.version.Version.TheVariants.Third}

pub spaced_append : (xs ys : List (List ℕ)) → spaced (xs ++ ys) ≡ spaced xs ++ spaced ys
spaced_append [] ys = refl
spaced_append (w ∷ ws) ys = ap (λ t. 32 ∷ (w ++ t)) (spaced_append ws ys) ∙ ap (λ t. 32 ∷ t) (sym (append_assoc w (spaced ws) (spaced ys)))

pub ended_append : (xs ys : List (List ℕ)) → ended (xs ++ ys) ≡ ended xs ++ ended ys
ended_append [] ys = refl
ended_append (l ∷ ls) ys = ap (λ t. l ++ (10 ∷ t)) (ended_append ls ys) ∙ sym (append_assoc l (10 ∷ ended ls) (ended ys))

-- a line is its first word, and each other with a space before it
pub join_words : (w : List ℕ) (ws : List (List ℕ)) → line_of (w ∷ ws) ≡ w ++ spaced ws
join_words w [] = sym (append-nil w)
join_words w (v ∷ vs) = ap (λ t. w ++ (32 ∷ t)) (join_words v vs)

-- lines and an empty one after them are joined as each line with its LF
pub join_lines : (ls : List (List ℕ)) → join_with_byte 10 (ls ++ [] ∷ []) ≡ ended ls
join_lines [] = refl
join_lines (l ∷ []) = refl
join_lines (l ∷ m ∷ ls) = ap (λ t. l ++ (10 ∷ t)) (join_lines (m ∷ ls))

-- one more line
pub line_ended : (words : List (List ℕ)) (ls : List (List ℕ)) → line_end words ++ ended ls ≡ ended (line_of words ∷ ls)
line_ended words ls = append_assoc (line_of words) (10 ∷ []) (ended ls)

-- what follows the kinds of line

abbrev event_lines : List Event → List (List ℕ)
event_lines events = map (λ e. line_of (event_words e)) events

pub kinds_append : (kinds : List (List Event)) (lengths : List ℕ) (xs ys : List (List ℕ))
    → kinds_then Second kinds lengths (xs ++ ys) ≡ kinds_then Second kinds lengths xs ++ ys
kinds_append [] lengths xs ys = refl
kinds_append (events ∷ kinds) [] xs ys = refl
kinds_append (events ∷ kinds) (n ∷ lengths) xs ys =
    ap (λ t. line_of (kind_words Second (length events) n) ∷ t)
    (ap (λ t. event_lines events ++ t) (kinds_append kinds lengths xs ys)
    ∙ sym (append_assoc (event_lines events) (kinds_then Second kinds lengths xs) ys))

pub kinds_ended : (kinds : List (List Event)) (lengths : List ℕ) (others : List (List ℕ))
    → ended (kinds_then Second kinds lengths others) ≡ ended (kinds_then Second kinds lengths []) ++ ended others
kinds_ended kinds lengths others =
    ap ended (kinds_append kinds lengths [] others) ∙ ended_append (kinds_then Second kinds lengths []) others

-- the kinds of line are spelled alike from version 2 on

third_kinds : (kinds : List (List Event)) (lengths : List ℕ) (others : List (List ℕ))
    → kinds_then Third kinds lengths others ≡ kinds_then Second kinds lengths others
third_kinds [] lengths others = refl
third_kinds (events ∷ kinds) [] others = refl
third_kinds (events ∷ kinds) (n ∷ lengths) others =
    ap (λ t. line_of (kind_words Second (length events) n) ∷ (event_lines events ++ t)) (third_kinds kinds lengths others)

same_kinds : (version : RuleVersion) (kinds : List (List Event)) (lengths : List ℕ) (others : List (List ℕ))
    → kinds_then (text_version version) kinds lengths others ≡ kinds_then Second kinds lengths others
same_kinds Two kinds lengths others = refl
same_kinds Three kinds lengths others = third_kinds kinds lengths others

-- the whole text

abbrev head_of : Cert → List ℕ
head_of c = head_line (text_version c.head.version)

abbrev states : Cert → List (List ℕ) → List (List ℕ)
states c last =
    map (λ r. line_of (rest_words r)) c.rests
    ++ (line_of (entry_words c.head.cells.items c.entry) ∷ (map (λ p. line_of (point_words c.head.cells.items p)) c.points ++ last))

abbrev after_cells : Cert → List (List ℕ) → List (List ℕ)
after_cells c last =
    kinds_then Second c.schedule.kinds c.schedule.lengths (line_of (fall_words c.schedule)
    ∷ (run_lines (runs_of c.schedule.lines) ++ states c last))

abbrev lines_to : Cert → List (List ℕ) → List (List ℕ)
lines_to c last =
    head_of c ∷ line_of (size_words c) ∷ line_of (irq_words c.head) ∷ line_of (stack_words c.head)
    ∷ (map (λ m. line_of (cell_words m)) c.head.cells.items ++ after_cells c last)

states_more : (c : Cert) (xs ys : List (List ℕ)) → states c (xs ++ ys) ≡ states c xs ++ ys
states_more c xs ys = simp append_assoc

after_more : (c : Cert) (xs ys : List (List ℕ)) → after_cells c (xs ++ ys) ≡ after_cells c xs ++ ys
after_more c xs ys =
    let fall = line_of (fall_words c.schedule) in
    let runs = run_lines (runs_of c.schedule.lines) in
    ap (λ t. kinds_then Second c.schedule.kinds c.schedule.lengths (fall ∷ (runs ++ t))) (states_more c xs ys)
    ∙ ap (λ t. kinds_then Second c.schedule.kinds c.schedule.lengths (fall ∷ t)) (sym (append_assoc runs (states c xs) ys))
    ∙ kinds_append c.schedule.kinds c.schedule.lengths (fall ∷ (runs ++ states c xs)) ys

lines_more : (c : Cert) (xs ys : List (List ℕ)) → lines_to c (xs ++ ys) ≡ lines_to c xs ++ ys
lines_more c xs ys =
    let cells = map (λ m. line_of (cell_words m)) c.head.cells.items in
    ap (λ t. head_of c ∷ line_of (size_words c) ∷ line_of (irq_words c.head) ∷ line_of (stack_words c.head) ∷ t)
    (ap (λ t. cells ++ t) (after_more c xs ys) ∙ sym (append_assoc cells (after_cells c xs) ys))

states_ended : (c : Cert) → ended (states c (codes "end" ∷ [])) ≡ state_text c
states_ended c = simp (ended_append, append_assoc)

after_ended : (c : Cert) (last : List (List ℕ)) → ended (after_cells c last) ≡ schedule_text c.schedule ++ ended (states c last)
after_ended c last =
    kinds_ended c.schedule.kinds c.schedule.lengths (line_of (fall_words c.schedule) ∷ (run_lines (runs_of c.schedule.lines) ++ states c last))
    ∙ simp (ended_append, append_assoc)

-- four lines and others, in two parts
ended_four : (a b c d : List (List ℕ)) (xs ys : List (List ℕ)) → ended (line_of a ∷ line_of b ∷ line_of c ∷ line_of d ∷ (xs ++ ys))
    ≡ (line_end a ++ (line_end b ++ (line_end c ++ (line_end d ++ ended xs)))) ++ ended ys
ended_four a b c d xs ys = simp (ended_append, append_assoc)

head_ended : (c : Cert) (after : List (List ℕ))
    → ended (head_of c ∷ line_of (size_words c) ∷ line_of (irq_words c.head) ∷ line_of (stack_words c.head)
    ∷ (map (λ m. line_of (cell_words m)) c.head.cells.items ++ after))
    ≡ head_text c ++ ended after
head_ended c after =
    ended_four (head_of c ∷ []) (size_words c) (irq_words c.head) (stack_words c.head) (map (λ m. line_of (cell_words m)) c.head.cells.items) after

-- the text in three parts
pub spelling_parts : (c : Cert) → spelling (text_version c.head.version) c ≡ head_text c ++ (schedule_text c.schedule ++ state_text c)
spelling_parts c =
    let fall = line_of (fall_words c.schedule) in
    let later = run_lines (runs_of c.schedule.lines) ++ states c (codes "end" ∷ [] ∷ []) in
    ap (λ t. join_with_byte 10 (head_of c ∷ line_of (size_words c) ∷ line_of (irq_words c.head) ∷ line_of (stack_words c.head)
    ∷ (map (λ m. line_of (cell_words m)) c.head.cells.items ++ t)))
    (same_kinds c.head.version c.schedule.kinds c.schedule.lengths (fall ∷ later))
    ∙ ap (join_with_byte 10) (lines_more c (codes "end" ∷ []) ([] ∷ []))
    ∙ join_lines (lines_to c (codes "end" ∷ []))
    ∙ head_ended c (after_cells c (codes "end" ∷ []))
    ∙ ap (λ t. head_text c ++ t) (after_ended c (codes "end" ∷ []) ∙ ap (λ t. schedule_text c.schedule ++ t) (states_ended c))
