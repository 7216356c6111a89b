use Rattle.std.proofs.Common.{true, false, sym, ◌∙◌, ap, map, Vec, Global, Bor, List, ℕ}
use Rattle.std.specs.Prelude.{not}
use Rattle.uz_debug.proofs.ScriptLemmas.{all_words, word_more, piece_bytes}
use Rattle.uz_debug.proofs.script_lines.words.Goals as goal
use Rattle.uz_debug.proofs.script_lines.words.Goals.{then-not-is_empty+in_ok-push, else-not-is_empty}

pub loop-piece-preserved : goal.loop-piece-preserved
loop-piece-preserved c =
    let bytes = piece_bytes _ c.is_empty.result c.is_empty.ensures in
    let texts : List (Bor (List ℕ)) → List (List ℕ) = map (λ word. word.now) in
    let of : Vec (Bor (List ℕ)) Global → List (List ℕ) = λ words. texts words.items in
    elim c.if-not-is_empty.branch [
      | then-not-is_empty+in_ok-push w ↦
          ap of w.words-is ∙ (ap texts w.in_ok-push.ensures.items
          ∙ word_more c.as_slice-piece-items.result.now c.loop-piece.words.items
          c.loop-piece.piece-index _ c.loop-piece-test.true true (sym (ap not w.if-not-is_empty.true) ∙ bytes) c.loop-piece.invariant)
      | else-not-is_empty w ↦
          ap of w.words-is ∙ word_more c.as_slice-piece-items.result.now c.loop-piece.words.items c.loop-piece.piece-index _
          c.loop-piece-test.true false (sym (ap not w.if-not-is_empty.false) ∙ bytes) c.loop-piece.invariant
    ]

pub returns : goal.returns
returns c = c.loop-piece.invariant ∙ all_words c.as_slice-piece-items.result.now c.loop-piece.piece-index c.args.line.now
    c.loop-piece-test.false (ap texts c.as_slice-piece-items.ensures.value ∙ c.in_ok-pieces.ensures)
  where
    texts : List (Bor (List ℕ)) → List (List ℕ)
    texts = map (λ word. word.now)
