use Rattle.std.proofs.Common.{◌+◌, [], All, length, subst, sym, ◌∙◌, ap, inr, arith}
use Rattle.avr_text.specs.Pieces.{piece_at}
use Rattle.std.proofs.lemmas.List.Elements.{All-nil, All-cons, All-append}
use Rattle.avr_text.specs.Tokens.{cut_from, tokens_of, Lies}
use Rattle.avr_text.proofs.Cuts.{with_front, with_front_none, cut_gap, cut_fault, line_after-≤, token_more, whole}
use Rattle.avr_text.proofs.SpansFound.{not_memory}
use Rattle.avr_text.proofs.lexer.cut.Goals as goal

pub loop-at-init : goal.loop-at-init
unfolding tokens_of
loop-at-init c = record {
  line = omega arith;
  within = omega arith;
  lie = subst (All (Lies (length c.args.text.now))) (sym c.new-tokens.ensures.items) (All-nil (Lies (length c.args.text.now)));
  left = ap (λ front. with_front front (cut_from 0 0 1 c.args.text.now)) c.new-tokens.ensures.items ∙ with_front_none _;
}

pub loop-at-preserved-in-Gap : goal.loop-at-preserved-in-Gap
loop-at-preserved-in-Gap c =
    let there = ap piece_at (sym c.split_at.ensures.back) ∙ sym c.in-Gap.ensures.piece in
    record {
      line = omega arith;
      within = omega (arith, c.in-Gap.ensures.within);
      lie = c.loop-at.invariant.lie;
      left =
          ap (with_front c.loop-at.tokens.items) (sym (cut_gap _ _ _ _ c.loop-at-test.true c.in-Gap.ensures.some there))
          ∙ c.loop-at.invariant.left;
    }

pub loop-at-preserved : goal.loop-at-preserved
loop-at-preserved c =
    let there = ap piece_at (sym c.split_at.ensures.back) ∙ sym c.in-Token.ensures.piece in
    record {
      line = omega (arith, c.line_after-line.ensures, line_after-≤ c.in-Token.kind c.loop-at.line, c.in-Token.ensures.some);
      within = omega (arith, c.in-Token.ensures.within);
      lie = subst (All (Lies (length c.args.text.now))) (sym c.in_ok-push-in-Token.ensures.items)
          (All-append (Lies (length c.args.text.now)) c.loop-at.tokens.items _ c.loop-at.invariant.lie
          (All-cons (Lies (length c.args.text.now)) (record {
            kind = c.in-Token.kind;
            line = c.loop-at.line;
            from = c.loop-at.at;
            to = c.loop-at.at + c.in-Token.n;
          }) [] (omega arith, omega (arith, c.in-Token.ensures.within)) (All-nil (Lies (length c.args.text.now)))));
      left =
          token_more _ _ _ _ _ _ _ _
          c.loop-at-test.true c.in-Token.ensures.some there c.in_ok-push-in-Token.ensures.items c.line_after-line.ensures
          ∙ c.loop-at.invariant.left;
    }

pub returns-in-Fault : goal.returns-in-Fault
returns-in-Fault c =
    let there = ap piece_at (sym c.split_at.ensures.back) ∙ sym c.in-Fault.ensures.piece in
    record {
      lie = tt;
      memory = λ m. absurd (not_memory _ _ _ c.loop-at-test.true there m);
      tokens = inr (sym c.loop-at.invariant.left ∙ ap (with_front c.loop-at.tokens.items) (cut_fault _ _ _ _ c.loop-at-test.true there));
    }

pub returns : goal.returns
returns c = record {
  lie = c.loop-at.invariant.lie;
  memory = tt;
  tokens = sym c.loop-at.invariant.left ∙ whole _ _ _ _ (omega arith);
}
