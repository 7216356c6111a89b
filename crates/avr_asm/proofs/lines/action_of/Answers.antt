use Rattle.std.proofs.Common.{◌≡◌, ℕ, suc, ◌-◌, ◌≤◌, Bool, true, false, List, [], ◌∷◌, length, get_or, drop, take, refl, sym, ◌∙◌, ap, subst, arith}
use Rattle.std.specs.Prelude.{Option, if◌then◌else◌}
use Rattle.std.proofs.Math.Seq.{take-length}
use Rattle.std.proofs.lemmas.List.Elements.{All-drop, All-take}
use Rattle.avr_text.specs.declared.tokens.Token.{Token}
use Rattle.avr_text.specs.Tokens.{Lies, text_of}
use Rattle.avr_text.specs.declared.mnemonics.Mnemonic.{Mnemonic}
use Rattle.avr_text.specs.Mnemonics.{mnemonic_of}
use Rattle.avr_asm.specs.declared.lines.Action.TheVariants.{Unknown}
use Rattle.avr_asm.specs.Lines.{action_of, dot_action, instruction_or_unknown, is_dot, is_name}
use Rattle.avr_asm.proofs.lines.action_of.Goals as goal

chosen : {A : Type 0} (test : Bool) (x y : A) → test ≡ true → x ≡ (if test then x else y)
chosen test x y is = subst (λ b. x ≡ (if b then x else y)) (sym is) refl

other : {A : Type 0} (test : Bool) (x y : A) → test ≡ false → y ≡ (if test then x else y)
other test x y is = subst (λ b. y ≡ (if b then x else y)) (sym is) refl

-- what a line does that begins with a name, with a dot, or with neither
named : (line : List ℕ) (body : List Token) (d e : Token) (word : List ℕ) (found : Option Mnemonic) → 1 ≤ length body
    → is_name (get_or body 0 d).kind ≡ true → word ≡ text_of line (get_or body 0 e) → found ≡ mnemonic_of word
    → instruction_or_unknown found ≡ action_of line body
named line [] d e word found some name word_is found_is = absurd (omega arith)
named line (t ∷ ts) d e word found some name word_is found_is =
    ap instruction_or_unknown (found_is ∙ ap mnemonic_of word_is) ∙ chosen (is_name t.kind) _ _ name

dotted : (line : List ℕ) (body : List Token) (d e : Token) → 1 ≤ length body → is_name (get_or body 0 d).kind ≡ false
    → is_dot (get_or body 0 e).kind ≡ true → dot_action line (take (length body - 1) (drop 1 body)) ≡ action_of line body
dotted line [] d e some name dot = absurd (omega arith)
dotted line (t ∷ ts) d e some name dot =
    let count : suc (length ts) - 1 ≡ length ts = omega arith in
    ap (dot_action line) (subst (λ n. take n ts ≡ ts) (sym count) (take-length ts))
    ∙ chosen (is_dot t.kind) (dot_action line ts) Unknown dot ∙ other (is_name t.kind) _ _ name

neither : (line : List ℕ) (body : List Token) (d e : Token) → 1 ≤ length body → is_name (get_or body 0 d).kind ≡ false
    → is_dot (get_or body 0 e).kind ≡ false → Unknown ≡ action_of line body
neither line [] d e some name dot = absurd (omega arith)
neither line (t ∷ ts) d e some name dot =
    other (is_dot t.kind) (dot_action line ts) Unknown dot ∙ other (is_name t.kind) _ _ name

pub text_of-requires : goal.text_of-requires
text_of-requires c = c.requires 0 _ (omega arith)

pub dot_action-requires : goal.dot_action-requires
dot_action-requires c =
    let within = Lies (length c.args.line.now) in All-take within _ _ (All-drop within 1 c.args.body.now c.requires)

pub returns-in-Some : goal.returns-in-Some
returns-in-Some c =
    ap instruction_or_unknown (sym c.in-Some.is)
    ∙ named c.args.line.now c.args.body.now _ _ _ _ c.in-len1-up.len_at_least (sym c.is_name.ensures ∙ c.if-is_name.true) c.text_of.ensures
    c.mnemonic_of.ensures

pub returns-in-None : goal.returns-in-None
returns-in-None c =
    ap instruction_or_unknown (sym c.in-None.is)
    ∙ named c.args.line.now c.args.body.now _ _ _ _ c.in-len1-up.len_at_least (sym c.is_name.ensures ∙ c.if-is_name.true) c.text_of.ensures
    c.mnemonic_of.ensures

pub returns-then-is_dot : goal.returns-then-is_dot
returns-then-is_dot c =
    c.dot_action.ensures
    ∙ dotted c.args.line.now c.args.body.now _ _ c.in-len1-up.len_at_least (sym c.is_name.ensures ∙ c.if-is_name.false)
    (sym c.is_dot.ensures ∙ c.if-is_dot.true)

pub returns-else-is_dot : goal.returns-else-is_dot
returns-else-is_dot c = neither c.args.line.now c.args.body.now _ _ c.in-len1-up.len_at_least (sym c.is_name.ensures ∙ c.if-is_name.false)
    (sym c.is_dot.ensures ∙ c.if-is_dot.false)
