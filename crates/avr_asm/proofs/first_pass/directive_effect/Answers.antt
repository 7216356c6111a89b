use Rattle.std.proofs.Common.{◌≡◌, ℕ, ◌+◌, ◌*◌, ◌%◌, nat_lt, false, List, Bor, length, map, sym, ◌∙◌, ap, ◌==◌, Ok}
use Rattle.std.proofs.lemmas.List.{length-map}
use Rattle.avr_text.specs.declared.tokens.Token.{Token}
use Rattle.avr_asm.specs.declared.first_pass.Effect.{Effect}
use Rattle.avr_asm.specs.declared.first_pass.Effect.TheVariants.{Nothing, Take}
use Rattle.avr_asm.specs.Layout.{if_shaped, is_fact, directive_effect}
use Rattle.avr_asm.proofs.first_pass.directive_effect.Goals as goal

-- what depends on the number of operands alone
counted : (parts : List (Bor (List Token))) (effect : Effect) (shape : ℕ → Effect) → effect ≡ shape (length parts)
    → effect ≡ shape (length (map (λ p. p.now) parts))
counted parts effect shape is = is ∙ ap shape (sym (length-map parts (λ p. p.now)))

pub returns-in-Db-clause-effect : goal.returns-in-Db-clause-effect
returns-in-Db-clause-effect c =
    ap Ok (counted c.args.parts.now _ (λ n. if_shaped (nat_lt 0 n) (Take (n + n % 2) false))
    (c.if_shaped.ensures.effect ∙ ap (if_shaped _) c.data_effect.ensures.effect))
    ∙ ap (λ d. directive_effect d c.args.line.now c.args.symbols.now c.args.arguments.now (map (λ p. p.now) c.args.parts.now)
    c.args.follows) (sym c.in-Db.is)

pub returns-in-Dw-clause-effect : goal.returns-in-Dw-clause-effect
returns-in-Dw-clause-effect c =
    ap Ok (counted c.args.parts.now _ (λ n. if_shaped (nat_lt 0 n) (Take (2 * n) false))
    (c.if_shaped-in-Dw.ensures.effect ∙ ap (if_shaped _) c.data_effect-in-Dw.ensures.effect))
    ∙ ap (λ d. directive_effect d c.args.line.now c.args.symbols.now c.args.arguments.now (map (λ p. p.now) c.args.parts.now)
    c.args.follows) (sym c.in-Dw.is)

pub returns-in-Lines-clause-effect : goal.returns-in-Lines-clause-effect
returns-in-Lines-clause-effect c =
    cc (counted c.args.parts.now _ (λ n. if_shaped (n == 2) Nothing) c.if_shaped-in-Lines.ensures.effect, c.in-Lines.is)

pub returns-in-Half-clause-effect : goal.returns-in-Half-clause-effect
returns-in-Half-clause-effect c =
    cc (counted c.args.parts.now _ (λ n. if_shaped (n == 2) Nothing) c.if_shaped-in-Half.ensures.effect, c.in-Half.is)

pub returns-in-Stack-clause-effect : goal.returns-in-Stack-clause-effect
returns-in-Stack-clause-effect c =
    cc (counted c.args.parts.now _ (λ n. if_shaped (n == 4) Nothing) c.if_shaped-in-Stack.ensures.effect, c.in-Stack.is)

pub returns-in-Fact-clause-effect : goal.returns-in-Fact-clause-effect
returns-in-Fact-clause-effect c =
    ap Ok (counted c.args.parts.now _ (λ n. if_shaped (is_fact n c.args.follows) Nothing)
    (c.if_shaped-in-Fact.ensures.effect ∙ ap (λ b. if_shaped b Nothing) c.is_fact.ensures))
    ∙ ap (λ d. directive_effect d c.args.line.now c.args.symbols.now c.args.arguments.now (map (λ p. p.now) c.args.parts.now)
    c.args.follows) (sym c.in-Fact.is)
