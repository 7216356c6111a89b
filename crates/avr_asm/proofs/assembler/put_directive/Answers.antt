use Rattle.std.proofs.Common.{List, map, refl, sym, ◌∙◌, ap, subst, Ok}
use Rattle.avr_text.specs.Faults.{Gives, ◌>>=◌}
use Rattle.avr_asm.specs.declared.output.Hint.{Hint}
use Rattle.avr_asm.specs.Assembly.{seen_built, with_data, with_directive}
use Rattle.avr_asm.proofs.AssemblyLemmas.{hint_put}
use Rattle.avr_asm.proofs.assembler.put_directive.Goals as goal

pub returns-in_default-2 : goal.returns-in_default-2
returns-in_default-2 c =
    hint_put c.args.directive c.args.line.now.text.now c.args.symbols.now c.args.line.now.address c.args.line.now.following (map (λ p. p.now) c.args.parts.now)
    (seen_built c.args.built.now) _ _ _ c.in_default.not-Db c.in_default.not-Dw c.in_ok-hint-in_default.ensures c.in_default-2.is refl

pub returns-in_ok-push-in_default : goal.returns-in_ok-push-in_default
returns-in_ok-push-in_default c =
    let built = c.args.built.now in
    hint_put c.args.directive c.args.line.now.text.now c.args.symbols.now c.args.line.now.address c.args.line.now.following (map (λ p. p.now) c.args.parts.now)
    (seen_built built) _ _ _ c.in_default.not-Db c.in_default.not-Dw c.in_ok-hint-in_default.ensures c.in-Some.is
    (ap (λ (hints : List Hint). Ok (record { image = built.image; items = built.items.items; hints = hints }))
    (sym c.in_ok-push-in_default.ensures.items))

pub returns-in_ok-bytes-in-Dw : goal.returns-in_ok-bytes-in-Dw
returns-in_ok-bytes-in-Dw c =
    subst (Gives (λ x. seen_built c.put_data-in-Dw.new.built) c.put_data-in-Dw.result)
    (ap (with_data c.args.line.now.address (seen_built c.args.built.now)) c.as_slice-in-Dw.ensures.value
    ∙ sym (ap (λ o. o >>= with_data c.args.line.now.address (seen_built c.args.built.now)) c.in_ok-bytes-in-Dw.ensures)
    ∙ ap (λ d. with_directive d c.args.line.now.text.now c.args.symbols.now c.args.line.now.address c.args.line.now.following (map (λ p. p.now) c.args.parts.now)
    (seen_built c.args.built.now)) (sym c.in-Dw.is))
    c.put_data-in-Dw.ensures

pub returns-in_ok-bytes-in-Db : goal.returns-in_ok-bytes-in-Db
returns-in_ok-bytes-in-Db c =
    subst (Gives (λ x. seen_built c.put_data.new.built) c.put_data.result)
    (ap (with_data c.args.line.now.address (seen_built c.args.built.now)) c.as_slice.ensures.value
    ∙ sym (ap (λ o. o >>= with_data c.args.line.now.address (seen_built c.args.built.now)) c.in_ok-bytes-in-Db.ensures)
    ∙ ap (λ d. with_directive d c.args.line.now.text.now c.args.symbols.now c.args.line.now.address c.args.line.now.following (map (λ p. p.now) c.args.parts.now)
    (seen_built c.args.built.now)) (sym c.in-Db.is))
    c.put_data.ensures
