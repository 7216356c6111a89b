use Rattle.std.proofs.Common.{◌≡◌, ◌∙◌, List, [], ◌∷◌, ◌++◌, ap, append_assoc, sym}
use Rattle.uz_paths.specs.ProgramOf.{first_states}
use Rattle.uz_paths.proofs.program.put_first_states.Goals as goal

four : {A : Type 0} (old a b c d : List A) (w x y z : A) → a ≡ old ++ w ∷ [] → b ≡ a ++ x ∷ [] → c ≡ b ++ y ∷ [] → d ≡ c ++ z ∷ [] →
    d ≡ old ++ w ∷ x ∷ y ∷ z ∷ []
four old a b c d w x y z one two three more =
    let second : b ≡ old ++ w ∷ x ∷ [] = two ∙ (ap (λ zs. zs ++ x ∷ []) one ∙ append_assoc old (w ∷ []) (x ∷ [])) in
    let third : c ≡ old ++ w ∷ x ∷ y ∷ [] = three ∙ (ap (λ zs. zs ++ y ∷ []) second ∙ append_assoc old (w ∷ x ∷ []) (y ∷ [])) in
    more ∙ (ap (λ zs. zs ++ z ∷ []) third ∙ append_assoc old (w ∷ x ∷ y ∷ []) (z ∷ []))

pub returns-in_ok-push-in-Main-4 : goal.returns-in_ok-push-in-Main-4
returns-in_ok-push-in-Main-4 c =
    four _ _ _ _ _ _ _ _ _ c.in_ok-push-in-Main.ensures.items c.in_ok-push-in-Main-2.ensures.items c.in_ok-push-in-Main-3.ensures.items
    c.in_ok-push-in-Main-4.ensures.items
    ∙ ((λ i. c.args.starts.now.items ++ c.first_state.ensures i ∷ c.first_state-in-Main.ensures i ∷ c.first_state-in-Main-2.ensures i
    ∷ c.first_state-in-Main-3.ensures i ∷ [])
    ∙ ap (λ kind. c.args.starts.now.items ++ first_states kind c.args.irq c.args.top c.args.firsts.now.items) (sym c.in-Main.is))
