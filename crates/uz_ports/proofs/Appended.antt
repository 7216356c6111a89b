-- Stores and edges in two parts.
use Rattle.std.proofs.Common.{◌≡◌, List, [], ◌∷◌, ◌++◌, append_assoc, refl, sym, ◌∙◌, ap}
use Rattle.uz_core.specs.declared.machine.HeldStore.{HeldStore}
use Rattle.uz_core.specs.Space.{Space, PadWiring, after_store}
use Rattle.uz_core.specs.Turn.{after_stores, all_edge_kinds, edge_kinds}

pub after_stores-append : {P : Type 0} → (w : PadWiring P) (xs ys : List HeldStore) (s : Space P) → after_stores w (xs ++ ys)
    s ≡ after_stores w ys (after_stores w xs s)
after_stores-append w [] ys s = refl
after_stores-append w (x ∷ xs) ys s = after_stores-append w xs ys (after_store w x s)

pub all_edge_kinds-append : {P : Type 0} → (w : PadWiring P) (xs ys : List HeldStore) (s : Space P) → all_edge_kinds w (xs ++ ys)
    s ≡ all_edge_kinds w xs s ++ all_edge_kinds w ys (after_stores w xs s)
all_edge_kinds-append w [] ys s = refl
all_edge_kinds-append w (x ∷ xs) ys s = ap (λ ks. edge_kinds x s (after_store w x s) ++ ks)
    (all_edge_kinds-append w xs ys (after_store w x s))
    ∙ sym (append_assoc (edge_kinds x s (after_store w x s)) (all_edge_kinds w xs (after_store w x s))
    (all_edge_kinds w ys (after_stores w xs (after_store w x s))))

pub ruleset appended = (after_stores-append, all_edge_kinds-append)
