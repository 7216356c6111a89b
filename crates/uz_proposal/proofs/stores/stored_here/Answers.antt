use Rattle.std.proofs.Common.{◌∙◌, ap}
use Rattle.uz_core.specs.Effects.{effect_of}
use Rattle.uz_proposal.specs.Stores.{store_part, stored_by}
use Rattle.uz_proposal.proofs.GlanceLemmas.{words_here}
use Rattle.uz_proposal.proofs.stores.stored_here.Goals as goal

pub returns : goal.returns
returns c = λ i reads.
    let core = c.args.console.now.cpu in
    let here = words_here _ _ core.pc _ _ _ i c.word.ensures.own c.word-2.ensures c.image-image.ensures.own c.pc.ensures.own reads in
    let same = c.decode.ensures.unique _ _ c.in_ok-row.ensures.found here in
    c.effect_store.ensures ∙ ap (λ e. stored_by core (store_part e)) (c.effect.ensures.value ∙ ap effect_of same)
