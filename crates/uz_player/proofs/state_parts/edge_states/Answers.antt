use Rattle.uz_player.proofs.StateLaws.{four_edges}
use Rattle.uz_player.proofs.state_parts.edge_states.Goals as goal

pub returns : goal.returns
returns c = λ state are count. four_edges state c.edge_state_at.result c.edge_state_at-2.result c.edge_state_at-3.result c.edge_state_at-4.result
    c.as_slice-edges.result.now c.args.edges.now.items c.as_slice-edges.ensures.value c.as_slice-edges.ensures.fits
    c.edge_state_at.ensures c.edge_state_at-2.ensures c.edge_state_at-3.ensures c.edge_state_at-4.ensures are count
