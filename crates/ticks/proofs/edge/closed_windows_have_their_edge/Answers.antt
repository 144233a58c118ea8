use Rattle.ticks.proofs.Edges.{edge-added}
use Rattle.ticks.proofs.edge.closed_windows_have_their_edge.Goals as goal

pub returns : goal.returns
returns c = edge-added
