use Rattle.std.proofs.Common.{◌≡◌, ℕ, length}
use Rattle.link_net.specs.Net.{HasRoom}
use Rattle.mpi_protocol.specs.World.{World, put_on}
use Rattle.rank_core.specs.Packets.{sent_by}
use Rattle.world_core.specs.Posted.{links_of}
use Rattle.world_core.proofs.step.post.Given as goal

abbrev pub decreases-loop-sent : goal.decreases-loop-sent
decreases-loop-sent g l = length (sent_by 0 l.out)

abbrev pub invariant-loop-sent : goal.invariant-loop-sent
invariant-loop-sent g l = record {
  ranks : l.links.ranks ≡ l.fn.links.ranks;
  room : HasRoom l.links l.rank (length (sent_by 0 l.out));
  posted : (top : ℕ) (v : World) → v.links ≡ links_of top l.fn.links → length v.ranks ≡ l.fn.links.ranks → put_on v l.rank (sent_by top l.fn.out) ≡ put_on (record v { links = links_of top l.links }) l.rank (sent_by top l.out);
}
