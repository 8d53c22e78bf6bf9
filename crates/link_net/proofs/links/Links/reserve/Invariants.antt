use Rattle.std.proofs.Common.{◌≡◌, ℕ, ◌<◌, ◌≤◌}
use Rattle.link_net.specs.Net.{room, KeepsRoom}
use Rattle.link_net.proofs.links.Links.reserve.Given as goal

abbrev pub invariant-loop-to : goal.invariant-loop-to
invariant-loop-to g l = record {
  ranks : l.self.ranks ≡ l.fn.self.ranks;
  links : l.self.links ≡ l.fn.self.links;
  keeps : KeepsRoom l.fn.self l.self;
  made : (other : ℕ) → other < l.to → l.more ≤ room l.self l.from other;
}
