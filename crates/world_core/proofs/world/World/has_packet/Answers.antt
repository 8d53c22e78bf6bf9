use Rattle.std.proofs.Common.{◌≡◌, ap, sym, ◌∙◌, refl, arith, is_some, option_copied, Bor, Option, Some, None}
use Rattle.std.proofs.lemmas.List.{length-map}
use Rattle.mpi_base.specs.declared.entries.Act.TheVariants.{Deliver}
use Rattle.mpi_protocol.specs.World.{has_packet}
use Rattle.rank_core.specs.Held.{Held as RankHeld}
use Rattle.world_core.specs.Held.{Held}
use Rattle.world_core.specs.Posted.{world_of}
use Rattle.world_core.proofs.LinkFacts.{has_packet_is}
use Rattle.world_core.proofs.world.World.has_packet.Goals as goal

copied : {T : Type 0} (o : Option (Bor T)) → is_some o ≡ is_some (option_copied o)
copied None = refl
copied (Some x) = refl

pub returns-then-from-self : goal.returns-then-from-self
returns-then-from-self g c =
    let inside = c.self.inside in
    let size = length-map inside.ranks.items (λ (x : RankHeld). x.state) ∙ c.self.invariant.0.size ∙ sym c.self.invariant.1 in
    let is = has_packet_is inside.setting.contexts inside.links (world_of inside.setting inside.ranks.items inside.links) refl size c.in-Deliver.from c.args.rank (omega (arith, c.if-from-self.true, c.self.invariant.1)) in
    rw c.in-Deliver.is (c.is_some.ensures ∙ copied c.head.result ∙ ap is_some c.head.ensures ∙ sym is ∙ ap (λ (h : Held). has_packet h.world c.args.rank (Deliver c.in-Deliver.from)) c.self.view_is)
