use Rattle.std.proofs.Common.{◌*◌, ◌+◌, ◌<◌, ◌≤◌, get_or, ap, subst, sym, ◌∙◌, arith}
use Rattle.world_core.specs.Held.{Held}
use Rattle.world_core.proofs.RoomFacts.{ok_of, world_kept, is_kept, step_room}
use Rattle.world_core.proofs.world.World.reserve_step.Goals as goal

pub invariant_of-self-2 : goal.invariant_of-self-2
invariant_of-self-2 g c =
    let inside = c.self.inside in
    let lt = subst (λ (h : Held). c.args.rank < h.setting.ranks) (sym c.self.view_is) c.requires.rank in (
      is_kept inside.setting inside.ranks.items inside.links c.reserve.new.self inside.journal.entries c.reserve-2.new.self.entries c.self.invariant.0
          c.args.rank c.index_mut.result.now c.reserve-4.new.self c.index_mut.ensures.value lt c.reserve-4.ensures.state c.reserve-4.ensures.boxed c.in_ok-reserve.ensures.links c.in_ok-reserve-2.ensures.same,
      c.in_ok-reserve.ensures.ranks ∙ c.self.invariant.1,
      c.in_ok-reserve-3.ensures.agreed ∙ c.self.invariant.2,
      c.in_ok-reserve-3.ensures.others ∙ c.self.invariant.3,
    )

pub returns-clause-world : goal.returns-clause-world
returns-clause-world g c =
    let inside = c.self.inside in
    let lt = subst (λ (h : Held). c.args.rank < h.setting.ranks) (sym c.self.view_is) c.requires.rank in
    world_kept inside.setting inside.ranks.items inside.links c.reserve.new.self inside.journal.entries c.reserve-2.new.self.entries c.self.invariant.0
    c.args.rank c.index_mut.result.now c.reserve-4.new.self c.index_mut.ensures.value lt c.reserve-4.ensures.state c.reserve-4.ensures.boxed c.in_ok-reserve.ensures.links c.in_ok-reserve-2.ensures.same
    ∙ ap (λ (h : Held). h.world) c.self.view_is

pub returns-clause-ok : goal.returns-clause-ok
returns-clause-ok g c =
    let inside = c.self.inside in
    let lt = subst (λ (h : Held). c.args.rank < h.setting.ranks) (sym c.self.view_is) c.requires.rank in
    let ranks = c.in_ok-reserve.ensures.ranks ∙ c.self.invariant.1 in
    ok_of c.reserve-4.result (λ spare. record {
      step =
          step_room inside.setting inside.ranks.items inside.links c.reserve.new.self inside.journal.entries c.reserve-2.new.self.entries c.self.invariant.0
          c.args.rank c.index_mut.result.now c.reserve-4.new.self c.index_mut.ensures.value lt c.reserve-4.ensures.state c.reserve-4.ensures.boxed c.in_ok-reserve.ensures.links c.in_ok-reserve-2.ensures.same spare;
      links = λ to to_lt. subst (λ k. 16 ≤ get_or c.reserve.new.self.rooms (k * c.args.rank + to) 0) ranks (c.in_ok-reserve.ensures.ok to (omega (arith, to_lt, ranks)));
      entry = c.in_ok-reserve-2.ensures.ok;
      count = omega (arith, c.in_ok-reserve-2.ensures.count);
      packets = c.in_ok-reserve-3.ensures.ok;
    }) c.reserve-4.ensures.ok
