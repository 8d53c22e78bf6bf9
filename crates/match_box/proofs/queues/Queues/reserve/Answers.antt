use Rattle.std.proofs.Common.{◌-◌, ap, rules, arith}
use Rattle.slab.specs.Slab.{slab_len}
use Rattle.match_box.specs.Rows.{Table}
use Rattle.match_box.proofs.Rooms.{room-more, room-made, le_from, slab_wider, slab_room}
use Rattle.match_box.proofs.queues.Queues.reserve.Goals as goal

pub returns-in_err-reserve-clause-spare : goal.returns-in_err-reserve-clause-spare
returns-in_err-reserve-clause-spare g c =
    le_from (ap (λ (t : Table g.row.T.Denot). t.spare) c.self.view_is)
    (room-more (c.self.inside.nodes.capacity - slab_len c.self.inside.nodes) c.self.inside.index.spare c.self.inside.waiting.spare
    (c.reserve.new.self.capacity - slab_len c.reserve.new.self) c.self.inside.index.spare c.self.inside.waiting.spare
    (slab_wider c.self.inside.nodes.capacity (slab_len c.self.inside.nodes) c.reserve.new.self.capacity (slab_len c.reserve.new.self) c.reserve.ensures.capacity (ap slab_len c.reserve.ensures.rest_kept))
    (omega arith) (omega arith))

pub returns-in_err-reserve-2-clause-spare : goal.returns-in_err-reserve-2-clause-spare
returns-in_err-reserve-2-clause-spare g c =
    le_from (ap (λ (t : Table g.row.T.Denot). t.spare) c.self.view_is)
    (room-more (c.self.inside.nodes.capacity - slab_len c.self.inside.nodes) c.self.inside.index.spare c.self.inside.waiting.spare
    (c.reserve.new.self.capacity - slab_len c.reserve.new.self) c.reserve-2.new.self.spare c.self.inside.waiting.spare
    (slab_wider c.self.inside.nodes.capacity (slab_len c.self.inside.nodes) c.reserve.new.self.capacity (slab_len c.reserve.new.self) c.reserve.ensures.capacity (ap slab_len c.reserve.ensures.rest_kept))
    c.reserve-2.ensures.spare (omega arith))

pub returns-in_err-reserve-3-clause-spare : goal.returns-in_err-reserve-3-clause-spare
returns-in_err-reserve-3-clause-spare g c =
    le_from (ap (λ (t : Table g.row.T.Denot). t.spare) c.self.view_is)
    (room-more (c.self.inside.nodes.capacity - slab_len c.self.inside.nodes) c.self.inside.index.spare c.self.inside.waiting.spare
    (c.reserve.new.self.capacity - slab_len c.reserve.new.self) c.reserve-2.new.self.spare c.reserve-3.new.self.spare
    (slab_wider c.self.inside.nodes.capacity (slab_len c.self.inside.nodes) c.reserve.new.self.capacity (slab_len c.reserve.new.self) c.reserve.ensures.capacity (ap slab_len c.reserve.ensures.rest_kept))
    c.reserve-2.ensures.spare c.reserve-3.ensures.spare)

pub returns-clause-ok : goal.returns-clause-ok
returns-clause-ok g c =
    room-made (c.reserve.new.self.capacity - slab_len c.reserve.new.self) c.reserve-2.new.self.spare c.reserve-3.new.self.spare
    (slab_room c.reserve.new.self.capacity (slab_len c.reserve.new.self) (search rules)) (search rules) (search rules)

pub returns-clause-spare : goal.returns-clause-spare
returns-clause-spare g c =
    le_from (ap (λ (t : Table g.row.T.Denot). t.spare) c.self.view_is)
    (room-more (c.self.inside.nodes.capacity - slab_len c.self.inside.nodes) c.self.inside.index.spare c.self.inside.waiting.spare
    (c.reserve.new.self.capacity - slab_len c.reserve.new.self) c.reserve-2.new.self.spare c.reserve-3.new.self.spare
    (slab_wider c.self.inside.nodes.capacity (slab_len c.self.inside.nodes) c.reserve.new.self.capacity (slab_len c.reserve.new.self) c.reserve.ensures.capacity (ap slab_len c.reserve.ensures.rest_kept))
    c.reserve-2.ensures.spare c.reserve-3.ensures.spare)
