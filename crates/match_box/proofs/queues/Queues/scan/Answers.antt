use Rattle.std.proofs.Common.{◌≡◌, ap, sym, subst, ◌∙◌, add-one, arith}
use Rattle.match_box.specs.Rows.{Table, IsRising, spot, takes, sooner_in}
use Rattle.match_box.specs.Filing.{ends_at, queue_at}
use Rattle.match_box.proofs.Spots.{rows_rise}
use Rattle.match_box.proofs.Scans.{among, spot-none, sooner_step, scan_finds, stands_at}
use Rattle.match_box.proofs.queues.Queues.scan.Goals as goal

pub loop-place-init : goal.loop-place-init
loop-place-init g c = spot-none c.args.self.now.rows

pub loop-place-preserved : goal.loop-place-preserved
loop-place-preserved g c =
    let rises = subst (λ (t : Table g.row.T.Denot). IsRising t.rows) c.self.view_is (rows_rise c.self.inside.nodes.slots c.self.inside.count) in
    let at = queue_at c.self.inside.index.places c.args.wanted.now.ctx in
    c.sooner_in-best.ensures
    ∙ ap (λ best. sooner_in c.args.wanted.now c.args.self.now.rows best c.at.result) c.loop-place.invariant
    ∙ ap (λ found. sooner_in c.args.wanted.now c.args.self.now.rows (spot (λ x. among c.args.wanted.now at c.loop-place.place x) c.args.self.now.rows) found) c.at.ensures.value
    ∙ sooner_step c.args.wanted.now c.args.self.now.rows (λ x. among c.args.wanted.now at c.loop-place.place x) (at c.loop-place.place) rises
    ∙ ap (λ n. spot (λ x. among c.args.wanted.now at n x) c.args.self.now.rows) (sym (add-one c.loop-place.place))

pub returns : goal.returns
returns g c =
    let at = queue_at c.self.inside.index.places c.args.wanted.now.ctx in
    let end : c.loop-place.place ≡ c.size-place-end.result = omega arith in
    c.loop-place.invariant ∙ ap (λ n. spot (λ x. among c.args.wanted.now at n x) c.args.self.now.rows) end
    ∙ subst (λ (t : Table g.row.T.Denot). spot (λ x. among c.args.wanted.now at c.size-place-end.result x) t.rows ≡ spot (λ q. takes c.args.wanted.now q) t.rows) c.self.view_is
    (scan_finds c.args.wanted.now c.self.inside.nodes.slots c.self.inside.count c.size-place-end.result (ends_at c.self.inside.index.entries) at c.self.invariant.queued
    (λ q on has. stands_at c.self.inside.index.places c.size-place-end.result c.args.wanted.now.ctx q on (c.size-place-end.ensures.stand q on has)))
