use Rattle.std.proofs.Common.{◌≡◌, ℕ, ◌+◌, ◌<◌, List, [], ◌∷◌, length, map, get_or, sym, ap, subst, ◌∙◌, arith}
use Rattle.std.proofs.lemmas.List.{length-append}
use Rattle.std.specs.List.{range_with_len}
use Rattle.mpi_protocol.specs.Rank.{fresh}
use Rattle.rank_core.specs.Held.{Held as RankHeld}
use Rattle.world_core.specs.Held.{IsRankOf}
use Rattle.world_core.proofs.OpeningFacts.{opening_is, states_more, new_rank, each_more, world_at_opening}
use Rattle.world_core.proofs.world.World.start.Goals as goal

pub invariant_of-result : goal.invariant_of-result
invariant_of-result g c =
    let inv = c.loop-rank.invariant in
    let all : c.loop-rank.rank ≡ c.args.setting.ranks = omega (arith, c.loop-rank-test.false, c.loop-rank.auto.rank-end) in (
      rw c.none.ensures (world_at_opening c.args.setting c.loop-rank.ranks.items c.loop-rank.rank inv.size c.in_ok-start-2.field-0 c.requires.setting c.requires.places all c.in_ok-start-2.ensures.links inv.states inv.each),
      c.in_ok-start-2.ensures.ranks,
      c.none-2.ensures.agreed,
      c.none-2.ensures.others,
    )

pub returns-clause-opening : goal.returns-clause-opening
returns-clause-opening g c =
    let inv = c.loop-rank.invariant in
    let all : c.loop-rank.rank ≡ c.args.setting.ranks = omega (arith, c.loop-rank-test.false, c.loop-rank.auto.rank-end) in
    opening_is c.args.setting c.loop-rank.ranks.items c.loop-rank.rank inv.size c.in_ok-start-2.field-0 all c.in_ok-start-2.ensures.links inv.states

pub loop-rank-preserved : goal.loop-rank-preserved
loop-rank-preserved g c =
    let inv = c.loop-rank.invariant in
    let new : RankHeld = c.in_ok-start.field-0 in
    let put = c.push_reserved.ensures.items in
    let is : new.state ≡ fresh c.args.setting c.loop-rank.rank = c.in_ok-start.ensures.state in
    let none : new.boxed ≡ 0 = c.in_ok-start.ensures.boxed in
    record {
      size = subst (λ (xs : List RankHeld). length xs ≡ c.loop-rank.rank + 1) (sym {A = List RankHeld} put) (length-append c.loop-rank.ranks.items (new ∷ []) ∙ ap (λ n. n + 1) inv.size);
      room = omega (arith, c.push_reserved.ensures.capacity, inv.room);
      states = subst (λ (xs : List RankHeld). map (λ (x : RankHeld). x.state) xs ≡ map (fresh c.args.setting) (range_with_len 0 (c.loop-rank.rank + 1))) (sym {A = List RankHeld} put) (states_more c.args.setting c.loop-rank.ranks.items c.loop-rank.rank inv.size new inv.states is);
      each = subst (λ (xs : List RankHeld). (r : ℕ) (x : RankHeld) → r < c.loop-rank.rank + 1 → IsRankOf c.args.setting r 0 (get_or xs r x)) (sym {A = List RankHeld} put)
          (each_more c.args.setting c.loop-rank.ranks.items c.loop-rank.rank inv.size new (new_rank c.args.setting c.loop-rank.ranks.items c.loop-rank.rank inv.size new is none c.counts_rise.ensures.fresh) inv.each);
    }
