use Rattle.std.proofs.Common.{refl, sym, subst, arith}
use Rattle.match_box.specs.Nodes.{nodes_in, rows_of, AreNumbered}
use Rattle.match_box.proofs.NodeFacts.{numbered-none}
use Rattle.match_box.proofs.queues.Queues.none.Goals as goal

pub invariant_of-result : goal.invariant_of-result
unfolding nodes_in rows_of
invariant_of-result g c = record {
  numbered = subst (λ slots. AreNumbered slots 0) (sym c.new.ensures.empty) numbered-none;
  queued = record { links = _; at = c.none.ensures.ends };
  many = c.none-2.ensures;
  sized = λ k. omega (arith, c.none.ensures.sizes k);
}

pub returns-clause-rows : goal.returns-clause-rows
unfolding nodes_in rows_of
returns-clause-rows g c = refl
