use Rattle.std.proofs.Common.{◌≡◌, ◌+◌, ◌-◌, sym, ap, ◌∙◌, arith}
use Rattle.std.specs.List.{list_all, range_with_len}
use Rattle.mpi_law.specs.Registry.Tests.{is_taken}
use Rattle.central_registry.proofs.PickTests.{one_lacks, all_up_to}
use Rattle.central_registry.proofs.tables.Tables.are_all_taken.Goals as goal

pub returns-then-not-is_taken : goal.returns-then-not-is_taken
returns-then-not-is_taken c =
    sym (one_lacks (is_taken c.args.self.now.state c.args.key.now) 1 c.args.setting.now.contexts c.loop-ctx.ctx c.loop-ctx.invariant.first (omega (arith, c.loop-ctx-test.true)) (sym c.if-not-is_taken.ensures))

pub loop-ctx-preserved : goal.loop-ctx-preserved
loop-ctx-preserved c = record {
  all =
      ap (λ n. list_all (is_taken c.args.self.now.state c.args.key.now) (range_with_len 1 n)) (let e : (c.loop-ctx.ctx + 1) - 1 ≡ c.loop-ctx.ctx = omega arith in e)
      ∙ all_up_to (is_taken c.args.self.now.state c.args.key.now) c.loop-ctx.ctx c.loop-ctx.invariant.first c.loop-ctx.invariant.all (sym c.if-not-is_taken.ensures);
  first = omega arith;
  within = omega (arith, c.loop-ctx-test.true);
}

pub returns-else-not-is_taken : goal.returns-else-not-is_taken
returns-else-not-is_taken c =
    let last : c.loop-ctx.ctx ≡ c.args.setting.now.contexts = omega arith in
    sym (all_up_to (is_taken c.args.self.now.state c.args.key.now) c.loop-ctx.ctx c.loop-ctx.invariant.first c.loop-ctx.invariant.all (sym c.if-not-is_taken.ensures))
    ∙ ap (λ n. list_all (is_taken c.args.self.now.state c.args.key.now) (range_with_len 1 n)) last
