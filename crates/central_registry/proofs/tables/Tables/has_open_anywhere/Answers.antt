use Rattle.std.proofs.Common.{◌≡◌, ◌∙◌, true, false, length, subst, sym, ap, arith}
use Rattle.std.specs.List.{list_any}
use Rattle.mpi_law.specs.declared.setting.TheConstants.{THREADS}
use Rattle.mpi_law.specs.Registry.State.{part_of}
use Rattle.mpi_law.specs.Registry.Creations.{has_open_under, is_under}
use Rattle.central_registry.specs.Held.{TablesHeld}
use Rattle.central_registry.proofs.Ranges.{open_here}
use Rattle.central_comms.proofs.CommFacts.{none_below}
use Rattle.central_registry.proofs.Members.{one_passes, one_more_fails}
use Rattle.central_registry.proofs.tables.Tables.has_open_anywhere.Goals as goal
use Rattle.central_registry.proofs.tables.Tables.has_open_anywhere.Goals.{in-Some+else-has_open_under, in_default}

pub returns-then-has_open_under : goal.returns-then-has_open_under
returns-then-has_open_under c =
    let g = c.args.self.now.state in
    let p = c.args.comm in
    let q = c.in-Some.member in
    let many : length (part_of g q).threads ≡ THREADS = subst (λ (z : TablesHeld). length (part_of z.state q).threads ≡ THREADS) c.self.view_is (c.count.ensures.threads q) in
    let opened : has_open_under g p q ≡ true = sym (open_here g q (λ x. is_under p x.name) many) ∙ sym c.if-has_open_under.ensures in
    sym (one_passes (has_open_under g p) c.members-members.result c.loop-place.place q c.in-Some.ensures opened)
    ∙ ap (list_any (has_open_under g p)) c.members-members.ensures

pub loop-place-preserved : goal.loop-place-preserved
loop-place-preserved c =
    let g = c.args.self.now.state in
    let p = c.args.comm in
    elim c.match-get.branch [
      | in-Some+else-has_open_under w ↦
          let q = w.in-Some.member in
          let many : length (part_of g q).threads ≡ THREADS = subst (λ (z : TablesHeld). length (part_of z.state q).threads ≡ THREADS) c.self.view_is (c.count.ensures.threads q) in
          let shut : has_open_under g p q ≡ false = sym (open_here g q (λ x. is_under p x.name) many) ∙ sym w.if-has_open_under.ensures in
          one_more_fails (has_open_under g p) c.members-members.result c.loop-place.place q w.in-Some.ensures shut c.loop-place.invariant
      | in_default w ↦ absurd (omega (arith, none_below c.members-members.result c.loop-place.place w.in_default.ensures, c.loop-place-test.true, c.len-place-end.ensures.value))
    ]
