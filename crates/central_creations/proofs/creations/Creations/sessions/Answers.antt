use Rattle.std.proofs.Common.{Vec, Global, ℕ, get_or, ap, ◌∙◌, arith}
use Rattle.mpi_law.specs.Registry.State.{blank_creation}
use Rattle.mpi_law.specs.Registry.Creations.{caller_of}
use Rattle.central_creations.proofs.ListFacts.{pushed_next, none_below}
use Rattle.central_creations.proofs.creations.Creations.sessions.Goals as goal
use Rattle.central_creations.proofs.creations.Creations.sessions.Goals.{in-Some+in_ok-push, in_default}

pub loop-index-preserved : goal.loop-index-preserved
loop-index-preserved c = elim c.match-get.branch [
  | in-Some+in_ok-push w ↦
      pushed_next (λ m. (caller_of (get_or c.args.self.now c.args.place blank_creation).callers m).session) c.args.members.now c.loop-index.index w.in-Some.member
      c.loop-index.sessions.items c.match-get.sessions.items w.session_of.result w.in-Some.ensures c.loop-index.invariant w.session_of.ensures
      (ap (λ (v : Vec ℕ Global). v.items) w.sessions-is ∙ w.in_ok-push.ensures.items)
  | in_default w ↦ absurd (omega (arith, none_below c.args.members.now c.loop-index.index w.in_default.ensures, c.loop-index-test.true, c.len-index-end.ensures.value))
]
