-- What holds together: of a world, of the agreement's events so far, of what is due, and of the registry.
use Rattle.std.proofs.Common.{List, [], refl}
use Rattle.mpi_law.specs.declared.setting.Setting.{Setting}
use Rattle.mpi_law.specs.Registry.State.{Registry, registry_opening}
use Rattle.agree_law.specs.World.{Event, run, opening as agreement_opening}
use Rattle.mpi_protocol.specs.World.{World, opening}
use Rattle.due_law.specs.Dues.{Dues, none_due}
use Rattle.run_law.proofs.Joined.{Joined}
use Rattle.run_law.proofs.Opening.{opening_joined}
use Rattle.run_law.proofs.Owned.{Owned, owned_opening}
use Rattle.message_law.proofs.Numbers.{Shaped, opening_shaped}
use Rattle.message_law.proofs.Worlds.{Fits}
use Rattle.message_law.proofs.Openings.{opening_fits}
use Rattle.projection_law.proofs.SoundRuns.{Follows, follows-opening}
use Rattle.due_law.proofs.Law.{Holding, holding_always}
use Rattle.registry_law.proofs.Members.{Members}
use Rattle.registry_law.proofs.Telling.{Telling, telling_opening}

pub record Together (s : Setting) (w : World) (es : List Event) (due : Dues) (g : Registry) : Type 0 where
  pub joined : Joined s w.ranks due g
  pub fits : Fits w g
  pub shaped : Shaped w
  pub follows : Follows s w es
  pub owned : Owned w.ranks
  pub members : Members s.ranks g
  pub dues : Holding s.contexts (run s.contexts es (agreement_opening s.ranks s.contexts)) due
  pub telling : Telling w g

pub together_opening : (s : Setting) → Together s (opening s) [] none_due (registry_opening s)
together_opening s = record {
  joined = opening_joined s;
  fits = opening_fits s;
  shaped = opening_shaped s;
  follows = follows-opening s;
  owned = owned_opening s;
  members = λ p. refl;
  dues = holding_always s.ranks s.contexts [];
  telling = telling_opening s;
}
