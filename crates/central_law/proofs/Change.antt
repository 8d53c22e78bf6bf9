-- What a call changes, and what a match of its entry sees.
use Rattle.std.proofs.Common.{◌≡◌, ◌≢◌, ℕ, ◌<◌, Option, ◌∷◌, get_or-set_same, get_or-set_other, refl, sym, ap, ◌∙◌, subst}
use Rattle.mpi_base.specs.declared.messages.Matched.{Matched}
use Rattle.mpi_base.specs.declared.ops.Op.{Op}
use Rattle.mpi_law.specs.declared.setting.Setting.{Setting}
use Rattle.mpi_law.specs.declared.setting.TheConstants.{THREADS}
use Rattle.mpi_law.specs.declared.effects.Effect.{Effect}
use Rattle.mpi_law.specs.Local.Effects.{said_at_once, is_said}
use Rattle.mpi_law.specs.Registry.State.{Registry, Message, Receive, Wait, blank_part, part_of}
use Rattle.mpi_law.specs.Registry.Messages.{may_match, receive_of, message_of}
use Rattle.mpi_law.specs.Registry.Calls.{effect_at}
use Rattle.mpi_law.specs.Registry.Events.{Calls, registry_next}
use Rattle.mpi_law.specs.Registry.Runs.{registry_after}
use Rattle.central_law.specs.Rest.{AtRest}
use Rattle.central_law.specs.Within.{within, posted_state}
use Rattle.central_law.specs.After.{part_after, wait_after, called_state}
use Rattle.central_law.proofs.Seen.{seen_alike, members_stay}
use Rattle.central_law.proofs.Begun.{reply_or, posted, called_is, within_leads}

pub part_here : (s : Setting) (g : Registry) (r t : ℕ) (e : Effect ℕ) (m : Option Matched) → AtRest s g → r < s.ranks → part_of (called_state g r t e m) r ≡ part_after g r t e
part_here s g r t e m rest rank = get_or-set_same g.ranks r (part_after g r t e) blank_part (subst (λ (n : ℕ). r < n) (sym rest.ranks) rank)

pub part_elsewhere : (g : Registry) (r t q : ℕ) (e : Effect ℕ) (m : Option Matched) → q ≢ r → part_of (called_state g r t e m) q ≡ part_of g q
part_elsewhere g r t q e m other = get_or-set_other g.ranks r q (part_after g r t e) blank_part other

module _ (s : Setting) (g : Registry) (r t : ℕ) (o : Op) (rest : AtRest s g) (rank : r < s.ranks) (thread : t < THREADS) where
  abbrev does : Effect ℕ
  does = effect_at s g r o

  abbrev wait : Wait
  wait = reply_or (said_at_once does) (wait_after g r does)

  seen : registry_after s g (Calls r t o (is_said does) ∷ within r t does) ≡ posted g r t does wait
  unfolding registry_next
  seen = ap (λ (h : Registry). registry_after s h (within r t does)) (called_is g r t does) ∙ within_leads s g r t rest rank thread does

  pub receives_seen : (q number : ℕ) → receive_of (registry_after s g (Calls r t o (is_said does) ∷ within r t does)) q number ≡ receive_of (posted_state g r does) q number
  receives_seen q number = ap (λ (h : Registry). receive_of h q number) seen

  pub messages_seen : (q number : ℕ) → message_of (registry_after s g (Calls r t o (is_said does) ∷ within r t does)) q number ≡ message_of (posted_state g r does) q number
  messages_seen q number = ap (λ (h : Registry). message_of h q number) seen

  pub matches_seen : (x : Receive) (m : Message) → may_match (registry_after s g (Calls r t o (is_said does) ∷ within r t does)) x m ≡ may_match (posted_state g r does) x m
  matches_seen x m = ap (λ (h : Registry). may_match h x m) seen ∙ seen_alike (posted_state g r does) (posted g r t does wait) (members_stay g r does) refl refl x m
