-- The tests are right, both ways.
use Rattle.std.proofs.Common.{◌≡◌, ◌↔◌, ◌<◌, ℕ, ◌&&◌, not, nat_lt, nat_le, Bool, true, false, Option, Some, None, refl, arith}
use Rattle.std.proofs.lemmas.Bool.Decides.{nat_tests}
use Rattle.std.specs.List.{list_all, range_with_len}
use Rattle.mpi_base.specs.declared.keys.Key.{Key}
use Rattle.mpi_base.specs.declared.messages.Matched.{Matched}
use Rattle.mpi_base.specs.declared.ops.Op.{Op}
use Rattle.mpi_base.specs.declared.replies.Reply.{Reply}
use Rattle.mpi_base.specs.declared.entries.Said.{Said}
use Rattle.mpi_base.specs.declared.entries.Said.TheVariants as said
use Rattle.mpi_law.specs.declared.setting.Setting.{Setting}
use Rattle.mpi_law.specs.declared.setting.TheConstants.{THREADS}
use Rattle.mpi_law.specs.Local.Effects.{said_at_once}
use Rattle.mpi_law.specs.Registry.State.{Registry, thread_of, is_idle_wait, is_between_calls}
use Rattle.mpi_law.specs.Registry.Contexts.{comm_of}
use Rattle.mpi_law.specs.Registry.Calls.{effect_at}
use Rattle.mpi_law.specs.Registry.Events.{Picks, Matches, Backs}
use Rattle.mpi_law.specs.Registry.Runs.{MayBack}
use Rattle.mpi_law.proofs.Decided.{allowed_when, when_allowed}
use Rattle.central_law.specs.Rest.{AtRest}
use Rattle.central_law.specs.Within.{posted_state}
use Rattle.central_law.specs.Fits.{MatchFits, PickFits, BackFits, CallFits}
use Rattle.central_law.specs.Tests.{match_test, pick_test, back_test, call_test}
use Rattle.mpi_law.specs.Registry.Tests.{can_pick, is_taken, can_return}
use Rattle.central_law.proofs.Lists.{first_of_two, second_of_two, two}

below : (a b : ℕ) → nat_lt a b ≡ true → a < b
below a b h = grind (arith, nat_tests, h)

is_below : (a b : ℕ) → a < b → nat_lt a b ≡ true
is_below a b h = grind (arith, nat_tests, h)

module _ (s : Setting) (g : Registry) (r : ℕ) where
  pub match_tests : (m : Option Matched) → MatchFits g r m ↔ (match_test g r m ≡ true)
  match_tests None = (λ h. refl, λ h. tt)
  match_tests (Some m) = (λ h. when_allowed s g (Matches r m.receive m.from m.number) h, λ h. allowed_when s g (Matches r m.receive m.from m.number) h refl)

  -- the test of an event has that no thread is within a call besides
  inner : (a b c : Bool) → ((a && b) && c) ≡ true → (b && c) ≡ true
  inner true b c h = h
  inner false b c h = absurd (cc (h))

  outer : (a b c : Bool) → a ≡ true → (b && c) ≡ true → ((a && b) && c) ≡ true
  outer true b c a h = h
  outer false b c a h = absurd (cc (a))

  module _ (rest : AtRest s g) where
    pub pick_tests : (key : Key) (x : Option Said) → PickFits s g r key x ↔ (pick_test s g r key x ≡ true)
    pick_tests key None = (λ h. refl, λ h. tt)
    pick_tests key (Some said.Own) = (λ h. refl, λ h. tt)
    pick_tests key (Some said.Zero) = (λ h. refl, λ h. tt)
    pick_tests key (Some said.Ready) = (λ h. refl, λ h. tt)
    pick_tests key (Some said.Retry) = (λ h. refl, λ h. tt)
    pick_tests key (Some (said.Picked c)) =
        let free = nat_le 1 c && (nat_le c s.contexts && not (is_taken g key c)) in (
          λ h. inner (is_between_calls g) (can_pick g r key) free (when_allowed s g (Picks r key (Some c)) h),
          λ h. allowed_when s g (Picks r key (Some c)) (outer (is_between_calls g) (can_pick g r key) free rest.between h) refl,
        )
    pick_tests key (Some said.Exhausted) =
        let all = list_all (is_taken g key) (range_with_len 1 s.contexts) in (
          λ h. inner (is_between_calls g) (can_pick g r key) all (when_allowed s g (Picks r key None) h),
          λ h. allowed_when s g (Picks r key None) (outer (is_between_calls g) (can_pick g r key) all rest.between h) refl,
        )
    pick_tests key (Some said.Shared) = (λ h. refl, λ h. tt)

    pub back_tests : (c : ℕ) (x : Option ℕ) → BackFits g r c x ↔ (back_test g r c x ≡ true)
    back_tests c None = (λ h. refl, λ h. tt)
    back_tests c (Some dropped) = go (comm_of g.comms r c) refl
      where
        go : (o : Option ℕ) → comm_of g.comms r c ≡ o → MayBack g r c dropped ↔ (can_return g r dropped (comm_of g.comms r c) ≡ true)
        go None e = (
          λ h. let there = h.here in absurd (cc (e, there)),
          λ h. absurd (cc (rw e at h)),
        )
        go (Some p) e = (
          λ h. let may = when_allowed s g (Backs r c dropped) h in rw e (second_of_two (is_between_calls g) (can_return g r dropped (Some p)) (rw e at may)),
          λ h. allowed_when s g (Backs r c dropped) (rw e (two (is_between_calls g) (can_return g r dropped (Some p)) rest.between (rw e at h))) refl,
        )

pub call_tests : (s : Setting) (g : Registry) (r t : ℕ) (o : Op) (m : Option Matched) (x : Option Reply) → CallFits s g r t o m x ↔ ((call_test s g r t o m ≡ true) × (x ≡ said_at_once (effect_at s g r o)))
call_tests s g r t o m x = (
  λ h. (two a (b && (c && d)) (is_below r s.ranks h.rank) (two b (c && d) (is_below t THREADS h.thread) (two c d h.idle ((match_tests s posted r m).0 h.match_fits))), h.reply),
  λ h.
      let k = second_of_two a (b && (c && d)) h.0 in
      let l = second_of_two b (c && d) k in
      record {
        rank = below r s.ranks (first_of_two a (b && (c && d)) h.0);
        thread = below t THREADS (first_of_two b (c && d) k);
        idle = first_of_two c d l;
        reply = h.1;
        match_fits = (match_tests s posted r m).1 (second_of_two c d l);
      },
)
  where
    posted : Registry
    posted = posted_state g r (effect_at s g r o)

    a : Bool
    a = nat_lt r s.ranks

    b : Bool
    b = nat_lt t THREADS

    c : Bool
    c = is_idle_wait (thread_of g r t).wait

    d : Bool
    d = match_test posted r m
