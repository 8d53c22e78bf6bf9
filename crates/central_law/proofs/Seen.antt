-- What a match looks at: the messages, the receives and the members of the communicators. A call that frees communicators
-- leaves their members.
use Rattle.std.proofs.Common.{◌≡◌, ℕ, zero, suc, ◌==◌, ◌&&◌, not, nat_lt, Bool, true, false, if◌then◌else◌, List, [], ◌∷◌, get_or, set, map, refl, ap, ◌∙◌}
use Rattle.std.specs.List.{list_any}
use Rattle.mpi_law.specs.declared.effects.Effect.{Effect}
use Rattle.mpi_law.specs.declared.effects.Effect.TheVariants as effect
use Rattle.mpi_law.specs.Registry.State.{Registry, Communicator, Message, Receive, blank_comm, comm_at, place_in}
use Rattle.mpi_law.specs.Registry.Messages.{allows, fits, is_unmatched, is_waiting, is_overtaken, is_preceded, may_match}
use Rattle.mpi_law.specs.Registry.Calls.{is_kept, with_freed}
use Rattle.central_law.specs.After.{comms_after}
use Rattle.central_law.proofs.Lists.{any_alike}

abbrev pub members_at : List Communicator → ℕ → List ℕ
members_at comms p = (get_or comms p blank_comm).members

module _ (g h : Registry) (same : (p : ℕ) → members_at h.comms p ≡ members_at g.comms p) where
  fits_alike : (x : Receive) (m : Message) → fits h x m ≡ fits g x m
  fits_alike x m = ap (λ (ms : List ℕ). (x.comm == m.comm) && ((x.lane == m.lane) && ((x.rank == m.to) && (allows x.source (place_in ms m.from) && allows x.tag m.tag)))) (same m.comm)

  overtaken_alike : (x : Receive) (m n : Message) → is_overtaken h x m n ≡ is_overtaken g x m n
  overtaken_alike x m n = ap (λ (b : Bool). is_unmatched n && ((n.from == m.from) && ((n.comm == m.comm) && ((n.lane == m.lane) && (nat_lt n.number m.number && b))))) (fits_alike x n)

  preceded_alike : (x : Receive) (m : Message) (y : Receive) → is_preceded h x m y ≡ is_preceded g x m y
  preceded_alike x m y = ap (λ (b : Bool). is_waiting y && ((y.rank == x.rank) && (nat_lt y.number x.number && b))) (fits_alike y m)

  pub seen_alike : h.messages ≡ g.messages → h.receives ≡ g.receives → (x : Receive) (m : Message) → may_match h x m ≡ may_match g x m
  unfolding may_match
  seen_alike messages receives x m =
      ap (λ (b : Bool). is_waiting x && (is_unmatched m && (b && (not (list_any (is_overtaken h x m) h.messages) && not (list_any (is_preceded h x m) h.receives))))) (fits_alike x m)
      ∙ ap (λ (b : Bool). is_waiting x && (is_unmatched m && (fits g x m && (not b && not (list_any (is_preceded h x m) h.receives)))))
      (ap (λ (ms : List Message). list_any (is_overtaken h x m) ms) messages ∙ any_alike (is_overtaken h x m) (is_overtaken g x m) g.messages (overtaken_alike x m))
      ∙ ap (λ (b : Bool). is_waiting x && (is_unmatched m && (fits g x m && (not (list_any (is_overtaken g x m) g.messages) && not b))))
      (ap (λ (xs : List Receive). list_any (is_preceded h x m) xs) receives ∙ any_alike (is_preceded h x m) (is_preceded g x m) g.receives (preceded_alike x m))

members_set : (comms : List Communicator) (p : ℕ) (m : Communicator) (q : ℕ) → m.members ≡ members_at comms p → members_at (set comms p m) q ≡ members_at comms q
members_set [] p m q e = refl
members_set (x ∷ xs) zero m zero e = e
members_set (x ∷ xs) zero m (suc q) e = refl
members_set (x ∷ xs) (suc p) m zero e = refl
members_set (x ∷ xs) (suc p) m (suc q) e = members_set xs p m q e

members_map : (comms : List Communicator) (f : Communicator → Communicator) → ((m : Communicator) → (f m).members ≡ m.members) → (q : ℕ) → members_at (map f comms) q ≡ members_at comms q
members_map [] f e q = refl
members_map (x ∷ xs) f e zero = e x
members_map (x ∷ xs) f e (suc q) = members_map xs f e q

freed_if : (r : ℕ) (m : Communicator) (b : Bool) → (if b then with_freed r m else m).members ≡ m.members
freed_if r m true = refl
freed_if r m false = refl

pub members_stay : (g : Registry) (r : ℕ) (e : Effect ℕ) (p : ℕ) → members_at (comms_after g r e) p ≡ members_at g.comms p
members_stay g r (effect.Says said) p = refl
members_stay g r (effect.Opens target) p = refl
members_stay g r (effect.Groups target members session) p = refl
members_stay g r (effect.Ungroups name) p = refl
members_stay g r (effect.Joins a) p = refl
members_stay g r (effect.Frees name q) p = members_set g.comms q (with_freed r (comm_at g q)) p refl
members_stay g r (effect.Ends name session) p = members_map g.comms (λ m. if is_kept r session m then with_freed r m else m) (λ m. freed_if r m (is_kept r session m)) p
members_stay g r (effect.Sends m) p = refl
members_stay g r (effect.Receives x) p = refl
members_stay g r (effect.Posts target x) p = refl
members_stay g r (effect.NullPosts target) p = refl
members_stay g r (effect.Completes name number) p = refl
members_stay g r (effect.Awaits name) p = refl
