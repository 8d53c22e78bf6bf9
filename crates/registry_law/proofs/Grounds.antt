-- What messages and markers ask of the other topics at each world: it follows from the topics of names, threads, creations
-- and communicators, from the topic of members, and from what each rank keeps alone.
use Rattle.std.proofs.Common.{◌≡◌, ◌<◌, ℕ, ◌==◌, nat_lt, Bool, true, false, List, [], ◌∷◌, length, Option, Some, None, refl, sym, ap, ◌∙◌, subst, arith}
use Rattle.std.specs.Option.{is_some}
use Rattle.std.proofs.lemmas.Bool.Decides.{nat_tests}
use Rattle.mpi_base.specs.MemberLists.{has_rank, are_distinct}
use Rattle.pset_reg.specs.Sets.{are_below}
use Rattle.mpi_law.specs.declared.setting.Setting.{Setting}
use Rattle.mpi_law.specs.Registry.State.{Registry, Communicator, blank_comm, comm_at}
use Rattle.mpi_law.specs.Registry.Creations.{has_open_under}
use Rattle.mpi_law.specs.Registry.Contexts.{comm_of}
use Rattle.comm_law.specs.declared.rows.CommRow.{CommRow}
use Rattle.comm_law.specs.Comms.{row_at}
use Rattle.mpi_protocol.specs.Delivers.{is_context}
use Rattle.mpi_protocol.specs.World.{World, rank_at}
use Rattle.projection_law.proofs.BothTests.{left_of, right_of}
use Rattle.run_law.proofs.Lists.{get_or_past}
use Rattle.run_law.proofs.Rows.{row_in}
use Rattle.run_law.proofs.Contexts.{comm_of_is, comm_of_live}
use Rattle.due_law.specs.Dues.{Dues}
use Rattle.run_law.proofs.Comms.{CommFits}
use Rattle.run_law.proofs.Joined.{Joined}
use Rattle.run_law.proofs.Between.{between_calls}
use Rattle.run_law.proofs.Leavings as leavings
use Rattle.run_law.proofs.Owned.{Owned}
use Rattle.run_law.proofs.LeftHere.{left_settled}
use Rattle.message_law.proofs.Topics.{OnLive, is_left_row, has_left, Standing}
use Rattle.message_law.proofs.Worlds.{comms_of, Ground}
use Rattle.registry_law.proofs.Members.{Members}

-- a member of ranks below a number is below it
below : (n : ℕ) (ms : List ℕ) (q : ℕ) → are_below n ms ≡ true → has_rank ms q ≡ true → q < n
below n [] q e i = absurd (cc (i))
below n (m ∷ ms) q e i = go (m == q) refl (below n ms q (grind (arith, e)))
  where
    go : (b : Bool) → (m == q) ≡ b → (has_rank ms q ≡ true → q < n) → q < n
    go true t ih = let is : m ≡ q = grind (arith, nat_tests, t) in let l : nat_lt m n ≡ true = grind (arith, e) in grind (arith, nat_tests, is, l)
    go false t ih = ih (grind (arith, i, t))

-- two words for a row that is left
pub left_alike : (o : Option CommRow) → leavings.is_left_row o ≡ is_left_row o
left_alike None = refl
left_alike (Some m) = refl

module _ (s : Setting) (w : World) (due : Dues) (g : Registry) (j : Joined s w.ranks due g) (members : Members s.ranks g) (owned : Owned w.ranks) where
  -- a communicator that is live at a rank is what its context stands for
  pub stands_live : (p r : ℕ) → OnLive g p r → comm_of g.comms r (comm_at g p).ctx ≡ Some p
  stands_live p r on = comm_of_live g.comms r p j.whole.apart on.0 on.1

  rows : (r c : ℕ) (m : CommRow) → r < length w.ranks → row_at (comms_of w r) c ≡ Some m → (p : ℕ) × OnLive g p r × ((comm_at g p).ctx ≡ c) × (m.members ≡ (comm_at g p).members)
  rows r c m lr e = go (row_in (rank_at w r).comms.rows c) e (comm_of g.comms r c) refl ((j.comms r).each c)
    where
      go : (o : Option CommRow) → o ≡ Some m → (i : Option ℕ) → comm_of g.comms r c ≡ i → CommFits g.comms g.creations r (rank_at w r).agree.owner (due r) c o i → (p : ℕ) × OnLive g p r × ((comm_at g p).ctx ≡ c) × (m.members ≡ (comm_at g p).members)
      go None e i q h = absurd (cc (e))
      go (Some k) e None q h = absurd h
      go (Some k) e (Some p) q h =
          let at = comm_of_is g.comms r c p q in
          let is : m ≡ k = cc (e) in
          (p, (at.inside, at.live), at.context, ap (λ (z : CommRow). z.members) is ∙ h.members)

  -- a communicator with a member is there
  inside : (p q : ℕ) → has_rank (comm_at g p).members q ≡ true → p < length g.comms
  inside p q i = go (nat_lt p (length g.comms)) refl
    where
      go : (b : Bool) → nat_lt p (length g.comms) ≡ b → p < length g.comms
      go true t = grind (arith, nat_tests, t)
      go false t =
          let past = get_or_past g.comms p blank_comm (grind (arith, nat_tests, t)) in
          absurd (let z : has_rank [] q ≡ true = subst (λ (m : Communicator). has_rank m.members q ≡ true) past i in cc (z))

  left : (p q : ℕ) → has_rank (comm_at g p).members q ≡ true → has_left g (comms_of w) q p ≡ true → (has_rank (comm_at g p).freed q ≡ true) × (has_open_under g p q ≡ false)
  left p q i e = left_settled s w.ranks due g j q (owned.leavings q) p (inside p q i) i (rw (left_alike (row_in (rank_at w q).comms.rows (comm_at g p).ctx)) e)

  pub standing : Standing (length w.ranks) g (comms_of w)
  standing = record {
    apart = j.whole.apart;
    rows = rows;
    ranks = λ p q i. (let n = j.sizes.ranks_are in let l = below s.ranks (comm_at g p).members q (right_of (are_distinct (comm_at g p).members) _ (members p)) i in omega (arith, n, l));
    distinct = λ p. left_of (are_distinct (comm_at g p).members) _ (members p);
    left = left;
  }

  in_range : (p r : ℕ) → r < length w.ranks → OnLive g p r → is_context (rank_at w r) (comm_at g p).ctx ≡ true
  in_range p r lr on =
      let range = (j.comms r).range (comm_at g p).ctx (ap is_some (stands_live p r on)) in
      let n = j.sizes.ranks_are in
      let a = range.0 in
      let b = range.1 in
      rw (j.sizes.setting r (omega (arith, n, lr))) (grind (arith, nat_tests, a, b))

  pub ground : Ground w g
  ground = record {
    between = between_calls s w.ranks due g j;
    parts = j.sizes.parts_are ∙ sym j.sizes.ranks_are;
    threads = λ r lr. (j.threads r).long_part;
    standing = standing;
    contexts = in_range;
  }
