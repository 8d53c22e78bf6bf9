-- What a call sees of open creations: the registry and the rank have the same ones open.
use Rattle.std.proofs.Common.{◌≡◌, ℕ, ◌==◌, Bool, true, List, [], length, get_or, Some, refl, sym, ap, ◌∙◌, arith}
use Rattle.std.specs.List.{list_any}
use Rattle.mpi_base.specs.declared.keys.Kind.{Kind}
use Rattle.mpi_base.specs.declared.keys.Kind.TheVariants as kind
use Rattle.mpi_base.specs.declared.keys.Key.{Key}
use Rattle.mpi_base.specs.Keys.{same_key}
use Rattle.mpi_law.specs.declared.setting.Setting.{Setting}
use Rattle.mpi_law.specs.Registry.State as reg
use Rattle.mpi_law.specs.Registry.State.{Registry, Communicator, CreationName, Group_and_tag, Group_on, Creation, ThreadPart, Wait, Creating, created_by, part_of, creation_at}
use Rattle.mpi_law.specs.Registry.Creations.{same_name, caller_of, creates, has_open, is_open, has_open_of}
use Rattle.mpi_law.specs.Registry.Contexts.{comm_of, stands_for}
use Rattle.mpi_protocol.specs.declared.rows.Waits.{Waits}
use Rattle.mpi_protocol.specs.declared.rows.Waits.TheVariants.{Nothing, Creation as Creates, Uncoloured, Freeing, Ending, Receiving, Awaiting}
use Rattle.mpi_protocol.specs.declared.rows.ThreadRow.{ThreadRow}
use Rattle.mpi_protocol.specs.OpenHere as open_rank
use Rattle.mpi_protocol.specs.Rank as ranks_rank
use Rattle.mpi_protocol.specs.Rank.{Rank, idle_thread}
use Rattle.mpi_protocol.specs.OpenHere.{is_open_here}
use Rattle.mpi_protocol.specs.Calls.{key_from, key_under}
use Rattle.run_law.proofs.Lists.{any_tally}
use Rattle.due_law.specs.Dues.{Dues}
use Rattle.run_law.proofs.Threads.{WaitFits, row_of, part_row}
use Rattle.run_law.proofs.Creations.{CallerFits}
use Rattle.run_law.proofs.Names.{Standing, by_group, by_parent, standing, name_on, has_parent}
use Rattle.run_law.proofs.KnownHere.{contexts_agree}
use Rattle.run_law.proofs.Joined.{rank_in, Joined}

-- a key is that of a group and a tag where its name is
pub named_alike : (comms : List Communicator) (r : ℕ) (key : Key) (name : CreationName) (group tag : List ℕ) → stands_for comms r key ≡ Some name → same_name name (Group_and_tag group tag) ≡ same_key key (key_from group tag)
unfolding same_key
named_alike comms r key name group tag e = go (standing comms r key name e)
  where
    other : (k : Kind) → key.kind ≡ k → has_parent k ≡ true → (p : ℕ) → name ≡ name_on key k p → same_name name (Group_and_tag group tag) ≡ same_key key (key_from group tag)
    other kind.From q u p e = absurd (cc (u))
    other kind.Group q u p e = rw (e, q) (grind (arith))
    other kind.Dup q u p e = rw (e, q) (grind (arith))
    other kind.Split q u p e = rw (e, q) (grind (arith))
    other kind.Share q u p e = rw (e, q) (grind (arith))

    go : Standing comms r key name → same_name name (Group_and_tag group tag) ≡ same_key key (key_from group tag)
    go (by_group q p n i) = rw (q, p, n, i) (grind (arith))
    go (by_parent p u t c i) = other key.kind refl u p i

-- and that of a group on a communicator
named_on_alike : (s : Setting) (ranks : List Rank) (due : Dues) (g : Registry) (r : ℕ) (key : Key) (name : CreationName) (c p tag : ℕ) (group : List ℕ) → comm_of g.comms r c ≡ Some p → stands_for g.comms r key ≡ Some name → same_name name (Group_on p tag group) ≡ same_key key (key_under c tag group)
unfolding same_key
named_on_alike s ranks due g r key name c p tag group at e = go (standing g.comms r key name e)
  where
    under : (k : Kind) → key.kind ≡ k → has_parent k ≡ true → (i : ℕ) → (i == p) ≡ (key.parent == c) → key.tag ≡ [] → name ≡ name_on key k i → same_name name (Group_on p tag group) ≡ same_key key (key_under c tag group)
    under kind.From q u i same t e = absurd (cc (u))
    under kind.Group q u i same t e = rw (e, q, t, same) (grind (arith))
    under kind.Dup q u i same t e = rw (e, q) (grind (arith))
    under kind.Split q u i same t e = rw (e, q) (grind (arith))
    under kind.Share q u i same t e = rw (e, q) (grind (arith))

    go : Standing g.comms r key name → same_name name (Group_on p tag group) ≡ same_key key (key_under c tag group)
    go (by_group q z n i) = rw (q, i) (grind (arith))
    go (by_parent i u t there e) = under key.kind refl u i (sym (contexts_agree s ranks due g r key.parent c i p there at)) t e

any_same : {A B : Type 0} (p : A → Bool) (q : B → Bool) (xs : List A) (ys : List B) (d : A) (e : B) → length xs ≡ length ys → ((i : ℕ) → p (get_or xs i d) ≡ q (get_or ys i e)) → list_any p xs ≡ list_any q ys
any_same p q xs ys d e l f = any_tally p q xs ys d e l (λ i lt. f i) ∙ sym (any_tally q q ys ys e e refl (λ i lt. refl))

module _ (s : Setting) (ranks : List Rank) (due : Dues) (g : Registry) (r : ℕ) (j : Joined s ranks due g) where
  abbrev x : Rank
  x = rank_in ranks r

  -- by any test that agrees at each thread that waits for a creation
  pub open_same : (test : Creation → Bool) (mine : Key → ℕ → Bool)
      → ((i : ℕ) (k : Key) (target : List ℕ) (session n : ℕ) → stands_for g.comms r k ≡ Some (creation_at g n).name → CallerFits (creation_at g n).callers r i target session → test (creation_at g n) ≡ mine k session)
      → has_open g r test ≡ ranks_rank.has_open x.threads mine
  open_same test mine same =
      any_same (λ (t : ThreadPart). creates g test (created_by t.wait)) (λ (t : ThreadRow). ranks_rank.creates mine t.waits) (part_of g r).threads x.threads reg.idle_thread idle_thread
      ((j.threads r).long_part ∙ sym (j.threads r).long) (λ i. at i (row_of x.threads i).waits (part_row (part_of g r).threads i).wait refl refl ((j.threads r).waits i))
    where
      at : (i : ℕ) (a : Waits) (b : Wait) → (row_of x.threads i).waits ≡ a → (part_row (part_of g r).threads i).wait ≡ b → WaitFits a b → creates g test (created_by (part_row (part_of g r).threads i).wait) ≡ ranks_rank.creates mine (row_of x.threads i).waits
      at i Nothing reg.Idle ea eb h = rw (ea, eb) refl
      at i (Creates k target session) (Creating n) ea eb h = let f = j.creations.each r i k target session n ea eb in rw (ea, eb) (same i k target session n f.stands f.caller)
      at i (Uncoloured k target session) (Creating n) ea eb h = let f = j.creations.uncoloured r i k target session n ea eb in rw (ea, eb) (same i k target session n f.stands f.caller)
      at i (Freeing c) (reg.Freeing p) ea eb h = rw (ea, eb) refl
      at i (Ending c) (reg.Ending p) ea eb h = rw (ea, eb) refl
      at i (Receiving c) (reg.Receiving p) ea eb h = rw (ea, eb) refl
      at i (Awaiting c) (reg.Awaiting p) ea eb h = rw (ea, eb) refl
      at i a b ea eb h = absurd h

  -- a creation from a group is open in the registry exactly where its key is open at the rank
  pub open_agrees : (group tag : List ℕ) → is_open g r (Group_and_tag group tag) ≡ is_open_here x (key_from group tag)
  open_agrees group tag =
      open_same (λ c. same_name c.name (Group_and_tag group tag)) (λ k session. same_key k (key_from group tag)) (λ i k target session n stands caller. named_alike g.comms r k (creation_at g n).name group tag stands)

  -- and so is one of a group on a communicator
  pub open_on_agrees : (c p tag : ℕ) (group : List ℕ) → comm_of g.comms r c ≡ Some p → is_open g r (Group_on p tag group) ≡ is_open_here x (key_under c tag group)
  open_on_agrees c p tag group at =
      open_same (λ c. same_name c.name (Group_on p tag group)) (λ k session. same_key k (key_under c tag group)) (λ i k target session n stands caller. named_on_alike s ranks due g r k (creation_at g n).name c p tag group at stands)

  -- and one of a session
  pub engaged_agrees : (session : ℕ) → has_open_of g r session ≡ open_rank.has_open_of x session
  engaged_agrees session =
      open_same (λ c. (caller_of c.callers r).session == session) (λ k q. q == session) (λ i k target q n stands caller. ap (λ (z : ℕ). z == session) caller.session_is)
