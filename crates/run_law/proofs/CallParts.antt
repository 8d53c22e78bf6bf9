-- The registry's part of a rank after a call that says, and after one that waits; and why a call may come.
use Rattle.std.proofs.Common.{◌≡◌, ◌≢◌, ◌⊎◌, ◌<◌, ℕ, ◌+◌, Bool, List, length, get_or, set, refl, sym, ap, ◌∙◌, subst, inl, inr, arith, length-set}
use Rattle.mpi_base.specs.declared.ops.Op.{Op}
use Rattle.mpi_base.specs.declared.replies.Reply.{Reply}
use Rattle.mpi_law.specs.declared.setting.Setting.{Setting}
use Rattle.mpi_law.specs.declared.setting.TheConstants.{THREADS}
use Rattle.mpi_law.specs.Local.Objects.{Local}
use Rattle.mpi_law.specs.declared.effects.Effect.{Effect}
use Rattle.mpi_law.specs.Local.Effects.{is_said}
use Rattle.mpi_law.specs.Registry.State as reg
use Rattle.mpi_law.specs.Registry.State.{Registry, RankPart, ThreadPart, Wait, blank_part, part_of, thread_of, with_call, with_wait, is_idle_wait}
use Rattle.mpi_law.specs.Registry.Calls.{effect_at}
use Rattle.mpi_law.specs.Registry.Runs.{MayCall}
use Rattle.mpi_protocol.specs.declared.rows.Waits.{Waits}
use Rattle.mpi_protocol.specs.declared.rows.Waits.TheVariants.{Nothing}
use Rattle.mpi_protocol.specs.Rank.{Rank}
use Rattle.due_law.specs.Dues.{Dues}
use Rattle.run_law.proofs.Threads.{WaitFits, row_of, part_row}
use Rattle.run_law.proofs.Joined.{rank_in, Joined}
use Rattle.run_law.proofs.Between.{between_calls}
use Rattle.run_law.proofs.Parts.{set_at, set_twice, thread_in, PartsAfter}

pub set_here : {A : Type 0} (xs : List A) (i : ℕ) (y d : A) → i < length xs → get_or (set xs i y) i d ≡ y
set_here xs i y d lt = go (set_at xs i y d i lt)
  where
    go : ((i ≡ i) × (get_or (set xs i y) i d ≡ y)) ⊎ ((i ≢ i) × (get_or (set xs i y) i d ≡ get_or xs i d)) → get_or (set xs i y) i d ≡ y
    go (inl a) = a.1
    go (inr a) = absurd (a.0 refl)

set_else : {A : Type 0} (xs : List A) (i : ℕ) (y d : A) (k : ℕ) → i < length xs → k ≢ i → get_or (set xs i y) k d ≡ get_or xs k d
set_else xs i y d k lt ne = go (set_at xs i y d k lt)
  where
    go : ((k ≡ i) × (get_or (set xs i y) k d ≡ y)) ⊎ ((k ≢ i) × (get_or (set xs i y) k d ≡ get_or xs k d)) → get_or (set xs i y) k d ≡ get_or xs k d
    go (inl a) = absurd (ne a.0)
    go (inr a) = a.1

pub parts_set : (old : List RankPart) (r t : ℕ) (p : RankPart) (l : Local) (row : ThreadPart) → r < length old → p.local ≡ l → p.threads ≡ set (get_or old r blank_part).threads t row → PartsAfter old (set old r p) r t l row
parts_set old r t p l row lt el et = record {
  long = length-set old r p;
  local = ap (λ (z : RankPart). z.local) (set_here old r p blank_part lt) ∙ el;
  threads = ap (λ (z : RankPart). z.threads) (set_here old r p blank_part lt) ∙ et;
  others = λ q ne. set_else old r p blank_part q lt ne;
}

module _ (s : Setting) (ranks : List Rank) (due : Dues) (g : Registry) (r t : ℕ) (j : Joined s ranks due g) (lt : r < s.ranks) (here : t < THREADS) (ew : (row_of (rank_in ranks r).threads t).waits ≡ Nothing) where
  pub idle : (thread_in g.ranks r t).wait ≡ reg.Idle
  idle = go (row_of (rank_in ranks r).threads t).waits (thread_in g.ranks r t).wait refl ew ((j.threads r).waits t)
    where
      go : (a : Waits) (b : Wait) → (thread_in g.ranks r t).wait ≡ b → a ≡ Nothing → WaitFits a b → (thread_in g.ranks r t).wait ≡ reg.Idle
      go Nothing reg.Idle e f h = e
      go Nothing (reg.Reply_now z) e f h = absurd h
      go Nothing (reg.Sending z) e f h = absurd h
      go Nothing (reg.Posting z) e f h = absurd h
      go Nothing (reg.Requesting z) e f h = absurd h
      go Nothing (reg.Creating z) e f h = absurd h
      go Nothing (reg.Freeing z) e f h = absurd h
      go Nothing (reg.Ending z) e f h = absurd h
      go Nothing (reg.Receiving z) e f h = absurd h
      go Nothing (reg.Awaiting z) e f h = absurd h
      go a b e f h = absurd (cc (f))

  pub may_call : (op : Op) (e : Effect ℕ) (now : Bool) → effect_at s g r op ≡ e → now ≡ is_said e → MayCall s g r t op now
  may_call op e now is said = record { between = between_calls s ranks due g j; rank = lt; thread = here; idle = rw idle refl; reply = rw is said }

  inside : r < length g.ranks
  inside = let e = j.sizes.parts_are in omega (arith, e, lt)

  inside_thread : t < length (get_or g.ranks r blank_part).threads
  inside_thread = let e = (j.threads r).long_part in let i = here in omega (arith, e, i)

  -- a call that waits
  pub parts_call : (m : Local) (w : Wait) → PartsAfter g.ranks (set g.ranks r (with_call (part_of g r) t m w)) r t m (record { calls = (part_row (get_or g.ranks r blank_part).threads t).calls + 1; wait = w })
  parts_call m w = parts_set g.ranks r t (with_call (part_of g r) t m w) m _ inside refl refl

  -- a call that says, and its reply
  module _ (m : Local) (said : Reply) where
    abbrev first : RankPart
    first = with_call (part_of g r) t m (reg.Reply_now said)

    abbrev pub said_parts : List RankPart
    said_parts = set (set g.ranks r first) r (with_wait (get_or (set g.ranks r first) r blank_part) t reg.Idle)

    first_is : get_or (set g.ranks r first) r blank_part ≡ first
    first_is = set_here g.ranks r first blank_part inside

    pub wait_is : (part_row (get_or (set g.ranks r first) r blank_part).threads t).wait ≡ reg.Reply_now said
    wait_is = ap (λ (z : RankPart). (part_row z.threads t).wait) first_is ∙ ap (λ (z : ThreadPart). z.wait) (set_here (get_or g.ranks r blank_part).threads t _ reg.idle_thread inside_thread)

    pub parts_said : PartsAfter g.ranks said_parts r t m (record { calls = (part_row (get_or g.ranks r blank_part).threads t).calls + 1; wait = reg.Idle })
    parts_said =
        subst (λ (ps : List RankPart). PartsAfter g.ranks ps r t m (record { calls = (part_row (get_or g.ranks r blank_part).threads t).calls + 1; wait = reg.Idle })) (sym whole)
        (parts_set g.ranks r t (with_wait first t reg.Idle) m _ inside refl threads)
      where
        whole : said_parts ≡ set g.ranks r (with_wait first t reg.Idle)
        whole = ap (λ (z : RankPart). set (set g.ranks r first) r (with_wait z t reg.Idle)) first_is ∙ set_twice g.ranks r first (with_wait first t reg.Idle)

        threads : (with_wait first t reg.Idle).threads ≡ set (get_or g.ranks r blank_part).threads t (record { calls = (part_row (get_or g.ranks r blank_part).threads t).calls + 1; wait = reg.Idle })
        threads =
            ap (λ (z : ThreadPart). set (set (get_or g.ranks r blank_part).threads t (record { calls = (part_row (get_or g.ranks r blank_part).threads t).calls + 1; wait = reg.Reply_now said })) t (record { calls = z.calls; wait = reg.Idle })) (set_here (get_or g.ranks r blank_part).threads t (record { calls = (part_row (get_or g.ranks r blank_part).threads t).calls + 1; wait = reg.Reply_now said }) reg.idle_thread inside_thread)
            ∙ set_twice (get_or g.ranks r blank_part).threads t (record { calls = (part_row (get_or g.ranks r blank_part).threads t).calls + 1; wait = reg.Reply_now said }) (record { calls = (part_row (get_or g.ranks r blank_part).threads t).calls + 1; wait = reg.Idle })
