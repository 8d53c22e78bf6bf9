-- The answer of a split in which the caller has no colour.
use Rattle.std.proofs.Common.{◌≡◌, ◌<◌, ℕ, true, List, length, get_or, set, Some, refl, sym, ap, ◌∙◌, subst, arith}
use Rattle.mpi_base.specs.declared.keys.Key.{Key}
use Rattle.mpi_base.specs.declared.replies.Reply.TheVariants as reply
use Rattle.local_law.specs.Names.{unbind}
use Rattle.mpi_law.specs.declared.setting.Setting.{Setting}
use Rattle.mpi_law.specs.Local.Objects.{Local, with_names}
use Rattle.mpi_law.specs.Registry.State as reg
use Rattle.mpi_law.specs.Registry.State.{Registry, RankPart, Creating, blank_part, part_of, with_wait}
use Rattle.mpi_law.specs.Registry.Creations.{is_split, caller_of, outcome_for, with_answer}
use Rattle.mpi_law.specs.Registry.Replies.{owed, bind_outcome, with_local}
use Rattle.mpi_law.specs.Registry.Events.{Replies, registry_next}
use Rattle.mpi_protocol.specs.declared.rows.Waits.TheVariants.{Nothing, Uncoloured}
use Rattle.mpi_protocol.specs.Rank.{Rank}
use Rattle.mpi_protocol.specs.Answers.{answered}
use Rattle.mpi_protocol.specs.Run.{reply_events}
use Rattle.due_law.specs.Dues.{Dues}
use Rattle.run_law.proofs.Locals.{LocalFits, binds, is_name}
use Rattle.run_law.proofs.Threads.{row_of, part_row}
use Rattle.run_law.proofs.Creations.{UncolouredFits, creation_in}
use Rattle.run_law.proofs.Joined.{rank_in, Joined}
use Rattle.run_law.proofs.Waiters.{thread_inside}
use Rattle.run_law.proofs.Bindings.{other_unbind, fewer_unbind, names-unbind}
use Rattle.run_law.proofs.Parts.{set_twice, thread_in, PartsAfter}
use Rattle.run_law.proofs.CallParts.{parts_set, set_here}
use Rattle.run_law.proofs.Answered.{answered_joined}
use Rattle.run_law.proofs.OneThread.{thread_joined}
use Rattle.run_law.proofs.SettleSteps.{Goes}

module _ (s : Setting) (ranks : List Rank) (due : Dues) (g : Registry) (r t : ℕ) (key : Key) (target : List ℕ) (session n : ℕ) (j : Joined s ranks due g) (lt : r < s.ranks)
    (ew : (row_of (rank_in ranks r).threads t).waits ≡ Uncoloured key target session) (ep : (thread_in g.ranks r t).wait ≡ Creating n) where
  abbrev x : Rank
  x = rank_in ranks r

  h : UncolouredFits g.comms g.creations r t key target session n
  h = j.creations.uncoloured r t key target session n ew ep

  -- no thread can be answered so but in a split
  split : is_split (creation_in g.creations n).name ≡ true
  split = let u = h.uncoloured in grind (arith, u)

  abbrev m : Local
  m = bind_outcome (part_of g r).local (caller_of (creation_in g.creations n).callers r) (outcome_for (creation_in g.creations n) r)

  -- nothing was picked for the rank: the target is free again
  m_is : m ≡ with_names (part_of g r).local (unbind (part_of g r).local.names target)
  m_is =
      ap (bind_outcome (part_of g r).local (caller_of (creation_in g.creations n).callers r)) h.none
      ∙ ap (λ (name : List ℕ). with_names (part_of g r).local (unbind (part_of g r).local.names name)) h.caller.target_is

  abbrev first : RankPart
  first = with_local (part_of g r) m

  abbrev new : List RankPart
  new = set (set g.ranks r first) r (with_wait (get_or (set g.ranks r first) r blank_part) t reg.Idle)

  inside : r < length g.ranks
  inside = let e = j.sizes.parts_are in omega (arith, e, lt)

  new_is : new ≡ set g.ranks r (with_wait first t reg.Idle)
  new_is = ap (λ (z : RankPart). set (set g.ranks r first) r (with_wait z t reg.Idle)) (set_here g.ranks r first blank_part inside) ∙ set_twice g.ranks r first (with_wait first t reg.Idle)

  parts : PartsAfter g.ranks new r t m (record { calls = (part_row (get_or g.ranks r blank_part).threads t).calls; wait = reg.Idle })
  parts = subst (λ (ps : List RankPart). PartsAfter g.ranks ps r t m (record { calls = (part_row (get_or g.ranks r blank_part).threads t).calls; wait = reg.Idle })) (sym new_is) (parts_set g.ranks r t (with_wait first t reg.Idle) m _ inside refl refl)

  local : LocalFits g.comms x.comms.rows r (with_names x.local (unbind x.local.names target)) m
  local =
      let f = j.locals r in
      subst (λ (z : Local). LocalFits g.comms x.comms.rows r (with_names x.local (unbind x.local.names target)) z) (sym m_is)
      record {
        live = f.live;
        opened = f.opened;
        names = names-unbind g.comms x.comms.rows r x.local.names (part_of g r).local.names target f.names;
        each = λ n. fewer_unbind x.local.names (is_name n) target 1 (f.each n);
        comms_once = λ c. fewer_unbind x.local.names (binds c) target 1 (f.comms_once c);
      }

  reply_owed : owed g r t ≡ Some reply.Null
  reply_owed = rw (ep, h.uncoloured, h.all) refl

  abbrev rows : List reg.Creation
  rows = set g.creations n (with_answer (creation_in g.creations n) r)

  after_is : registry_next s g (Replies r t reply.Null) ≡ record g { creations = rows; ranks = new }
  unfolding registry_next
  after_is = rw ep refl

  still_split : (i : ℕ) → (thread_in g.ranks r t).wait ≡ Creating i → is_split (creation_in rows i).name ≡ true
  still_split i e = let is : n ≡ i = cc (ep, e) in subst (λ (k : ℕ). is_split (creation_in rows k).name ≡ true) is (ap (λ (c : reg.Creation). is_split c.name) (set_here g.creations n (with_answer (creation_in g.creations n) r) reg.blank_creation h.there) ∙ split)

  pub colourless_goes : Goes s g (reply_events r t (answered x t (row_of x.threads t).waits).reply) (set ranks r (answered x t (row_of x.threads t).waits).state) due
  colourless_goes =
      rw ew (
        (reply_owed, tt),
        rw after_is
            (thread_joined s ranks due (record g { creations = rows }) r t (record { calls = (row_of x.threads t).calls; waits = Nothing }) (record { calls = (part_row (get_or g.ranks r blank_part).threads t).calls; wait = reg.Idle }) (with_names x.local (unbind x.local.names target)) m new
            ((j.threads r).calls t) tt refl (answered_joined s ranks due g r n j h.there) lt (thread_inside s ranks due g j r t n ep) (λ k. rw ew refl) still_split parts local (λ c z. other_unbind x.local.names target c z) (λ serial p e f. absurd (cc (e)))),
      )
