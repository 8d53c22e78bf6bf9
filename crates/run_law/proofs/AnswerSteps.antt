-- An answer of a creation is a reply that the registry owes.
use Rattle.std.proofs.Common.{◌≡◌, ◌≢◌, ◌⊎◌, ◌<◌, ℕ, Bool, false, List, length, get_or, set, Option, Some, None, refl, ap, ◌∙◌, subst, inl, inr, arith, length-set}
use Rattle.std.specs.Prelude.{option_map}
use Rattle.mpi_base.specs.declared.keys.Key.{Key}
use Rattle.local_law.specs.Objects as bound
use Rattle.mpi_law.specs.declared.setting.Setting.{Setting}
use Rattle.mpi_law.specs.Local.Objects.{Local}
use Rattle.mpi_law.specs.Registry.State as reg
use Rattle.mpi_law.specs.Registry.State.{Registry, RankPart, ThreadPart, Creation, Caller, Outcome, Made, NoneFree, Wait, Creating, blank_part, part_of, with_wait}
use Rattle.mpi_law.specs.Registry.Creations.{is_uncoloured, caller_of, outcome_for, with_answer}
use Rattle.mpi_law.specs.Registry.Contexts.{is_exchange}
use Rattle.mpi_law.specs.Registry.Replies.{owed, outcome_reply, bind_outcome, with_local}
use Rattle.mpi_law.specs.Registry.Events.{Replies, registry_next}
use Rattle.agree_law.specs.declared.rows.Outcome.{Outcome as Ended}
use Rattle.agree_law.specs.declared.rows.Outcome.TheVariants as ended
use Rattle.agree_law.specs.declared.rows.Stage.{Stage}
use Rattle.agree_law.specs.declared.rows.Stage.TheVariants.{Done}
use Rattle.agree_law.specs.Part.{stage_of}
use Rattle.agree_law.specs.Moves.{close}
use Rattle.mpi_protocol.specs.declared.rows.Waits.TheVariants.{Creation as Creates}
use Rattle.mpi_protocol.specs.Rank.{Rank}
use Rattle.mpi_protocol.specs.Answers as ranks_answer
use Rattle.mpi_protocol.specs.Answers.{target_after, reply_of}
use Rattle.mpi_protocol.specs.Run.{reply_events}
use Rattle.run_law.proofs.Lists.{tally}
use Rattle.run_law.proofs.Contexts.{comm_of_is}
use Rattle.due_law.specs.Dues.{Dues}
use Rattle.run_law.proofs.Locals.{LocalFits, binds, is_name}
use Rattle.run_law.proofs.Threads.{row_of}
use Rattle.run_law.proofs.Creations.{DoneFits, StageFits, MembersFit, CreationFits, creation_in}
use Rattle.run_law.proofs.Joined.{rank_in, Joined}
use Rattle.run_law.proofs.Bindings.{rebind_names, once_rebind, other_rebind, other_unbind, fewer_unbind, names-rebind, names-unbind}
use Rattle.run_law.proofs.Parts.{set_at, set_twice, thread_in, PartsAfter}
use Rattle.run_law.proofs.Ends.{Differs}
use Rattle.run_law.proofs.Classes.{coloured}
use Rattle.run_law.proofs.Answered.{answered_joined}
use Rattle.run_law.proofs.Answering.{idle_part, answer_joined}
use Rattle.run_law.proofs.SettleSteps.{Goes}

-- what a rank has taken is what was picked, its reply the one owed, and its names go on to fit
module _ (s : Setting) (ranks : List Rank) (due : Dues) (g : Registry) (r : ℕ) (key : Key) (target : List ℕ) (session n : ℕ) (j : Joined s ranks due g) (lt : r < s.ranks) where
  abbrev x : Rank
  x = rank_in ranks r

  done_local : (d : Ended) (o : Option Outcome) (k : Caller) → k.target ≡ target → k.session ≡ session → DoneFits g.comms x.comms.rows x.local.names r key session d o → LocalFits g.comms x.comms.rows r (target_after x.local target session d) (bind_outcome (part_of g r).local k o)
  done_local (ended.Context c) (Some (Made p)) k et es h =
      let f = j.locals r in
      rw (et, es)
      record {
        live = f.live;
        opened = f.opened;
        names = names-rebind g.comms x.comms.rows r x.local.names (part_of g r).local.names target (bound.Comm c session) (bound.Comm p session) f.names (record { session = refl; stands = h.0.stands; kept = h.0.kept; known = h.2; of_session = h.0.session_is });
        each = λ m. rw (rebind_names x.local.names target m (bound.Comm c session)) (f.each m);
        comms_once = once_rebind x.local.names target c session f.each f.comms_once h.1;
      }
  done_local ended.Exhausted (Some NoneFree) k et es h =
      let f = j.locals r in
      rw et
      record {
        live = f.live;
        opened = f.opened;
        names = names-unbind g.comms x.comms.rows r x.local.names (part_of g r).local.names target f.names;
        each = λ m. fewer_unbind x.local.names (is_name m) target 1 (f.each m);
        comms_once = λ c. fewer_unbind x.local.names (binds c) target 1 (f.comms_once c);
      }
  done_local (ended.Context c) None k et es h = absurd h
  done_local (ended.Context c) (Some NoneFree) k et es h = absurd h
  done_local ended.Exhausted None k et es h = absurd h
  done_local ended.Exhausted (Some (Made p)) k et es h = absurd h

  done_frees : (d : Ended) (c : ℕ) → Differs d c → tally (binds c) x.local.names ≡ 0 → tally (binds c) (target_after x.local target session d).names ≡ 0
  done_frees (ended.Context b) c ne z = other_rebind x.local.names target b session c ne z
  done_frees ended.Exhausted c ne z = other_unbind x.local.names target c z

  done_reply : (d : Ended) (o : Option Outcome) → DoneFits g.comms x.comms.rows x.local.names r key session d o → option_map (outcome_reply g r) o ≡ Some (reply_of x.rank key d)
  done_reply (ended.Context c) (Some (Made p)) h =
      let number = j.sizes.number r lt in
      let ctx = (comm_of_is g.comms r c p h.0.stands).context in
      rw (number, ctx, h.0.members) refl
  done_reply ended.Exhausted (Some NoneFree) h = refl
  done_reply (ended.Context c) None h = absurd h
  done_reply (ended.Context c) (Some NoneFree) h = absurd h
  done_reply ended.Exhausted None h = absurd h
  done_reply ended.Exhausted (Some (Made p)) h = absurd h

module _ (s : Setting) (ranks : List Rank) (due : Dues) (g : Registry) (r t : ℕ) (key : Key) (target : List ℕ) (session n : ℕ) (d : Ended) (j : Joined s ranks due g) (lt : r < s.ranks)
    (ew : (row_of (rank_in ranks r).threads t).waits ≡ Creates key target session) (ep : (thread_in g.ranks r t).wait ≡ Creating n) (stage : stage_of (rank_in ranks r).agree.opened key ≡ Some (Done d)) where
  abbrev z : Rank
  z = rank_in ranks r

  h : CreationFits g.comms g.creations z.comms.rows z.local.names (due r key) (stage_of z.agree.opened key) r t key target session n
  h = j.creations.each r t key target session n ew ep

  done : DoneFits g.comms z.comms.rows z.local.names r key session d (outcome_for (creation_in g.creations n) r)
  done = (subst (λ (st : Option Stage). StageFits g.comms z.comms.rows z.local.names r key session (due r key) st (outcome_for (creation_in g.creations n) r)) stage h.far).1

  proper : is_exchange key.kind ≡ false
  proper = h.kind ∙ (rw stage refl)

  uncoloured_not : is_uncoloured (creation_in g.creations n) r ≡ false
  uncoloured_not = coloured (creation_in g.creations n) r key.members (subst (λ (b : Bool). MembersFit (creation_in g.creations n) r key b) proper h.members).0 h.member

  pub reply_owed : owed g r t ≡ Some (reply_of z.rank key d)
  reply_owed = rw ep (rw uncoloured_not (done_reply s ranks due g r key target session n j lt d (outcome_for (creation_in g.creations n) r) done))

  abbrev m : Local
  m = bind_outcome (part_of g r).local (caller_of (creation_in g.creations n).callers r) (outcome_for (creation_in g.creations n) r)

  abbrev first : RankPart
  first = with_local (part_of g r) m

  abbrev new : List RankPart
  new = set (set g.ranks r first) r (with_wait (get_or (set g.ranks r first) r blank_part) t reg.Idle)

  parts : PartsAfter g.ranks new r t m (idle_part (get_or g.ranks r blank_part).threads t)
  parts =
      let here = at (set_at g.ranks r first blank_part r inside) in
      rw here
      record {
        long = length-set (set g.ranks r first) r _ ∙ length-set g.ranks r first;
        local = ap (λ (p : RankPart). p.local) (there (set_at (set g.ranks r first) r (with_wait first t reg.Idle) blank_part r (omega (arith, inside, length-set g.ranks r first))));
        threads = ap (λ (p : RankPart). p.threads) (there (set_at (set g.ranks r first) r (with_wait first t reg.Idle) blank_part r (omega (arith, inside, length-set g.ranks r first))));
        others = λ q ne. ap (λ (ps : List RankPart). get_or ps q blank_part) (set_twice g.ranks r first (with_wait first t reg.Idle)) ∙ rest q ne (set_at g.ranks r (with_wait first t reg.Idle) blank_part q inside);
      }
    where
      inside : r < length g.ranks
      inside = let e = j.sizes.parts_are in omega (arith, e, lt)

      at : ((r ≡ r) × (get_or (set g.ranks r first) r blank_part ≡ first)) ⊎ ((r ≢ r) × (get_or (set g.ranks r first) r blank_part ≡ get_or g.ranks r blank_part)) → get_or (set g.ranks r first) r blank_part ≡ first
      at (inl a) = a.1
      at (inr a) = absurd (a.0 refl)

      there : ((r ≡ r) × (get_or (set (set g.ranks r first) r (with_wait first t reg.Idle)) r blank_part ≡ with_wait first t reg.Idle)) ⊎ ((r ≢ r) × (get_or (set (set g.ranks r first) r (with_wait first t reg.Idle)) r blank_part ≡ get_or (set g.ranks r first) r blank_part)) → get_or (set (set g.ranks r first) r (with_wait first t reg.Idle)) r blank_part ≡ with_wait first t reg.Idle
      there (inl a) = a.1
      there (inr a) = absurd (a.0 refl)

      rest : (q : ℕ) → q ≢ r → ((q ≡ r) × (get_or (set g.ranks r (with_wait first t reg.Idle)) q blank_part ≡ with_wait first t reg.Idle)) ⊎ ((q ≢ r) × (get_or (set g.ranks r (with_wait first t reg.Idle)) q blank_part ≡ get_or g.ranks q blank_part)) → get_or (set g.ranks r (with_wait first t reg.Idle)) q blank_part ≡ get_or g.ranks q blank_part
      rest q ne (inl a) = absurd (ne a.0)
      rest q ne (inr a) = a.1

  after_is : registry_next s g (Replies r t (reply_of z.rank key d)) ≡ record g { creations = set g.creations n (with_answer (creation_in g.creations n) r); ranks = new }
  unfolding registry_next
  after_is = rw ep refl

  answered_is : ranks_answer.answered z t (row_of z.threads t).waits ≡ ranks_answer.answers (record z { agree = close z.agree key; local = target_after z.local target session d }) t (reply_of z.rank key d)
  answered_is = rw (ew, stage) refl

  -- the answer of a creation
  pub answer_creation : Goes s g (reply_events r t (ranks_answer.answered z t (row_of z.threads t).waits).reply) (set ranks r (ranks_answer.answered z t (row_of z.threads t).waits).state) due
  unfolding close
  answer_creation =
      rw answered_is (
        (reply_owed, tt),
        rw after_is (answer_joined s ranks due (record g { creations = set g.creations n (with_answer (creation_in g.creations n) r) }) r t key target session n d (close z.agree key) (target_after z.local target session d) m new (answered_joined s ranks due g r n j h.there) lt ew ep stage refl refl refl parts
            (done_local s ranks due g r key target session n j lt d (outcome_for (creation_in g.creations n) r) (caller_of (creation_in g.creations n).callers r) h.caller.target_is h.caller.session_is done)
            (done_frees s ranks due g r key target session n j lt d)),
      )
