-- A registry that is not closed goes on: the drain leaves it closed, so some event comes, and the first one is allowed as it stands. A
-- drain by scripts without operations has no calls, so where it makes a choice, one that is no call may be made.
use Rattle.std.proofs.Common.{◌≡◌, ◌<◌, ◌⊎◌, ◌++◌, ℕ, Bool, true, false, List, [], ◌∷◌, length, get_or, Option, Some, None, refl, sym, ap, ◌∙◌, subst, inl, inr, arith, nat_lt}
use Rattle.std.specs.List.{list_all}
use Rattle.std.proofs.lemmas.Grind.{flat_map-append}
use Rattle.std.proofs.lemmas.Bool.Decides.{nat_tests}
use Rattle.mpi_base.specs.declared.keys.Key.{Key}
use Rattle.mpi_base.specs.declared.messages.Matched.{Matched}
use Rattle.mpi_base.specs.declared.replies.Reply.{Reply}
use Rattle.mpi_base.specs.declared.replies.Reply.TheVariants as reply
use Rattle.mpi_base.specs.MemberLists.{has_rank}
use Rattle.mpi_base.specs.declared.entries.Act.{Act}
use Rattle.mpi_base.specs.declared.entries.Act.TheVariants.{Call, Answer, Deliver, Offer as MakeOffer, Settle, Leave, Back}
use Rattle.mpi_base.specs.declared.entries.Entry.{Entry}
use Rattle.mpi_base.specs.declared.entries.Said.{Said}
use Rattle.mpi_base.specs.declared.entries.Said.TheVariants as said
use Rattle.mpi_law.specs.declared.setting.Setting.{Setting}
use Rattle.mpi_law.specs.declared.setting.TheConstants.{THREADS}
use Rattle.mpi_law.specs.ScriptLists.{AllScripts, next_op}
use Rattle.mpi_law.specs.Registry.State.{Registry, RankPart, Creation, Outcome, Creating, blank_part, idle_thread, thread_of, creation_at, registry_opening}
use Rattle.mpi_law.specs.Registry.Creations.{caller_of, has_called, all_called, is_uncoloured, outcome_for}
use Rattle.mpi_law.specs.Registry.Replies.{owed_creation, outcome_reply}
use Rattle.mpi_law.specs.Registry.Events.{Event}
use Rattle.mpi_law.specs.Registry.Runs.{IsRegistryRun, registry_after}
use Rattle.mpi_law.specs.Closed.{is_served, is_closed}
use Rattle.agree_law.specs.World as agreement
use Rattle.mpi_protocol.specs.Rank.{Rank}
use Rattle.mpi_protocol.specs.Step.{is_enabled}
use Rattle.mpi_protocol.specs.Order.{IsOfScript, IsDrained, IsQuiet, is_call}
use Rattle.mpi_protocol.specs.Run.{RunsFrom, IsProtocolRun, world_after, end_of, entry_events, events_of, act_events, match_events, reply_events, pick_events, back_events}
use Rattle.mpi_protocol.specs.World.{World, opening, rank_at, may_happen, moved, entry_at}
use Rattle.projection_law.specs.Premises.{SetsAreOfRanks}
use Rattle.projection_law.specs.Events.{events_at, agreement_events}
use Rattle.due_law.specs.Dues.{Dues}
use Rattle.due_law.specs.Runs.{dues_chosen, dues_of}
use Rattle.run_law.proofs.Lists.{get_or_past}
use Rattle.run_law.proofs.Waiters.{thread_inside}
use Rattle.message_law.proofs.RegistryCalls.{registry_after-append}
use Rattle.registry_law.specs.Facts.{registry_of}
use Rattle.registry_law.proofs.Entries.{choice_of, events_by}
use Rattle.registry_law.proofs.Together.{Together}
use Rattle.registry_law.proofs.Steps.{step_goes}
use Rattle.registry_law.proofs.Runs.{end_together, names_are_known}
use Rattle.wayout_law.specs.Facts.{DrainEnds}
use Rattle.wayout_law.proofs.DrainEnds.{drains_end}
use Rattle.closed_law.specs.GoingOn.{IsUnderWay, GoesOn, by_pick, by_match, by_back, by_reply, by_call}
use Rattle.closed_law.proofs.Lists.{member_at as member_holds}
use Rattle.closed_law.proofs.Creations.{blank_waits}
use Rattle.closed_law.proofs.Ended.{replies_end}
use Rattle.closed_law.proofs.Laws.{asked_here, decides_no_creation, closed_here}

module _ (s : Setting) (sets : SetsAreOfRanks s) (scripts : AllScripts) where
  -- the registry goes on, or it saw nothing
  abbrev OnOrStill : Registry → List Event → Type 0
  OnOrStill g es = GoesOn s scripts g ⊎ (es ≡ [])

  module _ (g : Registry) (r : ℕ) (lr : r < s.ranks) where
    on_match : (o : Option Matched) → IsRegistryRun s g (match_events r o) → OnOrStill g (match_events r o)
    on_match None a = inr refl
    on_match (Some m) a = inl (by_match r m.receive m.from m.number lr a.0)

    on_reply : (t : ℕ) → t < THREADS → (o : Option Reply) → IsRegistryRun s g (reply_events r t o) → OnOrStill g (reply_events r t o)
    on_reply t lt None a = inr refl
    on_reply t lt (Some z) a = inl (by_reply r t z lr lt a.0)

    on_pick : (key : Key) (o : Option Said) → IsRegistryRun s g (pick_events r key o) → OnOrStill g (pick_events r key o)
    on_pick key None a = inr refl
    on_pick key (Some said.Own) a = inr refl
    on_pick key (Some said.Zero) a = inr refl
    on_pick key (Some said.Ready) a = inr refl
    on_pick key (Some said.Retry) a = inr refl
    on_pick key (Some (said.Picked c)) a = inl (by_pick r key (Some c) lr a.0)
    on_pick key (Some said.Exhausted) a = inl (by_pick r key None lr a.0)
    on_pick key (Some said.Shared) a = inr refl

    on_back : (c : ℕ) (o : Option ℕ) → IsRegistryRun s g (back_events r c o) → OnOrStill g (back_events r c o)
    on_back c None a = inr refl
    on_back c (Some k) a = inl (by_back r c k lr a.0)

  module _ (w : World) (es : List agreement.Event) (due : Dues) (g : Registry) (z : Together s w es due g) (r : ℕ) (lr : r < s.ranks) where
    on_act : (act : Act) → is_enabled (rank_at w r) act ≡ true → IsOfScript scripts (rank_at w r) r act → IsRegistryRun s g (act_events r act (entry_at w (choice_of r act))) → OnOrStill g (act_events r act (entry_at w (choice_of r act)))
    unfolding is_enabled
    on_act (Call t op) can next a = inl (by_call r t op _ lr (grind (arith, nat_tests, can)) a.0 (ap (next_op scripts r t) ((z.joined.threads r).calls t) ∙ next))
    on_act (Answer t) can next a = on_reply g r lr t (grind (arith, nat_tests, can)) _ a
    on_act (Deliver from) can next a = on_match g r lr _ a
    on_act (MakeOffer key) can next a = inr refl
    on_act (Settle key) can next a = on_pick g r lr key _ a
    on_act (Leave c) can next a = inr refl
    on_act (Back c) can next a = on_back g r lr c _ a

  -- of choices of scripts, one after another: the first event is allowed, or there is none
  on_run : (w : World) (es : List agreement.Event) (due : Dues) (g : Registry) (entries : List Entry) → Together s w es due g → RunsFrom w entries → IsDrained scripts w entries → GoesOn s scripts g ⊎ (registry_after s g (events_of entries) ≡ g)
  on_run w es due g [] z runs drained = inr refl
  on_run w es due g (e ∷ rest) z runs drained =
      let step = step_goes s sets w es due g z e.choice runs.0 in
      go (λ same. on_run (moved w e.choice) (es ++ events_at w e.choice.rank e.choice.act) (dues_chosen w due e.choice) g rest (subst (Together s (moved w e.choice) (es ++ events_at w e.choice.rank e.choice.act) (dues_chosen w due e.choice)) same step.together) runs.2 drained.1)
      (on_act w es due g z e.choice.rank lr e.choice.act (grind (arith, may)) drained.0.may.scripted (subst (IsRegistryRun s g) by_rank step.allowed))
    where
      may : may_happen w e.choice ≡ true
      may = runs.0

      lr : e.choice.rank < s.ranks
      lr = let n = z.joined.sizes.ranks_are in grind (arith, nat_tests, may, n)

      by_rank : entry_events (entry_at w e.choice) ≡ act_events e.choice.rank e.choice.act (entry_at w e.choice)
      by_rank = events_by w e.choice.rank e.choice.act (z.joined.sizes.number e.choice.rank lr)

      go : (registry_after s g (entry_events (entry_at w e.choice)) ≡ g → GoesOn s scripts g ⊎ (registry_after s g (events_of rest) ≡ g)) → OnOrStill g (act_events e.choice.rank e.choice.act (entry_at w e.choice)) → GoesOn s scripts g ⊎ (registry_after s g (entry_events e ++ events_of rest) ≡ g)
      go more (inl on) = inl on
      go more (inr none) =
          let nothing : entry_events e ≡ [] = ap entry_events runs.1 ∙ (by_rank ∙ none) in
          rw nothing (more (ap (registry_after s g) (by_rank ∙ none)))

  -- the drain after the journal is a run with it
  after-append : (w : World) (xs ys : List Entry) → world_after w (xs ++ ys) ≡ world_after (world_after w xs) ys
  after-append w [] ys = refl
  after-append w (x ∷ xs) ys = after-append (moved w x.choice) xs ys

  runs-append : (w : World) (xs ys : List Entry) → RunsFrom w xs → RunsFrom (world_after w xs) ys → RunsFrom w (xs ++ ys)
  runs-append w [] ys a b = b
  runs-append w (x ∷ xs) ys a b = (a.0, a.1, runs-append (moved w x.choice) xs ys a.2 b)

  module _ (journal : List Entry) (run : IsProtocolRun s journal) where
    drain : DrainEnds scripts (end_of s journal)
    drain = drains_end s scripts journal sets (names_are_known s sets) run

    closed_then : is_closed s scripts (registry_after s (registry_of s journal) (events_of drain.entries)) ≡ true
    closed_then =
        let there = closed_here s scripts (journal ++ drain.entries) sets (runs-append (opening s) journal drain.entries run drain.runs) (subst (λ (w : World). IsQuiet w scripts) (sym (after-append (opening s) journal drain.entries)) drain.quiet) in
        let events : events_of (journal ++ drain.entries) ≡ events_of journal ++ events_of drain.entries = flat_map-append entry_events journal drain.entries in
        let registry : registry_of s (journal ++ drain.entries) ≡ registry_after s (registry_of s journal) (events_of drain.entries) = ap (registry_after s (registry_opening s)) events ∙ registry_after-append s (registry_opening s) (events_of journal) (events_of drain.entries) in
        subst (λ (g : Registry). is_closed s scripts g ≡ true) registry there

    pub goes_on : is_closed s scripts (registry_of s journal) ≡ false → GoesOn s scripts (registry_of s journal)
    goes_on open_yet = go (on_run (end_of s journal) (agreement_events (opening s) journal) (dues_of s journal) (registry_of s journal) drain.entries (end_together s sets journal run) drain.runs drain.drained)
      where
        go : GoesOn s scripts (registry_of s journal) ⊎ (registry_after s (registry_of s journal) (events_of drain.entries) ≡ registry_of s journal) → GoesOn s scripts (registry_of s journal)
        go (inl on) = on
        go (inr same) = absurd (let closed : is_closed s scripts (registry_of s journal) ≡ true = subst (λ (g : Registry). is_closed s scripts g ≡ true) same closed_then in cc (closed, open_yet))

-- Scripts without operations

abbrev no_scripts : AllScripts
no_scripts = record { ranks = 0; lists = [] }

uncalled : (x : Rank) (r : ℕ) (act : Act) → IsOfScript no_scripts x r act → is_call act ≡ false
uncalled x r (Call t op) e = absurd (cc (e))
uncalled x r (Answer t) e = refl
uncalled x r (Deliver from) e = refl
uncalled x r (MakeOffer key) e = refl
uncalled x r (Settle key) e = refl
uncalled x r (Leave c) e = refl
uncalled x r (Back c) e = refl

module _ (s : Setting) (sets : SetsAreOfRanks s) (journal : List Entry) (run : IsProtocolRun s journal) (n r : ℕ) (ln : n < length (registry_of s journal).creations) (all : all_called (creation_at (registry_of s journal) n) ≡ true)
    (member : has_rank (creation_at (registry_of s journal) n).group r ≡ true) (unanswered : has_rank (creation_at (registry_of s journal) n).answered r ≡ false) where
  abbrev g : Registry
  g = registry_of s journal

  abbrev c : Creation
  c = creation_at g n

  abbrev t : ℕ
  t = (caller_of c.callers r).thread

  -- its call waits
  waits : (thread_of g r t).wait ≡ Creating n
  waits = (asked_here s no_scripts journal sets run).waits n ln r (member_holds (has_called c) c.group r all member) (inr unanswered)

  a_rank : r < s.ranks
  a_rank = go (nat_lt r s.ranks) refl
    where
      go : (b : Bool) → nat_lt r s.ranks ≡ b → r < s.ranks
      go true e = grind (arith, nat_tests, e)
      go false e =
          let size = (end_together s sets journal run).joined.sizes.parts_are in
          let past = get_or_past g.ranks r blank_part (grind (arith, nat_tests, e, size)) in
          absurd (blank_waits t n (subst (λ (p : RankPart). (get_or p.threads t idle_thread).wait ≡ Creating n) past waits))

  a_thread : t < THREADS
  a_thread = thread_inside s (end_of s journal).ranks (dues_of s journal) g (end_together s sets journal run).joined r t n waits

  -- nothing is left to do at an end that is quiet, though a reply is owed
  not_quiet : IsQuiet (end_of s journal) no_scripts → ⊥
  not_quiet quiet = go (is_uncoloured c r) refl (outcome_for c r) refl
    where
      owes : (said : Reply) → owed_creation g r c ≡ Some said → ⊥
      owes said e = replies_end s no_scripts g (closed_here s no_scripts journal sets run quiet) r t said a_rank a_thread (rw waits e)

      served : is_served c r ≡ true
      served =
          let row = decides_no_creation s no_scripts journal sets run quiet n ln in
          let each : list_all (is_served c) c.group ≡ true = grind (arith, row, all) in
          member_holds (is_served c) c.group r each member

      go : (b : Bool) → is_uncoloured c r ≡ b → (o : Option Outcome) → outcome_for c r ≡ o → ⊥
      go true e o f = owes reply.Null (rw (e, all) refl)
      go false e (Some o) f = owes (outcome_reply g r o) (rw (e, f) refl)
      go false e None f = let z = served in let y = rw (f, e) at z in cc (y)

  pub under_way : IsUnderWay (end_of s journal)
  under_way = go drain_here.entries drain_here.runs drain_here.drained drain_here.quiet
    where
      drain_here : DrainEnds no_scripts (end_of s journal)
      drain_here = drains_end s no_scripts journal sets (names_are_known s sets) run

      go : (entries : List Entry) → RunsFrom (end_of s journal) entries → IsDrained no_scripts (end_of s journal) entries → IsQuiet (world_after (end_of s journal) entries) no_scripts → IsUnderWay (end_of s journal)
      go [] runs drained quiet = absurd (not_quiet quiet)
      go (e ∷ rest) runs drained quiet = record { choice = e.choice; own = uncalled (rank_at (end_of s journal) e.choice.rank) e.choice.rank e.choice.act drained.0.may.scripted; may = runs.0 }
