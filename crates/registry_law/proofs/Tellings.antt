-- What is told of an exchange goes on to be told after any choice.
use Rattle.std.proofs.Common.{◌≡◌, ◌<◌, ◌==◌, ◌&&◌, if◌then◌else◌, ℕ, Bool, true, false, List, [], ◌∷◌, length, Option, Some, None, refl, sym, ap, ◌∙◌, subst, arith}
use Rattle.std.proofs.lemmas.Bool.Decides.{nat_tests}
use Rattle.mpi_base.specs.declared.keys.Key.{Key}
use Rattle.mpi_base.specs.declared.shares.Shared1.{Shared1}
use Rattle.mpi_base.specs.Keys.{same_key}
use Rattle.mpi_base.proofs.KeyFacts.{same_key_is}
use Rattle.mpi_base.specs.declared.entries.Act.{Act}
use Rattle.mpi_base.specs.declared.entries.Act.TheVariants.{Call, Answer, Deliver, Offer as MakeOffer, Settle, Leave, Back}
use Rattle.mpi_law.specs.declared.setting.Setting.{Setting}
use Rattle.mpi_law.specs.Registry.State.{Registry}
use Rattle.mpi_law.specs.Registry.Contexts.{comm_of}
use Rattle.mpi_law.specs.Registry.Events.{Backs, registry_next}
use Rattle.mpi_law.specs.Registry.Runs.{registry_after}
use Rattle.match_law.specs.Box.{kept_on}
use Rattle.agree_law.specs.Part.{stage_of}
use Rattle.agree_law.specs.Packets as agree
use Rattle.agree_law.specs.Kinds.{is_share}
use Rattle.agree_law.specs.Moves.{may_settle}
use Rattle.agree_law.specs.World as agreement
use Rattle.agree_law.proofs.Lists.{AllOf_both}
use Rattle.mpi_protocol.specs.Packets.{Packet, Agreeing, Message, Marker}
use Rattle.mpi_protocol.specs.Rank.{Rank}
use Rattle.mpi_protocol.specs.Agreeing.{settles}
use Rattle.mpi_protocol.specs.Step.{step, is_enabled, may_give_back, gives_back}
use Rattle.mpi_protocol.specs.Run.{entry_events, pick_events}
use Rattle.mpi_protocol.specs.World.{World, rank_at, link, head_for, has_packet, move_of, moved, entry_at}
use Rattle.due_law.specs.Dues.{Dues}
use Rattle.run_law.proofs.Joined.{rank_in}
use Rattle.run_law.proofs.Tolds.{ToldFits}
use Rattle.run_law.proofs.ToldSteps.{Unheard, tolds_backs}
use Rattle.message_law.proofs.Lines.{IsFromRank}
use Rattle.registry_law.proofs.Telling.{TellFits, Telling, told_one, one_told, tolds_one, tell_after, lines_fit, telling_after}
use Rattle.registry_law.proofs.QuietSends.{SentFits, IsPlain, step_quiet}
use Rattle.registry_law.proofs.Exchanging.{WaitsFor, all_wait}
use Rattle.registry_law.proofs.Together.{Together}
use Rattle.registry_law.proofs.Entries.{choice_of, events_by}
use Rattle.registry_law.proofs.ShareGrants.{settle_tells}
use Rattle.registry_law.proofs.AgreeGrants.{none_told_of, said_shared}
use Rattle.registry_law.proofs.MessageGrants.{asked_back}
use Rattle.registry_law.proofs.EntryKinds.{is_back_act, act_kept}

module _ (s : Setting) (w : World) (es : List agreement.Event) (due : Dues) (g : Registry) (z : Together s w es due g) (r : ℕ) (lr : r < length w.ranks) where
  abbrev x : Rank
  x = rank_at w r

  lt : r < s.ranks
  lt = let n = z.joined.sizes.ranks_are in omega (arith, n, lr)

  named : x.rank ≡ r
  named = z.joined.sizes.number r lt

  from_rank : (act : Act) → has_packet w r act ≡ true → IsFromRank w act
  from_rank (Call t o) h = tt
  from_rank (Answer t) h = tt
  from_rank (Deliver from) h = grind (arith, nat_tests, h)
  from_rank (MakeOffer key) h = tt
  from_rank (Settle key) h = tt
  from_rank (Leave c) h = tt
  from_rank (Back c) h = tt

  abbrev next : Act → Registry
  next act = registry_after s g (entry_events (entry_at w (choice_of r act)))

  -- an act that gives nothing back: what is on its way stays so
  module _ (act : Act) (there : has_packet w r act ≡ true) (plain : is_back_act act ≡ false) where
    stays_told : SentFits (next act) (move_of w (choice_of r act)).sent → Telling (moved w (choice_of r act)) (next act)
    stays_told sent =
        telling_after w (next act) (choice_of r act) (move_of w (choice_of r act)) z.shaped.wide lr (from_rank act there)
        (λ a b la lb. lines_fit w g z.telling (next act) r act (λ to p k. tell_after s g (entry_events (entry_at w (choice_of r act))) (act_kept w r named act plain) to p k) (from_rank act there) lr a b la lb) sent

  -- an act that tells nothing
  quietly_told : (act : Act) → has_packet w r act ≡ true → is_back_act act ≡ false → IsPlain g act → Telling (moved w (choice_of r act)) (next act)
  quietly_told act there kept plain = stays_told act there kept (step_quiet (next act) x act (head_for w r act) plain)

  -- a settle, of offers or of an exchange
  settle_told : (key : Key) → may_settle x.rank x.agree key ≡ true → (b : Bool) → is_share key.kind ≡ b → Telling (moved w (choice_of r (Settle key))) (next (Settle key))
  unfolding step may_settle
  settle_told key may false other = quietly_told (Settle key) refl refl other
  settle_told key may true other = stays_told (Settle key) refl refl (subst (λ (h : Registry). SentFits h (settles x key).sent) (sym none) (settle_tells s w es due g z (none_told_of s w es due g z r lt) r lt key (record { inside = lr; may = grind (arith, may, other) }) other))
    where
      silent : pick_events r key (settles x key).said ≡ []
      silent = rw (said_shared x key other) refl

      events : entry_events (entry_at w (choice_of r (Settle key))) ≡ []
      events = events_by w r (Settle key) named ∙ silent

      none : next (Settle key) ≡ g
      none = ap (registry_after s g) events

  -- A give-back: who is told shares waits for them, and so its communicator is not given back

  module _ (c : ℕ) (may : may_give_back x c ≡ true) where
    back_events_are : entry_events (entry_at w (choice_of r (Back c))) ≡ Backs r c (kept_on x.box c) ∷ []
    unfolding step gives_back
    back_events_are = events_by w r (Back c) named

    back_told : (p : ℕ) → comm_of g.comms r c ≡ Some p → (to : ℕ) (key : Key) (list : List Shared1) → to < length w.ranks → WaitsFor (λ k. stage_of (rank_at w to).agree.opened k) (Agreeing (agree.Shares key list)) → ToldFits g.comms g.creations to key list
        → TellFits (registry_next s g (Backs r c (kept_on x.box c))) to (Agreeing (agree.Shares key list))
    back_told p stands to key list it waits h =
        tolds_backs s w.ranks due (told_one to key list) g z.joined (tolds_one g to key list h) r c p (kept_on x.box c) z.owned.leavings unheard stands (asked_back s w es due g z r lt c p may stands).left to key list (one_told to key list)
      where
        unheard : Unheard w.ranks (told_one to key list)
        unheard q k none = go (same_key key k) refl (q == to) refl
          where
            go : (a : Bool) → same_key key k ≡ a → (b : Bool) → (q == to) ≡ b → (if a && b then Some list else None) ≡ None
            go true ea true eb =
                let is = same_key_is key k ea in
                let at : q ≡ to = grind (arith, nat_tests, eb) in
                let closed : stage_of (rank_at w to).agree.opened key ≡ None = subst (λ (i : ℕ). stage_of (rank_in w.ranks i).agree.opened key ≡ None) at (subst (λ (i : Key). stage_of (rank_in w.ranks q).agree.opened i ≡ None) (sym is) none) in
                let open_too = waits.is in
                absurd (cc (closed, open_too))
            go true ea false eb = refl
            go false ea b eb = refl

    goes_on : (o : Option ℕ) → comm_of g.comms r c ≡ o → (to : ℕ) → to < length w.ranks → (p : Packet) → WaitsFor (λ k. stage_of (rank_at w to).agree.opened k) p → TellFits g to p → TellFits (registry_next s g (Backs r c (kept_on x.box c))) to p
    unfolding registry_next
    goes_on o e to it (Agreeing (agree.Up key i own mask)) waits h = tt
    goes_on o e to it (Agreeing (agree.Down key i v)) waits h = tt
    goes_on o e to it (Agreeing (agree.Share key share)) waits h = tt
    goes_on o e to it (Message m) waits h = tt
    goes_on o e to it (Marker d) waits h = tt
    goes_on None e to it (Agreeing (agree.Shares key list)) waits h = rw e h
    goes_on (Some p) e to it (Agreeing (agree.Shares key list)) waits h = back_told p e to key list it waits h

    gives_told : Telling (moved w (choice_of r (Back c))) (next (Back c))
    gives_told =
        let is : next (Back c) ≡ registry_next s g (Backs r c (kept_on x.box c)) = ap (registry_after s g) back_events_are in
        subst (λ (h : Registry). Telling (moved w (choice_of r (Back c))) h) (sym is)
        (telling_after w (registry_next s g (Backs r c (kept_on x.box c))) (choice_of r (Back c)) (move_of w (choice_of r (Back c))) z.shaped.wide lr tt
        (λ a b la lb. AllOf_both (TellFits g b) (WaitsFor (λ k. stage_of (rank_at w b).agree.opened k)) (TellFits (registry_next s g (Backs r c (kept_on x.box c))) b) (link w a b) (λ p h k. goes_on (comm_of g.comms r c) refl b lb p k h) (z.telling a b la lb) (all_wait s w es z.follows.projected a b la lb))
        (step_quiet (registry_next s g (Backs r c (kept_on x.box c))) x (Back c) None tt))

  -- any choice
  pub telling_next : (act : Act) → has_packet w r act ≡ true → is_enabled x act ≡ true → Telling (moved w (choice_of r act)) (next act)
  unfolding is_enabled
  telling_next (Call t o) there can = quietly_told (Call t o) there refl tt
  telling_next (Answer t) there can = quietly_told (Answer t) there refl tt
  telling_next (Deliver from) there can = quietly_told (Deliver from) there refl tt
  telling_next (MakeOffer key) there can = quietly_told (MakeOffer key) there refl tt
  telling_next (Settle key) there can = settle_told key can (is_share key.kind) refl
  telling_next (Leave c) there can = quietly_told (Leave c) there refl tt
  telling_next (Back c) there can = gives_told c can
