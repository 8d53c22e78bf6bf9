-- The exchange of shares: a settle tells all members' shares, and a member to which they come goes on with them.
use Rattle.std.proofs.Common.{◌≡◌, ◌<◌, ◌==◌, ℕ, suc, ◌++◌, Bool, true, false, List, [], ◌∷◌, map, length, set, Some, refl, sym, ap, ◌∙◌, arith}
use Rattle.std.specs.Prelude.{slice_get}
use Rattle.std.proofs.lemmas.Bool.Decides.{nat_tests}
use Rattle.mpi_base.specs.declared.keys.Key.{Key}
use Rattle.mpi_base.specs.declared.shares.Shared1.{Shared1}
use Rattle.mpi_base.specs.declared.entries.Said.TheVariants as said
use Rattle.mpi_base.specs.MemberLists.{has_rank}
use Rattle.mpi_base.proofs.KeyFacts.{same_key-refl}
use Rattle.mpi_law.specs.declared.setting.Setting.{Setting}
use Rattle.mpi_law.specs.Registry.State.{Registry}
use Rattle.agree_law.specs.Tree.{member_at}
use Rattle.agree_law.specs.Part.{Agree, stage_of, drop_shares}
use Rattle.agree_law.specs.Packets as agree
use Rattle.agree_law.specs.Kinds.{is_share}
use Rattle.agree_law.specs.Shares.{share_list, takes_shares, take_shares, to_others, settle_share}
use Rattle.agree_law.specs.Moves.{settle}
use Rattle.agree_law.specs.World.{Event}
use Rattle.agree_law.proofs.Lists.{AllOf, AllOf-append, AllOf_map, AllOf_each}
use Rattle.share_law.specs.Facts.{sharing_of}
use Rattle.mpi_protocol.specs.Packets.{Agreeing, Sent, agreeing}
use Rattle.mpi_protocol.specs.Rank.{Rank}
use Rattle.mpi_protocol.specs.Agreeing.{settles, settles_as}
use Rattle.mpi_protocol.specs.Delivers.{delivers}
use Rattle.mpi_protocol.specs.Run.{pick_events}
use Rattle.mpi_protocol.specs.World.{World, rank_at}
use Rattle.projection_law.specs.Facts.{MaySettleShare, IsToldList}
use Rattle.projection_law.proofs.Laws.{settled_shares_are_told_there}
use Rattle.due_law.specs.Dues.{Dues}
use Rattle.run_law.proofs.Joined.{rank_in}
use Rattle.due_law.specs.Agreed.{Untold}
use Rattle.run_law.proofs.Agreed.{TellsShare, AllTold}
use Rattle.run_law.proofs.Tolds.{none_told, told_said, told_taken, ToldFits, tolds_none}
use Rattle.run_law.proofs.ToldSteps.{deliver_told, tolds_settled}
use Rattle.run_law.proofs.SharingSteps.{settle_shares}
use Rattle.run_law.proofs.SettleSteps.{Goes}
use Rattle.registry_law.proofs.Telling.{TellFits, told_one, one_told, tolds_one}
use Rattle.registry_law.proofs.QuietSends.{is_quiet, SentFits, one_quiet, take_shares_quiet}
use Rattle.registry_law.proofs.Exchanging.{sharing_stage, item_there}
use Rattle.registry_law.proofs.Together.{Together}

-- what the first member of an exchange sends when it settles

settle_sent : (r top : ℕ) (a : Agree) (key : Key) → is_share key.kind ≡ true
    → (settle r top a key).sent ≡ to_others key.members (agree.Shares key (share_list a.shares key)) ++ (take_shares r top (record a { shares = drop_shares a.shares key }) r key (share_list a.shares key)).sent
unfolding settle settle_share
settle_sent r top a key e = rw e refl

settled_sends : (x : Rank) (key : Key) → is_share key.kind ≡ true
    → (settles x key).sent ≡ agreeing (to_others key.members (agree.Shares key (share_list x.agree.shares key)) ++ (take_shares x.rank x.setting.contexts (record x.agree { shares = drop_shares x.agree.shares key }) x.rank key (share_list x.agree.shares key)).sent)
unfolding settles
settled_sends x key e = ap (λ (b : Bool). (settles_as x key b).sent) e ∙ ap agreeing (settle_sent x.rank x.setting.contexts x.agree key e)

module _ (s : Setting) (w : World) (es : List Event) (due : Dues) (g : Registry) (z : Together s w es due g) (untold : Untold w.ranks due) (r : ℕ) (lt : r < s.ranks) where
  abbrev x : Rank
  x = rank_at w r

  -- all members' shares come
  pub shares_come : (from : ℕ) (key : Key) (list : List Shared1) → TellFits g r (Agreeing (agree.Shares key list)) → takes_shares x.rank x.agree from key list ≡ true → Goes s g [] (set w.ranks r (delivers x from (Some (Agreeing (agree.Shares key list)))).state) due
  shares_come from key list h taken = (deliver_told s w.ranks due (told_one r key list) g z.joined (tolds_one g r key list h) r from key list untold lt (one_told r key list) taken).0

  -- a settle

  module _ (key : Key) (m : MaySettleShare w r key) where
    abbrev list : List Shared1
    list = share_list x.agree.shares key

    all_told : AllTold w.ranks key list
    all_told = record { long = told.long; each = λ p inside. each p inside }
      where
        told : IsToldList w key list
        told = settled_shares_are_told_there s w es z.follows.projected r key m

        each : (p : ℕ) → p < length key.members → TellsShare (rank_in w.ranks (member_at key.members p)) key (slice_get list p)
        each p inside =
            let long = told.long in
            let i = item_there list p (omega (arith, long, inside)) in
            let here : sharing_of (stage_of (rank_at w (member_at key.members p)).agree.opened key) ≡ Some i.item = sym (told.told p inside) ∙ i.is in
            record { share = i.item; stage = sharing_stage (stage_of (rank_at w (member_at key.members p)).agree.opened key) i.item here; item_is = i.is }

    pub shares_settle : Goes s g (pick_events r key (Some said.Shared)) (set w.ranks r (settles x key).state) due
    shares_settle = settle_shares s w.ranks due g r key z.joined untold lt m.may all_told

    -- the list is that of the callers, at each member
    member_told : (q : ℕ) → has_rank key.members q ≡ true → ToldFits g.comms g.creations q key list
    member_told q member = tolds_settled s w.ranks due none_told g z.joined (tolds_none g) (suc q) key list all_told q key list is
      where
        is : told_taken (told_said none_told key list) (suc q) key q key ≡ Some list
        is = let k = same_key-refl key in let other : (q == suc q) ≡ false = grind (arith, nat_tests) in rw (k, other, member) refl

    others_told : (ms : List ℕ) → ((q : ℕ) → has_rank ms q ≡ true → ToldFits g.comms g.creations q key list) → AllOf (λ (c : agree.Sent). TellFits g c.to (Agreeing c.packet)) (map (λ q. record { to = q; packet = agree.Shares key list }) ms)
    others_told [] h = tt
    others_told (q ∷ ms) h = (h q (grind (arith, nat_tests)), others_told ms (λ i e. h i (grind (arith, e))))

    all_others : (ms : List ℕ) → ((q : ℕ) → has_rank ms q ≡ true → ToldFits g.comms g.creations q key list) → AllOf (λ (c : agree.Sent). TellFits g c.to (Agreeing c.packet)) (to_others ms (agree.Shares key list))
    all_others [] h = tt
    all_others (q ∷ ms) h = others_told ms (λ i e. h i (grind (arith, e)))

    pub settle_tells : is_share key.kind ≡ true → SentFits g (settles x key).sent
    settle_tells e =
        let own = (take_shares x.rank x.setting.contexts (record x.agree { shares = drop_shares x.agree.shares key }) x.rank key list).sent in
        let quiet = take_shares_quiet x.rank x.setting.contexts (record x.agree { shares = drop_shares x.agree.shares key }) x.rank key list in
        rw (settled_sends x key e) (AllOf_map (λ (c : Sent). TellFits g c.to c.packet) (λ (c : agree.Sent). record { to = c.to; packet = Agreeing c.packet }) (to_others key.members (agree.Shares key list) ++ own)
        (AllOf-append (λ (c : agree.Sent). TellFits g c.to (Agreeing c.packet)) (to_others key.members (agree.Shares key list)) own (all_others key.members member_told)
        (AllOf_each (λ (c : agree.Sent). is_quiet c.packet ≡ true) (λ (c : agree.Sent). TellFits g c.to (Agreeing c.packet)) own (λ c q. one_quiet g c.to c.packet q) quiet)))
