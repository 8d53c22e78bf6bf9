-- The shares of an exchange are settled, or come to a member: the registry sees nothing, and ranks and registry go on to belong
-- together.
use Rattle.std.proofs.Common.{◌≡◌, ◌<◌, ℕ, suc, ℤ, ◌==◌, ◌&&◌, Bool, true, List, [], ◌∷◌, length, set, map, slice_get, Option, Some, None, refl, sym, ap, ◌∙◌, subst, arith}
use Rattle.std.specs.Option.{is_some}
use Rattle.std.proofs.lemmas.Cmp.{int_eq_equiv}
use Rattle.std.proofs.lemmas.Bool.Decides.{nat_tests}
use Rattle.mpi_base.specs.MemberLists.{has_rank}
use Rattle.mpi_base.specs.declared.keys.Key.{Key}
use Rattle.mpi_base.specs.declared.shares.Shared1.{Shared1}
use Rattle.mpi_law.specs.declared.setting.Setting.{Setting}
use Rattle.mpi_law.specs.Registry.State.{Registry, Creation, Creating}
use Rattle.mpi_law.specs.Registry.Creations.{is_split, has_called, share_of}
use Rattle.mpi_law.specs.Registry.Contexts.{is_exchange}
use Rattle.agree_law.specs.declared.rows.Stage.{Stage}
use Rattle.agree_law.specs.declared.rows.Stage.TheVariants.{Sharing, Called, Waiting, Offered, Done}
use Rattle.agree_law.specs.Tree.{place_in, member_at, is_first}
use Rattle.agree_law.specs.Packets as agree
use Rattle.agree_law.specs.Part.{Agree, stage_of, drop_shares}
use Rattle.agree_law.specs.Kinds.{is_share}
use Rattle.agree_law.specs.Offers.{begin, put_offer}
use Rattle.agree_law.specs.Classes.{is_colour}
use Rattle.agree_law.specs.Shares.{divide, is_own_share, same_share, colour_at, takes_share, take_share, takes_shares, take_shares, may_settle_share, settle_share, share_list}
use Rattle.agree_law.specs.Moves.{takes_packet, deliver, settle}
use Rattle.agree_law.proofs.TreeFacts.{member_place, place_member}
use Rattle.mpi_protocol.specs.declared.rows.Waits.TheVariants.{Creation as Creates}
use Rattle.mpi_protocol.specs.Packets.{Agreeing}
use Rattle.mpi_protocol.specs.Rank.{Rank, with_key}
use Rattle.mpi_protocol.specs.Moves.{Move}
use Rattle.mpi_protocol.specs.Agreeing.{next_key, settles, settles_as, with_shares}
use Rattle.mpi_protocol.specs.Delivers as ranks_deliver
use Rattle.mpi_protocol.specs.Delivers.{delivers, taken_if}
use Rattle.mpi_base.specs.declared.entries.Said.TheVariants as said
use Rattle.mpi_protocol.specs.Run.{pick_events}
use Rattle.run_law.proofs.Lists.{length-map}
use Rattle.due_law.specs.Dues.{Dues}
use Rattle.run_law.proofs.Threads.{row_of}
use Rattle.run_law.proofs.Creations.{MembersFit, ShareFits, CreationFits, creation_in, is_sharing}
use Rattle.run_law.proofs.Wholes.{is_open_row}
use Rattle.run_law.proofs.Names.{stands_at}
use Rattle.run_law.proofs.Classes.{each_member}
use Rattle.run_law.proofs.Joined.{rank_in, Joined}
use Rattle.due_law.specs.Agreed.{Untold}
use Rattle.run_law.proofs.Agreed.{TellsShare, AllTold}
use Rattle.run_law.proofs.Parts.{thread_in}
use Rattle.run_law.proofs.Waiters.{waiter_of}
use Rattle.run_law.proofs.ShareClasses.{SharesOf, item_in, item_at}
use Rattle.run_law.proofs.Sharing.{opened_next, exchange_splits, sharer, group_is, shared_joined}
use Rattle.run_law.proofs.UnseenSteps.{gathered}
use Rattle.run_law.proofs.SettleSteps.{Goes}

-- the list is the shares of all callers of the creation that a thread waits for under the key
abbrev pub SharesTold : List Rank → Registry → ℕ → Key → List Shared1 → Type 0
SharesTold ranks g r key list =
    (t n : ℕ) (target : List ℕ) (session : ℕ) → (row_of (rank_in ranks r).threads t).waits ≡ Creates key target session → (thread_in g.ranks r t).wait ≡ Creating n → SharesOf (creation_in g.creations n) list

-- What a rank's part is once it has taken the shares

record Divided (a b : Agree) (key : Key) (next : Option Key) : Type 0 where
  pub opened : b.opened ≡ opened_next a.opened key next
  pub owner : b.owner ≡ a.owner
  pub mask : b.mask ≡ a.mask

divided : (r top : ℕ) (a : Agree) (key : Key) (o : Option ℤ) (list : List Shared1) → Divided a (divide r top a key o list).part key (next_key key o list)
unfolding divide begin put_offer
divided r top a key None list = record { opened = refl; owner = refl; mask = refl }
divided r top a key (Some c) list = record { opened = refl; owner = refl; mask = refl }

taking_part : (r top : ℕ) (a : Agree) (from : ℕ) (key : Key) (list : List Shared1) → takes_shares r a from key list ≡ true → Divided a (take_shares r top a from key list).part key (next_key key (colour_at (slice_get list (place_in key.members r))) list)
unfolding take_shares
taking_part r top a from key list e = rw e (divided r top a key (colour_at (slice_get list (place_in key.members r))) list)

-- a rank that awaits to see its share is in the exchange
record InExchange (st : Option Stage) : Type 0 where
  pub share : Shared1
  pub is : st ≡ Some (Sharing share)

in_exchange : (st : Option Stage) (item : Option Shared1) → is_own_share st item ≡ true → InExchange st
in_exchange None item e = absurd (cc (e))
in_exchange (Some (Sharing z)) item e = record { share = z; is = refl }
in_exchange (Some Called) item e = absurd (cc (e))
in_exchange (Some (Waiting i)) item e = absurd (cc (e))
in_exchange (Some (Offered i own)) item e = absurd (cc (e))
in_exchange (Some (Done d)) item e = absurd (cc (e))

own_taken : (r : ℕ) (a : Agree) (from : ℕ) (key : Key) (list : List Shared1) → takes_shares r a from key list ≡ true → is_own_share (stage_of a.opened key) (slice_get list (place_in key.members r)) ≡ true
unfolding takes_shares
own_taken r a from key list e = go (is_share key.kind) (is_first from key.members) (has_rank key.members r) (length list == length key.members) (is_own_share (stage_of a.opened key) (slice_get list (place_in key.members r))) e
  where
    go : (p q t u b : Bool) → (p && (q && (t && (u && b)))) ≡ true → b ≡ true
    go p q t u b e = grind (arith, e)

module _ (s : Setting) (ranks : List Rank) (due : Dues) (g : Registry) (r : ℕ) (key : Key) (list : List Shared1) (j : Joined s ranks due g) (untold : Untold ranks due) (lt : r < s.ranks) (told : SharesTold ranks g r key list) where
  abbrev x : Rank
  x = rank_in ranks r

  -- the rank goes on with its colour
  goes_on_joined : (z : Shared1) → stage_of x.agree.opened key ≡ Some (Sharing z) → (a : Agree) → Divided x.agree a key (next_key key (colour_at (slice_get list (place_in key.members x.rank))) list) → Joined s (set ranks r (record (with_shares x key list) { agree = a })) due g
  goes_on_joined z was a d =
      let w = sharer s ranks due g r key z j was in
      let shares = told w.thread w.place w.target w.session w.waits w.part_waits in
      let group = group_is s ranks due g r key list z j untold lt was shares in
      let colour : colour_at (slice_get list (place_in key.members x.rank)) ≡ (share_of (creation_in g.creations w.place) r).colour
      = ap (λ (n : ℕ). colour_at (slice_get list (place_in key.members n))) (j.sizes.number r lt)
      ∙ (ap (λ (ss : List Shared1). colour_at (slice_get ss (place_in key.members r))) (shares.are ∙ ap (λ (ms : List ℕ). map (share_of (creation_in g.creations w.place)) ms) group)
      ∙ ap colour_at (item_at (share_of (creation_in g.creations w.place)) key.members r w.fits.member)) in
      let same : next_key key (colour_at (slice_get list (place_in key.members x.rank))) list ≡ next_key key (share_of (creation_in g.creations w.place) r).colour list = ap (λ (o : Option ℤ). next_key key o list) colour in
      subst (λ (k : Option Key). Joined s (set ranks r (record x { agree = a; threads = with_key x.threads key k })) due g) (sym same)
      (shared_joined s ranks due g r key list z j untold lt was shares a (d.opened ∙ ap (opened_next x.agree.opened key) same) d.owner d.mask)

  -- the shares come to a member

  delivered_as : (from : ℕ) → takes_shares x.rank x.agree from key list ≡ true → delivers x from (Some (Agreeing (agree.Shares key list))) ≡ taken_if true x from (Agreeing (agree.Shares key list))
  unfolding delivers ranks_deliver.takes_packet takes_packet
  delivered_as from e = ap (λ (b : Bool). taken_if b x from (Agreeing (agree.Shares key list))) e

  delivered_part : (from : ℕ) → (deliver x.rank x.setting.contexts x.agree from (agree.Shares key list)) ≡ take_shares x.rank x.setting.contexts x.agree from key list
  unfolding deliver
  delivered_part from = refl

  pub deliver_shares : (from : ℕ) → takes_shares x.rank x.agree from key list ≡ true → Goes s g [] (set ranks r (delivers x from (Some (Agreeing (agree.Shares key list)))).state) due
  deliver_shares from e =
      let i = in_exchange (stage_of x.agree.opened key) (slice_get list (place_in key.members x.rank)) (own_taken x.rank x.agree from key list e) in
      let d = taking_part x.rank x.setting.contexts x.agree from key list e in
      let state : (delivers x from (Some (Agreeing (agree.Shares key list)))).state ≡ record (with_shares x key list) { agree = (take_shares x.rank x.setting.contexts x.agree from key list).part } =
      ap (λ (m : Move). m.state) (delivered_as from e) ∙ ap (λ (m : agree.Moved). record (with_shares x key list) { agree = m.part }) (delivered_part from) in
      (tt, rw state (goes_on_joined i.share i.is (take_shares x.rank x.setting.contexts x.agree from key list).part d))

-- A share comes to the first member

share_part : (r top : ℕ) (a : Agree) (from : ℕ) (key : Key) (z : Shared1) → takes_share r a from key ≡ true
    → ((deliver r top a from (agree.Share key z)).part.opened ≡ a.opened) × ((deliver r top a from (agree.Share key z)).part.owner ≡ a.owner) × ((deliver r top a from (agree.Share key z)).part.mask ≡ a.mask)
unfolding deliver take_share
share_part r top a from key z e = rw e (refl, refl, refl)

share_as : (x : Rank) (from : ℕ) (key : Key) (z : Shared1) → takes_share x.rank x.agree from key ≡ true → delivers x from (Some (Agreeing (agree.Share key z))) ≡ taken_if true x from (Agreeing (agree.Share key z))
unfolding delivers ranks_deliver.takes_packet takes_packet
share_as x from key z e = ap (λ (b : Bool). taken_if b x from (Agreeing (agree.Share key z))) e

pub deliver_share : (s : Setting) (ranks : List Rank) (due : Dues) (g : Registry) (r : ℕ) (key : Key) (j : Joined s ranks due g) → r < s.ranks → (from : ℕ) (z : Shared1) → takes_share (rank_in ranks r).rank (rank_in ranks r).agree from key ≡ true
    → Goes s g [] (set ranks r (delivers (rank_in ranks r) from (Some (Agreeing (agree.Share key z)))).state) due
deliver_share s ranks due g r key j lt from z taken =
    let p = share_part (rank_in ranks r).rank (rank_in ranks r).setting.contexts (rank_in ranks r).agree from key z taken in
    (tt, subst (λ (y : Rank). Joined s (set ranks r y) due g) (sym (ap (λ (m : Move). m.state) (share_as (rank_in ranks r) from key z taken))) (gathered s ranks due g r key j lt (deliver (rank_in ranks r).rank (rank_in ranks r).setting.contexts (rank_in ranks r).agree from (agree.Share key z)).part p.0 p.1 p.2))

-- What all members have told

same_share_is : (a b : Shared1) → a.colour ≡ b.colour → a.key ≡ b.key → a ≡ b
same_share_is a b p q = ap (λ (c : Option ℤ). record { colour = c; key = a.key }) p ∙ ap (λ (k : ℤ). record { colour = b.colour; key = k }) q

-- lists with the same items
same_items : (xs ys : List Shared1) → length xs ≡ length ys → ((i : ℕ) → i < length xs → slice_get xs i ≡ slice_get ys i) → xs ≡ ys
same_items [] [] l h = refl
same_items [] (y ∷ ys) l h = absurd (omega (arith, l))
same_items (x ∷ xs) [] l h = absurd (omega (arith, l))
same_items (x ∷ xs) (y ∷ ys) l h =
    let first : Some x ≡ Some y = h 0 (omega arith) in
    let is : x ≡ y = cc (first) in
    let rest = same_items xs ys (omega (arith, l)) (λ i lt. h (suc i) (omega (arith, lt))) in
    rw (is, rest) refl

module _ (s : Setting) (ranks : List Rank) (due : Dues) (g : Registry) (key : Key) (list : List Shared1) (j : Joined s ranks due g) (all : AllTold ranks key list) where
  -- by member
  pub tells : (q : ℕ) → has_rank key.members q ≡ true → TellsShare (rank_in ranks q) key (slice_get list (place_in key.members q))
  tells q m = let p = member_place key.members q m in subst (λ (n : ℕ). TellsShare (rank_in ranks n) key (slice_get list (place_in key.members q))) p.1 (all.each (place_in key.members q) p.0)

  -- so the list is the shares of all callers, wherever a thread waits for the exchange
  pub told_by_all : (q : ℕ) → SharesTold ranks g q key list
  told_by_all q t n target session ew ep = record { all = each_member (has_called c) c.group (λ z m. (called_by z (rw (← group) m)).0); are = same_items list (map (share_of c) c.group) (all.long ∙ (ap (λ (ms : List ℕ). length ms) (sym group) ∙ sym (length-map (share_of c) c.group))) items }
    where
      c : Creation
      c = creation_in g.creations n

      h : CreationFits g.comms g.creations (rank_in ranks q).comms.rows (rank_in ranks q).local.names (due q key) (stage_of (rank_in ranks q).agree.opened key) q t key target session n
      h = j.creations.each q t key target session n ew ep

      exchange : is_exchange key.kind ≡ true
      exchange = h.kind ∙ ap is_sharing (tells q h.member).stage

      group : c.group ≡ key.members
      group = subst (λ (b : Bool). MembersFit c q key b) exchange h.members

      open_row : is_open_row c ≡ true
      open_row = let e : is_split c.name ≡ true = ap is_split (exchange_splits g.comms q key c.name exchange h.stands).name_is in grind (arith, e)

      -- each member waits for the same creation, with the share that it has told
      called_by : (z : ℕ) (m : has_rank key.members z ≡ true) → (has_called c z ≡ true) × ((tells z m).share ≡ share_of c z)
      called_by z m =
          let v = waiter_of s ranks due g j z key (ap is_some (tells z m).stage) in
          let there = stands_at g.comms q z key c.name c.group j.whole.apart h.stands (λ p e. j.whole.under q t n p ep e) (rw group m) in
          let named : Some (creation_in g.creations v.place).name ≡ Some c.name = sym v.fits.stands ∙ there in
          let name : (creation_in g.creations v.place).name ≡ c.name = cc (named) in
          let split : is_split (creation_in g.creations v.place).name ≡ true = ap is_split name ∙ ap is_split (exchange_splits g.comms q key c.name exchange h.stands).name_is in
          let open_v : is_open_row (creation_in g.creations v.place) ≡ true = grind (arith, split) in
          let place = j.whole.one_open v.place n v.fits.there h.there name open_v open_row in
          let share = subst (λ (o : Option Stage). ShareFits (share_of (creation_in g.creations v.place) z) o) (tells z m).stage v.fits.share in
          (subst (λ (i : ℕ). has_called (creation_in g.creations i) z ≡ true) place v.fits.caller.called, subst (λ (i : ℕ). (tells z m).share ≡ share_of (creation_in g.creations i) z) place (same_share_is (tells z m).share (share_of (creation_in g.creations v.place) z) share.0 share.1))

      items : (i : ℕ) → i < length list → slice_get list i ≡ slice_get (map (share_of c) c.group) i
      items i li =
          let inside : i < length key.members = (let l = all.long in omega (arith, l, li)) in
          let m = place_member key.members i inside in
          let here = all.each i inside in
          let a = here.stage in
          let b = (tells (member_at key.members i) m).stage in
          let same : here.share ≡ (tells (member_at key.members i) m).share = cc (a, b) in
          here.item_is ∙ (ap (λ (z : Shared1). Some z) (same ∙ (called_by (member_at key.members i) m).1)
          ∙ (sym (item_in (share_of c) key.members i inside) ∙ ap (λ (ms : List ℕ). slice_get (map (share_of c) ms) i) (sym group)))

-- The settle

same_share_itself : (z : Shared1) → same_share z z ≡ true
same_share_itself z = let k = int_eq_equiv.refl z.key in let c = go z.colour in rw (c, k) refl
  where
    go : (o : Option ℤ) → is_colour o o ≡ true
    go None = refl
    go (Some a) = int_eq_equiv.refl a

first_settles : (r : ℕ) (a : Agree) (key : Key) → may_settle_share r a key ≡ true → is_first r key.members ≡ true
first_settles r a key e = grind (arith, e)

first_member : (r : ℕ) (ms : List ℕ) → is_first r ms ≡ true → has_rank ms r ≡ true
first_member r [] e = absurd (cc (e))
first_member r (m ∷ ms) e = grind (arith, e)

-- the first member takes its own list
own_list : (r : ℕ) (a : Agree) (key : Key) (list : List Shared1) (z : Shared1) → is_share key.kind ≡ true → is_first r key.members ≡ true → has_rank key.members r ≡ true → length list ≡ length key.members → stage_of a.opened key ≡ Some (Sharing z) → slice_get list (place_in key.members r) ≡ Some z
    → takes_shares r a r key list ≡ true
unfolding takes_shares
own_list r a key list z kind first member long stage item =
    let l : (length list == length key.members) ≡ true = grind (arith, nat_tests, long) in
    let own : is_own_share (stage_of a.opened key) (slice_get list (place_in key.members r)) ≡ true = rw (stage, item) (same_share_itself z) in
    rw (kind, first, member, l, own) refl

settled_part : (r top : ℕ) (a : Agree) (key : Key) → is_share key.kind ≡ true → (settle r top a key).part ≡ (take_shares r top (record a { shares = drop_shares a.shares key }) r key (share_list a.shares key)).part
unfolding settle settle_share
settled_part r top a key e = rw e refl

settled_as : (x : Rank) (key : Key) → is_share key.kind ≡ true → (settles x key).state ≡ record (with_shares x key (share_list x.agree.shares key)) { agree = (settle x.rank x.setting.contexts x.agree key).part }
unfolding settles
settled_as x key e = ap (λ (b : Bool). (settles_as x key b).state) e

module _ (s : Setting) (ranks : List Rank) (due : Dues) (g : Registry) (r : ℕ) (key : Key) (j : Joined s ranks due g) (untold : Untold ranks due) (lt : r < s.ranks)
    (may : may_settle_share (rank_in ranks r).rank (rank_in ranks r).agree key ≡ true) (all : AllTold ranks key (share_list (rank_in ranks r).agree.shares key)) where
  abbrev w : Rank
  w = rank_in ranks r

  abbrev items : List Shared1
  items = share_list w.agree.shares key

  member : has_rank key.members r ≡ true
  member = subst (λ (n : ℕ). has_rank key.members n ≡ true) (j.sizes.number r lt) (first_member w.rank key.members (first_settles w.rank w.agree key may))

  mine : TellsShare w key (slice_get items (place_in key.members r))
  mine = tells s ranks due g key items j all r member

  kind_is : is_share key.kind ≡ true
  kind_is = grind (arith, may)

  abbrev before : Agree
  before = record w.agree { shares = drop_shares w.agree.shares key }

  takes_own : takes_shares w.rank before w.rank key items ≡ true
  takes_own =
      let number = j.sizes.number r lt in
      own_list w.rank before key items mine.share kind_is (first_settles w.rank w.agree key may) (rw number member) all.long mine.stage (ap (λ (n : ℕ). slice_get items (place_in key.members n)) number ∙ mine.item_is)

  part_is : (settle w.rank w.setting.contexts w.agree key).part ≡ (take_shares w.rank w.setting.contexts before w.rank key items).part
  part_is = settled_part w.rank w.setting.contexts w.agree key kind_is

  -- a settle of an exchange has no event
  pub settle_shares : Goes s g (pick_events r key (Some said.Shared)) (set ranks r (settles w key).state) due
  settle_shares =
      let d = taking_part w.rank w.setting.contexts before w.rank key items takes_own in
      let state : (settles w key).state ≡ record (with_shares w key items) { agree = (take_shares w.rank w.setting.contexts before w.rank key items).part } =
      settled_as w key kind_is ∙ ap (λ (a : Agree). record (with_shares w key items) { agree = a }) part_is in
      (tt, rw state (goes_on_joined s ranks due g r key items j untold lt (told_by_all s ranks due g key items j all r) mine.share mine.stage (take_shares w.rank w.setting.contexts before w.rank key items).part (record { opened = d.opened; owner = d.owner; mask = d.mask })))
