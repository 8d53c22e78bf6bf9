-- A rank takes the shares of an exchange: its creation goes on under the key of its class, or without a colour. The registry
-- sees nothing of it.
use Rattle.std.proofs.Common.{◌≡◌, ◌<◌, ℕ, ℤ, ◌+◌, if◌then◌else◌, Bool, true, false, List, length, get_or, set, Option, Some, None, refl, sym, ap, ◌∙◌, subst, arith}
use Rattle.std.specs.Option.{is_some}
use Rattle.mpi_base.specs.MemberLists.{has_rank}
use Rattle.mpi_base.specs.declared.keys.Key.{Key}
use Rattle.mpi_base.specs.declared.keys.Kind.{Kind}
use Rattle.mpi_base.specs.declared.keys.Kind.TheVariants as kind
use Rattle.mpi_base.specs.declared.shares.Shared1.{Shared1}
use Rattle.mpi_base.specs.Keys.{same_key}
use Rattle.mpi_base.proofs.KeyFacts.{same_key_is, same_key-refl}
use Rattle.mpi_law.specs.declared.setting.Setting.{Setting}
use Rattle.mpi_law.specs.Registry.State as reg
use Rattle.mpi_law.specs.Registry.State.{Registry, Creation, Creating, Outcome, blank_part}
use Rattle.mpi_law.specs.Registry.Creations.{is_split, class_of, class_by, share_of, outcome_for}
use Rattle.mpi_law.specs.Registry.Contexts.{comm_of, stands_for, is_exchange}
use Rattle.agree_law.specs.declared.rows.CreationRow.{CreationRow}
use Rattle.agree_law.specs.declared.rows.Stage.{Stage}
use Rattle.agree_law.specs.declared.rows.Stage.TheVariants.{Sharing, Called}
use Rattle.agree_law.specs.Part.{Agree, stage_of, open_creation, close_creation}
use Rattle.agree_law.specs.Classes as agreed_class
use Rattle.agree_law.specs.Classes.{split_key}
use Rattle.agree_law.proofs.RowFacts.{or_else, stage_of-open, stage_of-close}
use Rattle.mpi_protocol.specs.declared.rows.Waits.{Waits}
use Rattle.mpi_protocol.specs.declared.rows.Waits.TheVariants.{Nothing, Creation as Creates, Uncoloured, Freeing, Ending, Receiving, Awaiting}
use Rattle.mpi_protocol.specs.declared.rows.ThreadRow.{ThreadRow}
use Rattle.mpi_protocol.specs.Rank.{Rank, goes_on, going_on, with_key}
use Rattle.mpi_protocol.specs.Agreeing.{next_key}
use Rattle.run_law.proofs.Lists.{one, length-map}
use Rattle.due_law.specs.Dues.{Dues}
use Rattle.run_law.proofs.Locals.{LocalFits}
use Rattle.run_law.proofs.Threads.{row_of, ThreadsFit}
use Rattle.run_law.proofs.Masks.{MaskFits}
use Rattle.run_law.proofs.Creations.{StageFits, MembersFit, CreationFits, UncolouredFits, creation_in, is_sharing}
use Rattle.run_law.proofs.Comms.{CommsFit}
use Rattle.run_law.proofs.Wholes.{is_open_row}
use Rattle.run_law.proofs.Names.{Standing, by_group, by_parent, standing, stands_by, name_on}
use Rattle.run_law.proofs.Joined.{rank_in, Joined}
use Rattle.due_law.specs.Agreed.{Untold}
use Rattle.run_law.proofs.OneRank.{each_rank, sizes_set}
use Rattle.run_law.proofs.Parts.{thread_in}
use Rattle.run_law.proofs.Waiters.{Waiter, waiter_of, one_thread, one_waiter, thread_inside}
use Rattle.run_law.proofs.ShareClasses.{SharesOf, classes_agree, in_class}
use Rattle.run_law.proofs.GoingOn.{is_next, row_going, waits_going, tally_going, waiting}

-- the exchange is closed, and the creation of the class called, if there is one
abbrev pub opened_next : List CreationRow → Key → Option Key → List CreationRow
opened_next opened key None = close_creation opened key
opened_next opened key (Some next) = open_creation (close_creation opened key) next Called

is_share_kind : (k : Kind) → is_exchange k ≡ true → k ≡ kind.Share
is_share_kind kind.From e = absurd (cc (e))
is_share_kind kind.Group e = absurd (cc (e))
is_share_kind kind.Dup e = absurd (cc (e))
is_share_kind kind.Split e = absurd (cc (e))
is_share_kind kind.Share e = refl

-- what an exchange stands for is a split
pub record SplitAt (comms : List reg.Communicator) (r : ℕ) (key : Key) (name : reg.CreationName) : Type 0 where
  pub place : ℕ
  pub here : comm_of comms r key.parent ≡ Some place
  pub name_is : name ≡ reg.Nth_split place key.number

pub exchange_splits : (comms : List reg.Communicator) (r : ℕ) (key : Key) (name : reg.CreationName) → is_exchange key.kind ≡ true → stands_for comms r key ≡ Some name → SplitAt comms r key name
exchange_splits comms r key name e stands = go (standing comms r key name stands)
  where
    is : key.kind ≡ kind.Share
    is = is_share_kind key.kind e

    go : Standing comms r key name → SplitAt comms r key name
    go (by_group k p n q) = absurd (let z = is in cc (k, z))
    go (by_parent p u t here q) = record { place = p; here = here; name_is = q ∙ ap (λ (k : Kind). name_on key k p) is }

-- the thread that waits for an exchange
abbrev pub sharer : (s : Setting) (ranks : List Rank) (due : Dues) (g : Registry) (r : ℕ) (key : Key) (z : Shared1) (j : Joined s ranks due g) → stage_of (rank_in ranks r).agree.opened key ≡ Some (Sharing z) → Waiter s ranks due g j r key
sharer s ranks due g r key z j was = waiter_of s ranks due g j r key (ap is_some was)

module _ (s : Setting) (ranks : List Rank) (due : Dues) (g : Registry) (r : ℕ) (key : Key) (list : List Shared1) (z : Shared1) (j : Joined s ranks due g) (untold : Untold ranks due) (lt : r < s.ranks) (was : stage_of (rank_in ranks r).agree.opened key ≡ Some (Sharing z))
    (told : SharesOf (creation_in g.creations (sharer s ranks due g r key z j was).place) list) where
  abbrev x : Rank
  x = rank_in ranks r

  abbrev w : Waiter s ranks due g j r key
  w = sharer s ranks due g r key z j was

  abbrev c : Creation
  c = creation_in g.creations w.place

  exchange : is_exchange key.kind ≡ true
  exchange = w.fits.kind ∙ ap is_sharing was

  kind_is : key.kind ≡ kind.Share
  kind_is = is_share_kind key.kind exchange

  pub group_is : c.group ≡ key.members
  group_is = subst (λ (b : Bool). MembersFit c r key b) exchange w.fits.members

  -- the key that the creation goes on under
  abbrev pub next : Option Key
  next = next_key key (share_of c r).colour list

  record NextIs (i : Key) : Type 0 where
    pub colour : ℤ
    pub has : (share_of c r).colour ≡ Some colour
    pub is : i ≡ split_key key (Some colour) list

  next_is : (i : Key) → is_next next i ≡ true → NextIs i
  next_is i e = go (share_of c r).colour refl e
    where
      go : (o : Option ℤ) → (share_of c r).colour ≡ o → is_next (next_key key o list) i ≡ true → NextIs i
      go None h e = absurd (cc (e))
      go (Some k) h e = record { colour = k; has = h; is = sym (same_key_is (split_key key (Some k) list) i e) }

  apart : (i : Key) → NextIs i → same_key key i ≡ false
  apart i n = go (same_key key i) refl
    where
      go : (b : Bool) → same_key key i ≡ b → b ≡ false
      go false e = refl
      go true e = absurd (let is : key ≡ i = same_key_is key i e in let a : i.kind ≡ kind.Split = ap (λ (k : Key). k.kind) n.is in let b : i.kind ≡ kind.Share = ap (λ (k : Key). k.kind) (sym is) ∙ kind_is in cc (a, b))

  -- its classes stand for the split too
  splits : SplitAt g.comms r key c.name
  splits = exchange_splits g.comms r key c.name exchange w.fits.stands

  is_a_split : is_split c.name ≡ true
  is_a_split = ap is_split splits.name_is

  stands_next : (i : Key) → NextIs i → stands_for g.comms r i ≡ Some c.name
  stands_next i n = subst (λ (k : Key). stands_for g.comms r k ≡ Some c.name) (sym n.is) (stands_by g.comms r (split_key key (Some n.colour) list) c.name (by_parent splits.place refl refl splits.here splits.name_is))

  -- it is not open yet
  fresh_next : (i : Key) → NextIs i → stage_of x.agree.opened i ≡ None
  fresh_next i n = go (stage_of x.agree.opened i) refl
    where
      go : (o : Option Stage) → stage_of x.agree.opened i ≡ o → o ≡ None
      go None e = refl
      go (Some st) e =
          let v = waiter_of s ranks due g j r i (ap is_some e) in
          let named : Some (creation_in g.creations v.place).name ≡ Some c.name = sym v.fits.stands ∙ stands_next i n in
          let same_name : (creation_in g.creations v.place).name ≡ c.name = cc (named) in
          let split = is_a_split in
          let open_c : is_open_row c ≡ true = grind (arith, split) in
          let open_v : is_open_row (creation_in g.creations v.place) ≡ true = (let k : is_split (creation_in g.creations v.place).name ≡ true = ap is_split same_name ∙ split in grind (arith, k)) in
          let place = j.whole.one_open v.place w.place v.fits.there w.fits.there same_name open_v open_c in
          let thread = one_thread s ranks due g j r w.thread i key w.target w.session w.place v w.waits w.part_waits place in
          let here = subst (λ (u : ℕ). (row_of x.threads u).waits ≡ Creates i v.target v.session) thread v.waits in
          let waits = w.waits in
          let is : key ≡ i = cc (here, waits) in
          let a = apart i n in
          let b : same_key key i ≡ true = subst (λ (k : Key). same_key key k ≡ true) is (same_key-refl key) in
          absurd (cc (a, b))

  module _ (a : Agree) (opened : a.opened ≡ opened_next x.agree.opened key next) (owner : a.owner ≡ x.agree.owner) (mask : a.mask ≡ x.agree.mask) where
    abbrev y : Rank
    y = record x { agree = a; threads = with_key x.threads key next }

    inside : r < length ranks
    inside = let e = j.sizes.ranks_are in omega (arith, e, lt)

    stage_after : (i : Key) → stage_of a.opened i ≡ or_else (if same_key key i then None else stage_of x.agree.opened i) (if is_next next i then Some Called else None)
    stage_after i = rw opened (go next)
      where
        none_else : (o : Option Stage) → o ≡ or_else o None
        none_else None = refl
        none_else (Some st) = refl

        go : (o : Option Key) → stage_of (opened_next x.agree.opened key o) i ≡ or_else (if same_key key i then None else stage_of x.agree.opened i) (if is_next o i then Some Called else None)
        go None = stage_of-close x.agree.opened key i ∙ none_else (if same_key key i then None else stage_of x.agree.opened i)
        go (Some k) = stage_of-open (close_creation x.agree.opened key) k Called i ∙ ap (λ (o : Option Stage). or_else o (if same_key k i then Some Called else None)) (stage_of-close x.agree.opened key i)

    -- that of another key stays
    stage_else : (i : Key) → same_key key i ≡ false → is_next next i ≡ false → stage_of a.opened i ≡ stage_of x.agree.opened i
    stage_else i e f = stage_after i ∙ (rw (e, f) (go (stage_of x.agree.opened i)))
      where
        go : (o : Option Stage) → or_else o None ≡ o
        go None = refl
        go (Some st) = refl

    stage_next : (i : Key) → NextIs i → is_next next i ≡ true → stage_of a.opened i ≡ Some Called
    stage_next i n e = stage_after i ∙ (rw (apart i n, e, fresh_next i n) refl)

    -- Threads

    counts : (i : Key) → waiting (with_key x.threads key next) i ≡ one (is_some (stage_of a.opened i))
    counts i = tally_going x.threads key next i ∙ go (same_key key i) refl (is_next next i) refl
      where
        mine : waiting x.threads key ≡ 1
        mine = (j.threads r).waiter key ∙ (rw was refl)

        go : (b : Bool) → same_key key i ≡ b → (d : Bool) → is_next next i ≡ d → (if b then 0 else waiting x.threads i) + (if d then waiting x.threads key else 0) ≡ one (is_some (stage_of a.opened i))
        go true e true f = absurd (let n = apart i (next_is i f) in cc (e, n))
        go true e false f =
            let none : stage_of a.opened i ≡ None = stage_after i ∙ (rw (e, f) refl) in
            let o : one (is_some (stage_of a.opened i)) ≡ 0 = ap (λ (k : Option Stage). one (is_some k)) none in
            omega (arith, o)
        go false e true f =
            let n = next_is i f in
            let o : one (is_some (stage_of a.opened i)) ≡ 1 = ap (λ (k : Option Stage). one (is_some k)) (stage_next i n f) in
            let z : waiting x.threads i ≡ 0 = (j.threads r).waiter i ∙ (rw (fresh_next i n) refl) in
            let m = mine in
            omega (arith, o, z, m)
        go false e false f =
            let o : one (is_some (stage_of a.opened i)) ≡ waiting x.threads i = ap (λ (k : Option Stage). one (is_some k)) (stage_else i e f) ∙ sym ((j.threads r).waiter i) in
            omega (arith, o)

    threads_here : ThreadsFit y.threads a.opened (get_or g.ranks r blank_part).threads
    threads_here = record {
      long = length-map _ x.threads ∙ (j.threads r).long;
      long_part = (j.threads r).long_part;
      calls = λ u. rw (row_going x.threads key next u) ((j.threads r).calls u);
      waits = λ u. rw (row_going x.threads key next u) (waits_going key next (row_of x.threads u).waits _ ((j.threads r).waits u));
      waiter = counts;
    }

    -- what a thread waits for now
    was_going : (u : ℕ) (b : Waits) → (row_of y.threads u).waits ≡ b → going_on key next (row_of x.threads u).waits ≡ b
    was_going u b e = sym (ap (λ (t : ThreadRow). t.waits) (row_going x.threads key next u)) ∙ e

    -- Creations

    -- a thread that waits for the exchange is the one
    one_place : (u i : ℕ) (k : Key) (to : List ℕ) (from : ℕ) → (row_of x.threads u).waits ≡ Creates k to from → (thread_in g.ranks r u).wait ≡ Creating i → same_key k key ≡ true → w.place ≡ i
    one_place u i k to from ew ep e =
        let is = same_key_is k key e in
        let thread = one_waiter s ranks due g j r key w.thread u w.inside (thread_inside s ranks due g j r u i ep) (rw w.waits (same_key-refl key)) (rw (ew, is) (same_key-refl key)) in
        let here = subst (λ (v : ℕ). (thread_in g.ranks r v).wait ≡ Creating w.place) thread w.part_waits in
        cc (here, ep)

    class_is : (i : Key) → NextIs i → class_of c r ≡ i.members
    class_is i n =
        let split = is_a_split in
        let has = n.has in
        let own : class_of c r ≡ class_by c (Some n.colour) = rw (split, has) refl in
        let there : agreed_class.class_of (Some n.colour) key.members list ≡ class_by c (Some n.colour) = ap (λ (ms : List ℕ). agreed_class.class_of (Some n.colour) ms list) (sym group_is) ∙ (ap (λ (ss : List Shared1). agreed_class.class_of (Some n.colour) c.group ss) told.are ∙ classes_agree (share_of c) n.colour c.group) in
        own ∙ (sym there ∙ sym (ap (λ (k : Key). k.members) n.is))

    next_fits : (i : Key) (n : NextIs i) → is_next next i ≡ true → (u : ℕ) (to : List ℕ) (from : ℕ) → CreationFits g.comms g.creations x.comms.rows x.local.names (due r key) (stage_of x.agree.opened key) r u key to from w.place
        → CreationFits g.comms g.creations x.comms.rows x.local.names (due r i) (stage_of a.opened i) r u i to from w.place
    next_fits i n e u to from h =
        let st = stage_next i n e in
        let proper : is_exchange i.kind ≡ false = ap (λ (k : Key). is_exchange k.kind) n.is in
        let far = subst (λ (o : Option Stage). StageFits g.comms x.comms.rows x.local.names r key from (due r key) o (outcome_for c r)) was h.far in
        let in_group : has_rank c.group r ≡ true = rw group_is h.member in
        let member : has_rank (class_by c (Some n.colour)) r ≡ true = in_class (share_of c) n.colour c.group r in_group n.has in
        let split = is_a_split in
        let has = n.has in
        let own : class_of c r ≡ class_by c (Some n.colour) = rw (split, has) refl in
        record {
          there = h.there;
          stands = stands_next i n;
          caller = h.caller;
          members = rw proper (class_is i n, λ q. told.all);
          member = subst (λ (ms : List ℕ). has_rank ms r ≡ true) (sym own ∙ class_is i n) member;
          kind = proper ∙ sym (ap is_sharing st);
          share = rw st tt;
          far = rw st (untold r i (fresh_next i n), far.1);
        }

    creations_here : (u : ℕ) (k : Key) (to : List ℕ) (from i : ℕ) → (row_of y.threads u).waits ≡ Creates k to from → (thread_in g.ranks r u).wait ≡ Creating i → CreationFits g.comms g.creations x.comms.rows x.local.names (due r k) (stage_of a.opened k) r u k to from i
    creations_here u k to from i fw fp = go (row_of x.threads u).waits refl (was_going u (Creates k to from) fw)
      where
        onward : (b : Key) (target : List ℕ) (session : ℕ) → (row_of x.threads u).waits ≡ Creates b target session → same_key b key ≡ true → (o : Option Key) → next ≡ o → goes_on key o target session ≡ Creates k to from → CreationFits g.comms g.creations x.comms.rows x.local.names (due r k) (stage_of a.opened k) r u k to from i
        onward b target session ew e None eo q = absurd (cc (q))
        onward b target session ew e (Some nk) eo q =
            let ek : nk ≡ k = cc (q) in
            let et : target ≡ to = cc (q) in
            let es : session ≡ from = cc (q) in
            let on : is_next next k ≡ true = ap (λ (m : Option Key). is_next m k) eo ∙ subst (λ (m : Key). same_key nk m ≡ true) ek (same_key-refl nk) in
            let place = one_place u i b target session ew fp e in
            let is = same_key_is b key e in
            let old = j.creations.each r u b target session i ew fp in
            let at_key = subst (λ (m : Key). CreationFits g.comms g.creations x.comms.rows x.local.names (due r m) (stage_of x.agree.opened m) r u m target session i) is old in
            let at_place = subst (λ (m : ℕ). CreationFits g.comms g.creations x.comms.rows x.local.names (due r key) (stage_of x.agree.opened key) r u key target session m) (sym place) at_key in
            let got = next_fits k (next_is k on) on u target session at_place in
            let at_i = subst (λ (m : ℕ). CreationFits g.comms g.creations x.comms.rows x.local.names (due r k) (stage_of a.opened k) r u k target session m) place got in
            subst (λ (m : List ℕ). CreationFits g.comms g.creations x.comms.rows x.local.names (due r k) (stage_of a.opened k) r u k m from i) et (subst (λ (m : ℕ). CreationFits g.comms g.creations x.comms.rows x.local.names (due r k) (stage_of a.opened k) r u k target m i) es at_i)

        other : (row_of x.threads u).waits ≡ Creates k to from → same_key k key ≡ false → CreationFits g.comms g.creations x.comms.rows x.local.names (due r k) (stage_of a.opened k) r u k to from i
        other ew e =
            let h = j.creations.each r u k to from i ew fp in
            rw (stage_else k (flip (same_key key k) refl) (unlike h.far (is_next next k) refl)) h
          where
            flip : (b : Bool) → same_key key k ≡ b → same_key key k ≡ false
            flip false f = f
            flip true f = absurd (let is = same_key_is key k f in let q : same_key k key ≡ true = subst (λ (m : Key). same_key m key ≡ true) is (same_key-refl key) in cc (q, e))

            unlike : StageFits g.comms x.comms.rows x.local.names r k from (due r k) (stage_of x.agree.opened k) (outcome_for (creation_in g.creations i) r) → (b : Bool) → is_next next k ≡ b → is_next next k ≡ false
            unlike far false f = f
            unlike far true f = absurd (subst (λ (o : Option Stage). StageFits g.comms x.comms.rows x.local.names r k from (due r k) o (outcome_for (creation_in g.creations i) r)) (fresh_next k (next_is k f)) far)

        creates : (b : Key) (target : List ℕ) (session : ℕ) → (row_of x.threads u).waits ≡ Creates b target session → (d : Bool) → same_key b key ≡ d → (if d then goes_on key next target session else Creates b target session) ≡ Creates k to from → CreationFits g.comms g.creations x.comms.rows x.local.names (due r k) (stage_of a.opened k) r u k to from i
        creates b target session ew true e q = onward b target session ew e next refl q
        creates b target session ew false e q = other (ew ∙ q) (let is : b ≡ k = cc (q) in subst (λ (m : Key). same_key m key ≡ false) is e)

        go : (b : Waits) → (row_of x.threads u).waits ≡ b → going_on key next b ≡ Creates k to from → CreationFits g.comms g.creations x.comms.rows x.local.names (due r k) (stage_of a.opened k) r u k to from i
        go (Creates b target session) ew q = creates b target session ew (same_key b key) refl q
        go Nothing ew q = absurd (cc (q))
        go (Uncoloured b target session) ew q = absurd (cc (q))
        go (Freeing serial) ew q = absurd (cc (q))
        go (Ending n) ew q = absurd (cc (q))
        go (Receiving n) ew q = absurd (cc (q))
        go (Awaiting name) ew q = absurd (cc (q))

    -- without a colour
    uncoloured_here : (u : ℕ) (k : Key) (to : List ℕ) (from i : ℕ) → (row_of y.threads u).waits ≡ Uncoloured k to from → (thread_in g.ranks r u).wait ≡ Creating i → UncolouredFits g.comms g.creations r u k to from i
    uncoloured_here u k to from i fw fp = go (row_of x.threads u).waits refl (was_going u (Uncoloured k to from) fw)
      where
        fits : (target : List ℕ) (session : ℕ) → (share_of c r).colour ≡ None → CreationFits g.comms g.creations x.comms.rows x.local.names (due r key) (stage_of x.agree.opened key) r u key target session w.place → UncolouredFits g.comms g.creations r u key target session w.place
        fits target session none h =
            let far = subst (λ (o : Option Stage). StageFits g.comms x.comms.rows x.local.names r key session (due r key) o (outcome_for c r)) was h.far in
            let split = is_a_split in
            record { there = h.there; stands = h.stands; caller = h.caller; exchange = exchange; uncoloured = rw (split, none) refl; all = told.all; none = far.1 }

        onward : (b : Key) (target : List ℕ) (session : ℕ) → (row_of x.threads u).waits ≡ Creates b target session → same_key b key ≡ true → (o : Option ℤ) → (share_of c r).colour ≡ o → goes_on key (next_key key o list) target session ≡ Uncoloured k to from → UncolouredFits g.comms g.creations r u k to from i
        onward b target session ew e (Some n) eo q = absurd (cc (q))
        onward b target session ew e None eo q =
            let ek : key ≡ k = cc (q) in
            let et : target ≡ to = cc (q) in
            let es : session ≡ from = cc (q) in
            let place = one_place u i b target session ew fp e in
            let is = same_key_is b key e in
            let old = j.creations.each r u b target session i ew fp in
            let at_key = subst (λ (m : Key). CreationFits g.comms g.creations x.comms.rows x.local.names (due r m) (stage_of x.agree.opened m) r u m target session i) is old in
            let at_place = subst (λ (m : ℕ). CreationFits g.comms g.creations x.comms.rows x.local.names (due r key) (stage_of x.agree.opened key) r u key target session m) (sym place) at_key in
            let got = subst (λ (m : ℕ). UncolouredFits g.comms g.creations r u key target session m) place (fits target session eo at_place) in
            rw (← ek, ← et, ← es) got

        creates : (b : Key) (target : List ℕ) (session : ℕ) → (row_of x.threads u).waits ≡ Creates b target session → (d : Bool) → same_key b key ≡ d → (if d then goes_on key next target session else Creates b target session) ≡ Uncoloured k to from → UncolouredFits g.comms g.creations r u k to from i
        creates b target session ew true e q = onward b target session ew e (share_of c r).colour refl q
        creates b target session ew false e q = absurd (cc (q))

        go : (b : Waits) → (row_of x.threads u).waits ≡ b → going_on key next b ≡ Uncoloured k to from → UncolouredFits g.comms g.creations r u k to from i
        go (Creates b target session) ew q = creates b target session ew (same_key b key) refl q
        go (Uncoloured b target session) ew q = j.creations.uncoloured r u k to from i (ew ∙ q) fp
        go Nothing ew q = absurd (cc (q))
        go (Freeing serial) ew q = absurd (cc (q))
        go (Ending n) ew q = absurd (cc (q))
        go (Receiving n) ew q = absurd (cc (q))
        go (Awaiting name) ew q = absurd (cc (q))

    -- Communicators

    freed_before : (u serial : ℕ) → (row_of y.threads u).waits ≡ Freeing serial → (row_of x.threads u).waits ≡ Freeing serial
    freed_before u serial e = go (row_of x.threads u).waits refl (was_going u (Freeing serial) e)
      where
        creates : (d : Bool) (o : Option Key) (b : Key) (target : List ℕ) (session : ℕ) → (if d then goes_on key o target session else Creates b target session) ≡ Freeing serial → ⊥
        creates true None b target session q = cc (q)
        creates true (Some nk) b target session q = cc (q)
        creates false o b target session q = cc (q)

        go : (b : Waits) → (row_of x.threads u).waits ≡ b → going_on key next b ≡ Freeing serial → (row_of x.threads u).waits ≡ Freeing serial
        go (Freeing n) ew q = ew ∙ q
        go (Creates b target session) ew q = absurd (creates (same_key b key) next b target session q)
        go Nothing ew q = absurd (cc (q))
        go (Uncoloured b target session) ew q = absurd (cc (q))
        go (Ending n) ew q = absurd (cc (q))
        go (Receiving n) ew q = absurd (cc (q))
        go (Awaiting name) ew q = absurd (cc (q))

    comms_here : CommsFit s.contexts g.comms g.creations (get_or g.ranks r blank_part).threads r x.comms.rows x.comms.added a.owner (due r) y.threads
    comms_here = rw owner (record { each = (j.comms r).each; range = (j.comms r).range; serials = (j.comms r).serials; freeing = λ u serial p fw fp. (j.comms r).freeing u serial p (freed_before u serial fw) fp })

    pub shared_joined : Joined s (set ranks r y) due g
    shared_joined = record {
      sizes = sizes_set s g g ranks r y j.sizes lt refl refl refl;
      locals = each_rank (λ q m. LocalFits g.comms m.comms.rows q m.local (get_or g.ranks q blank_part).local) ranks r y inside (j.locals r) (λ q ne. j.locals q);
      threads = each_rank (λ q m. ThreadsFit m.threads m.agree.opened (get_or g.ranks q blank_part).threads) ranks r y inside threads_here (λ q ne. j.threads q);
      masks = λ q lq. each_rank (λ i m. i < s.ranks → MaskFits s.contexts m.agree.mask m.comms.rows) ranks r y inside (λ l. rw mask (j.masks r lt)) (λ i ne. j.masks i) q lq;
      creations = record {
        each = each_rank (λ q m. (u : ℕ) (k : Key) (target : List ℕ) (session n : ℕ) → (row_of m.threads u).waits ≡ Creates k target session → (thread_in g.ranks q u).wait ≡ Creating n → CreationFits g.comms g.creations m.comms.rows m.local.names (due q k) (stage_of m.agree.opened k) q u k target session n)
            ranks r y inside creations_here (λ q ne. j.creations.each q);
        uncoloured = each_rank (λ q m. (u : ℕ) (k : Key) (target : List ℕ) (session n : ℕ) → (row_of m.threads u).waits ≡ Uncoloured k target session → (thread_in g.ranks q u).wait ≡ Creating n → UncolouredFits g.comms g.creations q u k target session n)
            ranks r y inside uncoloured_here (λ q ne. j.creations.uncoloured q);
      };
      comms = each_rank (λ q m. CommsFit s.contexts g.comms g.creations (get_or g.ranks q blank_part).threads q m.comms.rows m.comms.added m.agree.owner (due q) m.threads) ranks r y inside comms_here (λ q ne. j.comms q);
      whole = j.whole;
    }
