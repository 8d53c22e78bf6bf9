-- The topic of an exchange of shares: while the share of one that waits for it is pending, so is that of each that has called the
-- split; and until all have called, the share of each that waits is. It reads world and registry, and the agreement of the world.
use Rattle.std.proofs.Common.{◌≡◌, ◌<◌, ◌+◌, ℕ, Bool, true, false, List, length, Option, Some, None, refl, sym, ap, ◌∙◌, subst, inl, arith}
use Rattle.std.specs.Prelude.{nat_lt}
use Rattle.std.specs.List.{list_all}
use Rattle.std.proofs.lemmas.Bool.Decides.{nat_tests}
use Rattle.mpi_base.specs.MemberLists.{has_rank}
use Rattle.mpi_base.specs.declared.keys.Key.{Key}
use Rattle.mpi_base.specs.declared.keys.Kind.{Kind}
use Rattle.mpi_base.specs.declared.keys.Kind.TheVariants as kind
use Rattle.mpi_law.specs.declared.setting.Setting.{Setting}
use Rattle.mpi_law.specs.Registry.State.{Registry, Communicator, CreationName, Wait, Creating, creation_at, thread_of}
use Rattle.mpi_law.specs.Registry.Creations.{is_split, caller_of, has_called, all_called, is_uncoloured, outcome_for}
use Rattle.mpi_law.specs.Registry.Contexts.{is_exchange, stands_for}
use Rattle.agree_law.specs.declared.rows.Stage.{Stage}
use Rattle.agree_law.specs.declared.rows.Stage.TheVariants.{Sharing, Called, Waiting, Offered, Done}
use Rattle.agree_law.specs.Tree.{place_in}
use Rattle.agree_law.specs.Part.{stage_of}
use Rattle.agree_law.specs.Kinds as agree_kind
use Rattle.agree_law.specs.SplitKeys as agree_split
use Rattle.agree_law.specs.World as agreement
use Rattle.agree_law.specs.World.{Event, is_key_of, run}
use Rattle.agree_law.proofs.TreeFacts.{member_place}
use Rattle.share_law.specs.Facts as share
use Rattle.share_law.proofs.Exchanges.{Exchanges}
use Rattle.mpi_protocol.specs.declared.rows.Waits.{Waits}
use Rattle.mpi_protocol.specs.declared.rows.Waits.TheVariants.{Creation as Creates, Uncoloured}
use Rattle.mpi_protocol.specs.World.{World, rank_at}
use Rattle.projection_law.proofs.Laws.{opens_fit_there}
use Rattle.projection_law.proofs.Projected.{same_size, same_part}
use Rattle.projection_law.proofs.Runs.{ruled}
use Rattle.due_law.specs.Dues.{Dues}
use Rattle.run_law.proofs.Threads.{WaitFits, row_of}
use Rattle.run_law.proofs.Creations.{CreationFits, MembersFit, is_sharing}
use Rattle.run_law.proofs.Sharing.{exchange_splits}
use Rattle.run_law.proofs.SettleSteps.{exchange_is}
use Rattle.run_law.proofs.Names.{Standing, by_group, by_parent, standing, stands_at, name_on}
use Rattle.registry_law.proofs.Exchanging.{IsSharing}
use Rattle.registry_law.proofs.Together.{Together}
use Rattle.closed_law.proofs.Lists.{member_at as member_holds}
use Rattle.closed_law.proofs.Asked.{is_told, Asked, none_picked}
use Rattle.closed_law.proofs.Keys.{one_key}
use Rattle.closed_law.proofs.Pending.{pending, one_of, told_to}

-- a thread waits for a creation under the key of its exchange
pub record InExchange (w : World) (g : Registry) (n r t : ℕ) (key : Key) : Type 0 where
  pub inside : r < length w.ranks
  pub target : List ℕ
  pub session : ℕ
  pub waits : (row_of (rank_at w r).threads t).waits ≡ Creates key target session
  pub part_waits : (thread_of g r t).wait ≡ Creating n
  pub exchange : is_exchange key.kind ≡ true

-- how often the share of a rank is pending
abbrev pub pending_of : agreement.World → Key → ℕ → ℕ
pending_of a key q = pending a key (place_in key.members q)

-- of one that waits so
pub record Gathers (a : agreement.World) (g : Registry) (n r : ℕ) (key : Key) : Type 0 where
  pub alike : pending_of a key r ≡ 1 → (q : ℕ) → has_rank key.members q ≡ true → has_called (creation_at g n) q ≡ true → pending_of a key q ≡ 1
  pub early : all_called (creation_at g n) ≡ false → pending_of a key r ≡ 1

abbrev pub Gathering : World → agreement.World → Registry → Type 0
Gathering w a g = (n r t : ℕ) (key : Key) → InExchange w g n r t key → Gathers a g n r key

-- what the events so far leave of the agreement
abbrev pub agreed : Setting → List Event → agreement.World
agreed s es = run s.contexts es (agreement.opening s.ranks s.contexts)

is_shared : (o : Option Stage) → is_sharing o ≡ true → IsSharing o
is_shared None e = absurd (cc (e))
is_shared (Some (Sharing z)) e = record { share = z; is = refl }
is_shared (Some Called) e = absurd (cc (e))
is_shared (Some (Waiting i)) e = absurd (cc (e))
is_shared (Some (Offered i own)) e = absurd (cc (e))
is_shared (Some (Done d)) e = absurd (cc (e))

key_below : (m : ℕ) (key : Key) → is_key_of m key ≡ true → list_all (λ z. nat_lt z m) key.members ≡ true
unfolding is_key_of
key_below m key e = grind (arith, e)

module _ (s : Setting) (w : World) (es : List Event) (due : Dues) (g : Registry) (z : Together s w es due g) where
  pub parts_are : length (agreed s es).parts ≡ s.ranks
  parts_are = same_size w (agreed s es) z.follows.projected.projects ∙ z.joined.sizes.ranks_are

  module _ (n r t : ℕ) (key : Key) (h : InExchange w g n r t key) where
    pub fits : CreationFits g.comms g.creations (rank_at w r).comms.rows (rank_at w r).local.names (due r key) (stage_of (rank_at w r).agree.opened key) r t key h.target h.session n
    fits = z.joined.creations.each r t key h.target h.session n h.waits h.part_waits

    pub shares : IsSharing (stage_of (rank_at w r).agree.opened key)
    shares = is_shared (stage_of (rank_at w r).agree.opened key) (sym fits.kind ∙ h.exchange)

    key_fits : is_key_of s.ranks key ≡ true
    key_fits = let f = opens_fit_there s w es z.follows.projected r key (Sharing shares.share) h.inside shares.is in subst (λ (m : ℕ). is_key_of m key ≡ true) z.joined.sizes.ranks_are f.key_fits

    pub good : share.is_exchange s.ranks key ≡ true
    good = let k = key_fits in let e : agree_kind.is_share key.kind ≡ true = sym (exchange_is key.kind) ∙ h.exchange in rw (k, e) refl

    pub member_rank : (q : ℕ) → has_rank key.members q ≡ true → q < s.ranks
    member_rank q i = let all = member_holds (λ m. nat_lt m s.ranks) key.members q (key_below s.ranks key key_fits) i in grind (arith, nat_tests, all)

    pub group_is : (creation_at g n).group ≡ key.members
    group_is = subst (λ (b : Bool). MembersFit (creation_at g n) r key b) h.exchange fits.members

    pub splits : is_split (creation_at g n).name ≡ true
    splits = ap is_split (exchange_splits g.comms r key (creation_at g n).name h.exchange fits.stands).name_is

    -- it stands for the same creation at each of its members
    pub stands_there : (q : ℕ) → has_rank key.members q ≡ true → stands_for g.comms q key ≡ Some (creation_at g n).name
    stands_there q i = stands_at g.comms r q key (creation_at g n).name (creation_at g n).group z.joined.whole.apart fits.stands (λ p e. z.joined.whole.under r t n p h.part_waits e) (rw group_is i)

  -- two that wait so for one creation have one key
  pub one_exchange : (n r t q u : ℕ) (key k : Key) → InExchange w g n r t key → InExchange w g n q u k → k ≡ key
  one_exchange n r t q u key k a b =
      let members : k.members ≡ key.members = sym (group_is n q u k b) ∙ group_is n r t key a in
      one_key g.comms q k key (creation_at g n).name (fits n q u k b).stands (stands_there n r t key a q (subst (λ (ms : List ℕ). has_rank ms q ≡ true) members (fits n q u k b).member)) (b.exchange ∙ sym a.exchange) members

  -- of a rank in an exchange: its share is pending, or all shares are on their way to it
  pub pending_or_told : (n r t : ℕ) (key : Key) → InExchange w g n r t key → pending_of (agreed s es) key r + told_to (agreed s es) key (place_in key.members r) ≡ 1
  unfolding Exchanges
  pending_or_told n r t key h =
      let size = parts_are in
      let exchange : share.is_exchange (length (agreed s es).parts) key ≡ true = rw size (good n r t key h) in
      let place = member_place key.members r (fits n r t key h).member in
      let all = one_of (agreed s es) key (place_in key.members r) place.0 ((ruled s es).exchanges key exchange) in
      let here = ap (λ (a : _). share.sharing_of (stage_of a.opened key)) (same_part w (agreed s es) r z.follows.projected.projects h.inside) in
      let said = ap (λ (o : Option Stage). share.sharing_of o) (shares n r t key h).is in
      let told = ap (λ (i : ℕ). share.sharing_of (stage_of (agreement.part_at (agreed s es) i).opened key)) place.1 ∙ (here ∙ said) in
      let known = rw told at all in
      omega (arith, known)

  -- while not all have called a split, each caller waits in its exchange
  module _ (asked : Asked s g) (n : ℕ) (ln : n < length g.creations) (split : is_split (creation_at g n).name ≡ true) (few : all_called (creation_at g n) ≡ false) (q : ℕ) (lq : q < length w.ranks) (called : has_called (creation_at g n) q ≡ true) where
    pub record Caller : Type 0 where
      pub thread : ℕ
      pub key : Key
      pub shares_here : InExchange w g n q thread key

    abbrev t : ℕ
    t = (caller_of (creation_at g n).callers q).thread

    untold : is_told (creation_at g n) q ≡ false
    untold = go (is_uncoloured (creation_at g n) q) refl
      where
        none : outcome_for (creation_at g n) q ≡ None
        none = none_picked (creation_at g n) q ((asked.fits n ln).late split few)

        go : (b : Bool) → is_uncoloured (creation_at g n) q ≡ b → is_told (creation_at g n) q ≡ false
        go true e = rw e few
        go false e = rw (e, none) refl

    part_waits : (thread_of g q t).wait ≡ Creating n
    part_waits = asked.waits n ln q called (inl untold)

    pub early_caller : Caller
    early_caller = go (row_of (rank_at w q).threads t).waits refl (subst (λ (i : Wait). WaitFits (row_of (rank_at w q).threads t).waits i) part_waits ((z.joined.threads q).waits t))
      where
        by : (key : Key) (target : List ℕ) (session : ℕ) → (row_of (rank_at w q).threads t).waits ≡ Creates key target session → (b : Bool) → is_exchange key.kind ≡ b → Caller
        by key target session e true ex = record { thread = t; key = key; shares_here = record { inside = lq; target = target; session = session; waits = e; part_waits = part_waits; exchange = ex } }
        by key target session e false ex =
            let f = z.joined.creations.each q t key target session n e part_waits in
            let all = (subst (λ (b : Bool). MembersFit (creation_at g n) q key b) ex f.members).1 split in
            absurd (cc (all, few))

        go : (a : Waits) → (row_of (rank_at w q).threads t).waits ≡ a → WaitFits a (Creating n) → Caller
        go (Creates key target session) e f = by key target session e (is_exchange key.kind) refl
        go (Uncoloured key target session) e f = absurd (let all = (z.joined.creations.uncoloured q t key target session n e part_waits).all in cc (all, few))
        go a e f = absurd f

-- a key that stands for a split, and is of no class of it, is of its exchange
pub exchange_of : (comms : List Communicator) (r : ℕ) (key : Key) (name : CreationName) → stands_for comms r key ≡ Some name → is_split name ≡ true → agree_split.is_split key.kind ≡ false → is_exchange key.kind ≡ true
exchange_of comms r key name e split plain = go (standing comms r key name e)
  where
    by : (k : Kind) (p : ℕ) → is_split (name_on key k p) ≡ true → agree_split.is_split k ≡ false → is_exchange k ≡ true
    by kind.From p a b = absurd (cc (a))
    by kind.Group p a b = absurd (cc (a))
    by kind.Dup p a b = absurd (cc (a))
    by kind.Split p a b = absurd (cc (b))
    by kind.Share p a b = refl

    go : Standing comms r key name → is_exchange key.kind ≡ true
    go (by_group k p m i) = absurd (let no : is_split name ≡ false = ap is_split i in cc (no, split))
    go (by_parent p u m c i) = by key.kind p (sym (ap is_split i) ∙ split) plain
