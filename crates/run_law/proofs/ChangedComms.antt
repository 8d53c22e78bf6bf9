-- The registry's communicators change only in whether one rank has freed them and given them back, and so do that rank's own:
-- ranks and registry go on to belong together, where that rank's facts do.
use Rattle.std.proofs.Common.{◌≡◌, ◌≢◌, ◌<◌, ℕ, suc, ◌==◌, ◌&&◌, Bool, List, [], ◌∷◌, length, get_or, set, position, Option, Some, None, refl, sym, ap, ◌∙◌, subst, arith}
use Rattle.std.specs.Option.{is_some}
use Rattle.mpi_base.specs.MemberLists.{has_rank}
use Rattle.mpi_base.specs.declared.keys.Key.{Key}
use Rattle.mpi_law.specs.declared.setting.Setting.{Setting}
use Rattle.mpi_law.specs.Registry.State.{Registry, Communicator, CreationName, Group_and_tag, Nth_dup, Nth_split, Group_on, Message, Creating, blank_part, part_of, place_in, session_at}
use Rattle.mpi_law.specs.Registry.Creations.{parent_of}
use Rattle.mpi_law.specs.Registry.Contexts.{comm_of, is_live_at}
use Rattle.agree_law.specs.Part.{stage_of}
use Rattle.match_law.specs.Box.{Box}
use Rattle.comm_law.specs.declared.rows.CommRow.{CommRow}
use Rattle.comm_law.specs.Comms.{Comms as Known}
use Rattle.mpi_protocol.specs.declared.rows.Waits.TheVariants.{Creation as Creates, Uncoloured}
use Rattle.mpi_protocol.specs.Rank.{Rank}
use Rattle.run_law.proofs.Rows.{row_in}
use Rattle.run_law.proofs.Contexts.{Apart, position_cons}
use Rattle.due_law.specs.Dues.{Dues}
use Rattle.run_law.proofs.Locals.{LocalFits}
use Rattle.run_law.proofs.Threads.{row_of, ThreadsFit}
use Rattle.run_law.proofs.Masks.{MaskFits}
use Rattle.run_law.proofs.Creations.{CreationFits, UncolouredFits, comm_in, creation_in}
use Rattle.run_law.proofs.Comms.{CommFits, CommsFit, FreeFits}
use Rattle.run_law.proofs.Wholes.{ParentFits, GroupFits, BackIsFreed}
use Rattle.run_law.proofs.Names.{stands_on}
use Rattle.run_law.proofs.Joined.{rank_in, Joined}
use Rattle.run_law.proofs.OneRank.{each_rank, sizes_set}
use Rattle.run_law.proofs.Parts.{thread_in}
use Rattle.run_law.proofs.SameComms.{SameAt, known_same, creation_same, uncoloured_same, local_same}

pub record ChangedBy (comms cs : List Communicator) (r : ℕ) : Type 0 where
  pub long : length cs ≡ length comms
  pub ctx : (p : ℕ) → (comm_in cs p).ctx ≡ (comm_in comms p).ctx
  pub members : (p : ℕ) → (comm_in cs p).members ≡ (comm_in comms p).members
  pub sessions : (p : ℕ) → (comm_in cs p).sessions ≡ (comm_in comms p).sessions
  pub freed : (p q : ℕ) → q ≢ r → has_rank (comm_in cs p).freed q ≡ has_rank (comm_in comms p).freed q
  pub returned : (p q : ℕ) → q ≢ r → has_rank (comm_in cs p).returned q ≡ has_rank (comm_in comms p).returned q

pub position_same : (test : Communicator → Bool) (xs ys : List Communicator) → length xs ≡ length ys → ((i : ℕ) → test (comm_in xs i) ≡ test (comm_in ys i)) → position test xs ≡ position test ys
position_same test [] [] l h = refl
position_same test [] (y ∷ ys) l h = absurd (omega (arith, l))
position_same test (x ∷ xs) [] l h = absurd (omega (arith, l))
position_same test (x ∷ xs) (y ∷ ys) l h =
    let ih = position_same test xs ys (omega (arith, l)) (λ i. h (suc i)) in
    let here : test x ≡ test y = h 0 in
    position_cons test x xs ∙ (rw (here, ih) (sym (position_cons test y ys)))

module _ (comms cs : List Communicator) (r : ℕ) (f : ChangedBy comms cs r) where
  -- the session of a member
  pub session_stays : (p q : ℕ) → session_at (comm_in cs p) q ≡ session_at (comm_in comms p) q
  session_stays p q = ap (λ (ss : List ℕ). get_or ss (place_in (comm_in cs p).members q) 0) (f.sessions p) ∙ ap (λ (ms : List ℕ). get_or (comm_in comms p).sessions (place_in ms q) 0) (f.members p)

  -- Another rank sees nothing of it

  live_else : (p q : ℕ) → q ≢ r → is_live_at (comm_in cs p) q ≡ is_live_at (comm_in comms p) q
  live_else p q ne = let m = f.members p in let b = f.returned p q ne in rw (m, b) refl

  pub stands_else : (q c : ℕ) → q ≢ r → comm_of cs q c ≡ comm_of comms q c
  stands_else q c ne = position_same (λ m. (m.ctx == c) && is_live_at m q) cs comms f.long (λ i. let d = f.ctx i in let l = live_else i q ne in rw (d, l) refl)

  same_else : (q : ℕ) → q ≢ r → SameAt comms cs q (λ p. Unit {0})
  same_else q ne = record { members = f.members; session = λ p. session_stays p q; stands = λ c p ok e. stands_else q c ne ∙ e; freed = λ p ok. f.freed p q ne }

  waits_else : (rows : List CommRow) (added q serial p : ℕ) → q ≢ r → FreeFits comms rows added q serial p → FreeFits cs rows added q serial p
  waits_else rows added q serial p ne h =
      let l = f.long in
      let i = h.inside in
      let m = f.members p in
      let d = f.ctx p in
      let b = f.returned p q ne in
      record { inside = omega (arith, l, i); member = rw m h.member; below = h.below; own = rw d h.own; gone = rw b h.gone }

  group_stays : (name : CreationName) (group : List ℕ) → GroupFits comms name group → GroupFits cs name group
  group_stays (Group_and_tag ms tag) group h = h
  group_stays (Nth_dup p k) group h = ((let l = f.long in let i = h.0 in omega (arith, l, i)), h.1 ∙ sym (f.members p))
  group_stays (Nth_split p k) group h = ((let l = f.long in let i = h.0 in omega (arith, l, i)), h.1 ∙ sym (f.members p))
  group_stays (Group_on p tag ms) group h = ((let l = f.long in let i = h.0 in omega (arith, l, i)), h.1)

module _ (s : Setting) (ranks : List Rank) (due : Dues) (g : Registry) (r : ℕ) (cs : List Communicator) (f : ChangedBy g.comms cs r) (messages : List Message) (x : Rank) (known : Known) (mask : List Bool) (box : Box) (j : Joined s ranks due g) (lt : r < s.ranks) (is : rank_in ranks r ≡ x)
    (names : LocalFits cs known.rows r x.local (part_of g r).local) (mask_fits : MaskFits s.contexts mask known.rows)
    (creations : (u : ℕ) (k : Key) (to : List ℕ) (from i : ℕ) → (row_of x.threads u).waits ≡ Creates k to from → (thread_in g.ranks r u).wait ≡ Creating i → CreationFits cs g.creations known.rows x.local.names (due r k) (stage_of x.agree.opened k) r u k to from i)
    (uncoloured : (u : ℕ) (k : Key) (to : List ℕ) (from i : ℕ) → (row_of x.threads u).waits ≡ Uncoloured k to from → (thread_in g.ranks r u).wait ≡ Creating i → UncolouredFits cs g.creations r u k to from i)
    (comms : CommsFit s.contexts cs g.creations (get_or g.ranks r blank_part).threads r known.rows known.added x.agree.owner (due r) x.threads)
    (apart : Apart cs) (returned : BackIsFreed cs) (under : (q u i p : ℕ) → (thread_in g.ranks q u).wait ≡ Creating i → parent_of (creation_in g.creations i).name ≡ Some p → ParentFits cs p (creation_in g.creations i).group) where
  abbrev y : Rank
  y = record x { agree = record x.agree { mask = mask }; comms = known; box = box }

  inside : r < length ranks
  inside = let e = j.sizes.ranks_are in omega (arith, e, lt)

  -- communicators of other ranks
  comms_else : (q : ℕ) (z : Rank) → q ≢ r → CommsFit s.contexts g.comms g.creations (get_or g.ranks q blank_part).threads q z.comms.rows z.comms.added z.agree.owner (due q) z.threads
      → CommsFit s.contexts cs g.creations (get_or g.ranks q blank_part).threads q z.comms.rows z.comms.added z.agree.owner (due q) z.threads
  comms_else q z ne h =
      record {
        each = λ c. rw (stands_else g.comms cs r f q c ne) (go c (row_in z.comms.rows c) (comm_of g.comms q c) (h.each c));
        range = λ c e. h.range c (ap is_some (sym (stands_else g.comms cs r f q c ne)) ∙ e);
        freeing = λ u serial p fw fp. waits_else g.comms cs r f z.comms.rows z.comms.added q serial p ne (h.freeing u serial p fw fp);
        serials = h.serials;
      }
    where
      go : (c : ℕ) (o : Option CommRow) (p : Option ℕ) → CommFits g.comms g.creations q z.agree.owner (due q) c o p → CommFits cs g.creations q z.agree.owner (due q) c o p
      go c None None k = tt
      go c (Some m) None k = k
      go c None (Some p) k = k
      go c (Some m) (Some p) k = known_same g.comms cs q _ (same_else g.comms cs r f q ne) g.creations m p tt k

  -- creations of other ranks
  creation_else : (q u : ℕ) (k : Key) (to : List ℕ) (from i : ℕ) → q ≢ r → (row_of (rank_in ranks q).threads u).waits ≡ Creates k to from → (thread_in g.ranks q u).wait ≡ Creating i
      → CreationFits cs g.creations (rank_in ranks q).comms.rows (rank_in ranks q).local.names (due q k) (stage_of (rank_in ranks q).agree.opened k) q u k to from i
  creation_else q u k to from i ne fw fp =
      let h = j.creations.each q u k to from i fw fp in
      let same = same_else g.comms cs r f q ne in
      creation_same g.comms cs q _ same g.creations (rank_in ranks q).comms.rows (rank_in ranks q).local.names (due q k) (stage_of (rank_in ranks q).agree.opened k) u k to from i (λ p e. tt) (stands_on g.comms cs q k (creation_in g.creations i).name (λ c p e. same.stands c p tt e) h.stands) h

  uncoloured_else : (q u : ℕ) (k : Key) (to : List ℕ) (from i : ℕ) → q ≢ r → (row_of (rank_in ranks q).threads u).waits ≡ Uncoloured k to from → (thread_in g.ranks q u).wait ≡ Creating i → UncolouredFits cs g.creations q u k to from i
  uncoloured_else q u k to from i ne fw fp =
      let h = j.creations.uncoloured q u k to from i fw fp in
      let same = same_else g.comms cs r f q ne in
      uncoloured_same g.comms cs q _ same g.creations u k to from i (stands_on g.comms cs q k (creation_in g.creations i).name (λ c p e. same.stands c p tt e) h.stands) h

  abbrev after : Registry
  after = record g { comms = cs; messages = messages }

  pub changed_joined : Joined s (set ranks r y) due after
  changed_joined = record {
    sizes = sizes_set s g after ranks r y j.sizes lt (ap (λ (z : Rank). z.rank) (sym is)) (ap (λ (z : Rank). z.setting) (sym is)) refl;
    locals = each_rank (λ q z. LocalFits cs z.comms.rows q z.local (get_or g.ranks q blank_part).local) ranks r y inside names (λ q ne. local_same g.comms cs q (same_else g.comms cs r f q ne) (rank_in ranks q).comms.rows (rank_in ranks q).local (get_or g.ranks q blank_part).local (j.locals q));
    threads = each_rank (λ q z. ThreadsFit z.threads z.agree.opened (get_or g.ranks q blank_part).threads) ranks r y inside (subst (λ (z : Rank). ThreadsFit z.threads z.agree.opened (get_or g.ranks r blank_part).threads) is (j.threads r)) (λ q ne. j.threads q);
    masks = λ q lq. each_rank (λ i z. i < s.ranks → MaskFits s.contexts z.agree.mask z.comms.rows) ranks r y inside (λ w. mask_fits) (λ i ne. j.masks i) q lq;
    creations = record {
      each = each_rank (λ q z. (u : ℕ) (k : Key) (to : List ℕ) (from i : ℕ) → (row_of z.threads u).waits ≡ Creates k to from → (thread_in g.ranks q u).wait ≡ Creating i → CreationFits cs g.creations z.comms.rows z.local.names (due q k) (stage_of z.agree.opened k) q u k to from i)
          ranks r y inside creations (λ q ne u k to from i fw fp. creation_else q u k to from i ne fw fp);
      uncoloured = each_rank (λ q z. (u : ℕ) (k : Key) (to : List ℕ) (from i : ℕ) → (row_of z.threads u).waits ≡ Uncoloured k to from → (thread_in g.ranks q u).wait ≡ Creating i → UncolouredFits cs g.creations q u k to from i)
          ranks r y inside uncoloured (λ q ne u k to from i fw fp. uncoloured_else q u k to from i ne fw fp);
    };
    comms = each_rank (λ q z. CommsFit s.contexts cs g.creations (get_or g.ranks q blank_part).threads q z.comms.rows z.comms.added z.agree.owner (due q) z.threads) ranks r y inside comms (λ q ne. comms_else q (rank_in ranks q) ne (j.comms q));
    whole = record {
      apart = apart;
      one_open = j.whole.one_open;
      for_all = j.whole.for_all;
      unpicked = j.whole.unpicked;
      made_inside = λ n q p ln e. (let l = f.long in let i = j.whole.made_inside n q p ln e in omega (arith, l, i));
      made_once = j.whole.made_once;
      numbered = j.whole.numbered;
      group_is = λ n ln. group_stays g.comms cs r f (creation_in g.creations n).name (creation_in g.creations n).group (j.whole.group_is n ln);
      returned = returned;
      under = under;
      placed = λ p q le. j.whole.placed p q (let l = f.long in omega (arith, l, le));
      awaited = j.whole.awaited;
    };
  }
