-- A rank takes a final verdict: the registry sees nothing of it.
use Rattle.std.proofs.Common.{◌≡◌, ◌≢◌, ◌<◌, ℕ, ◌==◌, ◌&&◌, if◌then◌else◌, Bool, true, false, List, [], ◌∷◌, length, get_or, set, Option, Some, None, refl, sym, ap, ◌∙◌, subst, arith}
use Rattle.std.specs.Option.{is_some}
use Rattle.std.proofs.lemmas.Bool.Decides.{nat_tests}
use Rattle.mpi_base.specs.declared.keys.Key.{Key}
use Rattle.mpi_base.specs.Keys.{same_key}
use Rattle.mpi_base.proofs.KeyFacts.{same_key_is}
use Rattle.local_law.specs.Objects as bound
use Rattle.mpi_law.specs.declared.setting.Setting.{Setting}
use Rattle.mpi_law.specs.Local.Objects.{Bound, NameRow, Local}
use Rattle.mpi_law.specs.Registry.State.{Registry, Communicator, Creation, Creating, ThreadPart, Outcome, Made, NoneFree, blank_part}
use Rattle.mpi_law.specs.Registry.Creations.{outcome_for}
use Rattle.mpi_law.specs.Registry.Contexts.{comm_of, is_exchange}
use Rattle.agree_law.specs.declared.rows.Outcome.{Outcome as Ended}
use Rattle.agree_law.specs.declared.rows.Outcome.TheVariants as ended
use Rattle.agree_law.specs.declared.rows.Stage.{Stage}
use Rattle.agree_law.specs.declared.rows.Stage.TheVariants.{Sharing, Called, Waiting, Offered, Done}
use Rattle.agree_law.specs.declared.rows.Verdict.{Verdict}
use Rattle.agree_law.specs.Part.{Agree, stage_of, set_stage}
use Rattle.agree_law.proofs.RowFacts.{stage_of-set}
use Rattle.comm_law.specs.declared.rows.CommRow.{CommRow}
use Rattle.comm_law.specs.Comms.{Comms as Known}
use Rattle.mpi_protocol.specs.declared.rows.Waits.TheVariants.{Creation as Creates, Uncoloured}
use Rattle.mpi_protocol.specs.declared.rows.ThreadRow.{ThreadRow}
use Rattle.mpi_protocol.specs.Rank.{Rank}
use Rattle.run_law.proofs.Lists.{one}
use Rattle.run_law.proofs.Rows.{row_in}
use Rattle.due_law.specs.Dues.{Dues, due_taken}
use Rattle.run_law.proofs.Locals.{BoundFits, NamesFit, LocalFits}
use Rattle.run_law.proofs.Threads.{row_of, part_row, ThreadsFit}
use Rattle.run_law.proofs.Masks.{MaskFits}
use Rattle.run_law.proofs.Creations.{DoneFits, StageFits, CreationFits, UncolouredFits, creation_in}
use Rattle.run_law.proofs.Comms.{CommFits, CommsFit}
use Rattle.run_law.proofs.Joined.{rank_in, Joined}
use Rattle.due_law.specs.Agreed.{TakesFinal}
use Rattle.run_law.proofs.OneRank.{each_rank, sizes_set}
use Rattle.run_law.proofs.Waiters.{Waiter, thread_inside}

-- names stay bound where the rank knows more
pub names-known : (comms : List Communicator) (old new : List CommRow) (r : ℕ) → ((b : ℕ) → is_some (row_in old b) ≡ true → is_some (row_in new b) ≡ true) → (xs ys : List NameRow) → NamesFit comms old r xs ys → NamesFit comms new r xs ys
names-known comms old new r more [] [] h = tt
names-known comms old new r more [] (y ∷ ys) h = absurd h
names-known comms old new r more (x ∷ xs) [] h = absurd h
names-known comms old new r more (x ∷ xs) (y ∷ ys) h = (h.0, at x.1 y.1 h.1, names-known comms old new r more xs ys h.2)
  where
    at : (a b : Bound) → BoundFits comms old r a b → BoundFits comms new r a b
    at bound.Reserved bound.Reserved h = tt
    at (bound.Session s) (bound.Session q) h = h
    at (bound.Group ms s) (bound.Group ns q) h = h
    at (bound.Comm c s) (bound.Comm p q) h = record { session = h.session; stands = h.stands; kept = h.kept; known = more c h.known; of_session = h.of_session }
    at (bound.Request n) (bound.Request m) h = h
    at a b h = absurd h

pub locals-known : (comms : List Communicator) (old new : List CommRow) (r : ℕ) (l m : Local) → ((b : ℕ) → is_some (row_in old b) ≡ true → is_some (row_in new b) ≡ true) → LocalFits comms old r l m → LocalFits comms new r l m
locals-known comms old new r l m more h = record { live = h.live; opened = h.opened; names = names-known comms old new r more l.names m.names h.names; each = h.each; comms_once = h.comms_once }

-- communicators under dues that are the same
pub comms-dues : (top : ℕ) (comms : List Communicator) (creations : List Creation) (parts : List ThreadPart) (r : ℕ) (rows : List CommRow) (added : ℕ) (owner : Option Key) (old new : Key → Option Verdict) (threads : List ThreadRow) → ((k : Key) → new k ≡ old k)
    → CommsFit top comms creations parts r rows added owner old threads → CommsFit top comms creations parts r rows added owner new threads
comms-dues top comms creations parts r rows added owner old new threads same h = record { each = λ c. go c (row_in rows c) (comm_of comms r c) (h.each c); range = h.range; freeing = h.freeing; serials = h.serials }
  where
    go : (c : ℕ) (o : Option CommRow) (p : Option ℕ) → CommFits comms creations r owner old c o p → CommFits comms creations r owner new c o p
    go c None None f = tt
    go c (Some m) None f = f
    go c None (Some p) f = record { key = f.key; owns = f.owns; said = same f.key ∙ f.said; calls = f.calls }
    go c (Some m) (Some p) f = f

-- a rank after a verdict
abbrev pub with_end : Rank → Agree → Known → Rank
with_end x a c = record x { agree = a; comms = c }

module _ (s : Setting) (ranks : List Rank) (due : Dues) (g : Registry) (r : ℕ) (key : Key) (v : Verdict) (end : Ended) (a : Agree) (known : Known) (j : Joined s ranks due g) (lt : r < s.ranks) (proper : is_exchange key.kind ≡ false) (t : TakesFinal (rank_in ranks r) (due r key) key v)
    (opened : a.opened ≡ set_stage (rank_in ranks r).agree.opened key (Done end)) (more : (b : ℕ) → is_some (row_in (rank_in ranks r).comms.rows b) ≡ true → is_some (row_in known.rows b) ≡ true) (mask : MaskFits s.contexts a.mask known.rows)
    (ends : (w : Waiter s ranks due g j r key) → DoneFits g.comms known.rows (rank_in ranks r).local.names r key w.session end (outcome_for (creation_in g.creations w.place) r))
    (comms : CommsFit s.contexts g.comms g.creations (get_or g.ranks r blank_part).threads r known.rows known.added a.owner (due_taken due r key r) (rank_in ranks r).threads) where
  abbrev x : Rank
  x = rank_in ranks r

  abbrev y : Rank
  y = with_end x a known

  inside : r < length ranks
  inside = let e = j.sizes.ranks_are in omega (arith, e, lt)

  stage_after : (k : Key) → stage_of a.opened k ≡ (if same_key key k then Some (Done end) else stage_of x.agree.opened k)
  stage_after k = rw opened (stage_of-set x.agree.opened key (Done end) k ∙ go (same_key key k) refl)
    where
      go : (b : Bool) → same_key key k ≡ b → (if b then (if is_some (stage_of x.agree.opened k) then Some (Done end) else None) else stage_of x.agree.opened k) ≡ (if b then Some (Done end) else stage_of x.agree.opened k)
      go false e = refl
      go true e =
          let is = same_key_is key k e in
          let st : stage_of x.agree.opened k ≡ Some (Offered t.round true) = subst (λ (i : Key). stage_of x.agree.opened i ≡ Some (Offered t.round true)) is t.stage in
          rw st refl

  open_after : (k : Key) → is_some (stage_of a.opened k) ≡ is_some (stage_of x.agree.opened k)
  open_after k = ap is_some (stage_after k) ∙ go (same_key key k) refl
    where
      go : (b : Bool) → same_key key k ≡ b → is_some (if b then Some (Done end) else stage_of x.agree.opened k) ≡ is_some (stage_of x.agree.opened k)
      go false e = refl
      go true e =
          let is = same_key_is key k e in
          let st : stage_of x.agree.opened k ≡ Some (Offered t.round true) = subst (λ (i : Key). stage_of x.agree.opened i ≡ Some (Offered t.round true)) is t.stage in
          rw st refl

  threads_after : ThreadsFit x.threads a.opened (get_or g.ranks r blank_part).threads
  threads_after = let h = j.threads r in record { long = h.long; long_part = h.long_part; calls = h.calls; waits = h.waits; waiter = λ k. h.waiter k ∙ ap one (sym (open_after k)) }

  stage_more : (k : Key) (session : ℕ) (d : Option Verdict) (st : Option Stage) (o : Option Outcome) → StageFits g.comms x.comms.rows x.local.names r k session d st o → StageFits g.comms known.rows x.local.names r k session d st o
  stage_more k session d None o h = h
  stage_more k session d (Some (Sharing z)) o h = h
  stage_more k session d (Some Called) o h = h
  stage_more k session d (Some (Waiting i)) o h = h
  stage_more k session d (Some (Offered i own)) o h = h
  stage_more k session d (Some (Done (ended.Context c))) None h = h
  stage_more k session d (Some (Done (ended.Context c))) (Some (Made p)) h = (h.0, (h.1.0, h.1.1, more c h.1.2))
  stage_more k session d (Some (Done (ended.Context c))) (Some NoneFree) h = h
  stage_more k session d (Some (Done ended.Exhausted)) o h = h

  creation_after : (u : ℕ) (k : Key) (target : List ℕ) (session n : ℕ) → (row_of x.threads u).waits ≡ Creates k target session → (part_row (get_or g.ranks r blank_part).threads u).wait ≡ Creating n → CreationFits g.comms g.creations known.rows x.local.names (due_taken due r key r k) (stage_of a.opened k) r u k target session n
  creation_after u k target session n ew ep = rw (stage_after k) (go (same_key key k) refl)
    where
      h : CreationFits g.comms g.creations x.comms.rows x.local.names (due r k) (stage_of x.agree.opened k) r u k target session n
      h = j.creations.each r u k target session n ew ep

      go : (b : Bool) → same_key key k ≡ b → CreationFits g.comms g.creations known.rows x.local.names (if b && (r == r) then None else due r k) (if b then Some (Done end) else stage_of x.agree.opened k) r u k target session n
      go false e = record { there = h.there; stands = h.stands; caller = h.caller; members = h.members; member = h.member; kind = h.kind; share = h.share; far = stage_more k session (due r k) (stage_of x.agree.opened k) _ h.far }
      go true e =
          let is = same_key_is key k e in
          let w : Waiter s ranks due g j r key = record { thread = u; inside = thread_inside s ranks due g j r u n ep; target = target; session = session; place = n; waits = rw is ew; part_waits = ep; fits = rw is h } in
          let self : (r == r) ≡ true = grind (arith, nat_tests) in
          record {
            there = h.there;
            stands = h.stands;
            caller = h.caller;
            members = h.members;
            member = h.member;
            kind = rw (← is) proper;
            share = tt;
            far = rw self (refl, rw (← is) (ends w));
          }

  pub taken_joined : Joined s (set ranks r y) (due_taken due r key) g
  taken_joined = record {
    sizes = sizes_set s g g ranks r y j.sizes lt refl refl refl;
    locals = each_rank (λ q z. LocalFits g.comms z.comms.rows q z.local (get_or g.ranks q blank_part).local) ranks r y inside (locals-known g.comms x.comms.rows known.rows r x.local _ more (j.locals r)) (λ q ne. j.locals q);
    threads = each_rank (λ q z. ThreadsFit z.threads z.agree.opened (get_or g.ranks q blank_part).threads) ranks r y inside threads_after (λ q ne. j.threads q);
    masks = λ q lq. each_rank (λ i z. i < s.ranks → MaskFits s.contexts z.agree.mask z.comms.rows) ranks r y inside (λ l. mask) (λ i ne. j.masks i) q lq;
    creations = record {
      each = each_rank (λ q z. (u : ℕ) (k : Key) (target : List ℕ) (session n : ℕ) → (row_of z.threads u).waits ≡ Creates k target session → (part_row (get_or g.ranks q blank_part).threads u).wait ≡ Creating n → CreationFits g.comms g.creations z.comms.rows z.local.names (due_taken due r key q k) (stage_of z.agree.opened k) q u k target session n)
          ranks r y inside creation_after (λ q ne u k target session n ew ep. rw (elsewhere q k ne) (j.creations.each q u k target session n ew ep));
      uncoloured = each_rank (λ q z. (u : ℕ) (k : Key) (target : List ℕ) (session n : ℕ) → (row_of z.threads u).waits ≡ Uncoloured k target session → (part_row (get_or g.ranks q blank_part).threads u).wait ≡ Creating n → UncolouredFits g.comms g.creations q u k target session n)
          ranks r y inside (j.creations.uncoloured r) (λ q ne. j.creations.uncoloured q);
    };
    comms = each_rank (λ q z. CommsFit s.contexts g.comms g.creations (get_or g.ranks q blank_part).threads q z.comms.rows z.comms.added z.agree.owner (due_taken due r key q) z.threads) ranks r y inside comms
        (λ q ne. comms-dues s.contexts g.comms g.creations (get_or g.ranks q blank_part).threads q (rank_in ranks q).comms.rows (rank_in ranks q).comms.added (rank_in ranks q).agree.owner (due q) (due_taken due r key q) (rank_in ranks q).threads (λ k. elsewhere q k ne) (j.comms q));
    whole = j.whole;
  }
    where
      elsewhere : (q : ℕ) (k : Key) → q ≢ r → due_taken due r key q k ≡ due q k
      elsewhere q k ne = let z : (q == r) ≡ false = grind (arith, nat_tests, ne) in rw z (go (same_key key k))
        where
          go : (b : Bool) → (if b && false then None else due q k) ≡ due q k
          go true = refl
          go false = refl
