-- One thread of a rank goes on, by a call or an answer that creates and frees nothing: ranks and registry go on to belong
-- together.
use Rattle.std.proofs.Common.{◌≡◌, ◌≢◌, ◌⊎◌, ◌<◌, ℕ, Bool, true, false, List, length, get_or, set, refl, sym, ap, ◌∙◌, subst, inl, inr, arith}
use Rattle.mpi_base.specs.declared.keys.Key.{Key}
use Rattle.mpi_law.specs.declared.setting.Setting.{Setting}
use Rattle.mpi_law.specs.declared.setting.TheConstants.{THREADS}
use Rattle.mpi_law.specs.Local.Objects.{Local}
use Rattle.mpi_law.specs.Registry.State as reg
use Rattle.mpi_law.specs.Registry.State.{Registry, RankPart, ThreadPart, Wait, Communicator, Caller, Creation, CreationName, Creating, Outcome, Made, NoneFree, blank_part}
use Rattle.agree_law.specs.Part.{stage_of}
use Rattle.mpi_protocol.specs.declared.rows.Waits.{Waits}
use Rattle.mpi_protocol.specs.declared.rows.Waits.TheVariants.{Nothing, Creation as Creates, Uncoloured, Freeing, Ending, Receiving, Awaiting}
use Rattle.mpi_protocol.specs.declared.rows.ThreadRow.{ThreadRow}
use Rattle.mpi_protocol.specs.Rank.{Rank, idle_thread}
use Rattle.run_law.proofs.Lists.{tally}
use Rattle.due_law.specs.Dues.{Dues}
use Rattle.run_law.proofs.Locals.{LocalFits, binds}
use Rattle.run_law.proofs.Threads.{row_of, WaitFits, is_for, ThreadsFit}
use Rattle.run_law.proofs.Masks.{MaskFits}
use Rattle.mpi_law.specs.Registry.Creations.{is_split}
use Rattle.run_law.proofs.Creations.{CreationFits, UncolouredFits, creation_in}
use Rattle.run_law.proofs.Comms.{FreeFits, CommsFit}
use Rattle.run_law.proofs.Joined.{rank_in, Joined}
use Rattle.run_law.proofs.OneRank.{each_rank, sizes_set}
use Rattle.run_law.proofs.Parts.{set_at, thread_in, PartsAfter, Elsewhere, threads_set, thread_after}
use Rattle.run_law.proofs.Ends.{stage_named}

-- whether a thread waits for a creation
abbrev pub is_creation : Waits → Bool
is_creation Nothing = false
is_creation (Creates key target session) = true
is_creation (Uncoloured key target session) = true
is_creation (Freeing serial) = false
is_creation (Ending session) = false
is_creation (Receiving number) = false
is_creation (Awaiting name) = false

-- then it waits for one in the registry too
pub uncreated : (a : Waits) (b : Wait) (i : ℕ) → WaitFits a b → is_creation a ≡ false → b ≡ Creating i → ⊥
uncreated Nothing reg.Idle i h e f = cc (f)
uncreated (Creates key target session) b i h e f = cc (e)
uncreated (Uncoloured key target session) b i h e f = cc (e)
uncreated (Freeing serial) (reg.Freeing p) i h e f = cc (f)
uncreated (Ending s) (reg.Ending q) i h e f = cc (f)
uncreated (Receiving n) (reg.Receiving k) i h e f = cc (f)
uncreated (Awaiting name) (reg.Awaiting other) i h e f = cc (f)
uncreated a b i h e f = absurd h

pub uncreated_key : (a : Waits) (k : Key) → is_creation a ≡ false → is_for k a ≡ false
uncreated_key Nothing k e = refl
uncreated_key (Creates key target session) k e = absurd (cc (e))
uncreated_key (Uncoloured key target session) k e = absurd (cc (e))
uncreated_key (Freeing serial) k e = refl
uncreated_key (Ending s) k e = refl
uncreated_key (Receiving n) k e = refl
uncreated_key (Awaiting name) k e = refl

module _ (s : Setting) (ranks : List Rank) (due : Dues) (g : Registry) (r t : ℕ) (row : ThreadRow) (part : ThreadPart) (l m : Local) (new : List RankPart) (calls : part.calls ≡ row.calls) (fit : WaitFits row.waits part.wait) (plain : is_creation row.waits ≡ false) (j : Joined s ranks due g) (lt : r < s.ranks) (here : t < THREADS)
    (old : (k : Key) → is_for k (row_of (rank_in ranks r).threads t).waits ≡ false) (gone : (i : ℕ) → (thread_in g.ranks r t).wait ≡ Creating i → is_split (creation_in g.creations i).name ≡ true) (parts : PartsAfter g.ranks new r t m part) (local : LocalFits g.comms (rank_in ranks r).comms.rows r l m)
    (frees : (c : ℕ) → tally (binds c) (rank_in ranks r).local.names ≡ 0 → tally (binds c) l.names ≡ 0)
    (freeing : (serial p : ℕ) → row.waits ≡ Freeing serial → part.wait ≡ reg.Freeing p → FreeFits g.comms (rank_in ranks r).comms.rows (rank_in ranks r).comms.added r serial p) where
  abbrev x : Rank
  x = rank_in ranks r

  abbrev pub y : Rank
  y = record x { local = l; threads = set x.threads t row }

  inside : r < length ranks
  inside = let e = j.sizes.ranks_are in omega (arith, e, lt)

  after_thread : (q u : ℕ) → ((q ≡ r) × (u ≡ t) × (thread_in new q u ≡ part)) ⊎ (Elsewhere r t q u × (thread_in new q u ≡ thread_in g.ranks q u))
  after_thread q u = thread_after g.ranks new r t m _ parts (let e = (j.threads r).long_part in let i = here in omega (arith, e, i)) q u

  -- what a thread waits for afterwards, if it is a creation or a give-back, it waited for before
  pub waited : (q u i : ℕ) → (thread_in new q u).wait ≡ Creating i → (thread_in g.ranks q u).wait ≡ Creating i
  waited q u i e = go (after_thread q u)
    where
      go : ((q ≡ r) × (u ≡ t) × (thread_in new q u ≡ part)) ⊎ (Elsewhere r t q u × (thread_in new q u ≡ thread_in g.ranks q u)) → (thread_in g.ranks q u).wait ≡ Creating i
      go (inl z) = absurd (uncreated row.waits part.wait i fit plain (sym (ap (λ (w : ThreadPart). w.wait) z.2) ∙ e))
      go (inr z) = sym (ap (λ (w : ThreadPart). w.wait) z.1) ∙ e

  freed : (q u p : ℕ) → Elsewhere r t q u → (thread_in new q u).wait ≡ reg.Freeing p → (thread_in g.ranks q u).wait ≡ reg.Freeing p
  freed q u p else_where e = go (after_thread q u)
    where
      go : ((q ≡ r) × (u ≡ t) × (thread_in new q u ≡ part)) ⊎ (Elsewhere r t q u × (thread_in new q u ≡ thread_in g.ranks q u)) → (thread_in g.ranks q u).wait ≡ reg.Freeing p
      go (inl z) = absurd (else_where z.0 z.1)
      go (inr z) = sym (ap (λ (w : ThreadPart). w.wait) z.1) ∙ e

  still : (q u i : ℕ) → is_split (creation_in g.creations i).name ≡ false → (thread_in g.ranks q u).wait ≡ Creating i → (thread_in new q u).wait ≡ Creating i
  still q u i single e = go (after_thread q u)
    where
      go : ((q ≡ r) × (u ≡ t) × (thread_in new q u ≡ part)) ⊎ (Elsewhere r t q u × (thread_in new q u ≡ thread_in g.ranks q u)) → (thread_in new q u).wait ≡ Creating i
      go (inr z) = ap (λ (w : ThreadPart). w.wait) z.1 ∙ e
      go (inl z) =
          let b : (thread_in g.ranks r t).wait ≡ Creating i = subst (λ (v : ℕ). (thread_in g.ranks v t).wait ≡ Creating i) z.0 (subst (λ (v : ℕ). (thread_in g.ranks q v).wait ≡ Creating i) z.1 e) in
          absurd (let split = gone i b in cc (split, single))

  -- and at the rank
  pub back : (w : Waits) → is_creation w ≡ true → (u : ℕ) → (row_of y.threads u).waits ≡ w → (row_of x.threads u).waits ≡ w
  back w other u e = go (set_at x.threads t row idle_thread u (let l = (j.threads r).long in let i = here in omega (arith, l, i)))
    where
      go : ((u ≡ t) × (row_of y.threads u ≡ row)) ⊎ ((u ≢ t) × (row_of y.threads u ≡ row_of x.threads u)) → (row_of x.threads u).waits ≡ w
      go (inl z) = absurd (let i : row.waits ≡ w = sym (ap (λ (v : ThreadRow). v.waits) z.1) ∙ e in let k : is_creation w ≡ false = subst (λ (v : Waits). is_creation v ≡ false) i plain in cc (k, other))
      go (inr z) = sym (ap (λ (v : ThreadRow). v.waits) z.1) ∙ e

  same : (k : Key) → is_for k row.waits ≡ false
  same k = uncreated_key row.waits k plain

  threads_here : ThreadsFit y.threads x.agree.opened (get_or new r blank_part).threads
  threads_here = rw parts.threads (threads_set x.threads x.agree.opened x.agree.opened (get_or g.ranks r blank_part).threads t row part (j.threads r) here calls fit (λ k. rw (old k, same k) refl))

  creations_here : (u : ℕ) (k : Key) (to : List ℕ) (from i : ℕ) → (row_of y.threads u).waits ≡ Creates k to from → (thread_in new r u).wait ≡ Creating i → CreationFits g.comms g.creations x.comms.rows l.names (due r k) (stage_of x.agree.opened k) r u k to from i
  creations_here u k to from i fw fp =
      let f = j.creations.each r u k to from i (back (Creates k to from) refl u fw) (waited r u i fp) in
      record { there = f.there; stands = f.stands; caller = f.caller; members = f.members; member = f.member; kind = f.kind; share = f.share; far = stage_named g.comms x.comms.rows x.local.names l.names r k from (due r k) (stage_of x.agree.opened k) _ (λ d e z. frees d z) f.far }

  freeing_here : (u serial p : ℕ) → (row_of y.threads u).waits ≡ Freeing serial → (thread_in new r u).wait ≡ reg.Freeing p → FreeFits g.comms x.comms.rows x.comms.added r serial p
  freeing_here u serial p fw fp = go (set_at x.threads t row idle_thread u (let l = (j.threads r).long in let i = here in omega (arith, l, i))) (after_thread r u)
    where
      go : ((u ≡ t) × (row_of y.threads u ≡ row)) ⊎ ((u ≢ t) × (row_of y.threads u ≡ row_of x.threads u)) → ((r ≡ r) × (u ≡ t) × (thread_in new r u ≡ part)) ⊎ (Elsewhere r t r u × (thread_in new r u ≡ thread_in g.ranks r u)) → FreeFits g.comms x.comms.rows x.comms.added r serial p
      go (inl a) (inl b) = freeing serial p (sym (ap (λ (v : ThreadRow). v.waits) a.1) ∙ fw) (sym (ap (λ (w : ThreadPart). w.wait) b.2) ∙ fp)
      go (inr a) (inr b) = (j.comms r).freeing u serial p (sym (ap (λ (v : ThreadRow). v.waits) a.1) ∙ fw) (sym (ap (λ (w : ThreadPart). w.wait) b.1) ∙ fp)
      go (inl a) (inr b) = absurd (b.0 refl a.0)
      go (inr a) (inl b) = absurd (a.0 b.1)

  pub thread_joined : Joined s (set ranks r y) due (record g { ranks = new })
  thread_joined = record {
    sizes = sizes_set s g (record g { ranks = new }) ranks r y j.sizes lt refl refl parts.long;
    locals = each_rank (λ q z. LocalFits g.comms z.comms.rows q z.local (get_or new q blank_part).local) ranks r y inside (rw parts.local local) (λ q ne. rw (parts.others q ne) (j.locals q));
    threads = each_rank (λ q z. ThreadsFit z.threads z.agree.opened (get_or new q blank_part).threads) ranks r y inside threads_here (λ q ne. rw (parts.others q ne) (j.threads q));
    masks = λ q lq. each_rank (λ i z. i < s.ranks → MaskFits s.contexts z.agree.mask z.comms.rows) ranks r y inside (λ w. j.masks r lt) (λ i ne. j.masks i) q lq;
    creations = record {
      each = each_rank (λ q z. (u : ℕ) (k : Key) (to : List ℕ) (from i : ℕ) → (row_of z.threads u).waits ≡ Creates k to from → (thread_in new q u).wait ≡ Creating i → CreationFits g.comms g.creations z.comms.rows z.local.names (due q k) (stage_of z.agree.opened k) q u k to from i)
          ranks r y inside creations_here (λ q ne u k to from i fw fp. j.creations.each q u k to from i fw (waited q u i fp));
      uncoloured = each_rank (λ q z. (u : ℕ) (k : Key) (to : List ℕ) (from i : ℕ) → (row_of z.threads u).waits ≡ Uncoloured k to from → (thread_in new q u).wait ≡ Creating i → UncolouredFits g.comms g.creations q u k to from i)
          ranks r y inside (λ u k to from i fw fp. j.creations.uncoloured r u k to from i (back (Uncoloured k to from) refl u fw) (waited r u i fp)) (λ q ne u k to from i fw fp. j.creations.uncoloured q u k to from i fw (waited q u i fp));
    };
    comms = each_rank (λ q z. CommsFit s.contexts g.comms g.creations (get_or new q blank_part).threads q z.comms.rows z.comms.added z.agree.owner (due q) z.threads) ranks r y inside
        (record { each = (j.comms r).each; range = (j.comms r).range; serials = (j.comms r).serials; freeing = freeing_here })
        (λ q ne. record { each = (j.comms q).each; range = (j.comms q).range; serials = (j.comms q).serials; freeing = λ u serial p fw fp. (j.comms q).freeing u serial p fw (freed q u p (λ is. absurd (ne is)) fp) });
    whole = record {
      apart = j.whole.apart;
      one_open = j.whole.one_open;
      for_all = j.whole.for_all;
      unpicked = j.whole.unpicked;
      made_inside = j.whole.made_inside;
      made_once = j.whole.made_once;
      numbered = j.whole.numbered;
      group_is = j.whole.group_is;
      returned = j.whole.returned;
      under = λ q u i p w e. j.whole.under q u i p (waited q u i w) e;
      placed = j.whole.placed;
      awaited = λ i q li o sp c. still q _ i sp (j.whole.awaited i q li o sp c);
    };
  }
