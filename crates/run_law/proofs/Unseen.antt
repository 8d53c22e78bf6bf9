-- A rank goes on with a creation that is not decided there: the registry sees nothing of it.
use Rattle.std.proofs.Common.{◌≡◌, ◌<◌, ℕ, if◌then◌else◌, Bool, true, false, List, length, get_or, set, Option, Some, None, refl, sym, ap, ◌∙◌, subst, arith}
use Rattle.std.specs.Option.{is_some}
use Rattle.mpi_base.specs.declared.keys.Key.{Key}
use Rattle.mpi_base.specs.Keys.{same_key}
use Rattle.mpi_base.proofs.KeyFacts.{same_key_is}
use Rattle.mpi_law.specs.declared.setting.Setting.{Setting}
use Rattle.mpi_law.specs.Registry.State.{Registry, Creating, Outcome, blank_part}
use Rattle.mpi_law.specs.Registry.Creations.{outcome_for}
use Rattle.mpi_law.specs.Registry.Contexts.{comm_of, is_exchange}
use Rattle.agree_law.specs.declared.rows.Stage.{Stage}
use Rattle.agree_law.specs.declared.rows.Stage.TheVariants.{Sharing, Called, Waiting, Offered, Done}
use Rattle.agree_law.specs.declared.rows.Verdict.{Verdict}
use Rattle.agree_law.specs.Part.{Agree, stage_of, set_stage}
use Rattle.agree_law.specs.Rule.{is_key}
use Rattle.agree_law.proofs.RowFacts.{stage_of-set}
use Rattle.comm_law.specs.declared.rows.CommRow.{CommRow}
use Rattle.mpi_protocol.specs.declared.rows.Waits.TheVariants.{Creation as Creates, Uncoloured}
use Rattle.mpi_protocol.specs.Rank.{Rank}
use Rattle.run_law.proofs.Lists.{one}
use Rattle.run_law.proofs.Rows.{row_in}
use Rattle.due_law.specs.Dues.{Dues}
use Rattle.run_law.proofs.Locals.{LocalFits}
use Rattle.run_law.proofs.Threads.{row_of, part_row, ThreadsFit}
use Rattle.run_law.proofs.Masks.{MaskFits}
use Rattle.run_law.proofs.Creations.{StageFits, ShareFits, CreationFits, UncolouredFits, creation_in, is_sharing}
use Rattle.run_law.proofs.Comms.{CommFits, CommsFit}
use Rattle.run_law.proofs.Joined.{rank_in, Joined}
use Rattle.run_law.proofs.OneRank.{each_rank, sizes_set}
use Rattle.mpi_base.specs.declared.shares.Shared1.{Shared1}

-- a stage that nothing was picked for: it may become any other
abbrev pub is_plain : Option Stage → Bool
is_plain None = false
is_plain (Some (Sharing s)) = false
is_plain (Some Called) = true
is_plain (Some (Waiting i)) = true
is_plain (Some (Offered i own)) = true
is_plain (Some (Done d)) = false

module _ (s : Setting) (ranks : List Rank) (due : Dues) (g : Registry) (r : ℕ) (key : Key) (st new : Stage) (a : Agree) (j : Joined s ranks due g) (lt : r < s.ranks)
    (was : stage_of (rank_in ranks r).agree.opened key ≡ Some st) (plain : is_plain (Some st) ≡ true) (plain_new : is_plain (Some new) ≡ true) (none : due r key ≡ None)
    (opened : a.opened ≡ set_stage (rank_in ranks r).agree.opened key new) (mask : a.mask ≡ (rank_in ranks r).agree.mask)
    (owner : (k : Key) → same_key key k ≡ false → is_key (rank_in ranks r).agree.owner k ≡ true → is_key a.owner k ≡ true) where
  abbrev x : Rank
  x = rank_in ranks r

  abbrev pub y : Rank
  y = record x { agree = a }

  inside : r < length ranks
  inside = let e = j.sizes.ranks_are in omega (arith, e, lt)

  stage_after : (k : Key) → stage_of a.opened k ≡ (if same_key key k then Some new else stage_of x.agree.opened k)
  stage_after k = rw opened (stage_of-set x.agree.opened key new k ∙ go (same_key key k) refl)
    where
      go : (b : Bool) → same_key key k ≡ b → (if b then (if is_some (stage_of x.agree.opened k) then Some new else None) else stage_of x.agree.opened k) ≡ (if b then Some new else stage_of x.agree.opened k)
      go false e = refl
      go true e = let z : stage_of x.agree.opened k ≡ Some st = subst (λ (i : Key). stage_of x.agree.opened i ≡ Some st) (same_key_is key k e) was in rw z refl

  open_after : (k : Key) → is_some (stage_of a.opened k) ≡ is_some (stage_of x.agree.opened k)
  open_after k = ap is_some (stage_after k) ∙ go (same_key key k) refl
    where
      go : (b : Bool) → same_key key k ≡ b → is_some (if b then Some new else stage_of x.agree.opened k) ≡ is_some (stage_of x.agree.opened k)
      go false e = refl
      go true e = let z : stage_of x.agree.opened k ≡ Some st = subst (λ (i : Key). stage_of x.agree.opened i ≡ Some st) (same_key_is key k e) was in rw z refl

  -- what was picked for a plain stage with nothing due, and for another one
  plain_none : (st : Stage) (k : Key) (session : ℕ) (d : Option Verdict) (o : Option Outcome) → is_plain (Some st) ≡ true → d ≡ None → StageFits g.comms x.comms.rows x.local.names r k session d (Some st) o → o ≡ None
  plain_none Called k session d o p e h = h.1
  plain_none (Waiting i) k session d o p e h = h.1
  plain_none (Offered i own) k session None None p e h = refl
  plain_none (Offered i own) k session None (Some o) p e h = absurd h
  plain_none (Offered i own) k session (Some v) o p e h = absurd (cc (e))
  plain_none (Sharing s) k session d o p e h = absurd (cc (p))
  plain_none (Done d') k session d o p e h = absurd (cc (p))

  plain_fits : (st : Stage) (k : Key) (session : ℕ) (d : Option Verdict) (o : Option Outcome) → is_plain (Some st) ≡ true → d ≡ None → o ≡ None → StageFits g.comms x.comms.rows x.local.names r k session d (Some st) o
  plain_fits Called k session d o p e f = (e, f)
  plain_fits (Waiting i) k session d o p e f = (e, f)
  plain_fits (Offered i own) k session d o p e f = rw (e, f) tt
  plain_fits (Sharing s) k session d o p e f = absurd (cc (p))
  plain_fits (Done d') k session d o p e f = absurd (cc (p))

  plain_kind : (st : Stage) → is_plain (Some st) ≡ true → is_sharing (Some st) ≡ false
  plain_kind Called p = refl
  plain_kind (Waiting i) p = refl
  plain_kind (Offered i own) p = refl
  plain_kind (Sharing s) p = absurd (cc (p))
  plain_kind (Done d') p = refl

  plain_share : (st : Stage) (c : Shared1) → is_plain (Some st) ≡ true → ShareFits c (Some st)
  plain_share Called c p = tt
  plain_share (Waiting i) c p = tt
  plain_share (Offered i own) c p = tt
  plain_share (Sharing s) c p = absurd (cc (p))
  plain_share (Done d') c p = tt

  creation_after : (u : ℕ) (k : Key) (target : List ℕ) (session n : ℕ) → (row_of x.threads u).waits ≡ Creates k target session → (part_row (get_or g.ranks r blank_part).threads u).wait ≡ Creating n → CreationFits g.comms g.creations x.comms.rows x.local.names (due r k) (stage_of a.opened k) r u k target session n
  creation_after u k target session n ew ep = rw (stage_after k) (go (same_key key k) refl (j.creations.each r u k target session n ew ep))
    where
      go : (b : Bool) → same_key key k ≡ b → CreationFits g.comms g.creations x.comms.rows x.local.names (due r k) (stage_of x.agree.opened k) r u k target session n → CreationFits g.comms g.creations x.comms.rows x.local.names (due r k) (if b then Some new else stage_of x.agree.opened k) r u k target session n
      go false e h = h
      go true e h =
          let is = same_key_is key k e in
          let z : stage_of x.agree.opened k ≡ Some st = subst (λ (i : Key). stage_of x.agree.opened i ≡ Some st) is was in
          let d : due r k ≡ None = subst (λ (i : Key). due r i ≡ None) is none in
          let far = subst (λ (q : Option Stage). StageFits g.comms x.comms.rows x.local.names r k session (due r k) q (outcome_for (creation_in g.creations n) r)) z h.far in
          let o = plain_none st k session (due r k) (outcome_for (creation_in g.creations n) r) plain d far in
          let kind : is_exchange k.kind ≡ false = h.kind ∙ (ap is_sharing z ∙ plain_kind st plain) in
          record { there = h.there; stands = h.stands; caller = h.caller; members = h.members; member = h.member; kind = kind ∙ sym (plain_kind new plain_new); share = plain_share new _ plain_new; far = plain_fits new k session (due r k) _ plain_new d o }

  comms_here : CommsFit s.contexts g.comms g.creations (get_or g.ranks r blank_part).threads r x.comms.rows x.comms.added a.owner (due r) x.threads
  comms_here = record { each = λ c. go c (row_in x.comms.rows c) (comm_of g.comms r c) ((j.comms r).each c); range = (j.comms r).range; freeing = (j.comms r).freeing; serials = (j.comms r).serials }
    where
      go : (c : ℕ) (o : Option CommRow) (p : Option ℕ) → CommFits g.comms g.creations r x.agree.owner (due r) c o p → CommFits g.comms g.creations r a.owner (due r) c o p
      go c None None h = tt
      go c (Some m) None h = h
      go c (Some m) (Some p) h = h
      go c None (Some p) h = record { key = h.key; owns = owner h.key (apart (same_key key h.key) refl) h.owns; said = h.said; calls = h.calls }
        where
          apart : (b : Bool) → same_key key h.key ≡ b → same_key key h.key ≡ false
          apart false e = e
          apart true e = absurd (let z : due r h.key ≡ None = subst (λ (i : Key). due r i ≡ None) (same_key_is key h.key e) none in let w = h.said in cc (z, w))

  pub unseen : Joined s (set ranks r y) due g
  unseen = record {
    sizes = sizes_set s g g ranks r y j.sizes lt refl refl refl;
    locals = each_rank (λ q z. LocalFits g.comms z.comms.rows q z.local (get_or g.ranks q blank_part).local) ranks r y inside (j.locals r) (λ q ne. j.locals q);
    threads = each_rank (λ q z. ThreadsFit z.threads z.agree.opened (get_or g.ranks q blank_part).threads) ranks r y inside
        (let h = j.threads r in record { long = h.long; long_part = h.long_part; calls = h.calls; waits = h.waits; waiter = λ k. h.waiter k ∙ ap one (sym (open_after k)) }) (λ q ne. j.threads q);
    masks = λ q lq. each_rank (λ i z. i < s.ranks → MaskFits s.contexts z.agree.mask z.comms.rows) ranks r y inside (λ l. rw mask (j.masks r lt)) (λ i ne. j.masks i) q lq;
    creations = record {
      each = each_rank (λ q z. (u : ℕ) (k : Key) (target : List ℕ) (session n : ℕ) → (row_of z.threads u).waits ≡ Creates k target session → (part_row (get_or g.ranks q blank_part).threads u).wait ≡ Creating n → CreationFits g.comms g.creations z.comms.rows z.local.names (due q k) (stage_of z.agree.opened k) q u k target session n)
          ranks r y inside creation_after (λ q ne. j.creations.each q);
      uncoloured = each_rank (λ q z. (u : ℕ) (k : Key) (target : List ℕ) (session n : ℕ) → (row_of z.threads u).waits ≡ Uncoloured k target session → (part_row (get_or g.ranks q blank_part).threads u).wait ≡ Creating n → UncolouredFits g.comms g.creations q u k target session n)
          ranks r y inside (j.creations.uncoloured r) (λ q ne. j.creations.uncoloured q);
    };
    comms = each_rank (λ q z. CommsFit s.contexts g.comms g.creations (get_or g.ranks q blank_part).threads q z.comms.rows z.comms.added z.agree.owner (due q) z.threads) ranks r y inside comms_here (λ q ne. j.comms q);
    whole = j.whole;
  }
