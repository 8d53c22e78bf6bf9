-- What the topics of names, threads, creations and communicators read of a rank and of the registry: where only the rest
-- changes, they go on. Messages, receives, their counts and the markers that came are such rests.
use Rattle.std.proofs.Common.{◌≡◌, ◌<◌, ◌==◌, ℕ, if◌then◌else◌, Bool, true, false, List, [], ◌∷◌, length, get_or, set, Option, Some, None, refl, sym, ◌∙◌, subst, arith}
use Rattle.mpi_base.specs.declared.keys.Key.{Key}
use Rattle.mpi_base.specs.declared.messages.Msg.{Msg}
use Rattle.mpi_law.specs.declared.setting.Setting.{Setting}
use Rattle.mpi_law.specs.Registry.State.{Registry, Creating, blank_part}
use Rattle.agree_law.specs.Part.{stage_of}
use Rattle.match_law.specs.declared.rows.Posted.{Posted}
use Rattle.match_law.specs.Box.{Box, arrive, post}
use Rattle.mpi_protocol.specs.declared.rows.Waits.TheVariants.{Creation as Creates, Uncoloured}
use Rattle.mpi_protocol.specs.declared.rows.ReceiveRow.{ReceiveRow}
use Rattle.mpi_protocol.specs.Packets as packet
use Rattle.mpi_protocol.specs.Packets.{Sent}
use Rattle.mpi_protocol.specs.Rank.{Rank, with_taken}
use Rattle.mpi_protocol.specs.Moves.{Taking, arrives, arrives_to, posts, posts_to}
use Rattle.mpi_protocol.specs.Calls.{sends_to}
use Rattle.due_law.specs.Dues.{Dues}
use Rattle.run_law.proofs.Locals.{LocalFits}
use Rattle.run_law.proofs.Threads.{ThreadsFit, row_of, part_row}
use Rattle.run_law.proofs.Masks.{MaskFits}
use Rattle.run_law.proofs.Creations.{CreationFits, UncolouredFits}
use Rattle.run_law.proofs.Comms.{CommsFit}
use Rattle.run_law.proofs.Joined.{rank_in, Joined}
use Rattle.run_law.proofs.OneRank.{each_rank, sizes_set}
use Rattle.run_law.proofs.Parts.{set_twice}
use Rattle.run_law.proofs.CallParts.{set_here}

-- Ranks

-- two states of a rank that the topics cannot tell apart
pub record LooksSame (x y : Rank) : Type 0 where
  pub number : y.rank ≡ x.rank
  pub setting : y.setting ≡ x.setting
  pub local : y.local ≡ x.local
  pub threads : y.threads ≡ x.threads
  pub opened : y.agree.opened ≡ x.agree.opened
  pub owner : y.agree.owner ≡ x.agree.owner
  pub mask : y.agree.mask ≡ x.agree.mask
  pub rows : y.comms.rows ≡ x.comms.rows
  pub added : y.comms.added ≡ x.comms.added

-- messages, receives and their counts are read by none of them
pub looks_else : (x : Rank) (box : Box) (receives : List ReceiveRow) (sends posts : ℕ) → LooksSame x (record x { box = box; receives = receives; sends = sends; posts = posts })
looks_else x box receives sends posts = record { number = refl; setting = refl; local = refl; threads = refl; opened = refl; owner = refl; mask = refl; rows = refl; added = refl }

pub looks-trans : (x y z : Rank) → LooksSame x y → LooksSame y z → LooksSame x z
looks-trans x y z a b = record {
  number = b.number ∙ a.number;
  setting = b.setting ∙ a.setting;
  local = b.local ∙ a.local;
  threads = b.threads ∙ a.threads;
  opened = b.opened ∙ a.opened;
  owner = b.owner ∙ a.owner;
  mask = b.mask ∙ a.mask;
  rows = b.rows ∙ a.rows;
  added = b.added ∙ a.added;
}

module _ (s : Setting) (ranks : List Rank) (due : Dues) (g : Registry) (r : ℕ) (y : Rank) (j : Joined s ranks due g) (lt : r < s.ranks) (l : LooksSame (rank_in ranks r) y) where
  inside : r < length ranks
  inside = let e = j.sizes.ranks_are in omega (arith, e, lt)

  -- a rank changes in what the topics do not read
  pub looks_joined : Joined s (set ranks r y) due g
  looks_joined = record {
    sizes = sizes_set s g g ranks r y j.sizes lt l.number l.setting refl;
    locals = each_rank (λ q z. LocalFits g.comms z.comms.rows q z.local (get_or g.ranks q blank_part).local) ranks r y inside (rw (l.rows, l.local) (j.locals r)) (λ q ne. j.locals q);
    threads = each_rank (λ q z. ThreadsFit z.threads z.agree.opened (get_or g.ranks q blank_part).threads) ranks r y inside (rw (l.threads, l.opened) (j.threads r)) (λ q ne. j.threads q);
    masks = λ q lq. each_rank (λ i z. i < s.ranks → MaskFits s.contexts z.agree.mask z.comms.rows) ranks r y inside (λ z. rw (l.mask, l.rows) (j.masks r lt)) (λ i ne. j.masks i) q lq;
    creations = record {
      each = each_rank (λ q z. (u : ℕ) (k : Key) (target : List ℕ) (session n : ℕ) → (row_of z.threads u).waits ≡ Creates k target session → (part_row (get_or g.ranks q blank_part).threads u).wait ≡ Creating n → CreationFits g.comms g.creations z.comms.rows z.local.names (due q k) (stage_of z.agree.opened k) q u k target session n)
          ranks r y inside (rw (l.threads, l.rows, l.local, l.opened) (j.creations.each r)) (λ q ne. j.creations.each q);
      uncoloured = each_rank (λ q z. (u : ℕ) (k : Key) (target : List ℕ) (session n : ℕ) → (row_of z.threads u).waits ≡ Uncoloured k target session → (part_row (get_or g.ranks q blank_part).threads u).wait ≡ Creating n → UncolouredFits g.comms g.creations q u k target session n)
          ranks r y inside (rw l.threads (j.creations.uncoloured r)) (λ q ne. j.creations.uncoloured q);
    };
    comms = each_rank (λ q z. CommsFit s.contexts g.comms g.creations (get_or g.ranks q blank_part).threads q z.comms.rows z.comms.added z.agree.owner (due q) z.threads) ranks r y inside (rw (l.rows, l.added, l.owner, l.threads) (j.comms r)) (λ q ne. j.comms q);
    whole = j.whole;
  }

-- the same after another change of the rank
pub looks_again : (s : Setting) (ranks : List Rank) (due : Dues) (g : Registry) (r : ℕ) (x y : Rank) → r < length ranks → r < s.ranks → LooksSame x y → Joined s (set ranks r x) due g → Joined s (set ranks r y) due g
looks_again s ranks due g r x y inside lt l j =
    let here : rank_in (set ranks r x) r ≡ x = set_here ranks r x _ inside in
    let look : LooksSame (rank_in (set ranks r x) r) y = subst (λ (z : Rank). LooksSame z y) (sym here) l in
    subst (λ (zs : List Rank). Joined s zs due g) (set_twice ranks r x y) (looks_joined s (set ranks r x) due g r y j lt look)

-- Messages that a rank takes, and receives that it posts

pub looks_arrives : (x : Rank) (m : Msg) → LooksSame x (arrives x m).0
looks_arrives x m = go (arrive x.box m).0 (arrive x.box m).1
  where
    go : (b : Box) (o : Option Posted) → LooksSame x (arrives_to x m b o).0
    go b None = looks_else x b x.receives x.sends x.posts
    go b (Some p) = looks_else x b (with_taken x.receives p.number m) x.sends x.posts

pub looks_posts : (x : Rank) (p : Posted) → LooksSame x (posts x p).0
looks_posts x p = go (post x.box p).0 (post x.box p).1
  where
    go : (b : Box) (o : Option Msg) → LooksSame x (posts_to x p.number b o).0
    go b None = looks_else x b x.receives x.sends x.posts
    go b (Some m) = looks_else x b (with_taken x.receives p.number m) x.sends x.posts

pub looks_sends : (x : Rank) (m : Msg) (to : ℕ) → LooksSame x (sends_to x m to).0.0
looks_sends x m to = go (to == x.rank)
  where
    chosen : Bool → Taking × List Sent
    chosen b = if b then (arrives x m, []) else ((x, None), record { to = to; packet = packet.Message m } ∷ [])

    go : (b : Bool) → LooksSame x (chosen b).0.0
    go true = looks_arrives x m
    go false = looks_else x x.box x.receives x.sends x.posts

-- The registry

-- the registry changes in what the topics do not read
pub joined_also : (s : Setting) (ranks : List Rank) (due : Dues) (g new : Registry) → new.comms ≡ g.comms → new.creations ≡ g.creations → new.ranks ≡ g.ranks → Joined s ranks due g → Joined s ranks due new
joined_also s ranks due g new cs rows parts j = record {
  sizes = record { ranks_are = j.sizes.ranks_are; parts_are = rw parts j.sizes.parts_are; number = j.sizes.number; setting = j.sizes.setting };
  locals = rw (cs, parts) j.locals;
  threads = rw parts j.threads;
  masks = j.masks;
  creations = rw (cs, rows, parts) j.creations;
  comms = rw (cs, rows, parts) j.comms;
  whole = rw (cs, rows, parts) j.whole;
}
