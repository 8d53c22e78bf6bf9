-- No communicator may be given back: where all members have freed one, no creation under it is open and no receive of a member
-- waits on it, each member has left it or given it back; the markers of the others have come, and no key owns the mask.
use Rattle.std.proofs.Common.{◌≡◌, ◌<◌, ◌+◌, ◌==◌, ◌&&◌, ◌||◌, not, ℕ, Bool, true, false, if◌then◌else◌, List, [], ◌∷◌, map, filter, length, Option, Some, None, refl, sym, ap, ◌∙◌, subst, arith}
use Rattle.std.specs.Prelude.{is_none}
use Rattle.std.specs.Option.{is_some}
use Rattle.std.specs.List.{list_any, list_all}
use Rattle.std.proofs.lemmas.Bool.Decides.{nat_tests}
use Rattle.mpi_base.specs.MemberLists.{has_rank}
use Rattle.mpi_base.specs.declared.keys.Key.{Key}
use Rattle.mpi_base.specs.declared.entries.Act.TheVariants.{Leave, Back}
use Rattle.mpi_law.specs.declared.setting.Setting.{Setting}
use Rattle.mpi_law.specs.ScriptLists.{AllScripts}
use Rattle.mpi_law.specs.Registry.State.{Registry, Receive, comm_at}
use Rattle.mpi_law.specs.Registry.Creations.{has_open_under}
use Rattle.mpi_law.specs.Registry.Contexts.{is_live_at, comm_of}
use Rattle.mpi_law.specs.Registry.Messages.{is_waiting, has_waiting}
use Rattle.mpi_law.specs.Closed.{is_back_or_held, is_settled}
use Rattle.match_law.specs.declared.rows.Posted.{Posted}
use Rattle.match_law.specs.Box.{has_posted}
use Rattle.agree_law.specs.World.{Event}
use Rattle.agree_law.specs.Rule.{is_key}
use Rattle.agree_law.proofs.Lists.{AllOf, tally, one, tally_any}
use Rattle.comm_law.specs.declared.rows.CommRow.{CommRow}
use Rattle.comm_law.specs.declared.rows.CommStage.{CommStage}
use Rattle.comm_law.specs.declared.rows.CommStage.TheVariants.{Live, Freed, Left}
use Rattle.comm_law.specs.Comms.{row_at, is_left, is_noted, is_marked_by, all_marked}
use Rattle.mpi_protocol.specs.Packets.{Packet}
use Rattle.mpi_protocol.specs.Rank.{has_open_under as open_under_here}
use Rattle.mpi_protocol.specs.Step.{is_enabled}
use Rattle.mpi_protocol.specs.World.{World, rank_at, link}
use Rattle.due_law.specs.Dues.{Dues}
use Rattle.run_law.proofs.Contexts.{any_member, comm_of_live}
use Rattle.run_law.proofs.Rows.{row_in}
use Rattle.run_law.proofs.CountedRows.{row_ctx}
use Rattle.run_law.proofs.Comms.{CommFits, is_live}
use Rattle.run_law.proofs.Classes.{each_member}
use Rattle.run_law.proofs.LeftHere.{under_open}
use Rattle.message_law.proofs.Topics.{as_posted, is_waiting_at, is_marker, is_note, is_left_row, has_left, OnLive, WaitingFits}
use Rattle.message_law.proofs.Worlds.{comms_of}
use Rattle.closed_law.proofs.Lists.{member_at}
use Rattle.closed_law.proofs.Rests.{Rests, stands, is_rank, none_may}

module _ (s : Setting) (scripts : AllScripts) (w : World) (es : List Event) (due : Dues) (g : Registry) (h : Rests s scripts w es due g) where
  -- no receive is posted on a communicator on which none of the rank waits
  none_posted : (p r : ℕ) → r < length w.ranks → OnLive g p r → has_waiting g p r ≡ false → has_posted (rank_at w r).box (comm_at g p).ctx ≡ false
  none_posted p r lr on none = subst (λ (ps : List Posted). list_any (λ x. x.ctx == (comm_at g p).ctx) ps ≡ false) (h.together.fits.receives.lists r lr) (go g.receives h.together.fits.receives.live none)
    where
      go : (xs : List Receive) → AllOf (WaitingFits g) xs → list_any (λ x. is_waiting x && ((x.rank == r) && (x.comm == p))) xs ≡ false → list_any (λ (x : Posted). x.ctx == (comm_at g p).ctx) (map (as_posted g.comms) (filter (is_waiting_at r) xs)) ≡ false
      go [] f e = refl
      go (x ∷ xs) f e = by (is_waiting_at r x) refl (go xs f.1 (grind (arith, e)))
        where
          apart : is_waiting_at r x ≡ true → ((comm_at g x.comm).ctx == (comm_at g p).ctx) ≡ true → ⊥
          apart t c =
              let waits : is_waiting x ≡ true = grind (arith, t) in
              let at : x.rank ≡ r = grind (arith, nat_tests, t) in
              let live : OnLive g x.comm r = rw at at f.0 waits in
              let same = (stands s scripts w es due g h).apart x.comm p r live.0 on.0 live.1 on.1 (grind (arith, nat_tests, c)) in
              grind (arith, nat_tests, e, waits, at, same)

          ctx : is_waiting_at r x ≡ true → (b : Bool) → ((comm_at g x.comm).ctx == (comm_at g p).ctx) ≡ b → b ≡ false
          ctx t false c = refl
          ctx t true c = absurd (apart t c)

          by : (b : Bool) → is_waiting_at r x ≡ b → list_any (λ (x : Posted). x.ctx == (comm_at g p).ctx) (map (as_posted g.comms) (filter (is_waiting_at r) xs)) ≡ false
              → list_any (λ (x : Posted). x.ctx == (comm_at g p).ctx) (map (as_posted g.comms) (if b then x ∷ filter (is_waiting_at r) xs else filter (is_waiting_at r) xs)) ≡ false
          by false t ih = ih
          by true t ih = let c = ctx t ((comm_at g x.comm).ctx == (comm_at g p).ctx) refl in grind (arith, c, ih)

  module _ (p : ℕ) (lp : p < length g.comms) (freed : list_all (has_rank (comm_at g p).freed) (comm_at g p).members ≡ true) (settled : list_any (has_open_under g p) (comm_at g p).members ≡ false) where
    abbrev c : ℕ
    c = (comm_at g p).ctx

    live_here : (q : ℕ) → has_rank (comm_at g p).members q ≡ true → has_rank (comm_at g p).returned q ≡ false → is_live_at (comm_at g p) q ≡ true
    live_here q i back = grind (arith, i, back)

    -- a member that has freed it, and not given it back, knows it and has left it
    record LeftRow (q : ℕ) : Type 0 where
      pub row : CommRow
      pub is : row_in (rank_at w q).comms.rows c ≡ Some row
      pub left : is_left row.stage ≡ true
      pub members : row.members ≡ (comm_at g p).members

    left_row : (q : ℕ) → has_rank (comm_at g p).members q ≡ true → has_rank (comm_at g p).returned q ≡ false → LeftRow q
    unfolding is_enabled open_under_here
    left_row q i back = go (row_in (rank_at w q).comms.rows c) refl (comm_of g.comms q c) here ((h.together.joined.comms q).each c)
      where
        lq : q < length w.ranks
        lq = is_rank s scripts w es due g h p q i

        here : comm_of g.comms q c ≡ Some p
        here = comm_of_live g.comms q p h.together.joined.whole.apart lp (live_here q i back)

        owner : (o : Option Key) (key : Key) → is_none o ≡ true → is_key o key ≡ true → ⊥
        owner None key e k = cc (k)
        owner (Some a) key e k = cc (e)

        none_open : open_under_here (rank_at w q) c ≡ false
        none_open =
            let lo = ((h.together.joined.comms q).range c (ap is_some here)).0 in
            sym (under_open s w.ranks due g h.together.joined q p c here lo) ∙ any_member (has_open_under g p) (comm_at g p).members q settled i

        staged : (m : CommRow) → row_in (rank_at w q).comms.rows c ≡ Some m → (st : CommStage) → m.stage ≡ st → is_live st ≡ false → is_left st ≡ true
        staged m e Left is dead = refl
        staged m e Live is dead = absurd (cc (dead))
        staged m e Freed is dead = absurd (let still = none_may s scripts w es due g h q (Leave c) lq refl refl in let none = none_open in let z = rw (e, is, none) at still in cc (z))

        go : (o : Option CommRow) → row_in (rank_at w q).comms.rows c ≡ o → (k : Option ℕ) → k ≡ Some p → CommFits g.comms g.creations q (rank_at w q).agree.owner (due q) c o k → LeftRow q
        go None e None is f = absurd (cc (is))
        go None e (Some k) is f = absurd (owner (rank_at w q).agree.owner f.key (h.at_rest.owner q) f.owns)
        go (Some m) e None is f = absurd f
        go (Some m) e (Some k) is f =
            let same : k ≡ p = cc (is) in
            let mine = member_at (has_rank (comm_at g p).freed) (comm_at g p).members q freed i in
            let stage : is_live m.stage ≡ not (has_rank (comm_at g p).freed q) = subst (λ (n : ℕ). is_live m.stage ≡ not (has_rank (comm_at g n).freed q)) same f.stage in
            record {
              row = m;
              is = e;
              left = staged m e m.stage refl (grind (arith, stage, mine));
              members = subst (λ (n : ℕ). m.members ≡ (comm_at g n).members) same f.members;
            }

    all_left : (q : ℕ) → has_rank (comm_at g p).members q ≡ true → has_left g (comms_of w) q p ≡ true
    all_left q i = go (has_rank (comm_at g p).returned q) refl
      where
        go : (b : Bool) → has_rank (comm_at g p).returned q ≡ b → has_left g (comms_of w) q p ≡ true
        go true e = grind (arith, e)
        go false e = let k = left_row q i e in let row = k.is in let left : is_left_row (row_at (comms_of w q) c) ≡ true = rw row k.left in grind (arith, left)

    -- the marker of each other member has come
    noted : (q r : ℕ) → has_rank (comm_at g p).members q ≡ true → has_rank (comm_at g p).members r ≡ true → has_rank (comm_at g p).returned r ≡ false → is_marked_by (rank_at w r).comms r c q ≡ true
    noted q r i m back = go (q == r) refl
      where
        go : (b : Bool) → (q == r) ≡ b → ((q == r) || is_noted (rank_at w r).comms c q) ≡ true
        go true e = grind (arith, e)
        go false e =
            let lq = is_rank s scripts w es due g h p q i in
            let lr = is_rank s scripts w es due g h p r m in
            let each = h.together.fits.markers.one_each p q r lq lr (grind (arith, nat_tests, e)) (lp, live_here r m back) i in
            let left = all_left q i in
            let empty = h.at_rest.empty q r lq lr e in
            let none : tally (is_marker c) (link w q r) ≡ 0 = ap (λ (ps : List Packet). tally (is_marker c) ps) empty in
            let one_note : tally (is_note c q) (rank_at w r).comms.noted ≡ 1 = (let z : one true ≡ tally (is_marker c) (link w q r) + tally (is_note c q) (rank_at w r).comms.noted = rw left at each in omega (arith, z, none)) in
            let any : is_noted (rank_at w r).comms c q ≡ true = tally_any (is_note c q) (rank_at w r).comms.noted ∙ grind (arith, nat_tests, one_note) in
            grind (arith, any)

    held : (r : ℕ) → has_rank (comm_at g p).members r ≡ true → has_rank (comm_at g p).returned r ≡ false → has_waiting g p r ≡ false → ⊥
    unfolding is_enabled all_marked
    held r m back none =
        let lr = is_rank s scripts w es due g h p r m in
        let k = left_row r m back in
        let row = k.is in
        let ctx = row_ctx (rank_at w r).comms.rows c k.row k.is in
        let left = k.left in
        let marks : list_all (is_marked_by (rank_at w r).comms r c) (comm_at g p).members ≡ true = each_member (is_marked_by (rank_at w r).comms r c) (comm_at g p).members (λ q i. noted q r i m back) in
        let members = k.members in
        let number : (rank_at w r).rank ≡ r = h.together.shaped.named r lr in
        let posted = none_posted p r lr (lp, live_here r m back) none in
        let free = h.at_rest.owner r in
        let still = none_may s scripts w es due g h r (Back c) lr refl refl in
        let z = rw (row, left, ctx, members, number, marks, posted, free) at still in
        cc (z)

  -- each communicator
  pub settled : (p : ℕ) → p < length g.comms → is_settled g p ≡ true
  settled p lp = each_member (is_back_or_held g p) (comm_at g p).members (λ r m. go r m (has_rank (comm_at g p).returned r) refl (list_all (has_rank (comm_at g p).freed) (comm_at g p).members) refl (list_any (has_open_under g p) (comm_at g p).members) refl (has_waiting g p r) refl)
    where
      go : (r : ℕ) → has_rank (comm_at g p).members r ≡ true → (a : Bool) → has_rank (comm_at g p).returned r ≡ a → (b : Bool) → list_all (has_rank (comm_at g p).freed) (comm_at g p).members ≡ b
          → (o : Bool) → list_any (has_open_under g p) (comm_at g p).members ≡ o → (d : Bool) → has_waiting g p r ≡ d → (a || (not b || (o || d))) ≡ true
      go r m true ea b eb o eo d ed = refl
      go r m false ea false eb o eo d ed = refl
      go r m false ea true eb true eo d ed = refl
      go r m false ea true eb false eo true ed = refl
      go r m false ea true eb false eo false ed = absurd (held p lp eb eo r m ea ed)
