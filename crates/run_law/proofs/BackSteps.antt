-- A rank gives back a communicator that all its members have left: the registry allows it, and what it leaves belongs to the
-- ranks.
use Rattle.std.proofs.Common.{◌≡◌, ◌≢◌, ◌⊎◌, ◌<◌, ◌≤◌, ℕ, ◌==◌, ◌&&◌, ◌||◌, not, nat_lt, nat_le, if◌then◌else◌, Bool, true, false, List, [], ◌∷◌, filter, length, get_or, set, Option, Some, None, refl, sym, ap, ◌∙◌, subst, inl, inr, arith, length-set}
use Rattle.std.specs.Option.{is_some, is_none}
use Rattle.std.specs.List.{list_any}
use Rattle.std.proofs.lemmas.Bool.Decides.{nat_tests}
use Rattle.mpi_base.specs.MemberLists.{has_rank}
use Rattle.mpi_base.specs.declared.keys.Key.{Key}
use Rattle.local_law.specs.Objects as bound
use Rattle.mpi_law.specs.declared.setting.Setting.{Setting}
use Rattle.mpi_law.specs.Local.Objects.{Bound, NameRow}
use Rattle.mpi_law.specs.Registry.State as reg
use Rattle.mpi_law.specs.Registry.State.{Registry, Outcome, Made, Creating, blank_part, part_of, comm_at}
use Rattle.mpi_law.specs.Registry.Creations.{outcome_for, has_open_under}
use Rattle.mpi_law.specs.Registry.Contexts.{comm_of}
use Rattle.mpi_law.specs.Registry.Messages.{drop_left}
use Rattle.mpi_law.specs.Registry.Events.{registry_next}
use Rattle.mpi_law.specs.Registry.Runs.{MayBack}
use Rattle.agree_law.specs.declared.rows.Outcome.TheVariants as ended
use Rattle.agree_law.specs.declared.rows.Stage.{Stage}
use Rattle.agree_law.specs.declared.rows.Stage.TheVariants.{Sharing, Called, Waiting, Offered, Done}
use Rattle.agree_law.specs.declared.rows.Verdict.{Verdict}
use Rattle.agree_law.specs.declared.rows.Verdict.TheVariants.{Ready, Retry, Context, Exhausted}
use Rattle.agree_law.specs.Part.{stage_of}
use Rattle.agree_law.specs.Moves.{give_back}
use Rattle.comm_law.specs.declared.rows.CommRow.{CommRow}
use Rattle.comm_law.specs.Comms.{Comms as Known, all_marked, all_marked_row, remove}
use Rattle.match_law.specs.Box.{kept_on, drop_ctx}
use Rattle.mpi_protocol.specs.declared.rows.Waits.TheVariants.{Creation as Creates, Uncoloured}
use Rattle.mpi_protocol.specs.Rank.{Rank}
use Rattle.mpi_protocol.specs.Step.{may_give_back, gives_back}
use Rattle.mpi_protocol.specs.Run.{back_events}
use Rattle.run_law.proofs.Lists.{set_place}
use Rattle.run_law.proofs.Rows.{row_in}
use Rattle.run_law.proofs.Contexts.{comm_of_live, live_member, comm_of_is, has_rank-append}
use Rattle.run_law.proofs.Classes.{each_member, no_member}
use Rattle.due_law.specs.Dues.{Dues}
use Rattle.run_law.proofs.Locals.{BoundFits, NamesFit, LocalFits}
use Rattle.run_law.proofs.Threads.{row_of}
use Rattle.run_law.proofs.Masks.{MaskFits}
use Rattle.run_law.proofs.Creations.{DueFits, StageFits, CreationFits, UncolouredFits, comm_in, creation_in}
use Rattle.run_law.proofs.Comms.{CommFits, CommsFit, FreeFits, is_numbered, is_other}
use Rattle.run_law.proofs.Joined.{rank_in, Joined}
use Rattle.run_law.proofs.Between.{between_calls}
use Rattle.run_law.proofs.Bindings.{tally-filter}
use Rattle.run_law.proofs.Ends.{EndsWith, ends_with}
use Rattle.run_law.proofs.Joins.{stage_rows}
use Rattle.run_law.proofs.Parts.{thread_in}
use Rattle.run_law.proofs.SameComms.{named_same, known_same, creation_same, uncoloured_same}
use Rattle.run_law.proofs.ChangedComms.{changed_joined}
use Rattle.run_law.proofs.Leavings.{row_removed}
use Rattle.run_law.proofs.Backs.{BackAsked, AllLeavings, settled, cs, it, other, back_changed, back_apart, gone, context_other, place_other, others_stand, same_here, key_stands, back_returned, back_under}
use Rattle.run_law.proofs.SettleSteps.{Goes}

-- Rows without those of a context

any_fewer : {A : Type 0} (q keep : A → Bool) (xs : List A) → list_any q xs ≡ false → list_any q (filter keep xs) ≡ false
any_fewer q keep [] e = refl
any_fewer q keep (x ∷ xs) e = go (keep x) (any_fewer q keep xs (grind (arith, e)))
  where
    go : (b : Bool) → list_any q (filter keep xs) ≡ false → list_any q (if b then x ∷ filter keep xs else filter keep xs) ≡ false
    go true ih = grind (arith, e, ih)
    go false ih = ih

-- where the rows with a serial are all of this context, or all of another
serial_gone : (rows : List CommRow) (c n : ℕ) → list_any (is_other n c) rows ≡ false → list_any (is_numbered n) (filter (λ (m : CommRow). not (m.ctx == c)) rows) ≡ false
serial_gone [] c n e = refl
serial_gone (x ∷ xs) c n e = go (x.ctx == c) refl (serial_gone xs c n (grind (arith, e)))
  where
    go : (b : Bool) → (x.ctx == c) ≡ b → list_any (is_numbered n) (filter (λ (m : CommRow). not (m.ctx == c)) xs) ≡ false → list_any (is_numbered n) (if not b then x ∷ filter (λ (m : CommRow). not (m.ctx == c)) xs else filter (λ (m : CommRow). not (m.ctx == c)) xs) ≡ false
    go true t ih = ih
    go false t ih = grind (arith, e, t, ih)

serial_stays : (rows : List CommRow) (c d n : ℕ) → (d == c) ≡ false → list_any (is_other n d) rows ≡ false → list_any (is_numbered n) (filter (λ (m : CommRow). not (m.ctx == c)) rows) ≡ list_any (is_numbered n) rows
serial_stays [] c d n ne e = refl
serial_stays (x ∷ xs) c d n ne e = go (x.ctx == c) refl (serial_stays xs c d n ne (grind (arith, e)))
  where
    go : (b : Bool) → (x.ctx == c) ≡ b → list_any (is_numbered n) (filter (λ (m : CommRow). not (m.ctx == c)) xs) ≡ list_any (is_numbered n) xs
        → list_any (is_numbered n) (if not b then x ∷ filter (λ (m : CommRow). not (m.ctx == c)) xs else filter (λ (m : CommRow). not (m.ctx == c)) xs) ≡ ((x.serial == n) || list_any (is_numbered n) xs)
    go true t ih =
        let off : (x.serial == n) ≡ false = at (x.serial == n) refl in
        rw off ih
      where
        at : (v : Bool) → (x.serial == n) ≡ v → v ≡ false
        at false w = refl
        at true w = absurd (let ctx : (x.ctx == d) ≡ true = grind (arith, e, w) in grind (arith, nat_tests, ne, t, ctx))
    go false t ih = rw ih refl

-- the mask with one context more, and the rows without it
mask_fewer : (top : ℕ) (mask : List Bool) (rows : List CommRow) (c : ℕ) → 1 ≤ c → c ≤ top → MaskFits top mask rows → MaskFits top (set mask c true) (filter (λ (m : CommRow). not (m.ctx == c)) rows)
mask_fewer top mask rows c lo hi h = record { wide = length-set mask c true ∙ h.wide; bits = λ b. rw (row_removed rows c b) (go b (row_in rows b) refl (set_place mask c true false b)) }
  where
    none_or : (o : Option CommRow) (t : Bool) → is_none (if t then None else o) ≡ (t || is_none o)
    none_or o true = refl
    none_or o false = refl

    go : (b : ℕ) (o : Option CommRow) → row_in rows b ≡ o → (((b ≡ c) × (c < length mask) × (get_or (set mask c true) b false ≡ true)) ⊎ (((b ≢ c) ⊎ (length mask ≤ c)) × (get_or (set mask c true) b false ≡ get_or mask b false)))
        → get_or (set mask c true) b false ≡ (nat_lt 0 b && (nat_le b top && is_none (if b == c then None else o)))
    go b o e (inl z) = let n = none_or o (b == c) in let y = z.2 in let w = z.0 in grind (arith, nat_tests, n, y, w, lo, hi)
    go b o e (inr z) =
        let n = none_or o (b == c) in
        let y = z.1 in
        let w = z.0 in
        let bit = h.bits b in
        let wide = h.wide in
        let is : is_none (row_in rows b) ≡ is_none o = ap is_none e in
        grind (arith, nat_tests, n, y, w, bit, wide, hi, is)

module _ (s : Setting) (ranks : List Rank) (due : Dues) (g : Registry) (r c p : ℕ) (j : Joined s ranks due g) (leavings : AllLeavings ranks) (lt : r < s.ranks) (stands : comm_of g.comms r c ≡ Some p) (asked : BackAsked ranks g r c p) where
  abbrev x : Rank
  x = rank_in ranks r

  abbrev known : Known
  known = remove x.comms c

  abbrev after : List reg.Communicator
  after = cs s ranks due g r c p j leavings stands asked.left

  -- a communicator that the rank has not freed is another one
  not_freed : (q : ℕ) → has_rank (comm_in g.comms q).freed r ≡ false → q ≢ p
  not_freed q kept is =
      let m = live_member (comm_in g.comms p) r (comm_of_is g.comms r c p stands).live in
      let f = (settled s ranks due g r c p j leavings stands asked.left r m).0 in
      let k : has_rank (comm_in g.comms p).freed r ≡ false = subst (λ (v : ℕ). has_rank (comm_in g.comms v).freed r ≡ false) is kept in
      cc (k, f)

  row_kept : (d : ℕ) → d ≢ c → row_in known.rows d ≡ row_in x.comms.rows d
  row_kept d ne = let off : (d == c) ≡ false = grind (arith, nat_tests, ne) in row_removed x.comms.rows c d ∙ (rw off refl)

  -- names

  bound_here : (a b : Bound) → BoundFits g.comms x.comms.rows r a b → BoundFits after known.rows r a b
  bound_here bound.Reserved bound.Reserved h = tt
  bound_here (bound.Session a) (bound.Session b) h = h
  bound_here (bound.Group ms a) (bound.Group ns b) h = h
  bound_here (bound.Comm d a) (bound.Comm q b) h =
      let ne = not_freed q h.kept in
      let off = context_other s ranks due g r c p j leavings stands asked.left d q h.stands ne in
      named_same g.comms after r _ (same_here s ranks due g r c p j leavings stands asked.left) x.comms.rows known.rows d a q b ne (λ e. ap is_some (row_kept d off) ∙ e) h
  bound_here (bound.Request n) (bound.Request m) h = h
  bound_here a b h = absurd h

  names_here : (a b : List NameRow) → NamesFit g.comms x.comms.rows r a b → NamesFit after known.rows r a b
  names_here [] [] h = tt
  names_here [] (b ∷ bs) h = absurd h
  names_here (a ∷ as') [] h = absurd h
  names_here (a ∷ as') (b ∷ bs) h = (h.0, bound_here a.1 b.1 h.1, names_here as' bs h.2)

  local_here : LocalFits after known.rows r x.local (part_of g r).local
  local_here = let h = j.locals r in record { live = h.live; opened = h.opened; names = names_here x.local.names (part_of g r).local.names h.names; each = h.each; comms_once = h.comms_once }

  -- creations

  safe : (k : Key) (from : ℕ) (due : Option Verdict) (st : Option Stage) (o : Option Outcome) → StageFits g.comms x.comms.rows x.local.names r k from due st o → (q : ℕ) → o ≡ Some (Made q) → q ≢ p
  safe k from due st o h q e = staged due st (subst (λ (z : Option Outcome). StageFits g.comms x.comms.rows x.local.names r k from due st z) e h)
    where
      of_due : (v : Option Verdict) → DueFits g.comms r k from v (Some (Made q)) → q ≢ p
      of_due None z = absurd z
      of_due (Some Ready) z = absurd z
      of_due (Some Retry) z = absurd z
      of_due (Some Exhausted) z = absurd z
      of_due (Some (Context a)) z = not_freed q z.kept

      staged : (v : Option Verdict) (st : Option Stage) → StageFits g.comms x.comms.rows x.local.names r k from v st (Some (Made q)) → q ≢ p
      staged v None z = absurd z
      staged v (Some (Sharing a)) z = absurd (let n = z.1 in cc (n))
      staged v (Some Called) z = absurd (let n = z.1 in cc (n))
      staged v (Some (Waiting a)) z = absurd (let n = z.1 in cc (n))
      staged v (Some (Offered a own)) z = of_due v z
      staged v (Some (Done ended.Exhausted)) z = absurd z.1
      staged v (Some (Done (ended.Context a))) z = not_freed q z.1.0.kept

  creation_here : (u : ℕ) (k : Key) (to : List ℕ) (from i : ℕ) → (row_of x.threads u).waits ≡ Creates k to from → (thread_in g.ranks r u).wait ≡ Creating i → CreationFits after g.creations known.rows x.local.names (due r k) (stage_of x.agree.opened k) r u k to from i
  creation_here u k to from i fw fp =
      let old = j.creations.each r u k to from i fw fp in
      let h = creation_same g.comms after r _ (same_here s ranks due g r c p j leavings stands asked.left) g.creations x.comms.rows x.local.names (due r k) (stage_of x.agree.opened k) u k to from i
      (safe k from (due r k) (stage_of x.agree.opened k) (outcome_for (creation_in g.creations i) r) old.far) (key_stands s ranks due g r c p j leavings stands asked.left u i k fp old.stands) old in
      record {
        there = h.there;
        stands = h.stands;
        caller = h.caller;
        members = h.members;
        member = h.member;
        kind = h.kind;
        share = h.share;
        far = stage_rows after x.comms.rows known.rows x.local.names r k from (due r k) (stage_of x.agree.opened k) _ (λ d e z. ap is_some (row_kept d (apart d (ends_with g.comms x.comms.rows x.local.names r k from d (due r k) (stage_of x.agree.opened k) _ e old.far))) ∙ z) h.far;
      }
    where
      apart : (d : ℕ) → EndsWith g.comms r k from d (outcome_for (creation_in g.creations i) r) → d ≢ c
      apart d w = context_other s ranks due g r c p j leavings stands asked.left d w.place w.made.stands (not_freed w.place w.made.kept)

  uncoloured_here : (u : ℕ) (k : Key) (to : List ℕ) (from i : ℕ) → (row_of x.threads u).waits ≡ Uncoloured k to from → (thread_in g.ranks r u).wait ≡ Creating i → UncolouredFits after g.creations r u k to from i
  uncoloured_here u k to from i fw fp =
      let old = j.creations.uncoloured r u k to from i fw fp in
      uncoloured_same g.comms after r _ (same_here s ranks due g r c p j leavings stands asked.left) g.creations u k to from i (key_stands s ranks due g r c p j leavings stands asked.left u i k fp old.stands) old

  -- what the rank knows

  waits_here : (n i : ℕ) → FreeFits g.comms x.comms.rows x.comms.added r n i → FreeFits after known.rows known.added r n i
  waits_here n i h = go (i == p) refl
    where
      f : (comm_in after i).ctx ≡ (comm_in g.comms i).ctx
      f = (back_changed s ranks due g r c p j leavings stands asked.left).ctx i

      m : (comm_in after i).members ≡ (comm_in g.comms i).members
      m = (back_changed s ranks due g r c p j leavings stands asked.left).members i

      with : list_any (is_numbered n) known.rows ≡ not (has_rank (comm_in after i).returned r) → FreeFits after known.rows known.added r n i
      with gone =
          let l = (back_changed s ranks due g r c p j leavings stands asked.left).long in
          let li = h.inside in
          record { inside = omega (arith, l, li); member = rw m h.member; below = h.below; own = rw f (any_fewer (is_other n (comm_in g.comms i).ctx) (λ (z : CommRow). not (z.ctx == c)) x.comms.rows h.own); gone = gone }

      -- of another communicator
      elsewhere : i ≢ p → (b : Bool) → ((comm_in g.comms i).ctx == c) ≡ b → (v : Bool) → has_rank (comm_in g.comms i).returned r ≡ v → list_any (is_numbered n) known.rows ≡ not (has_rank (comm_in g.comms i).returned r)
      elsewhere ne false e v w = serial_stays x.comms.rows c (comm_in g.comms i).ctx n e h.own ∙ h.gone
      elsewhere ne true e true w =
          let none : list_any (is_numbered n) x.comms.rows ≡ false = h.gone ∙ (rw w refl) in
          any_fewer (is_numbered n) (λ (z : CommRow). not (z.ctx == c)) x.comms.rows none ∙ (rw w refl)
      elsewhere ne true e false w =
          let mem = h.member in
          let at = comm_of_live g.comms r i j.whole.apart h.inside (grind (arith, mem, w)) in
          let is : (comm_in g.comms i).ctx ≡ c = grind (arith, nat_tests, e) in
          let here : comm_of g.comms r c ≡ Some i = subst (λ (z : ℕ). comm_of g.comms r z ≡ Some i) is at in
          absurd (ne (cc (here, stands)))

      go : (b : Bool) → (i == p) ≡ b → FreeFits after known.rows known.added r n i
      go true e =
          let is : i ≡ p = grind (arith, nat_tests, e) in
          let ctx : (comm_in g.comms i).ctx ≡ c = ap (λ (z : ℕ). (comm_in g.comms z).ctx) is ∙ (comm_of_is g.comms r c p stands).context in
          let own : list_any (is_other n c) x.comms.rows ≡ false = subst (λ (z : ℕ). list_any (is_other n z) x.comms.rows ≡ false) ctx h.own in
          let row = it s ranks due g r c p j leavings stands asked.left in
          let back : has_rank (comm_in after i).returned r ≡ true = ap (λ (z : ℕ). has_rank (comm_in after z).returned r) is ∙ (ap (λ (z : reg.Communicator). has_rank z.returned r) row ∙ (has_rank-append (comm_in g.comms p).returned r r ∙ last (has_rank (comm_in g.comms p).returned r) (grind (arith, nat_tests)))) in
          with (serial_gone x.comms.rows c n own ∙ (rw back refl))
        where
          last : (v : Bool) → (r == r) ≡ true → (v || (r == r)) ≡ true
          last true e = refl
          last false e = e
      go false e =
          let ne : i ≢ p = grind (arith, nat_tests, e) in
          let same = other s ranks due g r c p j leavings stands asked.left i ne in
          with (elsewhere ne ((comm_in g.comms i).ctx == c) refl (has_rank (comm_in g.comms i).returned r) refl ∙ ap (λ (z : reg.Communicator). not (has_rank z.returned r)) (sym same))

  comms_here : CommsFit s.contexts after g.creations (get_or g.ranks r blank_part).threads r known.rows known.added x.agree.owner (due r) x.threads
  comms_here =
      record {
        each = λ d. each d (d == c) refl;
        range = λ d e. range d e (comm_of after r d) refl;
        freeing = λ u n i fw fp. waits_here n i ((j.comms r).freeing u n i fw fp);
        serials = λ n. (let t = tally-filter (is_numbered n) (λ (z : CommRow). not (z.ctx == c)) x.comms.rows in let o = (j.comms r).serials n in omega (arith, t, o));
      }
    where
      at : (d : ℕ) → d ≢ c → (o : Option CommRow) → (q : Option ℕ) → comm_of g.comms r d ≡ q → CommFits g.comms g.creations r x.agree.owner (due r) d o q → CommFits after g.creations r x.agree.owner (due r) d o q
      at d ne None None e h = tt
      at d ne (Some m) None e h = h
      at d ne None (Some q) e h = h
      at d ne (Some m) (Some q) e h = known_same g.comms after r _ (same_here s ranks due g r c p j leavings stands asked.left) g.creations m q (place_other s ranks due g r c p j leavings stands asked.left d q e ne) h

      each : (d : ℕ) (b : Bool) → (d == c) ≡ b → CommFits after g.creations r x.agree.owner (due r) d (row_in known.rows d) (comm_of after r d)
      each d true e =
          let is : d ≡ c = grind (arith, nat_tests, e) in
          let none = gone s ranks due g r c p j leavings stands asked.left in
          let none_d : comm_of after r d ≡ None = ap (λ (z : ℕ). comm_of after r z) is ∙ none in
          rw (row_removed x.comms.rows c d, e, none_d) tt
      each d false e =
          let ne : d ≢ c = grind (arith, nat_tests, e) in
          let same = others_stand s ranks due g r c p j leavings stands asked.left d ne in
          rw (row_kept d ne, same) (at d ne (row_in x.comms.rows d) (comm_of g.comms r d) refl ((j.comms r).each d))

      range : (d : ℕ) → is_some (comm_of after r d) ≡ true → (o : Option ℕ) → comm_of after r d ≡ o → (1 ≤ d) × (d ≤ s.contexts)
      range d e o eo = go (d == c) refl
        where
          go : (b : Bool) → (d == c) ≡ b → (1 ≤ d) × (d ≤ s.contexts)
          go true w =
              let is : c ≡ d = grind (arith, nat_tests, w) in
              subst (λ (z : ℕ). (1 ≤ z) × (z ≤ s.contexts)) is ((j.comms r).range c (rw stands refl))
          go false w =
              let ne : d ≢ c = grind (arith, nat_tests, w) in
              (j.comms r).range d (ap is_some (sym (others_stand s ranks due g r c p j leavings stands asked.left d ne)) ∙ e)

  back_joined : Joined s (set ranks r (gives_back x c).state) due (record g { comms = after; messages = drop_left g p r })
  unfolding gives_back give_back
  back_joined =
      let in_range = (j.comms r).range c (rw stands refl) in
      changed_joined s ranks due g r after (back_changed s ranks due g r c p j leavings stands asked.left) (drop_left g p r) x known (set x.agree.mask c true) (drop_ctx x.box c) j lt refl local_here (mask_fewer s.contexts x.agree.mask x.comms.rows c in_range.0 in_range.1 (j.masks r lt))
      creation_here uncoloured_here comms_here (back_apart s ranks due g r c p j leavings stands asked.left) (back_returned s ranks due g r c p j leavings stands asked.left) (back_under s ranks due g r c p j leavings stands asked.left)

  allowed : MayBack g r c (kept_on x.box c)
  allowed = record {
    between = between_calls s ranks due g j;
    place = p;
    here = stands;
    freed = each_member (has_rank (comm_at g p).freed) (comm_at g p).members (λ q m. (settled s ranks due g r c p j leavings stands asked.left q m).0);
    settled = no_member (has_open_under g p) (comm_at g p).members (λ q m. (settled s ranks due g r c p j leavings stands asked.left q m).1);
    complete = asked.complete;
    left = asked.dropped;
  }

  gives_goes : Goes s g (back_events r c (gives_back x c).dropped) (set ranks r (gives_back x c).state) due
  unfolding gives_back registry_next
  gives_goes = ((allowed, tt), rw stands back_joined)

-- the communicator that the rank gives back is there, and all is asked of it
pub back_goes : (s : Setting) (ranks : List Rank) (due : Dues) (g : Registry) (r c : ℕ) (j : Joined s ranks due g) → AllLeavings ranks → r < s.ranks → may_give_back (rank_in ranks r) c ≡ true → ((p : ℕ) → comm_of g.comms r c ≡ Some p → BackAsked ranks g r c p)
    → Goes s g (back_events r c (gives_back (rank_in ranks r) c).dropped) (set ranks r (gives_back (rank_in ranks r) c).state) due
unfolding all_marked
back_goes s ranks due g r c j leavings lt may asked = go (row_in (rank_in ranks r).comms.rows c) refl (comm_of g.comms r c) refl ((j.comms r).each c)
  where
    marked : all_marked_row (rank_in ranks r).comms (rank_in ranks r).rank (row_in (rank_in ranks r).comms.rows c) ≡ true
    marked = grind (arith, may)

    go : (o : Option CommRow) → row_in (rank_in ranks r).comms.rows c ≡ o → (i : Option ℕ) → comm_of g.comms r c ≡ i → CommFits g.comms g.creations r (rank_in ranks r).agree.owner (due r) c o i
        → Goes s g (back_events r c (gives_back (rank_in ranks r) c).dropped) (set ranks r (gives_back (rank_in ranks r) c).state) due
    go None e i q h = absurd (let m : all_marked_row (rank_in ranks r).comms (rank_in ranks r).rank (row_in (rank_in ranks r).comms.rows c) ≡ false = rw e refl in let y = marked in cc (m, y))
    go (Some m) e None q h = absurd h
    go (Some m) e (Some p) q h = gives_goes s ranks due g r c p j leavings lt q (asked p q)
