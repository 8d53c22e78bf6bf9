-- Markers are kept: by what is no news to them, by a delivery, by a message that is sent, by a pick.
use Rattle.std.proofs.Common.{◌≡◌, ◌≢◌, ◌<◌, ◌≤◌, ◌+◌, ◌==◌, ◌&&◌, ◌||◌, ℕ, Bool, true, false, List, [], ◌∷◌, ◌++◌, length, get_or, refl, sym, ap, ◌∙◌, subst, arith, if◌then◌else◌}
use Rattle.std.proofs.lemmas.Bool.Decides.{nat_tests}
use Rattle.mpi_base.specs.MemberLists.{has_rank}
use Rattle.mpi_base.specs.declared.messages.Msg.{Msg}
use Rattle.mpi_law.specs.Registry.State.{Registry, Communicator, blank_comm, comm_at}
use Rattle.comm_law.specs.Comms.{Comms, row_at, is_noted, note_marker}
use Rattle.mpi_protocol.specs.Packets as packet
use Rattle.mpi_protocol.specs.Packets.{Packet}
use Rattle.agree_law.proofs.Lists.{AllOf, AllOf-append, AllOf_each, one, tally, tally-append}
use Rattle.message_law.proofs.MarkerLists.{noted_more, not_noted, orderly-append, orderly-append_first}
use Rattle.message_law.proofs.Frames.{put, put_pair, Grows}
use Rattle.message_law.proofs.Topics.{OnLive, messages_on, is_marker, orderly, is_note, is_left_row, has_left, Belongs, MarkerFits, Markers}

-- a link without the packets of the agreement
abbrev pub proper_in : Packet → List Packet
proper_in (packet.Agreeing a) = []
proper_in (packet.Message m) = packet.Message m ∷ []
proper_in (packet.Marker c) = packet.Marker c ∷ []

abbrev pub proper : List Packet → List Packet
proper [] = []
proper (p ∷ ps) = proper_in p ++ proper ps

pub proper_messages : (ps : List Packet) → messages_on (proper ps) ≡ messages_on ps
proper_messages [] = refl
proper_messages (packet.Agreeing a ∷ ps) = proper_messages ps
proper_messages (packet.Message m ∷ ps) = ap (λ (ms : List Msg). m ∷ ms) (proper_messages ps)
proper_messages (packet.Marker c ∷ ps) = proper_messages ps

proper_tally : (c : ℕ) (ps : List Packet) → tally (is_marker c) (proper ps) ≡ tally (is_marker c) ps
proper_tally c [] = refl
proper_tally c (packet.Agreeing a ∷ ps) = let ih = proper_tally c ps in omega (arith, ih)
proper_tally c (packet.Message m ∷ ps) = let ih = proper_tally c ps in omega (arith, ih)
proper_tally c (packet.Marker d ∷ ps) = let ih = proper_tally c ps in omega (arith, ih)

proper_orderly : (c : ℕ) (seen : Bool) (ps : List Packet) → orderly c seen (proper ps) ≡ orderly c seen ps
proper_orderly c seen [] = refl
proper_orderly c seen (packet.Agreeing a ∷ ps) = let ih = proper_orderly c seen ps in grind (arith, ih)
proper_orderly c seen (packet.Message m ∷ ps) = let ih = proper_orderly c seen ps in grind (arith, ih)
proper_orderly c seen (packet.Marker d ∷ ps) = let ih = proper_orderly c (seen || is_marker c (packet.Marker d)) ps in grind (arith, ih)

proper_fits : (g : Registry) (q r : ℕ) (ps : List Packet) → AllOf (MarkerFits g q r) ps → AllOf (MarkerFits g q r) (proper ps)
proper_fits g q r [] h = tt
proper_fits g q r (packet.Agreeing a ∷ ps) h = proper_fits g q r ps h.1
proper_fits g q r (packet.Message m ∷ ps) h = (tt, proper_fits g q r ps h.1)
proper_fits g q r (packet.Marker c ∷ ps) h = (h.0, proper_fits g q r ps h.1)

fits_proper : (g : Registry) (q r : ℕ) (ps : List Packet) → AllOf (MarkerFits g q r) (proper ps) → AllOf (MarkerFits g q r) ps
fits_proper g q r [] h = tt
fits_proper g q r (packet.Agreeing a ∷ ps) h = (tt, fits_proper g q r ps h)
fits_proper g q r (packet.Message m ∷ ps) h = (tt, fits_proper g q r ps h.1)
fits_proper g q r (packet.Marker c ∷ ps) h = (h.0, fits_proper g q r ps h.1)

-- Ranks and links

-- the rows of two states of a rank tell the same of what is left, and the same markers are noted
pub record SameMarks (old new : Comms) : Type 0 where
  pub left : (d : ℕ) → is_left_row (row_at new d) ≡ is_left_row (row_at old d)
  pub noted : new.noted ≡ old.noted

pub markers_same : (n : ℕ) (g : Registry) (comms comms' : ℕ → Comms) (line line' : ℕ → ℕ → List Packet) → ((r : ℕ) → SameMarks (comms r) (comms' r)) → ((q r : ℕ) → q < n → r < n → proper (line' q r) ≡ proper (line q r))
    → Markers n g comms line → Markers n g comms' line'
markers_same n g comms comms' line line' rows lines h = record {
  one_each = λ p q r lq lr ne on i.
      let t : tally (is_marker (comm_at g p).ctx) (line' q r) ≡ tally (is_marker (comm_at g p).ctx) (line q r) = sym (proper_tally (comm_at g p).ctx (line' q r)) ∙ (ap (tally (is_marker (comm_at g p).ctx)) (lines q r lq lr) ∙ proper_tally (comm_at g p).ctx (line q r)) in
      rw (left q p, t, (rows r).noted) (h.one_each p q r lq lr ne on i);
  order = λ q r c lq lr. sym (proper_orderly c (is_noted (comms' r) c q) (line' q r)) ∙ rw (lines q r lq lr, (rows r).noted) (proper_orderly c (is_noted (comms r) c q) (line q r) ∙ h.order q r c lq lr);
  on_line = λ q r lq lr. fits_proper g q r (line' q r) (rw (lines q r lq lr) (proper_fits g q r (line q r) (h.on_line q r lq lr)));
  noted = λ r lr. rw (rows r).noted (h.noted r lr);
  gone = λ p q r l e i. left q p ∙ h.gone p q r l e i;
}
  where
    left : (q p : ℕ) → has_left g comms' q p ≡ has_left g comms q p
    left q p = let e = (rows q).left (comm_at g p).ctx in rw e refl

-- The registry: the same communicators, freed by more

pub record Steady (g new : Registry) : Type 0 where
  pub size : length new.comms ≡ length g.comms
  pub ctx : (p : ℕ) → (comm_at new p).ctx ≡ (comm_at g p).ctx
  pub members : (p : ℕ) → (comm_at new p).members ≡ (comm_at g p).members
  pub returned : (p : ℕ) → (comm_at new p).returned ≡ (comm_at g p).returned

-- the same communicators
pub same_comms : (g new : Registry) → new.comms ≡ g.comms → Steady g new
same_comms g new e = record {
  size = ap length e;
  ctx = λ p. ap (λ (ms : List Communicator). (get_or ms p blank_comm).ctx) e;
  members = λ p. ap (λ (ms : List Communicator). (get_or ms p blank_comm).members) e;
  returned = λ p. ap (λ (ms : List Communicator). (get_or ms p blank_comm).returned) e;
}

pub steady_grows : (g new : Registry) → Steady g new → Grows g new
steady_grows g new s = record { longer = λ p l. let e = s.size in omega (arith, e, l); ctx = λ p l. s.ctx p; members = λ p l. s.members p }

pub steady_live : (g new : Registry) (p r : ℕ) → Steady g new → OnLive g p r → OnLive new p r
steady_live g new p r s on = ((let e = s.size in let l = on.0 in omega (arith, e, l)), rw (s.members p, s.returned p) on.1)

pub markers_steady : (n : ℕ) (g new : Registry) (comms : ℕ → Comms) (line : ℕ → ℕ → List Packet) → Steady g new → Markers n g comms line → Markers n new comms line
markers_steady n g new comms line s h = record {
  one_each = λ p q r lq lr ne on i. rw (s.returned p, s.ctx p) (h.one_each p q r lq lr ne (back p r on) (rw (s.members p) at i));
  order = h.order;
  on_line = λ q r lq lr. AllOf_each (MarkerFits g q r) (MarkerFits new q r) (line q r) (fits q r) (h.on_line q r lq lr);
  noted = λ r lr. AllOf_each (λ k. Belongs g k.from r k.ctx) (λ k. Belongs new k.from r k.ctx) (comms r).noted (λ k b. belongs k.from r k.ctx b) (h.noted r lr);
  gone = λ p q r l e i. rw (s.returned p, s.ctx p) (h.gone p q r (let z = s.size in omega (arith, z, l)) (rw (s.returned p) at e) (rw (s.members p) at i));
}
  where
    back : (p r : ℕ) → OnLive new p r → OnLive g p r
    back p r on = ((let e = s.size in let l = on.0 in omega (arith, e, l)), let l = on.1 in rw (s.members p, s.returned p) at l)

    belongs : (q r c : ℕ) → Belongs g q r c → Belongs new q r c
    belongs q r c b = let on = steady_live g new b.place r s (b.there, b.live) in record { place = b.place; there = on.0; ctx = s.ctx b.place ∙ b.ctx; live = on.1; member = rw (s.members b.place) b.member; other = b.other }

    fits : (q r : ℕ) (x : Packet) → MarkerFits g q r x → MarkerFits new q r x
    fits q r (packet.Agreeing a) h = tt
    fits q r (packet.Message m) h = tt
    fits q r (packet.Marker c) h = belongs q r c h

-- A marker comes, and is noted

module _ (n : ℕ) (g : Registry) (comms : ℕ → Comms) (line : ℕ → ℕ → List Packet) (h : Markers n g comms line) where
  module _ (q r c : ℕ) (lq : q < n) (lr : r < n) (rest : List Packet) (head : line q r ≡ packet.Marker c ∷ rest) where
    its : Belongs g q r c
    its = (subst (λ (ps : List Packet). AllOf (MarkerFits g q r) ps) head (h.on_line q r lq lr)).0

    -- it is the first of its sender and its context
    pub marker_is_new : is_noted (comms r) c q ≡ false
    marker_is_new =
        let b = its in
        let e : one (has_left g comms q b.place) ≡ tally (is_marker c) (packet.Marker c ∷ rest) + tally (is_note c q) (comms r).noted = subst (λ (ps : List Packet). one (has_left g comms q b.place) ≡ tally (is_marker c) ps + tally (is_note c q) (comms r).noted) head (subst (λ (d : ℕ). one (has_left g comms q b.place) ≡ tally (is_marker d) (line q r) + tally (is_note d q) (comms r).noted) b.ctx (h.one_each b.place q r lq lr b.other (b.there, b.live) b.member)) in
        let it : one (is_marker c (packet.Marker c)) ≡ 1 = grind (arith, nat_tests) in
        let top : one (has_left g comms q b.place) ≤ 1 = small (has_left g comms q b.place) in
        not_noted (comms r).noted c q (omega (arith, e, it, top))
      where
        small : (b : Bool) → one b ≤ 1
        small true = omega arith
        small false = omega arith

    abbrev noted_comms : ℕ → Comms
    noted_comms = put r (note_marker (comms r) c q) comms

    abbrev taken_line : ℕ → ℕ → List Packet
    taken_line = put_pair q r rest line

    left_stays : (a p : ℕ) → has_left g noted_comms a p ≡ has_left g comms a p
    left_stays a p = go (a == r) refl
      where
        go : (b : Bool) → (a == r) ≡ b → (has_rank (comm_at g p).returned a || is_left_row (row_at (if b then note_marker (comms r) c q else comms a) (comm_at g p).ctx)) ≡ has_left g comms a p
        go true e = let is : a ≡ r = grind (arith, nat_tests, e) in rw is refl
        go false e = refl

    -- the notes and the markers on the way are as many as before
    counts : (d a b : ℕ) → tally (is_marker d) (taken_line a b) + tally (is_note d a) (noted_comms b).noted ≡ tally (is_marker d) (line a b) + tally (is_note d a) (comms b).noted
    counts d a b = go (a == q) refl (b == r) refl
      where
        go : (s : Bool) → (a == q) ≡ s → (t : Bool) → (b == r) ≡ t
            → tally (is_marker d) (if s && t then rest else line a b) + tally (is_note d a) (if t then note_marker (comms r) c q else comms b).noted ≡ tally (is_marker d) (line a b) + tally (is_note d a) (comms b).noted
        go true s true t =
            let is_a : a ≡ q = grind (arith, nat_tests, s) in
            let is_b : b ≡ r = grind (arith, nat_tests, t) in
            let more = tally-append (is_note d q) (comms r).noted (record { ctx = c; from = q } ∷ []) in
            let same : one (is_note d q (record { ctx = c; from = q })) ≡ one (is_marker d (packet.Marker c)) = grind (arith, nat_tests) in
            rw (is_a, is_b, head, more) (omega (arith, same))
        go false s true t =
            let is_b : b ≡ r = grind (arith, nat_tests, t) in
            let more = tally-append (is_note d a) (comms r).noted (record { ctx = c; from = q } ∷ []) in
            let none : one (is_note d a (record { ctx = c; from = q })) ≡ 0 = grind (arith, nat_tests, s) in
            rw (is_b, more) (omega (arith, none))
        go true s false t = refl
        go false s false t = refl

    in_order : (a b d : ℕ) → a < n → b < n → orderly d (is_noted (noted_comms b) d a) (taken_line a b) ≡ true
    in_order a b d la lb = go (a == q) refl (b == r) refl
      where
        go : (s : Bool) → (a == q) ≡ s → (t : Bool) → (b == r) ≡ t → orderly d (is_noted (if t then note_marker (comms r) c q else comms b) d a) (if s && t then rest else line a b) ≡ true
        go true s true t =
            let is_a : a ≡ q = grind (arith, nat_tests, s) in
            let is_b : b ≡ r = grind (arith, nat_tests, t) in
            let old : orderly d (is_noted (comms r) d q) (packet.Marker c ∷ rest) ≡ true = subst (λ (ps : List Packet). orderly d (is_noted (comms r) d q) ps ≡ true) head (h.order q r d lq lr) in
            let more = noted_more (comms r) c q d q in
            rw (is_a, more) (grind (arith, nat_tests, old))
        go false s true t =
            let is_b : b ≡ r = grind (arith, nat_tests, t) in
            let more = noted_more (comms r) c q d a in
            let old = h.order a r d la lr in
            rw (is_b, more) (grind (arith, nat_tests, old, s))
        go true s false t = h.order a b d la lb
        go false s false t = h.order a b d la lb

    pub marker_is_noted : Markers n g noted_comms taken_line
    marker_is_noted = record {
      one_each = λ p a b la lb ne on i. rw (left_stays a p, counts (comm_at g p).ctx a b) (h.one_each p a b la lb ne on i);
      order = in_order;
      on_line = λ a b la lb. lines a b la lb (a == q) refl (b == r) refl;
      noted = λ b lb. notes b lb (b == r) refl;
      gone = λ p a b l e i. left_stays a p ∙ h.gone p a b l e i;
    }
      where
        lines : (a b : ℕ) → a < n → b < n → (s : Bool) → (a == q) ≡ s → (t : Bool) → (b == r) ≡ t → AllOf (MarkerFits g a b) (if s && t then rest else line a b)
        lines a b la lb true s true t =
            let is_a : a ≡ q = grind (arith, nat_tests, s) in
            let is_b : b ≡ r = grind (arith, nat_tests, t) in
            rw (is_a, is_b) (subst (λ (ps : List Packet). AllOf (MarkerFits g q r) ps) head (h.on_line q r lq lr)).1
        lines a b la lb true s false t = h.on_line a b la lb
        lines a b la lb false s t k = h.on_line a b la lb

        notes : (b : ℕ) → b < n → (t : Bool) → (b == r) ≡ t → AllOf (λ k. Belongs g k.from b k.ctx) (if t then note_marker (comms r) c q else comms b).noted
        notes b lb true t =
            let is_b : b ≡ r = grind (arith, nat_tests, t) in
            rw is_b (AllOf-append (λ k. Belongs g k.from r k.ctx) (comms r).noted (record { ctx = c; from = q } ∷ []) (h.noted r lr) (its, tt))
        notes b lb false t = h.noted b lb

  -- A message is sent on a communicator that its sender has not left

  pub message_keeps_markers : (q r p : ℕ) → q < n → r < n → q ≢ r → OnLive g p r → has_rank (comm_at g p).members q ≡ true → has_left g comms q p ≡ false → (msg : Msg) → msg.ctx ≡ (comm_at g p).ctx
      → Markers n g comms (put_pair q r (line q r ++ packet.Message msg ∷ []) line)
  message_keeps_markers q r p lq lr ne on i stays msg e = record {
    one_each = λ d a b la lb k there j. rw (same (comm_at g d).ctx a b) (h.one_each d a b la lb k there j);
    order = λ a b c la lb. go a b c la lb (a == q) refl (b == r) refl;
    on_line = λ a b la lb. lines a b la lb (a == q) refl (b == r) refl;
    noted = h.noted;
    gone = h.gone;
  }
    where
      same : (c a b : ℕ) → tally (is_marker c) (put_pair q r (line q r ++ packet.Message msg ∷ []) line a b) ≡ tally (is_marker c) (line a b)
      same c a b = by (a == q) refl (b == r) refl
        where
          by : (s : Bool) → (a == q) ≡ s → (t : Bool) → (b == r) ≡ t → tally (is_marker c) (if s && t then line q r ++ packet.Message msg ∷ [] else line a b) ≡ tally (is_marker c) (line a b)
          by true s true t =
              let is_a : a ≡ q = grind (arith, nat_tests, s) in
              let is_b : b ≡ r = grind (arith, nat_tests, t) in
              let more = tally-append (is_marker c) (line q r) (packet.Message msg ∷ []) in
              rw (is_a, is_b, more) (omega arith)
          by true s false t = refl
          by false s t k = refl

      zero_there : tally (is_marker (comm_at g p).ctx) (line q r) + tally (is_note (comm_at g p).ctx q) (comms r).noted ≡ 0
      zero_there = sym (h.one_each p q r lq lr ne on i) ∙ rw stays refl

      go : (a b c : ℕ) → a < n → b < n → (s : Bool) → (a == q) ≡ s → (t : Bool) → (b == r) ≡ t → orderly c (is_noted (comms b) c a) (if s && t then line q r ++ packet.Message msg ∷ [] else line a b) ≡ true
      go a b c la lb true s false t = h.order a b c la lb
      go a b c la lb false s t k = h.order a b c la lb
      go a b c la lb true s true t =
          let is_a : a ≡ q = grind (arith, nat_tests, s) in
          let is_b : b ≡ r = grind (arith, nat_tests, t) in
          rw (is_a, is_b) (by (msg.ctx == c) refl)
        where
          by : (u : Bool) → (msg.ctx == c) ≡ u → orderly c (is_noted (comms r) c q) (line q r ++ packet.Message msg ∷ []) ≡ true
          by false u = orderly-append c (is_noted (comms r) c q) (line q r) (packet.Message msg) u (h.order q r c lq lr)
          by true u =
              let is_c : c ≡ (comm_at g p).ctx = grind (arith, nat_tests, u, e) in
              let z = zero_there in
              let none = not_noted (comms r).noted (comm_at g p).ctx q (omega (arith, z)) in
              rw (is_c, none) (orderly-append_first (comm_at g p).ctx (line q r) (packet.Message msg) (omega (arith, z)))

      lines : (a b : ℕ) → a < n → b < n → (s : Bool) → (a == q) ≡ s → (t : Bool) → (b == r) ≡ t → AllOf (MarkerFits g a b) (if s && t then line q r ++ packet.Message msg ∷ [] else line a b)
      lines a b la lb true s true t =
          let is_a : a ≡ q = grind (arith, nat_tests, s) in
          let is_b : b ≡ r = grind (arith, nat_tests, t) in
          rw (is_a, is_b) (AllOf-append (MarkerFits g q r) (line q r) (packet.Message msg ∷ []) (h.on_line q r lq lr) (tt, tt))
      lines a b la lb true s false t = h.on_line a b la lb
      lines a b la lb false s t k = h.on_line a b la lb

-- A message is taken off its link
pub message_comes_off : (n : ℕ) (g : Registry) (comms : ℕ → Comms) (line : ℕ → ℕ → List Packet) (q r : ℕ) (msg : Msg) (rest : List Packet) → line q r ≡ packet.Message msg ∷ rest → Markers n g comms line → Markers n g comms (put_pair q r rest line)
message_comes_off n g comms line q r msg rest head h = record {
  one_each = λ p a b la lb ne on i. rw (same (comm_at g p).ctx a b) (h.one_each p a b la lb ne on i);
  order = λ a b c la lb. go a b (λ ps. orderly c (is_noted (comms b) c a) ps ≡ true) (λ k. grind (arith, k)) (h.order a b c la lb) (a == q) refl (b == r) refl;
  on_line = λ a b la lb. go a b (λ ps. AllOf (MarkerFits g a b) ps) (λ k. k.1) (h.on_line a b la lb) (a == q) refl (b == r) refl;
  noted = h.noted;
  gone = h.gone;
}
  where
    go : (a b : ℕ) (P : List Packet → Type 0) → (P (packet.Message msg ∷ rest) → P rest) → P (line a b) → (s : Bool) → (a == q) ≡ s → (t : Bool) → (b == r) ≡ t → P (if s && t then rest else line a b)
    go a b P off h true s true t =
        let x : a ≡ q = grind (arith, nat_tests, s) in
        let y : b ≡ r = grind (arith, nat_tests, t) in
        let is : line a b ≡ packet.Message msg ∷ rest = rw (x, y) head in
        off (subst P is h)
    go a b P off h true s false t = h
    go a b P off h false s t k = h

    same : (c a b : ℕ) → tally (is_marker c) (put_pair q r rest line a b) ≡ tally (is_marker c) (line a b)
    same c a b = go a b (λ ps. tally (is_marker c) ps ≡ tally (is_marker c) (line a b)) (λ k. omega (arith, k)) refl (a == q) refl (b == r) refl
