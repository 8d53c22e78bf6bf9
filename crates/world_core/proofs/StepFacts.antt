-- A choice in a world of code.
use Rattle.std.proofs.Common.{◌≡◌, ℕ, ◌+◌, ◌-◌, ◌*◌, ◌^◌, ◌<◌, ◌≤◌, ◌&&◌, inl, inr, Bool, true, false, nat_lt, List, [], ◌∷◌, ◌++◌, length, map, get_or, set, slice_get, is_some, Option, Some, None, refl, sym, ap, subst, ◌∙◌, arith, length-append, length-set}
use Rattle.std.proofs.lemmas.Bool.{cases_eq, cases_lt}
use Rattle.std.proofs.lemmas.Bool.Decides.{nat_tests}
use Rattle.std.proofs.lemmas.List.{get_or-map, get_or-set_same, get_or-set_other, get_or_past, length-map, map-set}
use Rattle.std.specs.Option.{option_map}
use Rattle.link_net.specs.Net.{Net, link, room, popped, after_pop, HasRoom}
use Rattle.mpi_base.specs.declared.entries.Choice.{Choice}
use Rattle.mpi_base.specs.declared.entries.Act.{Act}
use Rattle.mpi_base.specs.declared.entries.Act.TheVariants.{Call, Answer, Deliver, Offer, Settle, Leave, Back}
use Rattle.mpi_base.specs.declared.entries.Entry.{Entry}
use Rattle.mpi_law.specs.declared.setting.Setting.{Setting}
use Rattle.mpi_protocol.specs.Moves.{Move}
use Rattle.and_reduce.specs.Rows as agree
use Rattle.mpi_protocol.specs.Packets as seen
use Rattle.mpi_protocol.specs.Packets.{agreeing}
use Rattle.mpi_protocol.specs.Rank.{Rank}
use Rattle.mpi_protocol.specs.Run.{end_of}
use Rattle.mpi_protocol.specs.Step.{step, is_enabled, entry_of}
use Rattle.mpi_protocol.specs.Stepping.{Steps}
use Rattle.mpi_protocol.specs.World.{World, blank, rank_at, head_for, has_packet, taken_off, put_on, move_of, may_happen, moved, entry_at}
use Rattle.rank_law.specs.Counts.{CountsWithin}
use Rattle.rank_core.specs.declared.packets.Packet.{Packet}
use Rattle.rank_core.specs.Held.{Held as RankHeld, CountsAreLow, Makes, MOST_SENT}
use Rattle.rank_core.specs.Packets.{Box, sent_by, sent_of, packet_of}
use Rattle.world_core.specs.Held.{IsRankOf, IsWorld}
use Rattle.world_core.specs.Posted.{links_of, world_of, head_on, after_act, HasHead, IsPosted}
use Rattle.world_core.proofs.LinkFacts.{head_for_is, head_is, taken_off_is}
use Rattle.world_core.proofs.RunFacts.{RunsFrom-snoc, world_after-snoc}

both_true : (a b : Bool) → (a && b) ≡ true → (a ≡ true) × (b ≡ true)
both_true true b e = (refl, e)
both_true false b e = absurd (cc (e))

some_of : {A B : Type 0} (f : A → B) (o : Option A) → is_some (option_map f o) ≡ true → is_some o ≡ true
some_of f None e = e
some_of f (Some a) e = refl

-- the links keep how many ranks there are
pub popped_ranks : {T : Type 0} (n : Net T) (from to : ℕ) → (popped n from to).ranks ≡ n.ranks
popped_ranks n from to = go (link n from to)
  where
    go : (items : List _) → (after_pop n from to items).ranks ≡ n.ranks
    go [] = refl
    go (item ∷ items) = refl

-- a pop takes no room
pub popped_room : {T : Type 0} (n : Net T) (from to place : ℕ) → get_or n.rooms place 0 ≤ get_or (popped n from to).rooms place 0
popped_room n from to place = go (link n from to)
  where
    more : (k : ℕ) → get_or n.rooms place 0 ≤ get_or (set n.rooms k (get_or n.rooms k 0 + 1)) place 0
    more k = elim (cases_eq place k) [
      | inr apart ↦ omega (arith, get_or-set_other n.rooms k place (get_or n.rooms k 0 + 1) 0 apart)
      | inl same ↦ elim (cases_lt k (length n.rooms)) [
        | inl lt ↦ rw same (omega (arith, get_or-set_same n.rooms k (get_or n.rooms k 0 + 1) 0 lt))
        | inr past ↦ rw same (omega (arith, get_or_past n.rooms k 0 past))
      ]
    ]

    go : (items : List _) → get_or n.rooms place 0 ≤ get_or (after_pop n from to items).rooms place 0
    go [] = omega arith
    go (item ∷ items) = more (n.ranks * from + to)

after_act_room : {w : ℕ} (n : Net (Packet w)) (r : ℕ) (act : Act) (place : ℕ) → get_or n.rooms place 0 ≤ get_or (after_act n r act).rooms place 0
after_act_room n r (Call t op) place = omega arith
after_act_room n r (Answer t) place = omega arith
after_act_room n r (Deliver from) place = popped_room n from r place
after_act_room n r (Offer key) place = omega arith
after_act_room n r (Settle key) place = omega arith
after_act_room n r (Leave c) place = omega arith
after_act_room n r (Back c) place = omega arith

-- how many packets there are does not depend on the contexts
count_sent : {w : ℕ} (top : ℕ) (b : Box w) → length (sent_by top b) ≡ length b.agreed + length b.others
count_sent top b =
    let seen_sent : length (agreeing (map (agree.sent_of top) b.agreed)) ≡ length (map (agree.sent_of top) b.agreed) = length-map (map (agree.sent_of top) b.agreed) _ in
    omega (arith, length-append (agreeing (map (agree.sent_of top) b.agreed)) (map (sent_of top) b.others), seen_sent, length-map b.agreed (agree.sent_of top), length-map b.others (sent_of top))

pub after_act_ranks : {w : ℕ} (n : Net (Packet w)) (r : ℕ) (act : Act) → (after_act n r act).ranks ≡ n.ranks
after_act_ranks n r (Call t op) = refl
after_act_ranks n r (Answer t) = refl
after_act_ranks n r (Deliver from) = popped_ranks n from r
after_act_ranks n r (Offer key) = refl
after_act_ranks n r (Settle key) = refl
after_act_ranks n r (Leave c) = refl
after_act_ranks n r (Back c) = refl

module _ {words : ℕ} (s : Setting) (states : List RankHeld) (n : Net (Packet words)) (es : List Entry)
    (is : IsWorld words s (world_of s states n) es states) (net : n.ranks ≡ s.ranks)
    (c : Choice) (old : RankHeld) (at : old ≡ get_or states c.rank old) (may : may_happen (world_of s states n) c ≡ true) where
  abbrev v : World
  v = world_of s states n

  size_of : length v.ranks ≡ n.ranks
  size_of = length-map states (λ x. x.state) ∙ is.size ∙ sym net

  tests : (nat_lt c.rank (length v.ranks) ≡ true) × ((has_packet v c.rank c.act && is_enabled (rank_at v c.rank) c.act) ≡ true)
  tests = both_true (nat_lt c.rank (length v.ranks)) (has_packet v c.rank c.act && is_enabled (rank_at v c.rank) c.act) may

  more_tests : (has_packet v c.rank c.act ≡ true) × (is_enabled (rank_at v c.rank) c.act ≡ true)
  more_tests = both_true (has_packet v c.rank c.act) (is_enabled (rank_at v c.rank) c.act) tests.1

  pub below : c.rank < s.ranks
  below = let lt = tests.0 in let size = size_of in grind (arith, nat_tests, lt, size, net)

  rank_there : rank_at v c.rank ≡ old.state
  rank_there = get_or-map (λ (x : RankHeld). x.state) states c.rank old blank (omega (arith, below, is.size)) ∙ ap (λ (x : RankHeld). x.state) (sym at)

  pub rank_is : IsRankOf s c.rank (length es) old
  rank_is = subst (λ x. IsRankOf s c.rank (length es) x) (sym at) (is.ranks c.rank old below)

  pub enabled_is : is_enabled old.state c.act ≡ true
  enabled_is = subst (λ x. is_enabled x c.act ≡ true) rank_there more_tests.1

  pub counts_are_low : length es < 2 ^ 64 - 1 → ((n m : ℕ) (x : Rank) → CountsWithin n x → n ≤ m → CountsWithin m x) → CountsAreLow old
  counts_are_low few rise = record {
    state = rise (length es) (2 ^ 64 - 2) old.state rank_is.counts (omega (arith, few));
    boxed = omega (arith, few, rank_is.boxed);
  }

  pub head_there : HasHead n old.state.rank c.act
  head_there = subst (λ r. HasHead n r c.act) (sym rank_is.rank) (go c.act more_tests.0)
    where
      go : (act : Act) → has_packet v c.rank act ≡ true → HasHead n c.rank act
      go (Call t op) e = tt
      go (Answer t) e = tt
      go (Deliver from) e =
          let both = both_true (nat_lt from (length v.ranks)) (is_some (slice_get (get_or v.links (length v.ranks * from + c.rank) []) 0)) e in
          let lt = both.0 in
          let size = size_of in (
            grind (arith, nat_tests, lt, size),
            omega (arith, below, net),
            some_of (packet_of s.contexts) (slice_get (link n from c.rank) 0) (subst (λ o. is_some o ≡ true) (head_is s.contexts n v refl size_of from c.rank) both.1),
          )
      go (Offer key) e = tt
      go (Settle key) e = tt
      go (Leave ctx) e = tt
      go (Back ctx) e = tt

  pub has_step : 1 ≤ get_or (map (λ (x : RankHeld). x.spare) states) c.rank 0 → 1 ≤ old.spare
  has_step room =
      omega (arith, room, get_or-map (λ (x : RankHeld). x.spare) states c.rank old 0 (omega (arith, below, is.size)), ap (λ (x : RankHeld). x.spare) at)

  abbrev head : Option seen.Packet
  head = head_on s.contexts n c.rank c.act

  pub move_is : move_of v c ≡ step old.state c.act head
  move_is = ap (λ o. step (rank_at v c.rank) c.act o) (head_for_is s.contexts n v refl size_of c.rank c.act) ∙ ap (λ x. step x c.act head) rank_there

  module _ (new : RankHeld) (line : Entry) (out : Box words) (made : Makes old c.act (head_on old.state.setting.contexts n old.state.rank c.act) new line out) where
    pub fits : ((to : ℕ) → to < s.ranks → MOST_SENT ≤ get_or n.rooms (s.ranks * c.rank + to) 0) → HasRoom (after_act n old.state.rank c.act) c.rank (length (sent_by 0 out))
    fits room to lt =
        let ranks = after_act_ranks n old.state.rank c.act in
        let place : (after_act n old.state.rank c.act).ranks * c.rank + to ≡ s.ranks * c.rank + to = ap (λ k. k * c.rank + to) (ranks ∙ net) in
        subst (λ k. length (sent_by 0 out) ≤ get_or (after_act n old.state.rank c.act).rooms k 0) (sym place)
        (omega (
          arith,
          room to (omega (arith, lt, ranks, net)),
          after_act_room n old.state.rank c.act (s.ranks * c.rank + to),
          made.few,
          count_sent 0 out,
          count_sent old.state.setting.contexts out,
        ))

  module _ (new : RankHeld) (line : Entry) (out : Box words) (made : Makes old c.act (head_on old.state.setting.contexts n old.state.rank c.act) new line out)
      (after : Net (Packet words)) (posted : IsPosted (after_act n old.state.rank c.act) c.rank out after) where
    steps : Steps old.state c.act head new.state line (sent_by s.contexts out)
    steps =
        subst (λ (r : ℕ). Steps old.state c.act (head_on s.contexts n r c.act) new.state line (sent_by s.contexts out)) rank_is.rank
        (subst (λ (z : Setting). Steps old.state c.act (head_on z.contexts n old.state.rank c.act) new.state line (sent_by z.contexts out)) rank_is.setting made.step)

    pub line_is : line ≡ entry_at v c
    line_is =
        steps.entry
        ∙ ap (λ m. entry_of old.state c.act head m) (sym move_is)
        ∙ ap (λ o. entry_of old.state c.act o (move_of v c)) (sym (head_for_is s.contexts n v refl size_of c.rank c.act))
        ∙ ap (λ x. entry_of x c.act (head_for v c.rank c.act) (move_of v c)) (sym rank_there)

    pub choice_is : line.choice ≡ c
    choice_is = ap (λ (e : Entry). e.choice) steps.entry ∙ ap (λ r. record { rank = r; act = c.act }) rank_is.rank

    abbrev ranks_after : List Rank
    ranks_after = set v.ranks c.rank new.state

    posted_there : put_on (record { ranks = ranks_after; links = links_of s.contexts (after_act n c.rank c.act) }) c.rank (sent_by s.contexts out)
        ≡ record { ranks = ranks_after; links = links_of s.contexts after }
    posted_there =
        subst (λ r. IsPosted (after_act n r c.act) c.rank out after) rank_is.rank posted s.contexts
        (record { ranks = ranks_after; links = links_of s.contexts (after_act n c.rank c.act) }) refl
        (length-set v.ranks c.rank new.state ∙ size_of ∙ sym (after_act_ranks n c.rank c.act))

    pub moved_is : world_of s (set states c.rank new) after ≡ moved v c
    moved_is =
        sym (
        ap (λ (m : Move). put_on (record (taken_off v c.rank c.act) { ranks = set v.ranks c.rank m.state }) c.rank m.sent) move_is
        ∙ ap (λ (u : World). put_on (record u { ranks = set v.ranks c.rank (step old.state c.act head).state }) c.rank (step old.state c.act head).sent) (taken_off_is s.contexts n v refl size_of c.rank c.act)
        ∙ ap (λ x. put_on (record { ranks = set v.ranks c.rank x; links = links_of s.contexts (after_act n c.rank c.act) }) c.rank (step old.state c.act head).sent) (sym steps.state)
        ∙ ap (λ sent. put_on (record { ranks = ranks_after; links = links_of s.contexts (after_act n c.rank c.act) }) c.rank sent) (sym steps.packets)
        ∙ posted_there
        ∙ ap (λ ranks. record { ranks = ranks; links = links_of s.contexts after }) (sym (map-set (λ (x : RankHeld). x.state) states c.rank new))
        )

    module _ (raised : (n : ℕ) (x : Rank) (act : Act) (p : Option seen.Packet) → CountsWithin n x → CountsWithin (n + 1) (step x act p).state)
        (rise : (n m : ℕ) (x : Rank) → CountsWithin n x → n ≤ m → CountsWithin m x) where
      one_more : length (es ++ line ∷ []) ≡ length es + 1
      one_more = length-append es (line ∷ [])

      new_is : IsRankOf s c.rank (length es + 1) new
      new_is = record {
        rank = made.rank ∙ rank_is.rank;
        setting = made.setting ∙ rank_is.setting;
        counts = subst (λ x. CountsWithin (length es + 1) x) (sym steps.state) (raised (length es) old.state c.act head rank_is.counts);
        boxed = omega (arith, made.boxed, rank_is.boxed);
      }

      older : (r : ℕ) (x : RankHeld) → IsRankOf s r (length es) x → IsRankOf s r (length es + 1) x
      older r x old_is = record {
        rank = old_is.rank;
        setting = old_is.setting;
        counts = rise (length es) (length es + 1) x.state old_is.counts (omega arith);
        boxed = omega (arith, old_is.boxed);
      }

      each : (r : ℕ) (x : RankHeld) → r < s.ranks → IsRankOf s r (length es + 1) (get_or (set states c.rank new) r x)
      each r x lt = elim (cases_eq r c.rank) [
        | inl same ↦ rw same (subst (λ y. IsRankOf s c.rank (length es + 1) y) (sym (get_or-set_same states c.rank new x (omega (arith, below, is.size)))) new_is)
        | inr apart ↦ subst (λ y. IsRankOf s r (length es + 1) y) (sym (get_or-set_other states c.rank r new x apart)) (older r (get_or states r x) (is.ranks r x lt))
      ]

      may_at_end : may_happen (end_of s es) c ≡ true
      may_at_end = subst (λ u. may_happen u c ≡ true) is.end may

      pub world_after_step : IsWorld words s (world_of s (set states c.rank new) after) (es ++ line ∷ []) (set states c.rank new)
      world_after_step = record {
        setting = is.setting;
        places = is.places;
        size = length-set states c.rank new ∙ is.size;
        ranks = λ r x lt. subst (λ k. IsRankOf s r k (get_or (set states c.rank new) r x)) (sym one_more) (each r x lt);
        run = RunsFrom-snoc _ es line c is.run may_at_end (subst (λ u. line ≡ entry_at u c) is.end line_is) choice_is;
        end = moved_is ∙ ap (λ u. moved u c) is.end ∙ sym (world_after-snoc _ es line ∙ ap (λ z. moved (end_of s es) z) choice_is);
      }
