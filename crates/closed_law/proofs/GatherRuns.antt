-- The topic of exchanges holds at the end of every protocol run. So where nothing is under way, no rank goes on sharing for a split
-- that all have called: the share of each caller is pending, and the first member would settle.
use Rattle.std.proofs.Common.{◌≡◌, ◌<◌, ◌==◌, ◌++◌, ℕ, zero, suc, true, false, List, [], ◌∷◌, length, get_or, replicate, Option, Some, None, refl, sym, ap, ◌∙◌, subst, arith}
use Rattle.std.specs.Option.{is_some, is_none}
use Rattle.std.proofs.lemmas.List.{append_assoc, append-nil}
use Rattle.std.proofs.lemmas.Bool.Decides.{nat_tests}
use Rattle.mpi_base.specs.declared.keys.Key.{Key}
use Rattle.mpi_base.specs.declared.shares.Shared1.{Shared1}
use Rattle.mpi_base.specs.declared.entries.Entry.{Entry}
use Rattle.mpi_base.specs.MemberLists.{has_rank}
use Rattle.mpi_law.specs.declared.setting.Setting.{Setting}
use Rattle.mpi_law.specs.Registry.State.{Registry, Creating, registry_opening, creation_at, idle_thread, blank_part}
use Rattle.mpi_law.specs.Registry.Creations.{has_called, all_called}
use Rattle.mpi_law.specs.Registry.Runs.{registry_after}
use Rattle.agree_law.specs.Tree.{place_in, member_at}
use Rattle.agree_law.specs.Part.{Agree, stage_of}
use Rattle.agree_law.specs.Packets as agree
use Rattle.agree_law.specs.World as agreement
use Rattle.agree_law.specs.World.{Event, Flight, is_key_of, run}
use Rattle.agree_law.proofs.Lists.{one, tally}
use Rattle.agree_law.proofs.TreeFacts.{member_place, place_member, same_member, place_of_member}
use Rattle.agree_law.proofs.Links.{of_links}
use Rattle.share_law.specs.Facts as share
use Rattle.share_law.proofs.ShareKept.{Ray, ShareFlies, shares_to}
use Rattle.share_law.proofs.ShareLaw.{distinct_members}
use Rattle.share_law.proofs.Foreign.{said_at, ShareHolds}
use Rattle.share_law.proofs.Exchanges.{Exchanges}
use Rattle.mpi_protocol.specs.World.{World, opening, rank_at, moved, entry_at}
use Rattle.mpi_protocol.specs.Run.{RunsFrom, IsProtocolRun, world_after, end_of, entry_events, events_of}
use Rattle.mpi_protocol.specs.Projection.{agreements, flights_on}
use Rattle.projection_law.specs.Premises.{SetsAreOfRanks}
use Rattle.projection_law.specs.Events.{events_at, agreement_events}
use Rattle.projection_law.proofs.Projected.{same_part}
use Rattle.projection_law.proofs.Runs.{run-append, ruled}
use Rattle.due_law.specs.Dues.{Dues, none_due}
use Rattle.due_law.specs.Runs.{dues_chosen}
use Rattle.message_law.proofs.RegistryCalls.{registry_after-append}
use Rattle.registry_law.specs.Facts.{registry_of}
use Rattle.registry_law.proofs.Together.{Together, together_opening}
use Rattle.registry_law.proofs.Steps.{step_goes}
use Rattle.wayout_law.specs.Facts.{IsAtRest}
use Rattle.wayout_law.proofs.Agreements.{key_on_link}
use Rattle.closed_law.proofs.Lists.{member_at as member_holds}
use Rattle.closed_law.proofs.Asked.{Asked}
use Rattle.closed_law.proofs.AskedRuns.{asked_run, asked_at_opening}
use Rattle.closed_law.proofs.Creations.{NoneShares, blank_waits}
use Rattle.closed_law.proofs.Pending.{pending, one_of, told_to}
use Rattle.closed_law.proofs.Gathering.{InExchange, pending_of, Gathering, agreed, parts_are, fits, good, member_rank, group_is, pending_or_told}
use Rattle.closed_law.proofs.GatherSteps.{gathers_on}

module _ (s : Setting) (sets : SetsAreOfRanks s) where
  gathers_run : (w : World) (es : List Event) (due : Dues) (g : Registry) (journal : List Entry) → Together s w es due g → Asked s g → Gathering w (agreed s es) g → RunsFrom w journal → Gathering (world_after w journal) (agreed s (es ++ agreement_events w journal)) (registry_after s g (events_of journal))
  gathers_run w es due g [] z asked old runs = subst (λ (xs : List Event). Gathering w (agreed s xs) g) (sym (append-nil es)) old
  gathers_run w es due g (e ∷ rest) z asked old runs =
      let may = runs.0 in
      let lr : e.choice.rank < length w.ranks = grind (arith, nat_tests, may) in
      let events : entry_events e ≡ entry_events (entry_at w e.choice) = ap entry_events runs.1 in
      let step = step_goes s sets w es due g z e.choice runs.0 in
      let then_g = registry_after s g (entry_events e) in
      let then_es = es ++ events_at w e.choice.rank e.choice.act in
      let together : Together s (moved w e.choice) then_es (dues_chosen w due e.choice) then_g = rw events step.together in
      let then_asked : Asked s then_g = rw events (asked_run s g (entry_events (entry_at w e.choice)) step.allowed asked) in
      let on = gathers_on s sets w es due g z asked old e.choice.rank lr e.choice.act runs.0 in
      let kept : Gathering (moved w e.choice) (agreed s then_es) then_g = rw (events, run-append s.contexts es (events_at w e.choice.rank e.choice.act) (agreement.opening s.ranks s.contexts)) on in
      let all = gathers_run (moved w e.choice) then_es (dues_chosen w due e.choice) then_g rest together then_asked kept runs.2 in
      rw (registry_after-append s g (entry_events e) (events_of rest))
      (subst (λ (xs : List Event). Gathering (world_after (moved w e.choice) rest) (agreed s xs) (registry_after s then_g (events_of rest))) (append_assoc es (events_at w e.choice.rank e.choice.act) (agreement_events (moved w e.choice) rest)) all)

  -- from the opening on: nobody waits there
  pub gathers_at_end : (journal : List Entry) → IsProtocolRun s journal → Gathering (end_of s journal) (agreed s (agreement_events (opening s) journal)) (registry_of s journal)
  gathers_at_end journal runs = gathers_run (opening s) [] none_due (registry_opening s) journal (together_opening s) (asked_at_opening s) none runs
    where
      nobody : (k r t n : ℕ) → (get_or (get_or (replicate k blank_part) r blank_part).threads t idle_thread).wait ≡ Creating n → ⊥
      nobody zero r t n e = blank_waits t n e
      nobody (suc k) zero t n e = blank_waits t n e
      nobody (suc k) (suc r) t n e = nobody k r t n e

      none : Gathering (opening s) (agreed s []) (registry_opening s)
      none n r t key h = absurd (nobody s.ranks r t n h.part_waits)

-- Where nothing is under way

module _ (s : Setting) (w : World) (es : List Event) (due : Dues) (g : Registry) (z : Together s w es due g) (gathering : Gathering w (agreed s es) g) (rest : IsAtRest w) (n r t : ℕ) (key : Key) (h : InExchange w g n r t key) where
  abbrev a : agreement.World
  a = agreed s es

  exchange_here : share.is_exchange (length a.parts) key ≡ true
  exchange_here = let size = parts_are s w es due g z in rw size (good s w es due g z n r t key h)

  holds : ShareHolds a.parts a.links key
  unfolding Exchanges
  holds = (ruled s es).exchanges key exchange_here

  a_rank : (p : ℕ) → p < length key.members → member_at key.members p < length w.ranks
  a_rank p lp = let k = member_rank s w es due g z n r t key h (member_at key.members p) (place_member key.members p lp) in let size = z.joined.sizes.ranks_are in omega (arith, k, size)

  -- no packet of the exchange is on its way
  no_flights : of_links a.links key ≡ []
  no_flights = go (of_links a.links key) refl holds
    where
      nothing : (p q : ℕ) → p < length key.members → q < length key.members → (p == q) ≡ false → flights_on a.links (member_at key.members p) (member_at key.members q) ≡ []
      nothing p q lp lq ne =
          let far : (member_at key.members p == member_at key.members q) ≡ false = same_member key.members p q (distinct_members (length a.parts) key exchange_here) lp lq ∙ ne in
          z.follows.projected.projects.links (member_at key.members p) (member_at key.members q) (a_rank p lp) (a_rank q lq) ∙ ap agreements (rest.empty (member_at key.members p) (member_at key.members q) (a_rank p lp) (a_rank q lq) far)

      up : (p from to : ℕ) → Ray (length key.members) (member_at key.members) p from to → flights_on a.links from to ≡ []
      up p from to ray = let above = ray.above in let inside = ray.inside in rw (ray.low, ray.high) (nothing p 0 inside (omega (arith, above, inside)) (grind (arith, nat_tests, above)))

      down : (p from to : ℕ) → Ray (length key.members) (member_at key.members) p to from → flights_on a.links from to ≡ []
      down p from to ray = let above = ray.above in let inside = ray.inside in rw (ray.low, ray.high) (nothing 0 p (omega (arith, above, inside)) inside (grind (arith, nat_tests, above)))

      link_of : (from to : ℕ) (p : agree.Packet) → ShareFlies (length key.members) (member_at key.members) (said_at a.parts key) from to p → flights_on a.links from to ≡ []
      link_of from to (agree.Up k i own mask) f = absurd f
      link_of from to (agree.Down k i v) f = absurd f
      link_of from to (agree.Share k y) f = up f.0 from to f.1
      link_of from to (agree.Shares k ys) f = down f.0 from to f.1

      go : (fs : List Flight) → of_links a.links key ≡ fs → ShareHolds a.parts a.links key → of_links a.links key ≡ []
      go [] e k = e
      go (f ∷ fs) e k = absurd (key_on_link a.links key f fs e (link_of f.from f.to f.packet (rw e at k).flown.0))

  none_told : (p : ℕ) → told_to a key p ≡ 0
  none_told p = ap (tally (shares_to (member_at key.members p))) no_flights

  -- so the share of each caller is gathered, and each shares
  module _ (all : all_called (creation_at g n) ≡ true) where
    each_pending : (q : ℕ) → has_rank key.members q ≡ true → pending_of a key q ≡ 1
    each_pending q m =
        let sum = pending_or_told s w es due g z n r t key h in
        let told = none_told (place_in key.members r) in
        let group = group_is s w es due g z n r t key h in
        let called = member_holds (has_called (creation_at g n)) (creation_at g n).group q all (rw group m) in
        (gathering n r t key h).alike (omega (arith, sum, told)) q m called

    each_shares : (p : ℕ) → p < length key.members → is_some (share.sharing_of (stage_of (rank_at w (member_at key.members p)).agree.opened key)) ≡ true
    each_shares p lp =
        let place = place_of_member key.members p (distinct_members (length a.parts) key exchange_here) lp in
        let pends : pending a key p ≡ 1 = subst (λ (i : ℕ). pending a key i ≡ 1) place (each_pending (member_at key.members p) (place_member key.members p lp)) in
        let sum = one_of a key p lp holds in
        let here = ap (λ (y : Agree). is_some (share.sharing_of (stage_of y.opened key))) (same_part w a (member_at key.members p) z.follows.projected.projects (a_rank p lp)) in
        sym here ∙ said (said_at a.parts key p) (omega (arith, pends, sum))
      where
        said : (o : Option Shared1) → one (is_none o) ≡ 0 → is_some o ≡ true
        said None e = absurd (omega (arith, e))
        said (Some y) e = refl

    pub no_longer : ⊥
    no_longer =
        let place = member_place key.members r (fits s w es due g z n r t key h).member in
        let inside = place.0 in
        let size = z.joined.sizes.ranks_are in
        rest.shared key (rw size (good s w es due g z n r t key h)) (omega (arith, inside)) each_shares

pub none_shares : (s : Setting) (w : World) (es : List Event) (due : Dues) (g : Registry) → Together s w es due g → Gathering w (agreed s es) g → IsAtRest w → (n : ℕ) → NoneShares w g n
none_shares s w es due g z gathering rest n r t key target session lr ea eb k all =
    no_longer s w es due g z gathering rest n r t key (record { inside = lr; target = target; session = session; waits = ea; part_waits = eb; exchange = k }) all
