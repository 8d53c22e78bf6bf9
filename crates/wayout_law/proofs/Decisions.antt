-- Offers, settles and packets of the agreement, at a rank.
use Rattle.std.proofs.Common.{◌≡◌, ◌≤◌, ◌+◌, ◌*◌, ◌==◌, ℕ, Bool, true, false, List, [], ◌∷◌, Option, Some, None, refl, arith}
use Rattle.std.specs.Prelude.{if◌then◌else◌}
use Rattle.std.proofs.lemmas.Bool.Decides.{nat_tests}
use Rattle.mpi_base.specs.declared.keys.Key.{Key}
use Rattle.mpi_law.specs.ScriptLists.{AllScripts}
use Rattle.mpi_base.specs.declared.shares.Shared1.{Shared1}
use Rattle.agree_law.specs.declared.rows.Stage.{Stage}
use Rattle.agree_law.specs.declared.rows.Stage.TheVariants.{Sharing, Called, Waiting, Offered, Done}
use Rattle.agree_law.specs.declared.rows.Verdict.{Verdict}
use Rattle.agree_law.specs.declared.rows.Verdict.TheVariants.{Ready, Retry, Context, Exhausted}
use Rattle.agree_law.specs.Tree.{place_in, is_first}
use Rattle.agree_law.specs.Part.{Offer, Agree, stage_of, round_of, drop_shares}
use Rattle.agree_law.specs.Packets.{Up, Down, Share, Shares, Moved}
use Rattle.agree_law.specs.Kinds.{is_share}
use Rattle.agree_law.specs.Gather.{has_offer, is_ready}
use Rattle.agree_law.specs.Offers.{is_due, may_offer, takes_up}
use Rattle.agree_law.specs.Verdicts.{awaits, awaits_ready, awaits_round, takes_down, take_down, settle_offers, decide}
use Rattle.agree_law.specs.Shares.{takes_share, take_share, put_share, takes_shares, take_shares, share_list, settle_share}
use Rattle.agree_law.specs.Moves.{settle, may_settle, deliver}
use Rattle.agree_law.proofs.TreeFacts.{first_place}
use Rattle.comm_law.specs.declared.rows.CommStage.TheVariants.{Live}
use Rattle.mpi_protocol.specs.Packets as protocol
use Rattle.mpi_protocol.specs.Packets.{agreeing}
use Rattle.mpi_protocol.specs.Rank.{Rank, session_of}
use Rattle.mpi_protocol.specs.Agreeing.{agreed, with_verdict, offers, settles, settles_as, verdict_at}
use Rattle.mpi_protocol.specs.Delivers.{taken}
use Rattle.wayout_law.specs.Potential.{More, comm_cost, stage_cost, agree_cost}
use Rattle.wayout_law.proofs.Sums.{sum_of-append}
use Rattle.wayout_law.proofs.Bound.{FewMore}
use Rattle.wayout_law.proofs.Rows.{OneEach}
use Rattle.wayout_law.proofs.AgreeSpends.{agreeing_cost, offer-cost, is_told, up-cost, verdict_cost, Falls, decide-sends, decide-cost}
use Rattle.wayout_law.proofs.Shares.{shares-cost, shares_out-cost, settle_share-cost}
use Rattle.wayout_law.proofs.Worlds.{Spends}

-- where a rank's own offer is gathered, it has called, or offered in the round of its gather
abbrev pub told_in : Option Stage → ℕ → Bool
told_in None g = false
told_in (Some (Sharing s)) g = false
told_in (Some Called) g = g == 0
told_in (Some (Waiting i)) g = false
told_in (Some (Offered i own)) g = g == i
told_in (Some (Done o)) g = false

abbrev pub OwnAreTold : ℕ → Agree → Type 0
OwnAreTold r a = (key : Key) → has_offer a.gathered key (place_in key.members r) ≡ true → told_in (stage_of a.opened key) (round_of a.rounds key) ≡ true

told_is : (s : Option Stage) (g : ℕ) → told_in s g ≡ true → is_told s ≡ true
told_is (Some Called) g e = refl
told_is (Some (Offered i own)) g e = refl
told_is s g e = absurd (cc)

-- a stage in which a verdict of the round is due
abbrev Dear : ℕ → More → List Offer → ℕ → Key → ℕ → Option Stage → Type 0
Dear n more gathered r key i o = (s : Stage) × (o ≡ Some s) × (n + 2 + 3 * more key i ≤ stage_cost n more gathered r key s)

called-dear : (n : ℕ) (more : More) (gathered : List Offer) (r : ℕ) (key : Key) (i : ℕ) → (i == 0) ≡ true → Dear n more gathered r key i (Some Called)
called-dear n more gathered r key i e = let z : i ≡ 0 = grind (arith, nat_tests, e) in rw z (Called, refl, omega arith)

offered-dear : (n : ℕ) (more : More) (gathered : List Offer) (r : ℕ) (key : Key) (i j : ℕ) (own : Bool) → j ≡ i → Dear n more gathered r key i (Some (Offered j own))
offered-dear n more gathered r key i j own e = rw e (Offered i own, refl, omega arith)

told-dear : (n : ℕ) (more : More) (gathered : List Offer) (r : ℕ) (key : Key) (i : ℕ) (s : Option Stage) → told_in s i ≡ true → Dear n more gathered r key i s
told-dear n more gathered r key i (Some Called) e = called-dear n more gathered r key i e
told-dear n more gathered r key i (Some (Offered j own)) e = offered-dear n more gathered r key i j own (grind (arith, nat_tests, e))
told-dear n more gathered r key i s e = absurd (cc)

ready-dear : (n : ℕ) (more : More) (gathered : List Offer) (r : ℕ) (key : Key) (i : ℕ) (s : Option Stage) → awaits_ready s i ≡ true → Dear n more gathered r key i s
ready-dear n more gathered r key i (Some Called) e = called-dear n more gathered r key i e
ready-dear n more gathered r key i s e = absurd (cc)

round-dear : (n : ℕ) (more : More) (gathered : List Offer) (r : ℕ) (key : Key) (i : ℕ) (s : Option Stage) → awaits_round s i ≡ true → Dear n more gathered r key i s
round-dear n more gathered r key i (Some (Offered j own)) e = offered-dear n more gathered r key i j own (grind (arith, nat_tests, e))
round-dear n more gathered r key i s e = absurd (cc)

awaits-dear : (n : ℕ) (more : More) (r : ℕ) (a : Agree) (key : Key) (i : ℕ) (v : Verdict) → awaits a key i v ≡ true → Dear n more a.gathered r key i (stage_of a.opened key)
awaits-dear n more r a key i Ready e = ready-dear n more a.gathered r key i (stage_of a.opened key) e
awaits-dear n more r a key i Retry e = round-dear n more a.gathered r key i (stage_of a.opened key) e
awaits-dear n more r a key i (Context c) e = round-dear n more a.gathered r key i (stage_of a.opened key) (grind (arith, e))
awaits-dear n more r a key i Exhausted e = round-dear n more a.gathered r key i (stage_of a.opened key) e

-- Offers

pub due_waits : (s : Option Stage) → is_due s ≡ true → (i : ℕ) × (s ≡ Some (Waiting i))
due_waits (Some (Waiting i)) e = (i, refl)
due_waits s e = absurd (cc)

pub spend-offers : (n : ℕ) (more : More) (scripts : AllScripts) (r : ℕ) (x : Rank) (key : Key) → OneEach x.agree.opened → may_offer x.agree key ≡ true → Spends n more scripts r x None (offers x key)
unfolding offers
spend-offers n more scripts r x key one may =
    let i = due_waits (stage_of x.agree.opened key) may in
    let c = offer-cost n more x.rank x.setting.contexts x.agree key i.0 one i.1 in
    omega (arith, c)

-- Verdicts

verdict-spends : (n : ℕ) (more : More) (scripts : AllScripts) (r : ℕ) (x : Rank) (p : Option protocol.Packet) (key : Key) (v : Verdict) (m : Moved)
    → agree_cost n more x.rank m.part + verdict_cost n v + 1 ≤ agree_cost n more x.rank x.agree → agreeing_cost m.sent ≡ 0 → Spends n more scripts r x p (agreed (with_verdict x key v) m)
verdict-spends n more scripts r x p key Ready m h z = omega (arith, h, z)
verdict-spends n more scripts r x p key Retry m h z = omega (arith, h, z)
verdict-spends n more scripts r x p key (Context c) m h z =
    let a = sum_of-append (comm_cost n) x.comms.rows (record { ctx = c; members = key.members; session = session_of x.threads key; serial = x.comms.added + 1; calls = 0; stage = Live } ∷ []) in
    omega (arith, h, z, a)
verdict-spends n more scripts r x p key Exhausted m h z = omega (arith, h, z)

awaited : (r : ℕ) (a : Agree) (from : ℕ) (key : Key) (i : ℕ) (v : Verdict) → takes_down r a from key i v ≡ true → awaits a key i v ≡ true
unfolding takes_down
awaited r a from key i v e = grind (arith, e)

pub spend-down : (n : ℕ) (more : More) (scripts : AllScripts) (r : ℕ) (x : Rank) (from : ℕ) (key : Key) (i : ℕ) (v : Verdict) → OneEach x.agree.opened → takes_down x.rank x.agree from key i v ≡ true → Falls more key i v
    → Spends n more scripts r x (Some (protocol.Agreeing (Down key i v))) (taken x from (protocol.Agreeing (Down key i v)))
unfolding deliver take_down
spend-down n more scripts r x from key i v one may f =
    let d = awaits-dear n more x.rank x.agree key i v (awaited x.rank x.agree from key i v may) in
    rw may
    (verdict-spends n more scripts r x (Some (protocol.Agreeing (Down key i v))) key v (decide x.rank x.agree key i v)
    (decide-cost n more x.rank x.agree key i v d.0 one d.1 d.2 f) (decide-sends x.rank x.agree key i v))

pub spend-up : (n : ℕ) (more : More) (scripts : AllScripts) (r : ℕ) (x : Rank) (from : ℕ) (key : Key) (i : ℕ) (own : Bool) (mask : List Bool) → takes_up x.rank x.agree from key i ≡ true → OwnAreTold x.rank x.agree
    → Spends n more scripts r x (Some (protocol.Agreeing (Up key i own mask))) (taken x from (protocol.Agreeing (Up key i own mask)))
unfolding deliver
spend-up n more scripts r x from key i own mask may told =
    let c = up-cost n more x.rank x.setting.contexts x.agree from key i own mask may (λ e. told_is (stage_of x.agree.opened key) (round_of x.agree.rounds key) (told key e)) in
    omega (arith, c)

pub spend-share : (n : ℕ) (more : More) (scripts : AllScripts) (r : ℕ) (x : Rank) (from : ℕ) (key : Key) (s : Shared1)
    → Spends n more scripts r x (Some (protocol.Agreeing (Share key s))) (taken x from (protocol.Agreeing (Share key s)))
unfolding deliver take_share
spend-share n more scripts r x from key s = go (takes_share x.rank x.agree from key)
  where
    share : Bool → Moved
    share b = if b then record { part = put_share x.agree key (place_in key.members from) s; sent = [] } else record { part = x.agree; sent = [] }

    go : (b : Bool) → Spends n more scripts r x (Some (protocol.Agreeing (Share key s))) (agreed x (share b))
    go true = omega arith
    go false = omega arith

pub spend-shares : (n : ℕ) (more : More) (scripts : AllScripts) (r : ℕ) (x : Rank) (from : ℕ) (key : Key) (list : List Shared1) → FewMore more → OneEach x.agree.opened → takes_shares x.rank x.agree from key list ≡ true
    → Spends n more scripts r x (Some (protocol.Agreeing (Shares key list))) (taken x from (protocol.Agreeing (Shares key list)))
unfolding deliver
spend-shares n more scripts r x from key list few one may =
    let a = shares_out-cost n more scripts r x key list (take_shares x.rank x.setting.contexts x.agree from key list) (shares-cost n more x.rank x.setting.contexts x.agree from key list few may) in
    omega (arith, a)

-- Settles

-- the shares that a first member has are those that it takes
abbrev pub SharesAreTaken : ℕ → Agree → Key → Type 0
SharesAreTaken r a key = is_share key.kind ≡ true → takes_shares r (record a { shares = drop_shares a.shares key }) r key (share_list a.shares key) ≡ true

-- a first member that may settle has told its own
pub settler_told : (r : ℕ) (a : Agree) (key : Key) → may_settle r a key ≡ true → is_share key.kind ≡ false → OwnAreTold r a → told_in (stage_of a.opened key) (round_of a.rounds key) ≡ true
unfolding may_settle is_ready
settler_told r a key may kind told =
    let first : is_first r key.members ≡ true = grind (arith, may, kind) in
    let here = first_place key.members r first in
    told key (rw here.0 (grind (arith, may, kind)))

pub spend-settles : (n : ℕ) (more : More) (scripts : AllScripts) (r : ℕ) (x : Rank) (key : Key) → FewMore more → OneEach x.agree.opened → OwnAreTold x.rank x.agree → may_settle x.rank x.agree key ≡ true
    → SharesAreTaken x.rank x.agree key → (is_share key.kind ≡ false → Falls more key (round_of x.agree.rounds key) (verdict_at x key)) → Spends n more scripts r x None (settles x key)
unfolding settles settle settle_offers
spend-settles n more scripts r x key few one told may shares f = go (is_share key.kind) refl
  where
    go : (b : Bool) → is_share key.kind ≡ b → Spends n more scripts r x None (settles_as x key b)
    go true e =
        let h = settle_share-cost n more x.rank x.setting.contexts x.agree key few (shares e) in
        let s = shares_out-cost n more scripts r x key (share_list x.agree.shares key) (settle_share x.rank x.setting.contexts x.agree key) h in
        rw e s
    go false e =
        let d = told-dear n more x.agree.gathered x.rank key (round_of x.agree.rounds key) (stage_of x.agree.opened key) (settler_told x.rank x.agree key may e told) in
        let c = decide-cost n more x.rank x.agree key (round_of x.agree.rounds key) (verdict_at x key) d.0 one d.1 d.2 (f e) in
        let s = verdict-spends n more scripts r x None key (verdict_at x key) (decide x.rank x.agree key (round_of x.agree.rounds key) (verdict_at x key)) c (decide-sends x.rank x.agree key (round_of x.agree.rounds key) (verdict_at x key)) in
        rw e s
