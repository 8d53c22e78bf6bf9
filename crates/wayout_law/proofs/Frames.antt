-- What each step of a rank leaves of its offered creations and of its rounds.
use Rattle.std.proofs.Common.{◌≡◌, ◌+◌, ℕ, ℤ, Bool, true, false, List, [], ◌∷◌, ◌++◌, slice_get, Option, Some, None, refl, sym, subst, ◌∙◌, arith}
use Rattle.std.specs.Prelude.{if◌then◌else◌}
use Rattle.std.specs.Option.{is_some}
use Rattle.std.proofs.lemmas.Bool.Decides.{nat_tests}
use Rattle.mpi_base.specs.declared.keys.Key.{Key}
use Rattle.mpi_base.specs.Keys.{same_key}
use Rattle.mpi_base.proofs.KeyFacts.{same_key_is}
use Rattle.agree_law.specs.declared.rows.Outcome.TheVariants as outcome
use Rattle.mpi_base.specs.declared.shares.Shared1.{Shared1}
use Rattle.agree_law.specs.declared.rows.Stage.{Stage}
use Rattle.agree_law.specs.declared.rows.Stage.TheVariants.{Sharing, Called, Waiting, Offered, Done}
use Rattle.agree_law.specs.declared.rows.CreationRow.{CreationRow}
use Rattle.agree_law.specs.declared.rows.Verdict.{Verdict}
use Rattle.agree_law.specs.declared.rows.Verdict.TheVariants.{Ready, Retry, Context, Exhausted}
use Rattle.agree_law.specs.Tree.{place_in, member_at, is_first, is_child}
use Rattle.agree_law.specs.Part.{Agree, stage_of, round_of, open_creation, set_stage, close_creation}
use Rattle.agree_law.specs.Packets.{Share, Moved, stays}
use Rattle.agree_law.specs.Offers.{begin, put_offer, takes_up, take_up}
use Rattle.agree_law.specs.Shares.{begin_share, put_share, take_share, takes_share, takes_shares, take_shares, divide, colour_at}
use Rattle.agree_law.specs.Moves.{close, give_back}
use Rattle.agree_law.specs.Verdicts.{takes, rounds_after, decide, takes_down}
use Rattle.agree_law.specs.Classes.{split_key}
use Rattle.agree_law.proofs.RowFacts.{or_else, stage_of-open, stage_of-set, stage_of-close, round_of-drop, round_of-set}
use Rattle.agree_law.proofs.TreeFacts.{child_above}

-- a creation that is offered was offered, in the same round
abbrev pub Fewer : List CreationRow → List CreationRow → Type 0
Fewer old new = (k : Key) (i : ℕ) (own : Bool) → stage_of new k ≡ Some (Offered i own) → stage_of old k ≡ Some (Offered i own)

-- the rounds of the keys of which the rank is the first member
abbrev KeepsFirst : ℕ → Agree → Agree → Type 0
KeepsFirst r a b = (k : Key) → member_at k.members 0 ≡ r → round_of b.rounds k ≡ round_of a.rounds k

pub record Frame (r : ℕ) (a b : Agree) : Type 0 where
  pub fewer : Fewer a.opened b.opened
  pub rounds : KeepsFirst r a b

pub frame-same : (r : ℕ) (a b : Agree) → b.opened ≡ a.opened → b.rounds ≡ a.rounds → Frame r a b
frame-same r a b e f = record { fewer = λ k i own s. subst (λ z. stage_of z k ≡ Some (Offered i own)) e s; rounds = λ k first. rw f refl }

-- Rows

is_offer_stage : Stage → Bool
is_offer_stage (Sharing s) = false
is_offer_stage Called = false
is_offer_stage (Waiting i) = false
is_offer_stage (Offered i own) = true
is_offer_stage (Done o) = false

fewer-open : (os : List CreationRow) (key : Key) (s : Stage) → is_offer_stage s ≡ false → Fewer os (open_creation os key s)
unfolding is_offer_stage
fewer-open os key s calm k i own e = go (stage_of os k) refl (same_key key k) (stage_of-open os key s k)
  where
    plain : (t : Stage) → is_offer_stage t ≡ false → Some t ≡ Some (Offered i own) → ⊥
    plain (Offered j o) c e = absurd (cc)
    plain (Sharing s) c e = cc
    plain Called c e = cc
    plain (Waiting j) c e = cc
    plain (Done o) c e = cc

    go : (t : Option Stage) → stage_of os k ≡ t → (b : Bool) → stage_of (open_creation os key s) k ≡ or_else (stage_of os k) (if b then Some s else None) → stage_of os k ≡ Some (Offered i own)
    go (Some t) was b is = let f : stage_of (open_creation os key s) k ≡ Some t = rw was at is in was ∙ (sym f ∙ e)
    go None was true is = let f : stage_of (open_creation os key s) k ≡ Some s = rw was at is in absurd (plain s calm (sym f ∙ e))
    go None was false is = let f : stage_of (open_creation os key s) k ≡ None = rw was at is in let g : None ≡ Some (Offered i own) = sym f ∙ e in absurd (cc)

fewer-set : (os : List CreationRow) (key : Key) (s : Stage) → is_offer_stage s ≡ false → Fewer os (set_stage os key s)
unfolding is_offer_stage
fewer-set os key s calm k i own e = go (same_key key k) (is_some (stage_of os k)) (stage_of-set os key s k)
  where
    plain : (t : Stage) → is_offer_stage t ≡ false → Some t ≡ Some (Offered i own) → ⊥
    plain (Offered j o) c e = absurd (cc)
    plain (Sharing s) c e = cc
    plain Called c e = cc
    plain (Waiting j) c e = cc
    plain (Done o) c e = cc

    go : (a b : Bool) → stage_of (set_stage os key s) k ≡ (if a then (if b then Some s else None) else stage_of os k) → stage_of os k ≡ Some (Offered i own)
    go true true is = absurd (plain s calm (sym is ∙ e))
    go true false is = let g : None ≡ Some (Offered i own) = sym is ∙ e in absurd (cc)
    go false b is = sym is ∙ e

fewer-close : (os : List CreationRow) (key : Key) → Fewer os (close_creation os key)
fewer-close os key k i own e = go (same_key key k) (stage_of-close os key k)
  where
    go : (a : Bool) → stage_of (close_creation os key) k ≡ (if a then None else stage_of os k) → stage_of os k ≡ Some (Offered i own)
    go true is = let g : None ≡ Some (Offered i own) = sym is ∙ e in absurd (cc)
    go false is = sym is ∙ e

-- Moves

pub frame-begin : (r top : ℕ) (a : Agree) (key : Key) → Frame r a (begin r top a key).part
unfolding begin put_offer is_offer_stage
frame-begin r top a key = record { fewer = fewer-open a.opened key Called refl; rounds = λ k first. refl }

pub frame-begin_share : (r : ℕ) (a : Agree) (key : Key) (s : Shared1) → Frame r a (begin_share r a key s).part
unfolding begin_share is_offer_stage
frame-begin_share r a key s = go (is_first r key.members)
  where
    b : Agree
    b = record a { opened = a.opened ++ record { key = key; stage = Sharing s } ∷ [] }

    begun : Bool → Moved
    begun f = if f then record { part = put_share b key 0 s; sent = [] } else record { part = b; sent = record { to = member_at key.members 0; packet = Share key s } ∷ [] }

    go : (f : Bool) → Frame r a (begun f).part
    go true = record { fewer = fewer-open a.opened key (Sharing s) refl; rounds = λ k first. refl }
    go false = record { fewer = fewer-open a.opened key (Sharing s) refl; rounds = λ k first. refl }

pub frame-close : (r : ℕ) (a : Agree) (key : Key) → Frame r a (close a key)
unfolding close
frame-close r a key = record { fewer = fewer-close a.opened key; rounds = λ k first. refl }

pub frame-give_back : (r : ℕ) (a : Agree) (c : ℕ) → Frame r a (give_back a c)
unfolding give_back
frame-give_back r a c = frame-same r a (give_back a c) refl refl

pub frame-up : (r top : ℕ) (a : Agree) (from : ℕ) (key : Key) (i : ℕ) (own : Bool) (mask : List Bool) → Frame r a (take_up r top a from key i own mask).part
unfolding take_up put_offer
frame-up r top a from key i own mask = go (takes_up r a from key i)
  where
    up : Bool → Moved
    up b = if b then put_offer r top a key (place_in key.members from) own mask else stays a

    go : (b : Bool) → Frame r a (up b).part
    go true = frame-same r a (up true).part refl refl
    go false = frame-same r a a refl refl

pub frame-share : (r : ℕ) (a : Agree) (from : ℕ) (key : Key) (s : Shared1) → Frame r a (take_share r a from key s).part
unfolding take_share
frame-share r a from key s = go (takes_share r a from key)
  where
    share : Bool → Moved
    share b = if b then record { part = put_share a key (place_in key.members from) s; sent = [] } else stays a

    go : (b : Bool) → Frame r a (share b).part
    go true = frame-same r a (share true).part refl refl
    go false = frame-same r a a refl refl

-- a verdict
pub decide-fewer : (r : ℕ) (a : Agree) (key : Key) (i : ℕ) (v : Verdict) → Fewer a.opened (decide r a key i v).part.opened
unfolding decide takes rounds_after is_offer_stage
decide-fewer r a key i Ready = fewer-set a.opened key (Waiting 1) refl
decide-fewer r a key i Retry = fewer-set a.opened key (Waiting (i + 1)) refl
decide-fewer r a key i (Context c) = fewer-set a.opened key (Done (outcome.Context c)) refl
decide-fewer r a key i Exhausted = fewer-set a.opened key (Done outcome.Exhausted) refl

pub decide-rounds : (r : ℕ) (a : Agree) (key : Key) (i : ℕ) (v : Verdict) (k : Key) → same_key key k ≡ false → round_of (decide r a key i v).part.rounds k ≡ round_of a.rounds k
unfolding decide takes rounds_after
decide-rounds r a key i Ready k e = let x = round_of-set a.rounds key k 1 in rw e at x
decide-rounds r a key i Retry k e = let x = round_of-set a.rounds key k (i + 1) in rw e at x
decide-rounds r a key i (Context c) k e = let x = round_of-drop a.rounds key k in rw e at x
decide-rounds r a key i Exhausted k e = let x = round_of-drop a.rounds key k in rw e at x

place_first : (ms : List ℕ) → place_in ms (member_at ms 0) ≡ 0
place_first [] = refl
place_first (m ∷ ms) = grind (arith, nat_tests)

-- a verdict comes to no first member
not_first : (r : ℕ) (a : Agree) (from : ℕ) (key : Key) (i : ℕ) (v : Verdict) → takes_down r a from key i v ≡ true → member_at key.members 0 ≡ r → ⊥
unfolding takes_down
not_first r a from key i v e first =
    let child : is_child (place_in key.members from) (place_in key.members r) ≡ true = grind (arith, e) in
    let above = child_above (place_in key.members from) (place_in key.members r) child in
    let z : place_in key.members r ≡ 0 = subst (λ q. place_in key.members q ≡ 0) first (place_first key.members) in
    omega (arith, above, z)

pub frame-down : (r : ℕ) (a : Agree) (from : ℕ) (key : Key) (i : ℕ) (v : Verdict) → takes_down r a from key i v ≡ true → Frame r a (decide r a key i v).part
frame-down r a from key i v taken = record { fewer = decide-fewer r a key i v; rounds = λ k first. other k first (same_key key k) refl }
  where
    other : (k : Key) → member_at k.members 0 ≡ r → (b : Bool) → same_key key k ≡ b → round_of (decide r a key i v).part.rounds k ≡ round_of a.rounds k
    other k first false e = decide-rounds r a key i v k e
    other k first true e = absurd (not_first r a from key i v taken (subst (λ z. member_at z.members 0 ≡ r) (sym (same_key_is key k e)) first))

-- the shares of a split
divide-frame : (r top : ℕ) (a : Agree) (key : Key) (c : Option ℤ) (list : List Shared1) → Frame r a (divide r top a key c list).part
unfolding divide
divide-frame r top a key None list = record { fewer = fewer-close a.opened key; rounds = λ k first. refl }
divide-frame r top a key (Some c) list =
    let b = frame-begin r top (record a { opened = close_creation a.opened key }) (split_key key (Some c) list) in
    record { fewer = λ k i own e. fewer-close a.opened key k i own (b.fewer k i own e); rounds = λ k first. b.rounds k first }

pub frame-shares : (r top : ℕ) (a : Agree) (from : ℕ) (key : Key) (list : List Shared1) → takes_shares r a from key list ≡ true → Frame r a (take_shares r top a from key list).part
unfolding take_shares
frame-shares r top a from key list taken = rw taken (divide-frame r top a key (colour_at (slice_get list (place_in key.members r))) list)
