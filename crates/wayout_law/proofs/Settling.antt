-- What a settle and an offer leave of the offered creations and of the rounds.
use Rattle.std.proofs.Common.{◌≡◌, ◌⊎◌, ℕ, Bool, true, false, List, Some, None, refl, sym, ap, subst, ◌∙◌, inl, inr}
use Rattle.std.specs.Prelude.{if◌then◌else◌}
use Rattle.std.specs.Option.{is_some}
use Rattle.mpi_base.specs.declared.keys.Key.{Key}
use Rattle.mpi_base.specs.Keys.{same_key}
use Rattle.agree_law.specs.declared.rows.CreationRow.{CreationRow}
use Rattle.agree_law.specs.declared.rows.Stage.TheVariants.{Waiting, Offered}
use Rattle.agree_law.specs.Part.{Agree, stage_of, set_stage, round_of, drop_shares}
use Rattle.agree_law.specs.Packets.{Shares, Moved}
use Rattle.agree_law.specs.Kinds.{is_share}
use Rattle.agree_law.specs.Rule.{may_own}
use Rattle.agree_law.specs.Offers.{make_offer, offer_of}
use Rattle.agree_law.specs.Moves.{settle}
use Rattle.agree_law.specs.Verdicts.{settle_offers, decide}
use Rattle.agree_law.specs.Shares.{settle_share, share_list, take_shares, to_others, after_sending}
use Rattle.agree_law.proofs.RowFacts.{stage_of-set}
use Rattle.mpi_protocol.specs.Rank.{Rank}
use Rattle.mpi_protocol.specs.Agreeing.{verdict_at, settles, offers}
use Rattle.wayout_law.proofs.Decisions.{SharesAreTaken}
use Rattle.wayout_law.proofs.Frames.{Frame, frame-shares}

-- Settles

share-is : (r top : ℕ) (a : Agree) (key : Key) → is_share key.kind ≡ true
    → settle r top a key ≡ after_sending (to_others key.members (Shares key (share_list a.shares key))) (take_shares r top (record a { shares = drop_shares a.shares key }) r key (share_list a.shares key))
unfolding settle settle_share
share-is r top a key kind = rw kind refl

share-part : (x : Rank) (key : Key) → is_share key.kind ≡ true
    → (settles x key).state.agree
    ≡ (take_shares x.rank x.setting.contexts (record x.agree { shares = drop_shares x.agree.shares key }) x.rank key (share_list x.agree.shares key)).part
unfolding settles
share-part x key kind = rw kind (ap (λ (m : Moved). m.part) (share-is x.rank x.setting.contexts x.agree key kind))

pub frame-settle_share : (x : Rank) (key : Key) → is_share key.kind ≡ true → SharesAreTaken x.rank x.agree key → Frame x.rank x.agree (settles x key).state.agree
frame-settle_share x key kind taken =
    let list = share_list x.agree.shares key in
    let b : Agree = record x.agree { shares = drop_shares x.agree.shares key } in
    let f = frame-shares x.rank x.setting.contexts b x.rank key list (taken kind) in
    let g : Frame x.rank x.agree (take_shares x.rank x.setting.contexts b x.rank key list).part = record { fewer = f.fewer; rounds = f.rounds } in
    subst (λ z. Frame x.rank x.agree z) (sym (share-part x key kind)) g

pub settle-is : (r top : ℕ) (a : Agree) (key : Key) → is_share key.kind ≡ false → settle r top a key ≡ settle_offers r top a key
unfolding settle
settle-is r top a key kind = rw kind refl

pub settle-part : (x : Rank) (key : Key) → is_share key.kind ≡ false → (settles x key).state.agree ≡ (decide x.rank x.agree key (round_of x.agree.rounds key) (verdict_at x key)).part
unfolding settles settle_offers
settle-part x key kind = rw kind (ap (λ (m : Moved). m.part) (settle-is x.rank x.setting.contexts x.agree key kind))

-- Offers

pub offer-part : (x : Rank) (key : Key) (i : ℕ) → stage_of x.agree.opened key ≡ Some (Waiting i) → (offers x key).state.agree ≡ (offer_of x.rank x.setting.contexts x.agree key i (may_own x.agree key)).part
unfolding offers make_offer
offer-part x key i e = rw e refl

pub offer-stage : (os : List CreationRow) (key : Key) (i : ℕ) (own : Bool) (k : Key) (j : ℕ) (o : Bool) → stage_of (set_stage os key (Offered i own)) k ≡ Some (Offered j o)
    → (stage_of os k ≡ Some (Offered j o)) ⊎ ((same_key key k ≡ true) × (j ≡ i) × (o ≡ own))
offer-stage os key i own k j o e = go (same_key key k) refl (is_some (stage_of os k)) (stage_of-set os key (Offered i own) k)
  where
    go : (a : Bool) → same_key key k ≡ a → (b : Bool) → stage_of (set_stage os key (Offered i own)) k ≡ (if a then (if b then Some (Offered i own) else None) else stage_of os k)
        → (stage_of os k ≡ Some (Offered j o)) ⊎ ((same_key key k ≡ true) × (j ≡ i) × (o ≡ own))
    go true s true is = let f : Some (Offered j o) ≡ Some (Offered i own) = sym e ∙ is in inr (s, cc, cc)
    go true s false is = let f : Some (Offered j o) ≡ None = sym e ∙ is in absurd (cc)
    go false s b is = inl (sym is ∙ e)
