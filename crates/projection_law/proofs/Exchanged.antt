-- What the first member of an exchange has when it settles is taken there.
use Rattle.std.proofs.Common.{◌≡◌, ◌<◌, ◌==◌, ℕ, true, List, [], ◌∷◌, length, slice_get, Option, Some, None, refl, sym, ap, ◌∙◌, arith}
use Rattle.std.proofs.lemmas.Bool.Decides.{nat_tests}
use Rattle.mpi_base.specs.declared.keys.Key.{Key}
use Rattle.mpi_base.specs.declared.shares.Shared1.{Shared1}
use Rattle.agree_law.specs.declared.rows.Stage.{Stage}
use Rattle.agree_law.specs.declared.rows.Stage.TheVariants.{Sharing, Called, Waiting, Offered, Done}
use Rattle.agree_law.specs.Tree.{place_in, is_first}
use Rattle.agree_law.specs.Part.{stage_of, drop_shares}
use Rattle.agree_law.specs.Kinds.{is_share}
use Rattle.agree_law.specs.Shares.{is_own_share, takes_shares, share_list, may_settle_share}
use Rattle.agree_law.specs.World.{World, part_at}
use Rattle.share_law.specs.Facts.{sharing_of}
use Rattle.agree_law.proofs.Classes.{int_same, colour_refl}
use Rattle.agree_law.proofs.Law.{settle_fits}
use Rattle.share_law.proofs.ShareLaw.{all_there}
use Rattle.share_law.proofs.Exchanges.{Exchanges}
use Rattle.projection_law.proofs.Moved.{Ruled}

first_item : (ss : List Shared1) → 0 < length ss → (s : Shared1) × (slice_get ss 0 ≡ Some s)
first_item [] lt = absurd (omega arith)
first_item (s ∷ ss) lt = (s, refl)

own_share : (o : Option Stage) (s : Shared1) → sharing_of o ≡ Some s → is_own_share o (Some s) ≡ true
own_share None s e = absurd (cc (e))
own_share (Some (Sharing t)) s e = let is : t ≡ s = cc (e) in rw (is, colour_refl s.colour) (int_same s.key)
own_share (Some Called) s e = absurd (cc (e))
own_share (Some (Waiting i)) s e = absurd (cc (e))
own_share (Some (Offered i own)) s e = absurd (cc (e))
own_share (Some (Done c)) s e = absurd (cc (e))

-- the first member takes what it has when it settles
pub settled_is_taken : (top : ℕ) (w : World) (r : ℕ) (key : Key) → Ruled top w → may_settle_share r (part_at w r) key ≡ true
    → takes_shares r (record (part_at w r) { shares = drop_shares (part_at w r).shares key }) r key (share_list (part_at w r).shares key) ≡ true
unfolding takes_shares Exchanges
settled_is_taken top w r key h may =
    let good = settle_fits (length w.parts) r (part_at w r) key may (h.holds.splits.shares r) in
    let a = all_there w r key may (h.exchanges key good) in
    let share : is_share key.kind ≡ true = grind (arith, good) in
    let first : is_first r key.members ≡ true = grind (arith, may) in
    let member = a.member in
    let long = a.long in
    let some = a.some in
    let size : (length (share_list (part_at w r).shares key) == length key.members) ≡ true = grind (arith, nat_tests, long) in
    let f = first_item (share_list (part_at w r).shares key) (omega (arith, long, some)) in
    let item : slice_get (share_list (part_at w r).shares key) (place_in key.members r) ≡ Some f.0 = ap (λ z. slice_get (share_list (part_at w r).shares key) z) a.place ∙ f.1 in
    let stage : sharing_of (stage_of (part_at w r).opened key) ≡ Some f.0 = ap (λ z. sharing_of (stage_of (part_at w z).opened key)) (sym a.at) ∙ (sym (a.items 0 some) ∙ f.1) in
    let own = own_share (stage_of (part_at w r).opened key) f.0 stage in
    rw (share, first, member, size, item, own) refl
