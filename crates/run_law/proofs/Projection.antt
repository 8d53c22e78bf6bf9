-- What is asked of the agreement, from the facts of its own world: the parts of the ranks are its parts.
use Rattle.std.proofs.Common.{◌≡◌, ◌<◌, ℕ, ◌==◌, nat_lt, Bool, true, false, List, [], ◌∷◌, length, map, get_or, Some, None, refl, ap, ◌∙◌, subst, arith}
use Rattle.std.specs.List.{list_all}
use Rattle.std.proofs.lemmas.Bool.Decides.{nat_tests}
use Rattle.mpi_base.specs.declared.keys.Key.{Key}
use Rattle.mpi_base.specs.MemberLists.{has_rank}
use Rattle.mpi_law.specs.declared.setting.Setting.{Setting}
use Rattle.mpi_law.specs.Registry.Contexts.{is_exchange}
use Rattle.agree_law.specs.declared.rows.Stage.TheVariants.{Offered}
use Rattle.agree_law.specs.Part.{Agree, fresh, stage_of}
use Rattle.agree_law.specs.Tree.{place_in, member_at}
use Rattle.agree_law.specs.Rule.{is_key}
use Rattle.agree_law.specs.World as agree
use Rattle.agree_law.specs.Facts.{OwnerHasOffered, OwnersHaveOffered, IsFreeAt, IsTakenUnder}
use Rattle.agree_law.proofs.TreeFacts.{member_place, place_member}
use Rattle.mpi_protocol.specs.Rank.{Rank}
use Rattle.mpi_protocol.specs.World.{blank}
use Rattle.run_law.proofs.Lists.{get_or-map}
use Rattle.due_law.specs.Dues.{Dues}
use Rattle.run_law.proofs.Joined.{rank_in}
use Rattle.due_law.specs.Agreed.{HasOffered, AllOffered, IsFreeInMasks, Lacking}

module _ (s : Setting) (ranks : List Rank) (due : Dues) (key : Key) (w : agree.World) (parts : w.parts ≡ map (λ (x : Rank). x.agree) ranks) where
  part_is : (r : ℕ) → agree.part_at w r ≡ (rank_in ranks r).agree
  part_is r = ap (λ (ps : List Agree). get_or ps r (fresh 0)) parts ∙ get_or-map (λ (x : Rank). x.agree) ranks blank r

  at : (c q : ℕ) → ((p : ℕ) → p < length key.members → IsFreeAt w key c p) → has_rank key.members q ≡ true → (is_key (rank_in ranks q).agree.owner key ≡ true) × (get_or (rank_in ranks q).agree.mask c false ≡ true)
  at c q free m =
      let place = member_place key.members q m in
      let f = free (place_in key.members q) place.0 in
      let is : agree.part_at w (member_at key.members (place_in key.members q)) ≡ (rank_in ranks q).agree = ap (agree.part_at w) place.1 ∙ part_is q in
      (subst (λ (a : Agree). is_key a.owner key ≡ true) is f.owner, subst (λ (a : Agree). get_or a.mask c false ≡ true) is f.free)

  -- a context that is picked
  pub free_in_masks : (c : ℕ) → ((p : ℕ) → p < length key.members → IsFreeAt w key c p) → IsFreeInMasks ranks key c
  free_in_masks c free q m = (at c q free m).1

  pub all_offered : (c : ℕ) → ((p : ℕ) → p < length key.members → IsFreeAt w key c p) → OwnersHaveOffered w → is_exchange key.kind ≡ false → list_all (λ q. nat_lt q s.ranks) key.members ≡ true → ((q : ℕ) → has_rank key.members q ≡ true → due q key ≡ None) → AllOffered s ranks due key
  all_offered c free owners proper below none = record {
    proper = proper;
    inside = λ q m. inside key.members q below m;
    each = λ q m. offered q m (owners q key (rw (part_is q) (at c q free m).0));
  }
    where
      inside : (ms : List ℕ) (q : ℕ) → list_all (λ z. nat_lt z s.ranks) ms ≡ true → has_rank ms q ≡ true → q < s.ranks
      inside [] q h m = absurd (cc (m))
      inside (z ∷ zs) q h m = go (z == q) refl (inside zs q (grind (arith, h)))
        where
          go : (b : Bool) → (z == q) ≡ b → (has_rank zs q ≡ true → q < s.ranks) → q < s.ranks
          go true e ih = let is : z ≡ q = grind (arith, nat_tests, e) in let l : nat_lt z s.ranks ≡ true = grind (arith, h) in grind (arith, nat_tests, is, l)
          go false e ih = ih (grind (arith, m, e))

      offered : (q : ℕ) → has_rank key.members q ≡ true → OwnerHasOffered w q key → HasOffered (rank_in ranks q) (due q key) key
      offered q m o = record { round = o.round; stage = subst (λ (a : Agree). stage_of a.opened key ≡ Some (Offered o.round true)) (part_is q) o.stage; owns = (at c q free m).0; none = none q m }

  -- where exhausted is said
  pub lacking : (c : ℕ) → IsTakenUnder w key c 0 → Lacking ranks key c
  lacking c t = record {
    rank = member_at key.members t.place;
    member = place_member key.members t.place t.inside;
    lacks = subst (λ (a : Agree). get_or a.mask c false ≡ false) (part_is (member_at key.members t.place)) t.lacks;
  }
