-- The opening of a world.
use Rattle.std.proofs.Common.{◌≡◌, ℕ, zero, suc, ◌+◌, ◌*◌, ◌<◌, inl, inr, List, [], ◌∷◌, ◌++◌, length, map, get_or, replicate, refl, sym, ap, subst, ◌∙◌, arith}
use Rattle.std.proofs.lemmas.Bool.{cases_lt}
use Rattle.std.proofs.lemmas.List.{get_or_append_left, map-append}
use Rattle.std.proofs.Math.Seq.{get_or-append_seam}
use Rattle.std.specs.List.{range_with_len}
use Rattle.and_reduce.specs.Fronts.{HasPlaces}
use Rattle.link_net.specs.Net.{Net}
use Rattle.mpi_law.specs.declared.setting.Setting.{Setting}
use Rattle.mpi_law.specs.Settings.{IsSetting}
use Rattle.mpi_protocol.specs.Rank.{Rank, fresh}
use Rattle.mpi_protocol.specs.World.{opening}
use Rattle.rank_law.specs.Counts.{CountsWithin}
use Rattle.rank_core.specs.declared.packets.Packet.{Packet}
use Rattle.rank_core.specs.Held.{Held as RankHeld}
use Rattle.rank_core.specs.Packets.{packet_of}
use Rattle.world_core.specs.Held.{IsRankOf, IsWorld}
use Rattle.world_core.specs.Posted.{links_of, world_of}

empty_links : (w top k : ℕ) → map (map (packet_of {w = w} top)) (replicate k []) ≡ replicate k []
empty_links w top zero = refl
empty_links w top (suc k) = ap (λ ls. [] ∷ ls) (empty_links w top k)

range_next : (first count : ℕ) → range_with_len first (suc count) ≡ range_with_len first count ++ (first + count) ∷ []
range_next first zero = ap (λ k. k ∷ []) (omega arith)
range_next first (suc count) = ap (λ ks. first ∷ ks) (range_next (first + 1) count ∙ ap (λ k. range_with_len (first + 1) count ++ k ∷ []) (omega arith))

range_more : (count : ℕ) → range_with_len 0 (count + 1) ≡ range_with_len 0 count ++ count ∷ []
range_more count =
    let one : count + 1 ≡ suc count = omega arith in
    let none : 0 + count ≡ count = omega arith in
    ap (λ k. range_with_len 0 k) one ∙ (range_next 0 count ∙ ap (λ k. range_with_len 0 count ++ k ∷ []) none)

module _ (s : Setting) (states : List RankHeld) (k : ℕ) (size : length states ≡ k) where
  pub states_more : (new : RankHeld) → map (λ (x : RankHeld). x.state) states ≡ map (fresh s) (range_with_len 0 k) → new.state ≡ fresh s k
      → map (λ (x : RankHeld). x.state) (states ++ new ∷ []) ≡ map (fresh s) (range_with_len 0 (k + 1))
  states_more new so is =
      map-append (λ (x : RankHeld). x.state) states (new ∷ [])
      ∙ ap (λ xs. xs ++ new.state ∷ []) so ∙ ap (λ x. map (fresh s) (range_with_len 0 k) ++ x ∷ []) is
      ∙ sym (ap (map (fresh s)) (range_more k) ∙ map-append (fresh s) (range_with_len 0 k) (k ∷ []))

  pub new_rank : (new : RankHeld) → new.state ≡ fresh s k → new.boxed ≡ 0 → ((s : Setting) (r n : ℕ) → CountsWithin n (fresh s r)) → IsRankOf s k 0 new
  new_rank new is none low = record {
    rank = ap (λ (x : Rank). x.rank) is;
    setting = ap (λ (x : Rank). x.setting) is;
    counts = subst (λ x. CountsWithin 0 x) (sym is) (low s k 0);
    boxed = omega (arith, none);
  }

  pub each_more : (new : RankHeld) → IsRankOf s k 0 new → ((r : ℕ) (x : RankHeld) → r < k → IsRankOf s r 0 (get_or states r x))
      → (r : ℕ) (x : RankHeld) → r < k + 1 → IsRankOf s r 0 (get_or (states ++ new ∷ []) r x)
  each_more new is each r x lt = elim (cases_lt r k) [
    | inl below ↦ subst (λ y. IsRankOf s r 0 y) (sym (get_or_append_left states (new ∷ []) x r (omega (arith, below, size)))) (each r x below)
    | inr past ↦
        let here : r ≡ k = omega (arith, lt, past) in
        rw here (subst (λ y. IsRankOf s k 0 y) (sym (ap (λ i. get_or (states ++ new ∷ []) i x) (sym size) ∙ get_or-append_seam states new [] x)) is)
  ]

  pub opening_is : {words : ℕ} (n : Net (Packet words)) → k ≡ s.ranks → n.links ≡ replicate (s.ranks * s.ranks) []
      → map (λ (x : RankHeld). x.state) states ≡ map (fresh s) (range_with_len 0 k) → world_of s states n ≡ opening s
  opening_is {words} n all links so =
      ap (λ ranks. record { ranks = ranks; links = links_of s.contexts n }) (so ∙ ap (λ i. map (fresh s) (range_with_len 0 i)) all)
      ∙ ap (λ ls. record { ranks = map (fresh s) (range_with_len 0 s.ranks); links = ls }) (ap (map (map (packet_of s.contexts))) links ∙ empty_links words s.contexts (s.ranks * s.ranks))

  pub world_at_opening : {words : ℕ} (n : Net (Packet words)) → IsSetting s → HasPlaces words s.contexts → k ≡ s.ranks → n.links ≡ replicate (s.ranks * s.ranks) []
      → map (λ (x : RankHeld). x.state) states ≡ map (fresh s) (range_with_len 0 k) → ((r : ℕ) (x : RankHeld) → r < k → IsRankOf s r 0 (get_or states r x))
      → IsWorld words s (world_of s states n) [] states
  world_at_opening n setting places all links so each = record {
    setting = setting;
    places = places;
    size = size ∙ all;
    ranks = λ r x lt. each r x (omega (arith, lt, all));
    run = tt;
    end = opening_is n all links so;
  }
