-- A world whose ranks and links get room.
use Rattle.std.proofs.Common.{◌≡◌, ℕ, ◌<◌, ◌≤◌, inl, inr, List, length, map, get_or, set, Result, Ok, Err, OnOk, sym, ap, subst, ◌∙◌, arith, length-set}
use Rattle.std.proofs.lemmas.Bool.{cases_eq}
use Rattle.std.proofs.lemmas.List.{get_or-map, get_or-set_same, get_or-set_other}
use Rattle.std.proofs.Math.Seq.{map-set_same}
use Rattle.link_net.specs.Net.{Net}
use Rattle.mpi_base.specs.declared.entries.Entry.{Entry}
use Rattle.mpi_law.specs.declared.setting.Setting.{Setting}
use Rattle.rank_law.specs.Counts.{CountsWithin}
use Rattle.rank_core.specs.declared.packets.Packet.{Packet}
use Rattle.rank_core.specs.Held.{Held as RankHeld}
use Rattle.rank_core.specs.Packets.{packet_of}
use Rattle.world_core.specs.Held.{IsRankOf, IsWorld}
use Rattle.world_core.specs.Posted.{links_of, world_of}

pub ok_of : {R E : Type 0} {A B : Type 0} (x : Result R E) → (A → B) → OnOk x A → OnOk x B
ok_of (Ok v) f a = f a
ok_of (Err e) f a = a

module _ {words : ℕ} (s : Setting) (states : List RankHeld) (n after : Net (Packet words)) (es es_after : List Entry)
    (is : IsWorld words s (world_of s states n) es states) (r : ℕ) (old new : RankHeld) (at : old ≡ get_or states r old) (lt : r < s.ranks)
    (state : new.state ≡ old.state) (boxed : new.boxed ≡ old.boxed) (links : after.links ≡ n.links) (entries : es_after ≡ es) where
  pub world_kept : world_of s (set states r new) after ≡ world_of s states n
  world_kept =
      ap (λ ranks. record { ranks = ranks; links = links_of s.contexts after }) (map-set_same (λ (x : RankHeld). x.state) states r new old (state ∙ ap (λ (x : RankHeld). x.state) at))
      ∙ ap (λ ls. record { ranks = map (λ (x : RankHeld). x.state) states; links = map (map (packet_of s.contexts)) ls }) links

  old_is : IsRankOf s r (length es) old
  old_is = subst (λ x. IsRankOf s r (length es) x) (sym at) (is.ranks r old lt)

  new_is : IsRankOf s r (length es) new
  new_is = record {
    rank = ap (λ x. x.rank) state ∙ old_is.rank;
    setting = ap (λ x. x.setting) state ∙ old_is.setting;
    counts = subst (λ x. CountsWithin (length es) x) (sym state) old_is.counts;
    boxed = omega (arith, boxed, old_is.boxed);
  }

  each : (q : ℕ) (x : RankHeld) → q < s.ranks → IsRankOf s q (length es) (get_or (set states r new) q x)
  each q x q_lt = elim (cases_eq q r) [
    | inl same ↦ rw same (subst (λ y. IsRankOf s r (length es) y) (sym (get_or-set_same states r new x (omega (arith, lt, is.size)))) new_is)
    | inr apart ↦ subst (λ y. IsRankOf s q (length es) y) (sym (get_or-set_other states r q new x apart)) (is.ranks q x q_lt)
  ]

  pub is_kept : IsWorld words s (world_of s (set states r new) after) es_after (set states r new)
  is_kept = rw entries (record {
    setting = is.setting;
    places = is.places;
    size = length-set states r new ∙ is.size;
    ranks = each;
    run = is.run;
    end = world_kept ∙ is.end;
  })

  pub step_room : 1 ≤ new.spare → 1 ≤ get_or (map (λ (x : RankHeld). x.spare) (set states r new)) r 0
  step_room room =
      let within : r < length states = omega (arith, lt, is.size) in
      omega (
        arith,
        room,
        get_or-map (λ (x : RankHeld). x.spare) (set states r new) r new 0 (omega (arith, within, length-set states r new)),
        ap (λ (x : RankHeld). x.spare) (get_or-set_same states r new new within),
      )
