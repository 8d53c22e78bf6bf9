-- Whether some rank has made its offer, as ranks in code tell it.
use Rattle.std.proofs.Common.{◌≡◌, ℕ, ◌<◌, ◌≤◌, ◌||◌, Bool, true, false, List, [], ◌∷◌, length, map, take, get_or, refl, sym, ap, ◌∙◌}
use Rattle.std.proofs.lemmas.List.{take_all}
use Rattle.std.proofs.lemmas.List.Folds.{list_any_at}
use Rattle.std.specs.List.{list_any}
use Rattle.mpi_base.specs.declared.keys.Key.{Key}
use Rattle.agree_law.specs.Part.{stage_of}
use Rattle.mpi_protocol.specs.Order.{is_offered}
use Rattle.mpi_protocol.specs.Rank.{Rank}
use Rattle.rank_core.specs.Held.{Held as RankHeld}

list_any-map : {X Y : Type 0} (p : Y → Bool) (f : X → Y) (xs : List X) → list_any p (map f xs) ≡ list_any (λ x. p (f x)) xs
list_any-map p f [] = refl
list_any-map p f (x ∷ xs) = ap (λ b. p (f x) || b) (list_any-map p f xs)

module _ (states : List RankHeld) (key : Key) where
  abbrev seen_by : Rank → Bool
  seen_by x = is_offered (stage_of x.agree.opened key)

  abbrev told_by : RankHeld → Bool
  told_by x = seen_by x.state

  pub offered_here : (i : ℕ) (x : RankHeld) → i < length states → x ≡ get_or states i x → is_offered (stage_of x.state.agree.opened key) ≡ true
      → list_any (λ (x : Rank). is_offered (stage_of x.agree.opened key)) (map (λ (x : RankHeld). x.state) states) ≡ true
  offered_here i x lt at e = list_any-map seen_by (λ (x : RankHeld). x.state) states ∙ list_any_at told_by states i x lt (ap told_by (sym at) ∙ e)

  pub offered_nowhere : (i : ℕ) → length states ≤ i → list_any (λ (x : RankHeld). is_offered (stage_of x.state.agree.opened key)) (take i states) ≡ false
      → list_any (λ (x : Rank). is_offered (stage_of x.agree.opened key)) (map (λ (x : RankHeld). x.state) states) ≡ false
  offered_nowhere i past none = list_any-map seen_by (λ (x : RankHeld). x.state) states ∙ ap (list_any told_by) (sym (take_all i states past)) ∙ none
