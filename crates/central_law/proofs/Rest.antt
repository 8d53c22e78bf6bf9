-- What keeps the registry at rest.
use Rattle.std.proofs.Common.{◌≡◌, ℕ, zero, suc, not, Bool, true, List, length, get_or, set, replicate, refl, ap, ◌∙◌, length-set}
use Rattle.std.specs.List.{list_all}
use Rattle.std.proofs.lemmas.List.{length-replicate}
use Rattle.mpi_law.specs.declared.setting.Setting.{Setting}
use Rattle.mpi_law.specs.declared.setting.TheConstants.{THREADS}
use Rattle.mpi_law.specs.declared.effects.Effect.{Effect}
use Rattle.mpi_law.specs.declared.effects.Effect.TheVariants as effect
use Rattle.mpi_law.specs.Registry.State as reg
use Rattle.mpi_law.specs.Registry.State.{Registry, RankPart, ThreadPart, Wait, idle_thread, blank_part, registry_opening, part_of, thread_of, creation_at, is_within_call, is_between_calls, with_wait}
use Rattle.central_law.specs.Rest.{AtRest}
use Rattle.central_law.specs.After.{wait_after, part_answered, answered_state}
use Rattle.central_law.proofs.Lists.{at_set, all_at, all_set}

abbrev is_out : ThreadPart → Bool
is_out row = not (is_within_call row.wait)

abbrev are_out : RankPart → Bool
are_out p = list_all is_out p.threads

module _ (s : Setting) where
  out_at : (g : Registry) (r : ℕ) → AtRest s g → are_out (part_of g r) ≡ true
  out_at g r h = all_at are_out g.ranks blank_part r h.between refl

  pub rest_same : (g h : Registry) → h.ranks ≡ g.ranks → AtRest s g → AtRest s h
  rest_same g h is rest = record {
    between = ap (λ (ranks : List RankPart). list_all are_out ranks) is ∙ rest.between;
    ranks = ap (λ (ranks : List RankPart). length ranks) is ∙ rest.ranks;
    threads = λ r. ap (λ (ranks : List RankPart). length (get_or ranks r blank_part).threads) is ∙ rest.threads r;
  }

  -- one rank changes, and its threads are there and out of calls
  rest_set : (g h : Registry) (r : ℕ) (p : RankPart) → h.ranks ≡ set g.ranks r p → are_out p ≡ true → length p.threads ≡ THREADS → AtRest s g → AtRest s h
  rest_set g h r p is out all rest = record {
    between = ap (λ (ranks : List RankPart). list_all are_out ranks) is ∙ all_set are_out g.ranks r p rest.between out;
    ranks = ap (λ (ranks : List RankPart). length ranks) is ∙ (length-set g.ranks r p ∙ rest.ranks);
    threads = λ q. ap (λ (ranks : List RankPart). length (get_or ranks q blank_part).threads) is ∙ at_set (λ (x : RankPart). length x.threads ≡ THREADS) g.ranks r p blank_part q all (rest.threads q);
  }

  -- one thread of it changes
  pub rest_thread : (g h : Registry) (r t : ℕ) (p : RankPart) (row : ThreadPart) → h.ranks ≡ set g.ranks r p → p.threads ≡ set (part_of g r).threads t row → is_out row ≡ true → AtRest s g → AtRest s h
  rest_thread g h r t p row is threads out rest =
      rest_set g h r p is
      (ap (λ (ts : List ThreadPart). list_all is_out ts) threads ∙ all_set is_out (part_of g r).threads t row (out_at g r rest) out)
      (ap (λ (ts : List ThreadPart). length ts) threads ∙ (length-set (part_of g r).threads t row ∙ rest.threads r))
      rest

  pub rest_answered : (g : Registry) (r t : ℕ) (w : Wait) → AtRest s g → AtRest s (answered_state g r t w)
  rest_answered g r t w rest = rest_thread g (answered_state g r t w) r t (part_answered g r t w) (record { calls = (thread_of g r t).calls; wait = reg.Idle }) refl refl refl rest

  blank_out : (n : ℕ) → list_all are_out (replicate n blank_part) ≡ true
  blank_out zero = refl
  blank_out (suc n) = blank_out n

  blank_there : (n : ℕ) → length (replicate n blank_part) ≡ n
  blank_there n = length-replicate n blank_part

  blank_at : (n r : ℕ) → length (get_or (replicate n blank_part) r blank_part).threads ≡ THREADS
  blank_at zero r = refl
  blank_at (suc n) zero = refl
  blank_at (suc n) (suc r) = blank_at n r

  pub rest_opening : AtRest s (registry_opening s)
  rest_opening = record { between = blank_out s.ranks; ranks = blank_there s.ranks; threads = blank_at s.ranks }

-- a call leaves its thread out of calls
pub out_after : (g : Registry) (r : ℕ) (e : Effect ℕ) → not (is_within_call (wait_after g r e)) ≡ true
out_after g r (effect.Says said) = refl
out_after g r (effect.Opens target) = refl
out_after g r (effect.Groups target members session) = refl
out_after g r (effect.Ungroups name) = refl
out_after g r (effect.Joins a) = refl
out_after g r (effect.Frees name p) = refl
out_after g r (effect.Ends name session) = refl
out_after g r (effect.Sends m) = refl
out_after g r (effect.Receives x) = refl
out_after g r (effect.Posts target x) = refl
out_after g r (effect.NullPosts target) = refl
out_after g r (effect.Completes name number) = refl
out_after g r (effect.Awaits name) = refl
