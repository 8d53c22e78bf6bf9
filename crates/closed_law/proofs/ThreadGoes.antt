-- One thread of one rank goes on in the registry, and all others wait for what they waited for.
use Rattle.std.proofs.Common.{◌≡◌, ◌≢◌, ◌⊎◌, ◌<◌, ◌≤◌, ℕ, List, length, get_or, set, refl, ap, ◌∙◌, inl, inr, arith, length-set}
use Rattle.mpi_law.specs.Registry.State.{Registry, RankPart, ThreadPart, blank_part, idle_thread, part_of, thread_of}
use Rattle.run_law.proofs.Lists.{set_place}

pub record ThreadGoes (g new : Registry) (r t : ℕ) : Type 0 where
  pub ranks : length new.ranks ≡ length g.ranks
  pub threads : (q : ℕ) → length (part_of new q).threads ≡ length (part_of g q).threads
  pub others : (q u : ℕ) → ((q ≡ r) → (u ≡ t) → ⊥) → thread_of new q u ≡ thread_of g q u

pub goes_same : (g new : Registry) (r t : ℕ) → new.ranks ≡ g.ranks → ThreadGoes g new r t
goes_same g new r t e = record {
  ranks = ap length e;
  threads = λ q. ap (λ (ps : List RankPart). length (get_or ps q blank_part).threads) e;
  others = λ q u ne. ap (λ (ps : List RankPart). get_or (get_or ps q blank_part).threads u idle_thread) e;
}

pub goes_on : (g h new : Registry) (r t : ℕ) → ThreadGoes g h r t → ThreadGoes h new r t → ThreadGoes g new r t
goes_on g h new r t a b = record {
  ranks = b.ranks ∙ a.ranks;
  threads = λ q. b.threads q ∙ a.threads q;
  others = λ q u ne. b.others q u ne ∙ a.others q u ne;
}

-- the part of the rank is set
pub goes_set : (g new : Registry) (r t : ℕ) (p : RankPart) → new.ranks ≡ set g.ranks r p → length p.threads ≡ length (part_of g r).threads → ((u : ℕ) → u ≢ t → get_or p.threads u idle_thread ≡ thread_of g r u) → ThreadGoes g new r t
goes_set g new r t p e long same = record {
  ranks = ap length e ∙ length-set g.ranks r p;
  threads = λ q. rw e (threads q (set_place g.ranks r p blank_part q));
  others = λ q u ne. rw e (others q u ne (set_place g.ranks r p blank_part q));
}
  where
    threads : (q : ℕ) → ((q ≡ r) × (r < length g.ranks) × (get_or (set g.ranks r p) q blank_part ≡ p)) ⊎ (((q ≢ r) ⊎ (length g.ranks ≤ r)) × (get_or (set g.ranks r p) q blank_part ≡ get_or g.ranks q blank_part)) → length (get_or (set g.ranks r p) q blank_part).threads ≡ length (part_of g q).threads
    threads q (inl a) = rw (a.2, a.0) long
    threads q (inr a) = rw a.1 refl

    others : (q u : ℕ) → ((q ≡ r) → (u ≡ t) → ⊥) → ((q ≡ r) × (r < length g.ranks) × (get_or (set g.ranks r p) q blank_part ≡ p)) ⊎ (((q ≢ r) ⊎ (length g.ranks ≤ r)) × (get_or (set g.ranks r p) q blank_part ≡ get_or g.ranks q blank_part)) → get_or (get_or (set g.ranks r p) q blank_part).threads u idle_thread ≡ thread_of g q u
    others q u ne (inl a) = rw (a.2, a.0) (same u (λ k. ne a.0 k))
    others q u ne (inr a) = rw a.1 refl

-- a thread of it is set
pub goes_thread : (g new : Registry) (r t : ℕ) (p : RankPart) (row : ThreadPart) → new.ranks ≡ set g.ranks r p → p.threads ≡ set (part_of g r).threads t row → ThreadGoes g new r t
goes_thread g new r t p row e is = goes_set g new r t p e (ap length is ∙ length-set (part_of g r).threads t row) (λ u ne. rw is (other u ne (set_place (part_of g r).threads t row idle_thread u)))
  where
    other : (u : ℕ) → u ≢ t → ((u ≡ t) × (t < length (part_of g r).threads) × (get_or (set (part_of g r).threads t row) u idle_thread ≡ row)) ⊎ (((u ≢ t) ⊎ (length (part_of g r).threads ≤ t)) × (get_or (set (part_of g r).threads t row) u idle_thread ≡ get_or (part_of g r).threads u idle_thread)) → get_or (set (part_of g r).threads t row) u idle_thread ≡ thread_of g r u
    other u ne (inl a) = absurd (ne a.0)
    other u ne (inr a) = a.1

-- what the thread itself is then
pub here_set : (g new : Registry) (r t : ℕ) (p : RankPart) (row : ThreadPart) → new.ranks ≡ set g.ranks r p → p.threads ≡ set (part_of g r).threads t row → r < length g.ranks → t < length (part_of g r).threads → thread_of new r t ≡ row
here_set g new r t p row e is lr lt = rw e (at (set_place g.ranks r p blank_part r))
  where
    thread : ((t ≡ t) × (t < length (part_of g r).threads) × (get_or (set (part_of g r).threads t row) t idle_thread ≡ row)) ⊎ (((t ≢ t) ⊎ (length (part_of g r).threads ≤ t)) × (get_or (set (part_of g r).threads t row) t idle_thread ≡ get_or (part_of g r).threads t idle_thread)) → get_or (set (part_of g r).threads t row) t idle_thread ≡ row
    thread (inl a) = a.2
    thread (inr a) = absurd (let d = a.0 in grind (arith, d, lt))

    at : ((r ≡ r) × (r < length g.ranks) × (get_or (set g.ranks r p) r blank_part ≡ p)) ⊎ (((r ≢ r) ⊎ (length g.ranks ≤ r)) × (get_or (set g.ranks r p) r blank_part ≡ get_or g.ranks r blank_part)) → get_or (get_or (set g.ranks r p) r blank_part).threads t idle_thread ≡ row
    at (inl a) = rw (a.2, is) (thread (set_place (part_of g r).threads t row idle_thread t))
    at (inr a) = absurd (let d = a.0 in grind (arith, d, lr))
