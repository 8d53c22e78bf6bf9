-- What a rank's own state keeps.
use Rattle.std.proofs.Common.{◌≡◌, ◌⊎◌, inl, inr, ◌<◌, ℕ, zero, suc, true, false, List, [], ◌∷◌, length, set, replicate, Option, Some, refl, sym, subst, ap, ◌∙◌, arith}
use Rattle.mpi_base.specs.declared.keys.Key.{Key}
use Rattle.mpi_base.specs.Keys.{same_key}
use Rattle.mpi_law.specs.declared.setting.Setting.{Setting}
use Rattle.mpi_law.specs.declared.setting.TheConstants.{THREADS}
use Rattle.mpi_law.specs.Local.Objects.{Local}
use Rattle.agree_law.specs.Part.{Agree}
use Rattle.agree_law.proofs.Lists.{AllOf, length-set}
use Rattle.comm_law.specs.Comms.{Comms, no_comms}
use Rattle.mpi_protocol.specs.declared.rows.ThreadRow.{ThreadRow}
use Rattle.mpi_protocol.specs.Rank.{Rank, fresh, thread_at, idle_thread, with_key}
use Rattle.projection_law.proofs.Operations.{GroupsFit}
use Rattle.projection_law.proofs.Rows.{RowFits, stands}
use Rattle.projection_law.proofs.Threads.{is_for, is_waited, WaitStands, Standing, waited_set, waited_new, all_set, standing_next, waited_other, waited_next}
use Rattle.projection_law.proofs.Parts.{MaskFits, mask_full, is_open, Turns}

-- the groups of names and the members of communicators are distinct ranks, those of a communicator with the rank among them; its
-- context is one of the setting; the mask has a place for each; for each open key a thread waits; and a key that counts on a
-- communicator has a lower number than its count, and the communicator is not left
pub record Sound (s : Setting) (r : ℕ) (x : Rank) : Type 0 where
  pub long : length x.threads ≡ THREADS
  pub groups : GroupsFit s.ranks x.local.names
  pub rows : AllOf (RowFits s.ranks s.contexts r) x.comms.rows
  pub mask : MaskFits s.contexts x.agree.mask
  pub waited : (k : Key) → is_open x.agree k ≡ true → is_waited x.threads k ≡ true
  pub standing : Standing x.comms x.threads

-- The opening

idle_waits : (n : ℕ) (comms : Comms) → Standing comms (replicate n idle_thread)
idle_waits zero comms = tt
idle_waits (suc n) comms = (tt, idle_waits n comms)

pub sound-fresh : (s : Setting) (r : ℕ) → Sound s r (fresh s r)
sound-fresh s r = record { long = refl; groups = tt; rows = tt; mask = mask_full s.contexts; waited = λ k e. absurd (cc (e)); standing = idle_waits THREADS no_comms }

-- Changes of a rank

-- what the sound facts see is the same
pub record Alike (x y : Rank) : Type 0 where
  pub threads : y.threads ≡ x.threads
  pub local : y.local ≡ x.local
  pub comms : y.comms ≡ x.comms
  pub agree : y.agree ≡ x.agree

pub sound_alike : (s : Setting) (r : ℕ) (x y : Rank) → Alike x y → Sound s r x → Sound s r y
sound_alike s r x y a h = record {
  long = ap length a.threads ∙ h.long;
  groups = subst (λ (l : Local). GroupsFit s.ranks l.names) (sym a.local) h.groups;
  rows = subst (λ (t : Comms). AllOf (RowFits s.ranks s.contexts r) t.rows) (sym a.comms) h.rows;
  mask = subst (λ (b : Agree). MaskFits s.contexts b.mask) (sym a.agree) h.mask;
  waited = λ k e. subst (λ ts. is_waited ts k ≡ true) (sym a.threads) (h.waited k (subst (λ b. is_open b k ≡ true) a.agree e));
  standing = subst (λ t. Standing t y.threads) (sym a.comms) (subst (λ ts. Standing x.comms ts) (sym a.threads) h.standing);
}

-- no thread changes
pub record Still (s : Setting) (r : ℕ) (x y : Rank) : Type 0 where
  pub threads : y.threads ≡ x.threads
  pub groups : GroupsFit s.ranks y.local.names
  pub rows : AllOf (RowFits s.ranks s.contexts r) y.comms.rows
  pub mask : MaskFits s.contexts y.agree.mask
  pub old : (k : Key) → is_open y.agree k ≡ true → is_open x.agree k ≡ true
  pub standing : Standing y.comms x.threads

pub sound_still : (s : Setting) (r : ℕ) (x y : Rank) → Still s r x y → Sound s r x → Sound s r y
sound_still s r x y c h = record {
  long = ap length c.threads ∙ h.long;
  groups = c.groups;
  rows = c.rows;
  mask = c.mask;
  waited = λ k e. subst (λ ts. is_waited ts k ≡ true) (sym c.threads) (h.waited k (c.old k e));
  standing = subst (λ ts. Standing y.comms ts) (sym c.threads) c.standing;
}

-- one thread changes
pub record OneThread (s : Setting) (r : ℕ) (x y : Rank) (t : ℕ) (row : ThreadRow) : Type 0 where
  pub threads : y.threads ≡ set x.threads t row
  pub inside : t < THREADS
  pub groups : GroupsFit s.ranks y.local.names
  pub rows : AllOf (RowFits s.ranks s.contexts r) y.comms.rows
  pub mask : MaskFits s.contexts y.agree.mask
  pub old : (k : Key) → is_open y.agree k ≡ true → ((is_open x.agree k ≡ true) × (is_for k (thread_at x t).waits ≡ false)) ⊎ (is_for k row.waits ≡ true)
  pub standing : Standing y.comms x.threads
  pub new : WaitStands y.comms row.waits

pub sound_one : (s : Setting) (r : ℕ) (x y : Rank) (t : ℕ) (row : ThreadRow) → OneThread s r x y t row → Sound s r x → Sound s r y
sound_one s r x y t row c h = record {
  long = ap length c.threads ∙ (length-set x.threads t row ∙ h.long);
  groups = c.groups;
  rows = c.rows;
  mask = c.mask;
  waited = λ k e. subst (λ ts. is_waited ts k ≡ true) (sym c.threads) (go k (c.old k e));
  standing = subst (λ ts. Standing y.comms ts) (sym c.threads) (all_set (λ (z : ThreadRow). WaitStands y.comms z.waits) x.threads t row c.new c.standing);
}
  where
    go : (k : Key) → ((is_open x.agree k ≡ true) × (is_for k (thread_at x t).waits ≡ false)) ⊎ (is_for k row.waits ≡ true) → is_waited (set x.threads t row) k ≡ true
    go k (inl b) = waited_set x.threads t row k (h.waited k b.0) b.1
    go k (inr e) = waited_new x.threads t row k (let i = c.inside in let l = h.long in omega (arith, i, l)) e

-- a creation goes on under another key, or without a colour
pub record Turned (s : Setting) (r : ℕ) (x y : Rank) (key : Key) (next : Option Key) : Type 0 where
  pub threads : y.threads ≡ with_key x.threads key next
  pub local : y.local ≡ x.local
  pub comms : y.comms ≡ x.comms
  pub turns : Turns s.contexts x.agree y.agree key next
  pub next_stands : (k : Key) → next ≡ Some k → stands x.comms key ≡ true → stands x.comms k ≡ true

length_with : (ts : List ThreadRow) (key : Key) (next : Option Key) → length (with_key ts key next) ≡ length ts
length_with [] key next = refl
length_with (t ∷ ts) key next = let ih = length_with ts key next in omega (arith, ih)

pub sound_turned : (s : Setting) (r : ℕ) (x y : Rank) (key : Key) (next : Option Key) → Turned s r x y key next → Sound s r x → Sound s r y
sound_turned s r x y key next c h = record {
  long = ap length c.threads ∙ (length_with x.threads key next ∙ h.long);
  groups = subst (λ (l : Local). GroupsFit s.ranks l.names) (sym c.local) h.groups;
  rows = subst (λ (t : Comms). AllOf (RowFits s.ranks s.contexts r) t.rows) (sym c.comms) h.rows;
  mask = c.turns.mask h.mask;
  waited = λ k e. subst (λ ts. is_waited ts k ≡ true) (sym c.threads) (go k (c.turns.old k e));
  standing = subst (λ t. Standing t y.threads) (sym c.comms) (subst (λ ts. Standing x.comms ts) (sym c.threads) (standing_next x.comms x.threads key next c.next_stands h.standing));
}
  where
    go : (k : Key) → ((same_key key k ≡ false) × (is_open x.agree k ≡ true)) ⊎ (next ≡ Some k) → is_waited (with_key x.threads key next) k ≡ true
    go k (inl b) = waited_other x.threads key k next b.0 (h.waited k b.1)
    go k (inr e) = rw e (waited_next x.threads key k (h.waited key c.turns.was))
