-- What closed means: no pick, match, give-back and reply, and no call but beyond the scripts.
use Rattle.std.proofs.Common.{◌≡◌, ◌<◌, ◌&&◌, not, ℕ, zero, suc, Bool, true, false, List, [], ◌∷◌, length, get_or, if◌then◌else◌, Option, Some, None, refl, subst, arith}
use Rattle.std.specs.Prelude.{find}
use Rattle.std.specs.Option.{is_none}
use Rattle.std.specs.List.{list_any, list_all, range_with_len}
use Rattle.mpi_base.specs.MemberLists.{has_rank}
use Rattle.mpi_base.specs.declared.keys.Key.{Key}
use Rattle.mpi_base.specs.declared.ops.Op.{Op}
use Rattle.mpi_base.specs.declared.replies.Reply.{Reply}
use Rattle.mpi_law.specs.declared.setting.Setting.{Setting}
use Rattle.mpi_law.specs.declared.setting.TheConstants.{THREADS}
use Rattle.mpi_law.specs.ScriptLists.{AllScripts, next_op}
use Rattle.mpi_law.specs.Registry.State.{Registry, blank_creation, comm_at, creation_at, thread_of}
use Rattle.mpi_law.specs.Registry.Contexts.{key_place}
use Rattle.mpi_law.specs.Registry.Messages.{may_match, is_receive, is_message}
use Rattle.mpi_law.specs.Registry.Replies.{owed}
use Rattle.mpi_law.specs.Registry.Events.{Calls, Picks, Matches, Backs, Replies}
use Rattle.mpi_law.specs.Registry.Runs.{MayPick, Allowed}
use Rattle.mpi_law.specs.Closed.{is_served, is_picked_or_short, is_matched_out, is_back_or_held, is_settled, is_at_rest, is_closed}
use Rattle.run_law.proofs.Lists.{all_range_at}
use Rattle.run_law.proofs.Contexts.{comm_of_is, live_member}
use Rattle.run_law.proofs.Classes.{class_within, coloured}
use Rattle.closed_law.proofs.Lists.{member_at}

abbrev all_settled : Registry → Bool
all_settled g = list_all (is_settled g) (range_with_len 0 (length g.comms))

abbrev all_rest : Setting → AllScripts → Registry → Bool
all_rest s scripts g = list_all (λ r. list_all (is_at_rest scripts g r) (range_with_len 0 THREADS)) (range_with_len 0 s.ranks)

halves : (a b : Bool) → (a && b) ≡ true → (a ≡ true) × (b ≡ true)
halves true b e = (refl, e)
halves false b e = absurd (cc (e))

item_at : {A : Type 0} (p : A → Bool) (xs : List A) (d : A) (n : ℕ) → list_all p xs ≡ true → n < length xs → p (get_or xs n d) ≡ true
item_at p [] d n h lt = absurd (omega (arith, lt))
item_at p (x ∷ xs) d zero h lt = grind (arith, h)
item_at p (x ∷ xs) d (suc n) h lt = item_at p xs d n (grind (arith, h)) (omega (arith, lt))

found_holds : {A : Type 0} (p q : A → Bool) (xs : List A) (x : A) → list_all p xs ≡ true → find q xs ≡ Some x → p x ≡ true
found_holds p q [] x h e = absurd (cc (e))
found_holds p q (y ∷ ys) x h e = go (q y) e (found_holds p q ys x (grind (arith, h)))
  where
    go : (b : Bool) → (if b then Some y else find q ys) ≡ Some x → (find q ys ≡ Some x → p x ≡ true) → p x ≡ true
    go true f ih = let is : y ≡ x = cc (f) in subst (λ z. p z ≡ true) is (grind (arith, h))
    go false f ih = ih f

found_any : {A : Type 0} (p q : A → Bool) (xs : List A) (x : A) → list_any p xs ≡ false → find q xs ≡ Some x → p x ≡ false
found_any p q [] x h e = absurd (cc (e))
found_any p q (y ∷ ys) x h e = go (q y) e (found_any p q ys x (grind (arith, h)))
  where
    go : (b : Bool) → (if b then Some y else find q ys) ≡ Some x → (find q ys ≡ Some x → p x ≡ false) → p x ≡ false
    go true f ih = let is : y ≡ x = cc (f) in subst (λ z. p z ≡ false) is (grind (arith, h))
    go false f ih = ih f

none_is : {A : Type 0} (o : Option A) → is_none o ≡ true → o ≡ None
none_is None e = refl
none_is (Some a) e = absurd (cc (e))

module _ (s : Setting) (scripts : AllScripts) (g : Registry) (closed : is_closed s scripts g ≡ true) where
  parts : (list_all is_picked_or_short g.creations ≡ true) × (is_matched_out g ≡ true) × (all_settled g ≡ true) × (all_rest s scripts g ≡ true)
  unfolding is_closed
  parts =
      let one = halves (list_all is_picked_or_short g.creations) (is_matched_out g && (all_settled g && all_rest s scripts g)) closed in
      let two = halves (is_matched_out g) (all_settled g && all_rest s scripts g) one.1 in
      let three = halves (all_settled g) (all_rest s scripts g) two.1 in
      (one.0, two.0, three.0, three.1)

  thread_rests : (r t : ℕ) → r < s.ranks → t < THREADS → is_at_rest scripts g r t ≡ true
  thread_rests r t lr lt =
      let one = all_range_at (λ r. list_all (is_at_rest scripts g r) (range_with_len 0 THREADS)) 0 s.ranks r parts.3 (omega arith) (omega (arith, lr)) in
      all_range_at (is_at_rest scripts g r) 0 THREADS t one (omega arith) (omega (arith, lt))

  -- the rank of a pick has no outcome, and a colour
  no_pick : (r : ℕ) (key : Key) → MayPick g r key → ⊥
  no_pick r key m =
      let c = creation_at g (key_place g r key) in
      let row = item_at is_picked_or_short g.creations blank_creation (key_place g r key) parts.0 m.there in
      let all = m.all in
      let served : list_all (is_served c) c.group ≡ true = grind (arith, row, all) in
      let inside = class_within c r r (rw m.members m.member) in
      let mine = member_at (is_served c) c.group r served inside in
      let colour = coloured c r key.members m.members m.member in
      let none = m.unpicked in
      let z = rw (none, colour) at mine in
      cc (z)

  pub picks_end : (r : ℕ) (key : Key) (pick : Option ℕ) → Allowed s g (Picks r key pick) → ⊥
  picks_end r key None a = no_pick r key a.0
  picks_end r key (Some c) a = no_pick r key a.0

  pub matches_end : (r number from sent : ℕ) → Allowed s g (Matches r number from sent) → ⊥
  matches_end r number from sent m =
      let x = found_holds (λ x. not (list_any (may_match g x) g.messages)) (is_receive r number) g.receives m.receive parts.1 m.posted in
      let none = found_any (may_match g m.receive) (is_message from sent) g.messages m.message (grind (arith, x)) m.sent_there in
      let first = m.first in
      cc (none, first)

  pub backs_end : (r c dropped : ℕ) → Allowed s g (Backs r c dropped) → ⊥
  backs_end r c dropped m =
      let here = comm_of_is g.comms r c m.place m.here in
      let inside = here.inside in
      let settled : is_settled g m.place ≡ true = all_range_at (is_settled g) 0 (length g.comms) m.place parts.2 (omega arith) (omega (arith, inside)) in
      let live = here.live in
      let held = member_at (is_back_or_held g m.place) (comm_at g m.place).members r settled (live_member (comm_at g m.place) r live) in
      let freed = m.freed in
      let none = m.settled in
      let complete = m.complete in
      let back : has_rank (comm_at g m.place).returned r ≡ false = grind (arith, live) in
      let z = rw (back, freed, none, complete) at held in
      cc (z)

  pub replies_end : (r t : ℕ) (said : Reply) → r < s.ranks → t < THREADS → Allowed s g (Replies r t said) → ⊥
  replies_end r t said lr lt a =
      let rest = thread_rests r t lr lt in
      let none : is_none (owed g r t) ≡ true = grind (arith, rest) in
      let z : is_none (Some said) ≡ true = rw a at none in
      cc (z)

  pub calls_end : (r t : ℕ) (op : Op) (now : Bool) → Allowed s g (Calls r t op now) → next_op scripts r t (thread_of g r t).calls ≡ None
  calls_end r t op now a =
      let rest = thread_rests r t a.rank a.thread in
      let idle = a.idle in
      none_is (next_op scripts r t (thread_of g r t).calls) (grind (arith, rest, idle))
