-- What a context stands for at a rank, and what a key stands for.
use Rattle.std.proofs.Common.{◌≡◌, ℕ, zero, suc, ◌+◌, ◌<◌, ◌==◌, ◌&&◌, ◌||◌, if◌then◌else◌, Bool, true, false, List, [], ◌∷◌, ◌++◌, length, get_or, position, option_map, nat_lt, Option, Some, None, refl, ◌∙◌, subst, arith, ap, sym}
use Rattle.std.specs.Option.{is_some}
use Rattle.std.specs.List.{list_any}
use Rattle.std.proofs.lemmas.Bool.Decides.{nat_tests}
use Rattle.mpi_base.specs.MemberLists.{has_rank}
use Rattle.mpi_law.specs.Registry.State.{Communicator, blank_comm}
use Rattle.mpi_law.specs.Registry.Contexts.{comm_of, in_use, is_live_at}
use Rattle.run_law.proofs.Lists.{get_or-append, get_or-last, length-snoc}
use Rattle.run_law.proofs.Rows.{or_else}

-- the first place among a first item and others
pub position_cons : {A : Type 0} (p : A → Bool) (x : A) (xs : List A) → position p (x ∷ xs) ≡ (if p x then Some 0 else option_map suc (position p xs))
position_cons p x xs = grind (arith, nat_tests)

-- a context is in use exactly where it stands for a communicator
pub in_use_is : (comms : List Communicator) (r c : ℕ) → in_use comms r c ≡ is_some (comm_of comms r c)
in_use_is [] r c = refl
in_use_is (m ∷ ms) r c = rw (position_cons (λ q. (q.ctx == c) && is_live_at q r) m ms) (go ((m.ctx == c) && is_live_at m r) (comm_of ms r c) (in_use_is ms r c))
  where
    go : (b : Bool) (o : Option ℕ) → in_use ms r c ≡ is_some o → (b || in_use ms r c) ≡ is_some (if b then Some 0 else option_map suc o)
    go true o ih = refl
    go false None ih = ih
    go false (Some p) ih = ih

-- the place is of a communicator with this context, live at the rank
pub record IsHere (comms : List Communicator) (r c p : ℕ) : Type 0 where
  pub inside : p < length comms
  pub context : (get_or comms p blank_comm).ctx ≡ c
  pub live : is_live_at (get_or comms p blank_comm) r ≡ true

pub comm_of_is : (comms : List Communicator) (r c p : ℕ) → comm_of comms r c ≡ Some p → IsHere comms r c p
comm_of_is [] r c p e = absurd (cc (e))
comm_of_is (m ∷ ms) r c p e = go ((m.ctx == c) && is_live_at m r) refl (comm_of ms r c) refl (comm_of_is ms r c) (rw (position_cons (λ q. (q.ctx == c) && is_live_at q r) m ms) at e)
  where
    go : (b : Bool) → ((m.ctx == c) && is_live_at m r) ≡ b → (o : Option ℕ) → comm_of ms r c ≡ o → ((q : ℕ) → o ≡ Some q → IsHere ms r c q) → (if b then Some 0 else option_map suc o) ≡ Some p → IsHere (m ∷ ms) r c p
    go true t o q ih h =
        let z : 0 ≡ p = cc (h) in
        subst (λ (i : ℕ). IsHere (m ∷ ms) r c i) z (record { inside = omega arith; context = grind (arith, nat_tests, t); live = grind (arith, t) })
    go false t None q ih h = absurd (cc (h))
    go false t (Some i) q ih h =
        let z : suc i ≡ p = cc (h) in
        let k = ih i refl in
        let l = k.inside in
        subst (λ (i : ℕ). IsHere (m ∷ ms) r c i) z (record { inside = omega (arith, l); context = k.context; live = k.live })

pub has_rank-append : (ms : List ℕ) (q r : ℕ) → has_rank (ms ++ q ∷ []) r ≡ (has_rank ms r || (q == r))
has_rank-append [] q r = grind (arith)
has_rank-append (m ∷ ms) q r = let ih = has_rank-append ms q r in grind (arith, ih)

-- a rank at which a communicator is live is a member of it
pub live_member : (m : Communicator) (r : ℕ) → is_live_at m r ≡ true → has_rank m.members r ≡ true
live_member m r e = grind (arith, e)

pub comm_of-append : (comms : List Communicator) (m : Communicator) (r c : ℕ) → comm_of (comms ++ m ∷ []) r c ≡ or_else (comm_of comms r c) (if (m.ctx == c) && is_live_at m r then Some (length comms) else None)
comm_of-append [] m r c = rw (position_cons (λ q. (q.ctx == c) && is_live_at q r) m []) (go ((m.ctx == c) && is_live_at m r))
  where
    go : (b : Bool) → (if b then Some 0 else option_map suc None) ≡ (if b then Some 0 else None)
    go true = refl
    go false = refl
comm_of-append (x ∷ xs) m r c = rw (position_cons (λ q. (q.ctx == c) && is_live_at q r) x xs, position_cons (λ q. (q.ctx == c) && is_live_at q r) x (xs ++ m ∷ [])) (go ((x.ctx == c) && is_live_at x r) ((m.ctx == c) && is_live_at m r) (comm_of xs r c) (comm_of (xs ++ m ∷ []) r c) (comm_of-append xs m r c))
  where
    go : (a b : Bool) (o n : Option ℕ) → n ≡ or_else o (if b then Some (length xs) else None) → (if a then Some 0 else option_map suc n) ≡ or_else (if a then Some 0 else option_map suc o) (if b then Some (suc (length xs)) else None)
    go true b o n ih = refl
    go false true None n ih = rw ih refl
    go false false None n ih = rw ih refl
    go false b (Some p) n ih = rw ih refl

-- each context that stands for a communicator at a rank goes on to stand for it
abbrev pub Stay : List Communicator → List Communicator → ℕ → Type 0
Stay old new r = (c p : ℕ) → comm_of old r c ≡ Some p → comm_of new r c ≡ Some p

-- and the communicators stay as they are
pub record Keeps (old new : List Communicator) (r : ℕ) : Type 0 where
  pub stands : Stay old new r
  pub same : (c p : ℕ) → comm_of old r c ≡ Some p → get_or new p blank_comm ≡ get_or old p blank_comm

-- one more communicator at the end
pub stay_more : (comms : List Communicator) (m : Communicator) (r : ℕ) → Stay comms (comms ++ m ∷ []) r
stay_more comms m r c p e = comm_of-append comms m r c ∙ (rw e refl)

-- Live communicators at one rank have different contexts

pub in_use_at : (comms : List Communicator) (p r : ℕ) → p < length comms → is_live_at (get_or comms p blank_comm) r ≡ true → in_use comms r (get_or comms p blank_comm).ctx ≡ true
in_use_at [] p r lt h = absurd (omega arith)
in_use_at (m ∷ ms) zero r lt h = grind (arith, nat_tests, h)
in_use_at (m ∷ ms) (suc p) r lt h = let ih = in_use_at ms p r (omega arith) h in grind (arith, ih)

pub any_member : (f : ℕ → Bool) (ms : List ℕ) (r : ℕ) → list_any f ms ≡ false → has_rank ms r ≡ true → f r ≡ false
any_member f [] r h m = absurd (cc (m))
any_member f (x ∷ xs) r h m = go (x == r) refl (any_member f xs r)
  where
    go : (b : Bool) → (x == r) ≡ b → (list_any f xs ≡ false → has_rank xs r ≡ true → f r ≡ false) → f r ≡ false
    go true e ih = let is : x ≡ r = grind (arith, nat_tests, e) in subst (λ (i : ℕ). f i ≡ false) is (grind (arith, h))
    go false e ih = ih (grind (arith, h)) (grind (arith, m, e))

abbrev pub Apart : List Communicator → Type 0
Apart comms =
    (p q r : ℕ) → p < length comms → q < length comms → is_live_at (get_or comms p blank_comm) r ≡ true → is_live_at (get_or comms q blank_comm) r ≡ true → (get_or comms p blank_comm).ctx ≡ (get_or comms q blank_comm).ctx → p ≡ q

-- one communicator more, with a context that is in use at no member
pub picked_apart : (comms : List Communicator) (made : Communicator) → Apart comms → list_any (λ m. in_use comms m made.ctx) made.members ≡ false → Apart (comms ++ made ∷ [])
picked_apart comms made old free p q r lp lq hp hq e = go (nat_lt p (length comms)) (nat_lt q (length comms)) refl refl
  where
    long : length (comms ++ made ∷ []) ≡ length comms + 1
    long = length-snoc comms made

    at : (i : ℕ) → i < length comms → get_or (comms ++ made ∷ []) i blank_comm ≡ get_or comms i blank_comm
    at i li = get_or-append comms made blank_comm i li

    last : (i : ℕ) → i ≡ length comms → get_or (comms ++ made ∷ []) i blank_comm ≡ made
    last i li = rw li (get_or-last comms made blank_comm)

    -- the new one and an old one
    clash : (i : ℕ) → i < length comms → is_live_at (get_or comms i blank_comm) r ≡ true → is_live_at made r ≡ true → made.ctx ≡ (get_or comms i blank_comm).ctx → ⊥
    clash i li h m eq =
        let used = in_use_at comms i r li h in
        let unused = any_member (λ m. in_use comms m made.ctx) made.members r free (live_member made r m) in
        let used' : in_use comms r made.ctx ≡ true = subst (λ (d : ℕ). in_use comms r d ≡ true) (sym eq) used in
        cc (used', unused)

    go : (a b : Bool) → nat_lt p (length comms) ≡ a → nat_lt q (length comms) ≡ b → p ≡ q
    go true true ea eb =
        let la : p < length comms = grind (arith, nat_tests, ea) in
        let lb : q < length comms = grind (arith, nat_tests, eb) in
        let pa = at p la in
        let qa = at q lb in
        old p q r la lb (rw pa at hp) (rw qa at hq) (sym (ap (λ (m : Communicator). m.ctx) pa) ∙ (e ∙ ap (λ (m : Communicator). m.ctx) qa))
    go true false ea eb =
        let la : p < length comms = grind (arith, nat_tests, ea) in
        let qe : q ≡ length comms = let l = long in grind (arith, nat_tests, eb, l, lq) in
        let pa = at p la in
        let qa = last q qe in
        absurd (clash p la (rw pa at hp) (rw qa at hq) (sym (ap (λ (m : Communicator). m.ctx) qa) ∙ (sym e ∙ ap (λ (m : Communicator). m.ctx) pa)))
    go false true ea eb =
        let pe : p ≡ length comms = let l = long in grind (arith, nat_tests, ea, l, lp) in
        let lb : q < length comms = grind (arith, nat_tests, eb) in
        let pa = last p pe in
        let qa = at q lb in
        absurd (clash q lb (rw qa at hq) (rw pa at hp) (sym (ap (λ (m : Communicator). m.ctx) pa) ∙ (e ∙ ap (λ (m : Communicator). m.ctx) qa)))
    go false false ea eb = let l = long in grind (arith, nat_tests, ea, eb, l, lp, lq)

-- a communicator that is live at a rank is what its context stands for there
pub comm_of_live : (comms : List Communicator) (r p : ℕ) → Apart comms → p < length comms → is_live_at (get_or comms p blank_comm) r ≡ true → comm_of comms r (get_or comms p blank_comm).ctx ≡ Some p
comm_of_live comms r p apart lt live = go (comm_of comms r (get_or comms p blank_comm).ctx) refl
  where
    go : (o : Option ℕ) → comm_of comms r (get_or comms p blank_comm).ctx ≡ o → o ≡ Some p
    go None e =
        let used = in_use_at comms p r lt live in
        let is = in_use_is comms r (get_or comms p blank_comm).ctx in
        absurd (let z : in_use comms r (get_or comms p blank_comm).ctx ≡ false = is ∙ ap is_some e in cc (z, used))
    go (Some q) e =
        let h = comm_of_is comms r (get_or comms p blank_comm).ctx q e in
        ap (λ (i : ℕ). Some i) (apart q p r h.inside lt h.live live h.context)
