-- A rank frees communicators: what reads the registry's communicators goes on to hold. Only who has freed them changes.
use Rattle.std.proofs.Common.{◌≡◌, ℕ, ◌==◌, ◌&&◌, ◌||◌, not, if◌then◌else◌, Bool, true, false, List, [], length, refl, sym, ap, ◌∙◌, arith}
use Rattle.std.specs.List.{list_any}
use Rattle.std.proofs.lemmas.Bool.Decides.{nat_tests}
use Rattle.mpi_base.specs.MemberLists.{has_rank}
use Rattle.mpi_law.specs.Registry.State.{Communicator, session_at}
use Rattle.mpi_law.specs.Registry.Contexts.{comm_of, is_live_at}
use Rattle.mpi_law.specs.Registry.Calls.{with_freed}
use Rattle.comm_law.specs.declared.rows.CommRow.{CommRow}
use Rattle.run_law.proofs.Contexts.{Apart, Stay, has_rank-append}
use Rattle.run_law.proofs.Creations.{comm_in}
use Rattle.run_law.proofs.Comms.{FreeFits, is_other}
use Rattle.run_law.proofs.Wholes.{ParentFits, BackIsFreed}
use Rattle.run_law.proofs.SameComms.{SameAt}
use Rattle.run_law.proofs.ChangedComms.{ChangedBy, position_same}

-- the communicators after a rank has freed those at some places
pub record Freed (comms cs : List Communicator) (r : ℕ) (hit : ℕ → Bool) : Type 0 where
  pub long : length cs ≡ length comms
  pub row : (p : ℕ) → comm_in cs p ≡ (if hit p then with_freed r (comm_in comms p) else comm_in comms p)

module _ (comms cs : List Communicator) (r : ℕ) (hit : ℕ → Bool) (f : Freed comms cs r hit) where
  -- all but who has freed
  pub kept : {A : Type 0} (F : ℕ → List ℕ → List ℕ → List ℕ → A) (p : ℕ) → F (comm_in cs p).ctx (comm_in cs p).members (comm_in cs p).sessions (comm_in cs p).returned ≡ F (comm_in comms p).ctx (comm_in comms p).members (comm_in comms p).sessions (comm_in comms p).returned
  kept F p = rw (f.row p) (go (hit p))
    where
      go : (b : Bool) → F (if b then with_freed r (comm_in comms p) else comm_in comms p).ctx (if b then with_freed r (comm_in comms p) else comm_in comms p).members (if b then with_freed r (comm_in comms p) else comm_in comms p).sessions (if b then with_freed r (comm_in comms p) else comm_in comms p).returned ≡ F (comm_in comms p).ctx (comm_in comms p).members (comm_in comms p).sessions (comm_in comms p).returned
      go true = refl
      go false = refl

  abbrev remade : ℕ → List ℕ → List ℕ → List ℕ → Communicator
  remade c ms ss back = record { ctx = c; members = ms; sessions = ss; freed = []; returned = back }

  pub live_same : (p q : ℕ) → is_live_at (comm_in cs p) q ≡ is_live_at (comm_in comms p) q
  live_same p q = kept (λ c ms ss back. is_live_at (remade c ms ss back) q) p

  pub stands_same : (q c : ℕ) → comm_of cs q c ≡ comm_of comms q c
  stands_same q c = position_same (λ m. (m.ctx == c) && is_live_at m q) cs comms f.long (λ i. kept (λ d ms ss back. (d == c) && is_live_at (remade d ms ss back) q) i)

  pub stay : (q : ℕ) → Stay comms cs q
  stay q c p e = stands_same q c ∙ e

  -- who has freed it, but for the rank where it frees
  pub freed_else : (p q : ℕ) → (hit p ≡ true → q ≡ r → ⊥) → has_rank (comm_in cs p).freed q ≡ has_rank (comm_in comms p).freed q
  freed_else p q safe = rw (f.row p) (go (hit p) refl)
    where
      go : (b : Bool) → hit p ≡ b → has_rank (if b then with_freed r (comm_in comms p) else comm_in comms p).freed q ≡ has_rank (comm_in comms p).freed q
      go false e = refl
      go true e = has_rank-append (comm_in comms p).freed r q ∙ at (r == q) refl
        where
          at : (b : Bool) → (r == q) ≡ b → (has_rank (comm_in comms p).freed q || b) ≡ has_rank (comm_in comms p).freed q
          at true z = absurd (let is : r ≡ q = grind (arith, nat_tests, z) in safe e (sym is))
          at false z = last (has_rank (comm_in comms p).freed q)
            where
              last : (b : Bool) → (b || false) ≡ b
              last true = refl
              last false = refl

  pub freed_more : (p q : ℕ) → has_rank (comm_in comms p).freed q ≡ true → has_rank (comm_in cs p).freed q ≡ true
  freed_more p q h = rw (f.row p) (go (hit p))
    where
      go : (b : Bool) → has_rank (if b then with_freed r (comm_in comms p) else comm_in comms p).freed q ≡ true
      go false = h
      go true = has_rank-append (comm_in comms p).freed r q ∙ (rw h refl)

  -- No other rank sees it, and the rank sees it of those that it frees alone

  pub freed_changed : ChangedBy comms cs r
  freed_changed = record {
    long = f.long;
    ctx = kept (λ d ms ss back. d);
    members = kept (λ d ms ss back. ms);
    sessions = kept (λ d ms ss back. ss);
    freed = λ p q ne. freed_else p q (λ z w. ne w);
    returned = λ p q ne. kept (λ d ms ss back. has_rank back q) p;
  }

  pub freed_same : SameAt comms cs r (λ p. hit p ≡ true → ⊥)
  freed_same = record { members = kept (λ d ms ss back. ms); session = λ p. kept (λ d ms ss back. session_at (remade d ms ss back) r) p; stands = λ c p ok e. stay r c p e; freed = λ p ok. freed_else p r (λ z w. ok z) }

  -- Communicators

  pub waits_freed : (rows : List CommRow) (added q serial p : ℕ) → FreeFits comms rows added q serial p → FreeFits cs rows added q serial p
  waits_freed rows added q serial p h =
      record { inside = (let l = f.long in let i = h.inside in omega (arith, l, i)); member = kept (λ d ms ss back. has_rank ms q) p ∙ h.member; below = h.below; own = kept (λ d ms ss back. list_any (is_other serial d) rows) p ∙ h.own; gone = h.gone ∙ ap not (sym (kept (λ d ms ss back. has_rank back q) p)) }

  -- The registry alone

  pub apart_freed : Apart comms → Apart cs
  apart_freed h p q z lp lq hp hq e =
      let l = f.long in
      h p q z (omega (arith, lp, l)) (omega (arith, lq, l)) (sym (live_same p z) ∙ hp) (sym (live_same q z) ∙ hq) (sym (kept (λ d ms ss back. d) p) ∙ (e ∙ kept (λ d ms ss back. d) q))

  pub parent_freed : (p : ℕ) (group : List ℕ) → ParentFits comms p group → ParentFits cs p group
  parent_freed p group h =
      record {
        inside = (let l = f.long in let i = h.inside in omega (arith, l, i));
        within = λ z m. kept (λ d ms ss back. has_rank ms z) p ∙ h.within z m;
        held = λ z. kept (λ d ms ss back. has_rank back z) p ∙ h.held z;
      }

  pub back_freed : BackIsFreed comms → BackIsFreed cs
  back_freed h p z back q member = freed_more p q (h p z (sym (kept (λ d ms ss back. has_rank back z) p) ∙ back) q (sym (kept (λ d ms ss back. has_rank ms q) p) ∙ member))
