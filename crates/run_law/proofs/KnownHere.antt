-- A communicator that a name is bound to: what the rank and the registry keep of it.
use Rattle.std.proofs.Common.{◌≡◌, ℕ, ◌==◌, Bool, true, false, List, Option, Some, None, refl, sym, ap, ◌∙◌, subst, arith}
use Rattle.std.specs.Option.{is_some}
use Rattle.std.proofs.lemmas.Bool.Decides.{nat_tests}
use Rattle.mpi_law.specs.declared.setting.Setting.{Setting}
use Rattle.mpi_law.specs.Registry.State as reg
use Rattle.mpi_law.specs.Registry.State.{Registry}
use Rattle.mpi_law.specs.Registry.Contexts.{comm_of}
use Rattle.comm_law.specs.declared.rows.CommRow.{CommRow}
use Rattle.comm_law.specs.Comms.{comm_at}
use Rattle.mpi_protocol.specs.Rank.{Rank}
use Rattle.run_law.proofs.Rows.{row_in}
use Rattle.due_law.specs.Dues.{Dues}
use Rattle.run_law.proofs.Locals.{CommNamed}
use Rattle.run_law.proofs.Creations.{comm_in}
use Rattle.run_law.proofs.Comms.{CommFits, KnownComm}
use Rattle.run_law.proofs.Contexts.{comm_of_is}
use Rattle.run_law.proofs.Joined.{rank_in, Joined}

-- its row at the rank
pub record Here (s : Setting) (ranks : List Rank) (due : Dues) (g : Registry) (r c p : ℕ) : Type 0 where
  pub row : CommRow
  pub is : row_in (rank_in ranks r).comms.rows c ≡ Some row
  pub fits : KnownComm g.comms g.creations r row p

pub known_here : (s : Setting) (ranks : List Rank) (due : Dues) (g : Registry) (r : ℕ) (j : Joined s ranks due g) (c session p q : ℕ) → CommNamed g.comms (rank_in ranks r).comms.rows r c session p q → Here s ranks due g r c p
known_here s ranks due g r j c session p q h = go (row_in (rank_in ranks r).comms.rows c) refl (comm_of g.comms r c) h.stands ((j.comms r).each c)
  where
    go : (o : Option CommRow) → row_in (rank_in ranks r).comms.rows c ≡ o → (i : Option ℕ) → i ≡ Some p → CommFits g.comms g.creations r (rank_in ranks r).agree.owner (due r) c o i → Here s ranks due g r c p
    go None e i f k = absurd (let z = h.known in let y : is_some (row_in (rank_in ranks r).comms.rows c) ≡ false = rw e refl in cc (z, y))
    go (Some m) e None f k = absurd k
    go (Some m) e (Some i) f k = let is : i ≡ p = cc (f) in record { row = m; is = e; fits = subst (λ (n : ℕ). KnownComm g.comms g.creations r m n) is k }

-- its members are the same
pub members_agree : (s : Setting) (ranks : List Rank) (due : Dues) (g : Registry) (r : ℕ) (j : Joined s ranks due g) (c session p q : ℕ) → CommNamed g.comms (rank_in ranks r).comms.rows r c session p q → (comm_at (rank_in ranks r).comms c).members ≡ (reg.comm_at g p).members
members_agree s ranks due g r j c session p q h =
    let k = known_here s ranks due g r j c session p q h in
    let e = k.is in
    let row : comm_at (rank_in ranks r).comms c ≡ k.row = rw e refl in
    ap (λ (m : CommRow). m.members) row ∙ k.fits.members

-- two contexts are one where their places are
pub contexts_agree : (s : Setting) (ranks : List Rank) (due : Dues) (g : Registry) (r c d p q : ℕ) → comm_of g.comms r c ≡ Some p → comm_of g.comms r d ≡ Some q → (c == d) ≡ (p == q)
contexts_agree s ranks due g r c d p q e f = go (c == d) refl (p == q) refl
  where
    go : (a : Bool) → (c == d) ≡ a → (b : Bool) → (p == q) ≡ b → (c == d) ≡ (p == q)
    go true x true y = x ∙ sym y
    go false x false y = x ∙ sym y
    go true x false y =
        let is : c ≡ d = grind (arith, nat_tests, x) in
        let there : comm_of g.comms r d ≡ Some p = subst (λ (i : ℕ). comm_of g.comms r i ≡ Some p) is e in
        let same : p ≡ q = cc (there, f) in
        absurd (grind (arith, nat_tests, same, y))
    go false x true y =
        let is : p ≡ q = grind (arith, nat_tests, y) in
        let one = (comm_of_is g.comms r c p e).context in
        let two = (comm_of_is g.comms r d q f).context in
        let same : c ≡ d = sym one ∙ (ap (λ (i : ℕ). (comm_in g.comms i).ctx) is ∙ two) in
        absurd (grind (arith, nat_tests, same, x))
