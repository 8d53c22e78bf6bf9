-- The serials of sessions that are opened and closed.
use Rattle.std.proofs.Common.{◌≡◌, ℕ, ◌==◌, not, List, [], ◌∷◌, filter, refl, arith}
use Rattle.session_tab.specs.declared.ids.SessionId.{SessionId}
use Rattle.bind_tab.specs.Held.{serials}

-- without the session with a serial, by the serials
pub serials-closed : (live : List SessionId) (serial : ℕ) → serials (filter (λ id. not (id.serial == serial)) live) ≡ filter (λ s. not (s == serial)) (serials live)
serials-closed [] serial = refl
serials-closed (id ∷ live) serial = let later = serials-closed live serial in grind (arith, later)
