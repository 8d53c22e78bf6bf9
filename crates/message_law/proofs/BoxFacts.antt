-- The box of a rank: no kept message fits a posted receive.
use Rattle.std.proofs.Common.{◌≡◌, ℕ, ◌==◌, Bool, true, false, not, ◌&&◌, List, [], ◌∷◌, ◌++◌, Option, Some, None, filter, refl, arith}
use Rattle.std.specs.Prelude.{find}
use Rattle.std.specs.List.{list_any}
use Rattle.mpi_base.specs.declared.messages.Msg.{Msg}
use Rattle.match_law.specs.declared.rows.Posted.{Posted}
use Rattle.match_law.specs.Box.{Box, fits, receive_for, message_for, without_first, arrived, posted_to, drop_ctx}
use Rattle.message_law.proofs.Lists.{any-append, any-without, find_none, find_apart}

-- no kept message fits a posted receive
abbrev pub none_fits : List Msg → List Posted → Bool
none_fits [] ps = true
none_fits (m ∷ ms) ps = not (list_any (λ x. fits x m) ps) && none_fits ms ps

pub none_fits-append : (ms ns : List Msg) (ps : List Posted) → none_fits (ms ++ ns) ps ≡ (none_fits ms ps && none_fits ns ps)
none_fits-append [] ns ps = refl
none_fits-append (m ∷ ms) ns ps = let ih = none_fits-append ms ns ps in grind (arith, ih)

none_fits-without : (q : Msg → Bool) (ms : List Msg) (ps : List Posted) → none_fits ms ps ≡ true → none_fits (without_first q ms) ps ≡ true
none_fits-without q [] ps e = refl
none_fits-without q (m ∷ ms) ps e = let ih = none_fits-without q ms ps in grind (arith, ih, e)

none_fits-filter : (q : Msg → Bool) (ms : List Msg) (ps : List Posted) → none_fits ms ps ≡ true → none_fits (filter q ms) ps ≡ true
none_fits-filter q [] ps e = refl
none_fits-filter q (m ∷ ms) ps e = let ih = none_fits-filter q ms ps in grind (arith, ih, e)

none_fits-taken : (q : Posted → Bool) (ms : List Msg) (ps : List Posted) → none_fits ms ps ≡ true → none_fits ms (without_first q ps) ≡ true
none_fits-taken q [] ps e = refl
none_fits-taken q (m ∷ ms) ps e = let ih = none_fits-taken q ms ps in let n = any-without (λ x. fits x m) q ps in grind (arith, ih, e, n)

none_fits-posted : (ms : List Msg) (ps : List Posted) (p : Posted) → none_fits ms ps ≡ true → list_any (λ m. fits p m) ms ≡ false → none_fits ms (ps ++ p ∷ []) ≡ true
none_fits-posted [] ps p e n = refl
none_fits-posted (m ∷ ms) ps p e n = let ih = none_fits-posted ms ps p in let a = any-append (λ x. fits x m) ps (p ∷ []) in grind (arith, ih, a, e, n)

-- a message that was kept fits no posted receive, and a receive that was posted no kept message
pub kept_apart : (ms : List Msg) (ps : List Posted) (m : Msg) (q : Msg → Bool) → none_fits ms ps ≡ true → find q ms ≡ Some m → list_any (λ x. fits x m) ps ≡ false
kept_apart [] ps m q e f = absurd (cc)
kept_apart (x ∷ ms) ps m q e f = let ih = kept_apart ms ps m q in grind (arith, ih, e, f)

pub posted_apart : (ms : List Msg) (ps : List Posted) (p : Posted) (q : Posted → Bool) → none_fits ms ps ≡ true → find q ps ≡ Some p → list_any (λ m. fits p m) ms ≡ false
posted_apart [] ps p q e f = refl
posted_apart (m ∷ ms) ps p q e f =
    let here : list_any (λ r. fits r m) ps ≡ false = grind (arith, e) in
    let ih = posted_apart ms ps p q in
    let o = find_apart (λ r. fits r m) q ps p here f in
    grind (arith, ih, e, f, o)

abbrev pub IsApart : Box → Type 0
IsApart b = none_fits b.kept b.posted ≡ true

pub arrived_apart : (b : Box) (m : Msg) (o : Option Posted) → receive_for b.posted m ≡ o → IsApart b → IsApart (arrived b m o).0
arrived_apart b m None e h = let n = find_none (λ x. fits x m) b.posted e in let a = none_fits-append b.kept (m ∷ []) b.posted in grind (arith, a, n, h)
arrived_apart b m (Some p) e h = none_fits-taken (λ y. fits y m) b.kept b.posted h

pub posted_to_apart : (b : Box) (p : Posted) (o : Option Msg) → message_for b.kept p ≡ o → IsApart b → IsApart (posted_to b p o).0
posted_to_apart b p None e h = none_fits-posted b.kept b.posted p h (find_none (λ m. fits p m) b.kept e)
posted_to_apart b p (Some m) e h = none_fits-without (λ n. fits p n) b.kept b.posted h

pub drop_stays_apart : (b : Box) (c : ℕ) → IsApart b → IsApart (drop_ctx b c)
drop_stays_apart b c h = none_fits-filter (λ m. not (m.ctx == c)) b.kept b.posted h
