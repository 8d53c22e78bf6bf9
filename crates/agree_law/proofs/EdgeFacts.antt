-- Where the packets of a key fly, and of which round they are.
use Rattle.std.proofs.Common.{◌≡◌, ◌≤◌, ◌==◌, ℕ, zero, suc, Bool, true, false, if◌then◌else◌, List, [], ◌∷◌, length, slice_get, Some, refl, sym, subst, ap, ◌∙◌, arith}
use Rattle.std.proofs.lemmas.Bool.Decides.{nat_tests}
use Rattle.mpi_base.specs.declared.keys.Key.{Key}
use Rattle.mpi_base.specs.Keys.{same_key}
use Rattle.mpi_base.proofs.KeyFacts.{same_key-refl}
use Rattle.agree_law.specs.declared.rows.Verdict.{Verdict}
use Rattle.agree_law.specs.declared.rows.Verdict.TheVariants.{Ready, Retry, Context, Exhausted}
use Rattle.agree_law.specs.Tree.{member_at, parent_of}
use Rattle.agree_law.specs.Part.{round_of}
use Rattle.agree_law.specs.Packets.{Up, Down}
use Rattle.agree_law.specs.World.{Flight, World, part_at}
use Rattle.agree_law.specs.Facts.{UpsFit, round_after, DownsFit}
use Rattle.agree_law.proofs.Lists.{tally}
use Rattle.agree_law.proofs.KeyKept.{up_from_rank, next_round, FliesAt}
use Rattle.agree_law.proofs.Links.{key_of, of_links}
use Rattle.agree_law.proofs.Kept.{seat, Kept}
use Rattle.agree_law.proofs.WorldFacts.{in_links}

in_tally : (test : Flight → Bool) (fs : List Flight) (key : Key) (k : ℕ) (f : Flight) → slice_get fs k ≡ Some f → same_key (key_of f.packet) key ≡ true → test f ≡ true → 1 ≤ tally test (of_links fs key)
in_tally test [] key k f e s t = absurd (cc)
in_tally test (g ∷ fs) key zero f e s t =
    let is : f ≡ g = cc in
    subst (λ y. 1 ≤ tally test (of_links (y ∷ fs) key)) is (rw s (rw t (omega arith)))
in_tally test (g ∷ fs) key (suc k) f e s t = go (same_key (key_of g.packet) key) (in_tally test fs key k f e s t)
  where
    go : (b : Bool) → 1 ≤ tally test (of_links fs key) → 1 ≤ tally test (if b then g ∷ of_links fs key else of_links fs key)
    go true ih = omega (arith, ih)
    go false ih = ih

pub ups_fit : (top : ℕ) (w : World) → Kept top w → UpsFit w
ups_fit top w h key i own mask from to place good there =
    let k = h.each key good in
    let n = length key.members in
    let m = member_at key.members in
    let V = seat w.parts key in
    let x = in_links (FliesAt top n m V) w.links key place (record { from = from; to = to; packet = Up key i own mask }) there (same_key-refl key) k.flown in
    let p = x.0 in
    let e = x.1 in
    let low = e.low in
    let is : (from == m p) ≡ true = grind (arith, nat_tests, low) in
    let ups = in_tally (up_from_rank (m p)) w.links key place (record { from = from; to = to; packet = Up key i own mask }) there (same_key-refl key) is in
    let t = k.token p e.above e.inside in
    let l = k.level p e.above e.inside (omega (arith, t, ups)) in
    let here : (V (parent_of p)).round ≡ round_of (part_at w to).rounds key = ap (λ z. round_of (part_at w z).rounds key) (sym e.high) in
    record { edge = record { place = p; above = e.above; inside = e.inside; low = e.low; high = e.high }; round = x.2 ∙ l ∙ here }

next_after : (i : ℕ) (v : Verdict) → next_round i v ≡ round_after i v
next_after i Ready = refl
next_after i Retry = refl
next_after i (Context c) = refl
next_after i Exhausted = refl

pub downs_fit : (top : ℕ) (w : World) → Kept top w → DownsFit w
downs_fit top w h key i v from to place good there =
    let k = h.each key good in
    let n = length key.members in
    let m = member_at key.members in
    let V = seat w.parts key in
    let x = in_links (FliesAt top n m V) w.links key place (record { from = from; to = to; packet = Down key i v }) there (same_key-refl key) k.flown in
    let e = x.1 in
    record {
      edge = record { place = x.0; above = e.above; inside = e.inside; low = e.low; high = e.high };
      round = x.2 ∙ ap (λ z. round_of (part_at w z).rounds key) (sym e.low);
      last = ap (λ z. round_of (part_at w z).rounds key) e.high ∙ x.3 ∙ next_after i v;
    }
