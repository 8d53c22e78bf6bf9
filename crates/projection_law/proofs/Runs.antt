-- A choice moves the agreement of a world by its event, and the opening has the agreement's own.
use Rattle.std.proofs.Common.{◌≡◌, ◌<◌, ◌≤◌, ◌*◌, ◌+◌, ℕ, zero, suc, true, List, [], ◌∷◌, ◌++◌, map, length, get_or, replicate, refl, sym, subst, ap, ◌∙◌, arith}
use Rattle.std.specs.Prelude.{nat_lt}
use Rattle.std.specs.List.{range_with_len}
use Rattle.std.proofs.lemmas.Bool.Decides.{nat_tests}
use Rattle.std.proofs.lemmas.List.{length-map, length-replicate}
use Rattle.std.proofs.lemmas.List.FromFn.{length-range_with_len}
use Rattle.mpi_base.specs.declared.entries.Act.{Act}
use Rattle.mpi_base.specs.declared.entries.Act.TheVariants.{Call, Answer, Deliver, Offer as MakeOffer, Settle, Leave, Back}
use Rattle.mpi_base.specs.declared.entries.Choice.{Choice}
use Rattle.mpi_law.specs.declared.setting.Setting.{Setting}
use Rattle.mpi_law.specs.Local.{effect_of}
use Rattle.agree_law.specs.Part as agree_part
use Rattle.agree_law.specs.World as agreement
use Rattle.agree_law.specs.World.{Event, run}
use Rattle.agree_law.proofs.Lists.{AllOf, length-set}
use Rattle.agree_law.proofs.Law.{holds_always}
use Rattle.share_law.proofs.Exchanges.{exchanges_always}
use Rattle.comm_law.specs.Comms.{comm_at}
use Rattle.mpi_protocol.specs.Rank.{Rank, fresh}
use Rattle.mpi_protocol.specs.Calls.{around_here}
use Rattle.mpi_protocol.specs.Step.{step, is_enabled}
use Rattle.mpi_protocol.specs.World.{World, opening, blank, rank_at, moved, head_for, may_happen}
use Rattle.mpi_protocol.specs.Projection.{agreements}
use Rattle.projection_law.proofs.Projected.{Projects}
use Rattle.projection_law.proofs.Moved.{Ruled}
use Rattle.projection_law.specs.Events.{events_at}
use Rattle.projection_law.proofs.Events.{Mirrors}
use Rattle.projection_law.proofs.Calls.{CallFits, call_mirrors, answer_mirrors, leave_mirrors, back_mirrors}
use Rattle.projection_law.proofs.Acts.{offer_mirrors, settle_mirrors, deliver_mirrors}
use Rattle.projection_law.proofs.Frames.{same_step, ranks_moved, rank_moved}

-- what an act needs of its rank
abbrev pub ActFits : ℕ → ℕ → Rank → Act → Type 0
ActFits n top x (Call t op) = CallFits n x (effect_of x.setting x.rank (around_here x) x.local op)
ActFits n top x (Answer t) = Unit {0}
ActFits n top x (Deliver from) = Unit {0}
ActFits n top x (MakeOffer key) = Unit {0}
ActFits n top x (Settle key) = Unit {0}
ActFits n top x (Leave c) = AllOf (λ m. m < n) (comm_at x.comms c).members
ActFits n top x (Back c) = (0 < c) × (c ≤ top)

-- a world of so many ranks, each with its number and the setting, belongs to the agreement's world after these events
pub record Projected (s : Setting) (w : World) (es : List Event) : Type 0 where
  pub count : length w.ranks ≡ s.ranks
  pub numbers : (r : ℕ) → r < length w.ranks → (rank_at w r).rank ≡ r
  pub settings : (r : ℕ) → r < length w.ranks → (rank_at w r).setting ≡ s
  pub projects : Projects w (run s.contexts es (agreement.opening s.ranks s.contexts))

pub ruled : (s : Setting) (es : List Event) → Ruled s.contexts (run s.contexts es (agreement.opening s.ranks s.contexts))
ruled s es = record { holds = holds_always s.ranks s.contexts es; exchanges = exchanges_always s.ranks s.contexts es }

pub run-append : (top : ℕ) (xs ys : List Event) (a : agreement.World) → run top (xs ++ ys) a ≡ run top ys (run top xs a)
run-append top [] ys a = refl
run-append top (x ∷ xs) ys a = run-append top xs ys (agreement.happens top a x)

-- One choice

pub mirrored : (s : Setting) (w : World) (es : List Event) (r : ℕ) (act : Act) → Projected s w es → may_happen w (record { rank = r; act = act }) ≡ true → ActFits s.ranks s.contexts (rank_at w r) act
    → Mirrors s.contexts w (run s.contexts es (agreement.opening s.ranks s.contexts)) r act
unfolding is_enabled
mirrored s w es r act h may fits = go act may fits
  where
    a : agreement.World
    a = run s.contexts es (agreement.opening s.ranks s.contexts)

    lt : nat_lt r (length w.ranks) ≡ true → r < length w.ranks
    lt e = grind (arith, nat_tests, e)

    tops : r < length w.ranks → (rank_at w r).setting.contexts ≡ s.contexts
    tops l = ap (λ (z : Setting). z.contexts) (h.settings r l)

    go : (act : Act) → may_happen w (record { rank = r; act = act }) ≡ true → ActFits s.ranks s.contexts (rank_at w r) act → Mirrors s.contexts w (run s.contexts es (agreement.opening s.ranks s.contexts)) r act
    go (Call t op) m f = let l = lt (grind (arith, m)) in call_mirrors s.contexts w a r h.projects (ruled s es) l (h.numbers r l) (tops l) t op (subst (λ n. CallFits n (rank_at w r) (effect_of (rank_at w r).setting (rank_at w r).rank (around_here (rank_at w r)) (rank_at w r).local op)) (sym h.count) f)
    go (Answer t) m f = let l = lt (grind (arith, m)) in answer_mirrors s.contexts w a r h.projects (ruled s es) l (h.numbers r l) (tops l) t
    go (Deliver from) m f =
        let l = lt (grind (arith, m)) in
        deliver_mirrors s.contexts w a r h.projects (ruled s es) l (h.numbers r l) (tops l) from (grind (arith, nat_tests, m)) (grind (arith, m))
    go (MakeOffer key) m f = let l = lt (grind (arith, m)) in offer_mirrors s.contexts w a r h.projects (ruled s es) l (h.numbers r l) (tops l) key (grind (arith, m))
    go (Settle key) m f = let l = lt (grind (arith, m)) in settle_mirrors s.contexts w a r h.projects (ruled s es) l (h.numbers r l) (tops l) key (grind (arith, m))
    go (Leave c) m f = let l = lt (grind (arith, m)) in leave_mirrors s.contexts w a r h.projects (ruled s es) l (h.numbers r l) (tops l) c (subst (λ n. AllOf (λ z. z < n) (comm_at (rank_at w r).comms c).members) (sym h.count) f)
    go (Back c) m f = let l = lt (grind (arith, m)) in back_mirrors s.contexts w a r h.projects (ruled s es) l (h.numbers r l) (tops l) c (grind (arith, m)) f.0 f.1

pub projected-moved : (s : Setting) (w : World) (es : List Event) (c : Choice) → Projected s w es → may_happen w c ≡ true → ActFits s.ranks s.contexts (rank_at w c.rank) c.act
    → Projected s (moved w c) (es ++ events_at w c.rank c.act)
projected-moved s w es c h may fits =
    let m = mirrored s w es c.rank c.act h may fits in
    let lt : c.rank < length w.ranks = grind (arith, nat_tests, may) in
    let mv = step (rank_at w c.rank) c.act (head_for w c.rank c.act) in
    let is = ranks_moved w c.rank c.act mv in
    let size : length (moved w c).ranks ≡ length w.ranks = ap length is ∙ length-set w.ranks c.rank mv.state in
    let same = same_step (rank_at w c.rank) c.act (head_for w c.rank c.act) in
    let P : ℕ → Rank → Type 0 = λ q x. (x.rank ≡ q) × (x.setting ≡ s) in
    let all = rank_moved P w c.rank mv.state (same.rank ∙ h.numbers c.rank lt, same.setting ∙ h.settings c.rank lt) (λ q l. (h.numbers q l, h.settings q l)) in
    let at : (q : ℕ) → q < length (moved w c).ranks → P q (rank_at (moved w c) q) = λ q l. subst (λ xs. P q (get_or xs q blank)) (sym is) (all q (omega (arith, size, l))) in
    record {
      count = size ∙ h.count;
      numbers = λ q l. (at q l).0;
      settings = λ q l. (at q l).1;
      projects = subst (Projects (moved w c)) (sym (run-append s.contexts es (events_at w c.rank c.act) (agreement.opening s.ranks s.contexts))) m.projects;
    }

-- The opening

parts_open : (s : Setting) (i n : ℕ) → replicate n (agree_part.fresh s.contexts) ≡ map (λ (x : Rank). x.agree) (map (fresh s) (range_with_len i n))
parts_open s i zero = refl
parts_open s i (suc n) = ap (λ xs. agree_part.fresh s.contexts ∷ xs) (parts_open s (i + 1) n)

none_there : (n i : ℕ) → agreements (get_or (replicate n []) i []) ≡ []
none_there zero i = refl
none_there (suc n) zero = refl
none_there (suc n) (suc i) = none_there n i

pub fresh_at : (s : Setting) (i n r : ℕ) → r < n → get_or (map (fresh s) (range_with_len i n)) r blank ≡ fresh s (i + r)
fresh_at s i zero r lt = absurd (omega (arith, lt))
fresh_at s i (suc n) zero lt = ap (fresh s) (omega arith)
fresh_at s i (suc n) (suc r) lt = fresh_at s (i + 1) n r (omega (arith, lt)) ∙ ap (fresh s) (omega arith)

pub projected-opening : (s : Setting) → Projected s (opening s) []
unfolding agreement.opening
projected-opening s =
    let n : length (map (fresh s) (range_with_len 0 s.ranks)) ≡ s.ranks = length-map (range_with_len 0 s.ranks) (fresh s) ∙ length-range_with_len 0 s.ranks in
    record {
      count = n;
      numbers = λ r lt. ap (λ (x : Rank). x.rank) (fresh_at s 0 s.ranks r (omega (arith, n, lt))) ∙ omega arith;
      settings = λ r lt. ap (λ (x : Rank). x.setting) (fresh_at s 0 s.ranks r (omega (arith, n, lt)));
      projects = record {
        parts = parts_open s 0 s.ranks;
        size = length-replicate (s.ranks * s.ranks) [] ∙ sym (ap (λ z. z * z) n);
        links = λ from to lf lt. sym (none_there (s.ranks * s.ranks) _);
      };
    }
