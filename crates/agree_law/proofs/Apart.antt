-- At most one split of a parent and number is open at a rank: its exchange, or one class.
use Rattle.std.proofs.Common.{◌≡◌, ◌&&◌, ◌||◌, not, Bool, true, false, if◌then◌else◌, List, [], ◌∷◌, Option, Some, None, refl, sym, ap, ◌∙◌, arith}
use Rattle.std.specs.Option.{is_some}
use Rattle.std.proofs.lemmas.Bool.Decides.{nat_tests}
use Rattle.mpi_base.specs.declared.keys.Key.{Key}
use Rattle.mpi_base.specs.declared.keys.Kind.{Kind}
use Rattle.mpi_base.specs.Keys.{same_key}
use Rattle.mpi_base.proofs.KeyFacts.{same_key_is, same_key-refl}
use Rattle.agree_law.specs.declared.rows.CreationRow.{CreationRow}
use Rattle.agree_law.specs.declared.rows.Stage.{Stage}
use Rattle.agree_law.specs.Part.{stage_of, open_creation, set_stage, close_creation}
use Rattle.agree_law.specs.Kinds.{is_share}
use Rattle.agree_law.specs.SplitKeys.{is_split}
use Rattle.agree_law.specs.World.{is_apart, has_no_split}
use Rattle.agree_law.proofs.RowFacts.{or_else, stage_of-open, stage_of-set, stage_of-close}

abbrev pub is_parted : Kind → Bool
is_parted k = is_share k || is_split k

pub record Both (opened : List CreationRow) (k l : Key) : Type 0 where
  pub left : is_parted k.kind ≡ true
  pub right : is_parted l.kind ≡ true
  pub left_open : is_some (stage_of opened k) ≡ true
  pub right_open : is_some (stage_of opened l) ≡ true
  pub parent : k.parent ≡ l.parent
  pub number : k.number ≡ l.number

abbrev pub Apart : List CreationRow → Type 0
Apart opened = (k l : Key) → Both opened k l → same_key k l ≡ true

-- nothing of a parent and number is open
abbrev pub NoneOf : List CreationRow → Key → Type 0
NoneOf opened key = (k : Key) → is_parted k.kind ≡ true → k.parent ≡ key.parent → k.number ≡ key.number → is_some (stage_of opened k) ≡ false

some_open : (xs : List CreationRow) (key k : Key) (s : Stage) → is_some (stage_of (open_creation xs key s) k) ≡ (is_some (stage_of xs k) || same_key key k)
some_open xs key k s = ap is_some (stage_of-open xs key s k) ∙ go (stage_of xs k) (same_key key k)
  where
    go : (o : Option Stage) (b : Bool) → is_some (or_else o (if b then Some s else None)) ≡ (is_some o || b)
    go None true = refl
    go None false = refl
    go (Some x) b = refl

some_set : (xs : List CreationRow) (key k : Key) (s : Stage) → is_some (stage_of (set_stage xs key s) k) ≡ is_some (stage_of xs k)
some_set xs key k s = ap is_some (stage_of-set xs key s k) ∙ go (stage_of xs k) (same_key key k)
  where
    go : (o : Option Stage) (b : Bool) → is_some (if b then (if is_some o then Some s else None) else o) ≡ is_some o
    go None true = refl
    go None false = refl
    go (Some x) true = refl
    go (Some x) false = refl

some_close : (xs : List CreationRow) (key k : Key) → is_some (stage_of (close_creation xs key) k) ≡ (not (same_key key k) && is_some (stage_of xs k))
some_close xs key k = ap is_some (stage_of-close xs key k) ∙ go (stage_of xs k) (same_key key k)
  where
    go : (o : Option Stage) (b : Bool) → is_some (if b then None else o) ≡ (not b && is_some o)
    go o true = refl
    go o false = refl

pub apart-set : (xs : List CreationRow) (key : Key) (s : Stage) → Apart xs → Apart (set_stage xs key s)
apart-set xs key s h k l b =
    h k l (record { left = b.left; right = b.right; left_open = sym (some_set xs key k s) ∙ b.left_open; right_open = sym (some_set xs key l s) ∙ b.right_open; parent = b.parent; number = b.number })

pub apart-close : (xs : List CreationRow) (key : Key) → Apart xs → Apart (close_creation xs key)
apart-close xs key h k l b =
    h k l (record { left = b.left; right = b.right; left_open = was k b.left_open; right_open = was l b.right_open; parent = b.parent; number = b.number })
  where
    was : (k : Key) → is_some (stage_of (close_creation xs key) k) ≡ true → is_some (stage_of xs k) ≡ true
    was k e = let x = some_close xs key k in grind (arith, x, e)

-- a creation that is no split
pub apart-plain : (xs : List CreationRow) (key : Key) (s : Stage) → is_parted key.kind ≡ false → Apart xs → Apart (open_creation xs key s)
apart-plain xs key s plain h k l b =
    h k l (record { left = b.left; right = b.right; left_open = was k b.left b.left_open; right_open = was l b.right b.right_open; parent = b.parent; number = b.number })
  where
    was : (k : Key) → is_parted k.kind ≡ true → is_some (stage_of (open_creation xs key s) k) ≡ true → is_some (stage_of xs k) ≡ true
    was k p e = go (same_key key k) refl
      where
        go : (c : Bool) → same_key key k ≡ c → is_some (stage_of xs k) ≡ true
        go true f = absurd (let x : is_parted key.kind ≡ true = rw (same_key_is key k f) p in cc)
        go false f = let x = some_open xs key k s in grind (arith, x, e, f)

-- a split of which nothing is open
pub apart-open : (xs : List CreationRow) (key : Key) (s : Stage) → NoneOf xs key → Apart xs → Apart (open_creation xs key s)
apart-open xs key s none h k l b = go (same_key key k) refl (same_key key l) refl
  where
    was : (k : Key) → same_key key k ≡ false → is_some (stage_of (open_creation xs key s) k) ≡ true → is_some (stage_of xs k) ≡ true
    was k f e = let x = some_open xs key k s in grind (arith, x, e, f)

    not_both : {x : Bool} → x ≡ true → x ≡ false → ⊥
    not_both e f = cc

    go : (c : Bool) → same_key key k ≡ c → (d : Bool) → same_key key l ≡ d → same_key k l ≡ true
    go true e true f = let x = same_key_is key k e in let y = same_key_is key l f in rw (sym x ∙ y) (same_key-refl l)
    go true e false f =
        let x = same_key_is key k e in
        absurd (not_both (was l f b.right_open) (none l b.right (sym b.parent ∙ sym (ap (λ (z : Key). z.parent) x)) (sym b.number ∙ sym (ap (λ (z : Key). z.number) x))))
    go false e true f =
        let y = same_key_is key l f in
        absurd (not_both (was k e b.left_open) (none k b.left (b.parent ∙ sym (ap (λ (z : Key). z.parent) y)) (b.number ∙ sym (ap (λ (z : Key). z.number) y))))
    go false e false f = h k l (record { left = b.left; right = b.right; left_open = was k e b.left_open; right_open = was l f b.right_open; parent = b.parent; number = b.number })

pub none_split : (xs : List CreationRow) (key : Key) → has_no_split xs key ≡ true → NoneOf xs key
unfolding has_no_split
none_split [] key e k p a b = refl
none_split (x ∷ xs) key e k p a b = go (same_key x.key k) refl (none_split xs key (grind (arith, e)) k p a b)
  where
    go : (c : Bool) → same_key x.key k ≡ c → is_some (stage_of xs k) ≡ false → is_some (stage_of (x ∷ xs) k) ≡ false
    go true f ih =
        let is = same_key_is x.key k f in
        let far : is_apart key x ≡ true = grind (arith, e) in
        let q : is_parted x.key.kind ≡ true = rw is p in
        let u : x.key.parent ≡ key.parent = ap (λ (z : Key). z.parent) is ∙ a in
        let v : x.key.number ≡ key.number = ap (λ (z : Key). z.number) is ∙ b in
        absurd (grind (arith, nat_tests, far, q, u, v))
    go false f ih = grind (arith, f, ih)

-- where an exchange was open and is closed, nothing of its split is
pub none_after : (xs : List CreationRow) (key : Key) → is_parted key.kind ≡ true → is_some (stage_of xs key) ≡ true → Apart xs → NoneOf (close_creation xs key) key
none_after xs key part opened h k p a b = go (is_some (stage_of xs k)) refl (same_key key k) refl
  where
    go : (c : Bool) → is_some (stage_of xs k) ≡ c → (d : Bool) → same_key key k ≡ d → is_some (stage_of (close_creation xs key) k) ≡ false
    go false e d f = let x = some_close xs key k in grind (arith, x, e)
    go true e true f = let x = some_close xs key k in grind (arith, x, f)
    go true e false f = absurd (let x = h key k (record { left = part; right = p; left_open = opened; right_open = e; parent = sym a; number = sym b }) in cc)
