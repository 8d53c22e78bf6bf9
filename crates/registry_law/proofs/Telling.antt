-- The topic of what is told of an exchange: each list of all members' shares that is on its way is that of all callers of the
-- split, at the rank to which it goes. It reads the links, and the registry's communicators and creations.
use Rattle.std.proofs.Common.{◌≡◌, ◌<◌, ◌*◌, ◌==◌, ◌&&◌, if◌then◌else◌, ℕ, zero, suc, ◌++◌, Bool, true, false, List, [], ◌∷◌, length, get_or, drop, replicate, Some, None, refl, subst, arith}
use Rattle.std.proofs.lemmas.Bool.Decides.{nat_tests}
use Rattle.mpi_base.specs.declared.keys.Key.{Key}
use Rattle.mpi_base.specs.declared.shares.Shared1.{Shared1}
use Rattle.mpi_base.specs.Keys.{same_key}
use Rattle.mpi_base.proofs.KeyFacts.{same_key_is, same_key-refl}
use Rattle.mpi_base.specs.declared.entries.Act.{Act}
use Rattle.mpi_base.specs.declared.entries.Act.TheVariants.{Call, Answer, Deliver, Offer as MakeOffer, Settle, Leave, Back}
use Rattle.mpi_base.specs.declared.entries.Choice.{Choice}
use Rattle.mpi_law.specs.declared.setting.Setting.{Setting}
use Rattle.mpi_law.specs.Registry.State.{Registry, registry_opening}
use Rattle.mpi_law.specs.Registry.Events.{Event}
use Rattle.mpi_law.specs.Registry.Runs.{registry_after}
use Rattle.agree_law.specs.Packets as agree
use Rattle.agree_law.proofs.Lists.{AllOf, AllOf-append, AllOf_each}
use Rattle.mpi_protocol.specs.Packets.{Packet, Agreeing, Message, Marker, Sent}
use Rattle.mpi_protocol.specs.Moves.{Move}
use Rattle.mpi_protocol.specs.World.{World, opening, link, after}
use Rattle.run_law.proofs.Tolds.{Tells, ToldFits, Tolds, AllKept, tolds_after}
use Rattle.message_law.proofs.Lines.{IsWide, IsFromRank, to_of, lines_taken, after-count, after-link}

abbrev pub TellFits : Registry → ℕ → Packet → Type 0
TellFits g to (Agreeing (agree.Up key i own mask)) = Unit {0}
TellFits g to (Agreeing (agree.Down key i v)) = Unit {0}
TellFits g to (Agreeing (agree.Share key share)) = Unit {0}
TellFits g to (Agreeing (agree.Shares key list)) = ToldFits g.comms g.creations to key list
TellFits g to (Message m) = Unit {0}
TellFits g to (Marker c) = Unit {0}

abbrev pub Telling : World → Registry → Type 0
Telling w g = (from to : ℕ) → from < length w.ranks → to < length w.ranks → AllOf (TellFits g to) (link w from to)

none_there : (P : Packet → Type 0) (n i : ℕ) → AllOf P (get_or (replicate n []) i [])
none_there P zero i = tt
none_there P (suc n) zero = tt
none_there P (suc n) (suc i) = none_there P n i

pub telling_opening : (s : Setting) → Telling (opening s) (registry_opening s)
telling_opening s from to lf lt = none_there (TellFits (registry_opening s) to) (s.ranks * s.ranks) _

-- One list alone, in run_law's words

abbrev pub told_one : ℕ → Key → List Shared1 → Tells
told_one to key list q k = if same_key key k && (q == to) then Some list else None

pub one_told : (to : ℕ) (key : Key) (list : List Shared1) → told_one to key list to key ≡ Some list
one_told to key list = let k = same_key-refl key in let q : (to == to) ≡ true = grind (arith, nat_tests) in rw (k, q) refl

pub tolds_one : (g : Registry) (to : ℕ) (key : Key) (list : List Shared1) → ToldFits g.comms g.creations to key list → Tolds g (told_one to key list)
tolds_one g to key list h q k l e = go (same_key key k) refl (q == to) refl e
  where
    go : (a : Bool) → same_key key k ≡ a → (b : Bool) → (q == to) ≡ b → (if a && b then Some list else None) ≡ Some l → ToldFits g.comms g.creations q k l
    go true ea true eb z =
        let is = same_key_is key k ea in
        let at : to ≡ q = grind (arith, nat_tests, eb) in
        let same : list ≡ l = cc (z) in
        subst (λ (i : ℕ). ToldFits g.comms g.creations i k l) at (subst (λ (c : Key). ToldFits g.comms g.creations to c l) is (subst (λ (xs : List Shared1). ToldFits g.comms g.creations to key xs) same h))
    go true ea false eb z = absurd (cc (z))
    go false ea b eb z = absurd (cc (z))

-- events that give nothing back
pub tell_after : (s : Setting) (g : Registry) (es : List Event) → AllKept es → (to : ℕ) (p : Packet) → TellFits g to p → TellFits (registry_after s g es) to p
tell_after s g es kept to (Agreeing (agree.Up key i own mask)) h = tt
tell_after s g es kept to (Agreeing (agree.Down key i v)) h = tt
tell_after s g es kept to (Agreeing (agree.Share key share)) h = tt
tell_after s g es kept to (Agreeing (agree.Shares key list)) h = tolds_after (told_one to key list) s g es kept (tolds_one g to key list h) to key list (one_told to key list)
tell_after s g es kept to (Message m) h = tt
tell_after s g es kept to (Marker c) h = tt

-- A step of a world

-- what is sent to a rank
sent_to : (P : ℕ → Packet → Type 0) (b : ℕ) (ss : List Sent) → AllOf (λ (s : Sent). P s.to s.packet) ss → AllOf (P b) (to_of b ss)
sent_to P b [] h = tt
sent_to P b (s ∷ ss) h = go (s.to == b) refl (sent_to P b ss h.1)
  where
    go : (t : Bool) → (s.to == b) ≡ t → AllOf (P b) (to_of b ss) → AllOf (P b) (if t then s.packet ∷ to_of b ss else to_of b ss)
    go true e ih = let is : s.to ≡ b = grind (arith, nat_tests, e) in (subst (λ (q : ℕ). P q s.packet) is h.0, ih)
    go false e ih = ih

all_rest : {A : Type 0} (P : A → Type 0) (xs : List A) → AllOf P xs → AllOf P (drop 1 xs)
all_rest P [] h = tt
all_rest P (x ∷ xs) h = h.1

module _ (w : World) (g : Registry) (h : Telling w g) where
  taken_fits : (r : ℕ) (act : Act) (a b : ℕ) → IsFromRank w act → r < length w.ranks → a < length w.ranks → b < length w.ranks → AllOf (TellFits g b) (lines_taken w r act a b)
  taken_fits r (Call t op) a b f lr la lb = h a b la lb
  taken_fits r (Answer t) a b f lr la lb = h a b la lb
  taken_fits r (MakeOffer key) a b f lr la lb = h a b la lb
  taken_fits r (Settle key) a b f lr la lb = h a b la lb
  taken_fits r (Leave c) a b f lr la lb = h a b la lb
  taken_fits r (Back c) a b f lr la lb = h a b la lb
  taken_fits r (Deliver from) a b f lr la lb = go (a == from) refl (b == r) refl
    where
      go : (t : Bool) → (a == from) ≡ t → (u : Bool) → (b == r) ≡ u → AllOf (TellFits g b) (if t && u then drop 1 (link w from r) else link w a b)
      go true ta true tb = let is : b ≡ r = grind (arith, nat_tests, tb) in rw is (all_rest (TellFits g r) (link w from r) (h from r f lr))
      go true ta false tb = h a b la lb
      go false ta u tb = h a b la lb

  -- those that stay on their links, where each goes on to be told
  pub lines_fit : (new : Registry) (r : ℕ) (act : Act) → ((to : ℕ) (p : Packet) → TellFits g to p → TellFits new to p) → IsFromRank w act → r < length w.ranks → (a b : ℕ) → a < length w.ranks → b < length w.ranks → AllOf (TellFits new b) (lines_taken w r act a b)
  lines_fit new r act goes f lr a b la lb = AllOf_each (TellFits g b) (TellFits new b) (lines_taken w r act a b) (λ p k. goes b p k) (taken_fits r act a b f lr la lb)

-- after a step: what stays on the links, and what the rank sends
pub telling_after : (w : World) (new : Registry) (c : Choice) (m : Move) → IsWide w → c.rank < length w.ranks → IsFromRank w c.act → ((a b : ℕ) → a < length w.ranks → b < length w.ranks → AllOf (TellFits new b) (lines_taken w c.rank c.act a b)) → AllOf (λ (s : Sent). TellFits new s.to s.packet) m.sent
    → Telling (after w c m) new
telling_after w new c m wide lr f lines sent a b la lb =
    let ia : a < length w.ranks = rw (after-count w c m wide lr) at la in
    let ib : b < length w.ranks = rw (after-count w c m wide lr) at lb in
    rw (after-link w c m wide lr a b f ia ib) (by (a == c.rank) (lines a b ia ib))
  where
    by : (t : Bool) → AllOf (TellFits new b) (lines_taken w c.rank c.act a b) → AllOf (TellFits new b) (if t then lines_taken w c.rank c.act a b ++ to_of b m.sent else lines_taken w c.rank c.act a b)
    by true old = AllOf-append (TellFits new b) (lines_taken w c.rank c.act a b) (to_of b m.sent) old (sent_to (TellFits new) b m.sent sent)
    by false old = old
