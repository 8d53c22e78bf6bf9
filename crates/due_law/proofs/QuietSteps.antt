-- A move that says and takes no verdict keeps what is kept of what is due.
use Rattle.std.proofs.Common.{◌≡◌, ⊎_elim, ℕ, Bool, true, false, List, [], ◌∷◌, get_or, Some, refl, sym, subst, ap, ◌∙◌, arith}
use Rattle.mpi_base.specs.declared.keys.Key.{Key}
use Rattle.agree_law.specs.declared.rows.Verdict.{Verdict}
use Rattle.agree_law.specs.Tree.{member_at}
use Rattle.agree_law.specs.Part.{Agree}
use Rattle.agree_law.specs.Packets.{Packet, Up, Down, Share, Shares, Sent, Moved}
use Rattle.agree_law.specs.Rule.{is_key}
use Rattle.agree_law.specs.World.{Flight, World, part_at, head_of, popped, flights_of, moved}
use Rattle.agree_law.specs.Facts.{is_down_of}
use Rattle.agree_law.proofs.Lists.{AllOf, AllOf-append, tally, one, tally-append}
use Rattle.agree_law.proofs.Links.{flight, popped_all}
use Rattle.agree_law.proofs.Kept.{is_good, with_links}
use Rattle.agree_law.proofs.ShareSteps.{moved_size}
use Rattle.agree_law.proofs.MaskSteps.{part_of_moved}
use Rattle.due_law.specs.Dues.{Dues}
use Rattle.due_law.proofs.Lists.{tally-popped}
use Rattle.due_law.proofs.Downs.{is_down_to}
use Rattle.due_law.proofs.Dued.{Brings, BringsAt, Keeps, Dued}
use Rattle.due_law.proofs.Quiet.{is_no_down, NoDowns, Quiet}

-- The mask of a key

pub keeps_stay : (a b : Agree) (key : Key) (v : Verdict) → is_key b.owner key ≡ true → b.mask ≡ a.mask → Keeps a key v → Keeps b key v
keeps_stay a b key v owns mask k = record { final = k.final; owns = owns; free = λ c e. ap (λ (m : List Bool). get_or m c false) mask ∙ k.free c e }

-- a rank keeps its mask for a key
pub record Stays (w v : World) (q : ℕ) (key : Key) : Type 0 where
  pub owns : is_key (part_at v q).owner key ≡ true
  pub mask : (part_at v q).mask ≡ (part_at w q).mask

-- each owner but the key of a verdict keeps its mask
abbrev pub MasksStayAt : World → World → ℕ → Key → Type 0
MasksStayAt w v q key = is_key (part_at w q).owner key ≡ true → (part_at v q).mask ≡ (part_at w q).mask

-- where the owner of the mover's mask stays, so does that of each rank
pub owner_stays : (w : World) (links : List Flight) (r : ℕ) (m : Moved) (q : ℕ) (key : Key) → (q ≡ r → is_key (part_at w r).owner key ≡ true → is_key m.part.owner key ≡ true) → is_key (part_at w q).owner key ≡ true → is_key (part_at (moved (with_links w links) r m) q).owner key ≡ true
owner_stays w links r m q key stays o =
    ⊎_elim
    (λ (c : part_at (moved (with_links w links) r m) q ≡ part_at w q). subst (λ (a : Agree). is_key a.owner key ≡ true) (sym c) o)
    (λ (c : (q ≡ r) × (part_at (moved (with_links w links) r m) q ≡ m.part)). subst (λ (a : Agree). is_key a.owner key ≡ true) (sym c.1) (stays c.0 (subst (λ z. is_key (part_at w z).owner key ≡ true) c.0 o)))
    (part_of_moved w links r m q)

-- Packets that are no verdict

no_down_brings : (due : Dues) (from to : ℕ) (p : Packet) → is_no_down p ≡ true → Brings due from to p
no_down_brings due from to (Up key i own mask) e = tt
no_down_brings due from to (Down key i v) e = absurd (cc (e))
no_down_brings due from to (Share key s) e = tt
no_down_brings due from to (Shares key list) e = tt

no_down_of : (p : Packet) (key : Key) → is_no_down p ≡ true → is_down_of key p ≡ false
no_down_of (Up k i own mask) key e = refl
no_down_of (Down k i v) key e = absurd (cc (e))
no_down_of (Share k s) key e = refl
no_down_of (Shares k list) key e = refl

sent_brings : (due : Dues) (r : ℕ) (ss : List Sent) → NoDowns ss → AllOf (BringsAt due) (flights_of r ss)
sent_brings due r [] h = tt
sent_brings due r (s ∷ ss) h = (no_down_brings due r s.to s.packet h.0, sent_brings due r ss h.1)

sent_downs : (r : ℕ) (ss : List Sent) (key : Key) (q : ℕ) → NoDowns ss → tally (is_down_to key q) (flights_of r ss) ≡ 0
sent_downs r [] key q h = refl
sent_downs r (s ∷ ss) key q h = let e = no_down_of s.packet key h.0 in let ih = sent_downs r ss key q h.1 in rw e (omega (arith, ih))

-- The links before the move

-- no verdict is taken off the links
pub record SameDowns (w : World) (links : List Flight) : Type 0 where
  pub flown : (due : Dues) → AllOf (BringsAt due) w.links → AllOf (BringsAt due) links
  pub downs : (key : Key) (q : ℕ) → tally (is_down_to key q) links ≡ tally (is_down_to key q) w.links

pub same_links : (w : World) → SameDowns w w.links
same_links w = record { flown = λ due h. h; downs = λ key q. refl }

pub popped_links : (w : World) (from r : ℕ) (p : Packet) → head_of w.links from r ≡ Some p → is_no_down p ≡ true → SameDowns w (popped w.links from r)
popped_links w from r p e none = record {
  flown = λ due h. popped_all (BringsAt due) w.links from r h;
  downs = λ key q.
      let t = tally-popped (is_down_to key q) w.links from r p e in
      let n : is_down_to key q (flight from r p) ≡ false = (let z = no_down_of p key none in rw z refl) in
      let o = ap one n in
      omega (arith, t, o);
}

-- The step

pub quiet_dued : (w : World) (links : List Flight) (r : ℕ) (m : Moved) (due : Dues) → Dued w due → SameDowns w links → Quiet (part_at w r) m → ((q : ℕ) (key : Key) → MasksStayAt w (moved (with_links w links) r m) q key) → Dued (moved (with_links w links) r m) due
unfolding moved
quiet_dued w links r m due h s q masks =
    let size = moved_size w links r m in
    record {
      flown = AllOf-append (BringsAt due) links (flights_of r m.sent) (s.flown due h.flown) (sent_brings due r m.sent q.sent);
      level = λ key p good pos lt none.
          let a = tally-append (is_down_to key (member_at key.members p)) links (flights_of r m.sent) in
          let b = s.downs key (member_at key.members p) in
          h.level key p (subst (λ n. is_good n key ≡ true) size good) pos lt (omega (arith, a, b, none));
      first = λ key good some. h.first key (subst (λ n. is_good n key ≡ true) size good) some;
      held = λ z key v e.
          let k = h.held z key v e in
          keeps_stay (part_at w z) _ key v (owner_stays w links r m z key (λ _ o. q.owners key o) k.owns) (masks z key k.owns) k;
    }
