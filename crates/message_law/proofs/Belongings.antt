-- Each message, receive and marker belongs to a communicator that is live at its rank; so a context that is not in use there meets nothing old.
use Rattle.std.proofs.Common.{◌≡◌, ◌<◌, ◌==◌, ℕ, Bool, true, false, List, [], ◌∷◌, ◌++◌, map, filter, length, refl, ◌∙◌, subst, arith, if◌then◌else◌}
use Rattle.std.proofs.lemmas.Bool.Decides.{nat_tests}
use Rattle.mpi_base.specs.MemberLists.{has_rank}
use Rattle.mpi_base.specs.declared.messages.Msg.{Msg}
use Rattle.mpi_law.specs.Registry.State.{Registry, Message, Receive, comm_at}
use Rattle.match_law.specs.declared.rows.Posted.{Posted}
use Rattle.comm_law.specs.declared.rows.MarkerRow.{MarkerRow}
use Rattle.mpi_protocol.specs.Packets as packet
use Rattle.mpi_protocol.specs.Packets.{Packet}
use Rattle.mpi_protocol.specs.World.{World, link}
use Rattle.agree_law.proofs.Lists.{AllOf, AllOf_each, AllOf_map}
use Rattle.message_law.proofs.Meets.{AllOf_passed}
use Rattle.message_law.proofs.Worlds.{kept_of, posted_of, comms_of, Fits}
use Rattle.message_law.proofs.Topics.{as_msg, as_posted, is_between, is_of, is_waiting_at, messages_on, open_between, OnLive, OpenFits, WaitingFits, is_marker, Belongs, MarkerFits}

-- a context is that of a communicator that is live at a rank
pub record OnContext (g : Registry) (r c : ℕ) : Type 0 where
  pub place : ℕ
  pub live : OnLive g place r
  pub ctx : (comm_at g place).ctx ≡ c

pub record MessageBelongs (g : Registry) (r : ℕ) (m : Msg) : Type 0 where
  pub at : OnContext g r m.ctx
  pub member : has_rank (comm_at g at.place).members m.from ≡ true

split_left : {A : Type 0} (P : A → Type 0) (xs ys : List A) → AllOf P (xs ++ ys) → AllOf P xs
split_left P [] ys h = tt
split_left P (x ∷ xs) ys h = (h.0, split_left P xs ys h.1)

split_right : {A : Type 0} (P : A → Type 0) (xs ys : List A) → AllOf P (xs ++ ys) → AllOf P ys
split_right P [] ys h = h
split_right P (x ∷ xs) ys h = split_right P xs ys h.1

mapped : {A B : Type 0} (P : B → Type 0) (Q : A → Type 0) (f : A → B) (xs : List A) → ((x : A) → Q x → P (f x)) → AllOf Q xs → AllOf P (map f xs)
mapped P Q f xs g h = AllOf_map P f xs (AllOf_each Q (λ x. P (f x)) xs g h)

-- what holds of the messages of each sender
of_each_sender : (n : ℕ) (P : Msg → Type 0) (ms : List Msg) → AllOf (λ m. m.from < n) ms → ((q : ℕ) → q < n → AllOf P (filter (is_of q) ms)) → AllOf P ms
of_each_sender n P [] l f = tt
of_each_sender n P (m ∷ ms) l f = (first (f m.from l.0), of_each_sender n P ms l.1 (λ q lq. rest q (is_of q m) (f q lq)))
  where
    first : AllOf P (filter (is_of m.from) (m ∷ ms)) → P m
    first h = let self : is_of m.from m ≡ true = grind (arith, nat_tests) in let k : AllOf P (m ∷ filter (is_of m.from) ms) = rw self at h in k.0

    rest : (q : ℕ) → (b : Bool) → AllOf P (if b then m ∷ filter (is_of q) ms else filter (is_of q) ms) → AllOf P (filter (is_of q) ms)
    rest q true h = h.1
    rest q false h = h

module _ (w : World) (g : Registry) (h : Fits w g) (r : ℕ) (lr : r < length w.ranks) where
  open_belongs : (q : ℕ) → AllOf (MessageBelongs g r) (open_between g q r)
  open_belongs q = mapped (MessageBelongs g r) (λ z. OpenFits (length w.ranks) g z × (is_between q r z ≡ true)) (as_msg g.comms) (filter (is_between q r) g.messages) belongs (AllOf_passed (OpenFits (length w.ranks) g) (is_between q r) g.messages h.messages.live)
    where
      belongs : (z : Message) → OpenFits (length w.ranks) g z × (is_between q r z ≡ true) → MessageBelongs g r (as_msg g.comms z)
      belongs z f =
          let t = f.1 in
          let k = f.0 (grind (arith, t)) in
          let to : z.to ≡ r = grind (arith, nat_tests, t) in
          record { at = record { place = z.comm; live = rw to at k.0; ctx = refl }; member = k.2 }

  -- messages on links, kept messages, posted receives
  pub coming_belongs : (q : ℕ) → q < length w.ranks → AllOf (MessageBelongs g r) (messages_on (link w q r))
  coming_belongs q lq = split_right (MessageBelongs g r) (filter (is_of q) (kept_of w r)) (messages_on (link w q r)) (subst (λ (ms : List Msg). AllOf (MessageBelongs g r) ms) (h.messages.lists q r lq lr) (open_belongs q))

  pub kept_belongs : AllOf (MessageBelongs g r) (kept_of w r)
  kept_belongs = of_each_sender (length w.ranks) (MessageBelongs g r) (kept_of w r) (h.messages.sources r lr)
      (λ q lq. split_left (MessageBelongs g r) (filter (is_of q) (kept_of w r)) (messages_on (link w q r)) (subst (λ (ms : List Msg). AllOf (MessageBelongs g r) ms) (h.messages.lists q r lq lr) (open_belongs q)))

  pub posted_belongs : AllOf (λ (x : Posted). OnContext g r x.ctx) (posted_of w r)
  posted_belongs = subst (λ (xs : List Posted). AllOf (λ x. OnContext g r x.ctx) xs) (h.receives.lists r lr) (mapped (λ (x : Posted). OnContext g r x.ctx) (λ x. WaitingFits g x × (is_waiting_at r x ≡ true)) (as_posted g.comms) (filter (is_waiting_at r) g.receives) belongs (AllOf_passed (WaitingFits g) (is_waiting_at r) g.receives h.receives.live))
    where
      belongs : (x : Receive) → WaitingFits g x × (is_waiting_at r x ≡ true) → OnContext g r (as_posted g.comms x).ctx
      belongs x f =
          let t = f.1 in
          let k = f.0 (grind (arith, t)) in
          let at_r : x.rank ≡ r = grind (arith, nat_tests, t) in
          record { place = x.comm; live = rw at_r at k; ctx = refl }

  -- A context that is not in use at the rank

  pub record Clean (c : ℕ) : Type 0 where
    pub kept : AllOf (λ (m : Msg). (m.ctx == c) ≡ false) (kept_of w r)
    pub coming : (q : ℕ) → q < length w.ranks → AllOf (λ (m : Msg). (m.ctx == c) ≡ false) (messages_on (link w q r))
    pub posted : AllOf (λ (x : Posted). (x.ctx == c) ≡ false) (posted_of w r)
    pub noted : AllOf (λ (k : MarkerRow). (k.ctx == c) ≡ false) (comms_of w r).noted
    pub marked : (q : ℕ) → q < length w.ranks → AllOf (λ (x : Packet). is_marker c x ≡ false) (link w q r)

  pub free_context_is_clean : (c : ℕ) → (OnContext g r c → ⊥) → Clean c
  free_context_is_clean c free = record {
    kept = AllOf_each (MessageBelongs g r) (λ (m : Msg). (m.ctx == c) ≡ false) (kept_of w r) (λ m b. off m.ctx b.at) kept_belongs;
    coming = λ q lq. AllOf_each (MessageBelongs g r) (λ (m : Msg). (m.ctx == c) ≡ false) (messages_on (link w q r)) (λ m b. off m.ctx b.at) (coming_belongs q lq);
    posted = AllOf_each (λ (x : Posted). OnContext g r x.ctx) (λ (x : Posted). (x.ctx == c) ≡ false) (posted_of w r) (λ x b. off x.ctx b) posted_belongs;
    noted = AllOf_each (λ (k : MarkerRow). Belongs g k.from r k.ctx) (λ (k : MarkerRow). (k.ctx == c) ≡ false) (comms_of w r).noted (λ k b. off k.ctx (record { place = b.place; live = (b.there, b.live); ctx = b.ctx })) (h.markers.noted r lr);
    marked = λ q lq. AllOf_each (MarkerFits g q r) (λ (x : Packet). is_marker c x ≡ false) (link w q r) (marker q) (h.markers.on_line q r lq lr);
  }
    where
      off : (d : ℕ) → OnContext g r d → (d == c) ≡ false
      off d b = by (d == c) refl
        where
          by : (t : Bool) → (d == c) ≡ t → t ≡ false
          by false e = refl
          by true e = absurd (free (record { place = b.place; live = b.live; ctx = b.ctx ∙ grind (arith, nat_tests, e) }))

      marker : (q : ℕ) (x : Packet) → MarkerFits g q r x → is_marker c x ≡ false
      marker q (packet.Agreeing a) f = refl
      marker q (packet.Message m) f = refl
      marker q (packet.Marker d) f = off d (record { place = f.place; live = (f.there, f.live); ctx = f.ctx })
