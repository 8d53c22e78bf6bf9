-- What stays where neither messages nor receives change.
use Rattle.std.proofs.Common.{◌≡◌, ◌<◌, ◌==◌, ◌&&◌, ℕ, true, List, [], ◌∷◌, map, filter, length, Option, Some, None, refl, sym, ◌∙◌, arith, if◌then◌else◌}
use Rattle.std.specs.Option.{option_map}
use Rattle.mpi_base.specs.declared.messages.Msg.{Msg}
use Rattle.mpi_law.specs.Registry.State.{Registry, Message, Receive, comm_at, part_of}
use Rattle.mpi_law.specs.Registry.Messages.{receive_of}
use Rattle.match_law.specs.declared.rows.Posted.{Posted}
use Rattle.mpi_protocol.specs.declared.rows.ReceiveRow.{ReceiveRow}
use Rattle.mpi_protocol.specs.Packets.{Packet}
use Rattle.mpi_protocol.specs.Rank.{receive_of as row_of}
use Rattle.agree_law.proofs.Lists.{AllOf, AllOf_each}
use Rattle.message_law.proofs.Lists.{find_has}
use Rattle.message_law.proofs.Meets.{AllOf_passed}
use Rattle.message_law.proofs.Topics.{as_msg, as_posted, is_between, messages_on, is_waiting_at, OnLive, OpenFits, WaitingFits, IsKnown, Messages, Receives, RowFits}

-- another value at a number, at a pair of numbers
abbrev pub put : {A : Type 0} → ℕ → A → (ℕ → A) → ℕ → A
put r y f s = if s == r then y else f s

abbrev pub put_pair : {A : Type 0} → ℕ → ℕ → A → (ℕ → ℕ → A) → ℕ → ℕ → A
put_pair q r y f a b = if (a == q) && (b == r) then y else f a b

-- The same lists at each rank

pub messages_same : (n : ℕ) (g : Registry) (kept kept' : ℕ → List Msg) (sends sends' : ℕ → ℕ) (line line' : ℕ → ℕ → List Packet)
    → ((r : ℕ) → r < n → kept' r ≡ kept r) → ((r : ℕ) → r < n → sends' r ≡ sends r) → ((q r : ℕ) → q < n → r < n → messages_on (line' q r) ≡ messages_on (line q r))
    → Messages n g kept sends line → Messages n g kept' sends' line'
messages_same n g kept kept' sends sends' line line' k s l h = record {
  lists = λ q r lq lr. let e = h.lists q r lq lr in let a = k r lr in let b = l q r lq lr in rw (a, b) e;
  numbered = h.numbered;
  counted = λ q lq. s q lq ∙ h.counted q lq;
  live = h.live;
  sources = λ r lr. let a = k r lr in rw a (h.sources r lr);
}

pub receives_same : (n : ℕ) (g : Registry) (posted posted' : ℕ → List Posted) (rows rows' : ℕ → List ReceiveRow) (posts posts' : ℕ → ℕ)
    → ((r : ℕ) → r < n → posted' r ≡ posted r) → ((r k : ℕ) → r < n → row_of (rows' r) k ≡ row_of (rows r) k) → ((r : ℕ) → r < n → posts' r ≡ posts r)
    → Receives n g posted rows posts → Receives n g posted' rows' posts'
receives_same n g posted posted' rows rows' posts posts' p w c h = record {
  lists = λ r lr. h.lists r lr ∙ sym (p r lr);
  numbered = h.numbered;
  counted = λ r lr. c r lr ∙ h.counted r lr;
  live = h.live;
  taken = λ r k lr. let a = w r k lr in rw a (h.taken r k lr);
  known = h.known;
}

-- The registry goes on without messages and receives

pub record Grows (old new : Registry) : Type 0 where
  pub longer : (p : ℕ) → p < length old.comms → p < length new.comms
  pub ctx : (p : ℕ) → p < length old.comms → (comm_at new p).ctx ≡ (comm_at old p).ctx
  pub members : (p : ℕ) → p < length old.comms → (comm_at new p).members ≡ (comm_at old p).members

pub as_msg_grown : (old new : Registry) (m : Message) → Grows old new → m.comm < length old.comms → as_msg new.comms m ≡ as_msg old.comms m
as_msg_grown old new m w l = let a = w.ctx m.comm l in let b = w.members m.comm l in grind (arith, a, b)

map_same : {A B : Type 0} (f g : A → B) (xs : List A) → AllOf (λ x. f x ≡ g x) xs → map f xs ≡ map g xs
map_same f g [] h = refl
map_same f g (x ∷ xs) h = let a = h.0 in let ih = map_same f g xs h.1 in grind (arith, a, ih)

pub messages_grown : (n : ℕ) (g new : Registry) (kept : ℕ → List Msg) (sends : ℕ → ℕ) (line : ℕ → ℕ → List Packet)
    → Grows g new → ((p r : ℕ) → OnLive g p r → OnLive new p r) → new.messages ≡ g.messages → ((q : ℕ) → q < n → (part_of new q).sends ≡ (part_of g q).sends)
    → Messages n g kept sends line → Messages n new kept sends line
messages_grown n g new kept sends line w live same count h = record {
  lists = λ q r lq lr. rw same (map_same (as_msg new.comms) (as_msg g.comms) (filter (is_between q r) g.messages) (AllOf_each (λ m. OpenFits n g m × (is_between q r m ≡ true)) (λ m. as_msg new.comms m ≡ as_msg g.comms m) (filter (is_between q r) g.messages) (λ m f. let t = f.1 in as_msg_grown g new m w (f.0 (grind (arith, t))).0.0) (AllOf_passed (OpenFits n g) (is_between q r) g.messages h.live)) ∙ h.lists q r lq lr);
  numbered = λ q lq. let c = count q lq in rw (same, c) (h.numbered q lq);
  counted = λ q lq. h.counted q lq ∙ sym (count q lq);
  live = rw same (AllOf_each (OpenFits n g) (OpenFits n new) g.messages (λ m f. λ o. (live m.comm m.to (f o).0, (f o).1, rw (w.members m.comm (f o).0.0) (f o).2)) h.live);
  sources = h.sources;
}

-- a rank's rows keep fitting
pub row_grown : (g new : Registry) (w : Option ReceiveRow) (x : Option Receive) → Grows g new → ((z : Receive) → x ≡ Some z → IsKnown g z.taken) → RowFits g w x → RowFits new w x
row_grown g new None None gs k h = h
row_grown g new None (Some x) gs k h = h
row_grown g new (Some w) None gs k h = h
row_grown g new (Some w) (Some x) gs k h = (h.0, h.1, go w.taken x.taken (k x refl) h.2)
  where
    go : (a : Option Msg) (o : Option Message) → IsKnown g o → a ≡ option_map (as_msg g.comms) o → a ≡ option_map (as_msg new.comms) o
    go a None l e = e
    go a (Some m) l e = let s = as_msg_grown g new m gs l in grind (arith, e, s)

pub receives_grown : (n : ℕ) (g new : Registry) (posted : ℕ → List Posted) (rows : ℕ → List ReceiveRow) (posts : ℕ → ℕ)
    → Grows g new → AllOf (WaitingFits new) g.receives → new.receives ≡ g.receives → ((q : ℕ) → q < n → (part_of new q).receives ≡ (part_of g q).receives)
    → Receives n g posted rows posts → Receives n new posted rows posts
receives_grown n g new posted rows posts w live same count h = record {
  lists = λ r lr. rw same (map_same (as_posted new.comms) (as_posted g.comms) (filter (is_waiting_at r) g.receives) (AllOf_each (λ x. WaitingFits g x × (is_waiting_at r x ≡ true)) (λ x. as_posted new.comms x ≡ as_posted g.comms x) (filter (is_waiting_at r) g.receives) (λ x f. let t = f.1 in let c = w.ctx x.comm (f.0 (grind (arith, t))).0 in grind (arith, c)) (AllOf_passed (WaitingFits g) (is_waiting_at r) g.receives h.live)) ∙ h.lists r lr);
  numbered = λ q lq. let c = count q lq in rw (same, c) (h.numbered q lq);
  counted = λ q lq. h.counted q lq ∙ sym (count q lq);
  live = rw same live;
  taken = λ r k lr. rw same (row_grown g new (row_of (rows r) k) (receive_of g r k) w (λ z e. find_has (λ x. IsKnown g x.taken) (λ x. (x.rank == r) && (x.number == k)) g.receives z h.known e) (h.taken r k lr));
  known = rw same (AllOf_each (λ x. IsKnown g x.taken) (λ x. IsKnown new x.taken) g.receives (λ x. knows x.taken) h.known);
}
  where
    knows : (o : Option Message) → IsKnown g o → IsKnown new o
    knows None l = l
    knows (Some m) l = w.longer m.comm l
