-- No receive may take a message: where nothing is on its way, the open messages between two ranks are those that the receiver
-- keeps, and none of them fits a receive that it has posted.
use Rattle.std.proofs.Common.{◌≡◌, ◌<◌, ◌==◌, ◌&&◌, not, ◌++◌, ℕ, Bool, true, false, List, [], ◌∷◌, map, filter, length, get_or, None, refl, sym, ap, ◌∙◌, subst, arith}
use Rattle.std.specs.List.{list_any}
use Rattle.std.proofs.lemmas.Bool.Decides.{nat_tests}
use Rattle.std.proofs.lemmas.List.{append-nil}
use Rattle.mpi_base.specs.declared.messages.Msg.{Msg}
use Rattle.mpi_law.specs.declared.setting.Setting.{Setting}
use Rattle.mpi_law.specs.ScriptLists.{AllScripts}
use Rattle.mpi_law.specs.Registry.State.{Registry, Message, Receive, Open}
use Rattle.mpi_law.specs.Registry.Messages.{is_unmatched, is_waiting, may_match, fits as fits_by_place}
use Rattle.mpi_law.specs.Closed.{is_matched_out}
use Rattle.match_law.specs.declared.rows.Posted.{Posted}
use Rattle.match_law.specs.Box.{fits}
use Rattle.agree_law.specs.World.{Event}
use Rattle.agree_law.proofs.Lists.{AllOf, AllOf_filter}
use Rattle.mpi_protocol.specs.World.{World, link}
use Rattle.due_law.specs.Dues.{Dues}
use Rattle.run_law.proofs.Lists.{none_at}
use Rattle.message_law.proofs.BoxFacts.{none_fits}
use Rattle.message_law.proofs.Meets.{fits_same}
use Rattle.message_law.proofs.Topics.{as_msg, as_posted, is_between, is_of, is_waiting_at, messages_on, open_between, waiting_at, OpenFits, WaitingFits}
use Rattle.message_law.proofs.Worlds.{kept_of, posted_of}
use Rattle.closed_law.proofs.Lists.{all_at, each_at, passed_at}
use Rattle.closed_law.proofs.Rests.{Rests, stands, is_rank}

blank_message : Message
blank_message = record { comm = 0; lane = 0; from = 0; to = 0; tag = 0; number = 0; payload = []; fate = Open }

blank_receive : Receive
blank_receive = record { rank = 0; number = 0; comm = 0; lane = 0; source = None; tag = None; room = 0; taken = None }

none_of : (p : Posted → Bool) (ps : List Posted) → list_any p ps ≡ false → AllOf (λ x. p x ≡ false) ps
none_of p [] e = tt
none_of p (x ∷ xs) e = (grind (arith, e), none_of p xs (grind (arith, e)))

each_apart : (ms : List Msg) (ps : List Posted) → none_fits ms ps ≡ true → AllOf (λ m. AllOf (λ x. fits x m ≡ false) ps) ms
each_apart [] ps e = tt
each_apart (m ∷ ms) ps e = (none_of (λ x. fits x m) ps (grind (arith, e)), each_apart ms ps (grind (arith, e)))

unmapped : {A B : Type 0} (P : B → Type 0) (f : A → B) (xs : List A) → AllOf P (map f xs) → AllOf (λ x. P (f x)) xs
unmapped P f [] h = tt
unmapped P f (x ∷ xs) h = (h.0, unmapped P f xs h.1)

module _ (s : Setting) (scripts : AllScripts) (w : World) (es : List Event) (due : Dues) (g : Registry) (h : Rests s scripts w es due g) where
  -- no message is on its way
  nothing_comes : (q r : ℕ) → q < length w.ranks → r < length w.ranks → messages_on (link w q r) ≡ []
  nothing_comes q r lq lr = go (q == r) refl
    where
      go : (b : Bool) → (q == r) ≡ b → messages_on (link w q r) ≡ []
      go false e = ap messages_on (h.at_rest.empty q r lq lr e)
      go true e = let is : q ≡ r = grind (arith, nat_tests, e) in rw is (h.together.fits.own r lr)

  open_kept : (q r : ℕ) → q < length w.ranks → r < length w.ranks → open_between g q r ≡ filter (is_of q) (kept_of w r)
  open_kept q r lq lr = h.together.fits.messages.lists q r lq lr ∙ (ap (λ (ms : List Msg). filter (is_of q) (kept_of w r) ++ ms) (nothing_comes q r lq lr) ∙ append-nil (filter (is_of q) (kept_of w r)))

  -- an open message between two ranks fits no receive that waits
  open_apart : (q r : ℕ) → q < length w.ranks → r < length w.ranks → AllOf (λ m. AllOf (λ x. fits (as_posted g.comms x) (as_msg g.comms m) ≡ false) (filter (is_waiting_at r) g.receives)) (filter (is_between q r) g.messages)
  open_apart q r lq lr =
      let kept = AllOf_filter (λ m. AllOf (λ x. fits x m ≡ false) (posted_of w r)) (is_of q) (kept_of w r) (each_apart (kept_of w r) (posted_of w r) (h.together.fits.apart r lr)) in
      let there = subst (λ (ms : List Msg). AllOf (λ m. AllOf (λ x. fits x m ≡ false) (posted_of w r)) ms) (sym (open_kept q r lq lr)) kept in
      let posted = subst (λ (ps : List Posted). AllOf (λ m. AllOf (λ x. fits x m ≡ false) ps) (open_between g q r)) (sym (h.together.fits.receives.lists r lr)) there in
      each (filter (is_between q r) g.messages) (unmapped (λ m. AllOf (λ x. fits x m ≡ false) (waiting_at g r)) (as_msg g.comms) (filter (is_between q r) g.messages) posted)
    where
      each : (ms : List Message) → AllOf (λ m. AllOf (λ x. fits x (as_msg g.comms m) ≡ false) (waiting_at g r)) ms → AllOf (λ m. AllOf (λ x. fits (as_posted g.comms x) (as_msg g.comms m) ≡ false) (filter (is_waiting_at r) g.receives)) ms
      each [] k = tt
      each (m ∷ ms) k = (unmapped (λ x. fits x (as_msg g.comms m) ≡ false) (as_posted g.comms) (filter (is_waiting_at r) g.receives) k.0, each ms k.1)

  -- a receive that waits and an open message do not fit
  apart_at : (i k : ℕ) → i < length g.receives → k < length g.messages → (is_waiting (get_or g.receives i blank_receive) && (is_unmatched (get_or g.messages k blank_message) && fits_by_place g (get_or g.receives i blank_receive) (get_or g.messages k blank_message))) ≡ false
  apart_at i k li lk = go _ refl
    where
      x : Receive
      x = get_or g.receives i blank_receive

      m : Message
      m = get_or g.messages k blank_message

      clash : (is_waiting x && (is_unmatched m && fits_by_place g x m)) ≡ true → ⊥
      clash e =
          let waits : is_waiting x ≡ true = grind (arith, e) in
          let unmatched : is_unmatched m ≡ true = grind (arith, e) in
          let fit : fits_by_place g x m ≡ true = grind (arith, e) in
          let to : x.rank ≡ m.to = grind (arith, nat_tests, fit) in
          let on_x = each_at (WaitingFits g) g.receives blank_receive i h.together.fits.receives.live li waits in
          let on_m = each_at (OpenFits (length w.ranks) g) g.messages blank_message k h.together.fits.messages.live lk unmatched in
          let live = on_m.0.1 in
          let lr = is_rank s scripts w es due g h m.comm m.to (grind (arith, live)) in
          let here = passed_at (λ z. AllOf (λ y. fits (as_posted g.comms y) (as_msg g.comms z) ≡ false) (filter (is_waiting_at m.to) g.receives)) (is_between m.from m.to) g.messages blank_message k (open_apart m.from m.to on_m.1 lr) lk (grind (arith, nat_tests, unmatched)) in
          let none = passed_at (λ y. fits (as_posted g.comms y) (as_msg g.comms m) ≡ false) (is_waiting_at m.to) g.receives blank_receive i here li (grind (arith, nat_tests, waits, to)) in
          let same = fits_same g m.to x m (stands s scripts w es due g h).apart (rw to at on_x) on_m.0 to refl in
          cc (none, same, fit)

      go : (b : Bool) → (is_waiting x && (is_unmatched m && fits_by_place g x m)) ≡ b → b ≡ false
      go false e = refl
      go true e = absurd (clash e)

  pub matched_out : is_matched_out g ≡ true
  unfolding may_match
  matched_out = all_at (λ x. not (list_any (may_match g x) g.messages)) g.receives blank_receive (λ i li.
      let none = none_at (may_match g (get_or g.receives i blank_receive)) g.messages blank_message (λ k lk. let a = apart_at i k li lk in grind (arith, a)) in
      rw none refl)
