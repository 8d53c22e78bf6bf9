-- A match by context is allowed in the registry, and what it leaves.
use Rattle.std.proofs.Common.{◌≡◌, ◌≢◌, ◌&&◌, ℕ, Bool, true, false, List, [], ◌∷◌, map, filter, Some, refl, sym, ap, ◌∙◌, subst, arith, if◌then◌else◌}
use Rattle.std.specs.Prelude.{nat_lt}
use Rattle.std.specs.List.{list_any}
use Rattle.std.specs.Option.{option_map}
use Rattle.std.proofs.lemmas.Bool.Decides.{nat_tests}
use Rattle.mpi_base.specs.declared.messages.Msg.{Msg}
use Rattle.mpi_law.specs.Registry.State.{Registry, Message, Receive, Matched}
use Rattle.mpi_law.specs.Registry.Apart.{LiveApart}
use Rattle.mpi_law.specs.Registry.Messages.{is_waiting, fits as fits_by_place, may_match, is_overtaken, is_preceded, receive_of, message_of, with_fate, taking, after_match, is_receive, is_message}
use Rattle.mpi_law.specs.Registry.Runs.{MayMatch}
use Rattle.match_law.specs.declared.rows.Posted.{Posted}
use Rattle.match_law.specs.Box.{fits, without_first}
use Rattle.agree_law.proofs.Lists.{AllOf}
use Rattle.message_law.proofs.Lists.{without-map, find_has, find_changed, AllOf_changed, any_less, find_passes}
use Rattle.message_law.proofs.Numbered.{rises, found_by_number, none_before, filter-marked, filter-marked_other, rises-map}
use Rattle.message_law.proofs.Topics.{as_msg, as_posted, is_sent_by, is_open_to, is_between, is_posted_at, is_waiting_at, number_of_message, number_of_receive, open_between, waiting_at, OpenFits, WaitingFits, IsKnown}
use Rattle.message_law.proofs.Meets.{Meeting, ByPlace, meeting_is_met}

-- the receive with this number is marked as having taken what it took
abbrev pub takes_at : Registry → ℕ → ℕ → ℕ → ℕ → Receive → Receive
takes_at g r number from sent x = if is_receive r number x then taking (message_of g from sent) x else x

-- what a match leaves
pub record Leaves (n : ℕ) (g : Registry) (q r : ℕ) (p : Posted) (msg : Msg) (new : Registry) : Type 0 where
  pub taken_off : open_between new q r ≡ without_first (λ m. fits p m) (open_between g q r)
  pub others : (a b : ℕ) → ((a ≡ q) → (b ≡ r) → ⊥) → open_between new a b ≡ open_between g a b
  pub received : waiting_at new r ≡ without_first (λ y. fits y msg) (waiting_at g r)
  pub elsewhere : (s : ℕ) → s ≢ r → waiting_at new s ≡ waiting_at g s
  pub messages_rise : (a b c : ℕ) → rises (is_sent_by a) number_of_message b c g.messages ≡ true → rises (is_sent_by a) number_of_message b c new.messages ≡ true
  pub receives_rise : (a b c : ℕ) → rises (is_posted_at a) number_of_receive b c g.receives ≡ true → rises (is_posted_at a) number_of_receive b c new.receives ≡ true
  pub messages_live : AllOf (OpenFits n g) g.messages → AllOf (OpenFits n g) new.messages
  pub receives_live : AllOf (WaitingFits g) g.receives → AllOf (WaitingFits g) new.receives
  pub took : option_map (as_msg g.comms) (message_of g msg.from msg.number) ≡ Some msg
  pub knows : AllOf (OpenFits n g) g.messages → IsKnown g (message_of g msg.from msg.number)
  pub rows : (s k : ℕ) → receive_of new s k ≡ option_map (takes_at g r p.number msg.from msg.number) (receive_of g s k)

-- a match by context is the registry's
pub record Matches_so (n : ℕ) (g : Registry) (q r : ℕ) (p : Posted) (msg : Msg) : Type 0 where
  pub from : msg.from ≡ q
  pub allowed : MayMatch g r p.number msg.from msg.number
  pub leaves : Leaves n g q r p msg (after_match g r p.number msg.from msg.number)

module _ (n : ℕ) (g : Registry) (r : ℕ) (x : Receive) (m : Message) (e : ByPlace g r x m) (top_m top_x : ℕ)
    (num_m : rises (is_sent_by m.from) number_of_message 0 top_m g.messages ≡ true) (num_x : rises (is_posted_at r) number_of_receive 0 top_x g.receives ≡ true) where
  there_m : message_of g m.from m.number ≡ Some m
  there_m = found_by_number (is_sent_by m.from) number_of_message (is_open_to r) (fits_by_place g x) g.messages 0 top_m m num_m e.message

  there_x : receive_of g r x.number ≡ Some x
  there_x = found_by_number (is_posted_at r) number_of_receive is_waiting (λ y. fits_by_place g y m) g.receives 0 top_x x num_x e.receive

  abbrev is_in : {A : Type 0} → (A → Bool) → List A → Type 0
  is_in t zs = AllOf (λ z. t z ≡ true) (filter t zs)

  all_in : {A : Type 0} (t : A → Bool) (zs : List A) → is_in t zs
  all_in t [] = tt
  all_in t (z ∷ zs) = go (t z) refl (all_in t zs)
    where
      go : (b : Bool) → t z ≡ b → is_in t zs → AllOf (λ y. t y ≡ true) (if b then z ∷ filter t zs else filter t zs)
      go true k ih = (k, ih)
      go false k ih = ih

  m_open : is_between m.from r m ≡ true
  m_open = find_has (λ z. is_between m.from r z ≡ true) (fits_by_place g x) (filter (is_between m.from r) g.messages) m (all_in (is_between m.from r) g.messages) e.message

  x_waits : is_waiting_at r x ≡ true
  x_waits = find_has (λ z. is_waiting_at r z ≡ true) (λ y. fits_by_place g y m) (filter (is_waiting_at r) g.receives) x (all_in (is_waiting_at r) g.receives) e.receive

  fit : fits_by_place g x m ≡ true
  fit = find_passes (fits_by_place g x) (filter (is_between m.from r) g.messages) m e.message

  none_overtaken : list_any (is_overtaken g x m) g.messages ≡ false
  none_overtaken =
      any_less (is_overtaken g x m) (λ z. is_sent_by m.from z && (nat_lt z.number m.number && (is_open_to r z && fits_by_place g x z))) g.messages
      (λ z h. let w = x_waits in grind (arith, nat_tests, h, w))
      (none_before (is_sent_by m.from) number_of_message (is_open_to r) (fits_by_place g x) g.messages 0 top_m m num_m e.message)

  none_preceded : list_any (is_preceded g x m) g.receives ≡ false
  none_preceded =
      any_less (is_preceded g x m) (λ y. is_posted_at r y && (nat_lt y.number x.number && (is_waiting y && fits_by_place g y m))) g.receives
      (λ y h. let w = x_waits in grind (arith, nat_tests, h, w))
      (none_before (is_posted_at r) number_of_receive is_waiting (λ y. fits_by_place g y m) g.receives 0 top_x x num_x e.receive)

  may : may_match g x m ≡ true
  unfolding may_match
  may = let a = x_waits in let b = m_open in let c = fit in let d = none_overtaken in let f = none_preceded in grind (arith, nat_tests, a, b, c, d, f)

  match_allowed : MayMatch g r x.number m.from m.number
  match_allowed = record { receive = x; message = m; posted = there_x; sent_there = there_m; first = may }

  abbrev after : Registry
  after = after_match g r x.number m.from m.number

  closed_m : (q s : ℕ) (z : Message) → is_between q s (with_fate Matched z) ≡ false
  closed_m q s z = grind (arith)

  closed_x : (z : Receive) → is_waiting (taking (message_of g m.from m.number) z) ≡ false
  closed_x z = rw there_m refl

  abbrev marks_m : Message → Message
  marks_m z = if is_message m.from m.number z then with_fate Matched z else z

  messages_live' : AllOf (OpenFits n g) g.messages → AllOf (OpenFits n g) after.messages
  messages_live' h = AllOf_changed (OpenFits n g) marks_m g.messages (λ z k. go z k (is_message m.from m.number z)) h
    where
      go : (z : Message) → OpenFits n g z → (b : Bool) → OpenFits n g (if b then with_fate Matched z else z)
      go z k true = λ o. absurd (cc (o))
      go z k false = k

  receives_live' : AllOf (WaitingFits g) g.receives → AllOf (WaitingFits g) after.receives
  receives_live' h = AllOf_changed (WaitingFits g) (takes_at g r x.number m.from m.number) g.receives (λ z k. go z k (is_receive r x.number z)) h
    where
      go : (z : Receive) → WaitingFits g z → (b : Bool) → WaitingFits g (if b then taking (message_of g m.from m.number) z else z)
      go z k true = λ o. absurd (let c = closed_x z in cc (o, c))
      go z k false = k

  leaves_by_place : Leaves n g m.from r (as_posted g.comms x) (as_msg g.comms m) after
  leaves_by_place = record {
    taken_off = ap (map (as_msg g.comms)) (filter-marked (is_sent_by m.from) number_of_message (is_open_to r) (fits_by_place g x) (with_fate Matched) g.messages 0 top_m m (λ z. grind (arith)) num_m e.message) ∙ without-map (as_msg g.comms) (λ z. fits (as_posted g.comms x) z) (fits_by_place g x) (filter (is_between m.from r) g.messages) e.tests_m;
    others = λ a b ne. ap (map (as_msg g.comms)) (filter-marked_other (is_sent_by m.from) number_of_message (is_between a b) (with_fate Matched) g.messages 0 top_m m.number m (closed_m a b) (apart_m a b ne (is_between a b m) refl) num_m there_m);
    received = ap (map (as_posted g.comms)) (filter-marked (is_posted_at r) number_of_receive is_waiting (λ y. fits_by_place g y m) (taking (message_of g m.from m.number)) g.receives 0 top_x x closed_x num_x e.receive) ∙ without-map (as_posted g.comms) (λ y. fits y (as_msg g.comms m)) (λ y. fits_by_place g y m) (filter (is_waiting_at r) g.receives) e.tests_x;
    elsewhere = λ s ne. ap (map (as_posted g.comms)) (filter-marked_other (is_posted_at r) number_of_receive (is_waiting_at s) (taking (message_of g m.from m.number)) g.receives 0 top_x x.number x (λ z. let c = closed_x z in grind (arith, c)) (let w = x_waits in grind (arith, nat_tests, w, ne)) num_x there_x);
    messages_rise = λ a b c h. rises-map (is_sent_by a) number_of_message marks_m g.messages b c (λ z. grind (arith)) (λ z. grind (arith)) h;
    receives_rise = λ a b c h. rises-map (is_posted_at a) number_of_receive (takes_at g r x.number m.from m.number) g.receives b c (λ z. grind (arith)) (λ z. grind (arith)) h;
    messages_live = messages_live';
    receives_live = receives_live';
    took = rw there_m refl;
    knows = λ h. rw there_m (find_has (OpenFits n g) (is_message m.from m.number) g.messages m h there_m (let o = m_open in grind (arith, o))).0.0;
    rows = λ s k. find_changed (takes_at g r x.number m.from m.number) (is_receive s k) g.receives (λ z. grind (arith));
  }
    where
      apart_m : (a b : ℕ) → ((a ≡ m.from) → (b ≡ r) → ⊥) → (t : Bool) → is_between a b m ≡ t → t ≡ false
      apart_m a b ne true k =
          let w = m_open in
          let one : a ≡ m.from = grind (arith, nat_tests, k) in
          let two : b ≡ r = grind (arith, nat_tests, k, w) in
          absurd (ne one two)
      apart_m a b ne false k = refl

-- the headline of the part: what meets by context is allowed by place
pub matches_are_allowed : (n : ℕ) (g : Registry) (q r : ℕ) (p : Posted) (msg : Msg) (top_m top_x : ℕ) → LiveApart g → AllOf (OpenFits n g) g.messages → AllOf (WaitingFits g) g.receives
    → rises (is_sent_by q) number_of_message 0 top_m g.messages ≡ true → rises (is_posted_at r) number_of_receive 0 top_x g.receives ≡ true → Meeting g q r p msg → Matches_so n g q r p msg
matches_are_allowed n g q r p msg top_m top_x apart ms xs num_m num_x e =
    let t = meeting_is_met n g q r p msg apart ms xs e in
    let num : rises (is_sent_by t.m.from) number_of_message 0 top_m g.messages ≡ true = subst (λ (a : ℕ). rises (is_sent_by a) number_of_message 0 top_m g.messages ≡ true) (sym t.from) num_m in
    let here : Matches_so n g t.m.from r (as_posted g.comms t.x) (as_msg g.comms t.m) = record {
      from = refl;
      allowed = match_allowed n g r t.x t.m t.by_place top_m top_x num num_x;
      leaves = leaves_by_place n g r t.x t.m t.by_place top_m top_x num num_x;
    } in
    subst (λ (a : ℕ). Matches_so n g a r p msg) t.from
    (subst (λ (y : Posted). Matches_so n g t.m.from r y msg) t.is_x
    (subst (λ (z : Msg). Matches_so n g t.m.from r (as_posted g.comms t.x) z) t.is_m here))
