-- What the answer of a receive tells.
use Rattle.std.proofs.Common.{◌≡◌, ◌≤◌, ◌==◌, ◌&&◌, not, if◌then◌else◌, nat_lt, ℕ, Bool, true, false, List, ◌∷◌, length, find, position, Option, Some, None, option_map, refl, sym, ap, ◌∙◌, subst, arith}
use Rattle.std.specs.Prelude.{unwrap_or}
use Rattle.std.specs.List.{list_any}
use Rattle.std.proofs.lemmas.Bool.Decides.{nat_tests}
use Rattle.mpi_base.specs.MemberLists.{has_rank}
use Rattle.mpi_base.specs.declared.errors.ErrClass.TheVariants as class
use Rattle.mpi_base.specs.declared.replies.Reply.{Reply}
use Rattle.mpi_base.specs.declared.replies.Reply.TheVariants as reply
use Rattle.mpi_law.specs.declared.setting.Setting.{Setting}
use Rattle.mpi_law.specs.Registry.State.{Registry, Message, Receive, Wait, comm_at, place_in}
use Rattle.mpi_law.specs.Registry.Messages.{is_unmatched, is_waiting, fits, is_overtaken, is_preceded, may_match, is_receive, is_message, receive_of, message_of}
use Rattle.mpi_law.specs.Registry.Replies.{received, owed_receive, owed_to}
use Rattle.mpi_law.specs.Registry.Events.{Event, Matches, Replies}
use Rattle.answer_law.specs.Answers.{IsRun, registry_at}
use Rattle.answer_law.specs.Receipts.{Receipt, may_take, may_be_taken_by, told_of, TookFirst}
use Rattle.answer_law.proofs.Lists.{found, found_passes, found_alike, none_either, member_place}
use Rattle.answer_law.proofs.Comms.{Grows}
use Rattle.answer_law.proofs.Names.{IsMember}
use Rattle.answer_law.proofs.Runs.{Within, within, grows_at}
use Rattle.answer_law.proofs.Numbered.{first_of}
use Rattle.answer_law.proofs.Lines.{IsSender, Lined}
use Rattle.answer_law.proofs.Takings.{Took, whole_at}

-- what a match needs, one by one
record Parts (g : Registry) (x : Receive) (m : Message) : Type 0 where
  waiting : is_waiting x ≡ true
  unmatched : is_unmatched m ≡ true
  fitting : fits g x m ≡ true
  foremost : list_any (is_overtaken g x m) g.messages ≡ false
  earliest : list_any (is_preceded g x m) g.receives ≡ false

parts : (g : Registry) (x : Receive) (m : Message) → may_match g x m ≡ true → Parts g x m
unfolding may_match
parts g x m h = go (is_waiting x) (is_unmatched m) (fits g x m) (list_any (is_overtaken g x m) g.messages) (list_any (is_preceded g x m) g.receives) refl refl refl refl refl h
  where
    go : (a b c d e : Bool) → is_waiting x ≡ a → is_unmatched m ≡ b → fits g x m ≡ c → list_any (is_overtaken g x m) g.messages ≡ d → list_any (is_preceded g x m) g.receives ≡ e
        → (a && (b && (c && (not d && not e)))) ≡ true → Parts g x m
    go false b c d e ea eb ec ed ee h = absurd (cc (h))
    go true false c d e ea eb ec ed ee h = absurd (cc (h))
    go true true false d e ea eb ec ed ee h = absurd (cc (h))
    go true true true true e ea eb ec ed ee h = absurd (cc (h))
    go true true true false true ea eb ec ed ee h = absurd (cc (h))
    go true true true false false ea eb ec ed ee h = record { waiting = ea; unmatched = eb; fitting = ec; foremost = ed; earliest = ee }

module _ (g : Registry) (h : Lined g) (r number from sent : ℕ) (x : Receive) (m : Message) (posted : receive_of g r number ≡ Some x) (there : message_of g from sent ≡ Some m) (p : Parts g x m) where
  of_message : is_message from sent m ≡ true
  of_message = found_passes (is_message from sent) g.messages m there

  of_receive : is_receive r number x ≡ true
  of_receive = found_passes (is_receive r number) g.receives x posted

  same_comm : x.comm ≡ m.comm
  same_comm = let f = p.fitting in grind (arith, nat_tests, f)

  -- the first of the sender's open messages that fit the receive
  first : find (may_take g x from) g.messages ≡ Some m
  first =
      found_alike (may_take g x from) (λ k. (k.from == from) && test k) g.messages (λ k. swap (is_unmatched k) (k.from == from) (fits g x k))
      ∙ first_of (λ (k : Message). k.from == from) (λ k. k.number) test g.messages 0 (h.sends from).bound sent m (h.sends from).rising there passes none
    where
      test : Message → Bool
      test k = is_unmatched k && fits g x k

      swap : (a b c : Bool) → (a && (b && c)) ≡ (b && (a && c))
      swap true b c = refl
      swap false true c = refl
      swap false false c = refl

      passes : test m ≡ true
      passes = let u = p.unmatched in let f = p.fitting in grind (arith, u, f)

      none : list_any (λ k. (k.from == from) && (nat_lt k.number sent && test k)) g.messages ≡ false
      none = none_either (is_overtaken g x m) _ g.messages p.foremost (λ k e. (let o = of_message in let f = p.fitting in grind (arith, nat_tests, o, f, e)))

  -- the first of the rank's waiting receives that fit the message
  turn : find (may_be_taken_by g m r) g.receives ≡ Some x
  turn =
      found_alike (may_be_taken_by g m r) (λ y. (y.rank == r) && test y) g.receives (λ y. swap (is_waiting y) (y.rank == r) (fits g y m))
      ∙ first_of (λ (y : Receive). y.rank == r) (λ y. y.number) test g.receives 0 (h.posts r).bound number x (h.posts r).rising posted passes none
    where
      test : Receive → Bool
      test y = is_waiting y && fits g y m

      swap : (a b c : Bool) → (a && (b && c)) ≡ (b && (a && c))
      swap true b c = refl
      swap false true c = refl
      swap false false c = refl

      passes : test x ≡ true
      passes = let w = p.waiting in let f = p.fitting in grind (arith, w, f)

      none : list_any (λ y. (y.rank == r) && (nat_lt y.number number && test y)) g.receives ≡ false
      none = none_either (is_preceded g x m) _ g.receives p.earliest (λ y e. (let o = of_receive in grind (arith, nat_tests, o, e)))

  from_is : m.from ≡ from
  from_is = let o = of_message in grind (arith, nat_tests, o)

  sender : IsMember g.comms m.from m.comm
  sender = (found (IsSender g.comms) (is_message from sent) g.messages m there h.senders).1

  member : has_rank (comm_at g x.comm).members from ≡ true
  member = rw same_comm (rw (sym from_is) sender.member)

  -- what is told later, where the communicators have grown
  told : (new : Registry) → Grows g.comms new.comms → (room : ℕ) → received new room m ≡ told_of (comm_at g x.comm).members room m
  told new grows room = rw (same_comm, grows.members m.comm sender.inside) (go (nat_lt room (length m.payload)))
    where
      place : Some (place_in (comm_at g m.comm).members m.from) ≡ position (λ k. k == m.from) (comm_at g m.comm).members
      place = let i = member_place (comm_at g m.comm).members m.from sender.member in ap (λ (o : Option ℕ). Some (unwrap_or o 0)) i.1 ∙ sym i.1

      go : (b : Bool) → (if b then reply.Refused class.Truncate else reply.Received (Some (place_in (comm_at g m.comm).members m.from)) (Some m.tag) m.payload)
          ≡ (if b then reply.Refused class.Truncate else reply.Received (position (λ k. k == m.from) (comm_at g m.comm).members) (Some m.tag) m.payload)
      go true = refl
      go false = ap (λ (o : Option ℕ). reply.Received o (Some m.tag) m.payload) place

module _ (s : Setting) (events : List Event) (run : IsRun s events) (r number : ℕ) (said : Reply) (a : Receipt s events r number said) (some : 1 ≤ number) where
  abbrev now : Registry
  now = registry_at s a.before

  reply_here : Within s a.before (Replies r a.thread said) a.after
  reply_here = within s events a.before (Replies r a.thread said) a.after a.here run

  owed : owed_receive now (receive_of now r number) ≡ Some said
  owed =
      let some_number : (number == 0) ≡ false = grind (arith, nat_tests, some) in
      let e = subst (λ (w : Wait). owed_to now r w ≡ Some said) a.waited reply_here.allowed in
      rw some_number at e

  -- the match at which the message was taken
  at_match : (x : Receive) (m : Message) → received now x.room m ≡ said → Took s a.before r number x m → TookFirst s a.before r number said
  at_match x m is t = record {
    before = t.before;
    after = t.after;
    from = t.from;
    sent = t.sent;
    receive = t.receive;
    message = m;
    here = t.here;
    posted = t.posted;
    member = member g lined r number t.from t.sent t.receive m t.posted t.message p;
    first = first g lined r number t.from t.sent t.receive m t.posted t.message p;
    turn = turn g lined r number t.from t.sent t.receive m t.posted t.message p;
    told = sym is ∙ told g lined r number t.from t.sent t.receive m t.posted t.message p now grows x.room ∙ ap (λ (y : Receive). told_of (comm_at g t.receive.comm).members y.room m) t.is;
  }
    where
      g : Registry
      g = registry_at s t.before

      match_here : Within s t.before (Matches r number t.from t.sent) t.after
      match_here = within s a.before t.before (Matches r number t.from t.sent) t.after t.here reply_here.earlier

      lined : Lined g
      lined = (whole_at s t.before match_here.earlier).lined

      p : Parts g t.receive m
      p = parts g t.receive m t.may

      grows : Grows g.comms now.comms
      grows = subst (λ (all : List Event). Grows g.comms (registry_at s all).comms) (sym t.here) (grows_at s t.before (Matches r number t.from t.sent ∷ t.after) match_here.rest)

  pub took_first : TookFirst s a.before r number said
  took_first = go (receive_of now r number) refl owed
    where
      taken : (x : Receive) → receive_of now r number ≡ Some x → (o : Option Message) → x.taken ≡ o → option_map (received now x.room) o ≡ Some said → TookFirst s a.before r number said
      taken x posted None t e = absurd (cc (e))
      taken x posted (Some m) t e =
          let is : received now x.room m ≡ said = cc (e) in
          at_match x m is ((whole_at s a.before reply_here.earlier).took.of r number x m posted t)

      go : (o : Option Receive) → receive_of now r number ≡ o → owed_receive now o ≡ Some said → TookFirst s a.before r number said
      go None t e = absurd (cc (e))
      go (Some x) t e = taken x t x.taken refl e
