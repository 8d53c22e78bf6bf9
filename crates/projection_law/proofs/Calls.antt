-- A call, an answer, a leave and a give-back against the agreement's world.
use Rattle.std.proofs.Common.{◌≡◌, ◌<◌, ◌≤◌, ◌==◌, ◌+◌, not, ℕ, Bool, true, false, if◌then◌else◌, List, [], ◌∷◌, length, Option, Some, None, refl, sym, subst, ap, ◌∙◌, arith}
use Rattle.std.specs.Prelude.{nat_lt, is_none}
use Rattle.std.proofs.lemmas.Bool.Decides.{nat_tests}
use Rattle.mpi_base.specs.declared.keys.Key.{Key}
use Rattle.mpi_base.specs.declared.keys.Kind.TheVariants as kind
use Rattle.mpi_base.specs.declared.entries.Act.TheVariants.{Call, Answer, Leave, Back}
use Rattle.mpi_base.specs.declared.messages.Msg.{Msg}
use Rattle.mpi_base.specs.declared.ops.Op.{Op}
use Rattle.mpi_law.specs.Local.{effect_of}
use Rattle.mpi_law.specs.Local.Objects.{Local}
use Rattle.mpi_law.specs.Local.Messages.{from_nobody}
use Rattle.mpi_law.specs.declared.effects.Origin.{Origin}
use Rattle.mpi_law.specs.declared.effects.Origin.TheVariants.{Grouped, Duplicated, Divided, GroupedOn}
use Rattle.mpi_law.specs.declared.effects.Sending.{Sending}
use Rattle.mpi_law.specs.declared.effects.Effect.{Effect}
use Rattle.mpi_law.specs.declared.effects.Effect.TheVariants.{Says, Opens, Groups, Ungroups, Joins, Frees, Ends, Sends, Receives, Posts, NullPosts, Completes, Awaits}
use Rattle.agree_law.specs.declared.rows.Stage.{Stage}
use Rattle.agree_law.specs.declared.rows.Stage.TheVariants.{Sharing, Called, Waiting, Offered, Done}
use Rattle.agree_law.specs.Tree.{member_at}
use Rattle.agree_law.specs.Part.{Agree, stage_of}
use Rattle.agree_law.specs.Offers.{begin}
use Rattle.agree_law.specs.Shares.{begin_share}
use Rattle.agree_law.specs.Moves.{give_back, close}
use Rattle.agree_law.specs.World as agreement
use Rattle.agree_law.specs.World.{Event, part_at, may_happen, happens, run, is_done}
use Rattle.agree_law.proofs.Lists.{AllOf, AllOf_filter, AllOf_map}
use Rattle.comm_law.specs.Comms.{comm_at}
use Rattle.match_law.specs.declared.rows.Posted.{Posted}
use Rattle.match_law.specs.Box.{Box, arrive, post}
use Rattle.mpi_protocol.specs.declared.rows.Waits.{Waits}
use Rattle.mpi_protocol.specs.declared.rows.Waits.TheVariants.{Nothing, Creation, Uncoloured, Freeing, Ending, Receiving, Awaiting}
use Rattle.mpi_protocol.specs.declared.rows.ReceiveRow.{ReceiveRow}
use Rattle.mpi_protocol.specs.Packets.{Message, Marker, Sent, agreeing}
use Rattle.mpi_protocol.specs.Rank.{Rank, thread_at, with_call, receive_of}
use Rattle.mpi_protocol.specs.Moves.{Move, Taking, arrives_to, arrives, posts_to, posts}
use Rattle.mpi_protocol.specs.Calls.{key_from, key_on, key_under, around_here, opens, sends, message_of, called, calls}
use Rattle.mpi_protocol.specs.Answers.{outcome_of, answers, answers_creation, answers_taken, answers_row, answers_receive, answered}
use Rattle.mpi_protocol.specs.Step.{step, markers, leaves, gives_back}
use Rattle.mpi_protocol.specs.World.{World, rank_at}
use Rattle.projection_law.specs.Facts.{EachMayHappen}
use Rattle.projection_law.proofs.Links.{agreed_none}
use Rattle.projection_law.proofs.Projected.{Projects, same_size, same_part}
use Rattle.projection_law.proofs.Targets.{goes-begin, goes-begin_share}
use Rattle.projection_law.proofs.Moved.{Ruled, after_put, quiet_projects}
use Rattle.projection_law.specs.Events.{opening_events, call_events, decided_events, answer_events}
use Rattle.projection_law.proofs.Events.{Mirrors, may_open}
use Rattle.projection_law.proofs.OneEvent.{IsMove, one_event}

-- what a call needs of its rank
abbrev pub CallFits : ℕ → Rank → Effect ℕ → Type 0
CallFits n x (Says said) = Unit {0}
CallFits n x (Opens target) = Unit {0}
CallFits n x (Groups target members session) = Unit {0}
CallFits n x (Ungroups name) = Unit {0}
CallFits n x (Joins a) = may_open n x a.origin ≡ true
CallFits n x (Frees name c) = Unit {0}
CallFits n x (Ends name s) = Unit {0}
CallFits n x (Sends m) = member_at (comm_at x.comms m.comm).members m.to < n
CallFits n x (Receives a) = Unit {0}
CallFits n x (Posts target a) = Unit {0}
CallFits n x (NullPosts target) = Unit {0}
CallFits n x (Completes name m) = Unit {0}
CallFits n x (Awaits name) = Unit {0}

-- messages do not change the agreement

pub arrives_agree : (x : Rank) (m : Msg) → (arrives x m).0.agree ≡ x.agree
arrives_agree x m = go (arrive x.box m).0 (arrive x.box m).1
  where
    go : (b : Box) (o : Option Posted) → (arrives_to x m b o).0.agree ≡ x.agree
    go b None = refl
    go b (Some q) = refl

pub posts_agree : (x : Rank) (q : Posted) → (posts x q).0.agree ≡ x.agree
posts_agree x q = go (post x.box q).0 (post x.box q).1
  where
    go : (b : Box) (o : Option Msg) → (posts_to x q.number b o).0.agree ≡ x.agree
    go b None = refl
    go b (Some m) = refl

module _ (top : ℕ) (w : World) (a : agreement.World) (r : ℕ) (p : Projects w a) (h : Ruled top a) (lt : r < length w.ranks) (num : (rank_at w r).rank ≡ r) (tops : (rank_at w r).setting.contexts ≡ top) where
  -- the events of a move, and both worlds after them
  abbrev Both : Move → List Event → Type 0
  Both m es = EachMayHappen top a es × Projects (after_put w r m.state m.sent) (run top es a)

  inside : nat_lt r (length a.parts) ≡ true
  inside = let n = same_size w a p in grind (arith, nat_tests, n, lt)

  -- nothing happens in the agreement
  quiet : (y : Rank) → y.agree ≡ (rank_at w r).agree → Projects (after_put w r y []) a
  quiet y is = quiet_projects w a r y [] p lt is refl tt

  -- Calls

  opened : (o : Origin ℕ) → may_open (length w.ranks) (rank_at w r) o ≡ true → (y : Rank) → y.agree ≡ (opens (rank_at w r) o).part → EachMayHappen top a (opening_events r (rank_at w r) o) × Projects (after_put w r y (agreeing (opens (rank_at w r) o).sent)) (run top (opening_events r (rank_at w r) o) a)
  opened o may y is = go o may is
    where
      n : length a.parts ≡ length w.ranks
      n = same_size w a p

      here : part_at a r ≡ (rank_at w r).agree
      here = same_part w a r p lt

      begins : (key : Key) → agreement.may_begin (length w.ranks) (rank_at w r).rank (rank_at w r).agree key ≡ true → IsMove top a a r (agreement.Begin r key) (begin (rank_at w r).rank (rank_at w r).setting.contexts (rank_at w r).agree key)
      begins key m = record {
        may = rw (inside, n, here) (subst (λ z. agreement.may_begin (length w.ranks) z (rank_at w r).agree key ≡ true) num m);
        does = ap (λ b. agreement.moved a r (begin r top b key)) here ∙ (ap (λ z. agreement.moved a r (begin z top (rank_at w r).agree key)) (sym num) ∙ ap (λ z. agreement.moved a r (begin (rank_at w r).rank z (rank_at w r).agree key)) (sym tops));
        goes = goes-begin (length a.parts) (rank_at w r).rank (rank_at w r).setting.contexts (rank_at w r).agree key;
      }

      begun : (key : Key) → agreement.may_begin (length w.ranks) (rank_at w r).rank (rank_at w r).agree key ≡ true → y.agree ≡ (begin (rank_at w r).rank (rank_at w r).setting.contexts (rank_at w r).agree key).part
          → EachMayHappen top a (agreement.Begin r key ∷ []) × Projects (after_put w r y (agreeing (begin (rank_at w r).rank (rank_at w r).setting.contexts (rank_at w r).agree key).sent)) (happens top a (agreement.Begin r key))
      begun key m is = let b = begins key m in ((b.may, tt), one_event top w a a r (agreement.Begin r key) _ p h lt b y is)

      go : (o : Origin ℕ) → may_open (length w.ranks) (rank_at w r) o ≡ true → y.agree ≡ (opens (rank_at w r) o).part → EachMayHappen top a (opening_events r (rank_at w r) o) × Projects (after_put w r y (agreeing (opens (rank_at w r) o).sent)) (run top (opening_events r (rank_at w r) o) a)
      go (Grouped group tag) m is = begun (key_from group tag) m is
      go (Duplicated c) m is = begun (key_on (rank_at w r).comms c kind.Dup) m is
      go (GroupedOn c tag group) m is = begun (key_under c tag group) m is
      go (Divided c share) m is =
          let key = key_on (rank_at w r).comms c kind.Share in
          let b : IsMove top a a r (agreement.Begin_share r key share) (begin_share (rank_at w r).rank (rank_at w r).agree key share) = record {
            may = rw (inside, n, here) (subst (λ z. agreement.may_begin_share (length w.ranks) z (rank_at w r).agree key ≡ true) num m);
            does = ap (λ z. agreement.moved a r (begin_share r z key share)) here ∙ ap (λ z. agreement.moved a r (begin_share z (rank_at w r).agree key share)) (sym num);
            goes = goes-begin_share (length a.parts) (rank_at w r).rank (rank_at w r).agree key share;
          } in
          ((b.may, tt), one_event top w a a r (agreement.Begin_share r key share) _ p h lt b y is)

  sent_so : (t : ℕ) (l : Local) (m : Sending ℕ) → member_at (comm_at (rank_at w r).comms m.comm).members m.to < length w.ranks → Both (sends (rank_at w r) t l m) []
  sent_so t l m below = (tt, go (member_at (comm_at (rank_at w r).comms m.comm).members m.to == (rank_at w r).rank) (record (rank_at w r) { local = l; threads = with_call (rank_at w r) t Nothing; sends = (rank_at w r).sends + 1 }) (message_of (rank_at w r) m) refl)
    where
      done : Bool → Rank → Msg → Taking × List Sent
      done b y msg = if b then (arrives y msg, []) else ((y, None), record { to = member_at (comm_at (rank_at w r).comms m.comm).members m.to; packet = Message msg } ∷ [])

      go : (b : Bool) (y : Rank) (msg : Msg) → y.agree ≡ (rank_at w r).agree → Projects (after_put w r (done b y msg).0.0 (done b y msg).1) a
      go true y msg is = quiet (arrives y msg).0 (arrives_agree y msg ∙ is)
      go false y msg is = quiet_projects w a r y (record { to = member_at (comm_at (rank_at w r).comms m.comm).members m.to; packet = Message msg } ∷ []) p lt is refl (below, tt)

  called_so : (t : ℕ) (e : Effect ℕ) → CallFits (length w.ranks) (rank_at w r) e → Both (called (rank_at w r) t e) (call_events r (rank_at w r) e)
  called_so t (Says said) f = (tt, quiet _ refl)
  called_so t (Opens target) f = (tt, quiet _ refl)
  called_so t (Groups target members session) f = (tt, quiet _ refl)
  called_so t (Ungroups name) f = (tt, quiet _ refl)
  called_so t (Joins q) f = opened q.origin f _ refl
  called_so t (Frees name c) f = (tt, quiet _ refl)
  called_so t (Ends name s) f = (tt, quiet _ refl)
  called_so t (Sends m) f = sent_so t (rank_at w r).local m f
  called_so t (Receives q) f = (tt, quiet _ (posts_agree _ _))
  called_so t (Posts target q) f = (tt, quiet _ (posts_agree _ _))
  called_so t (NullPosts target) f = (tt, quiet _ refl)
  called_so t (Completes name n) f = (tt, quiet _ refl)
  called_so t (Awaits name) f = (tt, quiet _ refl)

  pub call_mirrors : (t : ℕ) (op : Op) → CallFits (length w.ranks) (rank_at w r) (effect_of (rank_at w r).setting (rank_at w r).rank (around_here (rank_at w r)) (rank_at w r).local op) → Mirrors top w a r (Call t op)
  unfolding step calls
  call_mirrors t op f = let b = called_so t (effect_of (rank_at w r).setting (rank_at w r).rank (around_here (rank_at w r)) (rank_at w r).local op) f in record { may = b.0; projects = b.1 }

  -- Answers

  decided_so : (t : ℕ) (key : Key) (target : List ℕ) (session : ℕ) (s : Option Stage) → stage_of (rank_at w r).agree.opened key ≡ s → Both (answers_creation (rank_at w r) t key target session (outcome_of s)) (decided_events r key (outcome_of s))
  decided_so t key target session None e = (tt, quiet _ refl)
  decided_so t key target session (Some (Sharing z)) e = (tt, quiet _ refl)
  decided_so t key target session (Some Called) e = (tt, quiet _ refl)
  decided_so t key target session (Some (Waiting i)) e = (tt, quiet _ refl)
  decided_so t key target session (Some (Offered i own)) e = (tt, quiet _ refl)
  decided_so t key target session (Some (Done o)) e =
      let here = same_part w a r p lt in
      let b : IsMove top a a r (agreement.Close r key) (record { part = close (rank_at w r).agree key; sent = [] }) = record {
        may = rw (inside, here, e) refl;
        does = ap (λ (z : Agree). agreement.moved a r (record { part = close z key; sent = [] })) here;
        goes = tt;
      } in
      ((b.may, tt), one_event top w a a r (agreement.Close r key) _ p h lt b _ refl)

  taken_so : (t n room : ℕ) (o : Option Msg) → Both (answers_taken (rank_at w r) t n room o) []
  taken_so t n room None = (tt, quiet _ refl)
  taken_so t n room (Some m) = (tt, quiet _ refl)

  row_so : (t n : ℕ) (o : Option ReceiveRow) → Both (answers_row (rank_at w r) t n o) []
  row_so t n None = (tt, quiet _ refl)
  row_so t n (Some q) = taken_so t n q.room q.taken

  received_so : (t n : ℕ) → Both (answers_receive (rank_at w r) t n) []
  received_so t n = go (n == 0)
    where
      go : (b : Bool) → Both (if b then answers (rank_at w r) t from_nobody else answers_row (rank_at w r) t n (receive_of (rank_at w r).receives n)) []
      go true = (tt, quiet _ refl)
      go false = row_so t n (receive_of (rank_at w r).receives n)

  answered_so : (t : ℕ) (s : Waits) → Both (answered (rank_at w r) t s) (answer_events r (rank_at w r) s)
  answered_so t Nothing = (tt, quiet _ refl)
  answered_so t (Creation key target session) = decided_so t key target session (stage_of (rank_at w r).agree.opened key) refl
  answered_so t (Uncoloured key target session) = (tt, quiet _ refl)
  answered_so t (Freeing serial) = (tt, quiet _ refl)
  answered_so t (Ending session) = (tt, quiet _ refl)
  answered_so t (Receiving n) = received_so t n
  answered_so t (Awaiting name) = (tt, quiet _ refl)

  pub answer_mirrors : (t : ℕ) → Mirrors top w a r (Answer t)
  unfolding step
  answer_mirrors t = let b = answered_so t (thread_at (rank_at w r) t).waits in record { may = b.0; projects = b.1 }

  -- Leaves and give-backs

  pub leave_mirrors : (c : ℕ) → AllOf (λ m. m < length w.ranks) (comm_at (rank_at w r).comms c).members → Mirrors top w a r (Leave c)
  unfolding step leaves
  leave_mirrors c below = record {
    may = tt;
    projects = quiet_projects w a r _ (markers (rank_at w r).rank c (comm_at (rank_at w r).comms c).members) p lt refl (agreed_none (rank_at w r).rank c (comm_at (rank_at w r).comms c).members)
        (AllOf_map (λ (s : Sent). s.to < length w.ranks) (λ m. record { to = m; packet = Marker c }) _ (AllOf_filter (λ m. m < length w.ranks) (λ m. not (m == (rank_at w r).rank)) (comm_at (rank_at w r).comms c).members below));
  }

  pub back_mirrors : (c : ℕ) → is_none (rank_at w r).agree.owner ≡ true → 0 < c → c ≤ top → Mirrors top w a r (Back c)
  unfolding step gives_back
  back_mirrors c none pos le =
      let here = same_part w a r p lt in
      let b : IsMove top a a r (agreement.Back r c) (record { part = give_back (rank_at w r).agree c; sent = [] }) = record {
        may = rw (inside, here, none) (grind (arith, nat_tests, pos, le));
        does = ap (λ z. agreement.moved a r (record { part = give_back z c; sent = [] })) here;
        goes = tt;
      } in
      record { may = (b.may, tt); projects = one_event top w a a r (agreement.Back r c) _ p h lt b _ refl }
