-- Calls.
use Rattle.std.proofs.Common.{◌≡◌, ◌≤◌, ◌+◌, ◌==◌, ◌++◌, if◌then◌else◌, ℕ, Bool, true, false, List, [], ◌∷◌, length, refl, sym, subst, ◌∙◌, ap, arith, Option, Some, None}
use Rattle.std.proofs.lemmas.List.{length-map}
use Rattle.local_law.specs.Names.{bind, unbind}
use Rattle.local_law.specs.Objects as objects
use Rattle.local_law.specs.Objects.{open_session, close_session}
use Rattle.mpi_base.specs.declared.entries.Act.TheVariants.{Call}
use Rattle.mpi_base.specs.declared.entries.Entry.{Entry}
use Rattle.mpi_base.specs.declared.messages.Matched.{Matched}
use Rattle.mpi_base.specs.declared.messages.Msg.{Msg}
use Rattle.mpi_base.specs.declared.ops.Op.{Op}
use Rattle.mpi_base.specs.declared.replies.Reply.{Reply}
use Rattle.mpi_base.specs.declared.replies.Reply.TheVariants as reply
use Rattle.mpi_law.specs.declared.effects.Asked.{Asked}
use Rattle.mpi_law.specs.declared.effects.Effect.{Effect}
use Rattle.mpi_law.specs.declared.effects.Effect.TheVariants.{Says, Opens, Groups, Ungroups, Joins, Frees, Ends, Sends, Receives, Posts, NullPosts, Completes, Awaits}
use Rattle.mpi_law.specs.declared.effects.Receiving.{Receiving as ReceiveAsked}
use Rattle.mpi_law.specs.declared.effects.Sending.{Sending}
use Rattle.mpi_law.specs.Local.{effect_of}
use Rattle.mpi_law.specs.Local.Objects.{Local, with_names}
use Rattle.comm_law.specs.Comms.{Comms, free_session}
use Rattle.match_law.specs.declared.rows.Posted.{Posted}
use Rattle.match_law.specs.Box.{Box as MessageBox, arrive, post}
use Rattle.mpi_protocol.specs.declared.rows.ThreadRow.{ThreadRow}
use Rattle.mpi_protocol.specs.declared.rows.Waits.TheVariants.{Nothing, Ending, Receiving, Awaiting}
use Rattle.mpi_protocol.specs.Calls.{around_here, called, calls, message_of, posted_of, sends, sends_to, sent, with_post}
use Rattle.mpi_protocol.specs.Moves.{Move, arrives_to, posts, posts_to}
use Rattle.mpi_protocol.specs.Packets.{Message}
use Rattle.mpi_protocol.specs.Rank.{Rank, with_call}
use Rattle.mpi_protocol.specs.Step.{step}
use Rattle.rank_core.specs.Calling.{Carries, requested_as}
use Rattle.rank_core.specs.Held.{Held, IsReady, Makes, MOST_SENT}
use Rattle.rank_core.specs.declared.packets.Sent.{Sent}
use Rattle.rank_core.specs.Packets.{Box, sent_by, sent_of}
use Rattle.rank_core.proofs.ActFacts.{makes-of, sent_by-nothing}

-- Effects that send nothing

module _ {w : ℕ} (h old : Held) (t : ℕ) (effect : Effect ℕ) (was : Box w) (is : h ≡ old) (ready : IsReady was) where
  nothing : sent_by old.state.setting.contexts was ≡ []
  nothing = sent_by-nothing old.state.setting.contexts was was 0 refl ready

  carried : (e : Effect ℕ) (new : Rank) (matched : Option Matched) (said : Option Reply) → effect ≡ e
      → record { state = new; said = None; matched = matched; dropped = None; reply = said; sent = [] } ≡ called h.state t e
      → Carries old.state t effect new matched said (sent_by old.state.setting.contexts was)
  carried e new matched said at does =
      rw (nothing, at)
      (subst (λ (o : Held). record { state = new; said = None; matched = matched; dropped = None; reply = said; sent = [] } ≡ called o.state t e) is does)

  module _ (threads : List ThreadRow) where
    pub carried-says : (said : Reply) → effect ≡ Says said → threads ≡ with_call h.state t Nothing
        → Carries old.state t effect (record h.state { threads = threads }) None (Some said) (sent_by old.state.setting.contexts was)
    carried-says said at calls = carried (Says said) _ None (Some said) at (rw calls refl)

    pub carried-awaits : (name : List ℕ) → effect ≡ Awaits name → threads ≡ with_call h.state t (Awaiting name)
        → Carries old.state t effect (record h.state { threads = threads }) None None (sent_by old.state.setting.contexts was)
    carried-awaits name at calls = carried (Awaits name) _ None None at (rw calls refl)

    module _ (local : Local) where
      pub carried-opens : (target : List ℕ) → effect ≡ Opens target → threads ≡ with_call h.state t Nothing
          → local ≡ open_session (with_names h.state.local (bind h.state.local.names target (objects.Session (h.state.local.opened + 1)))) (h.state.local.opened + 1)
          → Carries old.state t effect (record h.state { local = local; threads = threads }) None (Some reply.Fine) (sent_by old.state.setting.contexts was)
      carried-opens target at calls held = carried (Opens target) _ None (Some reply.Fine) at (rw (calls, held) refl)

      pub carried-groups : (target members members2 members3 : List ℕ) (session : ℕ) → effect ≡ Groups target members session → members2 ≡ members → members3 ≡ members
          → threads ≡ with_call h.state t Nothing → local ≡ with_names h.state.local (bind h.state.local.names target (objects.Group members3 session))
          → Carries old.state t effect (record h.state { local = local; threads = threads }) None (Some (reply.Group members2)) (sent_by old.state.setting.contexts was)
      carried-groups target members members2 members3 session at copied grouped calls held =
          carried (Groups target members session) _ None (Some (reply.Group members2)) at (rw (calls, held, grouped, copied) refl)

      pub carried-ungroups : (name : List ℕ) → effect ≡ Ungroups name → threads ≡ with_call h.state t Nothing → local ≡ with_names h.state.local (unbind h.state.local.names name)
          → Carries old.state t effect (record h.state { local = local; threads = threads }) None (Some reply.Fine) (sent_by old.state.setting.contexts was)
      carried-ungroups name at calls held = carried (Ungroups name) _ None (Some reply.Fine) at (rw (calls, held) refl)

      pub carried-null : (target : List ℕ) → effect ≡ NullPosts target → threads ≡ with_call h.state t Nothing
          → local ≡ with_names h.state.local (bind h.state.local.names target (objects.Request 0))
          → Carries old.state t effect (record h.state { local = local; threads = threads }) None (Some reply.Fine) (sent_by old.state.setting.contexts was)
      carried-null target at calls held = carried (NullPosts target) _ None (Some reply.Fine) at (rw (calls, held) refl)

      pub carried-completes : (name : List ℕ) (n : ℕ) → effect ≡ Completes name n → threads ≡ with_call h.state t (Receiving n) → local ≡ with_names h.state.local (unbind h.state.local.names name)
          → Carries old.state t effect (record h.state { local = local; threads = threads }) None None (sent_by old.state.setting.contexts was)
      carried-completes name n at calls held = carried (Completes name n) _ None None at (rw (calls, held) refl)

      pub carried-ends : (name : List ℕ) (session : ℕ) (comms : Comms) → effect ≡ Ends name session → threads ≡ with_call h.state t (Ending session) → comms ≡ free_session h.state.comms session
          → local ≡ close_session h.state.local (λ s. s == session)
          → Carries old.state t effect (record h.state { comms = comms; local = local; threads = threads }) None None (sent_by old.state.setting.contexts was)
      carried-ends name session comms at calls freed held = carried (Ends name session) _ None None at (rw (calls, freed, held) refl)

  pub carried-posts : (target : List ℕ) (a : ReceiveAsked ℕ) (new : Rank) (matched : Option Matched) → effect ≡ Posts target a
      → new ≡ (posts (with_post h.state t (requested_as h.state.local (Some target) (h.state.posts + 1)) a Nothing) (posted_of h.state a)).0
      → matched ≡ (posts (with_post h.state t (requested_as h.state.local (Some target) (h.state.posts + 1)) a Nothing) (posted_of h.state a)).1
      → Carries old.state t effect new matched (Some reply.Fine) (sent_by old.state.setting.contexts was)
  carried-posts target a new matched at state match = carried (Posts target a) new matched (Some reply.Fine) at (rw (state, match) refl)

  pub carried-receives : (a : ReceiveAsked ℕ) (n : ℕ) (new : Rank) (matched : Option Matched) → effect ≡ Receives a → n ≡ h.state.posts + 1
      → new ≡ (posts (with_post h.state t h.state.local a (Receiving n)) (posted_of h.state a)).0 → matched ≡ (posts (with_post h.state t h.state.local a (Receiving n)) (posted_of h.state a)).1
      → Carries old.state t effect new matched None (sent_by old.state.setting.contexts was)
  carried-receives a n new matched at number state match = carried (Receives a) new matched None at (rw (state, match, number) refl)

-- Effects with a contract of their own

-- what a message sends
pub few-sent : {w : ℕ} (top : ℕ) (was out : Box w) → IsReady was → out.agreed ≡ was.agreed → length out.others ≤ length was.others + 1 → length (sent_by top out) ≤ MOST_SENT
few-sent {w} top was out ready agreed le =
    let none = ap (λ (xs : List (Sent w)). length xs) ready.others in
    let count = length-map out.others (sent_of top) in
    rw (agreed, ready.agreed) (omega (arith, none, count, le))

pub carried-sends : {w : ℕ} (old : Held) (t : ℕ) (effect : Effect ℕ) (m : Sending ℕ) (new : Rank) (matched : Option Matched) (was out : Box w) → IsReady was → effect ≡ Sends m
    → new ≡ (sends old.state t old.state.local m).state → matched ≡ (sends old.state t old.state.local m).matched
    → sent_by old.state.setting.contexts out ≡ sent_by old.state.setting.contexts was ++ (sends old.state t old.state.local m).sent
    → Carries old.state t effect new matched (Some reply.Fine) (sent_by old.state.setting.contexts out)
carried-sends old t effect m new matched was out ready at state match packets =
    let nothing = sent_by-nothing old.state.setting.contexts was was 0 refl ready in
    rw (at, state, match, packets, nothing) refl

pub carried-joins : {w : ℕ} (old : Held) (t : ℕ) (effect : Effect ℕ) (a : Asked ℕ) (new : Rank) (out : Box w) → effect ≡ Joins a → new ≡ (called old.state t (Joins a)).state
    → sent_by old.state.setting.contexts out ≡ (called old.state t (Joins a)).sent → Carries old.state t effect new None None (sent_by old.state.setting.contexts out)
carried-joins old t effect a new out at state packets = rw (at, state, packets) refl

pub carried-frees : {w : ℕ} (old : Held) (t : ℕ) (effect : Effect ℕ) (name : List ℕ) (c : ℕ) (new : Rank) (was : Box w) → IsReady was → effect ≡ Frees name c
    → new ≡ (called old.state t (Frees name c)).state → Carries old.state t effect new None None (sent_by old.state.setting.contexts was)
carried-frees old t effect name c new was ready at state = rw (at, state, sent_by-nothing old.state.setting.contexts was was 0 refl ready) refl

-- A call leaves the rank's number and its setting, and says nothing and drops nothing

abbrev Keeps : Rank → Move → Type 0
Keeps x m = (m.state.rank ≡ x.rank) × (m.state.setting ≡ x.setting)

keeps-posts : (x : Rank) (n : ℕ) (b : MessageBox) (o : Option Msg) → ((posts_to x n b o).0.rank ≡ x.rank) × ((posts_to x n b o).0.setting ≡ x.setting)
keeps-posts x n b None = (refl, refl)
keeps-posts x n b (Some m) = (refl, refl)

keeps-arrives : (x : Rank) (m : Msg) (b : MessageBox) (o : Option Posted) → ((arrives_to x m b o).0.rank ≡ x.rank) × ((arrives_to x m b o).0.setting ≡ x.setting)
keeps-arrives x m b None = (refl, refl)
keeps-arrives x m b (Some p) = (refl, refl)

keeps-sends : (x : Rank) (m : Msg) (to : ℕ) → Keeps x (sent (sends_to x m to))
keeps-sends x m to = go (to == x.rank)
  where
    go : (b : Bool) → Keeps x (sent (if b then (arrives_to x m (arrive x.box m).0 (arrive x.box m).1, []) else ((x, None), record { to = to; packet = Message m } ∷ [])))
    go true = keeps-arrives x m (arrive x.box m).0 (arrive x.box m).1
    go false = (refl, refl)

keeps-called : (x : Rank) (t : ℕ) (e : Effect ℕ) → Keeps x (called x t e)
keeps-called x t (Says said) = (refl, refl)
keeps-called x t (Opens target) = (refl, refl)
keeps-called x t (Groups target members session) = (refl, refl)
keeps-called x t (Ungroups name) = (refl, refl)
keeps-called x t (Joins a) = (refl, refl)
keeps-called x t (Frees name c) = (refl, refl)
keeps-called x t (Ends name session) = (refl, refl)
keeps-called x t (Sends m) = let k = keeps-sends (record x { threads = with_call x t Nothing; sends = x.sends + 1 }) (message_of x m) _ in (k.0, k.1)
keeps-called x t (Receives a) =
    let k = keeps-posts (with_post x t x.local a (Receiving (x.posts + 1))) (x.posts + 1) (post x.box (posted_of x a)).0 (post x.box (posted_of x a)).1 in (k.0, k.1)
keeps-called x t (Posts target a) = let k = keeps-posts (with_post x t _ a Nothing) (x.posts + 1) (post x.box (posted_of x a)).0 (post x.box (posted_of x a)).1 in (k.0, k.1)
keeps-called x t (NullPosts target) = (refl, refl)
keeps-called x t (Completes name n) = (refl, refl)
keeps-called x t (Awaits name) = (refl, refl)

step-call : (x : Rank) (t : ℕ) (op : Op) → step x (Call t op) None ≡ called x t (effect_of x.setting x.rank (around_here x) x.local op)
unfolding step calls
step-call x t op = refl

pub makes-call : {w : ℕ} (old new : Held) (t : ℕ) (op : Op) (effect : Effect ℕ) (matched : Option Matched) (said : Option Reply) (line : Entry) (out : Box w)
    → effect ≡ effect_of old.state.setting old.state.rank (around_here old.state) old.state.local op
    → Carries old.state t effect new.state matched said (sent_by old.state.setting.contexts out) → length (sent_by old.state.setting.contexts out) ≤ MOST_SENT
    → line ≡ record { choice = record { rank = new.state.rank; act = Call t op }; brief = None; said = None; matched = matched; dropped = None; reply = said }
    → new.boxed ≤ old.boxed + 1 → old.spare ≤ new.spare + 1 → Makes old (Call t op) None new line out
makes-call old new t op effect matched said line out at carries few entry boxed spare =
    let keeps = rw (← carries) at (keeps-called old.state t effect) in
    makes-of old old new (Call t op) None _ line out refl (step-call old.state t op ∙ (ap (λ (e : Effect ℕ). called old.state t e) (sym at) ∙ sym carries)) refl (entry ∙ rw keeps.0 refl) refl few keeps.0 keeps.1 boxed spare
