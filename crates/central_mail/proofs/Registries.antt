-- What a registry says of its messages and receives it says by these and by its communicators alone.
use Rattle.std.proofs.Common.{◌≡◌, ℕ, ◌&&◌, true, not, if◌then◌else◌, Option, None, Some, is_some, refl, ap}
use Rattle.std.specs.List.{list_any}
use Rattle.mpi_law.specs.Registry.State.{Registry, Message, Receive}
use Rattle.mpi_law.specs.Registry.Messages.{is_waiting, is_unmatched, fits, is_overtaken, is_preceded, may_match, receive_of, message_of, after_match, left_on, drop_left, has_waiting}
use Rattle.mpi_law.specs.Registry.Replies.{owed_receive}
use Rattle.mpi_law.specs.Closed.{is_matched_out}
use Rattle.central_mail.specs.Mail.{mail_registry, mail_of, can_take, after_take}

module _ (g : Registry) where
  pub receive_by_mail : (r number : ℕ) → receive_of g r number ≡ receive_of (mail_registry g.comms (mail_of g)) r number
  receive_by_mail r number = refl

  pub message_by_mail : (from number : ℕ) → message_of g from number ≡ message_of (mail_registry g.comms (mail_of g)) from number
  message_by_mail from number = refl

  pub left_by_mail : (p r : ℕ) → left_on g p r ≡ left_on (mail_registry g.comms (mail_of g)) p r
  left_by_mail p r = refl

  pub dropped_by_mail : (p r : ℕ) → drop_left g p r ≡ drop_left (mail_registry g.comms (mail_of g)) p r
  dropped_by_mail p r = refl

  pub waiting_by_mail : (p r : ℕ) → has_waiting g p r ≡ has_waiting (mail_registry g.comms (mail_of g)) p r
  waiting_by_mail p r = refl

  pub owed_by_mail : (x : Option Receive) → owed_receive g x ≡ owed_receive (mail_registry g.comms (mail_of g)) x
  owed_by_mail None = refl
  owed_by_mail (Some x) = refl

  pub taken_by_mail : (r number from sent : ℕ) → mail_of (after_match g r number from sent) ≡ mail_of (after_match (mail_registry g.comms (mail_of g)) r number from sent)
  taken_by_mail r number from sent = refl

  pub may_match_by_mail : (x : Receive) (m : Message) → may_match g x m ≡ may_match (mail_registry g.comms (mail_of g)) x m
  unfolding may_match
  may_match_by_mail x m = refl

  pub can_take_by_mail : (x : Option Receive) (m : Option Message) → can_take g x m ≡ can_take (mail_registry g.comms (mail_of g)) x m
  can_take_by_mail None m = refl
  can_take_by_mail (Some x) None = refl
  can_take_by_mail (Some x) (Some m) = may_match_by_mail x m

  pub matched_out_by_mail : is_matched_out g ≡ is_matched_out (mail_registry g.comms (mail_of g))
  unfolding may_match
  matched_out_by_mail = refl

-- what it is that a receive may take a message
pub may_match_is : (g : Registry) (x : Receive) (m : Message)
    → may_match g x m ≡ (is_waiting x && (is_unmatched m && (fits g x m && (not (list_any (is_overtaken g x m) g.messages) && not (list_any (is_preceded g x m) g.receives)))))
unfolding may_match
may_match_is g x m = refl

-- where the receive may take the message, the match is made
pub taken_if_may : (g : Registry) (r number from sent : ℕ) → can_take g (receive_of g r number) (message_of g from sent) ≡ true
    → after_take (mail_of g) r number from sent ≡ mail_of (after_match g r number from sent)
taken_if_may g r number from sent may = go (receive_of g r number) (message_of g from sent) refl may
  where
    go : (x : Option Receive) (m : Option Message) → message_of g from sent ≡ m → can_take g x m ≡ true
        → after_take (mail_of g) r number from sent ≡ mail_of (after_match g r number from sent)
    go None m is may = absurd (cc (may))
    go (Some x) None is may = absurd (cc (may))
    go (Some x) (Some m) is may = ap (λ found. if is_some found then mail_of (after_match g r number from sent) else mail_of g) is
