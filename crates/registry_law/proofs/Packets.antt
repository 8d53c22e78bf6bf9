-- Each packet that comes is taken.
use Rattle.std.proofs.Common.{◌≡◌, ◌≢◌, ◌<◌, ℕ, true, List, [], ◌∷◌, length, Some, refl, ap, ◌∙◌, subst}
use Rattle.std.specs.Prelude.{slice_get}
use Rattle.mpi_base.specs.declared.messages.Msg.{Msg}
use Rattle.mpi_law.specs.declared.setting.Setting.{Setting}
use Rattle.mpi_law.specs.Registry.State.{Registry}
use Rattle.agree_law.specs.World.{Event}
use Rattle.agree_law.proofs.Lists.{AllOf}
use Rattle.mpi_protocol.specs.Packets.{Packet, Agreeing, Message, Marker}
use Rattle.mpi_protocol.specs.Delivers.{takes_packet}
use Rattle.mpi_protocol.specs.World.{World, rank_at, link}
use Rattle.projection_law.proofs.Laws.{packets_are_taken_there}
use Rattle.due_law.specs.Dues.{Dues}
use Rattle.message_law.proofs.Topics.{messages_on, MarkerFits, Belongs}
use Rattle.message_law.proofs.Acts.{message_taken, marker_taken}
use Rattle.registry_law.specs.TakenPackets.{PacketsAreTaken}
use Rattle.registry_law.proofs.Grounds.{ground}
use Rattle.registry_law.proofs.Together.{Together}

module _ (s : Setting) (w : World) (es : List Event) (due : Dues) (g : Registry) (z : Together s w es due g) where
  -- a rank sends itself no message on a link
  message_foreign : (r from : ℕ) (m : Msg) (rest : List Packet) → r < length w.ranks → link w from r ≡ Message m ∷ rest → from ≢ r
  message_foreign r from m rest lr e = λ is.
      let own : messages_on (link w r r) ≡ [] = z.fits.own r lr in
      let here : link w r r ≡ Message m ∷ rest = subst (λ (q : ℕ). link w q r ≡ Message m ∷ rest) is e in
      let some : messages_on (link w r r) ≡ m ∷ messages_on rest = ap messages_on here in
      cc (own, some)

  taken_head : (r from : ℕ) (p : Packet) (rest : List Packet) → r < length w.ranks → from < length w.ranks → link w from r ≡ p ∷ rest → slice_get (link w from r) 0 ≡ Some p → takes_packet (rank_at w r) from p ≡ true
  taken_head r from (Agreeing p) rest lr lf e head = packets_are_taken_there s w es z.follows.projected r from p lr lf head
  taken_head r from (Message m) rest lr lf e head = message_taken s w g z.shaped (ground s w due g z.joined z.members z.owned) z.fits r lr from lf (message_foreign r from m rest lr e) rest m e
  taken_head r from (Marker c) rest lr lf e head =
      let b : Belongs g from r c = (subst (λ (ps : List Packet). AllOf (MarkerFits g from r) ps) e (z.fits.markers.on_line from r lf lr)).0 in
      marker_taken s w g z.shaped (ground s w due g z.joined z.members z.owned) z.fits r lr from lf b.other rest c e

  pub all_taken : PacketsAreTaken w
  all_taken r from p lr lf head = go (link w from r) refl head
    where
      go : (ps : List Packet) → link w from r ≡ ps → slice_get ps 0 ≡ Some p → takes_packet (rank_at w r) from p ≡ true
      go [] e h = absurd (cc (h))
      go (q ∷ rest) e h = let is : q ≡ p = cc (h) in taken_head r from p rest lr lf (e ∙ ap (λ (i : Packet). i ∷ rest) is) head
