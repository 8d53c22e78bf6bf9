-- Rows in code, as the agreement sees them.
use Rattle.std.specs.Prelude.{ℕ, ◌==◌, ◌&&◌, ◌≤◌, Bool, List}
use Rattle.std.specs.List.{list_any}
use Rattle.mpi_base.specs.declared.keys.Key.{Key}
use Rattle.mpi_base.specs.Keys.{same_key}
use Rattle.agree_law.specs.declared.rows.RoundRow.{RoundRow}
use Rattle.agree_law.specs.declared.rows.ShareRow.{ShareRow}
use Rattle.agree_law.specs.declared.rows.Verdict.{Verdict}
use Rattle.agree_law.specs.declared.rows.Verdict.TheVariants.{Ready, Retry, Context, Exhausted}
use Rattle.agree_law.specs.Part.{Offer}
use Rattle.agree_law.specs.Packets.{Packet as Packet_seen, Sent as Sent_seen, Up as up, Down as down, Share as share, Shares as shares}
use Rattle.and_reduce.specs.declared.offers.OfferRow.{OfferRow}
use Rattle.and_reduce.specs.declared.packets.Packet.{Packet}
use Rattle.and_reduce.specs.declared.packets.Packet.TheVariants.{Up, Down, Share, Shares}
use Rattle.and_reduce.specs.declared.packets.Sent.{Sent}
use Rattle.and_reduce.specs.Fronts.{front}

-- a row with the front of its mask
abbrev pub offer_of : {w : ℕ} → ℕ → OfferRow w → Offer
offer_of top row = record { key = row.key; place = row.place; own = row.own; mask = front top row.mask }

-- whether the offer of a place is among the rows
abbrev pub has_row : {w : ℕ} → List (OfferRow w) → Key → ℕ → Bool
has_row rows key place = list_any (λ o. same_key o.key key && (o.place == place)) rows

-- a packet with the front of its mask
abbrev pub packet_of : {w : ℕ} → ℕ → Packet w → Packet_seen
packet_of top (Up key round own mask) = up key round own (front top mask)
packet_of top (Down key round verdict) = down key round verdict
packet_of top (Share key s) = share key s
packet_of top (Shares key list) = shares key list

abbrev pub sent_of : {w : ℕ} → ℕ → Sent w → Sent_seen
sent_of top s = record { to = s.to; packet = packet_of top s.packet }

-- what a rank has gathered, with the greatest context, and how many rows it has room for
pub record Gathered : Type 0 where
  pub top : ℕ
  pub offers : List Offer
  pub rounds : List RoundRow
  pub spare : ℕ

-- the shares that a rank has gathered, and how many more it has room for
pub record Gathered_shares : Type 0 where
  pub rows : List ShareRow
  pub spare : ℕ

-- a context that is picked is one of those that there are
abbrev pub IsPick : ℕ → Verdict → Type 0
IsPick top Ready = Unit {0}
IsPick top Retry = Unit {0}
IsPick top (Context c) = (1 ≤ c) × (c ≤ top)
IsPick top Exhausted = Unit {0}
