-- The moves of one rank that are of either kind: each gives the new part and the packets to send.
-- `r` is the rank's number and `top` the greatest context.
use Rattle.std.specs.Prelude.{ℕ, ◌||◌, Bool, true, if◌then◌else◌, set}
use Rattle.mpi_base.specs.declared.keys.Key.{Key}
use Rattle.agree_law.specs.Part.{Agree, close_creation}
use Rattle.agree_law.specs.Packets.{Packet, Up, Down, Share, Shares, Moved}
use Rattle.agree_law.specs.Kinds.{is_share}
use Rattle.agree_law.specs.Offers.{takes_up, take_up}
use Rattle.agree_law.specs.Verdicts.{may_settle_offers, settle_offers, takes_down, take_down}
use Rattle.agree_law.specs.Shares.{takes_share, take_share, takes_shares, take_shares, may_settle_share, settle_share}

-- the first member has what it needs, offers or shares
unfoldable pub may_settle : ℕ → Agree → Key → Bool
may_settle r a key = may_settle_offers r a key || may_settle_share r a key

-- the first member settles a round of offers, or an exchange of shares
unfoldable pub settle : ℕ → ℕ → Agree → Key → Moved
settle r top a key = if is_share key.kind then settle_share r top a key else settle_offers r top a key

-- a context that is given back is free again
unfoldable pub give_back : Agree → ℕ → Agree
give_back a c = record a { mask = set a.mask c true }

-- a creation that is decided is closed with its answer
unfoldable pub close : Agree → Key → Agree
close a key = record a { opened = close_creation a.opened key }

-- whether the rank takes a packet from a rank
unfoldable pub takes_packet : ℕ → Agree → ℕ → Packet → Bool
takes_packet r a from (Up key i own mask) = takes_up r a from key i
takes_packet r a from (Down key i v) = takes_down r a from key i v
takes_packet r a from (Share key s) = takes_share r a from key
takes_packet r a from (Shares key list) = takes_shares r a from key list

-- what a packet that comes from a rank does; one that is not taken changes nothing
unfoldable pub deliver : ℕ → ℕ → Agree → ℕ → Packet → Moved
deliver r top a from (Up key i own mask) = take_up r top a from key i own mask
deliver r top a from (Down key i v) = take_down r a from key i v
deliver r top a from (Share key s) = take_share r a from key s
deliver r top a from (Shares key list) = take_shares r top a from key list
