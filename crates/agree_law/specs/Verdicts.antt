-- Verdicts: the first member settles a round, and the `Down` packets carry what it says to all members.
use Rattle.std.specs.Prelude.{ℕ, ◌+◌, ◌==◌, ◌&&◌, not, Bool, false, if◌then◌else◌, List, map, length, set, get_or, Option, Some, None, nat_lt}
use Rattle.mpi_base.specs.declared.keys.Key.{Key}
use Rattle.agree_law.specs.declared.rows.Outcome.TheVariants as outcome
use Rattle.agree_law.specs.declared.rows.Stage.{Stage}
use Rattle.agree_law.specs.declared.rows.Stage.TheVariants.{Sharing, Called, Waiting, Offered, Done}
use Rattle.agree_law.specs.declared.rows.Verdict.{Verdict}
use Rattle.agree_law.specs.declared.rows.Verdict.TheVariants.{Ready, Retry, Context, Exhausted}
use Rattle.agree_law.specs.Tree.{place_in, member_at, is_first, children_of, is_below}
use Rattle.agree_law.specs.Part.{Agree, stage_of, round_of, set_stage, set_round, drop_round, drop_offers}
use Rattle.agree_law.specs.Packets.{Down, Sent, Moved, stays}
use Rattle.agree_law.specs.Kinds.{is_share}
use Rattle.agree_law.specs.Rule.{is_key, let_go}
use Rattle.agree_law.specs.Gather.{is_ready, verdict_of}

-- what the verdict of a round does to the mask, its owner and the creation
unfoldable pub takes : Agree → Key → ℕ → Verdict → Agree
takes a key i Ready = record a { opened = set_stage a.opened key (Waiting 1) }
takes a key i Retry = record a { owner = let_go a.owner key; opened = set_stage a.opened key (Waiting (i + 1)) }
takes a key i (Context c) =
    record a { mask = set a.mask c false; owner = let_go a.owner key; opened = set_stage a.opened key (Done (outcome.Context c)) }
takes a key i Exhausted = record a { owner = let_go a.owner key; opened = set_stage a.opened key (Done outcome.Exhausted) }

-- ready and retry move the gather to the next round, a final verdict removes it
unfoldable pub rounds_after : Agree → Key → ℕ → Verdict → Agree
rounds_after a key i Ready = record a { gathered = drop_offers a.gathered key; rounds = set_round a.rounds key 1 }
rounds_after a key i Retry = record a { gathered = drop_offers a.gathered key; rounds = set_round a.rounds key (i + 1) }
rounds_after a key i (Context c) = record a { gathered = drop_offers a.gathered key; rounds = drop_round a.rounds key }
rounds_after a key i Exhausted = record a { gathered = drop_offers a.gathered key; rounds = drop_round a.rounds key }

-- the verdict goes to the children in order of place
unfoldable pub pass_down : Key → ℕ → ℕ → Verdict → List Sent
pass_down key place i v = map (λ q. record { to = member_at key.members q; packet = Down key i v }) (children_of place (length key.members))

-- a verdict is passed on, then taken
unfoldable pub decide : ℕ → Agree → Key → ℕ → Verdict → Moved
decide r a key i v = record { part = takes (rounds_after a key i v) key i v; sent = pass_down key (place_in key.members r) i v }

-- the first member settles where its gather is whole
abbrev pub may_settle_offers : ℕ → Agree → Key → Bool
may_settle_offers r a key = not (is_share key.kind) && (is_first r key.members && is_ready a.gathered key 0)

-- the first member says the verdict of its gather, and takes it
unfoldable pub settle_offers : ℕ → ℕ → Agree → Key → Moved
settle_offers r top a key = decide r a key (round_of a.rounds key) (verdict_of top a.gathered key (round_of a.rounds key))

-- the verdict Ready is for a creation that is called
abbrev pub awaits_ready : Option Stage → ℕ → Bool
awaits_ready None i = false
awaits_ready (Some (Sharing s)) i = false
awaits_ready (Some Called) i = i == 0
awaits_ready (Some (Waiting j)) i = false
awaits_ready (Some (Offered j own)) i = false
awaits_ready (Some (Done c)) i = false

-- any other verdict is for a creation that has offered in the round
abbrev pub awaits_round : Option Stage → ℕ → Bool
awaits_round None i = false
awaits_round (Some (Sharing s)) i = false
awaits_round (Some Called) i = false
awaits_round (Some (Waiting j)) i = false
awaits_round (Some (Offered j own)) i = (j == i) && nat_lt 0 i
awaits_round (Some (Done c)) i = false

-- whether the creation awaits this verdict; one with a context finds the mask owned by the key, and the context free in it
abbrev pub awaits : Agree → Key → ℕ → Verdict → Bool
awaits a key i Ready = awaits_ready (stage_of a.opened key) i
awaits a key i Retry = awaits_round (stage_of a.opened key) i
awaits a key i (Context c) = awaits_round (stage_of a.opened key) i && (is_key a.owner key && get_or a.mask c false)
awaits a key i Exhausted = awaits_round (stage_of a.opened key) i

-- whether a `Down` is taken from a rank: from the parent, where the creation awaits it
unfoldable pub takes_down : ℕ → Agree → ℕ → Key → ℕ → Verdict → Bool
takes_down r a from key i v = not (is_share key.kind) && (is_below from r key.members && awaits a key i v)

-- a `Down` that is taken decides here too
unfoldable pub take_down : ℕ → Agree → ℕ → Key → ℕ → Verdict → Moved
take_down r a from key i v = if takes_down r a from key i v then decide r a key i v else stays a
