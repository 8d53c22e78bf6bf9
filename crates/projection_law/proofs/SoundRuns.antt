-- Every protocol run is a run of the agreement, where the names of each caller are bound to communicators that are known there.
use Rattle.std.proofs.Common.{◌≡◌, ◌<◌, ℕ, true, List, [], ◌∷◌, ◌++◌, length, get_or, Option, refl, sym, subst, ap, ◌∙◌, arith}
use Rattle.std.proofs.lemmas.Bool.Decides.{nat_tests}
use Rattle.std.proofs.lemmas.List.{append_assoc, append-nil}
use Rattle.mpi_base.specs.declared.entries.Act.{Act}
use Rattle.mpi_base.specs.declared.entries.Act.TheVariants.{Call, Answer, Deliver, Offer as MakeOffer, Settle, Leave, Back}
use Rattle.mpi_base.specs.declared.entries.Choice.{Choice}
use Rattle.mpi_base.specs.declared.entries.Entry.{Entry}
use Rattle.mpi_law.specs.declared.setting.Setting.{Setting}
use Rattle.mpi_law.specs.Local.{effect_of}
use Rattle.agree_law.specs.World.{Event}
use Rattle.agree_law.proofs.Lists.{length-set}
use Rattle.comm_law.specs.Comms.{comm_at}
use Rattle.mpi_protocol.specs.Packets.{Packet}
use Rattle.mpi_protocol.specs.Rank.{thread_at, fresh}
use Rattle.mpi_protocol.specs.Calls.{around_here, calls}
use Rattle.mpi_protocol.specs.Step.{step, is_enabled}
use Rattle.mpi_protocol.specs.World.{World, opening, blank, rank_at, moved, head_for, may_happen}
use Rattle.mpi_protocol.specs.Run.{RunsFrom, IsProtocolRun, world_after, end_of}
use Rattle.projection_law.specs.Premises.{SetsAreOfRanks}
use Rattle.projection_law.specs.KnownNames.{NamesAreKnownFor, NamesAreKnownFrom, CallersNamesAreKnown}
use Rattle.projection_law.specs.Events.{events_at, agreement_events}
use Rattle.projection_law.proofs.Rows.{members_are_ranks, members_below}
use Rattle.projection_law.proofs.Sound.{Sound, sound-fresh}
use Rattle.projection_law.proofs.SoundCalls.{call_fits_here, effect_here}
use Rattle.projection_law.proofs.SoundSteps.{sound_called, sound_answered, sound_leaves, back_context, sound_gives_back}
use Rattle.projection_law.proofs.SoundAgrees.{sound_offers, sound_settles, sound_delivers}
use Rattle.projection_law.proofs.Frames.{ranks_moved, rank_moved}
use Rattle.projection_law.proofs.Runs.{ActFits, Projected, projected-moved, projected-opening, fresh_at}

-- a world that belongs to the agreement's world after these events, each rank with what it keeps
pub record Follows (s : Setting) (w : World) (es : List Event) : Type 0 where
  pub projected : Projected s w es
  pub sound : (r : ℕ) → r < length w.ranks → Sound s r (rank_at w r)

module _ (s : Setting) (sets : SetsAreOfRanks s) (w : World) (es : List Event) (h : Follows s w es) (r : ℕ) (lt : r < length w.ranks) where
  within : r < s.ranks
  within = let n = h.projected.count in omega (arith, n, lt)

  pub act_fits : (act : Act) → is_enabled (rank_at w r) act ≡ true → NamesAreKnownFor (rank_at w r) act → ActFits s.ranks s.contexts (rank_at w r) act
  unfolding is_enabled
  act_fits (Call t op) e known = call_fits_here s r (rank_at w r) (h.projected.numbers r lt) (h.projected.settings r lt) within sets (h.sound r lt) known op
  act_fits (Answer t) e known = tt
  act_fits (Deliver from) e known = tt
  act_fits (MakeOffer key) e known = tt
  act_fits (Settle key) e known = tt
  act_fits (Leave c) e known = members_below s.ranks (comm_at (rank_at w r).comms c).members (members_are_ranks s.ranks s.contexts r (rank_at w r).comms c (h.sound r lt).rows)
  act_fits (Back c) e known = back_context s r (rank_at w r) (h.projected.numbers r lt) (h.projected.settings r lt) within sets (h.sound r lt) c (grind (arith, e))

  pub sound_step : (act : Act) (p : Option Packet) → is_enabled (rank_at w r) act ≡ true → NamesAreKnownFor (rank_at w r) act → Sound s r (step (rank_at w r) act p).state
  unfolding is_enabled step calls
  sound_step (Call t op) p e known =
      sound_called s r (rank_at w r) (h.projected.numbers r lt) (h.projected.settings r lt) within sets (h.sound r lt) t (grind (arith, nat_tests, e)) (grind (arith, e)) known
      (effect_of (rank_at w r).setting (rank_at w r).rank (around_here (rank_at w r)) (rank_at w r).local op)
      (effect_here s r (rank_at w r) (h.projected.numbers r lt) (h.projected.settings r lt) within sets (h.sound r lt) known op)
  sound_step (Answer t) p e known = sound_answered s r (rank_at w r) (h.projected.numbers r lt) (h.projected.settings r lt) within sets (h.sound r lt) t (grind (arith, nat_tests, e)) (thread_at (rank_at w r) t).waits refl
  sound_step (Deliver from) p e known = sound_delivers s w es h.projected r lt (h.sound r lt) from p
  sound_step (MakeOffer key) p e known = sound_offers s w es h.projected r lt (h.sound r lt) key
  sound_step (Settle key) p e known = sound_settles s w es h.projected r lt (h.sound r lt) key e
  sound_step (Leave c) p e known = sound_leaves s r (rank_at w r) (h.projected.numbers r lt) (h.projected.settings r lt) within sets (h.sound r lt) c e
  sound_step (Back c) p e known = sound_gives_back s r (rank_at w r) (h.projected.numbers r lt) (h.projected.settings r lt) within sets (h.sound r lt) c (grind (arith, e))

pub follows-opening : (s : Setting) → Follows s (opening s) []
follows-opening s =
    let p = projected-opening s in
    record {
      projected = p;
      sound = λ r lt. (let n = p.count in subst (Sound s r) (sym (fresh_at s 0 s.ranks r (omega (arith, n, lt)) ∙ ap (fresh s) (omega arith))) (sound-fresh s r));
    }

pub follows-moved : (s : Setting) (w : World) (es : List Event) (c : Choice) → SetsAreOfRanks s → Follows s w es → may_happen w c ≡ true → NamesAreKnownFor (rank_at w c.rank) c.act
    → Follows s (moved w c) (es ++ events_at w c.rank c.act)
follows-moved s w es c sets h may known =
    let lt : c.rank < length w.ranks = grind (arith, nat_tests, may) in
    let enabled : is_enabled (rank_at w c.rank) c.act ≡ true = grind (arith, may) in
    let p = projected-moved s w es c h.projected may (act_fits s sets w es h c.rank lt c.act enabled known) in
    let mv = step (rank_at w c.rank) c.act (head_for w c.rank c.act) in
    let is = ranks_moved w c.rank c.act mv in
    let size : length (moved w c).ranks ≡ length w.ranks = ap length is ∙ length-set w.ranks c.rank mv.state in
    let all = rank_moved (Sound s) w c.rank mv.state (sound_step s sets w es h c.rank lt c.act (head_for w c.rank c.act) enabled known) h.sound in
    record { projected = p; sound = λ q l. subst (λ xs. Sound s q (get_or xs q blank)) (sym is) (all q (omega (arith, size, l))) }

-- Runs

pub follows-from : (s : Setting) (w : World) (es : List Event) (journal : List Entry) → SetsAreOfRanks s → Follows s w es → RunsFrom w journal → NamesAreKnownFrom w journal → Follows s (world_after w journal) (es ++ agreement_events w journal)
follows-from s w es [] sets h r f = subst (Follows s w) (sym (append-nil es)) h
follows-from s w es (e ∷ rest) sets h r f =
    let one = follows-moved s w es e.choice sets h r.0 f.0 in
    subst (Follows s (world_after (moved w e.choice) rest)) (append_assoc es (events_at w e.choice.rank e.choice.act) (agreement_events (moved w e.choice) rest))
    (follows-from s (moved w e.choice) (es ++ events_at w e.choice.rank e.choice.act) rest sets one r.2 f.1)

pub runs_follow : (s : Setting) (journal : List Entry) → SetsAreOfRanks s → IsProtocolRun s journal → CallersNamesAreKnown s journal → Follows s (end_of s journal) (agreement_events (opening s) journal)
runs_follow s journal sets r f = follows-from s (opening s) [] journal sets (follows-opening s) r f
