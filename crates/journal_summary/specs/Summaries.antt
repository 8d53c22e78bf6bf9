-- The summary of a journal, this project's own: counts of its entries, and their text.
use Rattle.std.specs.Prelude.{ℕ, ◌+◌, Bool, true, false, List, ◌++◌, length, count_by, sum_by, Option, Some, None, is_some, unwrap_or, codes, decimal}
use Rattle.mpi_base.specs.declared.entries.Act.{Act}
use Rattle.mpi_base.specs.declared.entries.Act.TheVariants.{Call, Answer, Deliver, Offer, Settle, Leave, Back}
use Rattle.mpi_base.specs.declared.entries.Said.{Said}
use Rattle.mpi_base.specs.declared.entries.Said.TheVariants.{Own, Zero, Ready, Retry, Picked, Exhausted, Shared}
use Rattle.mpi_base.specs.declared.entries.Entry.{Entry}
use Rattle.journal_summary.specs.declared.counts.Summary.{Summary}

-- What an entry counts as

abbrev pub is_call_act : Act → Bool
is_call_act (Call thread op) = true
is_call_act (Answer thread) = false
is_call_act (Deliver from) = false
is_call_act (Offer k) = false
is_call_act (Settle k) = false
is_call_act (Leave c) = false
is_call_act (Back c) = false

-- whether an entry is a call
abbrev pub is_call : Entry → Bool
is_call e = is_call_act e.choice.act

-- what is said, where the step is a settle
abbrev pub said_at_settle : Act → Option Said → Option Said
said_at_settle (Call thread op) said = None
said_at_settle (Answer thread) said = None
said_at_settle (Deliver from) said = None
said_at_settle (Offer k) said = None
said_at_settle (Settle k) said = said
said_at_settle (Leave c) said = None
said_at_settle (Back c) said = None

-- what a settle says; None for every other entry
abbrev pub settled : Entry → Option Said
settled e = said_at_settle e.choice.act e.said

-- a context is picked
abbrev pub is_pick : Said → Bool
is_pick Own = false
is_pick Zero = false
is_pick Ready = false
is_pick Retry = false
is_pick (Picked c) = true
is_pick Exhausted = false
is_pick Shared = false

-- no context is free at every member
abbrev pub is_exhausted : Said → Bool
is_exhausted Own = false
is_exhausted Zero = false
is_exhausted Ready = false
is_exhausted Retry = false
is_exhausted (Picked c) = false
is_exhausted Exhausted = true
is_exhausted Shared = false

-- one more round is needed
abbrev pub is_retry : Said → Bool
is_retry Own = false
is_retry Zero = false
is_retry Ready = false
is_retry Retry = true
is_retry (Picked c) = false
is_retry Exhausted = false
is_retry Shared = false

-- whether an entry is a settle that says such a thing
abbrev pub settles : (Said → Bool) → Option Said → Bool
settles says None = false
settles says (Some said) = says said

-- how many messages an entry drops
abbrev pub dropped_in : Entry → ℕ
dropped_in e = unwrap_or e.dropped 0

-- The summary

-- the calls, all entries, the settles that pick a context, those that say exhausted, the entries with a match, the settles that
-- say retry, and the messages that were dropped
abbrev pub summary_of : List Entry → Summary
summary_of es = record {
  ops = count_by is_call es;
  steps = length es;
  picks = count_by (λ e. settles is_pick (settled e)) es;
  exhausted = count_by (λ e. settles is_exhausted (settled e)) es;
  matches = count_by (λ e. is_some e.matched) es;
  retries = count_by (λ e. settles is_retry (settled e)) es;
  dropped = sum_by dropped_in es;
}

-- its text: one line
abbrev pub summary_text : Summary → List ℕ
summary_text s =
    codes "ops=" ++ decimal s.ops ++ codes " steps=" ++ decimal s.steps ++ codes " picks=" ++ decimal s.picks ++ codes " exhausted=" ++ decimal s.exhausted
    ++ codes " matches=" ++ decimal s.matches ++ codes " retries=" ++ decimal s.retries ++ codes " dropped=" ++ decimal s.dropped ++ codes "\n"
