-- The entries of a protocol run are well formed.
use Rattle.std.proofs.Common.{◌≡◌, ◌&&◌, ◌==◌, ◌<◌, ℕ, Bool, true, if◌then◌else◌, List, [], ◌∷◌, ◌++◌, length, set, refl, subst, sym, ap, ◌∙◌, arith}
use Rattle.std.specs.List.{All, range_with_len}
use Rattle.std.proofs.lemmas.Bool.Decides.{nat_tests}
use Rattle.std.proofs.lemmas.List.{length-map}
use Rattle.std.proofs.lemmas.List.Elements.{recursion_from_All, All-from_recursion}
use Rattle.std.proofs.lemmas.List.FromFn.{length-range_with_len}
use Rattle.mpi_base.specs.declared.entries.Act.{Act}
use Rattle.mpi_base.specs.declared.entries.Act.TheVariants.{Call, Answer, Deliver, Offer as MakeOffer, Settle, Leave, Back}
use Rattle.mpi_base.specs.declared.entries.Choice.{Choice}
use Rattle.mpi_base.specs.declared.entries.Entry.{Entry}
use Rattle.script_text.specs.Spelling.{IsOp}
use Rattle.history_text.specs.Text.{IsEntry}
use Rattle.history_text.specs.Ranges.{EntryInRange}
use Rattle.mpi_law.specs.declared.setting.Setting.{Setting}
use Rattle.mpi_law.specs.declared.setting.TheConstants.{THREADS}
use Rattle.agree_law.proofs.Lists.{AllOf, length-set}
use Rattle.mpi_protocol.specs.Packets.{Sent}
use Rattle.mpi_protocol.specs.Rank.{fresh}
use Rattle.mpi_protocol.specs.Step.{is_enabled}
use Rattle.mpi_protocol.specs.World.{World, opening, links_with, put_on, taken_off, move_of, may_happen, moved}
use Rattle.mpi_protocol.specs.Run.{IsProtocolRun, RunsFrom, call_of, calls_of}
use Rattle.entry_law.specs.Calls.{CallsAreOps}
use Rattle.entry_law.proofs.Worlds.{WorldShows, shows-moved, shows-opening}
use Rattle.entry_law.proofs.Entries.{OpFits, entry_fits}

-- A choice leaves as many ranks

ranks_put : (w : World) (r : ℕ) (ss : List Sent) → (put_on w r ss).ranks ≡ w.ranks
ranks_put w r [] = refl
ranks_put w r (s ∷ ss) = ranks_put (record w { links = links_with w r s }) r ss

ranks_stay : (w : World) (c : Choice) → length (moved w c).ranks ≡ length w.ranks
ranks_stay w c =
    ap length (ranks_put (record (taken_off w c.rank c.act) { ranks = set w.ranks c.rank (move_of w c).state }) c.rank (move_of w c).sent)
    ∙ length-set w.ranks c.rank (move_of w c).state

-- Calls

left_of : {A : Type 0} (P : A → Type 0) (xs ys : List A) → AllOf P (xs ++ ys) → AllOf P xs
left_of P [] ys h = tt
left_of P (x ∷ xs) ys h = (h.0, left_of P xs ys h.1)

right_of : {A : Type 0} (P : A → Type 0) (xs ys : List A) → AllOf P (xs ++ ys) → AllOf P ys
right_of P [] ys h = h
right_of P (x ∷ xs) ys h = right_of P xs ys h.1

-- each operation that a thread of so many ranks calls is well formed
abbrev pub CallsFit : ℕ → List Entry → Type 0
CallsFit n journal = (r t : ℕ) → r < n → t < THREADS → AllOf IsOp (calls_of r t journal)

called_fits : (w : World) (r : ℕ) (act : Act) → may_happen w (record { rank = r; act = act }) ≡ true
    → ((q t : ℕ) → q < length w.ranks → t < THREADS → AllOf IsOp (call_of q t r act)) → OpFits act
unfolding is_enabled
called_fits w r (Call t op) may f =
    let a : r < length w.ranks = grind (arith, nat_tests, may) in
    let b : t < THREADS = grind (arith, nat_tests, may) in
    let s : ((r == r) && (t == t)) ≡ true = grind (arith, nat_tests) in
    (subst (λ (c : Bool). AllOf IsOp (if c then op ∷ [] else [])) s (f r t a b)).0
called_fits w r (Answer t) may f = tt
called_fits w r (Deliver from) may f = tt
called_fits w r (MakeOffer key) may f = tt
called_fits w r (Settle key) may f = tt
called_fits w r (Leave c) may f = tt
called_fits w r (Back c) may f = tt

-- The run

entries_fit : (w : World) (journal : List Entry) → WorldShows w → RunsFrom w journal → CallsFit (length w.ranks) journal → AllOf EntryInRange journal → AllOf IsEntry journal
entries_fit w [] h run ops range = tt
entries_fit w (e ∷ es) h run ops range =
    let c = e.choice in
    let n = ranks_stay w c in
    let op = called_fits w c.rank c.act run.0 (λ q t lq lt. left_of IsOp (call_of q t c.rank c.act) (calls_of q t es) (ops q t lq lt)) in
    let one = entry_fits w c.rank h c.act run.0 op (subst EntryInRange run.1 range.0) in (
      subst IsEntry (sym run.1) one,
      entries_fit (moved w c) es (shows-moved w c run.0 h) run.2 (λ q t lq lt. right_of IsOp (call_of q t c.rank c.act) (calls_of q t es) (ops q t (omega (arith, n, lq)) lt)) range.1,
    )

pub run_fits : (s : Setting) (journal : List Entry) → IsProtocolRun s journal → CallsAreOps s journal → All EntryInRange journal → All IsEntry journal
run_fits s journal run ops range =
    let n : length (opening s).ranks ≡ s.ranks = length-map (range_with_len 0 s.ranks) (fresh s) ∙ length-range_with_len 0 s.ranks in
    All-from_recursion IsEntry journal (
    entries_fit (opening s) journal (shows-opening s) run (λ r t lr lt. recursion_from_All IsOp _ (ops r t (omega (arith, n, lr)) lt)) (recursion_from_All EntryInRange journal range))
