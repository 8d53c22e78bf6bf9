-- What is told of an exchange: it is what the thread that waits for the exchange needs, it is said at a settle, and it goes on
-- to be told where a rank gives a communicator back.
use Rattle.std.proofs.Common.{◌≡◌, ◌≢◌, ◌<◌, ℕ, ◌==◌, Bool, true, false, List, [], length, set, Option, Some, None, refl, sym, ap, ◌∙◌, subst, arith}
use Rattle.std.specs.Option.{is_some}
use Rattle.std.proofs.lemmas.Bool.Decides.{nat_tests}
use Rattle.mpi_base.specs.MemberLists.{has_rank}
use Rattle.mpi_base.specs.declared.keys.Key.{Key}
use Rattle.mpi_base.specs.declared.shares.Shared1.{Shared1}
use Rattle.mpi_law.specs.declared.setting.Setting.{Setting}
use Rattle.mpi_law.specs.Registry.State.{Registry, Communicator, Creating, comm_at}
use Rattle.mpi_law.specs.Registry.Creations.{is_split}
use Rattle.mpi_law.specs.Registry.Contexts.{comm_of, stands_for, is_exchange}
use Rattle.mpi_law.specs.Registry.Events.{Backs, registry_next}
use Rattle.agree_law.specs.declared.rows.Stage.{Stage}
use Rattle.agree_law.specs.Part.{stage_of}
use Rattle.agree_law.specs.Packets as agree
use Rattle.agree_law.specs.Shares.{takes_shares}
use Rattle.mpi_protocol.specs.Packets.{Agreeing}
use Rattle.mpi_protocol.specs.Rank.{Rank}
use Rattle.mpi_protocol.specs.Delivers.{delivers}
use Rattle.due_law.specs.Dues.{Dues}
use Rattle.run_law.proofs.Creations.{creation_in, is_sharing}
use Rattle.run_law.proofs.Names.{stands_on}
use Rattle.run_law.proofs.Joined.{rank_in, Joined}
use Rattle.due_law.specs.Agreed.{Untold}
use Rattle.run_law.proofs.Agreed.{AllTold}
use Rattle.run_law.proofs.Parts.{thread_in}
use Rattle.run_law.proofs.Waiters.{waiter_of}
use Rattle.run_law.proofs.ChangedComms.{stands_else}
use Rattle.run_law.proofs.ShareClasses.{SharesOf}
use Rattle.run_law.proofs.Backs.{AllLeavings, cs, back_changed, key_stands}
use Rattle.run_law.proofs.LeftHere.{has_left}
use Rattle.run_law.proofs.Tolds.{Tells, told_said, told_taken, ToldFits, Tolds, tolds_said, tolds_taken}
use Rattle.run_law.proofs.Sharing.{exchange_splits}
use Rattle.run_law.proofs.SharingSteps.{SharesTold, tells, told_by_all, deliver_shares}
use Rattle.run_law.proofs.SettleSteps.{Goes}

-- nothing is told under a key that is not open
abbrev pub Unheard : List Rank → Tells → Type 0
Unheard ranks told = (r : ℕ) (key : Key) → stage_of (rank_in ranks r).agree.opened key ≡ None → told r key ≡ None

module _ (s : Setting) (ranks : List Rank) (due : Dues) (told : Tells) (g : Registry) (j : Joined s ranks due g) (h : Tolds g told) where
  -- the creation of what is told is the one that a thread waits for
  pub one_creation : (r n : ℕ) (key : Key) (list : List Shared1) (e : told r key ≡ Some list) → n < length g.creations → stands_for g.comms r key ≡ Some (creation_in g.creations n).name → (h r key list e).place ≡ n
  one_creation r n key list e there stands =
      let f = h r key list e in
      let named : Some (creation_in g.creations f.place).name ≡ Some (creation_in g.creations n).name = sym f.stands ∙ stands in
      let name : (creation_in g.creations f.place).name ≡ (creation_in g.creations n).name = cc (named) in
      let split = f.split in
      let split_n : is_split (creation_in g.creations n).name ≡ true = ap is_split (sym name) ∙ split in
      j.whole.one_open f.place n f.there there name (grind (arith, split)) (grind (arith, split_n))

  pub told_here : (r : ℕ) (key : Key) (list : List Shared1) → told r key ≡ Some list → SharesTold ranks g r key list
  told_here r key list e t n target session ew ep =
      let c = j.creations.each r t key target session n ew ep in
      subst (λ (i : ℕ). SharesOf (creation_in g.creations i) list) (one_creation r n key list e c.there c.stands) (h r key list e).shares

  -- what is told comes to a member, which takes it
  pub deliver_told : (r from : ℕ) (key : Key) (list : List Shared1) → Untold ranks due → r < s.ranks → told r key ≡ Some list → takes_shares (rank_in ranks r).rank (rank_in ranks r).agree from key list ≡ true
      → Goes s g [] (set ranks r (delivers (rank_in ranks r) from (Some (Agreeing (agree.Shares key list)))).state) due × Tolds g (told_taken told r key)
  deliver_told r from key list untold lt e takes = (deliver_shares s ranks due g r key list j untold lt (told_here r key list e) from takes, tolds_taken told g r key h)

  -- the first member has settled the exchange, and takes its own list
  pub tolds_settled : (r : ℕ) (key : Key) (list : List Shared1) → AllTold ranks key list → Tolds g (told_taken (told_said told key list) r key)
  tolds_settled r key list all = tolds_taken (told_said told key list) g r key (tolds_said told g key list fits h)
    where
      fits : (q : ℕ) → has_rank key.members q ≡ true → ToldFits g.comms g.creations q key list
      fits q m =
          let t = tells s ranks due g key list j all q m in
          let v = waiter_of s ranks due g j q key (ap is_some t.stage) in
          let exchange : is_exchange key.kind ≡ true = v.fits.kind ∙ ap is_sharing t.stage in
          record {
            place = v.place;
            there = v.fits.there;
            stands = v.fits.stands;
            split = ap is_split (exchange_splits g.comms q key (creation_in g.creations v.place).name exchange v.fits.stands).name_is;
            shares = told_by_all s ranks due g key list j all q v.thread v.place v.target v.session v.waits v.part_waits;
          }

  -- a communicator is given back: none that an exchange is under
  pub tolds_backs : (r c p dropped : ℕ) → AllLeavings ranks → Unheard ranks told → comm_of g.comms r c ≡ Some p → ((q : ℕ) → has_rank (comm_at g p).members q ≡ true → has_left g ranks q p ≡ true) → Tolds (registry_next s g (Backs r c dropped)) told
  unfolding registry_next
  tolds_backs r c p dropped leavings unheard stands left = rw stands (λ q key list e. fits q key list e (q == r) refl)
    where
      after : List Communicator
      after = cs s ranks due g r c p j leavings stands left

      opened : (q : ℕ) (key : Key) (list : List Shared1) → told q key ≡ Some list → (o : Option Stage) → stage_of (rank_in ranks q).agree.opened key ≡ o → is_some (stage_of (rank_in ranks q).agree.opened key) ≡ true
      opened q key list e None f = absurd (let n = unheard q key f in cc (n, e))
      opened q key list e (Some st) f = ap is_some f

      fits : (q : ℕ) (key : Key) (list : List Shared1) → told q key ≡ Some list → (b : Bool) → (q == r) ≡ b → ToldFits after g.creations q key list
      fits q key list e false n =
          let f = h q key list e in
          let ne : q ≢ r = grind (arith, nat_tests, n) in
          record { place = f.place; there = f.there; stands = stands_on g.comms after q key (creation_in g.creations f.place).name (λ d i z. stands_else g.comms after r (back_changed s ranks due g r c p j leavings stands left) q d ne ∙ z) f.stands; split = f.split; shares = f.shares }
      fits q key list e true n =
          let f = h q key list e in
          let is : q ≡ r = grind (arith, nat_tests, n) in
          let v = waiter_of s ranks due g j q key (opened q key list e (stage_of (rank_in ranks q).agree.opened key) refl) in
          let place = one_creation q v.place key list e v.fits.there v.fits.stands in
          let goes : stands_for after r key ≡ Some (creation_in g.creations v.place).name = key_stands s ranks due g r c p j leavings stands left v.thread v.place key (subst (λ (i : ℕ). (thread_in g.ranks i v.thread).wait ≡ Creating v.place) is v.part_waits) (subst (λ (i : ℕ). stands_for g.comms i key ≡ Some (creation_in g.creations v.place).name) is v.fits.stands) in
          record { place = f.place; there = f.there; stands = subst (λ (i : ℕ). stands_for after i key ≡ Some (creation_in g.creations f.place).name) (sym is) (goes ∙ ap (λ (i : ℕ). Some (creation_in g.creations i).name) (sym place)); split = f.split; shares = f.shares }
