-- What the acts of the ranks find, in a world that belongs to an agreement's world with what is due there.
use Rattle.std.proofs.Common.{◌≡◌, ◌<◌, ℕ, zero, suc, true, false, List, [], ◌∷◌, map, length, get_or, Option, Some, None, refl, sym, subst, ap, ◌∙◌, arith}
use Rattle.std.proofs.lemmas.List.{length-map}
use Rattle.mpi_base.specs.declared.keys.Kind.{Kind}
use Rattle.mpi_base.specs.declared.keys.Kind.TheVariants as kind
use Rattle.mpi_base.specs.declared.keys.Key.{Key}
use Rattle.mpi_base.specs.MemberLists.{has_rank}
use Rattle.mpi_law.specs.declared.setting.Setting.{Setting}
use Rattle.mpi_law.specs.Registry.Contexts.{is_exchange}
use Rattle.agree_law.specs.declared.rows.Stage.TheVariants.{Called, Offered}
use Rattle.agree_law.specs.declared.rows.Verdict.{Verdict}
use Rattle.agree_law.specs.declared.rows.Verdict.TheVariants.{Ready, Retry, Context, Exhausted}
use Rattle.agree_law.specs.Tree.{place_in, member_at}
use Rattle.agree_law.specs.Part.{Agree, fresh, stage_of, round_of}
use Rattle.agree_law.specs.Packets as agree
use Rattle.agree_law.specs.Kinds.{is_share}
use Rattle.agree_law.specs.Rule.{is_key}
use Rattle.agree_law.specs.Gather.{verdict_of}
use Rattle.agree_law.specs.Verdicts.{may_settle_offers, takes_down}
use Rattle.agree_law.specs.World as agreement
use Rattle.agree_law.specs.World.{part_at, head_of}
use Rattle.agree_law.proofs.TreeFacts.{member_place, place_member}
use Rattle.agree_law.proofs.Kept.{Kept}
use Rattle.agree_law.proofs.DownSteps.{Settling, settling}
use Rattle.agree_law.proofs.WorldFacts.{owners_have_offered, exhausted_is_taken}
use Rattle.mpi_protocol.specs.Rank.{Rank}
use Rattle.mpi_protocol.specs.Agreeing.{verdict_at}
use Rattle.mpi_protocol.specs.World.{World, blank, rank_at}
use Rattle.projection_law.specs.Facts.{MaySettle}
use Rattle.projection_law.proofs.Projected.{Projects, agreement_taken}
use Rattle.projection_law.proofs.Targets.{member_below}
use Rattle.due_law.specs.Dues.{Dues, final_of}
use Rattle.due_law.specs.Agreed.{AllOffered, TakesFinal, Untold, DueIsFree, SaysFinds, TakesFinds}
use Rattle.due_law.specs.Runs.{Says, SettlesFind, DownsFind}
use Rattle.due_law.proofs.Law.{Holding}
use Rattle.due_law.proofs.DueFacts.{dues_are_offered, none_due_at_settles, none_due_unopened}
use Rattle.due_law.proofs.Stages.{ready_comes, retry_comes, ready_said, retry_said}
use Rattle.due_law.proofs.Settles.{members_keep}
use Rattle.due_law.proofs.Comes.{down_taken, down_brings}

pub get_or-map : {A B : Type 0} (f : A → B) (xs : List A) (d : A) (i : ℕ) → get_or (map f xs) i (f d) ≡ f (get_or xs i d)
get_or-map f [] d i = refl
get_or-map f (x ∷ xs) d zero = refl
get_or-map f (x ∷ xs) d (suc i) = get_or-map f xs d i

pub exchange_is : (k : Kind) → is_exchange k ≡ is_share k
exchange_is kind.From = refl
exchange_is kind.Group = refl
exchange_is kind.Dup = refl
exchange_is kind.Split = refl
exchange_is kind.Share = refl

-- a world that belongs to an agreement's world, with what is due there
pub record Belongs (s : Setting) (w : World) (a : agreement.World) (due : Dues) : Type 0 where
  pub count : length w.ranks ≡ s.ranks
  pub numbers : (r : ℕ) → r < length w.ranks → (rank_at w r).rank ≡ r
  pub settings : (r : ℕ) → r < length w.ranks → (rank_at w r).setting ≡ s
  pub projects : Projects w a
  pub holding : Holding s.contexts a due

module _ (s : Setting) (w : World) (a : agreement.World) (due : Dues) (h : Belongs s w a due) where
  -- each part is its rank's
  pub part_is : (r : ℕ) → part_at a r ≡ (rank_at w r).agree
  part_is r = ap (λ (ps : List Agree). get_or ps r (fresh 0)) h.projects.parts ∙ get_or-map (λ (x : Rank). x.agree) w.ranks blank r

  kept : Kept s.contexts a
  kept = h.holding.holds.kept

  -- what holds of the part of a rank holds of the rank's
  at : (P : Agree → Type 0) (r : ℕ) → P (part_at a r) → P (rank_at w r).agree
  at P r p = subst P (part_is r) p

  pub untold : Untold w.ranks due
  untold r key e = none_due_unopened s.contexts a due h.holding r key (subst (λ (b : Agree). stage_of b.opened key ≡ None) (sym (part_is r)) e)

  pub due_is_free : DueIsFree w.ranks due
  due_is_free r key c e = at (λ b. get_or b.mask c false ≡ true) r ((dues_are_offered s.contexts a due h.holding r key (Context c) e).free c refl)

  -- nothing is due where no offer that owns is made
  pub undue_unless : (r : ℕ) (key : Key) → ((i : ℕ) → stage_of (rank_at w r).agree.opened key ≡ Some (Offered i true) → ⊥) → due r key ≡ None
  undue_unless r key none = go (due r key) refl
    where
      go : (o : Option Verdict) → due r key ≡ o → due r key ≡ None
      go None e = e
      go (Some v) e = (let o = dues_are_offered s.contexts a due h.holding r key v e in absurd (none o.round (at (λ b. stage_of b.opened key ≡ Some (Offered o.round true)) r o.stage)))

  -- Settles

  module _ (r : ℕ) (key : Key) (m : MaySettle w r key) where
    may : may_settle_offers r (part_at a r) key ≡ true
    may = subst (λ b. may_settle_offers r b key ≡ true) (sym (part_is r)) (subst (λ z. may_settle_offers z (rank_at w r).agree key ≡ true) (h.numbers r m.inside) m.may)

    -- the verdict of the first member, in the agreement's words
    verdict_is : verdict_of s.contexts (part_at a r).gathered key (round_of (part_at a r).rounds key) ≡ verdict_at (rank_at w r) key
    verdict_is =
        let f : ℕ → Agree → Verdict = λ top b. verdict_of top b.gathered key (round_of b.rounds key) in
        ap (f s.contexts) (part_is r) ∙ sym (ap (λ (z : Setting). f z.contexts (rank_at w r).agree) (h.settings r m.inside))

    found : Settling s.contexts a r key
    found = settling s.contexts a r key may kept

    undue : (q : ℕ) → due q key ≡ None
    undue q = none_due_at_settles s.contexts a due h.holding r key q may

    inside : (q : ℕ) → has_rank key.members q ≡ true → q < s.ranks
    inside q member =
        let n = h.count in
        let size : length a.parts ≡ s.ranks = ap length h.projects.parts ∙ (length-map w.ranks (λ (x : Rank). x.agree) ∙ n) in
        let g = found.good in
        let i = m.inside in
        subst (λ z. z < s.ranks) (member_place key.members q member).1 (subst (λ z. member_at key.members (place_in key.members q) < z) size (member_below (length a.parts) key (place_in key.members q) (grind (arith, g)) (omega (arith, size, i, n))))

    -- at a final verdict each member has offered
    all_offered : (v : Verdict) → final_of (verdict_at (rank_at w r) key) ≡ Some v → AllOffered s w.ranks due key
    all_offered v e = record {
      proper = exchange_is key.kind ∙ (let g = found.good in grind (arith, g));
      inside = inside;
      each = λ q member.
          let k = members_keep s.contexts a r key due kept h.holding.dued may v (ap final_of verdict_is ∙ e) q member in
          let o = owners_have_offered s.contexts a kept q key k.owns in
          record {
            round = o.round;
            stage = at (λ b. stage_of b.opened key ≡ Some (Offered o.round true)) q o.stage;
            owns = at (λ b. is_key b.owner key ≡ true) q k.owns;
            none = undue q;
          };
    }

    says : (v : Verdict) → verdict_at (rank_at w r) key ≡ v → SaysFinds s w.ranks due r key v
    says Ready e = record { stage = at (λ b. stage_of b.opened key ≡ Some Called) r (ready_said s.contexts a r key kept may (verdict_is ∙ e)); none = undue r }
    says Retry e =
        let o = retry_said s.contexts a r key kept may (verdict_is ∙ e) in
        record { round = o.round; own = o.own; stage = at (λ b. stage_of b.opened key ≡ Some (Offered o.round o.own)) r o.stage; none = undue r }
    says (Context c) e = record {
      offered = all_offered (Context c) (ap final_of e);
      free = λ q member. at (λ b. get_or b.mask c false ≡ true) q ((members_keep s.contexts a r key due kept h.holding.dued may (Context c) (ap final_of (verdict_is ∙ e)) q member).free c refl);
    }
    says Exhausted e = record {
      offered = all_offered Exhausted (ap final_of e);
      lacking = λ c some few.
          let t = exhausted_is_taken s.contexts a kept r key c may (verdict_is ∙ e) some few in
          record {
            rank = member_at key.members t.place;
            member = place_member key.members t.place t.inside;
            lacks = at (λ b. get_or b.mask c false ≡ false) (member_at key.members t.place) t.lacks;
          };
    }

    pub says_finds : Says s w due r key
    says_finds = record { member = (let g = found.good in grind (arith, g)); finds = says (verdict_at (rank_at w r) key) refl }

  pub settles_find : SettlesFind s w due
  settles_find r key m = says_finds r key m

  -- Verdicts that come

  module _ (r from : ℕ) (key : Key) (i : ℕ) (v : Verdict) (head : head_of a.links from r ≡ Some (agree.Down key i v)) where
    taken_there : takes_down r (part_at a r) from key i v ≡ true
    taken_there = down_taken s.contexts a from r key i v due kept h.holding.dued head

    brought : due r key ≡ final_of v
    brought = (down_brings s.contexts a from r key i v due kept h.holding.dued head).0

    final_found : (u : Verdict) → due r key ≡ Some u → TakesFinal (rank_at w r) (due r key) key u
    final_found u e =
        let o = dues_are_offered s.contexts a due h.holding r key u e in
        record {
          round = o.round;
          stage = at (λ b. stage_of b.opened key ≡ Some (Offered o.round true)) r o.stage;
          owns = at (λ b. is_key b.owner key ≡ true) r o.owns;
          said = e;
        }

  takes : (r from : ℕ) (key : Key) (i : ℕ) (v : Verdict) → head_of a.links from r ≡ Some (agree.Down key i v) → TakesFinds (rank_at w r) (due r key) key v
  takes r from key i Ready head = record { stage = at (λ b. stage_of b.opened key ≡ Some Called) r (ready_comes r (part_at a r) from key i (taken_there r from key i Ready head)); none = brought r from key i Ready head }
  takes r from key i Retry head =
      let o = retry_comes r (part_at a r) from key i (taken_there r from key i Retry head) in
      record { round = o.round; own = o.own; stage = at (λ b. stage_of b.opened key ≡ Some (Offered o.round o.own)) r o.stage; none = brought r from key i Retry head }
  takes r from key i (Context c) head = final_found r from key i (Context c) head (Context c) (brought r from key i (Context c) head)
  takes r from key i Exhausted head = final_found r from key i Exhausted head Exhausted (brought r from key i Exhausted head)

  pub downs_find : DownsFind w due
  downs_find r from key i v lt lf e =
      let head = (agreement_taken w a from r (agree.Down key i v) h.projects lf lt e).head in
      record {
        taken = subst (λ z. takes_down z (rank_at w r).agree from key i v ≡ true) (sym (h.numbers r lt)) (at (λ b. takes_down r b from key i v ≡ true) r (taken_there r from key i v head));
        finds = takes r from key i v head;
      }
