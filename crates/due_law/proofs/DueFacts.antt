-- The facts of what is due, where what is kept of it holds.
use Rattle.std.proofs.Common.{◌≡◌, ℕ, Bool, true, Option, Some, None, refl, subst, arith}
use Rattle.std.proofs.lemmas.Bool.Decides.{nat_tests}
use Rattle.agree_law.specs.declared.rows.Stage.{Stage}
use Rattle.agree_law.specs.declared.rows.Stage.TheVariants.{Offered}
use Rattle.agree_law.specs.declared.rows.Verdict.{Verdict}
use Rattle.agree_law.specs.Tree.{place_in}
use Rattle.agree_law.specs.Part.{round_of}
use Rattle.agree_law.specs.Packets.{Down}
use Rattle.agree_law.specs.Rule.{is_key}
use Rattle.agree_law.specs.World.{World, part_at}
use Rattle.agree_law.proofs.Lists.{AllOf_at, tally}
use Rattle.agree_law.proofs.RowFacts.{of_key, at_place}
use Rattle.agree_law.proofs.KeyKept.{stage_fits}
use Rattle.agree_law.proofs.OwnSteps.{fits_at}
use Rattle.agree_law.proofs.WorldFacts.{owners_have_offered}
use Rattle.due_law.specs.Dues.{Dues}
use Rattle.due_law.specs.Facts.{DuesAreOffered, DownsBringDues, NoneDueAtSettles, NoneDueUnopened, NoneDueOutside}
use Rattle.due_law.proofs.Dued.{BringsAt}
use Rattle.due_law.proofs.Undue.{owner_member, none_due_here}
use Rattle.due_law.proofs.Law.{Holding}

offered_round : (i g c : ℕ) (own b : Bool) → stage_fits (Some (Offered i own)) g c b ≡ true → g ≡ i
offered_round i g c own b e = grind (arith, nat_tests, e)

module _ (top : ℕ) (w : World) (due : Dues) (h : Holding top w due) where
  pub dues_are_offered : DuesAreOffered w due
  dues_are_offered r key v e =
      let k = h.dued.held r key v e in
      let o = owners_have_offered top w h.holds.kept r key k.owns in
      let fits = fits_at top w r key (h.holds.kept.owner r key k.owns) h.holds.kept in
      record {
        final = k.final;
        member = owner_member top w r key h.holds.kept k.owns;
        round = o.round;
        stage = o.stage;
        gather = offered_round o.round (round_of (part_at w r).rounds key) (tally (at_place (place_in key.members r)) (of_key (part_at w r).gathered key)) true (is_key (part_at w r).owner key)
            (subst (λ (s : Option Stage). stage_fits s (round_of (part_at w r).rounds key) (tally (at_place (place_in key.members r)) (of_key (part_at w r).gathered key)) (is_key (part_at w r).owner key) ≡ true) o.stage fits);
        owns = k.owns;
        free = k.free;
      }

  pub downs_bring_dues : DownsBringDues w due
  downs_bring_dues key i v from to place there = (AllOf_at (BringsAt due) w.links place (record { from = from; to = to; packet = Down key i v }) there h.dued.flown).0

  pub none_due_at_settles : NoneDueAtSettles w due
  none_due_at_settles r key q may = none_due_here top w r key h.holds.kept may due h.dued q

  pub none_due_unopened : NoneDueUnopened w due
  none_due_unopened r key none = go (due r key) refl
    where
      go : (o : Option Verdict) → due r key ≡ o → due r key ≡ None
      go None e = e
      go (Some v) e = absurd (let s = (dues_are_offered r key v e).stage in cc (s, none))

  pub none_due_outside : NoneDueOutside w due
  none_due_outside r key out = go (due r key) refl
    where
      go : (o : Option Verdict) → due r key ≡ o → due r key ≡ None
      go None e = e
      go (Some v) e = absurd (let m = (dues_are_offered r key v e).member in cc (m, out))
