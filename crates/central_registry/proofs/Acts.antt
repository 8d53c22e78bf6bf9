-- What becomes of a registry by each act, as what its entry's events do.
use Rattle.std.proofs.Common.{◌≡◌, Bool, true, subst, sym, refl, ℕ, ◌⊎◌, inl, inr}
use Rattle.mpi_base.specs.declared.keys.Key.{Key}
use Rattle.mpi_base.specs.declared.entries.Act.{Act}
use Rattle.mpi_base.specs.declared.entries.Act.TheVariants.{Offer, Leave}
use Rattle.mpi_base.specs.declared.entries.Entry.{Entry}
use Rattle.mpi_law.specs.declared.setting.Setting.{Setting}
use Rattle.mpi_law.specs.Registry.State.{Registry}
use Rattle.central_law.specs.Rest.{AtRest}
use Rattle.central_law.specs.Fits.{EntryFits, ActFits, after_entry, after_act}
use Rattle.central_law.proofs.Entries.{entry_steps}
use Rattle.central_registry.specs.Moves.{Moves}
use Rattle.std.specs.Prelude.{Result, IfOk}
use Rattle.central_registry.proofs.Steps.{MovesBy, by_step, ok_by}

module _ (s : Setting) (g : Registry) (e : Entry) (rest : AtRest s g) (moved : Bool) (new : Registry) where
  pub by_entry : Moves (EntryFits s g e) g (after_entry s g e) moved new → MovesBy s g e moved new
  by_entry m = by_step s g e (EntryFits s g e) (after_entry s g e) moved new (entry_steps s g e rest) m

  -- the act is read first
  pub by_act : (act : Act) → e.choice.act ≡ act → Moves (ActFits s g e.choice.rank act e) g (after_act s g e.choice.rank act e) moved new → MovesBy s g e moved new
  by_act act is m = by_entry (subst (λ (a : Act). Moves (ActFits s g e.choice.rank a e) g (after_act s g e.choice.rank a e) moved new) (sym is) m)

-- what neither needs nor changes anything
pub stays_put : (g : Registry) → Moves (Unit {0}) g g true g
stays_put g = record { may = λ h. tt; when = λ h. refl; moves = λ h. refl; stays = λ h. refl }

-- a good answer of an act
pub ok_act : {E : Type 0} (s : Setting) (g : Registry) (e : Entry) → AtRest s g → (x : Result Bool E) (new : Registry) (act : Act) → e.choice.act ≡ act
    → IfOk x (λ moved. Moves (ActFits s g e.choice.rank act e) g (after_act s g e.choice.rank act e) moved new) → IfOk x (λ moved. MovesBy s g e moved new)
ok_act s g e rest x new act is h =
    ok_by (λ moved. Moves (ActFits s g e.choice.rank act e) g (after_act s g e.choice.rank act e) moved new) (λ moved. MovesBy s g e moved new)
    (λ moved m. by_act s g e rest moved new act is m) x h

-- an offer and a leave
pub by_nothing : (s : Setting) (g : Registry) (e : Entry) → AtRest s g → ((key : Key) × (e.choice.act ≡ Offer key)) ⊎ ((c : ℕ) × (e.choice.act ≡ Leave c)) → MovesBy s g e true g
by_nothing s g e rest (inl offer) = by_act s g e rest true g (Offer offer.0) offer.1 (stays_put g)
by_nothing s g e rest (inr leave) = by_act s g e rest true g (Leave leave.0) leave.1 (stays_put g)
