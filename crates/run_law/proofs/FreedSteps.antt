-- A rank frees communicators, while no name of its own is bound to them and no creation of its own has made them: ranks and
-- registry go on to belong together.
use Rattle.std.proofs.Common.{◌≡◌, ◌<◌, ℕ, ◌&&◌, nat_lt, nat_le, Bool, true, List, get_or, set, Option, Some, None, refl, ap, ◌∙◌, subst}
use Rattle.std.specs.Option.{is_some, is_none}
use Rattle.mpi_base.specs.declared.keys.Key.{Key}
use Rattle.mpi_law.specs.declared.setting.Setting.{Setting}
use Rattle.mpi_law.specs.Registry.State.{Registry, Communicator, Creating, Made, blank_part, part_of}
use Rattle.mpi_law.specs.Registry.Creations.{outcome_for}
use Rattle.agree_law.specs.Part.{stage_of}
use Rattle.comm_law.specs.declared.rows.CommRow.{CommRow}
use Rattle.comm_law.specs.Comms.{Comms as Known}
use Rattle.mpi_protocol.specs.declared.rows.Waits.TheVariants.{Creation as Creates, Uncoloured}
use Rattle.mpi_protocol.specs.Rank.{Rank}
use Rattle.run_law.proofs.Rows.{row_in}
use Rattle.due_law.specs.Dues.{Dues}
use Rattle.run_law.proofs.Locals.{LocalFits}
use Rattle.run_law.proofs.Threads.{row_of}
use Rattle.run_law.proofs.Masks.{MaskFits}
use Rattle.run_law.proofs.Creations.{CreationFits, UncolouredFits, creation_in}
use Rattle.run_law.proofs.Comms.{CommsFit}
use Rattle.run_law.proofs.Joined.{rank_in, Joined}
use Rattle.run_law.proofs.Parts.{thread_in}
use Rattle.run_law.proofs.Joins.{stage_rows}
use Rattle.run_law.proofs.Names.{stands_on}
use Rattle.run_law.proofs.SameComms.{creation_same, uncoloured_same}
use Rattle.run_law.proofs.ChangedComms.{changed_joined}
use Rattle.run_law.proofs.Freed.{Freed, stay, freed_changed, freed_same, apart_freed, parent_freed, back_freed}

module _ (s : Setting) (ranks : List Rank) (due : Dues) (g : Registry) (r : ℕ) (cs : List Communicator) (hit : ℕ → Bool) (f : Freed g.comms cs r hit) (x : Rank) (known : Known) (j : Joined s ranks due g) (lt : r < s.ranks) (is : rank_in ranks r ≡ x)
    (same : (c : ℕ) → is_some (row_in known.rows c) ≡ is_some (row_in x.comms.rows c)) (names : LocalFits cs known.rows r x.local (part_of g r).local)
    (safe : (u : ℕ) (k : Key) (to : List ℕ) (from i p : ℕ) → (row_of x.threads u).waits ≡ Creates k to from → (thread_in g.ranks r u).wait ≡ Creating i → outcome_for (creation_in g.creations i) r ≡ Some (Made p) → hit p ≡ true → ⊥)
    (comms : CommsFit s.contexts cs g.creations (get_or g.ranks r blank_part).threads r known.rows known.added x.agree.owner (due r) x.threads) where
  mask_here : MaskFits s.contexts x.agree.mask known.rows
  mask_here = record { wide = old.wide; bits = λ c. (let b = old.bits c in b ∙ ap (λ (n : Bool). nat_lt 0 c && (nat_le c s.contexts && n)) (none_same (row_in known.rows c) (row_in x.comms.rows c) (same c))) }
    where
      old : MaskFits s.contexts x.agree.mask x.comms.rows
      old = subst (λ (z : Rank). MaskFits s.contexts z.agree.mask z.comms.rows) is (j.masks r lt)

      none_same : (o p : Option CommRow) → is_some o ≡ is_some p → is_none p ≡ is_none o
      none_same None None e = refl
      none_same (Some a) (Some b) e = refl
      none_same None (Some b) e = absurd (cc (e))
      none_same (Some a) None e = absurd (cc (e))

  -- creations of this rank
  creation_here : (u : ℕ) (k : Key) (to : List ℕ) (from i : ℕ) → (row_of x.threads u).waits ≡ Creates k to from → (thread_in g.ranks r u).wait ≡ Creating i → CreationFits cs g.creations known.rows x.local.names (due r k) (stage_of x.agree.opened k) r u k to from i
  creation_here u k to from i fw fp =
      let old = subst (λ (z : Rank). (row_of z.threads u).waits ≡ Creates k to from → CreationFits g.comms g.creations z.comms.rows z.local.names (due r k) (stage_of z.agree.opened k) r u k to from i) is (λ w. j.creations.each r u k to from i w fp) fw in
      let h = creation_same g.comms cs r _ (freed_same g.comms cs r hit f) g.creations x.comms.rows x.local.names (due r k) (stage_of x.agree.opened k) u k to from i (λ p e hits. safe u k to from i p fw fp e hits) (stands_on g.comms cs r k (creation_in g.creations i).name (stay g.comms cs r hit f r) old.stands) old in
      record {
        there = h.there;
        stands = h.stands;
        caller = h.caller;
        members = h.members;
        member = h.member;
        kind = h.kind;
        share = h.share;
        far = stage_rows cs x.comms.rows known.rows x.local.names r k from (due r k) (stage_of x.agree.opened k) _ (λ c z e. same c ∙ e) h.far;
      }

  uncoloured_here : (u : ℕ) (k : Key) (to : List ℕ) (from i : ℕ) → (row_of x.threads u).waits ≡ Uncoloured k to from → (thread_in g.ranks r u).wait ≡ Creating i → UncolouredFits cs g.creations r u k to from i
  uncoloured_here u k to from i fw fp =
      let h = subst (λ (z : Rank). (row_of z.threads u).waits ≡ Uncoloured k to from → UncolouredFits g.comms g.creations r u k to from i) is (λ w. j.creations.uncoloured r u k to from i w fp) fw in
      uncoloured_same g.comms cs r _ (freed_same g.comms cs r hit f) g.creations u k to from i (stands_on g.comms cs r k (creation_in g.creations i).name (stay g.comms cs r hit f r) h.stands) h

  pub freed_joined : Joined s (set ranks r (record x { comms = known })) due (record g { comms = cs })
  freed_joined =
      changed_joined s ranks due g r cs (freed_changed g.comms cs r hit f) g.messages x known x.agree.mask x.box j lt is names mask_here creation_here uncoloured_here comms
      (apart_freed g.comms cs r hit f j.whole.apart) (back_freed g.comms cs r hit f j.whole.returned) (λ q u i p w e. parent_freed g.comms cs r hit f p (creation_in g.creations i).group (j.whole.under q u i p w e))
