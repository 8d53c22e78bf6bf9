-- What the loop of the drain keeps.
use Rattle.std.proofs.Common.{◌≡◌, List, [], ◌∷◌, ◌++◌, append_assoc, append-nil, refl, sym, ◌∙◌, ap, subst}
use Rattle.mpi_base.specs.declared.entries.Choice.{Choice}
use Rattle.mpi_base.specs.declared.entries.Entry.{Entry}
use Rattle.mpi_law.specs.ScriptLists.{AllScripts}
use Rattle.mpi_protocol.specs.Order.{IsDrained, IsFirstChoice}
use Rattle.mpi_protocol.specs.Run.{world_after}
use Rattle.mpi_protocol.specs.World.{World, moved, entry_at}
use Rattle.world_core.specs.Held.{Held}
use Rattle.world_drain.specs.Drains.{Goes}

-- the setting stays, and the drain has gone so far
pub record IsGoing (scripts : AllScripts) (old now : Held) : Type 0 where
  pub setting : now.setting ≡ old.setting
  pub goes : Goes scripts old now

-- one entry more
drained-after : (scripts : AllScripts) (w : World) (es : List Entry) (e : Entry) → IsDrained scripts w es → IsFirstChoice (world_after w es) scripts e.choice → IsDrained scripts w (es ++ e ∷ [])
drained-after scripts w [] e d f = (f, tt)
drained-after scripts w (x ∷ xs) e d f = (d.0, drained-after scripts (moved w x.choice) xs e d.1 f)

world-after : (w : World) (es : List Entry) (e : Entry) → world_after w (es ++ e ∷ []) ≡ moved (world_after w es) e.choice
world-after w [] e = refl
world-after w (x ∷ xs) e = world-after (moved w x.choice) xs e

-- no step yet
pub going_first : (scripts : AllScripts) (old : Held) → IsGoing scripts old old
going_first scripts old = record { setting = refl; goes = record { more = []; entries = sym (append-nil old.entries); drained = tt; world = refl } }

-- making room is no step
pub goes_same : (scripts : AllScripts) (old now next : Held) → Goes scripts old now → next.entries ≡ now.entries → next.world ≡ now.world → Goes scripts old next
goes_same scripts old now next g e f = record { more = g.more; entries = e ∙ g.entries; drained = g.drained; world = f ∙ g.world }

-- one step more, by the first choice
pub goes_next : (scripts : AllScripts) (old now next : Held) (c : Choice) → Goes scripts old now → IsFirstChoice now.world scripts c
    → next.entries ≡ now.entries ++ entry_at now.world c ∷ [] → next.world ≡ moved now.world c → (entry_at now.world c).choice ≡ c → Goes scripts old next
goes_next scripts old now next c g f e m s =
    let line = entry_at now.world c in
    record {
      more = g.more ++ line ∷ [];
      entries = e ∙ (ap (λ (es : List Entry). es ++ line ∷ []) g.entries ∙ append_assoc old.entries g.more (line ∷ []));
      drained = drained-after scripts old.world g.more line g.drained (subst (λ (d : Choice). IsFirstChoice (world_after old.world g.more) scripts d) (sym s) (subst (λ (w : World). IsFirstChoice w scripts c) g.world f));
      world = m ∙ (ap (λ (d : Choice). moved now.world d) (sym s) ∙ (ap (λ (w : World). moved w line.choice) g.world ∙ sym (world-after old.world g.more line)));
    }

-- the drain goes on: room is made, which changes nothing that counts, and then the step
pub going_next : (scripts : AllScripts) (old now ready next : Held) (c : Choice) → IsGoing scripts old now → IsFirstChoice now.world scripts c
    → ready.setting ≡ now.setting → ready.world ≡ now.world → ready.entries ≡ now.entries
    → next.setting ≡ ready.setting → next.world ≡ moved ready.world c → next.entries ≡ ready.entries ++ entry_at ready.world c ∷ [] → (entry_at ready.world c).choice ≡ c → IsGoing scripts old next
going_next scripts old now ready next c i f s w e t m n d = record {
  setting = t ∙ (s ∙ i.setting);
  goes = goes_next scripts old ready next c (goes_same scripts old now ready i.goes e w) (subst (λ (v : World). IsFirstChoice v scripts c) (sym w) f) n m d;
}
