-- Objects under other names of sessions and communicators: what a rank has is what the registry has, renamed.
use Rattle.std.specs.Prelude.{map}
use Rattle.local_law.specs.Names.{Rows}
use Rattle.local_law.specs.Objects.{Bound, Reserved, Session, Group, Comm, Request, Objects}

-- the rows where what names are bound to has other names
abbrev pub renamed_rows : {A B : Type 0} → (A → B) → Rows A → Rows B
renamed_rows f rows = map (λ r. (r.0, f r.1)) rows

-- the same under other names of sessions and communicators
abbrev pub renamed_bound : {S C T D : Type 0} → (S → T) → (C → D) → Bound S C → Bound T D
renamed_bound f g Reserved = Reserved
renamed_bound f g (Session s) = Session (f s)
renamed_bound f g (Group members s) = Group members (f s)
renamed_bound f g (Comm c s) = Comm (g c) (f s)
renamed_bound f g (Request number) = Request number

abbrev pub renamed : {S C T D : Type 0} → (S → T) → (C → D) → Objects S C → Objects T D
renamed f g o = record { names = renamed_rows (renamed_bound f g) o.names; live = map f o.live; opened = o.opened }
