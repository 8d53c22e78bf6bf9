use Rattle.std.proofs.Common.{◌≡◌, ◌∷◌, ◌++◌, ◌==◌, ◌&&◌, ◌+◌, [], if◌then◌else◌, List, length, refl, sym, ap, subst, ◌∙◌, arith}
use Rattle.std.proofs.lemmas.Grind.{common_steps}
use Rattle.mpi_law.specs.Registry.State.{Caller, Creation, Nth_split}
use Rattle.mpi_law.specs.Registry.Creations.{is_place, same_name}
use Rattle.central_comms.specs.Pairs.{found_by}
use Rattle.central_creations.specs.Found.{AreFound, count_in, counted_parent, first_or}
use Rattle.central_creations.specs.Waiting.{is_waiting}
use Rattle.central_creations.specs.declared.creations.Creations.TheInside.{Inside}
use Rattle.central_creations.proofs.CountFacts.{found_opened}
use Rattle.central_creations.proofs.WaitingFacts.{opened_waiting}
use Rattle.central_creations.proofs.creations.Creations.open.Goals as goal
use Rattle.central_creations.proofs.creations.Creations.open.Goals.{then-not-is_picked, else-not-is_picked}

opened : (c : goal.After-push_reserved-2) (now : Inside) → now ≡ c.if-not-is_picked.self-inside
    → now.rows.items ≡ c.self.inside.rows.items → now.calls ≡ c.raise.new.calls → now.splits ≡ c.enter.new.splits
    → now.waiting.items ≡ c.self.inside.waiting.items ++ (if is_waiting c.in_ok-row.row then length c.self.inside.rows.items ∷ [] else [])
    → AreFound c.if-not-is_picked.self-inside.waiting.items c.if-not-is_picked.self-inside.calls c.if-not-is_picked.self-inside.splits c.push_reserved-2.new.self.items
opened c now is rows calls splits waiting =
    let rank : c.caller.inside.rank ≡ c.args.caller.rank = ap (λ (k : Caller). k.rank) c.caller.view_is in
    let name = ap (λ (k : Creation). k.name) c.row.view_is in
    let parent : c.counted_parent-parent.result ≡ counted_parent c.in_ok-row.row.name = c.counted_parent-parent.ensures ∙ sym (ap (λ (k : Creation). counted_parent k.name) c.in_ok-row.ensures) in
    let long : c.len.result ≡ length c.self.inside.rows.items = grind (arith, common_steps, c.len.ensures, c.in_ok-reserve.ensures.items, c.in_ok-reserve.ensures.len, c.in_ok-reserve.ensures.ok) in
    subst (λ (i : Inside). AreFound i.waiting.items i.calls i.splits c.push_reserved-2.new.self.items) is
    (found_opened c.self.inside.rows.items c.self.inside.waiting.items now.waiting.items c.self.inside.calls c.next.new.calls now.calls c.self.inside.splits c.self.invariant
    c.push_reserved-2.new.self.items c.in_ok-row.row c.args.caller now.splits
    (c.push_reserved-2.ensures.items ∙ ap (λ (i : Inside). i.rows.items ++ c.in_ok-row.row ∷ []) (sym is) ∙ ap (λ (cs : List Creation). cs ++ c.in_ok-row.row ∷ []) rows)
    (ap (λ (k : Creation). k.callers) c.in_ok-row.ensures)
    (opened_waiting c.self.inside.rows.items c.in_ok-row.row c.self.inside.waiting.items now.waiting.items c.self.invariant.places waiting)
    c.next.ensures.same
    (λ p r. subst (λ ks. count_in ks p r ≡ (if is_place p (counted_parent c.in_ok-row.row.name) && (c.args.caller.rank == r) then count_in c.next.new.calls p r + 1 else count_in c.next.new.calls p r)) (sym calls)
    (subst (λ o. count_in c.raise.new.calls p r ≡ (if is_place p o && (c.args.caller.rank == r) then count_in c.next.new.calls p r + 1 else count_in c.next.new.calls p r)) parent
    (subst (λ q. count_in c.raise.new.calls p r ≡ (if is_place p c.counted_parent-parent.result && (q == r) then count_in c.next.new.calls p r + 1 else count_in c.next.new.calls p r)) rank (c.raise.ensures p r))))
    (λ p n. ap (λ ks. found_by ks p n) splits ∙ c.in_ok-enter.ensures.ok p n
    ∙ ap (λ m. first_or (found_by c.self.inside.splits p n) (same_name m (Nth_split p n)) c.len.result) name
    ∙ ap (λ k. first_or (found_by c.self.inside.splits p n) (same_name c.in_ok-row.row.name (Nth_split p n)) k) long))

pub invariant_of-self-2 : goal.invariant_of-self-2
invariant_of-self-2 c = elim c.if-not-is_picked.branch [
  | then-not-is_picked w ↦
      opened c c.if-not-is_picked.self-inside refl
      (grind (arith, common_steps, w.self-inside-is, c.in_ok-reserve.ensures.items)) (ap (λ (i : Inside). i.calls) w.self-inside-is) (ap (λ (i : Inside). i.splits) w.self-inside-is)
      (grind (arith, common_steps, w.self-inside-is, w.push_reserved.ensures.items, w.len-then-not-is_picked.ensures, w.if-not-is_picked.true, c.is_picked.ensures, c.in_ok-reserve.ensures.items, c.in_ok-reserve-2.ensures.items, c.in_ok-reserve.ensures.len, c.in_ok-reserve.ensures.ok))
  | else-not-is_picked w ↦
      opened c c.if-not-is_picked.self-inside refl
      (grind (arith, common_steps, w.self-inside-is, c.in_ok-reserve.ensures.items)) (ap (λ (i : Inside). i.calls) w.self-inside-is) (ap (λ (i : Inside). i.splits) w.self-inside-is)
      (grind (arith, common_steps, w.self-inside-is, w.if-not-is_picked.false, c.is_picked.ensures, c.in_ok-reserve-2.ensures.items))
]
