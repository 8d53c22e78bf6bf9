use Rattle.std.proofs.Common.{◌<◌, ◌++◌, ◌∙◌, ℕ, map, length, length-append, sym, ap, refl, arith, List}
use Rattle.std.proofs.lemmas.List.{append-nil, take_all}
use Rattle.agree_law.specs.Packets.{Sent as Sent_seen, Shares}
use Rattle.agree_law.specs.Shares.{to_others}
use Rattle.and_reduce.specs.Rows.{sent_of}
use Rattle.agree_core.proofs.ShareMoves.{others-none, sent-other}
use Rattle.agree_core.proofs.sharing.send_shares.Goals as goal

pub loop-place-init : goal.loop-place-init
loop-place-init g c = (
  λ top. (sym (append-nil (map (sent_of top) c.args.out.now.items)) ∙ ap (λ (ys : List Sent_seen). map (sent_of top) c.args.out.now.items ++ ys) (sym (others-none c.args.key.now.members _))),
  omega arith,
  omega arith,
  omega arith,
  omega arith,
)

pub loop-place-preserved : goal.loop-place-preserved
loop-place-preserved g c =
    let inside : c.loop-place.place < length c.args.key.now.members = omega (arith, c.loop-place-test.true, c.len-place-end.ensures.value) in (
      λ top. (rw c.push_reserved.ensures.items
          (sent-other top c.args.key.now.members c.loop-place.place _ c.args.out.now.items c.loop-place.out.items _ c.loop-place.invariant.2 inside (c.loop-place.invariant.0 top)
          (rw (c.member_at.ensures, c.copy.ensures.same, c.copy-in-loop-place.ensures.same) refl))),
      omega (arith, c.push_reserved.ensures.len, c.push_reserved.ensures.capacity, c.loop-place.invariant.1),
      omega arith,
      omega (arith, inside, c.len-place-end.ensures.value, c.len-place-end.ensures.small),
      grind (arith, c.push_reserved.ensures.items, length-append, c.loop-place.invariant.4),
    )

pub returns-clause-sent : goal.returns-clause-sent
returns-clause-sent g c top =
    c.loop-place.invariant.0 top
    ∙ ap (λ (ms : List ℕ). map (sent_of top) c.args.out.now.items ++ to_others ms (Shares c.args.key.now c.args.list.now))
    (take_all {A = ℕ} c.loop-place.place c.args.key.now.members (omega (arith, c.loop-place-test.false, c.len-place-end.ensures.value)))

pub returns-clause-room : goal.returns-clause-room
returns-clause-room g c = omega (arith, c.loop-place.invariant.1, c.loop-place.invariant.3)

pub returns-clause-few : goal.returns-clause-few
returns-clause-few g c = omega (arith, c.loop-place.invariant.3, c.loop-place.invariant.4)
