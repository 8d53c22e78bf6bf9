-- Leaves and give-backs.
use Rattle.std.proofs.Common.{◌≡◌, ◌<◌, ◌≤◌, ◌+◌, ◌==◌, ◌++◌, ℕ, true, false, List, [], ◌∷◌, map, take, length, get_or, refl, sym, subst, ◌∙◌, ap, arith, Some, None}
use Rattle.std.proofs.lemmas.List.{append-nil, append_assoc, map-append, take_more}
use Rattle.mpi_base.specs.declared.entries.Act.TheVariants.{Leave, Back}
use Rattle.mpi_base.specs.declared.entries.Entry.{Entry}
use Rattle.agree_law.specs.Tree.{member_at}
use Rattle.agree_law.specs.Moves.{give_back}
use Rattle.comm_law.specs.Comms.{Comms, comm_at, leave, remove}
use Rattle.match_law.specs.Box.{drop_ctx, kept_on}
use Rattle.mpi_protocol.specs.Packets.{Marker, Sent as Sent_seen}
use Rattle.mpi_protocol.specs.Rank.{Rank}
use Rattle.mpi_protocol.specs.Moves.{moves}
use Rattle.mpi_protocol.specs.Step.{gives_back, leaves, markers, step}
use Rattle.rank_core.specs.declared.packets.Sent.{Sent}
use Rattle.rank_core.specs.Packets.{Box, sent_of}
use Rattle.rank_core.specs.Held.{Held, IsReady, Makes}
use Rattle.rank_core.proofs.ActFacts.{few-others, makes-of, sent_by-others}

pub step-leave : (x : Rank) (c : ℕ) → step x (Leave c) None ≡ moves (record x { comms = leave x.comms c }) (markers x.rank c (comm_at x.comms c).members)
unfolding step leaves
step-leave x c = refl

pub step-back : (x : Rank) (c : ℕ) → step x (Back c) None
    ≡ record {
      state = record x { agree = give_back x.agree c; comms = remove x.comms c; box = drop_ctx x.box c };
      said = None;
      matched = None;
      dropped = Some (kept_on x.box c);
      reply = None;
      sent = [];
    }
unfolding step gives_back
step-back x c = refl

-- A marker to each other member

markers-append : (r c : ℕ) (xs ys : List ℕ) → markers r c (xs ++ ys) ≡ markers r c xs ++ markers r c ys
markers-append r c [] ys = refl
markers-append r c (x ∷ xs) ys = let ih = markers-append r c xs ys in grind (arith, ih)

markers-more : (r c q : ℕ) (ms : List ℕ) → q < length ms → markers r c (take (q + 1) ms) ≡ markers r c (take q ms) ++ markers r c (member_at ms q ∷ [])
markers-more r c q ms inside = ap (markers r c) (take_more ms q 0 inside) ∙ markers-append r c (take q ms) (get_or ms q 0 ∷ [])

module _ {w : ℕ} (top r c q : ℕ) (ms : List ℕ) (start xs : List (Sent w)) (to : ℕ) (inside : q < length ms) (at : to ≡ member_at ms q)
    (so_far : map (sent_of top) xs ≡ map (sent_of top) start ++ markers r c (take q ms)) where
  pub marked-one : (x : Sent w) → (to == r) ≡ false → sent_of top x ≡ record { to = to; packet = Marker c }
      → map (sent_of top) (xs ++ x ∷ []) ≡ map (sent_of top) start ++ markers r c (take (q + 1) ms)
  marked-one x apart is =
      let one : markers r c (member_at ms q ∷ []) ≡ record { to = to; packet = Marker c } ∷ [] = rw (← at, apart) refl in
      map-append (sent_of top) xs (x ∷ [])
      ∙ (ap (λ (ys : List Sent_seen). ys ++ sent_of top x ∷ []) so_far
      ∙ (append_assoc (map (sent_of top) start) (markers r c (take q ms)) (sent_of top x ∷ [])
      ∙ ap (λ (ys : List Sent_seen). map (sent_of top) start ++ ys)
      (ap (λ (s : Sent_seen). markers r c (take q ms) ++ s ∷ []) is
      ∙ sym (markers-more r c q ms inside ∙ ap (λ (ys : List Sent_seen). markers r c (take q ms) ++ ys) one))))

  pub marked-none : (to == r) ≡ true → map (sent_of top) xs ≡ map (sent_of top) start ++ markers r c (take (q + 1) ms)
  marked-none same =
      let one : markers r c (member_at ms q ∷ []) ≡ [] = rw (← at, same) refl in
      so_far
      ∙ ap (λ (ys : List Sent_seen). map (sent_of top) start ++ ys)
      (sym (markers-more r c q ms inside ∙ (ap (λ (ys : List Sent_seen). markers r c (take q ms) ++ ys) one ∙ append-nil (markers r c (take q ms)))))

pub makes-leave : {w : ℕ} (h old new : Held) (c rank : ℕ) (members : List ℕ) (comms : Comms) (line : Entry) (b was : Box w) (others : List (Sent w)) (room : ℕ) → h ≡ old → b ≡ was → IsReady was
    → members ≡ (comm_at old.state.comms c).members → rank ≡ h.state.rank
    → ((top : ℕ) → map (sent_of top) others ≡ map (sent_of top) b.others ++ markers rank c members) → length others ≤ length b.others + 16
    → comms ≡ leave h.state.comms c → line ≡ record { choice = record { rank = h.state.rank; act = Leave c }; brief = None; said = None; matched = None; dropped = None; reply = None }
    → new.state ≡ record h.state { comms = comms } → new.boxed ≡ h.boxed → h.spare ≤ new.spare
    → Makes old (Leave c) None new line (record { agreed = b.agreed; others = others; room = room })
makes-leave h old new c rank members comms line b was others room is out ready among at sent few left entry state boxed spare =
    let here : members ≡ (comm_at h.state.comms c).members = subst (λ (o : Held). members ≡ (comm_at o.state.comms c).members) (sym is) among in
    let marks : map (sent_of h.state.setting.contexts) others ≡ map (sent_of h.state.setting.contexts) b.others ++ markers h.state.rank c (comm_at h.state.comms c).members = rw (← here, ← at) (sent _) in
    makes-of h old new (Leave c) None _ line _ is (step-leave h.state c) (state ∙ rw left refl) entry
    (sent_by-others h.state.setting.contexts b was room out ready others _ marks)
    (few-others h.state.setting.contexts b was room out ready others 16 few (omega arith))
    (ap (λ (x : Rank). x.rank) state) (ap (λ (x : Rank). x.setting) state) (omega (arith, boxed)) (omega (arith, spare))
