-- Nothing is there at the opening.
use Rattle.std.proofs.Common.{◌≡◌, ◌<◌, ◌+◌, ◌*◌, ◌==◌, ℕ, zero, suc, [], ◌++◌, map, filter, length, get_or, replicate, None, refl, arith}
use Rattle.std.specs.List.{range_with_len}
use Rattle.mpi_base.specs.declared.messages.Msg.{Msg}
use Rattle.mpi_law.specs.declared.setting.Setting.{Setting}
use Rattle.mpi_law.specs.Registry.State.{blank_part, registry_opening, part_of}
use Rattle.mpi_protocol.specs.Rank.{Rank, fresh, receive_of as row_of}
use Rattle.agree_law.proofs.Lists.{AllOf}
use Rattle.message_law.proofs.BoxFacts.{IsApart}
use Rattle.comm_law.specs.declared.rows.MarkerRow.{MarkerRow}
use Rattle.mpi_protocol.specs.World.{opening, blank, rank_at, link}
use Rattle.message_law.proofs.Worlds.{Fits}
use Rattle.message_law.proofs.Topics.{messages_on, Belongs, RowFits}

get_or-replicate : {A : Type 0} (n i : ℕ) (a : A) → get_or (replicate n a) i a ≡ a
get_or-replicate zero i a = refl
get_or-replicate (suc n) zero a = refl
get_or-replicate (suc n) (suc i) a = get_or-replicate n i a

-- what holds of each fresh rank and of the blank one
each_fresh : (P : Rank → Type 0) (s : Setting) (a n i : ℕ) → ((q : ℕ) → P (fresh s q)) → P blank → P (get_or (map (fresh s) (range_with_len a n)) i blank)
each_fresh P s a zero i f b = b
each_fresh P s a (suc n) zero f b = f a
each_fresh P s a (suc n) (suc i) f b = each_fresh P s (a + 1) n i f b

module _ (s : Setting) where
  at_first : (P : Rank → Type 0) (r : ℕ) → ((q : ℕ) → P (fresh s q)) → P blank → P (rank_at (opening s) r)
  at_first P r f b = each_fresh P s 0 s.ranks r f b

  no_links : (a b : ℕ) → link (opening s) a b ≡ []
  no_links a b = get_or-replicate (s.ranks * s.ranks) (length (opening s).ranks * a + b) []

  part_is : (q : ℕ) → part_of (registry_opening s) q ≡ blank_part
  part_is q = get_or-replicate s.ranks q blank_part

  no_comm : (p : ℕ) → p < length (registry_opening s).comms → ⊥
  no_comm p l = absurd (omega (arith, l))

  pub opening_fits : Fits (opening s) (registry_opening s)
  opening_fits = record {
    messages = record {
      lists = λ q r lq lr. at_first (λ x. [] ≡ filter (λ (m : Msg). m.from == q) x.box.kept ++ messages_on (link (opening s) q r)) r (λ z. rw (no_links q r) refl) (rw (no_links q r) refl);
      numbered = λ q lq. rw (part_is q) refl;
      counted = λ q lq. rw (part_is q) (at_first (λ x. x.sends ≡ 0) q (λ z. refl) refl);
      live = tt;
      sources = λ r lr. at_first (λ x. AllOf (λ (m : Msg). m.from < length (opening s).ranks) x.box.kept) r (λ z. tt) tt;
    };
    receives = record {
      lists = λ r lr. at_first (λ x. [] ≡ x.box.posted) r (λ z. refl) refl;
      numbered = λ r lr. rw (part_is r) refl;
      counted = λ r lr. rw (part_is r) (at_first (λ x. x.posts ≡ 0) r (λ z. refl) refl);
      live = tt;
      taken = λ r k lr. at_first (λ x. RowFits (registry_opening s) (row_of x.receives k) None) r (λ z. tt) tt;
      known = tt;
    };
    markers = record {
      one_each = λ p q r lq lr ne on i. absurd (no_comm p on.0);
      order = λ q r c lq lr. rw (no_links q r) refl;
      on_line = λ q r lq lr. rw (no_links q r) tt;
      noted = λ r lr. at_first (λ x. AllOf (λ (k : MarkerRow). Belongs (registry_opening s) k.from r k.ctx) x.comms.noted) r (λ z. tt) tt;
      gone = λ p q r l e i. absurd (no_comm p l);
    };
    own = λ r lr. rw (no_links r r) refl;
    apart = λ r lr. at_first (λ x. IsApart x.box) r (λ z. refl) refl;
  }
