-- Replies that compare as equal are the same.
use Rattle.std.proofs.Common.{◌≡◌, ◌↔◌, true, false, List, [], ◌∷◌, Option, Some, None, not, refl, subst, ap, ◌≢◌, arith}
use Rattle.std.proofs.lemmas.Slice.Eq.{bytes_eq-Decides}
use Rattle.std.specs.Option.{option_eq}
use Rattle.mpi_base.specs.declared.replies.Reply.{Reply}
use Rattle.mpi_base.specs.declared.groups.RankOut.{RankOut}
use Rattle.mpi_base.specs.declared.replies.Reply.TheVariants as reply
use Rattle.mpi_base.specs.contracts.replies.ReplyPartialEq.TheImpl.{eq-value}
use Rattle.mpi_base.specs.contracts.groups.RankOutPartialEq.TheImpl as outs

same_rank : (a b : RankOut) → outs.eq-value.it a b ≡ true → a ≡ b
same_rank a b e = grind (arith, e)

same_ranks : (xs ys : List RankOut) → eq-value.it (reply.Ranks xs) (reply.Ranks ys) ≡ true → xs ≡ ys
same_ranks [] [] e = refl
same_ranks [] (y ∷ ys) e = absurd (cc (e))
same_ranks (x ∷ xs) [] e = absurd (cc (e))
same_ranks (x ∷ xs) (y ∷ ys) e = let ih = same_ranks xs ys in let here = same_rank x y in grind (arith, e, ih, here)

same_reply : (a b : Reply) → eq-value.it a b ≡ true → a ≡ b
same_reply reply.Fine b e = grind (arith, e)
same_reply (reply.Refused c) b e = grind (arith, e)
same_reply reply.Null b e = grind (arith, e)
same_reply (reply.Psets n) b e = grind (arith, e)
same_reply (reply.NthName n) b e = grind (arith, e, bytes_eq-Decides n)
same_reply (reply.Size0 n) b e = grind (arith, e)
same_reply (reply.Group ms) b e = grind (arith, e, bytes_eq-Decides ms)
same_reply (reply.Ranks rs) b e = grind (arith, e, same_ranks rs)
same_reply (reply.Like l) b e = grind (arith, e)
same_reply (reply.Size n) b e = grind (arith, e)
same_reply (reply.Rank r) b e = grind (arith, e)
same_reply (reply.Comm c r s) b e = grind (arith, e)
same_reply (reply.Received s t p) b e = grind (arith, e, bytes_eq-Decides p)

reply_same : (a : Reply) → eq-value.it a a ≡ true
reply_same reply.Fine = grind (arith)
reply_same (reply.Refused c) = grind (arith)
reply_same reply.Null = grind (arith)
reply_same (reply.Psets n) = grind (arith)
reply_same (reply.NthName n) = (bytes_eq-Decides n n).1 refl
reply_same (reply.Size0 n) = grind (arith)
reply_same (reply.Group ms) = (bytes_eq-Decides ms ms).1 refl
reply_same (reply.Ranks []) = refl
reply_same (reply.Ranks (r ∷ rs)) = let ih = reply_same (reply.Ranks rs) in grind (arith, ih)
reply_same (reply.Like l) = grind (arith)
reply_same (reply.Size n) = grind (arith)
reply_same (reply.Rank r) = grind (arith)
reply_same (reply.Comm c r s) = grind (arith)
reply_same (reply.Received s t p) = let text = (bytes_eq-Decides p p).1 refl in grind (arith, text)

pub reply_told : (a b : Reply) → (eq-value.it a b ≡ true) ↔ (a ≡ b)
reply_told a b = (λ e. same_reply a b e, λ same. subst (λ (x : Reply). eq-value.it a x ≡ true) same (reply_same a))

-- the same of what may be no reply
same_said : (a b : Option Reply) → option_eq eq-value.it a b ≡ true → a ≡ b
same_said None None e = refl
same_said None (Some y) e = absurd (cc (e))
same_said (Some x) None e = absurd (cc (e))
same_said (Some x) (Some y) e = ap Some (same_reply x y e)

said_same : (a : Option Reply) → option_eq eq-value.it a a ≡ true
said_same None = refl
said_same (Some x) = reply_same x

pub told_same : (a b : Option Reply) → not (option_eq eq-value.it a b) ≡ false → a ≡ b
told_same a b e = same_said a b (grind (arith, e))

pub told_apart : (a b : Option Reply) → not (option_eq eq-value.it a b) ≡ true → a ≢ b
told_apart a b e same =
    let is = subst (λ (x : Option Reply). option_eq eq-value.it a x ≡ true) same (said_same a) in
    absurd (grind (arith, e, is))
