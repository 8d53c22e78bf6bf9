-- Whole entries: their tokens fit, and tell them.
use Rattle.std.proofs.Common.{◌≡◌, ℕ, ◌≤◌, true, false, List, [], ◌∷◌, ◌++◌, Option, Some, None, codes, decimal, refl, sym, ap, ◌∙◌, subst, lit<}
use Rattle.mpi_base.specs.declared.messages.Matched.{Matched}
use Rattle.mpi_base.specs.declared.entries.Act.{Act}
use Rattle.mpi_base.specs.declared.entries.Act.TheVariants.{Call, Answer, Deliver, Offer, Settle, Leave, Back}
use Rattle.mpi_base.specs.declared.entries.Brief.{Brief}
use Rattle.mpi_base.specs.declared.entries.Said.{Said}
use Rattle.mpi_base.specs.declared.entries.Said.TheVariants as said
use Rattle.mpi_base.specs.declared.replies.Reply.{Reply}
use Rattle.mpi_base.specs.declared.entries.Entry.{Entry}
use Rattle.token_text.specs.Reading.{IsExact}
use Rattle.token_text.specs.Numbers.{number_form}
use Rattle.token_text.specs.Words.{FitsIf}
use Rattle.token_text.proofs.Exact.{number_exact}
use Rattle.entry_text.specs.Labels.{most_8, most_16, most_64}
use Rattle.entry_text.specs.Grammar.{Piece, branch, number, choice, owning, call_end, match_end, reply_end, fit}
use Rattle.entry_text.specs.Parts.{Part}
use Rattle.entry_text.specs.Said.{said_tokens, IsOffered}
use Rattle.entry_text.specs.Reading.{settled_part, reply_part, match_part}
use Rattle.entry_text.specs.Replies.{reply_tokens, match_tokens, IsReply, IsMatched}
use Rattle.entry_text.specs.declared.words.Word.TheVariants as word
use Rattle.entry_text.proofs.Fit.{IsSure, fit_token, fit_text, fit_word}
use Rattle.entry_text.proofs.Sure.{short_exact, long_exact, head_same, tail_same, apart, key_sure, owning_sure}
use Rattle.entry_text.proofs.SurePackets.{brief_sure, settled_sure}
use Rattle.entry_text.proofs.SureReplies.{reply_sure, match_sure}
use Rattle.history_text.specs.Text.{act_text, behind_act, said_part, matched_part, dropped_part, behind_word, entry_tokens, entry_text, IsAct, IsThere, HasBrief, HasSaid, HasMatch, HasDropped, HasReply, IsEntry}
use Rattle.history_text.specs.Text as text
use Rattle.history_text.proofs.Operations.{op_own}

pub byte_exact : IsExact (number_form most_8)
byte_exact = number_exact most_8 (lit< tt)

pub append_nil : {A : Type 0} (xs : List A) → xs ++ [] ≡ xs
append_nil [] = refl
append_nil (x ∷ xs) = ap (λ r. x ∷ r) (append_nil xs)

fit_done : fit [] [] ≡ true
unfolding fit
fit_done = refl

-- no tokens are not some
no_tokens : (x : List ℕ) (xs : List (List ℕ)) → [] ≡ x ∷ xs → ⊥
no_tokens x xs e = absurd (cc (e))

-- the last part of a line
ended : {V : Type 0} (p : Part V) → IsSure p → (v : V) → p.Fits v → fit p.pieces (p.tokens v) ≡ true
ended p x v h =
    let a = x.own v [] [] h in
    subst (λ (ts : List (List ℕ)). fit p.pieces ts ≡ true) (append_nil (p.tokens v)) (subst (λ (ps : List Piece). fit ps (p.tokens v ++ []) ≡ true) (append_nil p.pieces) (a ∙ fit_done))

-- the last number of a line
ended_number : (most n : ℕ) → IsExact (number_form most) → n ≤ most → fit (number most ∷ []) (decimal n ∷ []) ≡ true
ended_number most n x h = fit_token (number_form most) x n [] [] h ∙ fit_done

-- a reply or nothing, a match or nothing, and both

reply_ends : (r : Option Reply) → FitsIf IsReply r → fit (branch reply_end ∷ []) (text.reply_part r) ≡ true
unfolding fit
reply_ends None h = refl
reply_ends (Some x) h = fit_word word.Gives reply_end (reply_tokens x) [] ∙ ended reply_part reply_sure x h

match_ends : (m : Option Matched) → FitsIf IsMatched m → fit (branch match_end ∷ []) (matched_part m) ≡ true
unfolding fit
match_ends None h = refl
match_ends (Some x) h = fit_word word.Mark match_end (match_tokens x) [] ∙ ended match_part match_sure x h

call_ends : (m : Option Matched) (r : Option Reply) → FitsIf IsMatched m → FitsIf IsReply r → fit (branch call_end ∷ []) (matched_part m ++ text.reply_part r) ≡ true
unfolding fit
call_ends None None h k = refl
call_ends None (Some x) h k = fit_word word.Gives call_end (reply_tokens x) [] ∙ ended reply_part reply_sure x k
call_ends (Some x) r h k = fit_word word.Mark call_end (match_tokens x ++ text.reply_part r) [] ∙ (match_sure.own x (text.reply_part r) (branch reply_end ∷ []) h ∙ reply_ends r k)

-- what stands behind the word of a step
abbrev pub rest : Act → Option Brief → Option Said → Option Matched → Option ℕ → Option Reply → List (List ℕ)
rest a b s m d r = behind_act a b ++ (said_part s ++ (matched_part m ++ (dropped_part d ++ text.reply_part r)))

offered_own : (s : Said) → IsOffered s → fit (branch owning ∷ []) (said_tokens s ++ []) ≡ true
offered_own said.Own h = owning_sure.own true [] [] tt ∙ fit_done
offered_own said.Zero h = owning_sure.own false [] [] tt ∙ fit_done
offered_own _ h = absurd h

-- each step fits with what belongs to it
step_own : (a : Act) (b : Option Brief) (s : Option Said) (m : Option Matched) (d : Option ℕ) (r : Option Reply) → IsAct a → HasBrief a b → HasSaid a s → HasMatch a m → HasDropped a d → HasReply a r
    → fit (branch choice ∷ []) (act_text a ∷ rest a b s m d r) ≡ true
step_own (Call t op) b s m d r ha hb hs hm hd hr =
    rw (hs, hd) (fit_word word.Call choice _ [] ∙ (fit_token (number_form most_8) byte_exact t _ _ ha.0 ∙ (op_own op _ _ ha.1 ∙ call_ends m r hm hr)))
step_own (Answer t) b s m d None ha hb hs hm hd hr = absurd hr
step_own (Answer t) b s m d (Some x) ha hb hs hm hd hr =
    rw (hs, hm, hd) (fit_word word.Answer choice _ [] ∙ (fit_token (number_form most_8) byte_exact t _ _ ha ∙ (fit_text (codes "=>") _ _ refl ∙ ended reply_part reply_sure x hr)))
step_own (Deliver f) None s m d r ha hb hs hm hd hr = absurd hb
step_own (Deliver f) (Some x) s m d r ha hb hs hm hd hr =
    let n = append_nil (matched_part m) in
    rw (hs, hd, hr, n) (fit_word word.Deliver choice _ [] ∙ (fit_token (number_form most_16) short_exact f _ _ ha ∙ (brief_sure.own x _ _ hb ∙ match_ends m hm)))
step_own (Offer k) b None m d r ha hb hs hm hd hr = absurd hs
step_own (Offer k) b (Some x) m d r ha hb hs hm hd hr =
    rw (hm, hd, hr) (fit_word word.Offer choice _ [] ∙ (key_sure.own k _ _ ha ∙ (fit_text (codes "#") _ _ refl ∙ offered_own x hs)))
step_own (Settle k) b None m d r ha hb hs hm hd hr = absurd hs
step_own (Settle k) b (Some x) m d r ha hb hs hm hd hr =
    let n = append_nil (codes "#" ∷ said_tokens x) in
    rw (hm, hd, hr, n) (fit_word word.Settle choice _ [] ∙ ended settled_part settled_sure (k, x) (ha, hs))
step_own (Leave c) b s m d r ha hb hs hm hd hr = rw (hs, hm, hd, hr) (fit_word word.Leave choice _ [] ∙ ended_number most_16 c short_exact ha)
step_own (Back c) b s m None r ha hb hs hm hd hr = absurd hd
step_own (Back c) b s m (Some n) r ha hb hs hm hd hr =
    rw (hs, hm, hr) (fit_word word.Back choice _ [] ∙ (fit_token (number_form most_16) short_exact c _ _ ha ∙ (fit_text (codes "#") _ _ refl ∙ (fit_text (codes "drop") _ _ refl ∙ ended_number most_64 n long_exact hd))))

-- the tokens of a well-formed entry fit
pub entry_own : (e : Entry) → IsEntry e → fit (number most_16 ∷ branch choice ∷ []) (entry_tokens e) ≡ true
entry_own e h =
    fit_token (number_form most_16) short_exact e.choice.rank _ _ h.rank
    ∙ step_own e.choice.act e.brief e.said e.matched e.dropped e.reply h.act h.brief h.said h.matched h.dropped h.reply

-- two optional replies with the same tokens
pub reply_ends_alone : (r s : Option Reply) → FitsIf IsReply r → FitsIf IsReply s → text.reply_part r ≡ text.reply_part s → r ≡ s
reply_ends_alone None None h k e = refl
reply_ends_alone None (Some y) h k e = absurd (no_tokens _ _ e)
reply_ends_alone (Some x) None h k e = absurd (no_tokens _ _ (sym e))
reply_ends_alone (Some x) (Some y) h k e =
    let t = tail_same _ _ _ _ e in
    ap (λ (z : Reply). Some z) (reply_sure.alone x y [] [] h k (append_nil (reply_tokens x) ∙ (t ∙ sym (append_nil (reply_tokens y))))).0

-- two optional matches before optional replies
pub call_ends_alone : (m n : Option Matched) (r s : Option Reply) → FitsIf IsMatched m → FitsIf IsMatched n → FitsIf IsReply r → FitsIf IsReply s
    → matched_part m ++ text.reply_part r ≡ matched_part n ++ text.reply_part s → (m ≡ n) × (r ≡ s)
call_ends_alone None None r s h k u v e = (refl, reply_ends_alone r s u v e)
call_ends_alone None (Some y) None s h k u v e = absurd (no_tokens _ _ e)
call_ends_alone None (Some y) (Some z) s h k u v e = absurd (apart _ _ (head_same _ _ _ _ e) refl)
call_ends_alone (Some x) None r None h k u v e = absurd (no_tokens _ _ (sym e))
call_ends_alone (Some x) None r (Some z) h k u v e = absurd (apart _ _ (head_same _ _ _ _ e) refl)
call_ends_alone (Some x) (Some y) r s h k u v e =
    let q = match_sure.alone x y (text.reply_part r) (text.reply_part s) h k (tail_same _ _ _ _ e) in
    (ap (λ (z : Matched). Some z) q.0, reply_ends_alone r s u v q.1)
