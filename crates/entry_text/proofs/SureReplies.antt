-- Replies and matches: their tokens fit, and tell them.
use Rattle.std.proofs.Common.{◌≡◌, ℕ, ◌≤◌, ◌==◌, Bool, true, false, List, ◌∷◌, ◌++◌, length, drop, Option, Some, None, codes, bytes_eq, decimal, refl, sym, ap, ◌∙◌, arith, lit<}
use Rattle.std.proofs.lemmas.Bool.Decides.{nat_tests}
use Rattle.std.proofs.lemmas.Fmt.{digits_value-decimal}
use Rattle.std.proofs.lemmas.Slice.Eq.{bytes_eq-Decides}
use Rattle.std.specs.Str.Parse.{digits_value}
use Rattle.std.specs.List.{AllByRecursion}
use Rattle.mpi_base.specs.declared.errors.ErrClass.{ErrClass}
use Rattle.mpi_base.specs.declared.groups.Likeness.{Likeness}
use Rattle.mpi_base.specs.declared.groups.Likeness.TheVariants as like
use Rattle.mpi_base.specs.declared.messages.Matched.{Matched}
use Rattle.mpi_base.specs.declared.replies.Reply.{Reply}
use Rattle.mpi_base.specs.declared.replies.Reply.TheVariants.{Fine, Refused, Null, Psets, NthName, Size0, Group, Ranks, Like, Size, Rank, Comm, Received}
use Rattle.token_text.specs.Reading.{IsExact}
use Rattle.token_text.specs.Numbers.{number_form}
use Rattle.token_text.specs.Texts.{pset_name_form, hex_form}
use Rattle.token_text.specs.Lists.{rank_outs_form, members_form}
use Rattle.token_text.proofs.Decimals.{own}
use Rattle.token_text.proofs.Exact.{number_exact, pset_name_exact, hex_exact}
use Rattle.token_text.proofs.ExactLists.{number_apart, rank_outs_exact, members_exact}
use Rattle.entry_text.specs.Labels.{most_16, most_32, most_64, labelled_text, sent_form, own_rank_form}
use Rattle.entry_text.specs.LabelForms.{labelled_form, class_form}
use Rattle.entry_text.specs.Grammar.{Piece, branch, source, sized, source_pieces, bytes_piece, match_pieces, fit}
use Rattle.entry_text.specs.Grammar as row
use Rattle.entry_text.specs.Replies.{like_text, message_tokens, reply_tokens, IsMessage, IsReply, match_tokens, IsMatched}
use Rattle.entry_text.specs.Reading.{reply_part, match_part}
use Rattle.entry_text.specs.declared.words.Word.TheVariants as word
use Rattle.entry_text.proofs.Exact.{labelled_exact, context_exact, same_behind, sent_exact, own_rank_exact, class_exact}
use Rattle.entry_text.proofs.Fit.{IsSolid, IsSure, fit_token, fit_text, fit_word}
use Rattle.entry_text.proofs.Received.{shown_length, zero_text}
use Rattle.entry_text.proofs.Sure.{short_exact, long_exact, head_same, tail_same, apart, token_same}

wide_exact : IsExact (number_form most_32)
wide_exact = number_exact most_32 (lit< tt)

info_exact : IsExact (labelled_form (codes "mpi_size=") most_32)
info_exact = labelled_exact (codes "mpi_size=") most_32 refl (lit< tt)

rank_exact : IsExact (labelled_form (codes "rank=") most_16)
rank_exact = labelled_exact (codes "rank=") most_16 refl (lit< tt)

size_exact : IsExact (labelled_form (codes "size=") most_16)
size_exact = labelled_exact (codes "size=") most_16 refl (lit< tt)

source_exact : IsExact (labelled_form (codes "src=") most_16)
source_exact = labelled_exact (codes "src=") most_16 refl (lit< tt)

tag_exact : IsExact (labelled_form (codes "tag=") most_16)
tag_exact = labelled_exact (codes "tag=") most_16 refl (lit< tt)

len_exact : IsExact (labelled_form (codes "len=") most_64)
len_exact = labelled_exact (codes "len=") most_64 refl (lit< tt)

-- a rank is not written as the null process
rank_not_null : (n : ℕ) → n ≤ most_16 → labelled_text (codes "src=") n ≡ codes "src=null" → ⊥
rank_not_null n h e = number_apart n 110 (codes "ull") (omega (arith, h)) refl (same_behind (codes "src=") (decimal n) (codes "null") e)

null_fits : (ts : List (List ℕ)) (ps : List Piece) → fit (source ∷ ps) (codes "src=null" ∷ ts) ≡ fit (source_pieces None ++ ps) ts
unfolding fit
null_fits ts ps = refl

rank_fits : (n : ℕ) (ts : List (List ℕ)) (ps : List Piece) → n ≤ most_16 → fit (source ∷ ps) (labelled_text (codes "src=") n ∷ ts) ≡ fit (source_pieces (Some n) ++ ps) ts
unfolding fit
rank_fits n ts ps h = go (bytes_eq (labelled_text (codes "src=") n) (codes "src=null")) refl
  where
    go : (b : Bool) → bytes_eq (labelled_text (codes "src=") n) (codes "src=null") ≡ b → fit (source ∷ ps) (labelled_text (codes "src=") n ∷ ts) ≡ fit (source_pieces (Some n) ++ ps) ts
    go true e = absurd (rank_not_null n h ((bytes_eq-Decides (labelled_text (codes "src=") n) (codes "src=null")).0 e))
    go false e = let g = source_exact.own n h in rw (e, g) refl

len_fits : (bs : List ℕ) (ts : List (List ℕ)) (ps : List Piece) → hex_form.Fits bs → fit (sized ∷ ps) (labelled_text (codes "len=") (length bs) ∷ hex_form.text bs ∷ ts) ≡ fit ps ts
unfolding fit
len_fits bs ts ps h =
    let s = h.short in
    let g = len_exact.own (length bs) (omega (arith, s)) in
    let v : digits_value 10 (drop 4 (labelled_text (codes "len=") (length bs))) ≡ length bs = digits_value-decimal own (length bs) (omega (arith, s)) in
    let l = shown_length bs h in
    let o = hex_exact.own bs h in
    let q : (length bs == length bs) ≡ true = grind (arith, nat_tests) in
    rw (g, v, o, l, q) refl

message_own : (o t : Option ℕ) (bs : List ℕ) (ts : List (List ℕ)) (ps : List Piece) → IsMessage o t bs → fit (source ∷ ps) (message_tokens o t bs ++ ts) ≡ fit ps ts
message_own (Some n) (Some t) bs ts ps h = rank_fits n _ ps h.0 ∙ (fit_token (labelled_form (codes "tag=") most_16) tag_exact t _ _ h.1 ∙ len_fits bs ts ps h.2)
message_own None None bs ts ps h = rw (h, zero_text) (null_fits _ ps ∙ (fit_text (codes "tag=any") _ _ refl ∙ (fit_text (codes "len=0") _ _ refl ∙ fit_text (codes "-") ts ps refl)))
message_own (Some n) None bs ts ps h = absurd h
message_own None (Some t) bs ts ps h = absurd h

reply_own : (x : Reply) (ts : List (List ℕ)) (ps : List Piece) → IsReply x → fit (branch row.reply ∷ ps) (reply_tokens x ++ ts) ≡ fit ps ts
reply_own Fine ts ps h = fit_word word.Fine row.reply ts ps
reply_own (Refused c) ts ps h = fit_word word.Err row.reply _ ps ∙ fit_token class_form class_exact c ts ps tt
reply_own Null ts ps h = fit_word word.Null row.reply ts ps
reply_own (Psets n) ts ps h = fit_word word.Psets row.reply _ ps ∙ fit_token (number_form most_32) wide_exact n ts ps h
reply_own (NthName s) ts ps h = fit_word word.Name row.reply _ ps ∙ fit_token pset_name_form pset_name_exact s ts ps h
reply_own (Size0 n) ts ps h = fit_word word.Info row.reply _ ps ∙ fit_token (labelled_form (codes "mpi_size=") most_32) info_exact n ts ps h
reply_own (Group ms) ts ps h = fit_word word.Group row.reply _ ps ∙ fit_token members_form members_exact ms ts ps h
reply_own (Ranks rs) ts ps h = fit_word word.Ranks row.reply _ ps ∙ fit_token rank_outs_form rank_outs_exact rs ts ps h
reply_own (Like like.Ident) ts ps h = fit_word word.Ident row.reply ts ps
reply_own (Like like.Congruent) ts ps h = fit_word word.Congruent row.reply ts ps
reply_own (Like like.Similar) ts ps h = fit_word word.Similar row.reply ts ps
reply_own (Like like.Unequal) ts ps h = fit_word word.Unequal row.reply ts ps
reply_own (Size n) ts ps h = fit_word word.Size row.reply _ ps ∙ fit_token (number_form most_16) short_exact n ts ps h
reply_own (Rank o) ts ps h = fit_word word.Rank row.reply _ ps ∙ fit_token own_rank_form own_rank_exact o ts ps h
reply_own (Comm c r s) ts ps h =
    fit_word word.Comm row.reply _ ps
    ∙ (fit_token (labelled_form (codes "ctx=") most_16) context_exact c _ _ h.0
    ∙ (fit_token (labelled_form (codes "rank=") most_16) rank_exact r _ _ h.1 ∙ fit_token (labelled_form (codes "size=") most_16) size_exact s ts ps h.2))
reply_own (Received o t bs) ts ps h = fit_word word.Received row.reply _ ps ∙ message_own o t bs ts ps h

message_alone : (o p t u : Option ℕ) (bs cs : List ℕ) (r s : List (List ℕ)) → IsMessage o t bs → IsMessage p u cs → message_tokens o t bs ++ r ≡ message_tokens p u cs ++ s → (Received o t bs ≡ Received p u cs) × (r ≡ s)
message_alone (Some m) (Some n) (Some t) (Some u) bs cs r s h k e =
    let a = token_same (labelled_form (codes "src=") most_16) source_exact m n _ _ h.0 k.0 e in
    let b = token_same (labelled_form (codes "tag=") most_16) tag_exact t u _ _ h.1 k.1 a.1 in
    let c = token_same hex_form hex_exact bs cs r s h.2 k.2 (tail_same _ _ _ _ b.1) in
    let a0 = a.0 in
    let b0 = b.0 in
    let c0 = c.0 in
    (rw (a0, b0, c0) refl, c.1)
message_alone None None None None bs cs r s h k e =
    let q = h ∙ sym k in
    (ap (λ (xs : List ℕ). Received None None xs) q, tail_same _ _ _ _ (tail_same _ _ _ _ (tail_same _ _ _ _ (tail_same _ _ _ _ e))))
message_alone (Some m) None (Some t) None bs cs r s h k e = absurd (rank_not_null m h.0 (head_same _ _ _ _ e))
message_alone None (Some n) None (Some u) bs cs r s h k e = absurd (rank_not_null n k.0 (sym (head_same _ _ _ _ e)))
message_alone (Some m) p None u bs cs r s h k e = absurd h
message_alone None p (Some t) u bs cs r s h k e = absurd h
message_alone o (Some n) t None bs cs r s h k e = absurd k
message_alone o None t (Some u) bs cs r s h k e = absurd k

like_alone : (l m : Likeness) → like_text l ≡ like_text m → l ≡ m
like_alone like.Ident like.Ident e = refl
like_alone like.Congruent like.Congruent e = refl
like_alone like.Similar like.Similar e = refl
like_alone like.Unequal like.Unequal e = refl
like_alone l m e = absurd (apart _ _ e refl)

-- a text that is no word for how alike two objects are
like_other : (t : List ℕ) → bytes_eq (codes "ident") t ≡ false → bytes_eq (codes "congruent") t ≡ false → bytes_eq (codes "similar") t ≡ false → bytes_eq (codes "unequal") t ≡ false
    → (l : Likeness) → like_text l ≡ t → ⊥
like_other t i c s u like.Ident e = apart _ _ e i
like_other t i c s u like.Congruent e = apart _ _ e c
like_other t i c s u like.Similar e = apart _ _ e s
like_other t i c s u like.Unequal e = apart _ _ e u

reply_alone : (x y : Reply) (r s : List (List ℕ)) → IsReply x → IsReply y → reply_tokens x ++ r ≡ reply_tokens y ++ s → (x ≡ y) × (r ≡ s)
reply_alone Fine Fine r s h k e = (refl, tail_same _ _ _ _ e)
reply_alone (Refused c) (Refused d) r s h k e = let p = token_same class_form class_exact c d r s tt tt (tail_same _ _ _ _ e) in (ap (λ (z : ErrClass). Refused z) p.0, p.1)
reply_alone Null Null r s h k e = (refl, tail_same _ _ _ _ e)
reply_alone (Psets m) (Psets n) r s h k e = let p = token_same (number_form most_32) wide_exact m n r s h k (tail_same _ _ _ _ e) in (ap (λ (z : ℕ). Psets z) p.0, p.1)
reply_alone (NthName a) (NthName b) r s h k e = let p = token_same pset_name_form pset_name_exact a b r s h k (tail_same _ _ _ _ e) in (ap (λ (z : List ℕ). NthName z) p.0, p.1)
reply_alone (Size0 m) (Size0 n) r s h k e = let p = token_same (labelled_form (codes "mpi_size=") most_32) info_exact m n r s h k (tail_same _ _ _ _ e) in (ap (λ (z : ℕ). Size0 z) p.0, p.1)
reply_alone (Group a) (Group b) r s h k e = let p = token_same members_form members_exact a b r s h k (tail_same _ _ _ _ e) in (ap (λ (z : List ℕ). Group z) p.0, p.1)
reply_alone (Ranks a) (Ranks b) r s h k e = let p = token_same rank_outs_form rank_outs_exact a b r s h k (tail_same _ _ _ _ e) in (ap Ranks p.0, p.1)
reply_alone (Like l) (Like m) r s h k e = (ap (λ (z : Likeness). Like z) (like_alone l m (head_same _ _ _ _ e)), tail_same _ _ _ _ e)
reply_alone (Like l) y r s h k e = absurd (like_other _ refl refl refl refl l (head_same _ _ _ _ e))
reply_alone x (Like m) r s h k e = absurd (like_other _ refl refl refl refl m (sym (head_same _ _ _ _ e)))
reply_alone (Size m) (Size n) r s h k e = let p = token_same (number_form most_16) short_exact m n r s h k (tail_same _ _ _ _ e) in (ap (λ (z : ℕ). Size z) p.0, p.1)
reply_alone (Rank a) (Rank b) r s h k e = let p = token_same own_rank_form own_rank_exact a b r s h k (tail_same _ _ _ _ e) in (ap Rank p.0, p.1)
reply_alone (Comm c i m) (Comm d j n) r s h k e =
    let a = token_same (labelled_form (codes "ctx=") most_16) context_exact c d _ _ h.0 k.0 (tail_same _ _ _ _ e) in
    let b = token_same (labelled_form (codes "rank=") most_16) rank_exact i j _ _ h.1 k.1 a.1 in
    let p = token_same (labelled_form (codes "size=") most_16) size_exact m n r s h.2 k.2 b.1 in
    let a0 = a.0 in
    let b0 = b.0 in
    let p0 = p.0 in
    (rw (a0, b0, p0) refl, p.1)
reply_alone (Received o t bs) (Received p u cs) r s h k e = message_alone o p t u bs cs r s h k (tail_same _ _ _ _ e)
reply_alone x y r s h k e = absurd (apart _ _ (head_same _ _ _ _ e) refl)

message_solid : (o t : Option ℕ) (bs : List ℕ) → IsMessage o t bs → AllByRecursion IsSolid (message_tokens o t bs)
message_solid (Some n) (Some t) bs h =
    let s = h.2.short in
    (source_exact.solid n h.0, (tag_exact.solid t h.1, (len_exact.solid (length bs) (omega (arith, s)), (hex_exact.solid bs h.2, tt))))
message_solid None None bs h = rw (h, zero_text) (refl, (refl, (refl, (refl, tt))))
message_solid (Some n) None bs h = absurd h
message_solid None (Some t) bs h = absurd h

reply_solid : (x : Reply) → IsReply x → AllByRecursion IsSolid (reply_tokens x)
reply_solid Fine h = (refl, tt)
reply_solid (Refused c) h = (refl, (class_exact.solid c tt, tt))
reply_solid Null h = (refl, tt)
reply_solid (Psets n) h = (refl, (wide_exact.solid n h, tt))
reply_solid (NthName s) h = (refl, (pset_name_exact.solid s h, tt))
reply_solid (Size0 n) h = (refl, (info_exact.solid n h, tt))
reply_solid (Group ms) h = (refl, (members_exact.solid ms h, tt))
reply_solid (Ranks rs) h = (refl, (rank_outs_exact.solid rs h, tt))
reply_solid (Like like.Ident) h = (refl, tt)
reply_solid (Like like.Congruent) h = (refl, tt)
reply_solid (Like like.Similar) h = (refl, tt)
reply_solid (Like like.Unequal) h = (refl, tt)
reply_solid (Size n) h = (refl, (short_exact.solid n h, tt))
reply_solid (Rank o) h = (refl, (own_rank_exact.solid o h, tt))
reply_solid (Comm c r s) h = (refl, (context_exact.solid c h.0, (rank_exact.solid r h.1, (size_exact.solid s h.2, tt))))
reply_solid (Received o t bs) h = (refl, message_solid o t bs h)

-- replies
pub reply_sure : IsSure reply_part
reply_sure = record { own = reply_own; alone = reply_alone; solid = reply_solid }

match_own : (m : Matched) (ts : List (List ℕ)) (ps : List Piece) → IsMatched m → fit (match_pieces ++ ps) (match_tokens m ++ ts) ≡ fit ps ts
match_own m ts ps h =
    fit_text (codes "match") _ _ refl
    ∙ (fit_token (number_form most_64) long_exact m.receive _ _ h.0 ∙ fit_token sent_form sent_exact (m.from, m.number) ts ps (h.1, h.2))

match_of : ℕ → ℕ × ℕ → Matched
match_of n p = record { receive = n; from = p.0; number = p.1 }

match_alone : (a b : Matched) (r s : List (List ℕ)) → IsMatched a → IsMatched b → match_tokens a ++ r ≡ match_tokens b ++ s → (a ≡ b) × (r ≡ s)
unfolding match_of
match_alone a b r s h k e =
    let n = token_same (number_form most_64) long_exact a.receive b.receive _ _ h.0 k.0 (tail_same _ _ _ _ e) in
    let p = token_same sent_form sent_exact (a.from, a.number) (b.from, b.number) r s (h.1, h.2) (k.1, k.2) n.1 in
    (ap (λ (i : ℕ). match_of i (a.from, a.number)) n.0 ∙ ap (match_of b.receive) p.0, p.1)

-- matches
pub match_sure : IsSure match_part
match_sure = record {
  own = match_own;
  alone = match_alone;
  solid = λ m h. (refl, (long_exact.solid m.receive h.0, (sent_exact.solid (m.from, m.number) (h.1, h.2), tt)));
}
