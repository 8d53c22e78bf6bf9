-- No entry's line has a line feed.
use Rattle.std.proofs.Common.{◌≡◌, ℕ, ◌<◌, ◌^◌, true, false, List, [], ◌∷◌, ◌++◌, map, length, nat_lt, Option, Some, None, codes, decimal, refl, arith, lit<}
use Rattle.std.proofs.lemmas.Bool.Decides.{nat_tests}
use Rattle.std.specs.List.{AllByRecursion, list_all}
use Rattle.mpi_base.specs.MemberLists.{AreRanks}
use Rattle.mpi_base.specs.Classes.{text_of_lem}
use Rattle.mpi_base.specs.declared.errors.ErrClass.{ErrClass}
use Rattle.mpi_base.specs.declared.errors.ErrClass.TheVariants as class
use Rattle.mpi_base.specs.declared.groups.Likeness.TheVariants as like
use Rattle.mpi_base.specs.declared.groups.RankOut.{RankOut}
use Rattle.mpi_base.specs.declared.groups.RankOut.TheVariants as out
use Rattle.mpi_base.specs.declared.keys.Kind.{Kind}
use Rattle.mpi_base.specs.declared.keys.Kind.TheVariants as kind
use Rattle.mpi_base.specs.declared.keys.Key.{Key}
use Rattle.mpi_base.specs.declared.messages.Matched.{Matched}
use Rattle.mpi_base.specs.declared.ops.Op.{Op}
use Rattle.mpi_base.specs.declared.entries.Act.{Act}
use Rattle.mpi_base.specs.declared.entries.Act.TheVariants.{Call, Answer, Deliver, Offer, Settle, Leave, Back}
use Rattle.mpi_base.specs.declared.entries.Said.{Said}
use Rattle.mpi_base.specs.declared.entries.Said.TheVariants as said
use Rattle.mpi_base.specs.declared.entries.Brief.{Brief}
use Rattle.mpi_base.specs.declared.entries.Brief.TheVariants as brief
use Rattle.mpi_base.specs.declared.replies.Reply.{Reply}
use Rattle.mpi_base.specs.declared.replies.Reply.TheVariants.{Fine, Refused, Null, Psets, NthName, Size0, Group, Ranks, Like, Size, Rank, Comm, Received}
use Rattle.mpi_base.specs.declared.entries.Entry.{Entry}
use Rattle.token_text.specs.Words.{FitsIf, rank_out_text, IsRankOut}
use Rattle.token_text.specs.Lists.{members_form}
use Rattle.token_text.proofs.Marks.{lacks, lacks_both}
use Rattle.op_table.proofs.WordFacts.{each_kind}
use Rattle.op_table.specs.Table.{word_text}
use Rattle.script_text.specs.Tokens.{spaced}
use Rattle.script_text.specs.Spelling.{Value, text_of, Fits, kind_of, values_of, tokens_of, IsOp}
use Rattle.entry_text.specs.Labels.{labelled_text, round_text, IsRoundSaid}
use Rattle.entry_text.specs.Keys.{kind_text, behind_kind, key_tokens, IsKey}
use Rattle.entry_text.specs.Said.{said_tokens, IsOffered, IsVerdict, IsSettled}
use Rattle.entry_text.specs.Briefs.{brief_tokens, IsBrief}
use Rattle.entry_text.specs.Replies.{message_tokens, reply_tokens, IsMessage, IsReply, IsMatched}
use Rattle.history_text.specs.Text.{act_text, matched_part, behind_word, entry_tokens, entry_text, IsAct, HasBrief, HasSaid, HasMatch, HasDropped, HasReply, IsEntry}
use Rattle.history_text.specs.Feeds.{has_line_feed}
use Rattle.history_text.specs.Text as text
use Rattle.history_text.proofs.Whole.{rest}
use Rattle.history_text.proofs.Plain.{IsPlain, texts_plain, listed_plain, number_plain, hex_plain, pset_plain, tag_plain, value_plain}

labelled_plain : (label : List ℕ) (n : ℕ) → IsPlain label → n < 2 ^ 64 → IsPlain (labelled_text label n)
labelled_plain label n l h = lacks_both 10 label (decimal n) l (number_plain n h)

small_plain : (n : ℕ) → n < 16 → IsPlain (decimal n)
small_plain n h = number_plain n (omega arith)

small_ranks : (ms : List ℕ) → list_all (λ m. nat_lt m 16) ms ≡ true → AllByRecursion (λ m. m < 16) ms
small_ranks [] h = tt
small_ranks (m ∷ ms) h = (grind (arith, nat_tests, h), small_ranks ms (grind (arith, h)))

members_plain : (ms : List ℕ) → AreRanks ms → IsPlain (members_form.text ms)
members_plain ms h = listed_plain (map decimal ms) (texts_plain decimal (λ m. m < 16) small_plain ms (small_ranks ms h.each))

rank_out_plain : (r : RankOut) → IsRankOut r → IsPlain (rank_out_text r)
rank_out_plain (out.At n) h = number_plain n (omega (arith, h))
rank_out_plain out.Null h = refl
rank_out_plain out.Undefined h = refl

both : (xs ys : List (List ℕ)) → AllByRecursion IsPlain xs → AllByRecursion IsPlain ys → AllByRecursion IsPlain (xs ++ ys)
both [] ys h k = k
both (x ∷ xs) ys h k = (h.0, both xs ys h.1 k)

parent_plain : (k : Key) → IsKey k → AllByRecursion IsPlain (decimal k.parent ∷ decimal k.number ∷ members_form.text k.members ∷ [])
parent_plain k h = let p = h.parent in let n = h.number in (number_plain k.parent (omega (arith, p)), (number_plain k.number (omega (arith, n)), (members_plain k.members h.members, tt)))

kind_plain : (kd : Kind) (k : Key) → IsKey k → AllByRecursion IsPlain (kind_text kd ∷ behind_kind kd k)
kind_plain kind.From k h = (refl, (tag_plain k.tag h.tag.all, (members_plain k.members h.members, tt)))
kind_plain kind.Group k h = (refl, parent_plain k h)
kind_plain kind.Dup k h = (refl, parent_plain k h)
kind_plain kind.Split k h = (refl, parent_plain k h)
kind_plain kind.Share k h = (refl, parent_plain k h)

key_plain : (k : Key) → IsKey k → AllByRecursion IsPlain (key_tokens k)
key_plain k h = kind_plain k.kind k h

verdict_plain : (s : Said) → IsVerdict s → AllByRecursion IsPlain (said_tokens s)
verdict_plain said.Ready h = (refl, tt)
verdict_plain said.Retry h = (refl, tt)
verdict_plain (said.Picked c) h = (refl, (labelled_plain (codes "ctx=") c refl (omega (arith, h)), tt))
verdict_plain said.Exhausted h = (refl, (refl, tt))
verdict_plain _ h = absurd h

settled_plain : (kd : Kind) (s : Said) → IsSettled kd s → AllByRecursion IsPlain (said_tokens s)
settled_plain kind.From s h = verdict_plain s h
settled_plain kind.Group s h = verdict_plain s h
settled_plain kind.Dup s h = verdict_plain s h
settled_plain kind.Split s h = verdict_plain s h
settled_plain kind.Share s h = rw h (refl, tt)

offered_plain : (s : Said) → IsOffered s → AllByRecursion IsPlain (said_tokens s)
offered_plain said.Own h = (refl, tt)
offered_plain said.Zero h = (refl, tt)
offered_plain _ h = absurd h

round_plain : (s : Said) → IsRoundSaid s → IsPlain (round_text s)
round_plain said.Ready h = refl
round_plain said.Retry h = refl
round_plain (said.Picked c) h = labelled_plain (codes "ctx=") c refl (omega (arith, h))
round_plain said.Exhausted h = refl
round_plain _ h = absurd h

brief_plain : (b : Brief) → IsBrief b → AllByRecursion IsPlain (brief_tokens b)
brief_plain (brief.Up i true k) h = let n = h.0 in (refl, (number_plain i (omega (arith, n)), (refl, key_plain k h.1)))
brief_plain (brief.Up i false k) h = let n = h.0 in (refl, (number_plain i (omega (arith, n)), (refl, key_plain k h.1)))
brief_plain (brief.Down i s k) h = let n = h.0 in (refl, (number_plain i (omega (arith, n)), (round_plain s h.1, key_plain k h.2)))
brief_plain (brief.Share k) h = (refl, key_plain k h)
brief_plain (brief.Shares k) h = (refl, key_plain k h)
brief_plain (brief.Msg c l n) h =
    let a = h.0 in
    let b = h.1 in
    let d = h.2 in
    (refl, (labelled_plain (codes "ctx=") c refl (omega (arith, a)), (labelled_plain (codes "lane=") l refl (omega (arith, b)), (labelled_plain (codes "number=") n refl (omega (arith, d)), tt))))
brief_plain (brief.Marker c) h = (refl, (labelled_plain (codes "ctx=") c refl (omega (arith, h)), tt))

message_plain : (o t : Option ℕ) (bs : List ℕ) → IsMessage o t bs → AllByRecursion IsPlain (message_tokens o t bs)
message_plain (Some n) (Some t) [] h =
    let a = h.0 in
    let b = h.1 in
    (labelled_plain (codes "src=") n refl (omega (arith, a)), (labelled_plain (codes "tag=") t refl (omega (arith, b)), (labelled_plain (codes "len=") 0 refl (lit< tt), (refl, tt))))
message_plain (Some n) (Some t) (x ∷ xs) h =
    let a = h.0 in
    let b = h.1 in
    let s = h.2.short in
    (labelled_plain (codes "src=") n refl (omega (arith, a)), (labelled_plain (codes "tag=") t refl (omega (arith, b)), (labelled_plain (codes "len=") (length (x ∷ xs)) refl (omega (arith, s)), (hex_plain (x ∷ xs) h.2.each, tt))))
message_plain None None bs h = rw h (refl, (refl, (labelled_plain (codes "len=") 0 refl (lit< tt), (refl, tt))))
message_plain (Some n) None bs h = absurd h
message_plain None (Some t) bs h = absurd h

class_plain : (c : ErrClass) → IsPlain (text_of_lem c)
class_plain class.Session = refl
class_plain class.Group = refl
class_plain class.Comm = refl
class_plain class.Rank = refl
class_plain class.Tag = refl
class_plain class.Arg = refl
class_plain class.Request = refl
class_plain class.Truncate = refl
class_plain class.Busy = refl
class_plain class.Exhausted = refl

reply_plain : (x : Reply) → IsReply x → AllByRecursion IsPlain (reply_tokens x)
reply_plain Fine h = (refl, tt)
reply_plain (Refused c) h = (refl, (class_plain c, tt))
reply_plain Null h = (refl, tt)
reply_plain (Psets n) h = (refl, (number_plain n (omega (arith, h)), tt))
reply_plain (NthName s) h = (refl, (pset_plain s h.all, tt))
reply_plain (Size0 n) h = (refl, (labelled_plain (codes "mpi_size=") n refl (omega (arith, h)), tt))
reply_plain (Group ms) h = (refl, (members_plain ms h, tt))
reply_plain (Ranks rs) h = (refl, (listed_plain (map rank_out_text rs) (texts_plain rank_out_text IsRankOut rank_out_plain rs h.each), tt))
reply_plain (Like like.Ident) h = (refl, tt)
reply_plain (Like like.Congruent) h = (refl, tt)
reply_plain (Like like.Similar) h = (refl, tt)
reply_plain (Like like.Unequal) h = (refl, tt)
reply_plain (Size n) h = (refl, (number_plain n (omega (arith, h)), tt))
reply_plain (Rank None) h = (refl, (refl, tt))
reply_plain (Rank (Some n)) h = (refl, (number_plain n (omega (arith, h)), tt))
reply_plain (Comm c r s) h =
    let a = h.0 in
    let b = h.1 in
    let d = h.2 in
    (refl, (labelled_plain (codes "ctx=") c refl (omega (arith, a)), (labelled_plain (codes "rank=") r refl (omega (arith, b)), (labelled_plain (codes "size=") s refl (omega (arith, d)), tt))))
reply_plain (Received o t bs) h = (refl, message_plain o t bs h)

replied_plain : (r : Option Reply) → FitsIf IsReply r → AllByRecursion IsPlain (text.reply_part r)
replied_plain None h = tt
replied_plain (Some x) h = (refl, reply_plain x h)

matched_plain : (m : Option Matched) → FitsIf IsMatched m → AllByRecursion IsPlain (matched_part m)
matched_plain None h = tt
matched_plain (Some x) h =
    let a = h.0 in
    let b = h.1 in
    let d = h.2 in
    (refl, (refl, (number_plain x.receive (omega (arith, a)), (lacks_both 10 (decimal x.from) (46 ∷ decimal x.number) (number_plain x.from (omega (arith, b))) (number_plain x.number (omega (arith, d))), tt))))

op_plain : (x : Op) → IsOp x → AllByRecursion IsPlain (tokens_of x)
op_plain x h = (each_kind (λ k. lacks 10 (word_text k)) refl (kind_of x), values (values_of x) h)
  where
    values : (vs : List Value) → AllByRecursion Fits vs → AllByRecursion IsPlain (map text_of vs)
    values [] k = tt
    values (v ∷ vs) k = (value_plain v k.0, values vs k.1)

step_plain : (a : Act) (b : Option Brief) (s : Option Said) (m : Option Matched) (d : Option ℕ) (r : Option Reply) → IsAct a → HasBrief a b → HasSaid a s → HasMatch a m → HasDropped a d → HasReply a r
    → AllByRecursion IsPlain (act_text a ∷ rest a b s m d r)
step_plain (Call t x) b s m d r ha hb hs hm hd hr =
    let n = ha.0 in
    rw (hs, hd) (refl, (number_plain t (omega (arith, n)), both (tokens_of x) _ (op_plain x ha.1) (both (matched_part m) _ (matched_plain m hm) (replied_plain r hr))))
step_plain (Answer t) b s m d None ha hb hs hm hd hr = absurd hr
step_plain (Answer t) b s m d (Some x) ha hb hs hm hd hr = rw (hs, hm, hd) (refl, (number_plain t (omega (arith, ha)), (refl, reply_plain x hr)))
step_plain (Deliver f) None s m d r ha hb hs hm hd hr = absurd hb
step_plain (Deliver f) (Some x) s m d r ha hb hs hm hd hr =
    rw (hs, hd, hr) (refl, (number_plain f (omega (arith, ha)), both (brief_tokens x) _ (brief_plain x hb) (both (matched_part m) [] (matched_plain m hm) tt)))
step_plain (Offer k) b None m d r ha hb hs hm hd hr = absurd hs
step_plain (Offer k) b (Some x) m d r ha hb hs hm hd hr =
    rw (hm, hd, hr) (refl, both (key_tokens k) (codes "#" ∷ (said_tokens x ++ [])) (key_plain k ha) (refl, both (said_tokens x) [] (offered_plain x hs) tt))
step_plain (Settle k) b None m d r ha hb hs hm hd hr = absurd hs
step_plain (Settle k) b (Some x) m d r ha hb hs hm hd hr =
    rw (hm, hd, hr) (refl, both (key_tokens k) (codes "#" ∷ (said_tokens x ++ [])) (key_plain k ha) (refl, both (said_tokens x) [] (settled_plain k.kind x hs) tt))
step_plain (Leave c) b s m d r ha hb hs hm hd hr = rw (hs, hm, hd, hr) (refl, (number_plain c (omega (arith, ha)), tt))
step_plain (Back c) b s m None r ha hb hs hm hd hr = absurd hd
step_plain (Back c) b s m (Some n) r ha hb hs hm hd hr = rw (hs, hm, hr) (refl, (number_plain c (omega (arith, ha)), (refl, (refl, (number_plain n (omega (arith, hd)), tt)))))

spaced_plain : (ts : List (List ℕ)) → AllByRecursion IsPlain ts → IsPlain (spaced ts)
spaced_plain [] h = refl
spaced_plain (t ∷ ts) h = lacks_both 10 t (spaced ts) h.0 (spaced_plain ts h.1)

no_line_feed : (t : List ℕ) → IsPlain t → has_line_feed t ≡ false
no_line_feed [] h = refl
no_line_feed (b ∷ bs) h = let q : lacks 10 bs ≡ true = grind (arith, h) in let ih = no_line_feed bs q in grind (arith, h, ih)

-- the line of an entry is one line
pub one_line : (e : Entry) → IsEntry e → has_line_feed (entry_text e) ≡ false
one_line e h = no_line_feed (entry_text e) (
    let k = h.rank in
    let s = step_plain e.choice.act e.brief e.said e.matched e.dropped e.reply h.act h.brief h.said h.matched h.dropped h.reply in
    lacks_both 10 (decimal e.choice.rank) (spaced (act_text e.choice.act ∷ behind_word e)) (number_plain e.choice.rank (omega (arith, k))) (spaced_plain (act_text e.choice.act ∷ behind_word e) s))
