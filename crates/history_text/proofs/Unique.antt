-- Whole entries are read in one way.
use Rattle.std.proofs.Common.{◌≡◌, ℕ, [], ◌∷◌, ◌++◌, Option, Some, None, codes, refl, sym, ap, ◌∙◌}
use Rattle.std.specs.List.{AllByRecursion}
use Rattle.mpi_base.specs.declared.messages.Matched.{Matched}
use Rattle.mpi_base.specs.declared.keys.Key.{Key}
use Rattle.mpi_base.specs.declared.entries.Act.{Act}
use Rattle.mpi_base.specs.declared.entries.Act.TheVariants.{Call, Answer, Deliver, Offer, Settle, Leave, Back}
use Rattle.mpi_base.specs.declared.entries.Brief.{Brief}
use Rattle.mpi_base.specs.declared.entries.Said.{Said}
use Rattle.mpi_base.specs.declared.entries.Said.TheVariants as said
use Rattle.mpi_base.specs.declared.replies.Reply.{Reply}
use Rattle.mpi_base.specs.declared.entries.Entry.{Entry}
use Rattle.token_text.specs.Numbers.{number_form}
use Rattle.token_text.specs.Words.{FitsIf}
use Rattle.script_text.specs.Tokens.{words}
use Rattle.script_text.proofs.Tokens.{texts_in_line}
use Rattle.script_text.proofs.Spelled.{solid_tokens}
use Rattle.entry_text.specs.Labels.{most_8, most_16, most_64}
use Rattle.script_text.specs.Spelling.{tokens_of}
use Rattle.entry_text.specs.Keys.{key_tokens}
use Rattle.entry_text.specs.Briefs.{brief_tokens}
use Rattle.entry_text.specs.Said.{said_tokens, IsOffered}
use Rattle.entry_text.specs.Replies.{IsReply, IsMatched}
use Rattle.entry_text.proofs.Fit.{IsSolid}
use Rattle.entry_text.proofs.Sure.{short_exact, long_exact, head_same, tail_same, apart, token_same, key_sure}
use Rattle.entry_text.proofs.SurePackets.{both, brief_sure, settled_sure}
use Rattle.entry_text.proofs.SureReplies.{reply_sure, match_sure}
use Rattle.history_text.specs.Text.{act_text, behind_act, said_part, matched_part, dropped_part, entry_tokens, entry_text, IsAct, IsThere, HasBrief, HasSaid, HasMatch, HasDropped, HasReply, IsEntry}
use Rattle.history_text.specs.Text as text
use Rattle.history_text.proofs.Operations.{all_exact, op_alone}
use Rattle.history_text.proofs.Whole.{byte_exact, append_nil, rest, reply_ends_alone, call_ends_alone}

offered_alone : (x y : Said) → IsOffered x → IsOffered y → said_tokens x ++ [] ≡ said_tokens y ++ [] → x ≡ y
offered_alone said.Own said.Own h k e = refl
offered_alone said.Zero said.Zero h k e = refl
offered_alone said.Own said.Zero h k e = absurd (apart _ _ (head_same _ _ _ _ e) refl)
offered_alone said.Zero said.Own h k e = absurd (apart _ _ (head_same _ _ _ _ e) refl)
offered_alone said.Own _ h k e = absurd k
offered_alone said.Zero _ h k e = absurd k
offered_alone _ y h k e = absurd h

-- what a step shows tells it and all that belongs to it
step_alone : (a c : Act) (b1 b2 : Option Brief) (s1 s2 : Option Said) (m1 m2 : Option Matched) (d1 d2 : Option ℕ) (r1 r2 : Option Reply)
    → IsAct a → HasBrief a b1 → HasSaid a s1 → HasMatch a m1 → HasDropped a d1 → HasReply a r1
    → IsAct c → HasBrief c b2 → HasSaid c s2 → HasMatch c m2 → HasDropped c d2 → HasReply c r2
    → act_text a ∷ rest a b1 s1 m1 d1 r1 ≡ act_text c ∷ rest c b2 s2 m2 d2 r2
    → (a ≡ c) × (b1 ≡ b2) × (s1 ≡ s2) × (m1 ≡ m2) × (d1 ≡ d2) × (r1 ≡ r2)
step_alone (Call t x) (Call u y) b1 b2 s1 s2 m1 m2 d1 d2 r1 r2 ha hb hs hm hd hr ka kb ks km kd kr = rw (hb, hs, hd, kb, ks, kd) (λ e.
    let n = token_same (number_form most_8) byte_exact t u _ _ ha.0 ka.0 (tail_same _ _ _ _ e) in
    let o = op_alone x y _ _ ha.1 ka.1 n.1 in
    let q = call_ends_alone m1 m2 r1 r2 hm km hr kr o.1 in
    let n0 = n.0 in
    let o0 = o.0 in
    (rw (n0, o0) refl, refl, refl, q.0, refl, q.1))
step_alone (Answer t) (Answer u) b1 b2 s1 s2 m1 m2 d1 d2 None r2 ha hb hs hm hd hr ka kb ks km kd kr = absurd hr
step_alone (Answer t) (Answer u) b1 b2 s1 s2 m1 m2 d1 d2 (Some x) None ha hb hs hm hd hr ka kb ks km kd kr = absurd kr
step_alone (Answer t) (Answer u) b1 b2 s1 s2 m1 m2 d1 d2 (Some x) (Some y) ha hb hs hm hd hr ka kb ks km kd kr = rw (hb, hs, hm, hd, kb, ks, km, kd) (λ e.
    let n = token_same (number_form most_8) byte_exact t u _ _ ha ka (tail_same _ _ _ _ e) in
    let q = reply_ends_alone (Some x) (Some y) hr kr n.1 in
    (ap (λ (i : ℕ). Answer i) n.0, refl, refl, refl, refl, q))
step_alone (Deliver f) (Deliver g) None b2 s1 s2 m1 m2 d1 d2 r1 r2 ha hb hs hm hd hr ka kb ks km kd kr = absurd hb
step_alone (Deliver f) (Deliver g) (Some x) None s1 s2 m1 m2 d1 d2 r1 r2 ha hb hs hm hd hr ka kb ks km kd kr = absurd kb
step_alone (Deliver f) (Deliver g) (Some x) (Some y) s1 s2 m1 m2 d1 d2 r1 r2 ha hb hs hm hd hr ka kb ks km kd kr = rw (hs, hd, hr, ks, kd, kr) (λ e.
    let n = token_same (number_form most_16) short_exact f g _ _ ha ka (tail_same _ _ _ _ e) in
    let p = brief_sure.alone x y _ _ hb kb n.1 in
    let q = call_ends_alone m1 m2 None None hm km tt tt p.1 in
    (ap (λ (i : ℕ). Deliver i) n.0, ap (λ (z : Brief). Some z) p.0, refl, q.0, refl, refl))
step_alone (Offer k) (Offer l) b1 b2 None s2 m1 m2 d1 d2 r1 r2 ha hb hs hm hd hr ka kb ks km kd kr = absurd hs
step_alone (Offer k) (Offer l) b1 b2 (Some x) None m1 m2 d1 d2 r1 r2 ha hb hs hm hd hr ka kb ks km kd kr = absurd ks
step_alone (Offer k) (Offer l) b1 b2 (Some x) (Some y) m1 m2 d1 d2 r1 r2 ha hb hs hm hd hr ka kb ks km kd kr = rw (hb, hm, hd, hr, kb, km, kd, kr) (λ e.
    let p = key_sure.alone k l _ _ ha ka (tail_same _ _ _ _ e) in
    let q = offered_alone x y hs ks (tail_same _ _ _ _ p.1) in
    (ap (λ (z : Key). Offer z) p.0, refl, ap (λ (z : Said). Some z) q, refl, refl, refl))
step_alone (Settle k) (Settle l) b1 b2 None s2 m1 m2 d1 d2 r1 r2 ha hb hs hm hd hr ka kb ks km kd kr = absurd hs
step_alone (Settle k) (Settle l) b1 b2 (Some x) None m1 m2 d1 d2 r1 r2 ha hb hs hm hd hr ka kb ks km kd kr = absurd ks
step_alone (Settle k) (Settle l) b1 b2 (Some x) (Some y) m1 m2 d1 d2 r1 r2 ha hb hs hm hd hr ka kb ks km kd kr =
    let nx = append_nil (codes "#" ∷ said_tokens x) in
    let ny = append_nil (codes "#" ∷ said_tokens y) in
    rw (hb, hm, hd, hr, kb, km, kd, kr, nx, ny) (λ e.
    let t = tail_same _ _ _ _ e in
    let p = settled_sure.alone (k, x) (l, y) [] [] (ha, hs) (ka, ks) (append_nil _ ∙ (t ∙ sym (append_nil _))) in
    (ap (λ (z : Key × Said). Settle z.0) p.0, refl, ap (λ (z : Key × Said). Some z.1) p.0, refl, refl, refl))
step_alone (Leave c) (Leave g) b1 b2 s1 s2 m1 m2 d1 d2 r1 r2 ha hb hs hm hd hr ka kb ks km kd kr = rw (hb, hs, hm, hd, hr, kb, ks, km, kd, kr) (λ e.
    let n = token_same (number_form most_16) short_exact c g _ _ ha ka (tail_same _ _ _ _ e) in
    (ap (λ (i : ℕ). Leave i) n.0, refl, refl, refl, refl, refl))
step_alone (Back c) (Back g) b1 b2 s1 s2 m1 m2 None d2 r1 r2 ha hb hs hm hd hr ka kb ks km kd kr = absurd hd
step_alone (Back c) (Back g) b1 b2 s1 s2 m1 m2 (Some i) None r1 r2 ha hb hs hm hd hr ka kb ks km kd kr = absurd kd
step_alone (Back c) (Back g) b1 b2 s1 s2 m1 m2 (Some i) (Some j) r1 r2 ha hb hs hm hd hr ka kb ks km kd kr = rw (hb, hs, hm, hr, kb, ks, km, kr) (λ e.
    let n = token_same (number_form most_16) short_exact c g _ _ ha ka (tail_same _ _ _ _ e) in
    let q = token_same (number_form most_64) long_exact i j _ _ hd kd (tail_same _ _ _ _ (tail_same _ _ _ _ n.1)) in
    (ap (λ (z : ℕ). Back z) n.0, refl, refl, refl, ap (λ (z : ℕ). Some z) q.0, refl))
step_alone a c b1 b2 s1 s2 m1 m2 d1 d2 r1 r2 ha hb hs hm hd hr ka kb ks km kd kr = λ e. absurd (apart _ _ (head_same _ _ _ _ e) refl)

-- an entry of its parts
entry_of : ℕ → Act → Option Brief → Option Said → Option Matched → Option ℕ → Option Reply → Entry
entry_of k a b s m d r = record { choice = record { rank = k; act = a }; brief = b; said = s; matched = m; dropped = d; reply = r }

entry_is : (e : Entry) → entry_of e.choice.rank e.choice.act e.brief e.said e.matched e.dropped e.reply ≡ e
unfolding entry_of
entry_is e = refl

-- two well-formed entries with the same tokens are one
pub entry_alone : (x y : Entry) → IsEntry x → IsEntry y → entry_tokens x ≡ entry_tokens y → x ≡ y
entry_alone x y h k e =
    let n = token_same (number_form most_16) short_exact x.choice.rank y.choice.rank _ _ h.rank k.rank e in
    let p = step_alone x.choice.act y.choice.act x.brief y.brief x.said y.said x.matched y.matched x.dropped y.dropped x.reply y.reply
    h.act h.brief h.said h.matched h.dropped h.reply k.act k.brief k.said k.matched k.dropped k.reply n.1 in
    let a = n.0 in
    let b = p.0 in
    let c = p.1 in
    let d = p.2 in
    let f = p.3 in
    let g = p.4 in
    let i = p.5 in
    let u = entry_is x in
    let v = entry_is y in
    sym u ∙ (rw (a, b, c, d, f, g, i) v)

-- no token of an entry has a space

offered_solid : (s : Said) → IsOffered s → AllByRecursion IsSolid (said_tokens s)
offered_solid said.Own h = (refl, tt)
offered_solid said.Zero h = (refl, tt)
offered_solid _ h = absurd h

matched_solid : (m : Option Matched) → FitsIf IsMatched m → AllByRecursion IsSolid (matched_part m)
matched_solid None h = tt
matched_solid (Some x) h = (refl, match_sure.solid x h)

replied_solid : (r : Option Reply) → FitsIf IsReply r → AllByRecursion IsSolid (text.reply_part r)
replied_solid None h = tt
replied_solid (Some x) h = (refl, reply_sure.solid x h)

step_solid : (a : Act) (b : Option Brief) (s : Option Said) (m : Option Matched) (d : Option ℕ) (r : Option Reply) → IsAct a → HasBrief a b → HasSaid a s → HasMatch a m → HasDropped a d → HasReply a r
    → AllByRecursion IsSolid (act_text a ∷ rest a b s m d r)
step_solid (Call t op) b s m d r ha hb hs hm hd hr =
    rw (hs, hd) (refl, (byte_exact.solid t ha.0, both (tokens_of op) _ (solid_tokens all_exact op ha.1) (both (matched_part m) _ (matched_solid m hm) (replied_solid r hr))))
step_solid (Answer t) b s m d None ha hb hs hm hd hr = absurd hr
step_solid (Answer t) b s m d (Some x) ha hb hs hm hd hr = rw (hs, hm, hd) (refl, (byte_exact.solid t ha, (refl, reply_sure.solid x hr)))
step_solid (Deliver f) None s m d r ha hb hs hm hd hr = absurd hb
step_solid (Deliver f) (Some x) s m d r ha hb hs hm hd hr = rw (hs, hd, hr) (refl, (short_exact.solid f ha, both (brief_tokens x) _ (brief_sure.solid x hb) (both (matched_part m) [] (matched_solid m hm) tt)))
step_solid (Offer k) b None m d r ha hb hs hm hd hr = absurd hs
step_solid (Offer k) b (Some x) m d r ha hb hs hm hd hr = rw (hm, hd, hr) (refl, both (key_tokens k) (codes "#" ∷ (said_tokens x ++ [])) (key_sure.solid k ha) (refl, both (said_tokens x) [] (offered_solid x hs) tt))
step_solid (Settle k) b None m d r ha hb hs hm hd hr = absurd hs
step_solid (Settle k) b (Some x) m d r ha hb hs hm hd hr =
    let n = append_nil (codes "#" ∷ said_tokens x) in
    rw (hm, hd, hr, n) (refl, settled_sure.solid (k, x) (ha, hs))
step_solid (Leave c) b s m d r ha hb hs hm hd hr = rw (hs, hm, hd, hr) (refl, (short_exact.solid c ha, tt))
step_solid (Back c) b s m None r ha hb hs hm hd hr = absurd hd
step_solid (Back c) b s m (Some n) r ha hb hs hm hd hr = rw (hs, hm, hr) (refl, (short_exact.solid c ha, (refl, (refl, (long_exact.solid n hd, tt)))))

-- the tokens of an entry are those of its line
pub line_again : (e : Entry) → IsEntry e → words (entry_text e) ≡ entry_tokens e
line_again e h = texts_in_line 1 (entry_tokens e) (short_exact.solid e.choice.rank h.rank, step_solid e.choice.act e.brief e.said e.matched e.dropped e.reply h.act h.brief h.said h.matched h.dropped h.reply)

-- two well-formed entries with one text are one
pub one_text : (a b : Entry) → IsEntry a → IsEntry b → entry_text a ≡ entry_text b → a ≡ b
one_text a b h k e = entry_alone a b h k (sym (line_again a h) ∙ (ap words e ∙ line_again b k))
