-- Words that do not stand in a row.
use Rattle.std.proofs.Common.{◌≡◌, ◌≢◌, None, refl}
use Rattle.entry_text.specs.Grammar.{kind_named, owning_row, verdict_row, brief_row, reply_row, call_end_row, match_end_row, reply_end_row, choice_row}
use Rattle.entry_text.specs.declared.words.Word.{Word}
use Rattle.entry_text.specs.declared.words.Word.TheVariants as word

pub no_kind : (w : Word) → w ≢ word.From → w ≢ word.Group → w ≢ word.Dup → w ≢ word.Split → w ≢ word.Share → kind_named w ≡ None
no_kind word.From h0 h1 h2 h3 h4 = absurd (h0 refl)
no_kind word.Group h0 h1 h2 h3 h4 = absurd (h1 refl)
no_kind word.Dup h0 h1 h2 h3 h4 = absurd (h2 refl)
no_kind word.Split h0 h1 h2 h3 h4 = absurd (h3 refl)
no_kind word.Share h0 h1 h2 h3 h4 = absurd (h4 refl)
no_kind _ h0 h1 h2 h3 h4 = refl

pub no_owning : (w : Word) → w ≢ word.Own → w ≢ word.Zero → owning_row w ≡ None
no_owning word.Own h0 h1 = absurd (h0 refl)
no_owning word.Zero h0 h1 = absurd (h1 refl)
no_owning _ h0 h1 = refl

pub no_verdict : (w : Word) → w ≢ word.Ready → w ≢ word.Retry → w ≢ word.Pick → verdict_row w ≡ None
no_verdict word.Ready h0 h1 h2 = absurd (h0 refl)
no_verdict word.Retry h0 h1 h2 = absurd (h1 refl)
no_verdict word.Pick h0 h1 h2 = absurd (h2 refl)
no_verdict _ h0 h1 h2 = refl

pub no_brief : (w : Word) → w ≢ word.Up → w ≢ word.Down → w ≢ word.Share → w ≢ word.Shares → w ≢ word.Msg → w ≢ word.Marker → brief_row w ≡ None
no_brief word.Up h0 h1 h2 h3 h4 h5 = absurd (h0 refl)
no_brief word.Down h0 h1 h2 h3 h4 h5 = absurd (h1 refl)
no_brief word.Share h0 h1 h2 h3 h4 h5 = absurd (h2 refl)
no_brief word.Shares h0 h1 h2 h3 h4 h5 = absurd (h3 refl)
no_brief word.Msg h0 h1 h2 h3 h4 h5 = absurd (h4 refl)
no_brief word.Marker h0 h1 h2 h3 h4 h5 = absurd (h5 refl)
no_brief _ h0 h1 h2 h3 h4 h5 = refl

pub no_reply : (w : Word) → w ≢ word.Fine → w ≢ word.Err → w ≢ word.Null → w ≢ word.Psets → w ≢ word.Name → w ≢ word.Info → w ≢ word.Group → w ≢ word.Ranks → w ≢ word.Ident → w ≢ word.Congruent → w ≢ word.Similar → w ≢ word.Unequal → w ≢ word.Size → w ≢ word.Rank → w ≢ word.Comm → w ≢ word.Received → reply_row w ≡ None
no_reply word.Fine h0 h1 h2 h3 h4 h5 h6 h7 h8 h9 h10 h11 h12 h13 h14 h15 = absurd (h0 refl)
no_reply word.Err h0 h1 h2 h3 h4 h5 h6 h7 h8 h9 h10 h11 h12 h13 h14 h15 = absurd (h1 refl)
no_reply word.Null h0 h1 h2 h3 h4 h5 h6 h7 h8 h9 h10 h11 h12 h13 h14 h15 = absurd (h2 refl)
no_reply word.Psets h0 h1 h2 h3 h4 h5 h6 h7 h8 h9 h10 h11 h12 h13 h14 h15 = absurd (h3 refl)
no_reply word.Name h0 h1 h2 h3 h4 h5 h6 h7 h8 h9 h10 h11 h12 h13 h14 h15 = absurd (h4 refl)
no_reply word.Info h0 h1 h2 h3 h4 h5 h6 h7 h8 h9 h10 h11 h12 h13 h14 h15 = absurd (h5 refl)
no_reply word.Group h0 h1 h2 h3 h4 h5 h6 h7 h8 h9 h10 h11 h12 h13 h14 h15 = absurd (h6 refl)
no_reply word.Ranks h0 h1 h2 h3 h4 h5 h6 h7 h8 h9 h10 h11 h12 h13 h14 h15 = absurd (h7 refl)
no_reply word.Ident h0 h1 h2 h3 h4 h5 h6 h7 h8 h9 h10 h11 h12 h13 h14 h15 = absurd (h8 refl)
no_reply word.Congruent h0 h1 h2 h3 h4 h5 h6 h7 h8 h9 h10 h11 h12 h13 h14 h15 = absurd (h9 refl)
no_reply word.Similar h0 h1 h2 h3 h4 h5 h6 h7 h8 h9 h10 h11 h12 h13 h14 h15 = absurd (h10 refl)
no_reply word.Unequal h0 h1 h2 h3 h4 h5 h6 h7 h8 h9 h10 h11 h12 h13 h14 h15 = absurd (h11 refl)
no_reply word.Size h0 h1 h2 h3 h4 h5 h6 h7 h8 h9 h10 h11 h12 h13 h14 h15 = absurd (h12 refl)
no_reply word.Rank h0 h1 h2 h3 h4 h5 h6 h7 h8 h9 h10 h11 h12 h13 h14 h15 = absurd (h13 refl)
no_reply word.Comm h0 h1 h2 h3 h4 h5 h6 h7 h8 h9 h10 h11 h12 h13 h14 h15 = absurd (h14 refl)
no_reply word.Received h0 h1 h2 h3 h4 h5 h6 h7 h8 h9 h10 h11 h12 h13 h14 h15 = absurd (h15 refl)
no_reply _ h0 h1 h2 h3 h4 h5 h6 h7 h8 h9 h10 h11 h12 h13 h14 h15 = refl

pub no_call_end : (w : Word) → w ≢ word.Mark → w ≢ word.Gives → call_end_row w ≡ None
no_call_end word.Mark h0 h1 = absurd (h0 refl)
no_call_end word.Gives h0 h1 = absurd (h1 refl)
no_call_end _ h0 h1 = refl

pub no_match_end : (w : Word) → w ≢ word.Mark → match_end_row w ≡ None
no_match_end word.Mark h0 = absurd (h0 refl)
no_match_end _ h0 = refl

pub no_reply_end : (w : Word) → w ≢ word.Gives → reply_end_row w ≡ None
no_reply_end word.Gives h0 = absurd (h0 refl)
no_reply_end _ h0 = refl

pub no_choice : (w : Word) → w ≢ word.Call → w ≢ word.Answer → w ≢ word.Deliver → w ≢ word.Offer → w ≢ word.Settle → w ≢ word.Leave → w ≢ word.Back → choice_row w ≡ None
no_choice word.Call h0 h1 h2 h3 h4 h5 h6 = absurd (h0 refl)
no_choice word.Answer h0 h1 h2 h3 h4 h5 h6 = absurd (h1 refl)
no_choice word.Deliver h0 h1 h2 h3 h4 h5 h6 = absurd (h2 refl)
no_choice word.Offer h0 h1 h2 h3 h4 h5 h6 = absurd (h3 refl)
no_choice word.Settle h0 h1 h2 h3 h4 h5 h6 = absurd (h4 refl)
no_choice word.Leave h0 h1 h2 h3 h4 h5 h6 = absurd (h5 refl)
no_choice word.Back h0 h1 h2 h3 h4 h5 h6 = absurd (h6 refl)
no_choice _ h0 h1 h2 h3 h4 h5 h6 = refl
