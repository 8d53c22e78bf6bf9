-- Parts of an entry's text, joined.
use Rattle.std.proofs.Common.{◌≡◌, ℕ, List, [], ◌∷◌, ◌++◌, decimal, refl, sym, ap, ◌∙◌, append_assoc}
use Rattle.mpi_base.specs.declared.entries.Entry.{Entry}
use Rattle.script_text.specs.Tokens.{spaced}
use Rattle.history_text.specs.Text.{act_text, behind_act, said_part, matched_part, dropped_part, reply_part, entry_text}

-- spaces before the tokens of two lists
spaced-append : (xs ys : List (List ℕ)) → spaced (xs ++ ys) ≡ spaced xs ++ spaced ys
spaced-append [] ys = refl
spaced-append (x ∷ xs) ys = rw (spaced-append xs ys) (ap (λ (r : List ℕ). 32 ∷ r) (sym (append_assoc x (spaced xs) (spaced ys))))

-- an entry's text by its parts
pub text_parts : (e : Entry) → entry_text e ≡ decimal e.choice.rank ++ (spaced (act_text e.choice.act ∷ behind_act e.choice.act e.brief) ++ (spaced (said_part e.said) ++ (spaced (matched_part e.matched) ++ (spaced (dropped_part e.dropped) ++ spaced (reply_part e.reply)))))
text_parts e =
    ap (λ (r : List ℕ). decimal e.choice.rank ++ r) (
    spaced-append (act_text e.choice.act ∷ behind_act e.choice.act e.brief) (said_part e.said ++ (matched_part e.matched ++ (dropped_part e.dropped ++ reply_part e.reply)))
    ∙ ap (λ (r : List ℕ). spaced (act_text e.choice.act ∷ behind_act e.choice.act e.brief) ++ r) (
    spaced-append (said_part e.said) (matched_part e.matched ++ (dropped_part e.dropped ++ reply_part e.reply))
    ∙ ap (λ (r : List ℕ). spaced (said_part e.said) ++ r) (
    spaced-append (matched_part e.matched) (dropped_part e.dropped ++ reply_part e.reply)
    ∙ ap (λ (r : List ℕ). spaced (matched_part e.matched) ++ r) (spaced-append (dropped_part e.dropped) (reply_part e.reply)))))
