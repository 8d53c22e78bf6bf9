use Rattle.std.proofs.Common.{sym, ◌∙◌, ap}
use Rattle.script_text.specs.Reads.{Ahead}
use Rattle.script_text.proofs.Words.{nothing_ahead}
use Rattle.script_text.proofs.reader.Reader.token.Goals as goal

pub returns-then-len-eq0-clause-none : goal.returns-then-len-eq0-clause-none
returns-then-len-eq0-clause-none c =
    ap (λ (a : Ahead). a.tokens) (sym c.self.view_is) ∙ nothing_ahead _ _ _ _ c.blank_len-blank.ensures.part (rw (← c.split_at.ensures.back) c.word_len-len.ensures.part) c.if-len-eq0.true
