use Rattle.std.proofs.Common.{◌≡◌, List, ℕ, ap, ◌∙◌, subst}
use Rattle.io_edge.specs.Sink.{TakesFront}
use Rattle.journal_out.proofs.Written.{whole_front, on_err}
use Rattle.journal_summary.specs.declared.counts.Summary.{Summary}
use Rattle.journal_summary.specs.Summaries.{summary_of, summary_text}
use Rattle.journal_summary.proofs.output.write_summary.Goals as goal

pub returns-clause-front : goal.returns-clause-front
returns-clause-front g c =
    let text : c.as_slice.result.now ≡ summary_text (summary_of c.args.entries.now) = c.as_slice.ensures.value ∙ c.line_of-line.ensures.text ∙ ap (λ (s : Summary). summary_text s) c.of.ensures in
    on_err _ (subst (λ (xs : List ℕ). TakesFront (g.K.Sink.written c.args.sink.now) xs (g.K.Sink.written c.finish.new.self)) text (whole_front _ _ _ _ c.in_ok-write_all.ensures.whole c.finish.ensures.bytes))
