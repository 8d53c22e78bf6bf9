use Rattle.std.proofs.Common.{rules, sym, ◌∙◌}
use Rattle.script_text.proofs.Spelled.{line_stops}
use Rattle.script_text.proofs.lines.read_tokens.Goals as goal

pub returns-in_err-op-clause-fault : goal.returns-in_err-op-clause-fault
returns-in_err-op-clause-fault c =
    let stops = line_stops c.args.line.now _ _ c.token.new.self c.in-Some.kind _ (sym c.new-reader.ensures.tokens ∙ c.in_ok-token.ensures.some) c.in-Some.ensures.value (c.in_ok-token.ensures.end ∙ c.new-reader.ensures.end) c.in_err-op.ensures in
    search (rules, stops)
