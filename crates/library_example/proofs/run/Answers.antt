use Rattle.library_example.proofs.run.Goals as goal

pub returns : goal.returns
returns c =
    record {
      whole = record { setting = _; scripts = _; job = c.in_ok-job.ensures.ok; run = c.in_ok-ran.ensures.registry; closed = c.in_ok-ran.ensures.closed };
    }
