use Rattle.std.specs.Prelude.{map, string_bytes}
use Rattle.command_line.specs.Jobs.{job_of}
use Rattle.premise_rows.proofs.one_text_runs.OneTextRuns.{is_answered, ends_equal}
use Rattle.premise_rows.proofs.one_text_runs.run_on_one_text.Goals as goal

pub returns : goal.returns
returns g c can read write =
    let held = g.S.Shelf.held c.args.shelf.now in
    let job = job_of (map (λ w. string_bytes w) c.args.words.now) in
    ends_equal held (g.W.Sink.taken c.args.out.now) (g.W.Sink.taken c.run.new.out) job c.run.result.proofs c.run.result.name c.run.ensures.taken can
    (is_answered held job c.run.result.name can (c.run.ensures.complete read write))
