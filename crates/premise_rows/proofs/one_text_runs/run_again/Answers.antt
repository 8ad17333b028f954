use mathlib.Core.Path.{fun_ext}
use Rattle.std.specs.Prelude.{map, string_bytes}
use Rattle.std.proofs.Common.{subst}
use Rattle.std.proofs.lemmas.List.Elements.{All-weaker}
use Rattle.command_line.specs.Jobs.{job_of}
use Rattle.job_base.specs.sec_files.job_files.Reading.{Held}
use Rattle.sec_run.specs.Job.{paths_in}
use Rattle.sec_run.specs.Answer.{IsCutOff}
use Rattle.sec_run.specs.Promises.{IsComplete}
use Rattle.premise_rows.proofs.one_text_runs.run_again.Goals as goal

pub returns-clause-complete : goal.returns-clause-complete
returns-clause-complete g c read write =
    let job = job_of (map (λ w. string_bytes w) c.args.words.now) in
    subst (λ (held : Held). IsComplete held job c.run-2.result.name) (fun_ext c.run.ensures.keeps.0) (c.run-2.ensures.complete read write)

pub returns-clause-served : goal.returns-clause-served
returns-clause-served g c all =
    let job = job_of (map (λ w. string_bytes w) c.args.words.now) in
    c.run-2.ensures.served (All-weaker (g.S.Shelf.serves c.args.shelf.now) (g.S.Shelf.serves c.run.new.shelf) c.run.ensures.keeps.1 (paths_in job) all)

pub returns-clause-accepted : goal.returns-clause-accepted
returns-clause-accepted g c is =
    let job = job_of (map (λ w. string_bytes w) c.args.words.now) in
    subst (λ (held : Held). IsCutOff (g.W.Sink.accepts c.args.again.now) (g.W.Sink.taken c.args.again.now) (g.W.Sink.taken c.run-2.new.out) held job c.run-2.result.proofs) (fun_ext c.run.ensures.keeps.0) (c.run-2.ensures.accepted is)
