use Rattle.std.proofs.Common.{◌++◌, ◌∙◌, ap}
use Rattle.std.specs.List.{flat_map}
use Rattle.lrat_core.specs.Logs.{lines_of}
use Rattle.lrat_core.specs.certificate_writer.Texts.{line_text}
use Rattle.lrat_core.proofs.certificate_writer.Accepted.{refutation_accepted}
use Rattle.lrat_core.proofs.certificate_writer.refutation.write_lrat.Goals as goal

pub returns-clause-accepted : goal.returns-clause-accepted
returns-clause-accepted c =
    let cnf = c.args.cnf.now in
    let derived = c.in_ok-derived.derived in
    refutation_accepted cnf c.args.log.now derived c.from_vec.result c.requires.writable c.look_at_all.ensures c.requires.numbers c.requires.refutes c.in_ok-derived.ensures
    (c.from_vec.ensures ∙ (c.in_ok-put_additions.ensures ∙ ap (λ xs. xs ++ flat_map line_text (lines_of cnf.clauses c.args.log.now derived)) c.new-text.ensures.items))
