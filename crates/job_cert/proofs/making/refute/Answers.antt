-- What a search finds, in words of the job.
use Rattle.std.proofs.Common.{refl, subst}
use Rattle.sat_search.specs.Found.{IsFound, assignment_of}
use Rattle.job_cert.proofs.Certified.{writable}
use Rattle.job_cert.proofs.making.refute.Goals as goal

pub write_lrat-requires-clause-writable : goal.write_lrat-requires-clause-writable
write_lrat-requires-clause-writable c = writable c.args.cnf c.requires.small c.requires.few

pub returns-in-Model : goal.returns-in-Model
returns-in-Model c =
    let is = subst (IsFound c.args.cnf.clauses c.args.cnf.variables c.args.conflicts) c.in-Model.is c.in_ok-found.ensures in
    (assignment_of c.in-Model.field-0, is.1)

pub returns-in_ok-text-in-Refuted : goal.returns-in_ok-text-in-Refuted
returns-in_ok-text-in-Refuted c =
    let is = subst (IsFound c.args.cnf.clauses c.args.cnf.variables c.args.conflicts) c.in-Refuted.is c.in_ok-found.ensures in
    record { log = c.in-Refuted.log; few = is.1; lines = c.in_ok-text-in-Refuted.ensures.lines; accepted = c.in_ok-text-in-Refuted.ensures.accepted }

pub returns-in-Limit : goal.returns-in-Limit
returns-in-Limit c = (refl, refl, subst (IsFound c.args.cnf.clauses c.args.cnf.variables c.args.conflicts) c.in-Limit.is c.in_ok-found.ensures)
