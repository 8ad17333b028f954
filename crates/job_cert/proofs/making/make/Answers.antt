-- The clauses, or what is found in place of them.
use Rattle.job_cert.proofs.Certified.{writable}
use Rattle.job_cert.proofs.making.make.Goals as goal

pub write_dimacs-requires : goal.write_dimacs-requires
write_dimacs-requires c = writable c.in_ok-cnf.cnf c.in_ok-cnf.ensures.tell.small c.in_ok-cnf.ensures.tell.few
