use Rattle.std.proofs.Common.{ℕ, sym, subst}
use Rattle.lrat_core.specs.certificate_writer.Hinting.{AreWithin}
use Rattle.lrat_core.specs.certificate_writer.Hinting.{all_known}
use Rattle.lrat_core.proofs.certificate_writer.Trails.{clause_consistent}
use Rattle.lrat_core.proofs.certificate_writer.refutation.put_addition.Goals as goal

pub put_hints-requires-clause-consistent : goal.put_hints-requires-clause-consistent
put_hints-requires-clause-consistent c = clause_consistent c.falsify.new.trail.entries c.args.clause.now c.as_slice.ensures.clause c.in_ok-falsify.ensures.falsified

pub put_hints-requires-clause-within : goal.put_hints-requires-clause-within
put_hints-requires-clause-within c = subst (λ (n : ℕ). AreWithin n (all_known c.args.known.now)) (sym c.in_ok-falsify.ensures.variables) c.requires.clauses
