-- The signals' literals.
use Rattle.std.proofs.Common.{List, sym, subst}
use Rattle.aig.specs.declared.node.Lit.{Lit}
use Rattle.signal_refine.specs.Showing.{AreLits}
use Rattle.signal_refine.proofs.refinement.correspond.Goals as goal

pub rounds-requires-clause-lits : goal.rounds-requires-clause-lits
rounds-requires-clause-lits c = subst (AreLits c.args.nets.now c.first_latch-first.result c.put_signals.new.base) (sym c.deref.ensures.value) c.in_ok-lits.ensures
