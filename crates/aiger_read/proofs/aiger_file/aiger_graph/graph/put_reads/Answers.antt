use Rattle.std.proofs.Common.{arith, sym, ◌∙◌}
use Rattle.aiger_read.proofs.aiger_file.aiger_graph.ReadLiterals.{well}
use Rattle.aiger_read.proofs.aiger_file.aiger_graph.graph.put_reads.Goals as goal

pub overflow_add-literal : goal.overflow_add-literal
overflow_add-literal c = let low = (well c.args.header.now c.args.found c.requires.good).low c.in-Some.literal (sym c.defined_by.ensures ∙ c.in-Some.is) in omega (arith, low, c.requires.small.greatest)

pub overflow_add-literal-2 : goal.overflow_add-literal-2
overflow_add-literal-2 c = let low = (well c.args.header.now c.args.found c.requires.good).low c.in-Some.literal (sym c.defined_by.ensures ∙ c.in-Some.is) in omega (arith, low, c.requires.small.greatest)

pub overflow_cast-literal : goal.overflow_cast-literal
overflow_cast-literal c = let low = (well c.args.header.now c.args.found c.requires.good).low c.in-Some.literal (sym c.defined_by.ensures ∙ c.in-Some.is) in omega (arith, low, c.requires.small.greatest)

pub bounds-used-literal : goal.bounds-used-literal
bounds-used-literal c = let low = (well c.args.header.now c.args.found c.requires.good).low c.in-Some.literal (sym c.defined_by.ensures ∙ c.in-Some.is) in omega (arith, low, c.requires.marks)

pub index_mut-requires : goal.index_mut-requires
index_mut-requires c = let low = (well c.args.header.now c.args.found c.requires.good).low c.in-Some.literal (sym c.defined_by.ensures ∙ c.in-Some.is) in omega (arith, low, c.requires.size)

pub index_mut-requires-2 : goal.index_mut-requires-2
index_mut-requires-2 c = let low = (well c.args.header.now c.args.found c.requires.good).low c.in-Some.literal (sym c.defined_by.ensures ∙ c.in-Some.is) in omega (arith, low, c.requires.size)
