-- Sorted, equal numbers stand side by side.
use Rattle.std.proofs.Common.{eqb}
use Rattle.std.proofs.lemmas.List.Filters.{dedup_is}
use Rattle.event_form.proofs.event_findings.unshown_pairs.Entering.{increasing_is}
use Rattle.event_form.proofs.event_findings.unshown_pairs.classes.increasing.Goals as goal

pub returns : goal.returns
returns c = increasing_is c.args.numbers.items c.sort.new.self.items c.dedup.new.self.items c.sort.ensures.permutation c.in_ok-sort.ensures.sorted (dedup_is eqb c.sort.new.self.items c.dedup.new.self.items c.dedup.ensures.filtered)
