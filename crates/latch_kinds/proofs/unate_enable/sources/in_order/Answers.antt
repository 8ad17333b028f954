-- The numbers are sorted, and each is kept once.
use Rattle.std.proofs.Common.{◌∙◌, eqb}
use Rattle.std.proofs.lemmas.List.Filters.{dedup_is}
use Rattle.latch_kinds.proofs.unate_enable.Among.{in_order_made}
use Rattle.latch_kinds.proofs.unate_enable.sources.in_order.Goals as goal

pub returns : goal.returns
returns c =
    in_order_made c.args.numbers.items c.sort.new.self.items c.from_vec.result c.sort.ensures.permutation c.in_ok-sort.ensures.sorted
    (c.from_vec.ensures ∙ dedup_is eqb c.sort.new.self.items c.dedup.new.self.items c.dedup.ensures.filtered)
