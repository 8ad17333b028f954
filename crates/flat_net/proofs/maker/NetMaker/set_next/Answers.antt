-- There is a bit for each latch.
use Rattle.std.proofs.Common.{◌≡◌, ◌∙◌, true, length, ap, arith}
use Rattle.std.proofs.lemmas.List.{length-set}
use Rattle.flat_net.proofs.NextSet.{length-next_set}
use Rattle.flat_net.proofs.maker.NetMaker.set_next.Goals as goal

pub index_mut-requires : goal.index_mut-requires
index_mut-requires c = omega (arith, c.put_next-j.ensures.within, c.self.invariant, c.self.inside.set.ok.0)

pub invariant_of-self : goal.invariant_of-self
invariant_of-self c =
    let same : length c.put_next-j.new.self.latches ≡ length c.self.inside.net.latches =
    ap (λ n. length n.latches) c.put_next-j.ensures.set ∙ length-next_set c.self.inside.net.latches c.put_next-j.result c.args.next in
    omega (arith, same, c.self.invariant, length-set c.self.inside.set.items c.put_next-j.result true)
