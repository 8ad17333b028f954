use Rattle.std.proofs.Common.{◌≡◌, ℕ, slice_get, Some, sym, subst, arith}
use Rattle.std.proofs.lemmas.Option.{slice_get_within, get_or_from_slice_get}
use Rattle.circuit_theory.proofs.Lists.{at_of}
use Rattle.swept_queries.specs.sweep.aig.Node.TheVariants.{Input}
use Rattle.swept_queries.proofs.query.has_all.Goals as goal

pub returns : goal.returns
returns c = λ true n v there at.
    let place = at_of c.args.nodes.now n there in
    let below = slice_get_within c.args.nodes.now place.0 n place.1 in
    c.loop-i.invariant place.0 (omega (arith, below, c.loop-i-test.false)) v
    (subst (λ (m : ℕ). slice_get c.args.aig.now m ≡ Some (Input v)) (sym (get_or_from_slice_get c.args.nodes.now place.0 n 0 place.1)) at)
