-- One node more, which is a variable's or not.
use Rattle.std.proofs.Common.{◌+◌, ◌<◌, Bool, false, HashMap, BuildHasherDefault, FoldHasher, ℕ, length, get_or, nat_eq, sym, subst, arith}
use Rattle.std.proofs.lemmas.Option.{slice_get-get_or}
use Rattle.std.specs.HashMap.{get}
use Rattle.pair_decide.specs.Reading.{HasInputBits}
use Rattle.pair_decide.proofs.Read.{one-more, none-more}
use Rattle.pair_decide.proofs.bits.input_bits.Goals as goal
use Rattle.pair_decide.proofs.bits.input_bits.Goals.{in-Input+in_ok-insert, in_default}

pub loop-k-preserved : goal.loop-k-preserved
loop-k-preserved c =
    let g = c.args.aig.now in
    let nodes = c.args.nodes.now in
    let values = c.args.values.now in
    let i = c.loop-k.k in
    let here = slice_get-get_or c.args.nodes.now c.loop-k.k 0 c.loop-k-test.true in
    let inside : c.loop-k.k < length c.args.values.now = omega (arith, c.requires.each, c.loop-k-test.true) in
    let has = slice_get-get_or c.args.values.now c.loop-k.k false inside in
    elim c.match-node.branch [
      | in-Input+in_ok-insert w ↦
          subst (λ (m : HashMap ℕ Bool (BuildHasherDefault FoldHasher)). HasInputBits c.args.aig.now c.args.nodes.now c.args.values.now (get nat_eq m) (c.loop-k.k + 1)) (sym w.found-is)
          (one-more g c.keeps.ensures.graph nodes c.requires.increasing values (get nat_eq c.loop-k.found) (get nat_eq w.insert.new.self) i (get_or c.args.nodes.now c.loop-k.k 0) w.in-Input.v (get_or c.args.values.now c.loop-k.k false)
          here w.in-Input.ensures.node has w.in_ok-insert.ensures.updates.1 (λ q e. w.in_ok-insert.ensures.updates.2 q e) c.loop-k.invariant)
      | in_default w ↦
          subst (λ (m : HashMap ℕ Bool (BuildHasherDefault FoldHasher)). HasInputBits c.args.aig.now c.args.nodes.now c.args.values.now (get nat_eq m) (c.loop-k.k + 1)) (sym w.found-is)
          (none-more g c.keeps.ensures.graph nodes c.requires.increasing values (get nat_eq c.loop-k.found) i (get_or c.args.nodes.now c.loop-k.k 0) c.node.result here c.node.ensures.node (λ v e. w.in_default.not-Input v e) c.loop-k.invariant)
    ]
