-- The function at one place more.
use Rattle.std.proofs.Common.{ℕ, ◌≤◌, List, [], length, refl, sym, subst, arith}
use Rattle.std.proofs.lemmas.List.{take_all}
use Rattle.aig.proofs.Growth.{Grows-refl, Grows-trans}
use Rattle.cbf_unfold.specs.declared.unfold_places.signal_function.Unfolded.{Unfolded}
use Rattle.cbf_unfold.proofs.unfold_places.Lists.{adds_none, adds_trans}
use Rattle.assume_queries.specs.assume_functions.assume_places.Placed.{ArePut}
use Rattle.assume_queries.proofs.assume_functions.assume_places.Placing.{nodes_few, nodes_step, entries_few, entries_step, put_more}
use Rattle.assume_queries.proofs.assume_functions.assume_places.functions.functions_at.Goals as goal

pub loop-n-init : goal.loop-n-init
loop-n-init c = record {
  put = λ net order s is gates. subst (λ (us : List Unfolded). ArePut net order s c.args.aig.now c.args.table.now [] us) (sym c.new-functions.ensures.items) tt;
  grows = Grows-refl c.args.aig.now;
  adds = adds_none (λ p. Unit {0}) c.args.table.now c.args.table.now refl;
  nodes = omega arith;
  entries = omega arith;
}

pub assume_at-requires : goal.assume_at-requires
assume_at-requires c =
    let can = c.requires.own in
    let own = c.args.own.now in
    let count = length c.args.found.now in
    let w = can.function.weighed.weight in
    let early : c.loop-n.n ≤ count = omega (arith, c.loop-n-test.true, c.len-n-end.ensures) in
    let nodes = nodes_few c.loop-n.n count w (length own.aig) (length c.args.aig.now) (length c.loop-n.aig) early can.function.weighed.nodes can.light c.loop-n.invariant.nodes in
    let entries = entries_few c.loop-n.n count w (length own.places) (length c.args.table.now) (length c.loop-n.table) early can.function.weighed.entries can.light c.loop-n.invariant.entries in
    record {
      own = (can.net, can.order, can.output, can.function);
      nodes = omega (arith, nodes, c.requires.nodes);
      entries = omega (arith, entries, c.requires.entries);
    }

pub loop-n-preserved : goal.loop-n-preserved
loop-n-preserved c =
    let own = c.args.own.now in
    let g = c.loop-n.aig in
    let h = c.assume_at.new.aig in
    let table = c.loop-n.table in
    let more = c.assume_at.new.places in
    record {
      put = λ net order s is gates.
          put_more net order s g h table more c.args.found.now c.loop-n.n c.pair-place.result c.loop-n.functions.items c.push.new.self.items c.in_ok-function.function c.keeps-in-loop-n.ensures.graph c.assume_at.ensures.grows c.assume_at.ensures.adds c.pair-place.ensures
          (c.loop-n.invariant.put net order s is gates) (c.in_ok-function.ensures.assumed net order s is gates) c.in_ok-push.ensures.items;
      grows = Grows-trans c.args.aig.now g h c.loop-n.invariant.grows c.assume_at.ensures.grows;
      adds = adds_trans (λ p. Unit {0}) c.args.table.now table more c.loop-n.invariant.adds c.assume_at.ensures.adds;
      nodes = nodes_step c.loop-n.n (length own.aig) (length c.args.aig.now) (length g) (length h) c.loop-n.invariant.nodes c.assume_at.ensures.nodes;
      entries = entries_step c.loop-n.n (length own.places) (length c.args.table.now) (length table) (length more) c.loop-n.invariant.entries c.assume_at.ensures.entries;
    }

pub returns-clause-put : goal.returns-clause-put
returns-clause-put c = λ net order s is gates.
    subst (λ (ps : List (ℕ × ℕ)). ArePut net order s c.loop-n.aig c.loop-n.table ps c.loop-n.functions.items)
    (take_all c.loop-n.n c.args.found.now (let h : length c.args.found.now ≤ c.loop-n.n = omega (arith, c.loop-n-test.false, c.len-n-end.ensures) in h)) (c.loop-n.invariant.put net order s is gates)

pub returns-clause-nodes : goal.returns-clause-nodes
returns-clause-nodes c =
    let can = c.requires.own in
    nodes_few c.loop-n.n (length c.args.found.now) can.function.weighed.weight (length c.args.own.now.aig) (length c.args.aig.now) (length c.loop-n.aig) (omega (arith, c.loop-n.auto.n-end, c.len-n-end.ensures)) can.function.weighed.nodes can.light
    c.loop-n.invariant.nodes

pub returns-clause-entries : goal.returns-clause-entries
returns-clause-entries c =
    let can = c.requires.own in
    entries_few c.loop-n.n (length c.args.found.now) can.function.weighed.weight (length c.args.own.now.places) (length c.args.table.now) (length c.loop-n.table) (omega (arith, c.loop-n.auto.n-end, c.len-n-end.ensures)) can.function.weighed.entries can.light
    c.loop-n.invariant.entries
