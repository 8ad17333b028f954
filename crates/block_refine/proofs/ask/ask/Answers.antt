-- By the answer to the query.
use Rattle.std.proofs.Common.{◌<◌, ℕ, Bool, List, length, sym, ap, subst, arith}
use Rattle.std.specs.List.{All}
use Rattle.std.specs.List.Sorted.{IsStrictlyIncreasing}
use Rattle.pair_decide.specs.Queries.{assigned_to}
use Rattle.block_refine.specs.block_graph.Comparing.{AreReadBy}
use Rattle.block_refine.specs.block_graph.Graph.{number_of}
use Rattle.block_refine.proofs.Asking.{one_literal, answer_same, difference, answer_differs, answer_limit}
use Rattle.block_refine.proofs.ask.ask.Goals as goal

pub returns-then-x-y : goal.returns-then-x-y
returns-then-x-y c =
    one_literal c.args.nets.now c.args.i c.args.j (number_of c.next-left.result) (number_of c.next-right.result) c.next-left.ensures.at c.next-right.ensures.at c.args.graph.now c.requires.graph c.keeps.ensures.sound c.keeps-2.ensures.sound c.keeps-3.ensures.graph
    c.lit-x.result c.lit-y.result c.lit-x.ensures c.lit-y.ensures c.if-x-y.true

pub returns-in-Same : goal.returns-in-Same
returns-in-Same c =
    answer_same c.args.nets.now c.args.i c.args.j (number_of c.next-left.result) (number_of c.next-right.result) c.next-left.ensures.at c.next-right.ensures.at c.args.graph.now c.requires.graph c.keeps.ensures.sound c.keeps-2.ensures.sound c.keeps-3.ensures.graph
    c.args.conflicts c.in_ok-compared.compared c.in_ok-compared.ensures _ c.in-Same.is

pub returns-in-Limit : goal.returns-in-Limit
returns-in-Limit c =
    answer_limit c.args.nets.now c.args.i c.args.j (number_of c.next-left.result) (number_of c.next-right.result) c.next-left.ensures.at c.next-right.ensures.at c.args.graph.now c.requires.graph c.keeps.ensures.sound c.keeps-2.ensures.sound c.keeps-3.ensures.graph
    c.args.conflicts c.in_ok-compared.compared c.in_ok-compared.ensures c.in-Limit.proof c.in-Limit.is

pub next_bits-requires-clause-each : goal.next_bits-requires-clause-each
next_bits-requires-clause-each c =
    let asked = c.in_ok-compared.ensures in
    let d = difference c.args.nets.now c.args.i c.args.j (number_of c.next-left.result) (number_of c.next-right.result) c.next-left.ensures.at c.next-right.ensures.at c.args.graph.now c.requires.graph c.keeps.ensures.sound c.keeps-2.ensures.sound
    c.keeps-3.ensures.graph c.args.conflicts c.in_ok-compared.compared asked c.in-Differs.bits c.in-Differs.is in
    let left = ap length c.as_slice.ensures in
    let right = ap length c.as_slice-in-Differs.ensures in
    let vars = ap length asked.vars in
    omega (arith, left, right, vars, d.each)

pub next_bits-requires-clause-increasing : goal.next_bits-requires-clause-increasing
next_bits-requires-clause-increasing c = subst IsStrictlyIncreasing (sym c.as_slice.ensures) c.in_ok-compared.ensures.own.increasing

pub next_bits-requires-clause-below : goal.next_bits-requires-clause-below
next_bits-requires-clause-below c = subst (All (λ k. k < c.args.graph.now.limit)) (sym c.as_slice.ensures) c.in_ok-compared.ensures.own.below

pub returns : goal.returns
returns c =
    let n = c.args.nets.now in
    let g = c.args.graph.now in
    answer_differs n c.args.i c.args.j (number_of c.next-left.result) (number_of c.next-right.result) c.next-left.ensures.at c.next-right.ensures.at g c.requires.graph c.keeps.ensures.sound c.keeps-2.ensures.sound c.keeps-3.ensures.graph c.args.conflicts
    c.in_ok-compared.compared c.in_ok-compared.ensures c.in-Differs.bits c.in_ok-made-in-Differs.made.items c.in-Differs.is
    (λ x read. c.in_ok-made-in-Differs.ensures x
    (subst (λ (vs : List ℕ). AreReadBy n g (assigned_to vs c.as_slice-in-Differs.result.now) x) (sym c.as_slice.ensures)
    (subst (λ (bs : List Bool). AreReadBy n g (assigned_to c.in_ok-compared.compared.vars bs) x) (sym c.as_slice-in-Differs.ensures) read)))
