use Rattle.std.proofs.Common.{◌≡◌, ◌∙◌, ℕ, List, ◌++◌, ap}
use Rattle.std.proofs.lemmas.Result.{on_ok_weaker}
use Rattle.circuit_theory.specs.Tree.{Tree}
use Rattle.flat_net.specs.View.{NetView}
use Rattle.tree_graph.specs.Rooted.{IsTreeAt}
use Rattle.tree_graph.specs.Walking.{reads_of}
use Rattle.tree_graph.proofs.Places.{tree_within}
use Rattle.tree_graph.proofs.Waiting.{made_visited, met_visited, put_back, known_more}
use Rattle.tree_graph.proofs.walk.visit.Goals as goal

pub returns-in-Some-clause-visited : goal.returns-in-Some-clause-visited
returns-in-Some-clause-visited c =
    let s = c.args.side.now in
    met_visited s.net.now s.order.now c.args.places.now c.keeps-2.ensures.sound c.args.place c.args.aig.now c.args.stack.now.items c.in-Some.field-0.0 (c.requires.known c.args.place c.in-Some.field-0 c.in-Some.ensures.here)

pub are_met-requires-clause-signal : goal.are_met-requires-clause-signal
are_met-requires-clause-signal c = let s = c.args.side.now in tree_within s.net.now s.order.now c.keeps-2.ensures.sound c.args.place c.requires.tree

pub push_reads-requires-clause-signal : goal.push_reads-requires-clause-signal
push_reads-requires-clause-signal c = let s = c.args.side.now in tree_within s.net.now s.order.now c.keeps-2.ensures.sound c.args.place c.requires.tree

pub returns-then-not-are_met-clause-visited : goal.returns-then-not-are_met-clause-visited
returns-then-not-are_met-clause-visited c =
    let s = c.args.side.now in
    let n : NetView = s.net.now in
    on_ok_weaker c.push_reads.result
    (λ (is : c.push_reads.new.stack.items ≡ c.push.new.stack.items ++ reads_of n c.args.place).
    put_back n s.order.now c.args.places.now c.keeps-2.ensures.sound c.args.place c.keeps-4.ensures.once c.args.aig.now c.keeps-3.ensures.graph.once c.args.stack.now.items c.push_reads.new.stack.items
    (is ∙ ap (λ (ps : List (ℕ × ℕ)). ps ++ reads_of n c.args.place) c.in_ok-push.ensures)) c.push_reads.ensures

pub make_place-requires-clause-signal : goal.make_place-requires-clause-signal
make_place-requires-clause-signal c = let s = c.args.side.now in tree_within s.net.now s.order.now c.keeps-2.ensures.sound c.args.place c.requires.tree

pub returns-clause-known : goal.returns-clause-known
returns-clause-known c =
    let s = c.args.side.now in
    let tree : (t : Tree ℕ) × IsTreeAt s.net.now s.order.now c.args.place t = c.requires.tree in
    known_more s.net.now s.order.now c.args.places.now c.keeps-2.ensures.sound c.args.place c.args.aig.now c.make_place.new.aig c.args.memo.now c.put.new.self c.in_ok-lit.lit c.requires.known tree.0 tree.1 (c.in_ok-lit.ensures.made tree.0 tree.1) c.in_ok-lit.ensures.within
    c.in_ok-put.ensures.ok

pub returns-clause-visited : goal.returns-clause-visited
returns-clause-visited c =
    let s = c.args.side.now in
    made_visited s.net.now s.order.now c.args.places.now c.keeps-2.ensures.sound c.args.place c.args.aig.now c.make_place.new.aig c.args.stack.now.items c.in_ok-lit.lit.0 c.in_ok-lit.ensures.made
