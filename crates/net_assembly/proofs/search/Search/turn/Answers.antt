use Rattle.std.proofs.Common.{arith, length, ◌-◌}
use Rattle.net_assembly.proofs.Searching.{last_within, turn_leaves, read_fits, turn_enters, turn_looks, turn_closes, way_within}
use Rattle.net_assembly.proofs.search.Search.turn.Goals as goal

pub returns-then-looked-reads-clause-goes_on : goal.returns-then-looked-reads-clause-goes_on
returns-then-looked-reads-clause-goes_on c =
    turn_leaves c.args.graph.now c.args.self.now.marks.items c.args.self.now.way.items c.args.self.now.order.items c.requires.search c.requires.within c.args.last c.looked-looked.result c.index-graph-last.result c.as_slice-reads.result.now c.requires.last c.looked-looked.ensures c.index-graph-last.is c.as_slice-reads.ensures
    c.if-looked-reads.true c.leave.new.self.marks.items c.leave.new.self.way.items c.leave.new.self.order.items c.in_ok-leave.ensures.marks c.in_ok-leave.ensures.way c.in_ok-leave.ensures.order

pub index-requires : goal.index-requires
index-requires c = let l = read_fits c.args.graph.now c.args.self.now.marks.items c.args.self.now.way.items c.args.self.now.order.items c.requires.search c.requires.within c.args.last c.looked-looked.result c.index-graph-last.result c.as_slice-reads.result.now c.requires.last c.looked-looked.ensures c.index-graph-last.is c.as_slice-reads.ensures c.if-looked-reads.false in omega (arith, l, c.args.self.now.marks.ok.0)

pub enter-requires : goal.enter-requires
enter-requires c = read_fits c.args.graph.now c.args.self.now.marks.items c.args.self.now.way.items c.args.self.now.order.items c.requires.search c.requires.within c.args.last c.looked-looked.result c.index-graph-last.result c.as_slice-reads.result.now c.requires.last c.looked-looked.ensures c.index-graph-last.is c.as_slice-reads.ensures c.if-looked-reads.false

pub index_mut-requires : goal.index_mut-requires
index_mut-requires c = let l = last_within c.args.graph.now c.args.self.now.marks.items c.args.self.now.way.items c.args.self.now.order.items c.requires.search c.requires.within c.args.last c.looked-looked.result c.index-graph-last.result c.as_slice-reads.result.now c.requires.last c.looked-looked.ensures c.index-graph-last.is c.as_slice-reads.ensures in omega (arith, l, c.args.self.now.marks.ok.0)

pub returns-in_ok-enter-in-New-clause-goes_on : goal.returns-in_ok-enter-in-New-clause-goes_on
returns-in_ok-enter-in-New-clause-goes_on c =
    turn_enters c.args.graph.now c.args.self.now.marks.items c.args.self.now.way.items c.args.self.now.order.items c.requires.search c.requires.within c.args.last c.looked-looked.result c.index-graph-last.result c.as_slice-reads.result.now c.requires.last c.looked-looked.ensures c.index-graph-last.is c.as_slice-reads.ensures
    c.if-looked-reads.false c.index.result.now c.index.ensures c.in-New.is c.enter.new.self.marks.items c.enter.new.self.way.items c.enter.new.self.order.items
    c.in_ok-enter-in-New.ensures.marks c.in_ok-enter-in-New.ensures.way c.in_ok-enter-in-New.ensures.order

pub returns-in-Entered-clause-closed : goal.returns-in-Entered-clause-closed
returns-in-Entered-clause-closed c =
    turn_closes c.args.graph.now c.args.self.now.marks.items c.args.self.now.way.items c.args.self.now.order.items c.requires.search c.requires.within c.args.last c.looked-looked.result c.index-graph-last.result c.as_slice-reads.result.now c.requires.last c.looked-looked.ensures c.index-graph-last.is c.as_slice-reads.ensures
    c.if-looked-reads.false c.index.result.now c.in-Entered.field-0 c.index.ensures c.in-Entered.is

pub returns-in-Done-clause-goes_on : goal.returns-in-Done-clause-goes_on
returns-in-Done-clause-goes_on c =
    turn_looks c.args.graph.now c.args.self.now.marks.items c.args.self.now.way.items c.args.self.now.order.items c.requires.search c.requires.within c.args.last c.looked-looked.result c.index-graph-last.result c.as_slice-reads.result.now c.requires.last c.looked-looked.ensures c.index-graph-last.is c.as_slice-reads.ensures
    c.if-looked-reads.false c.index.result.now c.index.ensures c.in-Done.is

pub leave-requires : goal.leave-requires
leave-requires c = way_within c.args.graph.now c.args.self.now.marks.items c.args.self.now.way.items c.args.self.now.order.items c.requires.search (length c.args.self.now.way.items - 1) c.args.last c.requires.last

pub bounds-graph-last : goal.bounds-graph-last
bounds-graph-last c =
    let l = way_within c.args.graph.now c.args.self.now.marks.items c.args.self.now.way.items c.args.self.now.order.items c.requires.search (length c.args.self.now.way.items - 1) c.args.last c.requires.last in
    omega (arith, l, c.requires.search.size)

pub looked-looked-requires : goal.looked-looked-requires
looked-looked-requires c = way_within c.args.graph.now c.args.self.now.marks.items c.args.self.now.way.items c.args.self.now.order.items c.requires.search (length c.args.self.now.way.items - 1) c.args.last c.requires.last
