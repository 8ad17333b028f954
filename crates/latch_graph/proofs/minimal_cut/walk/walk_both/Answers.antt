-- The two walks from their beginning until they meet, or one ends.
use Rattle.std.proofs.Common.{◌+◌, ◌<◌, ◌≤◌, List, length, sym, subst, arith, true≢false}
use Rattle.latch_graph.specs.declared.minimal_cut.marks.Direction.TheVariants.{Back, Ahead}
use Rattle.std.proofs.lemmas.Option.{slice_get_within}
use Rattle.latch_graph.specs.declared.minimal_cut.marks.Mark.{Mark}
use Rattle.latch_graph.specs.declared.minimal_cut.marks.Mark.TheVariants.{Out}
use Rattle.latch_graph.specs.minimal_cut.Marks.{IsPutBack}
use Rattle.latch_graph.proofs.minimal_cut.Turned.{read_within, reader_within}
use Rattle.latch_graph.proofs.minimal_cut.Marking.{same_out_refl, same_out_then, later_same, later_table, back_put, back_along, met_free, met_stays}
use Rattle.latch_graph.proofs.minimal_cut.Walks.{walks_begin, walks_on, ahead_stays, walk_ends, ahead_ends, back_meets, ahead_meets, walk_other, back_ahead}
use Rattle.latch_graph.proofs.minimal_cut.walk.walk_both.Goals as goal

pub loop-at-init : goal.loop-at-init
loop-at-init c = record {
  walks = walks_begin c.args.nodes.now c.args.readers.now c.args.marks.now c.put_back.new.marks c.args.root c.args.turn c.args.behind.now.items c.args.ahead.now.items c.requires.marks c.requires.root c.put_back.ensures
      c.requires.behind c.requires.ahead;
  same = same_out_refl c.put_back.new.marks;
}

pub returns-then-at-len-clause-no : goal.returns-then-at-len-clause-no
returns-then-at-len-clause-no c = λ e.
    let all : length c.loop-at.ahead.items ≤ c.loop-at.at = omega arith in
    ahead_ends c.args.nodes.now c.args.readers.now c.requires.readers c.args.root c.args.turn c.loop-at.marks c.loop-at.ahead.items c.loop-at.at c.loop-at.invariant.walks.walk_ahead all

pub returns-then-at-len-clause-back : goal.returns-then-at-len-clause-back
returns-then-at-len-clause-back c =
    let back = subst (λ (z : List Mark). IsPutBack c.args.marks.now z c.args.root) (sym c.put_back.ensures) (back_put c.args.marks.now c.args.root c.args.turn c.requires.root) in
    back_along c.args.marks.now c.put_back.new.marks c.loop-at.marks c.args.root back c.loop-at.invariant.same

pub go_on-requires-clause-within : goal.go_on-requires-clause-within
go_on-requires-clause-within c = read_within c.args.nodes.now c.args.readers.now c.requires.readers

pub returns-then-met-clause-yes : goal.returns-then-met-clause-yes
returns-then-met-clause-yes c = λ e.
    back_meets c.args.nodes.now c.args.readers.now c.requires.readers c.args.root c.args.turn c.go_on.new.marks (c.in_ok-met.ensures.yes c.if-met.true) c.loop-at.ahead.items c.loop-at.at
    (ahead_stays c.args.nodes.now c.args.readers.now c.loop-at.marks c.go_on.new.marks c.args.root c.args.turn c.loop-at.behind.items c.loop-at.ahead.items c.go_on.new.met.items c.loop-at.at c.loop-at.invariant.walks c.in_ok-met.ensures.later)

pub returns-then-met-clause-back : goal.returns-then-met-clause-back
returns-then-met-clause-back c =
    let back = subst (λ (z : List Mark). IsPutBack c.args.marks.now z c.args.root) (sym c.put_back.ensures) (back_put c.args.marks.now c.args.root c.args.turn c.requires.root) in
    back_along c.args.marks.now c.put_back.new.marks c.go_on.new.marks c.args.root back (same_out_then c.loop-at.invariant.same (later_same Back c.args.turn c.loop-at.marks c.go_on.new.marks c.in_ok-met.ensures.later))

pub go_on-requires-in-loop-at-clause-within : goal.go_on-requires-in-loop-at-clause-within
go_on-requires-in-loop-at-clause-within c = reader_within c.args.nodes.now c.args.readers.now c.requires.readers

pub go_on-requires-in-loop-at-clause-walk : goal.go_on-requires-in-loop-at-clause-walk
go_on-requires-in-loop-at-clause-walk c =
    ahead_stays c.args.nodes.now c.args.readers.now c.loop-at.marks c.go_on.new.marks c.args.root c.args.turn c.loop-at.behind.items c.loop-at.ahead.items c.go_on.new.met.items c.loop-at.at c.loop-at.invariant.walks c.in_ok-met.ensures.later

pub returns-then-met_ahead-clause-yes : goal.returns-then-met_ahead-clause-yes
returns-then-met_ahead-clause-yes c = λ e.
    ahead_meets c.args.nodes.now c.args.readers.now c.requires.readers c.args.root c.args.turn c.go_on-in-loop-at.new.marks (c.in_ok-met_ahead.ensures.yes c.if-met_ahead.true) c.go_on.new.met.items (c.loop-at.at + 1)
    (walk_other c.args.nodes.now c.args.root Back c.args.turn Ahead back_ahead c.go_on.new.marks c.go_on-in-loop-at.new.marks c.in_ok-met_ahead.ensures.later c.go_on.new.met.items (c.loop-at.at + 1) (c.in_ok-met.ensures.no c.if-met.false))

pub returns-then-met_ahead-clause-back : goal.returns-then-met_ahead-clause-back
returns-then-met_ahead-clause-back c =
    let back = subst (λ (z : List Mark). IsPutBack c.args.marks.now z c.args.root) (sym c.put_back.ensures) (back_put c.args.marks.now c.args.root c.args.turn c.requires.root) in
    back_along c.args.marks.now c.put_back.new.marks c.go_on-in-loop-at.new.marks c.args.root back
    (same_out_then c.loop-at.invariant.same (same_out_then (later_same Back c.args.turn c.loop-at.marks c.go_on.new.marks c.in_ok-met.ensures.later) (later_same Ahead c.args.turn c.go_on.new.marks c.go_on-in-loop-at.new.marks c.in_ok-met_ahead.ensures.later)))

pub loop-at-preserved : goal.loop-at-preserved
loop-at-preserved c = record {
  walks = walks_on c.args.nodes.now c.args.readers.now c.loop-at.marks c.go_on.new.marks c.args.root c.args.turn c.loop-at.behind.items c.loop-at.ahead.items c.go_on.new.met.items c.loop-at.at c.loop-at.invariant.walks c.in_ok-met.ensures.later
      c.go_on-in-loop-at.new.marks c.go_on-in-loop-at.new.met.items c.in_ok-met_ahead.ensures.later (c.in_ok-met.ensures.no c.if-met.false) (c.in_ok-met_ahead.ensures.no c.if-met_ahead.false);
  same = same_out_then c.loop-at.invariant.same (same_out_then (later_same Back c.args.turn c.loop-at.marks c.go_on.new.marks c.in_ok-met.ensures.later) (later_same Ahead c.args.turn c.go_on.new.marks c.go_on-in-loop-at.new.marks c.in_ok-met_ahead.ensures.later));
}

pub returns-clause-no : goal.returns-clause-no
returns-clause-no c = λ e.
    let all : length c.loop-at.behind.items ≤ c.loop-at.at = omega arith in
    walk_ends c.args.nodes.now c.args.root Back c.args.turn c.loop-at.marks c.loop-at.behind.items c.loop-at.at c.loop-at.invariant.walks.walk_back all

pub returns-clause-back : goal.returns-clause-back
returns-clause-back c =
    let back = subst (λ (z : List Mark). IsPutBack c.args.marks.now z c.args.root) (sym c.put_back.ensures) (back_put c.args.marks.now c.args.root c.args.turn c.requires.root) in
    back_along c.args.marks.now c.put_back.new.marks c.loop-at.marks c.args.root back c.loop-at.invariant.same

pub go_on-requires-clause-walk : goal.go_on-requires-clause-walk
go_on-requires-clause-walk c = c.loop-at.invariant.walks.walk_back

pub returns-then-at-len-clause-marks : goal.returns-then-at-len-clause-marks
returns-then-at-len-clause-marks c = c.loop-at.invariant.walks.table

pub returns-then-met-clause-marks : goal.returns-then-met-clause-marks
returns-then-met-clause-marks c = later_table Back c.args.turn c.loop-at.marks c.go_on.new.marks c.in_ok-met.ensures.later c.args.nodes.now c.loop-at.invariant.walks.table

pub returns-then-met_ahead-clause-marks : goal.returns-then-met_ahead-clause-marks
returns-then-met_ahead-clause-marks c =
    later_table Ahead c.args.turn c.go_on.new.marks c.go_on-in-loop-at.new.marks c.in_ok-met_ahead.ensures.later c.args.nodes.now
    (later_table Back c.args.turn c.loop-at.marks c.go_on.new.marks c.in_ok-met.ensures.later c.args.nodes.now c.loop-at.invariant.walks.table)

pub returns-clause-marks : goal.returns-clause-marks
returns-clause-marks c = c.loop-at.invariant.walks.table

pub put_back-requires : goal.put_back-requires
put_back-requires c = slice_get_within c.args.marks.now c.args.root Out c.requires.root

pub go_on-requires-clause-root : goal.go_on-requires-clause-root
go_on-requires-clause-root c = subst (λ n. c.args.root < n) c.requires.marks.size (slice_get_within c.args.marks.now c.args.root Out c.requires.root)

pub go_on-requires-in-loop-at-clause-root : goal.go_on-requires-in-loop-at-clause-root
go_on-requires-in-loop-at-clause-root c =
    let within = slice_get_within c.args.marks.now c.args.root Out c.requires.root in
    subst (λ n. c.args.root < n) (sym c.requires.readers.size) (subst (λ n. c.args.root < n) c.requires.marks.size within)

pub go_on-requires-in-loop-at-clause-free : goal.go_on-requires-in-loop-at-clause-free
go_on-requires-in-loop-at-clause-free c = met_free c.go_on.new.marks c.args.root c.args.turn Back (met_stays Back c.args.turn c.loop-at.marks c.go_on.new.marks c.in_ok-met.ensures.later Back c.args.root c.loop-at.invariant.walks.back)

pub go_on-requires-in-loop-at-clause-size : goal.go_on-requires-in-loop-at-clause-size
go_on-requires-in-loop-at-clause-size c = omega (arith, c.in_ok-met.ensures.later.size, c.loop-at.invariant.walks.table.size, c.requires.readers.size)

pub loop-at-smaller : goal.loop-at-smaller
loop-at-smaller c = omega (arith, c.in_ok-met.ensures.room, c.in_ok-met_ahead.ensures.room, c.loop-at-test.true, c.len.ensures)

pub overflow_add-at : goal.overflow_add-at
overflow_add-at c = omega (arith, c.loop-at-test.true, c.len.type_inv)

pub go_on-requires-in-loop-at-clause-at : goal.go_on-requires-in-loop-at-clause-at
go_on-requires-in-loop-at-clause-at c = omega (arith, c.if-at-len.false, c.len-in-loop-at.ensures)

pub returns-then-at-len-clause-yes : goal.returns-then-at-len-clause-yes
returns-then-at-len-clause-yes c = λ e. absurd (true≢false (sym e))

pub returns-clause-yes : goal.returns-clause-yes
returns-clause-yes c = λ e. absurd (true≢false (sym e))

pub go_on-requires-clause-size : goal.go_on-requires-clause-size
go_on-requires-clause-size c = c.loop-at.invariant.walks.table.size

pub go_on-requires-clause-free : goal.go_on-requires-clause-free
go_on-requires-clause-free c = met_free c.loop-at.marks c.args.root c.args.turn Back c.loop-at.invariant.walks.back

pub go_on-requires-clause-at : goal.go_on-requires-clause-at
go_on-requires-clause-at c = omega (arith, c.loop-at-test.true, c.len.ensures)

pub returns-then-met_ahead-clause-no : goal.returns-then-met_ahead-clause-no
returns-then-met_ahead-clause-no c = λ e. absurd (true≢false e)

pub returns-then-met-clause-no : goal.returns-then-met-clause-no
returns-then-met-clause-no c = λ e. absurd (true≢false e)
