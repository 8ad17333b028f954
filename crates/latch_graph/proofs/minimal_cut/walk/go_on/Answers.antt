-- One reading more.
use Rattle.std.proofs.Common.{◌≡◌, List, Bool, length, get_or, Some, refl, sym, subst, arith, true≢false, ap}
use Rattle.std.specs.Prelude.{slice_get}
use Rattle.std.proofs.lemmas.Option.{slice_get-get_or, slice_get_read}
use Rattle.latch_graph.specs.minimal_cut.graph_components.flat_net.Signal.{Signal}
use Rattle.latch_graph.specs.minimal_cut.Readers.{NodeReads}
use Rattle.latch_graph.specs.declared.minimal_cut.marks.Mark.{Mark}
use Rattle.latch_graph.specs.minimal_cut.Walk.{IsLater, Meets, unseen_count}
use Rattle.latch_graph.proofs.minimal_cut.Marking.{later_refl, later_then}
use Rattle.latch_graph.proofs.minimal_cut.Walks.{met_within, going_begins, going_found, going_more, going_ends}
use Rattle.latch_graph.proofs.minimal_cut.walk.go_on.Goals as goal

pub bounds-nodes-signal : goal.bounds-nodes-signal
bounds-nodes-signal c =
    let here = slice_get_read c.args.met.now.items (length c.args.met.now.items) c.args.at c.index-signal.result.now refl c.requires.at c.index-signal.ensures in
    met_within c.args.nodes.now c.args.root c.args.way c.args.turn c.args.marks.now c.args.met.now.items c.args.at c.args.at c.index-signal.result.now c.requires.walk c.requires.root c.requires.size here

pub meet-requires : goal.meet-requires
meet-requires c =
    let here = slice_get_read c.args.met.now.items (length c.args.met.now.items) c.args.at c.index-signal.result.now refl c.requires.at c.index-signal.ensures in
    let inside = met_within c.args.nodes.now c.args.root c.args.way c.args.turn c.args.marks.now c.args.met.now.items c.args.at c.args.at c.index-signal.result.now c.requires.walk c.requires.root c.requires.size here in
    let node = slice_get_read c.args.nodes.now (length c.args.nodes.now) c.index-signal.result.now c.index-nodes-signal.result refl inside c.index-nodes-signal.is in
    let read = subst (λ (z : List Signal). slice_get z c.loop-k.k ≡ Some (get_or c.as_slice-reads.result.now c.loop-k.k (record { 0 = 0 }))) c.as_slice-reads.ensures (slice_get-get_or c.as_slice-reads.result.now c.loop-k.k (record { 0 = 0 }) c.loop-k-test.true) in
    let l = c.requires.within c.index-signal.result.now c.loop-k.k c.index-nodes-signal.result (get_or c.as_slice-reads.result.now c.loop-k.k (record { 0 = 0 })) node read in
    omega (arith, l, c.requires.size, c.loop-k.auto.marks)

pub loop-k-init : goal.loop-k-init
loop-k-init c =
    let here = slice_get_read c.args.met.now.items (length c.args.met.now.items) c.args.at c.index-signal.result.now refl c.requires.at c.index-signal.ensures in
    record {
      going = going_begins c.args.nodes.now c.args.root c.args.way c.args.turn c.args.marks.now c.args.met.now.items c.args.at c.index-signal.result.now c.as_slice-reads.result.now c.requires.walk here;
      later = later_refl c.args.way c.args.turn c.args.marks.now;
      room = refl;
    }

pub returns-then-found-clause-yes : goal.returns-then-found-clause-yes
returns-then-found-clause-yes c = λ e.
    let here = slice_get_read c.args.met.now.items (length c.args.met.now.items) c.args.at c.index-signal.result.now refl c.requires.at c.index-signal.ensures in
    let inside = met_within c.args.nodes.now c.args.root c.args.way c.args.turn c.args.marks.now c.args.met.now.items c.args.at c.args.at c.index-signal.result.now c.requires.walk c.requires.root c.requires.size here in
    let node = slice_get_read c.args.nodes.now (length c.args.nodes.now) c.index-signal.result.now c.index-nodes-signal.result refl inside c.index-nodes-signal.is in
    let read = subst (λ (z : List Signal). slice_get z c.loop-k.k ≡ Some (get_or c.as_slice-reads.result.now c.loop-k.k (record { 0 = 0 }))) c.as_slice-reads.ensures (slice_get-get_or c.as_slice-reads.result.now c.loop-k.k (record { 0 = 0 }) c.loop-k-test.true) in
    let reads : NodeReads c.args.nodes.now c.index-signal.result.now (get_or c.as_slice-reads.result.now c.loop-k.k (record { 0 = 0 })).0 =
    record { node = c.index-nodes-signal.result; place = c.loop-k.k; signal = get_or c.as_slice-reads.result.now c.loop-k.k (record { 0 = 0 }); here = node; read = read; is = refl } in
    going_found c.args.nodes.now c.args.root c.args.way c.args.turn c.loop-k.marks c.loop-k.met.items c.args.at c.loop-k.k c.index-signal.result.now c.as_slice-reads.result.now c.loop-k.invariant.going
    (get_or c.as_slice-reads.result.now c.loop-k.k (record { 0 = 0 })) reads c.meet.new.marks c.meet.new.met.items
    (subst (λ (z : Bool). Meets c.loop-k.marks c.meet.new.marks c.loop-k.met.items c.meet.new.met.items (get_or c.as_slice-reads.result.now c.loop-k.k (record { 0 = 0 })).0 c.args.way c.args.root c.args.turn z) c.if-found.true c.in_ok-found.ensures)

pub loop-k-preserved : goal.loop-k-preserved
loop-k-preserved c =
    let here = slice_get_read c.args.met.now.items (length c.args.met.now.items) c.args.at c.index-signal.result.now refl c.requires.at c.index-signal.ensures in
    let inside = met_within c.args.nodes.now c.args.root c.args.way c.args.turn c.args.marks.now c.args.met.now.items c.args.at c.args.at c.index-signal.result.now c.requires.walk c.requires.root c.requires.size here in
    let node = slice_get_read c.args.nodes.now (length c.args.nodes.now) c.index-signal.result.now c.index-nodes-signal.result refl inside c.index-nodes-signal.is in
    let at = slice_get-get_or c.as_slice-reads.result.now c.loop-k.k (record { 0 = 0 }) c.loop-k-test.true in
    let read = subst (λ (z : List Signal). slice_get z c.loop-k.k ≡ Some (get_or c.as_slice-reads.result.now c.loop-k.k (record { 0 = 0 }))) c.as_slice-reads.ensures at in
    let reads : NodeReads c.args.nodes.now c.index-signal.result.now (get_or c.as_slice-reads.result.now c.loop-k.k (record { 0 = 0 })).0 =
    record { node = c.index-nodes-signal.result; place = c.loop-k.k; signal = get_or c.as_slice-reads.result.now c.loop-k.k (record { 0 = 0 }); here = node; read = read; is = refl } in
    let more = going_more c.args.nodes.now c.args.root c.args.way c.args.turn c.loop-k.marks c.loop-k.met.items c.args.at c.loop-k.k c.index-signal.result.now c.as_slice-reads.result.now c.loop-k.invariant.going
    (get_or c.as_slice-reads.result.now c.loop-k.k (record { 0 = 0 })) at reads c.meet.new.marks c.meet.new.met.items
    (subst (λ (z : Bool). Meets c.loop-k.marks c.meet.new.marks c.loop-k.met.items c.meet.new.met.items (get_or c.as_slice-reads.result.now c.loop-k.k (record { 0 = 0 })).0 c.args.way c.args.root c.args.turn z) c.if-found.false c.in_ok-found.ensures) in
    record { going = more.going; later = later_then c.args.way c.args.turn c.loop-k.invariant.later more.later_is; room = omega (arith, more.room, c.loop-k.invariant.room) }

pub returns-clause-no : goal.returns-clause-no
returns-clause-no c = λ e.
    let here = slice_get_read c.args.met.now.items (length c.args.met.now.items) c.args.at c.index-signal.result.now refl c.requires.at c.index-signal.ensures in
    let inside = met_within c.args.nodes.now c.args.root c.args.way c.args.turn c.args.marks.now c.args.met.now.items c.args.at c.args.at c.index-signal.result.now c.requires.walk c.requires.root c.requires.size here in
    let node = slice_get_read c.args.nodes.now (length c.args.nodes.now) c.index-signal.result.now c.index-nodes-signal.result refl inside c.index-nodes-signal.is in
    going_ends c.args.nodes.now c.args.root c.args.way c.args.turn c.loop-k.marks c.loop-k.met.items c.args.at c.loop-k.k c.index-signal.result.now c.as_slice-reads.result.now c.loop-k.invariant.going c.index-nodes-signal.result node
    c.as_slice-reads.ensures c.loop-k-test.false

pub returns-then-found-clause-later : goal.returns-then-found-clause-later
returns-then-found-clause-later c =
    let same = subst (λ (b : Bool). Meets c.loop-k.marks c.meet.new.marks c.loop-k.met.items c.meet.new.met.items (get_or c.as_slice-reads.result.now c.loop-k.k (record { 0 = 0 })).0 c.args.way c.args.root c.args.turn b) c.if-found.true c.in_ok-found.ensures in
    subst (λ (z : List Mark). IsLater c.args.way c.args.turn c.args.marks.now z) (sym same.0) c.loop-k.invariant.later

pub returns-then-found-clause-no : goal.returns-then-found-clause-no
returns-then-found-clause-no c = λ e. absurd (true≢false e)

pub returns-then-found-clause-room : goal.returns-then-found-clause-room
returns-then-found-clause-room c =
    let same = subst (λ (b : Bool). Meets c.loop-k.marks c.meet.new.marks c.loop-k.met.items c.meet.new.met.items (get_or c.as_slice-reads.result.now c.loop-k.k (record { 0 = 0 })).0 c.args.way c.args.root c.args.turn b) c.if-found.true c.in_ok-found.ensures in
    omega (arith, ap length same.1, ap (unseen_count c.args.turn) same.0, c.loop-k.invariant.room)

pub returns-clause-yes : goal.returns-clause-yes
returns-clause-yes c = λ e. absurd (true≢false (sym e))

pub returns-clause-room : goal.returns-clause-room
returns-clause-room c = c.loop-k.invariant.room

pub returns-clause-later : goal.returns-clause-later
returns-clause-later c = c.loop-k.invariant.later
