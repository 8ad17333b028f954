-- All that the walk met is built, so that the root's literal was met.
use Rattle.std.proofs.Common.{◌∙◌, ℕ, List, length, refl, ap, sym, subst, arith, ◌<◌, ◌*◌}
use Rattle.std.proofs.lemmas.Result.{err_from_is_err_and}
use Rattle.event_nodes.specs.View.{EventCircuitView}
use Rattle.event_nodes.specs.Visited.{IsWeighed, places_weight}
use Rattle.event_nodes.proofs.Growing.{grows_refl, grows_trans}
use Rattle.event_nodes.proofs.Lists.{adds_none}
use Rattle.edbf_unfold.specs.event_literals.Known.{EventUnfolderView, unfolder_of}
use Rattle.edbf_unfold.specs.event_literals.event_walk.Ready.{EventWalkerView, frame_beside}
use Rattle.edbf_unfold.specs.event_literals.event_walk.Walk.{IsCounting}
use Rattle.edbf_unfold.proofs.event_literals.Going.{later_within}
use Rattle.edbf_unfold.proofs.event_literals.Rooted.{frame_known, both_framed, both_added, opened_known, root_known, walked_to, unfolded_from, walk_expanded, walk_weighs}
use Rattle.edbf_unfold.proofs.event_literals.event_walk.Rooting.{roots_visited}
use Rattle.edbf_unfold.proofs.event_literals.event_walk.Stepping.{nodes_none, refused_ok, refused_memory, refused_on}
use Rattle.edbf_unfold.proofs.event_literals.builder.EventBuilder.unfold_in.Goals as goal

pub returns-in_err-table-clause-counting : goal.returns-in_err-table-clause-counting
returns-in_err-table-clause-counting c = (
  c.visited.ensures.grows,
  λ x begins.
      subst (λ (e : EventCircuitView). IsCounting e x c.args.events.now.children c.visited.new.events.children c.args.counter.now c.visited.new.counter) (ap (λ (k : EventWalkerView). k.circuit) c.intern-2.ensures.same ∙ (ap (λ (k : EventWalkerView). k.circuit) c.intern.ensures.same ∙ ap (λ (k : EventUnfolderView). k.circuit) c.self.view_is))
      (c.visited.ensures.counting x (roots_visited c.intern-2.new.self.circuit c.intern-2.new.self.frames c.args.events.now.children c.args.frame c.in_ok-root.root c.in_ok-high.high c.args.s.0
      (both_framed _ _ c.args.frame c.beside-put.result c.in_ok-root.root c.in_ok-high.high c.beside-put.ensures c.in_ok-root.ensures.here c.in_ok-high.ensures.grown c.in_ok-high.ensures.here) c.requires.root x begins)),
)

pub build_all-requires-clause-expanded : goal.build_all-requires-clause-expanded
build_all-requires-clause-expanded c = let w = c.in_ok-table.ensures.walked in walk_expanded _ _ _ _ _ _ _ _ _ _ _ w.2 w.4 _ c.as_slice.ensures.value

pub build_all-requires-clause-known : goal.build_all-requires-clause-known
build_all-requires-clause-known c =
    let w = c.in_ok-table.ensures.walked in
    let first = frame_known _ c.args.self.now c.self.view_is c.intern.new.self c.intern.ensures.same c.args.events.now c.args.frame c.in_ok-root.ensures.grown c.requires.known in
    let start : EventUnfolderView = unfolder_of c.intern.new.self c.self.inside.memo in
    opened_known c.intern-2.new.self c.visited.new.self c.self.inside.memo c.args.events.now c.visited.new.events _ w.2.opened c.keeps.ensures.events
    (frame_known start start refl c.intern-2.new.self c.intern-2.ensures.same c.args.events.now _ c.in_ok-high.ensures.grown first)

pub build_all-requires-clause-nodes : goal.build_all-requires-clause-nodes
build_all-requires-clause-nodes c =
    let w = c.in_ok-table.ensures.walked in
    let few = walk_weighs _ _ _ _ _ _ _ _ _ _ _ w.2 w.4 in
    omega (arith, few, ap length w.2.opened.graph, w.3.weighed.small, c.requires.room.has.nodes)

pub build_all-requires-clause-places : goal.build_all-requires-clause-places
build_all-requires-clause-places c =
    let w = c.in_ok-table.ensures.walked in
    let few = walk_weighs _ _ _ _ _ _ _ _ _ _ _ w.2 w.4 in
    omega (arith, few, ap length w.2.opened.places, w.3.weighed.small, c.requires.room.has.places)

pub returns-in_err-build_all-clause-counting : goal.returns-in_err-build_all-clause-counting
returns-in_err-build_all-clause-counting c = (
  grows_trans c.args.events.now c.visited.new.events c.build_all.new.events c.visited.ensures.grows c.build_all.ensures.later.grown.grows,
  λ x begins.
      subst (λ (cs : List (ℕ × ℕ)). IsCounting c.args.self.now.circuit x c.args.events.now.children cs c.args.counter.now c.visited.new.counter) (sym c.build_all.ensures.later.grown.children)
      (subst (λ (e : EventCircuitView). IsCounting e x c.args.events.now.children c.visited.new.events.children c.args.counter.now c.visited.new.counter) (ap (λ (k : EventWalkerView). k.circuit) c.intern-2.ensures.same ∙ (ap (λ (k : EventWalkerView). k.circuit) c.intern.ensures.same ∙ ap (λ (k : EventUnfolderView). k.circuit) c.self.view_is))
      (c.visited.ensures.counting x (roots_visited c.intern-2.new.self.circuit c.intern-2.new.self.frames c.args.events.now.children c.args.frame c.in_ok-root.root c.in_ok-high.high c.args.s.0
      (both_framed _ _ c.args.frame c.beside-put.result c.in_ok-root.root c.in_ok-high.high c.beside-put.ensures c.in_ok-root.ensures.here c.in_ok-high.ensures.grown c.in_ok-high.ensures.here) c.requires.root x begins))),
)

pub met-requires : goal.met-requires
met-requires c = let w = c.in_ok-table.ensures.walked in c.in_ok-build_all.ensures.met (c.in_ok-root.root, c.args.s.0) w.2.begins

pub met-requires-2 : goal.met-requires-2
met-requires-2 c = let w = c.in_ok-table.ensures.walked in c.in_ok-build_all.ensures.met (c.in_ok-high.high, c.args.s.0) w.2.begins_beside

pub returns-clause-refused : goal.returns-clause-refused
returns-clause-refused c = refused_ok _ _ _ _

pub returns-clause-here : goal.returns-clause-here
returns-clause-here c =
    let w = c.in_ok-table.ensures.walked in
    let framed = both_framed _ _ c.args.frame c.beside-put.result c.in_ok-root.root c.in_ok-high.high c.beside-put.ensures c.in_ok-root.ensures.here c.in_ok-high.ensures.grown c.in_ok-high.ensures.here in (
      root_known _ c.visited.new.self c.self.inside.memo c.build_all.new.self c.args.events.now c.visited.new.events c.build_all.new.events _ _ c.in_ok-root.root c.args.s.0 c.args.frame c.met.result framed.0 w.2.opened c.build_all.ensures.later c.build_all.ensures.known c.met.ensures,
      root_known _ c.visited.new.self c.self.inside.memo c.build_all.new.self c.args.events.now c.visited.new.events c.build_all.new.events _ _ c.in_ok-high.high c.args.s.0 (frame_beside c.args.frame) c.met-2.result framed.1 w.2.opened c.build_all.ensures.later c.build_all.ensures.known c.met-2.ensures,
    )

pub returns-clause-walked : goal.returns-clause-walked
returns-clause-walked c =
    let w = c.in_ok-table.ensures.walked in
    let few = walk_weighs _ _ _ _ _ _ _ _ _ _ _ w.2 w.4 in
    let later = later_within (unfolder_of c.visited.new.self c.self.inside.memo) c.build_all.new.self c.visited.new.events c.build_all.new.events _ (5 * c.visited.new.counter.weight) c.build_all.ensures.later few in
    walked_to _ c.visited.new.self c.self.inside.memo c.build_all.new.self c.args.events.now c.visited.new.events c.build_all.new.events c.args.counter.now c.visited.new.counter c.args.frame c.in_ok-root.root c.in_ok-high.high c.args.s.0 c.in_ok-table.table c.in_ok-table.ways.items w.0 w.1 (5 * c.visited.new.counter.weight) (5 * c.visited.new.counter.weight)
    (both_framed _ _ c.args.frame c.beside-put.result c.in_ok-root.root c.in_ok-high.high c.beside-put.ensures c.in_ok-root.ensures.here c.in_ok-high.ensures.grown c.in_ok-high.ensures.here) c.requires.root w.2 w.3 w.4 later c.in_ok-build_all.ensures.met

pub returns-clause-unfolded : goal.returns-clause-unfolded
returns-clause-unfolded c =
    let w = c.in_ok-table.ensures.walked in
    let few = walk_weighs _ _ _ _ _ _ _ _ _ _ _ w.2 w.4 in
    let later = later_within (unfolder_of c.visited.new.self c.self.inside.memo) c.build_all.new.self c.visited.new.events c.build_all.new.events _ (5 * c.visited.new.counter.weight) c.build_all.ensures.later few in (
      unfolded_from _ c.args.self.now c.self.view_is c.intern-2.new.self c.visited.new.self (ap (λ (k : EventWalkerView). k.circuit) c.intern-2.ensures.same ∙ (ap (λ (k : EventWalkerView). k.circuit) c.intern.ensures.same ∙ ap (λ (k : EventUnfolderView). k.circuit) c.self.view_is)) c.build_all.new.self
          c.args.events.now c.visited.new.events c.build_all.new.events (both_added _ _ _ _ _ c.in_ok-root.ensures.grown c.in_ok-high.ensures.grown) w.0 (5 * c.visited.new.counter.weight) w.2.opened (let p = w.2.passed in let s = w.2.small in omega (arith, p, s)) later,
      record {
        weighed = subst (λ (e : EventCircuitView). IsWeighed e.net c.visited.new.counter) (ap (λ (k : EventWalkerView). k.circuit) c.intern-2.ensures.same ∙ (ap (λ (k : EventWalkerView). k.circuit) c.intern.ensures.same ∙ ap (λ (k : EventUnfolderView). k.circuit) c.self.view_is)) w.3.weighed;
        few = omega (arith, ap length c.build_all.ensures.later.grown.children, w.3.few);
        more = w.3.more;
      },
    )

pub returns-clause-counting : goal.returns-clause-counting
returns-clause-counting c = (
  grows_trans c.args.events.now c.visited.new.events c.build_all.new.events c.visited.ensures.grows c.build_all.ensures.later.grown.grows,
  λ x begins.
      subst (λ (cs : List (ℕ × ℕ)). IsCounting c.args.self.now.circuit x c.args.events.now.children cs c.args.counter.now c.visited.new.counter) (sym c.build_all.ensures.later.grown.children)
      (subst (λ (e : EventCircuitView). IsCounting e x c.args.events.now.children c.visited.new.events.children c.args.counter.now c.visited.new.counter) (ap (λ (k : EventWalkerView). k.circuit) c.intern-2.ensures.same ∙ (ap (λ (k : EventWalkerView). k.circuit) c.intern.ensures.same ∙ ap (λ (k : EventUnfolderView). k.circuit) c.self.view_is))
      (c.visited.ensures.counting x (roots_visited c.intern-2.new.self.circuit c.intern-2.new.self.frames c.args.events.now.children c.args.frame c.in_ok-root.root c.in_ok-high.high c.args.s.0
      (both_framed _ _ c.args.frame c.beside-put.result c.in_ok-root.root c.in_ok-high.high c.beside-put.ensures c.in_ok-root.ensures.here c.in_ok-high.ensures.grown c.in_ok-high.ensures.here) c.requires.root x begins))),
)

pub returns-in_err-root-clause-counting : goal.returns-in_err-root-clause-counting
returns-in_err-root-clause-counting c = (
  grows_refl c.args.events.now,
  λ x begins. record {
    more = adds_none (λ (q : ℕ × ℕ). Unit {0}) c.args.events.now.children c.args.events.now.children refl;
    nodes = nodes_none c.args.self.now.circuit c.args.events.now.children x;
    counted = λ starts there all. all;
  },
)

pub returns-in_err-high-clause-counting : goal.returns-in_err-high-clause-counting
returns-in_err-high-clause-counting c = (
  grows_refl c.args.events.now,
  λ x begins. record {
    more = adds_none (λ (q : ℕ × ℕ). Unit {0}) c.args.events.now.children c.args.events.now.children refl;
    nodes = nodes_none c.args.self.now.circuit c.args.events.now.children x;
    counted = λ starts there all. all;
  },
)

pub visited-requires-clause-seen : goal.visited-requires-clause-seen
visited-requires-clause-seen c =
    let circuit = ap (λ (k : EventWalkerView). k.circuit) c.intern-2.ensures.same ∙ (ap (λ (k : EventWalkerView). k.circuit) c.intern.ensures.same ∙ ap (λ (k : EventUnfolderView). k.circuit) c.self.view_is) in
    let framed = both_framed _ _ c.args.frame c.beside-put.result c.in_ok-root.root c.in_ok-high.high c.beside-put.ensures c.in_ok-root.ensures.here c.in_ok-high.ensures.grown c.in_ok-high.ensures.here in
    let inside = subst (λ (e : EventCircuitView). c.args.s.0 < length e.net.drivers) (sym circuit) c.requires.signal in
    ((c.args.frame, framed.0, omega (arith, c.requires.root), inside), (frame_beside c.args.frame, framed.1, omega (arith, c.requires.root), inside))

pub visited-requires-clause-frames : goal.visited-requires-clause-frames
visited-requires-clause-frames c =
    let few = (both_added _ _ _ _ _ c.in_ok-root.ensures.grown c.in_ok-high.ensures.grown).1 in
    omega (arith, few, ap (λ (k : EventUnfolderView). length k.frames) c.self.view_is, c.requires.room.has.frames)

pub visited-requires-clause-weighed : goal.visited-requires-clause-weighed
visited-requires-clause-weighed c =
    let circuit = ap (λ (k : EventWalkerView). k.circuit) c.intern-2.ensures.same ∙ (ap (λ (k : EventWalkerView). k.circuit) c.intern.ensures.same ∙ ap (λ (k : EventUnfolderView). k.circuit) c.self.view_is) in
    subst (λ (e : EventCircuitView). IsWeighed e.net c.args.counter.now) (sym circuit) c.requires.room.weighed

pub returns-in_err-build_all-clause-refused : goal.returns-in_err-build_all-clause-refused
returns-in_err-build_all-clause-refused c =
    let p = err_from_is_err_and c.from_residual-in_err-build_all.result c.from_residual-in_err-build_all.ensures.1 in
    rw (p.1, p.2) (refused_memory c.args.self.now.circuit.net c.build_all.new.events.children c.visited.new.counter.places)

pub returns-in_err-table-clause-refused : goal.returns-in_err-table-clause-refused
returns-in_err-table-clause-refused c =
    let circuit = ap (λ (k : EventWalkerView). k.circuit) c.intern-2.ensures.same ∙ (ap (λ (k : EventWalkerView). k.circuit) c.intern.ensures.same ∙ ap (λ (k : EventUnfolderView). k.circuit) c.self.view_is) in
    let refused = c.in_err-table.ensures.refused in
    let p = err_from_is_err_and c.from_residual-in_err-table.result c.from_residual-in_err-table.ensures.1 in
    rw (p.1, p.2) (refused_on c.args.self.now.circuit.net c.visited.new.events.children c.visited.new.counter.places c.in_err-table.field-0.0 refused.many
    (λ is. subst (λ (e : EventCircuitView). 2000000 < places_weight e.net c.visited.new.counter.places) circuit (refused.large is)))

pub returns-clause-known : goal.returns-clause-known
returns-clause-known c = c.build_all.ensures.known
