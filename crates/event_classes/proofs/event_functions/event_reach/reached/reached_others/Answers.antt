-- The other latches of the latch's cone are begun at the root.
use Rattle.std.proofs.Common.{◌≡◌, ◌∙◌, ◌<◌, ℕ, List, length, slice_get, Some, sym, ap, subst, arith}
use Rattle.std.specs.List.{All, Contains}
use Rattle.event_nodes.specs.flat_net.LatchAt.{LatchAt}
use Rattle.event_nodes.specs.flat_net.Signal.{Signal}
use Rattle.event_nodes.specs.flat_net.View.{NetView}
use Rattle.event_nodes.proofs.flat_net.Nets.{some_at}
use Rattle.signal_graph.specs.inner_cone.latch_cone.Cones.{AreOthers}
use Rattle.event_nodes.specs.Adds.{Adds}
use Rattle.event_nodes.proofs.Growing.{grows_refl}
use Rattle.event_nodes.proofs.Lists.{adds_contains}
use Rattle.event_classes.proofs.event_functions.event_reach.Making.{no_nodes, all_made}
use Rattle.event_classes.proofs.event_functions.event_reach.Reaching.{others_begun, others_roots, reached_all}
use Rattle.event_classes.proofs.event_functions.event_reach.reached.reached_others.Goals as goal

-- the others of the latch, in the circuit's own net
are_others : (n m : NetView) → m ≡ n → (j : ℕ) (others : List Signal) → ((l : LatchAt) → slice_get m.latches j ≡ Some l → AreOthers m l others) → (l : LatchAt) → slice_get n.latches j ≡ Some l → AreOthers n l others
are_others n m same j others are l at = subst (λ (k : NetView). AreOthers k l others) same (are l (ap (λ (k : NetView). slice_get k.latches j) same ∙ at))

pub other_latches-requires : goal.other_latches-requires
other_latches-requires c = subst (λ (n : NetView). c.args.j < length n.latches) (sym c.net-net.ensures) c.requires.latch

pub put_all-requires-clause-few : goal.put_all-requires-clause-few
put_all-requires-clause-few c = omega (arith, ap length c.new-table.ensures)

pub pass_on_all-requires-clause-few : goal.pass_on_all-requires-clause-few
pass_on_all-requires-clause-few c = c.in_ok-put_all.ensures.few

pub pass_on_all-requires-clause-reached : goal.pass_on_all-requires-clause-reached
pass_on_all-requires-clause-reached c =
    let l = some_at c.args.circuit.now.net.latches c.args.j c.requires.latch in (
      record { place = l.0.next.0; left_out = Some l.0.out.0 },
      others_begun c.args.circuit.now c.args.events.now.children c.put_all.new.table c.keeps.ensures.sound l.0 c.in_ok-others.others (are_others _ _ c.net-net.ensures c.args.j c.in_ok-others.others c.in_ok-others.ensures l.0 l.1) c.new-table.result c.new-table.ensures
          (subst (λ (fs : List Signal). Adds (λ (q : ℕ × ℕ). (f : Signal) × Contains fs f × ((0, f.0) ≡ q)) c.new-table.result c.put_all.new.table) c.as_slice.ensures c.put_all.ensures.adds),
    )

pub returns-clause-reached : goal.returns-clause-reached
returns-clause-reached c = λ l at depths.
    let are = are_others _ _ c.net-net.ensures c.args.j c.in_ok-others.others c.in_ok-others.ensures l at in
    let adds = subst (λ (fs : List Signal). Adds (λ (q : ℕ × ℕ). (f : Signal) × Contains fs f × ((0, f.0) ≡ q)) c.new-table.result c.put_all.new.table) c.as_slice.ensures c.put_all.ensures.adds in
    let all = subst (All (λ (f : Signal). Contains c.put_all.new.table (0, f.0))) c.as_slice.ensures c.in_ok-put_all.ensures.all in
    record {
      each = c.in_ok-pass_on_all.ensures.reached (record { place = l.next.0; left_out = Some l.out.0 })
          (others_begun c.args.circuit.now c.args.events.now.children c.put_all.new.table c.keeps.ensures.sound l c.in_ok-others.others are c.new-table.result c.new-table.ensures adds);
      all = reached_all c.args.circuit.now c.pass_on_all.new.events.children c.keeps-2.ensures.events.is_tree (record { place = l.next.0; left_out = Some l.out.0 }) c.pass_on_all.new.table
          (λ v begun. adds_contains (λ (q : ℕ × ℕ). q ≡ q) c.put_all.new.table c.pass_on_all.new.table (0, v) c.pass_on_all.ensures.kept
          (others_roots c.args.circuit.now c.args.events.now.children c.put_all.new.table c.keeps.ensures.sound l c.in_ok-others.others are all v begun))
          (c.in_ok-pass_on_all.ensures.passed depths);
    }

pub returns-clause-nodes : goal.returns-clause-nodes
returns-clause-nodes c = λ l at depths.
    let are = are_others _ _ c.net-net.ensures c.args.j c.in_ok-others.others c.in_ok-others.ensures l at in
    let adds = subst (λ (fs : List Signal). Adds (λ (q : ℕ × ℕ). (f : Signal) × Contains fs f × ((0, f.0) ≡ q)) c.new-table.result c.put_all.new.table) c.as_slice.ensures c.put_all.ensures.adds in
    let all = subst (All (λ (f : Signal). Contains c.put_all.new.table (0, f.0))) c.as_slice.ensures c.in_ok-put_all.ensures.all in
    all_made c.args.circuit.now (record { place = l.next.0; left_out = Some l.out.0 }) c.pass_on_all.new.events.children c.pass_on_all.new.table c.keeps-2.ensures.events.is_tree
    (record {
      each = c.in_ok-pass_on_all.ensures.reached (record { place = l.next.0; left_out = Some l.out.0 })
          (others_begun c.args.circuit.now c.args.events.now.children c.put_all.new.table c.keeps.ensures.sound l c.in_ok-others.others are c.new-table.result c.new-table.ensures adds);
      all = reached_all c.args.circuit.now c.pass_on_all.new.events.children c.keeps-2.ensures.events.is_tree (record { place = l.next.0; left_out = Some l.out.0 }) c.pass_on_all.new.table
          (λ v begun. adds_contains (λ (q : ℕ × ℕ). q ≡ q) c.put_all.new.table c.pass_on_all.new.table (0, v) c.pass_on_all.ensures.kept
          (others_roots c.args.circuit.now c.args.events.now.children c.put_all.new.table c.keeps.ensures.sound l c.in_ok-others.others are all v begun))
          (c.in_ok-pass_on_all.ensures.passed depths);
    }) c.in_ok-pass_on_all.ensures.children

pub returns-in_err-others-clause-made : goal.returns-in_err-others-clause-made
returns-in_err-others-clause-made c = λ l at. no_nodes c.args.circuit.now c.args.events.now.children (record { place = l.next.0; left_out = Some l.out.0 })

pub returns-in_err-put_all-clause-made : goal.returns-in_err-put_all-clause-made
returns-in_err-put_all-clause-made c = λ l at. no_nodes c.args.circuit.now c.args.events.now.children (record { place = l.next.0; left_out = Some l.out.0 })

pub returns-in_err-pass_on_all-clause-made : goal.returns-in_err-pass_on_all-clause-made
returns-in_err-pass_on_all-clause-made c = λ l at.
    let are = are_others _ _ c.net-net.ensures c.args.j c.in_ok-others.others c.in_ok-others.ensures l at in
    let adds = subst (λ (fs : List Signal). Adds (λ (q : ℕ × ℕ). (f : Signal) × Contains fs f × ((0, f.0) ≡ q)) c.new-table.result c.put_all.new.table) c.as_slice.ensures c.put_all.ensures.adds in
    c.pass_on_all.ensures.made (record { place = l.next.0; left_out = Some l.out.0 }) (others_begun c.args.circuit.now c.args.events.now.children c.put_all.new.table c.keeps.ensures.sound l c.in_ok-others.others are c.new-table.result c.new-table.ensures adds)

pub returns-clause-made : goal.returns-clause-made
returns-clause-made c = λ l at.
    let are = are_others _ _ c.net-net.ensures c.args.j c.in_ok-others.others c.in_ok-others.ensures l at in
    let adds = subst (λ (fs : List Signal). Adds (λ (q : ℕ × ℕ). (f : Signal) × Contains fs f × ((0, f.0) ≡ q)) c.new-table.result c.put_all.new.table) c.as_slice.ensures c.put_all.ensures.adds in
    c.pass_on_all.ensures.made (record { place = l.next.0; left_out = Some l.out.0 }) (others_begun c.args.circuit.now c.args.events.now.children c.put_all.new.table c.keeps.ensures.sound l c.in_ok-others.others are c.new-table.result c.new-table.ensures adds)

pub returns-in_err-others-clause-grows : goal.returns-in_err-others-clause-grows
returns-in_err-others-clause-grows c = grows_refl c.args.events.now

pub returns-in_err-put_all-clause-grows : goal.returns-in_err-put_all-clause-grows
returns-in_err-put_all-clause-grows c = grows_refl c.args.events.now

pub returns-in_err-pass_on_all-clause-grows : goal.returns-in_err-pass_on_all-clause-grows
returns-in_err-pass_on_all-clause-grows c = c.pass_on_all.ensures.grows

pub returns-in_err-pass_on_all-clause-same : goal.returns-in_err-pass_on_all-clause-same
returns-in_err-pass_on_all-clause-same c = c.pass_on_all.ensures.same

pub returns-clause-grows : goal.returns-clause-grows
returns-clause-grows c = c.pass_on_all.ensures.grows

pub returns-clause-same : goal.returns-clause-same
returns-clause-same c = c.pass_on_all.ensures.same
