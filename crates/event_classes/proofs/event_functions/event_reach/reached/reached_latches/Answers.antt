-- The latches of the signal's cone are begun at the root.
use Rattle.std.proofs.Common.{◌≡◌, ◌<◌, ℕ, List, length, None, sym, ap, subst, arith}
use Rattle.event_nodes.specs.flat_net.View.{NetView, circuit_of}
use Rattle.circuit_theory.specs.Circuit.{IsLatch}
use Rattle.std.specs.List.{Contains}
use Rattle.signal_graph.specs.inner_cone.latch_cone.Cones.{AreReached}
use Rattle.event_nodes.specs.Adds.{Adds}
use Rattle.event_classes.proofs.event_functions.event_reach.Latches.{IsRootLatch}
use Rattle.event_nodes.proofs.Growing.{grows_refl}
use Rattle.event_nodes.proofs.Lists.{adds_contains}
use Rattle.event_classes.proofs.event_functions.event_reach.Making.{no_nodes, all_made}
use Rattle.event_classes.proofs.event_functions.event_reach.Reaching.{signal_begun, signal_roots, reached_all}
use Rattle.event_classes.proofs.event_functions.event_reach.reached.reached_latches.Goals as goal

pub reached-requires : goal.reached-requires
reached-requires c = subst (λ (n : NetView). c.args.s.0 < length n.drivers) (sym c.net-net.ensures) c.requires.signal

pub put_latches-requires-clause-few : goal.put_latches-requires-clause-few
put_latches-requires-clause-few c = omega (arith, ap length c.new-table.ensures)

pub put_latches-requires-clause-within : goal.put_latches-requires-clause-within
put_latches-requires-clause-within c = c.in_ok-seen.ensures.some.within

pub pass_on_all-requires-clause-few : goal.pass_on_all-requires-clause-few
pass_on_all-requires-clause-few c = c.in_ok-put_latches.ensures.few

pub pass_on_all-requires-clause-reached : goal.pass_on_all-requires-clause-reached
pass_on_all-requires-clause-reached c = (
  record { place = c.args.s.0; left_out = None },
  signal_begun c.args.circuit.now c.args.events.now.children c.put_latches.new.table c.args.s.0 c.in_ok-seen.seen c.new-table.result c.new-table.ensures
      (subst (λ (n : NetView). AreReached n c.args.s.0 c.in_ok-seen.seen) c.net-net.ensures c.in_ok-seen.ensures)
      (subst (λ (n : NetView). Adds (IsRootLatch n c.in_ok-seen.seen) c.new-table.result c.put_latches.new.table) c.net-net.ensures c.put_latches.ensures.adds),
)

pub returns-clause-reached : goal.returns-clause-reached
returns-clause-reached c = λ depths.
    let seen = subst (λ (n : NetView). AreReached n c.args.s.0 c.in_ok-seen.seen) c.net-net.ensures c.in_ok-seen.ensures in
    let adds = subst (λ (n : NetView). Adds (IsRootLatch n c.in_ok-seen.seen) c.new-table.result c.put_latches.new.table) c.net-net.ensures c.put_latches.ensures.adds in
    let all = subst (λ (n : NetView). (v : ℕ) (name : List ℕ) (next : ℕ) → Contains c.in_ok-seen.seen v → IsLatch (circuit_of n) name v next → Contains c.put_latches.new.table (0, v)) c.net-net.ensures c.in_ok-put_latches.ensures.all in
    record {
      each = c.in_ok-pass_on_all.ensures.reached (record { place = c.args.s.0; left_out = None })
          (signal_begun c.args.circuit.now c.args.events.now.children c.put_latches.new.table c.args.s.0 c.in_ok-seen.seen c.new-table.result c.new-table.ensures seen adds);
      all = reached_all c.args.circuit.now c.pass_on_all.new.events.children c.keeps-2.ensures.events.is_tree (record { place = c.args.s.0; left_out = None }) c.pass_on_all.new.table
          (λ v begun. adds_contains (λ (q : ℕ × ℕ). q ≡ q) c.put_latches.new.table c.pass_on_all.new.table (0, v) c.pass_on_all.ensures.kept
          (signal_roots c.args.circuit.now c.args.events.now.children c.put_latches.new.table c.args.s.0 c.in_ok-seen.seen seen all v begun))
          (c.in_ok-pass_on_all.ensures.passed depths);
    }

pub returns-clause-nodes : goal.returns-clause-nodes
returns-clause-nodes c = λ depths.
    let seen = subst (λ (n : NetView). AreReached n c.args.s.0 c.in_ok-seen.seen) c.net-net.ensures c.in_ok-seen.ensures in
    let adds = subst (λ (n : NetView). Adds (IsRootLatch n c.in_ok-seen.seen) c.new-table.result c.put_latches.new.table) c.net-net.ensures c.put_latches.ensures.adds in
    let all = subst (λ (n : NetView). (v : ℕ) (name : List ℕ) (next : ℕ) → Contains c.in_ok-seen.seen v → IsLatch (circuit_of n) name v next → Contains c.put_latches.new.table (0, v)) c.net-net.ensures c.in_ok-put_latches.ensures.all in
    all_made c.args.circuit.now (record { place = c.args.s.0; left_out = None }) c.pass_on_all.new.events.children c.pass_on_all.new.table c.keeps-2.ensures.events.is_tree
    (record {
      each = c.in_ok-pass_on_all.ensures.reached (record { place = c.args.s.0; left_out = None })
          (signal_begun c.args.circuit.now c.args.events.now.children c.put_latches.new.table c.args.s.0 c.in_ok-seen.seen c.new-table.result c.new-table.ensures seen adds);
      all = reached_all c.args.circuit.now c.pass_on_all.new.events.children c.keeps-2.ensures.events.is_tree (record { place = c.args.s.0; left_out = None }) c.pass_on_all.new.table
          (λ v begun. adds_contains (λ (q : ℕ × ℕ). q ≡ q) c.put_latches.new.table c.pass_on_all.new.table (0, v) c.pass_on_all.ensures.kept
          (signal_roots c.args.circuit.now c.args.events.now.children c.put_latches.new.table c.args.s.0 c.in_ok-seen.seen seen all v begun))
          (c.in_ok-pass_on_all.ensures.passed depths);
    }) c.in_ok-pass_on_all.ensures.children

pub returns-in_err-seen-clause-made : goal.returns-in_err-seen-clause-made
returns-in_err-seen-clause-made c = no_nodes c.args.circuit.now c.args.events.now.children (record { place = c.args.s.0; left_out = None })

pub returns-in_err-put_latches-clause-made : goal.returns-in_err-put_latches-clause-made
returns-in_err-put_latches-clause-made c = no_nodes c.args.circuit.now c.args.events.now.children (record { place = c.args.s.0; left_out = None })

pub returns-in_err-pass_on_all-clause-made : goal.returns-in_err-pass_on_all-clause-made
returns-in_err-pass_on_all-clause-made c =
    let seen = subst (λ (n : NetView). AreReached n c.args.s.0 c.in_ok-seen.seen) c.net-net.ensures c.in_ok-seen.ensures in
    let adds = subst (λ (n : NetView). Adds (IsRootLatch n c.in_ok-seen.seen) c.new-table.result c.put_latches.new.table) c.net-net.ensures c.put_latches.ensures.adds in
    c.pass_on_all.ensures.made (record { place = c.args.s.0; left_out = None }) (signal_begun c.args.circuit.now c.args.events.now.children c.put_latches.new.table c.args.s.0 c.in_ok-seen.seen c.new-table.result c.new-table.ensures seen adds)

pub returns-clause-made : goal.returns-clause-made
returns-clause-made c =
    let seen = subst (λ (n : NetView). AreReached n c.args.s.0 c.in_ok-seen.seen) c.net-net.ensures c.in_ok-seen.ensures in
    let adds = subst (λ (n : NetView). Adds (IsRootLatch n c.in_ok-seen.seen) c.new-table.result c.put_latches.new.table) c.net-net.ensures c.put_latches.ensures.adds in
    c.pass_on_all.ensures.made (record { place = c.args.s.0; left_out = None }) (signal_begun c.args.circuit.now c.args.events.now.children c.put_latches.new.table c.args.s.0 c.in_ok-seen.seen c.new-table.result c.new-table.ensures seen adds)

pub returns-in_err-seen-clause-grows : goal.returns-in_err-seen-clause-grows
returns-in_err-seen-clause-grows c = grows_refl c.args.events.now

pub returns-in_err-put_latches-clause-grows : goal.returns-in_err-put_latches-clause-grows
returns-in_err-put_latches-clause-grows c = grows_refl c.args.events.now

pub returns-in_err-pass_on_all-clause-grows : goal.returns-in_err-pass_on_all-clause-grows
returns-in_err-pass_on_all-clause-grows c = c.pass_on_all.ensures.grows

pub returns-in_err-pass_on_all-clause-same : goal.returns-in_err-pass_on_all-clause-same
returns-in_err-pass_on_all-clause-same c = c.pass_on_all.ensures.same

pub returns-clause-grows : goal.returns-clause-grows
returns-clause-grows c = c.pass_on_all.ensures.grows

pub returns-clause-same : goal.returns-clause-same
returns-clause-same c = c.pass_on_all.ensures.same
