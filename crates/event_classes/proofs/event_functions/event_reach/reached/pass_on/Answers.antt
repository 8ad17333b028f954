-- The others of the latch's cone are put at the child.
use Rattle.std.proofs.Common.{◌≡◌, ◌∙◌, ◌<◌, ℕ, List, length, slice_get, refl, sym, ap, subst}
use Rattle.std.specs.List.{All, Contains}
use Rattle.event_nodes.specs.flat_net.Signal.{Signal}
use Rattle.std.proofs.lemmas.Option.{slice_get_within}
use Rattle.event_nodes.specs.flat_net.View.{NetView}
use Rattle.event_nodes.proofs.flat_net.Places.{one_at}
use Rattle.signal_graph.specs.inner_cone.latch_cone.Cones.{AreOthers}
use Rattle.event_nodes.specs.Nodes.{EventGraphView, IsChild}
use Rattle.event_nodes.specs.Reach.{IsReachedPlace}
use Rattle.event_nodes.specs.View.{side_of}
use Rattle.event_nodes.specs.Visited.{AreNodesFrom}
use Rattle.event_nodes.proofs.flat_net.Drivers.{latch_of_equation}
use Rattle.event_nodes.proofs.Growing.{grows_refl}
use Rattle.event_nodes.proofs.Lists.{adds_none, adds_weaker}
use Rattle.event_classes.proofs.event_functions.event_reach.Making.{no_nodes, child_made}
use Rattle.event_classes.proofs.event_functions.event_reach.Passing.{drives_at, latch_at, passed_on, place_reached, ok_always, ok_then}
use Rattle.event_classes.proofs.event_functions.event_reach.reached.pass_on.Goals as goal

pub driver-requires : goal.driver-requires
driver-requires c =
    let o = latch_of_equation c.args.circuit.now.net c.keeps.ensures.sound c.requires.latch.0 c.args.place.1 c.requires.latch.1 c.requires.latch.2 in
    let within : c.args.place.1 < length c.args.circuit.now.net.drivers = slice_get_within c.args.circuit.now.net.drivers c.args.place.1 _ o.owner in
    subst (λ (n : NetView). c.args.place.1 < length n.drivers) (sym c.net-net.ensures) within

pub returns-in_default : goal.returns-in_default
returns-in_default c =
    let o = latch_of_equation c.args.circuit.now.net c.keeps.ensures.sound c.requires.latch.0 c.args.place.1 c.requires.latch.1 c.requires.latch.2 in
    absurd (c.in_default.not-Latch o.j (one_at c.args.circuit.now.net.drivers c.args.place.1 _ _ (ap (λ (n : NetView). slice_get n.drivers c.args.place.1) (sym c.net-net.ensures) ∙ c.driver.ensures) o.owner))

pub class-requires : goal.class-requires
class-requires c = let l = latch_at _ _ c.keeps.ensures.sound c.args.place.1 c.in-Latch.j _ c.net-net.ensures c.driver.ensures c.in-Latch.is in slice_get_within c.args.circuit.now.net.latches c.in-Latch.j l.0 l.1

pub other_latches-requires : goal.other_latches-requires
other_latches-requires c =
    let l = latch_at _ _ c.keeps.ensures.sound c.args.place.1 c.in-Latch.j _ c.net-net.ensures c.driver.ensures c.in-Latch.is in
    subst (λ (n : NetView). c.in-Latch.j < length n.latches) (sym c.net-net.ensures) (slice_get_within c.args.circuit.now.net.latches c.in-Latch.j l.0 l.1)

pub returns-clause-passed : goal.returns-clause-passed
returns-clause-passed c =
    let l = latch_at _ _ c.keeps.ensures.sound c.args.place.1 c.in-Latch.j _ c.net-net.ensures c.driver.ensures c.in-Latch.is in
    let are = subst (λ (n : NetView). AreOthers n l.0 c.in_ok-others.others) c.net-net.ensures (c.in_ok-others.ensures l.0 (ap (λ (n : NetView). slice_get n.latches c.in-Latch.j) c.net-net.ensures ∙ l.1)) in
    ok_then c.put_all.result
    (λ all depths. passed_on c.args.circuit.now c.keeps.ensures.sound c.in-Latch.j c.args.place.1 (drives_at _ _ c.args.place.1 c.in-Latch.j _ c.net-net.ensures c.driver.ensures c.in-Latch.is) l.0 l.1 c.in_ok-others.others are depths
    c.child.new.self.children c.put_all.new.table c.args.place.0 c.class.result c.in_ok-child.child c.in_ok-child.ensures.here (c.class.ensures l.0 l.1)
    (subst (All (λ (f : Signal). Contains c.put_all.new.table (c.in_ok-child.child, f.0))) c.as_slice.ensures all))
    c.put_all.ensures.all

pub returns-clause-sound : goal.returns-clause-sound
returns-clause-sound c =
    let l = latch_at _ _ c.keeps.ensures.sound c.args.place.1 c.in-Latch.j _ c.net-net.ensures c.driver.ensures c.in-Latch.is in
    let are = subst (λ (n : NetView). AreOthers n l.0 c.in_ok-others.others) c.net-net.ensures (c.in_ok-others.ensures l.0 (ap (λ (n : NetView). slice_get n.latches c.in-Latch.j) c.net-net.ensures ∙ l.1)) in
    ok_always c.put_all.result
    (λ s from. adds_weaker (λ (q : ℕ × ℕ). (f : Signal) × Contains c.as_slice.result.now f × ((c.in_ok-child.child, f.0) ≡ q)) (IsReachedPlace c.args.circuit.now c.child.new.self.children s) c.args.table.now c.put_all.new.table
    (λ q x. place_reached c.args.circuit.now c.keeps.ensures.sound c.in-Latch.j c.args.place.1 (drives_at _ _ c.args.place.1 c.in-Latch.j _ c.net-net.ensures c.driver.ensures c.in-Latch.is) l.0 l.1 c.in_ok-others.others are
    c.child.new.self.children c.keeps-3.ensures.events.is_tree s c.args.place.0 c.class.result c.in_ok-child.child c.in_ok-child.ensures.here (c.class.ensures l.0 l.1) from q (x.0, subst (λ (fs : List Signal). Contains fs x.0) c.as_slice.ensures x.1, x.2))
    c.put_all.ensures.adds)

pub returns-in_err-others-clause-made : goal.returns-in_err-others-clause-made
returns-in_err-others-clause-made c = λ x reached. no_nodes c.args.circuit.now c.args.events.now.children x

pub returns-in_err-child-clause-made : goal.returns-in_err-child-clause-made
returns-in_err-child-clause-made c = λ x reached. subst (λ (w : EventGraphView). AreNodesFrom c.args.circuit.now w.children x (length c.args.events.now.children)) (sym c.in_err-child.ensures.err) (no_nodes c.args.circuit.now c.args.events.now.children x)

pub returns-clause-made : goal.returns-clause-made
returns-clause-made c = λ x reached.
    let l = latch_at _ _ c.keeps.ensures.sound c.args.place.1 c.in-Latch.j _ c.net-net.ensures c.driver.ensures c.in-Latch.is in
    child_made c.args.circuit.now x c.args.events.now c.child.new.self c.child.ensures.grows c.args.place c.class.result (ap (side_of c.args.circuit.now).class (sym l.2) ∙ c.class.ensures l.0 l.1) reached c.child.ensures.adds

pub returns-clause-child : goal.returns-clause-child
returns-clause-child c =
    let l = latch_at _ _ c.keeps.ensures.sound c.args.place.1 c.in-Latch.j _ c.net-net.ensures c.driver.ensures c.in-Latch.is in
    ok_always c.put_all.result
    (c.in_ok-child.child, subst (λ (k : ℕ). IsChild c.child.new.self.children c.args.place.0 k c.in_ok-child.child) (sym (ap (side_of c.args.circuit.now).class (sym l.2) ∙ c.class.ensures l.0 l.1)) c.in_ok-child.ensures.here)

pub returns-in_err-others-clause-kept : goal.returns-in_err-others-clause-kept
returns-in_err-others-clause-kept c = adds_none (λ (q : ℕ × ℕ). q ≡ q) c.args.table.now c.args.table.now refl

pub returns-in_err-others-clause-grows : goal.returns-in_err-others-clause-grows
returns-in_err-others-clause-grows c = grows_refl c.args.events.now

pub returns-in_err-child-clause-kept : goal.returns-in_err-child-clause-kept
returns-in_err-child-clause-kept c = adds_none (λ (q : ℕ × ℕ). q ≡ q) c.args.table.now c.args.table.now refl

pub returns-in_err-child-clause-grows : goal.returns-in_err-child-clause-grows
returns-in_err-child-clause-grows c = c.child.ensures.grows

pub returns-in_err-child-clause-same : goal.returns-in_err-child-clause-same
returns-in_err-child-clause-same c = c.child.ensures.same

pub returns-clause-kept : goal.returns-clause-kept
returns-clause-kept c =
    adds_weaker (λ (q : ℕ × ℕ). (f : Signal) × Contains c.as_slice.result.now f × ((c.in_ok-child.child, f.0) ≡ q)) (λ (q : ℕ × ℕ). q ≡ q) c.args.table.now c.put_all.new.table (λ q x. refl) c.put_all.ensures.adds

pub returns-clause-few : goal.returns-clause-few
returns-clause-few c = c.put_all.ensures.few

pub returns-clause-grows : goal.returns-clause-grows
returns-clause-grows c = c.child.ensures.grows

pub returns-clause-same : goal.returns-clause-same
returns-clause-same c = c.child.ensures.same
