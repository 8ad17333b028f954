-- The classes of the pair, and what tells them apart.
use Rattle.std.proofs.Common.{◌≡◌, ◌∙◌, ◌<◌, ◌≤◌, ℕ, true, false, List, [], ◌∷◌, length, sym, subst}
use Rattle.std.proofs.lemmas.Result.{err_from_is_err_and}
use Rattle.std.specs.List.{All, AllPairs, AllZip}
use Rattle.circuit_theory.proofs.Lists.{All-from_each}
use Rattle.event_nodes.specs.Nodes.{EventGraphView, IsEventGraph}
use Rattle.event_form.specs.event_agreement.pair_events.View.{EventsView}
use Rattle.event_form.specs.event_findings.unshown_pairs.class_events.Separated.{AreSeparated}
use Rattle.event_form.proofs.event_findings.unshown_pairs.class_events.Telling.{separated_stay}
use Rattle.event_form.specs.Asked.{IsLater}
use Rattle.event_form.specs.Functions.{signal_start}
use Rattle.event_form.proofs.Refusing.{memory_refused, ok_refused}
use Rattle.class_search.specs.declared.class_separations.apart.Apart.{Apart}
use Rattle.event_form.specs.event_findings.unshown_pairs.Classes.{AreEntered}
use Rattle.event_form.specs.event_findings.unshown_pairs.Telling.{IsToldAt, two_of}
use Rattle.event_form.proofs.event_findings.unshown_pairs.Separating.{classes_low, separations_are}
use Rattle.event_form.proofs.event_findings.unshown_pairs.telling.tell_apart.Goals as goal

later_separated : (old new : EventsView) (aparts : List Apart) → IsEventGraph old.events → IsLater old new → AreSeparated old aparts → AreSeparated new aparts
later_separated old new aparts is later k = separated_stay old new aparts is later.left later.right later.count later.grows k

-- the classes of the nodes that were reached
entered_there : (w v : EventGraphView) (nodes reached classes : List ℕ) → w ≡ v → nodes ≡ reached → AreEntered w.children nodes classes → AreEntered v.children reached classes
entered_there w v nodes reached classes graph same k = subst (λ (x : EventGraphView). AreEntered x.children reached classes) graph (subst (λ (ns : List ℕ). AreEntered w.children ns classes) same k)

pub classes_into-requires : goal.classes_into-requires
classes_into-requires c =
    let nodes = c.in_ok-reach.ensures.reach.nodes in
    subst (λ (w : EventGraphView). All (λ n. n ≤ length w.children) c.as_slice.result.now) (sym c.graph.ensures)
    (subst (λ (ns : List ℕ). All (λ n. n ≤ length c.reach_of.new.events.events.children) ns) (sym c.as_slice.ensures.value)
    (All-from_each (λ n. n ≤ length c.reach_of.new.events.events.children) c.in_ok-reach.reach.nodes.items (λ n h. ((nodes.exactly n).0 h).0)))

pub returns-then-reach-clause-told : goal.returns-then-reach-clause-told
returns-then-reach-clause-told c = c.in_ok-reach.ensures.reach.only_is.0 c.if-reach.true

pub returns-then-reach-clause-refused : goal.returns-then-reach-clause-refused
returns-then-reach-clause-refused c = ok_refused (signal_start c.args.pair.now.left.0 ∷ []) (signal_start c.args.pair.now.right.0 ∷ []) c.args.events.now _

pub returns-in_err-classes-clause-refused : goal.returns-in_err-classes-clause-refused
returns-in_err-classes-clause-refused c =
    let p = err_from_is_err_and c.from_residual-in_err-classes.result c.from_residual-in_err-classes.ensures.1 in
    rw (p.1, p.2) (memory_refused (signal_start c.args.pair.now.left.0 ∷ []) (signal_start c.args.pair.now.right.0 ∷ []) c.args.events.now)

pub returns-in_err-told-clause-refused : goal.returns-in_err-told-clause-refused
returns-in_err-told-clause-refused c =
    let p = err_from_is_err_and c.from_residual-in_err-told.result c.from_residual-in_err-told.ensures.1 in
    rw (p.1, p.2) (memory_refused (signal_start c.args.pair.now.left.0 ∷ []) (signal_start c.args.pair.now.right.0 ∷ []) c.args.events.now)

pub returns-clause-refused : goal.returns-clause-refused
returns-clause-refused c = ok_refused (signal_start c.args.pair.now.left.0 ∷ []) (signal_start c.args.pair.now.right.0 ∷ []) c.args.events.now _

pub separations_among-requires-clause-rising : goal.separations_among-requires-clause-rising
separations_among-requires-clause-rising c = subst (AllPairs ◌<◌) (sym c.as_slice-2.ensures.value) c.in_ok-classes.ensures.rising

pub separations_among-requires-clause-separated : goal.separations_among-requires-clause-separated
separations_among-requires-clause-separated c = later_separated c.args.events.now c.reach_of.new.events c.args.aparts.now c.keeps.ensures.kept.events c.in_ok-reach.ensures.later c.requires.separated

pub separations_among-requires-clause-few : goal.separations_among-requires-clause-few
separations_among-requires-clause-few c =
    let e = c.reach_of.new.events in
    let classes = c.in_ok-classes.classes.items in
    let entered : AreEntered e.events.children c.in_ok-reach.reach.nodes.items classes =
    entered_there c.graph.result.now e.events c.as_slice.result.now c.in_ok-reach.reach.nodes.items classes c.graph.ensures c.as_slice.ensures.value c.in_ok-classes.ensures in
    subst (λ (ks : List ℕ). All (λ k. k ≤ e.count) ks) (sym c.as_slice-2.ensures.value)
    (classes_low e c.keeps-2.ensures.events c.keeps-2.ensures.kept.events c.args.pair.now c.in_ok-reach.reach.nodes.items classes c.in_ok-reach.ensures.reach.nodes entered)

pub returns-clause-told : goal.returns-clause-told
returns-clause-told c =
    let e = c.reach_of.new.events in
    let nodes = c.in_ok-reach.reach.nodes.items in
    let classes = c.in_ok-classes.classes.items in
    let entered : AreEntered e.events.children nodes classes = entered_there c.graph.result.now e.events c.as_slice.result.now nodes classes c.graph.ensures c.as_slice.ensures.value c.in_ok-classes.ensures in
    let separated : AreSeparated e c.args.aparts.now = later_separated c.args.events.now e c.args.aparts.now c.keeps.ensures.kept.events c.in_ok-reach.ensures.later c.requires.separated in
    let few : All (λ k. k ≤ e.count) classes = classes_low e c.keeps-2.ensures.events c.keeps-2.ensures.kept.events c.args.pair.now nodes classes c.in_ok-reach.ensures.reach.nodes entered in
    let told : AllZip (IsToldAt e.events c.args.aparts.now) (two_of classes) c.in_ok-told.told =
    subst (λ (ks : List ℕ). AllZip (IsToldAt e.events c.args.aparts.now) (two_of ks) c.in_ok-told.told) c.as_slice-2.ensures.value c.in_ok-told.ensures in
    record {
      others = λ h. wrong (sym (c.in_ok-reach.ensures.reach.only_is.1 h) ∙ c.if-reach.false);
      classes = separated.classes;
      separations = separations_are e c.args.aparts.now separated c.args.pair.now nodes classes c.in_ok-told.told c.keeps-2.ensures.kept.events c.in_ok-reach.ensures.reach.nodes entered few told;
    }
  where
    wrong : true ≡ false → ⊥
    wrong q = cc
