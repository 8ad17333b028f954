-- What is told of the classes of a pair is right.
use Rattle.std.proofs.Common.{◌≡◌, ◌∙◌, ◌<◌, ◌≤◌, ℕ, Bool, List, Option, Some, None, refl, sym, subst, arith, inl, inr}
use Rattle.std.specs.Prelude.{◌↔◌, Contains}
use Rattle.std.specs.List.{All, AllZip}
use Rattle.std.proofs.lemmas.List.Elements.{All-contains}
use Rattle.circuit_theory.specs.Joined.{Either}
use Rattle.circuit_theory.specs.Circuit.{IsLatch}
use Rattle.circuit_theory.proofs.Lists.{All-from_each}
use Rattle.circuit_theory.specs.EventFrames.{IsSeparation, IsSeparationFromAlways}
use Rattle.circuit_theory.specs.Frame.{EventSide}
use Rattle.flat_net.proofs.Places.{All-at, one_at}
use Rattle.sec_base.specs.declared.basics.Tag.{Tag}
use Rattle.event_form.specs.event_findings.unshown_pairs.class_events.Separated.{AreSeparated}
use Rattle.class_search.specs.declared.class_separations.apart.Apart.{Apart}
use Rattle.class_search.specs.class_separations.Apart.{IsApart, IsSeparationBy, number_of}
use Rattle.class_search.specs.class_separations.Least.{IsLeastFrame, TellsIn}
use Rattle.event_form.specs.event_findings.unshown_pairs.class_events.Named.{NamesLatches}
use Rattle.event_nodes.specs.Nodes.{IsEventGraph}
use Rattle.class_search.specs.event_order.Order.{place_of, IsTagOf}
use Rattle.event_form.specs.event_agreement.event_pairs.Functions.{AreNodesOf}
use Rattle.class_search.specs.event_variables.Variables.{variables_of}
use Rattle.sec_setup.specs.declared.ports.pairs.SignalPair.{SignalPair}
use Rattle.event_form.specs.event_agreement.pair_events.View.{EventsView, IsEvents, side_of_both}
use Rattle.event_form.specs.event_findings.unshown_pairs.Classes.{AreEntered}
use Rattle.event_form.specs.event_findings.unshown_pairs.Reached.{PairLatches}
use Rattle.event_form.specs.event_findings.unshown_pairs.Separations.{AreSeparationsOf, ComesBefore, OccursFor, Separates, SeparatesBy}
use Rattle.event_form.specs.event_findings.unshown_pairs.Telling.{IsToldAt, two_of}
use Rattle.event_form.specs.declared.event_findings.unshown_pairs.separations.ToldSeparation.{ToldSeparation}
use Rattle.event_form.proofs.event_findings.unshown_pairs.Frames.{bits_told}
use Rattle.event_form.proofs.event_findings.unshown_pairs.Occurring.{occurring_low, occurs_from, occurs_in, step_node}
use Rattle.event_form.proofs.event_findings.unshown_pairs.Two.{Earlier, two_from, two_rise, two_to, zip_first, zip_pairs, zip_second}

module _ (e : EventsView) (aparts : List Apart) (sep : AreSeparated e aparts) where
  abbrev order : List (Either ℕ ℕ)
  order = sep.classes.order

  abbrev place : Tag → Either ℕ ℕ
  place = place_of e.left.net e.right.net

  module _ (low high : ℕ) (x : ToldSeparation) (t : IsToldAt e.events aparts (low, high) x) (is : IsApart (side_of_both e) e.events place order low high t.apart) (names : NamesLatches e.left.net e.right.net t.apart) where
    -- the separation by its latch
    by_latch : (o : Option Tag) → t.apart.low ≡ o → IsSeparationBy (side_of_both e) e.events place order low high t.apart o → SeparatesBy e.left e.right order x o (variables_of e.events t.apart.vars) t.apart.bits
    by_latch None none h = (
      t.low_is ∙ h.0,
      t.left ∙ h.1,
      t.right ∙ h.2,
      subst (λ (n : ℕ). IsSeparationFromAlways (side_of_both e) order n (place x.high_latch) (variables_of e.events t.apart.vars) t.apart.bits) (sym t.high_is)
          (subst (λ (u : Tag). IsSeparationFromAlways (side_of_both e) order high (place u) (variables_of e.events t.apart.vars) t.apart.bits) (sym t.high_latch) h.3),
    )
    by_latch (Some u) some h = (
      subst (λ (n : ℕ). 0 < n) (sym t.low_is) h.0,
      names.low u some,
      subst (λ (n : ℕ). IsSeparation (side_of_both e) order n x.high (place u) (place x.high_latch) (variables_of e.events t.apart.vars) t.apart.bits x.left x.right) (sym t.low_is)
          (subst (λ (n : ℕ). IsSeparation (side_of_both e) order low n (place u) (place x.high_latch) (variables_of e.events t.apart.vars) t.apart.bits x.left x.right) (sym t.high_is)
          (subst (λ (v : Tag). IsSeparation (side_of_both e) order low high (place u) (place v) (variables_of e.events t.apart.vars) t.apart.bits x.left x.right) (sym t.high_latch)
          (subst (λ (l : Bool). IsSeparation (side_of_both e) order low high (place u) (place t.apart.high) (variables_of e.events t.apart.vars) t.apart.bits l x.right) (sym t.left)
          (subst (λ (r : Bool). IsSeparation (side_of_both e) order low high (place u) (place t.apart.high) (variables_of e.events t.apart.vars) t.apart.bits t.apart.left r) (sym t.right) h.1)))),
    )

    told_separates : Separates e.left e.right order x
    told_separates = record {
      variables = variables_of e.events t.apart.vars;
      bits = t.apart.bits;
      founder = subst (IsTagOf e.left.net e.right.net) (sym t.high_latch) names.high;
      separates = subst (λ (o : Option Tag). SeparatesBy e.left e.right order x o (variables_of e.events t.apart.vars) t.apart.bits) (sym t.low_latch) (by_latch t.apart.low refl is.separates);
      least = subst (λ (o : Option Tag). IsLeastFrame (TellsIn (side_of_both e) place o x.high_latch) (variables_of e.events t.apart.vars) t.apart.bits) (sym t.low_latch)
          (subst (λ (u : Tag). IsLeastFrame (TellsIn (side_of_both e) place t.apart.low u) (variables_of e.events t.apart.vars) t.apart.bits) (sym t.high_latch) is.least);
      frame = bits_told e.events t.apart.vars t.apart.bits x.frame.items t.frame;
    }

  -- what is told of two classes
  pub separates_told : (low high : ℕ) (x : ToldSeparation) → low < high → high ≤ e.count → IsToldAt e.events aparts (low, high) x → Separates e.left e.right order x
  separates_told low high x below within t =
      let a = sep.apart.each low high below within in
      let same : a.0 ≡ t.apart = one_at aparts (number_of low high) a.0 t.apart a.1 t.at in
      told_separates low high x t (subst (IsApart (side_of_both e) e.events place order low high) same a.2) (All-at (NamesLatches e.left.net e.right.net) aparts (number_of low high) t.apart t.at sep.names)

  module _ (p : SignalPair) (nodes classes : List ℕ) (told : List ToldSeparation) (graph : IsEventGraph e.events) (are : AreNodesOf (side_of_both e) (PairLatches (side_of_both e) p) e.events.children nodes)
      (entered : AreEntered e.events.children nodes classes) (few : All (λ k. k ≤ e.count) classes) (all : AllZip (IsToldAt e.events aparts) (two_of classes) told) where
    abbrev s : EventSide (Either ℕ ℕ)
    s = side_of_both e

    -- the classes are those that occur in paths
    class_occurs : (k : ℕ) → Contains classes k ↔ OccursFor s p k
    class_occurs k = (
      λ h. occurs_in s (PairLatches s p) e.events.children graph.is_tree nodes are k ((entered.exactly k).0 h),
      λ h. (entered.exactly k).1 (occurs_from s (PairLatches s p) e.events.children graph.is_tree nodes are k h.0 h.1 h.2),
    )

    is_separation : (x : ToldSeparation) → Contains told x → Separates e.left e.right order x
    is_separation x h =
        let z = zip_first (IsToldAt e.events aparts) (two_of classes) told all x h in
        let t = two_from classes z.0.0 z.0.1 entered.rising z.1 in
        separates_told z.0.0 z.0.1 x t.0 (All-contains (λ k. k ≤ e.count) classes z.0.1 few t.2) z.2

    before_told : (q r : ℕ × ℕ) (x y : ToldSeparation) → IsToldAt e.events aparts q x → IsToldAt e.events aparts r y → Earlier q r → ComesBefore x y
    before_told q r x y a b (inl low) = inl (omega (arith, low, a.low_is, b.low_is))
    before_told q r x y a b (inr h) = inr (a.low_is ∙ (h.0 ∙ sym b.low_is), omega (arith, h.1, a.high_is, b.high_is))

    pub separations_are : AreSeparationsOf e.left e.right p order told
    separations_are = record {
      each = All-from_each (Separates e.left e.right order) told is_separation;
      in_order = zip_pairs (IsToldAt e.events aparts) Earlier ComesBefore before_told (two_of classes) told all (two_rise classes entered.rising);
      exactly = λ i j. (from i j, to i j);
    }
      where
        from : (i j : ℕ) → (x : ToldSeparation) × Contains told x × (x.low ≡ i) × (x.high ≡ j) → (i < j) × OccursFor s p i × OccursFor s p j
        from i j x =
            let z = zip_first (IsToldAt e.events aparts) (two_of classes) told all x.0 x.1 in
            let t = two_from classes z.0.0 z.0.1 entered.rising z.1 in
            let same_i : z.0.0 ≡ i = sym z.2.low_is ∙ x.2 in
            let same_j : z.0.1 ≡ j = sym z.2.high_is ∙ x.3 in
            (omega (arith, t.0, same_i, same_j), (class_occurs i).0 (subst (Contains classes) same_i t.1), (class_occurs j).0 (subst (Contains classes) same_j t.2))

        to : (i j : ℕ) → (i < j) × OccursFor s p i × OccursFor s p j → (x : ToldSeparation) × Contains told x × (x.low ≡ i) × (x.high ≡ j)
        to i j h =
            let z = zip_second (IsToldAt e.events aparts) (two_of classes) told all (i, j) (two_to classes i j entered.rising h.0 ((class_occurs i).1 h.1) ((class_occurs j).1 h.2)) in
            (z.0, z.1, z.2.low_is, z.2.high_is)

-- the classes of a pair are no greater than the number of classes
pub classes_low : (e : EventsView) → IsEvents e → IsEventGraph e.events → (p : SignalPair) (nodes classes : List ℕ) → AreNodesOf (side_of_both e) (PairLatches (side_of_both e) p) e.events.children nodes → AreEntered e.events.children nodes classes → All (λ k. k ≤ e.count) classes
classes_low e is graph p nodes classes are entered = All-from_each (λ k. k ≤ e.count) classes low
  where
    latches : (v : Either ℕ ℕ) → PairLatches (side_of_both e) p v → (name : List ℕ) × (next : Either ℕ ℕ) × IsLatch (side_of_both e).circuit name v next
    latches v (inl h) = (h.0, h.1, h.2)
    latches v (inr h) = (h.0, h.1, h.2)

    low : (k : ℕ) → Contains classes k → k ≤ e.count
    low k h =
        let o = occurs_in (side_of_both e) (PairLatches (side_of_both e) p) e.events.children graph.is_tree nodes are k ((entered.exactly k).0 h) in
        let n = step_node (side_of_both e) (PairLatches (side_of_both e) p) o.0 k o.1 o.2 in
        subst (λ (i : ℕ). k ≤ i) is.number (occurring_low (side_of_both e) is.classes (PairLatches (side_of_both e) p) latches k n.0 n.1)
