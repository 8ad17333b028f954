-- Where no frame of the cut circuits has care for both sides of a pair, the pair is settled in both circuits in no two runs with equal inputs.
use Rattle.std.proofs.Common.{◌∙◌, ◌++◌, ℕ, Bool, false, List, [], length, map, Option, None, sym, ap, subst, inl, inr}
use Rattle.std.specs.Prelude.{◌↔◌}
use Rattle.std.specs.List.{All, Contains}
use Rattle.circuit_theory.specs.Agree.{cut}
use Rattle.circuit_theory.specs.Circuit.{Circuit, Equation, Named, Holds, Meets}
use Rattle.circuit_theory.specs.Classes.{HasClasses}
use Rattle.circuit_theory.specs.Depth.{LatchesHaveDepths}
use Rattle.circuit_theory.specs.EventFrames.{IsCareTree, IsPairTree}
use Rattle.circuit_theory.specs.Frame.{EventSide, EventUnfolds, ConeLatches, HasCare}
use Rattle.circuit_theory.specs.Joined.{Either, Left, Right, joined, beside, moved, moved_name}
use Rattle.circuit_theory.specs.Run.{IsEnabled}
use Rattle.circuit_theory.specs.Tree.{Tree, IsInputNumber, StandsBeside}
use Rattle.circuit_laws.proofs.JoinedParts.{meets_both}
use Rattle.circuit_laws.proofs.NetLaws.{net_value, net_value-extends}
use Rattle.circuit_laws.proofs.Parts.{IsPart}
use Rattle.circuit_laws.proofs.event_laws.SideParts.{sides_are_parts_in_nets}
use Rattle.circuit_laws.proofs.event_laws.SideTrees.{care_same, tree_same}
use Rattle.circuit_laws.specs.event_laws.Sides.{moved_put}
use Rattle.flat_net.specs.Sound.{IsSound}
use Rattle.flat_net.specs.View.{NetView, circuit_of}
use Rattle.flat_net.proofs.Nets.{sound_is_net, sound_names}
use Rattle.sec_setup.specs.Cuts.{columns_of}
use Rattle.sec_setup.proofs.CutNets.{cut_numbered}
use Rattle.edbf_unfold.specs.class_queries.Enables.{both_of, class_map}
use Rattle.edbf_unfold.proofs.class_queries.Meaning.{numbered}
use Rattle.event_form.proofs.event_agreement.SameCircuits.{AreSame, same_part, same_classes, same_depths}
use Rattle.event_form.proofs.event_agreement.event_pairs.Parts.{cone_up, care_tree_up}
use Rattle.event_nodes.specs.View.{EventCircuitView}
use Rattle.event_setup.specs.event_meaning.event_names.event_fits.Circuits.{AreEventCircuits}
use Rattle.assume_laws.specs.Assume.{Assumption, ReadsInputs, HasCareUnder, HasVariableAtNode}
use Rattle.assume_laws.specs.settle_laws.Settles.{AreNeverSettled, AreNeverSettledUnder}
use Rattle.assume_laws.proofs.settle_laws.Never.{without_care_never_settled_exposed, without_care_never_settled_under}

-- circuits with the same inputs and equations have the same cares
module _ (d e : Circuit (Either ℕ ℕ)) (same : AreSame d e) (some_values : Either ℕ ℕ → Bool) (meets_some : Meets e some_values) (order : List ℕ) (class : Either ℕ ℕ → ℕ) where
  abbrev s : EventSide (Either ℕ ℕ)
  s = record { circuit = d; order = order; class = class }

  abbrev t : EventSide (Either ℕ ℕ)
  t = record { circuit = e; order = order; class = class }

  abbrev itself : Either ℕ ℕ → Either ℕ ℕ
  itself p = p

  abbrev second : (Either ℕ ℕ → Bool) → (Either ℕ ℕ → Bool) → Either ℕ ℕ → Bool
  second y v = v

  part : IsPart d e itself second
  part = same_part d e same

  number_up : (p : Either ℕ ℕ) (i : ℕ) → IsInputNumber d order p i → IsInputNumber e order p i
  number_up p i h = subst (λ (is : List (Named (Either ℕ ℕ))). StandsBeside is order p i) same.inputs h

  number_down : (p : Either ℕ ℕ) (i : ℕ) → IsInputNumber e order p i → IsInputNumber d order p i
  number_down p i h = subst (λ (is : List (Named (Either ℕ ℕ))). StandsBeside is order p i) (sym same.inputs) h

  pub care_back : (p : Either ℕ ℕ) (bits : ℕ → List ℕ → Bool) → HasCare t (IsEnabled e) (ConeLatches e p) bits → HasCare s (IsEnabled d) (ConeLatches d p) bits
  care_back p bits h = (care_same d e itself second part some_values meets_some order order class number_up number_down p bits).1 h

  trees : (put : Option (Either ℕ ℕ × Bool)) (p : Either ℕ ℕ) (node : List ℕ) (tree : Tree (List ℕ)) → EventUnfolds s (IsEnabled d) put p node tree ↔ EventUnfolds t (IsEnabled e) (moved_put itself put) p node tree
  trees = tree_same d e itself second part some_values meets_some order order class number_up number_down

  care_up : (p : Either ℕ ℕ) (tree : Tree (List ℕ)) → IsCareTree s (ConeLatches d p) tree → IsCareTree t (ConeLatches e p) tree
  care_up p tree h = care_tree_up d e itself second part some_values meets_some order order class (ConeLatches d p) (ConeLatches e p) (λ v k. cone_up d e itself second part some_values meets_some order order class p v k) trees tree h

  variable_up : (p q : Either ℕ ℕ) (node : List ℕ) → HasVariableAtNode s p q node → HasVariableAtNode t p q node
  variable_up p q node h = (h.0, h.1, go h.0 h.2, h.3)
    where
      go : (tree : Tree (List ℕ)) → IsPairTree s p q tree → IsPairTree t p q tree
      go tree (inl (inl own)) = inl (inl ((trees None p [] tree).0 own))
      go tree (inl (inr own)) = inl (inr ((trees None q [] tree).0 own))
      go tree (inr (inl care)) = inr (inl (care_up p tree care))
      go tree (inr (inr care)) = inr (inr (care_up q tree care))

  pub care_back_under : (c : Assumption) (p q : Either ℕ ℕ) (bits : ℕ → List ℕ → Bool) → HasCareUnder c t p q bits → HasCareUnder c s p q bits
  care_back_under c p q bits h = ((care_back p bits h.0.0, care_back q bits h.0.1), λ node v. h.1 node (variable_up p q node v))

-- inputs of the same names are read
reads_same : (c : Assumption) (d e : Circuit ℕ) (order : List ℕ) → AreSame d e → ReadsInputs c d order → ReadsInputs c e order
reads_same c d e order same r = record {
  each = r.each;
  found = λ p i h. (let f = r.found p i h in (
    f.0,
    f.1,
    f.2,
    subst (λ (is : List (Named ℕ)). Contains is (record { name = f.0; place = f.1 })) same.inputs f.3,
    subst (λ (is : List (Named ℕ)). StandsBeside is order f.1 i) same.inputs f.4,
  ));
  numbered = λ name p i q own there number.
      subst (λ (is : List (Named ℕ)). StandsBeside is order q i) same.inputs (r.numbered name p i q own (subst (λ (is : List (Named ℕ)). Contains is (record { name = name; place = q })) (sym same.inputs) there) number);
}

module _ (a b : NetView) (expose : Bool) (names : List (List ℕ)) (left right : EventCircuitView) (sa : IsSound a) (sb : IsSound b) (k : AreEventCircuits a b expose names left right) (classes : HasClasses (both_of left right)) where
  abbrev ca : Circuit ℕ
  ca = circuit_of left.net

  abbrev cb : Circuit ℕ
  cb = circuit_of right.net

  abbrev left_cut : Circuit ℕ
  left_cut = cut names (circuit_of a)

  abbrev right_cut : Circuit ℕ
  right_cut = cut names (circuit_of b)

  left_same : AreSame ca left_cut
  left_same = let is = k.are_cut.left_circuit in record { inputs = is.inputs; equations = is.equations }

  right_same : AreSame cb right_cut
  right_same = let is = k.are_cut.right_circuit in record { inputs = is.inputs; equations = is.equations }

  both_same : AreSame (joined ca cb) (joined left_cut right_cut)
  both_same = record {
    inputs = λ i. map (moved_name Left) (left_same.inputs i) ++ map (moved_name Right) (right_same.inputs i);
    equations = λ i. map (moved Left) (left_same.equations i) ++ map (moved Right) (right_same.equations i);
  }

  some : Either ℕ ℕ → Bool
  some = beside (net_value ca (λ p. false)) (net_value cb (λ q. false))

  meets : Meets (joined ca cb) some
  unfolding some
  meets =
      meets_both ca cb (net_value ca (λ p. false)) (net_value cb (λ q. false))
      (net_value-extends ca (length left.net.drivers) (sound_is_net left.net k.left_ready.sound) (λ p. false)).meets (net_value-extends cb (length right.net.drivers) (sound_is_net right.net k.right_ready.sound) (λ q. false)).meets

  cut_meets : Meets (joined left_cut right_cut) some
  cut_meets = subst (λ (es : List (Equation (Either ℕ ℕ))). All (Holds some) es) both_same.equations meets

  deep : LatchesHaveDepths (joined ca cb) (IsEnabled (joined ca cb))
  deep =
      (sides_are_parts_in_nets ca cb (length left.net.drivers) (length right.net.drivers) (sound_is_net left.net k.left_ready.sound) (sound_is_net right.net k.right_ready.sound)).4 k.left_ready.depths k.right_ready.depths

  abbrev order : List ℕ
  order = left.order ++ right.order

  abbrev class : Either ℕ ℕ → ℕ
  class = class_map left right

  abbrev sides : EventSide (Either ℕ ℕ)
  sides = both_of left right

  pub event_never : (p q : ℕ) → ((bits : ℕ → List ℕ → Bool) → HasCare sides (IsEnabled sides.circuit) (ConeLatches sides.circuit (Left p)) bits × HasCare sides (IsEnabled sides.circuit) (ConeLatches sides.circuit (Right q)) bits → ⊥) →
      AreNeverSettled (circuit_of a) (circuit_of b) p q
  event_never p q none =
      without_care_never_settled_exposed (circuit_of a) (circuit_of b) (length a.drivers) (length b.drivers) names left.order right.order class
      (sound_is_net a sa) (sound_is_net b sb) (sound_names a sa) (sound_names b sb) k.minimal
      (cut_numbered names (columns_of a b names) left.order right.order a b left.net right.net k.are_cut.left_circuit k.are_cut.right_circuit k.left_columns.numbers k.right_columns.numbers)
      (numbered left k.left_ready.marked ∙ ap length left_same.inputs) (numbered right k.right_ready.marked ∙ ap length right_same.inputs)
      (same_classes (joined ca cb) (joined left_cut right_cut) both_same some cut_meets order class classes)
      (same_depths (joined ca cb) (joined left_cut right_cut) both_same some cut_meets order class deep)
      p q
      (λ bits x y. none bits (care_back (joined ca cb) (joined left_cut right_cut) both_same some cut_meets order class (Left p) bits x, care_back (joined ca cb) (joined left_cut right_cut) both_same some cut_meets order class (Right q) bits y))

  pub event_never_under : (c : Assumption) → ReadsInputs c ca left.order → (p q : ℕ) → ((bits : ℕ → List ℕ → Bool) → HasCareUnder c sides (Left p) (Right q) bits → ⊥) → AreNeverSettledUnder c (circuit_of a) (circuit_of b) p q
  event_never_under c reads p q none =
      without_care_never_settled_under c (circuit_of a) (circuit_of b) (length a.drivers) (length b.drivers) names left.order right.order class
      (sound_is_net a sa) (sound_is_net b sb) (sound_names a sa) (sound_names b sb) k.minimal
      (cut_numbered names (columns_of a b names) left.order right.order a b left.net right.net k.are_cut.left_circuit k.are_cut.right_circuit k.left_columns.numbers k.right_columns.numbers)
      (numbered left k.left_ready.marked ∙ ap length left_same.inputs) (numbered right k.right_ready.marked ∙ ap length right_same.inputs)
      (same_classes (joined ca cb) (joined left_cut right_cut) both_same some cut_meets order class classes)
      (same_depths (joined ca cb) (joined left_cut right_cut) both_same some cut_meets order class deep)
      (reads_same c ca left_cut left.order left_same reads)
      p q
      (λ bits h. none bits (care_back_under (joined ca cb) (joined left_cut right_cut) both_same some cut_meets order class c (Left p) (Right q) bits h))
