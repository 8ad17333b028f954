-- Where all pairs are equal under the assumption, the circuits agree in the runs that meet it.
use Rattle.std.proofs.Common.{◌≡◌, ◌∙◌, ℕ, Bool, List, [], ◌∷◌, ◌++◌, length, Option, Some, None, ap, sym, subst, inl, inr, arith}
use Rattle.std.specs.Prelude.{◌↔◌}
use Rattle.std.specs.List.{All, AllZip, Contains}
use Rattle.std.proofs.lemmas.List.Elements.{All-head, All-tail}
use Rattle.circuit_theory.specs.Agree.{IsPair, cut}
use Rattle.circuit_theory.specs.Circuit.{Circuit, Meets, Named}
use Rattle.circuit_theory.specs.Joined.{Either, Left, Right, joined}
use Rattle.circuit_theory.specs.Run.{IsEnabled}
use Rattle.circuit_theory.specs.Tree.{Tree, AreNumbered, StandsBeside, IsInputNumber}
use Rattle.circuit_theory.proofs.Lists.{Contains-cases}
use Rattle.circuit_laws.proofs.Parts.{IsPart}
use Rattle.circuit_theory.specs.EventFrames.{IsCareTree, IsPairTree}
use Rattle.circuit_theory.specs.Frame.{EventSide, EventUnfolds, ConeLatches}
use Rattle.circuit_laws.specs.event_laws.Sides.{moved_put}
use Rattle.circuit_laws.proofs.event_laws.SideTrees.{tree_same, care_same}
use Rattle.flat_net.specs.View.{circuit_of}
use Rattle.flat_net.proofs.Nets.{sound_is_net}
use Rattle.sec_base.specs.declared.basics.PairAnswer.{PairAnswer}
use Rattle.sec_base.specs.declared.basics.PairAnswer.TheVariants as answer
use Rattle.edbf_unfold.specs.class_queries.Enables.{both_of, class_map}
use Rattle.edbf_unfold.proofs.class_queries.Meaning.{numbered}
use Rattle.event_form.proofs.event_agreement.CutCircuits.{left_same, right_same, both_same, some, cut_meets}
use Rattle.event_form.proofs.event_agreement.SameCircuits.{AreSame, same_part, same_classes, same_depths}
use Rattle.event_form.proofs.event_agreement.event_pairs.Parts.{cone_up, care_tree_up}
use Rattle.sec_setup.specs.declared.ports.pairs.SignalPair.{SignalPair}
use Rattle.obligations.specs.declared.outcome.verdict.PairResult.{PairResult}
use Rattle.obligations.specs.outcome.pair_decide.Proof.{Proof}
use Rattle.assume_laws.specs.Assume.{Assumption, ReadsInputs, HasVariableAtNode, HaveEqualEventsUnder}
use Rattle.assume_laws.proofs.EventLaws.{event_functions_agree_under, exposed_event_functions_agree_under}
use Rattle.event_under.specs.Answers.{AnswerFitsUnder, PairFitsUnder}
use Rattle.event_under.specs.Laws.{AreAllPairs, EqualPairsAgreeUnder, EqualCutsAgreeUnder}

module _ (c : Assumption) (s : EventSide (Either ℕ ℕ)) (cut : Bool) (conflicts : ℕ) where
  equal_events : (p q : ℕ) (y : PairAnswer) (proof : Option Proof) → y ≡ answer.Equal → AnswerFitsUnder c s cut conflicts p q y proof → HaveEqualEventsUnder c s (Left p) (Right q)
  equal_events p q answer.Equal None e h = h
  equal_events p q answer.Equal (Some proof) e h = absurd h
  equal_events p q answer.Different proof e h = cc
  equal_events p q answer.NotShown proof e h = cc
  equal_events p q answer.Limit proof e h = cc

  all_equal : (pairs : List SignalPair) (results : List PairResult) → AllZip (PairFitsUnder c s cut conflicts) pairs results → All (λ (r : PairResult). r.answer ≡ answer.Equal) results → (x : SignalPair) → Contains pairs x →
      HaveEqualEventsUnder c s (Left x.left.0) (Right x.right.0)
  all_equal [] results fits equal x h = absurd (omega (arith, h.1))
  all_equal (p ∷ ps) [] fits equal x h = absurd fits
  all_equal (p ∷ ps) (r ∷ rs) fits equal x h =
      elim (Contains-cases p x ps h) [
        | inl e ↦ subst (λ (z : SignalPair). HaveEqualEventsUnder c s (Left z.left.0) (Right z.right.0)) e (equal_events p.left.0 p.right.0 r.answer r.proof (All-head (λ (z : PairResult). z.answer ≡ answer.Equal) r rs equal) fits.0.answer_is)
        | inr m ↦ all_equal ps rs fits.1 (All-tail (λ (z : PairResult). z.answer ≡ answer.Equal) r rs equal) x m
      ]

  pairs_equal : (pairs : List SignalPair) (results : List PairResult) → AllZip (PairFitsUnder c s cut conflicts) pairs results → All (λ (r : PairResult). r.answer ≡ answer.Equal) results → (names : List (List ℕ)) (d e : Circuit ℕ) → AreAllPairs names d e pairs →
      (p q : ℕ) → IsPair names d e p q → HaveEqualEventsUnder c s (Left p) (Right q)
  pairs_equal pairs results fits equal names d e all p q pair =
      let x = all p q pair in
      subst (λ (u : ℕ). HaveEqualEventsUnder c s (Left u) (Right q)) x.2 (subst (λ (v : ℕ). HaveEqualEventsUnder c s (Left x.0.left.0) (Right v)) x.3 (all_equal pairs results fits equal x.0 x.1))

pub equal_agree : EqualPairsAgreeUnder
equal_agree c a b w cut conflicts pairs results kept classes depths numbers reads fits equal all =
    event_functions_agree_under c (circuit_of a.net) (circuit_of b.net) (length a.net.drivers) (length b.net.drivers) a.order b.order (class_map a b) (sound_is_net a.net kept.left_sound) (sound_is_net b.net kept.right_sound) numbers (numbered a kept.left)
    (numbered b kept.right) classes depths reads (pairs_equal c (both_of a b) cut conflicts pairs results fits equal [] (circuit_of a.net) (circuit_of b.net) all)

-- circuits with the same inputs and equations have the same event functions under the assumption
module _ {P : Type 0} (c : Assumption) (d e : Circuit P) (same : AreSame d e) (some_values : P → Bool) (meets : Meets e some_values) (order : List ℕ) (class : P → ℕ) where
  abbrev s : EventSide P
  s = record { circuit = d; order = order; class = class }

  abbrev t : EventSide P
  t = record { circuit = e; order = order; class = class }

  abbrev itself : P → P
  itself p = p

  abbrev second : (P → Bool) → (P → Bool) → P → Bool
  second y v = v

  part : IsPart d e itself second
  part = same_part d e same

  number_up : (p : P) (i : ℕ) → IsInputNumber d order p i → IsInputNumber e order p i
  number_up p i h = subst (λ (is : List (Named P)). StandsBeside is order p i) same.inputs h

  number_down : (p : P) (i : ℕ) → IsInputNumber e order p i → IsInputNumber d order p i
  number_down p i h = subst (λ (is : List (Named P)). StandsBeside is order p i) (sym same.inputs) h

  trees : (put : Option (P × Bool)) (p : P) (node : List ℕ) (tree : Tree (List ℕ)) → EventUnfolds s (IsEnabled d) put p node tree ↔ EventUnfolds t (IsEnabled e) (moved_put itself put) p node tree
  trees = tree_same d e itself second part some_values meets order order class number_up number_down

  care_up : (p : P) (tree : Tree (List ℕ)) → IsCareTree s (ConeLatches d p) tree → IsCareTree t (ConeLatches e p) tree
  care_up p tree h = care_tree_up d e itself second part some_values meets order order class (ConeLatches d p) (ConeLatches e p) (λ v k. cone_up d e itself second part some_values meets order order class p v k) trees tree h

  variable_up : (p q : P) (node : List ℕ) → HasVariableAtNode s p q node → HasVariableAtNode t p q node
  variable_up p q node h = (h.0, h.1, go h.0 h.2, h.3)
    where
      go : (tree : Tree (List ℕ)) → IsPairTree s p q tree → IsPairTree t p q tree
      go tree (inl (inl own)) = inl (inl ((trees None p [] tree).0 own))
      go tree (inl (inr own)) = inl (inr ((trees None q [] tree).0 own))
      go tree (inr (inl care)) = inr (inl (care_up p tree care))
      go tree (inr (inr care)) = inr (inr (care_up q tree care))

  same_events_under : (p q : P) → HaveEqualEventsUnder c s p q → HaveEqualEventsUnder c t p q
  same_events_under p q k = record {
    left_tree = k.left_tree;
    right_tree = k.right_tree;
    left_unfolds = (trees None p [] k.left_tree).0 k.left_unfolds;
    right_unfolds = (trees None q [] k.right_tree).0 k.right_unfolds;
    same = λ bits care. k.same bits (
      ((care_same d e itself second part some_values meets order order class number_up number_down p bits).1 care.0.0, (care_same d e itself second part some_values meets order order class number_up number_down q bits).1 care.0.1),
      λ node h. care.1 node (variable_up p q node h),
    );
  }

-- inputs of the same names are read
reads_same : (c : Assumption) (d e : Circuit ℕ) (order : List ℕ) → AreSame d e → ReadsInputs c d order → ReadsInputs c e order
reads_same c d e order same r = record {
  each = r.each;
  found = λ p i h. (let f = r.found p i h in (
    f.0,
    f.1,
    f.2,
    subst (λ (is : List (Named ℕ)). Contains is (record { name = f.0; place = f.1 })) same.inputs f.3,
    subst (λ (is : List (Named ℕ)). StandsBeside is order f.1 i) same.inputs f.4,
  ));
  numbered = λ name p i q own there number.
      subst (λ (is : List (Named ℕ)). StandsBeside is order q i) same.inputs (r.numbered name p i q own (subst (λ (is : List (Named ℕ)). Contains is (record { name = name; place = q })) (sym same.inputs) there) number);
}

-- circuits with the same inputs are numbered alike
same_numbered : (c d e f : Circuit ℕ) (left right : List ℕ) → AreSame c e → AreSame d f → AreNumbered c d left right → AreNumbered e f left right
same_numbered c d e f left right first second k = record {
  left_once = λ p q i h g. k.left_once p q i (left_back p i h) (left_back q i g);
  right_once = λ p q i h g. k.right_once p q i (right_back p i h) (right_back q i g);
  shared = λ p q i h g. (let x = k.shared p q i (left_back p i h) (right_back q i g) in
      (x.0, subst (λ (is : List (Named ℕ)). Contains is (record { name = x.0; place = p })) first.inputs x.1, subst (λ (is : List (Named ℕ)). Contains is (record { name = x.0; place = q })) second.inputs x.2));
}
  where
    left_back : (p i : ℕ) → IsInputNumber e left p i → IsInputNumber c left p i
    left_back p i h = subst (λ (is : List (Named ℕ)). StandsBeside is left p i) (sym first.inputs) h

    right_back : (p i : ℕ) → IsInputNumber f right p i → IsInputNumber d right p i
    right_back p i h = subst (λ (is : List (Named ℕ)). StandsBeside is right p i) (sym second.inputs) h

pub cuts_agree : EqualCutsAgreeUnder
cuts_agree c d e m n names a b w cut_open conflicts pairs results nd ne left_names right_names minimal left_is right_is kept classes depths numbers reads fits equal all =
    exposed_event_functions_agree_under c d e m n names a.order b.order (class_map a b) nd ne left_names right_names minimal
    (same_numbered (circuit_of a.net) (circuit_of b.net) (cut names d) (cut names e) a.order b.order left right numbers)
    (numbered a kept.left ∙ ap length left_is.inputs) (numbered b kept.right ∙ ap length right_is.inputs)
    (same_classes (joined (circuit_of a.net) (circuit_of b.net)) (joined (cut names d) (cut names e)) both (some d e names a b w kept left_is right_is) holds (a.order ++ b.order) (class_map a b) classes)
    (same_depths (joined (circuit_of a.net) (circuit_of b.net)) (joined (cut names d) (cut names e)) both (some d e names a b w kept left_is right_is) holds (a.order ++ b.order) (class_map a b) depths)
    (reads_same c (circuit_of a.net) (cut names d) a.order left reads)
    (λ p q pair. same_events_under c (joined (circuit_of a.net) (circuit_of b.net)) (joined (cut names d) (cut names e)) both (some d e names a b w kept left_is right_is) holds (a.order ++ b.order) (class_map a b) (Left p) (Right q)
    (pairs_equal c (both_of a b) cut_open conflicts pairs results fits equal names d e all p q pair))
  where
    left : AreSame (circuit_of a.net) (cut names d)
    left = left_same d e names a b w kept left_is right_is

    right : AreSame (circuit_of b.net) (cut names e)
    right = right_same d e names a b w kept left_is right_is

    both : AreSame (joined (circuit_of a.net) (circuit_of b.net)) (joined (cut names d) (cut names e))
    both = both_same d e names a b w kept left_is right_is

    holds : Meets (joined (cut names d) (cut names e)) (some d e names a b w kept left_is right_is)
    holds = cut_meets d e names a b w kept left_is right_is
