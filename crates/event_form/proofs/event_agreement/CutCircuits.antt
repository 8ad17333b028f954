-- With exposed latches: circuits of cut nets differ from the cut circuits in initial values alone.
use Rattle.std.proofs.Common.{◌∙◌, ℕ, Bool, false, List, ◌++◌, length, map, sym, ap, subst}
use Rattle.std.specs.List.{All, Contains}
use Rattle.circuit_theory.specs.Agree.{cut}
use Rattle.circuit_theory.specs.Circuit.{Circuit, Equation, Named, Holds, Meets}
use Rattle.circuit_theory.specs.Joined.{Either, Left, Right, joined, beside, moved, moved_name}
use Rattle.circuit_theory.specs.Tree.{AreNumbered, StandsBeside, IsInputNumber}
use Rattle.circuit_laws.proofs.JoinedParts.{meets_both}
use Rattle.circuit_laws.proofs.NetLaws.{net_value, net_value-extends}
use Rattle.circuit_laws.proofs.event_laws.ExposedEvents.{exposed_event_functions_agree_in_nets}
use Rattle.class_search.specs.flat_net.Cut.{IsCutCircuit}
use Rattle.class_search.specs.flat_net.View.{circuit_of}
use Rattle.class_search.proofs.flat_net.Nets.{sound_is_net}
use Rattle.event_nodes.specs.Nodes.{EventGraphView}
use Rattle.event_nodes.specs.View.{EventCircuitView}
use Rattle.edbf_unfold.specs.class_queries.Enables.{both_of, class_map}
use Rattle.edbf_unfold.specs.class_queries.Laws.{AreKept}
use Rattle.edbf_unfold.proofs.class_queries.Meaning.{numbered}
use Rattle.event_form.specs.event_agreement.Laws.{SameCutQueriesAgree}
use Rattle.event_form.proofs.event_agreement.PairQueries.{same_events}
use Rattle.event_form.proofs.event_agreement.SameCircuits.{AreSame, same_classes, same_depths, same_events as events_in_both}

same_numbered : (c d e f : Circuit ℕ) (left right : List ℕ) → AreSame c e → AreSame d f → AreNumbered c d left right → AreNumbered e f left right
same_numbered c d e f left right first second k = record {
  left_once = λ p q i h g. k.left_once p q i (left_back p i h) (left_back q i g);
  right_once = λ p q i h g. k.right_once p q i (right_back p i h) (right_back q i g);
  shared = λ p q i h g. (let x = k.shared p q i (left_back p i h) (right_back q i g) in
      (x.0, subst (λ (is : List (Named ℕ)). Contains is (record { name = x.0; place = p })) first.inputs x.1, subst (λ (is : List (Named ℕ)). Contains is (record { name = x.0; place = q })) second.inputs x.2));
}
  where
    left_back : (p i : ℕ) → IsInputNumber e left p i → IsInputNumber c left p i
    left_back p i h = subst (λ (is : List (Named ℕ)). StandsBeside is left p i) (sym first.inputs) h

    right_back : (p i : ℕ) → IsInputNumber f right p i → IsInputNumber d right p i
    right_back p i h = subst (λ (is : List (Named ℕ)). StandsBeside is right p i) (sym second.inputs) h

same_joined : (c d e f : Circuit ℕ) → AreSame c e → AreSame d f → AreSame (joined c d) (joined e f)
same_joined c d e f first second = record {
  inputs = λ i. map (moved_name Left) (first.inputs i) ++ map (moved_name Right) (second.inputs i);
  equations = λ i. map (moved Left) (first.equations i) ++ map (moved Right) (second.equations i);
}

module _ (c d : Circuit ℕ) (names : List (List ℕ)) (a b : EventCircuitView) (w : EventGraphView) (kept : AreKept a b w) (left_is : IsCutCircuit names c (circuit_of a.net)) (right_is : IsCutCircuit names d (circuit_of b.net)) where
  abbrev ca : Circuit ℕ
  ca = circuit_of a.net

  abbrev cb : Circuit ℕ
  cb = circuit_of b.net

  pub left_same : AreSame ca (cut names c)
  left_same = record { inputs = left_is.inputs; equations = left_is.equations }

  pub right_same : AreSame cb (cut names d)
  right_same = record { inputs = right_is.inputs; equations = right_is.equations }

  pub both_same : AreSame (joined ca cb) (joined (cut names c) (cut names d))
  both_same = same_joined ca cb (cut names c) (cut names d) left_same right_same

  pub some : Either ℕ ℕ → Bool
  some = beside (net_value ca (λ p. false)) (net_value cb (λ q. false))

  meets : Meets (joined ca cb) some
  unfolding some
  meets =
      meets_both ca cb (net_value ca (λ p. false)) (net_value cb (λ q. false))
      (net_value-extends ca (length a.net.drivers) (sound_is_net a.net kept.left_sound) (λ p. false)).meets (net_value-extends cb (length b.net.drivers) (sound_is_net b.net kept.right_sound) (λ q. false)).meets

  pub cut_meets : Meets (joined (cut names c) (cut names d)) some
  cut_meets = subst (λ (es : List (Equation (Either ℕ ℕ))). All (Holds some) es) both_same.equations meets

pub cut_queries_agree : SameCutQueriesAgree
cut_queries_agree c d m n names a b w nc nd left_names right_names minimal left_is right_is kept classes depths numbers same =
    exposed_event_functions_agree_in_nets c d m n names a.order b.order (class_map a b) nc nd left_names right_names minimal
    (same_numbered (circuit_of a.net) (circuit_of b.net) (cut names c) (cut names d) a.order b.order (left_same c d names a b w kept left_is right_is) (right_same c d names a b w kept left_is right_is) numbers)
    (numbered a kept.left ∙ ap length left_is.inputs) (numbered b kept.right ∙ ap length right_is.inputs)
    (same_classes (joined (circuit_of a.net) (circuit_of b.net)) (joined (cut names c) (cut names d)) both (some c d names a b w kept left_is right_is) holds (a.order ++ b.order) (class_map a b) classes)
    (same_depths (joined (circuit_of a.net) (circuit_of b.net)) (joined (cut names c) (cut names d)) both (some c d names a b w kept left_is right_is) holds (a.order ++ b.order) (class_map a b) depths)
    (λ p q pair. (let k = same p q pair in events_in_both (joined (circuit_of a.net) (circuit_of b.net)) (joined (cut names c) (cut names d)) both (some c d names a b w kept left_is right_is) holds (a.order ++ b.order) (class_map a b) (Left p) (Right q)
    (same_events (both_of a b) w (Left p) (Right q) k.query kept.events k.asks k.same)))
  where
    both : AreSame (joined (circuit_of a.net) (circuit_of b.net)) (joined (cut names c) (cut names d))
    both = both_same c d names a b w kept left_is right_is

    holds : Meets (joined (cut names c) (cut names d)) (some c d names a b w kept left_is right_is)
    holds = cut_meets c d names a b w kept left_is right_is
