-- Where all pairs of the cut circuits are equal, the circuits agree, and agree onward.
use Rattle.std.proofs.Common.{◌≡◌, ◌∙◌, ◌++◌, ℕ, Bool, false, List, length, map, sym, ap, subst}
use Rattle.std.specs.List.{All, AllZip, Contains}
use Rattle.std.proofs.lemmas.List.Elements.{All-contains}
use Rattle.circuit_theory.specs.Agree.{cut, IsPair, Agree, AgreeOnward}
use Rattle.circuit_theory.specs.declared.Mode.TheVariants.{Event}
use Rattle.circuit_theory.specs.Circuit.{Circuit, Equation, Holds, Meets}
use Rattle.circuit_theory.specs.Depth.{LatchesHaveDepths}
use Rattle.circuit_theory.specs.Joined.{Either, Left, Right, joined, beside, moved, moved_name}
use Rattle.circuit_theory.specs.Run.{IsEnabled}
use Rattle.circuit_theory.proofs.Lists.{Contains-map_from, at_of, of_at, zip_right}
use Rattle.circuit_laws.proofs.JoinedParts.{meets_both}
use Rattle.circuit_laws.proofs.NetLaws.{net_value, net_value-extends}
use Rattle.circuit_theory.specs.Classes.{HasClasses}
use Rattle.circuit_theory.specs.EventFits.{HaveEqualEvents}
use Rattle.circuit_laws.proofs.event_laws.ExposedEvents.{exposed_event_functions_agree_in_nets}
use Rattle.circuit_laws.proofs.event_laws.SideParts.{sides_are_parts_in_nets}
use Rattle.flat_net.specs.View.{NetView, circuit_of}
use Rattle.flat_net.proofs.Nets.{sound_is_net, sound_names}
use Rattle.sec_setup.specs.declared.ports.pairs.SignalPair.{SignalPair}
use Rattle.sec_setup.specs.ports.Pairs.{NamedPair, named_pairs, places_of}
use Rattle.sec_base.specs.declared.basics.PairAnswer.TheVariants as answer
use Rattle.plain_check.specs.under_base.compare_base.Cuts.{columns_of}
use Rattle.event_setup.proofs.read_inputs.CutNets.{cut_numbered}
use Rattle.obligations.specs.declared.outcome.verdict.PairResult.{PairResult}
use Rattle.plain_check.proofs.under_base.compare_base.CutPairs.{one_output, pair_listed}
use Rattle.edbf_unfold.specs.class_queries.Enables.{both_of, class_map}
use Rattle.edbf_unfold.proofs.class_queries.Meaning.{numbered}
use Rattle.event_form.proofs.event_agreement.SameCircuits.{AreSame, same_classes, same_depths, same_events}
use Rattle.obligations.proofs.Fits.{equal_fits}
use Rattle.event_form.specs.Answers.{PairFits}
use Rattle.event_nodes.specs.View.{EventCircuitView}
use Rattle.event_setup.specs.event_meaning.event_names.event_fits.Circuits.{AreEventCircuits, AreNets}

same_joined : (c d e f : Circuit ℕ) → AreSame c e → AreSame d f → AreSame (joined c d) (joined e f)
same_joined c d e f first second = record {
  inputs = λ i. map (moved_name Left) (first.inputs i) ++ map (moved_name Right) (second.inputs i);
  equations = λ i. map (moved Left) (first.equations i) ++ map (moved Right) (second.equations i);
}

module _ (a b : NetView) (expose : Bool) (names : List (List ℕ)) (left right : EventCircuitView) (nets : AreNets a b) (k : AreEventCircuits a b expose names left right) (classes : HasClasses (both_of left right)) (open_latches : Bool) (conflicts : ℕ)
    (pairs : List SignalPair) (results : List PairResult) (listed : map places_of pairs ≡ named_pairs names (circuit_of a) (circuit_of b)) (fits : AllZip (PairFits (both_of left right) open_latches conflicts) pairs results)
    (equal : All (λ (r : PairResult). r.answer ≡ answer.Equal) results) where
  abbrev ca : Circuit ℕ
  ca = circuit_of left.net

  abbrev cb : Circuit ℕ
  cb = circuit_of right.net

  abbrev left_cut : Circuit ℕ
  left_cut = cut names (circuit_of a)

  abbrev right_cut : Circuit ℕ
  right_cut = cut names (circuit_of b)

  -- each pair that is compared has equal event functions
  pair_equal : (p q : ℕ) → IsPair names (circuit_of a) (circuit_of b) p q → HaveEqualEvents (both_of left right) (Left p) (Right q)
  pair_equal p q is_pair =
      let x = pair_listed names (circuit_of a) (circuit_of b) (sound_is_net a nets.left).single (sound_is_net b nets.right).single (sound_names a nets.left) (sound_names b nets.right) (one_output b nets.right_distinct) p q is_pair in
      let y = Contains-map_from places_of pairs x.0 (subst (λ (xs : List (NamedPair ℕ ℕ)). Contains xs x.0) (sym listed) x.1) in
      let at = at_of pairs y.0 y.1 in
      let r = zip_right (PairFits (both_of left right) open_latches conflicts) pairs results fits at.0 y.0 at.1 in
      let answered = All-contains (λ (z : PairResult). z.answer ≡ answer.Equal) results r.0 equal (of_at results at.0 r.0 r.1) in
      let at_left : y.0.left.0 ≡ p = ap (λ (z : NamedPair ℕ ℕ). z.left) y.2 ∙ x.2 in
      let at_right : y.0.right.0 ≡ q = ap (λ (z : NamedPair ℕ ℕ). z.right) y.2 ∙ x.3 in
      subst (λ z. HaveEqualEvents (both_of left right) (Left p) (Right z)) at_right
      (subst (λ z. HaveEqualEvents (both_of left right) (Left z) (Right y.0.right.0)) at_left (equal_fits _ _ _ r.0.answer r.0.proof r.2.answer_is answered))

  left_same : AreSame ca left_cut
  left_same = let is = k.are_cut.left_circuit in record { inputs = is.inputs; equations = is.equations }

  right_same : AreSame cb right_cut
  right_same = let is = k.are_cut.right_circuit in record { inputs = is.inputs; equations = is.equations }

  both_same : AreSame (joined ca cb) (joined left_cut right_cut)
  both_same = same_joined ca cb left_cut right_cut left_same right_same

  some : Either ℕ ℕ → Bool
  some = beside (net_value ca (λ p. false)) (net_value cb (λ q. false))

  meets : Meets (joined ca cb) some
  unfolding some
  meets =
      meets_both ca cb (net_value ca (λ p. false)) (net_value cb (λ q. false))
      (net_value-extends ca (length left.net.drivers) (sound_is_net left.net k.left_ready.sound) (λ p. false)).meets (net_value-extends cb (length right.net.drivers) (sound_is_net right.net k.right_ready.sound) (λ q. false)).meets

  cut_meets : Meets (joined left_cut right_cut) some
  cut_meets = subst (λ (es : List (Equation (Either ℕ ℕ))). All (Holds some) es) both_same.equations meets

  deep : LatchesHaveDepths (joined ca cb) (IsEnabled (joined ca cb))
  deep =
      (sides_are_parts_in_nets ca cb (length left.net.drivers) (length right.net.drivers) (sound_is_net left.net k.left_ready.sound) (sound_is_net right.net k.right_ready.sound)).4 k.left_ready.depths k.right_ready.depths

  pub circuits_agree : Agree Event (circuit_of a) (circuit_of b) × AgreeOnward Event names (circuit_of a) (circuit_of b)
  circuits_agree =
      let order = left.order ++ right.order in
      let class = class_map left right in
      exposed_event_functions_agree_in_nets (circuit_of a) (circuit_of b) (length a.drivers) (length b.drivers) names left.order right.order class
      (sound_is_net a nets.left) (sound_is_net b nets.right) (sound_names a nets.left) (sound_names b nets.right) k.minimal
      (cut_numbered names (columns_of a b names) left.order right.order a b left.net right.net k.are_cut.left_circuit k.are_cut.right_circuit k.left_columns.numbers k.right_columns.numbers)
      (numbered left k.left_ready.marked ∙ ap length left_same.inputs) (numbered right k.right_ready.marked ∙ ap length right_same.inputs)
      (same_classes (joined ca cb) (joined left_cut right_cut) both_same some cut_meets order class classes)
      (same_depths (joined ca cb) (joined left_cut right_cut) both_same some cut_meets order class deep)
      (λ p q pair. same_events (joined ca cb) (joined left_cut right_cut) both_same some cut_meets order class (Left p) (Right q) (pair_equal p q pair))
