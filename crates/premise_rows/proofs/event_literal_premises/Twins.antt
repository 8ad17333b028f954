-- The premises on twins, and on what stays of them, are met.
use Rattle.std.proofs.Common.{◌≡◌, ◌≢◌, ◌∙◌, ℕ, Bool, true, false, List, [], ◌∷◌, ◌++◌, refl, sym, ap, subst, append_assoc, arith}
use Rattle.std.specs.Prelude.{◌==◌, if◌then◌else◌, codes}
use Rattle.circuit_theory.specs.EventTotals.{IsMapSoFar}
use Rattle.circuit_theory.specs.Frame.{IsEnable}
use Rattle.circuit_theory.specs.Joined.{Either, Left, Right}
use Rattle.circuit_theory.specs.Run.{IsEnabled}
use Rattle.circuit_theory.proofs.Inputs.{test_same}
use Rattle.circuit_laws.proofs.JoinedParts.{joined_same}
use Rattle.event_nodes.specs.aig.Values.{value, lit_bit, node_bits, bits_from}
use Rattle.event_nodes.specs.Nodes.{GrowsEvents}
use Rattle.edbf_unfold.specs.class_queries.Enables.{class_map, IsEnableFunction}
use Rattle.edbf_unfold.specs.class_queries.Laws.{AreKept}
use Rattle.edbf_unfold.proofs.class_queries.Meaning.{twins_law}
use Rattle.edbf_unfold.proofs.class_queries.Staying.{functions_stay_in_nets, functions_grow_with_graph}
use Rattle.call_rows.proofs.circuit_samples.event_samples.HoldCells.{enable_care, hold_enable}
use Rattle.premise_rows.specs.event_pair_premises.Differing.{at_root, two_inputs}
use Rattle.premise_rows.specs.event_pair_premises.Held.{loads_a, loads_not_a, both_held, at_load}
use Rattle.premise_rows.specs.event_literal_premises.Twins.{of_own_class, TwinsMeetPremises}
use Rattle.premise_rows.proofs.event_pair_premises.Differing.{root_kept}
use Rattle.premise_rows.proofs.event_pair_premises.HeldPair.{kept as load_pair_kept, left_circuit, right_circuit, whole, left_net, right_net, single, number_once, left_q, right_q, left_latch, right_latch, all_hold, depths, class_map as held_map, latch_order}

kept : AreKept loads_a loads_not_a at_root
kept = record { left_sound = load_pair_kept.left_sound; right_sound = load_pair_kept.right_sound; left = load_pair_kept.left; right = load_pair_kept.right; events = root_kept }

-- the literals are the variable e and 1
e_value : (a : ℕ → Bool) → value two_inputs a 2 ≡ a 0
unfolding value node_bits bits_from lit_bit
e_value a = refl

one_value : (a : ℕ → Bool) → value two_inputs a 1 ≡ true
unfolding value node_bits bits_from lit_bit
one_value a = refl

-- so where an enable is e at the root, and each frame has care for it
function : (u : Either ℕ ℕ) → ((bits : ℕ → List ℕ → Bool) → IsEnable both_held (IsEnabled whole) bits u [] (bits 0 [])) → IsEnableFunction both_held at_root u 2 1
function u is = record {
  enable_within = omega arith;
  care_within = omega arith;
  enable_is = λ bits a fits. subst (λ b. IsEnable both_held (IsEnabled whole) bits u [] b) (sym (e_value a ∙ fits 0 (0, []) refl)) (is bits);
  care_is = λ bits a fits. (λ h. enable_care both_held joined_same single number_once all_hold bits u, λ h. one_value a);
}

left_is : IsEnableFunction both_held at_root (Left 2) 2 1
left_is = function (Left 2) (λ bits. hold_enable both_held joined_same single number_once (codes "q") (Left 2) (Left 3) left_latch left_q bits [])

right_is : IsEnableFunction both_held at_root (Right 2) 2 1
right_is = function (Right 2) (λ bits. hold_enable both_held joined_same single number_once (codes "q") (Right 2) (Right 3) right_latch right_q bits [])

-- the class map of both as far as A's latch is taken
so_far : IsMapSoFar both_held (Left 2 ∷ []) (Right 2 ∷ [])
so_far = record {
  is_order = latch_order;
  plain = held_map.plain;
  each = λ front after v d. held_map.each front (after ++ Right 2 ∷ []) v (ap (λ (us : List (Either ℕ ℕ)). us ++ Right 2 ∷ []) d ∙ append_assoc front (v ∷ after) (Right 2 ∷ []));
}

others_keep : (u : Either ℕ ℕ) → u ≢ Right 2 → both_held.class u ≡ class_map loads_a of_own_class u
others_keep (Left p) n = refl
others_keep (Right q) n = go (2 == q) refl
  where
    go : (b : Bool) → (2 == q) ≡ b → ◌≡◌ {A = ℕ} (if b then 1 else 0) (if b then 2 else 0)
    go true e = absurd (n (sym (ap Right (test_same 2 q e))))
    go false e = refl

grows : GrowsEvents at_root at_load
grows = record { graph = (_, refl); children = (_, refl); places = (_, refl) }

pub twins_meet_premises : TwinsMeetPremises
twins_meet_premises = record {
  kept = kept;
  left_is = left_is;
  right_is = right_is;
  twins = twins_law loads_a loads_not_a at_root kept (Left 2) (Right 2) 2 1 left_is right_is;
  left_net = left_net;
  right_net = right_net;
  depths = depths;
  so_far = so_far;
  others_keep = others_keep;
  is_next = (1, omega arith, refl);
  stays = functions_stay_in_nets left_circuit right_circuit 5 5 (0 ∷ 1 ∷ []) (0 ∷ 1 ∷ []) both_held.class (class_map loads_a of_own_class) (Left 2 ∷ []) [] (Right 2) left_net right_net depths so_far others_keep at_root (Right 2) 2 1 (1, omega arith, refl) right_is;
  grows = grows;
  later = functions_grow_with_graph both_held at_root at_load (Right 2) 2 1 root_kept grows right_is;
}
