-- Bits of variables: by their numbers in an event graph, and as a frame.
use Rattle.std.proofs.Common.{◌≡◌, ◌∙◌, ℕ, ◌<◌, Bool, true, false, cond, List, [], ◌∷◌, length, get_or, slice_get, Some, refl, sym, ap, arith}
use Rattle.std.specs.Prelude.{◌&&◌, ◌==◌}
use Rattle.std.specs.List.{All}
use Rattle.std.proofs.lemmas.List.Elements.{All-head, All-tail}
use Rattle.std.proofs.lemmas.Option.{slice_get-get_or, same_Some}
use Rattle.circuit_theory.specs.Names.{same_name}
use Rattle.circuit_theory.specs.Query.{Variable}
use Rattle.circuit_theory.proofs.Inputs.{test_same, test_refl, same_name-sound}
use Rattle.circuit_theory.proofs.Lists.{length-map}
use Rattle.circuit_theory.proofs.Numbers.{same_name-refl}
use Rattle.circuit_theory.specs.EventFrames.{frame_of}
use Rattle.event_nodes.specs.Nodes.{EventGraphView, IsEventGraph, named_places, path_of}
use Rattle.class_search.specs.event_variables.Variables.{variable_of, variables_of}
use Rattle.class_search.proofs.event_variables.Named.{named_distinct}
use Rattle.edbf_unfold.specs.Laws.{TakesFrame}
use Rattle.class_search.specs.pair_decide.Queries.{assigned_to}

module _ (w : EventGraphView) (is : IsEventGraph w) (v : ℕ) (p : ℕ × List ℕ) (at : slice_get (named_places w) v ≡ Some p) where
  module _ (u : ℕ) (below : u < length w.places) where
    abbrev x : Variable (List ℕ)
    x = variable_of w u

    here : slice_get (named_places w) u ≡ Some (get_or (named_places w) u (0, []))
    here =
        let many = length-map {Y = ℕ × List ℕ} (λ (q : ℕ × ℕ). (q.0, path_of w.children q.1)) w.places in
        slice_get-get_or (named_places w) u (0, []) (omega (arith, below, many))

    same_place : u ≡ v → get_or (named_places w) u (0, []) ≡ p
    same_place e = same_Some (get_or (named_places w) u (0, [])) p (sym here ∙ (ap (slice_get (named_places w)) e ∙ at))

    apart : (u ≡ v → ⊥) → (b c : Bool) → (x.input == p.0) ≡ b → same_name x.at p.1 ≡ c → ((x.input == p.0) && same_name x.at p.1) ≡ false
    apart ne false c e f = ap (λ t. t && same_name x.at p.1) e
    apart ne true false e f = ap (λ t. t && same_name x.at p.1) e ∙ f
    apart ne true true e f =
        let input : x.input ≡ p.0 = test_same x.input p.0 e in
        let path : x.at ≡ p.1 = same_name-sound x.at p.1 f in
        let one : get_or (named_places w) u (0, []) ≡ p = λ i. (input i, path i) in
        absurd (ne (named_distinct w is u v p (here ∙ ap Some one) at))

    one_test : (u == v) ≡ ((x.input == p.0) && same_name x.at p.1)
    one_test = go (u == v) refl
      where
        no_true_false : true ≡ false → ⊥
        no_true_false q = cc

        go : (b : Bool) → (u == v) ≡ b → (u == v) ≡ ((x.input == p.0) && same_name x.at p.1)
        go true e =
            let place = same_place (test_same u v e) in
            let input : (x.input == p.0) ≡ true = ap (λ i. i == p.0) (ap (λ (q : ℕ × List ℕ). q.0) place) ∙ test_refl p.0 in
            let path : same_name x.at p.1 ≡ true = ap (λ l. same_name l p.1) (ap (λ (q : ℕ × List ℕ). q.1) place) ∙ same_name-refl p.1 in
            e ∙ sym (ap (λ t. t && same_name x.at p.1) input ∙ path)
        go false e = e ∙ sym (apart (λ same. no_true_false (sym (ap (λ n. n == v) same ∙ test_refl v) ∙ e)) (x.input == p.0) (same_name x.at p.1) refl refl)

  -- a number of the graph has the bit of its input at its node
  pub bit_alike : (vars : List ℕ) (bits : List Bool) → All (λ u. u < length w.places) vars → assigned_to vars bits v ≡ frame_of (variables_of w vars) bits p.0 p.1
  bit_alike [] bits within = refl
  bit_alike (u ∷ us) [] within = refl
  bit_alike (u ∷ us) (bit ∷ bits) within =
      ap (λ t. cond t bit (assigned_to us bits v)) (one_test u (All-head (λ k. k < length w.places) u us within))
      ∙ ap (λ r. cond (((variable_of w u).input == p.0) && same_name (variable_of w u).at p.1) bit r) (bit_alike us bits (All-tail (λ k. k < length w.places) u us within))

-- the frame of the variables' bits is that of the assignment
pub bits_take_frame : (w : EventGraphView) → IsEventGraph w → (vars : List ℕ) (bits : List Bool) → All (λ u. u < length w.places) vars → TakesFrame w (frame_of (variables_of w vars) bits) (assigned_to vars bits)
bits_take_frame w is vars bits within v p at = bit_alike w is v p at vars bits within
