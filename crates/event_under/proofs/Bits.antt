-- Bits of variables: by their numbers among places, and as a frame.
use Rattle.std.proofs.Common.{◌≡◌, ◌∙◌, ℕ, ◌<◌, Bool, true, false, cond, List, [], ◌∷◌, length, get_or, slice_get, Some, refl, sym, ap}
use Rattle.std.specs.Prelude.{◌&&◌, ◌==◌}
use Rattle.std.specs.List.{All}
use Rattle.std.proofs.lemmas.List.Elements.{All-head, All-tail}
use Rattle.std.proofs.lemmas.Option.{slice_get-get_or, get_or_from_slice_get, same_Some}
use Rattle.circuit_theory.specs.Names.{same_name}
use Rattle.circuit_theory.specs.Query.{Variable}
use Rattle.circuit_theory.proofs.Inputs.{test_same, test_refl, same_name-sound}
use Rattle.circuit_theory.proofs.Numbers.{same_name-refl}
use Rattle.circuit_theory.specs.EventFrames.{frame_of}
use Rattle.base_tables.specs.Table.{AreDistinct}
use Rattle.obligations.specs.outcome.pair_decide.Queries.{assigned_to}
use Rattle.aig.specs.Builds.{TakesBits}
use Rattle.event_under.specs.Asked.{variable_in, variables_in}

module _ (places : List (ℕ × List ℕ)) (distinct : AreDistinct places) (v : ℕ) (p : ℕ × List ℕ) (at : slice_get places v ≡ Some p) where
  module _ (u : ℕ) (below : u < length places) where
    abbrev x : Variable (List ℕ)
    x = variable_in places u

    here : slice_get places u ≡ Some (get_or places u (0, []))
    here = slice_get-get_or places u (0, []) below

    same_place : u ≡ v → get_or places u (0, []) ≡ p
    same_place e = same_Some (get_or places u (0, [])) p (sym here ∙ (ap (slice_get places) e ∙ at))

    apart : (u ≡ v → ⊥) → (b c : Bool) → (x.input == p.0) ≡ b → same_name x.at p.1 ≡ c → ((x.input == p.0) && same_name x.at p.1) ≡ false
    apart ne false c e f = ap (λ t. t && same_name x.at p.1) e
    apart ne true false e f = ap (λ t. t && same_name x.at p.1) e ∙ f
    apart ne true true e f =
        let input : x.input ≡ p.0 = test_same x.input p.0 e in
        let path : x.at ≡ p.1 = same_name-sound x.at p.1 f in
        let one : get_or places u (0, []) ≡ p = λ i. (input i, path i) in
        absurd (ne (distinct u v p (here ∙ ap Some one) at))

    one_test : (u == v) ≡ ((x.input == p.0) && same_name x.at p.1)
    one_test = go (u == v) refl
      where
        no_true_false : true ≡ false → ⊥
        no_true_false q = cc

        go : (b : Bool) → (u == v) ≡ b → (u == v) ≡ ((x.input == p.0) && same_name x.at p.1)
        go true e =
            let place = same_place (test_same u v e) in
            let input : (x.input == p.0) ≡ true = ap (λ i. i == p.0) (ap (λ (q : ℕ × List ℕ). q.0) place) ∙ test_refl p.0 in
            let path : same_name x.at p.1 ≡ true = ap (λ l. same_name l p.1) (ap (λ (q : ℕ × List ℕ). q.1) place) ∙ same_name-refl p.1 in
            e ∙ sym (ap (λ t. t && same_name x.at p.1) input ∙ path)
        go false e = e ∙ sym (apart (λ same. no_true_false (sym (ap (λ n. n == v) same ∙ test_refl v) ∙ e)) (x.input == p.0) (same_name x.at p.1) refl refl)

  -- a number has the bit of its input at its node
  bit_alike : (vars : List ℕ) (bits : List Bool) → All (λ u. u < length places) vars → assigned_to vars bits v ≡ frame_of (variables_in places vars) bits p.0 p.1
  bit_alike [] bits within = refl
  bit_alike (u ∷ us) [] within = refl
  bit_alike (u ∷ us) (bit ∷ bits) within =
      ap (λ t. cond t bit (assigned_to us bits v)) (one_test u (All-head (λ k. k < length places) u us within))
      ∙ ap (λ r. cond (((variable_in places u).input == p.0) && same_name (variable_in places u).at p.1) bit r) (bit_alike us bits (All-tail (λ k. k < length places) u us within))

-- the frame of the variables' bits is that of the assignment
pub bits_take : (places : List (ℕ × List ℕ)) → AreDistinct places → (vars : List ℕ) (bits : List Bool) → All (λ u. u < length places) vars → TakesBits places (frame_of (variables_in places vars) bits) (assigned_to vars bits)
bits_take places distinct vars bits within v p at = bit_alike places distinct v p at vars bits within

-- the assignment of a frame
pub assignment_in : List (ℕ × List ℕ) → (ℕ → List ℕ → Bool) → ℕ → Bool
assignment_in places bits v = bits (get_or places v (0, [])).0 (get_or places v (0, [])).1

pub takes_assignment : (places : List (ℕ × List ℕ)) (bits : ℕ → List ℕ → Bool) → TakesBits places bits (assignment_in places bits)
unfolding assignment_in
takes_assignment places bits v p at = ap (λ (q : ℕ × List ℕ). bits q.0 q.1) (get_or_from_slice_get places v p (0, []) at)
