-- Since when the pairs are settled that are found so is right in every two runs over the stimulus.
use Rattle.std.proofs.Common.{◌≡◌, ℕ, ◌+◌, ◌-◌, ◌<◌, ◌≤◌, Bool, List, length, slice_get, Option, Some, None, inl, inr, ◌⊎◌, subst, arith}
use Rattle.std.proofs.lemmas.Option.{slice_get_within}
use Rattle.circuit_theory.specs.declared.Mode.{Mode}
use Rattle.circuit_theory.specs.Circuit.{Circuit}
use Rattle.circuit_theory.specs.Agree.{PairAt, EnabledIn, IsSettled}
use Rattle.circuit_laws.proofs.Marks.{marks_stay}
use Rattle.flat_net.proofs.Nets.{some_at}
use Rattle.cycle_sim.specs.declared.pair_runs.shown.Shown.{Shown}
use Rattle.cycle_sim.specs.pair_runs.Listing.{IsSettledIn, IsFirstIn}
use Rattle.job_circuit.specs.replay.Replay.{AreBothSettled, IsSettledFrom}
use Rattle.job_circuit.proofs.replay.Differ.{AreRight}
use Rattle.job_circuit.proofs.replay.replay_header.Tests.{and_both, both_and}

before_or_not : (t first : ℕ) → (t < first) ⊎ (first ≤ t)
before_or_not t first = grind arith

-- what is settled stays so
settled_later : (mode : Mode) (c : Circuit ℕ) (run : ℕ → ℕ → Bool) (first t p : ℕ) → first ≤ t → IsSettled mode c run first p → IsSettled mode c run t p
settled_later mode c run first t p h mark =
    let e : first + (t - first) ≡ t = omega (arith, h) in
    subst (λ s. IsSettled mode c run s p) e (marks_stay c (EnabledIn mode c) run first (t - first) mark)

module _ (mode : Mode) (a b : Circuit ℕ) (pairs : List (PairAt ℕ ℕ)) (n : ℕ) (left right : ℕ → ℕ → Bool) (cycles : List (List Shown)) (all : length cycles ≡ n)
    (are : (t : ℕ) (shown : List Shown) → slice_get cycles t ≡ Some shown → AreRight mode a b pairs left right t shown) (j : ℕ) (pair : PairAt ℕ ℕ) (at : slice_get pairs j ≡ Some pair) where
  -- the pair is settled in both runs where its marks are shown
  both_settled : (t : ℕ) → IsSettledIn cycles j t → AreBothSettled mode a b left right pair t
  both_settled t h =
      let s = (are t h.shown h.cycle_at).right_is j pair h.both at h.pair_at in
      let marks = and_both h.both.left_mark h.both.right_mark h.settled in
      (s.left_mark.0 marks.0, s.right_mark.0 marks.1)

  shown_settled : (t : ℕ) → t < n → AreBothSettled mode a b left right pair t → IsSettledIn cycles j t
  shown_settled t h both =
      let shown = some_at cycles t (omega (arith, h, all)) in
      let is = are t shown.0 shown.1 in
      let e = is.each in
      let s = some_at shown.0 j (let w = slice_get_within pairs j pair at in omega (arith, w, e)) in
      let marks = is.right_is j pair s.0 at s.1 in
      record { shown = shown.0; both = s.0; cycle_at = shown.1; pair_at = s.1; settled = both_and s.0.left_mark s.0.right_mark (marks.left_mark.1 both.0) (marks.right_mark.1 both.1) }

  pub settled_from : (first : Option ℕ) → IsFirstIn cycles j first → IsSettledFrom mode a b n left right pair first
  settled_from None is = λ t h both. is t (shown_settled t h both)
  settled_from (Some first) is = (
    (let w = slice_get_within cycles first is.0.shown is.0.cycle_at in omega (arith, w, all)),
    λ t h. (λ both. not_before t h both (before_or_not t first), λ later. (settled_later mode a left first t pair.left later here.0, settled_later mode b right first t pair.right later here.1)),
  )
    where
      here : AreBothSettled mode a b left right pair first
      here = both_settled first is.0

      not_before : (t : ℕ) → t < n → AreBothSettled mode a b left right pair t → (t < first) ⊎ (first ≤ t) → first ≤ t
      not_before t h both (inl before) = absurd (is.1 t before (shown_settled t h both))
      not_before t h both (inr later) = later
