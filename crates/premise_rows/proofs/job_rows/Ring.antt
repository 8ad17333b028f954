-- Of two latches that take over each other at most one is cut open.
use Rattle.std.proofs.Common.{◌≡◌, ℕ, List, [], ◌∷◌, refl, sym, subst, arith, inl, inr}
use Rattle.std.specs.Prelude.{codes, ◌⊎◌}
use Rattle.std.specs.List.{Contains}
use Rattle.circuit_theory.specs.Depth.{HasCycle}
use Rattle.circuit_theory.specs.Run.{NoneEnabled}
use Rattle.circuit_theory.proofs.Lists.{Contains-head, Contains-tail, Contains-cases}
use Rattle.blif_read.specs.blif_lines.Lines.{cut_line, going_on}
use Rattle.blif_read.specs.Fault.{fault_of}
use Rattle.blif_read.specs.Heads.{head_of}
use Rattle.flat_net.specs.View.{NetView, circuit_of}
use Rattle.job_base.specs.sec_files.Loading.{Loads}
use Rattle.pair_texts.specs.design_rows.Designs as design
use Rattle.pair_texts.specs.design_rows.Small.{small_ring, IsSmall}
use Rattle.pair_texts.proofs.design_rows.Examples.{ring_is_small}
use Rattle.pair_texts.specs.design_rows.Texts.{ring}
use Rattle.premise_rows.specs.job_rows.Ring.{RingIsCutOnce}
use Rattle.pair_texts.proofs.design_rows.Spelling.{Spells, net_is_small, latch_in}

first_spells : Spells ring design.ring (small_ring (codes "p") 6)
unfolding fault_of head_of cut_line going_on
first_spells = record { short = omega arith; format = refl; faultless = refl; models_are = refl; small = ring_is_small.0 }

second_spells : Spells ring design.ring (small_ring (codes "q") 5)
unfolding fault_of head_of cut_line going_on
second_spells = record { short = omega arith; format = refl; faultless = refl; models_are = refl; small = ring_is_small.1 }

module _ (net : NetView) (l : Loads ring net) where
  first : IsSmall (small_ring (codes "p") 6) net
  first = net_is_small ring design.ring (small_ring (codes "p") 6) first_spells net l

  second : IsSmall (small_ring (codes "q") 5) net
  second = net_is_small ring design.ring (small_ring (codes "q") 5) second_spells net l

  -- its latches are the two
  p_or_q : (name : List ℕ) → Contains (codes "p" ∷ codes "q" ∷ []) name → (codes "p" ≡ name) ⊎ (codes "q" ≡ name)
  p_or_q name h =
      elim (Contains-cases (codes "p") name (codes "q" ∷ []) h) [
        | inl same ↦ inl same
        | inr k ↦ elim (Contains-cases (codes "q") name [] k) [ inl same ↦ inr same | inr none ↦ absurd (let m = none.1 in omega (arith, m)) ]
      ]

  -- without either, and any more, no cycle is left
  broken : (name : List ℕ) (more : List (List ℕ)) → (codes "p" ≡ name) ⊎ (codes "q" ≡ name) → HasCycle (circuit_of net) NoneEnabled (name ∷ more) → ⊥
  broken name more (inl same) h = first.acyclic more (subst (λ (n : List ℕ). HasCycle (circuit_of net) NoneEnabled (n ∷ more)) (sym same) h)
  broken name more (inr same) h = second.acyclic more (subst (λ (n : List ℕ). HasCycle (circuit_of net) NoneEnabled (n ∷ more)) (sym same) h)

pub ring_is_cut_once : RingIsCutOnce
ring_is_cut_once a b la lb [] choice = omega arith
ring_is_cut_once a b la lb (name ∷ []) choice = omega arith
ring_is_cut_once a b la lb (name ∷ other ∷ names) choice =
    let x = choice.minimal.common other (Contains-tail name other (other ∷ names) (Contains-head other names)) in
    let which = p_or_q a la other (subst (λ (ns : List (List ℕ)). Contains ns other) (first a la).latches (latch_in (circuit_of a).equations other x.0 x.1 x.4)) in
    absurd (elim (choice.minimal.needed 0 (omega arith)) [ inl h ↦ broken a la other names which h | inr h ↦ broken b lb other names which h ])
