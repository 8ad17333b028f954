-- Circuits without latches: none of them is cut out, and what their unfoldings visit is visited in the same cycle.
use Rattle.std.proofs.Common.{◌≡◌, ℕ, Bool, List, [], ◌∷◌, refl, subst, arith}
use Rattle.std.specs.List.{Contains}
use Rattle.circuit_theory.specs.Agree.{cut}
use Rattle.circuit_theory.specs.Circuit.{Circuit, Latch, IsLatch}
use Rattle.circuit_theory.specs.Flattened.{latch_names}
use Rattle.circuit_theory.specs.Sizes.{Visits}
use Rattle.circuit_theory.proofs.Lists.{Contains-head}
use Rattle.circuit_laws.proofs.Parted.{kept_equation}
use Rattle.flat_net.specs.View.{NetView, circuit_of}
use Rattle.sec_setup.specs.Cuts.{IsChoice}
use Rattle.pair_texts.proofs.design_rows.Spelling.{latch_in}

none_in : {X : Type 0} (x : X) → Contains [] x → ⊥
none_in x h = let l = h.1 in omega (arith, l)

pub cut_latchless : (names : List (List ℕ)) (c : Circuit ℕ) → latch_names c.equations ≡ [] → (name : List ℕ) (u next : ℕ) → IsLatch (cut names c) name u next → ⊥
cut_latchless names c none name u next h = none_in name (subst (λ (ns : List (List ℕ)). Contains ns name) none (latch_in c.equations name u next (kept_equation names c (Latch name u next) h)))

module _ (c : Circuit ℕ) (latchless : (name : List ℕ) (u next : ℕ) → IsLatch c name u next → ⊥) where
  pub visits_now : {p : ℕ} {k : ℕ} {q : ℕ} {j : ℕ} → Visits c p k q j → j ≡ k
  visits_now Visits.itself = refl
  visits_now (Visits.reads v r) = visits_now v
  visits_now (Visits.back {q = q} {next = next} {name = name} v l) = absurd (latchless name q next l)

pub none_chosen : (a b : NetView) → latch_names (circuit_of a).equations ≡ [] → (expose : Bool) (names : List (List ℕ)) → IsChoice a b expose names → names ≡ []
none_chosen a b none expose [] choice = refl
none_chosen a b none expose (name ∷ names) choice =
    let x = choice.minimal.common name (Contains-head name names) in
    absurd (none_in name (subst (λ (ns : List (List ℕ)). Contains ns name) none (latch_in (circuit_of a).equations name x.0 x.1 x.4)))
