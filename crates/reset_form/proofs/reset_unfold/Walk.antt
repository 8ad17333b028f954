-- What a walk comes to is what the unfolding of its signal visits.
use Rattle.std.proofs.Common.{◌≡◌, ℕ, suc, List, [], ◌∷◌, length, sym, subst, arith, inl, inr}
use Rattle.circuit_theory.specs.Circuit.{Circuit}
use Rattle.circuit_theory.proofs.Lists.{Contains-head}
use Rattle.flat_net.specs.View.{NetView, circuit_of}
use Rattle.flat_net.specs.Sound.{IsSound}
use Rattle.circuit_laws.specs.reset_laws.Weight.{ResetVisits, IsResetOver}
use Rattle.aig.specs.declared.node.Lit.{Lit}
use Rattle.cbf_unfold.specs.unfold_places.Places.{Steps}
use Rattle.cbf_unfold.specs.unfold_places.Walk.{Comes, IsWalk, IsTooLong}
use Rattle.reset_form.specs.reset_unfold.Places.{starts_of}
use Rattle.reset_form.specs.reset_unfold.Reach.{IsReach}
use Rattle.reset_form.proofs.reset_unfold.Weighing.{over_from}

-- what is read from a visited place is visited
visits_step : (c : Circuit ℕ) (s p q : ℕ × ℕ) → ResetVisits c s.1 s.0 p.1 p.0 → Steps c p q → ResetVisits c s.1 s.0 q.1 q.0
visits_step c s p q visits (inl h) = subst (ResetVisits c s.1 s.0 q.1) (sym h.0) (ResetVisits.reads visits h.1)
visits_step c s p q visits (inr h) =
    let cycle : p.0 ≡ suc q.0 = omega (arith, h.0) in
    ResetVisits.back (subst (ResetVisits c s.1 s.0 p.1) cycle visits) h.2

visits_from : (c : Circuit ℕ) (s p : ℕ × ℕ) → Comes c s p → ResetVisits c s.1 s.0 p.1 p.0
visits_from c s p Comes.itself = ResetVisits.itself
visits_from c s p (Comes.reads {p = q} before steps) = visits_step c s q p (visits_from c s q before) steps

pub reach_from : (n : NetView) (memo : List ((ℕ × ℕ) × Lit)) (s : ℕ × ℕ) (cap : ℕ) (places : List (ℕ × ℕ)) → IsWalk n memo s cap places → IsReach (circuit_of n) (length n.drivers) memo s places
reach_from n memo s cap places walk = record {
  are = record { root = walk.are.root; closed = walk.are.closed; visited = λ p h. visits_from (circuit_of n) s p (walk.are.comes p h); within = walk.are.within };
  ordered = walk.ordered;
}

pub over_long : (n : NetView) → IsSound n → (s : ℕ × ℕ) (cap : ℕ) → IsTooLong n s cap → IsResetOver (circuit_of n) (starts_of (s ∷ [])) cap
over_long n sound s cap long =
    over_from n sound (s ∷ []) long.places long.differ
    (λ p h. let comes = long.comes p h in (record { from = s; among = Contains-head s []; visits = visits_from (circuit_of n) s p comes.0 }, comes.1)) cap long.total
