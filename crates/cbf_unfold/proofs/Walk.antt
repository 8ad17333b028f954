-- What a walk comes to is what the unfolding of its signal visits.
use Rattle.std.proofs.Common.{◌≡◌, ◌-◌, ◌<◌, ◌≤◌, ℕ, suc, List, [], ◌∷◌, length, sym, ap, subst, arith, inl, inr}
use Rattle.std.proofs.lemmas.List.Elements.{All-contains}
use Rattle.circuit_theory.specs.Circuit.{Circuit}
use Rattle.circuit_theory.specs.Sizes.{Visits, IsOver}
use Rattle.circuit_theory.proofs.Lists.{Contains-head, All-from_each}
use Rattle.flat_net.specs.View.{NetView, circuit_of}
use Rattle.flat_net.specs.Sound.{IsSound}
use Rattle.aig.specs.declared.node.Lit.{Lit}
use Rattle.cbf_unfold.specs.unfold_places.Places.{Steps}
use Rattle.cbf_unfold.specs.unfold_places.Reach.{IsReach}
use Rattle.cbf_unfold.specs.unfold_places.Walk.{Comes, IsWalk, IsTooLong}
use Rattle.cbf_unfold.proofs.unfold_places.Over.{over_from}

-- the place is visited
abbrev IsSeen : Circuit ℕ → ℕ → ℕ → ℕ × ℕ → Type 0
IsSeen c s cap p = (p.0 ≤ cap) × Visits c s 0 p.1 (cap - p.0)

-- what is read from a visited place is visited
seen_step : (c : Circuit ℕ) (s cap : ℕ) (p q : ℕ × ℕ) → IsSeen c s cap p → Steps c p q → IsSeen c s cap q
seen_step c s cap p q seen (inl h) =
    let cycle : cap - p.0 ≡ cap - q.0 = ap (λ t. cap - t) (sym h.0) in
    (omega (arith, h.0, seen.0), subst (Visits c s 0 q.1) cycle (Visits.reads seen.1 h.1))
seen_step c s cap p q seen (inr h) =
    let cycle : suc (cap - p.0) ≡ cap - q.0 = omega (arith, h.0, seen.0) in
    (omega (arith, h.0, seen.0), subst (Visits c s 0 q.1) cycle (Visits.back seen.1 h.2))

seen_from : (c : Circuit ℕ) (s cap : ℕ) (p : ℕ × ℕ) → Comes c (cap, s) p → IsSeen c s cap p
seen_from c s cap p Comes.itself = (omega arith, subst (Visits c s 0 s) (let e : 0 ≡ cap - cap = omega arith in e) Visits.itself)
seen_from c s cap p (Comes.reads {p = q} before steps) = seen_step c s cap q p (seen_from c s cap q before) steps

pub reach_from : (n : NetView) (memo : List ((ℕ × ℕ) × Lit)) (s cap : ℕ) (places : List (ℕ × ℕ)) → IsWalk n memo (cap, s) cap places → IsReach (circuit_of n) (length n.drivers) s cap memo places
reach_from n memo s cap places walk = record {
  are = record {
    root = walk.are.root;
    closed = walk.are.closed;
    visited = λ p h. seen_from (circuit_of n) s cap p (walk.are.comes p h);
    within = All-from_each (λ p. (0 < p.0) × (p.1 < length n.drivers)) places (λ p h. (omega (arith, walk.are.late p h), All-contains (λ (q : ℕ × ℕ). q.1 < length n.drivers) places p walk.are.within h));
  };
  ordered = walk.ordered;
}

pub over_long : (n : NetView) → IsSound n → (s cap : ℕ) → IsTooLong n (cap, s) cap → IsOver (circuit_of n) (s ∷ []) cap
over_long n sound s cap long =
    over_from n sound cap (s ∷ []) long.places long.differ
    (λ p h. let comes = long.comes p h in let seen = seen_from (circuit_of n) s cap p comes.0 in (record { cycle = seen.0; from = s; among = Contains-head s []; visits = seen.1 }, comes.1))
    cap long.total
