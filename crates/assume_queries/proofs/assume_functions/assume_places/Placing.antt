-- One place more has its function, and the graph and the table stay small.
use Rattle.std.proofs.Common.{◌≡◌, ℕ, ◌+◌, ◌*◌, ◌≤◌, List, [], ◌∷◌, ◌++◌, take, slice_get, Some, sym, subst, arith}
use Rattle.std.proofs.Math.Nat.{mul-le-mul_right}
use Rattle.circuit_theory.proofs.Lists.{zip_push, zip_weaker}
use Rattle.flat_net.specs.View.{NetView}
use Rattle.aig.specs.declared.node.Node.{Node}
use Rattle.aig.specs.Graph.{IsGraph, Grows}
use Rattle.cbf_unfold.specs.unfold_places.Reach.{Adds}
use Rattle.cbf_unfold.specs.declared.unfold_places.signal_function.Unfolded.{Unfolded}
use Rattle.cbf_unfold.proofs.shift_variables.Assignments.{take_next}
use Rattle.assume_queries.specs.assume_functions.Functions.{IsAssumedAt}
use Rattle.assume_queries.proofs.assume_functions.Assumed.{assumed_later}
use Rattle.assume_queries.specs.assume_functions.assume_places.Placed.{ArePut}

distrib : (a n : ℕ) → a * (n + 1) ≡ a * n + a
distrib a n = grind arith

comm : (a b : ℕ) → a * b ≡ b * a
comm a b = grind arith

one_more : (w n : ℕ) → (w + 1) * n ≡ w * n + n
one_more w n = grind arith

-- each place adds fewer nodes than the function's own graph has
pub nodes_few : (n count w own start size : ℕ) → n ≤ count → own ≤ w + 1 → w * count ≤ 2000000 → size + n ≤ start + own * n → size ≤ start + 2000000
nodes_few n count w own start size early small light so_far =
    let a : own * n ≤ (w + 1) * n = mul-le-mul_right n small in
    let b : n * w ≤ count * w = mul-le-mul_right w early in
    omega (arith, a, b, one_more w n, comm n w, comm count w, light, so_far)

pub nodes_step : (n own start before after : ℕ) → before + n ≤ start + own * n → after + 1 ≤ before + own → after + (n + 1) ≤ start + own * (n + 1)
nodes_step n own start before after so_far more = omega (arith, so_far, more, distrib own n)

-- and no more entries than its own table has
pub entries_few : (n count w own start size : ℕ) → n ≤ count → own ≤ w → w * count ≤ 2000000 → size ≤ start + own * n → size ≤ start + 2000000
entries_few n count w own start size early small light so_far =
    let a : own * n ≤ w * n = mul-le-mul_right n small in
    let b : n * w ≤ count * w = mul-le-mul_right w early in
    omega (arith, a, b, comm n w, comm count w, light, so_far)

pub entries_step : (n own start before after : ℕ) → before ≤ start + own * n → after ≤ before + own → after ≤ start + own * (n + 1)
entries_step n own start before after so_far more = omega (arith, so_far, more, distrib own n)

pub put_later : (n : NetView) (order : List ℕ) (s : ℕ) (g h : List Node) (table more found : List (ℕ × ℕ)) (us : List Unfolded) → IsGraph h → Grows g h → Adds (λ p. Unit {0}) table more → ArePut n order s g table found us → ArePut n order s h more found us
put_later n order s g h table more found us graph grows adds put =
    zip_weaker (λ (p : ℕ × ℕ) (u : Unfolded). IsAssumedAt n order s p.0 g table u) (λ p u. IsAssumedAt n order s p.0 h more u) (λ p u at. assumed_later n order s p.0 g h table more u graph grows adds at) found us put

pub put_more : (n : NetView) (order : List ℕ) (s : ℕ) (g h : List Node) (table more found : List (ℕ × ℕ)) (i : ℕ) (p : ℕ × ℕ) (us made : List Unfolded) (u : Unfolded) → IsGraph h → Grows g h → Adds (λ p. Unit {0}) table more → slice_get found i ≡ Some p →
    ArePut n order s g table (take i found) us → IsAssumedAt n order s p.0 h more u → made ≡ us ++ u ∷ [] → ArePut n order s h more (take (i + 1) found) made
put_more n order s g h table more found i p us made u graph grows adds there put at pushed =
    subst (ArePut n order s h more (take (i + 1) found)) (sym pushed)
    (subst (λ (ps : List (ℕ × ℕ)). ArePut n order s h more ps (us ++ u ∷ [])) (sym (take_next found i p there))
    (zip_push (λ (q : ℕ × ℕ) (v : Unfolded). IsAssumedAt n order s q.0 h more v) (take i found) us p u (put_later n order s g h table more (take i found) us graph grows adds put) at))
