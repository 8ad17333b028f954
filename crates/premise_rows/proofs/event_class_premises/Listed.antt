-- Lists of the first values of a function: each entry, also with one behind, and the chain of event nodes.
use Rattle.std.proofs.Common.{◌≡◌, ◌∙◌, ℕ, zero, suc, ◌+◌, ◌<◌, ◌≤◌, List, [], ◌∷◌, ◌++◌, length, slice_get, Some, refl, sym, ap, arith, inl, inr, length-append}
use Rattle.std.specs.Prelude.{◌⊎◌}
use Rattle.std.proofs.lemmas.Option.{none-some, same_Some, slice_get_within}
use Rattle.circuit_theory.specs.Frame.{always_node}
use Rattle.base_tables.specs.Table.{AreDistinct}
use Rattle.base_tables.proofs.Appended.{at-either, at-last, at-left, at-one}
use Rattle.event_nodes.specs.aig.Graph.{IsAbove}
use Rattle.event_nodes.specs.aig.Node.{Node}
use Rattle.event_nodes.specs.aig.Node.TheVariants.{Constant}
use Rattle.event_nodes.specs.Nodes.{IsEventGraph, IsTree, path_of}
use Rattle.event_nodes.proofs.Paths.{child_path, path_grows}
use Rattle.premise_rows.specs.event_class_premises.Shifted.{along, chain, first_of}
use Rattle.premise_rows.proofs.block_premises.TurningNets.{each}

cases : (k n : ℕ) → k < suc n → (k < n) ⊎ (k ≡ n)
cases k n h = grind arith

module _ {X : Type 0} (f : ℕ → X) where
  pub first_long : (n : ℕ) → length (first_of f n) ≡ n
  unfolding first_of
  first_long zero = refl
  first_long (suc n) = let e = first_long n in let g = length-append (first_of f n) (f n ∷ []) in omega (arith, e, g)

  pub first_at : (n k : ℕ) → k < n → slice_get (first_of f n) k ≡ Some (f k)
  unfolding first_of
  first_at zero k l = absurd (omega (arith, l))
  first_at (suc n) k l = go (cases k n l) (λ h. first_at n k h)
    where
      go : (k < n) ⊎ (k ≡ n) → (k < n → slice_get (first_of f n) k ≡ Some (f k)) → slice_get (first_of f n ++ f n ∷ []) k ≡ Some (f k)
      go (inl h) earlier = at-left (first_of f n) (f n ∷ []) k (f k) (earlier h)
      go (inr e) earlier = at-last (first_of f n) (first_of f n ++ f n ∷ []) (f n) k refl (e ∙ sym (first_long n)) ∙ ap (λ (m : ℕ). Some (f m)) (sym e)

  pub entry_is : (n k : ℕ) (x : X) → slice_get (first_of f n) k ≡ Some x → (k < n) × (f k ≡ x)
  entry_is n k x h =
      let inside = slice_get_within (first_of f n) k x h in
      let long = first_long n in
      let l : k < n = omega (arith, inside, long) in
      (l, same_Some (f k) x (sym (first_at n k l) ∙ h))

  -- with one behind
  module _ (n : ℕ) (last : X) where
    pub pushed_at : (k : ℕ) → k < n → slice_get (first_of f n ++ last ∷ []) k ≡ Some (f k)
    pushed_at k l = at-left (first_of f n) (last ∷ []) k (f k) (first_at n k l)

    pub last_at : (k : ℕ) → k ≡ n → slice_get (first_of f n ++ last ∷ []) k ≡ Some last
    last_at k e = at-last (first_of f n) (first_of f n ++ last ∷ []) last k refl (e ∙ sym (first_long n))

    pub pushed_is : (k : ℕ) (x : X) → slice_get (first_of f n ++ last ∷ []) k ≡ Some x → ((k < n) × (f k ≡ x)) ⊎ ((k ≡ n) × (last ≡ x))
    pushed_is k x h = go (at-either (first_of f n) (last ∷ []) k x h)
      where
        go : (slice_get (first_of f n) k ≡ Some x) ⊎ ((j : ℕ) × (k ≡ length (first_of f n) + j) × (slice_get (last ∷ []) j ≡ Some x)) → ((k < n) × (f k ≡ x)) ⊎ ((k ≡ n) × (last ≡ x))
        go (inl here) = inl (entry_is n k x here)
        go (inr (j, e, there)) = let one = at-one last x j there in let long = first_long n in inr (omega (arith, e, one.0, long), one.1)

    pub pushed_long : length (first_of f n ++ last ∷ []) ≡ suc n
    pushed_long = let e = first_long n in let g = length-append (first_of f n) (last ∷ []) in omega (arith, e, g)

pub chain_tree : (n : ℕ) → IsTree (chain n)
chain_tree n k m class h = let e = ap (λ (p : ℕ × ℕ). p.0) (entry_is (λ k. (k, 0)) n k (m, class) h).1 in omega (arith, e)

pub chain_path : (n k : ℕ) → k ≤ n → path_of (chain n) k ≡ always_node k
chain_path n zero l = path_grows [] (chain n) 0 (omega arith)
chain_path n (suc k) l =
    child_path (chain n) (chain_tree n) k 0 (suc k) (k, omega arith, first_at (λ k. (k, 0)) n k (omega (arith, l))) ∙ ap (λ (path : List ℕ). 0 ∷ path) (chain_path n k (omega (arith, l)))

pub along_kept : (n : ℕ) → IsEventGraph (along n)
along_kept n = record {
  is_graph = record { constant = refl; ordered = each IsAbove (Constant ∷ []) (tt, tt); once = λ i j node h k. sym (place i node h) ∙ place j node k; few = omega arith };
  is_tree = chain_tree n;
  once = once;
  placed = λ i d l. absurd (omega (arith, l));
  place_once = λ i j x h k. absurd (none-some x h);
}
  where
    place : (i : ℕ) (node : Node) → slice_get (Constant ∷ []) i ≡ Some node → 0 ≡ i
    place = each (λ i (node : Node). 0 ≡ i) (Constant ∷ []) (refl, tt)

    once : AreDistinct (chain n)
    once i j x h k = let e : i ≡ j = ap (λ (p : ℕ × ℕ). p.0) ((entry_is (λ k. (k, 0)) n i x h).1 ∙ sym (entry_is (λ k. (k, 0)) n j x k).1) in e
