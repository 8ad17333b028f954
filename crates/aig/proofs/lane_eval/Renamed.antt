-- A graph over the places of its variables has the values of the graph.
use Rattle.std.proofs.Common.{◌≡◌, ℕ, zero, suc, ◌+◌, ◌<◌, ◌≤◌, max, Bool, List, [], ◌∷◌, ◌++◌, length, slice_get, Some, refl, sym, ◌∙◌, ap, subst, arith}
use Rattle.std.specs.List.{AllZip}
use Rattle.std.proofs.lemmas.Option.{none-some, same_Some, slice_get_within}
use Rattle.aig.specs.declared.node.Node.{Node}
use Rattle.aig.specs.declared.node.Node.TheVariants.{Constant, Input, And}
use Rattle.aig.specs.Graph.{IsOrdered, IsAbove, vars_of}
use Rattle.aig.specs.Values.{lit_bit, node_bit, bits_from, node_bits, value}
use Rattle.aig.specs.lane_eval.Renaming.{IsRenamed}

-- each element on the right has its element on the left
zip_left : {X Y : Type 0} (R : X → Y → Type 0) (xs : List X) (ys : List Y) → AllZip R xs ys → (i : ℕ) (y : Y) → slice_get ys i ≡ Some y → (x : X) × (slice_get xs i ≡ Some x) × R x y
zip_left R [] [] h i y e = absurd (none-some y e)
zip_left R [] (y' ∷ ys) h i y e = absurd h
zip_left R (x' ∷ xs) [] h i y e = absurd h
zip_left R (x' ∷ xs) (y' ∷ ys) h zero y e = (x', refl, subst (R x') (same_Some y' y e) h.0)
zip_left R (x' ∷ xs) (y' ∷ ys) h (suc i) y e = zip_left R xs ys h.1 i y e

module _ (vars : List ℕ) where
  renamed-above : (n : ℕ) (node new : Node) → IsRenamed vars node new → IsAbove n node → IsAbove n new
  renamed-above n Constant new e above = subst (IsAbove n) (sym e) tt
  renamed-above n (Input v) new (k, at, e) above = subst (IsAbove n) (sym e) tt
  renamed-above n (And l r) new e above = subst (IsAbove n) (sym e) above

  -- operands still stand before
  pub renamed-ordered : (nodes new : List Node) → AllZip (IsRenamed vars) nodes new → IsOrdered nodes → IsOrdered new
  renamed-ordered nodes new zip ordered n p at = let w = zip_left (IsRenamed vars) nodes new zip n p at in renamed-above n w.0 p w.2 (ordered n w.0 w.1)

  -- the variables are places
  pub renamed-vars : (nodes new : List Node) → AllZip (IsRenamed vars) nodes new → vars_of new ≤ length vars
  renamed-vars [] [] zip = omega arith
  renamed-vars [] (y ∷ ys) zip = absurd zip
  renamed-vars (x ∷ xs) [] zip = absurd zip
  renamed-vars (Constant ∷ xs) (y ∷ ys) (e, zip) = subst (λ (p : Node). vars_of (p ∷ ys) ≤ length vars) (sym e) (renamed-vars xs ys zip)
  renamed-vars (Input v ∷ xs) (y ∷ ys) ((k, at, e), zip) = subst (λ (p : Node). vars_of (p ∷ ys) ≤ length vars) (sym e) (greatest k v at (vars_of ys) (renamed-vars xs ys zip))
    where
      greatest : (k v : ℕ) → slice_get vars k ≡ Some v → (m : ℕ) → m ≤ length vars → max (k + 1) m ≤ length vars
      greatest k v at m h = let inside : k < length vars = slice_get_within vars k v at in omega arith
  renamed-vars (And l r ∷ xs) (y ∷ ys) (e, zip) = subst (λ (p : Node). vars_of (p ∷ ys) ≤ length vars) (sym e) (renamed-vars xs ys zip)

  module _ (a b : ℕ → Bool) (same : (k v : ℕ) → slice_get vars k ≡ Some v → b k ≡ a v) where
    renamed-bit : (bits : List Bool) (node new : Node) → IsRenamed vars node new → node_bit b bits new ≡ node_bit a bits node
    renamed-bit bits Constant new e = ap (node_bit b bits) e
    renamed-bit bits (Input v) new (k, at, e) = ap (node_bit b bits) e ∙ same k v at
    renamed-bit bits (And l r) new e = ap (node_bit b bits) e

    renamed-from : (bits : List Bool) (nodes new : List Node) → AllZip (IsRenamed vars) nodes new → bits_from b bits new ≡ bits_from a bits nodes
    unfolding bits_from
    renamed-from bits [] [] zip = refl
    renamed-from bits [] (y ∷ ys) zip = absurd zip
    renamed-from bits (x ∷ xs) [] zip = absurd zip
    renamed-from bits (x ∷ xs) (y ∷ ys) zip = ap (λ (c : Bool). bits_from b (bits ++ c ∷ []) ys) (renamed-bit bits x y zip.0) ∙ renamed-from (bits ++ node_bit a bits x ∷ []) xs ys zip.1

    -- each literal has its value, where a place has its variable's bit
    pub renamed-value : (nodes new : List Node) → AllZip (IsRenamed vars) nodes new → (x : ℕ) → value new b x ≡ value nodes a x
    unfolding value node_bits
    renamed-value nodes new zip x = ap (λ (bits : List Bool). lit_bit bits x) (renamed-from [] nodes new zip)
