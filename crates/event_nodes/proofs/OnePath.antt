-- No two event nodes have one path.
use Rattle.std.proofs.Common.{◌≡◌, ◌∙◌, ◌+◌, ◌<◌, ◌≤◌, ℕ, zero, suc, List, [], ◌∷◌, length, slice_get, Some, refl, sym, ap, subst, arith}
use Rattle.flat_net.specs.Table.{AreDistinct}
use Rattle.flat_net.proofs.Nets.{some_at}
use Rattle.event_nodes.specs.Nodes.{path_of, IsTree}
use Rattle.event_nodes.proofs.Paths.{path_grows, child_path}

module _ (es : List (ℕ × ℕ)) (tree : IsTree es) (once : AreDistinct es) where
  root_is : path_of es 0 ≡ []
  root_is = path_grows [] es 0 (omega arith)

  -- an entry's path: one step more than its parent's
  below_root : (n : ℕ) → n < length es → (e : ℕ × ℕ) × (slice_get es n ≡ Some e) × (path_of es (suc n) ≡ e.1 ∷ path_of es e.0) × (e.0 ≤ n)
  below_root n inside =
      let e = some_at es n inside in
      let at_next : suc n ≡ n + 1 = omega arith in
      (e.0, e.1, child_path es tree e.0.0 e.0.1 (suc n) (n, at_next, e.1), tree n e.0.0 e.0.1 e.1)

  same_path : (R n m : ℕ) → n < R → n ≤ length es → m ≤ length es → path_of es n ≡ path_of es m → n ≡ m
  same_path zero n m low inside also e = absurd (omega arith)
  same_path (suc R) zero zero low inside also e = refl
  same_path (suc R) zero (suc m) low inside also e = absurd (wrong (sym root_is ∙ (e ∙ (below_root m (omega arith)).2)))
    where
      wrong : [] ≡ (below_root m (omega arith)).0.1 ∷ path_of es (below_root m (omega arith)).0.0 → ⊥
      wrong q = cc
  same_path (suc R) (suc n) zero low inside also e = absurd (wrong (sym root_is ∙ (sym e ∙ (below_root n (omega arith)).2)))
    where
      wrong : [] ≡ (below_root n (omega arith)).0.1 ∷ path_of es (below_root n (omega arith)).0.0 → ⊥
      wrong q = cc
  same_path (suc R) (suc n) (suc m) low inside also e =
      let x = below_root n (omega arith) in
      let y = below_root m (omega arith) in
      let step = first x.0.1 y.0.1 (path_of es x.0.0) (path_of es y.0.0) (sym x.2 ∙ (e ∙ y.2)) in
      let up = same_path R x.0.0 y.0.0 (omega (arith, x.3, low)) (omega (arith, x.3, inside)) (omega (arith, y.3, also)) step.1 in
      let entry : x.0 ≡ y.0 = λ i. (up i, step.0 i) in
      ap suc (once n m x.0 x.1 (subst (λ (p : ℕ × ℕ). slice_get es m ≡ Some p) (sym entry) y.1))
    where
      first : (a b : ℕ) (ps qs : List ℕ) → a ∷ ps ≡ b ∷ qs → (a ≡ b) × (ps ≡ qs)
      first a b ps qs q = (cc, cc)

  -- no two nodes have one path
  pub one_node : (n m : ℕ) → n ≤ length es → m ≤ length es → path_of es n ≡ path_of es m → n ≡ m
  one_node n m inside also e = same_path (suc n) n m (omega arith) inside also e
