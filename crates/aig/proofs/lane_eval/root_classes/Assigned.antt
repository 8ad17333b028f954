-- Numbered assignments of a graph's variables, and the values of literals under them.
use Rattle.std.proofs.Common.{◌≡◌, ◌≢◌, ℕ, suc, ◌+◌, ◌-◌, ◌/◌, ◌%◌, ◌^◌, ◌<◌, Bool, true, false, List, [], ◌∷◌, ◌++◌, length, map, drop, set, get_or, slice_get, Some, refl, sym, ◌∙◌, ap, subst, arith, inl, inr}
use Rattle.std.specs.Prelude.{◌⊎◌, ◌==◌, Contains}
use Rattle.std.specs.List.{AllPairs}
use Rattle.std.proofs.lemmas.Option.{slice_get-get_or, slice_get_within, get_or_from_slice_get}
use Rattle.std.proofs.lemmas.Bool.Decides.{Decides-eqb}
use Rattle.std.proofs.lemmas.List.{length-map, length-set, get_or-set_same, get_or-set_other}
use Rattle.circuit_theory.specs.Query.{bits_of}
use Rattle.circuit_theory.proofs.Lists.{of_at, at_of, Contains-head, Contains-tail}
use Rattle.aig.specs.declared.node.Lit.{Lit}
use Rattle.aig.specs.declared.node.Node.{Node}
use Rattle.aig.specs.declared.node.Node.TheVariants.{Constant, Input, And}
use Rattle.aig.specs.Graph.{IsGraph, vars_of}
use Rattle.aig.specs.Values.{lit_bit, node_bit, bits_from, node_bits, value, assigned}
use Rattle.aig.proofs.Folds.{drop-next}
use Rattle.aig.proofs.Insert.{vars_of-member}
use Rattle.aig.specs.lane_eval.Tables.{assigned_to}
use Rattle.aig.proofs.lane_eval.Numbered.{number_of, bits_of-number_of, number_of-below, bits_of-length, assigned_to-at, map-at}
use Rattle.aig.specs.lane_eval.root_classes.Inputs.{inputs_of}
use Rattle.aig.specs.lane_eval.root_classes.Rows.{HasBits, row_of}
use Rattle.aig.specs.lane_eval.root_classes.Agreeing.{Agree}
use Rattle.aig.proofs.lane_eval.root_classes.Listed.{inputs_of-from, inputs_of-distinct}

-- the lowest bit of what is left of a number, and the rest
pub low-step : (number n k rest : ℕ) → k < n → drop k (bits_of number n) ≡ bits_of rest (n - k) → (get_or (bits_of number n) k false ≡ (rest % 2 == 1)) × (drop (k + 1) (bits_of number n) ≡ bits_of (rest / 2) (n - (k + 1)))
low-step number n k rest below is =
    let inside : k < length (bits_of number n) = omega (arith, bits_of-length number n) in
    let e : n - k ≡ suc (n - (k + 1)) = omega arith in
    let both : get_or (bits_of number n) k false ∷ drop (k + 1) (bits_of number n) ≡ (rest % 2 == 1) ∷ bits_of (rest / 2) (n - (k + 1)) =
    sym (drop-next (bits_of number n) k false inside) ∙ is ∙ ap (bits_of rest) e in
    (cc, cc)

-- one variable more has its bit
pub bits-step : (vars : List ℕ) (bits : List Bool) (k : ℕ) (assignment : List Bool) (b : Bool) → AllPairs (λ u v. u ≢ v) vars → k < length vars → get_or vars k 0 < length assignment → get_or bits k false ≡ b
    → HasBits vars bits k assignment → HasBits vars bits (k + 1) (set assignment (get_or vars k 0) b)
bits-step vars bits k assignment b distinct inside within is has j v below at = by (j == k) refl
  where
    here : get_or vars j 0 ≡ v
    here = get_or_from_slice_get vars j v 0 at

    by : (t : Bool) → (j == k) ≡ t → get_or (set assignment (get_or vars k 0) b) v false ≡ get_or bits j false
    by true test =
        let e : j ≡ k = (Decides-eqb j k).0 test in
        let same : v ≡ get_or vars k 0 = sym here ∙ ap (λ (i : ℕ). get_or vars i 0) e in
        ap (λ (w : ℕ). get_or (set assignment (get_or vars k 0) b) w false) same ∙ get_or-set_same assignment (get_or vars k 0) b false within ∙ sym is ∙ ap (λ (i : ℕ). get_or bits i false) (sym e)
    by false test =
        let apart : j ≢ k = λ (e : j ≡ k). differs ((Decides-eqb j k).1 e) test in
        let less : j < k = omega (arith, apart, below) in
        let other : v ≢ get_or vars k 0 = λ (e : v ≡ get_or vars k 0). distinct j k 0 less inside (here ∙ e) in
        get_or-set_other assignment (get_or vars k 0) v b false other ∙ has j v less at
      where
        differs : (j == k) ≡ true → (j == k) ≡ false → ⊥
        differs p q = let e : true ≡ false = sym p ∙ q in cc

-- variables of a graph are below its count
pub inputs-within : (g : List Node) (vars : List ℕ) → vars ≡ inputs_of g → (k d : ℕ) → k < length vars → get_or vars k d < vars_of g
inputs-within g vars e k d inside =
    let has = of_at vars k (get_or vars k d) (slice_get-get_or vars k d inside) in
    let there = inputs_of-from g (get_or vars k d) (subst (λ (vs : List ℕ). Contains vs (get_or vars k d)) e has) in
    omega (arith, vars_of-member g there.0 (Input (get_or vars k d)) there.1)

pub inputs-distinct : (g : List Node) → IsGraph g → (vars : List ℕ) → vars ≡ inputs_of g → AllPairs (λ u v. u ≢ v) vars
inputs-distinct g graph vars e = subst (AllPairs (λ u v. u ≢ v)) (sym e) (inputs_of-distinct g (λ n m v at there. graph.once n m (Input v) at there))

-- the values under two assignments that agree on the variables
module _ (a b : ℕ → Bool) where
  bits-same : (bits : List Bool) (g : List Node) → ((v : ℕ) → Contains (inputs_of g) v → a v ≡ b v) → bits_from a bits g ≡ bits_from b bits g
  unfolding bits_from
  bits-same bits [] same = refl
  bits-same bits (Constant ∷ g) same = bits-same (bits ++ false ∷ []) g same
  bits-same bits (Input v ∷ g) same =
      ap (λ (c : Bool). bits_from a (bits ++ c ∷ []) g) (same v (Contains-head v (inputs_of g))) ∙ bits-same (bits ++ b v ∷ []) g (λ u has. same u (Contains-tail v u (inputs_of g) has))
  bits-same bits (And l r ∷ g) same = bits-same (bits ++ node_bit b bits (And l r) ∷ []) g same

  pub value-same : (g : List Node) → ((v : ℕ) → Contains (inputs_of g) v → a v ≡ b v) → (x : ℕ) → value g a x ≡ value g b x
  unfolding value node_bits
  value-same g same x = ap (λ (bits : List Bool). lit_bit bits x) (bits-same [] g same)

-- an element after a write
set-cases : {X : Type 0} (xs : List X) (i j : ℕ) (y z : X) → slice_get (set xs i y) j ≡ Some z → ((j ≡ i) × (z ≡ y)) ⊎ (slice_get xs j ≡ Some z)
set-cases {X} xs i j y z at = by (j == i) refl
  where
    within : j < length xs
    within = omega (arith, slice_get_within (set xs i y) j z at, length-set xs i y)

    here : get_or (set xs i y) j z ≡ z
    here = get_or_from_slice_get (set xs i y) j z z at

    by : (t : Bool) → (j == i) ≡ t → ((j ≡ i) × (z ≡ y)) ⊎ (slice_get xs j ≡ Some z)
    by true test =
        let e : j ≡ i = (Decides-eqb j i).0 test in
        let inside : i < length xs = omega (arith, within) in
        inl (e, sym here ∙ ap (λ (k : ℕ). get_or (set xs i y) k z) e ∙ get_or-set_same xs i y z inside)
    by false test =
        let apart : j ≢ i = λ (e : j ≡ i). differs ((Decides-eqb j i).1 e) test in
        inr (slice_get-get_or xs j z within ∙ ap Some (sym (get_or-set_other xs i j y z apart) ∙ here))
      where
        differs : (j == i) ≡ true → (j == i) ≡ false → ⊥
        differs p q = let e : true ≡ false = sym p ∙ q in cc

-- one root more has its bit
pub row-step : (row : ℕ → Bool) (bits : List Bool) (i : ℕ) (bit : Bool) → bit ≡ row i → ((j : ℕ) (b : Bool) → j < i → slice_get bits j ≡ Some b → b ≡ row j)
    → (j : ℕ) (b : Bool) → j < i + 1 → slice_get (set bits i bit) j ≡ Some b → b ≡ row j
row-step row bits i bit is before j b below at = by (j == i) refl
  where
    by : (t : Bool) → (j == i) ≡ t → b ≡ row j
    by true test = same ((Decides-eqb j i).0 test) (set-cases bits i j bit b at)
      where
        same : j ≡ i → ((j ≡ i) × (b ≡ bit)) ⊎ (slice_get bits j ≡ Some b) → b ≡ row j
        same e (inl (d, f)) = f ∙ is ∙ ap row (sym e)
        same e (inr there) =
            let inside : i < length bits = omega (arith, e, slice_get_within bits j b there) in
            sym (get_or_from_slice_get (set bits i bit) j b b at) ∙ ap (λ (k : ℕ). get_or (set bits i bit) k b) e ∙ get_or-set_same bits i bit b inside ∙ is ∙ ap row (sym e)
    by false test = other (set-cases bits i j bit b at)
      where
        other : ((j ≡ i) × (b ≡ bit)) ⊎ (slice_get bits j ≡ Some b) → b ≡ row j
        other (inl (d, f)) = f ∙ is ∙ ap row (sym d)
        other (inr there) =
            let apart : j ≢ i = λ (e : j ≡ i). let h : true ≡ false = sym ((Decides-eqb j i).1 e) ∙ test in cc in
            before j b (omega (arith, apart, below)) there

module _ (g : List Node) (graph : IsGraph g) (vars : List ℕ) (are : vars ≡ inputs_of g) where
  -- the assignment of a number gives each variable its bit
  numbered-at : (number : ℕ) (k v : ℕ) → slice_get vars k ≡ Some v → get_or (bits_of number (length vars)) k false ≡ assigned_to vars (bits_of number (length vars)) v
  numbered-at number k v at = assigned_to-at vars (bits_of number (length vars)) (inputs-distinct g graph vars are) (bits_of-length number (length vars)) k v at

  place-of : (v : ℕ) → Contains (inputs_of g) v → (k : ℕ) × (slice_get vars k ≡ Some v)
  place-of v has = at_of vars v (subst (λ (vs : List ℕ). Contains vs v) (sym are) has)

  -- a root's bit under bits of the variables
  pub row-is : (roots : List Lit) (number : ℕ) (assignment scratch : List Bool) (nodes : List Node) (i : ℕ) (bit : Bool) → nodes ≡ g → scratch ≡ node_bits nodes (assigned assignment)
      → HasBits vars (bits_of number (length vars)) (length vars) assignment → bit ≡ lit_bit scratch (get_or roots i (record { 0 = 0 })).0 → bit ≡ row_of g vars roots number i
  unfolding value
  row-is roots number assignment scratch nodes i bit same filled has is =
      let x = (get_or roots i (record { 0 = 0 })).0 in
      is ∙ ap (λ (bits : List Bool). lit_bit bits (get_or roots i (record { 0 = 0 })).0) (filled ∙ ap (λ (h : List Node). node_bits h (assigned assignment)) same)
      ∙ value-same (assigned assignment) (assigned_to vars (bits_of number (length vars))) g
      (λ v there. let p = place-of v there in has p.0 v (slice_get_within vars p.0 v p.1) p.1 ∙ numbered-at number p.0 v p.1) (get_or roots i (record { 0 = 0 })).0

  -- what agrees under each number agrees
  pub agree-all : (x y : ℕ)
      → ((number : ℕ) → number < 2 ^ length vars → value g (assigned_to vars (bits_of number (length vars))) x ≡ value g (assigned_to vars (bits_of number (length vars))) y) → Agree g x y
  agree-all x y rows a =
      let len : length (map a vars) ≡ length vars = length-map vars a in
      let below : number_of (map a vars) < 2 ^ length vars = subst (λ (n : ℕ). number_of (map a vars) < 2 ^ n) len (number_of-below (map a vars)) in
      let back : bits_of (number_of (map a vars)) (length vars) ≡ map a vars = ap (bits_of (number_of (map a vars))) (sym len) ∙ bits_of-number_of (map a vars) in
      let same : (v : ℕ) → Contains (inputs_of g) v → a v ≡ assigned_to vars (bits_of (number_of (map a vars)) (length vars)) v =
      λ v there. let p = place-of v there in
      sym (map-at vars a p.0 v p.1) ∙ ap (λ (bits : List Bool). get_or bits p.0 false) (sym back) ∙ numbered-at (number_of (map a vars)) p.0 v p.1 in
      value-same a (assigned_to vars (bits_of (number_of (map a vars)) (length vars))) g same x ∙ rows (number_of (map a vars)) below
      ∙ sym (value-same a (assigned_to vars (bits_of (number_of (map a vars)) (length vars))) g same y)
