-- From the table over places to the graph.
use Rattle.std.proofs.Common.{◌≡◌, ◌≢◌, ℕ, ◌*◌, ◌/◌, ◌^◌, ◌<◌, Bool, true, false, List, [], ◌∷◌, length, map, get_or, slice_get, Option, Some, None, Contains, refl, sym, ◌∙◌, ap, subst, arith}
use Rattle.std.specs.List.{AllZip, AllPairs}
use Rattle.std.proofs.lemmas.List.{length-map}
use Rattle.std.proofs.lemmas.Option.{slice_get_within, slice_get-get_or, same_Some}
use Rattle.aig.specs.circuit_theory.Query.{bits_of}
use Rattle.aig.proofs.circuit_theory.Lists.{of_at, zip_length}
use Rattle.aig.specs.declared.node.Node.{Node}
use Rattle.aig.specs.declared.node.Node.TheVariants.{Constant, Input, And}
use Rattle.aig.specs.Values.{value, assigned}
use Rattle.aig.specs.Cone.{IsPlacedLit, IsPlacedNode}
use Rattle.aig.specs.declared.cone_graph.Cones.{Cones}
use Rattle.aig.specs.Cones.{AreConesOf}
use Rattle.aig.specs.declared.lane_eval.table.Table.{Table}
use Rattle.aig.specs.lane_eval.Tables.{Covers, Agree, IsTable, Differ, assigned_to}
use Rattle.aig.specs.lane_eval.Renaming.{IsCovered, AreCovered, IsRenamed, IsSound, TellsApart, IsLeastOf}
use Rattle.aig.proofs.lane_eval.Numbered.{number_of, bits_of-number_of, number_of-below, bits_of-length, assigned_to-at, map-at}
use Rattle.aig.proofs.lane_eval.Renamed.{renamed-ordered, renamed-vars, renamed-value}

module _ (g : List Node) (l r s : ℕ) (vars : List ℕ) (distinct : AllPairs (λ u v. u ≢ v) vars) (covers : Covers g (l ∷ r ∷ s ∷ []) vars) (c : Cones) (cones : AreConesOf g l r s c) where
  placed-covered : (n : ℕ) (node p : Node) → Contains c.nodes n → slice_get g n ≡ Some node → IsPlacedNode c.nodes node p → IsCovered vars p
  placed-covered n Constant p there at placed = subst (IsCovered vars) (sym placed) tt
  placed-covered n (Input v) p there at placed = subst (IsCovered vars) (sym placed) (covers n v (cones.nodes_are.reached n there) at)
  placed-covered n (And x y) p there at (u, t, e, first, second) = subst (IsCovered vars) (sym e) tt

  -- the variables of the cones are in the list
  pub part-covered : AreCovered vars c.part
  part-covered k p has =
      let inside : k < length c.nodes = omega (arith, slice_get_within c.part k p has, cones.part_is.each) in
      let here = slice_get-get_or c.nodes k 0 inside in
      let there = of_at c.nodes k (get_or c.nodes k 0) here in
      let node_is = slice_get-get_or g (get_or c.nodes k 0) Constant (cones.closed.within (get_or c.nodes k 0) there) in
      let (p', is_p, placed) = cones.part_is.placed k (get_or c.nodes k 0) (get_or g (get_or c.nodes k 0) Constant) here node_is in
      subst (IsCovered vars) (same_Some p' p (sym is_p ∙ has)) (placed-covered (get_or c.nodes k 0) (get_or g (get_or c.nodes k 0) Constant) p' there node_is placed)

  module _ (t : Table) (zip : AllZip (IsRenamed vars) c.part t.nodes.items) (left : t.left.0 ≡ c.left.0) (right : t.right.0 ≡ c.right.0) (care : t.care.0 ≡ c.care.0) where
    placed-within : (x y : ℕ) → IsPlacedLit c.nodes x y → y < 2 * length t.nodes.items
    placed-within x y placed = omega (arith, slice_get_within c.nodes (y / 2) (x / 2) placed.1, cones.part_is.each, zip_length (IsRenamed vars) c.part t.nodes.items zip)

    pub table-sound : (count : ℕ) → count ≡ length vars → IsSound t count
    table-sound count e = record {
      ordered = renamed-ordered vars c.part t.nodes.items zip cones.ordered;
      vars = omega (arith, e, renamed-vars vars c.part t.nodes.items zip);
      left = omega (arith, left, placed-within l c.left.0 cones.left_is);
      right = omega (arith, right, placed-within r c.right.0 cones.right_is);
      care = omega (arith, care, placed-within s c.care.0 cones.care_is);
    }

    -- a literal has its value in the graph, where a place has its variable's bit
    table-value : (a : ℕ → Bool) (bits : List Bool) → ((k v : ℕ) → slice_get vars k ≡ Some v → get_or bits k false ≡ a v) → (x y z : ℕ) → IsPlacedLit c.nodes x y → z ≡ y → value t.nodes.items (assigned bits) z ≡ value g a x
    table-value a bits same x y z placed e = ap (value t.nodes.items (assigned bits)) e ∙ renamed-value vars a (assigned bits) same c.part t.nodes.items zip y ∙ cones.values a x y placed

    module _ (a : ℕ → Bool) (bits : List Bool) (same : (k v : ℕ) → slice_get vars k ≡ Some v → get_or bits k false ≡ a v) where
      left-value : value t.nodes.items (assigned bits) t.left.0 ≡ value g a l
      left-value = table-value a bits same l c.left.0 t.left.0 cones.left_is left

      right-value : value t.nodes.items (assigned bits) t.right.0 ≡ value g a r
      right-value = table-value a bits same r c.right.0 t.right.0 cones.right_is right

      care-value : value t.nodes.items (assigned bits) t.care.0 ≡ value g a s
      care-value = table-value a bits same s c.care.0 t.care.0 cones.care_is care

      from-table : TellsApart t bits → Differ g l r s a
      from-table h = record { cared = sym care-value ∙ h.care; apart = λ e. h.differ (left-value ∙ e ∙ sym right-value) }

      to-table : Differ g l r s a → TellsApart t bits
      to-table h = record { care = care-value ∙ h.cared; differ = λ e. h.apart (sym left-value ∙ e ∙ right-value) }

    numbered-same : (m k v : ℕ) → slice_get vars k ≡ Some v → get_or (bits_of m (length vars)) k false ≡ assigned_to vars (bits_of m (length vars)) v
    numbered-same m k v at = assigned_to-at vars (bits_of m (length vars)) distinct (bits_of-length m (length vars)) k v at

    -- values of the sides that no number tells apart are equal
    same-values : ((m : ℕ) → m < 2 ^ length vars → TellsApart t (bits_of m (length vars)) → ⊥) → Agree g l r s
    same-values none a cared = by (value g a l) (value g a r) refl refl
      where
        none-here : TellsApart t (map a vars) → ⊥
        none-here h =
            let len : length (map a vars) ≡ length vars = length-map vars a in
            let below : number_of (map a vars) < 2 ^ length vars = subst (λ (n : ℕ). number_of (map a vars) < 2 ^ n) len (number_of-below (map a vars)) in
            let back : bits_of (number_of (map a vars)) (length vars) ≡ map a vars = ap (bits_of (number_of (map a vars))) (sym len) ∙ bits_of-number_of (map a vars) in
            none (number_of (map a vars)) below (subst (TellsApart t) (sym back) h)

        apart : (value g a l ≢ value g a r) → ⊥
        apart differ = none-here (to-table a (map a vars) (λ k v at. map-at vars a k v at) (record { cared = cared; apart = differ }))

        by : (x y : Bool) → value g a l ≡ x → value g a r ≡ y → value g a l ≡ value g a r
        by true true e f = e ∙ sym f
        by false false e f = e ∙ sym f
        by true false e f = absurd (apart (λ same. let h : true ≡ false = sym e ∙ same ∙ f in cc))
        by false true e f = absurd (apart (λ same. let h : false ≡ true = sym e ∙ same ∙ f in cc))

    -- what the table says holds of the graph
    pub table-answer : (o : Option ℕ) → IsLeastOf t (length vars) o → IsTable g l r s vars o
    table-answer None none = same-values none
    table-answer (Some number) (below, here, least) = record {
      in_range = below;
      here = from-table (assigned_to vars (bits_of number (length vars))) (bits_of number (length vars)) (numbered-same number) here;
      least = λ m less h. least m less (to-table (assigned_to vars (bits_of m (length vars))) (bits_of m (length vars)) (numbered-same m) h);
    }
