-- The care of a cycle: none at first, the same while the graph grows, and the assumption in one cycle more.
use Rattle.std.proofs.Common.{◌≡◌, ℕ, ◌+◌, ◌<◌, Bool, true, ◌&&◌, List, [], ◌∷◌, get_or, length, slice_get, Some, refl, sym, ◌∙◌, ap, subst, arith, inl, inr, ◌*◌, false}
use Rattle.std.specs.Prelude.{◌⊎◌, ◌↔◌}
use Rattle.std.specs.List.{All, AllPairs, Contains}
use Rattle.std.proofs.lemmas.List.Elements.{All-contains, All-nil}
use Rattle.std.proofs.lemmas.Option.{slice_get-get_or, slice_get_within, get_or_from_slice_get}
use Rattle.circuit_theory.specs.Query.{Variable, HasLeaf, ShiftBefore}
use Rattle.circuit_theory.proofs.Lists.{Contains-head, Contains-map, Contains-map_from, All-from_each, at_of, of_at, only, zip_right}
use Rattle.circuit_laws.specs.reset_laws.Reset.{CycleBefore}
use Rattle.flat_net.specs.View.{NetView, circuit_of}
use Rattle.aig.specs.declared.node.Node.{Node}
use Rattle.aig.specs.declared.node.Node.TheVariants.{Constant, Input}
use Rattle.aig.specs.Builds.{TakesBits}
use Rattle.aig.specs.Cone.{IsReached}
use Rattle.aig.specs.Graph.{IsGraph, Grows}
use Rattle.aig.specs.Rules.{IsAndOf}
use Rattle.aig.specs.Values.{value}
use Rattle.aig.proofs.CoverMeaning.{value-one}
use Rattle.aig.proofs.Growth.{Grows-length}
use Rattle.aig.proofs.Meaning.{value-grows}
use Rattle.aig.proofs.graph_copy.Reaching.{input_back, reads_constant, reads_and}
use Rattle.cbf_unfold.specs.declared.unfold_places.signal_function.Unfolded.{Unfolded}
use Rattle.cbf_unfold.specs.unfold_places.Growing.{IsNumberOf}
use Rattle.cbf_unfold.specs.unfold_places.Reach.{Adds}
use Rattle.cbf_unfold.specs.shift_variables.Variables.{variable_of, variables_of}
use Rattle.cbf_unfold.specs.shift_variables.cycle_variables.Cycles.{AreInCycles, GoesFirst, IsCycleMerge}
use Rattle.cbf_unfold.proofs.shift_variables.Reading.{pair_is}
use Rattle.cbf_unfold.proofs.unfold_places.Lists.{adds_at, pairs_at}
use Rattle.signal_graph.proofs.Lists.{AllPairs-from_at}
use Rattle.assume_laws.specs.Assume.{Assumption, IsAssumption, PlaceUnfolds, RowMeets}
use Rattle.assume_laws.specs.assume_shape.Shape.{assumption_of}
use Rattle.assume_laws.proofs.Meeting.{leaf_at}
use Rattle.assume_queries.specs.assume_functions.Functions.{IsAssumedAt}
use Rattle.assume_queries.specs.declared.assume_answers.order.VariableOrder.TheVariants as order
use Rattle.assume_queries.proofs.assume_functions.Assumed.{assumed_meets}
use Rattle.assume_queries.proofs.Mapped.{ordered_later}
use Rattle.assume_queries.proofs.OneTree.{place_one}
use Rattle.reset_form.proofs.reset_asked.CycleQueries.{merge_in_order, variables_are}
use Rattle.cycle_under.specs.Cares.{ReadsFirst, IsCareFirst}
use Rattle.cycle_under.specs.First.{MeetsFirst}

nothing : {X : Type 0} (x : X) → Contains [] x → ⊥
nothing x h = omega (arith, h.1)

-- before the first cycle nothing is asked of the inputs
pub care_none : (c : Assumption) (g : List Node) (places : List (ℕ × ℕ)) (u : Unfolded) → IsGraph g → u.lit.0 ≡ 1 → u.vars ≡ [] → IsCareFirst c g places 0 u
care_none c g places u graph one none = record {
  within = let some = slice_get_within g 0 Constant graph.constant in omega (arith, some, one);
  care_is = λ bits a takes. ((λ e k low. absurd (omega (arith, low))), (λ m. ap (value g a) one ∙ value-one g graph a));
  reads = λ k v reached at. reads_constant g graph (Contains u.vars) 1 (omega arith) k v (subst (λ (x : ℕ). IsReached g (x ∷ []) k) one reached) at;
  in_order = subst (AreInCycles places) (sym none) (record { within = All-nil (λ v. v < length places); ordered = λ i j d low inside. absurd (omega (arith, inside)) });
  exactly = λ x. ((λ h. absurd (nothing x (subst (λ (vs : List ℕ). Contains (variables_of places vs) x) none h))), (λ r. absurd (let low = r.2 in omega (arith, low))));
}

module _ (places more : List (ℕ × ℕ)) (adds : Adds (λ p. Unit {0}) places more) where
  -- a variable stays what it is while the table grows
  stays : (v : ℕ) → v < length places → variable_of more v ≡ variable_of places v
  stays v low =
      let e : get_or more v (0, 0) ≡ get_or places v (0, 0) = get_or_from_slice_get more v (get_or places v (0, 0)) (0, 0) (adds_at (λ p. Unit {0}) places more v (get_or places v (0, 0)) adds (slice_get-get_or places v (0, 0) low)) in
      λ i. record { input = (e i).0; at = (e i).1 }

  -- the care stays while the graph and the table grow
  pub care_later : (c : Assumption) (g h : List Node) (count : ℕ) (u : Unfolded) → IsGraph h → Grows g h → IsCareFirst c g places count u → IsCareFirst c h more count u
  care_later c g h count u graph grows care = record {
    within = omega (arith, care.within, Grows-length g h grows);
    care_is = λ bits a takes.
        let same = value-grows g h grows a u.lit.0 care.within in
        let old = care.care_is bits a (λ v p there. takes v p (adds_at (λ q. Unit {0}) places more v p adds there)) in
        ((λ e. old.0 (sym same ∙ e)), (λ m. same ∙ old.1 m));
    reads = λ k v reached at. let old = input_back g h graph.ordered grows u.lit.0 k v care.within reached at in care.reads k v old.0 old.1;
    in_order =
        let are = ordered_later places more adds order.Cycles u.vars (record { within = care.in_order.within; ordered = care.in_order.ordered }) in
        record { within = are.within; ordered = are.ordered };
    exactly = λ x. (
      λ h.
          let v = Contains-map_from (variable_of more) u.vars x h in
          let low = All-contains (λ v. v < length places) u.vars v.0 care.in_order.within v.1 in
          (care.exactly x).0 (subst (Contains (variables_of places u.vars)) (sym (stays v.0 low) ∙ v.2) (Contains-map (variable_of places) u.vars v.0 v.1)),
      λ r.
          let v = Contains-map_from (variable_of places) u.vars x ((care.exactly x).1 r) in
          let low = All-contains (λ v. v < length places) u.vars v.0 care.in_order.within v.1 in
          subst (Contains (variables_of more u.vars)) (stays v.0 low ∙ v.2) (Contains-map (variable_of more) u.vars v.0 v.1),
    );
  }

-- the variables of the assumption at one place are in order
pub place_in_order : (n : NetView) (inputs : List ℕ) (s place : ℕ) (g : List Node) (places : List (ℕ × ℕ)) (u : Unfolded) → IsAssumedAt n inputs s place g places u → AreInCycles places u.vars
place_in_order n inputs s place g places u at = record {
  within = All-from_each (λ v. v < length places) u.vars (λ v h. let j = at_of u.vars v h in (variable j.0 v j.1).2);
  ordered = AllPairs-from_at (GoesFirst places) u.vars (λ j k v w below at_j at_k.
      let x = variable j v at_j in
      let y = variable k w at_k in
      let before = pairs_at ShiftBefore at.variables j k x.0 y.0 at.are_variables.in_order below x.1 y.1 in
      subst (λ (z : Variable ℕ). CycleBefore z (variable_of places w)) (sym x.3) (subst (λ (z : Variable ℕ). CycleBefore x.0 z) (sym y.3) (by_number x.0 y.0 before (x.4 ∙ sym y.4))));
}
  where
    by_number : (x y : Variable ℕ) → ShiftBefore x y → x.at ≡ y.at → CycleBefore x y
    by_number x y (inl below) same = absurd (omega (arith, below, same))
    by_number x y (inr h) same = inr (same, h.1)

    variable : (j v : ℕ) → slice_get u.vars j ≡ Some v → (x : Variable ℕ) × (slice_get at.variables j ≡ Some x) × (v < length places) × (variable_of places v ≡ x) × (x.at ≡ place)
    variable j v there =
        let z = zip_right (IsNumberOf places) u.vars at.variables at.numbered j v there in
        let x = z.0 in
        let leaf = (at.are_variables.exactly x).0 (of_at at.variables j x z.1) in
        let own : HasLeaf x at.tree = subst (HasLeaf x) (sym (only at.tree leaf.0 leaf.1)) leaf.2 in
        (x, z.1, slice_get_within places v (x.input, x.at) z.2, pair_is places v (x.input, x.at) z.2, leaf_at (circuit_of n) inputs place x at.unfolds own)

both_true : (x y : Bool) → (x && y) ≡ true → (x ≡ true) × (y ≡ true)
both_true true y e = (refl, e)
both_true false y e = absurd (cc)

and_true : (x y : Bool) → x ≡ true → y ≡ true → (x && y) ≡ true
and_true x y e f = ap (λ (b : Bool). b && y) e ∙ f

order_of : (k count : ℕ) → k < count + 1 → (k < count) ⊎ (k ≡ count)
order_of k count h = grind arith

-- the and of the care and of the assumption in the next cycle is the care up to that
module _ (n : NetView) (inputs : List ℕ) (s size : ℕ) (is : IsAssumption (assumption_of n inputs s) size) (g h : List Node) (graph : IsGraph h) (grows : Grows g h) (places : List (ℕ × ℕ)) (count : ℕ) (u m : Unfolded)
    (care : IsCareFirst (assumption_of n inputs s) g places count u) (at : IsAssumedAt n inputs s count g places m) (both : Unfolded) (small : both.lit.0 < 2 * length h) (anded : IsAndOf h u.lit.0 m.lit.0 both.lit.0)
    (made : (a : ℕ → Bool) → value h a both.lit.0 ≡ (value g a u.lit.0 && value g a m.lit.0)) (merge : IsCycleMerge places u.vars m.vars both.vars) where
  abbrev c : Assumption
  c = assumption_of n inputs s

  care_is : (bits : ℕ → ℕ → Bool) (a : ℕ → Bool) → TakesBits places bits a → (value h a both.lit.0 ≡ true) ↔ MeetsFirst c (count + 1) bits
  care_is bits a takes = (
    λ e k low.
        let two = both_true (value g a u.lit.0) (value g a m.lit.0) (sym (made a) ∙ e) in
        go ((care.care_is bits a takes).0 two.0) ((assumed_meets n inputs s size count g places m is at bits a takes).0 two.1) k (order_of k count low),
    λ all. made a
        ∙ and_true (value g a u.lit.0) (value g a m.lit.0) ((care.care_is bits a takes).1 (λ k low. all k (omega (arith, low)))) ((assumed_meets n inputs s size count g places m is at bits a takes).1 (all count (omega arith))),
  )
    where
      go : MeetsFirst c count bits → RowMeets c (λ i. bits i count) → (k : ℕ) → (k < count) ⊎ (k ≡ count) → RowMeets c (λ i. bits i k)
      go first last k (inl low) = first k low
      go first last k (inr e) = subst (λ (j : ℕ). RowMeets c (λ i. bits i j)) (sym e) last

  reads : (k v : ℕ) → IsReached h (both.lit.0 ∷ []) k → slice_get h k ≡ Some (Input v) → Contains both.vars v
  reads =
      reads_and h graph (Contains both.vars) u.lit.0 m.lit.0 both.lit.0 anded
      (λ k v reached there. let old = input_back g h graph.ordered grows u.lit.0 k v care.within reached there in (merge.exactly v).1 (inl (care.reads k v old.0 old.1)))
      (λ k v reached there. let old = input_back g h graph.ordered grows m.lit.0 k v at.within reached there in (merge.exactly v).1 (inr (at.reads k v old.0 old.1)))

  here_are : variables_of places m.vars ≡ at.variables
  here_are = variables_are places m.vars at.variables at.numbered

  forth : (x : Variable ℕ) → Contains (variables_of places both.vars) x → ReadsFirst c (count + 1) x
  forth x there = let v = Contains-map_from (variable_of places) both.vars x there in go v.0 v.2 ((merge.exactly v.0).0 v.1)
    where
      go : (v : ℕ) → variable_of places v ≡ x → Contains u.vars v ⊎ Contains m.vars v → ReadsFirst c (count + 1) x
      go v e (inl k) =
          let r = (care.exactly x).0 (subst (Contains (variables_of places u.vars)) e (Contains-map (variable_of places) u.vars v k)) in
          (r.0, r.1, (let low = r.2 in omega (arith, low)), r.3, r.4)
      go v e (inr k) =
          let known = subst (λ (xs : List (Variable ℕ)). Contains xs x) here_are (subst (Contains (variables_of places m.vars)) e (Contains-map (variable_of places) m.vars v k)) in
          let leaf = (at.are_variables.exactly x).0 known in
          (count, at.tree, omega arith, at.unfolds, subst (HasLeaf x) (sym (only at.tree leaf.0 leaf.1)) leaf.2)

  back : (x : Variable ℕ) → ReadsFirst c (count + 1) x → Contains (variables_of places both.vars) x
  back x (k, tree, low, unfolds, leaf) = go (order_of k count low)
    where
      among : (vs : List ℕ) → ((v : ℕ) → Contains vs v → Contains both.vars v) → Contains (variables_of places vs) x → Contains (variables_of places both.vars) x
      among vs wider there =
          let v = Contains-map_from (variable_of places) vs x there in
          subst (Contains (variables_of places both.vars)) v.2 (Contains-map (variable_of places) both.vars v.0 (wider v.0 v.1))

      go : (k < count) ⊎ (k ≡ count) → Contains (variables_of places both.vars) x
      go (inl before) = among u.vars (λ v there. (merge.exactly v).1 (inl there)) ((care.exactly x).1 (k, tree, before, unfolds, leaf))
      go (inr e) =
          let same = place_one c size is count tree at.tree (subst (λ (j : ℕ). PlaceUnfolds (circuit_of n) inputs j s tree) e unfolds) at.unfolds in
          let known = (at.are_variables.exactly x).1 (at.tree, Contains-head at.tree [], subst (HasLeaf x) same leaf) in
          among m.vars (λ v there. (merge.exactly v).1 (inr there)) (subst (λ (xs : List (Variable ℕ)). Contains xs x) (sym here_are) known)

  pub care_more : IsCareFirst (assumption_of n inputs s) h places (count + 1) both
  care_more = record {
    within = small;
    care_is = care_is;
    reads = reads;
    in_order = merge_in_order places u.vars m.vars both.vars care.in_order (place_in_order n inputs s count g places m at) merge;
    exactly = λ x. (forth x, back x);
  }

-- a care over the same graph and table
pub care_as : (c : Assumption) (g h : List Node) (places more : List (ℕ × ℕ)) (count : ℕ) (u : Unfolded) → h ≡ g → more ≡ places → IsCareFirst c g places count u → IsCareFirst c h more count u
care_as c g h places more count u aig table care = subst (λ (k : List Node). IsCareFirst c k more count u) (sym aig) (subst (λ (m : List (ℕ × ℕ)). IsCareFirst c g m count u) (sym table) care)
