-- The function at a place, from the copy of the function on its own graph.
use Rattle.std.proofs.Common.{◌≡◌, ℕ, ◌<◌, ◌≤◌, List, [], ◌∷◌, map, length, get_or, refl, sym, ◌∙◌, subst, arith, inl, inr}
use Rattle.std.specs.List.{All, AllZip, Contains}
use Rattle.std.proofs.lemmas.List.Elements.{All-nil, All-cons, All-weaker}
use Rattle.std.proofs.lemmas.Option.{get_or_from_slice_get, slice_get_within}
use Rattle.circuit_theory.specs.Query.{Variable, AreVariables, HasLeaf, ShiftBefore}
use Rattle.circuit_theory.proofs.Lists.{Contains-head, Contains-map, Contains-map_from, only, zip_weaker}
use Rattle.base_tables.specs.Table.{AreDistinct}
use Rattle.flat_net.specs.View.{NetView, circuit_of}
use Rattle.aig.specs.declared.node.Node.{Node}
use Rattle.aig.specs.Builds.{HasTreeValues}
use Rattle.aig.specs.Graph.{IsGraph}
use Rattle.aig.proofs.Growth.{Grows-length}
use Rattle.aig.proofs.Meaning.{value-grows}
use Rattle.cbf_unfold.proofs.unfold_places.Lists.{adds_at, pairs_map}
use Rattle.cbf_unfold.specs.declared.unfold_places.signal_function.Unfolded.{Unfolded}
use Rattle.cbf_unfold.specs.Unfolded.{IsNumberOf}
use Rattle.cbf_unfold.proofs.Cone.{covers_cone}
use Rattle.aig.specs.graph_copy.Copy.{renamed, IsCopyOf}
use Rattle.aig.proofs.graph_copy.Reaching.{input_back}
use Rattle.assume_laws.proofs.Care.{tree_meets, unfolds_place}
use Rattle.assume_laws.proofs.Meeting.{leaf_at}
use Rattle.assume_queries.specs.declared.assume_functions.own.OwnFunction.{OwnFunction}
use Rattle.assume_queries.specs.assume_functions.Functions.{HasNoLatch, IsOwnFunction, AreNumbersAt, IsAssumedAt}
use Rattle.assume_queries.specs.assume_functions.Laws.{AssumedMeets, AssumedLater}
use Rattle.assume_queries.proofs.assume_functions.Moved.{put_at, moved, moved_value, moved_unfolds, moved_leaf, moved_from}
use Rattle.assume_queries.proofs.assume_functions.TableNumbers.{number_there}

-- the function's variables are entries of its table
numbers_inside : (places : List (ℕ × ℕ)) (vars : List ℕ) (variables : List (Variable ℕ)) → AllZip (IsNumberOf places) vars variables → All (λ v. v < length places) vars
numbers_inside places [] [] h = All-nil (λ v. v < length places)
numbers_inside places [] (x ∷ variables) h = absurd h
numbers_inside places (v ∷ vars) [] h = absurd h
numbers_inside places (v ∷ vars) (x ∷ variables) h =
    All-cons (λ v. v < length places) v vars (slice_get_within places v (x.input, x.at) h.0) (numbers_inside places vars variables h.1)

pub vars_within : (n : NetView) (order : List ℕ) (s : ℕ) (own : OwnFunction) → IsOwnFunction n order s own → (size : ℕ) → length own.places ≤ size → All (λ v. v < size) own.function.vars
vars_within n order s own is size each =
    All-weaker (λ v. v < length own.places) (λ v. v < size) (λ v h. omega (arith, h, each)) own.function.vars (numbers_inside own.places own.function.vars is.unfolded.variables is.unfolded.numbered)

module _ (n : NetView) (order : List ℕ) (s : ℕ) (own : OwnFunction) (is : IsOwnFunction n order s own) (gates : HasNoLatch n) (graph : IsGraph own.aig) (distinct : AreDistinct own.places) (trees : HasTreeValues own.aig) where
  leaf_zero : (x : Variable ℕ) → Contains is.unfolded.variables x → x.at ≡ 0
  leaf_zero x h =
      let l = (is.unfolded.are_variables.exactly x).0 h in
      leaf_at (circuit_of n) order 0 x (unfolds_place (circuit_of n) order gates is.unfolded.unfolds) (subst (HasLeaf x) (sym (only is.unfolded.tree l.0 l.1)) l.2)

  module _ (place : ℕ) (table : List (ℕ × ℕ)) (numbers : List ℕ) (each : length own.places ≤ length numbers) (at : AreNumbersAt own.places place table numbers) where
    abbrev number : ℕ → ℕ
    number v = get_or numbers v 0

    in_order : (x y : Variable ℕ) → Contains is.unfolded.variables x → Contains is.unfolded.variables y → ShiftBefore x y → ShiftBefore (put_at place x) (put_at place y)
    in_order x y hx hy (inl below) = absurd (omega (arith, leaf_zero x hx, leaf_zero y hy, below))
    in_order x y hx hy (inr k) = inr (refl, k.1)

    zip_put : (vs : List ℕ) (xs : List (Variable ℕ)) → AllZip (IsNumberOf own.places) vs xs → AllZip (IsNumberOf table) (map number vs) (map (put_at place) xs)
    zip_put [] [] h = tt
    zip_put [] (x ∷ xs) h = absurd h
    zip_put (v ∷ vs) [] h = absurd h
    zip_put (v ∷ vs) (x ∷ xs) h = (number_there own.places place table numbers each at v (x.input, x.at) h.0, zip_put vs xs h.1)

    are_put : AreVariables ShiftBefore (moved place is.unfolded.tree ∷ []) (map (put_at place) is.unfolded.variables)
    are_put = record {
      in_order = pairs_map (put_at place) ShiftBefore ShiftBefore is.unfolded.variables in_order is.unfolded.are_variables.in_order;
      exactly = λ y. (
        λ h.
            let v = Contains-map_from (put_at place) is.unfolded.variables y h in
            let l = (is.unfolded.are_variables.exactly v.0).0 v.1 in
            let leaf : HasLeaf v.0 is.unfolded.tree = subst (HasLeaf v.0) (sym (only is.unfolded.tree l.0 l.1)) l.2 in
            (moved place is.unfolded.tree, Contains-head (moved place is.unfolded.tree) [], subst (λ (z : Variable ℕ). HasLeaf z (moved place is.unfolded.tree)) v.2 (moved_leaf place leaf)),
        λ h.
            let leaf : HasLeaf y (moved place is.unfolded.tree) = subst (HasLeaf y) (sym (only (moved place is.unfolded.tree) h.0 h.1)) h.2 in
            let x = moved_from place y is.unfolded.tree leaf in
            subst (Contains (map (put_at place) is.unfolded.variables)) x.2
            (Contains-map (put_at place) is.unfolded.variables x.0 ((is.unfolded.are_variables.exactly x.0).1 (is.unfolded.tree, Contains-head is.unfolded.tree [], x.1))),
      );
    }

    pub assumed_there : (g : List Node) (u : Unfolded) → IsCopyOf own.aig numbers g own.function.lit.0 u.lit.0 → u.vars ≡ map number own.function.vars → IsAssumedAt n order s place g table u
    assumed_there g u copy vars = record {
      tree = moved place is.unfolded.tree;
      unfolds = moved_unfolds (circuit_of n) order gates place is.unfolded.unfolds;
      within = copy.within;
      worth = λ bits a takes.
          copy.same a
          ∙ (trees own.places (λ i k. bits i place) (renamed numbers a) is.unfolded.tree own.function.lit.0 (λ v p there. takes (number v) (p.0, place) (number_there own.places place table numbers each at v p there)) is.unfolded.builds
          ∙ sym (moved_value place bits is.unfolded.tree));
      reads = λ k v reached there.
          let r = copy.reads k v reached there in
          let among = (covers_cone n order own.aig own.places s own.function.lit.0 own.function.vars graph distinct is.unfolded).1 r.node r.variable r.reached r.at in
          subst (λ (vs : List ℕ). Contains vs v) (sym vars) (subst (Contains (map number own.function.vars)) (get_or_from_slice_get numbers r.variable v 0 r.number) (Contains-map number own.function.vars r.variable among));
      variables = map (put_at place) is.unfolded.variables;
      are_variables = are_put;
      numbered = subst (λ (vs : List ℕ). AllZip (IsNumberOf table) vs (map (put_at place) is.unfolded.variables)) (sym vars) (zip_put own.function.vars is.unfolded.variables is.unfolded.numbered);
    }

pub assumed_meets : AssumedMeets
assumed_meets n order s size place g places u is at bits a takes =
    let t = tree_meets (record { circuit = circuit_of n; order = order; output = s }) size is place at.tree bits at.unfolds in
    (λ e. t.0 (sym (at.worth bits a takes) ∙ e), λ meets. at.worth bits a takes ∙ t.1 meets)

pub assumed_later : AssumedLater
assumed_later n order s place g h places more u graph grows adds at = record {
  tree = at.tree;
  unfolds = at.unfolds;
  within = omega (arith, at.within, Grows-length g h grows);
  worth = λ bits a takes. value-grows g h grows a u.lit.0 at.within ∙ at.worth bits a (λ v p there. takes v p (adds_at (λ q. Unit {0}) places more v p adds there));
  reads = λ k v reached there. let old = input_back g h graph.ordered grows u.lit.0 k v at.within reached there in at.reads k v old.0 old.1;
  variables = at.variables;
  are_variables = at.are_variables;
  numbered = zip_weaker (IsNumberOf places) (IsNumberOf more) (λ v x there. adds_at (λ q. Unit {0}) places more v (x.input, x.at) adds there) u.vars at.variables at.numbered;
}
