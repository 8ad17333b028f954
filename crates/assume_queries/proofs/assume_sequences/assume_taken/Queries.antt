-- The query of a net's own function, and the row of its difference.
use Rattle.std.proofs.Common.{◌≡◌, ℕ, ◌<◌, ◌≤◌, ◌^◌, Bool, false, List, [], ◌∷◌, length, refl, sym, ◌∙◌, ap, subst, arith}
use Rattle.std.specs.List.{All, AllZip}
use Rattle.std.proofs.lemmas.List.Elements.{All-map}
use Rattle.std.proofs.lemmas.Option.{get_or_from_slice_get}
use Rattle.circuit_theory.specs.Query.{Variable, same_shift, assigned, bits_of}
use Rattle.circuit_theory.specs.Query as query
use Rattle.circuit_theory.specs.Tree.{Tree, tree_value}
use Rattle.circuit_theory.proofs.Lists.{zip_length}
use Rattle.circuit_laws.proofs.Windows.{row_value-is}
use Rattle.base_tables.specs.Table.{AreDistinct}
use Rattle.flat_net.specs.View.{NetView, circuit_of}
use Rattle.aig.specs.Builds.{HasTreeValues}
use Rattle.aig.specs.Graph.{IsGraph}
use Rattle.aig.specs.Values.{value}
use Rattle.aig.proofs.CoverMeaning.{value-zero, value-one}
use Rattle.cbf_unfold.specs.unfold_places.Growing.{IsNumberOf, TakesBits}
use Rattle.assume_queries.proofs.assume_functions.cbf_unfold.Cone.{covers_cone}
use Rattle.pair_decide.specs.Queries.{IsLeast, Distinguishes, assigned_to}
use Rattle.pair_decide.specs.Answers.{IsDifference}
use Rattle.cbf_unfold.specs.shift_variables.Variables.{variable_of, variables_of}
use Rattle.cbf_unfold.specs.shift_variables.Sequences.{bits_at, IsSequence}
use Rattle.cbf_unfold.proofs.shift_variables.Assignments.{assigned_alike}
use Rattle.assume_laws.specs.Assume.{PlaceUnfolds}
use Rattle.assume_laws.specs.Sequences.{IsMeetingDifference, IsMeetingRow, assumption_query}
use Rattle.assume_laws.proofs.Care.{unfolds_place}
use Rattle.assume_laws.proofs.Filled.{below_count}
use Rattle.assume_laws.specs.assume_shape.Shape.{assumption_of}
use Rattle.assume_queries.specs.declared.assume_functions.own.OwnFunction.{OwnFunction}
use Rattle.assume_queries.specs.assume_functions.Functions.{IsOwnFunction, HasNoLatch}
use Rattle.assume_queries.specs.assume_sequences.assume_taken.Meeting.{IsRowOf, meeting_query}
use Rattle.assume_queries.proofs.assume_sequences.assume_taken.Rows.{is_sequence}
use Rattle.assume_queries.specs.assume_sequences.Filled.{bit_of}
use Rattle.assume_queries.specs.assume_sequences.assume_taken.Asked.{IsAssumptionQuery, IsKeptRow}

-- the number of a variable in the table is that of the variable
variable_is : (places : List (ℕ × ℕ)) (v : ℕ) (x : Variable ℕ) → IsNumberOf places v x → variable_of places v ≡ x
variable_is places v x at = let e = get_or_from_slice_get places v (x.input, x.at) (0, 0) at in λ i. record { input = (e i).0; at = (e i).1 }

variables_are : (places : List (ℕ × ℕ)) (vars : List ℕ) (variables : List (Variable ℕ)) → AllZip (IsNumberOf places) vars variables → variables_of places vars ≡ variables
variables_are places [] [] h = refl
variables_are places [] (x ∷ variables) h = absurd h
variables_are places (v ∷ vars) [] h = absurd h
variables_are places (v ∷ vars) (x ∷ variables) h =
    let head : variable_of places v ≡ x = variable_is places v x h.0 in
    let tail : variables_of places vars ≡ variables = variables_are places vars variables h.1 in
    cc

module _ (n : NetView) (order : List ℕ) (s : ℕ) (own : OwnFunction) (is : IsOwnFunction n order s own) (gates : HasNoLatch n) (graph : IsGraph own.aig) (trees : HasTreeValues own.aig) (distinct : AreDistinct own.places) where
  abbrev tree : Tree ℕ
  tree = is.unfolded.tree

  abbrev spread : List Bool → ℕ → ℕ → Bool
  spread bits = assigned same_shift is.unfolded.variables bits

  unfolds : PlaceUnfolds (circuit_of n) order 0 s tree
  unfolds = unfolds_place (circuit_of n) order gates is.unfolded.unfolds

  worth : (bits : ℕ → ℕ → Bool) (a : ℕ → Bool) → TakesBits own.places bits a → value own.aig a own.function.lit.0 ≡ tree_value bits tree
  worth bits a takes = trees own.places bits a tree own.function.lit.0 takes is.unfolded.builds

  -- the query asks of the assumption
  pub asks : IsAssumptionQuery (assumption_of n order s) own.aig (meeting_query own)
  asks = record {
    tree = tree;
    unfolds = unfolds;
    variables = is.unfolded.variables;
    are_variables = is.unfolded.are_variables;
    places = own.places;
    distinct = distinct;
    numbered = is.unfolded.numbered;
    is_graph = graph;
    within = is.unfolded.within;
    worth = worth;
    reads = (covers_cone n order own.aig own.places s own.function.lit.0 own.function.vars graph distinct is.unfolded).1;
    right_is = refl;
    care_is = refl;
  }

  same_variables : variables_of own.places own.function.vars ≡ is.unfolded.variables
  same_variables = variables_are own.places own.function.vars is.unfolded.variables is.unfolded.numbered

  same_bits : (bits : List Bool) (i k : ℕ) → bits_at own.places own.function.vars bits i k ≡ spread bits i k
  same_bits bits i k = ap (λ (xs : List (Variable ℕ)). assigned same_shift xs bits i k) same_variables

  long : length own.function.vars ≡ length is.unfolded.variables
  long = zip_length (IsNumberOf own.places) own.function.vars is.unfolded.variables is.unfolded.numbered

  module _ (within : All (λ v. v < length own.places) own.function.vars) where
    value_is : (bits : List Bool) → value own.aig (assigned_to own.function.vars bits) own.function.lit.0 ≡ tree_value (spread bits) tree
    value_is bits = worth (spread bits) (assigned_to own.function.vars bits) (λ v p at. assigned_alike own.places own.function.vars bits distinct within v p at ∙ same_bits bits p.0 p.1)

    tree_differs : (bits : List Bool) → Distinguishes own.aig (meeting_query own) (assigned_to own.function.vars bits) → query.Distinguishes (assumption_query tree) (spread bits)
    tree_differs bits d = record { care = refl; differs = λ e. d.differ (value_is bits ∙ (e ∙ sym (value-zero own.aig graph (assigned_to own.function.vars bits)))) }

    lits_differ : (bits : List Bool) → query.Distinguishes (assumption_query tree) (spread bits) → Distinguishes own.aig (meeting_query own) (assigned_to own.function.vars bits)
    lits_differ bits d = record {
      care = value-one own.aig graph (assigned_to own.function.vars bits);
      differ = λ e. d.differs (sym (value_is bits) ∙ (e ∙ value-zero own.aig graph (assigned_to own.function.vars bits)));
    }

    -- the least number is least for the tree
    least_is : (number : ℕ) → IsLeast own.aig (meeting_query own) number → query.IsLeast same_shift (assumption_query tree) is.unfolded.variables number
    least_is number h = record {
      in_range = subst (λ m. number < 2 ^ m) long h.in_range;
      distinguishes = subst (λ m. query.Distinguishes (assumption_query tree) (spread (bits_of number m))) long (tree_differs (bits_of number (length own.function.vars)) h.distinguishes);
      least = λ k below d. h.least k below (lits_differ (bits_of k (length own.function.vars)) (subst (λ m. query.Distinguishes (assumption_query tree) (spread (bits_of k m))) (sym long) d));
    }

    difference : (bits : List Bool) → IsDifference own.aig (meeting_query own) bits → IsMeetingDifference (assumption_of n order s) 0 tree is.unfolded.variables bits
    difference bits d = record {
      unfolds = unfolds;
      are_variables = is.unfolded.are_variables;
      each = d.each ∙ long;
      distinguishes = tree_differs bits d.distinguishes;
      least = λ few. let h = d.least (omega (arith, few, long)) in (h.0, h.1 ∙ ap (bits_of h.0) long, least_is h.0 h.2);
    }

  -- the row of a difference is kept
  pub kept : (count : ℕ) (bits row : List Bool) → All (λ i. i < count) order → IsDifference own.aig (meeting_query own) bits → IsRowOf own bits count row → IsMeetingRow (assumption_of n order s) count (bit_of row) →
      IsKeptRow (assumption_of n order s) count (bit_of row)
  kept count bits row inputs d of meets = record {
    tree = tree;
    variables = is.unfolded.variables;
    bits = bits;
    difference = difference sequence.in_order.within bits d;
    row_is = λ i. ap (λ (r : List Bool). bit_of r i) of ∙ (row_value-is 0 (bits_at own.places own.function.vars bits) count i 0 (omega arith) (past i) ∙ same_bits bits i 0);
    meets = meets;
  }
    where
      sequence : IsSequence own.places own.function.vars bits 0 count
      sequence = is_sequence n order s own is count bits gates inputs d.each

      past : (i : ℕ) → count ≤ i → bits_at own.places own.function.vars bits i 0 ≡ false
      past i h = below_count same_shift (variables_of own.places own.function.vars) bits count i 0 (All-map (λ (y : Variable ℕ). y.input < count) (variable_of own.places) own.function.vars sequence.inputs) h
