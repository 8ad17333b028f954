-- The cycle that a graph tells is one of its net.
use Rattle.std.proofs.Common.{◌≡◌, ◌∙◌, ◌<◌, ℕ, zero, suc, Bool, false, List, [], ◌∷◌, map, length, get_or, replicate, Option, Some, None, refl, sym, ap, subst, arith}
use Rattle.std.specs.Prelude.{All, Contains, IfSome, IfNone, option_map}
use Rattle.std.proofs.lemmas.List.Elements.{All-map}
use Rattle.std.proofs.lemmas.Option.{slice_get-get_or}
use Rattle.circuit_theory.specs.Agree.{EnabledIn}
use Rattle.circuit_theory.specs.Depth.{HasCycle, IsCycle, BeginsWithLeast}
use Rattle.circuit_theory.proofs.Lists.{map-map, of_at}
use Rattle.flat_net.specs.declared.parts.LatchAt.{LatchAt}
use Rattle.flat_net.specs.Cut.{no_latch, latch_at}
use Rattle.flat_net.specs.View.{NetView, circuit_of}
use Rattle.circuit_theory.specs.declared.Mode.{Mode}
use Rattle.signal_graph.specs.Graph.{GraphView, IsGraphOf, IsGraphIn, SkippedBy, marked_names, signals_at}
use Rattle.latch_graph.proofs.Skipping.{mode_cycle, cycle_in_graph}
use Rattle.circuit_report.specs.graph_report.Report.{IsFound}

-- no latch is marked
none_marked : (latches : List LatchAt) (count : ℕ) → marked_names latches (replicate count false) ≡ []
none_marked [] count = refl
none_marked (l ∷ ls) zero = refl
none_marked (l ∷ ls) (suc count) = none_marked ls count

module _ (mode : Mode) (n : NetView) (g : GraphView) (of : IsGraphIn mode n g) (bits : List Bool) (count : ℕ) (unset : bits ≡ replicate count false) where
  none_left_out : marked_names g.latches bits ≡ []
  none_left_out = ap (marked_names g.latches) unset ∙ none_marked g.latches count

  -- no cycle is left out
  pub none_found : ((m : NetView) → IsGraphOf m g → HasCycle (circuit_of m) (SkippedBy g) (marked_names g.latches bits) → ⊥) → IsFound mode n None
  none_found none cycle = none n of.graph (subst (HasCycle (circuit_of n) (SkippedBy g)) (sym none_left_out) (cycle_in_graph mode n g of [] cycle))

  -- the latches at these places
  pub found : (places : List ℕ) → All (λ j. j < length g.latches) places →
      ((m : NetView) → IsGraphOf m g → IsCycle (circuit_of m) (SkippedBy g) (marked_names g.latches bits) (signals_at g.latches places)) →
      ((m : NetView) → IsGraphOf m g → BeginsWithLeast (circuit_of m) (signals_at g.latches places)) → IsFound mode n (Some (map (λ j. get_or n.latches j no_latch) places))
  found places within cycle least = (
    All-map (Contains n.latches) (λ j. get_or n.latches j no_latch) places (λ k d below.
        let low : get_or places k d < length n.latches = let w = within k d below in let e = ap length of.graph.latches in omega (arith, w, e) in
        of_at n.latches (get_or places k d) (get_or n.latches (get_or places k d) no_latch) (slice_get-get_or n.latches (get_or places k d) no_latch low)),
    subst (IsCycle (circuit_of n) (EnabledIn mode (circuit_of n)) []) same (subst (λ (names : List (List ℕ)). IsCycle (circuit_of n) (EnabledIn mode (circuit_of n)) names (signals_at g.latches places)) none_left_out (mode_cycle mode n g of (marked_names g.latches bits) (signals_at g.latches places) (cycle n of.graph))),
    subst (BeginsWithLeast (circuit_of n)) same (least n of.graph),
  )
    where
      same : signals_at g.latches places ≡ map (λ (l : LatchAt). l.out.0) (map (λ j. get_or n.latches j no_latch) places)
      same = ap (λ (latches : List LatchAt). signals_at latches places) of.graph.latches ∙ sym (map-map (λ (l : LatchAt). l.out.0) (λ j. get_or n.latches j no_latch) places)

  -- the cycle that the graph tells, or that there is none
  pub found_in : (o : Option (List ℕ)) → IfNone o ((m : NetView) → IsGraphOf m g → HasCycle (circuit_of m) (SkippedBy g) (marked_names g.latches bits) → ⊥) →
      IfSome o (All (λ j. j < length g.latches)) → IfSome o (λ places. (m : NetView) → IsGraphOf m g → IsCycle (circuit_of m) (SkippedBy g) (marked_names g.latches bits) (signals_at g.latches places)) →
      IfSome o (λ places. (m : NetView) → IsGraphOf m g → BeginsWithLeast (circuit_of m) (signals_at g.latches places)) → IsFound mode n (option_map (map (latch_at n)) o)
  found_in None none within cycle least = none_found none
  found_in (Some places) none within cycle least = found places within cycle least

-- the places are those of latches of the net
pub within_in : (n : NetView) (g : GraphView) → IsGraphOf n g → (o : Option (List ℕ)) → IfSome o (All (λ j. j < length g.latches)) → IfSome o (All (λ j. j < length n.latches))
within_in n g of None within = tt
within_in n g of (Some places) within = subst (λ (latches : List LatchAt). All (λ j. j < length latches) places) of.latches within
