-- The cycle that is told, by the names of its latches.
use Rattle.std.proofs.Common.{◌≡◌, ◌<◌, ℕ, List, [], ◌∷◌, length, Err, sym, subst}
use Rattle.std.specs.List.{All, AllZip}
use Rattle.std.proofs.lemmas.List.Elements.{All-head, All-tail}
use Rattle.std.proofs.lemmas.Option.{slice_get-get_or}
use Rattle.circuit_theory.specs.Circuit.{IsLatch}
use Rattle.circuit_theory.specs.Depth.{IsCycle, BeginsWithLeast}
use Rattle.circuit_theory.specs.declared.Mode.{Mode}
use Rattle.circuit_theory.specs.declared.Side.TheVariants.{A, B}
use Rattle.circuit_theory.specs.Agree.{EnabledIn}
use Rattle.latch_graph.specs.flat_net.LatchAt.{LatchAt}
use Rattle.latch_graph.specs.flat_net.View.{NetView, circuit_of}
use Rattle.latch_graph.specs.flat_net.Cut.{no_latch, latch_at, exposed_names}
use Rattle.latch_graph.proofs.flat_net.Nets.{latch_stands}
use Rattle.latch_graph.specs.Graph.{GraphView, IsGraphIn, signals_at}
use Rattle.latch_graph.proofs.Skipping.{mode_cycle}
use Rattle.latch_graph.specs.minimal_cut.Chosen.{names_at}
use Rattle.sec_setup.specs.cut_points.expose_pick.Pairs.{IsLeft}
use Rattle.sec_setup.specs.cut_points.Common.{common_names}
use Rattle.sec_setup.specs.cut_points.Exposed.{Exposes, IsFreeWithout, IsToldCycle, TellsCycle}
use Rattle.sec_setup.specs.declared.cut_points.exposed.ExposeError.{ExposeError}
use Rattle.sec_setup.specs.declared.cut_points.exposed.ExposeError.TheVariants as refused

-- the names of latches beside their signals
names_beside : (n : NetView) (positions : List ℕ) → All (λ j. j < length n.latches) positions →
    AllZip (λ name u. (next : ℕ) × IsLatch (circuit_of n) name u next) (exposed_names n positions) (signals_at n.latches positions)
names_beside n [] within = tt
names_beside n (j ∷ js) within = (
  ((latch_at n j).next.0, latch_stands n j (latch_at n j) (slice_get-get_or n.latches j no_latch (All-head (λ i. i < length n.latches) j js within))),
  names_beside n js (All-tail (λ i. i < length n.latches) j js within),
)

module _ (mode : Mode) (n : NetView) (g : GraphView) (is : IsGraphIn mode n g) (positions ids : List ℕ) (left : IsLeft g positions ids) where
  pub ids_within : All (λ j. j < length n.latches) ids
  ids_within = subst (λ (ls : List LatchAt). All (λ j. j < length ls) ids) is.graph.latches left.within

  -- the cycle that is told, where the latches that are left out have these names
  pub told_cycle : (without names : List (List ℕ)) → names_at g.latches positions ≡ without → names ≡ exposed_names n ids → IsToldCycle mode n without names
  told_cycle without names out told = subst (IsToldCycle mode n without) (sym told) (record {
    latches = signals_at n.latches ids;
    cycle =
        subst (λ (ls : List LatchAt). IsCycle (circuit_of n) (EnabledIn mode (circuit_of n)) without (signals_at ls ids)) is.graph.latches
        (subst (λ (names : List (List ℕ)). IsCycle (circuit_of n) (EnabledIn mode (circuit_of n)) names (signals_at g.latches ids)) out
        (mode_cycle mode n g is (names_at g.latches positions) (signals_at g.latches ids) (left.round n is.graph)));
    least = subst (λ (ls : List LatchAt). BeginsWithLeast (circuit_of n) (signals_at ls ids)) is.graph.latches (left.least n is.graph);
    named = names_beside n ids ids_within;
  })

-- what is told of A's cycle
pub tells_left : (mode : Mode) (a b : NetView) (cycle : List ℕ) (error : ExposeError) → TellsCycle a A cycle error →
    ((names : List (List ℕ)) → names ≡ exposed_names a cycle → IsToldCycle mode a (common_names (circuit_of a) (circuit_of b)) names) → Exposes mode a b (Err error)
tells_left mode a b cycle (refused.Unpaired A names) tells cycle_is = cycle_is names tells.1
tells_left mode a b cycle (refused.Unpaired B names) tells cycle_is = absurd (no tells.0)
  where
    no : B ≡ A → ⊥
    no e = cc
tells_left mode a b cycle refused.NoMemory tells cycle_is = tt

-- and of B's, where A has none
pub tells_right : (mode : Mode) (a b : NetView) (cycle : List ℕ) (error : ExposeError) → TellsCycle b B cycle error → IsFreeWithout mode a (common_names (circuit_of a) (circuit_of b)) →
    ((names : List (List ℕ)) → names ≡ exposed_names b cycle → IsToldCycle mode b (common_names (circuit_of a) (circuit_of b)) names) → Exposes mode a b (Err error)
tells_right mode a b cycle (refused.Unpaired A names) tells free cycle_is = absurd (no tells.0)
  where
    no : A ≡ B → ⊥
    no e = cc
tells_right mode a b cycle (refused.Unpaired B names) tells free cycle_is = (free, cycle_is names tells.1)
tells_right mode a b cycle refused.NoMemory tells free cycle_is = tt
