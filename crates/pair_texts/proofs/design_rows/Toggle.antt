-- The design whose latch lies on a cycle.
use Rattle.std.proofs.Common.{◌≡◌, ℕ, true, List, [], ◌∷◌, Option, None, refl, subst, arith, inl, inr, length}
use Rattle.std.specs.Prelude.{codes}
use Rattle.std.specs.List.{Contains}
use Rattle.circuit_theory.specs.Agree.{cut}
use Rattle.circuit_theory.specs.Circuit.{Circuit, Equation, Gate, Latch, Port, IsLatch, Reads, Reaches}
use Rattle.circuit_theory.specs.Depth.{LatchReads, LatchPath, HasCycle}
use Rattle.circuit_theory.specs.Run.{NoneEnabled}
use Rattle.circuit_theory.specs.Sizes.{Weighed}
use Rattle.circuit_theory.proofs.Lists.{Contains-head, Contains-tail, Contains-cases}
use Rattle.blif_read.specs.Design.{Place, top, walk, circuit_of_design}
use Rattle.flat_net.specs.View.{NetView, circuit_of}
use Rattle.net_assembly.specs.net_alike.FlatCircuit.{IsFlatCircuit}
use Rattle.net_assembly.proofs.net_alike.Alike.{portless_is_renumbered}
use Rattle.net_assembly.proofs.net_alike.Carrying.{cycle_carried}
use Rattle.flatten.specs.DesignFaults.{IsClocked, IsFlatOf}
use Rattle.pair_texts.specs.design_rows.NoFault.{has_no_fault}
use Rattle.job_base.proofs.design_laws.KeptNames.{names_are_kept}
use Rattle.pair_texts.proofs.design_rows.NoFaults.{tested_is_sound}
use Rattle.pair_texts.specs.design_rows.Designs.{same_cover, not_cover, toggle}
use Rattle.pair_texts.specs.design_rows.Small.{small_toggle, ToggleIsSmall}
use Rattle.pair_texts.proofs.design_rows.Examples.{at_top, flat_rank}
use Rattle.pair_texts.proofs.design_rows.Tested.{PassesTests, tested_is_small}

-- both gates and the latch's input, now
abbrev spots : List (Weighed Place)
spots = at_top (codes "y") 0 3 ∷ at_top (codes "n") 0 3 ∷ at_top (codes "q") 0 1 ∷ []

passes : PassesTests toggle small_toggle flat_rank spots
unfolding circuit_of_design walk cut
passes = record { no_clock = refl; inputs = refl; outputs = refl; latches = refl; ranked = refl; closed = refl; weight = refl }

no_fault : has_no_fault (codes "n" ∷ codes "y" ∷ []) toggle ≡ true
unfolding walk
no_fault = refl

abbrev Q : Place
Q = top (codes "q")

abbrev N : Place
N = top (codes "n")

-- the design, written out
abbrev turning : Equation Place
turning = Gate N (Q ∷ []) not_cover

abbrev holding : Equation Place
holding = Latch (codes "q") Q N

abbrev showing : Equation Place
showing = Gate (top (codes "y")) (Q ∷ []) same_cover

abbrev d : Circuit Place
d = record { inputs = []; outputs = record { name = codes "y"; place = top (codes "y") } ∷ []; equations = turning ∷ holding ∷ showing ∷ []; starts = [] }

circuit_is : circuit_of_design toggle None ≡ d
unfolding circuit_of_design walk
circuit_is = refl

no_port : (out from : Place) → Contains d.equations (Port out from) → ⊥
no_port out from h =
    elim (Contains-cases turning (Port out from) (holding ∷ showing ∷ []) h) [
      | inl e ↦ absurd (cc)
      | inr k ↦ elim (Contains-cases holding (Port out from) (showing ∷ []) k) [
        | inl e ↦ absurd (cc)
        | inr l ↦ elim (Contains-cases showing (Port out from) [] l) [ inl e ↦ absurd (cc) | inr none ↦ (let m = none.1 in omega (arith, m)) ]
      ]
    ]

latch_there : IsLatch d (codes "q") Q N
latch_there = Contains-tail turning holding (holding ∷ showing ∷ []) (Contains-head holding (showing ∷ []))

reads_itself : LatchReads d NoneEnabled [] Q Q
reads_itself = record {
  name = codes "q";
  next = N;
  latch = latch_there;
  kept = λ h. (let m = h.1 in omega (arith, m));
  other_name = codes "q";
  other_next = N;
  other = latch_there;
  other_kept = λ h. (let m = h.1 in omega (arith, m));
  cone = (inr (codes "q", N, latch_there), Reaches.there (Reads.by_gate {fanins = Q ∷ []} {cover = not_cover} (Contains-head turning (holding ∷ showing ∷ [])) (Contains-head Q [])) Reaches.here);
  no_self_edge = λ e. absurd e;
}

cyclic : (net : NetView) → IsFlatOf toggle net → HasCycle (circuit_of net) NoneEnabled []
cyclic net f =
    let none : net.clock ≡ None = (names_are_kept toggle net f).unclocked passes.no_clock in
    let flat : IsFlatCircuit d (circuit_of net) (length net.drivers) (IsClocked d None) f.origin f.signal =
    subst (λ (c : Circuit Place). IsFlatCircuit c (circuit_of net) (length net.drivers) (IsClocked c None) f.origin f.signal) circuit_is
    (subst (λ (k : Option (List ℕ)). IsFlatCircuit (circuit_of_design toggle k) (circuit_of net) (length net.drivers) (IsClocked (circuit_of_design toggle k) k) f.origin f.signal) none f.circuit) in
    (cycle_carried d (circuit_of net) f.signal f.origin (portless_is_renumbered d (circuit_of net) (length net.drivers) (IsClocked d None) f.origin f.signal flat no_port) []).0 (Q, LatchPath.edge reads_itself)

pub toggle_is_small : ToggleIsSmall
toggle_is_small = ((tested_is_sound (codes "n" ∷ codes "y" ∷ []) toggle no_fault, tested_is_small toggle small_toggle flat_rank spots passes), cyclic)
