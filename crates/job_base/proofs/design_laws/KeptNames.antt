-- The names of a net's ports and latches are its design's.
use Rattle.std.proofs.Common.{◌≡◌, ◌∙◌, ℕ, List, [], ◌∷◌, ◌++◌, map, length, Option, Some, None, refl, sym, ap, arith}
use Rattle.circuit_theory.specs.Cover.{Cover}
use Rattle.circuit_theory.specs.Circuit.{Circuit, Equation, Gate, Latch, Port, Named}
use Rattle.circuit_theory.specs.Flattened.{latch_names}
use Rattle.circuit_theory.proofs.Lists.{map-map}
use Rattle.blif_read.specs.declared.design.BlifModel.{BlifModel}
use Rattle.blif_read.specs.Design.{Place, clock_places, circuit_of_design, IsClock}
use Rattle.flat_net.specs.declared.parts.Port.{Port as NetPort}
use Rattle.flat_net.specs.declared.parts.Gate.{Gate as NetGate}
use Rattle.flat_net.specs.declared.parts.LatchAt.{LatchAt}
use Rattle.flat_net.specs.View.{NetView, named, equation_of_gate, equation_of_latch, circuit_of}
use Rattle.job_base.specs.design_laws.Laws.{NamesAreKept}

no_gate_named : (covers : List Cover) (gates : List NetGate) (es : List (Equation ℕ)) → latch_names (map (equation_of_gate covers) gates ++ es) ≡ latch_names es
no_gate_named covers [] es = refl
no_gate_named covers (g ∷ gates) es = no_gate_named covers gates es

latches_named : (latches : List LatchAt) → latch_names (map equation_of_latch latches) ≡ map (λ (l : LatchAt). l.name) latches
latches_named [] = refl
latches_named (l ∷ latches) = ap (λ (ns : List (List ℕ)). l.name ∷ ns) (latches_named latches)

-- the names of a net's latches
pub latch_names_are : (net : NetView) → map (λ (l : LatchAt). l.name) net.latches ≡ latch_names (circuit_of net).equations
latch_names_are net = sym (no_gate_named net.covers net.gates (map equation_of_latch net.latches) ∙ latches_named net.latches)

no_clock : (models : List BlifModel) (clock : Option (List ℕ)) → IsClock models clock → clock_places models ≡ [] → clock ≡ None
no_clock models None is none = refl
no_clock models (Some k) is none = absurd (let l = is.0 in let e = ap length none in omega (arith, l, e))

pub names_are_kept : NamesAreKept
names_are_kept models net f = record {
  inputs = sym (map-map (λ (i : Named ℕ). i.name) named net.inputs) ∙ sym (map-map (λ (i : Named Place). i.name) (λ (i : Named ℕ). record { name = i.name; place = f.origin i.place }) (circuit_of net).inputs)
      ∙ ap (map (λ (i : Named Place). i.name)) f.flattened.inputs;
  outputs = sym (map-map (λ (o : Named ℕ). o.name) named net.outputs) ∙ f.flattened.outputs;
  latches = f.flattened.latches;
  counted = latch_names_are net;
  unclocked = no_clock models net.clock f.clock;
}
