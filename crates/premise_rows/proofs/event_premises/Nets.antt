-- The nets that a text loads as, by what is computed of its design.
use Rattle.std.proofs.Common.{◌≡◌, ◌∙◌, ℕ, suc, ◌+◌, ◌*◌, ◌≤◌, List, [], length, map, Option, None, sym, ap, ap₂, subst, arith}
use Rattle.circuit_theory.specs.Circuit.{Circuit}
use Rattle.circuit_theory.specs.Interface.{Ports, first_mismatch, shared_inputs}
use Rattle.blif_read.specs.declared.design.BlifModel.{BlifModel}
use Rattle.blif_read.specs.Design.{Place, clock_places, circuit_of_design}
use Rattle.blif_read.specs.Reading.{first_fault, spelled}
use Rattle.flat_net.specs.View.{NetView, ports_of}
use Rattle.flatten.specs.DesignFaults.{IsSoundDesign, IsFlatOf}
use Rattle.job_base.proofs.design_laws.Kept.{flat_design}
use Rattle.job_base.proofs.design_laws.KeptNames.{names_are_kept}
use Rattle.pair_texts.proofs.design_rows.Places.{is_one_place, is_one_place-sound}
use Rattle.sec_setup.specs.Matching.{InterfacesMatch}
use Rattle.job_base.specs.sec_files.Formats.{Format, Blif, format_of, IsReadIn, IsSoundIn}
use Rattle.job_base.specs.sec_files.Loading.{IsAccepted, Loads}
use Rattle.job_base.proofs.sec_files.Texts.{text_net}
use Rattle.premise_rows.proofs.event_premises.Flat.{PassesShallow, net_light, net_places, net_places_length, net_shallow}
use Rattle.premise_rows.proofs.event_premises.Within.{IsShallowNet}

-- the text spells the models of a sound design
pub record SpellsDesign (text : List ℕ) (models : List BlifModel) : Type 0 where
  pub short : length text ≤ 16777216
  pub format : format_of text ≡ Blif
  pub faultless : first_fault text ≡ None
  pub models_are : spelled text ≡ models
  pub sound : IsSoundDesign models

pub accepted_text : (text : List ℕ) (models : List BlifModel) → SpellsDesign text models → IsAccepted text
accepted_text text models p = record {
  short = p.short;
  faultless = subst (λ (f : Format). IsReadIn f text) (sym p.format) p.faultless;
  sound = subst (λ (f : Format). IsSoundIn f text) (sym p.format) (subst IsSoundDesign (sym p.models_are) p.sound);
}

pub flat_of : (text : List ℕ) (models : List BlifModel) → format_of text ≡ Blif → spelled text ≡ models → (net : NetView) → Loads text net → IsFlatOf models net
flat_of text models format models_are net l = subst (λ (ms : List BlifModel). IsFlatOf ms net) models_are (text_net text net l Blif format)

-- what is computed of a design: it has no clock, and as many inputs and equations as are counted
pub record PassesCounts (models : List BlifModel) (count : ℕ) : Type 0 where
  pub no_clock : clock_places models ≡ []
  pub counted : length (circuit_of_design models None).inputs + length (circuit_of_design models None).equations ≡ count

pub shallow_net : (models : List BlifModel) (cone : Place → List Place) (most count : ℕ) → PassesShallow is_one_place cone (circuit_of_design models None) most → PassesCounts models count → count ≤ 100 → most * (count * suc count) ≤ 2000000 → (net : NetView) → IsFlatOf models net → IsShallowNet net
shallow_net models cone most count passes counts few small net f =
    let none : net.clock ≡ None = (names_are_kept models net f).unclocked counts.no_clock in
    let here : PassesShallow is_one_place cone (circuit_of_design models net.clock) most = subst (λ (k : Option (List ℕ)). PassesShallow is_one_place cone (circuit_of_design models k) most) (sym none) passes in
    let count_is : length (circuit_of_design models net.clock).inputs + length (circuit_of_design models net.clock).equations ≡ count =
    ap (λ (k : Option (List ℕ)). length (circuit_of_design models k).inputs + length (circuit_of_design models k).equations) none ∙ counts.counted in
    let places : List ℕ = net_places is_one_place is_one_place-sound cone (circuit_of_design models net.clock) most here (flat_design models net f) in
    let long : length places ≡ count = net_places_length is_one_place is_one_place-sound cone (circuit_of_design models net.clock) most here (flat_design models net f) ∙ count_is in
    record {
      latches = places;
      places = places;
      most = most;
      shallow = net_shallow is_one_place is_one_place-sound cone (circuit_of_design models net.clock) most here (flat_design models net f);
      light = net_light is_one_place is_one_place-sound cone (circuit_of_design models net.clock) most here (flat_design models net f);
      few = omega (arith, long, few);
      small = subst (λ (n : ℕ). most * (n * suc n) ≤ 2000000) (sym long) small;
    }

-- the ports of such a net
pub record HasPorts (inputs outputs : List (List ℕ)) (net : NetView) : Type 0 where
  pub unclocked : net.clock ≡ None
  pub inputs_are : (ports_of net).inputs ≡ inputs
  pub outputs_are : (ports_of net).outputs ≡ outputs

pub ports_kept : (models : List BlifModel) → clock_places models ≡ [] → (net : NetView) → IsFlatOf models net → HasPorts (map (λ i. i.name) (circuit_of_design models None).inputs) (map (λ o. o.name) (circuit_of_design models None).outputs) net
ports_kept models no_clock net f =
    let names = names_are_kept models net f in
    let none : net.clock ≡ None = names.unclocked no_clock in
    let own : circuit_of_design models net.clock ≡ circuit_of_design models None = ap (circuit_of_design models) none in
    record {
      unclocked = none;
      inputs_are = names.inputs ∙ ap (λ (c : Circuit Place). map (λ i. i.name) c.inputs) own;
      outputs_are = names.outputs ∙ ap (λ (c : Circuit Place). map (λ o. o.name) c.outputs) own;
    }

abbrev ports : List (List ℕ) → List (List ℕ) → List (List ℕ) → Ports
ports inputs outputs read = record { inputs = inputs; outputs = outputs; clock = None; read = read }

ports_are : (inputs outputs : List (List ℕ)) (net : NetView) → HasPorts inputs outputs net → ports_of net ≡ ports inputs outputs (ports_of net).read
ports_are inputs outputs net h =
    ap₂ (λ (is os : List (List ℕ)). record { inputs = is; outputs = os; clock = net.clock; read = (ports_of net).read }) h.inputs_are h.outputs_are
    ∙ ap (λ (c : Option (List ℕ)). record { inputs = inputs; outputs = outputs; clock = c; read = (ports_of net).read }) h.unclocked

pub ports_match : (inputs outputs : List (List ℕ)) → ((own others : List (List ℕ)) → first_mismatch (ports inputs outputs own) (ports inputs outputs others) ≡ None) → (a b : NetView) → HasPorts inputs outputs a → HasPorts inputs outputs b → InterfacesMatch a b
ports_match inputs outputs same a b left right = ap₂ first_mismatch (ports_are inputs outputs a left) (ports_are inputs outputs b right) ∙ same (ports_of a).read (ports_of b).read

-- the inputs that two such nets share
pub shared_kept : (inputs outputs : List (List ℕ)) → ((own others : List (List ℕ)) → shared_inputs (ports inputs outputs own) (ports inputs outputs others) ≡ inputs) → (a b : NetView) → HasPorts inputs outputs a → HasPorts inputs outputs b →
    shared_inputs (ports_of a) (ports_of b) ≡ inputs
shared_kept inputs outputs same a b left right = ap₂ shared_inputs (ports_are inputs outputs a left) (ports_are inputs outputs b right) ∙ same (ports_of a).read (ports_of b).read
