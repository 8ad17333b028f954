-- Texts that spell small designs.
use Rattle.std.specs.Prelude.{◌⊎◌}
use Rattle.std.specs.List.{Contains}
use Rattle.std.proofs.Common.{◌≡◌, ◌∙◌, ℕ, ◌≤◌, List, [], ◌∷◌, length, Option, None, sym, ap, ap₂, subst, arith, inl, inr}
use Rattle.circuit_theory.specs.Circuit.{Equation, Gate, Latch, Port}
use Rattle.circuit_theory.specs.Flattened.{latch_names}
use Rattle.circuit_theory.proofs.Lists.{Contains-head, Contains-tail, Contains-cases}
use Rattle.circuit_theory.specs.Interface.{Ports, first_mismatch}
use Rattle.blif_read.specs.declared.design.BlifModel.{BlifModel}
use Rattle.blif_read.specs.Reading.{first_fault, spelled}
use Rattle.flat_net.specs.View.{NetView, ports_of}
use Rattle.flatten.specs.DesignFaults.{IsSoundDesign, IsFlatOf}
use Rattle.sec_setup.specs.Matching.{InterfacesMatch}
use Rattle.job_base.specs.sec_files.Formats.{Format, Blif, format_of, IsReadIn, IsSoundIn}
use Rattle.job_base.specs.sec_files.Loading.{IsAccepted, Loads}
use Rattle.job_base.proofs.sec_files.Texts.{text_net}
use Rattle.pair_texts.specs.design_rows.Small.{Small, IsSmall, AreSmall}

-- the text spells the models of a small design
pub record Spells (text : List ℕ) (models : List BlifModel) (s : Small) : Type 0 where
  pub short : length text ≤ 16777216
  pub format : format_of text ≡ Blif
  pub faultless : first_fault text ≡ None
  pub models_are : spelled text ≡ models
  pub small : AreSmall models s

pub accepted : (text : List ℕ) (models : List BlifModel) (s : Small) → Spells text models s → IsAccepted text
accepted text models s p = record {
  short = p.short;
  faultless = subst (λ (f : Format). IsReadIn f text) (sym p.format) p.faultless;
  sound = subst (λ (f : Format). IsSoundIn f text) (sym p.format) (subst IsSoundDesign (sym p.models_are) p.small.0);
}

pub net_is_small : (text : List ℕ) (models : List BlifModel) (s : Small) → Spells text models s → (net : NetView) → Loads text net → IsSmall s net
net_is_small text models s p net l = p.small.1 net (subst (λ (ms : List BlifModel). IsFlatOf ms net) p.models_are (text_net text net l Blif p.format))

-- the ports of such a net
abbrev pub small_ports : Small → List (List ℕ) → Ports
small_ports s read = record { inputs = s.inputs; outputs = s.outputs; clock = None; read = read }

pub ports_are : (s : Small) (net : NetView) → IsSmall s net → ports_of net ≡ small_ports s (ports_of net).read
ports_are s net own =
    ap₂ (λ (is os : List (List ℕ)). record { inputs = is; outputs = os; clock = net.clock; read = (ports_of net).read }) own.inputs own.outputs
    ∙ ap (λ (c : Option (List ℕ)). record { inputs = s.inputs; outputs = s.outputs; clock = c; read = (ports_of net).read }) own.unclocked

-- whatever is read, the interfaces match
abbrev pub PortsMatch : Small → Small → Type 0
PortsMatch s t = (own others : List (List ℕ)) → first_mismatch (record { inputs = s.inputs; outputs = s.outputs; clock = None; read = own }) (record { inputs = t.inputs; outputs = t.outputs; clock = None; read = others }) ≡ None

module _ (s t : Small) (a b : NetView) (left : IsSmall s a) (right : IsSmall t b) where
  pub match : PortsMatch s t → InterfacesMatch a b
  match same = ap₂ first_mismatch (ports_are s a left) (ports_are t b right) ∙ same (ports_of a).read (ports_of b).read

-- the name of a latch
pub latch_in : (es : List (Equation ℕ)) (name : List ℕ) (u next : ℕ) → Contains es (Latch name u next) → Contains (latch_names es) name
latch_in [] name u next h = absurd (let l = h.1 in omega (arith, l))
latch_in (e ∷ es) name u next h = by e (Contains-cases e (Latch name u next) es h) (latch_in es name u next)
  where
    by : (e : Equation ℕ) → (e ≡ Latch name u next) ⊎ Contains es (Latch name u next) → (Contains es (Latch name u next) → Contains (latch_names es) name) → Contains (latch_names (e ∷ es)) name
    by (Gate out fanins cover) (inl same) later = absurd (cc)
    by (Gate out fanins cover) (inr k) later = later k
    by (Port out from) (inl same) later = absurd (cc)
    by (Port out from) (inr k) later = later k
    by (Latch own out to) (inl same) later = let e : own ≡ name = cc in subst (Contains (own ∷ latch_names es)) e (Contains-head own (latch_names es))
    by (Latch own out to) (inr k) later = Contains-tail own name (latch_names es) (later k)
