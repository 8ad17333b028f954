-- Circuits that can be compared have certificates of their outputs.
use Rattle.std.specs.Prelude.{codes}
use Rattle.std.specs.List.{Contains}
use Rattle.std.proofs.Common.{ℕ, false, List, [], sym, subst}
use Rattle.circuit_theory.proofs.Lists.{Contains-head, Contains-map, Contains-map_from}
use Rattle.blif_read.specs.declared.design.BlifModel.{BlifModel}
use Rattle.flat_net.specs.declared.parts.Port.{Port}
use Rattle.flat_net.specs.View.{NetView, named, circuit_of}
use Rattle.job_cert.specs.pair_clauses.Clauses.{IsOutput}
use Rattle.pair_texts.specs.check_texts.Texts.{AreComparable}
use Rattle.job_cert.specs.Answer.{AreCertifiable}
use Rattle.pair_texts.specs.design_rows.Designs as design
use Rattle.pair_texts.specs.design_rows.Small.{Small, IsSmall, small_and, small_late}
use Rattle.pair_texts.specs.design_rows.Texts.{on_and, off_and, late, early}
use Rattle.premise_rows.specs.Certificates.{CertificatesMeetPremises}
use Rattle.pair_texts.proofs.design_rows.Spelling.{Spells, net_is_small}
use Rattle.pair_texts.proofs.design_rows.SpelledTexts.{on_and_spells, late_spells}
use Rattle.premise_rows.proofs.Examples.{ands_are_comparable, retimed_are_comparable}

-- a name of the ports is that of an output
output_named : (s : Small) (net : NetView) (name : List ℕ) → IsSmall s net → Contains s.outputs name → (p : ℕ) × IsOutput (circuit_of net) name p
output_named s net name small there =
    let o = Contains-map_from (λ (port : Port). port.name) net.outputs name (subst (λ (ns : List (List ℕ)). Contains ns name) (sym small.outputs) there) in
    let found : IsOutput (circuit_of net) o.0.name o.0.signal.0 = Contains-map named net.outputs o.0 o.1 in
    (o.0.signal.0, subst (λ (n : List ℕ). IsOutput (circuit_of net) n o.0.signal.0) o.2 found)

certifiable : (x y : List ℕ) (m : List BlifModel) (s : Small) (name : List ℕ) → Spells x m s → Contains s.outputs name → AreComparable x y false false → AreCertifiable x y name
certifiable x y m s name spells there c = record {
  left = c.left;
  right = c.right;
  match = c.match;
  broken = c.broken;
  light = c.light;
  named = λ a b la lb. output_named s a name (net_is_small x m s spells a la) there;
}

pub certificates_meet_premises : CertificatesMeetPremises
certificates_meet_premises = (
  certifiable on_and off_and design.on_and small_and (codes "y") on_and_spells (Contains-head (codes "y") []) (ands_are_comparable false),
  certifiable late early design.late small_late (codes "y") late_spells (Contains-head (codes "y") []) (retimed_are_comparable false),
)
