-- A comparison's setup and functions that are sound, and pairs whose signals are outputs.
use Rattle.std.proofs.Common.{ℕ, List, subst}
use Rattle.std.specs.List.{Contains}
use Rattle.circuit_theory.proofs.Lists.{Contains-map}
use Rattle.base_tables.specs.Table.{AreDistinct}
use Rattle.flat_net.specs.Sound.{IsSound}
use Rattle.aig.specs.Graph.{IsGraph}
use Rattle.aig.specs.Builds.{HasTreeValues}
use Rattle.sec_setup.specs.declared.ports.pairs.SignalPair.{SignalPair}
use Rattle.sec_setup.specs.declared.setup.Setup.{Setup}
use Rattle.sec_setup.specs.ports.Pairs.{outputs_of}
use Rattle.sec_setup.specs.Setup.{IsSetup}
use Rattle.plain_asked.specs.declared.functions.Functions.{Functions}

-- the setup, the nets and the graph are sound
pub record AreSound (s : Setup) (f : Functions) : Type 0 where
  pub setup : IsSetup s
  pub left : IsSound s.left.now
  pub right : IsSound s.right.now
  pub graph : IsGraph f.aig
  pub values : HasTreeValues f.aig
  pub distinct : AreDistinct f.places

-- both signals of each pair are outputs
pub record ArePairsIn (s : Setup) (pairs : List SignalPair) : Type 0 where
  pub left : (p : SignalPair) → Contains pairs p → Contains (outputs_of s.left.now) p.left.0
  pub right : (p : SignalPair) → Contains pairs p → Contains (outputs_of s.right.now) p.right.0

pub own_pairs : (s : Setup) → IsSetup s → ArePairsIn s s.pairs
own_pairs s h = record {
  left = λ p k. subst (λ (l : List ℕ). Contains l p.left.0) h.pairs.left (Contains-map (λ (q : SignalPair). q.left.0) s.pairs p k);
  right = λ p k. (h.pairs.right p.right.0).0 (Contains-map (λ (q : SignalPair). q.right.0) s.pairs p k);
}
