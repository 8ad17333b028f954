-- The pair of a name, and the outputs that have it.
use Rattle.std.proofs.Common.{◌≡◌, ℕ, List, [], ◌∷◌, ◌++◌, map, refl, sym, ◌∙◌, ap, subst, Some, slice_get}
use Rattle.std.specs.List.{All, AllZip}
use Rattle.std.proofs.lemmas.List.{append-nil}
use Rattle.std.proofs.lemmas.List.Elements.{All-contains}
use Rattle.circuit_theory.specs.Circuit.{Named}
use Rattle.circuit_theory.proofs.Lists.{Contains-map, Contains-map_from, at_of, of_at, zip_right}
use Rattle.flat_net.specs.declared.parts.Port.{Port}
use Rattle.flat_net.specs.declared.signals.Signal.{Signal}
use Rattle.flat_net.specs.View.{NetView, named, circuit_of, ports_of}
use Rattle.sec_setup.specs.declared.ports.pairs.SignalPair.{SignalPair}
use Rattle.sec_setup.specs.ports.Pairing.{IsOutputPair, ArePairs}
use Rattle.sec_setup.proofs.ports.Paired.{place_named-from}
use Rattle.sec_setup.proofs.ports.Shared.{are_matched}
use Rattle.sec_setup.specs.Matching.{InterfacesMatch}
use Rattle.swept_queries.proofs.Listed.{zip_left}
use Rattle.witness_report.specs.declared.witness.PairName.TheVariants as pair
use Rattle.job_cert.specs.pair_clauses.Clauses.{IsOutput, IsNoOutput}

module _ (a b : NetView) (names : List (List ℕ)) (left right : List ℕ) (pairs : List SignalPair) (are : ArePairs a b names left right pairs) (none : names ≡ []) where
  no_nexts : are.nexts ≡ []
  no_nexts = go are.nexts (are.nexts_are.names_are ∙ ap (map (λ name. pair.Next name)) none)
    where
      go : (ps : List SignalPair) → map (λ (p : SignalPair). p.name) ps ≡ [] → ps ≡ []
      go [] e = refl
      go (p ∷ ps) e = absurd (let z : p.name ∷ map (λ (q : SignalPair). q.name) ps ≡ [] = e in cc)

  outputs : AllZip (IsOutputPair b) a.outputs pairs
  outputs = subst (AllZip (IsOutputPair b) a.outputs) (sym (are.pairs_are ∙ (ap (λ ps. are.outputs ++ ps) no_nexts ∙ append-nil are.outputs))) are.outputs_are

  -- the pair of a name is one of outputs of this name
  pub named_outputs : (name : List ℕ) (i : ℕ) (p : SignalPair) → slice_get pairs i ≡ Some p → p.name ≡ pair.Output name → IsOutput (circuit_of a) name p.left.0 × IsOutput (circuit_of b) name p.right.0
  named_outputs name i p at is =
      let o = zip_left (IsOutputPair b) a.outputs pairs outputs i p at in
      let same : o.0.name ≡ name = let e : pair.Output o.0.name ≡ pair.Output name = sym o.2.name_is ∙ is in cc in
      let port = place_named-from b.outputs o.0.name p.right.0 o.2.right_is in
      let there : IsOutput (circuit_of a) o.0.name o.0.signal.0 = Contains-map named a.outputs o.0 (of_at a.outputs i o.0 o.1) in
      let other : IsOutput (circuit_of b) port.0.name port.0.signal.0 = Contains-map named b.outputs port.0 port.1 in (
        subst (λ (n : List ℕ). IsOutput (circuit_of a) n p.left.0) same (subst (λ (s : Signal). IsOutput (circuit_of a) o.0.name s.0) (sym o.2.left_is) there),
        subst (λ (n : List ℕ). IsOutput (circuit_of b) n p.right.0) (port.2 ∙ same) (subst (λ s. IsOutput (circuit_of b) port.0.name s) port.3 other),
      )

  -- where no pair has the name, no output has it
  pub no_left : (name : List ℕ) → All (λ (p : SignalPair). p.name ≡ pair.Output name → ⊥) pairs → IsNoOutput a name
  no_left name all q there =
      let o = Contains-map_from named a.outputs (record { name = name; place = q }) there in
      let at = at_of a.outputs o.0 o.1 in
      let p = zip_right (IsOutputPair b) a.outputs pairs outputs at.0 o.0 at.1 in
      let same : o.0.name ≡ name = ap (λ (n : Named ℕ). n.name) o.2 in
      All-contains (λ (x : SignalPair). x.name ≡ pair.Output name → ⊥) pairs p.0 all (of_at pairs at.0 p.0 p.1) (p.2.name_is ∙ ap (λ n. pair.Output n) same)

  pub no_right : (name : List ℕ) → InterfacesMatch a b → All (λ (p : SignalPair). p.name ≡ pair.Output name → ⊥) pairs → IsNoOutput b name
  no_right name matches all q there =
      let o = Contains-map_from named b.outputs (record { name = name; place = q }) there in
      let same : o.0.name ≡ name = ap (λ (n : Named ℕ). n.name) o.2 in
      let matched = are_matched (ports_of a) (ports_of b) matches in
      let other = Contains-map_from (λ (x : Port). x.name) a.outputs o.0.name (matched.outputs_back o.0.name (Contains-map (λ (x : Port). x.name) b.outputs o.0 o.1)) in
      no_left name all other.0.signal.0 (subst (λ (n : List ℕ). IsOutput (circuit_of a) n other.0.signal.0) (other.2 ∙ same) (Contains-map named a.outputs other.0 other.1))
