-- The places of the pairs: outputs of the cut circuits.
use Rattle.std.proofs.Common.{◌≡◌, ℕ, List, ap, inl, inr}
use Rattle.std.specs.Prelude.{◌⊎◌}
use Rattle.std.specs.List.{Contains, filter_map}
use Rattle.std.proofs.lemmas.List.Elements.{Contains-append_left, Contains-append_right}
use Rattle.circuit_theory.specs.Agree.{cut, latch_named, named_at, second_of_pair}
use Rattle.circuit_theory.specs.Circuit.{Circuit, Named, IsLatch, IsSingleDriven}
use Rattle.circuit_theory.specs.Net.{HasDistinctNames}
use Rattle.circuit_theory.proofs.Lists.{Contains-map_from}
use Rattle.circuit_laws.proofs.Pairs.{filter_map-has, latch_is_named}
use Rattle.flat_net.specs.declared.parts.Port.{Port}
use Rattle.flat_net.specs.View.{NetView, named, circuit_of}
use Rattle.sec_setup.specs.ports.Pairs.{NamedPair, named_pairs}
use Rattle.outcome_fits.proofs.plain_meaning.CutPairs.{IsOutputPair, IsNextPair, listed_is}

module _ {P : Type 0} (names : List (List ℕ)) (c : Circuit P) (single : IsSingleDriven c) (distinct : HasDistinctNames c) where
  cut_own_output : (o : Named P) → Contains c.outputs o → Contains (cut names c).outputs o
  unfolding cut
  cut_own_output o h = Contains-append_left c.outputs (filter_map (λ n. named_at n (second_of_pair (latch_named c.equations n))) names) o h

  cut_next_output : (name : List ℕ) (u next : P) → IsLatch c name u next → Contains names name → Contains (cut names c).outputs (record { name = name; place = next })
  unfolding cut
  cut_next_output name u next latch h =
      Contains-append_right c.outputs (filter_map (λ n. named_at n (second_of_pair (latch_named c.equations n))) names) _
      (filter_map-has (λ n. named_at n (second_of_pair (latch_named c.equations n))) names name (record { name = name; place = next }) h
      (ap (λ o. named_at name (second_of_pair o)) (latch_is_named c single distinct name u next latch)))

-- the place is an output
abbrev pub IsShown : {P : Type 0} → Circuit P → P → Type 0
IsShown c p = (name : List ℕ) × Contains c.outputs (record { name = name; place = p })

-- both places of a pair that is compared are outputs of the cut circuits
pub listed_shown : {P Q : Type 0} (names : List (List ℕ)) (a : Circuit P) (b : Circuit Q) → IsSingleDriven a → IsSingleDriven b → HasDistinctNames a → HasDistinctNames b →
    (x : NamedPair P Q) → Contains (named_pairs names a b) x → IsShown (cut names a) x.left × IsShown (cut names b) x.right
listed_shown names a b sa sb na nb x there = go (listed_is names a b x there)
  where
    go : IsOutputPair a b x ⊎ IsNextPair names a b x → IsShown (cut names a) x.left × IsShown (cut names b) x.right
    go (inl o) = (
      (o.name, cut_own_output names a sa na _ o.left_output),
      (o.name, cut_own_output names b sb nb _ o.right_output),
    )
    go (inr l) = (
      (l.name, cut_next_output names a sa na l.name l.left_latch.0 x.left l.left_latch.1 l.exposed),
      (l.name, cut_next_output names b sb nb l.name l.right_latch.0 x.right l.right_latch.1 l.exposed),
    )

-- an output of a net's circuit is a port of the net
pub shown_port : (n : NetView) (p : ℕ) → IsShown (circuit_of n) p → (port : Port) × Contains n.outputs port × (port.signal.0 ≡ p)
shown_port n p h = let port = Contains-map_from named n.outputs _ h.1 in (port.0, port.1, ap (λ (m : Named ℕ). m.place) port.2)
