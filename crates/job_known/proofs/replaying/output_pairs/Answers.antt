-- No latch is cut open, so the pairs are those of the outputs.
use Rattle.std.specs.Prelude.{IfOk}
use Rattle.std.proofs.Common.{◌<◌, ℕ, List, length, refl, subst, Result, Ok, Err}
use Rattle.std.specs.List.{Contains}
use Rattle.std.proofs.lemmas.List.Elements.{All-contains}
use Rattle.circuit_theory.specs.Interface.{shared_inputs}
use Rattle.circuit_theory.proofs.Lists.{All-from_each, Contains-map, Contains-map_from}
use Rattle.flat_net.specs.declared.parts.Port.{Port}
use Rattle.flat_net.specs.Sound.{IsSound}
use Rattle.flat_net.specs.View.{NetView, ports_of}
use Rattle.sec_setup.specs.declared.ports.pairs.SignalPair.{SignalPair}
use Rattle.sec_setup.specs.ports.Pairs.{ArePairsOf, outputs_of}
use Rattle.cycle_search.proofs.Uncut.{none_at, pairs_are_own, pairs_are_named}
use Rattle.job_known.specs.Cycle.{AreWithin}
use Rattle.job_known.proofs.replaying.output_pairs.Goals as goal

if_ok : {X E : Type 0} {P Q : X → Type 0} (r : Result X E) → ((x : X) → P x → Q x) → IfOk r P → IfOk r Q
if_ok (Ok x) f h = f x h
if_ok (Err e) f h = tt

-- an output's signal is one of the net's
output_within : (n : NetView) → IsSound n → (s : ℕ) → Contains (outputs_of n) s → s < length n.drivers
output_within n sound s h =
    let port = Contains-map_from (λ (p : Port). p.signal.0) n.outputs s h in
    subst (λ (k : ℕ). k < length n.drivers) port.2 (All-contains (λ (p : Port). p.signal.0 < length n.drivers) n.outputs port.0 sound.outputs port.1)

within : (a b : NetView) → IsSound a → IsSound b → (pairs : List SignalPair) → ArePairsOf a b pairs → AreWithin (length a.drivers) (length b.drivers) pairs
within a b sound_a sound_b pairs are =
    All-from_each (λ (p : SignalPair). (p.left.0 < length a.drivers) × (p.right.0 < length b.drivers)) pairs
    (λ p h. (
      output_within a sound_a p.left.0 (subst (λ (ss : List ℕ). Contains ss p.left.0) are.left (Contains-map (λ (q : SignalPair). q.left.0) pairs p h)),
      output_within b sound_b p.right.0 ((are.right p.right.0).0 (Contains-map (λ (q : SignalPair). q.right.0) pairs p h)),
    ))

pub pairs_of-requires-clause-left_named : goal.pairs_of-requires-clause-left_named
pairs_of-requires-clause-left_named c = none_at c.args.a.now _ _ c.new-names.ensures c.new-positions.ensures

pub pairs_of-requires-clause-right_named : goal.pairs_of-requires-clause-right_named
pairs_of-requires-clause-right_named c = none_at c.args.b.now _ _ c.new-names.ensures c.new-positions.ensures

pub returns-clause-named : goal.returns-clause-named
returns-clause-named c =
    let a = c.args.a.now in
    let b = c.args.b.now in
    if_ok c.pairs_of.result
    (λ pairs are. pairs_are_named a b c.requires.matches (shared_inputs (ports_of a) (ports_of b)) refl _ _ _ c.new-names.ensures c.new-positions.ensures c.new-positions.ensures pairs are c.keeps.ensures.sound c.keeps-2.ensures.sound c.keeps.ensures.names c.keeps-2.ensures.names)
    c.pairs_of.ensures

pub returns-clause-within : goal.returns-clause-within
returns-clause-within c =
    let a = c.args.a.now in
    let b = c.args.b.now in
    if_ok c.pairs_of.result
    (λ pairs are. within a b c.keeps.ensures.sound c.keeps-2.ensures.sound pairs
    (pairs_are_own a b c.requires.matches (shared_inputs (ports_of a) (ports_of b)) refl _ _ _ c.new-names.ensures c.new-positions.ensures c.new-positions.ensures pairs are c.requires.right))
    c.pairs_of.ensures
