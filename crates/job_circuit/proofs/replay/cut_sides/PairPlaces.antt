-- The pairs as places of the cut nets' outputs are those that the names give.
use Rattle.std.proofs.Common.{◌≡◌, ℕ, suc, ◌+◌, ◌<◌, List, [], ◌∷◌, map, length, slice_get, Some, refl, sym, ◌∙◌, ap, subst, arith, inl, inr, ◌⊎◌}
use Rattle.std.specs.List.{AllZip}
use Rattle.std.proofs.lemmas.List.{map-append}
use Rattle.std.proofs.lemmas.Option.{slice_get_within, get_or_from_slice_get, same_Some}
use Rattle.circuit_theory.specs.Net.{HasDistinctNames}
use Rattle.circuit_theory.proofs.Lists.{length-map, map-map, map_at}
use Rattle.circuit_theory.proofs.Numbers.{slice_get-map}
use Rattle.flat_net.specs.declared.parts.Port.{Port}
use Rattle.flat_net.specs.Cut.{IsCut, latch_at, as_output}
use Rattle.flat_net.specs.Sound.{IsSound}
use Rattle.flat_net.specs.View.{NetView, circuit_of}
use Rattle.flat_net.proofs.CutNets.{slice_get-append_cases, slice_get-append_right}
use Rattle.flat_net.proofs.Nets.{some_at}
use Rattle.cycle_sim.proofs.Lists.{map_is, append_left}
use Rattle.witness_report.specs.declared.witness.PairName.TheVariants as pair
use Rattle.sec_setup.specs.declared.ports.pairs.SignalPair.{SignalPair}
use Rattle.sec_setup.specs.ports.Pairing.{AreNamedAt, IsOutputPair, ArePairs}
use Rattle.sec_setup.specs.ports.Pairs.{named_pairs, places_of}
use Rattle.sec_setup.proofs.ports.NamedPairs.{pairs_named}
use Rattle.cycle_sim.specs.declared.pair_runs.differences.OutputPair.{OutputPair}
use Rattle.cycle_sim.specs.pair_runs.Outputs.{no_port, output_at}
use Rattle.cycle_sim.specs.pair_runs.Showing.{ArePlacesOf}
use Rattle.job_circuit.specs.replay.cut_sides.Pairs.{ArePairsAt, named_places}

-- lists of one length whose items stand in a relation, place by place
zip_each : {X Y : Type 0} (R : X → Y → Type 0) (xs : List X) (ys : List Y) → length ys ≡ length xs → ((i : ℕ) (x : X) (y : Y) → slice_get xs i ≡ Some x → slice_get ys i ≡ Some y → R x y) → AllZip R xs ys
zip_each R [] [] e h = tt
zip_each R [] (y ∷ ys) e h = absurd (omega (arith, e))
zip_each R (x ∷ xs) [] e h = absurd (omega (arith, e))
zip_each R (x ∷ xs) (y ∷ ys) e h = (h 0 x y refl refl, zip_each R xs ys (omega (arith, e)) (λ i z w p q. h (suc i) z w p q))

-- an output of a cut net, by its place
own_output : (n m : NetView) (positions : List ℕ) → IsCut n m positions → (i : ℕ) (port : Port) → slice_get n.outputs i ≡ Some port → slice_get m.outputs i ≡ Some port
own_output n m positions parts i port at = ap (λ (ports : List Port). slice_get ports i) parts.outputs ∙ append_left n.outputs (map (λ j. as_output (latch_at n j)) positions) i port at

next_output : (n m : NetView) (positions : List ℕ) → IsCut n m positions → (i j : ℕ) → slice_get positions i ≡ Some j → slice_get m.outputs (length n.outputs + i) ≡ Some (as_output (latch_at n j))
next_output n m positions parts i j at =
    ap (λ (ports : List Port). slice_get ports (length n.outputs + i)) parts.outputs
    ∙ (slice_get-append_right n.outputs (map (λ k. as_output (latch_at n k)) positions) i ∙ slice_get-map (λ k. as_output (latch_at n k)) positions i j at)

output_is : (m : NetView) (i : ℕ) (port : Port) → slice_get m.outputs i ≡ Some port → output_at m i ≡ port
output_is m i port at = get_or_from_slice_get m.outputs i port no_port at

count_of : (n : NetView) (names : List (List ℕ)) (positions : List ℕ) → AreNamedAt n names positions → length names ≡ length positions
count_of n names positions named = ap length (sym named.named) ∙ length-map (λ j. (latch_at n j).name) positions

module _ (a b m k : NetView) (names : List (List ℕ)) (left right : List ℕ) (cut_a : IsCut a m left) (cut_b : IsCut b k right) (named_a : AreNamedAt a names left) (named_b : AreNamedAt b names right)
    (pairs : List OutputPair) (at : ArePairsAt a b names pairs) where
  abbrev signal_pair : OutputPair → SignalPair
  signal_pair p = record { name = p.name; left = (output_at m p.left).signal; right = (output_at k p.right).signal }

  next_left : (i : ℕ) (p : OutputPair) (j : ℕ) → slice_get at.nexts.nexts i ≡ Some p → slice_get left i ≡ Some j → slice_get m.outputs p.left ≡ Some (as_output (latch_at a j))
  next_left i p j here there = ap (slice_get m.outputs) (at.nexts.right_is i p here).left_is ∙ next_output a m left cut_a i j there

  next_right : (i : ℕ) (p : OutputPair) (j : ℕ) → slice_get at.nexts.nexts i ≡ Some p → slice_get right i ≡ Some j → slice_get k.outputs p.right ≡ Some (as_output (latch_at b j))
  next_right i p j here there = ap (slice_get k.outputs) (at.nexts.right_is i p here).right_is ∙ next_output b k right cut_b i j there

  same_count : length at.nexts.nexts ≡ length names
  same_count = at.nexts.each

  next_at : (i : ℕ) → i < length names → (p : OutputPair) × (slice_get at.nexts.nexts i ≡ Some p)
  next_at i h = some_at at.nexts.nexts i (let e = same_count in omega (arith, h, e))

  are_pairs : ArePairs a b names left right (map signal_pair pairs)
  are_pairs = record {
    outputs = map signal_pair at.outputs;
    nexts = map signal_pair at.nexts.nexts;
    pairs_are = ap (map signal_pair) at.nexts.pairs_are ∙ map-append signal_pair at.outputs at.nexts.nexts;
    outputs_are = zip_each (IsOutputPair b) a.outputs (map signal_pair at.outputs) (length-map signal_pair at.outputs ∙ at.beside.each) beside;
    nexts_are = record {
      names_are = map_is (λ name. pair.Next name) names (map (λ (p : SignalPair). p.name) (map signal_pair at.nexts.nexts)) (twice (λ (p : SignalPair). p.name)) named;
      left_are = map_is (λ j. (latch_at a j).next) left (map (λ (p : SignalPair). p.left) (map signal_pair at.nexts.nexts)) (twice (λ (p : SignalPair). p.left) ∙ count_of a names left named_a) lefts;
      right_are = map_is (λ j. (latch_at b j).next) right (map (λ (p : SignalPair). p.right) (map signal_pair at.nexts.nexts)) (twice (λ (p : SignalPair). p.right) ∙ count_of b names right named_b) rights;
    };
  }
    where
      twice : {X : Type 0} (f : SignalPair → X) → length (map f (map signal_pair at.nexts.nexts)) ≡ length names
      twice f = length-map f (map signal_pair at.nexts.nexts) ∙ (length-map signal_pair at.nexts.nexts ∙ same_count)

      shown : {X : Type 0} (f : SignalPair → X) (i : ℕ) (p : OutputPair) → slice_get at.nexts.nexts i ≡ Some p → slice_get (map f (map signal_pair at.nexts.nexts)) i ≡ Some (f (signal_pair p))
      shown f i p here = slice_get-map f (map signal_pair at.nexts.nexts) i (signal_pair p) (slice_get-map signal_pair at.nexts.nexts i p here)

      beside : (i : ℕ) (port : Port) (s : SignalPair) → slice_get a.outputs i ≡ Some port → slice_get (map signal_pair at.outputs) i ≡ Some s → IsOutputPair b port s
      beside i port s at_port at_s =
          let p = map_at signal_pair at.outputs i s at_s in
          let is = at.beside.right i port p.0 at_port p.1 in
          let l : output_at m p.0.left ≡ port = ap (output_at m) is.left_is ∙ output_is m i port (own_output a m left cut_a i port at_port) in
          let r : output_at k p.0.right ≡ is.other = output_is k p.0.right is.other (own_output b k right cut_b p.0.right is.other is.right_at) in
          subst (IsOutputPair b port) p.2 (record { name_is = is.name_is; left_is = ap (λ (o : Port). o.signal) l; right_is = is.right_is ∙ ap (λ (o : Port). Some o.signal.0) (sym r) })

      named : (i : ℕ) (name : List ℕ) → slice_get names i ≡ Some name → slice_get (map (λ (p : SignalPair). p.name) (map signal_pair at.nexts.nexts)) i ≡ Some (pair.Next name)
      named i name here =
          let p = next_at i (slice_get_within names i name here) in
          let is = at.nexts.right_is i p.0 p.1 in
          let same : is.name ≡ name = same_Some is.name name (sym is.name_at ∙ here) in
          shown (λ (p : SignalPair). p.name) i p.0 p.1 ∙ (ap Some is.name_is ∙ ap (λ n. Some (pair.Next n)) same)

      lefts : (i j : ℕ) → slice_get left i ≡ Some j → slice_get (map (λ (p : SignalPair). p.left) (map signal_pair at.nexts.nexts)) i ≡ Some (latch_at a j).next
      lefts i j here =
          let e = count_of a names left named_a in
          let p = next_at i (let w = slice_get_within left i j here in omega (arith, w, e)) in
          shown (λ (p : SignalPair). p.left) i p.0 p.1 ∙ ap (λ (o : Port). Some o.signal) (output_is m p.0.left (as_output (latch_at a j)) (next_left i p.0 j p.1 here))

      rights : (i j : ℕ) → slice_get right i ≡ Some j → slice_get (map (λ (p : SignalPair). p.right) (map signal_pair at.nexts.nexts)) i ≡ Some (latch_at b j).next
      rights i j here =
          let e = count_of b names right named_b in
          let p = next_at i (let w = slice_get_within right i j here in omega (arith, w, e)) in
          shown (λ (p : SignalPair). p.right) i p.0 p.1 ∙ ap (λ (o : Port). Some o.signal) (output_is k p.0.right (as_output (latch_at b j)) (next_right i p.0 j p.1 here))

  -- the pairs by their names
  pub places_named : IsSound a → IsSound b → HasDistinctNames (circuit_of a) → HasDistinctNames (circuit_of b) → map (named_places m k) pairs ≡ named_pairs names (circuit_of a) (circuit_of b)
  places_named sa sb na nb = sym (map-map places_of signal_pair pairs) ∙ pairs_named a b names left right (map signal_pair pairs) are_pairs sa sb na nb named_a named_b

  -- both outputs of each pair are there
  pub outputs_there : ArePlacesOf m k pairs
  outputs_there = record { left = λ j p here. (both j p here).0; right = λ j p here. (both j p here).1 }
    where
      both : (j : ℕ) (p : OutputPair) → slice_get pairs j ≡ Some p → (p.left < length m.outputs) × (p.right < length k.outputs)
      both j p here = go (slice_get-append_cases at.outputs at.nexts.nexts j p (ap (λ (ps : List OutputPair). slice_get ps j) (sym at.nexts.pairs_are) ∙ here))
        where
          go : (slice_get at.outputs j ≡ Some p) ⊎ ((i : ℕ) × (j ≡ length at.outputs + i) × (slice_get at.nexts.nexts i ≡ Some p)) → (p.left < length m.outputs) × (p.right < length k.outputs)
          go (inl out) =
              let e = at.beside.each in
              let port = some_at a.outputs j (let w = slice_get_within at.outputs j p out in omega (arith, w, e)) in
              let is = at.beside.right j port.0 p port.1 out in (
                slice_get_within m.outputs p.left port.0 (ap (slice_get m.outputs) is.left_is ∙ own_output a m left cut_a j port.0 port.1),
                slice_get_within k.outputs p.right is.other (own_output b k right cut_b p.right is.other is.right_at),
              )
          go (inr next) =
              let e = same_count in
              let l = count_of a names left named_a in
              let r = count_of b names right named_b in
              let w = slice_get_within at.nexts.nexts next.0 p next.2 in
              let i = some_at left next.0 (omega (arith, w, e, l)) in
              let j = some_at right next.0 (omega (arith, w, e, r)) in (
                slice_get_within m.outputs p.left _ (next_left next.0 p i.0 next.2 i.1),
                slice_get_within k.outputs p.right _ (next_right next.0 p j.0 next.2 j.1),
              )
