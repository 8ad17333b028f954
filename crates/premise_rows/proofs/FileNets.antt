-- All nets of an AIGER file that passes the computed tests are small, and its gates form no loop.
use Rattle.std.proofs.Common.{◌≡◌, ◌∙◌, ℕ, zero, suc, ◌-◌, ◌<◌, ◌≤◌, Bool, true, List, ◌++◌, map, length, slice_get, Some, sym, ap, subst, arith}
use Rattle.std.specs.Prelude.{nat_lt, ◌==◌}
use Rattle.std.specs.List.{list_all, sum_by}
use Rattle.std.proofs.lemmas.Bool.{ltb-true}
use Rattle.std.proofs.lemmas.Option.{slice_get_within, same_Some}
use Rattle.std.proofs.lemmas.List.Elements.{Contains-append_left}
use Rattle.circuit_theory.specs.Agree.{cut}
use Rattle.circuit_theory.specs.Circuit.{Circuit, Equation, Gate, Latch, Port, Named, Reads}
use Rattle.circuit_theory.specs.Flattened.{latch_names}
use Rattle.circuit_theory.specs.Sizes.{Weighed}
use Rattle.circuit_theory.proofs.Inputs.{test_same, test_refl}
use Rattle.circuit_theory.proofs.Lists.{map-map}
use Rattle.flat_net.specs.View.{NetView, named, circuit_of}
use Rattle.flat_net.proofs.Nets.{some_at, sound_is_net}
use Rattle.net_assembly.specs.net_alike.Closed.{is_closed}
use Rattle.net_assembly.proofs.net_alike.Bounding.{closed_bounds}
use Rattle.net_assembly.proofs.net_alike.Testing.{all_in, is_closed-sound}
use Rattle.pair_texts.specs.design_rows.Ranked.{IsRanked, is_ranked}
use Rattle.job_base.proofs.design_laws.CutFlats.{cut_design}
use Rattle.job_base.proofs.design_laws.FlatCycles.{cycle_up}
use Rattle.job_base.proofs.design_laws.FlatParts.{FlatDesign}
use Rattle.job_base.proofs.design_laws.KeptNames.{latch_names_are}
use Rattle.pair_texts.proofs.design_rows.Ranking.{is_ranked-sound, no_cycle}
use Rattle.pair_texts.specs.design_rows.Small.{Small, IsSmall}
use Rattle.net_assembly.proofs.net_alike.Moving.{single_up}
use Rattle.aiger_read.specs.declared.aiger_file.file.AigerFile.{AigerFile}
use Rattle.aiger_read.specs.aiger_file.aiger_graph.Circuit.{circuit_of_file}
use Rattle.aiger_read.specs.aiger_file.aiger_graph.Loops.{HasLoop}
use Rattle.aiger_read.specs.Nets.{IsNetOf}
use Rattle.job_base.proofs.sec_files.Portless.{file_portless}

-- what a gate reads stands below it
abbrev pub is_above_fanins : Equation ℕ → Bool
is_above_fanins (Gate out fanins cover) = list_all (λ p. nat_lt p out) fanins
is_above_fanins (Latch name out next) = true
is_above_fanins (Port out from) = nat_lt from out

module _ (c : Circuit ℕ) (climbs : list_all is_above_fanins c.equations ≡ true) where
  climb : {q p : ℕ} → Reads c q p → p < q
  climb (Reads.by_gate {out = out} {q = q} {fanins = fanins} {cover = cover} h k) = ltb-true q out (all_in (λ p. nat_lt p out) fanins q (all_in is_above_fanins c.equations (Gate out fanins cover) climbs h) k)
  climb (Reads.by_port {out = out} {from = from} h) = ltb-true from out (all_in is_above_fanins c.equations (Port out from) climbs h)

-- gates that read lower literals alone form no loop
pub climbing_has_no_loop : (f : AigerFile) → list_all is_above_fanins (circuit_of_file f).equations ≡ true → HasLoop f → ⊥
climbing_has_no_loop f climbs loop =
    let places = loop.0 in
    let first = some_at places 0 loop.1.some in
    let last = some_at places (length places - 1) (omega (arith, loop.1.some)) in
    let up : first.0 ≤ last.0 = rise places first.0 first.1 (length places - 1) last.0 last.1 loop.1.next in
    let down : last.0 < first.0 = climb (circuit_of_file f) climbs (loop.1.closes first.0 last.0 first.1 last.1) in
    omega (arith, up, down)
  where
    rise : (places : List ℕ) (first : ℕ) → slice_get places 0 ≡ Some first → (i p : ℕ) → slice_get places i ≡ Some p → ((i p q : ℕ) → slice_get places i ≡ Some p → slice_get places (suc i) ≡ Some q → Reads (circuit_of_file f) q p) → first ≤ p
    rise places first here zero p at next = let same = same_Some first p (sym here ∙ at) in omega (arith, same)
    rise places first here (suc i) p at next =
        let within = slice_get_within places (suc i) p at in
        let before = some_at places i (omega (arith, within)) in
        let low = rise places first here i before.0 before.1 next in
        let step = climb (circuit_of_file f) climbs (next i before.0 p before.1 at) in
        omega (arith, low, step)

-- the net of a file over its literals
file_design : (f : AigerFile) (net : NetView) → IsNetOf f net → FlatDesign (circuit_of_file f) (circuit_of net) (λ p. ⊥)
file_design f net n = record {
  size = length net.drivers;
  origin = n.origin;
  signal = n.signal;
  single = single_up (circuit_of_file f) (circuit_of net) (length net.drivers) (λ p. ⊥) n.origin n.signal (file_portless f) n.circuit (sound_is_net net n.sound).single;
  circuit = n.circuit;
}

-- what the tests compute of a file: the ranks of its literals, and those that its unfolding visits
pub record FilePassesTests (f : AigerFile) (s : Small) (rank : ℕ → ℕ) (spots : List (Weighed ℕ)) : Type 0 where
  pub inputs : map (λ i. i.name) (circuit_of_file f).inputs ≡ s.inputs
  pub outputs : map (λ o. o.name) (circuit_of_file f).outputs ≡ s.outputs
  pub latches : latch_names (circuit_of_file f).equations ≡ s.latches
  pub ranked : is_ranked (circuit_of_file f) s.removed rank ≡ true
  pub closed : is_closed (λ i j. i == j) (cut s.removed (circuit_of_file f)) spots ≡ true
  pub weight : sum_by (λ (x : Weighed ℕ). x.weight) spots ≡ s.weight

pub tested_file_is_small : (f : AigerFile) (s : Small) (rank : ℕ → ℕ) (spots : List (Weighed ℕ)) → FilePassesTests f s rank spots → (net : NetView) → IsNetOf f net → IsSmall s net
tested_file_is_small f s rank spots passes net n =
    let d = circuit_of_file f in
    let flat = file_design f net n in
    let opened = cut_design s.removed flat in
    let latches : latch_names (circuit_of net).equations ≡ s.latches = n.flattened.latches ∙ passes.latches in
    record {
      unclocked = n.clock;
      inputs = sym (map-map (λ (i : Named ℕ). i.name) named net.inputs) ∙ sym (map-map (λ (i : Named ℕ). i.name) (λ (i : Named ℕ). record { name = i.name; place = n.origin i.place }) (circuit_of net).inputs)
          ∙ ap (map (λ (i : Named ℕ). i.name)) n.flattened.inputs ∙ passes.inputs;
      outputs = sym (map-map (λ (o : Named ℕ). o.name) named net.outputs) ∙ n.flattened.outputs ∙ passes.outputs;
      latches = latches;
      counted = latch_names_are net ∙ latches;
      acyclic = λ more h. no_cycle (circuit_of_file f) (s.removed ++ more) rank (more_ranked more) (cycle_up flat (s.removed ++ more) h);
      light = λ cap over.
          subst (λ (w : ℕ). cap < w) passes.weight
          (closed_bounds (cut s.removed (circuit_of_file f)) (cut s.removed (circuit_of net)) opened.size (λ p. ⊥) opened.origin opened.signal opened.single opened.circuit spots
          (is_closed-sound (λ i j. i == j) test_same test_refl (cut s.removed (circuit_of_file f)) spots passes.closed) cap over);
    }
  where
    ranks : IsRanked (circuit_of_file f) s.removed rank
    ranks = is_ranked-sound (circuit_of_file f) s.removed rank passes.ranked

    more_ranked : (more : List (List ℕ)) → IsRanked (circuit_of_file f) (s.removed ++ more) rank
    more_ranked more = record {
      gate = ranks.gate;
      port = ranks.port;
      latch = λ name out next h kept. ranks.latch name out next h (λ k. kept (Contains-append_left s.removed more name k));
    }
