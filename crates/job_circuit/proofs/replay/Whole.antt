-- The differences of the cut nets are those of the circuits, and their pairs are settled since the same cycles.
use Rattle.std.proofs.Common.{◌≡◌, ℕ, ◌<◌, Bool, List, map, length, slice_get, Some, sym, ◌∙◌, ap, subst}
use Rattle.std.specs.List.{All}
use Rattle.std.proofs.lemmas.Option.{get_or_from_slice_get}
use Rattle.circuit_theory.specs.declared.Mode.{Mode}
use Rattle.circuit_theory.specs.Agree.{cut, PairAt}
use Rattle.circuit_theory.specs.Net.{HasDistinctNames}
use Rattle.circuit_theory.proofs.Lists.{length-map, map-map, map_at}
use Rattle.circuit_theory.proofs.Numbers.{slice_get-map}
use Rattle.base_tables.specs.Table.{AreDistinct}
use Rattle.flat_net.specs.Sound.{IsSound}
use Rattle.flat_net.specs.View.{NetView, circuit_of}
use Rattle.flat_net.proofs.Nets.{some_at}
use Rattle.signal_graph.specs.inner_cone.latch_cone.Cones.{MarksEnabled}
use Rattle.sec_setup.specs.Matching.{InterfacesMatch}
use Rattle.sec_setup.specs.ports.Pairs.{NamedPair, named_pairs}
use Rattle.cycle_sim.specs.declared.pair_runs.differences.Replayed.{Replayed}
use Rattle.cycle_sim.specs.declared.pair_runs.differences.Settling.{Settling}
use Rattle.cycle_sim.specs.declared.pair_runs.differences.OutputPair.{OutputPair}
use Rattle.cycle_sim.specs.declared.pair_runs.shown.Shown.{Shown}
use Rattle.cycle_sim.specs.pair_runs.Feeds.{AreFound, IsShownAt}
use Rattle.cycle_sim.specs.pair_runs.Listing.{differences_from}
use Rattle.cycle_sim.specs.pair_runs.Outputs.{no_port, output_at}
use Rattle.cycle_sim.specs.pair_runs.Showing.{ArePlacesOf, called, names_of}
use Rattle.job_circuit.specs.replay.replay_header.Header.{FitsBoth, opened}
use Rattle.job_circuit.specs.replay.cut_sides.Pairs.{ArePairsAt, named_places}
use Rattle.job_circuit.specs.replay.cut_sides.Opening.{IsCutSide}
use Rattle.job_circuit.specs.replay.Replay.{IsReplayRun, IsReplay, places_of}
use Rattle.job_circuit.proofs.replay.Existing.{run_over}
use Rattle.job_circuit.proofs.replay.Differ.{IsRight, AreRight, are_differences}
use Rattle.job_circuit.proofs.replay.SettledPairs.{settled_from}
use Rattle.job_circuit.proofs.replay.replay_header.Names.{opened_in_header}
use Rattle.job_circuit.proofs.replay.Names.{left_unread, right_unread}
use Rattle.job_circuit.proofs.replay.cut_sides.PairPlaces.{places_named, outputs_there}
use Rattle.job_circuit.proofs.replay.Sides.{one_cut, simulated, simulated_run, value_is, mark_is}

module _ (mode : Mode) (a b : NetView) (sound_a : IsSound a) (sound_b : IsSound b) (distinct_a : HasDistinctNames (circuit_of a)) (distinct_b : HasDistinctNames (circuit_of b))
    (header : List (List ℕ)) (rows : List (List Bool)) (wide : All (λ row. length row ≡ length header) rows) (once : AreDistinct header) (matches : InterfacesMatch a b) (fits : FitsBoth a b header)
    (enabled_a enabled_b : List Bool) (marks_a : MarksEnabled mode a enabled_a) (marks_b : MarksEnabled mode b enabled_b)
    (m k : NetView) (sound_m : IsSound m) (sound_k : IsSound k) (bits_m bits_k : List Bool) (side_a : IsCutSide a enabled_a (opened a b header) m bits_m) (side_b : IsCutSide b enabled_b (opened a b header) k bits_k)
    (pairs : List OutputPair) (at : ArePairsAt a b (opened a b header) pairs) (replayed : Replayed) (found : AreFound m bits_m k bits_k pairs header rows replayed) where
  abbrev names : List (List ℕ)
  names = opened a b header

  pairs_are : map (named_places m k) pairs ≡ named_pairs names (circuit_of a) (circuit_of b)
  pairs_are = places_named a b m k names side_a.positions side_b.positions side_a.parts side_b.parts side_a.named side_b.named pairs at sound_a sound_b distinct_a distinct_b

  there : ArePlacesOf m k pairs
  there = outputs_there a b m k names side_a.positions side_b.positions side_a.parts side_b.parts side_a.named side_b.named pairs at

  places : map places_of (named_pairs names (circuit_of a) (circuit_of b)) ≡ map (λ p. places_of (named_places m k p)) pairs
  places = ap (map places_of) (sym pairs_are) ∙ map-map places_of (named_places m k) pairs

  names_are : names_of pairs ≡ map (λ (pair : NamedPair ℕ ℕ). pair.name) (named_pairs names (circuit_of a) (circuit_of b))
  names_are = sym (map-map (λ (pair : NamedPair ℕ ℕ). pair.name) (named_places m k) pairs) ∙ ap (map (λ (pair : NamedPair ℕ ℕ). pair.name)) pairs_are

  -- the output at a place of the cut net
  output_there : (n : NetView) (i : ℕ) → i < length n.outputs → slice_get n.outputs i ≡ Some (output_at n i)
  output_there n i h = let port = some_at n.outputs i h in port.1 ∙ ap Some (sym (get_or_from_slice_get n.outputs i port.0 no_port port.1))

  module _ (left right : ℕ → ℕ → Bool) (over_a : IsReplayRun (cut names (circuit_of a)) header rows left) (over_b : IsReplayRun (cut names (circuit_of b)) header rows right) where
    abbrev run_a : ℕ → ℕ → Bool
    run_a =
        simulated header names a m sound_a sound_m distinct_a enabled_a bits_m side_a (opened_in_header a b header) (left_unread a b header sound_a fits) found.left_columns found.left_are rows wide left over_a

    abbrev run_b : ℕ → ℕ → Bool
    run_b =
        simulated header names b k sound_b sound_k distinct_b enabled_b bits_k side_b (opened_in_header a b header) (right_unread a b header sound_b matches fits) found.right_columns found.right_are rows wide right over_b

    pair_right : (t : ℕ) (p : OutputPair) (s : Shown) → p.left < length m.outputs → p.right < length k.outputs →
        IsShownAt (record { net = m; bits = bits_m; columns = found.left_columns }) (record { net = k; bits = bits_k; columns = found.right_columns }) run_a run_b t p s →
        IsRight mode (cut names (circuit_of a)) (cut names (circuit_of b)) left right t (places_of (named_places m k p)) s
    pair_right t p s h g is = record {
      left_is = is.left_is
          ∙ value_is header names a m sound_a sound_m distinct_a enabled_a bits_m side_a (opened_in_header a b header) (left_unread a b header sound_a fits) found.left_columns found.left_are rows wide left over_a t p.left (output_at m p.left) (output_there m p.left h);
      right_is = is.right_is
          ∙ value_is header names b k sound_b sound_k distinct_b enabled_b bits_k side_b (opened_in_header a b header) (right_unread a b header sound_b matches fits) found.right_columns found.right_are rows wide right over_b t p.right (output_at k p.right) (output_there k p.right g);
      left_mark =
          mark_is header names a m sound_a sound_m distinct_a enabled_a bits_m side_a (opened_in_header a b header) (left_unread a b header sound_a fits) found.left_columns found.left_are rows wide left over_a mode marks_a t (output_at m p.left).signal.0 s.left_mark is.left_mark;
      right_mark =
          mark_is header names b k sound_b sound_k distinct_b enabled_b bits_k side_b (opened_in_header a b header) (right_unread a b header sound_b matches fits) found.right_columns found.right_are rows wide right over_b mode marks_b t (output_at k p.right).signal.0 s.right_mark is.right_mark;
    }

    all_right : (t : ℕ) (shown : List Shown) → slice_get found.puts.cycles t ≡ Some shown →
        AreRight mode (cut names (circuit_of a)) (cut names (circuit_of b)) (map (λ p. places_of (named_places m k p)) pairs) left right t shown
    all_right t shown here =
        let are = found.puts.shown run_a run_b
        (simulated_run header names a m sound_a sound_m distinct_a enabled_a bits_m side_a (opened_in_header a b header) (left_unread a b header sound_a fits) found.left_columns found.left_are rows wide left over_a)
        (simulated_run header names b k sound_b sound_k distinct_b enabled_b bits_k side_b (opened_in_header a b header) (right_unread a b header sound_b matches fits) found.right_columns found.right_are rows wide right over_b)
        t shown here in
        record {
          each = are.each ∙ sym (length-map (λ p. places_of (named_places m k p)) pairs);
          right_is = λ j pair s at_pair at_s.
              let p = map_at (λ p. places_of (named_places m k p)) pairs j pair at_pair in
              subst (λ (q : PairAt ℕ ℕ). IsRight mode (cut names (circuit_of a)) (cut names (circuit_of b)) left right t q s) p.2
              (pair_right t p.0 s (there.left j p.0 p.1) (there.right j p.0 p.1) (are.right_is j p.0 s p.1 at_s));
        }

  -- the pairs of each cycle, in every two runs over the stimulus
  pairs_right : (left right : ℕ → ℕ → Bool) → IsReplayRun (cut names (circuit_of a)) header rows left → IsReplayRun (cut names (circuit_of b)) header rows right → (t : ℕ) (shown : List Shown) → slice_get found.puts.cycles t ≡ Some shown →
      AreRight mode (cut names (circuit_of a)) (cut names (circuit_of b)) (map places_of (named_pairs names (circuit_of a) (circuit_of b))) left right t shown
  pairs_right left right over_a over_b t shown here =
      subst (λ (ps : List (PairAt ℕ ℕ)). AreRight mode (cut names (circuit_of a)) (cut names (circuit_of b)) ps left right t shown) (sym places) (all_right left right over_a over_b t shown here)

  pub is_replay : IsReplay mode a b header rows replayed
  is_replay = record {
    differences = record {
      found = differences_from 0 found.puts.cycles;
      named = found.puts.found_is ∙ ap (λ ns. map (called ns) (differences_from 0 found.puts.cycles)) names_are;
      right_is = λ left right over_a over_b.
          are_differences mode (cut names (circuit_of a)) (cut names (circuit_of b)) (map places_of (named_pairs names (circuit_of a) (circuit_of b))) (length rows) left right found.puts.cycles found.puts.each (pairs_right left right over_a over_b);
      left_run = run_over header m sound_m (cut names (circuit_of a)) (one_cut names a m side_a.circuit) found.left_columns found.left_are once rows;
      right_run = run_over header k sound_k (cut names (circuit_of b)) (one_cut names b k side_b.circuit) found.right_columns found.right_are once rows;
    };
    settled = record {
      named = found.named ∙ names_are;
      right_is = λ left right over_a over_b j pair s at_pair at_s.
          settled_from mode (cut names (circuit_of a)) (cut names (circuit_of b)) (map places_of (named_pairs names (circuit_of a) (circuit_of b))) (length rows) left right found.puts.cycles found.puts.each (pairs_right left right over_a over_b) j (places_of pair)
          (slice_get-map places_of (named_pairs names (circuit_of a) (circuit_of b)) j pair at_pair) s.first (found.puts.firsts_are j s.first (slice_get-map (λ (x : Settling). x.first) replayed.settlings j s at_s));
    };
  }
