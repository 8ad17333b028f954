-- What both nets show where the header fits, by the table of its names and that of the opened latches.
use Rattle.std.proofs.Common.{◌≡◌, ◌∙◌, ℕ, Bool, List, [], Result, Ok, Err, length, sym, ap, subst}
use Rattle.std.specs.Prelude.{IfOk}
use Rattle.std.specs.List.{All}
use Rattle.circuit_theory.specs.declared.Mode.{Mode}
use Rattle.circuit_theory.specs.Net.{HasDistinctNames}
use Rattle.base_tables.specs.Table.{AreDistinct}
use Rattle.flat_net.specs.Sound.{IsSound}
use Rattle.flat_net.specs.View.{NetView, circuit_of}
use Rattle.signal_graph.specs.inner_cone.latch_cone.Cones.{MarksEnabled}
use Rattle.sec_setup.specs.Matching.{InterfacesMatch}
use Rattle.cycle_sim.specs.declared.pair_runs.differences.Replayed.{Replayed}
use Rattle.cycle_sim.specs.declared.pair_runs.differences.OutputPair.{OutputPair}
use Rattle.cycle_sim.specs.pair_runs.Feeds.{AreFound}
use Rattle.cycle_sim.specs.pair_runs.Showing.{ArePlacesOf}
use Rattle.job_circuit.specs.replay.replay_header.Header.{FitsBoth, opened}
use Rattle.job_circuit.specs.replay.cut_sides.Pairs.{ArePairsAt}
use Rattle.job_circuit.specs.replay.cut_sides.Opening.{IsCutSide, AreNamesOf}
use Rattle.job_circuit.specs.replay.Replay.{IsReplay}
use Rattle.job_circuit.proofs.replay.Names.{opened_latches}
use Rattle.job_circuit.proofs.replay.cut_sides.PairPlaces.{outputs_there}
use Rattle.job_circuit.proofs.replay.cut_sides.Uncut.{uncut_side}
use Rattle.job_circuit.proofs.replay.Whole.{is_replay}

pub if_ok : {X E : Type 0} {P Q : X → Type 0} (r : Result X E) → ((x : X) → P x → Q x) → IfOk r P → IfOk r Q
if_ok (Ok x) f h = f x h
if_ok (Err e) f h = tt

-- both outputs of each pair are there in the cut nets
pub places_of_sides : (a b m k : NetView) (names : List (List ℕ)) (enabled_a enabled_b bits_m bits_k : List Bool) (pairs : List OutputPair) → IsCutSide a enabled_a names m bits_m → IsCutSide b enabled_b names k bits_k → ArePairsAt a b names pairs →
    ArePlacesOf m k pairs
places_of_sides a b m k names enabled_a enabled_b bits_m bits_k pairs side_a side_b at =
    outputs_there a b m k names side_a.positions side_b.positions side_a.parts side_b.parts side_a.named side_b.named pairs at

-- a net as it is, where no name is opened
pub as_it_is : (n : NetView) (enabled : List Bool) (names : List (List ℕ)) → length enabled ≡ length n.latches → names ≡ [] → IsCutSide n enabled names n enabled
as_it_is n enabled names each none = subst (λ (ns : List (List ℕ)). IsCutSide n enabled ns n enabled) (sym none) (uncut_side n enabled each)

-- the opened names are those of latches of both nets
pub names_of_left : (a b : NetView) (header names : List (List ℕ)) → FitsBoth a b header → names ≡ opened a b header → AreNamesOf a names
names_of_left a b header names fits is = subst (AreNamesOf a) (sym is) (opened_latches a b header fits).0

pub names_of_right : (a b : NetView) (header names : List (List ℕ)) → FitsBoth a b header → names ≡ opened a b header → AreNamesOf b names
names_of_right a b header names fits is = subst (AreNamesOf b) (sym is) (opened_latches a b header fits).1

-- what the cut nets show is what the circuits show
pub fitting : (mode : Mode) (a b : NetView) → IsSound a → IsSound b → HasDistinctNames (circuit_of a) → HasDistinctNames (circuit_of b) → (header table names : List (List ℕ)) (rows : List (List Bool)) → All (λ row. length row ≡ length header) rows → AreDistinct header →
    InterfacesMatch a b → table ≡ header → FitsBoth a b table → names ≡ opened a b table → (enabled_a enabled_b : List Bool) → MarksEnabled mode a enabled_a → MarksEnabled mode b enabled_b →
    (m k : NetView) → IsSound m → IsSound k → (bits_m bits_k : List Bool) → IsCutSide a enabled_a names m bits_m → IsCutSide b enabled_b names k bits_k → (pairs : List OutputPair) → ArePairsAt a b names pairs →
    (replayed : Replayed) → AreFound m bits_m k bits_k pairs header rows replayed → IsReplay mode a b header rows replayed
fitting mode a b sa sb na nb header table names rows wide once matches same fits named enabled_a enabled_b marks_a marks_b m k sm sk bits_m bits_k side_a side_b pairs at replayed found =
    is_replay mode a b sa sb na nb header rows wide once matches (subst (FitsBoth a b) same fits) enabled_a enabled_b marks_a marks_b m k sm sk bits_m bits_k (subst (λ (ns : List (List ℕ)). IsCutSide a enabled_a ns m bits_m) e side_a)
    (subst (λ (ns : List (List ℕ)). IsCutSide b enabled_b ns k bits_k) e side_b) pairs (subst (λ (ns : List (List ℕ)). ArePairsAt a b ns pairs) e at) replayed found
  where
    e : names ≡ opened a b header
    e = named ∙ ap (opened a b) same
