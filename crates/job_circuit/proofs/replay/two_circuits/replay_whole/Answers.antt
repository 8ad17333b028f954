use Rattle.std.proofs.Common.{List, sym, subst}
use Rattle.cycle_sim.specs.declared.pair_runs.differences.OutputPair.{OutputPair}
use Rattle.cycle_sim.specs.pair_runs.Feeds.{AreFound}
use Rattle.cycle_sim.specs.pair_runs.Showing.{ArePlacesOf}
use Rattle.sec_setup.proofs.Uncut.{no_names}
use Rattle.job_circuit.proofs.replay.Fitting.{if_ok, places_of_sides, as_it_is, fitting}
use Rattle.job_circuit.proofs.replay.two_circuits.replay_whole.Goals as goal

pub run_pairs-requires-clause-places : goal.run_pairs-requires-clause-places
run_pairs-requires-clause-places c =
    let a = c.args.a.now.net.now in
    let b = c.args.b.now.net.now in
    let ea = c.args.a.now.enabled.now in
    let eb = c.args.b.now.enabled.now in
    let names = c.args.names.now in
    let none = no_names names c.requires.none in
    subst (ArePlacesOf a b) (sym c.as_slice.ensures.value)
    (places_of_sides a b a b names ea eb ea eb c.in_ok-pairs.pairs.items (as_it_is a ea names c.requires.fitting.left_bits none) (as_it_is b eb names c.requires.fitting.right_bits none) c.in_ok-pairs.ensures)

pub returns : goal.returns
returns c = λ mode marks_a marks_b.
    let a = c.args.a.now.net.now in
    let b = c.args.b.now.net.now in
    let ea = c.args.a.now.enabled.now in
    let eb = c.args.b.now.enabled.now in
    let names = c.args.names.now in
    let s = c.args.stimulus.now in
    let fit = c.requires.fitting in
    let none = no_names names c.requires.none in
    if_ok c.run_pairs.result (λ replayed found.
    fitting mode a b c.keeps.ensures.sound c.keeps-2.ensures.sound c.keeps.ensures.names c.keeps-2.ensures.names s.names c.args.header.now names s.rows s.fit s.distinct fit.matches fit.same fit.fits fit.named ea eb marks_a marks_b a b
    c.keeps.ensures.sound c.keeps-2.ensures.sound ea eb (as_it_is a ea names fit.left_bits none) (as_it_is b eb names fit.right_bits none) c.in_ok-pairs.pairs.items c.in_ok-pairs.ensures replayed
    (subst (λ (ps : List OutputPair). AreFound a ea b eb ps s.names s.rows replayed) c.as_slice.ensures.value found)) c.run_pairs.ensures
