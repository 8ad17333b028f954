use Rattle.std.proofs.Common.{◌∙◌, List, Bool, length, sym, ap, subst}
use Rattle.flat_net.specs.View.{NetView}
use Rattle.cycle_sim.specs.declared.pair_runs.differences.OutputPair.{OutputPair}
use Rattle.cycle_sim.specs.pair_runs.Feeds.{AreFound}
use Rattle.cycle_sim.specs.pair_runs.Showing.{ArePlacesOf}
use Rattle.job_circuit.proofs.replay.Fitting.{if_ok, places_of_sides, names_of_left, names_of_right, fitting}
use Rattle.job_circuit.proofs.replay.two_circuits.replay_cut.Goals as goal

pub cut_side-requires-clause-names : goal.cut_side-requires-clause-names
cut_side-requires-clause-names c = names_of_left c.args.a.now.net.now c.args.b.now.net.now c.args.header.now c.args.names.now c.requires.fits c.requires.named

pub cut_side-requires-2-clause-names : goal.cut_side-requires-2-clause-names
cut_side-requires-2-clause-names c = names_of_right c.args.a.now.net.now c.args.b.now.net.now c.args.header.now c.args.names.now c.requires.fits c.requires.named

pub run_pairs-requires-clause-left_bits : goal.run_pairs-requires-clause-left_bits
run_pairs-requires-clause-left_bits c =
    ap length c.side-left_side.ensures.bits ∙ (c.in_ok-left.ensures.bits_are.each ∙ ap (λ (n : NetView). length n.latches) (sym c.side-left_side.ensures.net))

pub run_pairs-requires-clause-right_bits : goal.run_pairs-requires-clause-right_bits
run_pairs-requires-clause-right_bits c =
    ap length c.side-right_side.ensures.bits ∙ (c.in_ok-right.ensures.bits_are.each ∙ ap (λ (n : NetView). length n.latches) (sym c.side-right_side.ensures.net))

pub run_pairs-requires-clause-places : goal.run_pairs-requires-clause-places
run_pairs-requires-clause-places c =
    let a = c.args.a.now.net.now in
    let b = c.args.b.now.net.now in
    let m = c.in_ok-left.left.net in
    let k = c.in_ok-right.right.net in
    subst (λ (n : NetView). ArePlacesOf n c.side-right_side.result.net.now c.as_slice.result.now) (sym c.side-left_side.ensures.net)
    (subst (λ (n : NetView). ArePlacesOf m n c.as_slice.result.now) (sym c.side-right_side.ensures.net)
    (subst (ArePlacesOf m k) (sym c.as_slice.ensures.value)
    (places_of_sides a b m k c.args.names.now c.args.a.now.enabled.now c.args.b.now.enabled.now c.in_ok-left.left.enabled c.in_ok-right.right.enabled c.in_ok-pairs.pairs.items c.in_ok-left.ensures c.in_ok-right.ensures c.in_ok-pairs.ensures)))

pub returns : goal.returns
returns c = λ mode marks_a marks_b.
    let a = c.args.a.now.net.now in
    let b = c.args.b.now.net.now in
    let m = c.in_ok-left.left.net in
    let k = c.in_ok-right.right.net in
    let bm = c.in_ok-left.left.enabled in
    let bk = c.in_ok-right.right.enabled in
    let s = c.args.stimulus.now in
    let fit = c.requires in
    if_ok c.run_pairs.result (λ replayed found.
    fitting mode a b c.keeps.ensures.sound c.keeps-2.ensures.sound c.keeps.ensures.names c.keeps-2.ensures.names s.names c.args.header.now c.args.names.now s.rows s.fit s.distinct fit.matches fit.same fit.fits fit.named c.args.a.now.enabled.now
    c.args.b.now.enabled.now marks_a marks_b m k c.keeps-3.ensures.sound c.keeps-4.ensures.sound bm bk c.in_ok-left.ensures c.in_ok-right.ensures c.in_ok-pairs.pairs.items c.in_ok-pairs.ensures replayed
    (subst (λ (n : NetView). AreFound n bm k bk c.in_ok-pairs.pairs.items s.names s.rows replayed) c.side-left_side.ensures.net
    (subst (λ (bits : List Bool). AreFound c.side-left_side.result.net.now bits k bk c.in_ok-pairs.pairs.items s.names s.rows replayed) c.side-left_side.ensures.bits
    (subst (λ (n : NetView). AreFound c.side-left_side.result.net.now c.side-left_side.result.enabled.now n bk c.in_ok-pairs.pairs.items s.names s.rows replayed) c.side-right_side.ensures.net
    (subst (λ (bits : List Bool). AreFound c.side-left_side.result.net.now c.side-left_side.result.enabled.now c.side-right_side.result.net.now bits c.in_ok-pairs.pairs.items s.names s.rows replayed) c.side-right_side.ensures.bits
    (subst (λ (ps : List OutputPair). AreFound c.side-left_side.result.net.now c.side-left_side.result.enabled.now c.side-right_side.result.net.now c.side-right_side.result.enabled.now ps s.names s.rows replayed) c.as_slice.ensures.value found))))))
    c.run_pairs.ensures
