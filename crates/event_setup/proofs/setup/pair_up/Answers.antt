-- Neither cut net has a cycle, and the pairs are of its outputs.
use Rattle.std.proofs.Common.{subst, sym}
use Rattle.std.specs.List.{All}
use Rattle.flat_net.specs.View.{ports_of}
use Rattle.sec_setup.proofs.ports.NamedPairs.{pairs_cut}
use Rattle.sec_setup.proofs.ports.Shared.{are_matched}
use Rattle.event_setup.specs.Setup.{IsPairWithin}
use Rattle.event_setup.proofs.Acyclic.{left_acyclic, right_acyclic}
use Rattle.event_setup.proofs.Setups.{left_circuit, pairs_within, right_circuit}
use Rattle.event_setup.proofs.setup.pair_up.Goals as goal

pub have_depths-requires-clause-acyclic : goal.have_depths-requires-clause-acyclic
have_depths-requires-clause-acyclic c = left_acyclic c.args.a.now c.args.b.now c.args.cut.now.left.net c.args.exposure.now.names c.keeps.ensures.sound c.requires.opened.minimal (left_circuit c.args.a.now c.args.b.now c.args.exposure.now c.requires.opened c.args.cut.now c.requires.cut)

pub have_depths-requires-2-clause-acyclic : goal.have_depths-requires-2-clause-acyclic
have_depths-requires-2-clause-acyclic c = right_acyclic c.args.a.now c.args.b.now c.args.cut.now.right.net c.args.exposure.now.names c.keeps-2.ensures.sound c.requires.opened.minimal (right_circuit c.args.a.now c.args.b.now c.args.exposure.now c.requires.opened c.args.cut.now c.requires.cut)

pub pair_depths-requires-clause-left : goal.pair_depths-requires-clause-left
pair_depths-requires-clause-left c = left_acyclic c.args.a.now c.args.b.now c.args.cut.now.left.net c.args.exposure.now.names c.keeps.ensures.sound c.requires.opened.minimal (left_circuit c.args.a.now c.args.b.now c.args.exposure.now c.requires.opened c.args.cut.now c.requires.cut)

pub pair_depths-requires-clause-right : goal.pair_depths-requires-clause-right
pair_depths-requires-clause-right c = right_acyclic c.args.a.now c.args.b.now c.args.cut.now.right.net c.args.exposure.now.names c.keeps-2.ensures.sound c.requires.opened.minimal (right_circuit c.args.a.now c.args.b.now c.args.exposure.now c.requires.opened c.args.cut.now c.requires.cut)

pub pair_depths-requires-clause-pairs : goal.pair_depths-requires-clause-pairs
pair_depths-requires-clause-pairs c =
    let a = c.args.a.now in
    let b = c.args.b.now in
    let e = c.args.exposure.now in
    let m = c.args.cut.now.left.net in
    let k = c.args.cut.now.right.net in
    subst (All (IsPairWithin m k)) (sym c.as_slice.ensures) (pairs_within m k c.keeps-3.ensures.sound c.keeps-4.ensures.sound c.in_ok-pairs.pairs
    (pairs_cut a b e.names e.left e.right c.in_ok-pairs.pairs c.in_ok-pairs.ensures m k c.requires.cut.left.parts c.requires.cut.right.parts (are_matched (ports_of a) (ports_of b) c.requires.matches) c.requires.right.distinct))
