-- Nothing is refused before the name is looked for.
use Rattle.std.proofs.Common.{◌≡◌, ◌<◌, List, Err, length, refl, sym, subst, arith}
use Rattle.std.specs.List.{All}
use Rattle.std.proofs.lemmas.Option.{slice_get_within}
use Rattle.circuit_theory.specs.Interface.{shared_inputs}
use Rattle.flat_net.specs.View.{ports_of}
use Rattle.sec_setup.specs.declared.ports.pairs.SignalPair.{SignalPair}
use Rattle.cbf_unfold.proofs.shift_variables.Reading.{item_at}
use Rattle.plain_asked.specs.Pairs.{Unfolds, AreFunctions, AreLight, left_signals, right_signals}
use Rattle.plain_asked.proofs.Refusals.{lefts_within, rights_within}
use Rattle.plain_asked.proofs.PairAt.{left_within, right_within, left_here, right_here}
use Rattle.job_cert.specs.pair_clauses.Clauses.{PairGives, IsPairNamed, size_refusal_of}
use Rattle.witness_report.specs.declared.witness.PairName.TheVariants.{Output}
use Rattle.job_cert.specs.declared.pair_clauses.error.CertError.TheVariants.{Compare}
use Rattle.job_cert.proofs.pair_clauses.Given.{is_order, paired, unfolded, are_clauses}
use Rattle.job_cert.proofs.pair_clauses.Refused.{refused_by, unfolding_refused, unnamed_gives}
use Rattle.job_cert.proofs.pair_clauses.Outputs.{no_left, no_right}
use Rattle.job_cert.proofs.pair_clauses.Places.{is_named}
use Rattle.job_cert.proofs.pair_clauses.clauses.clauses_of_acyclic.Goals as goal

pub unfold_pairs-requires-clause-left_order : goal.unfold_pairs-requires-clause-left_order
unfold_pairs-requires-clause-left_order c =
    let n = c.args.nets.now in
    is_order n.left.now (shared_inputs (ports_of n.left.now) (ports_of n.right.now)) c.args.orders.now.left c.args.orders.now.right c.requires.orders.left_is

pub unfold_pairs-requires-clause-right_order : goal.unfold_pairs-requires-clause-right_order
unfold_pairs-requires-clause-right_order c =
    let n = c.args.nets.now in
    is_order n.right.now (shared_inputs (ports_of n.left.now) (ports_of n.right.now)) c.args.orders.now.right c.args.orders.now.left c.requires.orders.right_is

pub unfold_pairs-requires-clause-left : goal.unfold_pairs-requires-clause-left
unfold_pairs-requires-clause-left c =
    let n = c.args.nets.now in
    let own = paired n.left.now n.right.now c.args.exposure.now c.in_ok-pairs.pairs c.requires.chosen c.requires.matches c.requires.right c.in_ok-pairs.ensures in
    subst (λ (ps : List SignalPair). All (λ x. x < length n.left.now.drivers) (left_signals ps)) (sym c.as_slice.ensures) (lefts_within n.left.now n.right.now c.in_ok-pairs.pairs own c.keeps.ensures.sound)

pub unfold_pairs-requires-clause-right : goal.unfold_pairs-requires-clause-right
unfold_pairs-requires-clause-right c =
    let n = c.args.nets.now in
    let own = paired n.left.now n.right.now c.args.exposure.now c.in_ok-pairs.pairs c.requires.chosen c.requires.matches c.requires.right c.in_ok-pairs.ensures in
    subst (λ (ps : List SignalPair). All (λ x. x < length n.right.now.drivers) (right_signals ps)) (sym c.as_slice.ensures) (rights_within n.left.now n.right.now c.in_ok-pairs.pairs own c.keeps-2.ensures.sound)

pub returns-in_err-functions : goal.returns-in_err-functions
returns-in_err-functions c =
    let n = c.args.nets.now in
    let o = c.args.orders.now in
    let error = c.in_err-functions.field-0.0 in
    let own = paired n.left.now n.right.now c.args.exposure.now c.in_ok-pairs.pairs c.requires.chosen c.requires.matches c.requires.right c.in_ok-pairs.ensures in
    refused_by (PairGives n.left.now n.right.now c.args.pair.now) c.from_residual-in_err-functions.result (Compare (size_refusal_of error)) c.from_residual-in_err-functions.ensures.1
    (unfolding_refused n.left.now n.right.now c.args.exposure.now o.left o.right c.in_ok-pairs.pairs c.args.pair.now error c.requires.matches c.requires.chosen own
    (subst (λ (ps : List SignalPair). Unfolds n.left.now n.right.now o.left o.right ps (Err error)) c.as_slice.ensures c.in_err-functions.ensures.unfolds))

pub returns-in_default : goal.returns-in_default
returns-in_default c =
    let n = c.args.nets.now in
    let pairs = c.in_ok-pairs.pairs in
    let e = c.args.exposure.now in
    let own = paired n.left.now n.right.now e pairs c.requires.chosen c.requires.matches c.requires.right c.in_ok-pairs.ensures in
    let other = subst (λ (ps : List SignalPair). All (λ (p : SignalPair). p.name ≡ Output c.args.pair.now → ⊥) ps) c.as_slice-2.ensures c.in_default.ensures in
    let none = c.requires.chosen.closed refl in
    unnamed_gives n.left.now n.right.now c.args.pair.now c.unnamed.result c.unnamed.ensures (
      unfolded n.left.now n.right.now e pairs c.requires.matches c.requires.chosen own (subst (λ (ps : List SignalPair). AreLight n.left.now (left_signals ps)) c.as_slice.ensures c.in_ok-functions.ensures.unfolds.0)
          (subst (λ (ps : List SignalPair). AreLight n.right.now (right_signals ps)) c.as_slice.ensures c.in_ok-functions.ensures.unfolds.1),
      no_left n.left.now n.right.now e.names e.left e.right pairs c.in_ok-pairs.ensures none c.args.pair.now other,
      no_right n.left.now n.right.now e.names e.left e.right pairs c.in_ok-pairs.ensures none c.args.pair.now c.requires.matches other,
    )

pub index-requires : goal.index-requires
index-requires c =
    let n = c.args.nets.now in
    let o = c.args.orders.now in
    let f = c.in_ok-functions.functions in
    let named = subst (λ (ps : List SignalPair). IsPairNamed ps c.args.pair.now c.in-Some.place) c.as_slice-2.ensures c.in-Some.ensures in
    let are = subst (λ (ps : List SignalPair). AreFunctions n.left.now n.right.now o.left o.right ps f) c.as_slice.ensures c.in_ok-functions.ensures.unfolds.2 in
    let h = left_within n.left.now n.right.now c.in_ok-pairs.pairs c.in-Some.place named.0 named.1 o.left o.right f are in
    omega (arith, h, f.left.ok.0)

pub index-requires-2 : goal.index-requires-2
index-requires-2 c =
    let n = c.args.nets.now in
    let o = c.args.orders.now in
    let f = c.in_ok-functions.functions in
    let named = subst (λ (ps : List SignalPair). IsPairNamed ps c.args.pair.now c.in-Some.place) c.as_slice-2.ensures c.in-Some.ensures in
    let are = subst (λ (ps : List SignalPair). AreFunctions n.left.now n.right.now o.left o.right ps f) c.as_slice.ensures c.in_ok-functions.ensures.unfolds.2 in
    let h = right_within n.left.now n.right.now c.in_ok-pairs.pairs c.in-Some.place named.0 named.1 o.left o.right f are in
    omega (arith, h, f.right.ok.0)

pub bounds-as_slice-place : goal.bounds-as_slice-place
bounds-as_slice-place c =
    let pairs = c.in_ok-pairs.pairs in
    let named = subst (λ (ps : List SignalPair). IsPairNamed ps c.args.pair.now c.in-Some.place) c.as_slice-2.ensures c.in-Some.ensures in
    subst (λ (ps : List SignalPair). c.in-Some.place < length ps) (sym c.as_slice-3.ensures) (slice_get_within pairs c.in-Some.place named.0 named.1)

pub clauses_of_pair-requires-clause-left_order : goal.clauses_of_pair-requires-clause-left_order
clauses_of_pair-requires-clause-left_order c =
    let n = c.args.nets.now in
    is_order n.left.now (shared_inputs (ports_of n.left.now) (ports_of n.right.now)) c.args.orders.now.left c.args.orders.now.right c.requires.orders.left_is

pub clauses_of_pair-requires-clause-right_order : goal.clauses_of_pair-requires-clause-right_order
clauses_of_pair-requires-clause-right_order c =
    let n = c.args.nets.now in
    is_order n.right.now (shared_inputs (ports_of n.left.now) (ports_of n.right.now)) c.args.orders.now.right c.args.orders.now.left c.requires.orders.right_is

pub clauses_of_pair-requires-clause-left : goal.clauses_of_pair-requires-clause-left
clauses_of_pair-requires-clause-left c =
    let n = c.args.nets.now in
    let o = c.args.orders.now in
    let f = c.in_ok-functions.functions in
    let pairs = c.in_ok-pairs.pairs in
    let p : SignalPair = c.index-as_slice-place.result in
    let named = subst (λ (ps : List SignalPair). IsPairNamed ps c.args.pair.now c.in-Some.place) c.as_slice-2.ensures c.in-Some.ensures in
    let at = item_at pairs c.as_slice-3.result.now c.in-Some.place p c.as_slice-3.ensures (subst (λ (ps : List SignalPair). c.in-Some.place < length ps) (sym c.as_slice-3.ensures) (slice_get_within pairs c.in-Some.place named.0 named.1)) c.index-as_slice-place.is in
    let are = subst (λ (ps : List SignalPair). AreFunctions n.left.now n.right.now o.left o.right ps f) c.as_slice.ensures c.in_ok-functions.ensures.unfolds.2 in
    left_here n.left.now n.right.now pairs c.in-Some.place p at o.left o.right f are c.index.result.now c.index.ensures

pub clauses_of_pair-requires-clause-right : goal.clauses_of_pair-requires-clause-right
clauses_of_pair-requires-clause-right c =
    let n = c.args.nets.now in
    let o = c.args.orders.now in
    let f = c.in_ok-functions.functions in
    let pairs = c.in_ok-pairs.pairs in
    let p : SignalPair = c.index-as_slice-place.result in
    let named = subst (λ (ps : List SignalPair). IsPairNamed ps c.args.pair.now c.in-Some.place) c.as_slice-2.ensures c.in-Some.ensures in
    let at = item_at pairs c.as_slice-3.result.now c.in-Some.place p c.as_slice-3.ensures (subst (λ (ps : List SignalPair). c.in-Some.place < length ps) (sym c.as_slice-3.ensures) (slice_get_within pairs c.in-Some.place named.0 named.1)) c.index-as_slice-place.is in
    let are = subst (λ (ps : List SignalPair). AreFunctions n.left.now n.right.now o.left o.right ps f) c.as_slice.ensures c.in_ok-functions.ensures.unfolds.2 in
    right_here n.left.now n.right.now pairs c.in-Some.place p at o.left o.right f are c.index-2.result.now c.index-2.ensures

pub returns : goal.returns
returns c =
    let n = c.args.nets.now in
    let o = c.args.orders.now in
    let e = c.args.exposure.now in
    let pairs = c.in_ok-pairs.pairs in
    let name = c.args.pair.now in
    let place = c.in-Some.place in
    let own = paired n.left.now n.right.now e pairs c.requires.chosen c.requires.matches c.requires.right c.in_ok-pairs.ensures in
    let p : SignalPair = c.index-as_slice-place.result in
    let named = subst (λ (ps : List SignalPair). IsPairNamed ps name place) c.as_slice-2.ensures c.in-Some.ensures in
    let at = item_at pairs c.as_slice-3.result.now place p c.as_slice-3.ensures (subst (λ (ps : List SignalPair). place < length ps) (sym c.as_slice-3.ensures) (slice_get_within pairs place named.0 named.1)) c.index-as_slice-place.is in
    let can =
    unfolded n.left.now n.right.now e pairs c.requires.matches c.requires.chosen own (subst (λ (ps : List SignalPair). AreLight n.left.now (left_signals ps)) c.as_slice.ensures c.in_ok-functions.ensures.unfolds.0)
    (subst (λ (ps : List SignalPair). AreLight n.right.now (right_signals ps)) c.as_slice.ensures c.in_ok-functions.ensures.unfolds.1) in
    are_clauses n.left.now n.right.now e o.left o.right pairs name place c.in_ok-cnf.cnf can c.requires.orders c.in_ok-pairs.ensures (c.requires.chosen.closed refl) (p, at, is_named pairs name place p at named)
    c.in_ok-cnf.ensures.encoded c.in_ok-cnf.ensures.tell
