-- The pairs' signals are those of the outputs.
use Rattle.std.proofs.Common.{◌≡◌, ◌<◌, List, Err, length, sym, subst, rules}
use Rattle.std.specs.List.{All}
use Rattle.sec_setup.specs.declared.ports.pairs.SignalPair.{SignalPair}
use Rattle.plain_asked.specs.Formed.{Formed}
use Rattle.plain_asked.specs.Apart.{AreApart, UnfoldsApart}
use Rattle.plain_asked.specs.Pairs.{AreLight, left_signals, right_signals}
use Rattle.plain_asked.proofs.Refusals.{is_order, lefts_within, rights_within, left_light, right_light, refusal_formed}
use Rattle.plain_check.proofs.plain_form.comparison.compare_plain.Goals as goal

pub unfold_apart-requires-clause-left_order : goal.unfold_apart-requires-clause-left_order
unfold_apart-requires-clause-left_order c =
    let s = c.args.setup.now in
    is_order s.left.now s.columns s.orders.left s.orders.right c.requires.setup.left_columns

pub unfold_apart-requires-clause-right_order : goal.unfold_apart-requires-clause-right_order
unfold_apart-requires-clause-right_order c =
    let s = c.args.setup.now in
    is_order s.right.now s.columns s.orders.right s.orders.left c.requires.setup.right_columns

pub unfold_apart-requires-clause-left : goal.unfold_apart-requires-clause-left
unfold_apart-requires-clause-left c =
    let s = c.args.setup.now in
    subst (λ (ps : List SignalPair). All (λ x. x < length s.left.now.drivers) (left_signals ps)) (sym c.as_slice.ensures) (lefts_within s.left.now s.right.now s.pairs c.requires.setup.pairs c.keeps.ensures.sound)

pub unfold_apart-requires-clause-right : goal.unfold_apart-requires-clause-right
unfold_apart-requires-clause-right c =
    let s = c.args.setup.now in
    subst (λ (ps : List SignalPair). All (λ x. x < length s.right.now.drivers) (right_signals ps)) (sym c.as_slice.ensures) (rights_within s.left.now s.right.now s.pairs c.requires.setup.pairs c.keeps-2.ensures.sound)

pub returns-in_err-functions : goal.returns-in_err-functions
returns-in_err-functions c =
    let s = c.args.setup.now in
    let same : c.from_residual.result ≡ Err c.in_err-functions.field-0.0 = search rules in
    subst (Formed s c.args.conflicts) (sym same)
    (refusal_formed s c.args.conflicts c.requires.setup.pairs c.in_err-functions.field-0.0
    (subst (λ (ps : List SignalPair). UnfoldsApart s.left.now s.right.now s.orders.left s.orders.right ps (Err c.in_err-functions.field-0.0)) c.as_slice.ensures c.in_err-functions.ensures))

pub findings_of-requires-clause-functions : goal.findings_of-requires-clause-functions
findings_of-requires-clause-functions c =
    let s = c.args.setup.now in
    subst (λ (ps : List SignalPair). AreApart s.left.now s.right.now s.orders.left s.orders.right ps c.in_ok-functions.functions) c.as_slice.ensures c.in_ok-functions.ensures.2

pub returns : goal.returns
returns c =
    let s = c.args.setup.now in
    record {
      left_light = left_light s.left.now s.right.now s.pairs c.requires.setup.pairs (subst (λ (ps : List SignalPair). AreLight s.left.now (left_signals ps)) c.as_slice.ensures c.in_ok-functions.ensures.0);
      right_light = right_light s.left.now s.right.now s.pairs c.requires.setup.pairs (subst (λ (ps : List SignalPair). AreLight s.right.now (right_signals ps)) c.as_slice.ensures c.in_ok-functions.ensures.1);
      fits = c.in_ok-findings.ensures;
    }
