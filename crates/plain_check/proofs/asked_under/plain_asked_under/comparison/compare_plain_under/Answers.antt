-- What unfolding the pairs refuses.
use Rattle.std.proofs.Common.{◌<◌, List, Ok, Err, length, sym, subst}
use Rattle.std.specs.List.{All}
use Rattle.sec_setup.specs.declared.ports.pairs.SignalPair.{SignalPair}
use Rattle.plain_asked.specs.Pairs.{Unfolds, left_signals, right_signals}
use Rattle.plain_asked.proofs.Refusals.{is_order, lefts_within, rights_within}
use Rattle.plain_check.specs.asked_under.plain_asked_under.Formed.{FormedUnder}
use Rattle.plain_check.specs.asked_under.plain_asked_under.Refusals.{refusal_of}
use Rattle.plain_check.proofs.asked_under.Refused.{refused_by}
use Rattle.plain_check.proofs.asked_under.plain_asked_under.Refused.{unfolded}
use Rattle.plain_check.proofs.asked_under.plain_asked_under.comparison.compare_plain_under.Goals as goal

pub unfold_pairs-requires-clause-left_order : goal.unfold_pairs-requires-clause-left_order
unfold_pairs-requires-clause-left_order c =
    let s = c.args.setup.now in
    is_order s.left.now s.columns s.orders.left s.orders.right c.requires.setup.left_columns

pub unfold_pairs-requires-clause-right_order : goal.unfold_pairs-requires-clause-right_order
unfold_pairs-requires-clause-right_order c =
    let s = c.args.setup.now in
    is_order s.right.now s.columns s.orders.right s.orders.left c.requires.setup.right_columns

pub unfold_pairs-requires-clause-left : goal.unfold_pairs-requires-clause-left
unfold_pairs-requires-clause-left c =
    let s = c.args.setup.now in
    subst (λ (ps : List SignalPair). All (λ x. x < length s.left.now.drivers) (left_signals ps)) (sym c.as_slice.ensures) (lefts_within s.left.now s.right.now s.pairs c.requires.setup.pairs c.keeps.ensures.sound)

pub unfold_pairs-requires-clause-right : goal.unfold_pairs-requires-clause-right
unfold_pairs-requires-clause-right c =
    let s = c.args.setup.now in
    subst (λ (ps : List SignalPair). All (λ x. x < length s.right.now.drivers) (right_signals ps)) (sym c.as_slice.ensures) (rights_within s.left.now s.right.now s.pairs c.requires.setup.pairs c.keeps-2.ensures.sound)

pub returns-in_err-functions : goal.returns-in_err-functions
returns-in_err-functions c =
    let s = c.args.setup.now in
    refused_by (FormedUnder s c.args.premise.now c.args.conflicts) c.from_residual.result (refusal_of c.in_err-functions.field-0.0) c.from_residual.ensures.1
    (unfolded s c.args.premise.now c.args.conflicts c.requires.setup.pairs c.in_err-functions.field-0.0
    (subst (λ (ps : List SignalPair). Unfolds s.left.now s.right.now s.orders.left s.orders.right ps (Err c.in_err-functions.field-0.0)) c.as_slice.ensures c.in_err-functions.ensures.unfolds))

pub compare_functions-requires-clause-unfolds : goal.compare_functions-requires-clause-unfolds
compare_functions-requires-clause-unfolds c =
    let s = c.args.setup.now in
    subst (λ (ps : List SignalPair). Unfolds s.left.now s.right.now s.orders.left s.orders.right ps (Ok c.in_ok-functions.functions)) c.as_slice.ensures c.in_ok-functions.ensures.unfolds
