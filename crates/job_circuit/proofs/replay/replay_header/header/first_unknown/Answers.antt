use Rattle.std.proofs.Common.{◌+◌, Bool, cond, drop, sym, ◌∙◌, ap, Some}
use Rattle.std.specs.Prelude.{not}
use Rattle.job_circuit.specs.replay.replay_header.Header.{first_unknown, is_known}
use Rattle.job_circuit.proofs.replay.replay_header.Names.{find_more}
use Rattle.job_circuit.proofs.replay.replay_header.header.first_unknown.Goals as goal

pub returns-then-not-is_known : goal.returns-then-not-is_known
returns-then-not-is_known c =
    let a = c.args.a.now in
    let b = c.args.b.now in
    sym (c.loop-id.invariant ∙ (find_more (λ name. not (is_known a b name)) c.args.names.now c.loop-id.id c.name-name.result.now c.name-name.ensures
    ∙ ap (λ (t : Bool). cond (not t) (Some c.name-name.result.now) (first_unknown a b (drop (c.loop-id.id + 1) c.args.names.now))) (sym c.is_known.ensures ∙ c.if-not-is_known.true)))

pub loop-id-preserved : goal.loop-id-preserved
loop-id-preserved c =
    let a = c.args.a.now in
    let b = c.args.b.now in
    c.loop-id.invariant ∙ (find_more (λ name. not (is_known a b name)) c.args.names.now c.loop-id.id c.name-name.result.now c.name-name.ensures
    ∙ ap (λ (t : Bool). cond (not t) (Some c.name-name.result.now) (first_unknown a b (drop (c.loop-id.id + 1) c.args.names.now))) (sym c.is_known.ensures ∙ c.if-not-is_known.false))
