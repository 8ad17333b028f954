use Rattle.std.proofs.Common.{◌+◌, Bool, cond, drop, sym, ◌∙◌, ap, Some}
use Rattle.circuit_theory.specs.Interface.{first_missing}
use Rattle.sec_setup.proofs.ports.name_tables.Names.{missing_more}
use Rattle.sec_setup.proofs.ports.name_tables.tables.first_missing.Goals as goal

pub returns-then-not-has : goal.returns-then-not-has
returns-then-not-has c =
    sym (c.loop-id.invariant ∙ (missing_more c.args.names.now c.args.others.now c.loop-id.id c.name-name.result.now c.name-name.ensures
    ∙ ap (λ (b : Bool). cond b (first_missing (drop (c.loop-id.id + 1) c.args.names.now) c.args.others.now) (Some c.name-name.result.now)) (sym c.has.ensures ∙ c.if-not-has.true)))

pub loop-id-preserved : goal.loop-id-preserved
loop-id-preserved c =
    c.loop-id.invariant ∙ (missing_more c.args.names.now c.args.others.now c.loop-id.id c.name-name.result.now c.name-name.ensures
    ∙ ap (λ (b : Bool). cond b (first_missing (drop (c.loop-id.id + 1) c.args.names.now) c.args.others.now) (Some c.name-name.result.now)) (sym c.has.ensures ∙ c.if-not-has.false))
