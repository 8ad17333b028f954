use Rattle.std.proofs.Common.{map, ◌∙◌, ap}
use Rattle.std.specs.Option.{option_map}
use Rattle.sec_setup.specs.ports.flat_net.Port.{Port}
use Rattle.sec_setup.proofs.Mismatches.{mismatch_is, refused_name}
use Rattle.sec_setup.proofs.interfaces.match_names.Goals as goal

pub returns-in-Some-clause-err : goal.returns-in-Some-clause-err
returns-in-Some-clause-err c =
    let outputs = c.in_ok-left_outputs.ensures ∙ ap (map (λ (p : Port). p.name)) c.outputs.ensures in
    let outputs-2 = c.in_ok-right_outputs.ensures ∙ ap (map (λ (p : Port). p.name)) c.outputs-2.ensures in
    let found = mismatch_is c.args.a.now c.args.b.now c.args.left.now c.args.right.now c.in_ok-left_outputs.left_outputs c.in_ok-right_outputs.right_outputs _
    c.requires.left c.requires.right outputs outputs-2 c.first_mismatch.ensures in
    refused_name c.args.a.now c.args.b.now c.in-Some.name.now c.mismatch_error.result
    (found ∙ ap (option_map (λ name. name.now)) c.in-Some.is) c.mismatch_error.ensures

pub returns-clause-ok : goal.returns-clause-ok
returns-clause-ok c =
    let outputs = c.in_ok-left_outputs.ensures ∙ ap (map (λ (p : Port). p.name)) c.outputs.ensures in
    let outputs-2 = c.in_ok-right_outputs.ensures ∙ ap (map (λ (p : Port). p.name)) c.outputs-2.ensures in
    mismatch_is c.args.a.now c.args.b.now c.args.left.now c.args.right.now c.in_ok-left_outputs.left_outputs c.in_ok-right_outputs.right_outputs _
    c.requires.left c.requires.right outputs outputs-2 c.first_mismatch.ensures
    ∙ ap (option_map (λ name. name.now)) c.in_default.is
