-- The ports are the outputs.
use Rattle.std.proofs.Common.{◌≡◌, ◌++◌, ◌∷◌, [], List, map, subst, append_assoc, rules}
use Rattle.std.specs.Prelude.{codes, OnOk}
use Rattle.std.proofs.lemmas.Result.{IfOk-equal}
use Rattle.flat_net.specs.declared.parts.Port.{Port}
use Rattle.witness_report.specs.Text.{names_text}
use Rattle.circuit_report.proofs.sim_report.report.put_head.Goals as goal

pub returns : goal.returns
returns c =
    subst (λ (ports : List Port). OnOk c.put-2.result (c.put-2.new.text.items ≡ c.args.text.now.items ++ (codes "outputs" ++ names_text (map (λ (p : Port). p.name) ports) ++ 10 ∷ []))) c.outputs.ensures
    (search (rules, IfOk-equal, append_assoc))
