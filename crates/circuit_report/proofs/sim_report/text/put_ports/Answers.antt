-- One name more, behind a blank.
use Rattle.std.proofs.Common.{◌∙◌, ◌++◌, ◌∷◌, [], ℕ, List, map, take, sym, ap, append_assoc}
use Rattle.std.proofs.lemmas.List.{take_all, map_more, flat_map_more}
use Rattle.flat_net.specs.declared.parts.Port.{Port}
use Rattle.witness_report.specs.Text.{names_text}
use Rattle.circuit_report.proofs.sim_report.text.put_ports.Goals as goal

pub loop-port-preserved : goal.loop-port-preserved
loop-port-preserved c =
    let ports = c.args.ports.now in
    let i = c.loop-port.port-index in
    let port = c.port-item.result in
    let before = c.args.text.now.items in
    let names = map (λ (p : Port). p.name) (take i ports) in
    let name = c.as_slice.result.now in
    c.in_ok-put-2.ensures.ok ∙ ap (λ (t : List ℕ). t ++ name) (c.in_ok-put.ensures.ok ∙ ap (λ (t : List ℕ). t ++ 32 ∷ []) c.loop-port.invariant) ∙ append_assoc (before ++ names_text names) (32 ∷ []) name
    ∙ ap (λ (x : List ℕ). (before ++ names_text names) ++ 32 ∷ x) (c.as_slice.ensures ∙ ap (λ (p : Port). p.name) c.port-item.is) ∙ flat_map_more (λ (n : List ℕ). 32 ∷ n) before names _
    ∙ ap (λ (ns : List (List ℕ)). before ++ names_text ns) (sym (map_more (λ (p : Port). p.name) ports i port c.loop-port-test.true))

pub returns : goal.returns
returns c = c.loop-port.invariant ∙ ap (λ (ps : List Port). c.args.text.now.items ++ names_text (map (λ (p : Port). p.name) ps)) (take_all c.loop-port.port-index c.args.ports.now c.loop-port-test.false)
