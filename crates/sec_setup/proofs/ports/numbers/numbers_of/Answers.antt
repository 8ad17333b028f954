use Rattle.std.proofs.Common.{◌+◌, ◌≤◌, ℕ, List, take, map, Option, subst, sym, ◌∙◌, ap, arith, Some}
use Rattle.std.specs.Prelude.{is_some}
use Rattle.flat_net.specs.Table.{is_among as is_entry}
use Rattle.sec_setup.specs.ports.Numbered.{AreNumbers}
use Rattle.flat_net.specs.declared.parts.Port.{Port}
use Rattle.circuit_theory.proofs.Numbers.{slice_get-map}
use Rattle.sec_setup.proofs.ports.Interfaces.{input_at, among_entries}
use Rattle.sec_setup.proofs.ports.Numbering.{number_known, number_other}
use Rattle.sec_setup.proofs.ports.numbers.numbers_of.Goals as goal

pub loop-port-preserved-in_default : goal.loop-port-preserved-in_default
loop-port-preserved-in_default c =
    let at = input_at c.args.own.now c.inputs-port-items.result.now c.loop-port.port-index c.port-item.result c.inputs-port-items.ensures c.loop-port-test.true c.port-item.is in
    let named = slice_get-map (λ (p : Port). p.name) c.args.own.now.inputs c.loop-port.port-index c.port-item.result at in
    let few : c.loop-port.next ≤ c.args.from + c.loop-port.port-index = c.loop-port.invariant.few in
    record {
      numbers_are = subst (λ (ns : List ℕ). AreNumbers (take (c.loop-port.port-index + 1) (map (λ (p : Port). p.name) c.args.own.now.inputs)) c.args.shared.now c.args.from (c.loop-port.next + 1) ns) (sym c.in_ok-push.ensures.ok)
          (number_other (map (λ (p : Port). p.name) c.args.own.now.inputs) c.args.shared.now c.loop-port.port-index c.args.from c.loop-port.next c.loop-port.numbers c.port-item.result.name named c.loop-port.invariant.numbers_are
          (among_entries c.args.shared.now c.port-item.result.name ∙ (sym (ap (is_entry c.args.shared.now) c.as_slice.ensures) ∙ (sym c.find.ensures.found ∙ ap (λ (o : Option ℕ). is_some o) c.in_default.is))));
      few = omega arith;
    }

pub loop-port-preserved : goal.loop-port-preserved
loop-port-preserved c =
    let at = input_at c.args.own.now c.inputs-port-items.result.now c.loop-port.port-index c.port-item.result c.inputs-port-items.ensures c.loop-port-test.true c.port-item.is in
    let named = slice_get-map (λ (p : Port). p.name) c.args.own.now.inputs c.loop-port.port-index c.port-item.result at in
    let few : c.loop-port.next ≤ c.args.from + c.loop-port.port-index = c.loop-port.invariant.few in
    record {
      numbers_are = subst (λ (ns : List ℕ). AreNumbers (take (c.loop-port.port-index + 1) (map (λ (p : Port). p.name) c.args.own.now.inputs)) c.args.shared.now c.args.from c.loop-port.next ns) (sym c.in_ok-push-2.ensures.ok)
          (number_known (map (λ (p : Port). p.name) c.args.own.now.inputs) c.args.shared.now c.loop-port.port-index c.args.from c.loop-port.next c.in-Some.id c.loop-port.numbers c.port-item.result.name named c.loop-port.invariant.numbers_are
          (c.in-Some.ensures.here ∙ ap Some c.as_slice.ensures));
      few = omega arith;
    }
