use Rattle.std.proofs.Common.{◌≡◌, ◌≤◌, ℕ, cond, List, [], ◌∷◌, ◌++◌, length, sym, ◌∙◌, ap, arith}
use Rattle.flat_net.specs.Table.{is_among as is_entry}
use Rattle.flat_net.specs.View.{ports_of}
use Rattle.sec_setup.specs.ports.Numbered.{stays}
use Rattle.sec_setup.proofs.ports.Interfaces.{input_at, said_of, beside_kept, beside_left}
use Rattle.sec_setup.proofs.ports.numbers.inputs_beside.Goals as goal

pub loop-i-preserved-then-not-stays : goal.loop-i-preserved-then-not-stays
loop-i-preserved-then-not-stays c =
    let at = input_at c.args.own.now c.inputs-port-items.result.now c.loop-i.i c.port-item.result c.inputs-port-items.ensures c.loop-i-test.true c.port-item.is in
    let is = said_of c.args.own.now c.loop-i.i c.port-item.result (λ p. c.stays.result ≡ stays (ports_of c.args.own.now) (ports_of c.args.other.now) p.name) at c.stays.ensures in
    let few : length c.loop-i.names ≤ c.loop-i.i = c.loop-i.invariant.few in
    record {
      names_are = beside_left c.args.own.now c.keeps.ensures.sound (ports_of c.args.other.now) c.loop-i.i c.port-item.result c.loop-i.names at (sym is ∙ c.if-not-stays.true) c.loop-i.invariant.names_are;
      few = omega arith;
    }

pub loop-i-preserved : goal.loop-i-preserved
loop-i-preserved c =
    let at = input_at c.args.own.now c.inputs-port-items.result.now c.loop-i.i c.port-item.result c.inputs-port-items.ensures c.loop-i-test.true c.port-item.is in
    let is = said_of c.args.own.now c.loop-i.i c.port-item.result (λ p. c.stays.result ≡ stays (ports_of c.args.own.now) (ports_of c.args.other.now) p.name) at c.stays.ensures in
    let made = c.in_ok-intern.ensures.ok ∙ ap (λ (name : List ℕ). cond (is_entry c.loop-i.names name) c.loop-i.names (c.loop-i.names ++ name ∷ [])) c.as_slice.ensures in
    let step = beside_kept c.args.own.now c.keeps.ensures.sound (ports_of c.args.other.now) c.loop-i.i c.port-item.result c.loop-i.names c.intern.new.self at (sym is ∙ c.if-not-stays.false)
    c.loop-i.invariant.names_are made c.loop-i.invariant.few in
    record { names_are = step.0; few = step.1 }
