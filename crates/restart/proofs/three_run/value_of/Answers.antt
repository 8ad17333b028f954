-- The output of the name.
use Rattle.std.proofs.Common.{◌≡◌, ◌∙◌, ℕ, List, ap, subst, sym}
use Rattle.std.specs.List.{Contains}
use Rattle.std.specs.Str.{bytes_eq}
use Rattle.std.proofs.lemmas.Slice.Eq.{bytes_eq-Decides}
use Rattle.circuit_theory.proofs.Lists.{Contains-map, of_at}
use Rattle.flat_net.specs.View.{circuit_of, named}
use Rattle.cycle_sim.proofs.Lists.{item_at}
use Rattle.restart.proofs.Bits.{read_some}
use Rattle.restart.proofs.three_run.value_of.Goals as goal

pub returns-then-eq : goal.returns-then-eq
returns-then-eq c = λ bit e.
    let outputs = c.args.net.now.outputs in
    let port = c.port-item.result in
    let at = item_at outputs _ c.loop-port.port-index port c.outputs-port-items.ensures c.loop-port-test.true c.port-item.is in
    let is : bytes_eq port.name c.args.name.now ≡ c.eq.result = sym (c.eq.ensures ∙ ap (λ (xs : List ℕ). bytes_eq xs c.args.name.now) c.as_slice.ensures) in
    let same : port.name ≡ c.args.name.now = (bytes_eq-Decides port.name c.args.name.now).0 (is ∙ c.if-eq.true) in (
      port.signal.0,
      subst (λ (name : List ℕ). Contains (circuit_of c.args.net.now).outputs (record { name = name; place = port.signal.0 })) same (Contains-map named outputs port (of_at outputs c.loop-port.port-index port at)),
      read_some c.args.values.now port.signal.0 bit e,
    )
