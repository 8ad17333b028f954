-- By what drives the signal.
use Rattle.std.proofs.Common.{◌≡◌, ◌∙◌, ℕ, ◌<◌, List, length, slice_get, Option, Some, Result, Ok, Err, sym, ap, subst, arith}
use Rattle.std.specs.Prelude.{IfOk, IfSome, OnOk}
use Rattle.std.specs.List.{All}
use Rattle.std.proofs.lemmas.List.Elements.{All-contains}
use Rattle.std.proofs.lemmas.Option.{slice_get_within}
use Rattle.circuit_theory.proofs.Lists.{All-from_each}
use Rattle.flat_net.specs.declared.signals.Signal.{Signal}
use Rattle.flat_net.specs.declared.parts.Gate.{Gate}
use Rattle.flat_net.specs.declared.parts.Driver.TheVariants as driver
use Rattle.flat_net.specs.View.{NetView}
use Rattle.aig.specs.declared.node.Lit.{Lit}
use Rattle.aig.specs.declared.node.Node.{Node}
use Rattle.flat_net.specs.Weights.{gate_weight, driver_weight, weight_at}
use Rattle.flat_net.proofs.Drivers.{driven_gate}
use Rattle.block_refine.specs.declared.latch_blocks.variables.Variables.{Variables}
use Rattle.block_refine.specs.latch_blocks.Signals.{AreSignalLits, IsSignalLit, variable_at}
use Rattle.block_refine.proofs.latch_blocks.GateLits.{gate_lit}
use Rattle.block_refine.proofs.latch_blocks.Growing.{lits_grow, lits_within}
use Rattle.block_refine.proofs.latch_blocks.Sources.{input_inside, latch_inside, input_small, driven_at}
use Rattle.block_refine.proofs.latch_blocks.literals.literal.Goals as goal

-- a variable's literal is that of each signal of this variable, and those before stay
here_at : {E : Type 0} (n : NetView) (w : Variables) (g : List Node) (s k : ℕ) (r : Result Lit E) → variable_at n w s ≡ Some k →
    IfOk r (λ x. (m : NetView) (u : Variables) (t : ℕ) → variable_at m u t ≡ Some k → IsSignalLit m u g t x) → IfOk r (IsSignalLit n w g s)
here_at n w g s k (Ok x) has each = each n w s has
here_at n w g s k (Err e) has each = tt

stay_at : {E : Type 0} (n : NetView) (w : Variables) (g h : List Node) (lits : List Lit) (r : Result Lit E) → AreSignalLits n w g lits →
    OnOk r ((m : NetView) (u : Variables) (ls : List Lit) → AreSignalLits m u g ls → AreSignalLits m u h ls) → OnOk r (AreSignalLits n w h lits)
stay_at n w g h lits (Ok x) are each = each n w lits are
stay_at n w g h lits (Err e) are each = tt

pub variable_in-requires : goal.variable_in-requires
variable_in-requires c = input_inside c.args.net.now c.keeps.ensures.sound c.args.variables.now c.requires.variables c.args.s.0 c.in-Input.i (c.driver.ensures ∙ ap Some c.in-Input.is)

pub variable_in-requires-in-Latch : goal.variable_in-requires-in-Latch
variable_in-requires-in-Latch c = latch_inside c.args.net.now c.keeps.ensures.sound c.args.variables.now c.requires.variables c.args.s.0 c.in-Latch.j (c.driver.ensures ∙ ap Some c.in-Latch.is)

pub variable_literal-requires-clause-small : goal.variable_literal-requires-clause-small
variable_literal-requires-clause-small c = input_small c.args.net.now c.keeps.ensures.sound c.args.variables.now c.requires.variables c.args.s.0 c.in-Input.i c.variable_in.result c.variable_in.ensures

pub gate_literal-requires-clause-gate : goal.gate_literal-requires-clause-gate
gate_literal-requires-clause-gate c =
    let g = driven_gate c.args.net.now c.keeps.ensures.sound c.args.s.0 c.in-Gate.j (c.driver.ensures ∙ ap Some c.in-Gate.is) in
    slice_get_within c.args.net.now.gates c.in-Gate.j g.0 g.1

pub gate_literal-requires-clause-known : goal.gate_literal-requires-clause-known
gate_literal-requires-clause-known c =
    let g = driven_gate c.args.net.now c.keeps.ensures.sound c.args.s.0 c.in-Gate.j (c.driver.ensures ∙ ap Some c.in-Gate.is) in
    subst (λ (o : Option Gate). IfSome o (λ k. All (λ f. f.0 < length c.args.lits.now) k.fanins)) (sym g.1)
    (All-from_each (λ (f : Signal). f.0 < length c.args.lits.now) g.0.fanins
    (λ f h. let above = All-contains (λ (k : Signal). k.0 < g.0.out.0) g.0.fanins f (c.keeps.ensures.sound.gates c.in-Gate.j g.0 g.1).above h in omega (arith, above, g.2, c.requires.before)))

pub gate_literal-requires-clause-within : goal.gate_literal-requires-clause-within
gate_literal-requires-clause-within c = lits_within c.args.net.now c.args.variables.now c.args.aig.now c.args.lits.now c.requires.lits

pub gate_literal-requires-clause-room : goal.gate_literal-requires-clause-room
gate_literal-requires-clause-room c =
    let weight : weight_at c.args.net.now c.args.s.0 ≡ gate_weight c.args.net.now.covers (slice_get c.args.net.now.gates c.in-Gate.j) = ap (driver_weight c.args.net.now) (c.driver.ensures ∙ ap Some c.in-Gate.is) in
    omega (arith, weight, c.requires.room)

pub returns-in-Input-clause-here : goal.returns-in-Input-clause-here
returns-in-Input-clause-here c =
    here_at c.args.net.now c.args.variables.now c.variable_literal.new.aig c.args.s.0 c.variable_in.result c.variable_literal.result
    (driven_at c.args.net.now c.args.variables.now c.args.s.0 (driver.Input c.in-Input.i) (c.driver.ensures ∙ ap Some c.in-Input.is) ∙ c.variable_in.ensures) c.variable_literal.ensures.here

pub returns-in-Input-clause-stay : goal.returns-in-Input-clause-stay
returns-in-Input-clause-stay c = stay_at c.args.net.now c.args.variables.now c.args.aig.now c.variable_literal.new.aig c.args.lits.now c.variable_literal.result c.requires.lits c.variable_literal.ensures.stay

pub returns-in-Latch-clause-here : goal.returns-in-Latch-clause-here
returns-in-Latch-clause-here c =
    here_at c.args.net.now c.args.variables.now c.variable_literal-in-Latch.new.aig c.args.s.0 c.variable_in-in-Latch.result c.variable_literal-in-Latch.result
    (driven_at c.args.net.now c.args.variables.now c.args.s.0 (driver.Latch c.in-Latch.j) (c.driver.ensures ∙ ap Some c.in-Latch.is) ∙ c.variable_in-in-Latch.ensures) c.variable_literal-in-Latch.ensures.here

pub returns-in-Latch-clause-stay : goal.returns-in-Latch-clause-stay
returns-in-Latch-clause-stay c = stay_at c.args.net.now c.args.variables.now c.args.aig.now c.variable_literal-in-Latch.new.aig c.args.lits.now c.variable_literal-in-Latch.result c.requires.lits c.variable_literal-in-Latch.ensures.stay

pub returns-in_ok-lit-in-Gate-clause-here : goal.returns-in_ok-lit-in-Gate-clause-here
returns-in_ok-lit-in-Gate-clause-here c =
    gate_lit c.args.net.now c.keeps.ensures.sound c.args.variables.now c.args.aig.now c.gate_literal.new.aig c.keeps-in-Gate.ensures.graph c.keeps-in-Gate-2.ensures.graph c.gate_literal.ensures.grows c.args.lits.now c.args.s.0 c.in-Gate.j c.requires.before
    (c.driver.ensures ∙ ap Some c.in-Gate.is) c.requires.lits c.in_ok-lit-in-Gate.lit c.in_ok-lit-in-Gate.ensures.here

pub returns-in_ok-lit-in-Gate-clause-stay : goal.returns-in_ok-lit-in-Gate-clause-stay
returns-in_ok-lit-in-Gate-clause-stay c = lits_grow c.args.net.now c.args.variables.now c.args.aig.now c.gate_literal.new.aig c.keeps-in-Gate.ensures.graph c.gate_literal.ensures.grows c.args.lits.now c.requires.lits

pub returns-in_ok-lit-in-Gate-clause-few : goal.returns-in_ok-lit-in-Gate-clause-few
returns-in_ok-lit-in-Gate-clause-few c =
    let weight : weight_at c.args.net.now c.args.s.0 ≡ gate_weight c.args.net.now.covers (slice_get c.args.net.now.gates c.in-Gate.j) = ap (driver_weight c.args.net.now) (c.driver.ensures ∙ ap Some c.in-Gate.is) in
    omega (arith, weight, c.gate_literal.ensures.few)

pub returns-in_err-lit-in-Gate-clause-few : goal.returns-in_err-lit-in-Gate-clause-few
returns-in_err-lit-in-Gate-clause-few c =
    let weight : weight_at c.args.net.now c.args.s.0 ≡ gate_weight c.args.net.now.covers (slice_get c.args.net.now.gates c.in-Gate.j) = ap (driver_weight c.args.net.now) (c.driver.ensures ∙ ap Some c.in-Gate.is) in
    omega (arith, weight, c.gate_literal.ensures.few)
