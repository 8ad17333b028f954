use Rattle.std.proofs.Common.{◌≡◌, ◌∙◌, ℕ, List, length, ap, ap₂, arith}
use Rattle.flat_net.specs.declared.signals.Signal.{Signal}
use Rattle.flat_net.specs.Makes.{MakerView, with_output}
use Rattle.job_gen.specs.pair_gen.Cells.{shown_by}
use Rattle.job_gen.specs.pair_gen.Sketch.{number_of, signal_of}
use Rattle.job_gen.proofs.pair_gen.Numbers.{number_within, shown_placed}
use Rattle.job_gen.proofs.pair_gen.Showing.{shown_none, shown_more}
use Rattle.job_gen.proofs.pair_gen.sketch.add_outputs.Goals as goal

pub loop-column-init : goal.loop-column-init
loop-column-init c = shown_none c.args.plan.now.circuit c.args.maker.now c.requires.none

pub output-requires : goal.output-requires
output-requires c =
    let size : length c.loop-column.maker.net.drivers ≡ 5200 = ap (λ (m : MakerView). length m.net.drivers) c.loop-column.invariant ∙ c.requires.size in
    let low = number_within (shown_by c.args.plan.now.circuit c.loop-column.column) (shown_placed c.args.plan.now.circuit c.loop-column.column c.loop-column-test.true) in
    let is : c.signal_of.result.0 ≡ number_of (shown_by c.args.plan.now.circuit c.loop-column.column) = ap (λ (s : Signal). s.0) (c.signal_of.ensures ∙ ap signal_of c.shown_by.ensures) in
    omega (arith, size, low, is)

pub loop-column-preserved : goal.loop-column-preserved
loop-column-preserved c =
    let one = λ (n : List ℕ) (s : Signal). let m : MakerView = record c.loop-column.maker { net = with_output c.loop-column.maker.net n s } in m in
    shown_more c.args.plan.now.circuit c.args.maker.now c.loop-column.maker c.output.new.self c.loop-column.column c.loop-column.invariant
    (c.in_ok-output.ensures.ok ∙ ap₂ one (c.as_slice.ensures.value ∙ c.in_ok-name.ensures) (c.signal_of.ensures ∙ ap signal_of c.shown_by.ensures))
