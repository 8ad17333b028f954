use Rattle.std.proofs.Common.{◌≡◌, ◌≤◌, ◌<◌, List, ℕ, map, get_or, length, slice_get, Some, subst, sym, true≢false, ◌∙◌}
use Rattle.std.proofs.lemmas.List.{length-map}
use Rattle.std.proofs.lemmas.Option.{slice_get-get_or}
use Rattle.circuit_theory.proofs.Numbers.{slice_get-map}
use Rattle.flatten.specs.connectivity.Wiring.{Cell}
use Rattle.flatten.specs.connectivity.Faults.{output_cell}
use Rattle.flatten.specs.connectivity.Clocks.{ReadsNet}
use Rattle.flatten.proofs.connectivity.Firsts.{first_at, never_more, never_all}
use Rattle.flatten.proofs.connectivity.clocks.output_of.Goals as goal

here_of : (outputs : List ℕ) (i : ℕ) → i < length outputs → slice_get (map output_cell outputs) i ≡ Some (output_cell (get_or outputs i 0))
here_of outputs i below = slice_get-map (output_cell {P = ℕ}) outputs i (get_or outputs i 0) (slice_get-get_or outputs i 0 below)

pub returns-then-reads_net : goal.returns-then-reads_net
returns-then-reads_net c =
    let outputs = c.args.outputs.now in
    let i = c.loop-output.output-index in
    first_at (λ (z : Cell ℕ). z.out) (λ (z : Cell ℕ). ReadsNet c.args.nets.now c.args.net z.reads) (map output_cell outputs) i (output_cell (get_or outputs i 0)) (here_of outputs i c.loop-output-test.true)
    c.loop-output.invariant (c.reads_net.ensures.0 c.if-reads_net.true)

pub loop-output-preserved : goal.loop-output-preserved
loop-output-preserved c =
    let outputs = c.args.outputs.now in
    let i = c.loop-output.output-index in
    never_more (λ (z : Cell ℕ). z.out) (λ (z : Cell ℕ). ReadsNet c.args.nets.now c.args.net z.reads) (map output_cell outputs) i (output_cell (get_or outputs i 0)) (here_of outputs i c.loop-output-test.true)
    c.loop-output.invariant (λ reads. true≢false (sym (c.reads_net.ensures.1 reads) ∙ c.if-reads_net.false))

pub returns : goal.returns
returns c =
    let outputs = c.args.outputs.now in
    never_all (λ (z : Cell ℕ). z.out) (λ (z : Cell ℕ). ReadsNet c.args.nets.now c.args.net z.reads) (map output_cell outputs) c.loop-output.output-index
    (subst (λ n. n ≤ c.loop-output.output-index) (sym (length-map outputs (output_cell {P = ℕ}))) c.loop-output-test.false) c.loop-output.invariant
