-- The sequence, and the power-ups by the same bits.
use Rattle.std.proofs.Common.{◌≡◌, ◌∙◌, ℕ, Bool, List, ap}
use Rattle.circuit_theory.specs.Circuit.{Circuit}
use Rattle.flat_net.specs.View.{circuit_of}
use Rattle.circuit_laws.specs.reset_laws.Reset.{powers}
use Rattle.cbf_unfold.specs.shift_variables.Sequences.{bits_at}
use Rattle.reset_form.proofs.witness.witness_of.Goals as goal

powers_as : (c : Circuit ℕ) (base : ℕ) (places : List (ℕ × ℕ)) (read vars : List ℕ) (taken bits : List Bool) → read ≡ vars → taken ≡ bits → powers c base (bits_at places read taken) ≡ powers c base (bits_at places vars bits)
powers_as c base places read vars taken bits e f = ap (λ (l : List ℕ). powers c base (bits_at places l taken)) e ∙ ap (λ (l : List Bool). powers c base (bits_at places vars l)) f

pub returns : goal.returns
returns c =
    let s = c.args.setup.now in
    let places = c.args.functions.now.places in
    let vars = c.as_slice-vars in
    let bits = c.as_slice-bits in
    record {
      sequence = c.in_ok-witness.ensures;
      left_power_is = c.in_ok-left_power.ensures ∙ powers_as (circuit_of s.left.now) c.args.bases.left places vars.result.now c.args.query.now.vars bits.result.now c.args.bits.now vars.ensures bits.ensures;
      right_power_is = c.in_ok-right_power.ensures ∙ powers_as (circuit_of s.right.now) c.args.bases.right places vars.result.now c.args.query.now.vars bits.result.now c.args.bits.now vars.ensures bits.ensures;
    }
