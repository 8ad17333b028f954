-- The output is the circuit's only one.
use Rattle.std.proofs.Common.{◌≡◌, [], ◌∷◌, get_or, refl, ◌∙◌, ap, subst, Err}
use Rattle.circuit_theory.specs.Sizes.{IsWeight, IsOver}
use Rattle.sec_base.specs.declared.limits.TheConstants.{MAX_WEIGHT}
use Rattle.flat_net.specs.declared.parts.Port.{Port}
use Rattle.flat_net.specs.View.{circuit_of}
use Rattle.signal_graph.specs.unfolding_weight.Weight.{Weighs}
use Rattle.assume_queries.specs.assume_functions.Functions.{IsOwnFunction}
use Rattle.assume_queries.specs.assume_sequences.assume_taken.Functions.{HasFunction}
use Rattle.assume_queries.specs.assume_sequences.assume_taken.Refusals.{refusal_of}
use Rattle.assume_queries.proofs.assume_sequences.assume_taken.Refused.{refused_by, function_refused}
use Rattle.assume_queries.proofs.assume_sequences.assume_taken.Taking.{only_output}
use Rattle.assume_queries.proofs.assume_sequences.assume_taken.taken.function_of.Goals as goal

pub returns-in_default : goal.returns-in_default
returns-in_default c =
    let n = c.args.c.now in
    let p = get_or c.outputs.result.now 0 c.index-outputs-0.result in
    let same : p.signal.0 ≡ c.requires.shape.output.signal.0 = ap (λ (q : Port). q.signal.0) (only_output c.outputs.result.now c.requires.shape.output c.index-outputs-0.result (c.outputs.ensures ∙ c.requires.shape.outputs)) in
    let over = subst (Weighs (circuit_of n) (p.signal.0 ∷ []) MAX_WEIGHT) c.in_default.is c.in_ok-weight.ensures in
    (c.requires.shape, subst (λ s. IsOver (circuit_of n) (s ∷ []) MAX_WEIGHT) same over)

pub returns-in_err-own : goal.returns-in_err-own
returns-in_err-own c =
    let n = c.args.c.now in
    let p = get_or c.outputs.result.now 0 c.index-outputs-0.result in
    let same : p.signal.0 ≡ c.requires.shape.output.signal.0 = ap (λ (q : Port). q.signal.0) (only_output c.outputs.result.now c.requires.shape.output c.index-outputs-0.result (c.outputs.ensures ∙ c.requires.shape.outputs)) in
    refused_by (HasFunction c.args.names.now n) c.from_residual-in_err-own.result (refusal_of c.in_err-own.field-0.0) c.from_residual-in_err-own.ensures.1
    (function_refused c.args.names.now n c.requires.shape c.in_err-own.field-0.0 (λ e. subst (λ s. IsOver (circuit_of n) (s ∷ []) MAX_WEIGHT) same (c.in_err-own.ensures.over (ap Err e))))

pub returns : goal.returns
returns c =
    let n = c.args.c.now in
    let p = get_or c.outputs.result.now 0 c.index-outputs-0.result in
    let same : p.signal.0 ≡ c.requires.shape.output.signal.0 = ap (λ (q : Port). q.signal.0) (only_output c.outputs.result.now c.requires.shape.output c.index-outputs-0.result (c.outputs.ensures ∙ c.requires.shape.outputs)) in
    let weighs = subst (Weighs (circuit_of n) (p.signal.0 ∷ []) MAX_WEIGHT) c.in-Within.is c.in_ok-weight.ensures in
    record {
      assumed = record {
        sound = c.keeps.ensures.sound;
        shape = c.requires.shape;
        order = c.in_ok-order.order;
        others = c.in_ok-order.ensures.numbers.0;
        numbers = c.in_ok-order.ensures.numbers.1;
        weight = c.in-Within.weight;
        weighs = subst (λ s. IsWeight (circuit_of n) (s ∷ []) c.in-Within.weight) same weighs.0;
        light = weighs.1;
      };
      function = subst (λ s. IsOwnFunction n c.in_ok-order.order s c.in_ok-own.own) same c.in_ok-own.ensures.own;
      weight_is = refl;
    }
