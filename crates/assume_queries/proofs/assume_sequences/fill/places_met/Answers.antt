-- One variable's place more is marked.
use Rattle.std.proofs.Common.{◌≡◌, ◌∙◌, ◌==◌, ℕ, Bool, false, List, [], ◌∷◌, length, take, get_or, replicate, sym, ap, arith}
use Rattle.std.specs.Prelude.{◌||◌}
use Rattle.std.specs.List.{list_any}
use Rattle.std.proofs.lemmas.List.{map-append, take_more, take_all, length-replicate, get_or-replicate}
use Rattle.circuit_theory.specs.Query.{Variable, same_shift}
use Rattle.cbf_unfold.specs.shift_variables.Variables.{variable_of, variables_of}
use Rattle.cbf_unfold.proofs.shift_variables.Reading.{pair_is}
use Rattle.assume_queries.specs.assume_sequences.Filled.{has_place}
use Rattle.assume_queries.proofs.assume_sequences.FilledRows.{any_push}
use Rattle.assume_queries.proofs.assume_sequences.fill.places_met.Goals as goal

pub loop-v-init : goal.loop-v-init
loop-v-init c =
    let zeros : c.in_ok-met.met.items ≡ replicate c.args.size false = c.in_ok-met.ensures.items_if_clones_equal (λ y e. e) in
    record {
      long = ap length zeros ∙ length-replicate c.args.size false;
      met = λ k h. ap (λ (bs : List Bool). get_or bs k false) zeros ∙ get_or-replicate c.args.size k false false h;
    }

pub loop-v-preserved : goal.loop-v-preserved
loop-v-preserved c =
    let table = c.args.table.now in
    let vars = c.args.vars.now in
    let i = c.loop-v.v-index in
    let v = get_or vars i 0 in
    let place : (variable_of table v).at ≡ c.pair-place.result.1 = ap (λ (x : Variable ℕ). x.at) (pair_is table v c.pair-place.result c.pair-place.ensures) in
    record {
      long = c.mark.ensures.size ∙ c.loop-v.invariant.long;
      met = λ k h.
          c.mark.ensures.marked k (omega (arith, h, c.loop-v.invariant.long))
          ∙ (ap (λ b. b || (c.pair-place.result.1 == k)) (c.loop-v.invariant.met k h)
          ∙ (ap (λ p. has_place table (take i vars) k || (p == k)) (sym place)
          ∙ (sym (any_push (λ (x : Variable ℕ). same_shift x.at k) (variables_of table (take i vars)) (variable_of table v))
          ∙ ap (list_any (λ (x : Variable ℕ). same_shift x.at k)) (sym (map-append (variable_of table) (take i vars) (v ∷ [])) ∙ ap (variables_of table) (sym (take_more vars i 0 c.loop-v-test.true))))));
    }

pub returns-clause-met : goal.returns-clause-met
returns-clause-met c = λ k h. c.loop-v.invariant.met k h ∙ ap (λ (vs : List ℕ). has_place c.args.table.now vs k) (take_all c.loop-v.v-index c.args.vars.now c.loop-v-test.false)
