-- One input more.
use Rattle.std.proofs.Common.{◌≡◌, ◌∙◌, ◌+◌, ◌<◌, ℕ, List, [], ◌∷◌, ◌++◌, map, length, take, get_or, slice_get, Some, sym, ap}
use Rattle.std.proofs.lemmas.List.{map-append, take_all}
use Rattle.std.proofs.lemmas.Option.{slice_get-get_or}
use Rattle.circuit_theory.specs.Query.{Variable}
use Rattle.cbf_unfold.specs.shift_variables.Variables.{variable_of}
use Rattle.cbf_unfold.proofs.shift_variables.Assignments.{take_next}
use Rattle.cbf_unfold.proofs.shift_variables.Reading.{pair_is}
use Rattle.cbf_unfold.proofs.shift_variables.rows.inputs_of.Goals as goal

abbrev inputs : List (ℕ × ℕ) → List ℕ → List ℕ
inputs places vars = map (λ v. (variable_of places v).input) vars

one_more : (places : List (ℕ × ℕ)) (vars made more : List ℕ) (i d : ℕ) (p : ℕ × ℕ) → i < length vars → slice_get places (get_or vars i d) ≡ Some p → made ≡ inputs places (take i vars) → more ≡ made ++ p.0 ∷ [] → more ≡ inputs places (take (i + 1) vars)
one_more places vars made more i d p inside at before is =
    is
    ∙ (ap (λ (l : List ℕ). l ++ p.0 ∷ []) before
    ∙ (ap (λ n. inputs places (take i vars) ++ n ∷ []) (sym (ap (λ (x : Variable ℕ). x.input) (pair_is places (get_or vars i d) p at)))
    ∙ (sym (map-append (λ v. (variable_of places v).input) (take i vars) (get_or vars i d ∷ []))
    ∙ ap (inputs places) (sym (take_next vars i (get_or vars i d) (slice_get-get_or vars i d inside))))))

pub loop-v-preserved : goal.loop-v-preserved
loop-v-preserved c =
    one_more c.args.places.now c.args.vars.now c.loop-v.inputs.items c.push.new.self.items c.loop-v.v-index _ c.pair-input.result c.loop-v-test.true c.pair-input.ensures c.loop-v.invariant c.in_ok-push.ensures.items

pub returns : goal.returns
returns c = c.loop-v.invariant ∙ ap (inputs c.args.places.now) (take_all c.loop-v.v-index c.args.vars.now c.loop-v-test.false)
