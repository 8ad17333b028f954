-- One function's variables more.
use Rattle.std.proofs.Common.{◌≡◌, ◌∙◌, ◌++◌, ◌∷◌, [], ℕ, List, take, get_or, sym, ap, append_assoc}
use Rattle.std.proofs.lemmas.List.{append-nil, take_more, take_all}
use Rattle.std.proofs.lemmas.Option.{get_or_from_slice_get}
use Rattle.cbf_unfold.specs.declared.unfold_places.signal_function.Unfolded.{Unfolded}
use Rattle.obligations.proofs.Listed.{item-at}
use Rattle.assume_queries.specs.Parts.{function_at, variables_at}
use Rattle.assume_queries.proofs.parts.variables.Goals as goal

variables_push : (functions : List Unfolded) (own : List ℕ) (n : ℕ) → variables_at functions (own ++ n ∷ []) ≡ variables_at functions own ++ (function_at functions n).vars
variables_push functions [] n = append-nil (function_at functions n).vars
variables_push functions (m ∷ own) n =
    ap (λ (vs : List ℕ). (function_at functions m).vars ++ vs) (variables_push functions own n) ∙ sym (append_assoc (function_at functions m).vars (variables_at functions own) (function_at functions n).vars)

pub loop-n-preserved : goal.loop-n-preserved
loop-n-preserved c =
    let functions = c.args.functions.now in
    let own = c.args.own.now in
    let i = c.loop-n.n-index in
    let n = get_or own i 0 in
    let u : Unfolded = c.index-functions-n.result in
    let here : function_at functions n ≡ u = get_or_from_slice_get functions n u (record { lit = record { 0 = 0 }; vars = [] }) (item-at functions n u (c.requires i 0 c.loop-n-test.true) c.index-functions-n.is) in
    c.in_ok-extend_from_slice.ensures.items
    ∙ (ap (λ (vs : List ℕ). c.loop-n.vars.items ++ vs) (c.as_slice.ensures ∙ ap (λ (w : Unfolded). w.vars) (sym here))
    ∙ (ap (λ (vs : List ℕ). vs ++ (function_at functions n).vars) c.loop-n.invariant ∙ (sym (variables_push functions (take i own) n) ∙ ap (variables_at functions) (sym (take_more own i 0 c.loop-n-test.true)))))

pub returns : goal.returns
returns c = c.loop-n.invariant ∙ ap (variables_at c.args.functions.now) (take_all c.loop-n.n-index c.args.own.now c.loop-n-test.false)
