-- One function's literal more.
use Rattle.std.proofs.Common.{◌≡◌, ◌∙◌, ◌++◌, ◌∷◌, [], List, take, get_or, sym, ap}
use Rattle.std.proofs.lemmas.List.{map-append, take_more, take_all}
use Rattle.std.proofs.lemmas.Option.{get_or_from_slice_get}
use Rattle.aig.specs.declared.node.Lit.{Lit}
use Rattle.cbf_unfold.specs.declared.unfold_places.signal_function.Unfolded.{Unfolded}
use Rattle.obligations.proofs.Listed.{item-at}
use Rattle.assume_queries.specs.Parts.{function_at, literals_at}
use Rattle.assume_queries.proofs.parts.literals.Goals as goal

pub loop-n-preserved : goal.loop-n-preserved
loop-n-preserved c =
    let functions = c.args.functions.now in
    let own = c.args.own.now in
    let i = c.loop-n.n-index in
    let n = get_or own i 0 in
    let u : Unfolded = c.index-functions-n.result in
    let here : function_at functions n ≡ u = get_or_from_slice_get functions n u (record { lit = record { 0 = 0 }; vars = [] }) (item-at functions n u (c.requires i 0 c.loop-n-test.true) c.index-functions-n.is) in
    c.in_ok-push.ensures.items
    ∙ (ap (λ (ls : List Lit). ls ++ u.lit ∷ []) c.loop-n.invariant
    ∙ (ap (λ (w : Unfolded). literals_at functions (take i own) ++ w.lit ∷ []) (sym here)
    ∙ (sym (map-append (λ m. (function_at functions m).lit) (take i own) (n ∷ [])) ∙ ap (literals_at functions) (sym (take_more own i 0 c.loop-n-test.true)))))

pub returns : goal.returns
returns c = c.loop-n.invariant ∙ ap (literals_at c.args.functions.now) (take_all c.loop-n.n-index c.args.own.now c.loop-n-test.false)
