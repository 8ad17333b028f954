-- Words of the new graph have the values of the words that they stand for.
use Rattle.std.proofs.Common.{◌≡◌, ◌∙◌, ℕ, ◌*◌, ◌<◌, List, length, get_or, slice_get, Some, sym, subst, arith}
use Rattle.std.proofs.lemmas.Option.{slice_get-get_or, slice_get_within}
use Rattle.aig.specs.declared.node.Lit.{Lit}
use Rattle.obligations.specs.outcome.aig.Node.{Node}
use Rattle.swept_queries.specs.node_agreement.Standing.{AreStandIns}
use Rattle.word_sums.specs.Words.{AgreeEach, IsTold}
use Rattle.obligations.specs.Agreed.{StandForEach}
use Rattle.obligations.proofs.carries.same_by_carries.Goals as goal

-- its literals are of the graph
within-each : (g h : List Node) (xs ys : List Lit) → StandForEach g h xs ys → (k : ℕ) (d : Lit) → k < length ys → (get_or ys k d).0 < 2 * length h
within-each g h xs ys stand k d inside =
    (stand.stand k (get_or xs k d) (get_or ys k d) (slice_get-get_or xs k d (omega (arith, inside, stand.each))) (slice_get-get_or ys k d inside)).within

-- the same of lists that are the same
same-lists : (g h : List Node) (lits lits₂ xs ys ys₂ : List Lit) → lits₂ ≡ lits → ys₂ ≡ ys → AreStandIns g h lits → (AreStandIns g h lits₂ → StandForEach g h xs ys) → StandForEach g h xs ys₂
same-lists g h lits lits₂ xs ys ys₂ e f stand made = subst (StandForEach g h xs) (sym f) (made (subst (AreStandIns g h) (sym e) stand))

-- words agree where those agree that stand for them
agree-each : (g h : List Node) (xs us ys vs : List Lit) → StandForEach g h xs ys → StandForEach g h us vs → AgreeEach h ys vs → AgreeEach g xs us
agree-each g h xs us ys vs left right agree i x u at also a =
    let y = get_or ys i x in
    let v = get_or vs i u in
    let here : slice_get ys i ≡ Some y = slice_get-get_or ys i x (omega (arith, slice_get_within xs i x at, left.each)) in
    let there : slice_get vs i ≡ Some v = slice_get-get_or vs i u (omega (arith, slice_get_within us i u also, right.each)) in
    sym ((left.stand i x y at here).same a) ∙ agree i y v here there a ∙ (right.stand i u v also there).same a

pub same_words-requires-clause-left : goal.same_words-requires-clause-left
same_words-requires-clause-left c =
    let h = c.in_ok-remade.remade.aig in
    within-each c.args.aig.now h c.args.left.now c.as_slice-4.result.now
    (same-lists c.args.aig.now h c.in_ok-remade.remade.lits.items c.as_slice-2.result.now c.args.left.now c.in_ok-own_left.own_left.items c.as_slice-4.result.now c.as_slice-2.ensures.value c.as_slice-4.ensures.value
    c.in_ok-remade.ensures.stand (c.in_ok-own_left.ensures c.args.aig.now h))

pub same_words-requires-clause-right : goal.same_words-requires-clause-right
same_words-requires-clause-right c =
    let h = c.in_ok-remade.remade.aig in
    within-each c.args.aig.now h c.args.right.now c.as_slice-5.result.now
    (same-lists c.args.aig.now h c.in_ok-remade.remade.lits.items c.as_slice-3.result.now c.args.right.now c.in_ok-own_right.own_right.items c.as_slice-5.result.now c.as_slice-3.ensures.value c.as_slice-5.ensures.value
    c.in_ok-remade.ensures.stand (c.in_ok-own_right.ensures c.args.aig.now h))

pub returns-in-Same : goal.returns-in-Same
returns-in-Same c = λ same.
    let h = c.in_ok-remade.remade.aig in
    agree-each c.args.aig.now h c.args.left.now c.args.right.now c.as_slice-4.result.now c.as_slice-5.result.now
    (same-lists c.args.aig.now h c.in_ok-remade.remade.lits.items c.as_slice-2.result.now c.args.left.now c.in_ok-own_left.own_left.items c.as_slice-4.result.now c.as_slice-2.ensures.value c.as_slice-4.ensures.value
    c.in_ok-remade.ensures.stand (c.in_ok-own_left.ensures c.args.aig.now h))
    (same-lists c.args.aig.now h c.in_ok-remade.remade.lits.items c.as_slice-3.result.now c.args.right.now c.in_ok-own_right.own_right.items c.as_slice-5.result.now c.as_slice-3.ensures.value c.as_slice-5.ensures.value
    c.in_ok-remade.ensures.stand (c.in_ok-own_right.ensures c.args.aig.now h))
    (subst (IsTold h c.as_slice-4.result.now c.as_slice-5.result.now) c.in-Same.is c.in_ok-told.ensures)
