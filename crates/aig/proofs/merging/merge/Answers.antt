-- One number goes behind, or one that both lists have, and at the end what is left of one list.
use Rattle.std.proofs.Common.{◌≡◌, ◌≤◌, ◌∙◌, ℕ, List, [], ◌∷◌, ◌++◌, length, length-drop, take, drop, get_or, sym, ap, subst, arith, inl, inr, ◌+◌, ◌-◌, ◌<◌}
use Rattle.aig.specs.Merged.{IsMergeBy}
use Rattle.aig.proofs.MergeLists.{Rest, rest_less, rest_equal, rest_greater, rest_done}
use Rattle.std.proofs.lemmas.List.{take_all}
use Rattle.std.proofs.lemmas.Option.{slice_get-get_or}
use Rattle.aig.proofs.merging.merge.Goals as goal
use Rattle.aig.proofs.merging.merge.Goals.{then-loop-i-test+else-j-right, else-loop-i-test, in-Less, in-Equal, in-Greater}

-- what is left from a place on
rest_from : (xs : List ℕ) (i : ℕ) → take (length xs - i) (drop i xs) ≡ drop i xs
rest_from xs i = take_all (length xs - i) (drop i xs) (omega (arith, length-drop i xs))

-- two places, one or both of which go on
left_on : (i j : ℕ) → i + j < (i + 1) + j
left_on i j = omega arith

right_on : (i j : ℕ) → i + j < i + (j + 1)
right_on i j = omega arith

both_on : (i j : ℕ) → i + j < (i + 1) + (j + 1)
both_on i j = omega arith

next_in : (i n : ℕ) → i < n → i + 1 ≤ n
next_in i n h = omega arith

pub loop-i-preserved : goal.loop-i-preserved
loop-i-preserved g c =
    let left = c.args.left.now in
    let right = c.args.right.now in
    let i = c.loop-i.i in
    let j = c.loop-i.j in
    let u = slice_get-get_or left i 0 c.loop-i-test.true in
    let v = slice_get-get_or right j 0 c.if-j-right.true in
    let rest = c.loop-i.invariant.rest in
    let GoesOn : ℕ × ℕ × ℕ → Type 0 = λ n. (n.1 ≤ length left) × (n.2 ≤ length right) × Rest (g.T.OrderedVariables.before c.args.variables.now) left right n.1 n.2 (c.loop-i.merged.items ++ n.0 ∷ []) in
    let on : GoesOn c.match-order_of.next = elim c.match-order_of.branch [
      | in-Less w ↦ subst GoesOn (sym w.next-is) (next_in i (length left) c.loop-i-test.true, c.loop-i.invariant.right_in, rest_less (g.T.OrderedVariables.before c.args.variables.now) c.requires.goes_on left right c.requires.left.ordered c.requires.right.ordered i j (get_or left i 0) (get_or right j 0) c.loop-i.merged.items u v w.in-Less.ensures rest)
      | in-Equal w ↦ subst GoesOn (sym w.next-is) (next_in i (length left) c.loop-i-test.true, next_in j (length right) c.if-j-right.true, rest_equal (g.T.OrderedVariables.before c.args.variables.now) c.requires.goes_on left right c.requires.left.ordered c.requires.right.ordered i j (get_or left i 0) (get_or right j 0) c.loop-i.merged.items u v w.in-Equal.ensures rest)
      | in-Greater w ↦ subst GoesOn (sym w.next-is) (c.loop-i.invariant.left_in, next_in j (length right) c.if-j-right.true, rest_greater (g.T.OrderedVariables.before c.args.variables.now) c.requires.goes_on left right c.requires.left.ordered c.requires.right.ordered i j (get_or left i 0) (get_or right j 0) c.loop-i.merged.items u v w.in-Greater.ensures rest)
    ] in
    record {
      left_in = on.0;
      right_in = on.1;
      rest = subst (Rest (g.T.OrderedVariables.before c.args.variables.now) left right c.match-order_of.next.1 c.match-order_of.next.2) (sym {A = List ℕ} c.in_ok-push.ensures.items) on.2;
    }

pub returns : goal.returns
returns g c =
    let left = c.args.left.now in
    let right = c.args.right.now in
    let i = c.loop-i.i in
    let j = c.loop-i.j in
    let all : c.from_vec.result ≡ (c.loop-i.merged.items ++ drop i left) ++ drop j right =
    c.from_vec.ensures
    ∙ (c.in_ok-extend_from_slice-2.ensures.items
    ∙ (ap (λ (xs : List ℕ). c.extend_from_slice.new.self.items ++ xs) (rest_from right j)
    ∙ ap (λ (xs : List ℕ). xs ++ drop j right) (c.in_ok-extend_from_slice.ensures.items ∙ ap (λ (xs : List ℕ). c.loop-i.merged.items ++ xs) (rest_from left i)))) in
    subst (IsMergeBy (g.T.OrderedVariables.before c.args.variables.now) left right) (sym all)
    (rest_done (g.T.OrderedVariables.before c.args.variables.now) c.requires.goes_on left right c.requires.left.ordered c.requires.right.ordered i j c.loop-i.merged.items
    (elim c.loop-i-test.branch [ then-loop-i-test+else-j-right w ↦ inr w.if-j-right.false | else-loop-i-test w ↦ inl w.loop-i-test.false ])
    c.loop-i.invariant.rest)

pub order_of-requires-clause-left : goal.order_of-requires-clause-left
order_of-requires-clause-left g c = c.requires.left.within c.loop-i.i 0 c.loop-i-test.true

pub order_of-requires-clause-right : goal.order_of-requires-clause-right
order_of-requires-clause-right g c = c.requires.right.within c.loop-i.j 0 c.if-j-right.true

pub loop-i-smaller : goal.loop-i-smaller
loop-i-smaller g c =
    let i = c.loop-i.i in
    let j = c.loop-i.j in
    let GoesOn : ℕ × ℕ × ℕ → Type 0 = λ n. i + j < n.1 + n.2 in
    let on : GoesOn c.match-order_of.next = elim c.match-order_of.branch [
      | in-Less w ↦ subst GoesOn (sym w.next-is) (left_on i j)
      | in-Equal w ↦ subst GoesOn (sym w.next-is) (both_on i j)
      | in-Greater w ↦ subst GoesOn (sym w.next-is) (right_on i j)
    ] in
    omega (arith, on, c.loop-i-test.true, c.if-j-right.true)

pub loop-i-init : goal.loop-i-init
loop-i-init g c = record { left_in = omega arith; right_in = omega arith; rest = subst (Rest (g.T.OrderedVariables.before c.args.variables.now) c.args.left.now c.args.right.now 0 0) (sym c.new-merged.ensures.items) (λ more h. h) }

pub overflow_add-next-in-Equal : goal.overflow_add-next-in-Equal
overflow_add-next-in-Equal g c = omega (arith, c.loop-i-test.true)

pub overflow_add-next-in-Equal-2 : goal.overflow_add-next-in-Equal-2
overflow_add-next-in-Equal-2 g c = omega (arith, c.if-j-right.true)

pub overflow_add-next : goal.overflow_add-next
overflow_add-next g c = omega (arith, c.loop-i-test.true)

pub overflow_add-next-in-Greater : goal.overflow_add-next-in-Greater
overflow_add-next-in-Greater g c = omega (arith, c.if-j-right.true)

pub offset_bounds-left-i-in-Equal : goal.offset_bounds-left-i-in-Equal
offset_bounds-left-i-in-Equal g c = omega (arith, c.loop-i-test.true)

pub offset_bounds-left-i-in-Less : goal.offset_bounds-left-i-in-Less
offset_bounds-left-i-in-Less g c = omega (arith, c.loop-i-test.true)

pub offset_bounds-right-j-in-Greater : goal.offset_bounds-right-j-in-Greater
offset_bounds-right-j-in-Greater g c = omega (arith, c.if-j-right.true)

pub offset_bounds-right-j-2 : goal.offset_bounds-right-j-2
offset_bounds-right-j-2 g c = omega (arith, c.loop-i.invariant.right_in)

pub bounds-right-j-in-Greater : goal.bounds-right-j-in-Greater
bounds-right-j-in-Greater g c = c.if-j-right.true

pub bounds-right-j : goal.bounds-right-j
bounds-right-j g c = c.if-j-right.true

pub bounds-left-i : goal.bounds-left-i
bounds-left-i g c = c.loop-i-test.true

pub slice_bounds-extend_from_slice-count-2 : goal.slice_bounds-extend_from_slice-count-2
slice_bounds-extend_from_slice-count-2 g c = omega (arith, c.loop-i.invariant.right_in)

pub slice_bounds-extend_from_slice-start-2 : goal.slice_bounds-extend_from_slice-start-2
slice_bounds-extend_from_slice-start-2 g c = omega (arith, c.loop-i.invariant.right_in)
