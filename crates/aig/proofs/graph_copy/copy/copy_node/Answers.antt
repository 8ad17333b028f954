-- A copy of each kind of node.
use Rattle.std.proofs.Common.{◌≡◌, ℕ, ◌<◌, List, length, get_or, slice_get, Some, ap, ◌∙◌, sym, arith}
use Rattle.std.proofs.lemmas.Option.{slice_get-get_or, slice_get_within, same_Some}
use Rattle.aig.specs.declared.node.Node.{Node}
use Rattle.aig.specs.declared.node.Node.TheVariants.{Constant, Input}
use Rattle.aig.proofs.Insert.{vars_of-member}
use Rattle.aig.proofs.graph_copy.Copies.{copies_push, copies_grow, copy_zero, copy_input, copy_and}
use Rattle.aig.proofs.graph_copy.copy.copy_node.Goals as goal

pub bounds-numbers-v : goal.bounds-numbers-v
bounds-numbers-v c = omega (arith, vars_of-member c.args.own.now c.args.n (Input c.in-Input.v) c.in-Input.ensures.node, c.requires.covers)

pub and-requires-clause-left : goal.and-requires-clause-left
and-requires-clause-left c = (c.literal_for.ensures c.args.own.now c.args.numbers.now c.args.aig.now c.requires.copies).within

pub and-requires-clause-right : goal.and-requires-clause-right
and-requires-clause-right c = (c.literal_for-in-And.ensures c.args.own.now c.args.numbers.now c.args.aig.now c.requires.copies).within

pub returns-in-Constant-clause-copies : goal.returns-in-Constant-clause-copies
returns-in-Constant-clause-copies c =
    copies_push c.args.own.now c.args.numbers.now c.args.aig.now c.args.lits.now c.args.n (record { 0 = 0 }) c.requires.each c.requires.copies
    (copy_zero c.args.own.now c.args.numbers.now c.args.aig.now c.keeps-2.ensures.graph c.args.n c.in-Constant.ensures.value (slice_get_within c.args.aig.now 0 Constant c.keeps-2.ensures.graph.constant))

pub returns-in_ok-made-in-Input-clause-copies : goal.returns-in_ok-made-in-Input-clause-copies
returns-in_ok-made-in-Input-clause-copies c =
    let numbers = c.args.numbers.now in
    let v = c.in-Input.v in
    let h = c.input.new.self in
    let graph = c.keeps-in-Input.ensures.graph in
    let inside : v < length numbers = omega (arith, vars_of-member c.args.own.now c.args.n (Input v) c.in-Input.ensures.node, c.requires.covers) in
    copies_push c.args.own.now numbers h c.args.lits.now c.args.n c.in_ok-made-in-Input.made c.requires.each
    (copies_grow c.args.own.now numbers c.args.aig.now h graph c.input.ensures.grows c.args.lits.now c.requires.copies)
    (copy_input c.args.own.now numbers h graph c.args.n v (get_or numbers v 0) c.in_ok-made-in-Input.made.0 c.in-Input.ensures.node c.in-Input.ensures.value (slice_get-get_or numbers v 0 inside)
    c.in_ok-made-in-Input.ensures.here c.in_ok-made-in-Input.ensures.within c.in_ok-made-in-Input.ensures.value)

not_first : (own : List Node) (n v : ℕ) → slice_get own 0 ≡ Some Constant → slice_get own n ≡ Some (Input v) → n ≡ 0 → ⊥
not_first own n v constant at e =
    let same : Constant ≡ Input v = same_Some Constant (Input v) (sym constant ∙ ap (slice_get own) (sym e) ∙ at) in
    cc

pub returns-in_ok-made-in-Input-clause-first : goal.returns-in_ok-made-in-Input-clause-first
returns-in_ok-made-in-Input-clause-first c = λ e. absurd (not_first c.args.own.now c.args.n c.in-Input.v c.keeps.ensures.graph.constant c.in-Input.ensures.node e)

pub returns-in_ok-made-in-And-clause-copies : goal.returns-in_ok-made-in-And-clause-copies
returns-in_ok-made-in-And-clause-copies c =
    let own = c.args.own.now in
    let numbers = c.args.numbers.now in
    let g = c.args.aig.now in
    let h = c.and.new.self in
    let graph = c.keeps-in-And.ensures.graph in
    copies_push own numbers h c.args.lits.now c.args.n c.in_ok-made-in-And.made c.requires.each
    (copies_grow own numbers g h graph c.and.ensures.grows c.args.lits.now c.requires.copies)
    (copy_and own numbers g h graph c.and.ensures.grows c.args.n c.in-And.l c.in-And.r c.literal_for.result.0 c.literal_for-in-And.result.0 c.in_ok-made-in-And.made.0 c.in-And.ensures.node c.in-And.ensures.value
    (c.literal_for.ensures own numbers g c.requires.copies) (c.literal_for-in-And.ensures own numbers g c.requires.copies)
    c.in_ok-made-in-And.ensures.here c.in_ok-made-in-And.ensures.within c.in_ok-made-in-And.ensures.value)
