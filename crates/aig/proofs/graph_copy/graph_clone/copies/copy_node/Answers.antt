-- A twin of each kind of node.
use Rattle.std.proofs.Common.{◌≡◌, ℕ, ◌*◌, ◌/◌, ◌<◌, List, length, slice_get, Some, ap, ◌∙◌, sym, subst, arith}
use Rattle.std.proofs.lemmas.Option.{slice_get_within, same_Some}
use Rattle.aig.specs.declared.node.Lit.{Lit}
use Rattle.aig.specs.declared.node.Node.{Node}
use Rattle.aig.specs.declared.node.Node.TheVariants.{Constant, Input}
use Rattle.aig.specs.graph_copy.graph_clone.Twins.{IsTwinOf, AreTwins, twin_in}
use Rattle.aig.proofs.graph_copy.graph_clone.Twins.{twins_push, twins_grow, twin_zero, twin_input, twin_and, twin_there}
use Rattle.aig.proofs.graph_copy.graph_clone.copies.copy_node.Goals as goal

pub returns-in-Constant-clause-twins : goal.returns-in-Constant-clause-twins
returns-in-Constant-clause-twins c =
    twins_push c.args.own.now c.args.aig.now c.args.lits.now c.args.n (record { 0 = 0 }) c.requires.each c.requires.twins
    (twin_zero c.args.own.now c.args.aig.now c.keeps-2.ensures.graph c.args.n c.in-Constant.ensures.value (slice_get_within c.args.aig.now 0 Constant c.keeps-2.ensures.graph.constant))

pub returns-in_ok-made-in-Input-clause-twins : goal.returns-in_ok-made-in-Input-clause-twins
returns-in_ok-made-in-Input-clause-twins c =
    let v = c.in-Input.v in
    let h = c.input.new.self in
    let graph = c.keeps-in-Input.ensures.graph in
    twins_push c.args.own.now h c.args.lits.now c.args.n c.in_ok-made-in-Input.made c.requires.each
    (twins_grow c.args.own.now c.args.aig.now h graph c.input.ensures.grows c.args.lits.now c.requires.twins)
    (twin_input c.args.own.now h graph c.args.n v c.in_ok-made-in-Input.made.0 c.in-Input.ensures.node c.in-Input.ensures.value
    c.in_ok-made-in-Input.ensures.here c.in_ok-made-in-Input.ensures.within c.in_ok-made-in-Input.ensures.value)

not_first : (own : List Node) (n v : ℕ) → slice_get own 0 ≡ Some Constant → slice_get own n ≡ Some (Input v) → n ≡ 0 → ⊥
not_first own n v constant at e =
    let same : Constant ≡ Input v = same_Some Constant (Input v) (sym constant ∙ ap (slice_get own) (sym e) ∙ at) in
    cc

pub returns-in_ok-made-in-Input-clause-first : goal.returns-in_ok-made-in-Input-clause-first
returns-in_ok-made-in-Input-clause-first c = λ e. absurd (not_first c.args.own.now c.args.n c.in-Input.v c.keeps.ensures.graph.constant c.in-Input.ensures.node e)

-- the literal that was found is a twin
found : (own g : List Node) (lits : List Lit) (x made : Lit) → AreTwins own g lits → x.0 / 2 < length lits → made ≡ twin_in lits x → IsTwinOf own g x.0 made.0
found own g lits x made are inside is = subst (λ (y : Lit). IsTwinOf own g x.0 y.0) (sym is) (twin_there own g lits x are inside)

low : (n x : ℕ) (lits : List Lit) → x < 2 * n → length lits ≡ n → x / 2 < length lits
low n x lits below each = let half : x / 2 < n = omega (arith, below) in omega (arith, half, each)

low_left : (n x y : ℕ) (lits : List Lit) → x < y → y < 2 * n → length lits ≡ n → x / 2 < length lits
low_left n x y lits under below each = low n x lits (omega (arith, under, below)) each

pub and-requires-clause-left : goal.and-requires-clause-left
and-requires-clause-left c =
    (found c.args.own.now c.args.aig.now c.args.lits.now c.in-And.l c.literal_for.result c.requires.twins (low_left c.args.n c.in-And.l.0 c.in-And.r.0 c.args.lits.now c.in-And.ensures.above.0 c.in-And.ensures.above.1 c.requires.each) c.literal_for.ensures).within

pub and-requires-clause-right : goal.and-requires-clause-right
and-requires-clause-right c =
    (found c.args.own.now c.args.aig.now c.args.lits.now c.in-And.r c.literal_for-in-And.result c.requires.twins (low c.args.n c.in-And.r.0 c.args.lits.now c.in-And.ensures.above.1 c.requires.each) c.literal_for-in-And.ensures).within

pub returns-in_ok-made-in-And-clause-twins : goal.returns-in_ok-made-in-And-clause-twins
returns-in_ok-made-in-And-clause-twins c =
    let own = c.args.own.now in
    let g = c.args.aig.now in
    let h = c.and.new.self in
    let lits = c.args.lits.now in
    let graph = c.keeps-in-And.ensures.graph in
    let left = found own g lits c.in-And.l c.literal_for.result c.requires.twins (low_left c.args.n c.in-And.l.0 c.in-And.r.0 lits c.in-And.ensures.above.0 c.in-And.ensures.above.1 c.requires.each) c.literal_for.ensures in
    let right = found own g lits c.in-And.r c.literal_for-in-And.result c.requires.twins (low c.args.n c.in-And.r.0 lits c.in-And.ensures.above.1 c.requires.each) c.literal_for-in-And.ensures in
    let made = c.in_ok-made-in-And.made in
    twins_push own h lits c.args.n made c.requires.each
    (twins_grow own g h graph c.and.ensures.grows lits c.requires.twins)
    (twin_and own g h graph c.and.ensures.grows c.args.n c.in-And.l c.in-And.r c.literal_for.result.0 c.literal_for-in-And.result.0 made.0 c.in-And.ensures.node c.in-And.ensures.value left right
    c.in_ok-made-in-And.ensures.here c.in_ok-made-in-And.ensures.within c.in_ok-made-in-And.ensures.value)
