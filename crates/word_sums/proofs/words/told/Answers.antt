-- The copies have the values of the words, also in the graph that has grown.
use Rattle.std.proofs.Common.{◌≡◌, ℕ, Bool, sym, ◌∙◌}
use Rattle.aig.specs.Values.{value}
use Rattle.aig.specs.graph_copy.graph_clone.Twins.{AreTwins}
use Rattle.aig.proofs.graph_copy.graph_clone.Twins.{twins_grow}
use Rattle.word_sums.specs.Sums.{word_bits}
use Rattle.word_sums.proofs.TwinWords.{bits-at, copied-within, copied-bits, if-none}
use Rattle.word_sums.proofs.words.told.Goals as goal

pub left_over-requires-clause-left : goal.left_over-requires-clause-left
left_over-requires-clause-left c =
    let h = c.rules_of.new.graph in
    let lits = c.in_ok-copy.copy.lits.items in
    copied-within c.args.graph.now h lits (twins_grow c.args.graph.now c.in_ok-copy.copy.aig h c.keeps.ensures.graph c.rules_of.ensures lits c.in_ok-copy.ensures.twins) c.in_ok-copy.ensures.each c.as_slice.result.now c.args.left.now
    c.in_ok-own_left.own_left.items c.as_slice-5.result.now c.as_slice.ensures.value c.in_ok-own_left.ensures c.as_slice-5.ensures.value c.requires.left

pub left_over-requires-clause-right : goal.left_over-requires-clause-right
left_over-requires-clause-right c =
    let h = c.rules_of.new.graph in
    let lits = c.in_ok-copy.copy.lits.items in
    copied-within c.args.graph.now h lits (twins_grow c.args.graph.now c.in_ok-copy.copy.aig h c.keeps.ensures.graph c.rules_of.ensures lits c.in_ok-copy.ensures.twins) c.in_ok-copy.ensures.each c.as_slice-2.result.now c.args.right.now
    c.in_ok-own_right.own_right.items c.as_slice-6.result.now c.as_slice-2.ensures.value c.in_ok-own_right.ensures c.as_slice-6.ensures.value c.requires.right

pub returns-in-None : goal.returns-in-None
returns-in-None c =
    let own = c.args.graph.now in
    let h = c.rules_of.new.graph in
    let lits = c.in_ok-copy.copy.lits.items in
    let are : AreTwins own h lits = twins_grow own c.in_ok-copy.copy.aig h c.keeps.ensures.graph c.rules_of.ensures lits c.in_ok-copy.ensures.twins in
    let left : (a : ℕ → Bool) → word_bits (value h a) c.as_slice-5.result.now ≡ word_bits (value own a) c.args.left.now =
    copied-bits own h lits are c.in_ok-copy.ensures.each c.as_slice.result.now c.args.left.now c.in_ok-own_left.own_left.items c.as_slice-5.result.now c.as_slice.ensures.value c.in_ok-own_left.ensures c.as_slice-5.ensures.value c.requires.left in
    let right : (a : ℕ → Bool) → word_bits (value h a) c.as_slice-6.result.now ≡ word_bits (value own a) c.args.right.now =
    copied-bits own h lits are c.in_ok-copy.ensures.each c.as_slice-2.result.now c.args.right.now c.in_ok-own_right.own_right.items c.as_slice-6.result.now c.as_slice-2.ensures.value c.in_ok-own_right.ensures c.as_slice-6.ensures.value c.requires.right in
    λ i x y at also a.
    bits-at (value own a) c.args.left.now c.args.right.now (sym (left a) ∙ if-none c.in_ok-rest.rest _ c.in-None.is c.in_ok-rest.ensures a ∙ right a) i x y at also
