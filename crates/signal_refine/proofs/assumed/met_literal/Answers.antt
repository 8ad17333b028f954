-- The literal's value is that of the copy.
use Rattle.std.proofs.Common.{◌≡◌, ◌∙◌, ◌*◌, ◌<◌, ℕ, Bool, List, length, refl, sym, ap, subst, arith}
use Rattle.std.specs.List.{All}
use Rattle.aig.specs.declared.node.Lit.{Lit}
use Rattle.aig.specs.graph_copy.Copy.{renamed}
use Rattle.signal_refine.specs.Copies.{HaveAt, node_at}
use Rattle.signal_refine.proofs.Copying.{no_ties}
use Rattle.signal_refine.proofs.assumed.met_literal.Goals as goal

pub copy_of-requires : goal.copy_of-requires
copy_of-requires c = subst (All (λ (x : Lit). x.0 < 2 * length c.args.aig.now)) (sym c.deref.ensures.value) (c.in_ok-own.ensures.within (length c.args.aig.now) c.requires.leaves)

pub read_literal-requires : goal.read_literal-requires
read_literal-requires c = let e = ap length c.deref-2.ensures.value ∙ c.in_ok-copy.ensures.own_each in omega (arith, e, c.requires.lit)

pub returns-clause-value : goal.returns-clause-value
returns-clause-value c = λ a d have holds.
    let w = c.args.assumed.now in
    let graph = w.graph.now in
    let g0 = c.args.aig.now in
    let g1 = c.copy_of.new.aig in
    let bits : ℕ → Bool = renamed w.numbers.now d in
    let leaves = subst (HaveAt bits g0 a) (sym c.deref.ensures.value) (c.in_ok-own.ensures.values g0 a d have) in
    let own = c.in_ok-copy.ensures.own_values a bits leaves (no_ties _ refl (node_at graph bits)) in
    c.read_literal.ensures.value graph g1 a bits (subst (HaveAt (node_at graph bits) g1 a) (sym c.deref-2.ensures.value) own) ∙ holds

pub returns-clause-within : goal.returns-clause-within
returns-clause-within c =
    c.read_literal.ensures.within (length c.copy_of.new.aig) (subst (All (λ (x : Lit). x.0 < 2 * length c.copy_of.new.aig)) (sym c.deref-2.ensures.value) c.in_ok-copy.ensures.own_within)
