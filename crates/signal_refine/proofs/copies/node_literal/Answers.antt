-- By what the node is.
use Rattle.std.proofs.Common.{◌≡◌, ◌∙◌, ◌*◌, ◌<◌, ℕ, Bool, length, sym, ap, subst, arith}
use Rattle.std.specs.Prelude.{◌&&◌}
use Rattle.aig.specs.declared.node.Lit.{Lit}
use Rattle.aig.specs.Values.{value}
use Rattle.aig.specs.declared.node.Node.{Node}
use Rattle.aig.proofs.CoverMeaning.{value-zero}
use Rattle.signal_refine.specs.Copies.{HaveAt, node_at}
use Rattle.signal_refine.proofs.Results.{ok_map}
use Rattle.signal_refine.proofs.copies.node_literal.Goals as goal
use Rattle.std.specs.List.{All}
use Rattle.std.proofs.Common.{List}

pub and-requires-clause-left : goal.and-requires-clause-left
and-requires-clause-left c = c.read_literal.ensures.within (length c.args.aig.now) c.requires.within

pub and-requires-clause-right : goal.and-requires-clause-right
and-requires-clause-right c = c.read_literal-in-And.ensures.within (length c.args.aig.now) c.requires.within

pub returns-in-Constant-clause-value : goal.returns-in-Constant-clause-value
returns-in-Constant-clause-value c = λ a k leaves read. value-zero c.args.aig.now c.keeps.ensures.graph a ∙ sym (c.in-Constant.ensures.value k)

pub returns-in-Input-clause-value : goal.returns-in-Input-clause-value
returns-in-Input-clause-value c =
    ok_map (λ (x : Lit). (g : List Node) (a k : ℕ → Bool) → HaveAt k g a c.args.leaves.now → value g a x.0 ≡ k c.in-Input.v)
    (λ (x : Lit). (a k : ℕ → Bool) → HaveAt k c.args.aig.now a c.args.leaves.now → HaveAt (node_at c.args.base.now k) c.args.aig.now a c.args.read.now → value c.args.aig.now a x.0 ≡ node_at c.args.base.now k c.args.n) c.leaf_at.result
    (λ x is a k leaves read. is c.args.aig.now a k leaves ∙ sym (c.in-Input.ensures.value k)) c.leaf_at.ensures.value

pub returns-in-Input-clause-within : goal.returns-in-Input-clause-within
returns-in-Input-clause-within c =
    ok_map (λ (x : Lit). (n : ℕ) → All (λ y. y.0 < 2 * n) c.args.leaves.now → x.0 < 2 * n) (λ (x : Lit). x.0 < 2 * length c.args.aig.now) c.leaf_at.result (λ x is. is (length c.args.aig.now) c.requires.leaves) c.leaf_at.ensures.within

pub returns-in-And-clause-value : goal.returns-in-And-clause-value
returns-in-And-clause-value c =
    let g = c.args.aig.now in
    ok_map (λ (x : Lit). (a : ℕ → Bool) → value c.and.new.self a x.0 ≡ (value g a c.read_literal.result.0 && value g a c.read_literal-in-And.result.0))
    (λ (x : Lit). (a k : ℕ → Bool) → HaveAt k g a c.args.leaves.now → HaveAt (node_at c.args.base.now k) g a c.args.read.now → value c.and.new.self a x.0 ≡ node_at c.args.base.now k c.args.n) c.and.result
    (λ x is a k leaves read.
    is a
    ∙ (ap (λ (b : Bool). b && value g a c.read_literal-in-And.result.0) (c.read_literal.ensures.value c.args.base.now g a k read)
    ∙ (ap (λ (b : Bool). value c.args.base.now k c.in-And.l.0 && b) (c.read_literal-in-And.ensures.value c.args.base.now g a k read) ∙ sym (c.in-And.ensures.value k))))
    c.and.ensures.value
