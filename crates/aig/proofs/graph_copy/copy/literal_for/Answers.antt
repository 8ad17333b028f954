-- The node's literal, or its complement.
use Rattle.std.proofs.Common.{◌≡◌, ℕ, ◌/◌, ◌%◌, ◌*◌, ◌<◌, Bool, true, false, List, length, get_or, ap, ◌∙◌, sym, subst, arith, inl, inr}
use Rattle.std.proofs.lemmas.Option.{slice_get-get_or}
use Rattle.aig.specs.declared.node.Lit.{Lit}
use Rattle.aig.specs.declared.node.Node.{Node}
use Rattle.aig.specs.Graph.{flip}
use Rattle.aig.proofs.Literals.{parity}
use Rattle.aig.specs.graph_copy.Copy.{IsCopyOf, AreCopies}
use Rattle.aig.proofs.graph_copy.Copies.{copy_even, copy_odd}
use Rattle.aig.proofs.graph_copy.copy.literal_for.Goals as goal

copy_at : (own : List Node) (numbers : List ℕ) (g : List Node) (lits : List Lit) (n : ℕ) (d : Lit) → n < length lits → AreCopies own numbers g lits → IsCopyOf own numbers g (2 * n) (get_or lits n d).0
copy_at own numbers g lits n d inside are = are n (get_or lits n d) (slice_get-get_or lits n d inside)

pub returns-then-is_complement : goal.returns-then-is_complement
returns-then-is_complement c = λ own numbers g are.
    let inside : c.args.l.0 / 2 < length c.args.lits.now = omega (arith, c.requires) in
    let odd : c.args.l.0 % 2 ≡ 1 = c.is_complement.ensures.0 c.if-is_complement.true in
    let half : c.node.result ≡ c.args.l.0 / 2 = c.node.ensures in
    copy_odd own numbers g c.args.l.0 (get_or c.args.lits.now (c.args.l.0 / 2) (record { 0 = 0 })).0 c.not.result.0 odd
    (c.not.ensures.literal ∙ ap (λ n. flip (get_or c.args.lits.now n (record { 0 = 0 })).0) half) (copy_at own numbers g c.args.lits.now (c.args.l.0 / 2) (record { 0 = 0 }) inside are)

even_of : (x : ℕ) (b : Bool) → (x % 2 ≡ 1 → b ≡ true) → b ≡ false → x % 2 ≡ 0
even_of x b odd off = elim (parity x) [ inl e ↦ e | inr o ↦ absurd (let t : b ≡ true = odd o in cc) ]

pub returns-else-is_complement : goal.returns-else-is_complement
returns-else-is_complement c = λ own numbers g are.
    let inside : c.args.l.0 / 2 < length c.args.lits.now = omega (arith, c.requires) in
    let half : c.node.result ≡ c.args.l.0 / 2 = c.node.ensures in
    let even : c.args.l.0 % 2 ≡ 0 = even_of c.args.l.0 c.is_complement.result c.is_complement.ensures.1 c.if-is_complement.false in
    copy_even own numbers g c.args.l.0 (get_or c.args.lits.now c.node.result (record { 0 = 0 })).0 even
    (subst (λ n. IsCopyOf own numbers g (2 * (c.args.l.0 / 2)) (get_or c.args.lits.now n (record { 0 = 0 })).0) (sym half) (copy_at own numbers g c.args.lits.now (c.args.l.0 / 2) (record { 0 = 0 }) inside are))
