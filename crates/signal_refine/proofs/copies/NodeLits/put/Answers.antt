-- The node's own literal, and what it is read as.
use Rattle.std.proofs.Common.{◌≡◌, ◌∙◌, ℕ, Bool, List, subst, sym}
use Rattle.aig.specs.declared.node.Lit.{Lit}
use Rattle.aig.specs.Values.{value}
use Rattle.signal_refine.specs.Copies.{HaveAt, node_at, IsReadAs}
use Rattle.signal_refine.proofs.Copying.{copied_from}
use Rattle.signal_refine.proofs.copies.NodeLits.put.Goals as goal

pub returns : goal.returns
returns c =
    let base = c.args.base.now in
    let g = c.args.aig.now in
    let h = c.node_literal.new.aig in
    copied_from base c.args.leaves.now c.args.anchors.now g h c.args.self.now _ c.args.n c.in_ok-own.own c.read_as-read.result c.in_ok-push.ensures.items c.in_ok-push-2.ensures.items c.keeps.ensures.graph c.in_ok-own.ensures.grows c.requires.each c.requires.within c.in_ok-own.ensures.within
    (subst (λ (l : List Lit). (a k : ℕ → Bool) → HaveAt k g a c.args.leaves.now → HaveAt (node_at base k) g a l → value h a c.in_ok-own.own.0 ≡ node_at base k c.args.n) c.deref.ensures.value c.in_ok-own.ensures.value)
    (subst (λ (l : List Lit). IsReadAs c.args.anchors.now l c.args.n c.in_ok-own.own c.read_as-read.result) c.deref-2.ensures.value c.read_as-read.ensures)
