-- The node's tie, or the node itself, and its sign.
use Rattle.std.proofs.Common.{◌≡◌, ◌∙◌, ◌/◌, ℕ, Bool, not, if◌then◌else◌, sym, ap}
use Rattle.signal_refine.specs.Copies.{node_at}
use Rattle.signal_refine.proofs.Halves.{signed}
use Rattle.signal_refine.proofs.told.root_of.Goals as goal

pub returns : goal.returns
returns c = λ base k tied.
    let w = node_at base k in
    let tie = c.anchor_of.ensures w tied in
    signed base k c.args.l.0 c.is_complement.result c.is_complement.ensures.0 c.is_complement.ensures.1
    ∙ (ap (λ (b : Bool). if c.is_complement.result then not b else b) (sym (ap w c.node.ensures) ∙ tie) ∙ sym (c.turned.ensures w))
