-- The node's literal, or its complement.
use Rattle.std.proofs.Common.{◌≡◌, ◌∙◌, ◌/◌, ◌%◌, ◌*◌, ◌<◌, ℕ, Bool, not, length, get_or, sym, ap, arith}
use Rattle.std.specs.List.{All}
use Rattle.std.proofs.lemmas.List.Elements.{All-get_or}
use Rattle.aig.specs.declared.node.Lit.{Lit}
use Rattle.signal_refine.specs.Copies.{node_at}
use Rattle.signal_refine.proofs.Halves.{even_value, odd_value, even_of, have_there}
use Rattle.signal_refine.proofs.copies.read_literal.Goals as goal

pub returns-then-is_complement-clause-value : goal.returns-then-is_complement-clause-value
returns-then-is_complement-clause-value c = λ base g a k have.
    let inside : c.node.result < length c.args.read.now = omega (arith, c.requires, c.node.ensures) in
    c.not.ensures.value g a
    ∙ (ap not (have_there (node_at base k) g a c.args.read.now have c.node.result inside ∙ ap (node_at base k) c.node.ensures) ∙ sym (odd_value base k c.args.l.0 (c.is_complement.ensures.0 c.if-is_complement.true)))

pub returns-then-is_complement-clause-within : goal.returns-then-is_complement-clause-within
returns-then-is_complement-clause-within c = λ n all. c.not.ensures.within n (All-get_or (λ (x : Lit). x.0 < 2 * n) c.args.read.now c.node.result (record { 0 = 0 }) (omega (arith, c.requires, c.node.ensures)) all)

pub returns-else-is_complement-clause-value : goal.returns-else-is_complement-clause-value
returns-else-is_complement-clause-value c = λ base g a k have.
    let inside : c.node.result < length c.args.read.now = omega (arith, c.requires, c.node.ensures) in
    let even = even_of c.args.l.0 c.is_complement.result c.is_complement.ensures.1 c.if-is_complement.false in
    have_there (node_at base k) g a c.args.read.now have c.node.result inside ∙ (ap (node_at base k) c.node.ensures ∙ sym (even_value base k c.args.l.0 even))
