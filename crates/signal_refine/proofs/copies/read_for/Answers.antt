-- The complement of what the place is read as.
use Rattle.std.proofs.Common.{◌*◌, ◌<◌, ℕ, length, All, sym, subst, arith}
use Rattle.std.proofs.lemmas.List.Elements.{All-get_or}
use Rattle.aig.specs.declared.node.Lit.{Lit}
use Rattle.signal_refine.proofs.copies.read_for.Goals as goal

pub returns-then-not-l-clause-within : goal.returns-then-not-l-clause-within
returns-then-not-l-clause-within c = λ n all inside.
    let read = All-get_or (λ (x : Lit). x.0 < 2 * n) c.args.before.now.read.items c.unwrap_or-i.result c.index-then-not-l.result.now (omega (arith, c.if-i-len-2.false, c.len-else-i-len.ensures)) all in
    c.not-then-not-l.ensures.within n (subst (λ (x : Lit). x.0 < 2 * n) (sym c.index-then-not-l.ensures) read)
