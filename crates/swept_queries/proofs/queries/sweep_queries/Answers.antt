-- What follows from what was chosen is true of what was given.
use Rattle.std.proofs.Common.{ℕ, List, subst}
use Rattle.std.specs.List.{AllZip}
use Rattle.swept_queries.specs.declared.sides.Known.{Known}
use Rattle.swept_queries.specs.InStead.{IsKept, IsMovedTo}
use Rattle.swept_queries.proofs.Stand.{true_of}
use Rattle.swept_queries.proofs.queries.sweep_queries.Goals as goal

pub returns : goal.returns
returns c =
    true_of c.args.aig.now c.in_ok-words.words.items c.args.given.now c.in_ok-asked.asked.items c.in_ok-swept.swept
    (subst (λ (ws : List ℕ). AllZip (IsKept c.args.aig.now ws) c.args.given.now c.in_ok-asked.asked.items) c.as_slice.ensures.value c.in_ok-asked.ensures.kept)
    (subst (λ (ks : List Known). IsMovedTo c.args.aig.now ks c.in_ok-swept.swept) c.as_slice-2.ensures.value c.in_ok-swept.ensures)
