-- The circuit keeps what a circuit keeps.
use Rattle.std.proofs.Common.{◌≡◌, ◌∙◌, length, refl, sym, ap, subst}
use Rattle.std.specs.List.{All}
use Rattle.std.proofs.lemmas.List.{length-replicate}
use Rattle.std.proofs.lemmas.List.Elements.{All-replicate}
use Rattle.event_setup.specs.Numbering.{IsBegun}
use Rattle.event_setup.proofs.Setups.{begun_circuit}
use Rattle.event_setup.proofs.circuits.begun.Goals as goal

pub new-requires-clause-circuit : goal.new-requires-clause-circuit
new-requires-clause-circuit c =
    begun_circuit c.args.marked.net c.args.marked.enabled c.args.order c.in_ok-classes.classes c.requires.marked c.requires.order
    (ap length c.in_ok-classes.ensures ∙ (length-replicate (length c.latches.result.now) 0 ∙ ap length c.latches.ensures))

pub signal_depths-requires : goal.signal_depths-requires
signal_depths-requires c = record { each = c.requires.marked.each; marks = c.requires.marked.marks; depths = c.requires.depths }

pub returns : goal.returns
returns c =
    let none : All (λ k. k ≡ 0) c.in_ok-classes.classes = subst (All (λ k. k ≡ 0)) (sym c.in_ok-classes.ensures) (All-replicate (λ k. k ≡ 0) (length c.latches.result.now) 0 refl) in
    subst (IsBegun c.args.marked.net c.args.order) (sym c.new.ensures) (record { net = refl; numbers = refl; none = none })
