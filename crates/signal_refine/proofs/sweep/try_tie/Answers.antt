-- The tie's query says same.
use Rattle.std.proofs.Common.{◌≡◌, ◌∙◌, ◌*◌, ◌<◌, ℕ, Bool, length, sym, ap, subst, arith}
use Rattle.std.proofs.lemmas.Option.{get_or_from_slice_get}
use Rattle.aig.specs.Values.{value}
use Rattle.aig.proofs.Growth.{Grows-length}
use Rattle.aig.proofs.Insert.{graph-some}
use Rattle.aig.proofs.Meaning.{value-grows}
use Rattle.circuit_laws.specs.declared.signal_laws.anchor.Anchor.{Anchor}
use Rattle.signal_refine.specs.Copies.{node_at}
use Rattle.signal_refine.specs.Asking.{AnchorHas}
use Rattle.signal_refine.proofs.Settling.{anchor_is}
use Rattle.signal_refine.proofs.sweep.try_tie.Goals as goal

pub ask-requires-clause-right : goal.ask-requires-clause-right
ask-requires-clause-right c = c.in-Some.ensures.within (length c.args.facts.now.aig) c.requires.within (graph-some c.args.facts.now.aig c.keeps.ensures.graph)

pub returns-in-Same-clause-shown : goal.returns-in-Same-clause-shown
returns-in-Same-clause-shown c = λ a k on have own.
    let g = c.args.facts.now.aig in
    let read = c.args.read.now in
    let w = node_at c.args.asked.now.base.now k in
    let other = c.in-Some.other.0 in
    let same = c.in_ok-answer.ensures.same c.in-Same.is a on in
    let within = c.in-Some.ensures.within (length g) c.requires.within (graph-some g c.keeps.ensures.graph) in (
      value-grows g c.ask.new.facts.aig c.in_ok-answer.ensures.grows a other within ∙ (sym same ∙ own),
      λ anchor at.
          sym own
          ∙ (same
          ∙ anchor_is w g a read have anchor (value g a other)
          (subst (λ (z : Anchor). AnchorHas g a read z (value g a other)) (get_or_from_slice_get c.args.anchors.now (length read) anchor _ at) (c.in-Some.ensures.has g a c.keeps.ensures.graph))),
    )

pub returns-in-Same-clause-within : goal.returns-in-Same-clause-within
returns-in-Same-clause-within c =
    let g = c.args.facts.now.aig in
    let within = c.in-Some.ensures.within (length g) c.requires.within (graph-some g c.keeps.ensures.graph) in
    let more = Grows-length g c.ask.new.facts.aig c.in_ok-answer.ensures.grows in
    omega (arith, within, more)
