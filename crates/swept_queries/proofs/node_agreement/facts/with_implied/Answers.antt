use Rattle.std.proofs.Common.{◌∙◌, Bool, not, ◌&&◌, length, ap, arith}
use Rattle.aig.specs.Values.{value}
use Rattle.aig.proofs.Growth.{Grows-trans, Grows-length}
use Rattle.aig.proofs.Meaning.{value-grows}
use Rattle.swept_queries.proofs.node_agreement.facts.with_implied.Goals as goal

pub and-requires-clause-right : goal.and-requires-clause-right
and-requires-clause-right c = c.not.ensures.within (length c.args.small.now) c.requires.right

pub and-requires-2-clause-left : goal.and-requires-2-clause-left
and-requires-2-clause-left c = omega (arith, Grows-length c.args.small.now c.and.new.self c.and.ensures.grows, c.requires.care)

pub and-requires-2-clause-right : goal.and-requires-2-clause-right
and-requires-2-clause-right c = c.not-2.ensures.within (length c.and.new.self) c.in_ok-apart.ensures.within

pub returns-clause-value : goal.returns-clause-value
returns-clause-value c = λ a.
    let g = c.args.small.now in
    let h = c.and.new.self in
    let care = c.args.care.0 in
    let y = c.args.y.0 in
    c.in_ok-known.ensures.value a ∙ ap (λ (b : Bool). b && value h a c.not-2.result.0) (value-grows g h c.and.ensures.grows a care c.requires.care)
    ∙ ap (λ (b : Bool). value g a care && b) (c.not-2.ensures.value h a ∙ ap not (c.in_ok-apart.ensures.value a ∙ ap (λ (b : Bool). value g a y && b) (c.not.ensures.value g a)))

pub returns-clause-grows : goal.returns-clause-grows
returns-clause-grows c = Grows-trans c.args.small.now c.and.new.self c.and-2.new.self c.and.ensures.grows c.and-2.ensures.grows
