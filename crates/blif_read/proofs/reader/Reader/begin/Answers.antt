use Rattle.std.proofs.Common.{[], ◌∷◌, sym, subst}
use Rattle.blif_read.specs.declared.head.Head.TheVariants as head
use Rattle.blif_read.specs.declared.reader.Reader.{Reader}
use Rattle.blif_read.specs.State.{Means, line_with}
use Rattle.blif_read.proofs.Steps.{begun_step}
use Rattle.blif_read.proofs.reader.Reader.begin.Goals as goal

pub returns : goal.returns
returns c = λ number before word means.
    let closed = c.in_ok-close.ensures before means in
    let name = c.in_ok-word_of.field-0 in
    let step = begun_step c.args.self.now c.close.new.self.names c.add.new.self c.close.new.self.models c.new-model.result name c.args.name.now before number word c.in_ok-add.field-0
    means closed.0 closed.2 c.in_ok-add.ensures.new c.if-not-branch.false c.in_ok-add.ensures.ok c.in_ok-word_of.ensures c.new-model.ensures in
    let P : Reader → Type 0 = λ new. Means new (line_with number head.Model word (c.args.name.now ∷ []) ∷ before) in
    (step.0, subst P (sym c.open.ensures) step.1)
