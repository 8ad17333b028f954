use Rattle.std.proofs.Common.{List, ℕ, Bool, [], sym, ◌∙◌, ap}
use Rattle.blif_read.specs.blif_lines.Lines.{left_lines, before_line}
use Rattle.blif_read.proofs.blif_lines.Pieces.{begun_with_nothing}
use Rattle.blif_read.proofs.blif_lines.logical.Lines.next_line.Goals as goal

pub returns-clause-ok : goal.returns-clause-ok
returns-clause-ok c =
    let p = c.self.inside.pieces in
    let start = ap (λ (d : Bool). left_lines d p.number p.rest.now) c.if-self.false in
    let begun = ap (λ (b : List ℕ). before_line p.number b (left_lines p.is_done p.number p.rest.now)) c.new.ensures.items in
    sym c.self.view_is ∙ start ∙ sym (begun_with_nothing p.number p.rest.now) ∙ ap (λ lines. before_line p.number [] lines) (sym start) ∙ sym begun ∙ c.in_ok-line.ensures
