use Rattle.std.proofs.Common.{◌≡◌, ◌∙◌, Bool, true, List, sym, ap, subst}
use Rattle.std.specs.List.{All}
use Rattle.flat_net.specs.Makes.{MakerView}
use Rattle.job_gen.proofs.pair_gen.Tying.{all_set}
use Rattle.job_gen.proofs.pair_gen.Whole.{twin, twin_comparable}
use Rattle.job_gen.proofs.pair_gen.twins.draw.Goals as goal

pub finish-requires : goal.finish-requires
finish-requires c =
    subst (λ (bits : List Bool). All (λ (b : Bool). b ≡ true) bits) (sym (ap (λ (m : MakerView). m.set) c.in_ok-add_outputs.ensures))
    (all_set c.args.circuit c.add_cells.new.maker c.set_nexts.new.maker c.set_nexts.ensures)

pub returns-clause-twin : goal.returns-clause-twin
returns-clause-twin c =
    twin c.args.circuit c.args.regroup c.args.words.now c.add_cells.new.maker c.set_nexts.new.maker c.finish.result c.in_ok-add_cells.ensures c.set_nexts.ensures
    (c.finish.ensures ∙ ap (λ (m : MakerView). m.net) c.in_ok-add_outputs.ensures)

pub returns-clause-comparable : goal.returns-clause-comparable
returns-clause-comparable c =
    twin_comparable c.args.circuit c.args.regroup c.args.words.now c.finish.result
    (twin c.args.circuit c.args.regroup c.args.words.now c.add_cells.new.maker c.set_nexts.new.maker c.finish.result c.in_ok-add_cells.ensures c.set_nexts.ensures
    (c.finish.ensures ∙ ap (λ (m : MakerView). m.net) c.in_ok-add_outputs.ensures))
