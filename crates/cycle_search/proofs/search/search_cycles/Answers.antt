-- What is found is found of both nets.
use Rattle.cycle_search.proofs.Numbering.{searched}
use Rattle.cycle_search.proofs.search.search_cycles.Goals as goal

pub returns : goal.returns
returns c =
    let a = c.args.a.now in
    let b = c.args.b.now in
    let found = c.in_ok-searched.ensures in
    searched a b c.in_ok-setup.setup c.in_ok-setup.ensures c.in-Ok.ensures.ok.0 c.args.cycles c.args.conflicts c.keeps.ensures.sound c.keeps-2.ensures.sound c.in_ok-searched.searched found.0 found.1 found.2
