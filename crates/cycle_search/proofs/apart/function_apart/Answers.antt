-- The literal alone, or the whole function.
use Rattle.reset_form.proofs.reset_asked.CycleQueries.{in_order}
use Rattle.cycle_search.proofs.apart.function_apart.Goals as goal

pub returns-clause-apart : goal.returns-clause-apart
returns-clause-apart c =
    let u = c.args.unfolder.now in
    let is = c.in_ok-vars.ensures.unfolded c.args.own c.requires.own in
    record {
      known = c.requires.fits.holds.known c.args.start c.args.own c.requires.own;
      in_order = in_order u.net u.order u.base c.args.aig.now c.args.places.now c.args.start.1 c.args.start.0 _ is;
      function = λ apart. is;
    }
