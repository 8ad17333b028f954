use Rattle.std.proofs.Common.{sym, ◌∙◌}
use Rattle.net_assembly.proofs.NameOrder.{less_before, before_less}
use Rattle.flatten.proofs.loops.is_before.Goals as goal

pub returns-in-Less-clause-yes : goal.returns-in-Less-clause-yes
returns-in-Less-clause-yes c = λ e. less_before c.args.first.now c.args.second.now (sym c.cmp.ensures ∙ c.in-Less.is)

pub returns-in_default : goal.returns-in_default
returns-in_default c = record {
  yes = λ e. absurd (cc);
  no = λ e h. c.in_default.not-Less (c.cmp.ensures ∙ before_less c.args.first.now c.args.second.now h);
}
