-- No column stands twice, and there are numbers enough.
use Rattle.std.proofs.Common.{◌∙◌, List, ℕ, sym, subst}
use Rattle.sec_setup.specs.ports.Numbered.{AreNumbered}
use Rattle.sec_setup.proofs.ports.Columns.{columns_once}
use Rattle.sec_setup.proofs.Setups.{few_numbers}
use Rattle.sec_setup.proofs.setup.number.Goals as goal

pub columns_of-requires : goal.columns_of-requires
columns_of-requires c =
    columns_once c.args.a.now c.args.b.now c.args.cut.now.left.now c.args.exposure.now.names c.args.shared.now c.args.exposure.now.left c.keeps-3.ensures.sound c.requires.cut.left c.requires.exposed.left.named c.requires.shared

pub orders_of-requires : goal.orders_of-requires
orders_of-requires c =
    few_numbers c.args.a.now c.args.b.now c.args.cut.now.left.now c.args.cut.now.right.now c.args.exposure.now c.requires.exposed c.requires.cut c.keeps.ensures.sound c.keeps-2.ensures.sound c.requires.left c.requires.right
    c.args.shared.now c.in_ok-table.table c.requires.shared c.in_ok-table.ensures

pub returns-clause-columns : goal.returns-clause-columns
returns-clause-columns c = c.in_ok-columns.ensures ∙ c.in_ok-table.ensures

pub returns-clause-orders : goal.returns-clause-orders
returns-clause-orders c =
    subst (λ (cs : List (List ℕ)). AreNumbered c.args.cut.now.left.now c.args.cut.now.right.now cs c.in_ok-orders.orders) (sym c.in_ok-columns.ensures) c.in_ok-orders.ensures
