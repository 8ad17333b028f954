-- The parts of a setting fit together.
use Rattle.std.proofs.Common.{◌≡◌, ◌∙◌, ℕ, List, refl, sym, subst, arith}
use Rattle.base_tables.specs.Table.{AreDistinct}
use Rattle.sec_setup.proofs.ports.Numbering.{few_shared}
use Rattle.cycle_search.proofs.Uncut.{names_once, left_columns, right_columns, pairs_are_own, pairs_are_named}
use Rattle.cycle_search.proofs.setting.set_up_cycles.Goals as goal

pub orders_of-requires : goal.orders_of-requires
orders_of-requires c =
    let a = c.args.nets.now.left.now in
    let b = c.args.nets.now.right.now in
    let few = few_shared a b c.args.shared.now c.requires.shared in
    omega (arith, few, c.requires.left.few, c.requires.right.few)

pub returns : goal.returns
returns c =
    let a = c.args.nets.now.left.now in
    let b = c.args.nets.now.right.now in
    let shared = c.args.shared.now in
    let columns = c.in_ok-columns.columns in
    let orders = c.in_ok-orders.orders in
    let columns_are : columns ≡ shared = c.in_ok-columns.ensures ∙ c.in_ok-copy.ensures in
    let none = c.new-none.ensures in
    let pairs = c.in_ok-pairs.pairs in
    record {
      is = record {
        left_graph = c.requires.graphs.left;
        right_graph = c.requires.graphs.right;
        left_columns = left_columns a b c.requires.matches shared c.requires.shared columns columns_are orders c.in_ok-orders.ensures;
        right_columns = right_columns a b c.requires.matches shared c.requires.shared columns columns_are orders c.in_ok-orders.ensures;
        distinct = subst (λ (cs : List (List ℕ)). AreDistinct cs) (sym columns_are) (names_once a b c.requires.matches shared c.requires.shared c.keeps.ensures.sound);
        pairs = pairs_are_own a b c.requires.matches shared c.requires.shared _ _ _ none c.new.ensures c.new-2.ensures pairs c.in_ok-pairs.ensures c.requires.right;
      };
      left_is = refl;
      right_is = refl;
      columns_are = columns_are ∙ c.requires.shared;
      pairs_are = pairs_are_named a b c.requires.matches shared c.requires.shared _ _ _ none c.new.ensures c.new-2.ensures pairs c.in_ok-pairs.ensures c.keeps.ensures.sound c.keeps-2.ensures.sound c.keeps.ensures.names c.keeps-2.ensures.names;
    }
