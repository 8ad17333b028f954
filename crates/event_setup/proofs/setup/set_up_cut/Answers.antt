-- The setup is that of both nets.
use Rattle.std.proofs.Common.{◌∙◌, ℕ, List, length, refl, ap, subst, sym}
use Rattle.base_tables.specs.Table.{AreDistinct}
use Rattle.flat_net.specs.View.{ports_of}
use Rattle.sec_setup.proofs.ports.Columns.{columns_once}
use Rattle.sec_setup.proofs.ports.NamedPairs.{pairs_cut, pairs_named}
use Rattle.sec_setup.proofs.ports.Shared.{are_matched}
use Rattle.event_setup.proofs.Setups.{all_columns, cut_at, cut_in, is_setup, left_columns, right_columns}
use Rattle.event_setup.proofs.setup.set_up_cut.Goals as goal

pub returns : goal.returns
returns c =
    let a = c.args.a.now in
    let b = c.args.b.now in
    let e = c.args.exposure in
    let cut = c.args.cut in
    let opened = c.requires.opened in
    let begun = c.in_ok-circuits.ensures.circuits in
    let orders = begun.orders in
    let columns = c.in_ok-circuits.circuits.columns in
    let columns_are = c.in_ok-circuits.ensures.columns in
    let pairs = c.in_ok-paired.paired.pairs in
    let cut_pairs = pairs_cut a b e.names e.left e.right pairs c.in_ok-paired.ensures.pairs cut.left.net cut.right.net c.requires.cut.left.parts c.requires.cut.right.parts (are_matched (ports_of a) (ports_of b) c.requires.matches) c.requires.right.distinct in
    record {
      is = is_setup _ cut.left.net cut.right.net orders begun.left begun.right c.in_ok-paired.ensures.left_depths c.in_ok-paired.ensures.right_depths
          (left_columns a b e opened cut c.requires.cut c.requires.matches orders columns c.args.shared.now columns_are c.requires.shared begun.numbered)
          (right_columns a b e opened cut c.requires.cut c.requires.matches orders columns c.args.shared.now columns_are c.requires.shared begun.numbered)
          (subst (λ (cs : List (List ℕ)). AreDistinct cs) (sym columns_are) (columns_once a b cut.left.net e.names c.args.shared.now e.left c.keeps-3.ensures.sound c.requires.cut.left.parts opened.left.named c.requires.shared))
          cut_pairs c.in_ok-paired.ensures.depths;
      exposed = refl;
      are_cut = cut_in a b cut.left.net cut.right.net e.names c.in_ok-circuits.circuits.left c.in_ok-circuits.circuits.right orders.left orders.right begun.left begun.right (cut_at a b e opened cut c.requires.cut);
      inputs = c.len.ensures ∙ ap length c.requires.shared;
      columns = all_columns a b e opened cut c.requires.cut c.requires.matches orders columns c.args.shared.now columns_are c.requires.shared begun.numbered;
      pairs = pairs_named a b e.names e.left e.right pairs c.in_ok-paired.ensures.pairs c.keeps.ensures.sound c.keeps-2.ensures.sound c.keeps.ensures.names c.keeps-2.ensures.names opened.left opened.right;
    }
