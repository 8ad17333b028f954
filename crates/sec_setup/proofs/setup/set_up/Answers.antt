-- The setup is that of both nets.
use Rattle.std.proofs.Common.{◌≡◌, ◌∙◌, List, ℕ, length, sym, ap, subst}
use Rattle.base_tables.specs.Table.{AreDistinct}
use Rattle.sec_setup.specs.ports.flat_net.View.{circuit_of, ports_of}
use Rattle.sec_setup.specs.Cuts.{AreCutAt, columns_of}
use Rattle.sec_setup.specs.ports.Pairs.{named_pairs}
use Rattle.sec_setup.proofs.ports.Columns.{columns_once}
use Rattle.sec_setup.proofs.CutNets.{cut_acyclic}
use Rattle.sec_setup.proofs.ports.NamedPairs.{pairs_named, pairs_cut}
use Rattle.sec_setup.proofs.Setups.{cut_at, all_columns, left_columns, right_columns}
use Rattle.sec_setup.proofs.ports.Shared.{are_matched}
use Rattle.sec_setup.proofs.setup.set_up.Goals as goal

pub returns-clause-setup : goal.returns-clause-setup
returns-clause-setup c =
    let a = c.args.a.now in
    let b = c.args.b.now in
    let m = c.args.cut.now.left.now in
    let k = c.args.cut.now.right.now in
    let e = c.args.exposure.now in
    let chosen = c.requires.exposed in
    let cut = c.requires.cut in
    let orders = c.in_ok-numbering.numbering.orders in
    let columns = c.in_ok-numbering.numbering.columns in
    let columns_are = c.in_ok-numbering.ensures.columns in
    let numbered = c.in_ok-numbering.ensures.orders in
    let acyclic = cut_acyclic a b m k e.names chosen.minimal (cut_at a b m k e chosen cut) in
    let same = c.in_ok-exposed.ensures in
    record {
      is = record {
        left_graph = c.requires.graphs.left;
        right_graph = c.requires.graphs.right;
        left_acyclic = acyclic.0;
        right_acyclic = acyclic.1;
        left_columns = left_columns a b m k e chosen cut c.requires.matches orders columns c.args.shared.now columns_are c.requires.shared numbered;
        right_columns = right_columns a b m k e chosen cut c.requires.matches orders columns c.args.shared.now columns_are c.requires.shared numbered;
        distinct = subst (λ (cs : List (List ℕ)). AreDistinct cs) (sym columns_are) (columns_once a b m e.names c.args.shared.now e.left c.keeps-3.ensures.sound cut.left chosen.left.named c.requires.shared);
        pairs = pairs_cut a b e.names e.left e.right c.in_ok-pairs.pairs c.in_ok-pairs.ensures m k cut.left cut.right (are_matched (ports_of a) (ports_of b) c.requires.matches) c.requires.right.distinct;
      };
      are_cut = subst (λ (names : List (List ℕ)). AreCutAt a b names m k) (sym same) (cut_at a b m k e chosen cut);
      inputs = c.len.ensures ∙ ap length c.requires.shared;
      columns = all_columns a b m k e chosen cut c.requires.matches orders columns c.args.shared.now columns_are c.requires.shared numbered ∙ ap (columns_of a b) (sym same);
      pairs = pairs_named a b e.names e.left e.right c.in_ok-pairs.pairs c.in_ok-pairs.ensures c.keeps.ensures.sound c.keeps-2.ensures.sound c.keeps.ensures.names c.keeps-2.ensures.names chosen.left chosen.right
          ∙ ap (λ (names : List (List ℕ)). named_pairs names (circuit_of a) (circuit_of b)) (sym same);
    }
