-- A's functions stay while B is unfolded.
use Rattle.std.proofs.Common.{◌≡◌, length, Err, refl, sym, ap, subst, arith, rules}
use Rattle.sec_setup.specs.declared.ports.pairs.SignalPair.{SignalPair}
use Rattle.plain_asked.specs.Pairs.{Unfolds, left_signals, right_signals}
use Rattle.plain_asked.proofs.Growing.{functions_later, refused_left, refused_right}
use Rattle.plain_asked.proofs.functions.unfold_pairs.Goals as goal

pub unfold_side-requires-clause-order : goal.unfold_side-requires-clause-order
unfold_side-requires-clause-order c = c.requires.left_order

pub unfold_side-requires-clause-signals : goal.unfold_side-requires-clause-signals
unfold_side-requires-clause-signals c = c.requires.left

pub unfold_side-requires-clause-nodes : goal.unfold_side-requires-clause-nodes
unfold_side-requires-clause-nodes c = omega (arith, ap length c.in_ok-aig.ensures)

pub unfold_side-requires-clause-entries : goal.unfold_side-requires-clause-entries
unfold_side-requires-clause-entries c = omega (arith, ap length c.new-places.ensures)

pub unfold_side-requires-2-clause-order : goal.unfold_side-requires-2-clause-order
unfold_side-requires-2-clause-order c = c.requires.right_order

pub unfold_side-requires-2-clause-signals : goal.unfold_side-requires-2-clause-signals
unfold_side-requires-2-clause-signals c = c.requires.right

pub unfold_side-requires-2-clause-nodes : goal.unfold_side-requires-2-clause-nodes
unfold_side-requires-2-clause-nodes c = omega (arith, ap length c.in_ok-aig.ensures, c.unfold_side.ensures.nodes)

pub unfold_side-requires-2-clause-entries : goal.unfold_side-requires-2-clause-entries
unfold_side-requires-2-clause-entries c = omega (arith, ap length c.new-places.ensures, c.unfold_side.ensures.entries)

pub returns-in_err-left-clause-unfolds : goal.returns-in_err-left-clause-unfolds
returns-in_err-left-clause-unfolds c =
    let unfolds = Unfolds c.args.a.now c.args.b.now c.args.orders.now.left c.args.orders.now.right c.args.pairs.now in
    let same : c.from_residual-in_err-left.result ≡ Err c.in_err-left.field-0.0 = search rules in
    subst unfolds (sym same)
    (refused_left c.args.a.now c.args.b.now c.args.orders.now.left c.args.orders.now.right c.args.pairs.now (left_signals c.args.pairs.now) c.in_err-left.field-0.0 refl c.in_err-left.ensures.refused)

pub returns-in_err-right-clause-unfolds : goal.returns-in_err-right-clause-unfolds
returns-in_err-right-clause-unfolds c =
    let unfolds = Unfolds c.args.a.now c.args.b.now c.args.orders.now.left c.args.orders.now.right c.args.pairs.now in
    let same : c.from_residual-in_err-right.result ≡ Err c.in_err-right.field-0.0 = search rules in
    subst unfolds (sym same)
    (refused_right c.args.a.now c.args.b.now c.args.orders.now.left c.args.orders.now.right c.args.pairs.now (right_signals c.args.pairs.now) c.in_err-right.field-0.0 refl c.in_ok-left.ensures.light c.in_err-right.ensures.refused)

pub returns-clause-unfolds : goal.returns-clause-unfolds
returns-clause-unfolds c = (
  c.in_ok-left.ensures.light,
  c.in_ok-right.ensures.light,
  record {
    left_are =
        functions_later (λ (p : SignalPair). p.left.0) c.args.a.now c.args.orders.now.left c.unfold_side.new.aig c.unfold_side-2.new.aig c.unfold_side.new.places c.unfold_side-2.new.places c.unfold_side-2.ensures.grows c.unfold_side-2.ensures.adds c.args.pairs.now c.in_ok-left.left.items
        c.in_ok-left.ensures.unfolded;
    right_are = c.in_ok-right.ensures.unfolded;
  },
)

pub returns-clause-small : goal.returns-clause-small
returns-clause-small c = omega (arith, ap length c.in_ok-aig.ensures, c.unfold_side.ensures.nodes, c.unfold_side-2.ensures.nodes)

pub returns-clause-few : goal.returns-clause-few
returns-clause-few c = omega (arith, ap length c.new-places.ensures, c.unfold_side.ensures.entries, c.unfold_side-2.ensures.entries)
