-- The unfolders have unfolded nothing.
use Rattle.std.proofs.Common.{◌≡◌, ◌<◌, ℕ, List, length, sym, subst}
use Rattle.std.specs.List.{All}
use Rattle.flat_net.specs.View.{NetView}
use Rattle.plain_asked.specs.Apart.{UnfoldsApart}
use Rattle.plain_asked.specs.Pairs.{left_signals, right_signals}
use Rattle.plain_asked.proofs.apart.unfold_apart.Goals as goal

pub unfold_by-requires : goal.unfold_by-requires
unfold_by-requires c = record {
  left = subst (λ (n : NetView). All (λ s. s < length n.drivers) (left_signals c.args.pairs.now)) (sym c.in_ok-a_side.ensures.net) c.requires.left;
  right = subst (λ (n : NetView). All (λ s. s < length n.drivers) (right_signals c.args.pairs.now)) (sym c.in_ok-b_side.ensures.net) c.requires.right;
  left_new = record { none = c.in_ok-a_side.ensures.none; fits = c.in_ok-a_side.ensures.fits };
  right_new = record { none = c.in_ok-b_side.ensures.none; fits = c.in_ok-b_side.ensures.fits };
}

pub returns : goal.returns
returns c =
    let a = c.in_ok-a_side.a_side in
    let b = c.in_ok-b_side.b_side in
    let pairs = c.args.pairs.now in
    let r = c.unfold_by.result in
    subst (λ (n : NetView). UnfoldsApart n c.args.b.now c.args.orders.now.left c.args.orders.now.right pairs r) c.in_ok-a_side.ensures.net
    (subst (λ (n : NetView). UnfoldsApart a.net n c.args.orders.now.left c.args.orders.now.right pairs r) c.in_ok-b_side.ensures.net
    (subst (λ (o : List ℕ). UnfoldsApart a.net b.net o c.args.orders.now.right pairs r) c.in_ok-a_side.ensures.order
    (subst (λ (o : List ℕ). UnfoldsApart a.net b.net a.order o pairs r) c.in_ok-b_side.ensures.order c.unfold_by.ensures)))
