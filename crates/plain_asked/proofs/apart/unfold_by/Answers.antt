-- The functions of the signals that are chosen.
use Rattle.std.proofs.Common.{◌≡◌, ◌∙◌, ℕ, List, length, Err, refl, sym, ap, subst, arith, rules}
use Rattle.std.specs.List.{AllZip, Contains}
use Rattle.aig.proofs.Growth.{Grows-refl, Grows-trans}
use Rattle.cbf_unfold.specs.declared.unfold_places.signal_function.Unfolded.{Unfolded}
use Rattle.cbf_unfold.proofs.unfold_places.Lists.{adds_none, adds_trans}
use Rattle.circuit_theory.specs.declared.Side.TheVariants.{A, B}
use Rattle.flat_net.specs.declared.signals.Signal.{Signal}
use Rattle.cbf_unfold.proofs.Known.{fits_later}
use Rattle.sec_setup.specs.declared.ports.pairs.SignalPair.{SignalPair}
use Rattle.plain_asked.specs.Apart.{UnfoldsApart}
use Rattle.plain_asked.specs.Pairs.{IsFunctionOf, left_signals, right_signals}
use Rattle.plain_asked.proofs.Growing.{refused_left, refused_right}
use Rattle.plain_asked.proofs.Choosing.{numbers_are, number_among, signals_within, light_from, refused_from, literals_here, functions_here, apart_from}
use Rattle.plain_asked.proofs.apart.unfold_by.Goals as goal

pub choose_pairs-requires-clause-nodes : goal.choose_pairs-requires-clause-nodes
choose_pairs-requires-clause-nodes c = omega (arith, ap length c.in_ok-aig.ensures)

pub choose_pairs-requires-clause-entries : goal.choose_pairs-requires-clause-entries
choose_pairs-requires-clause-entries c = omega (arith, ap length c.new-places.ensures)

pub choose_pairs-requires-clause-left : goal.choose_pairs-requires-clause-left
choose_pairs-requires-clause-left c = c.requires.left

pub choose_pairs-requires-clause-right : goal.choose_pairs-requires-clause-right
choose_pairs-requires-clause-right c = c.requires.right

pub choose_pairs-requires-clause-left_new : goal.choose_pairs-requires-clause-left_new
choose_pairs-requires-clause-left_new c = c.requires.left_new

pub choose_pairs-requires-clause-right_new : goal.choose_pairs-requires-clause-right_new
choose_pairs-requires-clause-right_new c = c.requires.right_new

pub functions_of-requires-clause-signals : goal.functions_of-requires-clause-signals
functions_of-requires-clause-signals c =
    let pairs = c.args.pairs.now in
    let are = c.in_ok-chosen.ensures.chosen in
    signals_within c.args.a_side.now.net c.choose_pairs.new.a_side.net c.as_slice-own_a.result.now (left_signals pairs) c.in_ok-chosen.ensures.left.net (λ s h. number_among are.lefts (left_signals pairs) (numbers_are (λ (p : SignalPair). p.left) pairs are.lefts are.left_are) s (are.chosen.left s (subst (λ (l : List Signal). Contains l s) c.as_slice-own_a.ensures.value h))) c.requires.left

pub functions_of-requires-clause-fits : goal.functions_of-requires-clause-fits
functions_of-requires-clause-fits c = c.in_ok-chosen.ensures.left.fits

pub functions_of-requires-clause-nodes : goal.functions_of-requires-clause-nodes
functions_of-requires-clause-nodes c = omega (arith, c.in_ok-chosen.ensures.nodes, ap length c.in_ok-aig.ensures)

pub functions_of-requires-clause-entries : goal.functions_of-requires-clause-entries
functions_of-requires-clause-entries c = omega (arith, c.in_ok-chosen.ensures.entries, ap length c.new-places.ensures)

pub functions_of-requires-2-clause-signals : goal.functions_of-requires-2-clause-signals
functions_of-requires-2-clause-signals c =
    let pairs = c.args.pairs.now in
    let are = c.in_ok-chosen.ensures.chosen in
    signals_within c.args.b_side.now.net c.choose_pairs.new.b_side.net c.as_slice-own_b.result.now (right_signals pairs) c.in_ok-chosen.ensures.right.net (λ s h. number_among are.rights (right_signals pairs) (numbers_are (λ (p : SignalPair). p.right) pairs are.rights are.right_are) s (are.chosen.right s (subst (λ (l : List Signal). Contains l s) c.as_slice-own_b.ensures.value h))) c.requires.right

pub functions_of-requires-2-clause-fits : goal.functions_of-requires-2-clause-fits
functions_of-requires-2-clause-fits c =
    fits_later c.choose_pairs.new.b_side c.choose_pairs.new.aig c.functions_of.new.aig c.choose_pairs.new.places c.functions_of.new.places c.functions_of.ensures.later.grows c.functions_of.ensures.later.adds c.in_ok-chosen.ensures.right.fits

pub functions_of-requires-2-clause-nodes : goal.functions_of-requires-2-clause-nodes
functions_of-requires-2-clause-nodes c =
    let later = c.functions_of.ensures.later in
    omega (arith, c.in_ok-chosen.ensures.nodes, ap length c.in_ok-aig.ensures, later.nodes, later.small, later.cap, c.in_ok-chosen.ensures.left.fits.limit)

pub functions_of-requires-2-clause-entries : goal.functions_of-requires-2-clause-entries
functions_of-requires-2-clause-entries c =
    let later = c.functions_of.ensures.later in
    omega (arith, c.in_ok-chosen.ensures.entries, ap length c.new-places.ensures, later.entries, later.small, later.cap, c.in_ok-chosen.ensures.left.fits.limit)

pub returns-in_err-chosen : goal.returns-in_err-chosen
returns-in_err-chosen c =
    let a = c.args.a_side.now in
    let b = c.args.b_side.now in
    let same : c.from_residual-in_err-chosen.result ≡ Err c.in_err-chosen.field-0.0 = search rules in
    subst (UnfoldsApart a.net b.net a.order b.order c.args.pairs.now) (sym same) c.in_err-chosen.ensures

pub returns-in_err-left : goal.returns-in_err-left
returns-in_err-left c =
    let a = c.args.a_side.now in
    let b = c.args.b_side.now in
    let pairs = c.args.pairs.now in
    let are = c.in_ok-chosen.ensures.chosen in
    let e = c.in_err-left.field-0.0 in
    let same : c.from_residual-in_err-left.result ≡ Err e = search rules in
    subst (UnfoldsApart a.net b.net a.order b.order pairs) (sym same)
    (refused_left a.net b.net a.order b.order pairs (left_signals pairs) e refl (refused_from a.net (left_signals pairs) A c.choose_pairs.new.a_side c.as_slice-own_a.result.now e c.in_ok-chosen.ensures.left.net (λ x h. subst (λ (l : List ℕ). Contains l x) c.in_ok-chosen.ensures.left.done h) (λ s h. number_among are.lefts (left_signals pairs) (numbers_are (λ (p : SignalPair). p.left) pairs are.lefts are.left_are) s (are.chosen.left s (subst (λ (l : List Signal). Contains l s) c.as_slice-own_a.ensures.value h))) c.in_err-left.ensures.refused))

pub returns-in_err-right : goal.returns-in_err-right
returns-in_err-right c =
    let a = c.args.a_side.now in
    let b = c.args.b_side.now in
    let pairs = c.args.pairs.now in
    let are = c.in_ok-chosen.ensures.chosen in
    let left = c.in_ok-chosen.ensures.left in
    let e = c.in_err-right.field-0.0 in
    let same : c.from_residual-in_err-right.result ≡ Err e = search rules in
    subst (UnfoldsApart a.net b.net a.order b.order pairs) (sym same)
    (refused_right a.net b.net a.order b.order pairs (right_signals pairs) e refl (light_from a.net (left_signals pairs) c.choose_pairs.new.a_side c.choose_pairs.new.aig c.choose_pairs.new.places left.net left.done left.fits) (refused_from b.net (right_signals pairs) B c.choose_pairs.new.b_side c.as_slice-own_b.result.now e c.in_ok-chosen.ensures.right.net (λ x h. subst (λ (l : List ℕ). Contains l x) c.in_ok-chosen.ensures.right.done h) (λ s h. number_among are.rights (right_signals pairs) (numbers_are (λ (p : SignalPair). p.right) pairs are.rights are.right_are) s (are.chosen.right s (subst (λ (l : List Signal). Contains l s) c.as_slice-own_b.ensures.value h))) c.in_err-right.ensures.refused))

pub returns : goal.returns
returns c =
    let a = c.args.a_side.now in
    let b = c.args.b_side.now in
    let pairs = c.args.pairs.now in
    let are = c.in_ok-chosen.ensures.chosen in
    let left = c.in_ok-chosen.ensures.left in
    let right = c.in_ok-chosen.ensures.right in
    let g = c.choose_pairs.new.aig in
    let h = c.functions_of.new.aig in
    let k = c.functions_of-2.new.aig in
    let places = c.choose_pairs.new.places in
    let more = c.functions_of.new.places in
    let most = c.functions_of-2.new.places in
    let a_later = c.functions_of.ensures.later in
    let b_later = c.functions_of-2.ensures.later in
    let grows = Grows-trans g h k a_later.grows b_later.grows in
    let adds = adds_trans (λ (p : ℕ × ℕ). Unit {0}) places more most a_later.adds b_later.adds in (
      light_from a.net (left_signals pairs) c.choose_pairs.new.a_side g places left.net left.done left.fits,
      light_from b.net (right_signals pairs) c.choose_pairs.new.b_side g places right.net right.done right.fits,
      apart_from a.net b.net a.order b.order pairs (record { functions = record { aig = k; places = most; left = c.in_ok-left.left; right = c.in_ok-right.right }; at = c.into_at.result }) are.lefts are.rights are.xs are.ys c.in_ok-chosen.chosen are.left_are are.right_are
          (literals_here a.net c.choose_pairs.new.a_side.net a.order c.choose_pairs.new.a_side.order left.net left.order g k places most grows adds are.lefts are.xs are.left_lits)
          (literals_here b.net c.choose_pairs.new.b_side.net b.order c.choose_pairs.new.b_side.order right.net right.order g k places most grows adds are.rights are.ys are.right_lits)
          are.chosen c.into_at.ensures
          (functions_here a.net c.functions_of.new.unfolder.net a.order c.functions_of.new.unfolder.order (a_later.net ∙ left.net) (a_later.order ∙ left.order) h k more most b_later.grows b_later.adds c.in_ok-chosen.chosen.left.items c.in_ok-left.left.items (subst (λ (l : List Signal). AllZip (λ (s : Signal) (u : Unfolded). IsFunctionOf c.functions_of.new.unfolder.net c.functions_of.new.unfolder.order h more s.0 u) l c.in_ok-left.left.items) c.as_slice-own_a.ensures.value c.in_ok-left.ensures.unfolded))
          (functions_here b.net c.functions_of-2.new.unfolder.net b.order c.functions_of-2.new.unfolder.order (b_later.net ∙ right.net) (b_later.order ∙ right.order) k k most most (Grows-refl k) (adds_none (λ (p : ℕ × ℕ). Unit {0}) most most refl) c.in_ok-chosen.chosen.right.items c.in_ok-right.right.items (subst (λ (l : List Signal). AllZip (λ (s : Signal) (u : Unfolded). IsFunctionOf c.functions_of-2.new.unfolder.net c.functions_of-2.new.unfolder.order k most s.0 u) l c.in_ok-right.right.items) c.as_slice-own_b.ensures.value c.in_ok-right.ensures.unfolded)),
    )
