-- All literals of A, then all of B, and the signals that are chosen by them.
use Rattle.std.proofs.Common.{◌≡◌, ◌∙◌, ◌++◌, ℕ, List, [], length, Err, refl, sym, ap, subst, arith, rules}
use Rattle.std.specs.List.{Contains}
use Rattle.aig.specs.declared.node.Lit.{Lit}
use Rattle.circuit_theory.specs.declared.Side.TheVariants.{A, B}
use Rattle.flat_net.specs.declared.signals.Signal.{Signal}
use Rattle.circuit_theory.proofs.Lists.{length-map, zip_length}
use Rattle.cbf_unfold.specs.Unfolded.{IsLiteralOf}
use Rattle.cbf_unfold.proofs.Known.{fits_later}
use Rattle.sec_setup.specs.declared.ports.pairs.SignalPair.{SignalPair}
use Rattle.plain_asked.specs.Apart.{AreChosen, ChoosesOf}
use Rattle.plain_asked.specs.Pairs.{left_signals, right_signals}
use Rattle.plain_asked.proofs.Growing.{numbers_of, refused_left, refused_right}
use Rattle.plain_asked.proofs.Choosing.{numbers_are, number_among, signals_within, light_from, refused_from, literals_here}
use Rattle.plain_asked.proofs.apart.choose_pairs.Goals as goal

no_number : (x : ℕ) → Contains [] x → ⊥
no_number x h = omega (arith, h.1)

pub literals_of-requires-clause-signals : goal.literals_of-requires-clause-signals
literals_of-requires-clause-signals c =
    let u = c.args.a_side.now in
    let pairs = c.args.pairs.now in
    signals_within u.net u.net c.as_slice-of_a.result.now (left_signals pairs) refl (number_among c.as_slice-of_a.result.now (left_signals pairs) (numbers_are (λ (p : SignalPair). p.left) pairs c.as_slice-of_a.result.now (c.as_slice-of_a.ensures.value ∙ c.in_ok-lefts.ensures))) c.requires.left

pub literals_of-requires-clause-fits : goal.literals_of-requires-clause-fits
literals_of-requires-clause-fits c = c.requires.left_new.fits c.args.aig.now c.args.places.now

pub literals_of-requires-clause-nodes : goal.literals_of-requires-clause-nodes
literals_of-requires-clause-nodes c = omega (arith, c.requires.nodes)

pub literals_of-requires-clause-entries : goal.literals_of-requires-clause-entries
literals_of-requires-clause-entries c = omega (arith, c.requires.entries)

pub literals_of-requires-2-clause-signals : goal.literals_of-requires-2-clause-signals
literals_of-requires-2-clause-signals c =
    let u = c.args.b_side.now in
    let pairs = c.args.pairs.now in
    signals_within u.net u.net c.as_slice-of_b.result.now (right_signals pairs) refl (number_among c.as_slice-of_b.result.now (right_signals pairs) (numbers_are (λ (p : SignalPair). p.right) pairs c.as_slice-of_b.result.now (c.as_slice-of_b.ensures.value ∙ c.in_ok-rights.ensures))) c.requires.right

pub literals_of-requires-2-clause-fits : goal.literals_of-requires-2-clause-fits
literals_of-requires-2-clause-fits c = c.requires.right_new.fits c.literals_of.new.aig c.literals_of.new.places

pub literals_of-requires-2-clause-nodes : goal.literals_of-requires-2-clause-nodes
literals_of-requires-2-clause-nodes c =
    let later = c.literals_of.ensures.later in
    omega (arith, later.nodes, later.small, later.cap, (c.requires.left_new.fits c.args.aig.now c.args.places.now).limit, c.requires.nodes)

pub literals_of-requires-2-clause-entries : goal.literals_of-requires-2-clause-entries
literals_of-requires-2-clause-entries c =
    let later = c.literals_of.ensures.later in
    omega (arith, later.entries, later.small, later.cap, (c.requires.left_new.fits c.args.aig.now c.args.places.now).limit, c.requires.entries)

pub choose-requires-clause-rights : goal.choose-requires-clause-rights
choose-requires-clause-rights c =
    (ap length (c.as_slice-of_b.ensures.value ∙ c.in_ok-rights.ensures) ∙ (length-map (λ (p : SignalPair). p.right) c.args.pairs.now ∙ (sym (length-map (λ (p : SignalPair). p.left) c.args.pairs.now) ∙ sym (ap length (c.as_slice-of_a.ensures.value ∙ c.in_ok-lefts.ensures)))))

pub choose-requires-clause-xs : goal.choose-requires-clause-xs
choose-requires-clause-xs c =
    ap length c.as_slice.ensures.value ∙ sym (zip_length (λ (s : Signal) (x : Lit). IsLiteralOf c.literals_of.new.unfolder.net c.literals_of.new.unfolder.order c.literals_of.new.aig c.literals_of.new.places s.0 x.0) c.as_slice-of_a.result.now c.in_ok-xs.xs.items c.in_ok-xs.ensures.literals)

pub choose-requires-clause-ys : goal.choose-requires-clause-ys
choose-requires-clause-ys c =
    ap length c.as_slice-2.ensures.value ∙ (sym (zip_length (λ (s : Signal) (x : Lit). IsLiteralOf c.literals_of-2.new.unfolder.net c.literals_of-2.new.unfolder.order c.literals_of-2.new.aig c.literals_of-2.new.places s.0 x.0) c.as_slice-of_b.result.now c.in_ok-ys.ys.items c.in_ok-ys.ensures.literals) ∙ (ap length (c.as_slice-of_b.ensures.value ∙ c.in_ok-rights.ensures) ∙ (length-map (λ (p : SignalPair). p.right) c.args.pairs.now ∙ (sym (length-map (λ (p : SignalPair). p.left) c.args.pairs.now) ∙ sym (ap length (c.as_slice-of_a.ensures.value ∙ c.in_ok-lefts.ensures))))))

pub returns-in_err-xs : goal.returns-in_err-xs
returns-in_err-xs c =
    let a = c.args.a_side.now in
    let b = c.args.b_side.now in
    let pairs = c.args.pairs.now in
    let e = c.in_err-xs.field-0.0 in
    let same : c.from_residual-in_err-xs.result ≡ Err e = search rules in
    subst (ChoosesOf a b c.literals_of.new.unfolder b c.args.aig.now c.literals_of.new.aig c.args.places.now c.literals_of.new.places pairs) (sym same)
    (refused_left a.net b.net a.order b.order pairs (left_signals pairs) e refl (refused_from a.net (left_signals pairs) A a c.as_slice-of_a.result.now e refl (λ x h. absurd (no_number x (subst (λ (l : List ℕ). Contains l x) c.requires.left_new.none h))) (number_among c.as_slice-of_a.result.now (left_signals pairs) (numbers_are (λ (p : SignalPair). p.left) pairs c.as_slice-of_a.result.now (c.as_slice-of_a.ensures.value ∙ c.in_ok-lefts.ensures))) c.in_err-xs.ensures.refused))

pub returns-in_err-ys : goal.returns-in_err-ys
returns-in_err-ys c =
    let a = c.args.a_side.now in
    let b = c.args.b_side.now in
    let pairs = c.args.pairs.now in
    let e = c.in_err-ys.field-0.0 in
    let same : c.from_residual-in_err-ys.result ≡ Err e = search rules in
    subst (ChoosesOf a b c.literals_of.new.unfolder c.literals_of-2.new.unfolder c.args.aig.now c.literals_of-2.new.aig c.args.places.now c.literals_of-2.new.places pairs) (sym same)
    (refused_right a.net b.net a.order b.order pairs (right_signals pairs) e refl (light_from a.net (left_signals pairs) c.literals_of.new.unfolder c.literals_of.new.aig c.literals_of.new.places c.literals_of.ensures.later.net (c.in_ok-xs.ensures.done ∙ (ap (λ (d : List ℕ). d ++ numbers_of c.as_slice-of_a.result.now) c.requires.left_new.none ∙ (numbers_are (λ (p : SignalPair). p.left) pairs c.as_slice-of_a.result.now (c.as_slice-of_a.ensures.value ∙ c.in_ok-lefts.ensures)))) c.in_ok-xs.ensures.fits) (refused_from b.net (right_signals pairs) B b c.as_slice-of_b.result.now e refl (λ x h. absurd (no_number x (subst (λ (l : List ℕ). Contains l x) c.requires.right_new.none h))) (number_among c.as_slice-of_b.result.now (right_signals pairs) (numbers_are (λ (p : SignalPair). p.right) pairs c.as_slice-of_b.result.now (c.as_slice-of_b.ensures.value ∙ c.in_ok-rights.ensures))) c.in_err-ys.ensures.refused))

pub returns : goal.returns
returns c =
    let v = c.literals_of.new.unfolder in
    let lefts = c.as_slice-of_a.result.now in
    let rights = c.as_slice-of_b.result.now in
    let xs = c.in_ok-xs.xs.items in
    let first = c.literals_of.ensures.later in
    let second = c.literals_of-2.ensures.later in
    let left_limit = (c.requires.left_new.fits c.args.aig.now c.args.places.now).limit in
    let right_limit = (c.requires.right_new.fits c.args.aig.now c.args.places.now).limit in
    record {
      chosen = record {
        lefts = lefts;
        rights = rights;
        left_are = c.as_slice-of_a.ensures.value ∙ c.in_ok-lefts.ensures;
        right_are = c.as_slice-of_b.ensures.value ∙ c.in_ok-rights.ensures;
        xs = xs;
        ys = c.in_ok-ys.ys.items;
        left_lits = literals_here v.net v.net v.order v.order refl refl c.literals_of.new.aig c.literals_of-2.new.aig c.literals_of.new.places c.literals_of-2.new.places second.grows second.adds lefts xs c.in_ok-xs.ensures.literals;
        right_lits = c.in_ok-ys.ensures.literals;
        chosen = subst (λ (zs : List Lit). AreChosen lefts rights xs zs (length lefts) c.in_ok-chosen.chosen) c.as_slice-2.ensures.value (subst (λ (zs : List Lit). AreChosen lefts rights zs c.as_slice-2.result.now (length lefts) c.in_ok-chosen.chosen) c.as_slice.ensures.value c.in_ok-chosen.ensures);
      };
      left = record {
        net = first.net;
        order = first.order;
        done = c.in_ok-xs.ensures.done ∙ (ap (λ (d : List ℕ). d ++ numbers_of lefts) c.requires.left_new.none ∙ (numbers_are (λ (p : SignalPair). p.left) c.args.pairs.now lefts (c.as_slice-of_a.ensures.value ∙ c.in_ok-lefts.ensures)));
        fits = fits_later v c.literals_of.new.aig c.literals_of-2.new.aig c.literals_of.new.places c.literals_of-2.new.places second.grows second.adds c.in_ok-xs.ensures.fits;
      };
      right = record {
        net = second.net;
        order = second.order;
        done = c.in_ok-ys.ensures.done ∙ (ap (λ (d : List ℕ). d ++ numbers_of rights) c.requires.right_new.none ∙ (numbers_are (λ (p : SignalPair). p.right) c.args.pairs.now rights (c.as_slice-of_b.ensures.value ∙ c.in_ok-rights.ensures)));
        fits = c.in_ok-ys.ensures.fits;
      };
      nodes = omega (arith, first.nodes, first.small, first.cap, left_limit, second.nodes, second.small, second.cap, right_limit);
      entries = omega (arith, first.entries, first.small, first.cap, left_limit, second.entries, second.small, second.cap, right_limit);
    }
