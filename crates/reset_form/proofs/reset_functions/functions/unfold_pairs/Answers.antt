-- A's functions stay while B is unfolded.
use Rattle.std.proofs.Common.{◌≡◌, ◌<◌, ℕ, List, length, Err, sym, subst, rules}
use Rattle.std.specs.List.{All, AllZip}
use Rattle.circuit_theory.specs.declared.Side.TheVariants.{A, B}
use Rattle.sec_setup.specs.declared.ports.pairs.SignalPair.{SignalPair}
use Rattle.reset_form.specs.reset_functions.Pairs.{AreCyclesOf, IsAmong, IsLeftSide, IsRightSide, IsLight, IsRefusalOf, Unfolds}
use Rattle.reset_form.proofs.reset_functions.OwnPairs.{own_pairs, output_within}
use Rattle.reset_form.proofs.reset_functions.Growing.{all_later, among_is_side, side_is_among, light_as, tops_within}
use Rattle.reset_form.proofs.reset_functions.Parts.{is_order, left_room, right_inputs_below, refused_left, refused_right, refusal_as}
use Rattle.reset_form.proofs.reset_functions.functions.unfold_pairs.Goals as goal

pub unfold_part-requires-clause-part : goal.unfold_part-requires-clause-part
unfold_part-requires-clause-part c =
    let s = c.args.setup.now in
    let b = c.args.bases in
    let tops = c.in_ok-tops.tops in
    record { order = is_order s.left.now s.columns s.orders.left s.orders.right c.requires.setup.left_columns; base = c.requires.bases.left_inputs; room = left_room s b c.requires.bases }

pub unfold_part-requires-clause-signals : goal.unfold_part-requires-clause-signals
unfold_part-requires-clause-signals c =
    let s = c.args.setup.now in
    let b = c.args.bases in
    let tops = c.in_ok-tops.tops in
    subst (All (λ (p : ℕ × ℕ). p.1 < length s.left.now.drivers)) (sym c.as_slice.ensures.value)
    (tops_within s (λ (x : SignalPair). x.left.0) s.pairs tops.left.items (length s.left.now.drivers) c.in_ok-tops.ensures.left (λ x h. output_within s.left.now c.keeps.ensures.sound x.left.0 ((own_pairs s c.requires.setup).left x h)))

pub unfold_part-requires-2-clause-part : goal.unfold_part-requires-2-clause-part
unfold_part-requires-2-clause-part c =
    let s = c.args.setup.now in
    let b = c.args.bases in
    let tops = c.in_ok-tops.tops in
    record { order = is_order s.right.now s.columns s.orders.right s.orders.left c.requires.setup.right_columns; base = right_inputs_below s b c.requires.bases; room = c.requires.bases.room }

pub unfold_part-requires-2-clause-signals : goal.unfold_part-requires-2-clause-signals
unfold_part-requires-2-clause-signals c =
    let s = c.args.setup.now in
    let b = c.args.bases in
    let tops = c.in_ok-tops.tops in
    subst (All (λ (p : ℕ × ℕ). p.1 < length s.right.now.drivers)) (sym c.as_slice-2.ensures.value)
    (tops_within s (λ (x : SignalPair). x.right.0) s.pairs tops.right.items (length s.right.now.drivers) c.in_ok-tops.ensures.right (λ x h. output_within s.right.now c.keeps-2.ensures.sound x.right.0 ((own_pairs s c.requires.setup).right x h)))

pub returns-in_err-left-clause-unfolds : goal.returns-in_err-left-clause-unfolds
returns-in_err-left-clause-unfolds c =
    let s = c.args.setup.now in
    let b = c.args.bases in
    let tops = c.in_ok-tops.tops in
    let e = c.in_err-left.field-0.0 in
    let same : c.from_residual-in_err-left.result ≡ Err e = search rules in
    let refused = subst (λ (l : List (ℕ × ℕ)). IsRefusalOf A s.left.now (IsAmong l) e) c.as_slice.ensures.value c.in_err-left.ensures.refused in
    subst (Unfolds s b) (sym same)
    (refused_left s b c.requires.bases e (refusal_as A s.left.now (IsAmong tops.left.items) (IsLeftSide s) (among_is_side s (λ (x : SignalPair). x.left.0) s.pairs tops.left.items c.in_ok-tops.ensures.left) e refused))

pub returns-in_err-right-clause-unfolds : goal.returns-in_err-right-clause-unfolds
returns-in_err-right-clause-unfolds c =
    let s = c.args.setup.now in
    let b = c.args.bases in
    let tops = c.in_ok-tops.tops in
    let e = c.in_err-right.field-0.0 in
    let same : c.from_residual-in_err-right.result ≡ Err e = search rules in
    let light = subst (λ (l : List (ℕ × ℕ)). IsLight s.left.now (IsAmong l)) c.as_slice.ensures.value c.in_ok-left.ensures.light in
    let refused = subst (λ (l : List (ℕ × ℕ)). IsRefusalOf B s.right.now (IsAmong l) e) c.as_slice-2.ensures.value c.in_err-right.ensures.refused in
    let left_side = among_is_side s (λ (x : SignalPair). x.left.0) s.pairs tops.left.items c.in_ok-tops.ensures.left in
    let left_among = side_is_among s (λ (x : SignalPair). x.left.0) s.pairs tops.left.items c.in_ok-tops.ensures.left in
    subst (Unfolds s b) (sym same)
    (refused_right s b c.requires.bases e (light_as s.left.now (IsAmong tops.left.items) (IsLeftSide s) (λ p. (left_side p, left_among p)) light)
    (refusal_as B s.right.now (IsAmong tops.right.items) (IsRightSide s) (among_is_side s (λ (x : SignalPair). x.right.0) s.pairs tops.right.items c.in_ok-tops.ensures.right) e refused))

pub returns-clause-unfolds : goal.returns-clause-unfolds
returns-clause-unfolds c =
    let s = c.args.setup.now in
    let b = c.args.bases in
    let tops = c.in_ok-tops.tops in
    let left_light = subst (λ (l : List (ℕ × ℕ)). IsLight s.left.now (IsAmong l)) c.as_slice.ensures.value c.in_ok-left.ensures.light in
    let right_light = subst (λ (l : List (ℕ × ℕ)). IsLight s.right.now (IsAmong l)) c.as_slice-2.ensures.value c.in_ok-right.ensures.light in
    let left_side = among_is_side s (λ (x : SignalPair). x.left.0) s.pairs tops.left.items c.in_ok-tops.ensures.left in
    let left_among = side_is_among s (λ (x : SignalPair). x.left.0) s.pairs tops.left.items c.in_ok-tops.ensures.left in
    let right_side = among_is_side s (λ (x : SignalPair). x.right.0) s.pairs tops.right.items c.in_ok-tops.ensures.right in
    let right_among = side_is_among s (λ (x : SignalPair). x.right.0) s.pairs tops.right.items c.in_ok-tops.ensures.right in (
      light_as s.left.now (IsAmong tops.left.items) (IsLeftSide s) (λ p. (left_side p, left_among p)) left_light,
      light_as s.right.now (IsAmong tops.right.items) (IsRightSide s) (λ p. (right_side p, right_among p)) right_light,
      record {
        tops = tops;
        are_tops = c.in_ok-tops.ensures;
        left_are =
            all_later s.left.now s.orders.left b.left c.unfold_part.new.aig c.unfold_part-2.new.aig c.unfold_part.new.places c.unfold_part-2.new.places c.unfold_part-2.ensures.grows c.unfold_part-2.ensures.adds tops.left.items c.in_ok-left.left.items
            (subst (λ (l : List (ℕ × ℕ)). AllZip (AreCyclesOf s.left.now s.orders.left b.left c.unfold_part.new.aig c.unfold_part.new.places) l c.in_ok-left.left.items) c.as_slice.ensures.value c.in_ok-left.ensures.unfolded);
        right_are =
            subst (λ (l : List (ℕ × ℕ)). AllZip (AreCyclesOf s.right.now s.orders.right b.right c.unfold_part-2.new.aig c.unfold_part-2.new.places) l c.in_ok-right.right.items) c.as_slice-2.ensures.value c.in_ok-right.ensures.unfolded;
      },
    )
