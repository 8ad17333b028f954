-- Outputs that the ties make equal agree in every cycle of runs from the initial values.
use Rattle.std.proofs.Common.{◌≡◌, ◌∙◌, ◌+◌, ◌-◌, ◌<◌, ◌≤◌, ℕ, Bool, true, false, not, ◌&&◌, if◌then◌else◌, List, [], length, map, nat_lt, slice_get, Option, Some, None, refl, sym, ap, subst, arith, true≢false}
use Rattle.std.specs.Prelude.{◌==◌, unwrap_or}
use Rattle.std.specs.List.{AllZip, Contains}
use Rattle.std.proofs.lemmas.Bool.Decides.{Decides-eqb}
use Rattle.circuit_theory.specs.Circuit.{Circuit, Named}
use Rattle.circuit_theory.specs.Joined.{Either, Left, Right, beside}
use Rattle.circuit_theory.specs.Agree.{IsPair, place_named}
use Rattle.circuit_theory.proofs.Lists.{Contains-map_from, at_of, of_at, zip_right}
use Rattle.circuit_theory.proofs.Numbers.{slice_get-map}
use Rattle.circuit_laws.proofs.reset_laws.ResetAgreement.{lt_true, lt_false}
use Rattle.flat_net.specs.declared.signals.Signal.{Signal}
use Rattle.flat_net.specs.declared.parts.Port.{Port}
use Rattle.flat_net.specs.Comparable.{IsComparable}
use Rattle.flat_net.specs.Sound.{IsSound}
use Rattle.flat_net.specs.View.{NetView, named, circuit_of}
use Rattle.flat_net.proofs.Places.{All-at}
use Rattle.sec_setup.specs.declared.ports.pairs.SignalPair.{SignalPair}
use Rattle.sec_setup.specs.ports.Pairing.{IsOutputPair}
use Rattle.sec_setup.proofs.ports.Paired.{names_of, place_named-at}
use Rattle.sec_setup.proofs.ports.Shared.{some_is}
use Rattle.circuit_laws.specs.declared.signal_laws.anchor.Anchor.{Anchor}
use Rattle.circuit_laws.specs.declared.signal_laws.anchor.Anchor.TheVariants as anchor
use Rattle.circuit_laws.specs.signal_laws.Ties.{side_at, anchor_value, AreTied}
use Rattle.circuit_laws.specs.signal_laws.Laws.{GiveOutputs}
use Rattle.signal_refine.specs.Asking.{same_bit}
use Rattle.signal_induct.specs.declared.outputs.TiedPair.{TiedPair}
use Rattle.signal_induct.specs.declared.induction.SignalInduction.{SignalInduction}
use Rattle.signal_induct.specs.Tied.{anchor_at, same_anchor, first_apart, tied_pair, AgreeFromResetWhere, IsInductionWhere}
use Rattle.signal_induct.proofs.Firsts.{each_equal}

bit_is : (x y : Bool) → same_bit x y ≡ true → x ≡ y
bit_is true true e = refl
bit_is false false e = refl
bit_is true false e = absurd (true≢false (sym e))
bit_is false true e = absurd (true≢false (sym e))

both_hold : (b c : Bool) → (b && c) ≡ true → (b ≡ true) × (c ≡ true)
both_hold true c e = (refl, e)
both_hold false c e = absurd (true≢false (sym e))

place_is : (p q : ℕ) → (p == q) ≡ true → p ≡ q
place_is p q e = (Decides-eqb p q).0 e

-- anchors that are found to be one are one
pub one_anchor : (k m : Anchor) → same_anchor k m ≡ true → k ≡ m
one_anchor (anchor.Bit x) (anchor.Bit y) e = ap anchor.Bit (bit_is x y e)
one_anchor (anchor.Bit x) (anchor.Place q turned) e = absurd (true≢false (sym e))
one_anchor (anchor.Place p flipped) (anchor.Bit y) e = absurd (true≢false (sym e))
one_anchor (anchor.Place p flipped) (anchor.Place q turned) e =
    let both = both_hold (p == q) (same_bit flipped turned) e in
    ap (λ r. anchor.Place r flipped) (place_is p q both.0) ∙ ap (anchor.Place q) (bit_is flipped turned both.1)

-- a signal has the value of what it is tied to
tied_value : (size : ℕ) (anchors : List Anchor) (x : Either ℕ ℕ → Bool) → AreTied size anchors x → (p : ℕ) → x (side_at size p) ≡ anchor_value (λ q. x (side_at size q)) (anchor_at anchors p)
tied_value size anchors x tied p = go (slice_get anchors p) refl
  where
    go : (o : Option Anchor) → slice_get anchors p ≡ o → x (side_at size p) ≡ anchor_value (λ q. x (side_at size q)) (unwrap_or o (anchor.Place p false))
    go None e = refl
    go (Some k) e = tied p k e

side_left : (size p : ℕ) → p < size → side_at size p ≡ Left p
side_left size p less = ap (λ (b : Bool). if b then Left p else Right (p - size)) (lt_true p size less)

side_right : (size q : ℕ) → side_at size (size + q) ≡ Right q
side_right size q =
    ap (λ (b : Bool). if b then Left (size + q) else Right (size + q - size)) (lt_false (size + q) size (omega arith))
    ∙ ap (λ n. Right n) (let e : size + q - size ≡ q = omega arith in e)

-- the output of B that a pair names
named_place : (b : NetView) (name : List ℕ) (q : ℕ) → IsComparable b → Contains (circuit_of b).outputs (record { name = name; place = q }) → place_named (circuit_of b).outputs name ≡ Some q
named_place b name q right there =
    let found = Contains-map_from named b.outputs (record { name = name; place = q }) there in
    let at = at_of b.outputs found.0 found.1 in
    let own : slice_get (names_of b.outputs) at.0 ≡ Some name = slice_get-map (λ (p : Port). p.name) b.outputs at.0 found.0 at.1 ∙ ap (λ (m : Named ℕ). Some m.name) found.2 in
    place_named-at b.outputs name at.0 found.0 right.distinct own at.1 ∙ ap (λ (m : Named ℕ). Some m.place) found.2

module _ (met : (Either ℕ ℕ → Bool) → Type 0) (a b : NetView) (made : SignalInduction) (is : IsInductionWhere met a b made) (sound : IsSound a) (right : IsComparable b) (none : first_apart made.pairs ≡ None) where
  abbrev size : ℕ
  size = length a.drivers

  abbrev anchors : List Anchor
  anchors = made.ties.anchors.items

  output_given : (x : Either ℕ ℕ → Bool) → AreTied size anchors x → (name : List ℕ) (p q : ℕ) → Contains (circuit_of a).outputs (record { name = name; place = p }) → Contains (circuit_of b).outputs (record { name = name; place = q }) → x (Left p) ≡ x (Right q)
  output_given x tied name p q own other =
      let found = Contains-map_from named a.outputs (record { name = name; place = p }) own in
      let at = at_of a.outputs found.0 found.1 in
      let pair = zip_right (IsOutputPair b) a.outputs is.outputs is.are_outputs at.0 found.0 at.1 in
      let r = pair.2 in
      let told : slice_get made.pairs at.0 ≡ Some (tied_pair size anchors pair.0) = ap (λ (ps : List TiedPair). slice_get ps at.0) is.pairs_are ∙ slice_get-map (tied_pair size anchors) is.outputs at.0 pair.0 pair.1 in
      let same : anchor_at anchors pair.0.left.0 ≡ anchor_at anchors (size + pair.0.right.0) = one_anchor _ _ (each_equal made.pairs none at.0 (tied_pair size anchors pair.0) told) in
      let name_same : found.0.name ≡ name = ap (λ (m : Named ℕ). m.name) found.2 in
      let port_same : found.0.signal.0 ≡ p = ap (λ (m : Named ℕ). m.place) found.2 in
      let left_same : pair.0.left.0 ≡ p = ap (λ (s : Signal). s.0) r.left_is ∙ port_same in
      let right_same : pair.0.right.0 ≡ q = some_is (sym r.right_is ∙ (ap (place_named (circuit_of b).outputs) name_same ∙ named_place b name q right other)) in
      let inside : p < size = subst (λ z. z < size) port_same (All-at (λ (port : Port). port.signal.0 < size) a.outputs at.0 found.0 at.1 sound.outputs) in
      let anchors_same : anchor_at anchors p ≡ anchor_at anchors (size + q) = ap (anchor_at anchors) (sym left_same) ∙ (same ∙ ap (λ z. anchor_at anchors (size + z)) right_same) in
      ap x (sym (side_left size p inside))
      ∙ (tied_value size anchors x tied p
      ∙ (ap (anchor_value (λ z. x (side_at size z))) anchors_same
      ∙ (sym (tied_value size anchors x tied (size + q)) ∙ ap x (side_right size q))))

  gives : GiveOutputs (circuit_of a) (circuit_of b) size anchors
  gives x tied p q (IsPair.outputs {name} own other) = output_given x tied name p q own other
  gives x tied p q (IsPair.nexts listed first second) = absurd (omega (arith, listed.1))

  pub all_agree : AgreeFromResetWhere met (circuit_of a) (circuit_of b)
  all_agree n l r alike meets t p q h pair = gives (beside (l t) (r t)) (is.hold n l r alike meets t h) p q pair
