-- Each of two nets as a part of both.
use Rattle.std.proofs.Common.{◌≡◌, ◌∙◌, ◌+◌, ◌-◌, ◌<◌, ◌≤◌, ◌⊎◌, ◌^◌, ℕ, Bool, List, ◌++◌, length, map, slice_get, Some, if◌then◌else◌, sym, ap, subst, arith, inl, inr}
use Rattle.std.specs.List.{All, Contains}
use Rattle.std.proofs.lemmas.List.Elements.{Contains-append_left, Contains-append_right}
use Rattle.circuit_theory.specs.Circuit.{Equation, Started}
use Rattle.circuit_theory.specs.Tree.{IsInputNumber}
use Rattle.circuit_theory.specs.Joined.{Either, Left, Right, moved, moved_start}
use Rattle.circuit_theory.proofs.Lists.{Contains-map}
use Rattle.circuit_laws.proofs.Joined.{left_equation}
use Rattle.circuit_laws.proofs.JoinedParts.{right_equation}
use Rattle.circuit_laws.proofs.reset_laws.ResetAgreement.{lt_true, lt_false}
use Rattle.flat_net.specs.declared.parts.Driver.TheVariants as driver
use Rattle.flat_net.specs.View.{NetView, circuit_of}
use Rattle.flat_net.specs.Sound.{IsSound}
use Rattle.aig.specs.declared.node.Node.{Node}
use Rattle.block_refine.proofs.latch_blocks.Joining.{left_number, right_number}
use Rattle.circuit_laws.specs.signal_laws.Ties.{side_at}
use Rattle.signal_refine.specs.declared.nets.SignalNets.{SignalNets}
use Rattle.signal_refine.specs.declared.nets.Spot.{Spot}
use Rattle.signal_refine.specs.declared.leaves.Cycle.{Cycle}
use Rattle.signal_refine.specs.Places.{size_of, places_of, whole, order_of, IsSpotOf, IsSpot}
use Rattle.signal_refine.specs.Frames.{AreFit}

-- a net whose signals have their places from one on
pub record IsPart (n : SignalNets) (net : NetView) (numbers : List ℕ) (offset : ℕ) (emb : ℕ → Either ℕ ℕ) : Type 0 where
  pub sound : IsSound net
  pub long : length numbers ≡ length net.inputs
  pub among : offset + length net.drivers ≤ places_of n
  pub side : (s : ℕ) → s < length net.drivers → side_at (size_of n) (offset + s) ≡ emb s
  pub equation : (e : Equation ℕ) → Contains (circuit_of net).equations e → Contains (whole n).equations (moved emb e)
  pub start : (s : ℕ) (bit : Bool) → Contains (circuit_of net).starts (record { place = s; bit = bit }) → Contains (whole n).starts (record { place = emb s; bit = bit })
  pub number : (s i k : ℕ) → slice_get net.drivers s ≡ Some (driver.Input i) → slice_get numbers i ≡ Some k → IsInputNumber (whole n) (order_of n) (emb s) k

pub side_left : (size p : ℕ) → p < size → side_at size p ≡ Left p
side_left size p h = ap (λ (b : Bool). if b then Left p else Right (p - size)) (lt_true p size h)

pub side_right : (size q : ℕ) → side_at size (size + q) ≡ Right q
side_right size q =
    ap (λ (b : Bool). if b then Left (size + q) else Right (size + q - size)) (lt_false (size + q) size (omega arith)) ∙ ap Right (let e : size + q - size ≡ q = omega arith in e)

module _ (n : SignalNets) (sound_a : IsSound n.left.now) (sound_b : IsSound n.right.now) (left_long : length n.orders.now.left ≡ length n.left.now.inputs) (right_long : length n.orders.now.right ≡ length n.right.now.inputs) where
  abbrev lefts : List (Started (Either ℕ ℕ))
  lefts = map (moved_start {P = ℕ} {Q = Either ℕ ℕ} Left) (circuit_of n.left.now).starts

  abbrev rights : List (Started (Either ℕ ℕ))
  rights = map (moved_start {P = ℕ} {Q = Either ℕ ℕ} Right) (circuit_of n.right.now).starts

  pub left_is_part : IsPart n n.left.now n.orders.now.left 0 Left
  left_is_part = record {
    sound = sound_a;
    long = left_long;
    among = omega arith;
    side = λ s h. side_left (size_of n) (0 + s) (omega arith) ∙ ap Left (let e : 0 + s ≡ s = omega arith in e);
    equation = λ e h. left_equation (circuit_of n.left.now) (circuit_of n.right.now) e h;
    start = λ s bit h. Contains-append_left lefts rights _ (Contains-map (moved_start Left) (circuit_of n.left.now).starts (record { place = s; bit = bit }) h);
    number = λ s i k drives at. left_number n.left.now n.right.now n.orders.now.left n.orders.now.right left_long sound_a s i k drives at;
  }

  pub right_is_part : IsPart n n.right.now n.orders.now.right (length n.left.now.drivers) Right
  right_is_part = record {
    sound = sound_b;
    long = right_long;
    among = omega arith;
    side = λ s h. side_right (size_of n) s;
    equation = λ e h. right_equation (circuit_of n.left.now) (circuit_of n.right.now) e h;
    start = λ s bit h. Contains-append_right lefts rights _ (Contains-map (moved_start Right) (circuit_of n.right.now).starts (record { place = s; bit = bit }) h);
    number = λ s i k drives at. right_number n.left.now n.right.now n.orders.now.left n.orders.now.right left_long sound_b s i k drives at;
  }

-- what is known of the signal at a place
pub record IsAt (w : Cycle) (p : ℕ) (s : Spot) : Type 0 where
  pub emb : ℕ → Either ℕ ℕ
  pub part : IsPart w.nets s.net.now s.numbers.now s.offset emb
  pub place : s.offset + s.signal.0 ≡ p
  pub inside : s.signal.0 < length s.net.now.drivers
  pub small : All (λ i. w.inputs + i + 1 < 2 ^ 32) s.numbers.now

at_spot : (w : Cycle) (p : ℕ) (s : Spot) (net : NetView) (numbers : List ℕ) (offset : ℕ) (emb : ℕ → Either ℕ ℕ) → IsPart w.nets net numbers offset emb → All (λ i. w.inputs + i + 1 < 2 ^ 32) numbers →
    IsSpotOf net numbers offset p s → IsAt w p s
at_spot w p s net numbers offset emb part small is = record {
  emb = emb;
  part =
      subst (λ (x : NetView). IsPart w.nets x s.numbers.now s.offset emb) (sym is.net_is)
      (subst (λ (x : List ℕ). IsPart w.nets net x s.offset emb) (sym is.numbers_are) (subst (λ (x : ℕ). IsPart w.nets net numbers x emb) (sym is.offset_is) part));
  place = ap (λ (x : ℕ). x + s.signal.0) is.offset_is ∙ is.place;
  inside = subst (λ (x : NetView). s.signal.0 < length x.drivers) (sym is.net_is) is.inside;
  small = subst (All (λ i. w.inputs + i + 1 < 2 ^ 32)) (sym is.numbers_are) small;
}

pub spot_is_at : (w : Cycle) (g : List Node) → AreFit w g → IsSound w.nets.left.now → IsSound w.nets.right.now → (p : ℕ) (s : Spot) → IsSpot w.nets p s → IsAt w p s
spot_is_at w g fit sound_a sound_b p s (inl is) = at_spot w p s _ _ _ _ (left_is_part w.nets sound_a sound_b fit.left_long fit.right_long) fit.left_small is
spot_is_at w g fit sound_a sound_b p s (inr is) = at_spot w p s _ _ _ _ (right_is_part w.nets sound_a sound_b fit.left_long fit.right_long) fit.right_small is
