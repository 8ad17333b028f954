-- The functions of one pair more.
use Rattle.std.proofs.Common.{◌≡◌, ◌∙◌, ◌+◌, ◌<◌, ◌≤◌, ℕ, List, [], ◌∷◌, ◌++◌, length, take, slice_get, Some, sym, ap, subst, arith, inl, inr}
use Rattle.std.specs.Prelude.{◌⊎◌}
use Rattle.std.specs.List.{All, AllZip, Contains}
use Rattle.std.proofs.lemmas.Option.{same_Some, slice_get_within}
use Rattle.circuit_theory.specs.declared.Side.{Side}
use Rattle.circuit_theory.proofs.Lists.{Contains-cases, zip_right}
use Rattle.flat_net.proofs.Growth.{length-push}
use Rattle.flat_net.proofs.Places.{All-at}
use Rattle.aig.specs.declared.node.Lit.{Lit}
use Rattle.aig.specs.declared.node.Node.{Node}
use Rattle.cbf_unfold.specs.declared.unfold_places.signal_function.Unfolded.{Unfolded}
use Rattle.cbf_unfold.proofs.shift_variables.Assignments.{take_next}
use Rattle.cbf_unfold.proofs.unfold_places.Lists.{append_cases}
use Rattle.sec_setup.specs.declared.ports.pairs.SignalPair.{SignalPair}
use Rattle.reset_form.specs.reset_unfold.View.{ResetView}
use Rattle.cycle_search.specs.declared.apart.CycleFunctions.{CycleFunctions}
use Rattle.cycle_search.specs.Apart.{AreApart, AreTwo}
use Rattle.cycle_search.specs.Outputs.{side_of, IsLiteralIn}

-- the literal at a place is that of the pair's signal
pub literal_of : (memo : List ((ℕ × ℕ) × Lit)) (side : Side) (cycle : ℕ) (pairs : List SignalPair) (items : List Lit) → AllZip (IsLiteralIn memo side cycle) pairs items → (given : List Lit) → given ≡ items → (i : ℕ) (p : SignalPair) → slice_get pairs i ≡ Some p →
    (x : Lit) → slice_get given i ≡ Some x → (s : ℕ) → s ≡ side_of side p → Contains memo ((cycle, s), x)
literal_of memo side cycle pairs items zip given same i p at x here s own =
    let z = zip_right (IsLiteralIn memo side cycle) pairs items zip i p at in
    let e : z.0 ≡ x = same_Some z.0 x (sym z.1 ∙ (ap (λ (xs : List Lit). slice_get xs i) (sym same) ∙ here)) in
    subst (λ (k : ℕ). Contains memo ((cycle, k), x)) (sym own) (subst (λ (y : Lit). Contains memo ((cycle, side_of side p), y)) e z.2)

pub done_at : (done : List (ℕ × ℕ)) (side : Side) (cycle : ℕ) (pairs : List SignalPair) → All (λ (x : SignalPair). Contains done (cycle, side_of side x)) pairs → (i : ℕ) (p : SignalPair) → slice_get pairs i ≡ Some p → (s : ℕ) → s ≡ side_of side p → Contains done (cycle, s)
done_at done side cycle pairs all i p at s own = subst (λ (k : ℕ). Contains done (cycle, k)) (sym own) (All-at (λ (x : SignalPair). Contains done (cycle, side_of side x)) pairs i p at all)

only_one : {X : Type 0} (x y : X) → Contains (x ∷ []) y → x ≡ y
only_one x y h = elim (Contains-cases x y [] h) [ inl e ↦ e | inr k ↦ absurd (omega (arith, k.1)) ]

before_last : {X : Type 0} (xs : List X) (x : X) (j : ℕ) (y : X) → j < length xs → slice_get (xs ++ x ∷ []) j ≡ Some y → slice_get xs j ≡ Some y
before_last xs x j y low h = elim (append_cases xs (x ∷ []) j y h) [ inl a ↦ a | inr b ↦ absurd (omega (arith, low, b.0)) ]

at_last : {X : Type 0} (xs : List X) (x : X) (j : ℕ) (y : X) → length xs ≤ j → slice_get (xs ++ x ∷ []) j ≡ Some y → x ≡ y
at_last xs x j y high h = elim (append_cases xs (x ∷ []) j y h) [ inl a ↦ absurd (let w = slice_get_within xs j y a in omega (arith, w, high)) | inr b ↦ only_one x y b.1 ]

low_or_high : (j i : ℕ) → (j < i) ⊎ (i ≤ j)
low_or_high j i = grind arith

module _ (u v : ResetView) (g : List Node) (places : List (ℕ × ℕ)) (cycle : ℕ) (pairs : List SignalPair) (i : ℕ) (p : SignalPair) (at : slice_get pairs i ≡ Some p) where
  pub apart_more : (f h : CycleFunctions) (l r : Unfolded) → h.left.items ≡ f.left.items ++ l ∷ [] → h.right.items ≡ f.right.items ++ r ∷ [] → AreApart u v g places cycle (take i pairs) f → AreTwo u v g places cycle p l r → AreApart u v g places cycle (take (i + 1) pairs) h
  apart_more f h l r left_is right_is before here = record {
    left_each = ap length left_is ∙ (length-push f.left.items l ∙ (ap (λ k. k + 1) before.left_each ∙ (sym (length-push (take i pairs) p) ∙ ap length (sym more))));
    right_each = ap length right_is ∙ (length-push f.right.items r ∙ (ap (λ k. k + 1) before.right_each ∙ (sym (length-push (take i pairs) p) ∙ ap length (sym more))));
    are = λ j x m k hx hl hr.
        go j x m k (subst (λ (ps : List SignalPair). slice_get ps j ≡ Some x) more hx) (subst (λ (us : List Unfolded). slice_get us j ≡ Some m) left_is hl) (subst (λ (us : List Unfolded). slice_get us j ≡ Some k) right_is hr) (low_or_high j (length (take i pairs)));
  }
    where
      more : take (i + 1) pairs ≡ take i pairs ++ p ∷ []
      more = take_next pairs i p at

      left_long : length f.left.items ≡ length (take i pairs)
      left_long = before.left_each

      right_long : length f.right.items ≡ length (take i pairs)
      right_long = before.right_each

      go : (j : ℕ) (x : SignalPair) (m k : Unfolded) → slice_get (take i pairs ++ p ∷ []) j ≡ Some x → slice_get (f.left.items ++ l ∷ []) j ≡ Some m → slice_get (f.right.items ++ r ∷ []) j ≡ Some k → (j < length (take i pairs)) ⊎ (length (take i pairs) ≤ j) → AreTwo u v g places cycle x m k
      go j x m k hx hl hr (inl low) =
          before.are j x m k (before_last (take i pairs) p j x low hx) (before_last f.left.items l j m (omega (arith, low, left_long)) hl) (before_last f.right.items r j k (omega (arith, low, right_long)) hr)
      go j x m k hx hl hr (inr high) =
          let px = at_last (take i pairs) p j x high hx in
          let lm = at_last f.left.items l j m (omega (arith, high, left_long)) hl in
          let rk = at_last f.right.items r j k (omega (arith, high, right_long)) hr in
          subst (λ (z : SignalPair). AreTwo u v g places cycle z m k) px (subst (λ (z : Unfolded). AreTwo u v g places cycle p z k) lm (subst (λ (z : Unfolded). AreTwo u v g places cycle p l z) rk here))
