-- A given number of cycles from the initial values.
use Rattle.std.proofs.Common.{◌≡◌, ℕ, suc, ◌+◌, ◌-◌, Bool, ◌∙◌, ap, arith}
use Rattle.circuit_theory.specs.Cone.{latches_of}
use Rattle.circuit_theory.specs.Tree.{Tree, tree_value}
use Rattle.circuit_laws.proofs.Windows.{rows_length}
use Rattle.circuit_laws.specs.reset_laws.Reset.{ResetUnfolds, HaveEqualResets, reset_rows, powers}
use Rattle.circuit_laws.proofs.reset_laws.ResetAgreement.{reset_same_at}
use Rattle.circuit_laws.proofs.reset_laws.ResetExist.{reset_trees_are_one}
use Rattle.circuit_laws.proofs.reset_laws.ResetWindows.{powers_at, powers_length, powered_is_reset, reset_window_by, reset_rows-is}
use Rattle.circuit_laws.specs.cycle_laws.Bounded.{EqualUpToAgree, DifferenceInCycle, CyclesAreDecided}

pub equal_up_to_agree : EqualUpToAgree
equal_up_to_agree a b left right left_base right_base last numbered based equal n l r alike t p q h le pair =
    let e = equal p q t pair le in
    reset_same_at a b left right left_base right_base numbered based l r n alike (λ row. Unit {0}) (λ s k row are. tt) p q t e.left_tree e.right_tree h e.left_unfolds e.right_unfolds (λ x care. e.same x tt)

pub difference_in_cycle : DifferenceInCycle
difference_in_cycle a b left right left_base right_base p q t count l r x sa sb left_low right_low ul ur differs = record {
  cycles = rows_length t (λ i k. x i (t - k)) count 0 (suc t) ∙ (let e : suc t ≡ t + 1 = omega arith in e);
  left_each = powers_length a.starts x left_base (latches_of a);
  right_each = powers_length b.starts x right_base (latches_of b);
  left_reset = λ n run is_run takes. powered_is_reset a left left_base sa x n run is_run takes;
  right_reset = λ n run is_run takes. powered_is_reset b right right_base sb x n run is_run takes;
  left_is = λ n run is_run powered h takes.
      reset_window_by a left left_base sa x p t l ul (reset_rows t x count) (powers a left_base x) (λ y i k m le. reset_rows-is t x count i k le (λ above s. absurd (let low = left_low y i m in omega arith)))
      (λ j u at. powers_at a.starts x left_base (latches_of a) j u at) n run (powered_is_reset a left left_base sa x n run is_run powered) powered h takes;
  right_is = λ n run is_run powered h takes.
      reset_window_by b right right_base sb x q t r ur (reset_rows t x count) (powers b right_base x) (λ y i k m le. reset_rows-is t x count i k le (λ above s. absurd (let low = right_low y i m in omega arith)))
      (λ j u at. powers_at b.starts x right_base (latches_of b) j u at) n run (powered_is_reset b right right_base sb x n run is_run powered) powered h takes;
  differ = differs;
}

pub cycles_are_decided : CyclesAreDecided
cycles_are_decided a b m n left right left_base right_base p q t na nb sa sb da db left_long right_long low_p low_q =
    (one.0.0, other.0.0, one.0.1, other.0.1, (to, from))
  where
    one : ((tree : Tree ℕ) × ResetUnfolds a left left_base p t tree) × ((l r : Tree ℕ) → ResetUnfolds a left left_base p t l → ResetUnfolds a left left_base p t r → l ≡ r)
    one = reset_trees_are_one a m left left_base p t na sa da left_long low_p

    other : ((tree : Tree ℕ) × ResetUnfolds b right right_base q t tree) × ((l r : Tree ℕ) → ResetUnfolds b right right_base q t l → ResetUnfolds b right right_base q t r → l ≡ r)
    other = reset_trees_are_one b n right right_base q t nb sb db right_long low_q

    to : HaveEqualResets a b left right left_base right_base p q t → (x : ℕ → ℕ → Bool) → tree_value x one.0.0 ≡ tree_value x other.0.0
    to h x = ap (tree_value x) (one.1 one.0.0 h.left_tree one.0.1 h.left_unfolds) ∙ (h.same x tt ∙ ap (tree_value x) (other.1 h.right_tree other.0.0 h.right_unfolds other.0.1))

    from : ((x : ℕ → ℕ → Bool) → tree_value x one.0.0 ≡ tree_value x other.0.0) → HaveEqualResets a b left right left_base right_base p q t
    from same = record { left_tree = one.0.0; right_tree = other.0.0; left_unfolds = one.0.1; right_unfolds = other.0.1; same = λ x care. same x }
