-- What holds of nets from what is known behind the rows, in the runs that meet an assumption, holds behind the rows in those that meet it there.
use Rattle.std.proofs.Common.{◌≡◌, ◌∙◌, ℕ, ◌+◌, ◌-◌, ◌<◌, ◌≤◌, Bool, List, [], length, sym, ap, subst, arith, Option}
use Rattle.std.specs.List.{All}
use Rattle.circuit_theory.specs.Agree.{AreAlike, IsPair}
use Rattle.circuit_theory.specs.Circuit.{Circuit, Started}
use Rattle.circuit_laws.specs.reset_laws.Reset.{AreAlikeFromReset}
use Rattle.circuit_laws.specs.start_laws.Known.{restarted}
use Rattle.circuit_laws.proofs.start_laws.Knowing.{tail_run}
use Rattle.flat_net.specs.View.{NetView, circuit_of}
use Rattle.restart.specs.Agreement.{BeginsBy}
use Rattle.restart.specs.Behind.{IsBegun}
use Rattle.restart.proofs.Begun.{begun_starts, begun_circuit, begun_known, begins_with}
use Rattle.pair_texts.specs.assume_texts.Meets.{RunMeetsCircuit}
use Rattle.job_after_under.specs.Runs.{RunMeetsFrom, AgreeBehindWhereMet}

-- in runs from initial values that meet the assumption the values of these cycles are so
abbrev pub HoldWhere : {R : Type 0} → ((ℕ → Bool) → (ℕ → Bool) → Type 0) → (ℕ → Type 0) → Circuit R → Circuit ℕ → Circuit ℕ → Type 0
HoldWhere {R} So Wanted c l r = (n : ℕ) (x y : ℕ → ℕ → Bool) → AreAlikeFromReset l r n x y → RunMeetsCircuit c l n x → (t : ℕ) → t < n → Wanted t → So (x t) (y t)

-- in such runs each output is equal in these cycles
abbrev pub AgreeWhere : {R : Type 0} → (ℕ → Type 0) → Circuit R → Circuit ℕ → Circuit ℕ → Type 0
AgreeWhere Wanted c l r =
    (n : ℕ) (x y : ℕ → ℕ → Bool) → AreAlikeFromReset l r n x y → RunMeetsCircuit c l n x → (t p q : ℕ) → t < n → Wanted t → IsPair [] l r p q → x t p ≡ y t q

same_pair : {a b : Circuit ℕ} {left_starts right_starts : List (Started ℕ)} {p q : ℕ} → IsPair [] a b p q → IsPair [] (restarted left_starts a) (restarted right_starts b) p q
same_pair (IsPair.outputs x y) = IsPair.outputs x y
same_pair (IsPair.nexts k x y) = absurd (omega (arith, k.1))

module _ (names : List (List ℕ)) (rows : List (List Bool)) (wide : All (λ (row : List Bool). length row ≡ length names) rows) (a b : NetView) (left_known right_known : List (Option Bool)) (l r : NetView)
    (left : IsBegun a names rows left_known l) (right : IsBegun b names rows right_known r) {R : Type 0} (c : Circuit R) where
  abbrev from_left : Circuit ℕ
  from_left = restarted (begun_starts a left_known) (circuit_of a)

  abbrev from_right : Circuit ℕ
  from_right = restarted (begun_starts b right_known) (circuit_of b)

  -- the nets that begin are the nets with other initial values
  restarted_hold : (So : (ℕ → Bool) → (ℕ → Bool) → Type 0) (Wanted : ℕ → Type 0) → HoldWhere So Wanted c (circuit_of l) (circuit_of r) → HoldWhere So Wanted c from_left from_right
  restarted_hold So Wanted h =
      subst (λ (d : Circuit ℕ). HoldWhere So Wanted c from_left d) (ap circuit_of right.is ∙ begun_circuit b right_known)
      (subst (λ (d : Circuit ℕ). HoldWhere So Wanted c d (circuit_of r)) (ap circuit_of left.is ∙ begun_circuit a left_known) h)

  -- what holds of values in runs from there that meet the assumption holds behind the rows of runs that meet it there
  pub hold_behind : (So : (ℕ → Bool) → (ℕ → Bool) → Type 0) (Wanted : ℕ → Type 0) → HoldWhere So Wanted c (circuit_of l) (circuit_of r) → (n : ℕ) (x y : ℕ → ℕ → Bool) → AreAlike (circuit_of a) (circuit_of b) n x y →
      BeginsBy (circuit_of a) names rows x → BeginsBy (circuit_of b) names rows y → RunMeetsFrom (length rows) c (circuit_of a) n x → (t : ℕ) → length rows ≤ t → t < n → Wanted (t - length rows) → So (x t) (y t)
  hold_behind So Wanted h n x y alike lb rb meets t le lt wanted =
      subst (λ (s : ℕ). So (x s) (y s)) (sym now)
      (restarted_hold So Wanted h (n - length rows) (λ s. x (s + length rows)) (λ s. y (s + length rows)) both (λ s low. meets (s + length rows) (omega (arith)) (omega (arith, low, le, lt))) (t - length rows) (omega (arith, le, lt)) wanted)
    where
      now : t ≡ t - length rows + length rows
      now = omega (arith, le)

      both : AreAlikeFromReset from_left from_right (n - length rows) (λ s. x (s + length rows)) (λ s. y (s + length rows))
      both = record {
        left_run = tail_run (circuit_of a) left.are_known.columns rows (begun_starts a left_known) (begun_known a left.are_known.columns rows left_known left.each left.are_known.each) n (n - length rows) x alike.left_run
            (begins_with names rows wide a left.are_known.columns left.are_known.are_columns x (λ s i row name bit u low. lb s i row name bit u)) (omega (arith, le, lt)) (omega (arith, le, lt));
        right_run = tail_run (circuit_of b) right.are_known.columns rows (begun_starts b right_known) (begun_known b right.are_known.columns rows right_known right.each right.are_known.each) n (n - length rows) y alike.right_run
            (begins_with names rows wide b right.are_known.columns right.are_known.are_columns y (λ s i row name bit u low. rb s i row name bit u)) (omega (arith, le, lt)) (omega (arith, le, lt));
        equal_inputs = λ name p q hx hy s h. alike.equal_inputs name p q hx hy (s + length rows) (omega (arith, h, le, lt));
      }

  -- so do outputs
  pub behind : (Wanted : ℕ → Type 0) → AgreeWhere Wanted c (circuit_of l) (circuit_of r) → AgreeBehindWhereMet names rows Wanted c (circuit_of a) (circuit_of b)
  behind Wanted agree n x y alike lb rb meets t p q le lt wanted pair =
      hold_behind (λ v w. (p q : ℕ) → IsPair [] (circuit_of a) (circuit_of b) p q → v p ≡ w q) Wanted (λ m v w also met s low so i j own. agree m v w also met s i j low so (begun_pair i j own)) n x y alike lb rb meets t le lt wanted p q pair
    where
      begun_pair : (i j : ℕ) → IsPair [] (circuit_of a) (circuit_of b) i j → IsPair [] (circuit_of l) (circuit_of r) i j
      begun_pair i j own =
          subst (λ (d : Circuit ℕ). IsPair [] (circuit_of l) d i j) (sym (ap circuit_of right.is ∙ begun_circuit b right_known))
          (subst (λ (d : Circuit ℕ). IsPair [] d from_right i j) (sym (ap circuit_of left.is ∙ begun_circuit a left_known)) (same_pair own))
