-- Numbers of keys are equal exactly where the keys are.
use Rattle.std.proofs.Common.{◌≡◌, ◌≢◌, ◌∙◌, ◌<◌, ℕ, Bool, true, false, List, length, slice_get, Some, if◌then◌else◌, refl, sym, ap, arith}
use Rattle.std.specs.Prelude.{◌↔◌}
use Rattle.std.proofs.lemmas.Option.{same_Some}
use Rattle.base_tables.specs.Table.{AreDistinct}
use Rattle.sec_base.specs.declared.basics.Init.{Init}
use Rattle.sec_base.specs.declared.basics.Init.TheVariants as init
use Rattle.block_refine.specs.latch_blocks.Blocks.{block_at, bit_at, start_at, HaveOneStart, IsByStarts, IsSplit}
use Rattle.block_refine.specs.latch_blocks.Numbers.{IsNumberedBy, split_key, start_kind, start_rest, start_key}

-- one number, one key, and the other way round
number_key : (key : ℕ → ℕ × ℕ) (table : List (ℕ × ℕ)) (numbers : List ℕ) → AreDistinct table → IsNumberedBy key table numbers → (i j : ℕ) → i < length numbers → j < length numbers → (block_at numbers i ≡ block_at numbers j) ↔ (key i ≡ key j)
number_key key table numbers distinct is i j a b = (
  (λ e. same_Some (key i) (key j) (sym (is.keys i a) ∙ ap (slice_get table) e ∙ is.keys j b)),
  (λ e. distinct (block_at numbers i) (block_at numbers j) (key j) (is.keys i a ∙ ap Some e) (is.keys j b)),
)

same_digit : (x y : Bool) → ◌≡◌ {A = ℕ} (if x then 1 else 0) (if y then 1 else 0) → x ≡ y
same_digit true true e = refl
same_digit false false e = refl
same_digit true false e = absurd (omega (arith, e))
same_digit false true e = absurd (omega (arith, e))

pub split_is : (blocks : List ℕ) (bits : List Bool) (table : List (ℕ × ℕ)) (fine : List ℕ) → length fine ≡ length blocks → AreDistinct table → IsNumberedBy (split_key blocks bits) table fine → IsSplit blocks bits fine
split_is blocks bits table fine each distinct is = record {
  each = each;
  same = λ i j a b.
      let one = number_key (split_key blocks bits) table fine distinct is i j (omega (arith, a, each)) (omega (arith, b, each)) in (
        (λ e. let k = one.0 e in (ap (λ r. r.0) k, same_digit (bit_at bits i) (bit_at bits j) (ap (λ r. r.1) k))),
        (λ e. one.1 (let f = e.0 in let g = ap {B = ℕ} (λ (x : Bool). if x then 1 else 0) e.1 in λ k. (f k, g k))),
      );
  in_order = is.in_order;
}

-- two latches at different places have one key where they have one start
start_keys : (x y : Init) (i j : ℕ) → i ≢ j → (◌≡◌ {A = ℕ × ℕ} (start_kind x, start_rest x i) (start_kind y, start_rest y j)) ↔ HaveOneStart x y
start_keys init.Zero init.Zero i j apart = ((λ e. tt), (λ h. refl))
start_keys init.One init.One i j apart = ((λ e. tt), (λ h. refl))
start_keys init.Zero init.One i j apart = ((λ e. omega (arith, ap (λ r. r.0) e)), (λ h. absurd h))
start_keys init.Zero init.DontCare i j apart = ((λ e. omega (arith, ap (λ r. r.0) e)), (λ h. absurd h))
start_keys init.Zero init.Unknown i j apart = ((λ e. omega (arith, ap (λ r. r.0) e)), (λ h. absurd h))
start_keys init.One init.Zero i j apart = ((λ e. omega (arith, ap (λ r. r.0) e)), (λ h. absurd h))
start_keys init.One init.DontCare i j apart = ((λ e. omega (arith, ap (λ r. r.0) e)), (λ h. absurd h))
start_keys init.One init.Unknown i j apart = ((λ e. omega (arith, ap (λ r. r.0) e)), (λ h. absurd h))
start_keys init.DontCare init.Zero i j apart = ((λ e. omega (arith, ap (λ r. r.0) e)), (λ h. absurd h))
start_keys init.DontCare init.One i j apart = ((λ e. omega (arith, ap (λ r. r.0) e)), (λ h. absurd h))
start_keys init.DontCare init.DontCare i j apart = ((λ e. apart (ap (λ r. r.1) e)), (λ h. absurd h))
start_keys init.DontCare init.Unknown i j apart = ((λ e. apart (ap (λ r. r.1) e)), (λ h. absurd h))
start_keys init.Unknown init.Zero i j apart = ((λ e. omega (arith, ap (λ r. r.0) e)), (λ h. absurd h))
start_keys init.Unknown init.One i j apart = ((λ e. omega (arith, ap (λ r. r.0) e)), (λ h. absurd h))
start_keys init.Unknown init.DontCare i j apart = ((λ e. apart (ap (λ r. r.1) e)), (λ h. absurd h))
start_keys init.Unknown init.Unknown i j apart = ((λ e. apart (ap (λ r. r.1) e)), (λ h. absurd h))

pub starts_is : (starts : List Init) (table : List (ℕ × ℕ)) (blocks : List ℕ) → length blocks ≡ length starts → AreDistinct table → IsNumberedBy (start_key starts) table blocks → IsByStarts starts blocks
starts_is starts table blocks each distinct is = record {
  each = each;
  same = λ i j a b apart.
      let one = number_key (start_key starts) table blocks distinct is i j (omega (arith, a, each)) (omega (arith, b, each)) in
      let two = start_keys (start_at starts i) (start_at starts j) i j apart in
      ((λ e. two.0 (one.0 e)), (λ h. one.1 (two.1 h)));
  in_order = is.in_order;
}
