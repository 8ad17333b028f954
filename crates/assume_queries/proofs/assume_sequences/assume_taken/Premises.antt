-- What the comparisons ask of a premise, and the premise over more inputs.
use Rattle.std.proofs.Common.{◌≡◌, ℕ, zero, suc, ◌+◌, ◌<◌, ◌≤◌, Bool, false, List, [], ◌∷◌, ◌++◌, length, replicate, get_or, refl, sym, ◌∙◌, ap, subst, arith, length-append}
use Rattle.std.proofs.lemmas.List.{length-replicate}
use Rattle.std.proofs.lemmas.List.Elements.{All-weaker}
use Rattle.circuit_theory.specs.Sizes.{IsWeight}
use Rattle.flat_net.specs.View.{NetView, circuit_of}
use Rattle.assume_laws.specs.Assume.{Assumption}
use Rattle.assume_laws.proofs.assume_shape.Shapes.{shapes_are_assumptions}
use Rattle.assume_queries.specs.assume_sequences.Filled.{bit_of}
use Rattle.assume_queries.specs.declared.assume_sequences.premise.Premise.{Premise}
use Rattle.assume_queries.specs.assume_sequences.Assumed.{IsAssumedBy, CanBeAssumed}
use Rattle.assume_queries.specs.assume_sequences.assume_taken.Asked.{IsKeptRow}
use Rattle.assume_queries.specs.assume_sequences.assume_taken.Premises.{IsPremiseOf}
use Rattle.assume_queries.specs.assume_sequences.assume_taken.Taken.{assumed_by}
use Rattle.assume_queries.proofs.assume_sequences.assume_taken.Shapes.{below}

module _ (names : List (List ℕ)) (c : NetView) (count : ℕ) (p : Premise) (is : IsPremiseOf names c count p) (within : length names ≤ count) where
  -- the net is an assumption that has the function, and which the row meets
  pub is_assumed : IsAssumedBy p count c is.assumed.order is.assumed.shape.output.signal.0 (length c.drivers)
  is_assumed = record {
    function = is.function;
    assumption = (shapes_are_assumptions c names is.assumed.order is.assumed.others is.assumed.sound is.assumed.shape is.assumed.numbers).0;
    below = All-weaker (λ i. i < length names) (λ i. i < count) (λ i h. omega (arith, h, within)) is.assumed.order (below c names is.assumed.shape is.assumed.order is.assumed.others is.assumed.numbers);
    row = record { meets = is.kept.meets.meets; others = is.kept.meets.others; above = λ i h. is.kept.meets.above i (omega (arith, h, within)) };
  }

  pub can_be_assumed : CanBeAssumed p count
  can_be_assumed = record {
    net = c;
    inputs = is.assumed.order;
    output = is.assumed.shape.output.signal.0;
    size = length c.drivers;
    is = is_assumed;
    weighs = subst (IsWeight (circuit_of c) (is.assumed.shape.output.signal.0 ∷ [])) (sym is.weight_is) is.assumed.weighs;
    bits = is.bits;
  }

no_bit : (n i : ℕ) → get_or (replicate n false) i false ≡ false
no_bit zero i = refl
no_bit (suc n) zero = refl
no_bit (suc n) (suc i) = no_bit n i

same_bit : (row : List Bool) (n i : ℕ) → bit_of (row ++ replicate n false) i ≡ bit_of row i
same_bit [] n i = no_bit n i
same_bit (b ∷ row) n zero = refl
same_bit (b ∷ row) n (suc i) = same_bit row n i

-- the row with zeros behind it is that row
pub kept_longer : (c : Assumption) (count more : ℕ) (row : List Bool) → IsKeptRow c count (bit_of row) → IsKeptRow c count (bit_of (row ++ replicate more false))
kept_longer c count more row kept = let same : bit_of row ≡ bit_of (row ++ replicate more false) = λ k i. sym (same_bit row more i) k in subst (IsKeptRow c count) same kept

pub widened : (names : List (List ℕ)) (c : NetView) (count more : ℕ) (p : Premise) (row : List Bool) → row ≡ p.meeting ++ replicate more false → IsPremiseOf names c count p →
    IsPremiseOf names c (count + more) (record { own = p.own; weight = p.weight; meeting = row })
widened names c count more p row e is = record {
  assumed = is.assumed;
  function = is.function;
  weight_is = is.weight_is;
  kept = subst (λ (r : List Bool). IsKeptRow (assumed_by is.assumed) (length names) (bit_of r)) (sym e) (kept_longer (assumed_by is.assumed) (length names) more p.meeting is.kept);
  bits = ap length e ∙ (length-append p.meeting (replicate more false) ∙ (ap (λ n. n + length (replicate more false)) is.bits ∙ ap (λ n. count + n) (length-replicate more false)));
}
