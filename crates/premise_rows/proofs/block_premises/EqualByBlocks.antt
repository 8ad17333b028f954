-- Three latches that turn with an input are one block, the coarsest inductive partition, and the outputs are equal over it.
use Rattle.std.proofs.Common.{◌≡◌, ◌∙◌, ℕ, zero, suc, ◌<◌, Bool, false, List, [], ◌∷◌, slice_get, Some, refl, sym, ap, ap₂, arith, inl, inr}
use Rattle.std.specs.Prelude.{codes}
use Rattle.std.specs.List.{Contains}
use Rattle.std.proofs.lemmas.List.Elements.{All-contains, All-cons, All-nil}
use Rattle.std.proofs.lemmas.Option.{slice_get_within}
use Rattle.circuit_theory.specs.Agree.{IsPair}
use Rattle.circuit_theory.specs.Circuit.{Circuit, Gate, Named, IsLatch, Holds}
use Rattle.circuit_theory.specs.Cover.{cover_value}
use Rattle.circuit_theory.specs.Interface.{AreNumbersOf}
use Rattle.circuit_theory.specs.Joined.{Either, Left, Right, joined}
use Rattle.circuit_theory.proofs.Lists.{only, of_at}
use Rattle.call_rows.proofs.circuit_samples.Each.{each_latch}
use Rattle.flat_net.specs.View.{circuit_of}
use Rattle.block_refine.specs.latch_blocks.Blocks.{AreInOrder}
use Rattle.block_refine.specs.latch_blocks.Partitions.{block_of}
use Rattle.block_refine.specs.latch_blocks.QueryLaws.{AreBlockValues}
use Rattle.block_refine.specs.Refining.{AreCoarsest}
use Rattle.block_refine.proofs.Agreeing.{outputs_agree}
use Rattle.induct.specs.declared.block_outputs.answer.OutputAnswer.TheVariants as answer
use Rattle.induct.specs.declared.block_outputs.outputs.OutputPair.{OutputPair}
use Rattle.pair_texts.specs.design_rows.Designs.{xor_cover}
use Rattle.premise_rows.proofs.block_premises.TurningNets.{one_is_sound, two_is_sound}
use Rattle.premise_rows.specs.block_premises.EqualByBlocks.{one_turning, two_turning, a_numbers, one_block, AreEqualByBlocks}

abbrev both : Circuit (Either ℕ ℕ)
both = joined (circuit_of one_turning) (circuit_of two_turning)

abbrev block : Either ℕ ℕ → ℕ
block = block_of one_turning two_turning one_block

q_latch : IsLatch both (codes "q") (Left 1) (Left 2)
q_latch = (1, omega arith, refl)

r_latch : IsLatch both (codes "r") (Right 1) (Right 3)
r_latch = (4, omega arith, refl)

s_latch : IsLatch both (codes "s") (Right 2) (Right 4)
s_latch = (5, omega arith, refl)

-- each latch is of the one block
in_block : (name : List ℕ) (u next : Either ℕ ℕ) → IsLatch both name u next → block u ≡ 0
in_block name u next l = each_latch (λ m v to. block v ≡ 0) both.equations (refl, (refl, (refl, tt))) name u next l

-- and starts with 0
at_zero : (name : List ℕ) (u next : Either ℕ ℕ) → IsLatch both name u next → Contains both.starts (record { place = u; bit = false })
at_zero name u next l = each_latch (λ m v to. Contains both.starts (record { place = v; bit = false })) both.equations ((0, omega arith, refl), ((1, omega arith, refl), ((2, omega arith, refl), tt))) name u next l

module _ (x : Either ℕ ℕ → Bool) (values : AreBlockValues one_turning two_turning a_numbers one_block x) where
  inputs_same : x (Right 0) ≡ x (Left 0)
  inputs_same = values.1.inputs (Right 0) (Left 0) 0 (inr (inl (refl, refl))) (inl (refl, refl))

  r_same : x (Right 1) ≡ x (Left 1)
  r_same = values.1.latches (codes "r") (codes "q") (Right 1) (Right 3) (Left 1) (Left 2) r_latch q_latch refl

  s_same : x (Right 2) ≡ x (Left 1)
  s_same = values.1.latches (codes "s") (codes "q") (Right 2) (Right 4) (Left 1) (Left 2) s_latch q_latch refl

  abbrev turn : Bool → Bool → Bool
  turn a latch = cover_value xor_cover (a ∷ latch ∷ [])

  left_turns : x (Left 2) ≡ turn (x (Left 0)) (x (Left 1))
  left_turns = All-contains (Holds x) both.equations (Gate (Left 2) (Left 0 ∷ Left 1 ∷ []) xor_cover) values.0 (0, omega arith, refl)

  r_turns : x (Right 3) ≡ turn (x (Right 0)) (x (Right 2))
  r_turns = All-contains (Holds x) both.equations (Gate (Right 3) (Right 0 ∷ Right 2 ∷ []) xor_cover) values.0 (2, omega arith, refl)

  s_turns : x (Right 4) ≡ turn (x (Right 0)) (x (Right 1))
  s_turns = All-contains (Holds x) both.equations (Gate (Right 4) (Right 0 ∷ Right 1 ∷ []) xor_cover) values.0 (3, omega arith, refl)

  -- each latch takes over one value
  next_is : (name : List ℕ) (u next : Either ℕ ℕ) → IsLatch both name u next → x next ≡ turn (x (Left 0)) (x (Left 1))
  next_is name u next l =
      each_latch (λ m v to. x to ≡ turn (x (Left 0)) (x (Left 1))) both.equations (left_turns, (r_turns ∙ ap₂ turn inputs_same s_same, (s_turns ∙ ap₂ turn inputs_same r_same, tt))) name u next l

in_order : AreInOrder one_block
in_order zero y h low = absurd (let none : y < 0 = low in omega (arith, none))
in_order (suc zero) y h low = absurd (let none : y < 0 = low in omega (arith, none))
in_order (suc (suc zero)) y h low = absurd (let none : y < 0 = low in omega (arith, none))
in_order (suc (suc (suc j))) y h low = absurd (let within : suc (suc (suc j)) < 3 = h in omega (arith, within))

coarsest : AreCoarsest one_turning two_turning a_numbers one_block
coarsest = record {
  each = refl;
  in_order = in_order;
  coarsest = record {
    inductive = record {
      starts = λ name name' u next v next' l r apart same. (false, at_zero name u next l, at_zero name' v next' r);
      steps = λ x meets constant name name' u next v next' l r same. next_is x (meets, constant) name u next l ∙ sym (next_is x (meets, constant) name' v next' r);
    };
    coarsest = λ other inductive name name' u next v next' l r same. in_block name u next l ∙ sym (in_block name' v next' r);
  };
}

alone : (name : List ℕ) (i j : ℕ) (x : List ℕ) → slice_get (name ∷ []) i ≡ Some x → slice_get (name ∷ []) j ≡ Some x → i ≡ j
alone name i j x h k =
    let a : i < 1 = slice_get_within (name ∷ []) i x h in
    let b : j < 1 = slice_get_within (name ∷ []) j x k in
    omega (arith, a, b)

-- the one input has number 0
one_number : (name : List ℕ) → AreNumbersOf (name ∷ []) (name ∷ []) (0 ∷ []) (0 ∷ [])
one_number name = record { each = refl; distinct = λ i j d low inside. absurd (let one : j < 1 = inside in omega (arith, low, one)); common = common; left_out = λ k i other h none at. absurd (none (of_at (name ∷ []) k other h)) }
  where
    common : (k i : ℕ) (other : List ℕ) → slice_get (name ∷ []) k ≡ Some other → slice_get (name ∷ []) i ≡ Some other → slice_get (0 ∷ []) k ≡ Some i
    common zero zero other h g = refl
    common zero (suc i) other h g = absurd (let one : suc i < 1 = slice_get_within (name ∷ []) (suc i) other g in omega (arith, one))
    common (suc k) i other h g = absurd (let one : suc k < 1 = slice_get_within (name ∷ []) (suc k) other h in omega (arith, one))

equal : (p q : ℕ) → IsPair [] (circuit_of one_turning) (circuit_of two_turning) p q → (x : Either ℕ ℕ → Bool) → AreBlockValues one_turning two_turning a_numbers one_block x → x (Left p) ≡ x (Right q)
equal p q (IsPair.nexts h l r) x values = absurd (omega (arith, h.1))
equal p q (IsPair.outputs {name = name} l r) x values =
    let left : 1 ≡ p = ap (λ (n : Named ℕ). n.place) (only (record { name = codes "y"; place = 1 }) (record { name = name; place = p }) l) in
    let right : 2 ≡ q = ap (λ (n : Named ℕ). n.place) (only (record { name = codes "y"; place = 2 }) (record { name = name; place = q }) r) in
    ap (λ k. x (Left k)) (sym left) ∙ (sym (s_same x values) ∙ ap (λ k. x (Right k)) right)

pub are_equal_by_blocks : AreEqualByBlocks
are_equal_by_blocks = record {
  left_sound = one_is_sound;
  right_sound = two_is_sound;
  comparable = record { distinct = λ i j x h k. alone (codes "y") i j x h k; few = omega arith };
  left_numbers = one_number (codes "a");
  right_numbers = one_number (codes "a");
  coarsest = coarsest;
  equal = equal;
  answered = λ g conflicts. (record { name_is = refl; other = 2; other_is = refl; answer_is = λ x values. sym (s_same x values) }, tt);
  all_equal = All-cons (λ (pair : OutputPair). pair.answer ≡ answer.Equal) (record { name = codes "y"; answer = answer.Equal }) [] refl (All-nil (λ (pair : OutputPair). pair.answer ≡ answer.Equal));
  agree = outputs_agree one_turning two_turning (codes "a" ∷ []) a_numbers one_block (one_number (codes "a")) (one_number (codes "a")) coarsest equal;
}
