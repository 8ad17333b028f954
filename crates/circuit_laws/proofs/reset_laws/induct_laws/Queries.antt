-- Assignments of inputs and blocks, and values that are constant on the blocks.
use Rattle.std.proofs.Common.{◌≡◌, ℕ, Bool, true, false, cond, List, [], ◌∷◌, ◌++◌, map, refl, sym, ◌∙◌, ap, subst, arith, inl, inr, Option, Some, None}
use Rattle.std.specs.Prelude.{◌⊎◌, ◌==◌}
use Rattle.std.specs.List.{Contains}
use Rattle.std.proofs.lemmas.List.Elements.{All-contains}
use Rattle.circuit_theory.specs.Cover.{cover_value}
use Rattle.circuit_theory.specs.Circuit.{Circuit, Equation, Gate, Latch, Port, Named, IsLatch, Holds, Meets, IsSingleDriven}
use Rattle.circuit_theory.specs.Run.{Extends}
use Rattle.circuit_theory.specs.Tree.{Tree, Trees, StandsBeside, IsInputNumber, tree_value, tree_values}
use Rattle.circuit_theory.specs.Cone.{Source, AnInput, ALatch}
use Rattle.circuit_theory.specs.Joined.{Either, joined}
use Rattle.circuit_theory.specs.Query.{IsSame}
use Rattle.circuit_theory.specs.Blocks.{IsConstantOn}
use Rattle.circuit_laws.proofs.Agreement.{value_of_number, first_value, value_found}
use Rattle.circuit_theory.proofs.Inputs.{beside_is_input, test_same, test_refl}
use Rattle.circuit_laws.proofs.JoinedParts.{joined_same, joined_single, joined_number_once}
use Rattle.circuit_theory.proofs.Lists.{Contains-head, Contains-tail, Contains-cases}
use Rattle.circuit_laws.specs.reset_laws.induct_laws.Queries.{BlockUnfolds, BlockUnfoldsAll, ReadsBlocks, AssignmentsAreValues, block_query}
use Rattle.circuit_laws.specs.reset_laws.induct_laws.Laws.{BlocksAreVariables, QueriesDecide}
use Rattle.circuit_laws.proofs.finite_laws.Deciding.{if_same}
use Rattle.circuit_laws.proofs.JoinedValues.{joined_values}

-- what the assignment has to give inputs and latches
module _ {P : Type 0} (c : Circuit P) (order : List ℕ) (block : P → ℕ) (a : ℕ → Source → Bool) (x : P → Bool) (meets : Meets c x)
    (inputs : (p : P) (i : ℕ) → IsInputNumber c order p i → a i AnInput ≡ x p) (latches : (name : List ℕ) (p next : P) → IsLatch c name p next → a (block p) ALatch ≡ x p) where
  mutual
    unfolding tree_value

    tree_reads : {p : P} {tree : Tree Source} → BlockUnfolds c order block p tree → tree_value a tree ≡ x p
    tree_reads {p} (BlockUnfolds.input {i = i} h) = inputs p i h
    tree_reads {p} (BlockUnfolds.latch {name = name} {next = next} h) = latches name p next h
    tree_reads {p} (BlockUnfolds.gate {fanins = fanins} {cover = cover} eq each) =
        ap (cover_value cover) (trees_read each) ∙ sym (All-contains (Holds x) c.equations _ meets eq)
    tree_reads {p} (BlockUnfolds.port eq from) = tree_reads from ∙ sym (All-contains (Holds x) c.equations _ meets eq)

    trees_read : {ps : List P} {trees : Trees Source} → BlockUnfoldsAll c order block ps trees → tree_values a trees ≡ map x ps
    trees_read BlockUnfoldsAll.none = refl
    trees_read (BlockUnfoldsAll.more one rest) =
        let head = tree_reads one in let tail = trees_read rest in cc

  pub reads_blocks : ReadsBlocks c order block a x
  reads_blocks p tree h = tree_reads h

-- the value of the first latch of the block
abbrev value_of_block : {P : Type 0} → (P → ℕ) → (P → Bool) → List (Equation P) → ℕ → Bool
value_of_block block x [] k = false
value_of_block block x (Gate out fanins cover ∷ es) k = value_of_block block x es k
value_of_block block x (Latch name out next ∷ es) k = cond (block out == k) (x out) (value_of_block block x es k)
value_of_block block x (Port out from ∷ es) k = value_of_block block x es k

block_value : {P : Type 0} (block : P → ℕ) (x : P → Bool) (es : List (Equation P)) →
    ((name name' : List ℕ) (u next v next' : P) → Contains es (Latch name u next) → Contains es (Latch name' v next') → block u ≡ block v → x u ≡ x v) →
    (name : List ℕ) (u next : P) → Contains es (Latch name u next) → value_of_block block x es (block u) ≡ x u
block_value block x [] alike name u next h = absurd (omega (arith, h.1))
block_value {P} block x (Gate out fanins cover ∷ es) alike name u next h =
    go (λ k. block_value block x es (λ m n p s q t i j. alike m n p s q t (Contains-tail _ _ es i) (Contains-tail _ _ es j)) name u next k) (Contains-cases (Gate out fanins cover) (Latch name u next) es h)
  where
    go : (Contains es (Latch name u next) → value_of_block block x es (block u) ≡ x u) → (Gate out fanins cover ≡ Latch name u next) ⊎ Contains es (Latch name u next) → value_of_block block x es (block u) ≡ x u
    go later (inl e) = cc
    go later (inr k) = later k
block_value {P} block x (Port out from ∷ es) alike name u next h =
    go (λ k. block_value block x es (λ m n p s q t i j. alike m n p s q t (Contains-tail _ _ es i) (Contains-tail _ _ es j)) name u next k) (Contains-cases (Port out from) (Latch name u next) es h)
  where
    go : (Contains es (Latch name u next) → value_of_block block x es (block u) ≡ x u) → (Port out from ≡ Latch name u next) ⊎ Contains es (Latch name u next) → value_of_block block x es (block u) ≡ x u
    go later (inl e) = cc
    go later (inr k) = later k
block_value {P} block x (Latch own out to ∷ es) alike name u next h =
    go (λ k. block_value block x es (λ m n p s q t i j. alike m n p s q t (Contains-tail _ _ es i) (Contains-tail _ _ es j)) name u next k) (block out == block u) refl (Contains-cases (Latch own out to) (Latch name u next) es h)
  where
    out_is : Equation P → P
    out_is (Gate o fanins cover) = o
    out_is (Latch n o t) = o
    out_is (Port o from) = o

    go : (Contains es (Latch name u next) → value_of_block block x es (block u) ≡ x u) → (t : Bool) → (block out == block u) ≡ t → (Latch own out to ≡ Latch name u next) ⊎ Contains es (Latch name u next) →
        cond (block out == block u) (x out) (value_of_block block x es (block u)) ≡ x u
    go later true q k = ap (λ t. cond t (x out) (value_of_block block x es (block u))) q ∙ alike own name out to u next (Contains-head (Latch own out to) es) h (test_same (block out) (block u) q)
    go later false q (inl e) = absurd (let z : (block out == block u) ≡ true = subst (λ (w : P). (block out == block w) ≡ true) (ap out_is e) (test_refl (block out)) in cc)
    go later false q (inr k) = ap (λ t. cond t (x out) (value_of_block block x es (block u))) q ∙ later k

module _ {P : Type 0} (c : Circuit P) (order : List ℕ) (block : P → ℕ) where
  -- the assignment of values that are constant on the blocks
  abbrev assigned : (P → Bool) → ℕ → Source → Bool
  assigned x i AnInput = first_value (value_of_number x c.inputs order i) None
  assigned x k ALatch = value_of_block block x c.equations k

  assigned_reads : (x : P → Bool) → Meets c x → IsConstantOn c order block x → ReadsBlocks c order block (assigned x) x
  assigned_reads x meets constant = reads_blocks c order block (assigned x) x meets inputs (block_value block x c.equations constant.latches)
    where
      inputs : (p : P) (i : ℕ) → IsInputNumber c order p i → assigned x i AnInput ≡ x p
      inputs p i h =
          let f = value_found x c.inputs order p i h in
          ap (λ o. first_value o None) f.2 ∙ constant.inputs f.0 p i f.1 h

  module _ (same : (p q : P) → (p ≡ q) ⊎ (p ≡ q → ⊥)) (single : IsSingleDriven c) (once : (p : P) (i j : ℕ) → IsInputNumber c order p i → IsInputNumber c order p j → i ≡ j)
      (values : (x : P → Bool) → (v : P → Bool) × Extends c x v) (a : ℕ → Source → Bool) where
    -- the number of the input at the place, if it is one
    abbrev number_at : List (Named P) → List ℕ → P → Option ℕ
    number_at [] js p = None
    number_at (n ∷ ns) [] p = None
    number_at (n ∷ ns) (j ∷ js) p = if_same (same n.place p) (Some j) (number_at ns js p)

    number_stands : (ns : List (Named P)) (js : List ℕ) (p : P) (i : ℕ) → number_at ns js p ≡ Some i → StandsBeside ns js p i
    number_stands [] js p i h = absurd (let e : None ≡ Some i = h in cc)
    number_stands (n ∷ ns) [] p i h = absurd (let e : None ≡ Some i = h in cc)
    number_stands (n ∷ ns) (j ∷ js) p i h = go (λ k. number_stands ns js p i k) (same n.place p) h
      where
        unwrap : Some j ≡ Some i → j ≡ i
        unwrap q = cc

        go : (number_at ns js p ≡ Some i → StandsBeside ns js p i) → (d : (n.place ≡ p) ⊎ (n.place ≡ p → ⊥)) → if_same d (Some j) (number_at ns js p) ≡ Some i → ((n.place ≡ p) × (j ≡ i)) ⊎ StandsBeside ns js p i
        go later (inl e) q = inl (e, unwrap q)
        go later (inr m) q = inr (later q)

    number_there : (ns : List (Named P)) (js : List ℕ) (p : P) (i : ℕ) → StandsBeside ns js p i → (k : ℕ) × (number_at ns js p ≡ Some k)
    number_there [] js p i h = absurd h
    number_there (n ∷ ns) [] p i h = absurd h
    number_there (n ∷ ns) (j ∷ js) p i h = go (λ k. number_there ns js p i k) (same n.place p) h
      where
        go : (StandsBeside ns js p i → (k : ℕ) × (number_at ns js p ≡ Some k)) → (d : (n.place ≡ p) ⊎ (n.place ≡ p → ⊥)) → ((n.place ≡ p) × (j ≡ i)) ⊎ StandsBeside ns js p i → (k : ℕ) × (if_same d (Some j) (number_at ns js p) ≡ Some k)
        go later (inl e) k = (j, refl)
        go later (inr m) (inl k) = absurd (m k.0)
        go later (inr m) (inr k) = later k

    -- an input has its number's bit, and a latch its block's
    abbrev bit_of : Option ℕ → P → Bool
    bit_of (Some i) p = a i AnInput
    bit_of None p = a (block p) ALatch

    abbrev chosen : P → Bool
    chosen p = bit_of (number_at c.inputs order p) p

    chosen_input : (p : P) (i : ℕ) → IsInputNumber c order p i → chosen p ≡ a i AnInput
    chosen_input p i h =
        let k = number_there c.inputs order p i h in
        ap (λ o. bit_of o p) k.1 ∙ ap (λ j. a j AnInput) (once p k.0 i (number_stands c.inputs order p k.0 k.1) h)

    chosen_latch : (name : List ℕ) (p next : P) → IsLatch c name p next → chosen p ≡ a (block p) ALatch
    chosen_latch name p next l = go (number_at c.inputs order p) refl
      where
        go : (o : Option ℕ) → number_at c.inputs order p ≡ o → bit_of o p ≡ a (block p) ALatch
        go None q = refl
        go (Some i) q = absurd (single.no_input (Latch name p next) l (beside_is_input c.inputs order p i (number_stands c.inputs order p i q)))

    abbrev chosen_values : P → Bool
    chosen_values = (values chosen).0

    value_input : (p : P) (i : ℕ) → IsInputNumber c order p i → a i AnInput ≡ chosen_values p
    value_input p i h = sym ((values chosen).1.sources p (inl (beside_is_input c.inputs order p i h)) ∙ chosen_input p i h)

    value_latch : (name : List ℕ) (p next : P) → IsLatch c name p next → a (block p) ALatch ≡ chosen_values p
    value_latch name p next l = sym ((values chosen).1.sources p (inr (name, next, l)) ∙ chosen_latch name p next l)

    values_of : (x : P → Bool) × Meets c x × IsConstantOn c order block x × ReadsBlocks c order block a x
    values_of = (chosen_values, (values chosen).1.meets, constant, reads_blocks c order block a chosen_values (values chosen).1.meets value_input value_latch)
      where
        constant : IsConstantOn c order block chosen_values
        constant = record {
          inputs = λ p q i h k. sym (value_input p i h) ∙ value_input q i k;
          latches = λ name name' u next v next' l m e. sym (value_latch name u next l) ∙ (ap (λ k. a k ALatch) e ∙ value_latch name' v next' m);
        }

pub blocks_are_variables : BlocksAreVariables
blocks_are_variables a b m n left right block na nb long = record {
  values = λ bits. values_of (joined a b) (left ++ right) block joined_same (joined_single a b m n na nb) (λ p i j h k. joined_number_once a b m n na nb left right long p i j h k) (joined_values a b m n na nb) bits;
  assignment = λ x meets constant. (assigned (joined a b) (left ++ right) block x, assigned_reads (joined a b) (left ++ right) block x meets constant);
}

pub queries_decide : QueriesDecide
queries_decide a b m n left right block na nb long p q l r ul ur = (there, back)
  where
    both_ways : AssignmentsAreValues (joined a b) (left ++ right) block
    both_ways = blocks_are_variables a b m n left right block na nb long

    there : IsSame (block_query l r) → (x : Either ℕ ℕ → Bool) → Meets (joined a b) x → IsConstantOn (joined a b) (left ++ right) block x → x p ≡ x q
    there same x meets constant =
        let w = both_ways.assignment x meets constant in
        sym (w.1 p l ul) ∙ (same w.0 refl ∙ w.1 q r ur)

    back : ((x : Either ℕ ℕ → Bool) → Meets (joined a b) x → IsConstantOn (joined a b) (left ++ right) block x → x p ≡ x q) → IsSame (block_query l r)
    back equal bits care =
        let w = both_ways.values bits in
        w.3 p l ul ∙ (equal w.0 w.1 w.2 ∙ sym (w.3 q r ur))
