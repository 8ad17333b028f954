-- How a pass begins, goes on and ends.
use Rattle.std.proofs.Common.{◌≡◌, ◌≢◌, ◌∙◌, ◌+◌, ◌<◌, ◌≤◌, ◌⊎◌, ℕ, Bool, true, false, List, ◌++◌, length, map, refl, sym, ap, subst, arith, inl, inr}
use Rattle.std.proofs.Math.ListN.{length-append}
use Rattle.std.proofs.lemmas.Option.{slice_get_within, get_or_from_slice_get}
use Rattle.circuit_theory.specs.Joined.{Either, joined}
use Rattle.circuit_theory.specs.Blocks.{Refines}
use Rattle.circuit_theory.proofs.Lists.{length-map}
use Rattle.circuit_theory.proofs.Numbers.{slice_get-map}
use Rattle.flat_net.specs.declared.parts.LatchAt.{LatchAt}
use Rattle.flat_net.specs.View.{NetView, circuit_of}
use Rattle.flat_net.specs.Sound.{IsSound}
use Rattle.flat_net.proofs.Nets.{some_at}
use Rattle.pair_decide.specs.declared.query.Proof.{Proof}
use Rattle.circuit_laws.proofs.reset_laws.induct_laws.Partitions.{constant_on_finer}
use Rattle.block_refine.specs.latch_blocks.Blocks.{block_at, bit_at, IsSplit}
use Rattle.block_refine.specs.latch_blocks.Laws.{pairs_alike}
use Rattle.block_refine.specs.latch_blocks.Partitions.{block_of, starts_of, nexts_of}
use Rattle.block_refine.specs.latch_blocks.Signals.{net_weight}
use Rattle.block_refine.proofs.latch_blocks.Counting.{split_refines, split_has_fewer_pairs}
use Rattle.block_refine.proofs.latch_blocks.Going.{partition_splits, partition_ends}
use Rattle.block_refine.proofs.latch_blocks.Placing.{left_next, right_next, stands, place_of, place_inside, block_is}
use Rattle.block_refine.specs.declared.block_graph.nets.BlockNets.{BlockNets}
use Rattle.block_refine.specs.declared.block_graph.graph.BlockGraph.{BlockGraph}
use Rattle.block_refine.specs.block_graph.Graph.{IsBlockGraph}
use Rattle.block_refine.specs.block_graph.Comparing.{AreConstant}
use Rattle.block_refine.specs.declared.pass.Pass.{Pass}
use Rattle.block_refine.specs.declared.pass.Round.{Round}
use Rattle.block_refine.specs.declared.pass.Round.TheVariants as round
use Rattle.block_refine.specs.Asking.{IsNext, TakeOneValue, TellApart, IsLimitAt}
use Rattle.block_refine.specs.Passes.{AreMembers, IsUnderWay, IsOnPass, first_of, IsPass, IsLimitOf, IsSteady, IsRound, IsEndRound, IsLimitRound}
use Rattle.block_refine.proofs.block_graph.Making.{blocks_few}
use Rattle.block_refine.proofs.block_graph.Numbered.{light_few}
use Rattle.block_refine.specs.Refining.{AreCoarsest, IsSplitLimit, IsTurn}

pub nexts_long : (a b : NetView) → length (nexts_of a b) ≡ length a.latches + length b.latches
nexts_long a b =
    let both = length-append (map left_next a.latches) (map right_next b.latches) in
    let left = length-map left_next a.latches in
    let right = length-map right_next b.latches in
    omega (arith, both, left, right)

below_or_here : (k n : ℕ) → k < n + 1 → (k < n) ⊎ (k ≡ n)
below_or_here k n h = grind arith

-- what is one block by the latches' places is one of the circuits' latches
refines : (a b : NetView) → IsSound a → IsSound b → (fine coarse : List ℕ) → length fine ≡ length a.latches + length b.latches →
    ((i j : ℕ) → i < length fine → j < length fine → block_at fine i ≡ block_at fine j → block_at coarse i ≡ block_at coarse j) → Refines (joined (circuit_of a) (circuit_of b)) (block_of a b fine) (block_of a b coarse)
refines a b sound_a sound_b fine coarse each finer name name' u next v later h k e =
    let s = stands a b sound_a sound_b name u next h in
    let t = stands a b sound_a sound_b name' v later k in
    let first = place_inside a b sound_a sound_b u next s in
    let second = place_inside a b sound_a sound_b v later t in
    block_is a b sound_a sound_b coarse u next s
    ∙ finer (place_of a b sound_a sound_b u next s) (place_of a b sound_a sound_b v later t) (omega (arith, first, each)) (omega (arith, second, each))
    (sym (block_is a b sound_a sound_b fine u next s) ∙ e ∙ block_is a b sound_a sound_b fine v later t)
    ∙ sym (block_is a b sound_a sound_b coarse v later t)

pub pass_begins : (n : BlockNets) → IsSound n.left.now → IsSound n.right.now → (s : Pass) → IsOnPass n → s.blocks ≡ n.blocks.now → AreMembers n.blocks.now s.firsts.items → s.split ≡ false → IsPass n 0 s
pass_begins n sound_a sound_b s on same members unsplit = record {
  way = subst (IsUnderWay n) (sym same) on.way;
  each = ap length same;
  few = let few = blocks_few n on.ready sound_a sound_b in omega (arith, few, ap length same);
  members = subst (λ (bs : List ℕ). AreMembers bs s.firsts.items) (sym same) members;
  finer = λ i j l m e. subst (λ (bs : List ℕ). block_at bs i ≡ block_at bs j) same e;
  fewer = λ e. absurd (let no : false ≡ true = sym unsplit ∙ e in let none : ⊥ = cc in none);
  same = λ e. same;
  agreed = λ e j l. absurd (omega (arith, l));
}

module _ (n : BlockNets) (sound_a : IsSound n.left.now) (sound_b : IsSound n.right.now) where
  module _ (j : ℕ) (s : Pass) (pass : IsPass n j s) where
    -- where the latch takes over what that one does
    pub pass_agrees : TakeOneValue n (first_of s j) j → IsPass n (j + 1) s
    pass_agrees one = record {
      way = pass.way;
      each = pass.each;
      few = pass.few;
      members = pass.members;
      finer = pass.finer;
      fewer = pass.fewer;
      same = pass.same;
      agreed = λ e i l. by e i (below_or_here i j l);
    }
      where
        by : s.split ≡ false → (i : ℕ) → (i < j) ⊎ (i ≡ j) → TakeOneValue n (first_of s i) i
        by e i (inl l) = pass.agreed e i l
        by e i (inr same) = subst (λ k. TakeOneValue n (first_of s k) k) (sym same) one

  module _ (count j : ℕ) (s : Pass) (pass : IsPass n count s) where
    -- the latch that stands for a block is in it
    pub first_beside : j < length s.blocks → (first_of s j < length s.blocks) × (block_at s.blocks (first_of s j) ≡ block_at s.blocks j)
    first_beside inside =
        let k = pass.members.each j inside in
        (pass.members.inside (block_at s.blocks j) k, pass.members.own (block_at s.blocks j) k)

    -- where values that are constant on the blocks tell the two apart, and the blocks are split by them
    pub pass_splits : (next : ℕ) (t : Pass) (x : Either ℕ ℕ → Bool) → AreConstant n x → IsSplit s.blocks (map x (nexts_of n.left.now n.right.now)) t.blocks → AreMembers t.blocks t.firsts.items → t.split ≡ true →
        j < length s.blocks → (p q : Either ℕ ℕ) → IsNext n (first_of s j) p → IsNext n j q → x p ≢ x q → IsPass n next t
    pass_splits next t x constant split members marked inside p q p_is q_is apart =
        let a = n.left.now in
        let b = n.right.now in
        let order = n.orders.now.left ++ n.orders.now.right in
        record {
          way = partition_splits a b sound_a sound_b order s.blocks t.blocks x pass.way constant.0
              (constant_on_finer (joined (circuit_of a) (circuit_of b)) order (block_of a b s.blocks) (block_of a b n.blocks.now) x (refines a b sound_a sound_b s.blocks n.blocks.now pass.way.each pass.finer) constant.1) split;
          each = split.each ∙ pass.each;
          few = omega (arith, split.each, pass.few);
          members = members;
          finer = λ i k l m e.
              let low : i < length s.blocks = omega (arith, l, split.each) in
              let high : k < length s.blocks = omega (arith, m, split.each) in
              pass.finer i k low high (split_refines s.blocks t.blocks (map x (nexts_of a b)) split i k low high e);
          fewer = λ e. omega (arith, less, most s.split refl);
          same = λ e. absurd (let no : true ≡ false = sym marked ∙ e in let none : ⊥ = cc in none);
          agreed = λ e. absurd (let no : true ≡ false = sym marked ∙ e in let none : ⊥ = cc in none);
        }
      where
        first : (first_of s j < length s.blocks) × (block_at s.blocks (first_of s j) ≡ block_at s.blocks j)
        first = first_beside inside

        bit_is : (i : ℕ) (r : Either ℕ ℕ) → IsNext n i r → bit_at (map x (nexts_of n.left.now n.right.now)) i ≡ x r
        bit_is i r at = get_or_from_slice_get (map x (nexts_of n.left.now n.right.now)) i (x r) false (slice_get-map x (nexts_of n.left.now n.right.now) i r at)

        less : pairs_alike t.blocks < pairs_alike s.blocks
        less = split_has_fewer_pairs s.blocks t.blocks (map x (nexts_of n.left.now n.right.now)) split (first_of s j) j first.0 inside first.1 (λ e. apart (sym (bit_is (first_of s j) p p_is) ∙ e ∙ bit_is j q q_is))

        most : (flag : Bool) → s.split ≡ flag → pairs_alike s.blocks ≤ pairs_alike n.blocks.now
        most true e = let fewer = pass.fewer e in omega (arith, fewer)
        most false e = let one = ap pairs_alike (pass.same e) in omega (arith, one)

    -- the same by the answer to the latch's query
    pub pass_apart : (next : ℕ) (t : Pass) (bits : List Bool) → TellApart n (first_of s j) j bits → IsSplit s.blocks bits t.blocks → AreMembers t.blocks t.firsts.items → t.split ≡ true → j < length s.blocks → IsPass n next t
    pass_apart next t bits told split members marked inside =
        let first = first_beside inside in
        let few = nexts_long n.left.now n.right.now in
        let p = some_at (nexts_of n.left.now n.right.now) (first_of s j) (omega (arith, first.0, few, pass.way.each)) in
        let q = some_at (nexts_of n.left.now n.right.now) j (omega (arith, inside, few, pass.way.each)) in
        pass_splits next t told.x told.constant (subst (λ (bs : List Bool). IsSplit s.blocks bs t.blocks) told.bits_are split) members marked inside p.0 q.0 p.1 q.1 (told.apart p.0 q.0 p.1 q.1)

    -- the limit is that of two latches of one block
    pub pass_limits : (g : BlockGraph) (conflicts : ℕ) (proof : Proof) → j < length s.blocks → IsLimitAt n g conflicts (first_of s j) j proof → IsLimitOf n g conflicts (first_of s j) j proof
    pass_limits g conflicts proof inside asked =
        let first = first_beside inside in
        record { inside = (omega (arith, first.0, pass.each), omega (arith, inside, pass.each)); beside = pass.finer (first_of s j) j first.0 inside first.1; asked = asked }

  -- where no block was split, latches of one block take over one value
  pub pass_ends : (count : ℕ) (s : Pass) → IsPass n count s → length n.blocks.now ≤ count → s.split ≡ false → IsSteady n
  pass_ends count s pass all unsplit i j l m beside p q p_is q_is x constant =
      let f = first_of s i in
      let same = pass.same unsplit in
      let long = ap length same in
      let inside : i < length s.blocks = omega (arith, l, long) in
      let k = pass.members.each i inside in
      let first : f < length s.blocks = pass.members.inside (block_at s.blocks i) k in
      let r = some_at (nexts_of n.left.now n.right.now) f (let few = nexts_long n.left.now n.right.now in omega (arith, first, few, pass.way.each)) in
      let one : f ≡ first_of s j = ap (block_at s.firsts.items) (ap (λ (bs : List ℕ). block_at bs i) same ∙ beside ∙ sym (ap (λ (bs : List ℕ). block_at bs j) same)) in
      let left = pass.agreed unsplit i (omega (arith, l, all)) r.0 p r.1 p_is x constant in
      let right = pass.agreed unsplit j (omega (arith, m, all)) r.0 q (subst (λ g. IsNext n g r.0) one r.1) q_is x constant in
      sym left ∙ right

-- what comes of a pass at its end
pub round_ends : (n : BlockNets) → IsSound n.left.now → IsSound n.right.now → (conflicts count : ℕ) (s : Pass) (made : Round) → IsPass n count s → length n.blocks.now ≤ count → IsEndRound s made → IsRound n conflicts made
round_ends n sound_a sound_b conflicts count s made pass all by = go s.split refl
  where
    go : (flag : Bool) → s.split ≡ flag → IsRound n conflicts made
    go true e = subst (IsRound n conflicts) (sym (by.0 e)) (pass.way, pass.fewer e)
    go false e = subst (IsRound n conflicts) (sym (by.1 e)) (pass_ends n sound_a sound_b count s pass all e)

-- what comes of a pass at its limit
pub round_limits : (n : BlockNets) (g : BlockGraph) (conflicts j : ℕ) (s : Pass) (first latch : ℕ) (proof : Proof) (made : Round) → IsBlockGraph n g → IsPass n j s → IsLimitOf n g conflicts first latch proof → IsLimitRound s first latch proof made → IsRound n conflicts made
round_limits n g conflicts j s first latch proof made is pass limit by = go s.split refl
  where
    go : (flag : Bool) → s.split ≡ flag → IsRound n conflicts made
    go true e = subst (IsRound n conflicts) (sym (by.0 e)) (pass.way, pass.fewer e)
    go false e = subst (IsRound n conflicts) (sym (by.1 e)) (g, is, limit)

-- The partition is the coarsest inductive one where a pass splits nothing.
pub steady_ends : (n : BlockNets) → IsSound n.left.now → IsSound n.right.now → IsUnderWay n n.blocks.now → IsSteady n → AreCoarsest n.left.now n.right.now n.orders.now n.blocks.now
steady_ends n sound_a sound_b way steady = record {
  each = way.each;
  in_order = way.in_order;
  coarsest = partition_ends n.left.now n.right.now sound_a sound_b (n.orders.now.left ++ n.orders.now.right) n.blocks.now way
      (λ x meets constant i j p q p_is q_is beside. steady i j (inside i p p_is) (inside j q q_is) beside p q p_is q_is x (meets, constant));
}
  where
    inside : (i : ℕ) (p : Either ℕ ℕ) → IsNext n i p → i < length n.blocks.now
    inside i p at =
        let low = slice_get_within (nexts_of n.left.now n.right.now) i p at in
        let long = nexts_long n.left.now n.right.now in
        omega (arith, low, long, way.each)

-- A round at its limit is a limit of the refinement.
pub limit_ends : (n : BlockNets) (conflicts i j : ℕ) (proof : Proof) → IsUnderWay n n.blocks.now → (g : BlockGraph) × IsBlockGraph n g × IsLimitOf n g conflicts i j proof → IsSplitLimit n.left.now n.right.now n.orders.now conflicts (record { blocks = n.blocks.now; left = i; right = j; proof = proof })
limit_ends n conflicts i j proof way found =
    let g = found.0 in
    let limit = found.2 in
    record {
      way = way;
      inside = limit.inside;
      beside = limit.beside;
      p = limit.asked.p;
      q = limit.asked.q;
      p_is = limit.asked.p_is;
      q_is = limit.asked.q_is;
      graph = g.aig;
      is_graph = found.1.is_graph;
      left_lits = g.left.lits.items;
      right_lits = g.right.lits.items;
      on = record {
        first = found.1.first;
        left = g.left.variables;
        right = g.right.variables;
        variables = found.1.variables;
        left_long = found.1.left_long;
        right_long = found.1.right_long;
        left_lits_are = found.1.left_on.lits;
        right_lits_are = found.1.right_on.lits;
      };
      query = limit.asked.query;
      left = limit.asked.left;
      right = limit.asked.right;
      care = limit.asked.care;
      own = record { increasing = limit.asked.own.increasing; each = limit.asked.own.each };
      limit = limit.asked.limit;
    }

-- a bit for each latch
pub bits_long : (n : BlockNets) (count : ℕ) (s : Pass) → IsPass n count s → (i j : ℕ) (bits : List Bool) → TellApart n i j bits → length bits ≡ length s.blocks
bits_long n count s pass i j bits told =
    let long = length-map told.x (nexts_of n.left.now n.right.now) in
    let few = nexts_long n.left.now n.right.now in
    ap length told.bits_are ∙ long ∙ few ∙ sym pass.way.each

-- the latch that stands for a block, by the lists that the call is given
pub first_is : (s : Pass) (j first : ℕ) (firsts blocks : List ℕ) → first ≡ block_at firsts (block_at blocks j) → firsts ≡ s.firsts.items → blocks ≡ s.blocks → first ≡ first_of s j
first_is s j first firsts blocks is firsts_are blocks_are = is ∙ (ap (λ (fs : List ℕ). block_at fs (block_at blocks j)) firsts_are ∙ ap (λ (bs : List ℕ). block_at s.firsts.items (block_at bs j)) blocks_are)

-- what comes of a round, by the lists
pub turned : (n : BlockNets) → IsSound n.left.now → IsSound n.right.now → (conflicts : ℕ) (blocks : List ℕ) → n.blocks.now ≡ blocks → IsUnderWay n n.blocks.now → (r : Round) → IsRound n conflicts r → IsTurn n.left.now n.right.now n.orders.now blocks conflicts r
turned n sound_a sound_b conflicts blocks e way round.Same is = subst (AreCoarsest n.left.now n.right.now n.orders.now) e (steady_ends n sound_a sound_b way is)
turned n sound_a sound_b conflicts blocks e way (round.Split fine) is = (is.0, subst (λ (bs : List ℕ). pairs_alike fine < pairs_alike bs) e is.1)
turned n sound_a sound_b conflicts blocks e way (round.Limit i j proof) is =
    subst (λ (bs : List ℕ). IsSplitLimit n.left.now n.right.now n.orders.now conflicts (record { blocks = bs; left = i; right = j; proof = proof })) e (limit_ends n conflicts i j proof way is)

-- there are few latches
pub starts_few : (a b : NetView) → IsSound a → IsSound b → net_weight a ≤ 2000000 → net_weight b ≤ 2000000 → length (starts_of a b) ≤ 4000000
starts_few a b sound_a sound_b light_a light_b =
    let both = length-append (map (λ (l : LatchAt). l.init) a.latches) (map (λ (l : LatchAt). l.init) b.latches) in
    let left = length-map (λ (l : LatchAt). l.init) a.latches in
    let right = length-map (λ (l : LatchAt). l.init) b.latches in
    let few_a = light_few a sound_a in
    let few_b = light_few b sound_b in
    omega (arith, both, left, right, few_a, few_b, sound_a.few_latches, sound_b.few_latches, light_a, light_b)
