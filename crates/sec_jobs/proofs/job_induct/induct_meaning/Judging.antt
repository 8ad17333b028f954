-- What stands behind a verdict: the output that it names, or the two latches.
use Rattle.std.specs.Prelude.{MatchOption, IsSomeAnd}
use Rattle.std.specs.List.{AllZip, Contains, filter_map}
use Rattle.std.specs.List.Sorted.{IsStrictlyIncreasing}
use Rattle.std.proofs.Common.{◌≡◌, ℕ, zero, suc, ◌+◌, ◌<◌, Bool, List, [], ◌∷◌, length, map, refl, sym, ap, subst, ◌∙◌, inl, inr, ◌⊎◌, Option, Some, None, slice_get, arith}
use Rattle.std.proofs.lemmas.List.Kept.{AllPairs-from_increasing}
use Rattle.std.proofs.lemmas.Slice.Zip.{AllZip-right}
use Rattle.circuit_theory.specs.Agree.{place_named}
use Rattle.circuit_theory.specs.Interface.{first_mismatch}
use Rattle.circuit_theory.specs.Joined.{Left, Right}
use Rattle.circuit_theory.proofs.Lists.{Contains-head, Contains-tail, Contains-map, of_at}
use Rattle.sec_base.specs.declared.basics.Orders.{Orders}
use Rattle.sec_base.specs.declared.basics.Tag.{Tag}
use Rattle.flat_net.specs.declared.parts.Port.{Port}
use Rattle.flat_net.specs.Sound.{IsSound}
use Rattle.flat_net.specs.View.{NetView, circuit_of, ports_of}
use Rattle.sec_setup.proofs.ports.Paired.{place_named-from}
use Rattle.pair_decide.specs.declared.query.Proof.{Proof}
use Rattle.block_refine.specs.latch_blocks.Blocks.{block_at}
use Rattle.block_refine.specs.latch_blocks.QueryLaws.{AreBlockValues}
use Rattle.block_refine.specs.latch_blocks.Signals.{IsLeaf}
use Rattle.induct.specs.declared.block_outputs.answer.Shown.{Shown}
use Rattle.induct.specs.declared.block_outputs.answer.OutputAnswer.{OutputAnswer}
use Rattle.induct.specs.declared.block_outputs.answer.OutputAnswer.TheVariants as answer
use Rattle.induct.specs.declared.block_outputs.outputs.OutputPair.{OutputPair}
use Rattle.induct.specs.block_outputs.Answers.{IsAnswer, IsOutputAnswer, IsShown}
use Rattle.job_base.proofs.sec_files.job_files.Reading.{some_and}
use Rattle.induct.specs.declared.induction.InductPair.{InductPair}
use Rattle.induct.specs.declared.induction.InductVerdict.{InductVerdict}
use Rattle.induct.specs.declared.induction.InductVerdict.TheVariants as verdict
use Rattle.induct.specs.declared.induction.Induction.{Induction}
use Rattle.induct.specs.Inductions.{pair_told, limit_or, first_limit, shown_or, first_shown, verdict_of, variable_told, AreOwnNumbers, IsOver, IsSplitLimitOf}
use Rattle.induct.proofs.ToldInside.{left_leaf, right_leaf}
use Rattle.sec_jobs.specs.job_induct.induct_meaning.Judged.{proofs_of, proofs_with}
use Rattle.sec_jobs.specs.job_induct.induct_meaning.Answer.{shared_count, HaveBits, TellApart, PairUndecided, SplitUndecided}
use Rattle.sec_jobs.proofs.job_induct.induct_meaning.Bits.{IsSharedOrBlock, have_bits}

some_is : {X : Type 0} {x y : X} → Some x ≡ Some y → x ≡ y
some_is q = cc

nothing : {X : Type 0} {x : X} → None ≡ Some x → ⊥
nothing q = cc

-- an output of the list, with its place
record IsFirst (outputs : List OutputPair) (name : List ℕ) (said : OutputAnswer) : Type 0 where
  pub place : ℕ
  pub pair : OutputPair
  pub here : slice_get outputs place ≡ Some pair
  pub named : pair.name ≡ name
  pub answered : pair.answer ≡ said

later : (p : OutputPair) (outputs : List OutputPair) (name : List ℕ) (said : OutputAnswer) → IsFirst outputs name said → IsFirst (p ∷ outputs) name said
later p outputs name said h = record { place = suc h.place; pair = h.pair; here = h.here; named = h.named; answered = h.answered }

-- the first output at the limit
limit_at : (outputs : List OutputPair) (name : List ℕ) → first_limit outputs ≡ Some name → (proof : Proof) × IsFirst outputs name (answer.Limit proof)
limit_at [] name e = absurd (nothing e)
limit_at (p ∷ ps) name e = go p.answer refl (λ h. limit_at ps name h) e
  where
    go : (said : OutputAnswer) → p.answer ≡ said → (first_limit ps ≡ Some name → (proof : Proof) × IsFirst ps name (answer.Limit proof)) → limit_or p.name said (first_limit ps) ≡ Some name →
        (proof : Proof) × IsFirst (p ∷ ps) name (answer.Limit proof)
    go answer.Equal is rest h = let l = rest h in (l.0, later p ps name (answer.Limit l.0) l.1)
    go (answer.NotShown s) is rest h = let l = rest h in (l.0, later p ps name (answer.Limit l.0) l.1)
    go (answer.Limit proof) is rest h = (proof, record { place = 0; pair = p; here = refl; named = some_is h; answered = is })

-- the first output that isn't shown equal
shown_at : (outputs : List OutputPair) (x : List ℕ × Shown) → first_shown outputs ≡ Some x → IsFirst outputs x.0 (answer.NotShown x.1)
shown_at [] x e = absurd (nothing e)
shown_at (p ∷ ps) x e = go p.answer refl (λ h. shown_at ps x h) e
  where
    go : (said : OutputAnswer) → p.answer ≡ said → (first_shown ps ≡ Some x → IsFirst ps x.0 (answer.NotShown x.1)) → shown_or p.name said (first_shown ps) ≡ Some x → IsFirst (p ∷ ps) x.0 (answer.NotShown x.1)
    go answer.Equal is rest h = later p ps x.0 (answer.NotShown x.1) (rest h)
    go (answer.NotShown s) is rest h =
        let pair : (p.name, s) ≡ x = some_is h in
        record { place = 0; pair = p; here = refl; named = ap (λ (y : List ℕ × Shown). y.0) pair; answered = is ∙ ap (λ (y : List ℕ × Shown). answer.NotShown y.1) pair }
    go (answer.Limit proof) is rest h = later p ps x.0 (answer.NotShown x.1) (rest h)

-- the proof of an output at the limit is kept
told_proof : (p : OutputPair) (proof : Proof) → p.answer ≡ answer.Limit proof → (pair_told p).proof ≡ Some proof
told_proof p proof e = rw e refl

kept_in : {X Y : Type 0} (f : X → Option Y) (xs : List X) (i : ℕ) (x : X) (y : Y) → slice_get xs i ≡ Some x → f x ≡ Some y → Contains (filter_map f xs) y
kept_in f [] i x y at e = absurd (nothing at)
kept_in f (z ∷ xs) zero x y at e = let here : f z ≡ Some y = ap f (some_is at) ∙ e in rw here (Contains-head y (filter_map f xs))
kept_in {Y = Y} f (z ∷ xs) (suc i) x y at e = go (f z) refl (kept_in f xs i x y at e)
  where
    go : (o : Option Y) → f z ≡ o → Contains (filter_map f xs) y → Contains (filter_map f (z ∷ xs)) y
    go None is rest = rw is rest
    go (Some w) is rest = rw is (Contains-tail w y (filter_map f xs) rest)

map_here : {X Y : Type 0} (f : X → Y) (xs : List X) (i : ℕ) (x : X) → slice_get xs i ≡ Some x → slice_get (map f xs) i ≡ Some (f x)
map_here f [] i x at = absurd (nothing at)
map_here f (z ∷ xs) zero x at = ap (λ y. Some (f y)) (some_is at)
map_here f (z ∷ xs) (suc i) x at = map_here f xs i x at

-- verdicts of the first outputs
limit_verdict : (first count : ℕ) (limit : Option (List ℕ)) (shown : Option (List ℕ × Shown)) (name : List ℕ) → verdict_of first count limit shown ≡ verdict.Limit name → limit ≡ Some name
limit_verdict first count (Some other) shown name e = let same : other ≡ name = cc in ap Some same
limit_verdict first count None (Some x) name e = absurd (cc)
limit_verdict first count None None name e = absurd (cc)

shown_verdict : (first count : ℕ) (limit : Option (List ℕ)) (shown : Option (List ℕ × Shown)) (pair : List ℕ) (left right : Bool) (vars : List ℕ) (bits : List Bool) →
    verdict_of first count limit shown ≡ verdict.NotShown pair left right vars bits →
    (x : List ℕ × Shown) × (shown ≡ Some x) × (x.0 ≡ pair) × (x.1.left ≡ left) × (x.1.right ≡ right) × (map (variable_told first count) x.1.vars ≡ vars) × (x.1.bits ≡ bits)
shown_verdict first count (Some other) shown pair left right vars bits e = absurd (cc)
shown_verdict first count None (Some x) pair left right vars bits e = (x, refl, cc, cc, cc, cc, cc)
shown_verdict first count None None pair left right vars bits e = absurd (cc)

no_split : (first count : ℕ) (limit : Option (List ℕ)) (shown : Option (List ℕ × Shown)) (v : InductVerdict) → verdict_of first count limit shown ≡ v → (left right : Tag) (proof : Proof) → v ≡ verdict.SplitLimit left right proof → ⊥
no_split first count (Some other) shown v e left right proof is = cc
no_split first count None (Some x) v e left right proof is = cc
no_split first count None None v e left right proof is = cc

module _ (a b : NetView) (own : Orders) (are_own : AreOwnNumbers a b own) (conflicts : ℕ) (made : Induction) where
  module _ (over : IsOver a b own conflicts made) where
    abbrev Answers : Port → OutputPair → Type 0
    Answers = IsOutputAnswer over.n over.g conflicts

    -- A's output with its answer
    output_at : (i : ℕ) (pair : OutputPair) → slice_get over.outputs i ≡ Some pair → (port : Port) × (slice_get a.outputs i ≡ Some port) × Answers port pair
    output_at i pair at =
        some_and (slice_get a.outputs i) (λ port. Answers port pair)
        (subst (λ (o : Option OutputPair). MatchOption o (Unit {0}) (λ y. IsSomeAnd (slice_get a.outputs i) (λ port. Answers port y))) at (AllZip-right Answers a.outputs over.outputs over.answered i))

    other_in : (name : List ℕ) (port : Port) (other : ℕ) → port.name ≡ name → place_named (circuit_of over.n.right.now).outputs port.name ≡ Some other → place_named (circuit_of b).outputs name ≡ Some other
    other_in name port other named h =
        subst (λ (m : List ℕ). place_named (circuit_of b).outputs m ≡ Some other) named (subst (λ (m : NetView). place_named (circuit_of m).outputs port.name ≡ Some other) over.right_is h)

    -- what is said of the nets that stand in the graph's places
    carried : (F : NetView → NetView → Orders → Type 0) → F over.n.left.now over.n.right.now over.n.orders.now → F a b own
    carried F h =
        subst (λ (o : Orders). F a b o) over.own_is (subst (λ (m : NetView). F a m over.n.orders.now) over.right_is (subst (λ (m : NetView). F m over.n.right.now over.n.orders.now) over.left_is h))

    returned : (F : NetView → NetView → Orders → Type 0) → F a b own → F over.n.left.now over.n.right.now over.n.orders.now
    returned F h =
        subst (λ (m : NetView). F m over.n.right.now over.n.orders.now) (sym over.left_is) (subst (λ (m : NetView). F a m over.n.orders.now) (sym over.right_is) (subst (λ (o : Orders). F a b o) (sym over.own_is) h))

    module _ (left_sound : IsSound a) (right_sound : IsSound b) (matches : first_mismatch (ports_of a) (ports_of b) ≡ None) where
      -- the graph's variables of an output are shared inputs' numbers and blocks'
      shared_or_block : (port : Port) → Contains over.n.left.now.outputs port → (pair : OutputPair) → (answered : Answers port pair) → (s : Shown) → IsShown over.n over.g (Left port.signal.0) (Right answered.other) s → (u : ℕ) → Contains s.vars u →
          IsSharedOrBlock over.graph.first (shared_count over.n.left.now over.n.right.now) u
      shared_or_block port shown pair answered s is u h = pick ((is.asked.own.each u).0 (subst (λ (vs : List ℕ). Contains vs u) (sym is.vars) h))
        where
          left : IsSound over.n.left.now
          left = returned (λ m k o. IsSound m) left_sound

          right : IsSound over.n.right.now
          right = returned (λ m k o. IsSound k) right_sound

          numbers : AreOwnNumbers over.n.left.now over.n.right.now over.n.orders.now
          numbers = returned AreOwnNumbers are_own

          matched : first_mismatch (ports_of over.n.left.now) (ports_of over.n.right.now) ≡ None
          matched = returned (λ m k o. first_mismatch (ports_of m) (ports_of k) ≡ None) matches

          each : length over.n.blocks.now ≡ length over.n.left.now.latches + length over.n.right.now.latches
          each = returned (λ m k o. length over.n.blocks.now ≡ length m.latches + length k.latches) over.coarsest.each

          kind : ((u < shared_count over.n.left.now over.n.right.now) × (u < over.graph.first)) ⊎ ((j : ℕ) × (j < length over.n.blocks.now) × (u ≡ over.graph.first + block_at over.n.blocks.now j)) →
              IsSharedOrBlock over.graph.first (shared_count over.n.left.now over.n.right.now) u
          kind (inl k) = inl k
          kind (inr k) = inr (omega (arith, k.2))

          pick : IsLeaf over.n.left.now over.g.left.variables port.signal.0 u ⊎ IsLeaf over.n.right.now over.g.right.variables answered.other u → IsSharedOrBlock over.graph.first (shared_count over.n.left.now over.n.right.now) u
          pick (inl leaf) = kind (left_leaf over.n over.g over.graph left right numbers matched each u port shown leaf)
          pick (inr leaf) =
              let other = place_named-from over.n.right.now.outputs port.name answered.other answered.other_is in
              kind (right_leaf over.n over.g over.graph left right numbers matched each u other.0 other.1 (subst (λ (q : ℕ). IsLeaf over.n.right.now over.g.right.variables q u) (sym other.3) leaf))

      told_bits : (port : Port) → Contains over.n.left.now.outputs port → (pair : OutputPair) → (answered : Answers port pair) → (s : Shown) → (is : IsShown over.n over.g (Left port.signal.0) (Right answered.other) s) →
          HaveBits a b own over.n.blocks.now (map (variable_told over.graph.first (shared_count a b)) s.vars) s.bits is.x
      told_bits port shown pair answered s is =
          carried (λ m k o. HaveBits m k o over.n.blocks.now (map (variable_told over.graph.first (shared_count m k)) s.vars) s.bits is.x)
          (have_bits over.n over.g over.graph (returned (λ m k o. IsSound m) left_sound) (returned (λ m k o. IsSound k) right_sound) s.vars s.bits
          (λ i j d l m e. (let pair = AllPairs-from_increasing s.vars (subst IsStrictlyIncreasing is.vars is.asked.own.increasing) i j d l m in omega (arith, pair, e)))
          (subst (λ (vs : List ℕ). length s.bits ≡ length vs) is.vars is.difference.each) (shared_or_block port shown pair answered s is) is.x is.read)

      pub tell_apart : (pair : List ℕ) (left right : Bool) (vars : List ℕ) (bits : List Bool) → made.verdict ≡ verdict.NotShown pair left right vars bits → TellApart a b own over.n.blocks.now pair left right vars bits
      tell_apart pair left right vars bits e =
          let v = shown_verdict over.graph.first _ (first_limit over.outputs) (first_shown over.outputs) pair left right vars bits (sym over.verdict_is ∙ e) in
          let f = shown_at over.outputs v.0 v.1 in
          let o = output_at f.place f.pair f.here in
          let named : o.0.name ≡ pair = sym o.2.name_is ∙ (f.named ∙ v.2) in
          let there : Contains a.outputs o.0 = of_at a.outputs f.place o.0 o.1 in
          let shown = subst (IsAnswer over.n over.g conflicts (Left o.0.signal.0) (Right o.2.other)) f.answered o.2.answer_is in
          let bits_told = told_bits o.0 (subst (λ (m : NetView). Contains m.outputs o.0) (sym over.left_is) there) f.pair o.2 v.0.1 shown in
          record {
            output = o.0;
            is_output = there;
            named = named;
            other = o.2.other;
            other_named = other_in pair o.0 o.2.other named o.2.other_is;
            x = shown.x;
            constant = carried (λ m k n. AreBlockValues m k n over.n.blocks.now shown.x) shown.constant;
            told = subst (λ (bs : List Bool). HaveBits a b own over.n.blocks.now vars bs shown.x) v.6 (subst (λ (vs : List ℕ). HaveBits a b own over.n.blocks.now vs v.0.1.bits shown.x) v.5 bits_told);
            left_is = shown.left ∙ v.3;
            right_is = shown.right ∙ v.4;
            differ = λ q. shown.differ (v.3 ∙ (q ∙ sym v.4));
          }

    pub pair_undecided : (proofs : List Proof) (pair : List ℕ) → made.verdict ≡ verdict.Limit pair → proofs ≡ proofs_of made → PairUndecided a b conflicts proofs made
    pair_undecided proofs pair e kept =
        let limit = limit_verdict over.graph.first _ (first_limit over.outputs) (first_shown over.outputs) pair (sym over.verdict_is ∙ e) in
        let f = limit_at over.outputs pair limit in
        let o = output_at f.1.place f.1.pair f.1.here in
        let named : o.0.name ≡ pair = sym o.2.name_is ∙ f.1.named in
        let proof_at = λ (p : InductPair). p.proof in
        let among : Contains (filter_map proof_at made.pairs) f.0 =
        subst (λ (ps : List InductPair). Contains (filter_map proof_at ps) f.0) (sym over.pairs_are)
        (kept_in proof_at (map pair_told over.outputs) f.1.place (pair_told f.1.pair) f.0 (map_here pair_told over.outputs f.1.place f.1.pair f.1.here) (told_proof f.1.pair f.0 f.1.answered)) in
        record {
          own = own;
          are_own = are_own;
          over = over;
          pair = pair;
          is_verdict = e;
          output = o.0;
          is_output = of_at a.outputs f.1.place o.0 o.1;
          named = named;
          other = o.2.other;
          other_named = other_in pair o.0 o.2.other named o.2.other_is;
          proof = f.0;
          kept = subst (λ (ps : List Proof). Contains ps f.0) (sym (kept ∙ ap (λ (v : InductVerdict). proofs_with v (filter_map proof_at made.pairs)) e)) among;
          undecided = subst (IsAnswer over.n over.g conflicts (Left o.0.signal.0) (Right o.2.other)) f.1.answered o.2.answer_is;
        }

    pub is_no_split : (left right : Tag) (proof : Proof) → made.verdict ≡ verdict.SplitLimit left right proof → ⊥
    is_no_split left right proof is = no_split over.graph.first _ (first_limit over.outputs) (first_shown over.outputs) made.verdict (sym over.verdict_is) left right proof is

  pub split_undecided : IsSplitLimitOf a b own conflicts made → (proofs : List Proof) → proofs ≡ proofs_of made → SplitUndecided a b conflicts proofs made
  split_undecided split proofs kept = record {
    own = own;
    are_own = are_own;
    split = split;
    kept = kept ∙ ap (λ (v : InductVerdict). proofs_with v (filter_map (λ (p : InductPair). p.proof) made.pairs)) split.verdict_is;
  }
