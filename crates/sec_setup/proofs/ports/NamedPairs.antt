-- The pairs by their names, and as pairs of the cut nets' outputs.
use Rattle.std.proofs.Common.{◌≡◌, ℕ, zero, suc, ◌+◌, ◌<◌, ◌≤◌, Bool, true, false, cond, List, [], ◌∷◌, ◌++◌, map, length, take, get_or, refl, sym, ◌∙◌, ap, subst, arith, inl, inr, ◌⊎◌, Option, Some, None, slice_get}
use Rattle.std.specs.Prelude.{◌↔◌}
use Rattle.std.specs.List.{All, AllZip, Contains, filter_map, cons_option}
use Rattle.std.proofs.lemmas.List.{map-append, take_all}
use Rattle.std.proofs.lemmas.Option.{none-some, slice_get-get_or}
use Rattle.circuit_theory.specs.Circuit.{IsLatch, Named}
use Rattle.circuit_theory.specs.Net.{HasDistinctNames}
use Rattle.circuit_theory.specs.Agree.{place_named, latch_named, second_of_pair}
use Rattle.circuit_theory.proofs.Lists.{length-map, map_same, map-map, Contains-cases, Contains-map, Contains-map_from, at_of, of_at, zip_right}
use Rattle.circuit_theory.proofs.Numbers.{slice_get-map}
use Rattle.circuit_laws.proofs.Pairs.{latch_is_named}
use Rattle.flat_net.specs.Table.{AreDistinct}
use Rattle.flat_net.specs.declared.parts.Port.{Port}
use Rattle.flat_net.specs.declared.parts.LatchAt.{LatchAt}
use Rattle.flat_net.specs.declared.signals.Signal.{Signal}
use Rattle.flat_net.specs.Cut.{no_latch, latch_at, exposed_names, as_output, IsCut}
use Rattle.flat_net.specs.Sound.{IsSound}
use Rattle.flat_net.specs.View.{NetView, named, circuit_of, ports_of}
use Rattle.flat_net.proofs.Nets.{latch_stands, sound_is_net}
use Rattle.witness_report.specs.declared.witness.PairName.{PairName}
use Rattle.witness_report.specs.declared.witness.PairName.TheVariants as pair
use Rattle.sec_setup.specs.declared.ports.pairs.SignalPair.{SignalPair}
use Rattle.sec_setup.specs.ports.Pairs.{ArePairsOf, places_of, outputs_of, NamedPair, named_pairs, pair_called}
use Rattle.sec_setup.specs.ports.Pairing.{AreNamedAt, IsOutputPair, IsNextPairAt, AreNextPairs, ArePairs}
use Rattle.sec_setup.proofs.ports.Columns.{Contains-append_cases, Contains-append_left, Contains-append_right}
use Rattle.sec_setup.proofs.ports.Paired.{names_of, place_named-at, place_named-from, take_next}
use Rattle.sec_setup.proofs.ports.Shared.{AreMatched, some_is}

cons_head : {X : Type 0} {x y : X} {xs ys : List X} → x ∷ xs ≡ y ∷ ys → x ≡ y
cons_head e = cc

cons_tail : {X : Type 0} {x y : X} {xs ys : List X} → x ∷ xs ≡ y ∷ ys → xs ≡ ys
cons_tail e = cc

-- one element more on both sides of a map
pub map_next : {X Y Z : Type 0} (f : X → Z) (g : Y → Z) (ys : List Y) (xs : List X) (i : ℕ) (x : X) (y : Y) → map f xs ≡ map g (take i ys) → slice_get ys i ≡ Some y → f x ≡ g y →
    map f (xs ++ x ∷ []) ≡ map g (take (i + 1) ys)
map_next f g ys xs i x y before at same =
    map-append f xs (x ∷ []) ∙ (ap (λ zs. zs ++ f x ∷ []) before ∙ (ap (λ z. map g (take i ys) ++ z ∷ []) same
    ∙ (sym (map-append g (take i ys) (y ∷ [])) ∙ ap (map g) (sym (take_next ys i y at)))))

-- one exposed latch more
pub next_more : (a b : NetView) (names : List (List ℕ)) (left right : List ℕ) (k : ℕ) (pairs : List SignalPair) (p : SignalPair) →
    AreNextPairs a b (take k names) (take k left) (take k right) pairs → IsNextPairAt a b names left right k p →
    AreNextPairs a b (take (k + 1) names) (take (k + 1) left) (take (k + 1) right) (pairs ++ p ∷ [])
next_more a b names left right k pairs p before here = record {
  names_are = map_next (λ (p : SignalPair). p.name) (λ name. pair.Next name) names pairs k p here.name before.names_are here.name_at here.is.name_is;
  left_are = map_next (λ (p : SignalPair). p.left) (λ i. (latch_at a i).next) left pairs k p here.i before.left_are here.left_at here.is.left_is;
  right_are = map_next (λ (p : SignalPair). p.right) (λ j. (latch_at b j).next) right pairs k p here.j before.right_are here.right_at here.is.right_is;
}

-- all exposed latches
pub all_pairs : (a b : NetView) (names : List (List ℕ)) (left right : List ℕ) → AreNamedAt a names left → AreNamedAt b names right → (k : ℕ) (pairs : List SignalPair) → length names ≤ k →
    ArePairs a b (take k names) (take k left) (take k right) pairs → ArePairs a b names left right pairs
all_pairs a b names left right left_at right_at k pairs whole are =
    subst (λ (ns : List (List ℕ)). ArePairs a b ns left right pairs) (take_all k names whole)
    (subst (λ (js : List ℕ). ArePairs a b (take k names) js right pairs) (take_all k left (positions_few a left left_at))
    (subst (λ (js : List ℕ). ArePairs a b (take k names) (take k left) js pairs) (take_all k right (positions_few b right right_at)) are))
  where
    positions_few : (n : NetView) (positions : List ℕ) → AreNamedAt n names positions → length positions ≤ k
    positions_few n positions at = let count : length names ≡ length positions = ap length (sym at.named) ∙ length-map (λ j. (latch_at n j).name) positions in omega (arith, count, whole)

-- the pairs of outputs by their names
outputs_named : (b : NetView) (ports : List Port) (ps : List SignalPair) → AllZip (IsOutputPair b) ports ps →
    map places_of ps ≡ filter_map (λ (o : Named ℕ). pair_called (pair.Output o.name) (Some o.place) (place_named (circuit_of b).outputs o.name)) (map named ports)
outputs_named b [] [] h = refl
outputs_named b [] (p ∷ ps) h = absurd h
outputs_named b (o ∷ os) [] h = absurd h
outputs_named b (o ∷ os) (p ∷ ps) h =
    ap (λ rest. places_of p ∷ rest) (outputs_named b os ps h.1)
    ∙ ap (λ x. cons_option x (filter_map (λ (o : Named ℕ). pair_called (pair.Output o.name) (Some o.place) (place_named (circuit_of b).outputs o.name)) (map named os))) (sym here)
  where
    here : ◌≡◌ {A = Option (NamedPair ℕ ℕ)} (pair_called (pair.Output o.name) (Some o.signal.0) (place_named (circuit_of b).outputs o.name)) (Some (places_of p))
    here =
        ap (λ q. pair_called (pair.Output o.name) (Some o.signal.0) q) h.0.right_is
        ∙ (ap (λ (n : PairName). Some (record { name = n; left = o.signal.0; right = p.right.0 })) (sym h.0.name_is)
        ∙ ap (λ (s : Signal). Some (record { name = p.name; left = s.0; right = p.right.0 })) (sym h.0.left_is))

-- the pairs of exposed latches by their names, where each name is found
nexts_named : (of_a of_b : List ℕ → Option ℕ) (names : List (List ℕ)) (ps : List SignalPair) → map (λ (p : SignalPair). p.name) ps ≡ map (λ name. pair.Next name) names →
    map (λ (p : SignalPair). Some p.left.0) ps ≡ map of_a names → map (λ (p : SignalPair). Some p.right.0) ps ≡ map of_b names →
    map places_of ps ≡ filter_map (λ name. pair_called (pair.Next name) (of_a name) (of_b name)) names
nexts_named of_a of_b [] [] n l r = refl
nexts_named of_a of_b [] (p ∷ ps) n l r = absurd (cc)
nexts_named of_a of_b (name ∷ names) [] n l r = absurd (cc)
nexts_named of_a of_b (name ∷ names) (p ∷ ps) n l r =
    ap (λ rest. places_of p ∷ rest) (nexts_named of_a of_b names ps (cons_tail n) (cons_tail l) (cons_tail r))
    ∙ ap (λ x. cons_option x (filter_map (λ m. pair_called (pair.Next m) (of_a m) (of_b m)) names)) (sym here)
  where
    here : ◌≡◌ {A = Option (NamedPair ℕ ℕ)} (pair_called (pair.Next name) (of_a name) (of_b name)) (Some (places_of p))
    here =
        ap (λ x. pair_called (pair.Next name) x (of_b name)) (sym (cons_head l))
        ∙ (ap (λ x. pair_called (pair.Next name) (Some p.left.0) x) (sym (cons_head r))
        ∙ ap (λ (m : PairName). Some (record { name = m; left = p.left.0; right = p.right.0 })) (sym (cons_head n)))

module _ (n : NetView) (sound : IsSound n) (distinct : HasDistinctNames (circuit_of n)) (names : List (List ℕ)) (positions : List ℕ) (at : AreNamedAt n names positions) where
  -- what is found under the name of a latch
  found : (j : ℕ) → Contains positions j → ◌≡◌ {A = Option ℕ} (second_of_pair (latch_named (circuit_of n).equations (latch_at n j).name)) (Some (latch_at n j).next.0)
  found j h =
      let below : j < length n.latches = subst (λ i. i < length n.latches) h.2 (at.within h.0 j h.1) in
      let latch : IsLatch (circuit_of n) (latch_at n j).name (latch_at n j).out.0 (latch_at n j).next.0 = latch_stands n j (latch_at n j) (slice_get-get_or n.latches j no_latch below) in
      ap second_of_pair (latch_is_named (circuit_of n) (sound_is_net n sound).single distinct (latch_at n j).name (latch_at n j).out.0 (latch_at n j).next.0 latch)

  -- and under each of the names
  found_each : (sides : List Signal) → sides ≡ map (λ j. (latch_at n j).next) positions → map (λ (s : Signal). Some s.0) sides ≡ map (λ name. second_of_pair (latch_named (circuit_of n).equations name)) names
  found_each sides are =
      ap (map (λ (s : Signal). Some s.0)) are
      ∙ (map-map (λ (s : Signal). Some s.0) (λ j. (latch_at n j).next) positions
      ∙ (sym (map_same (λ j. second_of_pair (latch_named (circuit_of n).equations (latch_at n j).name)) (λ j. Some (latch_at n j).next.0) positions found)
      ∙ (sym (map-map (λ name. second_of_pair (latch_named (circuit_of n).equations name)) (λ j. (latch_at n j).name) positions)
      ∙ ap (map (λ name. second_of_pair (latch_named (circuit_of n).equations name))) at.named)))

module _ (a b : NetView) (names : List (List ℕ)) (left right : List ℕ) (pairs : List SignalPair) (are : ArePairs a b names left right pairs) where
  -- the pairs are those that the names give
  pub pairs_named : IsSound a → IsSound b → HasDistinctNames (circuit_of a) → HasDistinctNames (circuit_of b) → AreNamedAt a names left → AreNamedAt b names right →
      map places_of pairs ≡ named_pairs names (circuit_of a) (circuit_of b)
  pairs_named sa sb na nb left_at right_at =
      ap (map places_of) are.pairs_are
      ∙ (map-append places_of are.outputs are.nexts
      ∙ (ap (λ rest. map places_of are.outputs ++ rest) nexts ∙ ap (λ front. front ++ filter_map next_named names) (outputs_named b a.outputs are.outputs are.outputs_are)))
    where
      next_named : List ℕ → Option (NamedPair ℕ ℕ)
      next_named name = pair_called (pair.Next name) (second_of_pair (latch_named (circuit_of a).equations name)) (second_of_pair (latch_named (circuit_of b).equations name))

      nexts : map places_of are.nexts ≡ filter_map next_named names
      nexts = nexts_named (λ name. second_of_pair (latch_named (circuit_of a).equations name)) (λ name. second_of_pair (latch_named (circuit_of b).equations name)) names are.nexts are.nexts_are.names_are
          (sym (map-map (λ (s : Signal). Some s.0) (λ (p : SignalPair). p.left) are.nexts) ∙ found_each a sa na names left left_at (map (λ (p : SignalPair). p.left) are.nexts) are.nexts_are.left_are)
          (sym (map-map (λ (s : Signal). Some s.0) (λ (p : SignalPair). p.right) are.nexts) ∙ found_each b sb nb names right right_at (map (λ (p : SignalPair). p.right) are.nexts) are.nexts_are.right_are)

  -- one side of the exposed latches, as signals
  next_signals : (n : NetView) (positions : List ℕ) (side : SignalPair → Signal) → map side are.nexts ≡ map (λ j. (latch_at n j).next) positions →
      map (λ (p : SignalPair). (side p).0) are.nexts ≡ map (λ (o : Port). o.signal.0) (map (λ j. as_output (latch_at n j)) positions)
  next_signals n positions side is =
      sym (map-map (λ (s : Signal). s.0) side are.nexts)
      ∙ (ap (map (λ (s : Signal). s.0)) is
      ∙ (map-map (λ (s : Signal). s.0) (λ j. (latch_at n j).next) positions
      ∙ sym (map-map (λ (o : Port). o.signal.0) (λ j. as_output (latch_at n j)) positions)))

  left_signals : (ports : List Port) (ps : List SignalPair) → AllZip (IsOutputPair b) ports ps → map (λ (p : SignalPair). p.left.0) ps ≡ map (λ (o : Port). o.signal.0) ports
  left_signals [] [] h = refl
  left_signals [] (p ∷ ps) h = absurd h
  left_signals (o ∷ os) [] h = absurd h
  left_signals (o ∷ os) (p ∷ ps) h = ap (λ rest. p.left.0 ∷ rest) (left_signals os ps h.1) ∙ ap (λ (s : Signal). s.0 ∷ map (λ (o : Port). o.signal.0) os) h.0.left_is

  -- each right signal of a pair is an output's
  right_shown : (ports : List Port) (ps : List SignalPair) → AllZip (IsOutputPair b) ports ps → (s : ℕ) → Contains (map (λ (p : SignalPair). p.right.0) ps) s → Contains (outputs_of b) s
  right_shown ports [] h s there = absurd (omega (arith, there.1))
  right_shown [] (p ∷ ps) h s there = absurd h
  right_shown (o ∷ os) (p ∷ ps) h s there = go (Contains-cases p.right.0 s (map (λ (p : SignalPair). p.right.0) ps) there) (λ k. right_shown os ps h.1 s k)
    where
      go : (p.right.0 ≡ s) ⊎ Contains (map (λ (p : SignalPair). p.right.0) ps) s → (Contains (map (λ (p : SignalPair). p.right.0) ps) s → Contains (outputs_of b) s) → Contains (outputs_of b) s
      go (inl is) later = let port = place_named-from b.outputs o.name p.right.0 h.0.right_is in subst (Contains (outputs_of b)) (port.3 ∙ is) (Contains-map (λ (o : Port). o.signal.0) b.outputs port.0 port.1)
      go (inr rest) later = later rest

  -- each output of B is the right signal of a pair
  right_paired : AreMatched (ports_of a) (ports_of b) → AreDistinct (names_of b.outputs) → (s : ℕ) → Contains (outputs_of b) s → Contains (map (λ (p : SignalPair). p.right.0) are.outputs) s
  right_paired matched once s there =
      let q = Contains-map_from (λ (o : Port). o.signal.0) b.outputs s there in
      let at = at_of b.outputs q.0 q.1 in
      let own : slice_get (names_of b.outputs) at.0 ≡ Some q.0.name = slice_get-map (λ (o : Port). o.name) b.outputs at.0 q.0 at.1 in
      let other = Contains-map_from (λ (o : Port). o.name) a.outputs q.0.name (matched.outputs_back q.0.name (of_at (names_of b.outputs) at.0 q.0.name own)) in
      let place = at_of a.outputs other.0 other.1 in
      let found = zip_right (IsOutputPair b) a.outputs are.outputs are.outputs_are place.0 other.0 place.1 in
      let named_there : place_named (map named b.outputs) q.0.name ≡ Some q.0.signal.0 = place_named-at b.outputs q.0.name at.0 q.0 once own at.1 in
      let same : found.0.right.0 ≡ q.0.signal.0 = some_is (sym found.2.right_is ∙ (ap (place_named (map named b.outputs)) other.2 ∙ named_there)) in
      subst (Contains (map (λ (p : SignalPair). p.right.0) are.outputs)) (same ∙ q.2) (Contains-map (λ (p : SignalPair). p.right.0) are.outputs found.0 (of_at are.outputs place.0 found.0 found.1))

  -- the pairs are of the outputs of the cut nets
  pub pairs_cut : (m k : NetView) → IsCut a m left → IsCut b k right → AreMatched (ports_of a) (ports_of b) → AreDistinct (names_of b.outputs) → ArePairsOf m k pairs
  pairs_cut m k cut_a cut_b matched once = record {
    left = lefts;
    right = λ s. (to s, back s);
  }
    where
      signals : Port → ℕ
      signals o = o.signal.0

      own : List Port
      own = map (λ j. as_output (latch_at a j)) left

      other : List Port
      other = map (λ j. as_output (latch_at b j)) right

      lefts : map (λ (p : SignalPair). p.left.0) pairs ≡ outputs_of m
      lefts =
          ap (map (λ (p : SignalPair). p.left.0)) are.pairs_are
          ∙ (map-append (λ (p : SignalPair). p.left.0) are.outputs are.nexts
          ∙ (ap (λ rest. map (λ (p : SignalPair). p.left.0) are.outputs ++ rest) (next_signals a left (λ p. p.left) are.nexts_are.left_are)
          ∙ (ap (λ front. front ++ map (λ (o : Port). o.signal.0) own) (left_signals a.outputs are.outputs are.outputs_are)
          ∙ (sym (map-append (λ (o : Port). o.signal.0) a.outputs own) ∙ ap (map (λ (o : Port). o.signal.0)) (sym cut_a.outputs)))))

      rights : map (λ (p : SignalPair). p.right.0) pairs ≡ map (λ (p : SignalPair). p.right.0) are.outputs ++ map (λ (o : Port). o.signal.0) other
      rights =
          ap (map (λ (p : SignalPair). p.right.0)) are.pairs_are
          ∙ (map-append (λ (p : SignalPair). p.right.0) are.outputs are.nexts
          ∙ ap (λ rest. map (λ (p : SignalPair). p.right.0) are.outputs ++ rest) (next_signals b right (λ p. p.right) are.nexts_are.right_are))

      shown : outputs_of k ≡ outputs_of b ++ map (λ (o : Port). o.signal.0) other
      shown = ap (map (λ (o : Port). o.signal.0)) cut_b.outputs ∙ map-append (λ (o : Port). o.signal.0) b.outputs other

      to : (s : ℕ) → Contains (map (λ (p : SignalPair). p.right.0) pairs) s → Contains (outputs_of k) s
      to s h = subst (λ (zs : List ℕ). Contains zs s) (sym shown)
          (go (Contains-append_cases (map (λ (p : SignalPair). p.right.0) are.outputs) (map (λ (o : Port). o.signal.0) other) s (subst (λ (zs : List ℕ). Contains zs s) rights h)))
        where
          go : Contains (map (λ (p : SignalPair). p.right.0) are.outputs) s ⊎ Contains (map (λ (o : Port). o.signal.0) other) s → Contains (outputs_of b ++ map (λ (o : Port). o.signal.0) other) s
          go (inl front) = Contains-append_left (outputs_of b) (map (λ (o : Port). o.signal.0) other) s (right_shown a.outputs are.outputs are.outputs_are s front)
          go (inr rest) = Contains-append_right (outputs_of b) (map (λ (o : Port). o.signal.0) other) s rest

      back : (s : ℕ) → Contains (outputs_of k) s → Contains (map (λ (p : SignalPair). p.right.0) pairs) s
      back s h = subst (λ (zs : List ℕ). Contains zs s) (sym rights)
          (go (Contains-append_cases (outputs_of b) (map (λ (o : Port). o.signal.0) other) s (subst (λ (zs : List ℕ). Contains zs s) shown h)))
        where
          go : Contains (outputs_of b) s ⊎ Contains (map (λ (o : Port). o.signal.0) other) s → Contains (map (λ (p : SignalPair). p.right.0) are.outputs ++ map (λ (o : Port). o.signal.0) other) s
          go (inl front) = Contains-append_left (map (λ (p : SignalPair). p.right.0) are.outputs) (map (λ (o : Port). o.signal.0) other) s (right_paired matched once s front)
          go (inr rest) = Contains-append_right (map (λ (p : SignalPair). p.right.0) are.outputs) (map (λ (o : Port). o.signal.0) other) s rest
