-- The columns of cut nets: shared inputs and exposed latches, one number each, and all that is read.
use Rattle.std.proofs.Common.{◌≡◌, ℕ, zero, suc, ◌+◌, ◌*◌, ◌^◌, ◌<◌, ◌≤◌, Bool, true, false, cond, List, [], ◌∷◌, ◌++◌, length, map, take, get_or, refl, sym, ◌∙◌, ap, subst, arith, inl, inr, ◌⊎◌, Some, slice_get, length-append}
use Rattle.std.specs.Prelude.{not, ◌&&◌, ◌||◌, ◌==◌}
use Rattle.std.specs.List.{All, Any, Contains, filter, list_any}
use Rattle.std.proofs.lemmas.List.Folds.{list_any_at}
use Rattle.std.proofs.lemmas.Option.{slice_get_within, slice_get-get_or}
use Rattle.std.proofs.lemmas.List.{map-append, append_assoc}
use Rattle.circuit_theory.specs.Names.{is_among as is_named}
use Rattle.circuit_theory.specs.Interface.{inputs_beside, shared_inputs, is_clock}
use Rattle.circuit_theory.proofs.Lists.{length-map, Contains-map, Contains-map_from, Contains-filter, map-map, at_of, of_at}
use Rattle.circuit_theory.proofs.Numbers.{is_among-complete}
use Rattle.flat_net.specs.Table.{AreDistinct, is_among}
use Rattle.flat_net.proofs.TableLemmas.{key_at, is_among-Contains, is_among-at, slice_get-take, take-push}
use Rattle.flat_net.specs.declared.parts.Port.{Port}
use Rattle.flat_net.specs.declared.parts.Gate.{Gate}
use Rattle.flat_net.specs.declared.parts.LatchAt.{LatchAt}
use Rattle.flat_net.specs.declared.signals.Signal.{Signal}
use Rattle.flat_net.specs.Cut.{no_latch, latch_at, exposed_names, as_input, as_output, stays, IsCut}
use Rattle.flat_net.specs.Sound.{IsSound}
use Rattle.flat_net.specs.View.{NetView, is_read, ports_of}
use Rattle.flat_net.proofs.CutNets.{few_distinct, slice_get-append_cases, slice_get-append_right, filter-at, filter-from}
use Rattle.flat_net.proofs.Exposed.{latch_there, one_latch, exposed_within}
use Rattle.flat_net.proofs.Growth.{slice_get-append}
use Rattle.flat_net.proofs.Places.{one_at}
use Rattle.sec_setup.specs.ports.Pairing.{AreNamedAt}
use Rattle.sec_setup.proofs.ports.Numbering.{inputs_once}
use Rattle.sec_setup.proofs.ports.Shared.{is_kept, Contains-filter_in, filter-passed, AreMatched}

-- what two lists after one another contain
pub Contains-append_cases : {X : Type 0} (xs ys : List X) (x : X) → Contains (xs ++ ys) x → Contains xs x ⊎ Contains ys x
Contains-append_cases {X} xs ys x h = let at = at_of (xs ++ ys) x h in go at.0 (slice_get-append_cases xs ys at.0 x at.1)
  where
    go : (i : ℕ) → (slice_get xs i ≡ Some x) ⊎ ((k : ℕ) × (i ≡ length xs + k) × (slice_get ys k ≡ Some x)) → Contains xs x ⊎ Contains ys x
    go i (inl e) = inl (of_at xs i x e)
    go i (inr r) = inr (of_at ys r.0 x r.2)

pub Contains-append_left : {X : Type 0} (xs ys : List X) (x : X) → Contains xs x → Contains (xs ++ ys) x
Contains-append_left xs ys x h = let at = at_of xs x h in of_at (xs ++ ys) at.0 x (slice_get-append xs ys at.0 x at.1)

pub Contains-append_right : {X : Type 0} (xs ys : List X) (x : X) → Contains ys x → Contains (xs ++ ys) x
Contains-append_right xs ys x h = let at = at_of ys x h in of_at (xs ++ ys) (length xs + at.0) x (slice_get-append_right xs ys at.0 ∙ at.1)

-- where no element of a list stands twice, none does where a filter has passed over its front
front_filtered : {X : Type 0} (test : X → Bool) (xs ys : List X) → AreDistinct (xs ++ ys) → AreDistinct (filter test xs ++ ys)
front_filtered {X} test xs ys once i j x hi hj = go (slice_get-append_cases (filter test xs) ys i x hi) (slice_get-append_cases (filter test xs) ys j x hj)
  where
    Found : ℕ → Type 0
    Found i = (slice_get (filter test xs) i ≡ Some x) ⊎ ((k : ℕ) × (i ≡ length (filter test xs) + k) × (slice_get ys k ≡ Some x))

    behind : (k : ℕ) → slice_get ys k ≡ Some x → slice_get (xs ++ ys) (length xs + k) ≡ Some x
    behind k at = slice_get-append_right xs ys k ∙ at

    apart : (k l : ℕ) → slice_get xs k ≡ Some x → slice_get ys l ≡ Some x → ⊥
    apart k l front back =
        let same : k ≡ length xs + l = once k (length xs + l) x (slice_get-append xs ys k x front) (behind l back) in
        let within : k < length xs = slice_get_within xs k x front in
        omega (arith, same, within)

    go : Found i → Found j → i ≡ j
    go (inl at) (inl at') =
        let p = filter-from test xs i x at in
        let q = filter-from test xs j x at' in
        let same : p.j ≡ q.j = once p.j q.j x (slice_get-append xs ys p.j x p.at) (slice_get-append xs ys q.j x q.at) in
        p.rank ∙ (ap (λ k. length (filter test (take k xs))) same ∙ sym q.rank)
    go (inl at) (inr r) = absurd (let p = filter-from test xs i x at in apart p.j r.0 p.at r.2)
    go (inr r) (inl at) = absurd (let p = filter-from test xs j x at in apart p.j r.0 p.at r.2)
    go (inr r) (inr s) =
        let same : length xs + r.0 ≡ length xs + s.0 = once (length xs + r.0) (length xs + s.0) x (behind r.0 r.2) (behind s.0 s.2) in
        omega (arith, same, r.1, s.1)

-- what some element passes
any_at : {X : Type 0} (test : X → Bool) (xs : List X) (x : X) → Contains xs x → test x ≡ true → list_any test xs ≡ true
any_at test xs x h e = list_any_at test xs h.0 x h.1 (ap test h.2 ∙ e)

any_from : {X : Type 0} (test : X → Bool) (xs : List X) → list_any test xs ≡ true → (x : X) × Contains xs x × (test x ≡ true)
any_from test [] h = absurd (no h)
  where
    no : false ≡ true → ⊥
    no e = cc
any_from {X} test (y ∷ xs) h = go (test y) refl (λ k. any_from test xs k)
  where
    Found : List X → Type 0
    Found zs = (x : X) × Contains zs x × (test x ≡ true)

    go : (b : Bool) → test y ≡ b → (list_any test xs ≡ true → Found xs) → Found (y ∷ xs)
    go true e later = (y, (0, omega arith, refl), e)
    go false e later = let r = later (sym (ap (λ b. b || list_any test xs) e) ∙ h) in (r.0, (suc r.1.0, omega (arith, r.1.1), r.1.2), r.2)

-- one of two holds
one_of : (x y : Bool) → (x || y) ≡ true → (x ≡ true) ⊎ (y ≡ true)
one_of true y h = inl refl
one_of false y h = inr h

first_holds : (x y : Bool) → x ≡ true → (x || y) ≡ true
first_holds x y e = ap (λ b. b || y) e

second_holds : (x y : Bool) → y ≡ true → (x || y) ≡ true
second_holds true y e = refl
second_holds false y e = e

module _ (n m : NetView) (positions : List ℕ) (cut : IsCut n m positions) (within : All (λ j. j < length n.latches) positions) where
  abbrev gates_read : Signal → NetView → Bool
  gates_read s net = list_any (λ (g : Gate). list_any (λ (f : Signal). f.0 == s.0) g.fanins) net.gates

  abbrev latches_read : Signal → NetView → Bool
  latches_read s net = list_any (λ (l : LatchAt). l.next.0 == s.0) net.latches

  abbrev outputs_show : Signal → NetView → Bool
  outputs_show s net = list_any (λ (p : Port). p.signal.0 == s.0) net.outputs

  position_within : (j : ℕ) → Contains positions j → j < length n.latches
  position_within j h = subst (λ i. i < length n.latches) h.2 (within h.0 j h.1)

  -- what the cut net reads, the net reads
  pub read_before : (s : Signal) → is_read m s ≡ true → is_read n s ≡ true
  read_before s h = go (one_of (gates_read s m || latches_read s m) (outputs_show s m) h)
    where
      by_gates : gates_read s n ≡ true → is_read n s ≡ true
      by_gates e = first_holds (gates_read s n || latches_read s n) (outputs_show s n) (first_holds (gates_read s n) (latches_read s n) e)

      by_latches : latches_read s n ≡ true → is_read n s ≡ true
      by_latches e = first_holds (gates_read s n || latches_read s n) (outputs_show s n) (second_holds (gates_read s n) (latches_read s n) e)

      by_outputs : outputs_show s n ≡ true → is_read n s ≡ true
      by_outputs e = second_holds (gates_read s n || latches_read s n) (outputs_show s n) e

      latch_reads : (l : LatchAt) → Contains n.latches l → (l.next.0 == s.0) ≡ true → latches_read s n ≡ true
      latch_reads l there e = any_at (λ (l : LatchAt). l.next.0 == s.0) n.latches l there e

      kept : (l : LatchAt) → Contains m.latches l → Contains n.latches l
      kept l there = Contains-filter (stays (exposed_names n positions)) n.latches l (subst (λ (ls : List LatchAt). Contains ls l) cut.latches there)

      shown : (p : Port) → Contains m.outputs p → (p.signal.0 == s.0) ≡ true → is_read n s ≡ true
      shown p there e = pick (Contains-append_cases n.outputs (map (λ j. as_output (latch_at n j)) positions) p (subst (λ (ps : List Port). Contains ps p) cut.outputs there))
        where
          pick : Contains n.outputs p ⊎ Contains (map (λ j. as_output (latch_at n j)) positions) p → is_read n s ≡ true
          pick (inl own) = by_outputs (any_at (λ (p : Port). p.signal.0 == s.0) n.outputs p own e)
          pick (inr added) =
              let from = Contains-map_from (λ j. as_output (latch_at n j)) positions p added in
              let here : Contains n.latches (latch_at n from.0) = of_at n.latches from.0 (latch_at n from.0) (latch_there_at from.0 (position_within from.0 from.1)) in
              by_latches (latch_reads (latch_at n from.0) here (ap (λ (q : Port). q.signal.0 == s.0) from.2 ∙ e))
            where
              latch_there_at : (j : ℕ) → j < length n.latches → slice_get n.latches j ≡ Some (latch_at n j)
              latch_there_at j below = slice_get-get_or n.latches j no_latch below

      go : ((gates_read s m || latches_read s m) ≡ true) ⊎ (outputs_show s m ≡ true) → is_read n s ≡ true
      go (inl e) = pick (one_of (gates_read s m) (latches_read s m) e)
        where
          pick : (gates_read s m ≡ true) ⊎ (latches_read s m ≡ true) → is_read n s ≡ true
          pick (inl g) = by_gates (ap (λ (gs : List Gate). list_any (λ (g : Gate). list_any (λ (f : Signal). f.0 == s.0) g.fanins) gs) (sym cut.gates) ∙ g)
          pick (inr l) = let found = any_from (λ (l : LatchAt). l.next.0 == s.0) m.latches l in by_latches (latch_reads found.0 (kept found.0 found.1) found.2)
      go (inr e) = let found = any_from (λ (p : Port). p.signal.0 == s.0) m.outputs e in shown found.0 found.1 found.2

  -- a name that the cut net reads is one that the net reads, or an exposed one
  pub read_or_exposed : (name : List ℕ) → Contains (ports_of m).read name → Contains (ports_of n).read name ⊎ Contains (exposed_names n positions) name
  read_or_exposed name h =
      let from = Contains-map_from (λ (p : Port). p.name) (filter (λ (p : Port). is_read m p.signal) m.inputs) name h in
      let there : Contains m.inputs from.0 = Contains-filter (λ (p : Port). is_read m p.signal) m.inputs from.0 from.1 in
      let read : is_read m from.0.signal ≡ true = filter-passed (λ (p : Port). is_read m p.signal) m.inputs from.0 from.1 in
      pick from.0 from.2 read (Contains-append_cases n.inputs (map (λ j. as_input (latch_at n j)) positions) from.0 (subst (λ (ps : List Port). Contains ps from.0) cut.inputs there))
    where
      pick : (p : Port) → p.name ≡ name → is_read m p.signal ≡ true → Contains n.inputs p ⊎ Contains (map (λ j. as_input (latch_at n j)) positions) p → Contains (ports_of n).read name ⊎ Contains (exposed_names n positions) name
      pick p is read (inl own) = inl (subst (Contains (ports_of n).read) is
          (Contains-map (λ (p : Port). p.name) (filter (λ (p : Port). is_read n p.signal) n.inputs) p (Contains-filter_in (λ (p : Port). is_read n p.signal) n.inputs p own (read_before p.signal read))))
      pick p is read (inr added) =
          let from = Contains-map_from (λ j. as_input (latch_at n j)) positions p added in
          inr (subst (Contains (exposed_names n positions)) (ap (λ (q : Port). q.name) from.2 ∙ is) (Contains-map (λ j. (latch_at n j).name) positions from.0 from.1))

-- a name that is read stays
pub read_stays : (own other : NetView) (name : List ℕ) → Contains (ports_of own).read name → Contains (inputs_beside (ports_of own) (ports_of other)) name
read_stays own other name h =
    let from = Contains-map_from (λ (p : Port). p.name) (filter (λ (p : Port). is_read own p.signal) own.inputs) name h in
    let there : Contains own.inputs from.0 = Contains-filter (λ (p : Port). is_read own p.signal) own.inputs from.0 from.1 in
    let input : Contains (ports_of own).inputs name = subst (Contains (ports_of own).inputs) from.2 (Contains-map (λ (p : Port). p.name) own.inputs from.0 there) in
    Contains-filter_in (is_kept (ports_of own) (ports_of other)) (ports_of own).inputs name input
    (ap (λ b. not (is_clock (ports_of other) name && not b)) (is_among-complete (ports_of own).read name h) ∙ and_false (is_clock (ports_of other) name))
  where
    and_false : (b : Bool) → not (b && false) ≡ true
    and_false true = refl
    and_false false = refl

-- no column stands twice
pub columns_once : (a b m : NetView) (names shared : List (List ℕ)) (positions : List ℕ) → IsSound m → IsCut a m positions → exposed_names a positions ≡ names → shared ≡ shared_inputs (ports_of a) (ports_of b) → AreDistinct (shared ++ names)
columns_once a b m names shared positions sound cut named is =
    subst (λ (ss : List (List ℕ)). AreDistinct (ss ++ names)) (sym is) (front_filtered (is_kept (ports_of a) (ports_of b)) (ports_of a).inputs names
    (subst (λ (ns : List (List ℕ)). AreDistinct ns) inputs_are (inputs_once m sound)))
  where
    inputs_are : (ports_of m).inputs ≡ (ports_of a).inputs ++ names
    inputs_are =
        ap (map (λ (p : Port). p.name)) cut.inputs
        ∙ (map-append (λ (p : Port). p.name) a.inputs (map (λ j. as_input (latch_at a j)) positions)
        ∙ ap (λ (ns : List (List ℕ)). (ports_of a).inputs ++ ns) (map-map (λ (p : Port). p.name) (λ j. as_input (latch_at a j)) positions ∙ named))

-- what is read is a column: in A's cut net
pub left_read : (a b m : NetView) (names : List (List ℕ)) (positions : List ℕ) → IsCut a m positions → AreNamedAt a names positions →
    (name : List ℕ) → Contains (ports_of m).read name → Contains (shared_inputs (ports_of a) (ports_of b) ++ names) name
left_read a b m names positions cut at name h = go (read_or_exposed a m positions cut at.within name h)
  where
    go : Contains (ports_of a).read name ⊎ Contains (exposed_names a positions) name → Contains (shared_inputs (ports_of a) (ports_of b) ++ names) name
    go (inl own) = Contains-append_left (shared_inputs (ports_of a) (ports_of b)) names name (read_stays a b name own)
    go (inr exposed) = Contains-append_right (shared_inputs (ports_of a) (ports_of b)) names name (subst (λ (ns : List (List ℕ)). Contains ns name) at.named exposed)

-- and in B's
pub right_read : (a b k : NetView) (names : List (List ℕ)) (positions : List ℕ) → AreMatched (ports_of a) (ports_of b) → IsCut b k positions → AreNamedAt b names positions →
    (name : List ℕ) → Contains (ports_of k).read name → Contains (shared_inputs (ports_of a) (ports_of b) ++ names) name
right_read a b k names positions matched cut at name h = go (read_or_exposed b k positions cut at.within name h)
  where
    go : Contains (ports_of b).read name ⊎ Contains (exposed_names b positions) name → Contains (shared_inputs (ports_of a) (ports_of b) ++ names) name
    go (inl own) = Contains-append_left (shared_inputs (ports_of a) (ports_of b)) names name (matched.inputs_back name (read_stays b a name own))
    go (inr exposed) = Contains-append_right (shared_inputs (ports_of a) (ports_of b)) names name (subst (λ (ns : List (List ℕ)). Contains ns name) at.named exposed)

-- how many pass a test, and how many don't
filter_parts : {X : Type 0} (test : X → Bool) (xs : List X) → length (filter test xs) + length (filter (λ x. not (test x)) xs) ≡ length xs
filter_parts test [] = refl
filter_parts {X} test (x ∷ xs) = go (test x) (filter_parts test xs)
  where
    go : (b : Bool) → length (filter test xs) + length (filter (λ x. not (test x)) xs) ≡ length xs →
        length (cond b (x ∷ filter test xs) (filter test xs)) + length (cond (not b) (x ∷ filter (λ x. not (test x)) xs) (filter (λ x. not (test x)) xs)) ≡ suc (length xs)
    go true h = omega (arith, h)
    go false h = omega (arith, h)

module _ (n m : NetView) (sound : IsSound n) (names : List (List ℕ)) (positions : List ℕ) (cut : IsCut n m positions) (at : AreNamedAt n names positions) where
  abbrev leaves : LatchAt → Bool
  leaves l = not (stays (exposed_names n positions) l)

  leaves_there : (j : ℕ) → Contains positions j → leaves (latch_at n j) ≡ true
  leaves_there j h = ap (λ b. not (not b)) (is_among-Contains (exposed_names n positions) (latch_at n j).name (Contains-map (λ i. (latch_at n i).name) positions j h))

  abbrev rank : ℕ → ℕ
  rank j = length (filter leaves (take j n.latches))

  ranked : (j : ℕ) → Contains positions j → slice_get (filter leaves n.latches) (rank j) ≡ Some (latch_at n j)
  ranked j h = filter-at leaves n.latches j (latch_at n j) (latch_there n sound j (position_within n m positions cut at.within j h)) (leaves_there j h)

  ranks_once : AreDistinct (map rank positions)
  ranks_once i j r hi hj =
      let p = key_at rank positions i r hi in
      let q = key_at rank positions j r hj in
      let here = ranked p.0 (of_at positions i p.0 p.1) in
      let there = ranked q.0 (of_at positions j q.0 q.1) in
      let same : latch_at n p.0 ≡ latch_at n q.0 = one_at (filter leaves n.latches) (rank p.0) (latch_at n p.0) (latch_at n q.0) here (ap (slice_get (filter leaves n.latches)) (p.2 ∙ sym q.2) ∙ there) in
      let one : p.0 ≡ q.0 = one_latch n sound p.0 q.0 (latch_at n q.0).name (position_within n m positions cut at.within p.0 (of_at positions i p.0 p.1)) (position_within n m positions cut at.within q.0 (of_at positions j q.0 q.1))
      (ap (λ (l : LatchAt). l.name) same) refl in
      at.distinct i j p.0 p.1 (q.1 ∙ ap Some (sym one))

  exposed_few : length positions ≤ length (filter leaves n.latches)
  exposed_few =
      let count = few_distinct (map rank positions) (length (filter leaves n.latches)) ranks_once low in
      let size : length (map rank positions) ≡ length positions = length-map rank positions in
      omega (arith, count, size)
    where
      low : (i s : ℕ) → slice_get (map rank positions) i ≡ Some s → s < length (filter leaves n.latches)
      low i s hi =
          let p = key_at rank positions i s hi in
          subst (λ (r : ℕ). r < length (filter leaves n.latches)) p.2 (slice_get_within (filter leaves n.latches) (rank p.0) (latch_at n p.0) (ranked p.0 (of_at positions i p.0 p.1)))

  -- a cut net has at most twice the ports and latches
  pub cut_few : length n.inputs + length n.outputs + length n.latches ≤ 2 ^ 27 → length m.inputs + length m.outputs + length m.latches ≤ 2 ^ 28
  cut_few few =
      let inputs : length m.inputs ≡ length n.inputs + length positions = added_many n.inputs m.inputs (λ j. as_input (latch_at n j)) cut.inputs in
      let outputs : length m.outputs ≡ length n.outputs + length positions = added_many n.outputs m.outputs (λ j. as_output (latch_at n j)) cut.outputs in
      let latches : length m.latches ≡ length (filter (stays (exposed_names n positions)) n.latches) = ap length cut.latches in
      let parts : length (filter (stays (exposed_names n positions)) n.latches) + length (filter leaves n.latches) ≡ length n.latches = filter_parts (stays (exposed_names n positions)) n.latches in
      let exposed = exposed_few in
      omega (arith, few, inputs, outputs, latches, parts, exposed)
    where
      added_many : (before after : List Port) (port : ℕ → Port) → after ≡ before ++ map port positions → length after ≡ length before + length positions
      added_many before after port is = ap length is ∙ (length-append before (map port positions) ∙ ap (λ k. length before + k) (length-map port positions))

  -- the names are no more than the latches
  pub names_few : length names ≤ length n.latches
  names_few =
      let parts : length (filter (stays (exposed_names n positions)) n.latches) + length (filter leaves n.latches) ≡ length n.latches = filter_parts (stays (exposed_names n positions)) n.latches in
      let exposed = exposed_few in
      let count : length names ≡ length positions = ap length (sym at.named) ∙ length-map (λ j. (latch_at n j).name) positions in
      omega (arith, parts, exposed, count)

-- the columns with one exposed name more
pub column_more : (shared exposed : List (List ℕ)) (i : ℕ) (name : List ℕ) (table more : List (List ℕ)) → AreDistinct (shared ++ exposed) → slice_get exposed i ≡ Some name → table ≡ shared ++ take i exposed →
    more ≡ cond (is_among table name) table (table ++ name ∷ []) → more ≡ shared ++ take (i + 1) exposed
column_more shared exposed i name table more once at held made =
    made ∙ (ap (λ b. cond b table (table ++ name ∷ [])) (fresh (is_among (shared ++ take i exposed) name) refl)
    ∙ (ap (λ (names : List (List ℕ)). names ++ name ∷ []) held ∙ (append_assoc shared (take i exposed) (name ∷ []) ∙ ap (λ (names : List (List ℕ)). shared ++ names) (take-push exposed i name at))))
  where
    own : slice_get (shared ++ exposed) (length shared + i) ≡ Some name
    own = slice_get-append_right shared exposed i ∙ at

    fresh : (b : Bool) → is_among (shared ++ take i exposed) name ≡ b → is_among table name ≡ false
    fresh false e = ap (λ (names : List (List ℕ)). is_among names name) held ∙ e
    fresh true e = let found = is_among-at (shared ++ take i exposed) name e in absurd (pick found.0 (slice_get-append_cases shared (take i exposed) found.0 name found.1))
      where
        pick : (k : ℕ) → (slice_get shared k ≡ Some name) ⊎ ((l : ℕ) × (k ≡ length shared + l) × (slice_get (take i exposed) l ≡ Some name)) → ⊥
        pick k (inl front) =
            let same : k ≡ length shared + i = once k (length shared + i) name (slice_get-append shared exposed k name front) own in
            omega (arith, same, slice_get_within shared k name front)
        pick k (inr r) =
            let before = slice_get-take i exposed r.0 name r.2 in
            let same : length shared + r.0 ≡ length shared + i = once (length shared + r.0) (length shared + i) name (slice_get-append_right shared exposed r.0 ∙ before.1) own in
            omega (arith, same, before.0)
