-- The cycles of two runs, one after the other.
use Rattle.std.proofs.Common.{◌≡◌, ℕ, zero, suc, ◌<◌, ◌≤◌, Bool, true, false, cond, List, [], ◌∷◌, ◌++◌, map, length, replicate, get_or, slice_get, refl, sym, ap, ◌∙◌, subst, arith, Option, Some, None}
use Rattle.std.specs.Prelude.{◌||◌}
use Rattle.std.proofs.lemmas.Option.{get_or_from_slice_get}
use Rattle.flat_net.specs.declared.parts.LatchAt.{LatchAt}
use Rattle.flat_net.specs.Sound.{IsSound}
use Rattle.flat_net.specs.View.{NetView}
use Rattle.sec_setup.specs.declared.ports.pairs.SignalPair.{SignalPair}
use Rattle.sec_setup.specs.ports.Pairs.{NamedPair, places_of}
use Rattle.cycle_sim.specs.declared.pair_runs.differences.Difference.{Difference}
use Rattle.cycle_sim.proofs.Lists.{map_at}
use Rattle.restart.specs.Behind.{AreColumnsOf}
use Rattle.restart.specs.Cycle.{AreOfCycle}
use Rattle.restart.proofs.Ran.{Ran, ran_none, ran_grown, ran_inputs, ran_gates, ran_later}
use Rattle.circuit_theory.proofs.Lists.{at_of, map_same}
use Rattle.job_known.specs.declared.course.Course.{Course}
use Rattle.job_known.specs.declared.known_pairs.KnownReplay.{KnownReplay}
use Rattle.job_known.specs.Known.{known_at_first, KnownRun}
use Rattle.job_known.specs.Course.{IsFirst, IsSized, Steps}
use Rattle.job_known.specs.Cycle.{marked, PutsCycle}
use Rattle.job_known.specs.Pairs.{both_known, differences_in, some_known, differences_of, is_seen, cycles_of, AreShown, ShowsKnown}
use Rattle.job_known.proofs.Marks.{marked_by}

-- what runs show that are one up to there
module _ (v w v' w' : ℕ → ℕ → Option Bool) where
  abbrev pub SameBelow : ℕ → Type 0
  SameBelow n = ((s p : ℕ) → s < n → v' s p ≡ v s p) × ((s p : ℕ) → s < n → w' s p ≡ w s p)

  lower : (n : ℕ) → SameBelow (suc n) → SameBelow n
  lower n same = (λ s p h. same.0 s p (omega (arith, h)), λ s p h. same.1 s p (omega (arith, h)))

  seen_same : (n : ℕ) (p : NamedPair ℕ ℕ) → SameBelow n → is_seen v' w' n p ≡ is_seen v w n p
  seen_same zero p same = refl
  seen_same (suc n) p same =
      let left : v' n p.left ≡ v n p.left = same.0 n p.left (omega arith) in
      let right : w' n p.right ≡ w n p.right = same.1 n p.right (omega arith) in
      let front : is_seen v' w' n p ≡ is_seen v w n p = seen_same n p (lower n same) in
      rw front (rw left (rw right refl))

-- what a cycle shows by values that are one
module _ (x y x' y' : ℕ → Option Bool) (left : (s : ℕ) → x' s ≡ x s) (right : (s : ℕ) → y' s ≡ y s) where
  in_same : (t : ℕ) (pairs : List (NamedPair ℕ ℕ)) → differences_in t x' y' pairs ≡ differences_in t x y pairs
  in_same t [] = refl
  in_same t (p ∷ pairs) = rw (left p.left) (rw (right p.right) (rw (in_same t pairs) refl))

  some_same : (pairs : List (NamedPair ℕ ℕ)) → some_known x' y' pairs ≡ some_known x y pairs
  some_same [] = refl
  some_same (p ∷ pairs) = rw (left p.left) (rw (right p.right) (rw (some_same pairs) refl))

module _ (v w v' w' : ℕ → ℕ → Option Bool) (pairs : List (NamedPair ℕ ℕ)) where
  differences_same : (n : ℕ) → SameBelow v w v' w' n → differences_of v' w' pairs n ≡ differences_of v w pairs n
  differences_same zero same = refl
  differences_same (suc n) same =
      rw (differences_same n (lower v w v' w' n same)) (ap (λ ds. differences_of v w pairs n ++ ds) (in_same (v n) (w n) (v' n) (w' n) (λ s. same.0 n s (omega arith)) (λ s. same.1 n s (omega arith)) n pairs))

  cycles_same : (n : ℕ) → SameBelow v w v' w' n → cycles_of v' w' pairs n ≡ cycles_of v w pairs n
  cycles_same zero same = refl
  cycles_same (suc n) same =
      rw (some_same (v n) (w n) (v' n) (w' n) (λ s. same.0 n s (omega arith)) (λ s. same.1 n s (omega arith)) pairs) (rw (cycles_same n (lower v w v' w' n same)) refl)

  -- what one cycle more shows
  module _ (t : ℕ) (x y : ℕ → Option Bool) (old new : KnownReplay) (before : AreShown v w pairs t old) (same : SameBelow v w v' w' t) (left : (s : ℕ) → x s ≡ v' t s) (right : (s : ℕ) → y s ≡ w' t s) (puts : PutsCycle t x y pairs old new) where
    pair_seen : (p : NamedPair ℕ ℕ) → is_seen v w t p || both_known (x p.left) (y p.right) ≡ is_seen v' w' (suc t) p
    pair_seen p = rw (sym (seen_same v w v' w' t p same)) (rw (left p.left) (rw (right p.right) refl))

    pub shown_more : AreShown v' w' pairs (suc t) new
    shown_more = record {
      differences = puts.differences
          ∙ (ap (λ (ds : List Difference). ds ++ differences_in t x y pairs) (before.differences ∙ sym (differences_same t same))
          ∙ ap (λ (ds : List Difference). differences_of v' w' pairs t ++ ds) (in_same (v' t) (w' t) x y left right t pairs));
      seen = puts.seen ∙ (ap (marked x y pairs) before.seen ∙ (marked_by x y (is_seen v w t) pairs ∙ map_same (λ p. is_seen v w t p || both_known (x p.left) (y p.right)) (is_seen v' w' (suc t)) pairs (λ p k. pair_seen p)));
      cycles = puts.cycles ∙ (ap (λ (b : Bool). cond b (suc old.cycles) old.cycles) (some_same (v' t) (w' t) x y left right pairs) ∙ ap (λ (n : ℕ). cond (some_known (v' t) (w' t) pairs) (suc n) n) (before.cycles ∙ sym (cycles_same t same)));
    }

-- before the first cycle nothing is shown
none_seen : (v w : ℕ → ℕ → Option Bool) (pairs : List SignalPair) → replicate (length pairs) false ≡ map (is_seen v w 0) (map places_of pairs)
none_seen v w [] = refl
none_seen v w (p ∷ pairs) = ap (λ (bits : List Bool). false ∷ bits) (none_seen v w pairs)

pub none_shown : (v w : ℕ → ℕ → Option Bool) (pairs : List SignalPair) (found : KnownReplay) → found.differences ≡ [] → found.seen.items ≡ replicate (length pairs) false → found.cycles ≡ 0 → AreShown v w (map places_of pairs) 0 found
none_shown v w pairs found none unseen uncounted = record { differences = none; seen = unseen ∙ none_seen v w pairs; cycles = uncounted }

-- one net's run over so many rows
pub record Side (n : NetView) (columns : List ℕ) (rows : List (List Bool)) (t : ℕ) (c : Course) : Type 0 where
  pub columns_are : c.columns.items ≡ columns
  pub sized : IsSized n c
  pub ran : Ran n columns rows known_at_first t c.latches.items c.values.items

module _ (n : NetView) (sound : IsSound n) (columns : List ℕ) (rows : List (List Bool)) where
  pub side_first : (names : List (List ℕ)) (c : Course) → c.columns.items ≡ columns → IsFirst n names c → Side n columns rows 0 c
  side_first names c same first = record {
    columns_are = same;
    sized = first.sized;
    ran = ran_none n columns rows known_at_first sound c.latches.items c.values.items begins first.values;
  }
    where
      begins : (j : ℕ) (l : LatchAt) → slice_get n.latches j ≡ Some l → get_or c.latches.items j None ≡ known_at_first l
      begins j l at = get_or_from_slice_get c.latches.items j (known_at_first l) None (ap (λ (ks : List (Option Bool)). slice_get ks j) first.latches ∙ map_at known_at_first n.latches j l at)

  module _ (t : ℕ) (row : List Bool) (old new : Course) (has : slice_get rows t ≡ Some row) (side : Side n columns rows t old) (steps : Steps n row old new) where
    pub side_more : (more : Side n columns rows (suc t) new) × ((s p : ℕ) → s < t → more.ran.run s p ≡ side.ran.run s p)
    side_more = (
      record { columns_are = steps.columns ∙ side.columns_are; sized = steps.sized; ran = grown.0 },
      grown.1,
    )
      where
        grown : (more : Ran n columns rows known_at_first (suc t) new.latches.items new.values.items) × ((s p : ℕ) → s < t → more.run s p ≡ side.ran.run s p)
        grown =
            ran_grown n columns rows known_at_first sound t row old.latches.items new.values.items old.values.items new.latches.items has side.ran
            (subst (λ (ks : List ℕ). AreOfCycle n ks row old.latches.items new.values.items) side.columns_are steps.cycle) steps.taken

  -- over all rows it is the run
  pub side_run : (names : List (List ℕ)) (c : Course) → AreColumnsOf n names columns → (side : Side n columns rows (length rows) c) → (known : KnownRun n names rows) × (known.run ≡ side.ran.run)
  side_run names c are side = (
    record {
      columns = columns;
      are_columns = are;
      run = side.ran.run;
      is_run = record {
        power = λ l h. let at = at_of n.latches l h in side.ran.power at.0 l at.1;
        inputs = ran_inputs n columns rows known_at_first sound c.latches.items c.values.items side.ran;
        gates = ran_gates n columns rows known_at_first sound c.latches.items c.values.items side.ran;
        later = ran_later n columns rows known_at_first sound c.latches.items c.values.items side.ran;
      };
    },
    refl,
  )

-- both nets' runs over so many rows, and what they show
pub record IsAt (a b : NetView) (left_columns right_columns : List ℕ) (rows : List (List Bool)) (pairs : List SignalPair) (t : ℕ) (left right : Course) (found : KnownReplay) : Type 0 where
  pub left_side : Side a left_columns rows t left
  pub right_side : Side b right_columns rows t right
  pub shown : AreShown left_side.ran.run right_side.ran.run (map places_of pairs) t found

module _ (a b : NetView) (sound_a : IsSound a) (sound_b : IsSound b) (left_columns right_columns : List ℕ) (rows : List (List Bool)) (pairs : List SignalPair) where
  pub at_more : (t : ℕ) (row : List Bool) (left right left' right' : Course) (found found' : KnownReplay) → slice_get rows t ≡ Some row → IsAt a b left_columns right_columns rows pairs t left right found → Steps a row left left' → Steps b row right right' →
      PutsCycle t (λ s. get_or left'.values.items s None) (λ s. get_or right'.values.items s None) (map places_of pairs) found found' → IsAt a b left_columns right_columns rows pairs (suc t) left' right' found'
  at_more t row left right left' right' found found' has at left_steps right_steps puts =
      let l = side_more a sound_a left_columns rows t row left left' has at.left_side left_steps in
      let r = side_more b sound_b right_columns rows t row right right' has at.right_side right_steps in
      record {
        left_side = l.0;
        right_side = r.0;
        shown = shown_more at.left_side.ran.run at.right_side.ran.run l.0.ran.run r.0.ran.run (map places_of pairs) t (λ s. get_or left'.values.items s None) (λ s. get_or right'.values.items s None) found found' at.shown (l.1, r.1)
            (λ s. l.0.ran.last t s refl) (λ s. r.0.ran.last t s refl) puts;
      }

  pub all_shown : (names : List (List ℕ)) (left right : Course) (found : KnownReplay) → AreColumnsOf a names left_columns → AreColumnsOf b names right_columns → IsAt a b left_columns right_columns rows pairs (length rows) left right found →
      ShowsKnown a b (map places_of pairs) names rows found
  all_shown names left right found are_a are_b at =
      let l = side_run a sound_a left_columns rows names left are_a at.left_side in
      let r = side_run b sound_b right_columns rows names right are_b at.right_side in
      record {
        left = l.0;
        right = r.0;
        shown = subst (λ (v : ℕ → ℕ → Option Bool). AreShown v r.0.run (map places_of pairs) (length rows) found) (sym l.1)
            (subst (λ (w : ℕ → ℕ → Option Bool). AreShown at.left_side.ran.run w (map places_of pairs) (length rows) found) (sym r.1) at.shown);
      }

-- no more cycles are counted than there are
pub cycles_few : (v w : ℕ → ℕ → Option Bool) (pairs : List (NamedPair ℕ ℕ)) (n : ℕ) → cycles_of v w pairs n ≤ n
cycles_few v w pairs zero = omega arith
cycles_few v w pairs (suc n) = go (some_known (v n) (w n) pairs) (cycles_few v w pairs n)
  where
    go : (b : Bool) → cycles_of v w pairs n ≤ n → cond b (suc (cycles_of v w pairs n)) (cycles_of v w pairs n) ≤ suc n
    go true h = omega (arith, h)
    go false h = omega (arith, h)
