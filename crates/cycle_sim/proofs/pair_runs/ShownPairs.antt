-- What is shown of the pairs in each cycle is right in every run that both nets have gone through.
use Rattle.std.proofs.Common.{◌≡◌, ◌∙◌, ◌+◌, ◌-◌, ◌<◌, ℕ, Bool, List, [], ◌∷◌, ◌++◌, map, length, slice_get, Option, Some, inl, inr, ◌⊎◌, sym, ap, subst, arith, append_assoc, length-append}
use Rattle.std.specs.Prelude.{IfSome}
use Rattle.std.proofs.lemmas.List.{map-append}
use Rattle.circuit_theory.proofs.Lists.{length-map}
use Rattle.std.proofs.lemmas.Option.{slice_get_within, slice_get-get_or, same_Some}
use Rattle.circuit_theory.specs.Replay.{Difference as PlacedDifference}
use Rattle.flat_net.specs.View.{NetView}
use Rattle.flat_net.proofs.Nets.{some_at}
use Rattle.cycle_sim.specs.Runs.{IsRunFrom}
use Rattle.cycle_sim.specs.View.{HasMarkedRun, IsLatest, IsLatestMark, IsMark}
use Rattle.cycle_sim.proofs.Runs.{shorter}
use Rattle.cycle_sim.specs.declared.pair_runs.differences.Difference.{Difference}
use Rattle.cycle_sim.specs.declared.pair_runs.differences.OutputPair.{OutputPair}
use Rattle.cycle_sim.specs.declared.pair_runs.feed.Feed.{Feed}
use Rattle.cycle_sim.specs.declared.pair_runs.shown.Shown.{Shown}
use Rattle.cycle_sim.specs.pair_runs.Outputs.{no_port, output_at}
use Rattle.cycle_sim.specs.pair_runs.Feeding.{reordered}
use Rattle.cycle_sim.specs.pair_runs.Feeds.{Fed, fed, zeros, Steps, IsRunOf, AreShownAt, PutsCycles}
use Rattle.cycle_sim.specs.pair_runs.Listing.{differences_in, differences_from, first_with, IsFirstIn}
use Rattle.cycle_sim.specs.pair_runs.Showing.{IsShown, ArePlacesOf, PutsShown, called, names_of}
use Rattle.cycle_sim.proofs.pair_runs.Firsts.{first_more}
use Rattle.cycle_sim.proofs.pair_runs.Listed.{from_more}
use Rattle.cycle_sim.proofs.pair_runs.Places.{pushed_at}

-- what is said of the output at a place
at_output : (n : NetView) (i : ℕ) (P : ℕ → Type 0) → i < length n.outputs → IfSome (slice_get n.outputs i) (λ port. P port.signal.0) → P (output_at n i).signal.0
at_output n i P h said = subst (λ o. IfSome o (λ port. P port.signal.0)) (slice_get-get_or n.outputs i no_port h) said

-- a net that has been fed so many rows
pub record IsFedBy (f : Fed) (done : List (List Bool)) (x : Feed) : Type 0 where
  pub same : fed x ≡ f
  pub space : length x.bits.items ≡ length x.columns.items
  pub run : HasMarkedRun x.sim (zeros f.net) (map (reordered f.columns) done)

-- both have been fed the rows, the differences stand behind the others, and it is noted which pairs are settled in both
pub record IsAt (f g : Fed) (pairs : List OutputPair) (done : List (List Bool)) (x y : Feed) (old new : List Difference) (firsts : List (Option ℕ)) : Type 0 where
  pub left_is : IsFedBy f done x
  pub right_is : IsFedBy g done y
  pub puts : PutsCycles f g pairs done old new firsts

-- one row more
fed_more : (f : Fed) (done : List (List Bool)) (row : List Bool) (x y : Feed) → IsFedBy f done x → Steps x row y → IsFedBy f (done ++ row ∷ []) y
fed_more f done row x y by step = record {
  same = (λ i. record { net = step.net i; bits = step.bits i; columns = step.columns i }) ∙ by.same;
  space = step.space ∙ (by.space ∙ ap length (sym step.columns));
  run = subst (λ rows. HasMarkedRun y.sim (zeros f.net) rows) more (step.run (zeros f.net) (map (reordered f.columns) done) by.run);
}
  where
    more : map (reordered f.columns) done ++ reordered x.columns.items row ∷ [] ≡ map (reordered f.columns) (done ++ row ∷ [])
    more = ap (λ (g : Fed). map (reordered f.columns) done ++ reordered g.columns row ∷ []) by.same ∙ sym (map-append (reordered f.columns) done (row ∷ []))

-- the value and the mark in the latest cycle of every run
module _ (f : Fed) (done : List (List Bool)) (x : Feed) (by : IsFedBy f done x) (t : ℕ) (now : length done ≡ t + 1) where
  latest_cycle : x.sim.sim.cycles - 1 ≡ t
  latest_cycle = let c = by.run.goes.cycles in let e = length-map (reordered f.columns) done in omega (arith, c, e, now)

  net_is : x.sim.sim.net ≡ f.net
  net_is = ap (λ (g : Fed). g.net) by.same

  bits_are : x.sim.enabled ≡ f.bits
  bits_are = ap (λ (g : Fed). g.bits) by.same

  value_at : (run : ℕ → ℕ → Bool) → IsRunOf f done run → (i : ℕ) (bit : Bool) → i < length f.net.outputs → IfSome (slice_get x.sim.sim.net.outputs i) (λ port. IsLatest x.sim.sim port.signal.0 bit) →
      bit ≡ run t (output_at f.net i).signal.0
  value_at run from i bit h said =
      let own : IsLatest x.sim.sim (output_at x.sim.sim.net i).signal.0 bit = at_output x.sim.sim.net i (λ p. IsLatest x.sim.sim p bit) (subst (λ (n : NetView). i < length n.outputs) (sym net_is) h) said in
      own (zeros f.net) (map (reordered f.columns) done) run by.run.goes (subst (λ (n : NetView). IsRunFrom n (zeros f.net) (map (reordered f.columns) done) run) (sym net_is) from)
      ∙ (ap (λ k. run k (output_at x.sim.sim.net i).signal.0) latest_cycle ∙ ap (λ (n : NetView). run t (output_at n i).signal.0) net_is)

  mark_at : (run : ℕ → ℕ → Bool) → IsRunOf f done run → (i : ℕ) (bit : Bool) → i < length f.net.outputs → IfSome (slice_get x.sim.sim.net.outputs i) (λ port. IsLatestMark x.sim port.signal.0 bit) →
      IsMark f.net f.bits run t (output_at f.net i).signal.0 bit
  mark_at run from i bit h said =
      let own : IsLatestMark x.sim (output_at x.sim.sim.net i).signal.0 bit = at_output x.sim.sim.net i (λ p. IsLatestMark x.sim p bit) (subst (λ (n : NetView). i < length n.outputs) (sym net_is) h) said in
      let here : IsMark x.sim.sim.net x.sim.enabled run (x.sim.sim.cycles - 1) (output_at x.sim.sim.net i).signal.0 bit =
      own (zeros f.net) (map (reordered f.columns) done) run by.run (subst (λ (n : NetView). IsRunFrom n (zeros f.net) (map (reordered f.columns) done) run) (sym net_is) from) in
      subst (λ (n : NetView). IsMark n f.bits run t (output_at n i).signal.0 bit) net_is
      (subst (λ (b : List Bool). IsMark x.sim.sim.net b run t (output_at x.sim.sim.net i).signal.0 bit) bits_are
      (subst (λ (k : ℕ). IsMark x.sim.sim.net x.sim.enabled run k (output_at x.sim.sim.net i).signal.0 bit) latest_cycle here))

-- the pairs of the latest cycle
cycle_shown : (f g : Fed) (pairs : List OutputPair) (done : List (List Bool)) (x y : Feed) (t : ℕ) → length done ≡ t + 1 → ArePlacesOf f.net g.net pairs → IsFedBy f done x → IsFedBy g done y →
    (shown : List Shown) → length shown ≡ length pairs → ((j : ℕ) (p : OutputPair) (s : Shown) → slice_get pairs j ≡ Some p → slice_get shown j ≡ Some s → IsShown x.sim y.sim p s) →
    (left right : ℕ → ℕ → Bool) → IsRunOf f done left → IsRunOf g done right → AreShownAt f g pairs left right t shown
cycle_shown f g pairs done x y t now places by_x by_y shown each is left right from_left from_right = record {
  each = each;
  right_is = λ j p s at_p at_s.
      let here = is j p s at_p at_s in
      let h = places.left j p at_p in
      let k = places.right j p at_p in
      record {
        left_is = value_at f done x by_x t now left from_left p.left s.left h here.left;
        right_is = value_at g done y by_y t now right from_right p.right s.right k here.right;
        left_mark = mark_at f done x by_x t now left from_left p.left s.left_mark h here.left_mark;
        right_mark = mark_at g done y by_y t now right from_right p.right s.right_mark k here.right_mark;
      };
}

-- a run over the rows is one over those before the last
run_before : (f : Fed) (done : List (List Bool)) (row : List Bool) (run : ℕ → ℕ → Bool) → IsRunOf f (done ++ row ∷ []) run → IsRunOf f done run
run_before f done row run from =
    shorter f.net (zeros f.net) (map (reordered f.columns) done) (reordered f.columns row) run
    (subst (λ (rows : List (List Bool)). IsRunFrom f.net (zeros f.net) rows run) (map-append (reordered f.columns) done (row ∷ [])) from)

-- one row more is fed to both
pub at_more : (f g : Fed) (pairs : List OutputPair) (done : List (List Bool)) (row : List Bool) (x y v w : Feed) (old mid new : List Difference) (firsts noted : List (Option ℕ)) → ArePlacesOf f.net g.net pairs → IsAt f g pairs done x y old mid firsts → Steps x row v → Steps y row w →
    PutsShown v.sim w.sim pairs x.sim.sim.cycles mid new firsts noted → IsAt f g pairs (done ++ row ∷ []) v w old new noted
at_more f g pairs done row x y v w old mid new firsts noted places at step_x step_y last = record {
  left_is = by_v;
  right_is = by_w;
  puts = record {
    cycles = cycles ++ last.shown ∷ [];
    each = let a = length-append cycles (last.shown ∷ []) in let b = at.puts.each in omega (arith, a, b, more);
    found_is =
        last.found_is
        ∙ (ap (λ ds. ds ++ map call (differences_in x.sim.sim.cycles 0 last.shown)) at.puts.found_is
        ∙ (append_assoc old (map call (differences_from 0 cycles)) (map call (differences_in x.sim.sim.cycles 0 last.shown))
        ∙ ap (λ ds. old ++ ds) (ap (λ k. map call (differences_from 0 cycles) ++ map call (differences_in k 0 last.shown)) place
        ∙ (sym (map-append call (differences_from 0 cycles) (differences_in (0 + length cycles) 0 last.shown)) ∙ ap (map call) (sym (from_more 0 cycles last.shown))))));
    shown = λ left right from_left from_right t shown there. go left right from_left from_right t shown (pushed_at cycles last.shown t shown there);
    size = last.size ∙ at.puts.size;
    firsts_are = λ j first there.
        let w = slice_get_within noted j first there in
        let e = last.size in
        let s = at.puts.size in
        let each = last.each in
        let before = some_at firsts j (omega (arith, w, e)) in
        let pair = some_at last.shown j (omega (arith, w, e, s, each)) in
        let here : length cycles ≡ x.sim.sim.cycles = let p = place in omega (arith, p) in
        subst (IsFirstIn (cycles ++ last.shown ∷ []) j) (same_Some (first_with before.0 (length cycles) pair.0) first (ap (λ k. Some (first_with before.0 k pair.0)) here ∙ (sym (last.noted_are j pair.0 before.0 pair.1 before.1) ∙ there)))
        (first_more cycles last.shown j pair.0 pair.1 before.0 (at.puts.firsts_are j before.0 before.1));
  };
}
  where
    call : PlacedDifference → Difference
    call = called (names_of pairs)

    cycles : List (List Shown)
    cycles = at.puts.cycles

    more : length (done ++ row ∷ []) ≡ length done + 1
    more = length-append done (row ∷ [])

    by_v : IsFedBy f (done ++ row ∷ []) v
    by_v = fed_more f done row x v at.left_is step_x

    by_w : IsFedBy g (done ++ row ∷ []) w
    by_w = fed_more g done row y w at.right_is step_y

    place : x.sim.sim.cycles ≡ 0 + length at.puts.cycles
    place = let c = at.left_is.run.goes.cycles in let e = length-map (reordered f.columns) done in let b = at.puts.each in omega (arith, c, e, b)

    go : (left right : ℕ → ℕ → Bool) → IsRunOf f (done ++ row ∷ []) left → IsRunOf g (done ++ row ∷ []) right → (t : ℕ) (shown : List Shown) →
        (slice_get at.puts.cycles t ≡ Some shown) ⊎ ((t ≡ length at.puts.cycles) × (last.shown ≡ shown)) → AreShownAt f g pairs left right t shown
    go left right from_left from_right t shown (inl there) = at.puts.shown left right (run_before f done row left from_left) (run_before g done row right from_right) t shown there
    go left right from_left from_right t shown (inr here) =
        let e = here.0 in
        let b = at.puts.each in
        subst (AreShownAt f g pairs left right t) here.1
        (cycle_shown f g pairs (done ++ row ∷ []) v w t (omega (arith, e, b, more)) places by_v by_w last.shown last.each last.right left right from_left from_right)
