-- Marks of which one is changed.
use Rattle.std.proofs.Common.{◌≡◌, ◌≢◌, ℕ, ◌+◌, ◌<◌, Bool, true, false, List, length, Some, refl, sym, ◌∙◌, ap, subst, arith, inl, inr}
use Rattle.std.specs.Prelude.{◌⊎◌, slice_get, if◌then◌else◌}
use Rattle.std.proofs.Math.ListN.{set}
use Rattle.std.proofs.lemmas.Bool.{ne_eqb}
use Rattle.std.proofs.lemmas.List.{length-set}
use Rattle.std.proofs.lemmas.List.Sums.{sum_by-set}
use Rattle.std.proofs.lemmas.Option.{slice_get_within, get_or_from_slice_get}
use Rattle.latch_graph.specs.minimal_cut.graph_components.flat_net.LatchAt.{LatchAt}
use Rattle.latch_graph.proofs.minimal_cut.graph_components.flat_net.Places.{one_at}
use Rattle.latch_graph.proofs.minimal_cut.graph_components.flat_net.Nets.{some_at}
use Rattle.circuit_theory.proofs.Inputs.{test_refl}
use Rattle.circuit_theory.proofs.Sums.{same_or_not}
use Rattle.latch_graph.specs.minimal_cut.graph_components.Node.{Node}
use Rattle.latch_graph.proofs.minimal_cut.graph_components.Lists.{set_same, set_other, set_cases}
use Rattle.latch_graph.specs.declared.minimal_cut.marks.Direction.{Direction}
use Rattle.latch_graph.specs.declared.minimal_cut.marks.Direction.TheVariants.{Back}
use Rattle.latch_graph.specs.declared.minimal_cut.marks.Mark.{Mark}
use Rattle.latch_graph.specs.declared.minimal_cut.marks.Mark.TheVariants.{Out, Met}
use Rattle.latch_graph.specs.minimal_cut.Readers.{WayBack}
use Rattle.latch_graph.specs.minimal_cut.Marks.{IsBlocked, IsBlockedBut, AreMarks, AreFirst, IsPutBack, IsTried, signal_of}
use Rattle.latch_graph.specs.minimal_cut.Walk.{IsOlder, IsLater, unseen_of, unseen_count}
use Rattle.latch_graph.proofs.minimal_cut.WayLemmas.{way_map}

pub out_met : {way : Direction} {t : ℕ} → Out ≡ Met way t → ⊥
out_met e = cc

pub met_same : {way way' : Direction} {t t' : ℕ} → Met way t ≡ Met way' t' → (way ≡ way') × (t ≡ t')
met_same e = (cc, cc)

-- the same latches are taken out
pub record SameOut (old new : List Mark) : Type 0 where
  pub stay : (s : ℕ) → IsBlocked old s → IsBlocked new s
  pub were : (s : ℕ) → IsBlocked new s → IsBlocked old s

pub same_out_refl : (marks : List Mark) → SameOut marks marks
same_out_refl marks = record { stay = λ s h. h; were = λ s h. h }

pub same_out_then : {x y z : List Mark} → SameOut x y → SameOut y z → SameOut x z
same_out_then a b = record { stay = λ s h. b.stay s (a.stay s h); were = λ s h. a.were s (b.were s h) }

-- a way stays a way
pub way_along : (nodes : List Node) (old new : List Mark) → SameOut old new → {s r : ℕ} → WayBack nodes (IsBlocked old) s r → WayBack nodes (IsBlocked new) s r
way_along nodes old new same way = way_map nodes (IsBlocked old) (IsBlocked new) same.were way

-- a signal that was met isn't that of a latch taken out
pub met_free : (marks : List Mark) (s t : ℕ) (way : Direction) → slice_get marks s ≡ Some (Met way t) → IsBlocked marks s → ⊥
met_free marks s t way h b = out_met (one_at marks s Out (Met way t) b h)

module _ (way : Direction) (turn : ℕ) where
  pub later_refl : (marks : List Mark) → IsLater way turn marks marks
  later_refl marks = record { size = refl; from = λ s m h. inl h; to = λ s m h. inl h }

  -- a mark of this turn isn't older
  pub not_older : (v : Direction) (m : Mark) → m ≡ Met v turn → IsOlder turn m → ⊥
  not_older v m e older = (subst (λ z. IsOlder turn z) e older) refl

  pub later_then : {x y z : List Mark} → IsLater way turn x y → IsLater way turn y z → IsLater way turn x z
  later_then {x} {y} {z} a b = record { size = b.size ∙ a.size; from = λ s m h. from s m (b.from s m h); to = λ s m h. to s m (a.to s m h) }
    where
      from : (s : ℕ) (m : Mark) → (slice_get y s ≡ Some m) ⊎ ((m ≡ Met way turn) × ((k : Mark) × (slice_get y s ≡ Some k) × IsOlder turn k)) →
          (slice_get x s ≡ Some m) ⊎ ((m ≡ Met way turn) × ((k : Mark) × (slice_get x s ≡ Some k) × IsOlder turn k))
      from s m (inl h) = a.from s m h
      from s m (inr h) = go (a.from s h.1.0 h.1.1)
        where
          go : (slice_get x s ≡ Some h.1.0) ⊎ ((h.1.0 ≡ Met way turn) × ((k : Mark) × (slice_get x s ≡ Some k) × IsOlder turn k)) →
              (slice_get x s ≡ Some m) ⊎ ((m ≡ Met way turn) × ((k : Mark) × (slice_get x s ≡ Some k) × IsOlder turn k))
          go (inl k) = inr (h.0, (h.1.0, k, h.1.2))
          go (inr k) = absurd (not_older way h.1.0 k.0 h.1.2)

      to : (s : ℕ) (m : Mark) → (slice_get y s ≡ Some m) ⊎ ((slice_get y s ≡ Some (Met way turn)) × IsOlder turn m) → (slice_get z s ≡ Some m) ⊎ ((slice_get z s ≡ Some (Met way turn)) × IsOlder turn m)
      to s m (inl h) = b.to s m h
      to s m (inr h) = go (b.to s (Met way turn) h.0)
        where
          go : (slice_get z s ≡ Some (Met way turn)) ⊎ ((slice_get z s ≡ Some (Met way turn)) × IsOlder turn (Met way turn)) → (slice_get z s ≡ Some m) ⊎ ((slice_get z s ≡ Some (Met way turn)) × IsOlder turn m)
          go (inl k) = inr (k, h.1)
          go (inr k) = inr (k.0, h.1)

  -- a signal that wasn't met is met
  pub later-set : (marks : List Mark) (t : ℕ) (m : Mark) → slice_get marks t ≡ Some m → IsOlder turn m → IsLater way turn marks (set marks t (Met way turn))
  later-set marks t m h older = record {
    size = length-set marks t (Met way turn);
    from = λ s k x. from s k (set_cases marks t s (Met way turn) k x);
    to = λ s k x. to s k x (same_or_not s t);
  }
    where
      from : (s : ℕ) (k : Mark) → ((s ≡ t) × (Met way turn ≡ k)) ⊎ ((s ≢ t) × (slice_get marks s ≡ Some k)) → (slice_get marks s ≡ Some k) ⊎ ((k ≡ Met way turn) × ((m : Mark) × (slice_get marks s ≡ Some m) × IsOlder turn m))
      from s k (inl x) = inr (sym x.1, (m, subst (λ z. slice_get marks z ≡ Some m) (sym x.0) h, older))
      from s k (inr x) = inl x.1

      to : (s : ℕ) (k : Mark) → slice_get marks s ≡ Some k → (s ≡ t) ⊎ (s ≢ t) → (slice_get (set marks t (Met way turn)) s ≡ Some k) ⊎ ((slice_get (set marks t (Met way turn)) s ≡ Some (Met way turn)) × IsOlder turn k)
      to s k x (inl e) =
          let same : m ≡ k = one_at marks t m k h (subst (λ z. slice_get marks z ≡ Some k) e x) in
          inr (subst (λ z. slice_get (set marks t (Met way turn)) z ≡ Some (Met way turn)) (sym e) (set_same marks t m (Met way turn) h), subst (λ z. IsOlder turn z) same older)
      to s k x (inr n) = inl (set_other marks t s k (Met way turn) n x)

  module _ (old new : List Mark) (later : IsLater way turn old new) where
    pub later_same : SameOut old new
    later_same = record { stay = λ s h. stay s (later.to s Out h); were = λ s h. were s (later.from s Out h) }
      where
        stay : (s : ℕ) → (slice_get new s ≡ Some Out) ⊎ ((slice_get new s ≡ Some (Met way turn)) × IsOlder turn Out) → IsBlocked new s
        stay s (inl h) = h
        stay s (inr h) = absurd h.1

        were : (s : ℕ) → (slice_get old s ≡ Some Out) ⊎ ((Out ≡ Met way turn) × ((m : Mark) × (slice_get old s ≡ Some m) × IsOlder turn m)) → IsBlocked old s
        were s (inl h) = h
        were s (inr h) = absurd (out_met h.0)

    -- what a walk has met in this turn stays met
    pub met_stays : (v : Direction) (s : ℕ) → slice_get old s ≡ Some (Met v turn) → slice_get new s ≡ Some (Met v turn)
    met_stays v s h = go (later.to s (Met v turn) h)
      where
        go : (slice_get new s ≡ Some (Met v turn)) ⊎ ((slice_get new s ≡ Some (Met way turn)) × IsOlder turn (Met v turn)) → slice_get new s ≡ Some (Met v turn)
        go (inl k) = k
        go (inr k) = absurd (k.1 refl)

    -- the other walk has met nothing more
    pub other_were : (v : Direction) (s : ℕ) → (v ≡ way → ⊥) → slice_get new s ≡ Some (Met v turn) → slice_get old s ≡ Some (Met v turn)
    other_were v s other h = go (later.from s (Met v turn) h)
      where
        go : (slice_get old s ≡ Some (Met v turn)) ⊎ ((Met v turn ≡ Met way turn) × ((m : Mark) × (slice_get old s ≡ Some m) × IsOlder turn m)) → slice_get old s ≡ Some (Met v turn)
        go (inl k) = k
        go (inr k) = absurd (other (met_same k.0).0)

    pub later_table : (nodes : List Node) → AreMarks nodes old (turn + 1) → AreMarks nodes new (turn + 1)
    later_table nodes table = record { size = later.size ∙ table.size; early = λ s t v h. early s t v (later.from s (Met v t) h) }
      where
        early : (s t : ℕ) (v : Direction) → (slice_get old s ≡ Some (Met v t)) ⊎ ((Met v t ≡ Met way turn) × ((m : Mark) × (slice_get old s ≡ Some m) × IsOlder turn m)) → t < turn + 1
        early s t v (inl h) = table.early s t v h
        early s t v (inr h) = let same = (met_same h.0).1 in omega (arith, same)

  -- one signal fewer wasn't met
  pub unseen-met : (marks : List Mark) (t : ℕ) (m : Mark) → slice_get marks t ≡ Some m → IsOlder turn m → unseen_count turn (set marks t (Met way turn)) + 1 ≡ unseen_count turn marks
  unseen-met marks t m h older = by m h older
    where
      count : (m : Mark) → slice_get marks t ≡ Some m → unseen_count turn (set marks t (Met way turn)) + unseen_of turn m ≡ unseen_count turn marks + unseen_of turn (Met way turn)
      count m h =
          let l : t < length marks = slice_get_within marks t m h in
          subst (λ x. unseen_count turn (set marks t (Met way turn)) + unseen_of turn x ≡ unseen_count turn marks + unseen_of turn (Met way turn)) (get_or_from_slice_get marks t m m h) (sum_by-set (unseen_of turn) marks t (Met way turn) m l)

      by : (m : Mark) → slice_get marks t ≡ Some m → IsOlder turn m → unseen_count turn (set marks t (Met way turn)) + 1 ≡ unseen_count turn marks
      by Out h older = absurd older
      by (Met v u) h older =
          let one : unseen_of turn (Met v u) ≡ 1 = ap (λ z. if z then 0 else 1) (ne_eqb u turn older) in
          let none : unseen_of turn (Met way turn) ≡ 0 = ap (λ z. if z then 0 else 1) (test_refl turn) in
          let both = count (Met v u) h in
          omega (arith, both, one, none)

-- a latch is put back
pub marks-back : (nodes : List Node) (marks : List Mark) (turn t : ℕ) → AreMarks nodes marks turn → AreMarks nodes (set marks t (Met Back turn)) (turn + 1)
marks-back nodes marks turn t table = record { size = length-set marks t (Met Back turn) ∙ table.size; early = λ s u way h. early s u way (set_cases marks t s (Met Back turn) (Met way u) h) }
  where
    early : (s u : ℕ) (way : Direction) → ((s ≡ t) × (Met Back turn ≡ Met way u)) ⊎ ((s ≢ t) × (slice_get marks s ≡ Some (Met way u))) → u < turn + 1
    early s u way (inl x) = let same = (met_same x.1).1 in omega (arith, same)
    early s u way (inr x) = let l = table.early s u way x.1 in omega (arith, l)

-- a latch is taken out
pub marks-out : (nodes : List Node) (marks : List Mark) (turn t : ℕ) → AreMarks nodes marks turn → AreMarks nodes (set marks t Out) turn
marks-out nodes marks turn t table = record { size = length-set marks t Out ∙ table.size; early = λ s u way h. early s u way (set_cases marks t s Out (Met way u) h) }
  where
    early : (s u : ℕ) (way : Direction) → ((s ≡ t) × (Out ≡ Met way u)) ⊎ ((s ≢ t) × (slice_get marks s ≡ Some (Met way u))) → u < turn
    early s u way (inl x) = absurd (out_met x.1)
    early s u way (inr x) = table.early s u way x.1

pub back_put : (marks : List Mark) (root turn : ℕ) → IsBlocked marks root → IsPutBack marks (set marks root (Met Back turn)) root
back_put marks root turn out = record {
  stay = λ s n h. set_other marks root s Out (Met Back turn) n h;
  were = λ s h. were s (set_cases marks root s (Met Back turn) Out h);
  back = λ b. met_free (set marks root (Met Back turn)) root turn Back (set_same marks root Out (Met Back turn) out) b;
}
  where
    were : (s : ℕ) → ((s ≡ root) × (Met Back turn ≡ Out)) ⊎ ((s ≢ root) × (slice_get marks s ≡ Some Out)) → IsBlocked marks s
    were s (inl x) = absurd (out_met (sym x.1))
    were s (inr x) = x.1

pub back_along : (old marks new : List Mark) (root : ℕ) → IsPutBack old marks root → SameOut marks new → IsPutBack old new root
back_along old marks new root back same = record { stay = λ s n h. same.stay s (back.stay s n h); were = λ s h. back.were s (same.were s h); back = λ b. back.back (same.were root b) }

-- one latch more is taken out
pub first_more : (latches : List LatchAt) (positions : List ℕ) (i j : ℕ) (marks : List Mark) → AreFirst latches positions i marks → slice_get positions i ≡ Some j → signal_of latches j < length marks →
    AreFirst latches positions (i + 1) (set marks (signal_of latches j) Out)
first_more latches positions i j marks f at inside = record {
  from = λ s mark h. from s mark (set_cases marks (signal_of latches j) s Out mark h);
  out = λ k m l h. out k m l h (same_or_not k i) (same_or_not (signal_of latches m) (signal_of latches j));
}
  where
    there : slice_get (set marks (signal_of latches j) Out) (signal_of latches j) ≡ Some Out
    there = let old = some_at marks (signal_of latches j) inside in set_same marks (signal_of latches j) old.0 Out old.1

    from : (s : ℕ) (mark : Mark) → ((s ≡ signal_of latches j) × (Out ≡ mark)) ⊎ ((s ≢ signal_of latches j) × (slice_get marks s ≡ Some mark)) →
        (mark ≡ Met Back 0) ⊎ ((mark ≡ Out) × (k : ℕ) × (m : ℕ) × (slice_get positions k ≡ Some m) × (signal_of latches m ≡ s))
    from s mark (inl x) = inr (sym x.1, i, j, at, sym x.0)
    from s mark (inr x) = f.from s mark x.1

    out : (k m : ℕ) → k < i + 1 → slice_get positions k ≡ Some m → (k ≡ i) ⊎ (k ≢ i) → (signal_of latches m ≡ signal_of latches j) ⊎ (signal_of latches m ≢ signal_of latches j) →
        IsBlocked (set marks (signal_of latches j) Out) (signal_of latches m)
    out k m l h e (inl same) = subst (λ z. slice_get (set marks (signal_of latches j) Out) z ≡ Some Out) (sym same) there
    out k m l h (inl e) (inr n) = absurd (n (ap (λ z. signal_of latches z) (one_at positions i m j (subst (λ z. slice_get positions z ≡ Some m) e h) at)))
    out k m l h (inr o) (inr n) = set_other marks (signal_of latches j) (signal_of latches m) Out Out n (f.out k m (omega (arith, l, o)) h)

pub first_none : (latches : List LatchAt) (positions : List ℕ) (marks : List Mark) → ((s : ℕ) (mark : Mark) → slice_get marks s ≡ Some mark → mark ≡ Met Back 0) → AreFirst latches positions 0 marks
first_none latches positions marks none = record { from = λ s mark h. inl (none s mark h); out = λ i j l h. absurd (omega (arith, l)) }

-- a latch that was put back is taken out for good where it is needed
pub tried_if : (old mid new : List Mark) (root : ℕ) (needed : Bool) → IsPutBack old mid root → root < length mid → new ≡ (if needed then set mid root Out else mid) → IsTried old new root needed
tried_if old mid new root true back inside e = subst (λ z. IsTried old z root true) (sym e) (record {
  stay = λ s n h. set_other mid root s Out Out n (back.stay s n h);
  were = λ s n h. back.were s (only s n (set_cases mid root s Out Out h));
  out = λ e. there;
  back = λ e. absurd (true_false e);
})
  where
    true_false : true ≡ false → ⊥
    true_false e = cc

    there : IsBlocked (set mid root Out) root
    there = let mark = some_at mid root inside in set_same mid root mark.0 Out mark.1

    only : (s : ℕ) → s ≢ root → ((s ≡ root) × (Out ≡ Out)) ⊎ ((s ≢ root) × (slice_get mid s ≡ Some Out)) → IsBlocked mid s
    only s n (inl x) = absurd (n x.0)
    only s n (inr x) = x.1
tried_if old mid new root false back inside e = subst (λ z. IsTried old z root false) (sym e) (record { stay = back.stay; were = λ s n h. back.were s h; out = λ e. absurd (false_true e); back = λ e. back.back })
  where
    false_true : false ≡ true → ⊥
    false_true e = cc

pub marks_if : (nodes : List Node) (mid new : List Mark) (turn root : ℕ) (needed : Bool) → AreMarks nodes mid turn → new ≡ (if needed then set mid root Out else mid) → AreMarks nodes new turn
marks_if nodes mid new turn root true table e = subst (λ z. AreMarks nodes z turn) (sym e) (marks-out nodes mid turn root table)
marks_if nodes mid new turn root false table e = subst (λ z. AreMarks nodes z turn) (sym e) table

-- a way that was there with the latch put back stays one but for this latch
pub way_but : (nodes : List Node) (mid new : List Mark) (root : ℕ) (needed : Bool) → new ≡ (if needed then set mid root Out else mid) → {s r : ℕ} → WayBack nodes (IsBlocked mid) s r → WayBack nodes (IsBlockedBut new root) s r
way_but nodes mid new root needed e way = way_map nodes (IsBlocked mid) (IsBlockedBut new root) (λ s b. were needed e s b.1 b.0) way
  where
    only : (s : ℕ) → s ≢ root → ((s ≡ root) × (Out ≡ Out)) ⊎ ((s ≢ root) × (slice_get mid s ≡ Some Out)) → IsBlocked mid s
    only s n (inl x) = absurd (n x.0)
    only s n (inr x) = x.1

    were : (needed : Bool) → new ≡ (if needed then set mid root Out else mid) → (s : ℕ) → s ≢ root → IsBlocked new s → IsBlocked mid s
    were true e s n b = only s n (set_cases mid root s Out Out (subst (λ (z : List Mark). IsBlocked z s) e b))
    were false e s n b = subst (λ (z : List Mark). IsBlocked z s) e b
