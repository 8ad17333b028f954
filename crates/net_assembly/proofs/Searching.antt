-- The turns of a search through what numbers read.
use Rattle.std.proofs.Common.{◌≡◌, ◌≢◌, ◌+◌, ◌-◌, ◌<◌, ◌≤◌, ◌∙◌, ℕ, zero, suc, List, [], ◌∷◌, ◌++◌, length, take, drop, reverse, set, replicate, slice_get, get_or, unwrap_or, cond, ltb, Bool, true, false, Option, Some, None, refl, sym, ap, subst, arith, inl, inr}
use Rattle.std.specs.Prelude.{◌⊎◌, IfSome, ◌==◌}
use Rattle.std.specs.List.{All, Contains, position, position_or_len}
use Rattle.std.proofs.lemmas.Bool.{cases_lt}
use Rattle.std.proofs.lemmas.List.{get_or-reverse, get_or-drop, length-reverse, length-drop, length-replicate, get_or-replicate, take_all}
use Rattle.std.proofs.lemmas.List.Quantifiers.{position-Some}
use Rattle.std.proofs.lemmas.Bool.Decides.{Decides-eqb, Decides-ltb}
use Rattle.std.proofs.lemmas.Option.{none-some, same_Some, slice_get_within, slice_get_read, slice_get-get_or, get_or_from_slice_get}
use Rattle.std.proofs.lemmas.List.Elements.{All-get_or, All-contains}
use Rattle.circuit_theory.proofs.Lists.{at_of, of_at}
use Rattle.base_tables.specs.Table.{AreDistinct}
use Rattle.base_tables.proofs.TableLemmas.{slice_get-take}
use Rattle.net_assembly.specs.declared.search.Mark.{Mark}
use Rattle.net_assembly.specs.declared.search.Mark.TheVariants.{New, Entered, Done}
use Rattle.net_assembly.specs.Order.{reads_of, IsBehind, IsOrder, IsRound}
use Rattle.net_assembly.specs.Searched.{IsMet, IsSearch, IsClosed, IsTurn, steps_of, steps_left, looked_at}
use Rattle.net_assembly.proofs.Rows.{same_or_not, slice_get-append, slice_get-push, slice_get-push_cases, slice_get-set_same, slice_get-set_other, slice_get-set_cases, slice_get-take_to, length-set_is}

entered-done : (k : ℕ) → Entered k ≢ Done
entered-done k e = cc

new-done : New ≢ Done
new-done e = cc

entered-new : (k : ℕ) → Entered k ≢ New
entered-new k e = cc

done-new : Done ≢ New
done-new e = cc

same_entered : (j k : ℕ) → Entered j ≡ Entered k → j ≡ k
same_entered j k e = cc

one_mark : (marks : List Mark) (n : ℕ) (x y : Mark) → slice_get marks n ≡ Some x → slice_get marks n ≡ Some y → x ≡ y
one_mark marks n x y hx hy = same_Some x y (sym hx ∙ hy)

-- numbers with different marks are different
apart : (marks : List Mark) (n m : ℕ) (x y : Mark) → slice_get marks n ≡ Some x → slice_get marks m ≡ Some y → x ≢ y → n ≢ m
apart marks n m x y hx hy differ e = differ (one_mark marks m x y (subst (λ k. slice_get marks k ≡ Some x) e hx) hy)

-- a done number stays done where the mark of another one is written
done_stays : (marks : List Mark) (n : ℕ) (old new : Mark) → slice_get marks n ≡ Some old → old ≢ Done → (r : ℕ) → slice_get marks r ≡ Some Done → slice_get (set marks n new) r ≡ Some Done
done_stays marks n old new h differ r d = slice_get-set_other marks n r new (apart marks r n Done old d h (λ e. differ (sym e))) ∙ d

-- what was met is met where a mark but `New` is written
met_stays : (marks : List Mark) (n : ℕ) (old new : Mark) → slice_get marks n ≡ Some old → new ≢ New → (m : ℕ) → IsMet marks m → IsMet (set marks n new) m
met_stays marks n old new h differ m met = go (same_or_not m n)
  where
    go : (m ≡ n) ⊎ (m ≢ n) → IsMet (set marks n new) m
    go (inl e) = (new, subst (λ k. slice_get (set marks n new) k ≡ Some new) (sym e) (slice_get-set_same marks n new old h), differ)
    go (inr other) = (met.0, slice_get-set_other marks n m new other ∙ met.1, met.2)

none_in : {X : Type 0} (i : ℕ) (x : X) → slice_get [] i ≡ Some x → ⊥
none_in {X} i x h = let l = slice_get_within [] i x h in omega arith

-- the marks of a search that begins
pub all_new : (count i : ℕ) (mark : Mark) → slice_get (replicate count New) i ≡ Some mark → mark ≡ New
all_new count i mark h =
    let l = slice_get_within (replicate count New) i mark h in
    sym (get_or_from_slice_get (replicate count New) i mark New h) ∙ get_or-replicate count i New New (omega (arith, l, length-replicate count New))

-- a search begins with nothing on the way and nothing done
pub search_begins : (graph : List (List ℕ)) (marks : List Mark) (way order : List ℕ) → marks ≡ replicate (length graph) New → way ≡ [] → order ≡ [] → IsSearch graph marks way order
search_begins graph marks way order em ew eo =
    subst (λ (ms : List Mark). IsSearch graph ms way order) (sym em)
    (subst (λ (w : List ℕ). IsSearch graph (replicate (length graph) New) w order) (sym ew)
    (subst (λ (o : List ℕ). IsSearch graph (replicate (length graph) New) [] o) (sym eo) (record {
      size = length-replicate (length graph) New;
      entered = λ i n h. absurd (none_in i n h);
      on_way = λ n k h. absurd (entered-new k (all_new (length graph) n (Entered k) h));
      distinct = λ i j x h k. absurd (none_in i x h);
      next = λ i n m h k. absurd (none_in i n h);
      few = λ n k h. absurd (entered-new k (all_new (length graph) n (Entered k) h));
      looked = λ n k j r h l e. absurd (entered-new k (all_new (length graph) n (Entered k) h));
      done = λ n h. absurd (done-new (all_new (length graph) n Done h));
      only = λ i n h. absurd (none_in i n h);
      once = λ i j x h k. absurd (none_in i x h);
      behind = λ i n r h k. absurd (none_in i n h);
    })))

-- fewer steps are left where the number of a mark's steps falls
fewer_steps : (graph : List (List ℕ)) (marks : List Mark) (n : ℕ) (old new : Mark) → slice_get marks n ≡ Some old → n < length graph →
    steps_of (reads_of graph n) new < steps_of (reads_of graph n) old → steps_left graph (set marks n new) < steps_left graph marks
fewer_steps [] marks n old new h within falls = absurd (omega (arith, within))
fewer_steps (reads ∷ graph) [] n old new h within falls = absurd (none-some old h)
fewer_steps (reads ∷ graph) (mark ∷ marks) zero old new h within falls =
    let e : steps_of reads mark ≡ steps_of reads old = ap (steps_of reads) (same_Some mark old h) in omega (arith, e, falls)
fewer_steps (reads ∷ graph) (mark ∷ marks) (suc n) old new h within falls =
    let rest = fewer_steps graph marks n old new h (omega (arith, within)) falls in omega (arith, rest)

module _ (graph : List (List ℕ)) (marks : List Mark) (way order : List ℕ) (s : IsSearch graph marks way order) where
  within : (n : ℕ) (mark : Mark) → slice_get marks n ≡ Some mark → n < length graph
  within n mark h = let l = slice_get_within marks n mark h in omega (arith, l, s.size)

  -- one read more of a number on the way is done
  module _ (n k r : ℕ) (at : slice_get marks n ≡ Some (Entered k)) (read : slice_get (reads_of graph n) k ≡ Some r) (is_done : slice_get marks r ≡ Some Done) where
    abbrev looked_marks : List Mark
    looked_marks = set marks n (Entered (k + 1))

    keep_done : (m : ℕ) → slice_get marks m ≡ Some Done → slice_get looked_marks m ≡ Some Done
    keep_done = done_stays marks n (Entered k) (Entered (k + 1)) at (entered-done k)

    look_entered : (i m : ℕ) → slice_get way i ≡ Some m → (j : ℕ) × (slice_get looked_marks m ≡ Some (Entered j))
    look_entered i m h = go (same_or_not m n)
      where
        go : (m ≡ n) ⊎ (m ≢ n) → (j : ℕ) × (slice_get looked_marks m ≡ Some (Entered j))
        go (inl e) = (k + 1, subst (λ q. slice_get looked_marks q ≡ Some (Entered (k + 1))) (sym e) (slice_get-set_same marks n (Entered (k + 1)) (Entered k) at))
        go (inr other) = let e = s.entered i m h in (e.0, slice_get-set_other marks n m (Entered (k + 1)) other ∙ e.1)

    look_on_way : (m j : ℕ) → slice_get looked_marks m ≡ Some (Entered j) → (i : ℕ) × (slice_get way i ≡ Some m)
    look_on_way m j h = go (slice_get-set_cases marks n (Entered (k + 1)) m (Entered j) h)
      where
        go : ((m ≡ n) × (Entered (k + 1) ≡ Entered j)) ⊎ ((m ≢ n) × (slice_get marks m ≡ Some (Entered j))) → (i : ℕ) × (slice_get way i ≡ Some m)
        go (inl e) = s.on_way m k (subst (λ q. slice_get marks q ≡ Some (Entered k)) (sym e.0) at)
        go (inr e) = s.on_way m j e.1

    look_few : (m j : ℕ) → slice_get looked_marks m ≡ Some (Entered j) → j ≤ length (reads_of graph m)
    look_few m j h = go (slice_get-set_cases marks n (Entered (k + 1)) m (Entered j) h)
      where
        go : ((m ≡ n) × (Entered (k + 1) ≡ Entered j)) ⊎ ((m ≢ n) × (slice_get marks m ≡ Some (Entered j))) → j ≤ length (reads_of graph m)
        go (inl e) =
            let l = slice_get_within (reads_of graph n) k r read in
            let same : j ≡ k + 1 = sym (same_entered (k + 1) j e.1) in
            subst (λ q. j ≤ length (reads_of graph q)) (sym e.0) (omega (arith, l, same))
        go (inr e) = s.few m j e.1

    look_looked : (m j i q : ℕ) → slice_get looked_marks m ≡ Some (Entered j) → i < j → slice_get (reads_of graph m) i ≡ Some q → slice_get looked_marks q ≡ Some Done
    look_looked m j i q h l there = go (slice_get-set_cases marks n (Entered (k + 1)) m (Entered j) h)
      where
        go : ((m ≡ n) × (Entered (k + 1) ≡ Entered j)) ⊎ ((m ≢ n) × (slice_get marks m ≡ Some (Entered j))) → slice_get looked_marks q ≡ Some Done
        go (inr e) = keep_done q (s.looked m j i q e.1 l there)
        go (inl e) = here (cases_lt i k)
          where
            there_n : slice_get (reads_of graph n) i ≡ Some q
            there_n = subst (λ p. slice_get (reads_of graph p) i ≡ Some q) e.0 there

            here : (i < k) ⊎ (k ≤ i) → slice_get looked_marks q ≡ Some Done
            here (inl before) = keep_done q (s.looked n k i q at before there_n)
            here (inr behind) =
                let last : i ≡ k = let same = same_entered (k + 1) j e.1 in omega (arith, l, behind, same) in
                let one : r ≡ q = same_Some r q (sym read ∙ subst (λ p. slice_get (reads_of graph n) p ≡ Some q) last there_n) in
                keep_done q (subst (λ p. slice_get marks p ≡ Some Done) one is_done)

    look_done : (m : ℕ) → slice_get looked_marks m ≡ Some Done → (i : ℕ) × (slice_get order i ≡ Some m)
    look_done m h = go (slice_get-set_cases marks n (Entered (k + 1)) m Done h)
      where
        go : ((m ≡ n) × (Entered (k + 1) ≡ Done)) ⊎ ((m ≢ n) × (slice_get marks m ≡ Some Done)) → (i : ℕ) × (slice_get order i ≡ Some m)
        go (inl e) = absurd (entered-done (k + 1) e.1)
        go (inr e) = s.done m e.1

    pub look_on : IsTurn graph marks looked_marks way order
    look_on = record {
      search = record {
        size = length-set_is marks n (Entered (k + 1)) ∙ s.size;
        entered = look_entered;
        on_way = look_on_way;
        distinct = s.distinct;
        next = s.next;
        few = look_few;
        looked = look_looked;
        done = look_done;
        only = λ i m h. keep_done m (s.only i m h);
        once = s.once;
        behind = s.behind;
      };
      met = met_stays marks n (Entered k) (Entered (k + 1)) at (entered-new (k + 1));
      fewer = fewer_steps graph marks n (Entered k) (Entered (k + 1)) at (within n (Entered k) at) (let l = slice_get_within (reads_of graph n) k r read in omega (arith, l));
    }

  -- a new number that the last one on the way reads
  module _ (r : ℕ) (at : slice_get marks r ≡ Some New) (link : (n : ℕ) → slice_get way (length way - 1) ≡ Some n → Contains (reads_of graph n) r) where
    abbrev entered_marks : List Mark
    entered_marks = set marks r (Entered 0)

    enter_done : (m : ℕ) → slice_get marks m ≡ Some Done → slice_get entered_marks m ≡ Some Done
    enter_done = done_stays marks r New (Entered 0) at new-done

    -- it isn't on the way yet
    not_yet : (i : ℕ) → slice_get way i ≡ Some r → ⊥
    not_yet i h = let e = s.entered i r h in entered-new e.0 (one_mark marks r (Entered e.0) New e.1 at)

    enter_entered : (i m : ℕ) → slice_get (way ++ r ∷ []) i ≡ Some m → (j : ℕ) × (slice_get entered_marks m ≡ Some (Entered j))
    enter_entered i m h = go (slice_get-push_cases way r i m h)
      where
        go : (slice_get way i ≡ Some m) ⊎ ((i ≡ length way) × (r ≡ m)) → (j : ℕ) × (slice_get entered_marks m ≡ Some (Entered j))
        go (inl old) =
            let e = s.entered i m old in
            (e.0, slice_get-set_other marks r m (Entered 0) (apart marks m r (Entered e.0) New e.1 at (entered-new e.0)) ∙ e.1)
        go (inr new) = (0, subst (λ q. slice_get entered_marks q ≡ Some (Entered 0)) new.1 (slice_get-set_same marks r (Entered 0) New at))

    enter_on_way : (m j : ℕ) → slice_get entered_marks m ≡ Some (Entered j) → (i : ℕ) × (slice_get (way ++ r ∷ []) i ≡ Some m)
    enter_on_way m j h = go (slice_get-set_cases marks r (Entered 0) m (Entered j) h)
      where
        go : ((m ≡ r) × (Entered 0 ≡ Entered j)) ⊎ ((m ≢ r) × (slice_get marks m ≡ Some (Entered j))) → (i : ℕ) × (slice_get (way ++ r ∷ []) i ≡ Some m)
        go (inl e) = (length way, slice_get-push way r ∙ ap Some (sym e.0))
        go (inr e) = let old = s.on_way m j e.1 in (old.0, slice_get-append way (r ∷ []) old.0 m old.1)

    enter_distinct : AreDistinct (way ++ r ∷ [])
    enter_distinct i j m hi hj = go (slice_get-push_cases way r i m hi) (slice_get-push_cases way r j m hj)
      where
        go : (slice_get way i ≡ Some m) ⊎ ((i ≡ length way) × (r ≡ m)) → (slice_get way j ≡ Some m) ⊎ ((j ≡ length way) × (r ≡ m)) → i ≡ j
        go (inl first) (inl second) = s.distinct i j m first second
        go (inl first) (inr second) = absurd (not_yet i (first ∙ ap Some (sym second.1)))
        go (inr first) (inl second) = absurd (not_yet j (second ∙ ap Some (sym first.1)))
        go (inr first) (inr second) = first.0 ∙ sym second.0

    enter_next : (i n m : ℕ) → slice_get (way ++ r ∷ []) i ≡ Some n → slice_get (way ++ r ∷ []) (suc i) ≡ Some m → Contains (reads_of graph n) m
    enter_next i n m hn hm = go (slice_get-push_cases way r i n hn) (slice_get-push_cases way r (suc i) m hm)
      where
        go : (slice_get way i ≡ Some n) ⊎ ((i ≡ length way) × (r ≡ n)) → (slice_get way (suc i) ≡ Some m) ⊎ ((suc i ≡ length way) × (r ≡ m)) → Contains (reads_of graph n) m
        go (inl first) (inl second) = s.next i n m first second
        go (inl first) (inr second) =
            let last : i ≡ length way - 1 = omega (arith, second.0) in
            subst (Contains (reads_of graph n)) second.1 (link n (subst (λ q. slice_get way q ≡ Some n) last first))
        go (inr first) (inl second) = absurd (let l = slice_get_within way (suc i) m second in omega (arith, l, first.0))
        go (inr first) (inr second) = absurd (omega (arith, first.0, second.0))

    enter_few : (m j : ℕ) → slice_get entered_marks m ≡ Some (Entered j) → j ≤ length (reads_of graph m)
    enter_few m j h = go (slice_get-set_cases marks r (Entered 0) m (Entered j) h)
      where
        go : ((m ≡ r) × (Entered 0 ≡ Entered j)) ⊎ ((m ≢ r) × (slice_get marks m ≡ Some (Entered j))) → j ≤ length (reads_of graph m)
        go (inl e) = let none = same_entered 0 j e.1 in omega (arith, none)
        go (inr e) = s.few m j e.1

    enter_looked : (m j i q : ℕ) → slice_get entered_marks m ≡ Some (Entered j) → i < j → slice_get (reads_of graph m) i ≡ Some q → slice_get entered_marks q ≡ Some Done
    enter_looked m j i q h l there = go (slice_get-set_cases marks r (Entered 0) m (Entered j) h)
      where
        go : ((m ≡ r) × (Entered 0 ≡ Entered j)) ⊎ ((m ≢ r) × (slice_get marks m ≡ Some (Entered j))) → slice_get entered_marks q ≡ Some Done
        go (inl e) = absurd (let none = same_entered 0 j e.1 in omega (arith, none, l))
        go (inr e) = enter_done q (s.looked m j i q e.1 l there)

    enter_order : (m : ℕ) → slice_get entered_marks m ≡ Some Done → (i : ℕ) × (slice_get order i ≡ Some m)
    enter_order m h = go (slice_get-set_cases marks r (Entered 0) m Done h)
      where
        go : ((m ≡ r) × (Entered 0 ≡ Done)) ⊎ ((m ≢ r) × (slice_get marks m ≡ Some Done)) → (i : ℕ) × (slice_get order i ≡ Some m)
        go (inl e) = absurd (entered-done 0 e.1)
        go (inr e) = s.done m e.1

    pub enter_new : IsTurn graph marks entered_marks (way ++ r ∷ []) order
    enter_new = record {
      search = record {
        size = length-set_is marks r (Entered 0) ∙ s.size;
        entered = enter_entered;
        on_way = enter_on_way;
        distinct = enter_distinct;
        next = enter_next;
        few = enter_few;
        looked = enter_looked;
        done = enter_order;
        only = λ i m h. enter_done m (s.only i m h);
        once = s.once;
        behind = s.behind;
      };
      met = met_stays marks r New (Entered 0) at (entered-new 0);
      fewer = fewer_steps graph marks r New (Entered 0) at (within r New at) (omega arith);
    }

  -- the last number on the way, all of whose reads are done
  module _ (n k : ℕ) (last : slice_get way (length way - 1) ≡ Some n) (at : slice_get marks n ≡ Some (Entered k)) (full : length (reads_of graph n) ≤ k) where
    abbrev left_marks : List Mark
    left_marks = set marks n Done

    abbrev left_way : List ℕ
    left_way = take (length way - 1) way

    leave_keeps : (m : ℕ) → slice_get marks m ≡ Some Done → slice_get left_marks m ≡ Some Done
    leave_keeps = done_stays marks n (Entered k) Done at (entered-done k)

    leave_entered : (i m : ℕ) → slice_get left_way i ≡ Some m → (j : ℕ) × (slice_get left_marks m ≡ Some (Entered j))
    leave_entered i m h =
        let old = slice_get-take (length way - 1) way i m h in
        let e = s.entered i m old.1 in
        let other : m ≢ n = λ same. let twice : i ≡ length way - 1 = s.distinct i (length way - 1) n (old.1 ∙ ap Some same) last in omega (arith, twice, old.0) in
        (e.0, slice_get-set_other marks n m Done other ∙ e.1)

    leave_on_way : (m j : ℕ) → slice_get left_marks m ≡ Some (Entered j) → (i : ℕ) × (slice_get left_way i ≡ Some m)
    leave_on_way m j h = go (slice_get-set_cases marks n Done m (Entered j) h)
      where
        go : ((m ≡ n) × (Done ≡ Entered j)) ⊎ ((m ≢ n) × (slice_get marks m ≡ Some (Entered j))) → (i : ℕ) × (slice_get left_way i ≡ Some m)
        go (inl e) = absurd (entered-done j (sym e.1))
        go (inr e) = before (s.on_way m j e.1)
          where
            before : ((i : ℕ) × (slice_get way i ≡ Some m)) → (i : ℕ) × (slice_get left_way i ≡ Some m)
            before (i, there) = pick (cases_lt i (length way - 1))
              where
                pick : (i < length way - 1) ⊎ (length way - 1 ≤ i) → (q : ℕ) × (slice_get left_way q ≡ Some m)
                pick (inl l) = (i, slice_get-take_to (length way - 1) way i m l there)
                pick (inr l) = absurd (e.0 (
                    let w = slice_get_within way i m there in
                    let same : i ≡ length way - 1 = omega (arith, l, w) in
                    same_Some m n (sym there ∙ ap (slice_get way) same ∙ last)))

    leave_distinct : AreDistinct left_way
    leave_distinct i j m hi hj = s.distinct i j m (slice_get-take (length way - 1) way i m hi).1 (slice_get-take (length way - 1) way j m hj).1

    leave_next : (i p m : ℕ) → slice_get left_way i ≡ Some p → slice_get left_way (suc i) ≡ Some m → Contains (reads_of graph p) m
    leave_next i p m hp hm = s.next i p m (slice_get-take (length way - 1) way i p hp).1 (slice_get-take (length way - 1) way (suc i) m hm).1

    leave_old : (m j : ℕ) → slice_get left_marks m ≡ Some (Entered j) → slice_get marks m ≡ Some (Entered j)
    leave_old m j h = go (slice_get-set_cases marks n Done m (Entered j) h)
      where
        go : ((m ≡ n) × (Done ≡ Entered j)) ⊎ ((m ≢ n) × (slice_get marks m ≡ Some (Entered j))) → slice_get marks m ≡ Some (Entered j)
        go (inl e) = absurd (entered-done j (sym e.1))
        go (inr e) = e.1

    leave_done : (m : ℕ) → slice_get left_marks m ≡ Some Done → (i : ℕ) × (slice_get (order ++ n ∷ []) i ≡ Some m)
    leave_done m h = go (slice_get-set_cases marks n Done m Done h)
      where
        go : ((m ≡ n) × (Done ≡ Done)) ⊎ ((m ≢ n) × (slice_get marks m ≡ Some Done)) → (i : ℕ) × (slice_get (order ++ n ∷ []) i ≡ Some m)
        go (inl e) = (length order, slice_get-push order n ∙ ap Some (sym e.0))
        go (inr e) = let old = s.done m e.1 in (old.0, slice_get-append order (n ∷ []) old.0 m old.1)

    leave_only : (i m : ℕ) → slice_get (order ++ n ∷ []) i ≡ Some m → slice_get left_marks m ≡ Some Done
    leave_only i m h = go (slice_get-push_cases order n i m h)
      where
        go : (slice_get order i ≡ Some m) ⊎ ((i ≡ length order) × (n ≡ m)) → slice_get left_marks m ≡ Some Done
        go (inl old) = leave_keeps m (s.only i m old)
        go (inr new) = subst (λ q. slice_get left_marks q ≡ Some Done) new.1 (slice_get-set_same marks n Done (Entered k) at)

    leave_once : AreDistinct (order ++ n ∷ [])
    leave_once i j m hi hj = go (slice_get-push_cases order n i m hi) (slice_get-push_cases order n j m hj)
      where
        not_yet : (q : ℕ) → slice_get order q ≡ Some m → n ≡ m → ⊥
        not_yet q h e = entered-done k (one_mark marks m (Entered k) Done (subst (λ p. slice_get marks p ≡ Some (Entered k)) e at) (s.only q m h))

        go : (slice_get order i ≡ Some m) ⊎ ((i ≡ length order) × (n ≡ m)) → (slice_get order j ≡ Some m) ⊎ ((j ≡ length order) × (n ≡ m)) → i ≡ j
        go (inl first) (inl second) = s.once i j m first second
        go (inl first) (inr second) = absurd (not_yet i first second.1)
        go (inr first) (inl second) = absurd (not_yet j second first.1)
        go (inr first) (inr second) = first.0 ∙ sym second.0

    leave_behind : IsBehind graph (order ++ n ∷ [])
    leave_behind i m r hi reads = go (slice_get-push_cases order n i m hi)
      where
        go : (slice_get order i ≡ Some m) ⊎ ((i ≡ length order) × (n ≡ m)) → (j : ℕ) × (j < i) × (slice_get (order ++ n ∷ []) j ≡ Some r)
        go (inl old) = let b = s.behind i m r old reads in (b.0, b.1, slice_get-append order (n ∷ []) b.0 r b.2)
        go (inr new) =
            let place = at_of (reads_of graph n) r (subst (λ q. Contains (reads_of graph q) r) (sym new.1) reads) in
            let l = slice_get_within (reads_of graph n) place.0 r place.1 in
            let d = s.done r (s.looked n k place.0 r at (omega (arith, l, full)) place.1) in
            let w = slice_get_within order d.0 r d.1 in
            (d.0, omega (arith, w, new.0), slice_get-append order (n ∷ []) d.0 r d.1)

    pub leave_full : IsTurn graph marks left_marks left_way (order ++ n ∷ [])
    leave_full = record {
      search = record {
        size = length-set_is marks n Done ∙ s.size;
        entered = leave_entered;
        on_way = leave_on_way;
        distinct = leave_distinct;
        next = leave_next;
        few = λ m j h. s.few m j (leave_old m j h);
        looked = λ m j i q h l there. leave_keeps q (s.looked m j i q (leave_old m j h) l there);
        done = leave_done;
        only = leave_only;
        once = leave_once;
        behind = leave_behind;
      };
      met = met_stays marks n (Entered k) Done at done-new;
      fewer = fewer_steps graph marks n (Entered k) Done at (within n (Entered k) at) (let l = s.few n k at in omega (arith, l));
    }

  -- a read that stands on the way closes a round
  pub closes_round : (n r k : ℕ) → slice_get way (length way - 1) ≡ Some n → Contains (reads_of graph n) r → slice_get marks r ≡ Some (Entered k) → IsClosed graph way r
  closes_round n r k last reads at = let there = s.on_way r k at in record {
    distinct = s.distinct;
    next = s.next;
    place = there.0;
    there = there.1;
    last = n;
    last_there = last;
    reads = reads;
  }

-- the reads of a number, as the code has them
pub reads_same : (graph : List (List ℕ)) (n : ℕ) (item reads : List ℕ) → n < length graph → item ≡ get_or graph n item → reads ≡ item → reads ≡ reads_of graph n
reads_same graph n item reads l is e = e ∙ sym (get_or_from_slice_get graph n item [] (slice_get_read graph (length graph) n item refl l is))

-- how many of them were looked at
pub looked_same : (marks : List Mark) (n k looked : ℕ) → slice_get marks n ≡ Some (Entered k) → IfSome (slice_get marks n) (λ m. looked ≡ looked_at m) → looked ≡ k
looked_same marks n k looked at h = subst (λ o. IfSome o (λ m. looked ≡ looked_at m)) at h

-- what is read is in range
pub read_within : (graph : List (List ℕ)) → All (λ reads. All (λ r. r < length graph) reads) graph → (n k r : ℕ) → n < length graph → slice_get (reads_of graph n) k ≡ Some r → r < length graph
read_within graph all n k r l h =
    let reads : All (λ r. r < length graph) (reads_of graph n) = All-get_or (λ (reads : List ℕ). All (λ r. r < length graph) reads) graph n [] l all in
    All-contains (λ r. r < length graph) (reads_of graph n) r reads (of_at (reads_of graph n) k r h)

-- the facts of a turn
pub record TurnFacts (graph : List (List ℕ)) (marks : List Mark) (last looked : ℕ) (reads : List ℕ) : Type 0 where
  pub at : slice_get marks last ≡ Some (Entered looked)
  pub within : last < length graph
  pub reads_are : reads ≡ reads_of graph last

pub turn_facts : (graph : List (List ℕ)) (marks : List Mark) (way order : List ℕ) → IsSearch graph marks way order → (last looked : ℕ) (item reads : List ℕ) →
    slice_get way (length way - 1) ≡ Some last → IfSome (slice_get marks last) (λ m. looked ≡ looked_at m) → item ≡ get_or graph last item → reads ≡ item → TurnFacts graph marks last looked reads
turn_facts graph marks way order s last looked item reads there h is e =
    let entered = s.entered (length way - 1) last there in
    let same : looked ≡ entered.0 = looked_same marks last entered.0 looked entered.1 h in
    let l : last < length graph = (let w = slice_get_within marks last (Entered entered.0) entered.1 in omega (arith, w, s.size)) in
    record { at = entered.1 ∙ ap (λ k. Some (Entered k)) (sym same); within = l; reads_are = reads_same graph last item reads l is e }

-- a number on the way has a mark
pub way_within : (graph : List (List ℕ)) (marks : List Mark) (way order : List ℕ) → IsSearch graph marks way order → (i n : ℕ) → slice_get way i ≡ Some n → n < length marks
way_within graph marks way order s i n h = let e = s.entered i n h in slice_get_within marks n (Entered e.0) e.1

-- the read at a place
pub read_there : (graph : List (List ℕ)) (last looked : ℕ) (reads : List ℕ) → reads ≡ reads_of graph last → looked < length reads → slice_get (reads_of graph last) looked ≡ Some (get_or reads looked 0)
read_there graph last looked reads e l = subst (λ (rs : List ℕ). slice_get rs looked ≡ Some (get_or reads looked 0)) e (slice_get-get_or reads looked 0 l)

-- a turn of the code
module _ (graph : List (List ℕ)) (marks : List Mark) (way order : List ℕ) (s : IsSearch graph marks way order) (all : All (λ reads. All (λ r. r < length graph) reads) graph)
    (last looked : ℕ) (item reads : List ℕ) (there : slice_get way (length way - 1) ≡ Some last) (h : IfSome (slice_get marks last) (λ m. looked ≡ looked_at m))
    (is : item ≡ get_or graph last item) (e : reads ≡ item) where
  facts : TurnFacts graph marks last looked reads
  facts = turn_facts graph marks way order s last looked item reads there h is e

  pub last_within : last < length marks
  last_within = let l = facts.within in omega (arith, l, s.size)

  pub turn_leaves : length reads ≤ looked → (marks' : List Mark) (way' order' : List ℕ) → marks' ≡ set marks last Done → way' ≡ take (length way - 1) way → order' ≡ order ++ last ∷ [] →
      IsTurn graph marks marks' way' order'
  turn_leaves full marks' way' order' em ew eo =
      let l : length (reads_of graph last) ≤ looked = subst (λ (rs : List ℕ). length rs ≤ looked) facts.reads_are full in
      subst (λ (ms : List Mark). IsTurn graph marks ms way' order') (sym em)
      (subst (λ (w : List ℕ). IsTurn graph marks (set marks last Done) w order') (sym ew)
      (subst (λ (o : List ℕ). IsTurn graph marks (set marks last Done) (take (length way - 1) way) o) (sym eo)
      (leave_full graph marks way order s last looked there facts.at l)))

  module _ (more : looked < length reads) where
    read_at : slice_get (reads_of graph last) looked ≡ Some (get_or reads looked 0)
    read_at = read_there graph last looked reads facts.reads_are more

    pub read_fits : get_or reads looked 0 < length marks
    read_fits = let l = read_within graph all last looked (get_or reads looked 0) facts.within read_at in omega (arith, l, s.size)

    mark_at : (mark : Mark) → mark ≡ get_or marks (get_or reads looked 0) mark → slice_get marks (get_or reads looked 0) ≡ Some mark
    mark_at mark is = slice_get_read marks (length marks) (get_or reads looked 0) mark refl read_fits is

    pub turn_enters : (mark : Mark) → mark ≡ get_or marks (get_or reads looked 0) mark → mark ≡ New → (marks' : List Mark) (way' order' : List ℕ) →
        marks' ≡ set marks (get_or reads looked 0) (Entered 0) → way' ≡ way ++ get_or reads looked 0 ∷ [] → order' ≡ order → IsTurn graph marks marks' way' order'
    turn_enters mark is new marks' way' order' em ew eo =
        subst (λ (ms : List Mark). IsTurn graph marks ms way' order') (sym em)
        (subst (λ (w : List ℕ). IsTurn graph marks (set marks (get_or reads looked 0) (Entered 0)) w order') (sym ew)
        (subst (λ (o : List ℕ). IsTurn graph marks (set marks (get_or reads looked 0) (Entered 0)) (way ++ get_or reads looked 0 ∷ []) o) (sym eo)
        (enter_new graph marks way order s (get_or reads looked 0) (mark_at mark is ∙ ap Some new)
        (λ n k. let same : last ≡ n = same_Some last n (sym there ∙ k) in subst (λ m. Contains (reads_of graph m) (get_or reads looked 0)) same (of_at (reads_of graph last) looked (get_or reads looked 0) read_at)))))

    pub turn_looks : (mark : Mark) → mark ≡ get_or marks (get_or reads looked 0) mark → mark ≡ Done → IsTurn graph marks (set marks last (Entered (looked + 1))) way order
    turn_looks mark is done = look_on graph marks way order s last looked (get_or reads looked 0) facts.at read_at (mark_at mark is ∙ ap Some done)

    pub turn_closes : (mark : Mark) (k : ℕ) → mark ≡ get_or marks (get_or reads looked 0) mark → mark ≡ Entered k → IsClosed graph way (get_or reads looked 0)
    turn_closes mark k is entered = closes_round graph marks way order s last (get_or reads looked 0) k there (of_at (reads_of graph last) looked (get_or reads looked 0) read_at) (mark_at mark is ∙ ap Some entered)

-- the first number of a way
pub search_starts : (graph : List (List ℕ)) (marks : List Mark) (way order : List ℕ) → IsSearch graph marks way order → way ≡ [] → (n : ℕ) → n < length graph → (IsMet marks n → ⊥) →
    (marks' : List Mark) (way' order' : List ℕ) → marks' ≡ set marks n (Entered 0) → way' ≡ way ++ n ∷ [] → order' ≡ order → IsTurn graph marks marks' way' order' × IsMet marks' n
search_starts graph marks way order s empty n l new marks' way' order' em ew eo = (
  subst (λ (ms : List Mark). IsTurn graph marks ms way' order') (sym em)
      (subst (λ (w : List ℕ). IsTurn graph marks (set marks n (Entered 0)) w order') (sym ew)
      (subst (λ (o : List ℕ). IsTurn graph marks (set marks n (Entered 0)) (way ++ n ∷ []) o) (sym eo)
      (enter_new graph marks way order s n at (λ m k. absurd (none-some m (subst (λ (w : List ℕ). slice_get w (length way - 1) ≡ Some m) empty k)))))),
  (Entered 0, subst (λ (ms : List Mark). slice_get ms n ≡ Some (Entered 0)) (sym em) (slice_get-set_same marks n (Entered 0) New at), entered-new 0),
)
  where
    here : (mark : Mark) → slice_get marks n ≡ Some mark → slice_get marks n ≡ Some New
    here New h = h
    here (Entered k) h = absurd (new (Entered k, h, entered-new k))
    here Done h = absurd (new (Done, h, done-new))

    at : slice_get marks n ≡ Some New
    at = here (get_or marks n New) (slice_get-get_or marks n New (omega (arith, l, s.size)))

-- a way without a last number is empty
pub no_last : (way : List ℕ) → slice_get way (length way - 1) ≡ None → way ≡ []
no_last [] h = refl
no_last (x ∷ way) h =
    let e : slice_get (x ∷ way) (length (x ∷ way) - 1) ≡ Some (get_or (x ∷ way) (length (x ∷ way) - 1) 0) = slice_get-get_or (x ∷ way) (length (x ∷ way) - 1) 0 (omega arith) in
    absurd (none-some _ (sym h ∙ e))

-- where all numbers are met and the way is empty, the order is whole
pub search_ends : (graph : List (List ℕ)) (marks : List Mark) (way order : List ℕ) → IsSearch graph marks way order → way ≡ [] → ((n : ℕ) → n < length graph → IsMet marks n) → IsOrder graph order
search_ends graph marks way order s empty met = record { each = λ n l. each n (met n l); only = only; once = s.once; behind = s.behind }
  where
    only : (n : ℕ) → Contains order n → n < length graph
    only n h = let at = at_of order n h in let l = slice_get_within marks n Done (s.only at.0 n at.1) in omega (arith, l, s.size)

    by : (n : ℕ) (mark : Mark) → slice_get marks n ≡ Some mark → mark ≢ New → Contains order n
    by n New h new = absurd (new refl)
    by n (Entered k) h new = let there = s.on_way n k h in absurd (none-some n (subst (λ (w : List ℕ). slice_get w there.0 ≡ Some n) empty there.1))
    by n Done h new = let there = s.done n h in of_at order there.0 n there.1

    each : (n : ℕ) → IsMet marks n → Contains order n
    each n m = by n m.0 m.1 m.2

-- the end of a way, from a number on that its last one reads, is a round
pub way_round : (graph : List (List ℕ)) (way : List ℕ) (read place : ℕ) → IsClosed graph way read → slice_get way place ≡ Some read → IsRound graph (reverse (drop place way))
way_round graph way read place c there = record {
  some = omega (arith, size, w);
  once = λ i j n hi hj.
      let a = from i n hi in
      let b = from j n hj in
      let same = c.distinct (length way - 1 - i) (length way - 1 - j) n a.1 b.1 in
      omega (arith, a.0, b.0, same);
  next = λ i n m hn hm.
      let a = from i n hn in
      let b = from (suc i) m hm in
      let step : suc (length way - 1 - suc i) ≡ length way - 1 - i = omega (arith, a.0, b.0) in
      c.next (length way - 1 - suc i) m n b.1 (subst (λ k. slice_get way k ≡ Some n) (sym step) a.1);
  closes = λ first last hf hl.
      let a = from 0 first hf in
      let b = from (length (reverse (drop place way)) - 1) last hl in
      let top : length way - 1 - 0 ≡ length way - 1 = omega arith in
      let low : length way - 1 - (length (reverse (drop place way)) - 1) ≡ place = omega (arith, size, w) in
      let f : first ≡ c.last = same_Some first c.last (sym a.1 ∙ ap (slice_get way) top ∙ c.last_there) in
      let l : last ≡ read = same_Some last read (sym b.1 ∙ ap (slice_get way) low ∙ there) in
      subst (λ k. Contains (reads_of graph k) last) (sym f) (subst (λ k. Contains (reads_of graph c.last) k) (sym l) c.reads);
}
  where
    w : place < length way
    w = slice_get_within way place read there

    size : length (reverse (drop place way)) ≡ length way - place
    size = length-reverse (drop place way) ∙ length-drop place way

    from : (i n : ℕ) → slice_get (reverse (drop place way)) i ≡ Some n → (i < length way - place) × (slice_get way (length way - 1 - i) ≡ Some n)
    from i n h =
        let l = slice_get_within (reverse (drop place way)) i n h in
        let k : i < length (drop place way) = omega (arith, l, length-reverse (drop place way)) in
        let e : get_or (reverse (drop place way)) i n ≡ get_or (drop place way) (length (drop place way) - 1 - i) n = get_or-reverse (drop place way) i n k in
        let f : get_or (drop place way) (length (drop place way) - 1 - i) n ≡ get_or way (place + (length (drop place way) - 1 - i)) n = get_or-drop place way (length (drop place way) - 1 - i) n in
        let g : place + (length (drop place way) - 1 - i) ≡ length way - 1 - i = omega (arith, k, length-drop place way, w) in
        (omega (arith, l, size), slice_get_read way (length way) (length way - 1 - i) n refl (omega (arith, w)) (sym (sym (ap (λ q. get_or way q n) g) ∙ sym f ∙ sym e ∙ get_or_from_slice_get (reverse (drop place way)) i n n h)))

-- a number that stands in the list has a first place
first_within : (n : ℕ) (numbers : List ℕ) (i : ℕ) → slice_get numbers i ≡ Some n → position_or_len (λ m. m == n) numbers < length numbers
first_within n [] i h = absurd (none-some n h)
first_within n (m ∷ numbers) zero h = let same : (m == n) ≡ true = (Decides-eqb m n).1 (same_Some m n h) in rw same (omega arith)
first_within n (m ∷ numbers) (suc i) h = go (m == n) refl (first_within n numbers i h)
  where
    go : (b : Bool) → (m == n) ≡ b → position_or_len (λ m. m == n) numbers < length numbers → position_or_len (λ m. m == n) (m ∷ numbers) < length (m ∷ numbers)
    go true e rest = rw e (omega arith)
    go false e rest = rw e (omega (arith, rest))

-- the first place of a number that stands in the list
pub place_there : (numbers : List ℕ) (n i : ℕ) → slice_get numbers i ≡ Some n → slice_get numbers (unwrap_or (position (λ m. m == n) numbers) 0) ≡ Some n
place_there numbers n i h =
    let l : ltb (position_or_len (λ m. m == n) numbers) (length numbers) ≡ true = (Decides-ltb (position_or_len (λ m. m == n) numbers) (length numbers)).1 (first_within n numbers i h) in
    let e : position (λ m. m == n) numbers ≡ Some (position_or_len (λ m. m == n) numbers) = ap (λ b. cond b (Some (position_or_len (λ m. m == n) numbers)) None) l in
    let f = position-Some (λ m. m == n) numbers (position_or_len (λ m. m == n) numbers) 0 e in
    let same : get_or numbers (position_or_len (λ m. m == n) numbers) 0 ≡ n = (Decides-eqb (get_or numbers (position_or_len (λ m. m == n) numbers) 0) n).0 f.1 in
    subst (λ (o : Option ℕ). slice_get numbers (unwrap_or o 0) ≡ Some n) (sym e) (slice_get-get_or numbers (position_or_len (λ m. m == n) numbers) 0 f.0 ∙ ap Some same)

-- the round that the code gives
pub round_from : (graph : List (List ℕ)) (way : List ℕ) (read : ℕ) → IsClosed graph way read → (slice whole : List ℕ) (found : Option ℕ) (place : ℕ) (part turned numbers : List ℕ) →
    slice ≡ way → found ≡ position (λ m. m == read) slice → place ≡ unwrap_or found 0 → whole ≡ way → part ≡ take (length whole - place) (drop place whole) → turned ≡ reverse part → numbers ≡ turned → IsRound graph numbers
round_from graph way read c slice whole found place part turned numbers es ef ep ew ea et en =
    let there : slice_get way place ≡ Some read = subst (λ k. slice_get way k ≡ Some read) (sym (ep ∙ ap (λ (o : Option ℕ). unwrap_or o 0) (ef ∙ ap (position (λ m. m == read)) es))) (place_there way read c.place c.there) in
    let full : part ≡ drop place way =
    ea ∙ ap (λ (w : List ℕ). take (length w - place) (drop place w)) ew ∙ take_all (length way - place) (drop place way) (omega (arith, length-drop place way)) in
    subst (IsRound graph) (sym (en ∙ et ∙ ap reverse full)) (way_round graph way read place c there)
