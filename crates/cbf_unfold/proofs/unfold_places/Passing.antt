-- Bits are passed on from each place to those that it reads, until each signal's bit stands at exactly the places that it visits.
use Rattle.std.proofs.Common.{◌≡◌, ◌≢◌, ◌∙◌, ◌+◌, ◌-◌, ◌^◌, ◌<◌, ◌≤◌, ℕ, suc, List, length, map, get_or, slice_get, Some, refl, sym, ap, subst, arith, inl, inr}
use Rattle.std.specs.Prelude.{◌⊎◌}
use Rattle.std.specs.List.{All, AllPairs, AllZip, Contains}
use Rattle.std.specs.Int.{bit_at}
use Rattle.std.proofs.lemmas.Bool.{cases_lt}
use Rattle.std.proofs.lemmas.Nat.Bits.{bit_at-pow_same}
use Rattle.std.proofs.lemmas.Option.{slice_get_within, slice_get-get_or, same_Some}
use Rattle.circuit_theory.specs.Circuit.{Circuit}
use Rattle.circuit_theory.specs.Sizes.{Visits}
use Rattle.circuit_theory.proofs.Lists.{All-from_each, at_of, of_at}
use Rattle.cbf_unfold.proofs.unfold_places.Zips.{zip_to, zip_back}
use Rattle.flat_net.specs.declared.signals.Signal.{Signal}
use Rattle.aig.specs.declared.node.Lit.{Lit}
use Rattle.cbf_unfold.specs.unfold_places.Places.{Steps}
use Rattle.cbf_unfold.specs.unfold_places.Reach.{IsMet}
use Rattle.cbf_unfold.specs.unfold_places.Planned.{IsPlanned}
use Rattle.cbf_unfold.specs.unfold_places.Visitors.{IsSet, AreMet, AreReads, AreLinks, Gives, AreMarked, ArePassed, AreVisitors}
use Rattle.cbf_unfold.proofs.unfold_places.Words.{no_bit, power_bit, one_key}

module _ (c : Circuit ℕ) (last : ℕ) (signals : List Signal) (memo : List ((ℕ × ℕ) × Lit)) where
  -- the signal with this number visits the place
  abbrev IsVisitor : ℕ → ℕ × ℕ → Type 0
  IsVisitor k p = (s : Signal) × (slice_get signals k ≡ Some s) × (p.0 ≤ last) × Visits c s.0 0 p.1 (last - p.0)

  -- what a visited place reads is visited
  visitor_step : (k : ℕ) (p q : ℕ × ℕ) → IsVisitor k p → Steps c p q → IsVisitor k q
  visitor_step k p q v (inl h) =
      let cycle : last - p.0 ≡ last - q.0 = ap (λ t. last - t) (sym h.0) in
      (v.0, v.1, omega (arith, h.0, v.2), subst (Visits c v.0.0 0 q.1) cycle (Visits.reads v.3 h.1))
  visitor_step k p q v (inr h) =
      let cycle : suc (last - p.0) ≡ last - q.0 = omega (arith, h.0, v.2) in
      (v.0, v.1, omega (arith, h.0, v.2), subst (Visits c v.0.0 0 q.1) cycle (Visits.back v.3 h.2))

  -- without bits
  pub marked_none : (words : List ℕ) → length words ≡ length memo → ((i : ℕ) → i < length words → get_or words i 0 ≡ 0) → AreMarked c last signals memo 0 words
  marked_none words size none = record {
    size = size;
    visits = λ i k e at h. absurd (no_bit (get_or words i 0) k (none i (let l = slice_get_within memo i e at in omega (arith, l, size))) h);
    roots = λ i k s e below at_k at_i own. absurd (omega (arith, below));
  }

  -- one signal more has its bit at its own place
  pub marked_root : (first : ℕ) (s : Signal) (old new : List ℕ) → slice_get signals first ≡ Some s → AreMarked c last signals memo first old → AllPairs (λ p q. p ≢ q) (map (λ e. e.0) memo) → (number : ℕ) (x : Lit) → slice_get memo number ≡ Some ((last, s.0), x) → Gives (λ n. n ≡ number) (2 ^ first) old new →
      AreMarked c last signals memo (first + 1) new
  marked_root first s old new here before differ number x own_at gives = record {
    size = gives.size ∙ before.size;
    visits = λ i k e at h. go i k e at (gives.from i k h);
    roots = λ i k t e below at_k at_i own. by i k t e at_k at_i own below (cases_lt k first);
  }
    where
      go : (i k : ℕ) (e : (ℕ × ℕ) × Lit) → slice_get memo i ≡ Some e → IsSet old i k ⊎ ((bit_at (2 ^ first) k ≡ 1) × (i ≡ number)) → IsVisitor k e.0
      go i k e at (inl h) = before.visits i k e at h
      go i k e at (inr h) =
          let one : ((last, s.0), x) ≡ e = same_Some ((last, s.0), x) e (sym own_at ∙ (ap (slice_get memo) (sym h.1) ∙ at)) in
          let to : (last, s.0) ≡ e.0 = ap (λ (z : (ℕ × ℕ) × Lit). z.0) one in
          subst (IsVisitor k) to
          (s, ap (slice_get signals) (power_bit first k h.0) ∙ here, omega arith, subst (Visits c s.0 0 s.0) (let z : 0 ≡ last - last = omega arith in z) Visits.itself)

      by : (i k : ℕ) (t : Signal) (e : (ℕ × ℕ) × Lit) → slice_get signals k ≡ Some t → slice_get memo i ≡ Some e → e.0 ≡ (last, t.0) → k < first + 1 → (k < first) ⊎ (first ≤ k) → IsSet new i k
      by i k t e at_k at_i own below (inl l) = gives.kept i k (before.roots i k t e l at_k at_i own)
      by i k t e at_k at_i own below (inr l) =
          let same : k ≡ first = omega (arith, below, l) in
          let one : s ≡ t = same_Some s t (sym here ∙ ap (slice_get signals) (sym same) ∙ at_k) in
          let key : e.0 ≡ (last, s.0) = own ∙ ap (λ (z : Signal). (last, z.0)) (sym one) in
          gives.all i k (one_key memo differ i number e ((last, s.0), x) at_i own_at key) (ap (bit_at (2 ^ first)) same ∙ bit_at-pow_same first)

  -- the bits of one place are passed on
  module _ (first at : ℕ) (d : (ℕ × ℕ) × Lit) (numbers old new : List ℕ) (here : slice_get memo at ≡ Some d) (reads : AreReads c memo d.0 numbers) (gives : Gives (Contains numbers) (get_or old at 0) old new) where
    pub marked_on : AreMarked c last signals memo first old → AreMarked c last signals memo first new
    marked_on before = record {
      size = gives.size ∙ before.size;
      visits = λ i k e at_i h. go i k e at_i (gives.from i k h);
      roots = λ i k s e below at_k at_i own. gives.kept i k (before.roots i k s e below at_k at_i own);
    }
      where
        go : (i k : ℕ) (e : (ℕ × ℕ) × Lit) → slice_get memo i ≡ Some e → IsSet old i k ⊎ ((bit_at (get_or old at 0) k ≡ 1) × Contains numbers i) → IsVisitor k e.0
        go i k e at_i (inl h) = before.visits i k e at_i h
        go i k e at_i (inr h) =
            let r = reads.0 i h.1 in
            let one : r.0 ≡ e = same_Some r.0 e (sym r.1 ∙ at_i) in
            subst (λ (z : (ℕ × ℕ) × Lit). IsVisitor k z.0) one (visitor_step k d.0 r.0.0 (before.visits at k d here h.0) r.2)

    pub passed_on : IsPlanned c memo → AllPairs (λ p q. p ≢ q) (map (λ e. e.0) memo) → ArePassed c memo (at + 1) old → ArePassed c memo at new
    passed_on planned differ before i j k e f low at_i at_j steps h = go (gives.from i k h)
      where
        go : IsSet old i k ⊎ ((bit_at (get_or old at 0) k ≡ 1) × Contains numbers i) → IsSet new j k
        go (inl was) = by (cases_lt at i)
          where
            by : (at < i) ⊎ (i ≤ at) → IsSet new j k
            by (inl l) = gives.kept j k (before i j k e f (omega (arith, l)) at_i at_j steps was)
            by (inr l) =
                let same : i ≡ at = omega (arith, low, l) in
                let one : e ≡ d = same_Some e d (sym at_i ∙ ap (slice_get memo) same ∙ here) in
                let own : Steps c d.0 f.0 = subst (λ (z : (ℕ × ℕ) × Lit). Steps c z.0 f.0) one steps in
                let r = reads.1 f.0 own in
                let number : r.0 ≡ j = one_key memo differ r.0 j (f.0, r.1) f r.3 at_j refl in
                gives.all j k (subst (Contains numbers) number r.2) (subst (λ (m : ℕ). IsSet old m k) same was)
        go (inr g) =
            let s = reads.0 i g.1 in
            let r = planned.read at d s.0.0 here s.2 in
            let same : i ≡ r.0 = one_key memo differ i r.0 s.0 (s.0.0, r.1) s.1 r.3 refl in
            absurd (omega (arith, low, same, r.2))

  -- each signal's bit stands at exactly the places that it visits
  pub visitors_from : (words : List ℕ) → AreMet c last signals memo → AreMarked c last signals memo (length signals) words → ArePassed c memo 0 words → AreVisitors c last signals memo words
  visitors_from words met marked passed = record { size = marked.size; visits = marked.visits; all = λ k s q j at visits. reached k s at visits }
    where
      reached : (k : ℕ) (s : Signal) → slice_get signals k ≡ Some s → {q j : ℕ} → Visits c s.0 0 q j → (j ≤ last) × (i : ℕ) × (x : Lit) × (slice_get memo i ≡ Some ((last - j, q), x)) × IsSet words i k
      reached k s at Visits.itself =
          let m = met k s s.0 0 at Visits.itself in
          let i = at_of memo ((last - 0, s.0), m.1.0) m.1.1 in
          let own : (last - 0, s.0) ≡ (last, s.0) = ap (λ (t : ℕ). (t, s.0)) (let z : last - 0 ≡ last = omega arith in z) in
          (m.0, i.0, m.1.0, i.1, marked.roots i.0 k s ((last - 0, s.0), m.1.0) (slice_get_within signals k s at) at i.1 own)
      reached k s at (Visits.reads {q = q} {r = r} {j = j} visits reads) =
          let above = reached k s at visits in
          let m = met k s r j at (Visits.reads visits reads) in
          let i = at_of memo ((last - j, r), m.1.0) m.1.1 in
          (m.0, i.0, m.1.0, i.1, passed above.1 i.0 k ((last - j, q), above.2) ((last - j, r), m.1.0) (omega arith) above.3 i.1 (inl (refl, reads)) above.4)
      reached k s at (Visits.back {q = q} {next = next} {j = j} {name = name} visits latch) =
          let above = reached k s at visits in
          let m = met k s next (suc j) at (Visits.back visits latch) in
          let i = at_of memo ((last - suc j, next), m.1.0) m.1.1 in
          let down : (last - suc j) + 1 ≡ last - j = omega (arith, m.0) in
          (m.0, i.0, m.1.0, i.1, passed above.1 i.0 k ((last - j, q), above.2) ((last - suc j, next), m.1.0) (omega arith) above.3 i.1 (inr (down, name, latch)) above.4)

-- the place of a signal's own is met
pub root_met : (c : Circuit ℕ) (last : ℕ) (signals : List Signal) (memo : List ((ℕ × ℕ) × Lit)) → AreMet c last signals memo → (k : ℕ) (d : Signal) → k < length signals → IsMet memo (last, (get_or signals k d).0)
root_met c last signals memo met k d inside =
    let m = met k (get_or signals k d) (get_or signals k d).0 0 (slice_get-get_or signals k d inside) Visits.itself in
    subst (λ (t : ℕ). IsMet memo (t, (get_or signals k d).0)) (let e : last - 0 ≡ last = omega arith in e) m.1

-- what a place reads has been met
pub read_met : (c : Circuit ℕ) (memo : List ((ℕ × ℕ) × Lit)) → IsPlanned c memo → (at : ℕ) (p : ℕ × ℕ) (x : Lit) → slice_get memo at ≡ Some (p, x) → (q : ℕ × ℕ) → Steps c p q → IsMet memo q
read_met c memo planned at p x here q steps = let r = planned.read at (p, x) q here steps in (r.1, of_at memo r.0 (q, r.1) r.3)

-- no place is passed on yet
pub passed_none : (c : Circuit ℕ) (memo : List ((ℕ × ℕ) × Lit)) (words : List ℕ) (from : ℕ) → length memo ≤ from → ArePassed c memo from words
passed_none c memo words from whole i j k d e low at_i at_j steps h = let l = slice_get_within memo i d at_i in absurd (omega (arith, l, low, whole))

-- the place with this number, as its entry
pub entry_is : (memo : List ((ℕ × ℕ) × Lit)) (at : ℕ) (p : ℕ × ℕ) (x : Lit) (e : (ℕ × ℕ) × Lit) → slice_get memo at ≡ Some (p, x) → slice_get memo at ≡ Some e → p ≡ e.0
entry_is memo at p x e here there = ap (λ (z : (ℕ × ℕ) × Lit). z.0) (same_Some (p, x) e (sym here ∙ there))

-- the numbers of the signals' places in a cycle are those of the places that are read
pub reads_by : (c : Circuit ℕ) (memo : List ((ℕ × ℕ) × Lit)) (p : ℕ × ℕ) (cycle : ℕ) (signals : List Signal) (numbers : List ℕ) → AllZip (λ f n. (x : Lit) × (slice_get memo n ≡ Some ((cycle, f.0), x))) signals numbers →
    ((f : Signal) → Contains signals f → Steps c p (cycle, f.0)) → ((q : ℕ × ℕ) → Steps c p q → (f : Signal) × Contains signals f × ((cycle, f.0) ≡ q)) → AreReads c memo p numbers
reads_by c memo p cycle signals numbers zip to from = (
  λ n h. let b = zip_back (λ (f : Signal) (m : ℕ). (x : Lit) × (slice_get memo m ≡ Some ((cycle, f.0), x))) signals numbers n zip h in (((cycle, b.0.0), b.2.0), b.2.1, to b.0 b.1),
  λ q steps.
      let f = from q steps in
      let n = zip_to (λ (f : Signal) (m : ℕ). (x : Lit) × (slice_get memo m ≡ Some ((cycle, f.0), x))) signals numbers f.0 zip f.1 in
      (n.0, n.2.0, n.1, subst (λ (r : ℕ × ℕ). slice_get memo n.0 ≡ Some (r, n.2.0)) f.2 n.2.1),
)

-- what a place reads has numbers of places
pub links_within : (c : Circuit ℕ) (memo : List ((ℕ × ℕ) × Lit)) (links : List (List ℕ)) → AreLinks c memo links → (at : ℕ) (d : (ℕ × ℕ) × Lit) → slice_get memo at ≡ Some d → (numbers : List ℕ) → slice_get links at ≡ Some numbers → All (λ n. n < length memo) numbers
links_within c memo links are at d here numbers at_l = All-from_each (λ n. n < length memo) numbers (λ n h. let r = (are.reads at d numbers here at_l).0 n h in slice_get_within memo n r.0 r.1)
