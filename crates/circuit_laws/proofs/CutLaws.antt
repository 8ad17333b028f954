-- Cut circuits have single drivers, and a member of a minimal cut lies on a cycle of one of the circuits, so that it is never
-- settled there.
use Rattle.std.proofs.Common.{◌≡◌, ◌≢◌, ℕ, zero, suc, Bool, true, false, not, List, [], ◌∷◌, refl, sym, ◌∙◌, ap, subst, arith, inl, inr, Some, slice_get}
use Rattle.std.specs.Prelude.{◌⊎◌}
use Rattle.std.specs.List.{Contains}
use Rattle.std.proofs.lemmas.Option.{slice_get_within}
use Rattle.circuit_theory.specs.declared.Mode.{Mode}
use Rattle.circuit_theory.specs.declared.Mode.TheVariants.{Plain}
use Rattle.circuit_theory.specs.Names.{same_name, is_among}
use Rattle.circuit_theory.specs.Circuit.{Circuit, Equation, Gate, Latch, Port, IsLatch, IsSingleDriven, out_of}
use Rattle.circuit_theory.specs.Run.{Marked}
use Rattle.circuit_theory.specs.Depth.{LatchReads, LatchPath, HasCycle, without}
use Rattle.circuit_theory.specs.Net.{HasDistinctNames}
use Rattle.circuit_theory.specs.Agree.{cut, is_kept, EnabledIn, IsMinimalCut, Agree, AgreeOnward, IsPair}
use Rattle.circuit_theory.specs.Asked.{HaveEqualFunctions}
use Rattle.circuit_theory.specs.Tree.{AreNumbered}
use Rattle.circuit_theory.proofs.Lists.{Contains-head, Contains-tail, Contains-cases, at_of, filter_test}
use Rattle.circuit_theory.proofs.Inputs.{same_name-sound}
use Rattle.circuit_theory.proofs.Numbers.{same_name-refl, is_among-sound, is_among-complete}
use Rattle.circuit_laws.proofs.Onward.{cut_input, equal_functions_agree_onward}
use Rattle.circuit_laws.proofs.Parted.{kept_equation, parted_functions_agree}
use Rattle.circuit_laws.proofs.Cycles.{cycle_never_settled}

pub same_or_other : (xs ys : List ℕ) → (xs ≡ ys) ⊎ (xs ≢ ys)
same_or_other xs ys = go (same_name xs ys) refl
  where
    no : true ≡ false → ⊥
    no e = cc

    go : (b : Bool) → same_name xs ys ≡ b → (xs ≡ ys) ⊎ (xs ≢ ys)
    go true e = inl (same_name-sound xs ys e)
    go false e = inr (λ q. no (sym (subst (λ (z : List ℕ). same_name xs z ≡ true) q (same_name-refl xs)) ∙ e))

-- an equation of a cut circuit is no latch of an exposed name
pub kept_test : {P : Type 0} (names : List (List ℕ)) (c : Circuit P) (e : Equation P) → Contains (cut names c).equations e → is_kept names e ≡ true
unfolding cut
kept_test names c e h = filter_test (is_kept names) c.equations e h

pub cut_single : {P : Type 0} (names : List (List ℕ)) (c : Circuit P) → IsSingleDriven c → IsSingleDriven (cut names c)
cut_single {P} names c single = record {
  one = λ e f h k q. single.one e f (kept_equation names c e h) (kept_equation names c f k) q;
  no_input = λ e h i. apart e i.0 h (cut_input names c i.0 (out_of e) i.1);
}
  where
    no : (name : List ℕ) → Contains names name → not (is_among names name) ≡ true → ⊥
    no name k e = let t = is_among-complete names name k in wrong (ap not t) e
      where
        wrong : {b : Bool} → b ≡ false → b ≡ true → ⊥
        wrong p q = cc

    apart : (e : Equation P) (name : List ℕ) → Contains (cut names c).equations e →
        Contains c.inputs (record { name = name; place = out_of e }) ⊎ (Contains names name × ((next : P) × IsLatch c name (out_of e) next)) → ⊥
    apart e name h (inl own) = single.no_input e (kept_equation names c e h) (name, own)
    apart e name h (inr l) =
        let same = single.one e (Latch name (out_of e) l.1.0) (kept_equation names c e h) l.1.1 refl in
        no name l.0 (sym (ap (is_kept names) same) ∙ kept_test names c e h)

module _ {P : Type 0} (c : Circuit P) (enabled : P → Type 0) (names : List (List ℕ)) (i : ℕ) (name : List ℕ) (at : slice_get names i ≡ Some name) where
  abbrev Without : P → P → Type 0
  Without u v = LatchPath c enabled (without names i) u v

  -- a name of the list is the one left out, or stays
  pub left_out : (ns : List (List ℕ)) (j : ℕ) → slice_get ns j ≡ Some name → (m : List ℕ) → Contains ns m → (m ≡ name) ⊎ Contains (without ns j) m
  left_out [] j h m k = absurd (omega (arith, k.1))
  left_out (n ∷ ns) zero h m k = pick (Contains-cases n m ns k)
    where
      unwrap : Some n ≡ Some name → n ≡ name
      unwrap q = cc

      pick : (n ≡ m) ⊎ Contains ns m → (m ≡ name) ⊎ Contains ns m
      pick (inl q) = inl (sym q ∙ unwrap h)
      pick (inr l) = inr l
  left_out (n ∷ ns) (suc j) h m k = pick (Contains-cases n m ns k) (λ l. left_out ns j h m l)
    where
      pick : (n ≡ m) ⊎ Contains ns m → (Contains ns m → (m ≡ name) ⊎ Contains (without ns j) m) → (m ≡ name) ⊎ Contains (n ∷ without ns j) m
      pick (inl q) later = inr (subst (Contains (n ∷ without ns j)) q (Contains-head n (without ns j)))
      pick (inr l) later = elim (later l) [ inl e ↦ inl e | inr r ↦ inr (Contains-tail n m (without ns j) r) ]

  -- a reading is at a latch of the name, or there without it
  reading_or : {u v : P} (e : LatchReads c enabled (without names i) u v) → (e.name ≡ name) ⊎ ((e.other_name ≡ name) ⊎ LatchReads c enabled names u v)
  reading_or {u} {v} e = go (same_or_other e.name name) (same_or_other e.other_name name)
    where
      stays : (m : List ℕ) → m ≢ name → (Contains (without names i) m → ⊥) → Contains names m → ⊥
      stays m n kept k = elim (left_out names i at m k) [ inl q ↦ n q | inr l ↦ kept l ]

      go : (e.name ≡ name) ⊎ (e.name ≢ name) → (e.other_name ≡ name) ⊎ (e.other_name ≢ name) → (e.name ≡ name) ⊎ ((e.other_name ≡ name) ⊎ LatchReads c enabled names u v)
      go (inl q) other = inl q
      go (inr m) (inl q) = inr (inl q)
      go (inr m) (inr o) = inr (inr (record {
        name = e.name;
        next = e.next;
        latch = e.latch;
        kept = stays e.name m e.kept;
        other_name = e.other_name;
        other_next = e.other_next;
        other = e.other;
        other_kept = stays e.other_name o e.other_kept;
        cone = e.cone;
        no_self_edge = e.no_self_edge;
      }))

  abbrev Leads : P → P → Type 0
  Leads u v = (u ≡ v) ⊎ Without u v

  -- a latch of the name on the way
  pub record Stop (u v : P) : Type 0 where
    pub stop : P
    pub next : P
    pub latch : IsLatch c name stop next
    pub before : Leads u stop
    pub after : Leads stop v

  join : {u v w : P} → Without u v → Without v w → Without u w
  join (LatchPath.edge e) rest = LatchPath.step e rest
  join (LatchPath.step e first) rest = LatchPath.step e (join first rest)

  path_or : {u v : P} → Without u v → LatchPath c enabled names u v ⊎ Stop u v
  path_or {u} {v} (LatchPath.edge e) = go (reading_or e)
    where
      go : (e.name ≡ name) ⊎ ((e.other_name ≡ name) ⊎ LatchReads c enabled names u v) → LatchPath c enabled names u v ⊎ Stop u v
      go (inl q) = inr (record { stop = u; next = e.next; latch = subst (λ (m : List ℕ). IsLatch c m u e.next) q e.latch; before = inl refl; after = inr (LatchPath.edge e) })
      go (inr (inl q)) = inr (record { stop = v; next = e.other_next; latch = subst (λ (m : List ℕ). IsLatch c m v e.other_next) q e.other; before = inr (LatchPath.edge e); after = inl refl })
      go (inr (inr f)) = inl (LatchPath.edge f)
  path_or {u} {v = w} (LatchPath.step {v = v} e rest) = go (reading_or e) (path_or rest)
    where
      before : {x : P} → Leads v x → Leads u x
      before (inl q) = inr (LatchPath.edge (subst (LatchReads c enabled (without names i) u) q e))
      before (inr p) = inr (LatchPath.step e p)

      go : (e.name ≡ name) ⊎ ((e.other_name ≡ name) ⊎ LatchReads c enabled names u v) → LatchPath c enabled names v w ⊎ Stop v w → LatchPath c enabled names u w ⊎ Stop u w
      go (inl q) later = inr (record { stop = u; next = e.next; latch = subst (λ (m : List ℕ). IsLatch c m u e.next) q e.latch; before = inl refl; after = inr (LatchPath.step e rest) })
      go (inr (inl q)) later = inr (record { stop = v; next = e.other_next; latch = subst (λ (m : List ℕ). IsLatch c m v e.other_next) q e.other; before = inr (LatchPath.edge e); after = inr rest })
      go (inr (inr f)) (inl p) = inl (LatchPath.step f p)
      go (inr (inr f)) (inr s) = inr (record { stop = s.stop; next = s.next; latch = s.latch; before = before s.before; after = s.after })

  -- a cycle that comes back when the name is put back goes through a latch of the name
  pub cycle_through : (HasCycle c enabled names → ⊥) → HasCycle c enabled (without names i) → (u : P) × (next : P) × IsLatch c name u next × LatchPath c enabled (without names i) u u
  cycle_through free (u, path) = go (path_or path)
    where
      around : {x : P} → Leads u x → Leads x u → Without x x
      around {x} (inl q) (inl r) = subst (λ z. Without z z) q path
      around {x} (inl q) (inr p) = subst (Without x) q p
      around {x} (inr p) (inl r) = subst (λ z. Without z x) (sym r) p
      around {x} (inr p) (inr r) = join r p

      go : LatchPath c enabled names u u ⊎ Stop u u → (w : P) × (next : P) × IsLatch c name w next × LatchPath c enabled (without names i) w w
      go (inl p) = absurd (free (u, p))
      go (inr s) = (s.stop, s.next, s.latch, around s.before s.after)

-- Each name of a minimal cut is needed for a cycle of A or of B, and its latch is never settled there.
module _ {P Q : Type 0} (mode : Mode) (names : List (List ℕ)) (a : Circuit P) (b : Circuit Q) (sa : IsSingleDriven a) (sb : IsSingleDriven b) (na : HasDistinctNames a) (nb : HasDistinctNames b)
    (least : IsMinimalCut mode a b names) where
  -- on which side the cycle lies that the name is needed for
  abbrev on_left : {A B : Type 0} → A ⊎ B → Bool
  on_left (inl x) = true
  on_left (inr y) = false

  abbrev at_place : (name : List ℕ) → (i : ℕ) × (slice_get names i ≡ Some name) → Bool
  at_place name x = on_left (least.needed x.0 (slice_get_within names x.0 name x.1))

  abbrev chosen_by : (name : List ℕ) (b : Bool) → is_among names name ≡ b → Bool
  chosen_by name true e = at_place name (at_of names name (is_among-sound names name e))
  chosen_by name false e = false

  -- whether the name is needed for a cycle of A
  abbrev pub never_left : List ℕ → Bool
  never_left name = chosen_by name (is_among names name) refl

  Cycle : {R : Type 0} → Circuit R → List ℕ → Type 0
  Cycle c name = (i : ℕ) × (slice_get names i ≡ Some name) × HasCycle c (EnabledIn mode c) (without names i)

  left_cycle : (name : List ℕ) → never_left name ≡ true → Contains names name × Cycle a name
  unfolding Cycle
  left_cycle name h = go (is_among names name) refl h
    where
      side : (i : ℕ) → slice_get names i ≡ Some name → (x : HasCycle a (EnabledIn mode a) (without names i) ⊎ HasCycle b (EnabledIn mode b) (without names i)) → on_left x ≡ true → Cycle a name
      side i q (inl c) e = (i, q, c)
      side i q (inr c) e = cc

      go : (t : Bool) (e : is_among names name ≡ t) → chosen_by name t e ≡ true → Contains names name × Cycle a name
      go true e k =
          let there = is_among-sound names name e in
          let place = at_of names name there in
          (there, side place.0 place.1 (least.needed place.0 (slice_get_within names place.0 name place.1)) k)
      go false e k = cc

  right_cycle : (name : List ℕ) → Contains names name → never_left name ≡ false → Cycle b name
  unfolding Cycle
  right_cycle name c h = go (is_among names name) refl h
    where
      side : (i : ℕ) → slice_get names i ≡ Some name → (x : HasCycle a (EnabledIn mode a) (without names i) ⊎ HasCycle b (EnabledIn mode b) (without names i)) → on_left x ≡ false → Cycle b name
      side i q (inl c) e = cc
      side i q (inr c) e = (i, q, c)

      no : true ≡ false → ⊥
      no e = cc

      go : (t : Bool) (e : is_among names name ≡ t) → chosen_by name t e ≡ false → Cycle b name
      go true e k =
          let there = is_among-sound names name e in
          let place = at_of names name there in
          side place.0 place.1 (least.needed place.0 (slice_get_within names place.0 name place.1)) k
      go false e k = absurd (no (sym (is_among-complete names name c) ∙ e))

  never : {R : Type 0} (c : Circuit R) (single : IsSingleDriven c) (distinct : HasDistinctNames c) → (HasCycle c (EnabledIn mode c) names → ⊥) →
      (name : List ℕ) → Cycle c name → (u next : R) → IsLatch c name u next → (run : ℕ → R → Bool) (t : ℕ) → Marked c (EnabledIn mode c) run t u → ⊥
  unfolding Cycle
  never {R} c single distinct free name cycle u next latch run t mark =
      let through = cycle_through c (EnabledIn mode c) names cycle.0 name cycle.1 free cycle.2 in
      let same : through.0 ≡ u = distinct.latches name through.0 through.1 u next through.2 latch in
      cycle_never_settled c (EnabledIn mode c) (without names cycle.0) run single (suc t) t u (omega arith) (subst (λ z. LatchPath c (EnabledIn mode c) (without names cycle.0) z z) same through.3) mark

  pub only_names : (name : List ℕ) → never_left name ≡ true → Contains names name
  only_names name e = (left_cycle name e).0

  -- a name that is needed for a cycle of A is of a latch that is never settled in A
  pub left_never : (name : List ℕ) (u next : P) → IsLatch a name u next → never_left name ≡ true → (run : ℕ → P → Bool) (t : ℕ) → Marked a (EnabledIn mode a) run t u → ⊥
  left_never name u next latch e run t mark = never a sa na least.left_free name (left_cycle name e).1 u next latch run t mark

  -- and any other name of the cut is of one that is never settled in B
  pub right_never : (name : List ℕ) (v next : Q) → Contains names name → IsLatch b name v next → never_left name ≡ false → (run : ℕ → Q → Bool) (t : ℕ) → Marked b (EnabledIn mode b) run t v → ⊥
  right_never name v next h latch e run t mark = never b sb nb least.right_free name (right_cycle name h e) v next latch run t mark

  pub left_clear : (name : List ℕ) (p : P) → Contains a.inputs (record { name = name; place = p }) → Contains names name → ⊥
  left_clear name p i h = let l = least.common name h in na.apart name p l.0 l.1 i l.4

  pub right_clear : (name : List ℕ) (q : Q) → Contains b.inputs (record { name = name; place = q }) → Contains names name → ⊥
  right_clear name q i h = let l = least.common name h in nb.apart name q l.2 l.3 i l.5

-- With a minimal cut, in the plain mode: equal functions of the cut circuits mean that the outputs agree wherever both are
-- settled in the circuits themselves, and that they agree onward.
module _ {P Q : Type 0} (names : List (List ℕ)) (a : Circuit P) (b : Circuit Q) (sa : IsSingleDriven a) (sb : IsSingleDriven b) (na : HasDistinctNames a) (nb : HasDistinctNames b)
    (least : IsMinimalCut Plain a b names) where
  module _ (one_input_name : (name name' : List ℕ) (p : P) → Contains a.inputs (record { name = name; place = p }) → Contains a.inputs (record { name = name'; place = p }) → name ≡ name')
      (oa ob : List ℕ) (numbered : AreNumbered (cut names a) (cut names b) oa ob)
      (equal : (p : P) (q : Q) → IsPair names a b p q → HaveEqualFunctions (cut names a) (cut names b) oa ob p q) where
    one_name : (name name' : List ℕ) (p : P) → Contains (cut names a).inputs (record { name = name; place = p }) → Contains (cut names a).inputs (record { name = name'; place = p }) → name ≡ name'
    one_name name name' p h k = go (cut_input names a name p h) (cut_input names a name' p k)
      where
        Origin : List ℕ → Type 0
        Origin m = Contains a.inputs (record { name = m; place = p }) ⊎ (Contains names m × ((next : P) × IsLatch a m p next))

        name_of : Equation P → List ℕ
        name_of (Gate out fanins cover) = []
        name_of (Latch m out next) = m
        name_of (Port out from) = []

        go : Origin name → Origin name' → name ≡ name'
        go (inl x) (inl y) = one_input_name name name' p x y
        go (inl x) (inr y) = absurd (sa.no_input (Latch name' p y.1.0) y.1.1 (name, x))
        go (inr x) (inl y) = absurd (sa.no_input (Latch name p x.1.0) x.1.1 (name', y))
        go (inr x) (inr y) = ap name_of (sa.one (Latch name p x.1.0) (Latch name' p y.1.0) x.1.1 y.1.1 refl)

    pub exposed_functions_agree : Agree Plain a b
    exposed_functions_agree =
        parted_functions_agree names a b oa ob numbered sa sb (left_clear Plain names a b sa sb na nb least) (right_clear Plain names a b sa sb na nb least) one_name
        (never_left Plain names a b sa sb na nb least) (left_never Plain names a b sa sb na nb least) (right_never Plain names a b sa sb na nb least) (only_names Plain names a b sa sb na nb least)
        (λ p q pair. equal p q (wider pair))
      where
        wider : {p : P} {q : Q} → IsPair [] a b p q → IsPair names a b p q
        wider (IsPair.outputs l r) = IsPair.outputs l r
        wider (IsPair.nexts h l r) = absurd (omega (arith, h.1))

    pub exposed_functions_agree_onward : AgreeOnward Plain names a b
    exposed_functions_agree_onward =
        equal_functions_agree_onward names a b oa ob numbered (cut_single names a sa) (cut_single names b sb) (left_clear Plain names a b sa sb na nb least) (right_clear Plain names a b sa sb na nb least) equal
