-- Splits of partitions, and the partition by initial values.
use Rattle.std.proofs.Common.{◌≡◌, ◌≢◌, ℕ, ◌+◌, ◌*◌, Bool, true, false, List, [], ◌∷◌, map, refl, sym, ◌∙◌, ap, subst, arith, inl, inr, Option, Some, None}
use Rattle.std.specs.Prelude.{◌⊎◌}
use Rattle.std.specs.List.{Contains}
use Rattle.std.proofs.lemmas.List.Elements.{Contains-append_cases}
use Rattle.circuit_theory.specs.Circuit.{Circuit, Equation, Gate, Latch, Port, Started, IsSingleDriven, out_of}
use Rattle.circuit_theory.specs.Joined.{Either, Left, Right, moved_start, joined}
use Rattle.circuit_theory.proofs.Lists.{Contains-head, Contains-tail, Contains-cases, Contains-map_from}
use Rattle.circuit_laws.proofs.JoinedParts.{left_one, right_one, left_is_not_right}
use Rattle.circuit_laws.specs.reset_laws.Reset.{HasOneStart}
use Rattle.circuit_laws.specs.reset_laws.induct_laws.Partitions.{ShareStart, IsInitial, IsSplitBy}
use Rattle.circuit_laws.proofs.finite_laws.Deciding.{if_same}

abbrev next_of : {P : Type 0} → Equation P → P
next_of (Gate out fanins cover) = out
next_of (Latch name out next) = next
next_of (Port out from) = from

abbrev bit_number : Bool → ℕ
bit_number true = 1
bit_number false = 0

two_parts : (m n : ℕ) (x y : Bool) → 2 * m + bit_number x ≡ 2 * n + bit_number y → (m ≡ n) × (x ≡ y)
two_parts m n true true e = (omega arith, refl)
two_parts m n true false e = absurd (omega arith)
two_parts m n false true e = absurd (omega arith)
two_parts m n false false e = (omega arith, refl)

module _ {P : Type 0} (same : (p q : P) → (p ≡ q) ⊎ (p ≡ q → ⊥)) where
  -- what the latch takes over
  abbrev pub taken : (P → Bool) → List (Equation P) → P → Bool
  taken x [] p = false
  taken x (Gate out fanins cover ∷ es) p = taken x es p
  taken x (Latch name out next ∷ es) p = if_same (same out p) (x next) (taken x es p)
  taken x (Port out from ∷ es) p = taken x es p

  taken_is : (x : P → Bool) (es : List (Equation P)) → ((e f : Equation P) → Contains es e → Contains es f → out_of e ≡ out_of f → e ≡ f) → (name : List ℕ) (u next : P) → Contains es (Latch name u next) → taken x es u ≡ x next
  taken_is x [] one name u next h = absurd (omega (arith, h.1))
  taken_is x (Gate out fanins cover ∷ es) one name u next h = go (λ k. taken_is x es (λ e f i j. one e f (Contains-tail _ e es i) (Contains-tail _ f es j)) name u next k) (Contains-cases (Gate out fanins cover) (Latch name u next) es h)
    where
      go : (Contains es (Latch name u next) → taken x es u ≡ x next) → (Gate out fanins cover ≡ Latch name u next) ⊎ Contains es (Latch name u next) → taken x es u ≡ x next
      go later (inl e) = cc
      go later (inr k) = later k
  taken_is x (Port out from ∷ es) one name u next h = go (λ k. taken_is x es (λ e f i j. one e f (Contains-tail _ e es i) (Contains-tail _ f es j)) name u next k) (Contains-cases (Port out from) (Latch name u next) es h)
    where
      go : (Contains es (Latch name u next) → taken x es u ≡ x next) → (Port out from ≡ Latch name u next) ⊎ Contains es (Latch name u next) → taken x es u ≡ x next
      go later (inl e) = cc
      go later (inr k) = later k
  taken_is x (Latch own out to ∷ es) one name u next h = go (λ k. taken_is x es (λ e f i j. one e f (Contains-tail _ e es i) (Contains-tail _ f es j)) name u next k) (same out u) (Contains-cases (Latch own out to) (Latch name u next) es h)
    where
      go : (Contains es (Latch name u next) → taken x es u ≡ x next) → (s : (out ≡ u) ⊎ (out ≡ u → ⊥)) → (Latch own out to ≡ Latch name u next) ⊎ Contains es (Latch name u next) → if_same s (x to) (taken x es u) ≡ x next
      go later (inl e) k = ap x (ap next_of (one (Latch own out to) (Latch name u next) (Contains-head (Latch own out to) es) h e))
      go later (inr n) (inl e) = absurd (n (ap out_of e))
      go later (inr n) (inr k) = later k

  -- each block is split by what its latches take over
  abbrev pub split_by : Circuit P → (P → ℕ) → (P → Bool) → P → ℕ
  split_by c block x p = 2 * block p + bit_number (taken x c.equations p)

  pub split_is : (c : Circuit P) (single : IsSingleDriven c) (block : P → ℕ) (x : P → Bool) → IsSplitBy c block x (split_by c block x)
  split_is c single block x name name' u next v next' l m = (λ e. there (two_parts (block u) (block v) (taken x c.equations u) (taken x c.equations v) e), λ h. back h.0 h.1)
    where
      at_u : taken x c.equations u ≡ x next
      at_u = taken_is x c.equations single.one name u next l

      at_v : taken x c.equations v ≡ x next'
      at_v = taken_is x c.equations single.one name' v next' m

      there : (block u ≡ block v) × (taken x c.equations u ≡ taken x c.equations v) → (block u ≡ block v) × (x next ≡ x next')
      there h = (h.0, sym at_u ∙ (h.1 ∙ at_v))

      back : block u ≡ block v → x next ≡ x next' → 2 * block u + bit_number (taken x c.equations u) ≡ 2 * block v + bit_number (taken x c.equations v)
      back e f = ap (λ k. 2 * k + bit_number (taken x c.equations u)) e ∙ ap (λ b. 2 * block v + bit_number b) (at_u ∙ (f ∙ sym at_v))

  -- the initial value of the latch, if it has one
  abbrev start_bit : List (Started P) → P → Option Bool
  start_bit [] p = None
  start_bit (s ∷ starts) p = if_same (same s.place p) (Some s.bit) (start_bit starts p)

  start_bit-there : (starts : List (Started P)) (p : P) (bit : Bool) → start_bit starts p ≡ Some bit → Contains starts (record { place = p; bit = bit })
  start_bit-there [] p bit h = absurd (let e : None ≡ Some bit = h in cc)
  start_bit-there (s ∷ starts) p bit h = go (λ k. start_bit-there starts p bit k) (same s.place p) h
    where
      unwrap : (x y : Bool) → Some x ≡ Some y → x ≡ y
      unwrap x y q = cc

      go : (start_bit starts p ≡ Some bit → Contains starts (record { place = p; bit = bit })) → (d : (s.place ≡ p) ⊎ (s.place ≡ p → ⊥)) → if_same d (Some s.bit) (start_bit starts p) ≡ Some bit → Contains (s ∷ starts) (record { place = p; bit = bit })
      go later (inl e) q = subst (Contains (s ∷ starts)) (λ i. record { place = e i; bit = unwrap s.bit bit q i }) (Contains-head s starts)
      go later (inr n) q = Contains-tail s _ starts (later q)

  start_bit-none : (starts : List (Started P)) (p : P) (bit : Bool) → Contains starts (record { place = p; bit = bit }) → (found : Bool) × (start_bit starts p ≡ Some found)
  start_bit-none [] p bit h = absurd (omega (arith, h.1))
  start_bit-none (s ∷ starts) p bit h = go (λ k. start_bit-none starts p bit k) (same s.place p) (Contains-cases s (record { place = p; bit = bit }) starts h)
    where
      go : (Contains starts (record { place = p; bit = bit }) → (found : Bool) × (start_bit starts p ≡ Some found)) → (d : (s.place ≡ p) ⊎ (s.place ≡ p → ⊥)) → (s ≡ record { place = p; bit = bit }) ⊎ Contains starts (record { place = p; bit = bit }) →
          (found : Bool) × (if_same d (Some s.bit) (start_bit starts p) ≡ Some found)
      go later (inl e) k = (s.bit, refl)
      go later (inr n) (inl e) = absurd (n (ap (λ (z : Started P). z.place) e))
      go later (inr n) (inr k) = later k

  module _ (number : P → ℕ) (distinct : (p q : P) → number p ≡ number q → p ≡ q) (c : Circuit P) (one : HasOneStart c) where
    abbrev code : Option Bool → P → ℕ
    code None p = 2 + number p
    code (Some false) p = 0
    code (Some true) p = 1

    -- the partition by initial values
    abbrev pub initial : P → ℕ
    initial p = code (start_bit c.starts p) p

    start_found : (p : P) (bit : Bool) → Contains c.starts (record { place = p; bit = bit }) → start_bit c.starts p ≡ Some bit
    start_found p bit h =
        let f = start_bit-none c.starts p bit h in
        f.1 ∙ ap Some (one p f.0 bit (start_bit-there c.starts p f.0 f.1) h)

    alike : (u v : P) → u ≢ v → (x y : Option Bool) → start_bit c.starts u ≡ x → start_bit c.starts v ≡ y → code x u ≡ code y v → ShareStart c u v
    alike u v n None None p q e = absurd (n (distinct u v (omega arith)))
    alike u v n None (Some true) p q e = absurd (omega arith)
    alike u v n None (Some false) p q e = absurd (omega arith)
    alike u v n (Some true) None p q e = absurd (omega arith)
    alike u v n (Some false) None p q e = absurd (omega arith)
    alike u v n (Some true) (Some false) p q e = absurd (omega arith)
    alike u v n (Some false) (Some true) p q e = absurd (omega arith)
    alike u v n (Some true) (Some true) p q e = (true, start_bit-there c.starts u true p, start_bit-there c.starts v true q)
    alike u v n (Some false) (Some false) p q e = (false, start_bit-there c.starts u false p, start_bit-there c.starts v false q)

    bit_code : (bit : Bool) (u v : P) → code (Some bit) u ≡ code (Some bit) v
    bit_code true u v = refl
    bit_code false u v = refl

    pub initial_is : IsInitial c initial
    initial_is name name' u next v next' l m n = (
      λ e. alike u v n (start_bit c.starts u) (start_bit c.starts v) refl refl e,
      λ s. ap (λ o. code o u) (start_found u s.0 s.1) ∙ (bit_code s.0 u v ∙ sym (ap (λ o. code o v) (start_found v s.0 s.2))),
    )

-- a number for each place of either side
abbrev pub place_number : Either ℕ ℕ → ℕ
place_number (Left p) = 2 * p
place_number (Right q) = 2 * q + 1

pub place_number-distinct : (p q : Either ℕ ℕ) → place_number p ≡ place_number q → p ≡ q
place_number-distinct (Left p) (Left q) e = ap Left (omega arith)
place_number-distinct (Left p) (Right q) e = absurd (omega arith)
place_number-distinct (Right p) (Left q) e = absurd (omega arith)
place_number-distinct (Right p) (Right q) e = ap Right (omega arith)

-- no latch of either side has two initial values
module _ (a b : Circuit ℕ) where
  abbrev left_starts : List (Started (Either ℕ ℕ))
  left_starts = map (moved_start {P = ℕ} {Q = Either ℕ ℕ} Left) a.starts

  abbrev right_starts : List (Started (Either ℕ ℕ))
  right_starts = map (moved_start {P = ℕ} {Q = Either ℕ ℕ} Right) b.starts

  abbrev start_at : Either ℕ ℕ → Bool → Started (Either ℕ ℕ)
  start_at p bit = record { place = p; bit = bit }

  in_left : (q : ℕ) (z : Bool) → Contains left_starts (start_at (Left q) z) → Contains a.starts (record { place = q; bit = z })
  in_left q z c =
      let s = Contains-map_from (moved_start {P = ℕ} {Q = Either ℕ ℕ} Left) a.starts (start_at (Left q) z) c in
      let e : s.0.place ≡ q = left_one s.0.place q (ap (λ (w : Started (Either ℕ ℕ)). w.place) s.2) in
      let f : s.0.bit ≡ z = ap (λ (w : Started (Either ℕ ℕ)). w.bit) s.2 in
      subst (Contains a.starts) (λ i. record { place = e i; bit = f i }) s.1

  in_right : (q : ℕ) (z : Bool) → Contains right_starts (start_at (Right q) z) → Contains b.starts (record { place = q; bit = z })
  in_right q z c =
      let s = Contains-map_from (moved_start {P = ℕ} {Q = Either ℕ ℕ} Right) b.starts (start_at (Right q) z) c in
      let e : s.0.place ≡ q = right_one s.0.place q (ap (λ (w : Started (Either ℕ ℕ)). w.place) s.2) in
      let f : s.0.bit ≡ z = ap (λ (w : Started (Either ℕ ℕ)). w.bit) s.2 in
      subst (Contains b.starts) (λ i. record { place = e i; bit = f i }) s.1

  not_right : (q : ℕ) (z : Bool) → Contains right_starts (start_at (Left q) z) → ⊥
  not_right q z c =
      let s = Contains-map_from (moved_start {P = ℕ} {Q = Either ℕ ℕ} Right) b.starts (start_at (Left q) z) c in
      left_is_not_right q s.0.place (sym (ap (λ (w : Started (Either ℕ ℕ)). w.place) s.2))

  not_left : (q : ℕ) (z : Bool) → Contains left_starts (start_at (Right q) z) → ⊥
  not_left q z c =
      let s = Contains-map_from (moved_start {P = ℕ} {Q = Either ℕ ℕ} Left) a.starts (start_at (Right q) z) c in
      left_is_not_right s.0.place q (ap (λ (w : Started (Either ℕ ℕ)). w.place) s.2)

  StartsAt : Either ℕ ℕ → Bool → Type 0
  StartsAt p x = Contains left_starts (start_at p x) ⊎ Contains right_starts (start_at p x)

  one_at : HasOneStart a → HasOneStart b → (r : Either ℕ ℕ) (x y : Bool) → StartsAt r x → StartsAt r y → x ≡ y
  unfolding StartsAt
  one_at oa ob (Left q) x y (inl i) (inl j) = oa q x y (in_left q x i) (in_left q y j)
  one_at oa ob (Left q) x y (inr i) j = absurd (not_right q x i)
  one_at oa ob (Left q) x y (inl i) (inr j) = absurd (not_right q y j)
  one_at oa ob (Right q) x y (inr i) (inr j) = ob q x y (in_right q x i) (in_right q y j)
  one_at oa ob (Right q) x y (inl i) j = absurd (not_left q x i)
  one_at oa ob (Right q) x y (inr i) (inl j) = absurd (not_left q y j)

  pub joined_one_start : HasOneStart a → HasOneStart b → HasOneStart (joined a b)
  unfolding StartsAt
  joined_one_start oa ob p x y h k = one_at oa ob p x y (Contains-append_cases left_starts right_starts (start_at p x) h) (Contains-append_cases left_starts right_starts (start_at p y) k)
