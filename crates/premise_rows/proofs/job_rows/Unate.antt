-- A latch behind a multiplexer of itself is enabled, and one behind its own inverter isn't.
use Rattle.std.proofs.Common.{◌≡◌, ◌∙◌, ◌≢◌, ℕ, Bool, true, false, List, [], ◌∷◌, refl, sym, ap, subst, inr}
use Rattle.std.specs.List.{Contains}
use Rattle.std.proofs.lemmas.List.Elements.{All-contains}
use Rattle.circuit_theory.specs.Cover.{cover_value}
use Rattle.circuit_theory.specs.Circuit.{Circuit, Gate, IsLatch, IsSource, Reads, Reaches, Holds, Meets}
use Rattle.circuit_theory.specs.Run.{ExtendsWith, IsEnabled}
use Rattle.circuit_theory.proofs.Lists.{Contains-head}
use Rattle.pair_texts.specs.design_rows.Designs.{not_cover}
use Rattle.premise_rows.specs.job_rows.Enables.{mux_cover}

mux_rises : (d en : Bool) → cover_value mux_cover (false ∷ d ∷ en ∷ []) ≡ true → cover_value mux_cover (true ∷ d ∷ en ∷ []) ≡ true
unfolding cover_value
mux_rises false false h = refl
mux_rises false true h = h
mux_rises true false h = refl
mux_rises true true h = h

module _ {P : Type 0} (c : Circuit P) (name : List ℕ) (q n d en : P) (gate : Contains c.equations (Gate n (q ∷ d ∷ en ∷ []) mux_cover)) (latch : IsLatch c name q n) (d_from : IsSource c d) (en_from : IsSource c en) (d_apart : d ≢ q) (en_apart : en ≢ q) where
  at_bit : (bit : Bool) (x v : P → Bool) → ExtendsWith c q bit x v → v n ≡ cover_value mux_cover (bit ∷ x d ∷ x en ∷ [])
  at_bit bit x v e =
      let holds : v n ≡ cover_value mux_cover (v q ∷ v d ∷ v en ∷ []) = All-contains (Holds v) c.equations (Gate n (q ∷ d ∷ en ∷ []) mux_cover) e.meets gate in
      holds ∙ ap (λ (b : Bool). cover_value mux_cover (b ∷ v d ∷ v en ∷ [])) e.put ∙ ap (λ (b : Bool). cover_value mux_cover (bit ∷ b ∷ v en ∷ [])) (e.sources d d_from d_apart) ∙ ap (λ (b : Bool). cover_value mux_cover (bit ∷ x d ∷ b ∷ [])) (e.sources en en_from en_apart)

  pub mux_is_enabled : IsEnabled c q
  mux_is_enabled = record {
    name = name;
    next = n;
    latch = latch;
    self_edge = (inr (name, n, latch), Reaches.there (Reads.by_gate {fanins = q ∷ d ∷ en ∷ []} {cover = mux_cover} gate (Contains-head q (d ∷ en ∷ []))) Reaches.here);
    rises = λ x low high low_is high_is h. at_bit true x high high_is ∙ mux_rises (x d) (x en) (sym (at_bit false x low low_is) ∙ h);
  }

at_zero : cover_value not_cover (false ∷ []) ≡ true
unfolding cover_value
at_zero = refl

at_one : cover_value not_cover (true ∷ []) ≡ false
unfolding cover_value
at_one = refl

-- values that meet the gates with the latch at 0 and at 1, where nothing else is an input or a latch
pub record HasBoth {P : Type 0} (c : Circuit P) (q : P) : Type 0 where
  pub low : P → Bool
  pub high : P → Bool
  pub low_meets : Meets c low
  pub high_meets : Meets c high
  pub low_is : low q ≡ false
  pub high_is : high q ≡ true
  pub alone : (p : P) → IsSource c p → p ≡ q

module _ {P : Type 0} (c : Circuit P) (q n : P) (gate : Contains c.equations (Gate n (q ∷ []) not_cover)) (one : (name : List ℕ) (next : P) → IsLatch c name q next → next ≡ n) (both : HasBoth c q) where
  low_with : ExtendsWith c q false both.low both.low
  low_with = record { meets = both.low_meets; sources = λ p s apart. absurd (apart (both.alone p s)); put = both.low_is }

  high_with : ExtendsWith c q true both.low both.high
  high_with = record { meets = both.high_meets; sources = λ p s apart. absurd (apart (both.alone p s)); put = both.high_is }

  pub inverter_is_not_enabled : IsEnabled c q → ⊥
  inverter_is_not_enabled e =
      let low : both.low n ≡ cover_value not_cover (both.low q ∷ []) = All-contains (Holds both.low) c.equations (Gate n (q ∷ []) not_cover) both.low_meets gate in
      let high : both.high n ≡ cover_value not_cover (both.high q ∷ []) = All-contains (Holds both.high) c.equations (Gate n (q ∷ []) not_cover) both.high_meets gate in
      let rises : both.low n ≡ true → both.high n ≡ true = subst (λ (p : P). both.low p ≡ true → both.high p ≡ true) (one e.name e.next e.latch) (e.rises both.low both.low both.high low_with high_with) in
      let low_one : both.low n ≡ true = low ∙ ap (λ (b : Bool). cover_value not_cover (b ∷ [])) both.low_is ∙ at_zero in
      let high_zero : both.high n ≡ false = high ∙ ap (λ (b : Bool). cover_value not_cover (b ∷ [])) both.high_is ∙ at_one in
      let high_one : both.high n ≡ true = rises low_one in
      absurd (cc)
