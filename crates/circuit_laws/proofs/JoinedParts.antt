-- Each of two circuits side by side is a part of both, and what holds of nets holds of two nets side by side.
use Rattle.std.proofs.Common.{◌≡◌, ◌≢◌, ℕ, Bool, List, [], ◌∷◌, ◌++◌, length, map, refl, sym, ◌∙◌, ap, subst, arith, inl, inr}
use Rattle.std.specs.Prelude.{◌⊎◌}
use Rattle.std.specs.List.{Contains}
use Rattle.std.proofs.lemmas.List.Elements.{All-contains, Contains-append_cases, Contains-append_left, Contains-append_right}
use Rattle.circuit_theory.specs.Cover.{cover_value}
use Rattle.circuit_theory.specs.Circuit.{Circuit, Equation, Gate, Latch, Port, Named, IsInput, IsLatch, Holds, Meets, IsSingleDriven, out_of}
use Rattle.circuit_theory.specs.Run.{CanPut, IsDetermined}
use Rattle.circuit_theory.specs.Tree.{StandsBeside, IsInputNumber}
use Rattle.circuit_theory.specs.Net.{IsNet}
use Rattle.circuit_theory.specs.Joined.{Either, Left, Right, moved, moved_name, joined, beside}
use Rattle.circuit_theory.proofs.Lists.{Contains-map, Contains-map_from, All-from_each, map-map}
use Rattle.circuit_laws.proofs.Joined.{all_joined, holds_left, holds_right, left_equation, equation_from}
use Rattle.circuit_theory.proofs.Numbers.{one_number}
use Rattle.circuit_theory.proofs.Sums.{same_or_not}
use Rattle.circuit_laws.proofs.NetLaws.{net_can_put, net_determined}
use Rattle.circuit_laws.proofs.LawProofs.{next_within}
use Rattle.circuit_laws.proofs.Parts.{IsPart, put_up, determined_up, latch_from}

pub left_one : {P Q : Type 0} (p p' : P) → ◌≡◌ {A = Either P Q} (Left p) (Left p') → p ≡ p'
left_one p p' e = cc

pub right_one : {P Q : Type 0} (q q' : Q) → ◌≡◌ {A = Either P Q} (Right q) (Right q') → q ≡ q'
right_one q q' e = cc

pub left_is_not_right : {P Q : Type 0} (p : P) (q : Q) → ◌≡◌ {A = Either P Q} (Left p) (Right q) → ⊥
left_is_not_right p q e = cc

out_moved : {P Q : Type 0} (f : P → Q) (e : Equation P) → out_of (moved f e) ≡ f (out_of e)
out_moved f (Gate out fanins cover) = refl
out_moved f (Latch name out next) = refl
out_moved f (Port out from) = refl

-- what a moved equation asks of the whole is what it asks of the part
holds_from : {P R : Type 0} (f : P → R) (y : R → Bool) (e : Equation P) → Holds y (moved f e) → Holds (λ p. y (f p)) e
holds_from f y (Gate out fanins cover) h = h ∙ ap (cover_value cover) (map-map y f fanins)
holds_from f y (Latch name out next) h = tt
holds_from f y (Port out from) h = h

pub right_equation : {P Q : Type 0} (a : Circuit P) (b : Circuit Q) (e : Equation Q) → Contains b.equations e → Contains (joined a b).equations (moved Right e)
right_equation {P} {Q} a b e h = Contains-append_right (map (moved Left) a.equations) (map (moved Right) b.equations) (moved Right e) (Contains-map (moved Right) b.equations e h)

module _ {P Q : Type 0} (a : Circuit P) (b : Circuit Q) where
  pub meets_left : (y : Either P Q → Bool) → Meets (joined a b) y → Meets a (λ p. y (Left p))
  meets_left y meets = All-from_each (Holds (λ p. y (Left p))) a.equations (λ e h. holds_from Left y e (All-contains (Holds y) (joined a b).equations _ meets (left_equation a b e h)))

  pub meets_right : (y : Either P Q → Bool) → Meets (joined a b) y → Meets b (λ q. y (Right q))
  meets_right y meets = All-from_each (Holds (λ q. y (Right q))) b.equations (λ e h. holds_from Right y e (All-contains (Holds y) (joined a b).equations _ meets (right_equation a b e h)))

  pub meets_both : (v : P → Bool) (w : Q → Bool) → Meets a v → Meets b w → Meets (joined a b) (beside v w)
  meets_both v w mv mw = all_joined a b (Holds v) (Holds w) (Holds (beside v w)) (holds_left v w) (holds_right v w) mv mw

  abbrev pub replace_left : (Either P Q → Bool) → (P → Bool) → Either P Q → Bool
  replace_left y v = beside v (λ q. y (Right q))

  abbrev pub replace_right : (Either P Q → Bool) → (Q → Bool) → Either P Q → Bool
  replace_right y w = beside (λ p. y (Left p)) w

  abbrev left_inputs : List (Named (Either P Q))
  left_inputs = map (moved_name Left) a.inputs

  abbrev right_inputs : List (Named (Either P Q))
  right_inputs = map (moved_name Right) b.inputs

  pub left_part : IsPart a (joined a b) Left replace_left
  left_part = record {
    one = λ p q e. left_one p q e;
    equation = λ e h. left_equation a b e h;
    equation_from = λ e h p q. equation e p q (equation_from a b e h);
    input = λ name p h. Contains-append_left left_inputs right_inputs _ (Contains-map (moved_name Left) a.inputs (record { name = name; place = p }) h);
    input_from = λ name p h. input name p (Contains-append_cases left_inputs right_inputs _ h);
    inside = λ y v p. refl;
    outside = outside;
    meets = λ y v my mv. meets_both v (λ q. y (Right q)) mv (meets_right y my);
    meets_from = meets_left;
  }
    where
      equation : (e : Equation (Either P Q)) (p : P) → out_of e ≡ Left p → ((x : Equation P) × Contains a.equations x × (moved Left x ≡ e)) ⊎ ((y : Equation Q) × Contains b.equations y × (moved Right y ≡ e)) →
          (x : Equation P) × Contains a.equations x × (moved Left x ≡ e)
      equation e p q (inl x) = x
      equation e p q (inr y) = absurd (left_is_not_right p (out_of y.0) (sym q ∙ (sym (ap out_of y.2) ∙ out_moved Right y.0)))

      input : (name : List ℕ) (p : P) → Contains left_inputs (record { name = name; place = Left p }) ⊎ Contains right_inputs (record { name = name; place = Left p }) →
          Contains a.inputs (record { name = name; place = p })
      input name p (inl k) =
          let x = Contains-map_from (moved_name Left) a.inputs _ k in
          subst (λ (z : P). Contains a.inputs (record { name = name; place = z })) (left_one x.0.place p (ap (λ (m : Named (Either P Q)). m.place) x.2))
          (subst (λ (z : List ℕ). Contains a.inputs (record { name = z; place = x.0.place })) (ap (λ (m : Named (Either P Q)). m.name) x.2) x.1)
      input name p (inr k) =
          let x = Contains-map_from (moved_name Right) b.inputs _ k in
          absurd (left_is_not_right p x.0.place (sym (ap (λ (m : Named (Either P Q)). m.place) x.2)))

      outside : (y : Either P Q → Bool) (v : P → Bool) (r : Either P Q) → ((p : P) × (Left p ≡ r)) ⊎ (replace_left y v r ≡ y r)
      outside y v (Left p) = inl (p, refl)
      outside y v (Right q) = inr refl

  pub right_part : IsPart b (joined a b) Right replace_right
  right_part = record {
    one = λ p q e. right_one p q e;
    equation = λ e h. right_equation a b e h;
    equation_from = λ e h p q. equation e p q (equation_from a b e h);
    input = λ name p h. Contains-append_right left_inputs right_inputs _ (Contains-map (moved_name Right) b.inputs (record { name = name; place = p }) h);
    input_from = λ name p h. input name p (Contains-append_cases left_inputs right_inputs _ h);
    inside = λ y v p. refl;
    outside = outside;
    meets = λ y v my mv. meets_both (λ p. y (Left p)) v (meets_left y my) mv;
    meets_from = meets_right;
  }
    where
      equation : (e : Equation (Either P Q)) (p : Q) → out_of e ≡ Right p → ((x : Equation P) × Contains a.equations x × (moved Left x ≡ e)) ⊎ ((y : Equation Q) × Contains b.equations y × (moved Right y ≡ e)) →
          (y : Equation Q) × Contains b.equations y × (moved Right y ≡ e)
      equation e p q (inr y) = y
      equation e p q (inl x) = absurd (left_is_not_right (out_of x.0) p (sym (out_moved Left x.0) ∙ (ap out_of x.2 ∙ q)))

      input : (name : List ℕ) (p : Q) → Contains left_inputs (record { name = name; place = Right p }) ⊎ Contains right_inputs (record { name = name; place = Right p }) →
          Contains b.inputs (record { name = name; place = p })
      input name p (inr k) =
          let x = Contains-map_from (moved_name Right) b.inputs _ k in
          subst (λ (z : Q). Contains b.inputs (record { name = name; place = z })) (right_one x.0.place p (ap (λ (m : Named (Either P Q)). m.place) x.2))
          (subst (λ (z : List ℕ). Contains b.inputs (record { name = z; place = x.0.place })) (ap (λ (m : Named (Either P Q)). m.name) x.2) x.1)
      input name p (inl k) =
          let x = Contains-map_from (moved_name Left) a.inputs _ k in
          absurd (left_is_not_right x.0.place p (ap (λ (m : Named (Either P Q)). m.place) x.2))

      outside : (y : Either P Q → Bool) (v : Q → Bool) (r : Either P Q) → ((p : Q) × (Right p ≡ r)) ⊎ (replace_right y v r ≡ y r)
      outside y v (Left p) = inr refl
      outside y v (Right q) = inl (q, refl)

pub joined_same : (r s : Either ℕ ℕ) → (r ≡ s) ⊎ (r ≢ s)
joined_same (Left p) (Left q) = elim (same_or_not p q) [ inl e ↦ inl (ap Left e) | inr n ↦ inr (λ e. n (left_one p q e)) ]
joined_same (Left p) (Right q) = inr (λ e. left_is_not_right p q e)
joined_same (Right p) (Left q) = inr (λ e. left_is_not_right q p (sym e))
joined_same (Right p) (Right q) = elim (same_or_not p q) [ inl e ↦ inl (ap Right e) | inr n ↦ inr (λ e. n (right_one p q e)) ]

module _ (a b : Circuit ℕ) (m n : ℕ) (na : IsNet a m) (nb : IsNet b n) where
  pub joined_single : IsSingleDriven (joined a b)
  joined_single = record { one = λ e f h k q. one e f q (equation_from a b e h) (equation_from a b f k); no_input = λ e h i. none e i (equation_from a b e h) }
    where
      From : Equation (Either ℕ ℕ) → Type 0
      From e = ((x : Equation ℕ) × Contains a.equations x × (moved Left x ≡ e)) ⊎ ((y : Equation ℕ) × Contains b.equations y × (moved Right y ≡ e))

      out_is : (f : ℕ → Either ℕ ℕ) (x : Equation ℕ) (e : Equation (Either ℕ ℕ)) → moved f x ≡ e → f (out_of x) ≡ out_of e
      out_is f x e q = sym (out_moved f x) ∙ ap out_of q

      one : (e f : Equation (Either ℕ ℕ)) → out_of e ≡ out_of f → From e → From f → e ≡ f
      one e f q (inl x) (inl y) =
          let same = na.single.one x.0 y.0 x.1 y.1 (left_one (out_of x.0) (out_of y.0) (out_is Left x.0 e x.2 ∙ (q ∙ sym (out_is Left y.0 f y.2)))) in
          sym x.2 ∙ (ap (moved Left) same ∙ y.2)
      one e f q (inl x) (inr y) = absurd (left_is_not_right (out_of x.0) (out_of y.0) (out_is Left x.0 e x.2 ∙ (q ∙ sym (out_is Right y.0 f y.2))))
      one e f q (inr x) (inl y) = absurd (left_is_not_right (out_of y.0) (out_of x.0) (out_is Left y.0 f y.2 ∙ (sym q ∙ sym (out_is Right x.0 e x.2))))
      one e f q (inr x) (inr y) =
          let same = nb.single.one x.0 y.0 x.1 y.1 (right_one (out_of x.0) (out_of y.0) (out_is Right x.0 e x.2 ∙ (q ∙ sym (out_is Right y.0 f y.2)))) in
          sym x.2 ∙ (ap (moved Right) same ∙ y.2)

      none : (e : Equation (Either ℕ ℕ)) → IsInput (joined a b) (out_of e) → From e → ⊥
      none e i (inl x) =
          let at : out_of e ≡ Left (out_of x.0) = sym (out_is Left x.0 e x.2) in
          let part = left_part a b in
          na.single.no_input x.0 x.1 (i.0, part.input_from i.0 (out_of x.0) (subst (λ (r : Either ℕ ℕ). Contains (joined a b).inputs (record { name = i.0; place = r })) at i.1))
      none e i (inr x) =
          let at : out_of e ≡ Right (out_of x.0) = sym (out_is Right x.0 e x.2) in
          let part = right_part a b in
          nb.single.no_input x.0 x.1 (i.0, part.input_from i.0 (out_of x.0) (subst (λ (r : Either ℕ ℕ). Contains (joined a b).inputs (record { name = i.0; place = r })) at i.1))

  pub joined_can_put : CanPut (joined a b)
  joined_can_put x name (Left u) next bit latch meets = put_up a (joined a b) Left (replace_left a b) (left_part a b) (net_can_put a m na) x name u next bit latch meets
  joined_can_put x name (Right u) next bit latch meets = put_up b (joined a b) Right (replace_right a b) (right_part a b) (net_can_put b n nb) x name u next bit latch meets

  -- what a latch takes over is determined
  pub joined_determined : (name : List ℕ) (u next : Either ℕ ℕ) → IsLatch (joined a b) name u next → IsDetermined (joined a b) next
  joined_determined name (Left u) next latch =
      let own = latch_from a (joined a b) Left (replace_left a b) (left_part a b) name u next latch in
      subst (IsDetermined (joined a b)) own.2 (determined_up a (joined a b) Left (replace_left a b) (left_part a b) (net_determined a m na own.0 (next_within a m na name u own.0 own.1)))
  joined_determined name (Right u) next latch =
      let own = latch_from b (joined a b) Right (replace_right a b) (right_part a b) name u next latch in
      subst (IsDetermined (joined a b)) own.2 (determined_up b (joined a b) Right (replace_right a b) (right_part a b) (net_determined b n nb own.0 (next_within b n nb name u own.0 own.1)))

-- a number of both is one of A's or of B's
pub joined_number : (a b : Circuit ℕ) (left right : List ℕ) → length left ≡ length a.inputs → (r : Either ℕ ℕ) (i : ℕ) → IsInputNumber (joined a b) (left ++ right) r i →
    ((p : ℕ) × (Left p ≡ r) × IsInputNumber a left p i) ⊎ ((q : ℕ) × (Right q ≡ r) × IsInputNumber b right q i)
joined_number a b left right same r i h = first a.inputs left same h
  where
    From : List (Named ℕ) → List ℕ → Type 0
    From inputs order = ((p : ℕ) × (Left p ≡ r) × StandsBeside inputs order p i) ⊎ ((q : ℕ) × (Right q ≡ r) × StandsBeside b.inputs right q i)

    second : (inputs : List (Named ℕ)) (order : List ℕ) → StandsBeside (map (moved_name Right) inputs) order r i → (q : ℕ) × (Right q ≡ r) × StandsBeside inputs order q i
    second [] order k = absurd k
    second (m ∷ inputs) [] k = absurd k
    second (m ∷ inputs) (j ∷ order) (inl k) = (m.place, k.0, inl (refl, k.1))
    second (m ∷ inputs) (j ∷ order) (inr k) = let x = second inputs order k in (x.0, x.1, inr x.2)

    first : (inputs : List (Named ℕ)) (order : List ℕ) → length order ≡ length inputs → StandsBeside (map (moved_name Left) inputs ++ map (moved_name Right) b.inputs) (order ++ right) r i → From inputs order
    first [] [] e k = inr (second b.inputs right k)
    first [] (j ∷ order) e k = absurd (omega (arith, e))
    first (m ∷ inputs) [] e k = absurd (omega (arith, e))
    first (m ∷ inputs) (j ∷ order) e (inl k) = inl (m.place, k.0, inl (refl, k.1))
    first (m ∷ inputs) (j ∷ order) e (inr k) = go (first inputs order (omega (arith, e)) k)
      where
        go : From inputs order → From (m ∷ inputs) (j ∷ order)
        go (inl x) = inl (x.0, x.1, inr x.2)
        go (inr y) = inr y

-- a place of two nets side by side has one number
pub joined_number_once : (a b : Circuit ℕ) (m n : ℕ) → IsNet a m → IsNet b n → (left right : List ℕ) → length left ≡ length a.inputs → (r : Either ℕ ℕ) (i j : ℕ) →
    IsInputNumber (joined a b) (left ++ right) r i → IsInputNumber (joined a b) (left ++ right) r j → i ≡ j
joined_number_once a b m n na nb left right left_long r i j h k = go (joined_number a b left right left_long r i h) (joined_number a b left right left_long r j k)
  where
    Of : ℕ → Type 0
    Of e = ((p : ℕ) × (Left p ≡ r) × IsInputNumber a left p e) ⊎ ((q : ℕ) × (Right q ≡ r) × IsInputNumber b right q e)

    go : Of i → Of j → i ≡ j
    go (inl x) (inl y) = one_number a.inputs left na.inputs y.0 i j (subst (λ p. IsInputNumber a left p i) (left_one x.0 y.0 (x.1 ∙ sym y.1)) x.2) y.2
    go (inl x) (inr y) = absurd (left_is_not_right x.0 y.0 (x.1 ∙ sym y.1))
    go (inr x) (inl y) = absurd (left_is_not_right y.0 x.0 (y.1 ∙ sym x.1))
    go (inr x) (inr y) = one_number b.inputs right nb.inputs y.0 i j (subst (λ q. IsInputNumber b right q i) (right_one x.0 y.0 (x.1 ∙ sym y.1)) x.2) y.2
