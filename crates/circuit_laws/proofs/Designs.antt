-- What holds of the nets that two designs are flattened to holds of the designs.
use Rattle.std.proofs.Common.{◌≡◌, ℕ, Bool, List, [], ◌∷◌, map, refl, sym, ◌∙◌, ap, subst, arith, inl, inr, Some, slice_get}
use Rattle.std.specs.List.{All, Contains}
use Rattle.std.proofs.lemmas.List.Elements.{All-contains}
use Rattle.circuit_theory.specs.declared.Mode.TheVariants.{Plain}
use Rattle.circuit_theory.specs.Circuit.{Circuit, Port, Named, Holds}
use Rattle.circuit_theory.specs.Tree.{StandsBeside, IsInputNumber}
use Rattle.circuit_theory.specs.Agree.{Agree, AreAlike, IsPair}
use Rattle.circuit_theory.specs.Fits.{MakesDiffer}
use Rattle.circuit_theory.specs.Flattened.{Follows, IsFlattened}
use Rattle.circuit_theory.proofs.Lists.{at_of, of_at, Contains-map, map_at}
use Rattle.circuit_theory.proofs.Numbers.{slice_get-map}

some_is : {X : Type 0} {x y : X} → Some x ≡ Some y → x ≡ y
some_is q = cc

module _ {P : Type 0} (d : Circuit P) (net : Circuit ℕ) (size : ℕ) (clocked is_place : P → Type 0) (origin : ℕ → P) (flat : IsFlattened d net size clocked is_place origin) where
  -- places along ports have one value
  pub follows_same : (v : P → Bool) → All (Holds v) d.equations → {p q : P} → Follows d p q → v p ≡ v q
  follows_same v meets Follows.here = refl
  follows_same v meets (Follows.there {p = p} {from = from} h rest) = All-contains (Holds v) d.equations (Port p from) meets h ∙ follows_same v meets rest

  moved : Named ℕ → Named P
  moved i = record { name = i.name; place = origin i.place }

  -- an input of the net is one of the design, at the place where it is driven
  pub input_up : (name : List ℕ) (s : ℕ) → Contains net.inputs (record { name = name; place = s }) → Contains d.inputs (record { name = name; place = origin s })
  unfolding moved
  input_up name s h = subst (λ (xs : List (Named P)). Contains xs (record { name = name; place = origin s })) flat.inputs (Contains-map moved net.inputs (record { name = name; place = s }) h)

  beside_up : (inputs : List (Named ℕ)) (order : List ℕ) (s i : ℕ) → StandsBeside inputs order s i → StandsBeside (map moved inputs) order (origin s) i
  unfolding moved
  beside_up [] order s i h = absurd h
  beside_up (n ∷ inputs) [] s i h = absurd h
  beside_up (n ∷ inputs) (j ∷ order) s i (inl h) = inl (ap origin h.0, h.1)
  beside_up (n ∷ inputs) (j ∷ order) s i (inr h) = inr (beside_up inputs order s i h)

  -- with the same number
  pub number_up : (order : List ℕ) (s i : ℕ) → IsInputNumber net order s i → IsInputNumber d order (origin s) i
  unfolding moved
  number_up order s i h = subst (λ (xs : List (Named P)). StandsBeside xs order (origin s) i) flat.inputs (beside_up net.inputs order s i h)

  -- the net's output beside an output of the design
  pub record OutputOf (o : Named P) : Type 0 where
    pub place : ℕ
    pub design_at : slice_get d.outputs place ≡ Some o
    pub signal : Named ℕ
    pub net_at : slice_get net.outputs place ≡ Some signal
    pub same_name : signal.name ≡ o.name
    pub follows : Follows d o.place (origin signal.place)

  pub output_of : (o : Named P) → Contains d.outputs o → OutputOf o
  output_of o h =
      let at = at_of d.outputs o h in
      let name : slice_get (map (λ (n : Named ℕ). n.name) net.outputs) at.0 ≡ Some o.name = ap (λ (ns : List (List ℕ)). slice_get ns at.0) flat.outputs ∙ slice_get-map (λ (n : Named P). n.name) d.outputs at.0 o at.1 in
      let there = map_at (λ (n : Named ℕ). n.name) net.outputs at.0 o.name name in
      record { place = at.0; design_at = at.1; signal = there.0; net_at = there.1; same_name = there.2; follows = flat.output_is at.0 o there.0 at.1 there.1 }

module _ {P Q : Type 0} (a : Circuit P) (b : Circuit Q) (na nb : Circuit ℕ) (m n : ℕ) (clocked_a is_place_a : P → Type 0) (clocked_b is_place_b : Q → Type 0) (oa : ℕ → P) (ob : ℕ → Q)
    (fa : IsFlattened a na m clocked_a is_place_a oa) (fb : IsFlattened b nb n clocked_b is_place_b ob) where
  -- the designs agree where their nets do
  pub designs_agree : Agree Plain na nb → Agree Plain a b
  designs_agree agree length_ left right alike t p q in_run (IsPair.nexts h l r) lm rm = absurd (omega (arith, h.1))
  designs_agree agree length_ left right alike t p q in_run (IsPair.outputs {name = name} l r) lm rm =
      let x = output_of a na m clocked_a is_place_a oa fa (record { name = name; place = p }) l in
      let y = output_of b nb n clocked_b is_place_b ob fb (record { name = name; place = q }) r in
      let same = agree length_ (λ u s. left u (oa s)) (λ u s. right u (ob s)) nets_alike t x.signal.place y.signal.place in_run (pair x y)
      (fa.settled length_ left alike.left_run t x.place (record { name = name; place = p }) x.signal in_run x.design_at x.net_at lm)
      (fb.settled length_ right alike.right_run t y.place (record { name = name; place = q }) y.signal in_run y.design_at y.net_at rm) in
      follows_same a na m clocked_a is_place_a oa fa (left t) (alike.left_run.meets t in_run) x.follows
      ∙ (same ∙ sym (follows_same b nb n clocked_b is_place_b ob fb (right t) (alike.right_run.meets t in_run) y.follows))
    where
      nets_alike : AreAlike na nb length_ (λ u s. left u (oa s)) (λ u s. right u (ob s))
      nets_alike = record {
        left_run = fa.down length_ left alike.left_run;
        right_run = fb.down length_ right alike.right_run;
        equal_inputs = λ w s v h k u le. alike.equal_inputs w (oa s) (ob v) (input_up a na m clocked_a is_place_a oa fa w s h) (input_up b nb n clocked_b is_place_b ob fb w v k) u le;
      }

      pair : (x : OutputOf a na m clocked_a is_place_a oa fa (record { name = name; place = p })) (y : OutputOf b nb n clocked_b is_place_b ob fb (record { name = name; place = q })) →
          IsPair [] na nb x.signal.place y.signal.place
      pair x y = IsPair.outputs {name = name}
          (subst (λ (z : List ℕ). Contains na.outputs (record { name = z; place = x.signal.place })) x.same_name (of_at na.outputs x.place x.signal x.net_at))
          (subst (λ (z : List ℕ). Contains nb.outputs (record { name = z; place = y.signal.place })) y.same_name (of_at nb.outputs y.place y.signal y.net_at))

  -- and the rows that make outputs of the nets differ make the outputs of the designs differ
  pub designs_differ : (left right : List ℕ) (s v : ℕ) (p : P) (q : Q) (rows : List (List Bool)) (last : ℕ) (l r : Bool) → Follows a p (oa s) → Follows b q (ob v) →
      MakesDiffer na nb left right s v rows last l r → MakesDiffer a b left right p q rows last l r
  designs_differ left right s v p q rows last l r x y differ = record {
    cycles = differ.cycles;
    left_is = λ k run is_run h takes.
        follows_same a na m clocked_a is_place_a oa fa (run last) (is_run.meets last h) x
        ∙ differ.left_is k (λ u z. run u (oa z)) (fa.down k run is_run) h (λ u z i le number. takes u (oa z) i le (number_up a na m clocked_a is_place_a oa fa left z i number));
    right_is = λ k run is_run h takes.
        follows_same b nb n clocked_b is_place_b ob fb (run last) (is_run.meets last h) y
        ∙ differ.right_is k (λ u z. run u (ob z)) (fb.down k run is_run) h (λ u z i le number. takes u (ob z) i le (number_up b nb n clocked_b is_place_b ob fb right z i number));
    differ = differ.differ;
  }
