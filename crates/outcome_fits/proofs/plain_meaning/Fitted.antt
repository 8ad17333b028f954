-- What stands behind the results of an outcome that fits.
use Rattle.std.specs.List.{Contains, filter_map}
use Rattle.std.proofs.Common.{◌≡◌, ◌≢◌, ℕ, Bool, true, false, List, [], ◌∷◌, refl, sym, ◌∙◌, subst, ap, arith, inl, inr, ◌⊎◌, Option, Some, None}
use Rattle.std.proofs.lemmas.List.Elements.{Contains-append_cases}
use Rattle.std.proofs.lemmas.Option.{none-some}
use Rattle.circuit_theory.specs.Agree.{place_named, latch_named, second_of_pair}
use Rattle.circuit_theory.specs.Circuit.{Circuit, Named}
use Rattle.circuit_theory.proofs.Lists.{Contains-head, Contains-tail, Contains-cases, filter_map-from}
use Rattle.sec_setup.specs.witness_report.PairName.TheVariants as pair
use Rattle.obligations.specs.pair_decide.Proof.{Proof}
use Rattle.obligations.specs.declared.outcome.verdict.PairResult.{PairResult}
use Rattle.sec_setup.specs.Cuts.{is_cut}
use Rattle.sec_setup.specs.ports.Pairs.{NamedPair, pair_called, named_pairs}

some_is : {X : Type 0} {x y : X} → Some x ≡ Some y → x ≡ y
some_is q = cc

-- latches are cut open where it isn't so that none is
pub some_cut : (cut : Bool) → (cut ≡ false → ⊥) → cut ≡ true
some_cut true none = refl
some_cut false none = absurd (none refl)

-- no latch is cut open where there is no name, and some latch where there is one
pub no_names : (names : List (List ℕ)) → is_cut names ≡ false → names ≡ []
no_names [] e = refl
no_names (name ∷ names) e = absurd (cc)

pub some_names : (names : List (List ℕ)) → is_cut names ≡ true → names ≢ []
some_names [] e = absurd (cc)
some_names (name ∷ names) e = λ same. cc

-- where some latch is cut open, latches were to be
pub were_exposed : (expose : Bool) (names : List (List ℕ)) → (expose ≡ false → names ≡ []) → names ≢ [] → expose ≡ true
were_exposed true names closed some = refl
were_exposed false names closed some = absurd (some (closed refl))

-- the proof that a result has is among the proofs
pub kept_proof : (results : List PairResult) (r : PairResult) (proof : Proof) → Contains results r → r.proof ≡ Some proof → Contains (filter_map (λ (s : PairResult). s.proof) results) proof
kept_proof [] r proof h e = absurd (none h)
  where
    none : Contains [] r → ⊥
    none k = omega (arith, k.1)
kept_proof (s ∷ results) r proof h e = go s.proof refl (Contains-cases s r results h) (λ k. kept_proof results r proof k e)
  where
    go : (o : Option Proof) → s.proof ≡ o → (s ≡ r) ⊎ Contains results r → (Contains results r → Contains (filter_map (λ (t : PairResult). t.proof) results) proof) →
        Contains (filter_map (λ (t : PairResult). t.proof) (s ∷ results)) proof
    go None q (inl same) later = absurd (no (sym q ∙ (ap (λ (t : PairResult). t.proof) same ∙ e)))
      where
        no : None ≡ Some proof → ⊥
        no z = cc
    go None q (inr k) later = rw q (later k)
    go (Some x) q (inl same) later = rw q (subst (λ z. Contains (x ∷ filter_map (λ (t : PairResult). t.proof) results) z) (one (sym q ∙ (ap (λ (t : PairResult). t.proof) same ∙ e))) (Contains-head x (filter_map (λ (t : PairResult). t.proof) results)))
      where
        one : Some x ≡ Some proof → x ≡ proof
        one z = cc
    go (Some x) q (inr k) later = rw q (Contains-tail x proof (filter_map (λ (t : PairResult). t.proof) results) (later k))

-- the places of a pair that is called something else than what a latch takes over
not_next : {P Q : Type 0} (shown name : List ℕ) (p : Option P) (q : Option Q) (n : NamedPair P Q) → pair_called (pair.Output shown) p q ≡ Some n → n.name ≡ pair.Next name → ⊥
not_next {P} {Q} shown name None q n e is = absurd (none-some n e)
not_next {P} {Q} shown name (Some p) None n e is = absurd (none-some n e)
not_next {P} {Q} shown name (Some p) (Some q) n e is = no (ap (λ (m : NamedPair P Q). m.name) (some_is e) ∙ is)
  where
    no : pair.Output shown ≡ pair.Next name → ⊥
    no z = cc

-- the name of a pair that is called what the latches of a name take over
is_next : {P Q : Type 0} (own name : List ℕ) (p : Option P) (q : Option Q) (n : NamedPair P Q) → pair_called (pair.Next own) p q ≡ Some n → n.name ≡ pair.Next name → own ≡ name
is_next {P} {Q} own name None q n e is = absurd (none-some n e)
is_next {P} {Q} own name (Some p) None n e is = absurd (none-some n e)
is_next {P} {Q} own name (Some p) (Some q) n e is = one (ap (λ (m : NamedPair P Q). m.name) (some_is e) ∙ is)
  where
    one : pair.Next own ≡ pair.Next name → own ≡ name
    one z = cc

-- what two latches of one name take over is a pair where the name is among the exposed ones
pub next_among : {P Q : Type 0} (exposed : List (List ℕ)) (a : Circuit P) (b : Circuit Q) (n : NamedPair P Q) → Contains (named_pairs exposed a b) n → (name : List ℕ) → n.name ≡ pair.Next name → Contains exposed name
next_among {P} {Q} exposed a b n h name is =
    by (Contains-append_cases (filter_map (λ (o : Named P). pair_called (pair.Output o.name) (Some o.place) (place_named b.outputs o.name)) a.outputs)
    (filter_map (λ (m : List ℕ). pair_called (pair.Next m) (second_of_pair (latch_named a.equations m)) (second_of_pair (latch_named b.equations m))) exposed) n h)
  where
    by : Contains (filter_map (λ (o : Named P). pair_called (pair.Output o.name) (Some o.place) (place_named b.outputs o.name)) a.outputs) n
        ⊎ Contains (filter_map (λ (m : List ℕ). pair_called (pair.Next m) (second_of_pair (latch_named a.equations m)) (second_of_pair (latch_named b.equations m))) exposed) n → Contains exposed name
    by (inl k) =
        let o = filter_map-from (λ (o : Named P). pair_called (pair.Output o.name) (Some o.place) (place_named b.outputs o.name)) a.outputs n k in
        absurd (not_next o.0.name name (Some o.0.place) (place_named b.outputs o.0.name) n o.2 is)
    by (inr k) =
        let m = filter_map-from (λ (m : List ℕ). pair_called (pair.Next m) (second_of_pair (latch_named a.equations m)) (second_of_pair (latch_named b.equations m))) exposed n k in
        subst (Contains exposed) (is_next m.0 name (second_of_pair (latch_named a.equations m.0)) (second_of_pair (latch_named b.equations m.0)) n m.2 is) m.1
