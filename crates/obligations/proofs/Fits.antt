-- What the answer to an obligation of one query says of the pair that the query asks about, whatever the form.
use Rattle.std.proofs.Common.{◌≡◌, ◌≢◌, ◌∙◌, ℕ, ◌<◌, ◌≤◌, zero, suc, Bool, true, false, List, [], ◌∷◌, length, map, slice_get, Option, Some, None, refl, sym, ap, subst, arith, inl, inr}
use Rattle.std.specs.Prelude.{◌↔◌}
use Rattle.std.specs.List.{All, Contains}
use Rattle.std.proofs.lemmas.List.Elements.{All-contains, All-head}
use Rattle.std.proofs.lemmas.Option.{none-some, same_Some}
use Rattle.circuit_theory.specs.Asked.{AskedPair, AreEqual, AreDifferent}
use Rattle.circuit_theory.specs.Query.{Variable, AreLeaves}
use Rattle.circuit_theory.specs.Tree.{Tree, tree_value}
use Rattle.circuit_theory.proofs.Lists.{Contains-map, length-map, of_at}
use Rattle.aig.specs.Builds.{TakesBits, HasValueOf}
use Rattle.aig.specs.Table.{AreDistinct}
use Rattle.obligations.specs.aig.Node.{Node}
use Rattle.obligations.specs.aig.Values.{value}
use Rattle.obligations.specs.outcome.sec_base.PairAnswer.{PairAnswer}
use Rattle.obligations.specs.outcome.sec_base.PairAnswer.TheVariants as answer
use Rattle.obligations.specs.outcome.Proof.{Proof}
use Rattle.obligations.specs.outcome.Query.{Query}
use Rattle.obligations.specs.outcome.Decision.TheVariants as decision
use Rattle.obligations.specs.outcome.Answers.{IsDifference, IsAtLimit}
use Rattle.obligations.specs.outcome.Queries.{IsSame, assigned_to}
use Rattle.swept_queries.specs.InStead.{IsInStead, DecidesInStead}
use Rattle.obligations.specs.declared.obligation.Obligation.{Obligation}
use Rattle.obligations.specs.Decided.{AnswerIs}
use Rattle.obligations.specs.Found.{Differ, IsFirstOpen}
use Rattle.obligations.specs.Fits.{IsUndecided, AnswerFits, AreEqualBefore, AnswersFit}

-- The query asks about the pair: its literals have the values of the two functions and of the care, where the table tells which input at which
-- place a variable is. `name` tells it of the query's variables, and `spread` is the assignment of the places by the query's bits.
pub record AsksPair {L : Type 0} (x : AskedPair L) (g : List Node) (places : List (ℕ × L)) (name : ℕ → Variable L) (spread : List Bool → ℕ → L → Bool) (q : Query) : Type 0 where
  pub left_tree : Tree L
  pub right_tree : Tree L
  pub left_unfolds : x.left left_tree
  pub right_unfolds : x.right right_tree
  pub are_variables : AreLeaves x.before (x.wanted left_tree right_tree) (map name q.vars)
  pub distinct : AreDistinct places
  pub named : (v : ℕ) → Contains q.vars v → slice_get places v ≡ Some ((name v).input, (name v).at)
  pub one_literal : left_tree ≡ right_tree → q.left.0 ≡ q.right.0
  pub left_value : HasValueOf g places q.left.0 (λ bits. tree_value bits left_tree)
  pub right_value : HasValueOf g places q.right.0 (λ bits. tree_value bits right_tree)
  pub care_value : (bits : ℕ → L → Bool) (a : ℕ → Bool) → TakesBits places bits a → (value g a q.care.0 ≡ true) ↔ x.care left_tree right_tree bits
  pub takes : (bits : List Bool) → TakesBits places (spread bits) (assigned_to q.vars bits)

-- the bit of an entry of the table
bit_of : {L : Type 0} → (ℕ → L → Bool) → Option (ℕ × L) → Bool
bit_of bits None = false
bit_of bits (Some p) = bits p.0 p.1

-- one of one query is that query
pub only_query : (q : Query) (queries : List Query) (i : ℕ) (r : Query) → queries ≡ q ∷ [] → slice_get queries i ≡ Some r → r ≡ q
only_query q queries i r e at = go i (ap (λ (qs : List Query). slice_get qs i) (sym e) ∙ at)
  where
    go : (j : ℕ) → slice_get (q ∷ []) j ≡ Some r → r ≡ q
    go zero h = sym (same_Some q r h)
    go (suc j) h = absurd (none-some r h)

module _ {L : Type 0} {x : AskedPair L} {g : List Node} {places : List (ℕ × L)} {name : ℕ → Variable L} {spread : List Bool → ℕ → L → Bool} {q : Query} (k : AsksPair x g places name spread q) where
  pub equal : IsSame g q → AreEqual x
  unfolding bit_of
  equal same = record {
    left_tree = k.left_tree;
    right_tree = k.right_tree;
    left_unfolds = k.left_unfolds;
    right_unfolds = k.right_unfolds;
    same = λ bits care.
        let a : ℕ → Bool = λ v. bit_of bits (slice_get places v) in
        let takes : TakesBits places bits a = λ v p at. ap (bit_of bits) at in
        sym (k.left_value bits a takes) ∙ (same a ((k.care_value bits a takes).1 care) ∙ k.right_value bits a takes);
  }

  pub different : (bits : List Bool) → IsDifference g q bits → AreDifferent x
  different bits d = record {
    left_tree = k.left_tree;
    right_tree = k.right_tree;
    left_unfolds = k.left_unfolds;
    right_unfolds = k.right_unfolds;
    bits = spread bits;
    care = (k.care_value (spread bits) (assigned_to q.vars bits) (k.takes bits)).0 d.distinguishes.care;
    differ = λ e. d.distinguishes.differ (k.left_value (spread bits) (assigned_to q.vars bits) (k.takes bits) ∙ (e ∙ sym (k.right_value (spread bits) (assigned_to q.vars bits) (k.takes bits))));
  }

  pub undecided : (conflicts : ℕ) (proof : Proof) → DecidesInStead g q conflicts (decision.Limit proof) → IsUndecided x conflicts proof
  undecided conflicts proof d = go d.graph d.asked d.stands d.decides
    where
      go : (h : List Node) (r : Query) → IsInStead g q h r → IsAtLimit h r conflicts proof → IsUndecided x conflicts proof
      go h r stands limit = record {
        left_tree = k.left_tree;
        right_tree = k.right_tree;
        left_unfolds = k.left_unfolds;
        right_unfolds = k.right_unfolds;
        two_trees = λ e. limit.wide.apart (stands.trivial (inl (k.one_literal e)));
        variables = map name q.vars;
        are_variables = k.are_variables;
        many = (let long = length-map name q.vars in omega (arith, long, ap length stands.vars, limit.wide.many));
        graph = h;
        places = places;
        distinct = k.distinct;
        left_lit = r.left.0;
        right_lit = r.right.0;
        care_lit = r.care.0;
        is_graph = stands.graph;
        left_within = stands.query.left;
        right_within = stands.query.right;
        care_within = stands.query.care;
        own = λ n v reached at.
            let here : Contains q.vars v = subst (λ (vs : List ℕ). Contains vs v) stands.vars (stands.query.covers n v reached at) in
            (((name v).input, (name v).at), k.named v here, Contains-map name q.vars v here);
        left_value = λ bits y takes. stands.left y ∙ k.left_value bits y takes;
        right_value = λ bits y takes. stands.right y ∙ k.right_value bits y takes;
        care_value = λ bits y takes. (
          λ e. (k.care_value bits y takes).0 (sym (stands.care y) ∙ e),
          λ e. stands.care y ∙ (k.care_value bits y takes).1 e,
        );
        sides = λ e. limit.wide.apart (inl e);
        care = λ e. limit.wide.apart (inr e);
        clauses = limit.encoding;
        log = limit.fruitless;
      }

  -- so the answer to an obligation of that query fits the pair
  module _ (o : Obligation) (only : o.queries ≡ q ∷ []) (IsDecisive : Type 0) (decisive : o.decisive ≡ true → IsDecisive) (indecisive : o.decisive ≡ false → IsDecisive → ⊥) (conflicts : ℕ) where
    differ : Differ g o.queries → AreDifferent x
    differ d = different d.bits (subst (λ (r : Query). IsDifference g r d.bits) (only_query q o.queries d.place d.is.query only d.is.first.at) d.is.differs)

    pub answer_fits : (y : PairAnswer) (proof : Option Proof) → AnswerIs g conflicts o y proof → AnswerFits x IsDecisive conflicts y proof
    answer_fits answer.Equal None h = equal (All-head (IsSame g) q [] (subst (All (IsSame g)) only h))
    answer_fits answer.Equal (Some proof) h = absurd h
    answer_fits answer.Different None h = (decisive h.0, differ h.1)
    answer_fits answer.Different (Some proof) h = absurd h
    answer_fits answer.NotShown None h = (indecisive h.0, differ h.1)
    answer_fits answer.NotShown (Some proof) h = absurd h
    answer_fits answer.Limit None h = absurd h
    answer_fits answer.Limit (Some proof) h = undecided conflicts proof (subst (λ (r : Query). DecidesInStead g r conflicts (decision.Limit proof)) (only_query q o.queries h.place h.query only h.first.at) h.limit)

-- What is asked of a pair several times is answered by the first query that isn't the same. `asks` tells what each query asks about, and
-- there is one for each place up to the last.
module _ {L : Type 0} (asked : ℕ → AskedPair L) (g : List Node) (places : List (ℕ × L)) (name : ℕ → Variable L) (spread : Query → List Bool → ℕ → L → Bool) (o : Obligation) (last : ℕ)
    (asks : (t : ℕ) (q : Query) → slice_get o.queries t ≡ Some q → (t ≤ last) × AsksPair (asked t) g places name (spread q) q) (each : (t : ℕ) → t ≤ last → (q : Query) × (slice_get o.queries t ≡ Some q)) where
  -- both functions agree where the query is same
  agree_at : (t : ℕ) → t ≤ last → ((q : Query) → slice_get o.queries t ≡ Some q → IsSame g q) → AreEqual (asked t)
  agree_at t le same = let q = each t le in equal (asks t q.0 q.1).1 (same q.0 q.1)

  pub agree_before : (t : ℕ) (q : Query) → IsFirstOpen g o.queries t q → AreEqualBefore asked t
  agree_before t q first s below = agree_at s (let le = (asks t q first.at).0 in omega (arith, below, le)) (λ r at. first.earlier s r below at)

  pub answers_fit : o.decisive ≡ true → (conflicts : ℕ) (y : PairAnswer) (proof : Option Proof) → AnswerIs g conflicts o y proof → AnswersFit asked conflicts last y proof
  answers_fit decisive conflicts answer.Equal None h = λ t le. agree_at t le (λ q at. All-contains (IsSame g) o.queries q h (of_at o.queries t q at))
  answers_fit decisive conflicts answer.Equal (Some proof) h = h
  answers_fit decisive conflicts answer.Different None h =
      let d = h.1 in
      let first = d.is.first in
      let a = asks d.place d.is.query first.at in
      (d.place, a.0, agree_before d.place d.is.query first, different a.1 d.bits d.is.differs)
  answers_fit decisive conflicts answer.Different (Some proof) h = h
  answers_fit decisive conflicts answer.NotShown None h = absurd (let z : true ≡ false = sym decisive ∙ h.0 in cc)
  answers_fit decisive conflicts answer.NotShown (Some proof) h = h
  answers_fit decisive conflicts answer.Limit None h = h
  answers_fit decisive conflicts answer.Limit (Some proof) h =
      let a = asks h.place h.query h.first.at in
      (h.place, a.0, agree_before h.place h.query h.first, undecided a.1 conflicts proof h.limit)

-- what an answer that fits says, answer by answer
module _ {L : Type 0} (x : AskedPair L) (IsDecisive : Type 0) (conflicts : ℕ) where
  pub equal_fits : (y : PairAnswer) (proof : Option Proof) → AnswerFits x IsDecisive conflicts y proof → y ≡ answer.Equal → AreEqual x
  equal_fits answer.Equal None h e = h
  equal_fits answer.Equal (Some proof) h e = absurd h
  equal_fits answer.Different proof h e = absurd (cc)
  equal_fits answer.NotShown proof h e = absurd (cc)
  equal_fits answer.Limit proof h e = absurd (cc)

  pub different_fits : (y : PairAnswer) (proof : Option Proof) → AnswerFits x IsDecisive conflicts y proof → y ≡ answer.Different → IsDecisive × AreDifferent x
  different_fits answer.Equal proof h e = absurd (cc)
  different_fits answer.Different None h e = h
  different_fits answer.Different (Some proof) h e = absurd h
  different_fits answer.NotShown proof h e = absurd (cc)
  different_fits answer.Limit proof h e = absurd (cc)

  pub unshown_fits : (y : PairAnswer) (proof : Option Proof) → AnswerFits x IsDecisive conflicts y proof → y ≡ answer.NotShown → (IsDecisive → ⊥) × AreDifferent x
  unshown_fits answer.Equal proof h e = absurd (cc)
  unshown_fits answer.Different proof h e = absurd (cc)
  unshown_fits answer.NotShown None h e = h
  unshown_fits answer.NotShown (Some proof) h e = absurd h
  unshown_fits answer.Limit proof h e = absurd (cc)

  pub limit_fits : (y : PairAnswer) (proof : Option Proof) → AnswerFits x IsDecisive conflicts y proof → y ≡ answer.Limit → (kept : Proof) × (proof ≡ Some kept) × IsUndecided x conflicts kept
  limit_fits answer.Equal proof h e = absurd (cc)
  limit_fits answer.Different proof h e = absurd (cc)
  limit_fits answer.NotShown proof h e = absurd (cc)
  limit_fits answer.Limit None h e = absurd h
  limit_fits answer.Limit (Some proof) h e = (proof, refl, h)

-- and where the limit is met in one of several
pub answers_limit : {L : Type 0} {asked : ℕ → AskedPair L} {conflicts last : ℕ} (y : PairAnswer) (proof : Option Proof) → AnswersFit asked conflicts last y proof → y ≡ answer.Limit →
    (kept : Proof) × (proof ≡ Some kept) × ((t : ℕ) × (t ≤ last) × AreEqualBefore asked t × IsUndecided (asked t) conflicts kept)
answers_limit answer.Equal proof h e = absurd (cc)
answers_limit answer.Different proof h e = absurd (cc)
answers_limit answer.NotShown proof h e = absurd (cc)
answers_limit answer.Limit None h e = absurd h
answers_limit answer.Limit (Some proof) h e = (proof, refl, h)

-- where each side unfolds to one tree, equal and different exclude each other, and every answer but the limit tells which of both it is
module _ {L : Type 0} (x : AskedPair L) (left_one : (s t : Tree L) → x.left s → x.left t → s ≡ t) (right_one : (s t : Tree L) → x.right s → x.right t → s ≡ t) where
  not_both : AreEqual x → AreDifferent x → ⊥
  not_both e d =
      d.differ (go e.left_tree e.right_tree (left_one e.left_tree d.left_tree e.left_unfolds d.left_unfolds) (right_one e.right_tree d.right_tree e.right_unfolds d.right_unfolds) e.same)
    where
      go : (l r : Tree L) → l ≡ d.left_tree → r ≡ d.right_tree → ((bits : ℕ → L → Bool) → x.care l r bits → tree_value bits l ≡ tree_value bits r) → tree_value d.bits d.left_tree ≡ tree_value d.bits d.right_tree
      go l r p q same =
          subst (λ (t : Tree L). (bits : ℕ → L → Bool) → x.care t d.right_tree bits → tree_value bits t ≡ tree_value bits d.right_tree) p
          (subst (λ (u : Tree L). (bits : ℕ → L → Bool) → x.care l u bits → tree_value bits l ≡ tree_value bits u) q same) d.bits d.care

  pub exact : (IsDecisive : Type 0) (conflicts : ℕ) (y : PairAnswer) (proof : Option Proof) → AnswerFits x IsDecisive conflicts y proof → y ≢ answer.Limit →
      ((y ≡ answer.Equal) ↔ (AreDifferent x → ⊥)) × ((y ≡ answer.Different) ↔ (IsDecisive × AreDifferent x)) × ((y ≡ answer.NotShown) ↔ ((IsDecisive → ⊥) × AreDifferent x))
  exact IsDecisive conflicts answer.Equal None h not_limit = (
    ((λ e d. not_both h d), (λ none. refl)),
    ((λ e. absurd (cc)), (λ k. absurd (not_both h k.1))),
    ((λ e. absurd (cc)), (λ k. absurd (not_both h k.1))),
  )
  exact IsDecisive conflicts answer.Equal (Some proof) h not_limit = absurd h
  exact IsDecisive conflicts answer.Different None h not_limit = (
    ((λ e. absurd (cc)), (λ none. absurd (none h.1))),
    ((λ e. h), (λ k. refl)),
    ((λ e. absurd (cc)), (λ k. absurd (k.0 h.0))),
  )
  exact IsDecisive conflicts answer.Different (Some proof) h not_limit = absurd h
  exact IsDecisive conflicts answer.NotShown None h not_limit = (
    ((λ e. absurd (cc)), (λ none. absurd (none h.1))),
    ((λ e. absurd (cc)), (λ k. absurd (h.0 k.0))),
    ((λ e. h), (λ k. refl)),
  )
  exact IsDecisive conflicts answer.NotShown (Some proof) h not_limit = absurd h
  exact IsDecisive conflicts answer.Limit proof h not_limit = absurd (not_limit refl)
