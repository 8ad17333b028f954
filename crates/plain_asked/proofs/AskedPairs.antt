-- What is asked of a pair by the place of its functions.
use Rattle.std.proofs.Common.{◌≡◌, ◌∙◌, ℕ, List, Option, Some, None, get_or, slice_get, refl, sym, subst, inl, inr}
use Rattle.std.specs.Prelude.{IfSome}
use Rattle.std.proofs.lemmas.Option.{same_Some, slice_get_within}
use Rattle.sec_setup.specs.declared.ports.pairs.SignalPair.{SignalPair}
use Rattle.sec_setup.specs.declared.setup.Setup.{Setup}
use Rattle.cbf_unfold.specs.declared.unfold_places.signal_function.Unfolded.{Unfolded}
use Rattle.pair_decide.specs.declared.query.Query.{Query}
use Rattle.outcome_fits.specs.Obligation.{Obligation}
use Rattle.plain_asked.specs.declared.functions.Functions.{Functions}
use Rattle.plain_asked.specs.Apart.{IsPairAt}
use Rattle.plain_asked.specs.Asked.{AreAskedAt, AskedApart, AsksWith, IsOnlyQuery, StandAt}
use Rattle.cbf_unfold.proofs.shift_variables.Reading.{item_at}
use Rattle.plain_asked.proofs.PairQueries.{in_order}

module _ (s : Setup) (f : Functions) (p : SignalPair) where
  abbrev IsAt : Option ℕ → Type 0
  IsAt place = IsPairAt s.left.now s.right.now s.orders.left s.orders.right f p place

  -- the functions at the place have their variables in order
  pub stand_at : (place : Option ℕ) → IsAt place → IfSome place (StandAt f)
  stand_at None h = tt
  stand_at (Some k) h = record {
    left = h.left_function;
    right = h.right_function;
    left_at = h.left_at;
    right_at = h.right_at;
    left_ordered = in_order s.left.now s.orders.left f.aig f.places p.left.0 h.left_function h.left_is;
    right_ordered = in_order s.right.now s.orders.right f.aig f.places p.right.0 h.right_function h.right_is;
  }

  -- their query is that of the pair, and where there are none nothing is asked
  pub asked_apart : (place : Option ℕ) (queries : List Query) (o : Obligation) → IsAt place → AreAskedAt f place queries → AsksWith s p queries o → AskedApart s f p o
  asked_apart None queries o h asked w = inr (record { one = h; asks = subst (λ (qs : List Query). AsksWith s p qs o) asked w })
  asked_apart (Some k) queries o h asked w =
      inl (record {
        name_is = w.name_is;
        size_is = w.size_is;
        decisive_is = w.decisive_is;
        left_function = h.left_function;
        right_function = h.right_function;
        left_is = h.left_is;
        right_is = h.right_is;
        queries_are = subst (IsOnlyQuery f.places h.left_function h.right_function) (sym w.queries_are) (asked h.left_function h.right_function h.left_at h.right_at);
      })

module _ (f : Functions) where
  -- what stands at a place that is one
  pub standing : (place : Option ℕ) (k : ℕ) → place ≡ Some k → IfSome place (StandAt f) → StandAt f k
  standing place k is h = subst (λ (p : Option ℕ). IfSome p (StandAt f)) is h

  module _ (k : ℕ) (w : StandAt f k) where
    -- the functions that are read there
    pub read_left : (l : Unfolded) → l ≡ get_or f.left.items k l → w.left ≡ l
    read_left l is = same_Some w.left l (sym w.left_at ∙ item_at f.left.items f.left.items k l refl (slice_get_within f.left.items k w.left w.left_at) is)

    pub read_right : (r : Unfolded) → r ≡ get_or f.right.items k r → w.right ≡ r
    read_right r is = same_Some w.right r (sym w.right_at ∙ item_at f.right.items f.right.items k r refl (slice_get_within f.right.items k w.right w.right_at) is)

    -- their query is what is asked there
    pub asked_here : (l r : Unfolded) (queries : List Query) → w.left ≡ l → w.right ≡ r → IsOnlyQuery f.places l r queries → AreAskedAt f (Some k) queries
    asked_here l r queries left right is = λ x y at_x at_y.
        subst (λ (u : Unfolded). IsOnlyQuery f.places u y queries) (sym left ∙ same_Some w.left x (sym w.left_at ∙ at_x))
        (subst (λ (u : Unfolded). IsOnlyQuery f.places l u queries) (sym right ∙ same_Some w.right y (sym w.right_at ∙ at_y)) is)
