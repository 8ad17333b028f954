-- What is found under an assumption can be told by names.
use Rattle.std.proofs.Common.{◌≡◌, ◌<◌, ℕ, zero, suc, Bool, List, [], ◌∷◌, length, sym, subst, arith, inl, inr}
use Rattle.std.specs.List.{All, AllPairs, Contains}
use Rattle.std.proofs.lemmas.Bool.{cases_lt}
use Rattle.std.proofs.lemmas.List.Elements.{All-contains, All-weaker}
use Rattle.std.proofs.lemmas.List.Kept.{AllPairs-cons}
use Rattle.circuit_theory.specs.Joined.{Left, Right}
use Rattle.circuit_theory.specs.Query.{Variable, HasLeaf}
use Rattle.circuit_theory.specs.Tree.{Tree, IsInputNumber}
use Rattle.circuit_theory.proofs.Lists.{All-from_each, Contains-cases, Contains-head, Contains-map, Contains-tail, of_at}
use Rattle.circuit_theory.specs.EventFrames.{AreNodeVariables, IsPairTree}
use Rattle.circuit_theory.specs.Frame.{NodeBefore}
use Rattle.flat_net.specs.Sound.{IsSound}
use Rattle.flat_net.specs.View.{circuit_of}
use Rattle.sec_setup.specs.declared.ports.pairs.SignalPair.{SignalPair}
use Rattle.sec_setup.specs.ports.Pairs.{ArePairsOf}
use Rattle.obligations.specs.declared.outcome.verdict.PairResult.{PairResult}
use Rattle.sec_setup.specs.Setup.{AreColumns}
use Rattle.edbf_unfold.specs.class_queries.Enables.{both_of}
use Rattle.event_nodes.specs.View.{EventCircuitView}
use Rattle.event_setup.proofs.read_inputs.Leaves.{pair_below}
use Rattle.assume_laws.specs.Assume.{Assumption}
use Rattle.assume_laws.specs.Sequences.{IsPairTreeUnder}
use Rattle.assume_laws.proofs.Meeting.{leaf_input}
use Rattle.event_setup.specs.event_meaning.event_meaning_under.Findings.{IsFirstUnshownUnder, VerdictFitsUnder}
use Rattle.event_check.specs.event_answers.EventPairs.{EventPairs}
use Rattle.event_setup.specs.event_meaning.EventVerdict.{EventVerdict}
use Rattle.event_setup.specs.event_meaning.EventVerdict.TheVariants as found
use Rattle.event_setup.specs.event_meaning.event_names.event_fits.Separations.{Separates}
use Rattle.event_setup.specs.event_meaning.event_meaning_under.UnshownPair.{UnshownPair}
use Rattle.event_setup.specs.event_meaning.event_names.event_fits.Named.{latch_names}
use Rattle.event_setup.specs.event_meaning.event_names.Nameable.{CanBeNamed, IsSeparationIn, IsUnshownIn}
use Rattle.event_setup.specs.declared.event_meaning.event_names.names.Names.{Names}
use Rattle.event_setup.proofs.event_meaning.event_names.Naming.{each_named, output_shown, separation_named}

-- the elements of a list that have a property, in order
record ArePart {X : Type 0} (Q : X → Type 0) (R : X → X → Type 0) (xs ys : List X) : Type 0 where
  there : (x : X) → Contains ys x → Contains xs x × Q x
  back : (x : X) → Contains xs x → Q x → Contains ys x
  in_order : AllPairs R ys

module _ {X : Type 0} (Q : X → Type 0) (R : X → X → Type 0) where
  with_first : (x : X) (xs ys : List X) → All (R x) xs → Q x → ArePart Q R xs ys → ArePart Q R (x ∷ xs) (x ∷ ys)
  with_first x xs ys below has p = record {
    there = λ z m. elim (Contains-cases x z ys m) [ inl e ↦ (subst (Contains (x ∷ xs)) e (Contains-head x xs), subst Q e has) | inr k ↦ (Contains-tail x z xs (p.there z k).0, (p.there z k).1) ];
    back = λ z m q. elim (Contains-cases x z xs m) [ inl e ↦ subst (Contains (x ∷ ys)) e (Contains-head x ys) | inr k ↦ Contains-tail x z ys (p.back z k q) ];
    in_order = AllPairs-cons R x ys (All-from_each (R x) ys (λ z m. All-contains (R x) xs z below (p.there z m).0)) p.in_order;
  }

  without_first : (x : X) (xs ys : List X) → (Q x → ⊥) → ArePart Q R xs ys → ArePart Q R (x ∷ xs) ys
  without_first x xs ys lacks p = record {
    there = λ z m. (Contains-tail x z xs (p.there z m).0, (p.there z m).1);
    back = λ z m q. elim (Contains-cases x z xs m) [ inl e ↦ absurd (lacks (subst Q (sym e) q)) | inr k ↦ p.back z k q ];
    in_order = p.in_order;
  }

  -- it is false that there are none
  part : (xs : List X) → AllPairs R xs → ((ys : List X) → ArePart Q R xs ys → ⊥) → ⊥
  part [] ordered never = never [] (record { there = λ z m. absurd (omega (arith, m.1)); back = λ z m q. m; in_order = ordered })
  part (x ∷ xs) ordered never =
      let below : All (R x) xs = λ k d within. ordered zero (suc k) d (omega arith) (omega arith) in
      part xs (λ i j d lt within. ordered (suc i) (suc j) d (omega arith) (omega arith)) (λ ys p. let lacks : Q x → ⊥ = λ q. never (x ∷ ys) (with_first x xs ys below q p) in never ys (without_first x xs ys lacks p))

module _ (c : Assumption) (a b : EventCircuitView) (n : Names) (left_sound : IsSound a.net) (right_sound : IsSound b.net) (long : length a.order ≡ length (circuit_of a.net).inputs) (left_columns : AreColumns a.net n.columns a.order b.order)
    (right_columns : AreColumns b.net n.columns b.order a.order) (left : n.left ≡ latch_names a.net) (right : n.right ≡ latch_names b.net) (numbers : (p i : ℕ) → IsInputNumber c.circuit c.order p i → i < length n.columns) where
  -- the variables of a pair's query under the assumption are inputs that have names
  module _ (p : SignalPair) (pairs : List SignalPair) (are_pairs : ArePairsOf a.net b.net pairs) (here : Contains pairs p) (variables : List (Variable (List ℕ))) (are : AreNodeVariables (IsPairTreeUnder c (both_of a b) (Left p.left.0) (Right p.right.0)) variables) where
    abbrev IsOwn : Variable (List ℕ) → Type 0
    IsOwn x = (tree : Tree (List ℕ)) × IsPairTree (both_of a b) (Left p.left.0) (Right p.right.0) tree × HasLeaf x tree

    own_below : (x : Variable (List ℕ)) → IsOwn x → x.input < length n.columns
    own_below x own = elim (cases_lt x.input (length n.columns)) [
      | inl low ↦ low
      | inr high ↦ absurd (part IsOwn NodeBefore variables are.in_order (λ ys k. let low = at ys k in omega (arith, low, high)))
    ]
      where
        at : (ys : List (Variable (List ℕ))) → ArePart IsOwn NodeBefore variables ys → x.input < length n.columns
        at ys k =
            pair_below a b left_sound right_sound long n.columns left_columns right_columns p.left.0 p.right.0
            (output_shown a.net p.left.0 (subst (λ (ss : List ℕ). Contains ss p.left.0) are_pairs.left (Contains-map (λ (y : SignalPair). y.left.0) pairs p here)))
            (output_shown b.net p.right.0 ((are_pairs.right p.right.0).0 (Contains-map (λ (y : SignalPair). y.right.0) pairs p here)))
            ys (record { in_order = k.in_order; exactly = λ y. (λ m. (k.there y m).1, λ t. k.back y ((are.exactly y).1 (t.0, inl t.1, t.2)) t) }) x (k.back x ((are.exactly x).1 (own.0, inl own.1, own.2)) own)

    below : (x : Variable (List ℕ)) → Contains variables x → x.input < length n.columns
    below x m = let t = (are.exactly x).0 m in go t.0 t.1 t.2
      where
        go : (tree : Tree (List ℕ)) → IsPairTreeUnder c (both_of a b) (Left p.left.0) (Right p.right.0) tree → HasLeaf x tree → x.input < length n.columns
        go tree (inl own) h = own_below x (tree, own, h)
        go tree (inr (node, has, unfolds)) h = let k = leaf_input c.circuit c.order node x unfolds h in numbers k.0 x.input k.1

  unshown_named : (e : EventPairs) (results : List PairResult) (x : UnshownPair) → ArePairsOf a.net b.net e.pairs.now → IsFirstUnshownUnder c a b e results x → IsUnshownIn n x
  unshown_named e results x pairs k = record {
    frame = each_named n k.frame.variables x.frame.frame.items (below k.place e.pairs.now pairs (of_at e.pairs.now k.index k.place k.first.pair_at) k.frame.variables k.frame.shown.are_variables) k.frame.told.told;
    apart = All-weaker (Separates a b k.apart.classes.order) (IsSeparationIn n) (separation_named a b n left_sound right_sound long left_columns right_columns left right k.apart.classes.order) x.apart k.apart.separations.each;
  }

  -- the verdict can be told by names
  pub verdict_named_under : (meeting : ℕ → Bool) (e : EventPairs) (results : List PairResult) (v : EventVerdict) → ArePairsOf a.net b.net e.pairs.now → VerdictFitsUnder c a b meeting e results v → CanBeNamed n v
  verdict_named_under meeting e results found.Equal pairs h = tt
  verdict_named_under meeting e results (found.Different w) pairs h = tt
  verdict_named_under meeting e results (found.Limit name) pairs h = tt
  verdict_named_under meeting e results (found.Cut w) pairs h = tt
  verdict_named_under meeting e results (found.Events x) pairs h = unshown_named e results x pairs h.2
