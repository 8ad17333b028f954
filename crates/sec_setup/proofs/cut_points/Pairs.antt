-- The latches that two circuits have under one name, one after the other.
use Rattle.std.proofs.Common.{◌≡◌, ◌≢◌, ◌+◌, ◌<◌, ◌∙◌, ℕ, Bool, true, false, cond, List, [], ◌∷◌, ◌++◌, length, map, take, get_or, slice_get, Option, Some, None, refl, sym, ap, subst, arith}
use Rattle.std.specs.Prelude.{IsSomeAnd}
use Rattle.std.specs.List.{All, Contains, filter}
use Rattle.std.proofs.Math.Seq.{take-length}
use Rattle.std.proofs.lemmas.List.{append-nil, map-append, take_more}
use Rattle.std.proofs.lemmas.List.Elements.{filter-append, All-push, All-get_or, All-nil}
use Rattle.std.proofs.lemmas.List.Quantifiers.{all_pairs_push}
use Rattle.std.proofs.lemmas.Option.{slice_get_within, slice_get-get_or, get_or_from_slice_get}
use Rattle.circuit_theory.specs.Circuit.{Equation}
use Rattle.circuit_theory.specs.Cover.{Cover}
use Rattle.circuit_theory.specs.Names.{is_among}
use Rattle.circuit_theory.specs.Flattened.{latch_names}
use Rattle.circuit_theory.proofs.Lists.{Contains-map, Contains-map_from, All-from_each, at_of, of_at}
use Rattle.circuit_theory.proofs.Numbers.{is_among-sound, is_among-complete}
use Rattle.latch_graph.specs.flat_net.Gate.{Gate}
use Rattle.latch_graph.specs.flat_net.LatchAt.{LatchAt}
use Rattle.latch_graph.specs.flat_net.View.{NetView, circuit_of, equation_of_gate, equation_of_latch}
use Rattle.latch_graph.specs.flat_net.Cut.{no_latch, latch_at, exposed_names}
use Rattle.latch_graph.proofs.flat_net.Places.{All-at}
use Rattle.sec_setup.specs.declared.cut_points.expose_pick.pairs.LatchPair.{LatchPair}
use Rattle.sec_setup.specs.cut_points.expose_pick.Pairs.{lefts}
use Rattle.sec_setup.specs.cut_points.Common.{HaveOneName, AreCommonUpTo, AreCommon}

-- the names of a net's latches
abbrev name_of : LatchAt → List ℕ
name_of l = l.name

gates_unnamed : (covers : List Cover) (gates : List Gate) (es : List (Equation ℕ)) → latch_names (map (equation_of_gate covers) gates ++ es) ≡ latch_names es
gates_unnamed covers [] es = refl
gates_unnamed covers (g ∷ gs) es = gates_unnamed covers gs es

latches_named : (latches : List LatchAt) → latch_names (map equation_of_latch latches) ≡ map name_of latches
latches_named [] = refl
latches_named (l ∷ ls) = ap (λ (names : List (List ℕ)). l.name ∷ names) (latches_named ls)

pub net_names : (n : NetView) → latch_names (circuit_of n).equations ≡ map (λ (l : LatchAt). l.name) n.latches
net_names n = gates_unnamed n.covers n.gates (map equation_of_latch n.latches) ∙ latches_named n.latches

-- a name stands among those of the latches, or doesn't
among : (n : NetView) (j : ℕ) (m : LatchAt) (name : List ℕ) → slice_get n.latches j ≡ Some m → m.name ≡ name → is_among (latch_names (circuit_of n).equations) name ≡ true
among n j m name at same =
    is_among-complete (latch_names (circuit_of n).equations) name
    (subst (λ (names : List (List ℕ)). Contains names name) (sym (net_names n))
    (subst (λ (x : List ℕ). Contains (map name_of n.latches) x) same (Contains-map name_of n.latches m (of_at n.latches j m at))))

not_among : (n : NetView) (name : List ℕ) → All (λ (m : LatchAt). m.name ≢ name) n.latches → is_among (latch_names (circuit_of n).equations) name ≡ false
not_among n name none = go (is_among (latch_names (circuit_of n).equations) name) refl
  where
    no : Contains (latch_names (circuit_of n).equations) name → ⊥
    no there =
        let m = Contains-map_from name_of n.latches name (subst (λ (names : List (List ℕ)). Contains names name) (net_names n) there) in
        let at = at_of n.latches m.0 m.1 in
        All-at (λ (m : LatchAt). m.name ≢ name) n.latches at.0 m.0 at.1 none m.2

    go : (b : Bool) → is_among (latch_names (circuit_of n).equations) name ≡ b → is_among (latch_names (circuit_of n).equations) name ≡ false
    go true e = absurd (no (is_among-sound (latch_names (circuit_of n).equations) name e))
    go false e = e

-- one latch more
module _ (a b : NetView) (i : ℕ) (inside : i < length a.latches) (pairs : List LatchPair) (so_far : AreCommonUpTo a b i pairs) where
  abbrev shared : List ℕ → Bool
  shared name = is_among (latch_names (circuit_of b).equations) name

  abbrev own : List ℕ
  own = (latch_at a i).name

  one_more : map name_of (take (i + 1) a.latches) ≡ map name_of (take i a.latches) ++ own ∷ []
  one_more = ap (map name_of) (take_more a.latches i no_latch inside) ∙ map-append name_of (take i a.latches) (latch_at a i ∷ [])

  filtered : filter shared (map name_of (take (i + 1) a.latches)) ≡ filter shared (map name_of (take i a.latches)) ++ cond (shared own) (own ∷ []) []
  filtered = ap (filter shared) one_more ∙ filter-append shared (map name_of (take i a.latches)) (own ∷ [])

  later : (pairs' : List LatchPair) → All (λ (p : LatchPair). p.left < i) pairs' → All (λ (p : LatchPair). p.left < i + 1) pairs'
  later pairs' below = All-from_each (λ (p : LatchPair). p.left < i + 1) pairs' (λ p there.
      let at = at_of pairs' p there in
      let less : p.left < i = All-at (λ (q : LatchPair). q.left < i) pairs' at.0 p at.1 below in
      omega arith)

  pub common_same : All (λ (m : LatchAt). m.name ≢ own) b.latches → AreCommonUpTo a b (i + 1) pairs
  common_same none = record {
    each = so_far.each;
    below = later pairs so_far.below;
    in_order = so_far.in_order;
    names =
        so_far.names ∙ sym (filtered ∙ ap (λ t. filter shared (map name_of (take i a.latches)) ++ cond t (own ∷ []) []) (not_among b own none) ∙ append-nil (filter shared (map name_of (take i a.latches))));
  }

  pub common_more : (right : ℕ) (m : LatchAt) → slice_get b.latches right ≡ Some m → m.name ≡ own → AreCommonUpTo a b (i + 1) (pairs ++ (record { left = i; right = right }) ∷ [])
  common_more right m at same =
      let p : LatchPair = record { left = i; right = right } in
      record {
        each = All-push (HaveOneName a.latches b.latches) pairs p so_far.each (record {
          left = inside;
          right = slice_get_within b.latches right m at;
          name = sym (ap name_of (get_or_from_slice_get b.latches right m no_latch at) ∙ same);
        });
        below = All-push (λ (q : LatchPair). q.left < i + 1) pairs p (later pairs so_far.below) (omega arith);
        in_order = all_pairs_push (λ (q r : LatchPair). q.left < r.left) pairs p so_far.in_order (λ k d within. All-get_or (λ (q : LatchPair). q.left < i) pairs k d within so_far.below);
        names =
            ap (exposed_names a) (map-append (λ (q : LatchPair). q.left) pairs (p ∷ []))
            ∙ map-append (λ (j : ℕ). (latch_at a j).name) (lefts pairs) (i ∷ [])
            ∙ ap (λ (names : List (List ℕ)). names ++ own ∷ []) so_far.names
            ∙ sym (filtered ∙ ap (λ t. filter shared (map name_of (take i a.latches)) ++ cond t (own ∷ []) []) (among b right m own at same));
      }

-- after the last latch
pub common_all : (a b : NetView) (pairs : List LatchPair) → AreCommonUpTo a b (length a.latches) pairs → AreCommon a b pairs
common_all a b pairs all = record {
  each = all.each;
  in_order = all.in_order;
  names =
      all.names
      ∙ ap (λ (ls : List LatchAt). filter (is_among (latch_names (circuit_of b).equations)) (map name_of ls)) (take-length a.latches)
      ∙ ap (filter (is_among (latch_names (circuit_of b).equations))) (sym (net_names a));
}

-- the latch that was read at the place
pub own_name : (a : NetView) (latches : List LatchAt) (i : ℕ) (l : LatchAt) → latches ≡ a.latches → i < length a.latches → l ≡ get_or latches i l → l.name ≡ (latch_at a i).name
own_name a latches i l same inside read =
    let here : slice_get a.latches i ≡ Some l =
    slice_get-get_or a.latches i l inside ∙ ap Some (ap (λ (ls : List LatchAt). get_or ls i l) (sym same) ∙ sym read) in
    sym (ap name_of (get_or_from_slice_get a.latches i l no_latch here))

-- the latch that has the name
pub some_named : (found : Option LatchAt) (name : List ℕ) → IsSomeAnd found (λ (l : LatchAt). l.name ≡ name) → (m : LatchAt) × (found ≡ Some m) × (m.name ≡ name)
some_named None name h = absurd h
some_named (Some m) name h = (m, refl, h)
