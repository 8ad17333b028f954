-- Queries in the stead of others, and what their answers say of those.
use Rattle.std.proofs.Common.{◌≡◌, ◌≢◌, ℕ, ◌+◌, ◌*◌, ◌<◌, ◌≤◌, ◌^◌, Bool, List, length, slice_get, Option, Some, refl, sym, ◌∙◌, ap, subst, inl, inr}
use Rattle.std.specs.Prelude.{◌⊎◌}
use Rattle.std.specs.List.{All, AllPairs, AllZip, Contains}
use Rattle.circuit_theory.proofs.Lists.{All-from_each, at_of}
use Rattle.circuit_theory.specs.Query.{bits_of}
use Rattle.swept_queries.specs.sweep.aig.Lit.{Lit}
use Rattle.swept_queries.specs.sweep.aig.Node.{Node}
use Rattle.swept_queries.specs.sweep.aig.Graph.{IsGraph, vars_of}
use Rattle.swept_queries.specs.sweep.pair_decide.Query.{Query}
use Rattle.swept_queries.specs.sweep.pair_decide.SameBy.{SameBy}
use Rattle.swept_queries.specs.sweep.pair_decide.SameBy.TheVariants as same
use Rattle.swept_queries.specs.sweep.pair_decide.Decision.TheVariants as decision
use Rattle.swept_queries.specs.sweep.pair_decide.Queries.{IsQuery, IsSame, IsLeast, Distinguishes, assigned_to, numbered}
use Rattle.swept_queries.specs.sweep.pair_decide.Answers.{Decides, IsDifference}
use Rattle.swept_queries.specs.declared.sweep.graph.Swept.{Swept}
use Rattle.swept_queries.specs.sweep.Swept.{IsSwept}
use Rattle.swept_queries.specs.declared.sides.Sides.{Sides}
use Rattle.swept_queries.specs.declared.sides.Known.{Known}
use Rattle.swept_queries.specs.declared.sides.Known.TheVariants as what
use Rattle.swept_queries.specs.declared.queries.SweptKnown.{SweptKnown}
use Rattle.swept_queries.specs.Roots.{roots_for, HasThree, IsMoved, AreMade}
use Rattle.swept_queries.specs.InStead.{sides_of, AreKnownWithin, IsKept, StandFor, Follows, IsMovedTo, IsTrueOf, AreTrueOf, ReadsOnly, IsInStead, DecidesInStead}
use Rattle.swept_queries.proofs.Listed.{roots_for-at, zip_left}

-- a query is in its own stead
pub itself : (g : List Node) (q : Query) → IsGraph g → IsQuery g q → IsInStead g q g q
itself g q graph is = record {
  graph = graph;
  query = is;
  vars = refl;
  trivial = λ t. t;
  left = λ a. refl;
  right = λ a. refl;
  care = λ a. refl;
}

-- literals that read the query's variables alone
pub with_sides : (g : List Node) (q : Query) (h : List Node) (u : Sides) (vars : List ℕ) → IsGraph h → IsQuery g q → StandFor g (sides_of q) h u → vars ≡ q.vars → ReadsOnly h u q.vars → IsInStead g q h (record { left = u.left; right = u.right; care = u.care; vars = vars })
with_sides g q h u vars graph is stand same reads = record {
  graph = graph;
  query = record {
    left = stand.values.within.left;
    right = stand.values.within.right;
    care = stand.values.within.care;
    distinct = subst (AllPairs (λ u v. u ≢ v)) (sym same) is.distinct;
    covers = λ n v reached at. subst (λ (vs : List ℕ). Contains vs v) (sym same) (reads n v reached at);
  };
  vars = same;
  trivial = λ trivial. absurd (stand.apart trivial);
  left = stand.values.left;
  right = stand.values.right;
  care = stand.values.care;
}

-- what is made in the place of what was known follows from it
pub moved_to : (g : List Node) (known : List Known) (roots : List Lit) (s : Swept) (m : SweptKnown) → m.aig ≡ s.aig → roots ≡ roots_for known → IsSwept g roots s → AreMade known s.lits m.known.items → IsMovedTo g known m
moved_to g known roots s m graph are swept is = record {
  vars = ap vars_of graph ∙ swept.vars;
  follow = λ i new here. let k = is i new here in (k.0, k.2, subst (λ (h : List Node). Follows g k.0 h new) (sym graph) (go i new k.0 k.1 k.2 k.3 k.4));
}
  where
    go : (i : ℕ) (new old : Known) (u : Sides) → slice_get known i ≡ Some old → HasThree s.lits i u → IsMoved old u new → Follows g old s.aig new
    go i new what.Nothing u at three moved = moved
    go i new (what.Swept t) u at three moved =
        let old : HasThree roots i t = subst (λ (rs : List Lit). HasThree rs i t) (sym are) (roots_for-at known i t at) in (
          u,
          moved,
          record {
            within = record {
              left = swept.within (3 * i) u.left three.left;
              right = swept.within (3 * i + 1) u.right three.right;
              care = swept.within (3 * i + 2) u.care three.care;
            };
            left = λ a. swept.values (3 * i) t.left u.left old.left three.left a;
            right = λ a. swept.values (3 * i + 1) t.right u.right old.right three.right a;
            care = λ a. swept.values (3 * i + 2) t.care u.care old.care three.care a;
          },
        )
    go i new (what.Apart k) u at three moved = moved

-- what follows from what was chosen is true of what was given
pub true_of : (g : List Node) (words : List ℕ) (given : List (Option Sides)) (asked : List Known) (m : SweptKnown) → AllZip (IsKept g words) given asked → IsMovedTo g asked m → AreTrueOf g given m.aig words m.known.items
true_of g words given asked m zip is i new here =
    let f = is.follow i new here in
    let z = zip_left (IsKept g words) given asked zip i f.0 f.1 in
    go f.0 z.0 z.1 z.2 f.2
  where
    Goal : Type 0
    Goal = (new ≡ what.Nothing) ⊎ ((t : Sides) × (slice_get given i ≡ Some (Some t)) × IsTrueOf g t m.aig words new)

    go : (old : Known) (o : Option Sides) → slice_get given i ≡ Some o → IsKept g words o old → Follows g old m.aig new → Goal
    go what.Nothing o there kept follows = inl follows
    go (what.Swept t) o there kept follows =
        inr (t, there ∙ ap Some kept.0, subst (IsTrueOf g t m.aig words) (sym follows.1) (record { apart = kept.1; values = follows.2 }))
    go (what.Apart k) o there kept follows = inr (kept.0, there ∙ ap Some kept.1, subst (IsTrueOf g kept.0 m.aig words) (sym follows) kept.2)

-- what was moved is of the graph
pub moved_within : (g : List Node) (known : List Known) (m : SweptKnown) → IsMovedTo g known m → All (AreKnownWithin m.aig) m.known.items
moved_within g known m is = All-from_each (AreKnownWithin m.aig) m.known.items (λ new h. let k = at_of m.known.items new h in let f = is.follow k.0 new k.1 in go new f.0 f.2)
  where
    go : (new old : Known) → Follows g old m.aig new → AreKnownWithin m.aig new
    go new what.Nothing follows = subst (AreKnownWithin m.aig) (sym follows) tt
    go new (what.Swept t) follows = subst (AreKnownWithin m.aig) (sym follows.1) follows.2.within
    go new (what.Apart k) follows = subst (AreKnownWithin m.aig) (sym follows) tt

follows_trans : (g h k : List Node) (old mid new : Known) → Follows g old h mid → Follows h mid k new → Follows g old k new
follows_trans g h k what.Nothing mid new e f = subst (λ (x : Known). Follows h x k new) e f
follows_trans g h k (what.Swept t) mid new e f =
    let u : Sides = e.0 in
    let then : Follows h (what.Swept u) k new = subst (λ (x : Known). Follows h x k new) e.1 f in
    let one = e.2 in
    let two = then.2 in (
      then.0,
      then.1,
      record {
        within = two.within;
        left = λ a. two.left a ∙ one.left a;
        right = λ a. two.right a ∙ one.right a;
        care = λ a. two.care a ∙ one.care a;
      },
    )
follows_trans g h k (what.Apart n) mid new e f = subst (λ (x : Known). Follows h x k new) e f

-- what is moved twice is moved
pub moved_twice : (g : List Node) (known : List Known) (m n : SweptKnown) → IsMovedTo g known m → IsMovedTo m.aig m.known.items n → IsMovedTo g known n
moved_twice g known m n one two = record {
  vars = two.vars ∙ one.vars;
  follow = λ i new here. let b = two.follow i new here in let a = one.follow i b.0 b.1 in (a.0, a.1, follows_trans g m.aig n.aig a.0 b.0 new a.2 b.2);
}

module _ {g : List Node} {q : Query} {h : List Node} {r : Query} (x : IsInStead g q h r) where
  same_from : IsSame h r → IsSame g q
  same_from s a care = sym (x.left a) ∙ (s a (x.care a ∙ care) ∙ x.right a)

  distinguishes_from : (a : ℕ → Bool) → Distinguishes h r a → Distinguishes g q a
  distinguishes_from a d = record { care = sym (x.care a) ∙ d.care; differ = λ e. d.differ (x.left a ∙ (e ∙ sym (x.right a))) }

  distinguishes_to : (a : ℕ → Bool) → Distinguishes g q a → Distinguishes h r a
  distinguishes_to a d = record { care = x.care a ∙ d.care; differ = λ e. d.differ (sym (x.left a) ∙ (e ∙ x.right a)) }

  numbered_same : (m : ℕ) → numbered r m ≡ numbered q m
  numbered_same m = ap (λ (vs : List ℕ). assigned_to vs (bits_of m (length vs))) x.vars

  least_from : (number : ℕ) → IsLeast h r number → IsLeast g q number
  least_from number l = record {
    in_range = subst (λ (vs : List ℕ). number < 2 ^ length vs) x.vars l.in_range;
    distinguishes = distinguishes_from (numbered q number) (subst (Distinguishes h r) (numbered_same number) l.distinguishes);
    least = λ m below d. l.least m below (subst (Distinguishes h r) (sym (numbered_same m)) (distinguishes_to (numbered q m) d));
  }

  difference_from : (bits : List Bool) → IsDifference h r bits → IsDifference g q bits
  difference_from bits d = record {
    apart = λ trivial. d.apart (x.trivial trivial);
    each = d.each ∙ ap length x.vars;
    distinguishes = distinguishes_from (assigned_to q.vars bits) (subst (λ (vs : List ℕ). Distinguishes h r (assigned_to vs bits)) x.vars d.distinguishes);
    least = λ few.
        let l = d.least (subst (λ (vs : List ℕ). length vs ≤ 16) (sym x.vars) few) in
        (l.0, l.1 ∙ ap (λ (vs : List ℕ). bits_of l.0 (length vs)) x.vars, least_from l.0 l.2);
  }

same_of : (h : List Node) (r : Query) (conflicts : ℕ) (by : SameBy) → Decides h r conflicts (decision.Same by) → IsSame h r
same_of h r conflicts same.Literal d = d.1
same_of h r conflicts same.Table d = d.1
same_of h r conflicts (same.Refuted proof) d = d.1

-- where the answer is that the sides are the same, those of the query are
pub is_same : {g : List Node} {q : Query} {conflicts : ℕ} {by : SameBy} → DecidesInStead g q conflicts (decision.Same by) → IsSame g q
is_same {conflicts} {by} d = same_from d.stands (same_of d.graph d.asked conflicts by d.decides)

-- a difference is one of the query
pub is_difference : {g : List Node} {q : Query} {conflicts : ℕ} {bits : List Bool} → DecidesInStead g q conflicts (decision.Differs bits) → IsDifference g q bits
is_difference {bits} d = difference_from d.stands bits d.decides
