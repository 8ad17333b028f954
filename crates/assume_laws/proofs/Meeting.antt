-- The row of a difference of the assumption's query.
use Rattle.std.proofs.Common.{◌≡◌, ℕ, Bool, true, false, List, refl, sym, ◌∙◌, ap, subst}
use Rattle.circuit_theory.specs.Circuit.{Circuit}
use Rattle.circuit_theory.specs.Tree.{Tree, Trees, Leaf, IsInputNumber, tree_value}
use Rattle.circuit_theory.specs.Query.{Variable, HasLeaf, HasLeafIn, same_shift, assigned}
use Rattle.circuit_theory.proofs.Lists.{only}
use Rattle.circuit_laws.proofs.reset_laws.ResetWindows.{assigned_absent}
use Rattle.assume_laws.specs.Assume.{PlaceUnfolds, PlaceUnfoldsAll}
use Rattle.assume_laws.specs.Laws.{MeetingRowMeets}
use Rattle.assume_laws.proofs.Care.{tree_meets}
use Rattle.assume_laws.proofs.Filled.{below_count}

-- a leaf is an input at the place
module _ {L : Type 0} (c : Circuit ℕ) (order : List ℕ) (at : L) (x : Variable L) where
  mutual
    pub leaf_input : {p : ℕ} {tree : Tree L} → PlaceUnfolds c order at p tree → HasLeaf x tree → (q : ℕ) × IsInputNumber c order q x.input
    leaf_input {p} (PlaceUnfolds.input {i = i} h) stands = go stands refl
      where
        number : Tree L → ℕ
        number (Leaf input at) = input
        number other = 0

        go : {tree : Tree L} → HasLeaf x tree → tree ≡ Leaf i at → (q : ℕ) × IsInputNumber c order q x.input
        go HasLeaf.leaf e = (p, subst (IsInputNumber c order p) (sym (ap number e)) h)
        go (HasLeaf.inside k) e = cc
    leaf_input (PlaceUnfolds.gate eq each) (HasLeaf.inside k) = leaves_input each k
    leaf_input (PlaceUnfolds.port eq rest) stands = leaf_input rest stands

    leaves_input : {ps : List ℕ} {trees : Trees L} → PlaceUnfoldsAll c order at ps trees → HasLeafIn x trees → (q : ℕ) × IsInputNumber c order q x.input
    leaves_input PlaceUnfoldsAll.none stands = elim stands [ ]
    leaves_input (PlaceUnfoldsAll.more one rest) (HasLeafIn.first h) = leaf_input one h
    leaves_input (PlaceUnfoldsAll.more one rest) (HasLeafIn.later h) = leaves_input rest h

  mutual
    -- at the place
    pub leaf_at : {p : ℕ} {tree : Tree L} → PlaceUnfolds c order at p tree → HasLeaf x tree → x.at ≡ at
    leaf_at (PlaceUnfolds.input {i = i} h) stands = go stands refl
      where
        place : Tree L → L
        place (Leaf input y) = y
        place other = at

        go : {tree : Tree L} → HasLeaf x tree → tree ≡ Leaf i at → x.at ≡ at
        go HasLeaf.leaf e = ap place e
        go (HasLeaf.inside k) e = cc
    leaf_at (PlaceUnfolds.gate eq each) (HasLeaf.inside k) = leaves_at each k
    leaf_at (PlaceUnfolds.port eq rest) stands = leaf_at rest stands

    leaves_at : {ps : List ℕ} {trees : Trees L} → PlaceUnfoldsAll c order at ps trees → HasLeafIn x trees → x.at ≡ at
    leaves_at PlaceUnfoldsAll.none stands = elim stands [ ]
    leaves_at (PlaceUnfoldsAll.more one rest) (HasLeafIn.first h) = leaf_at one h
    leaves_at (PlaceUnfoldsAll.more one rest) (HasLeafIn.later h) = leaves_at rest h

bit_true : (b : Bool) → (b ≡ false → ⊥) → b ≡ true
bit_true true h = refl
bit_true false h = absurd (h refl)

pub meeting_row_meets : MeetingRowMeets
meeting_row_meets c size place tree is = (
  λ variables bits count d inputs. record {
    meets = (tree_meets c size is place tree (assigned same_shift variables bits) d.unfolds).0 (bit_true (tree_value (assigned same_shift variables bits) tree) d.distinguishes.differs);
    others = λ i none. assigned_absent same_shift variables bits i place (λ v h e.
        let f = (d.are_variables.exactly v).0 h in
        let t = only tree f.0 f.1 in
        let n = leaf_input c.circuit c.order place v d.unfolds (subst (HasLeaf v) (sym t) f.2) in
        none n.0 (subst (IsInputNumber c.circuit c.order n.0) e n.1));
    above = λ i h. below_count same_shift variables bits count i place inputs h;
  },
  λ unfolds same row meets.
      let x : ℕ → ℕ → Bool = λ i k. row i in
      no (sym ((tree_meets c size is place tree x unfolds).1 meets) ∙ same x refl),
)
  where
    no : true ≡ false → ⊥
    no e = cc
