-- What two nets are compared by where no latch is cut open, whatever their latches read.
use Rattle.std.proofs.Common.{◌≡◌, ℕ, ◌<◌, List, [], ◌∷◌, ◌++◌, map, length, refl, sym, ◌∙◌, ap, subst}
use Rattle.std.specs.List.{filter, Contains}
use Rattle.std.proofs.lemmas.List.{append-nil}
use Rattle.std.proofs.lemmas.List.Elements.{All-nil}
use Rattle.circuit_theory.specs.Interface.{shared_inputs}
use Rattle.base_tables.specs.Table.{AreDistinct}
use Rattle.sec_base.specs.declared.basics.Orders.{Orders}
use Rattle.flat_net.specs.declared.parts.LatchAt.{LatchAt}
use Rattle.flat_net.specs.Comparable.{IsComparable}
use Rattle.flat_net.specs.Cut.{stays, IsCut}
use Rattle.flat_net.specs.Sound.{IsSound}
use Rattle.flat_net.specs.View.{NetView, circuit_of, ports_of}
use Rattle.circuit_theory.specs.Net.{HasDistinctNames}
use Rattle.sec_setup.specs.declared.ports.pairs.SignalPair.{SignalPair}
use Rattle.sec_setup.specs.Matching.{InterfacesMatch}
use Rattle.sec_setup.specs.Setup.{AreColumns}
use Rattle.sec_setup.specs.ports.Numbered.{AreNumbered}
use Rattle.sec_setup.specs.ports.Pairing.{AreNamedAt, ArePairs}
use Rattle.sec_setup.specs.ports.Pairs.{ArePairsOf, named_pairs, places_of}
use Rattle.sec_setup.proofs.ports.Columns.{columns_once, left_read, right_read}
use Rattle.sec_setup.proofs.ports.NamedPairs.{pairs_cut, pairs_named}
use Rattle.sec_setup.proofs.ports.Shared.{are_matched}

all_stay : (ls : List LatchAt) → filter (stays []) ls ≡ ls
all_stay [] = refl
all_stay (l ∷ ls) = ap (λ rest. l ∷ rest) (all_stay ls)

-- a net as it is
uncut_net : (n : NetView) → IsCut n n []
uncut_net n = record {
  inputs = sym (append-nil n.inputs);
  outputs = sym (append-nil n.outputs);
  latches = sym (all_stay n.latches);
  gates = refl;
  covers = refl;
  names = refl;
  clock = refl;
  size = refl;
}

pub none_at : (n : NetView) (names : List (List ℕ)) (positions : List ℕ) → names ≡ [] → positions ≡ [] → AreNamedAt n names positions
none_at n names positions e f =
    subst (λ (ns : List (List ℕ)). AreNamedAt n ns positions) (sym e) (subst (AreNamedAt n []) (sym f) (record { within = All-nil (λ j. j < length n.latches); distinct = λ i j x h k. absurd (cc); named = refl }))

module _ (a b : NetView) (matches : InterfacesMatch a b) (shared : List (List ℕ)) (shared_is : shared ≡ shared_inputs (ports_of a) (ports_of b)) where
  without : (name : List ℕ) → Contains (shared_inputs (ports_of a) (ports_of b) ++ []) name → Contains shared name
  without name h = subst (λ (cs : List (List ℕ)). Contains cs name) (append-nil (shared_inputs (ports_of a) (ports_of b)) ∙ sym shared_is) h

  pub names_once : IsSound a → AreDistinct shared
  names_once sound = subst (λ (cs : List (List ℕ)). AreDistinct cs) (append-nil shared) (columns_once a b a [] shared [] sound (uncut_net a) refl shared_is)

  module _ (columns : List (List ℕ)) (columns_are : columns ≡ shared) (orders : Orders) (numbered : AreNumbered a b shared orders) where
    pub left_columns : AreColumns a columns orders.left orders.right
    left_columns = subst (λ (cs : List (List ℕ)). AreColumns a cs orders.left orders.right) (sym columns_are) (record { numbers = numbered.left; read = λ name h. without name (left_read a b a [] [] (uncut_net a) (none_at a [] [] refl refl) name h) })

    pub right_columns : AreColumns b columns orders.right orders.left
    right_columns = subst (λ (cs : List (List ℕ)). AreColumns b cs orders.right orders.left) (sym columns_are)
        (record { numbers = numbered.right; read = λ name h. without name (right_read a b b [] [] (are_matched (ports_of a) (ports_of b) matches) (uncut_net b) (none_at b [] [] refl refl) name h) })

  module _ (names : List (List ℕ)) (left right : List ℕ) (no_names : names ≡ []) (no_left : left ≡ []) (no_right : right ≡ []) (pairs : List SignalPair) (are : ArePairs a b names left right pairs) where
    pub own_pairs : ArePairs a b [] [] [] pairs
    own_pairs =
        subst (λ (ns : List (List ℕ)). ArePairs a b ns [] [] pairs) no_names
        (subst (λ (js : List ℕ). ArePairs a b names js [] pairs) no_left (subst (λ (js : List ℕ). ArePairs a b names left js pairs) no_right are))

    pub pairs_are_own : IsComparable b → ArePairsOf a b pairs
    pairs_are_own right_comparable = pairs_cut a b [] [] [] pairs own_pairs a b (uncut_net a) (uncut_net b) (are_matched (ports_of a) (ports_of b) matches) right_comparable.distinct

    pub pairs_are_named : IsSound a → IsSound b → HasDistinctNames (circuit_of a) → HasDistinctNames (circuit_of b) → map places_of pairs ≡ named_pairs [] (circuit_of a) (circuit_of b)
    pairs_are_named sa sb na nb = pairs_named a b [] [] [] pairs own_pairs sa sb na nb (none_at a [] [] refl refl) (none_at b [] [] refl refl)
