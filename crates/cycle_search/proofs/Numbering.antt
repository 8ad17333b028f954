-- What is found by what two nets are compared by is found of the nets.
use Rattle.std.proofs.Common.{◌≡◌, ℕ, ◌<◌, List, map, length, Result, Ok, Err, sym, ap, subst, arith}
use Rattle.std.specs.Prelude.{IsErrAnd}
use Rattle.std.specs.List.{All}
use Rattle.std.proofs.lemmas.List.Elements.{All-contains}
use Rattle.circuit_theory.specs.Circuit.{Circuit}
use Rattle.circuit_theory.specs.Cone.{latches_of}
use Rattle.circuit_theory.specs.Interface.{AreNumbersOf}
use Rattle.circuit_theory.specs.Tree.{IsInputNumber}
use Rattle.circuit_theory.proofs.Lists.{of_at}
use Rattle.circuit_theory.proofs.Numbers.{beside_at}
use Rattle.circuit_laws.specs.reset_laws.Reset.{AreBased}
use Rattle.circuit_laws.proofs.reset_laws.reset_nets.Starts.{nets_have_starts}
use Rattle.flat_net.specs.Sound.{IsSound}
use Rattle.flat_net.specs.View.{NetView, circuit_of, ports_of}
use Rattle.sec_setup.specs.declared.error.SetupError.{SetupError}
use Rattle.sec_setup.specs.declared.error.SetupError.TheVariants as unset
use Rattle.sec_setup.specs.declared.setup.Setup.{Setup}
use Rattle.sec_setup.specs.Matching.{InterfacesMatch, InterfaceFails}
use Rattle.sec_setup.specs.ports.Pairs.{NamedPair, places_of}
use Rattle.reset_form.specs.declared.reset_functions.bases.Bases.{Bases}
use Rattle.reset_form.specs.declared.reset_functions.error.ResetError.{ResetError}
use Rattle.reset_form.specs.declared.reset_functions.error.ResetError.TheVariants as reset
use Rattle.reset_form.specs.reset_asked.Numbers.{numbered}
use Rattle.reset_form.specs.reset_functions.Bases.{AreBases}
use Rattle.cycle_search.specs.declared.found.SearchError.{SearchError}
use Rattle.cycle_search.specs.declared.found.Searched.{Searched}
use Rattle.cycle_search.specs.Outputs.{IsOneTooLarge}
use Rattle.cycle_search.specs.Refusals.{refusal_of, mismatch_of}
use Rattle.cycle_search.specs.Searches.{IsNumbering, AreFoundUpTo, AreSearched, Searches, SearchesIn}
use Rattle.cycle_search.specs.Settings.{IsSettingOf}

-- input numbers are below the base
below_base : (c : Circuit ℕ) (order : List ℕ) (base : ℕ) → All (λ i. i < base) order → (p i : ℕ) → IsInputNumber c order p i → i < base
below_base c order base low p i number = let at = beside_at c.inputs order p i number in All-contains (λ k. k < base) order i low (of_at order at.0 i at.4)

pub refused_by : (P : Result Searched SearchError → Type 0) (r : Result Searched SearchError) (e : SearchError) → IsErrAnd r (λ x. x ≡ e) → P (Err e) → P r
refused_by P (Ok x) e h p = absurd h
refused_by P (Err x) e h p = subst (λ (y : SearchError). P (Err y)) (sym h) p

pub mismatched : (a b : NetView) (cycles conflicts : ℕ) (e : SetupError) → InterfaceFails a b e → Searches a b cycles conflicts (Err (mismatch_of e))
mismatched a b cycles conflicts (unset.Interface name) h = h
mismatched a b cycles conflicts (unset.Cyclic side names) h = absurd h
mismatched a b cycles conflicts (unset.Unpaired side names) h = absurd h
mismatched a b cycles conflicts unset.NoMemory h = tt

module _ (a b : NetView) (s : Setup) (is : IsSettingOf a b s) (matches : InterfacesMatch a b) (cycles conflicts : ℕ) where
  pub refused : (e : ResetError) → SearchesIn s cycles conflicts (Err e) → Searches a b cycles conflicts (Err (refusal_of e))
  refused (reset.TooLarge side) h = (matches, subst (λ (n : NetView). IsOneTooLarge n b 0 side) is.left_is (subst (λ (n : NetView). IsOneTooLarge s.left.now n 0 side) is.right_is h))
  refused reset.NoMemory h = tt

  module _ (sa : IsSound a) (sb : IsSound b) (r : Searched) (bases : Bases) (are : AreBases s bases) where
    left_numbers : AreNumbersOf (ports_of a).inputs s.columns s.orders.left s.orders.right
    left_numbers = subst (λ (n : NetView). AreNumbersOf (ports_of n).inputs s.columns s.orders.left s.orders.right) is.left_is is.is.left_columns.numbers

    right_numbers : AreNumbersOf (ports_of b).inputs s.columns s.orders.right s.orders.left
    right_numbers = subst (λ (n : NetView). AreNumbersOf (ports_of n).inputs s.columns s.orders.right s.orders.left) is.right_is is.is.right_columns.numbers

    based : AreBased (circuit_of a) (circuit_of b) s.orders.left s.orders.right bases.left bases.right
    based = record {
      left_inputs = below_base (circuit_of a) s.orders.left bases.left are.left_inputs;
      right_inputs = below_base (circuit_of b) s.orders.right bases.left are.right_inputs;
      latches =
          let own : length (latches_of (circuit_of a)) ≡ length a.latches = (nets_have_starts a sa).2 in
          let same : length s.left.now.latches ≡ length a.latches = ap (λ (n : NetView). length n.latches) is.left_is in
          omega (arith, are.right_is, own, same);
    }

    pub numbering : IsNumbering a b (numbered s bases)
    numbering = record {
      left_is = ap circuit_of is.left_is;
      right_is = ap circuit_of is.right_is;
      columns_are = is.columns_are;
      left_numbers = left_numbers;
      right_numbers = right_numbers;
      based = based;
    }

    pub searched : AreFoundUpTo (numbered s bases) s.left.now s.right.now cycles conflicts (map places_of s.pairs) r → AreSearched a b cycles conflicts r
    searched found = record {
      left_sound = sa;
      right_sound = sb;
      matches = matches;
      numbers = numbered s bases;
      are_numbers = numbering;
      found =
          subst (λ (ps : List (NamedPair ℕ ℕ)). AreFoundUpTo (numbered s bases) a b cycles conflicts ps r) is.pairs_are
          (subst (λ (n : NetView). AreFoundUpTo (numbered s bases) n b cycles conflicts (map places_of s.pairs) r) is.left_is
          (subst (λ (n : NetView). AreFoundUpTo (numbered s bases) s.left.now n cycles conflicts (map places_of s.pairs) r) is.right_is found));
    }
