-- What is found by what two nets are compared by, under the premise of a third, is found of the three nets.
use Rattle.std.proofs.Common.{◌≡◌, ℕ, ◌≤◌, List, length, map, Result, Ok, Err, refl, sym, subst, arith}
use Rattle.std.specs.Prelude.{IsErrAnd}
use Rattle.circuit_theory.specs.Interface.{shared_inputs}
use Rattle.flat_net.specs.Sound.{IsSound}
use Rattle.flat_net.specs.View.{NetView, circuit_of, ports_of}
use Rattle.sec_setup.specs.declared.error.SetupError.{SetupError}
use Rattle.sec_setup.specs.declared.error.SetupError.TheVariants as unset
use Rattle.sec_setup.specs.declared.setup.Setup.{Setup}
use Rattle.sec_setup.specs.Matching.{InterfacesMatch, InterfaceFails}
use Rattle.sec_setup.specs.ports.Pairs.{NamedPair, named_pairs, places_of}
use Rattle.assume_laws.specs.Assume.{Assumption}
use Rattle.assume_queries.specs.Parted.{Weighs}
use Rattle.assume_queries.specs.declared.assume_sequences.premise.Premise.{Premise}
use Rattle.assume_queries.specs.declared.assume_sequences.assume_taken.error.TakeError.{TakeError}
use Rattle.assume_queries.specs.declared.assume_sequences.assume_taken.error.TakeError.TheVariants as untaken
use Rattle.assume_queries.specs.assume_sequences.assume_taken.Premises.{IsPremiseOf, IsTaken}
use Rattle.assume_queries.specs.assume_sequences.assume_taken.Taken.{IsAssumed, assumed_by}
use Rattle.assume_queries.proofs.assume_sequences.assume_taken.Premises.{is_assumed, can_be_assumed}
use Rattle.reset_form.specs.declared.reset_functions.error.ResetError.{ResetError}
use Rattle.reset_form.specs.declared.reset_functions.error.ResetError.TheVariants as reset
use Rattle.reset_form.specs.reset_asked.Numbers.{numbered}
use Rattle.cycle_search.specs.declared.found.Searched.{Searched}
use Rattle.cycle_search.specs.Outputs.{IsOneTooLarge}
use Rattle.cycle_search.specs.Refusals.{mismatch_of}
use Rattle.cycle_search.specs.Settings.{IsSettingOf}
use Rattle.cycle_search.proofs.Numbering.{numbering}
use Rattle.cycle_under.specs.declared.found.SearchUnder.{SearchUnder}
use Rattle.cycle_under.specs.declared.found.UnderError.{UnderError}
use Rattle.cycle_under.specs.Searches.{AreFoundUnder, AreSearchedUnder, SearchesUnder, SearchesInUnder, search_error, untaken_error, reset_error}

-- what is true of an error is true of the result that it is
pub refused_by : (P : Result SearchUnder UnderError → Type 0) (r : Result SearchUnder UnderError) (e : UnderError) → IsErrAnd r (λ x. x ≡ e) → P (Err e) → P r
refused_by P (Ok x) e h p = absurd h
refused_by P (Err x) e h p = subst (λ (y : UnderError). P (Err y)) (sym h) p

pub mismatched : (a b c : NetView) (cycles conflicts : ℕ) (e : SetupError) → InterfaceFails a b e → SearchesUnder a b c cycles conflicts (Err (search_error (mismatch_of e)))
mismatched a b c cycles conflicts (unset.Interface name) h = h
mismatched a b c cycles conflicts (unset.Cyclic side names) h = absurd h
mismatched a b c cycles conflicts (unset.Unpaired side names) h = absurd h
mismatched a b c cycles conflicts unset.NoMemory h = tt

pub untaken_by : (a b c : NetView) (cycles conflicts : ℕ) (names : List (List ℕ)) → names ≡ shared_inputs (ports_of a) (ports_of b) → (e : TakeError) → InterfacesMatch a b → IsTaken names c conflicts (Err e) → SearchesUnder a b c cycles conflicts (Err (untaken_error e))
untaken_by a b c cycles conflicts names same e matches h = go e (subst (λ (ns : List (List ℕ)). IsTaken ns c conflicts (Err e)) same h)
  where
    go : (e : TakeError) → IsTaken (shared_inputs (ports_of a) (ports_of b)) c conflicts (Err e) → SearchesUnder a b c cycles conflicts (Err (untaken_error e))
    go (untaken.Fault fault) h = (matches, h)
    go (untaken.Vacuous by) h = (matches, h)
    go untaken.NoMemory h = tt

-- the function of a premise has its weight
pub weighs : (names : List (List ℕ)) (c : NetView) (count : ℕ) (p : Premise) → IsPremiseOf names c count p → length names ≤ count → Weighs p.own p.weight
weighs names c count p is within =
    let can = can_be_assumed names c count p is within in
    record { net = can.net; inputs = can.inputs; output = can.output; size = can.size; function = can.is.function; assumption = can.is.assumption; weighs = can.weighs }

module _ (a b c : NetView) (s : Setup) (is : IsSettingOf a b s) (matches : InterfacesMatch a b) (cycles conflicts : ℕ) (p : Premise) (taken : IsPremiseOf (shared_inputs (ports_of a) (ports_of b)) c (length (shared_inputs (ports_of a) (ports_of b))) p) where
  pub refused : (e : ResetError) → SearchesInUnder s p cycles conflicts (Err e) → SearchesUnder a b c cycles conflicts (Err (reset_error e))
  refused (reset.TooLarge side) h = (matches, taken.assumed, subst (λ (n : NetView). IsOneTooLarge n b 0 side) is.left_is (subst (λ (n : NetView). IsOneTooLarge s.left.now n 0 side) is.right_is h))
  refused reset.NoMemory h = tt

  pub searched : IsSound a → IsSound b → (r : Searched) → SearchesInUnder s p cycles conflicts (Ok r) → AreSearchedUnder a b c cycles conflicts r
  searched sa sb r h =
      let own = is_assumed (shared_inputs (ports_of a) (ports_of b)) c (length (shared_inputs (ports_of a) (ports_of b))) p taken (omega arith) in
      let found = h.2 c taken.assumed.order taken.assumed.shape.output.signal.0 (length c.drivers) own.function own.assumption in
      let under : Assumption = assumed_by taken.assumed in
      let n = numbered s h.0 in
      record {
        left_sound = sa;
        right_sound = sb;
        matches = matches;
        assumed = taken.assumed;
        numbers = n;
        are_numbers = numbering a b s is matches cycles conflicts sa sb r h.0 h.1;
        found =
            subst (λ (ps : List (NamedPair ℕ ℕ)). AreFoundUnder under taken.assumed.weight n a b cycles conflicts ps r) is.pairs_are
            (subst (λ (m : NetView). AreFoundUnder under taken.assumed.weight n m b cycles conflicts (map places_of s.pairs) r) is.left_is
            (subst (λ (m : NetView). AreFoundUnder under taken.assumed.weight n s.left.now m cycles conflicts (map places_of s.pairs) r) is.right_is
            (subst (λ (k : ℕ). AreFoundUnder under k n s.left.now s.right.now cycles conflicts (map places_of s.pairs) r) taken.weight_is found)));
      }
