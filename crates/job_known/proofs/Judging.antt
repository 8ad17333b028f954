-- What is judged of two nets, by what they show.
use Rattle.std.specs.Prelude.{◌≡◌, ℕ, Bool, List, [], length, map, Option, Ok}
use Rattle.std.proofs.Common.{sym, ap, subst}
use Rattle.std.specs.List.{All}
use Rattle.flat_net.specs.Sound.{IsSound}
use Rattle.flat_net.specs.View.{NetView, circuit_of}
use Rattle.sec_setup.specs.Matching.{InterfacesMatch}
use Rattle.sec_setup.specs.declared.ports.pairs.SignalPair.{SignalPair}
use Rattle.sec_setup.specs.ports.Pairs.{NamedPair, places_of, named_pairs}
use Rattle.restart.specs.Behind.{IsBegun}
use Rattle.job_after.specs.declared.judging.Judged.{Judged}
use Rattle.job_after.specs.Ends.{FitsAfter}
use Rattle.job_after.specs.Report.{begun_text}
use Rattle.job_known.specs.declared.known_pairs.KnownReplay.{KnownReplay}
use Rattle.job_known.specs.Cycle.{AreWithin}
use Rattle.job_known.specs.Pairs.{ShowsKnown, ReadsFromReset, ReadsBehind, DifferAlways}
use Rattle.job_known.specs.Judged.{IsTold, IsReplayedFrom, IsReplayedBehind}
use Rattle.job_known.proofs.Always.{differ_from_reset, differ_behind, places_within}

module _ (settles : Bool) (a b : NetView) (names : List (List ℕ)) (rows : List (List Bool)) where
  module _ (wide : All (λ (row : List Bool). length row ≡ length names) rows) where
    -- both are run
    pub replayed_from : IsSound a → IsSound b → InterfacesMatch a b → FitsAfter a b names (Ok tt) → (pairs : List SignalPair) → map places_of pairs ≡ named_pairs [] (circuit_of a) (circuit_of b) → AreWithin (length a.drivers) (length b.drivers) pairs →
        (found : KnownReplay) → ShowsKnown a b (map places_of pairs) names rows found → (j : Judged) → IsTold settles [] (length rows) found j → IsReplayedFrom settles a b names rows j
    replayed_from sound_a sound_b matches fits pairs named within found shows j told =
        let always = differ_from_reset names rows wide a b sound_a sound_b (map places_of pairs) (places_within (length a.drivers) (length b.drivers) pairs within) found shows in
        record {
          matches = matches;
          fits = fits;
          found = found;
          shows = subst (λ (ps : List (NamedPair ℕ ℕ)). ShowsKnown a b ps names rows found) named shows;
          always = subst (λ (ps : List (NamedPair ℕ ℕ)). DifferAlways (ReadsFromReset a names rows) (ReadsFromReset b names rows) 0 ps found.differences) named always;
          told = told;
        }

    module _ (first : List (List ℕ)) (before : List (List Bool)) where
      module _ (l r : NetView) (left_known right_known : List (Option Bool)) (left : IsBegun a first before left_known l) (right : IsBegun b first before right_known r) where
        -- a net that begins has the net's signals
        pub begun_within : (pairs : List SignalPair) → AreWithin (length a.drivers) (length b.drivers) pairs → AreWithin (length l.drivers) (length r.drivers) pairs
        begun_within pairs within =
            subst (λ (m : ℕ). AreWithin m (length r.drivers) pairs) (sym (ap (λ (n : NetView). length n.drivers) left.is)) (
            subst (λ (k : ℕ). AreWithin (length a.drivers) k pairs) (sym (ap (λ (n : NetView). length n.drivers) right.is)) within
            )

        -- both are run behind the rows
        pub replayed_behind : All (λ (row : List Bool). length row ≡ length first) before → IsSound l → IsSound r → InterfacesMatch a b → FitsAfter a b first (Ok tt) → FitsAfter a b names (Ok tt) → (pairs : List SignalPair) →
            map places_of pairs ≡ named_pairs [] (circuit_of a) (circuit_of b) → AreWithin (length a.drivers) (length b.drivers) pairs → (found : KnownReplay) → ShowsKnown l r (map places_of pairs) names rows found → (j : Judged) →
            IsTold settles (begun_text l r (length before) left_known right_known) (length rows) found j → IsReplayedBehind settles a b first before names rows j
        replayed_behind first_wide sound_l sound_r matches fits_first fits pairs named within found shows j told =
            let always = differ_from_reset names rows wide l r sound_l sound_r (map places_of pairs) (places_within (length l.drivers) (length r.drivers) pairs (begun_within pairs within)) found shows in
            let behind = differ_behind names rows wide first before first_wide a b l r left_known right_known left right (map places_of pairs) found.differences always in
            record {
              matches = matches;
              fits_first = fits_first;
              fits = fits;
              left_known = left_known;
              right_known = right_known;
              left = l;
              right = r;
              left_begun = left;
              right_begun = right;
              found = found;
              shows = subst (λ (ps : List (NamedPair ℕ ℕ)). ShowsKnown l r ps names rows found) named shows;
              always = subst (λ (ps : List (NamedPair ℕ ℕ)). DifferAlways (ReadsBehind a first before names rows) (ReadsBehind b first before names rows) (length before) ps found.differences) named behind;
              told = told;
            }
