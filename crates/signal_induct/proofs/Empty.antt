-- No latch is cut open.
use Rattle.std.proofs.Common.{◌≡◌, ◌∙◌, ℕ, ◌<◌, List, [], ◌∷◌, ◌++◌, length, map, refl, sym, ap, subst}
use Rattle.std.specs.List.{AllZip}
use Rattle.std.proofs.lemmas.List.{append-nil}
use Rattle.std.proofs.lemmas.List.Elements.{All-nil}
use Rattle.flat_net.specs.View.{NetView}
use Rattle.witness_report.specs.declared.witness.PairName.{PairName}
use Rattle.witness_report.specs.declared.witness.PairName.TheVariants as pair_name
use Rattle.sec_setup.specs.declared.ports.pairs.SignalPair.{SignalPair}
use Rattle.sec_setup.specs.ports.Pairing.{AreNamedAt, ArePairs, IsOutputPair}

pub none_at : (n : NetView) (names : List (List ℕ)) (positions : List ℕ) → names ≡ [] → positions ≡ [] → AreNamedAt n names positions
none_at n names positions e f =
    subst (λ (ns : List (List ℕ)). AreNamedAt n ns positions) (sym e) (subst (AreNamedAt n []) (sym f) (record { within = All-nil (λ j. j < length n.latches); distinct = λ i j x h k. absurd (cc); named = refl }))

none_next : (nexts : List SignalPair) (names : List (List ℕ)) → names ≡ [] → map (λ (p : SignalPair). p.name) nexts ≡ map (λ name. pair_name.Next name) names → nexts ≡ []
none_next [] names none e = refl
none_next (p ∷ nexts) names none e = absurd (let some : p.name ∷ map (λ (q : SignalPair). q.name) nexts ≡ [] = e ∙ ap (map (λ name. pair_name.Next name)) none in cc)

-- so all pairs are of outputs
pub outputs_alone : (a b : NetView) (names : List (List ℕ)) (left right : List ℕ) (pairs : List SignalPair) → names ≡ [] → ArePairs a b names left right pairs → AllZip (IsOutputPair b) a.outputs pairs
outputs_alone a b names left right pairs none are =
    let nexts : are.nexts ≡ [] = none_next are.nexts names none are.nexts_are.names_are in
    subst (AllZip (IsOutputPair b) a.outputs) (sym (are.pairs_are ∙ (ap (λ (rest : List SignalPair). are.outputs ++ rest) nexts ∙ append-nil are.outputs))) are.outputs_are
