-- The first pair of a name.
use Rattle.std.proofs.Common.{◌≡◌, ℕ, ◌+◌, ◌<◌, ◌≤◌, Bool, true, false, List, length, take, get_or, slice_get, Some, sym, ◌∙◌, ap, subst}
use Rattle.std.specs.List.{All}
use Rattle.std.proofs.lemmas.List.{take_more, take_all}
use Rattle.std.proofs.lemmas.List.Elements.{All-push}
use Rattle.std.proofs.lemmas.Option.{slice_get-get_or, same_Some}
use Rattle.sec_setup.specs.declared.ports.pairs.SignalPair.{SignalPair}
use Rattle.witness_report.specs.declared.witness.PairName.TheVariants.{Output}
use Rattle.job_cert.specs.pair_clauses.Clauses.{IsPairNamed}

module _ (pairs : List SignalPair) (name : List ℕ) (i : ℕ) where
  abbrev IsOther : SignalPair → Type 0
  IsOther p = p.name ≡ Output name → ⊥

  pub named_at : (p : SignalPair) → i < length pairs → p ≡ get_or pairs i p → p.name ≡ Output name → IsPairNamed pairs name i
  named_at p lt is named = (p, slice_get-get_or pairs i p lt ∙ ap Some (sym is), named)

  -- what stands there has the name
  pub is_named : (p : SignalPair) → slice_get pairs i ≡ Some p → IsPairNamed pairs name i → p.name ≡ Output name
  is_named p at named = ap (λ (q : SignalPair). q.name) (same_Some p named.0 (sym at ∙ named.1)) ∙ named.2

  pub one_further : (p : SignalPair) (b : Bool) → i < length pairs → p ≡ get_or pairs i p → (p.name ≡ Output name → b ≡ true) → b ≡ false → All IsOther (take i pairs) → All IsOther (take (i + 1) pairs)
  one_further p b lt is told differs all =
      let other : IsOther p = λ e. (let z : true ≡ false = sym (told e) ∙ differs in cc) in
      subst (All IsOther) (sym (take_more pairs i p lt)) (All-push IsOther (take i pairs) (get_or pairs i p) all (subst IsOther is other))

  pub all_other : length pairs ≤ i → All IsOther (take i pairs) → All IsOther pairs
  all_other past all = subst (All IsOther) (take_all i pairs past) all
