-- The first pair of a kind, found one after the other.
use Rattle.std.proofs.Common.{◌≡◌, ◌∙◌, ◌+◌, ◌<◌, ◌≤◌, ℕ, Bool, true, false, cond, List, [], ◌∷◌, ◌++◌, length, drop, get_or, refl, sym, ap, Option, Some, None, option_map}
use Rattle.std.specs.Prelude.{find, option_to_list}
use Rattle.std.specs.List.{filter_map}
use Rattle.std.proofs.lemmas.List.{append_assoc, drop_all, drop_more}
use Rattle.std.proofs.lemmas.List.Elements.{filter_map-append}
use Rattle.obligations.specs.outcome.Proof.{Proof}
use Rattle.event_settles.specs.declared.cares.PairCare.{PairCare}
use Rattle.event_settles.specs.declared.cares.IdleLatch.{IdleLatch}
use Rattle.job_settles.specs.Report.{care_proof, first_idle, first_where, idle_with}

module _ (test : PairCare → Bool) (cares : List PairCare) (i : ℕ) (c : PairCare) (before : first_where test cares ≡ first_where test (drop i cares)) (within : i < length cares) (is : c ≡ get_or cares i c) where
  here : first_where test cares ≡ first_where test (c ∷ drop (i + 1) cares)
  here = before ∙ ap (first_where test) (drop_more cares i c within ∙ ap (λ (x : PairCare). x ∷ drop (i + 1) cares) (sym is))

  -- it is this one
  pub found : test c ≡ true → first_where test cares ≡ Some c.name
  found e = here ∙ ap (λ b. option_map (λ (x : PairCare). x.name) (cond b (Some c) (find test (drop (i + 1) cares)))) e

  -- or one behind it
  pub passed : test c ≡ false → first_where test cares ≡ first_where test (drop (i + 1) cares)
  passed e = here ∙ ap (λ b. option_map (λ (x : PairCare). x.name) (cond b (Some c) (find test (drop (i + 1) cares)))) e

-- or there is none
pub none_found : (test : PairCare → Bool) (cares : List PairCare) (i : ℕ) → first_where test cares ≡ first_where test (drop i cares) → length cares ≤ i → first_where test cares ≡ None
none_found test cares i before past = before ∙ ap (first_where test) (drop_all i cares past)

-- the proof, if any, of one pair more
of_one : (c : PairCare) → filter_map care_proof (c ∷ []) ≡ option_to_list (care_proof c)
of_one c = go (care_proof c) refl
  where
    go : (o : Option Proof) → care_proof c ≡ o → filter_map care_proof (c ∷ []) ≡ option_to_list (care_proof c)
    go None e = rw e refl
    go (Some x) e = rw e refl

pub one_more : (front : List Proof) (cs : List PairCare) (c : PairCare) → (front ++ filter_map care_proof cs) ++ option_to_list (care_proof c) ≡ front ++ filter_map care_proof (cs ++ c ∷ [])
one_more front cs c =
    append_assoc front (filter_map care_proof cs) (option_to_list (care_proof c))
    ∙ ap (λ (ps : List Proof). front ++ ps) (ap (λ (ps : List Proof). filter_map care_proof cs ++ ps) (sym (of_one c)) ∙ sym (filter_map-append care_proof cs (c ∷ [])))

-- the first latch of a class whose loads can't happen
module _ (cares : List PairCare) (i : ℕ) (c : PairCare) (before : first_idle cares ≡ first_idle (drop i cares)) (within : i < length cares) (is : c ≡ get_or cares i c) where
  idle_here : first_idle cares ≡ first_idle (c ∷ drop (i + 1) cares)
  idle_here = before ∙ ap first_idle (drop_more cares i c within ∙ ap (λ (x : PairCare). x ∷ drop (i + 1) cares) (sym is))

  -- it is this one
  pub idle_found : (x : IdleLatch) → idle_with c.care ≡ Some x → first_idle cares ≡ Some x
  idle_found x e = idle_here ∙ of_first e
    where
      of_first : idle_with c.care ≡ Some x → first_idle (c ∷ drop (i + 1) cares) ≡ Some x
      of_first h = rw h refl

  -- or one behind it
  pub idle_passed : idle_with c.care ≡ None → first_idle cares ≡ first_idle (drop (i + 1) cares)
  idle_passed e = idle_here ∙ behind e
    where
      behind : idle_with c.care ≡ None → first_idle (c ∷ drop (i + 1) cares) ≡ first_idle (drop (i + 1) cares)
      behind h = rw h refl

-- or there is none
pub no_idle : (cares : List PairCare) (i : ℕ) → first_idle cares ≡ first_idle (drop i cares) → length cares ≤ i → first_idle cares ≡ None
no_idle cares i before past = before ∙ ap first_idle (drop_all i cares past)
