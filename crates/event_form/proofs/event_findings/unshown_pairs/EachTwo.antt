-- What tells classes apart, one class after the other.
use Rattle.std.proofs.Common.{◌≡◌, ◌∙◌, ◌+◌, ◌<◌, ℕ, List, [], ◌∷◌, ◌++◌, length, map, take, drop, get_or, refl, sym, ap, subst, append_assoc, append-nil}
use Rattle.std.specs.List.{AllZip}
use Rattle.std.proofs.lemmas.List.{drop_more, map-append, take_more}
use Rattle.circuit_theory.proofs.Lists.{zip_push}
use Rattle.event_nodes.specs.Nodes.{EventGraphView}
use Rattle.class_search.specs.declared.class_separations.apart.Apart.{Apart}
use Rattle.event_form.specs.event_findings.unshown_pairs.Telling.{HaveTold, IsToldAt, two_of}
use Rattle.event_form.specs.declared.event_findings.unshown_pairs.separations.ToldSeparation.{ToldSeparation}
use Rattle.event_form.proofs.event_findings.unshown_pairs.Two.{beside, zip_append}

module _ (w : EventGraphView) (aparts : List Apart) where
  abbrev Told : List (ℕ × ℕ) → List ToldSeparation → Type 0
  Told classes told = AllZip (IsToldAt w aparts) classes told

  -- no class yet
  pub none_told : (low : ℕ) (others : List ℕ) (told : List ToldSeparation) → HaveTold w aparts low (take 0 others) told told
  none_told low others told = record { more = []; behind = sym (append-nil told); told = tt }

  -- one class more
  pub next_told : (low : ℕ) (others : List ℕ) (j high : ℕ) (old mid new : List ToldSeparation) (x : ToldSeparation) → j < length others → get_or others j 0 ≡ high → HaveTold w aparts low (take j others) old mid → IsToldAt w aparts (low, high) x → new ≡ mid ++ x ∷ [] →
      HaveTold w aparts low (take (j + 1) others) old new
  next_told low others j high old mid new x inside at before own pushed = record {
    more = before.more ++ x ∷ [];
    behind = pushed ∙ (ap (λ (xs : List ToldSeparation). xs ++ x ∷ []) before.behind ∙ append_assoc old before.more (x ∷ []));
    told = subst (λ (ps : List (ℕ × ℕ)). Told ps (before.more ++ x ∷ [])) (sym front) (zip_push (IsToldAt w aparts) (map (beside low) (take j others)) before.more (low, high) x before.told own);
  }
    where
      front : map (beside low) (take (j + 1) others) ≡ map (beside low) (take j others) ++ (low, high) ∷ []
      front =
          ap (map (beside low)) (take_more others j 0 inside ∙ ap (λ (k : ℕ). take j others ++ k ∷ []) at)
          ∙ map-append (beside low) (take j others) (high ∷ [])

  -- each two classes of which the lower one is among the first
  pub record AreToldTo (classes : List ℕ) (i : ℕ) (told : List ToldSeparation) : Type 0 where
    pub done : List (ℕ × ℕ)
    pub split : two_of classes ≡ done ++ two_of (drop i classes)
    pub are : AllZip (IsToldAt w aparts) done told

  pub begin_told : (classes : List ℕ) (told : List ToldSeparation) → told ≡ [] → AreToldTo classes 0 told
  begin_told classes told none = record { done = []; split = refl; are = subst (Told []) (sym none) tt }

  pub more_told : (classes : List ℕ) (i low : ℕ) (old new : List ToldSeparation) → i < length classes → get_or classes i 0 ≡ low → AreToldTo classes i old → HaveTold w aparts low (drop (i + 1) classes) old new → AreToldTo classes (i + 1) new
  more_told classes i low old new inside at before told = record {
    done = before.done ++ map (beside low) (drop (i + 1) classes);
    split = before.split ∙ (ap (λ (ks : List ℕ). before.done ++ two_of ks) back ∙ sym (append_assoc before.done (map (beside low) (drop (i + 1) classes)) (two_of (drop (i + 1) classes))));
    are = subst (Told (before.done ++ map (beside low) (drop (i + 1) classes))) (sym told.behind) (zip_append (IsToldAt w aparts) before.done (map (beside low) (drop (i + 1) classes)) old told.more before.are told.told);
  }
    where
      back : drop i classes ≡ low ∷ drop (i + 1) classes
      back = drop_more classes i 0 inside ∙ ap (λ (k : ℕ). k ∷ drop (i + 1) classes) at

  pub all_told : (classes : List ℕ) (i : ℕ) (told : List ToldSeparation) → drop i classes ≡ [] → AreToldTo classes i told → AllZip (IsToldAt w aparts) (two_of classes) told
  all_told classes i told none are = subst (λ (ps : List (ℕ × ℕ)). Told ps told) (sym (are.split ∙ (ap (λ (ks : List ℕ). are.done ++ two_of ks) none ∙ append-nil are.done))) are.are
