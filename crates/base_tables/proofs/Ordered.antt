-- What a change of an ordered map at one key leaves at other keys, where keys are seen as their bytes.
use Rattle.std.proofs.Common.{◌≡◌, ℕ, Bool, true, false, cond, List, Option, refl, sym, subst, ◌∙◌}
use Rattle.std.specs.BTreeMap.{BTreeMap, get_by, UpdatesBy}
use Rattle.std.specs.Cmp.{eq_by_cmp_equiv}
use Rattle.std.specs.Cmp.Lexicographic.{slice_cmp, nat_list_cmp_total, nat_list_eq_equiv}
use Rattle.std.specs.Map.{lookup, IsKeyTest, AreApart, KeepsOthers}
use Rattle.std.specs.Ordering.{is_eq, nat_cmp}
use Rattle.std.specs.Str.{bytes_eq}
use Rattle.std.proofs.lemmas.Map.Text.{is_eq-slice_cmp}
use Rattle.std.proofs.lemmas.Slice.Eq.{bytes_eq-Decides}

module _ {K : Type 0} (eq : K → K → Bool) (test : K → Bool) where
  kept : {X : Type 0} (old new : List (K × X)) → KeepsOthers eq test old new → (other : K → Bool) → IsKeyTest eq other → AreApart test other → lookup other new ≡ lookup other old
  unfolding KeepsOthers
  kept old new h = h

apart : (bs cs ks : List ℕ) → bytes_eq bs cs ≡ false → is_eq (slice_cmp nat_cmp bs ks) ≡ true → is_eq (slice_cmp nat_cmp cs ks) ≡ false
apart bs cs ks n y = is_eq-slice_cmp cs ks ∙ nat_list_eq_equiv.symm cs ks ∙ sym (nat_list_eq_equiv.congr bs ks cs (sym (is_eq-slice_cmp bs ks) ∙ y)) ∙ n

module _ {K X : Type 0} (bytes : K → List ℕ) (bs : List ℕ) where
  pub updates_at : (m n : BTreeMap K X) (w : Option X) → UpdatesBy (λ x y. slice_cmp nat_cmp (bytes x) (bytes y)) (λ k. slice_cmp nat_cmp bs (bytes k)) m n w
      → (cs : List ℕ) → get_by (λ k. slice_cmp nat_cmp cs (bytes k)) n ≡ cond (bytes_eq bs cs) w (get_by (λ k. slice_cmp nat_cmp cs (bytes k)) m)
  updates_at m n w h cs = by (bytes_eq bs cs) refl
    where
      by : (b : Bool) → bytes_eq bs cs ≡ b → get_by (λ k. slice_cmp nat_cmp cs (bytes k)) n ≡ cond b w (get_by (λ k. slice_cmp nat_cmp cs (bytes k)) m)
      by true e = subst (λ ds. get_by (λ k. slice_cmp nat_cmp ds (bytes k)) n ≡ w) ((bytes_eq-Decides bs cs).0 e) h.1
      by false e = kept _ _ m.entries n.entries h.3 _ (λ x y. (eq_by_cmp_equiv nat_list_cmp_total).congr cs (bytes x) (bytes y)) (λ k. apart bs cs (bytes k) e)
