-- What is known is so in each run that begins with the rows; so from the cycle behind them on a run is one from initial values.
use Rattle.std.proofs.Common.{◌≡◌, ℕ, zero, suc, ◌+◌, ◌-◌, ◌<◌, ◌≤◌, Bool, List, [], ◌∷◌, length, map, sym, ◌∙◌, ap, subst, arith, add-one, Option, Some}
use Rattle.std.specs.List.{All}
use Rattle.std.proofs.lemmas.List.Elements.{All-contains}
use Rattle.circuit_theory.specs.Circuit.{Circuit, Started, Holds, Carries}
use Rattle.circuit_theory.specs.Run.{IsRun, IsResetRun}
use Rattle.circuit_theory.specs.Agree.{AreAlike, IsPair}
use Rattle.circuit_laws.specs.reset_laws.Reset.{AreAlikeFromReset}
use Rattle.circuit_laws.specs.start_laws.Known.{Completes, IsKnown, AreKnown, BeginsWith, restarted, AreStartsAfter, row_bit}
use Rattle.circuit_laws.specs.start_laws.Laws.{KnownAfterRows, TailIsResetRun, AgreeFromStarts, AgreeUpToFromStarts, OneSideBegins}

module _ {P : Type 0} (c : Circuit P) (order : List ℕ) (rows : List (List Bool)) (n : ℕ) (run : ℕ → P → Bool) (is_run : IsRun c n run) (begins : BeginsWith c order rows run) where
  mutual
    pub known_is_run : {t : ℕ} {p : P} {bit : Bool} → IsKnown c order rows t p bit → t < n → run t p ≡ bit
    known_is_run {t} {p} {bit} (IsKnown.input i h e) lt = begins t i p bit h e
    known_is_run {t} {p} {bit} (IsKnown.gate {fanins = fanins} ks eq each forces) lt =
        All-contains (Holds (run t)) c.equations _ (is_run.meets t lt) eq ∙ forces (map (run t) fanins) (known_complete each lt)
    known_is_run {t} (IsKnown.port eq rest) lt = All-contains (Holds (run t)) c.equations _ (is_run.meets t lt) eq ∙ known_is_run rest lt
    known_is_run (IsKnown.later {t = t} {out = out} eq rest) lt =
        sym (ap (λ s. run s out) (add-one t)) ∙ (All-contains (Carries (run t) (run (t + 1))) c.equations _ (is_run.carries t (omega arith)) eq ∙ known_is_run rest (omega arith))

    pub known_complete : {t : ℕ} {ps : List P} {ks : List (Option Bool)} → AreKnown c order rows t ps ks → t < n → Completes ks (map (run t) ps)
    known_complete AreKnown.none lt = tt
    known_complete (AreKnown.known one rest) lt = (known_is_run one lt, known_complete rest lt)
    known_complete (AreKnown.unknown rest) lt = (tt, known_complete rest lt)

  -- what is known behind the rows is so in the first cycle of the rest
  pub known_first : {p : P} {bit : Bool} → length rows < n → IsKnown c order rows (length rows) p bit → run (0 + length rows) p ≡ bit
  known_first {p} lt known = ap (λ s. run s p) (let e : 0 + length rows ≡ length rows = omega arith in e) ∙ known_is_run known lt

-- the rest of a run
pub rest_run : {P : Type 0} (c : Circuit P) (starts : List (Started P)) (n m from : ℕ) (run : ℕ → P → Bool) → IsRun c n run → m + from ≤ n → IsRun (restarted starts c) m (λ s. run (s + from))
rest_run c starts n m from run is_run le = record {
  meets = λ t h. is_run.meets (t + from) (omega arith);
  carries = λ t h. subst (λ (s : ℕ). All (Carries (run (t + from)) (run s)) c.equations) (let e : t + from + 1 ≡ t + 1 + from = omega arith in e) (is_run.carries (t + from) (omega arith));
}

pub tail_run : {P : Type 0} (c : Circuit P) (order : List ℕ) (rows : List (List Bool)) (starts : List (Started P)) → AreStartsAfter c order rows starts → (n m : ℕ) (run : ℕ → P → Bool) → IsRun c n run →
    BeginsWith c order rows run → length rows < n → m + length rows ≤ n → IsResetRun (restarted starts c) m (λ s. run (s + length rows))
tail_run c order rows starts known n m run is_run begins some le = record {
  is_run = rest_run c starts n m (length rows) run is_run le;
  starts = λ u bit h. known_first c order rows n run is_run begins some (known u bit h);
}

pub known_after_rows : KnownAfterRows
known_after_rows c order rows n run is_run begins t p bit lt known = known_is_run c order rows n run is_run begins known lt

pub tail_is_reset_run : TailIsResetRun
tail_is_reset_run c order rows starts known n m run is_run begins some le = tail_run c order rows starts known n m run is_run begins some le

-- agreement in the cycles that are wanted of the rest is agreement there
agree_where : (a b : Circuit ℕ) (left right : List ℕ) (rows : List (List Bool)) (left_starts right_starts : List (Started ℕ)) (Wanted : ℕ → Type 0) →
    AreStartsAfter a left rows left_starts → AreStartsAfter b right rows right_starts →
    ((n : ℕ) (l r : ℕ → ℕ → Bool) → AreAlikeFromReset (restarted left_starts a) (restarted right_starts b) n l r → (t p q : ℕ) → t < n → Wanted t → IsPair [] a b p q → l t p ≡ r t q) →
    (n : ℕ) (l r : ℕ → ℕ → Bool) → AreAlike a b n l r → BeginsWith a left rows l → BeginsWith b right rows r →
    (t p q : ℕ) → length rows ≤ t → t < n → Wanted (t - length rows) → IsPair [] a b p q → l t p ≡ r t q
agree_where a b left right rows left_starts right_starts Wanted left_known right_known agree n l r alike left_begins right_begins t p q le lt wanted pair =
    ap (λ s. l s p) now
    ∙ (agree (n - length rows) (λ s. l (s + length rows)) (λ s. r (s + length rows))
    (record {
      left_run = tail_run a left rows left_starts left_known n (n - length rows) l alike.left_run left_begins (omega arith) (omega arith);
      right_run = tail_run b right rows right_starts right_known n (n - length rows) r alike.right_run right_begins (omega arith) (omega arith);
      equal_inputs = λ name x y hx hy s h. alike.equal_inputs name x y hx hy (s + length rows) (omega arith);
    }) (t - length rows) p q (omega arith) wanted pair
    ∙ ap (λ s. r s q) (sym now))
  where
    now : t ≡ t - length rows + length rows
    now = omega arith

same_pair : {a b : Circuit ℕ} {left_starts right_starts : List (Started ℕ)} {p q : ℕ} → IsPair [] a b p q → IsPair [] (restarted left_starts a) (restarted right_starts b) p q
same_pair (IsPair.outputs x y) = IsPair.outputs x y
same_pair (IsPair.nexts k x y) = absurd (omega (arith, k.1))

pub agree_from_starts : AgreeFromStarts
agree_from_starts a b left right rows left_starts right_starts left_known right_known agree n l r alike left_begins right_begins t p q le lt pair =
    agree_where a b left right rows left_starts right_starts (λ s. Unit {0}) left_known right_known (λ m x y both s p' q' h wanted same. agree m x y both s p' q' h (same_pair same))
    n l r alike left_begins right_begins t p q le lt tt pair

pub agree_up_to_from_starts : AgreeUpToFromStarts
agree_up_to_from_starts a b left right rows left_starts right_starts last left_known right_known agree n l r alike left_begins right_begins t p q le up_to lt pair =
    agree_where a b left right rows left_starts right_starts (λ s. s ≤ last) left_known right_known (λ m x y both s p' q' h wanted same. agree m x y both s p' q' h wanted (same_pair same))
    n l r alike left_begins right_begins t p q le lt (omega arith) pair

-- a bit of the rows stands in one of them
pub bit_within : (rows : List (List Bool)) (i t : ℕ) (bit : Bool) → row_bit rows i t ≡ Some bit → t < length rows
bit_within [] i zero bit h = cc
bit_within [] i (suc t) bit h = cc
bit_within (x ∷ rows) i zero bit h = omega arith
bit_within (x ∷ rows) i (suc t) bit h = let r = bit_within rows i t bit h in omega arith

pub one_side_begins : OneSideBegins
one_side_begins a b left right rows numbered shared n l r le equal begins t i q bit number e =
    let p = shared t i q bit number e in
    let name = numbered.shared p.0 q i p.1 number in
    let low = bit_within rows i t bit e in
    sym (equal name.0 p.0 q name.1 name.2 t (omega arith)) ∙ begins t i p.0 bit p.1 e
