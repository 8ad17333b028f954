-- New names of latches, and circuits under them.
use Rattle.std.specs.Prelude.{◌⊎◌, ◌≢◌}
use Rattle.std.proofs.Common.{◌≡◌, ◌∙◌, ℕ, zero, suc, ◌+◌, ◌<◌, Bool, true, false, List, [], ◌∷◌, ◌++◌, map, take, length, slice_get, Option, Some, None, refl, sym, ap, subst, arith, inl, inr}
use Rattle.std.specs.List.{All, Contains, filter_map, cons_option}
use Rattle.std.specs.Str.{bytes_eq}
use Rattle.std.proofs.lemmas.List.Elements.{All-contains}
use Rattle.std.proofs.lemmas.Option.{none-some, same_Some}
use Rattle.std.proofs.lemmas.Slice.Eq.{bytes_eq-Decides}
use Rattle.base_tables.specs.Table.{AreDistinct, is_among}
use Rattle.base_tables.proofs.TableLemmas.{is_among-at, slice_get-take}
use Rattle.circuit_theory.specs.declared.Side.TheVariants.{A, B}
use Rattle.circuit_theory.specs.Circuit.{Circuit, Equation, Gate, Latch, Port, Carries, Holds}
use Rattle.circuit_theory.specs.Run.{IsRun}
use Rattle.circuit_theory.proofs.Lists.{All-from_each, Contains-head, Contains-map, Contains-map_from, Contains-tail, map_at, of_at}
use Rattle.circuit_theory.proofs.Numbers.{slice_get-map}
use Rattle.flat_net.specs.declared.parts.Gate.{Gate as NetGate}
use Rattle.flat_net.specs.declared.parts.LatchAt.{LatchAt}
use Rattle.flat_net.specs.declared.parts.Port.{Port as NetPort}
use Rattle.flat_net.specs.Sound.{IsSound}
use Rattle.flat_net.specs.View.{NetView, circuit_of, equation_of_gate, equation_of_latch, start_of}
use Rattle.flat_net.proofs.CutNets.{slice_get-append_cases}
use Rattle.net_names.specs.Laid.{IsLaid}
use Rattle.net_names.specs.Renamed.{IsTaken, name_on, new_name, renamed, renamed_equation, renamed_latch, RenamingKeepsRuns}
use Rattle.net_names.specs.declared.latch_pairs.LatchPair.{LatchPair}

-- the name of a latch that is paired
pub paired_name : (ps : List LatchPair) (i : ℕ) (p : LatchPair) → AreDistinct (map (name_on B) ps) → slice_get ps i ≡ Some p → new_name ps p.right ≡ p.left
paired_name [] i p once at = absurd (none-some p at)
paired_name (q ∷ ps) zero p once at = let own : q ≡ p = same_Some q p at in let same : bytes_eq q.right p.right ≡ true = (bytes_eq-Decides q.right p.right).1 (ap (λ (x : LatchPair). x.right) own) in rw same (ap (λ (x : LatchPair). x.left) own)
paired_name (q ∷ ps) (suc i) p once at = by (bytes_eq q.right p.right) refl (paired_name ps i p (λ j k x a b. (let e = once (suc j) (suc k) x a b in omega (arith, e))) at)
  where
    by : (b : Bool) → bytes_eq q.right p.right ≡ b → new_name ps p.right ≡ p.left → new_name (q ∷ ps) p.right ≡ p.left
    by false e rest = rw e rest
    by true e rest =
        let same : q.right ≡ p.right = (bytes_eq-Decides q.right p.right).0 e in
        let there : slice_get (map (name_on B) (q ∷ ps)) (suc i) ≡ Some p.right = slice_get-map (name_on B) ps i p at in
        let k = once 0 (suc i) p.right (ap Some same) there in
        absurd (omega (arith, k))

-- and of one that isn't
pub own_name : (ps : List LatchPair) (name : List ℕ) → (Contains (map (name_on B) ps) name → ⊥) → new_name ps name ≡ name
own_name [] name none = refl
own_name (q ∷ ps) name none = by (bytes_eq q.right name) refl (own_name ps name (λ h. none (Contains-tail q.right name (map (name_on B) ps) h)))
  where
    by : (b : Bool) → bytes_eq q.right name ≡ b → new_name ps name ≡ name → new_name (q ∷ ps) name ≡ name
    by false e rest = rw e rest
    by true e rest = let same : q.right ≡ name = (bytes_eq-Decides q.right name).0 e in absurd (none (subst (Contains (map (name_on B) (q ∷ ps))) same (Contains-head q.right (map (name_on B) ps))))

-- a name is kept, or the first name of a pair
pub kept_or_left : (ps : List LatchPair) (name : List ℕ) → (new_name ps name ≡ name) ⊎ Contains (map (name_on A) ps) (new_name ps name)
kept_or_left [] name = inl refl
kept_or_left (q ∷ ps) name = by (bytes_eq q.right name) refl (kept_or_left ps name)
  where
    later : (new_name ps name ≡ name) ⊎ Contains (map (name_on A) ps) (new_name ps name) → (new_name ps name ≡ name) ⊎ Contains (map (name_on A) (q ∷ ps)) (new_name ps name)
    later (inl e) = inl e
    later (inr h) = inr (Contains-tail q.left (new_name ps name) (map (name_on A) ps) h)

    by : (b : Bool) → bytes_eq q.right name ≡ b → (new_name ps name ≡ name) ⊎ Contains (map (name_on A) ps) (new_name ps name) → (new_name (q ∷ ps) name ≡ name) ⊎ Contains (map (name_on A) (q ∷ ps)) (new_name (q ∷ ps) name)
    by true e rest = rw e (inr (Contains-head q.left (map (name_on A) ps)))
    by false e rest = rw e (later rest)

-- where a latch's new name is there already, some pair's first name is it, and that one is taken
module _ (n : NetView) (sound : IsSound n) (laid : IsLaid n) (ps : List LatchPair) (j : ℕ) (l : LatchAt) (at : slice_get n.latches j ≡ Some l) where
  -- what has the name
  pub data Other : Type 0 where
    an_input : (p : NetPort) → Contains n.inputs p → (s : ℕ) → s < length n.inputs → slice_get n.names s ≡ Some p.name → p.name ≡ new_name ps l.name → Other
    a_latch : (k : ℕ) (x : LatchAt) → k < j → slice_get n.latches k ≡ Some x → new_name ps x.name ≡ new_name ps l.name → Other

  its_place : (k : ℕ) (x : LatchAt) → slice_get n.latches k ≡ Some x → slice_get n.names (length n.inputs + k) ≡ Some x.name
  its_place k x here = subst (λ (s : ℕ). slice_get n.names s ≡ Some x.name) (laid.latches k x here) (sound.latches k x here).named

  in_front : (s : ℕ) (name : List ℕ) → s < length n.inputs → slice_get n.names s ≡ Some name → name ≡ new_name ps l.name → Other
  in_front s name low here is = go (slice_get n.inputs s) refl
    where
      go : (o : Option NetPort) → slice_get n.inputs s ≡ o → Other
      go None e = absurd (none_within n.inputs s low e)
        where
          none_within : (xs : List NetPort) (i : ℕ) → i < length xs → slice_get xs i ≡ None → ⊥
          none_within [] i l e = omega (arith, l)
          none_within (x ∷ xs) zero l e = cc
          none_within (x ∷ xs) (suc i) l e = none_within xs i (omega (arith, l)) e
      go (Some p) e =
          let own = subst (λ (k : ℕ). slice_get n.names k ≡ Some p.name) (laid.inputs s p e) (sound.inputs s p e).named in
          let same : p.name ≡ name = same_Some p.name name (sym own ∙ here) in
          an_input p (of_at n.inputs s p e) s low own (same ∙ is)

  pub other : is_among (take (length n.inputs) n.names ++ map (λ (x : LatchAt). new_name ps x.name) (take j n.latches)) (new_name ps l.name) ≡ true → Other
  other there = let found = is_among-at _ (new_name ps l.name) there in by found.0 (slice_get-append_cases (take (length n.inputs) n.names) (map (λ (x : LatchAt). new_name ps x.name) (take j n.latches)) found.0 (new_name ps l.name) found.1)
    where
      by : (i : ℕ) → (slice_get (take (length n.inputs) n.names) i ≡ Some (new_name ps l.name)) ⊎ ((k : ℕ) × (i ≡ length (take (length n.inputs) n.names) + k) × (slice_get (map (λ (x : LatchAt). new_name ps x.name) (take j n.latches)) k ≡ Some (new_name ps l.name))) → Other
      by i (inl h) = let low = slice_get-take (length n.inputs) n.names i (new_name ps l.name) h in in_front i (new_name ps l.name) low.0 low.1 refl
      by i (inr h) =
          let x = map_at (λ (x : LatchAt). new_name ps x.name) (take j n.latches) h.0 (new_name ps l.name) h.2 in
          let low = slice_get-take j n.latches h.0 x.0 x.1 in
          a_latch h.0 x.0 low.0 low.1 x.2

  -- two latches have two names
  apart : (k : ℕ) (x : LatchAt) → k < j → slice_get n.latches k ≡ Some x → x.name ≢ l.name
  apart k x low here same = let e = sound.distinct (length n.inputs + k) (length n.inputs + j) l.name (its_place k x here ∙ ap Some same) (its_place j l at) in omega (arith, e, low)

  pub some_left : Other → Contains (map (name_on A) ps) (new_name ps l.name)
  some_left o = by o (kept_or_left ps l.name)
    where
      by : Other → (new_name ps l.name ≡ l.name) ⊎ Contains (map (name_on A) ps) (new_name ps l.name) → Contains (map (name_on A) ps) (new_name ps l.name)
      by o (inr h) = h
      by (an_input p c s low here is) (inl kept) = let e = sound.distinct s (length n.inputs + j) l.name (here ∙ ap Some (is ∙ kept)) (its_place j l at) in absurd (omega (arith, e, low))
      by (a_latch k x low here is) (inl kept) = go (kept_or_left ps x.name)
        where
          go : (new_name ps x.name ≡ x.name) ⊎ Contains (map (name_on A) ps) (new_name ps x.name) → Contains (map (name_on A) ps) (new_name ps l.name)
          go (inl own) = absurd (apart k x low here (sym own ∙ is ∙ kept))
          go (inr h) = subst (Contains (map (name_on A) ps)) is h

  pub is_taken : (p : LatchPair) → p.left ≡ new_name ps l.name → Other → IsTaken n ps p
  is_taken p left (an_input q c s low here is) = inl (subst (Contains (map (λ (i : NetPort). i.name) n.inputs)) (is ∙ sym left) (Contains-map (λ (i : NetPort). i.name) n.inputs q c))
  is_taken p left (a_latch k x low here is) = by (bytes_eq l.name p.right) refl
    where
      by : (b : Bool) → bytes_eq l.name p.right ≡ b → IsTaken n ps p
      by false e = inr (l, of_at n.latches j l at, λ same. (let f = sym e ∙ (bytes_eq-Decides l.name p.right).1 same in cc), sym left)
      by true e = let same : l.name ≡ p.right = (bytes_eq-Decides l.name p.right).0 e in inr (x, of_at n.latches k x here, λ own. apart k x low here (own ∙ sym same), is ∙ sym left)

-- the circuit of a net under new names
gates_stay : {P : Type 0} (ps : List LatchPair) (f : NetGate → Equation P) (gs : List NetGate) → ((g : NetGate) → renamed_equation ps (f g) ≡ f g) → map (renamed_equation ps) (map f gs) ≡ map f gs
gates_stay ps f [] stays = refl
gates_stay {P} ps f (g ∷ gs) stays = ap (λ (e : Equation P). e ∷ map (renamed_equation ps) (map f gs)) (stays g) ∙ ap (λ (es : List (Equation P)). f g ∷ es) (gates_stay ps f gs stays)

map-append : {X Y : Type 0} (f : X → Y) (xs ys : List X) → map f (xs ++ ys) ≡ map f xs ++ map f ys
map-append f [] ys = refl
map-append f (x ∷ xs) ys = ap (λ zs. f x ∷ zs) (map-append f xs ys)

latches_renamed : (ps : List LatchPair) (ls : List LatchAt) → map equation_of_latch (map (renamed_latch ps) ls) ≡ map (renamed_equation ps) (map equation_of_latch ls)
latches_renamed ps [] = refl
latches_renamed ps (l ∷ ls) = ap (λ (es : List (Equation ℕ)). equation_of_latch (renamed_latch ps l) ∷ es) (latches_renamed ps ls)

pub equations_renamed : (ps : List LatchPair) (n : NetView) → map (equation_of_gate n.covers) n.gates ++ map equation_of_latch (map (renamed_latch ps) n.latches) ≡ (renamed ps (circuit_of n)).equations
equations_renamed ps n =
    ap (λ (es : List (Equation ℕ)). map (equation_of_gate n.covers) n.gates ++ es) (latches_renamed ps n.latches)
    ∙ ap (λ (es : List (Equation ℕ)). es ++ map (renamed_equation ps) (map equation_of_latch n.latches)) (sym (gates_stay ps (equation_of_gate n.covers) n.gates (λ g. refl)))
    ∙ sym (map-append (renamed_equation ps) (map (equation_of_gate n.covers) n.gates) (map equation_of_latch n.latches))

pub starts_stay : (ps : List LatchPair) (ls : List LatchAt) → filter_map (λ (l : LatchAt). start_of l.out.0 l.init) (map (renamed_latch ps) ls) ≡ filter_map (λ (l : LatchAt). start_of l.out.0 l.init) ls
starts_stay ps [] = refl
starts_stay ps (l ∷ ls) = ap (cons_option (start_of l.out.0 l.init)) (starts_stay ps ls)

-- what an equation asks it asks under a new name
holds_there : {P : Type 0} (ps : List LatchPair) (v : P → Bool) (e : Equation P) → Holds v e → Holds v (renamed_equation ps e)
holds_there ps v (Gate out fanins cover) h = h
holds_there ps v (Latch name out next) h = h
holds_there ps v (Port out from) h = h

holds_back : {P : Type 0} (ps : List LatchPair) (v : P → Bool) (e : Equation P) → Holds v (renamed_equation ps e) → Holds v e
holds_back ps v (Gate out fanins cover) h = h
holds_back ps v (Latch name out next) h = h
holds_back ps v (Port out from) h = h

carries_there : {P : Type 0} (ps : List LatchPair) (now later : P → Bool) (e : Equation P) → Carries now later e → Carries now later (renamed_equation ps e)
carries_there ps now later (Gate out fanins cover) h = h
carries_there ps now later (Latch name out next) h = h
carries_there ps now later (Port out from) h = h

carries_back : {P : Type 0} (ps : List LatchPair) (now later : P → Bool) (e : Equation P) → Carries now later (renamed_equation ps e) → Carries now later e
carries_back ps now later (Gate out fanins cover) h = h
carries_back ps now later (Latch name out next) h = h
carries_back ps now later (Port out from) h = h

-- what is said of all equations is said of them under new names, and the other way round
module _ {P : Type 0} (ps : List LatchPair) (F : Equation P → Type 0) (es : List (Equation P)) where
  all_there : ((e : Equation P) → F e → F (renamed_equation ps e)) → All F es → All F (map (renamed_equation ps) es)
  all_there there h = All-from_each F (map (renamed_equation ps) es) (λ e c. (let x = Contains-map_from (renamed_equation ps) es e c in subst F x.2 (there x.0 (All-contains F es x.0 h x.1))))

  all_back : ((e : Equation P) → F (renamed_equation ps e) → F e) → All F (map (renamed_equation ps) es) → All F es
  all_back back h = All-from_each F es (λ e c. back e (All-contains F (map (renamed_equation ps) es) (renamed_equation ps e) h (Contains-map (renamed_equation ps) es e c)))

pub runs_there : {P : Type 0} (ps : List LatchPair) (c : Circuit P) (n : ℕ) (run : ℕ → P → Bool) → IsRun c n run → IsRun (renamed ps c) n run
runs_there ps c n run is = record {
  meets = λ t low. all_there ps (Holds (run t)) c.equations (holds_there ps (run t)) (is.meets t low);
  carries = λ t low. all_there ps (Carries (run t) (run (t + 1))) c.equations (carries_there ps (run t) (run (t + 1))) (is.carries t low);
}

pub runs_back : {P : Type 0} (ps : List LatchPair) (c : Circuit P) (n : ℕ) (run : ℕ → P → Bool) → IsRun (renamed ps c) n run → IsRun c n run
runs_back ps c n run is = record {
  meets = λ t low. all_back ps (Holds (run t)) c.equations (holds_back ps (run t)) (is.meets t low);
  carries = λ t low. all_back ps (Carries (run t) (run (t + 1))) c.equations (carries_back ps (run t) (run (t + 1))) (is.carries t low);
}

pub keeps_runs : RenamingKeepsRuns
keeps_runs ps net n run = (runs_there ps (circuit_of net) n run, runs_back ps (circuit_of net) n run)
