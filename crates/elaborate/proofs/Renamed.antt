-- A net that is a design with its places numbered has the design's runs.
use Rattle.std.proofs.Common.{◌≡◌, ℕ, suc, ◌+◌, ◌<◌, Bool, List, [], ◌∷◌, map, refl, sym, ◌∙◌, ap, subst, Some, slice_get}
use Rattle.std.specs.List.{All, Contains}
use Rattle.std.proofs.lemmas.List.Elements.{All-map, All-contains}
use Rattle.circuit_theory.specs.Cover.{cover_value}
use Rattle.circuit_theory.specs.Circuit.{Circuit, Equation, Gate, Latch, Port, Named, IsInput, Holds, Carries, out_of}
use Rattle.circuit_theory.specs.Places.{IsPlace}
use Rattle.circuit_theory.specs.Joined.{moved, moved_name}
use Rattle.circuit_theory.specs.Run.{Marked, NoneEnabled}
use Rattle.circuit_theory.specs.Flattened.{IsFlattened, Follows, latch_names}
use Rattle.circuit_theory.proofs.Lists.{map-map, map_same, Contains-map, Contains-map_from, All-from_each, of_at}
use Rattle.circuit_theory.proofs.Numbers.{slice_get-map}
use Rattle.elaborate.specs.Renaming.{IsBelow, IsRenaming}

holds_down : {P : Type 0} (origin : ℕ → P) (v : P → Bool) (e : Equation ℕ) → Holds v (moved origin e) → Holds (λ s. v (origin s)) e
holds_down origin v (Gate out fanins cover) h = h ∙ ap (cover_value cover) (map-map v origin fanins)
holds_down origin v (Latch name out next) h = tt
holds_down origin v (Port out from) h = h

carries_down : {P : Type 0} (origin : ℕ → P) (now later : P → Bool) (e : Equation ℕ) → Carries now later (moved origin e) → Carries (λ s. now (origin s)) (λ s. later (origin s)) e
carries_down origin now later (Gate out fanins cover) h = tt
carries_down origin now later (Latch name out next) h = h
carries_down origin now later (Port out from) h = tt

holds_up : {P : Type 0} (origin : ℕ → P) (number : P → ℕ) (size : ℕ) (back : (s : ℕ) → s < size → number (origin s) ≡ s) (v : ℕ → Bool) (e : Equation ℕ) →
    IsBelow size e → Holds v e → Holds (λ p. v (number p)) (moved origin e)
holds_up origin number size back v (Gate out fanins cover) below h =
    ap v (back out below.0) ∙ h
    ∙ ap (cover_value cover) (sym (map-map (λ p. v (number p)) origin fanins ∙ map_same (λ s. v (number (origin s))) v fanins (λ f k. ap v (back f (below.1 f k)))))
holds_up origin number size back v (Latch name out next) below h = tt
holds_up origin number size back v (Port out from) below h = ap v (back out below.0) ∙ h ∙ sym (ap v (back from below.1))

carries_up : {P : Type 0} (origin : ℕ → P) (number : P → ℕ) (size : ℕ) (back : (s : ℕ) → s < size → number (origin s) ≡ s) (now later : ℕ → Bool) (e : Equation ℕ) →
    IsBelow size e → Carries now later e → Carries (λ p. now (number p)) (λ p. later (number p)) (moved origin e)
carries_up origin number size back now later (Gate out fanins cover) below h = tt
carries_up origin number size back now later (Latch name out next) below h = ap later (back out below.0) ∙ h ∙ sym (ap now (back next below.1))
carries_up origin number size back now later (Port out from) below h = tt

moved_names : {P : Type 0} (origin : ℕ → P) (es : List (Equation ℕ)) → latch_names (map (moved origin) es) ≡ latch_names es
moved_names origin [] = refl
moved_names origin (Gate out fanins cover ∷ es) = moved_names origin es
moved_names origin (Latch name out next ∷ es) = ap (λ (ns : List (List ℕ)). name ∷ ns) (moved_names origin es)
moved_names origin (Port out from ∷ es) = moved_names origin es

some_is : {X : Type 0} (x y : X) → Some x ≡ Some y → x ≡ y
some_is x y e = cc

-- an equation of the design is one of the net, renamed
equation_of_net : {P : Type 0} (d : Circuit P) (net : Circuit ℕ) (size : ℕ) (origin : ℕ → P) (number : P → ℕ) → IsRenaming d net size origin number → (e : Equation P) → Contains d.equations e →
    (x : Equation ℕ) × Contains net.equations x × (moved origin x ≡ e)
equation_of_net {P} d net size origin number r e h = Contains-map_from (moved origin) net.equations e (subst (λ (es : List (Equation P)). Contains es e) (sym r.equations) h)

-- the signal of an input's place is an input
input_down : {P : Type 0} (d : Circuit P) (net : Circuit ℕ) (size : ℕ) (origin : ℕ → P) (number : P → ℕ) → IsRenaming d net size origin number →
    (s : ℕ) → s < size → IsInput d (origin s) → IsInput net s
input_down {P} d net size origin number r s k h =
    let found = Contains-map_from (moved_name origin) net.inputs (record { name = h.0; place = origin s }) (subst (λ (is : List (Named P)). Contains is (record { name = h.0; place = origin s })) (sym r.inputs) h.1) in
    let below : found.0.place < size = All-contains (λ (i : Named ℕ). i.place < size) net.inputs found.0 r.inputs_below found.1 in
    let same : found.0.place ≡ s = sym (r.back found.0.place below) ∙ ap number (ap (λ (n : Named P). n.place) found.2) ∙ r.back s k in
    (found.0.name, subst (λ (q : ℕ). Contains net.inputs (record { name = found.0.name; place = q })) same found.1)

-- a mark of the design at a signal's place is a mark of the net
pub marks_down : {P : Type 0} (d : Circuit P) (net : Circuit ℕ) (size : ℕ) (origin : ℕ → P) (number : P → ℕ) → IsRenaming d net size origin number → (run : ℕ → P → Bool) {t : ℕ} {p : P} →
    Marked d NoneEnabled run t p → (s : ℕ) → s < size → origin s ≡ p → Marked net NoneEnabled (λ t s. run t (origin s)) t s
marks_down {P} d net size origin number r run (Marked.input {p = p} h) s k e =
    Marked.input (input_down d net size origin number r s k (subst (λ (q : P). IsInput d q) (sym e) h))
marks_down {P} d net size origin number r run (Marked.gate {t = t} {out = out} {fanins = fanins} {cover = cover} eq each) s k e =
    by_net (equation_of_net d net size origin number r (Gate out fanins cover) eq) (λ f h. marks_down d net size origin number r run (each f h))
  where
    by_net : ((x : Equation ℕ) × Contains net.equations x × (moved origin x ≡ Gate out fanins cover)) →
        ((f : P) → Contains fanins f → (q : ℕ) → q < size → origin q ≡ f → Marked net NoneEnabled (λ t s. run t (origin s)) t q) → Marked net NoneEnabled (λ t s. run t (origin s)) t s
    by_net (Gate out' fanins' cover', at, same) ih =
        let below : IsBelow size (Gate out' fanins' cover') = All-contains (IsBelow size) net.equations (Gate out' fanins' cover') r.below at in
        let outs : origin out' ≡ out = cc in
        let reads : map origin fanins' ≡ fanins = cc in
        let one : out' ≡ s = sym (r.back out' below.0) ∙ ap number (outs ∙ sym e) ∙ r.back s k in
        subst (λ (q : ℕ). Marked net NoneEnabled (λ t s. run t (origin s)) t q) one
        (Marked.gate at (λ q h. ih (origin q) (subst (λ (fs : List P). Contains fs (origin q)) reads (Contains-map origin fanins' q h)) q (below.1 q h) refl))
    by_net (Latch name' out' next', at, same) ih = absurd (cc)
    by_net (Port out' from', at, same) ih = absurd (cc)
marks_down {P} d net size origin number r run (Marked.port {t = t} {out = out} {from = from} eq rest) s k e =
    by_net (equation_of_net d net size origin number r (Port out from) eq) (marks_down d net size origin number r run rest)
  where
    by_net : ((x : Equation ℕ) × Contains net.equations x × (moved origin x ≡ Port out from)) →
        ((q : ℕ) → q < size → origin q ≡ from → Marked net NoneEnabled (λ t s. run t (origin s)) t q) → Marked net NoneEnabled (λ t s. run t (origin s)) t s
    by_net (Gate out' fanins' cover', at, same) ih = absurd (cc)
    by_net (Latch name' out' next', at, same) ih = absurd (cc)
    by_net (Port out' from', at, same) ih =
        let below : IsBelow size (Port out' from') = All-contains (IsBelow size) net.equations (Port out' from') r.below at in
        let outs : origin out' ≡ out = cc in
        let froms : origin from' ≡ from = cc in
        let one : out' ≡ s = sym (r.back out' below.0) ∙ ap number (outs ∙ sym e) ∙ r.back s k in
        subst (λ (q : ℕ). Marked net NoneEnabled (λ t s. run t (origin s)) t q) one (Marked.port at (ih from' below.1 froms))
marks_down {P} d net size origin number r run (Marked.plain {t = t} {name = name} {out = out} {next = next} latch free rest) s k e =
    by_net (equation_of_net d net size origin number r (Latch name out next) latch) (marks_down d net size origin number r run rest)
  where
    by_net : ((x : Equation ℕ) × Contains net.equations x × (moved origin x ≡ Latch name out next)) →
        ((q : ℕ) → q < size → origin q ≡ next → Marked net NoneEnabled (λ t s. run t (origin s)) t q) → Marked net NoneEnabled (λ t s. run t (origin s)) (suc t) s
    by_net (Gate out' fanins' cover', at, same) ih = absurd (cc)
    by_net (Port out' from', at, same) ih = absurd (cc)
    by_net (Latch name' out' next', at, same) ih =
        let below : IsBelow size (Latch name' out' next') = All-contains (IsBelow size) net.equations (Latch name' out' next') r.below at in
        let outs : origin out' ≡ out = cc in
        let nexts : origin next' ≡ next = cc in
        let one : out' ≡ s = sym (r.back out' below.0) ∙ ap number (outs ∙ sym e) ∙ r.back s k in
        subst (λ (q : ℕ). Marked net NoneEnabled (λ t s. run t (origin s)) (suc t) q) one (Marked.plain at (λ e. e) (ih next' below.1 nexts))
marks_down {P} d net size origin number r run (Marked.loads latch on others loads) s k e = absurd on
marks_down {P} d net size origin number r run (Marked.keeps latch on others kept) s k e = absurd on

-- the net's runs are the design's
pub renamed_is_flattened : {P : Type 0} (d : Circuit P) (net : Circuit ℕ) (size : ℕ) (origin : ℕ → P) (number : P → ℕ) (clocked is_place : P → Type 0) →
    IsRenaming d net size origin number → ((p : P) → (clocked p → ⊥) → is_place p → (s : ℕ) × (s < size) × (origin s ≡ p)) →
    IsFlattened d net size clocked is_place origin
renamed_is_flattened {P} d net size origin number clocked is_place r placed = record {
  inputs = r.inputs;
  outputs = sym (map-map (λ (o : Named P). o.name) (moved_name origin) net.outputs) ∙ ap (λ (os : List (Named P)). map (λ (o : Named P). o.name) os) r.outputs;
  output_is = λ i o s ho hs. same_place i o s ho hs;
  latches = sym (moved_names origin net.equations) ∙ ap latch_names r.equations;
  down = λ n run is_run. record {
    meets = λ t h. All-from_each _ net.equations (λ e k. holds_down origin (run t) e (at_moved (Holds (run t)) e k (is_run.meets t h)));
    carries = λ t h. All-from_each _ net.equations (λ e k. carries_down origin (run t) (run (t + 1)) e (at_moved (Carries (run t) (run (t + 1))) e k (is_run.carries t h)));
  };
  up = λ n run is_run. (
    (λ t p. run t (number p)),
    record {
      meets = λ t h. subst (All (Holds (λ p. run t (number p)))) r.equations (All-map (Holds (λ p. run t (number p))) (moved origin) net.equations (All-from_each (λ e. Holds (λ p. run t (number p)) (moved origin e)) net.equations (λ e k.
          holds_up origin number size r.back (run t) e (All-contains (IsBelow size) net.equations e r.below k) (All-contains (Holds (run t)) net.equations e (is_run.meets t h) k))));
      carries = λ t h. subst (All (Carries (λ p. run t (number p)) (λ p. run (t + 1) (number p)))) r.equations (All-map (Carries (λ p. run t (number p)) (λ p. run (t + 1) (number p))) (moved origin) net.equations (All-from_each (λ e. Carries (λ p. run t (number p)) (λ p. run (t + 1) (number p)) (moved origin e)) net.equations (λ e k.
          carries_up origin number size r.back (run t) (run (t + 1)) e (All-contains (IsBelow size) net.equations e r.below k) (All-contains (Carries (run t) (run (t + 1))) net.equations e (is_run.carries t h) k))));
    },
    λ t s h k. ap (run t) (r.back s k),
  );
  settled = λ n run is_run t i o s h ho hs mark.
      let e : moved_name origin s ≡ o = some_is _ _ (sym (slice_get-map (moved_name origin) net.outputs i s hs) ∙ ap (λ (os : List (Named P)). slice_get os i) r.outputs ∙ ho) in
      marks_down d net size origin number r run mark s.place (All-contains (λ (o : Named ℕ). o.place < size) net.outputs s r.outputs_below (of_at net.outputs i s hs)) (ap (λ (n : Named P). n.place) e);
  one = λ n u v is_u is_v same t p h free at_place. let found = placed p free at_place in
      ap (u t) (sym found.2) ∙ same t found.0 h found.1 ∙ ap (v t) found.2;
}
  where
    at_moved : (F : Equation P → Type 0) (e : Equation ℕ) → Contains net.equations e → All F d.equations → F (moved origin e)
    at_moved F e k all = All-contains F d.equations (moved origin e) all (subst (λ (es : List (Equation P)). Contains es (moved origin e)) r.equations (Contains-map (moved origin) net.equations e k))

    same_place : (i : ℕ) (o : Named P) (s : Named ℕ) → slice_get d.outputs i ≡ Some o → slice_get net.outputs i ≡ Some s → Follows d o.place (origin s.place)
    same_place i o s ho hs =
        let e : moved_name origin s ≡ o = some_is _ _ (sym (slice_get-map (moved_name origin) net.outputs i s hs) ∙ ap (λ (os : List (Named P)). slice_get os i) r.outputs ∙ ho) in
        subst (λ (q : P). Follows d q (origin s.place)) (ap (λ (n : Named P). n.place) e) Follows.here

-- each place of the design is that of a place of the net
pub renamed_places : {P : Type 0} (d : Circuit P) (net : Circuit ℕ) (size : ℕ) (origin : ℕ → P) (number : P → ℕ) → IsRenaming d net size origin number →
    (p : P) → IsPlace d p → (s : ℕ) × (s < size) × (origin s ≡ p) × IsPlace net s
renamed_places {P} d net size origin number r p (IsPlace.input h) =
    let found = Contains-map_from (moved_name origin) net.inputs (record { name = h.0; place = p }) (subst (λ (is : List (Named P)). Contains is (record { name = h.0; place = p })) (sym r.inputs) h.1) in
    (found.0.place, All-contains (λ (i : Named ℕ). i.place < size) net.inputs found.0 r.inputs_below found.1, ap (λ (n : Named P). n.place) found.2, IsPlace.input (found.0.name, found.1))
renamed_places {P} d net size origin number r p (IsPlace.output {name = name} h) =
    let found = Contains-map_from (moved_name origin) net.outputs (record { name = name; place = p }) (subst (λ (os : List (Named P)). Contains os (record { name = name; place = p })) (sym r.outputs) h) in
    (found.0.place, All-contains (λ (o : Named ℕ). o.place < size) net.outputs found.0 r.outputs_below found.1, ap (λ (n : Named P). n.place) found.2, IsPlace.output {name = found.0.name} found.1)
renamed_places {P} d net size origin number r p (IsPlace.driven {e = e} h same) = by_net (equation_of_net d net size origin number r e h)
  where
    by_net : ((x : Equation ℕ) × Contains net.equations x × (moved origin x ≡ e)) → (s : ℕ) × (s < size) × (origin s ≡ p) × IsPlace net s
    by_net (Gate out fanins cover, at, q) = (out, (All-contains (IsBelow size) net.equations (Gate out fanins cover) r.below at).0, ap out_of q ∙ same, IsPlace.driven at refl)
    by_net (Latch name out next, at, q) = (out, (All-contains (IsBelow size) net.equations (Latch name out next) r.below at).0, ap out_of q ∙ same, IsPlace.driven at refl)
    by_net (Port out from, at, q) = (out, (All-contains (IsBelow size) net.equations (Port out from) r.below at).0, ap out_of q ∙ same, IsPlace.driven at refl)
renamed_places {P} d net size origin number r p (IsPlace.fanin {out = out} {fanins = fanins} {cover = cover} h reads) = by_net (equation_of_net d net size origin number r (Gate out fanins cover) h)
  where
    by_net : ((x : Equation ℕ) × Contains net.equations x × (moved origin x ≡ Gate out fanins cover)) → (s : ℕ) × (s < size) × (origin s ≡ p) × IsPlace net s
    by_net (Gate out' fanins' cover', at, q) =
        let below : IsBelow size (Gate out' fanins' cover') = All-contains (IsBelow size) net.equations (Gate out' fanins' cover') r.below at in
        let fans : map origin fanins' ≡ fanins = cc in
        let found = Contains-map_from origin fanins' p (subst (λ (fs : List P). Contains fs p) (sym fans) reads) in
        (found.0, below.1 found.0 found.1, found.2, IsPlace.fanin at found.1)
    by_net (Latch name' out' next', at, q) = absurd (cc)
    by_net (Port out' from', at, q) = absurd (cc)
renamed_places {P} d net size origin number r p (IsPlace.next {name = name} {out = out} h) = by_net (equation_of_net d net size origin number r (Latch name out p) h)
  where
    by_net : ((x : Equation ℕ) × Contains net.equations x × (moved origin x ≡ Latch name out p)) → (s : ℕ) × (s < size) × (origin s ≡ p) × IsPlace net s
    by_net (Gate out' fanins' cover', at, q) = absurd (cc)
    by_net (Port out' from', at, q) = absurd (cc)
    by_net (Latch name' out' next', at, q) =
        let below : IsBelow size (Latch name' out' next') = All-contains (IsBelow size) net.equations (Latch name' out' next') r.below at in
        (next', below.1, cc, IsPlace.next {name = name'} {out = out'} at)
renamed_places {P} d net size origin number r p (IsPlace.from {out = out} h) = by_net (equation_of_net d net size origin number r (Port out p) h)
  where
    by_net : ((x : Equation ℕ) × Contains net.equations x × (moved origin x ≡ Port out p)) → (s : ℕ) × (s < size) × (origin s ≡ p) × IsPlace net s
    by_net (Gate out' fanins' cover', at, q) = absurd (cc)
    by_net (Latch name' out' next', at, q) = absurd (cc)
    by_net (Port out' from', at, q) =
        let below : IsBelow size (Port out' from') = All-contains (IsBelow size) net.equations (Port out' from') r.below at in
        (from', below.1, cc, IsPlace.from {out = out'} at)
