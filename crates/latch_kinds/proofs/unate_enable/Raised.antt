-- What covers make of values that go one way.
use Rattle.std.proofs.Common.{◌≡◌, ◌≢◌, ◌∙◌, ◌+◌, ◌<◌, ◌==◌, ℕ, Bool, true, false, not, ◌&&◌, ◌||◌, true≢false, List, [], ◌∷◌, ◌++◌, length, map, take, get_or, slice_get, Option, Some, None, refl, sym, ap, subst, arith, inl, inr}
use Rattle.std.specs.Prelude.{◌⊎◌, if◌then◌else◌, unwrap_or}
use Rattle.std.specs.List.{All, Contains, list_any}
use Rattle.std.specs.List.Sorted.{IsStrictlyIncreasing}
use Rattle.std.proofs.lemmas.List.{take_more, length-take-le, map-append}
use Rattle.std.proofs.lemmas.List.Elements.{All-get_or, All-contains, All-head, All-tail}
use Rattle.std.proofs.lemmas.List.Folds.{list_any-append}
use Rattle.std.proofs.lemmas.Option.{same_Some, slice_get-get_or, get_or_from_slice_get}
use Rattle.circuit_theory.specs.Cover.{Cover, place_matches, row_matches, cover_value}
use Rattle.circuit_theory.specs.Circuit.{Circuit, Holds, Reads, Reaches, IsSource, Gate as gate_equation}
use Rattle.circuit_theory.proofs.Lists.{at_of, All-from_each, length-map}
use Rattle.circuit_theory.proofs.Sums.{same_or_not}
use Rattle.flat_net.specs.declared.signals.Signal.{Signal}
use Rattle.flat_net.specs.declared.parts.Gate.{Gate}
use Rattle.flat_net.specs.declared.parts.Driver.TheVariants as driver
use Rattle.flat_net.specs.View.{NetView, circuit_of, cover_of}
use Rattle.flat_net.specs.Sound.{IsSound}
use Rattle.latch_kinds.specs.declared.unate_enable.ways.Way.{Way}
use Rattle.latch_kinds.specs.unate_enable.Raises.{IsRaise, AreClosedTo, MayGo, GoOn, IsWayPut, PutsWay, still, both_ways, turned, at_place, way_in}
use Rattle.flat_net.proofs.Places.{one_at}
use Rattle.flat_net.proofs.Nets.{sound_is_net}
use Rattle.circuit_laws.proofs.NetLaws.{net_determined}
use Rattle.circuit_laws.proofs.SameMarks.{values_by_cone}
use Rattle.flat_net.proofs.Drivers.{gate_equation_stands, gate_reads_to, reads_lower, source_drives, no_input_gate}
use Rattle.latch_kinds.proofs.unate_enable.Literals.{stands_before}

-- what stays may go any way
pub go_equal : (w : Way) (a b : Bool) → a ≡ b → MayGo w a b
go_equal w a b e = record { up = λ f h. sym e ∙ h; down = λ f h. e ∙ h }

-- what goes neither way stays
pub go_still : (a b : Bool) → MayGo still a b → a ≡ b
go_still true b go = sym (go.up refl refl)
go_still false true go = go.down refl refl
go_still false false go = refl

or_false : (a b : Bool) → (a || b) ≡ false → (a ≡ false) × (b ≡ false)
or_false true b e = absurd (true≢false e)
or_false false b e = (refl, e)

and_true : (a b : Bool) → (a && b) ≡ true → (a ≡ true) × (b ≡ true)
and_true true b e = (refl, e)
and_true false b e = absurd (true≢false (sym e))

and_both : (a b : Bool) → a ≡ true → b ≡ true → (a && b) ≡ true
and_both true b p q = q
and_both false b p q = p

or_cases : (a b : Bool) → (a || b) ≡ true → (a ≡ true) ⊎ (b ≡ true)
or_cases true b e = inl refl
or_cases false b e = inr e

or_left : (a b : Bool) → a ≡ true → (a || b) ≡ true
or_left true b e = refl
or_left false b e = absurd (true≢false (sym e))

or_right : (a b : Bool) → b ≡ true → (a || b) ≡ true
or_right true b e = refl
or_right false b e = e

pub go_and : (v w : Way) (a b c d : Bool) → MayGo v a b → MayGo w c d → MayGo (both_ways v w) (a && c) (b && d)
go_and v w a b c d p q = record {
  up = λ f h. let fs = or_false v.falls w.falls f in let hs = and_true a c h in and_both b d (p.up fs.0 hs.0) (q.up fs.1 hs.1);
  down = λ f h. let fs = or_false v.rises w.rises f in let hs = and_true b d h in and_both a c (p.down fs.0 hs.0) (q.down fs.1 hs.1);
}

pub go_or : (v w : Way) (a b c d : Bool) → MayGo v a b → MayGo w c d → MayGo (both_ways v w) (a || c) (b || d)
go_or v w a b c d p q = record {
  up = λ f h. let fs = or_false v.falls w.falls f in elim (or_cases a c h) [ inl x ↦ or_left b d (p.up fs.0 x) | inr y ↦ or_right b d (q.up fs.1 y) ];
  down = λ f h. let fs = or_false v.rises w.rises f in elim (or_cases b d h) [ inl x ↦ or_left a c (p.down fs.0 x) | inr y ↦ or_right a c (q.down fs.1 y) ];
}

-- a complement goes the other way
not_on : (a b : Bool) → (b ≡ true → a ≡ true) → not a ≡ true → not b ≡ true
not_on a false back h = refl
not_on true true back h = h
not_on false true back h = absurd (true≢false (sym (back refl)))

pub go_not : (w : Way) (a b : Bool) → MayGo w a b → MayGo (turned w) (not a) (not b)
go_not w a b go = record { up = λ f h. not_on a b (go.down f) h; down = λ f h. not_on b a (go.up f) h }

-- a place's tests of its byte, where the value goes up, and where it goes down
rising : (w : Way) (dash one zero : Bool) → MayGo w false true → MayGo (if dash then still else (if one then w else turned w)) (dash || zero) (dash || one)
rising w true one zero go = go_equal still true true refl
rising w false true zero go = record { up = λ f h. refl; down = λ f h. absurd (true≢false (sym (go.down f refl))) }
rising w false false zero go = record { up = λ f h. absurd (true≢false (sym (go.down f refl))); down = λ f h. absurd (true≢false (sym h)) }

falling : (w : Way) (dash one zero : Bool) → MayGo w true false → MayGo (if dash then still else (if one then w else turned w)) (dash || one) (dash || zero)
falling w true one zero go = go_equal still true true refl
falling w false true zero go = record { up = λ f h. absurd (true≢false (sym (go.up f refl))); down = λ f h. refl }
falling w false false zero go = record { up = λ f h. absurd (true≢false (sym h)); down = λ f h. absurd (true≢false (sym (go.up f refl))) }

pub go_place : (p : ℕ) (w : Way) (a b : Bool) → MayGo w a b → MayGo (at_place p w) (place_matches p a) (place_matches p b)
go_place p w false false go = go_equal (at_place p w) (place_matches p false) (place_matches p false) refl
go_place p w true true go = go_equal (at_place p w) (place_matches p true) (place_matches p true) refl
go_place p w false true go = rising w (p == 45) (p == 49) (p == 48) go
go_place p w true false go = falling w (p == 45) (p == 49) (p == 48) go

and_one : (b : Bool) → b ≡ (true && b)
and_one b = refl

one_and : (b : Bool) → (b && true) ≡ b
one_and true = refl
one_and false = refl

and_regrouped : (a b c : Bool) → (a && (b && c)) ≡ ((a && b) && c)
and_regrouped true b c = refl
and_regrouped false b c = refl

-- one place more
row_push : (ps : List ℕ) (bs : List Bool) (p : ℕ) (b : Bool) → length ps ≡ length bs → row_matches (ps ++ p ∷ []) (bs ++ b ∷ []) ≡ (row_matches ps bs && place_matches p b)
row_push [] [] p b e = one_and (place_matches p b) ∙ and_one (place_matches p b)
row_push [] (c ∷ bs) p b e = absurd (omega arith)
row_push (q ∷ ps) [] p b e = absurd (omega arith)
row_push (q ∷ ps) (c ∷ bs) p b e = ap (λ r. place_matches q c && r) (row_push ps bs p b (omega arith)) ∙ and_regrouped (place_matches q c) (row_matches ps bs) (place_matches p b)

bits_more : (v : ℕ → Bool) (fanins : List Signal) (i : ℕ) (d : Signal) → i < length fanins → map v (map (λ (s : Signal). s.0) (take (i + 1) fanins)) ≡ map v (map (λ (s : Signal). s.0) (take i fanins)) ++ v (get_or fanins i d).0 ∷ []
bits_more v fanins i d inside =
    ap (λ (l : List Signal). map v (map (λ (s : Signal). s.0) l)) (take_more fanins i d inside)
    ∙ ap (map v) (map-append (λ (s : Signal). s.0) (take i fanins) (get_or fanins i d ∷ []))
    ∙ map-append v (map (λ (s : Signal). s.0) (take i fanins)) ((get_or fanins i d).0 ∷ [])

row_more : (v : ℕ → Bool) (fanins : List Signal) (row : List ℕ) (i : ℕ) (d : Signal) → length row ≡ length fanins → i < length fanins →
    row_matches (take (i + 1) row) (map v (map (λ (s : Signal). s.0) (take (i + 1) fanins))) ≡ (row_matches (take i row) (map v (map (λ (s : Signal). s.0) (take i fanins))) && place_matches (get_or row i 0) (v (get_or fanins i d).0))
row_more v fanins row i d same inside =
    ap (λ (l : List ℕ). row_matches l (map v (map (λ (s : Signal). s.0) (take (i + 1) fanins)))) (take_more row i 0 (omega (arith, same, inside)))
    ∙ ap (row_matches (take i row ++ get_or row i 0 ∷ [])) (bits_more v fanins i d inside)
    ∙ row_push (take i row) (map v (map (λ (s : Signal). s.0) (take i fanins))) (get_or row i 0) (v (get_or fanins i d).0)
    (length-take-le i row (omega (arith, same, inside)) ∙ sym (length-map v (map (λ (s : Signal). s.0) (take i fanins)) ∙ length-map (λ (s : Signal). s.0) (take i fanins) ∙ length-take-le i fanins (omega (arith, inside))))

module _ (ways : ℕ → Way) (fanins : List Signal) where
  -- each of the fan-ins goes its way
  abbrev pub GoAll : (ℕ → Bool) → (ℕ → Bool) → Type 0
  GoAll low high = All (λ (s : Signal). MayGo (ways s.0) (low s.0) (high s.0)) fanins

  pub row_step : (row : List ℕ) (i : ℕ) (d : Signal) (way : Way) → length row ≡ length fanins → i < length fanins → (low high : ℕ → Bool) → GoAll low high →
      MayGo way (row_matches (take i row) (map low (map (λ (s : Signal). s.0) (take i fanins)))) (row_matches (take i row) (map high (map (λ (s : Signal). s.0) (take i fanins)))) →
      MayGo (both_ways way (at_place (get_or row i 0) (ways (get_or fanins i d).0))) (row_matches (take (i + 1) row) (map low (map (λ (s : Signal). s.0) (take (i + 1) fanins))))
      (row_matches (take (i + 1) row) (map high (map (λ (s : Signal). s.0) (take (i + 1) fanins))))
  row_step row i d way same inside low high all before =
      let here : MayGo (ways (get_or fanins i d).0) (low (get_or fanins i d).0) (high (get_or fanins i d).0) = All-get_or (λ (s : Signal). MayGo (ways s.0) (low s.0) (high s.0)) fanins i d inside all in
      subst (λ (b : Bool). MayGo (both_ways way (at_place (get_or row i 0) (ways (get_or fanins i d).0))) b (row_matches (take (i + 1) row) (map high (map (λ (s : Signal). s.0) (take (i + 1) fanins))))) (sym (row_more low fanins row i d same inside))
      (subst (λ (b : Bool). MayGo (both_ways way (at_place (get_or row i 0) (ways (get_or fanins i d).0)))
      (row_matches (take i row) (map low (map (λ (s : Signal). s.0) (take i fanins))) && place_matches (get_or row i 0) (low (get_or fanins i d).0)) b) (sym (row_more high fanins row i d same inside))
      (go_and way (at_place (get_or row i 0) (ways (get_or fanins i d).0)) (row_matches (take i row) (map low (map (λ (s : Signal). s.0) (take i fanins)))) (row_matches (take i row) (map high (map (λ (s : Signal). s.0) (take i fanins))))
      (place_matches (get_or row i 0) (low (get_or fanins i d).0)) (place_matches (get_or row i 0) (high (get_or fanins i d).0)) before (go_place (get_or row i 0) (ways (get_or fanins i d).0) (low (get_or fanins i d).0) (high (get_or fanins i d).0) here)))

  any_more : (rows : List (List ℕ)) (i : ℕ) (bits : List Bool) → i < length rows → list_any (λ (row : List ℕ). row_matches row bits) (take (i + 1) rows) ≡ (list_any (λ (row : List ℕ). row_matches row bits) (take i rows) || row_matches (get_or rows i []) bits)
  any_more rows i bits inside =
      ap (list_any (λ (row : List ℕ). row_matches row bits)) (take_more rows i [] inside) ∙ list_any-append (λ (row : List ℕ). row_matches row bits) (take i rows) (get_or rows i [] ∷ [])
      ∙ ap (λ (b : Bool). list_any (λ (row : List ℕ). row_matches row bits) (take i rows) || b) (or_none (row_matches (get_or rows i []) bits))
    where
      or_none : (b : Bool) → (b || false) ≡ b
      or_none true = refl
      or_none false = refl

  pub rows_step : (rows : List (List ℕ)) (i : ℕ) (way more : Way) → i < length rows → GoOn ways fanins way (λ bits. list_any (λ row. row_matches row bits) (take i rows)) → GoOn ways fanins more (row_matches (get_or rows i [])) →
      GoOn ways fanins (both_ways way more) (λ bits. list_any (λ row. row_matches row bits) (take (i + 1) rows))
  rows_step rows i way more inside before here low high all =
      let xs : List Bool = map low (map (λ (s : Signal). s.0) fanins) in
      let ys : List Bool = map high (map (λ (s : Signal). s.0) fanins) in
      subst (λ (b : Bool). MayGo (both_ways way more) b (list_any (λ (row : List ℕ). row_matches row (map high (map (λ (s : Signal). s.0) fanins))) (take (i + 1) rows))) (sym (any_more rows i xs inside))
      (subst (λ (b : Bool). MayGo (both_ways way more)
      (list_any (λ (row : List ℕ). row_matches row (map low (map (λ (s : Signal). s.0) fanins))) (take i rows) || row_matches (get_or rows i []) (map low (map (λ (s : Signal). s.0) fanins))) b) (sym (any_more rows i ys inside))
      (go_or way more _ _ _ _ (before low high all) (here low high all)))

  -- a cover lists where the value is 1, or where it is 0
  pub cover_on : (cover : Cover) (way : Way) → cover.on ≡ true → GoOn ways fanins way (λ bits. list_any (λ row. row_matches row bits) cover.rows) → GoOn ways fanins way (cover_value cover)
  unfolding cover_value
  cover_on cover way on go low high all =
      subst (λ (b : Bool). MayGo way (if b then list_any (λ (row : List ℕ). row_matches row (map low (map (λ (s : Signal). s.0) fanins))) cover.rows else not (list_any (λ (row : List ℕ). row_matches row (map low (map (λ (s : Signal). s.0) fanins))) cover.rows))
      (if b then list_any (λ (row : List ℕ). row_matches row (map high (map (λ (s : Signal). s.0) fanins))) cover.rows else not (list_any (λ (row : List ℕ). row_matches row (map high (map (λ (s : Signal). s.0) fanins))) cover.rows))) (sym on)
      (go low high all)

  pub cover_off : (cover : Cover) (way : Way) → cover.on ≡ false → GoOn ways fanins way (λ bits. list_any (λ row. row_matches row bits) cover.rows) → GoOn ways fanins (turned way) (cover_value cover)
  unfolding cover_value
  cover_off cover way off go low high all =
      subst (λ (b : Bool). MayGo (turned way) (if b then list_any (λ (row : List ℕ). row_matches row (map low (map (λ (s : Signal). s.0) fanins))) cover.rows else not (list_any (λ (row : List ℕ). row_matches row (map low (map (λ (s : Signal). s.0) fanins))) cover.rows))
      (if b then list_any (λ (row : List ℕ). row_matches row (map high (map (λ (s : Signal). s.0) fanins))) cover.rows else not (list_any (λ (row : List ℕ). row_matches row (map high (map (λ (s : Signal). s.0) fanins))) cover.rows))) (sym off)
      (go_not way _ _ (go low high all))

-- a row that is read within the rows
pub row_read : (rows : List (List ℕ)) (i : ℕ) (row : List ℕ) → i < length rows → row ≡ get_or rows i row → row ≡ get_or rows i []
row_read rows i row within is = sym (get_or_from_slice_get rows i row [] (slice_get-get_or rows i row within ∙ ap Some (sym is)))

-- values that stay have functions that stay
pub all_still : (ways : ℕ → Way) (fanins : List Signal) (f : List Bool → Bool) → All (λ s. ways s.0 ≡ still) fanins → GoOn ways fanins still f
all_still ways fanins f each low high all =
    go_equal still (f (map low (map (λ (s : Signal). s.0) fanins))) (f (map high (map (λ (s : Signal). s.0) fanins))) (ap f (same fanins each all))
  where
    same : (ss : List Signal) → All (λ s. ways s.0 ≡ still) ss → All (λ s. MayGo (ways s.0) (low s.0) (high s.0)) ss → map low (map (λ (s : Signal). s.0) ss) ≡ map high (map (λ (s : Signal). s.0) ss)
    same [] e a = refl
    same (s ∷ ss) e a =
        let one : low s.0 ≡ high s.0 = go_still (low s.0) (high s.0) (subst (λ (w : Way). MayGo w (low s.0) (high s.0)) (All-head (λ (t : Signal). ways t.0 ≡ still) s ss e) (All-head (λ (t : Signal). MayGo (ways t.0) (low t.0) (high t.0)) s ss a)) in
        let rest = same ss (All-tail (λ (t : Signal). ways t.0 ≡ still) s ss e) (All-tail (λ (t : Signal). MayGo (ways t.0) (low t.0) (high t.0)) s ss a) in
        λ i. one i ∷ rest i

-- a way that is put
pub put_others : (old new : ℕ → Option Way) (s : ℕ) (w : Way) → IsWayPut old s w new → (q : ℕ) → q ≢ s → way_in new q ≡ way_in old q
put_others old new s w put q other = ap (λ (o : Option Way). unwrap_or o still) (put.others q other)

pub put_here : (old new : ℕ → Option Way) (s : ℕ) (w : Way) → IsWayPut old s w new → way_in new s ≡ w
put_here old new s w put = ap (λ (o : Option Way). unwrap_or o still) put.here

-- the first way is that of the latch
pub first_goes : (old new : ℕ → Option Way) (c : Circuit ℕ) (u : ℕ) → IsWayPut old u (record { rises = true; falls = false }) new → (low high : ℕ → Bool) → IsRaise c u low high → MayGo (way_in new u) (low u) (high u)
first_goes old new c u put low high raise =
    subst (λ (w : Way). MayGo w (low u) (high u)) (sym (put_here old new u (record { rises = true; falls = false }) put)) (record { up = λ f h. raise.high_is.put; down = λ f h. absurd (true≢false f) })

no_gate_latch : {i j : ℕ} → driver.Gate i ≡ driver.Latch j → ⊥
no_gate_latch e = cc

module _ (n : NetView) (sound : IsSound n) where
  -- what a gate drives is no source
  pub no_source : (s j : ℕ) → slice_get n.drivers s ≡ Some (driver.Gate j) → IsSource (circuit_of n) s → ⊥
  no_source s j drives source = elim (source_drives n sound s source) [ inl i ↦ no_input_gate (one_at n.drivers s _ _ i.1 drives) | inr l ↦ no_gate_latch (one_at n.drivers s _ _ drives l.1) ]

  -- the gate's signal goes its way
  pub gate_goes : (s j : ℕ) → slice_get n.drivers s ≡ Some (driver.Gate j) → (gate : Gate) → slice_get n.gates j ≡ Some gate → (ways : ℕ → Way) (way : Way) → GoOn ways gate.fanins way (cover_value (cover_of n.covers gate)) →
      (u : ℕ) (low high : ℕ → Bool) → IsRaise (circuit_of n) u low high → ((q : ℕ) → Reads (circuit_of n) s q → MayGo (ways q) (low q) (high q)) → MayGo way (low s) (high s)
  gate_goes s j drives gate at ways way go u low high raise reads =
      let stands = gate_equation_stands n sound s j drives gate at in
      let down : low s ≡ cover_value (cover_of n.covers gate) (map low (map (λ (f : Signal). f.0) gate.fanins)) =
      All-contains (Holds low) (circuit_of n).equations (gate_equation s (map (λ (f : Signal). f.0) gate.fanins) (cover_of n.covers gate)) raise.low_is.meets stands in
      let up : high s ≡ cover_value (cover_of n.covers gate) (map high (map (λ (f : Signal). f.0) gate.fanins)) =
      All-contains (Holds high) (circuit_of n).equations (gate_equation s (map (λ (f : Signal). f.0) gate.fanins) (cover_of n.covers gate)) raise.high_is.meets stands in
      let all = All-from_each (λ (f : Signal). MayGo (ways f.0) (low f.0) (high f.0)) gate.fanins (λ f h. reads f.0 (gate_reads_to n sound s j drives gate at f h)) in
      subst (λ (b : Bool). MayGo way b (high s)) (sym down) (subst (λ (b : Bool). MayGo way (cover_value (cover_of n.covers gate) (map low (map (λ (f : Signal). f.0) gate.fanins))) b) (sym up) (go low high all))

  -- what no way leads back from to the latch stays
  pub aside_stays : (u : ℕ) (low high : ℕ → Bool) → IsRaise (circuit_of n) u low high → (q : ℕ) → q < length n.drivers → (Reaches (circuit_of n) q u → ⊥) → low q ≡ high q
  aside_stays u low high raise q within aside =
      values_by_cone (circuit_of n) low high raise.low_is.meets raise.high_is.meets (net_determined (circuit_of n) (length n.drivers) (sound_is_net n sound) q within)
      (λ w cone. let other : w ≢ u = λ e. aside (subst (λ (p : ℕ). Reaches (circuit_of n) q p) e cone.1) in raise.low_is.sources w cone.0 other ∙ sym (raise.high_is.sources w cone.0 other))

  -- a source but the latch stays
  source_goes : (u : ℕ) (low high : ℕ → Bool) → IsRaise (circuit_of n) u low high → (s : ℕ) → IsSource (circuit_of n) s → s ≢ u → (w : Way) → MayGo w (low s) (high s)
  source_goes u low high raise s source other w = go_equal w (low s) (high s) (raise.low_is.sources s source other ∙ sym (raise.high_is.sources s source other))

  -- the way of the latch itself stays while others are put
  pub own_stays : (s : ℕ) (old new : ℕ → Way) → PutsWay (circuit_of n) s old new → (u : ℕ) → IsSource (circuit_of n) u → new u ≡ old u
  own_stays s old new puts u source = by (same_or_not u s)
    where
      here : u ≡ s → (IsSource (circuit_of n) s × (new s ≡ old s)) ⊎ ((IsSource (circuit_of n) s → ⊥) × ((v : ℕ) (low high : ℕ → Bool) → IsRaise (circuit_of n) v low high → ((q : ℕ) → Reads (circuit_of n) s q → MayGo (old q) (low q) (high q)) → MayGo (new s) (low s) (high s))) → new u ≡ old u
      here e (inl kept) = ap new e ∙ kept.1 ∙ ap old (sym e)
      here e (inr gate) = absurd (gate.0 (subst (IsSource (circuit_of n)) e source))

      by : (u ≡ s) ⊎ (u ≢ s) → new u ≡ old u
      by (inl e) = here e puts.here
      by (inr other) = puts.others u other

  -- one signal more goes its way
  module _ (signals : List ℕ) (increasing : IsStrictlyIncreasing signals) (i s : ℕ) (at : slice_get signals i ≡ Some s) (here : Contains signals s) (inside : s < length n.drivers) (old new : ℕ → Way)
      (puts : PutsWay (circuit_of n) s old new) (u : ℕ) (low high : ℕ → Bool) (source : IsSource (circuit_of n) u) (raise : IsRaise (circuit_of n) u low high) (closed : AreClosedTo (circuit_of n) u signals) (own : MayGo (old u) (low u) (high u))
      (before : (k q : ℕ) → k < i → slice_get signals k ≡ Some q → MayGo (old q) (low q) (high q)) where
    reads_go : (q : ℕ) → Reads (circuit_of n) s q → MayGo (old q) (low q) (high q)
    reads_go q reads = by (closed s q here reads)
      where
        lower : q < s
        lower = reads_lower n sound s q reads

        by : Contains signals q ⊎ (Reaches (circuit_of n) q u → ⊥) → MayGo (old q) (low q) (high q)
        by (inl h) = let k = at_of signals q h in before k.0 q (stands_before signals increasing i k.0 s q at k.1 lower) k.1
        by (inr aside) = go_equal (old q) (low q) (high q) (aside_stays u low high raise q (omega (arith, lower, inside)) aside)

    own_new : MayGo (new u) (low u) (high u)
    own_new = subst (λ (w : Way). MayGo w (low u) (high u)) (sym (own_stays s old new puts u source)) own

    this : MayGo (new s) (low s) (high s)
    this = by puts.here
      where
        of_source : IsSource (circuit_of n) s → (s ≡ u) ⊎ (s ≢ u) → MayGo (new s) (low s) (high s)
        of_source is (inl e) = subst (λ (k : ℕ). MayGo (new k) (low k) (high k)) (sym e) own_new
        of_source is (inr other) = source_goes u low high raise s is other (new s)

        by : (IsSource (circuit_of n) s × (new s ≡ old s)) ⊎ ((IsSource (circuit_of n) s → ⊥) × ((v : ℕ) (lo hi : ℕ → Bool) → IsRaise (circuit_of n) v lo hi → ((q : ℕ) → Reads (circuit_of n) s q → MayGo (old q) (lo q) (hi q)) → MayGo (new s) (lo s) (hi s))) → MayGo (new s) (low s) (high s)
        by (inl kept) = of_source kept.0 (same_or_not s u)
        by (inr gate) = gate.1 u low high raise reads_go

    pub goes_more : (k q : ℕ) → k < i + 1 → slice_get signals k ≡ Some q → MayGo (new q) (low q) (high q)
    goes_more k q below there = by (same_or_not q s)
      where
        order : (k : ℕ) → k < i + 1 → (k < i) ⊎ (k ≡ i)
        order k l = grind arith

        earlier : q ≢ s → (k < i) ⊎ (k ≡ i) → MayGo (new q) (low q) (high q)
        earlier other (inl less) = subst (λ (w : Way). MayGo w (low q) (high q)) (sym (puts.others q other)) (before k q less there)
        earlier other (inr e) = absurd (other (same_Some q s (sym there ∙ ap (slice_get signals) e ∙ at)))

        by : (q ≡ s) ⊎ (q ≢ s) → MayGo (new q) (low q) (high q)
        by (inl e) = subst (λ (p : ℕ). MayGo (new p) (low p) (high p)) (sym e) this
        by (inr other) = earlier other (order k below)
