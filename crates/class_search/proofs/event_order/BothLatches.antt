-- The latches of two circuits side by side, and the order of the enabled ones.
use Rattle.std.proofs.Common.{◌≡◌, ◌∙◌, ◌+◌, ◌^◌, ◌<◌, ℕ, List, [], ◌∷◌, ◌++◌, length, map, slice_get, Option, Some, None, refl, sym, ap, subst, arith, inl, inr}
use Rattle.std.specs.Prelude.{◌⊎◌, MatchOption, Contains, All}
use Rattle.std.specs.List.{AllZip, filter_map}
use Rattle.std.proofs.lemmas.List.{length-append}
use Rattle.std.proofs.lemmas.Option.{get_or_from_slice_get, slice_get_within}
use Rattle.circuit_theory.specs.Circuit.{Circuit, Equation, Latch as latch_equation}
use Rattle.circuit_theory.specs.Cone.{latches_of, latch_place}
use Rattle.circuit_theory.specs.Cover.{Cover}
use Rattle.circuit_theory.specs.Depth.{IsDepth}
use Rattle.circuit_theory.specs.Joined.{Either, Left, Right, moved, joined}
use Rattle.circuit_theory.specs.Run.{IsEnabled}
use Rattle.circuit_theory.proofs.Lists.{All-from_each, Contains-map, Contains-map_from, at_of, of_at, zip_length, zip_right, length-map, map_at}
use Rattle.circuit_theory.proofs.Numbers.{slice_get-map}
use Rattle.circuit_laws.proofs.Pairs.{filter_map-has}
use Rattle.circuit_laws.proofs.JoinedParts.{left_one, right_one, left_is_not_right}
use Rattle.circuit_theory.specs.Classes.{IsLatchOrder}
use Rattle.circuit_theory.specs.EventFits.{side_by_side}
use Rattle.circuit_laws.specs.event_laws.Laws.{SidesAreParts}
use Rattle.circuit_laws.proofs.event_laws.SideParts.{sides_are_parts_in_nets}
use Rattle.flat_net.specs.declared.parts.Driver.TheVariants as driver
use Rattle.flat_net.specs.declared.parts.Gate.{Gate}
use Rattle.flat_net.specs.declared.parts.LatchAt.{LatchAt}
use Rattle.flat_net.specs.Cut.{no_latch}
use Rattle.flat_net.specs.Sound.{IsSound}
use Rattle.flat_net.specs.View.{NetView, circuit_of, equation_of_gate, equation_of_latch}
use Rattle.flat_net.proofs.CutNets.{slice_get-append_cases, slice_get-append_right}
use Rattle.flat_net.proofs.Growth.{slice_get-append}
use Rattle.flat_net.proofs.Nets.{some_at, sound_is_net}
use Rattle.flat_net.proofs.Places.{one_at}
use Rattle.sec_base.specs.declared.basics.Tag.{Tag}
use Rattle.class_search.specs.declared.event_order.turns.Turn.{Turn}
use Rattle.class_search.specs.event_order.Order.{IsTagOf, place_of}
use Rattle.class_search.specs.event_order.Turns.{TurnBefore, AreTurns, IsEnabledDepth, IsTagAt}
use Rattle.class_search.proofs.event_order.Pairs.{pair_at, pairs_mapped}

no_gates : (f : ℕ → Either ℕ ℕ) (covers : List Cover) (gates : List Gate) (es : List (Equation ℕ)) (more : List (Equation (Either ℕ ℕ))) →
    filter_map latch_place (map (moved f) (map (equation_of_gate covers) gates ++ es) ++ more) ≡ filter_map latch_place (map (moved f) es ++ more)
no_gates f covers [] es more = refl
no_gates f covers (g ∷ gates) es more = no_gates f covers gates es more

all_latches : (f : ℕ → Either ℕ ℕ) (ls : List LatchAt) (more : List (Equation (Either ℕ ℕ))) →
    filter_map latch_place (map (moved f) (map equation_of_latch ls) ++ more) ≡ map (λ (l : LatchAt). f l.out.0) ls ++ filter_map latch_place more
all_latches f [] more = refl
all_latches f (l ∷ ls) more = ap (λ (ps : List (Either ℕ ℕ)). f l.out.0 ∷ ps) (all_latches f ls more)

gates_left_out : (f : ℕ → Either ℕ ℕ) (covers : List Cover) (gates : List Gate) (es : List (Equation ℕ)) → filter_map latch_place (map (moved f) (map (equation_of_gate covers) gates ++ es)) ≡ filter_map latch_place (map (moved f) es)
gates_left_out f covers [] es = refl
gates_left_out f covers (g ∷ gates) es = gates_left_out f covers gates es

only_latches : (f : ℕ → Either ℕ ℕ) (ls : List LatchAt) → filter_map latch_place (map (moved f) (map equation_of_latch ls)) ≡ map (λ (l : LatchAt). f l.out.0) ls
only_latches f [] = refl
only_latches f (l ∷ ls) = ap (λ (ps : List (Either ℕ ℕ)). f l.out.0 ∷ ps) (only_latches f ls)

-- latches of a net that drive one signal are one
same_position : (n : NetView) → IsSound n → (i j : ℕ) (l m : LatchAt) → slice_get n.latches i ≡ Some l → slice_get n.latches j ≡ Some m → l.out.0 ≡ m.out.0 → i ≡ j
same_position n sound i j l m at to same = index (one_at n.drivers l.out.0 (driver.Latch i) (driver.Latch j) (sound.latches i l at).owner (ap (slice_get n.drivers) same ∙ (sound.latches j m to).owner))
  where
    index : driver.Latch i ≡ driver.Latch j → i ≡ j
    index e = cc

one_depth : {P : Type 0} (c : Circuit P) (enabled : P → Type 0) (p : P) (d e : ℕ) → IsDepth c enabled p d → IsDepth c enabled p e → d ≡ e
one_depth c enabled p d e x y = let low = y.greatest d x.reached in let high = x.greatest e y.reached in omega (arith, low, high)

-- the places of turns among the latches of both
pub numbers_low : (a b : NetView) → IsSound b → (ls rs : List (Option ℕ)) → AllZip (IsEnabledDepth (circuit_of a)) a.latches ls → AllZip (IsEnabledDepth (circuit_of b)) b.latches rs → (turns : List Turn) (read : List LatchAt) → read ≡ a.latches → AreTurns (ls ++ rs) turns →
    All (λ (t : Turn). t.number < length read + 2 ^ 32) turns
numbers_low a b sound ls rs left_are right_are turns read same are =
    All-from_each (λ (t : Turn). t.number < length read + 2 ^ 32) turns (λ t h.
    let w = slice_get_within (ls ++ rs) t.number (Some t.depth) (are.each t h) in
    let p = zip_length (IsEnabledDepth (circuit_of a)) a.latches ls left_are in
    let q = zip_length (IsEnabledDepth (circuit_of b)) b.latches rs right_are in
    let e = ap length same in
    omega (arith, w, p, q, e, length-append ls rs, sound.few_latches, sound.few))

module _ (a b : NetView) (sound_a : IsSound a) (sound_b : IsSound b) where
  abbrev Both : Circuit (Either ℕ ℕ)
  Both = joined (circuit_of a) (circuit_of b)

  abbrev left_place : LatchAt → Either ℕ ℕ
  left_place l = Left l.out.0

  abbrev right_place : LatchAt → Either ℕ ℕ
  right_place l = Right l.out.0

  abbrev places : List (Either ℕ ℕ)
  places = map left_place a.latches ++ map right_place b.latches

  places_are : latches_of Both ≡ places
  places_are =
      no_gates Left a.covers a.gates (map equation_of_latch a.latches) (map (moved Right) (circuit_of b).equations)
      ∙ (all_latches Left a.latches (map (moved Right) (circuit_of b).equations)
      ∙ ap (λ (ps : List (Either ℕ ℕ)). map left_place a.latches ++ ps) (gates_left_out Right b.covers b.gates (map equation_of_latch b.latches) ∙ only_latches Right b.latches))

  -- the latch at a place among those of both circuits
  abbrev IsAtPlace : ℕ → Either ℕ ℕ → Type 0
  IsAtPlace n u = ((l : LatchAt) × (slice_get a.latches n ≡ Some l) × (Left l.out.0 ≡ u)) ⊎ ((j : ℕ) × (l : LatchAt) × (n ≡ length a.latches + j) × (slice_get b.latches j ≡ Some l) × (Right l.out.0 ≡ u))

  place_cases : (n : ℕ) (u : Either ℕ ℕ) → slice_get places n ≡ Some u → IsAtPlace n u
  place_cases n u at = go (slice_get-append_cases (map left_place a.latches) (map right_place b.latches) n u at)
    where
      go : (slice_get (map left_place a.latches) n ≡ Some u) ⊎ ((k : ℕ) × (n ≡ length (map left_place a.latches) + k) × (slice_get (map right_place b.latches) k ≡ Some u)) → IsAtPlace n u
      go (inl h) = let l = map_at left_place a.latches n u h in inl (l.0, l.1, l.2)
      go (inr h) = let l = map_at right_place b.latches h.0 u h.2 in inr (h.0, l.0, h.1 ∙ ap (λ (m : ℕ). m + h.0) (length-map left_place a.latches), l.1, l.2)

  left_at : (n : ℕ) (l : LatchAt) → slice_get a.latches n ≡ Some l → slice_get places n ≡ Some (Left l.out.0)
  left_at n l at = slice_get-append (map left_place a.latches) (map right_place b.latches) n (Left l.out.0) (slice_get-map left_place a.latches n l at)

  right_at : (j : ℕ) (l : LatchAt) → slice_get b.latches j ≡ Some l → slice_get places (length a.latches + j) ≡ Some (Right l.out.0)
  right_at j l at =
      ap (λ (m : ℕ). slice_get places (m + j)) (sym (length-map left_place a.latches))
      ∙ (slice_get-append_right (map left_place a.latches) (map right_place b.latches) j ∙ slice_get-map right_place b.latches j l at)

  -- no place stands there twice
  one_place : (m n : ℕ) (u : Either ℕ ℕ) → slice_get places m ≡ Some u → slice_get places n ≡ Some u → m ≡ n
  one_place m n u at to = go (place_cases m u at) (place_cases n u to)
    where
      go : IsAtPlace m u → IsAtPlace n u → m ≡ n
      go (inl x) (inl y) = same_position a sound_a m n x.0 y.0 x.1 y.1 (left_one x.0.out.0 y.0.out.0 (x.2 ∙ sym y.2))
      go (inl x) (inr y) = absurd (left_is_not_right x.0.out.0 y.1.out.0 (x.2 ∙ sym y.4))
      go (inr x) (inl y) = absurd (left_is_not_right y.0.out.0 x.1.out.0 (y.2 ∙ sym x.4))
      go (inr x) (inr y) = x.2 ∙ (ap (λ (j : ℕ). length a.latches + j) (same_position b sound_b x.0 y.0 x.1 y.1 x.3 y.3 (right_one x.1.out.0 y.1.out.0 (x.4 ∙ sym y.4))) ∙ sym y.2)

  -- the place of a latch by its tag
  tag_stands : (n : ℕ) (t : Tag) → IsTagAt (length a.latches) n t → n < length places → IsTagOf a b t × (slice_get places n ≡ Some (place_of a b t))
  tag_stands n t (inl x) within =
      let l = some_at a.latches n x.0 in
      subst (λ (z : Tag). IsTagOf a b z × (slice_get places n ≡ Some (place_of a b z))) (sym x.1) (x.0, left_at n l.0 l.1 ∙ ap (λ (m : LatchAt). Some (left_place m)) (sym (get_or_from_slice_get a.latches n l.0 no_latch l.1)))
  tag_stands n t (inr x) within =
      let inside : x.0 < length b.latches = omega (arith, within, x.1, length-append (map left_place a.latches) (map right_place b.latches), length-map left_place a.latches, length-map right_place b.latches) in
      let l = some_at b.latches x.0 inside in
      subst (λ (z : Tag). IsTagOf a b z × (slice_get places n ≡ Some (place_of a b z))) (sym x.2)
      (inside, ap (slice_get places) x.1 ∙ (right_at x.0 l.0 l.1 ∙ ap (λ (m : LatchAt). Some (right_place m)) (sym (get_or_from_slice_get b.latches x.0 l.0 no_latch l.1))))

  parts : SidesAreParts
  parts = sides_are_parts_in_nets

  -- the depth of the latch at a place, or nothing where it isn't an enabled one
  abbrev IsDepthThere : Either ℕ ℕ → Option ℕ → Type 0
  IsDepthThere u depth = MatchOption depth (IsEnabled Both u → ⊥) (λ d. IsEnabled Both u × IsDepth Both (IsEnabled Both) u d)

  module _ (ls rs : List (Option ℕ)) (left_are : AllZip (IsEnabledDepth (circuit_of a)) a.latches ls) (right_are : AllZip (IsEnabledDepth (circuit_of b)) b.latches rs) where
    left_there : (l : LatchAt) (depth : Option ℕ) → IsEnabledDepth (circuit_of a) l depth → IsDepthThere (Left l.out.0) depth
    left_there l None off = λ on. off (((parts (circuit_of a) (circuit_of b) (length a.drivers) (length b.drivers) (sound_is_net a sound_a) (sound_is_net b sound_b)).0 l.out.0).1 on)
    left_there l (Some d) h =
        let p = parts (circuit_of a) (circuit_of b) (length a.drivers) (length b.drivers) (sound_is_net a sound_a) (sound_is_net b sound_b) in
        ((p.0 l.out.0).0 h.0, p.2 l.out.0 d h.1)

    right_there : (l : LatchAt) (depth : Option ℕ) → IsEnabledDepth (circuit_of b) l depth → IsDepthThere (Right l.out.0) depth
    right_there l None off = λ on. off (((parts (circuit_of a) (circuit_of b) (length a.drivers) (length b.drivers) (sound_is_net a sound_a) (sound_is_net b sound_b)).1 l.out.0).1 on)
    right_there l (Some d) h =
        let p = parts (circuit_of a) (circuit_of b) (length a.drivers) (length b.drivers) (sound_is_net a sound_a) (sound_is_net b sound_b) in
        ((p.1 l.out.0).0 h.0, p.3 l.out.0 d h.1)

    depth_there : (n : ℕ) (u : Either ℕ ℕ) → slice_get places n ≡ Some u → (depth : Option ℕ) × (slice_get (ls ++ rs) n ≡ Some depth) × IsDepthThere u depth
    depth_there n u at = go (place_cases n u at)
      where
        go : IsAtPlace n u → (depth : Option ℕ) × (slice_get (ls ++ rs) n ≡ Some depth) × IsDepthThere u depth
        go (inl x) =
            let d = zip_right (IsEnabledDepth (circuit_of a)) a.latches ls left_are n x.0 x.1 in
            (d.0, slice_get-append ls rs n d.0 d.1, subst (λ (z : Either ℕ ℕ). IsDepthThere z d.0) x.2 (left_there x.0 d.0 d.2))
        go (inr x) =
            let d = zip_right (IsEnabledDepth (circuit_of b)) b.latches rs right_are x.0 x.1 x.3 in
            let each : length a.latches ≡ length ls = zip_length (IsEnabledDepth (circuit_of a)) a.latches ls left_are in (
              d.0,
              ap (slice_get (ls ++ rs)) (x.2 ∙ ap (λ (m : ℕ). m + x.0) each) ∙ (slice_get-append_right ls rs x.0 ∙ d.1),
              subst (λ (z : Either ℕ ℕ). IsDepthThere z d.0) x.4 (right_there x.1 d.0 d.2),
            )

    module _ (turns : List Turn) (are : AreTurns (ls ++ rs) turns) (tags : List Tag) (zip : AllZip (λ (turn : Turn) (tag : Tag). IsTagAt (length a.latches) turn.number tag) turns tags) where
      each_length : length (ls ++ rs) ≡ length places
      each_length =
          length-append ls rs ∙ (let p = zip_length (IsEnabledDepth (circuit_of a)) a.latches ls left_are in
          let q = zip_length (IsEnabledDepth (circuit_of b)) b.latches rs right_are in
          omega (arith, p, q, length-append (map left_place a.latches) (map right_place b.latches), length-map left_place a.latches, length-map right_place b.latches))

      -- the latch of a turn: its tag, that it is enabled, and its depth
      record Own (k : ℕ) (t : Tag) (turn : Turn) : Type 0 where
        at : slice_get turns k ≡ Some turn
        named : IsTagOf a b t
        stands : slice_get places turn.number ≡ Some (place_of a b t)
        enabled : IsEnabled Both (place_of a b t)
        depth : IsDepth Both (IsEnabled Both) (place_of a b t) turn.depth

      own_of : (k : ℕ) (turn : Turn) (t : Tag) → slice_get turns k ≡ Some turn → IsTagAt (length a.latches) turn.number t → Own k t turn
      own_of k turn t at is =
          let here = are.each turn (of_at turns k turn at) in
          let within : turn.number < length places = let w = slice_get_within (ls ++ rs) turn.number (Some turn.depth) here in omega (arith, w, each_length) in
          let stands = tag_stands turn.number t is within in
          let there = depth_there turn.number (place_of a b t) stands.1 in
          let deep : IsDepthThere (place_of a b t) (Some turn.depth) = subst (IsDepthThere (place_of a b t)) (one_at (ls ++ rs) turn.number there.0 (Some turn.depth) there.1 here) there.2 in
          record { at = at; named = stands.0; stands = stands.1; enabled = deep.0; depth = deep.1 }

      turn_of_tag : (k : ℕ) (t : Tag) → slice_get tags k ≡ Some t → (turn : Turn) × Own k t turn
      turn_of_tag k t at =
          let long = zip_length (λ (turn : Turn) (tag : Tag). IsTagAt (length a.latches) turn.number tag) turns tags zip in
          let turn = some_at turns k (let w = slice_get_within tags k t at in omega (arith, w, long)) in
          let tag = zip_right (λ (u : Turn) (s : Tag). IsTagAt (length a.latches) u.number s) turns tags zip k turn.0 turn.1 in
          let same : tag.0 ≡ t = one_at tags k tag.0 t tag.1 at in
          (turn.0, own_of k turn.0 t turn.1 (subst (λ (s : Tag). IsTagAt (length a.latches) turn.0.number s) same tag.2))

      pub tags_named : All (IsTagOf a b) tags
      tags_named = All-from_each (IsTagOf a b) tags (λ t h. let k = at_of tags t h in (turn_of_tag k.0 t k.1).1.named)

      module _ (left right : List ℕ) (class : Either ℕ ℕ → ℕ) where
        all : (u : Either ℕ ℕ) → IsEnabled Both u → Contains (map (place_of a b) tags) u
        all u on =
            let n = at_of (latches_of Both) u (filter_map-has latch_place Both.equations (latch_equation on.name u on.next) u on.latch refl) in
            let at : slice_get places n.0 ≡ Some u = subst (λ (ps : List (Either ℕ ℕ)). slice_get ps n.0 ≡ Some u) places_are n.1 in
            let there = depth_there n.0 u at in
            found n.0 at there.0 there.1 there.2
          where
            found : (n : ℕ) → slice_get places n ≡ Some u → (depth : Option ℕ) → slice_get (ls ++ rs) n ≡ Some depth → IsDepthThere u depth → Contains (map (place_of a b) tags) u
            found n at None here off = absurd (off on)
            found n at (Some d) here deep =
                let k = at_of turns (record { depth = d; number = n }) (are.all n d here) in
                let tag = zip_right (λ (turn : Turn) (s : Tag). IsTagAt (length a.latches) turn.number s) turns tags zip k.0 (record { depth = d; number = n }) k.1 in
                let own = own_of k.0 (record { depth = d; number = n }) tag.0 k.1 tag.2 in
                subst (Contains (map (place_of a b) tags)) (one_at places n (place_of a b tag.0) u own.stands at) (Contains-map (place_of a b) tags tag.0 (of_at tags k.0 tag.0 tag.1))

        enabled : (u : Either ℕ ℕ) → Contains (map (place_of a b) tags) u → IsEnabled Both u
        enabled u h =
            let t = Contains-map_from (place_of a b) tags u h in
            let k = at_of tags t.0 t.1 in
            subst (IsEnabled Both) t.2 (turn_of_tag k.0 t.0 k.1).1.enabled

        abbrev Before : Either ℕ ℕ → Either ℕ ℕ → Type 0
        Before u v = (d e i j : ℕ) → IsDepth Both (IsEnabled Both) u d → IsDepth Both (IsEnabled Both) v e → slice_get (latches_of Both) i ≡ Some u → slice_get (latches_of Both) j ≡ Some v → (d < e) ⊎ ((d ≡ e) × (i < j))

        before : (m k : ℕ) (s t : Tag) → m < k → slice_get tags m ≡ Some s → slice_get tags k ≡ Some t → Before (place_of a b s) (place_of a b t)
        before m k s t below at to d e i j is_d is_e is_i is_j =
            let x = turn_of_tag m s at in
            let y = turn_of_tag k t to in
            let first : d ≡ x.0.depth = one_depth Both (IsEnabled Both) (place_of a b s) d x.0.depth is_d x.1.depth in
            let second : e ≡ y.0.depth = one_depth Both (IsEnabled Both) (place_of a b t) e y.0.depth is_e y.1.depth in
            let third : i ≡ x.0.number = one_place i x.0.number (place_of a b s) (subst (λ (ps : List (Either ℕ ℕ)). slice_get ps i ≡ Some (place_of a b s)) places_are is_i) x.1.stands in
            let fourth : j ≡ y.0.number = one_place j y.0.number (place_of a b t) (subst (λ (ps : List (Either ℕ ℕ)). slice_get ps j ≡ Some (place_of a b t)) places_are is_j) y.1.stands in
            go x.0 y.0 first second third fourth (pair_at TurnBefore turns are.in_order m k x.0 y.0 below x.1.at y.1.at)
          where
            go : (x y : Turn) → d ≡ x.depth → e ≡ y.depth → i ≡ x.number → j ≡ y.number → TurnBefore x y → (d < e) ⊎ ((d ≡ e) × (i < j))
            go x y p q r w (inl h) = inl (omega (arith, p, q, h))
            go x y p q r w (inr h) = inr (omega (arith, p, q, h.0), omega (arith, r, w, h.1))

        pub tags_ordered : IsLatchOrder (side_by_side (circuit_of a) (circuit_of b) left right class) (map (place_of a b) tags)
        tags_ordered = record { all = all; enabled = enabled; in_order = pairs_mapped (place_of a b) Before tags before }
