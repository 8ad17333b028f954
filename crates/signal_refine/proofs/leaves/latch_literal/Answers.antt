-- The latch, and what it is read as.
use Rattle.std.proofs.Common.{◌≡◌, ◌∙◌, ◌+◌, ◌*◌, ◌<◌, ℕ, Bool, true, false, List, length, get_or, slice_get, Some, sym, ap, subst, arith}
use Rattle.std.proofs.lemmas.Option.{slice_get_within, slice_get-get_or}
use Rattle.flat_net.specs.declared.parts.LatchAt.{LatchAt}
use Rattle.flat_net.specs.View.{start_of}
use Rattle.flat_net.proofs.Drivers.{driven_latch}
use Rattle.aig.proofs.CoverMeaning.{value-zero, value-one}
use Rattle.sec_base.specs.declared.basics.Init.{Init}
use Rattle.signal_refine.specs.declared.leaves.Latches.{Latches}
use Rattle.signal_refine.specs.Places.{places_of}
use Rattle.signal_refine.specs.Frames.{AreRead, AreCarriedWithin}
use Rattle.signal_refine.proofs.Parts.{IsAt, spot_is_at}
use Rattle.signal_refine.proofs.Sources.{next_among, start_value, carried_value}
use Rattle.signal_refine.proofs.leaves.latch_literal.Goals as goal

pub bounds-latches-j : goal.bounds-latches-j
bounds-latches-j c =
    let at = spot_is_at c.args.cycle.now c.args.aig.now c.requires.fit c.keeps.ensures.sound c.keeps-2.ensures.sound c.args.place c.args.spot.now c.requires.spot in
    let l = driven_latch c.args.spot.now.net.now at.part.sound c.args.spot.now.signal.0 c.args.j c.requires.drives in
    let inside = slice_get_within c.args.spot.now.net.now.latches c.args.j l.0 l.1 in
    omega (arith, inside, ap length c.latches.ensures)

pub bounds-before-spot : goal.bounds-before-spot
bounds-before-spot c =
    let at = spot_is_at c.args.cycle.now c.args.aig.now c.requires.fit c.keeps.ensures.sound c.keeps-2.ensures.sound c.args.place c.args.spot.now c.requires.spot in
    let d = driven_latch c.args.spot.now.net.now at.part.sound c.args.spot.now.signal.0 c.args.j c.requires.drives in
    let inside = slice_get_within c.args.spot.now.net.now.latches c.args.j d.0 d.1 in
    let l : LatchAt = c.index-latches-j.result in
    let stands : slice_get c.args.spot.now.net.now.latches c.args.j ≡ Some l =
    ap (λ (zs : List LatchAt). slice_get zs c.args.j) (sym c.latches.ensures) ∙ (slice_get-get_or c.latches.result.now c.args.j c.index-latches-j.result (omega (arith, inside, ap length c.latches.ensures)) ∙ ap Some (sym c.index-latches-j.is)) in
    let among = next_among c.args.cycle.now c.args.place c.args.spot.now at c.args.j c.requires.drives l stands in
    let carried = subst (λ (k : Latches). AreCarriedWithin (places_of c.args.cycle.now.nets) c.args.aig.now k) c.in-Carried.is c.requires.fit.carried in
    omega (arith, among, carried.0)

pub returns-in-Zero-clause-value : goal.returns-in-Zero-clause-value
returns-in-Zero-clause-value c = λ a v reading.
    let w = c.args.cycle.now in
    let at = spot_is_at w c.args.aig.now c.requires.fit c.keeps.ensures.sound c.keeps-2.ensures.sound c.args.place c.args.spot.now c.requires.spot in
    let d = driven_latch c.args.spot.now.net.now at.part.sound c.args.spot.now.signal.0 c.args.j c.requires.drives in
    let inside = slice_get_within c.args.spot.now.net.now.latches c.args.j d.0 d.1 in
    let l : LatchAt = c.index-latches-j.result in
    let stands : slice_get c.args.spot.now.net.now.latches c.args.j ≡ Some l =
    ap (λ (zs : List LatchAt). slice_get zs c.args.j) (sym c.latches.ensures) ∙ (slice_get-get_or c.latches.result.now c.args.j c.index-latches-j.result (omega (arith, inside, ap length c.latches.ensures)) ∙ ap Some (sym c.index-latches-j.is)) in
    let read = subst (λ (k : Latches). AreRead w.nets w.first k c.args.aig.now a v) c.in-Started.is reading.latches in
    value-zero c.args.aig.now c.keeps-3.ensures.graph a ∙ sym (start_value w c.args.place c.args.spot.now at c.args.j c.requires.drives l stands false (ap (start_of l.out.0) c.in-Zero.is) v read.1)

pub returns-in-One-clause-value : goal.returns-in-One-clause-value
returns-in-One-clause-value c = λ a v reading.
    let w = c.args.cycle.now in
    let at = spot_is_at w c.args.aig.now c.requires.fit c.keeps.ensures.sound c.keeps-2.ensures.sound c.args.place c.args.spot.now c.requires.spot in
    let d = driven_latch c.args.spot.now.net.now at.part.sound c.args.spot.now.signal.0 c.args.j c.requires.drives in
    let inside = slice_get_within c.args.spot.now.net.now.latches c.args.j d.0 d.1 in
    let l : LatchAt = c.index-latches-j.result in
    let stands : slice_get c.args.spot.now.net.now.latches c.args.j ≡ Some l =
    ap (λ (zs : List LatchAt). slice_get zs c.args.j) (sym c.latches.ensures) ∙ (slice_get-get_or c.latches.result.now c.args.j c.index-latches-j.result (omega (arith, inside, ap length c.latches.ensures)) ∙ ap Some (sym c.index-latches-j.is)) in
    let read = subst (λ (k : Latches). AreRead w.nets w.first k c.args.aig.now a v) c.in-Started.is reading.latches in
    value-one c.args.aig.now c.keeps-3.ensures.graph a ∙ sym (start_value w c.args.place c.args.spot.now at c.args.j c.requires.drives l stands true (ap (start_of l.out.0) c.in-One.is) v read.1)

pub returns-in-Carried-clause-value : goal.returns-in-Carried-clause-value
returns-in-Carried-clause-value c = λ a v reading.
    let w = c.args.cycle.now in
    let s = c.args.spot.now in
    let at = spot_is_at w c.args.aig.now c.requires.fit c.keeps.ensures.sound c.keeps-2.ensures.sound c.args.place s c.requires.spot in
    let d = driven_latch s.net.now at.part.sound s.signal.0 c.args.j c.requires.drives in
    let inside = slice_get_within s.net.now.latches c.args.j d.0 d.1 in
    let l : LatchAt = c.index-latches-j.result in
    let stands : slice_get s.net.now.latches c.args.j ≡ Some l =
    ap (λ (zs : List LatchAt). slice_get zs c.args.j) (sym c.latches.ensures) ∙ (slice_get-get_or c.latches.result.now c.args.j c.index-latches-j.result (omega (arith, inside, ap length c.latches.ensures)) ∙ ap Some (sym c.index-latches-j.is)) in
    let among = next_among w c.args.place s at c.args.j c.requires.drives l stands in
    let carried = subst (λ (k : Latches). AreCarriedWithin (places_of w.nets) c.args.aig.now k) c.in-Carried.is c.requires.fit.carried in
    let read = subst (λ (k : Latches). AreRead w.nets w.first k c.args.aig.now a v) c.in-Carried.is reading.latches in
    read.1 (s.offset + l.next.0) (get_or c.in-Carried.before.now (s.offset + l.next.0) (record { 0 = 0 })) (slice_get-get_or c.in-Carried.before.now (s.offset + l.next.0) (record { 0 = 0 }) (omega (arith, among, carried.0)))
    ∙ sym (carried_value w c.args.place s at c.args.j c.requires.drives l stands read.0 v read.2)
