-- A file has no more inputs, latches and outputs than its header tells.
use Rattle.std.proofs.Common.{◌≡◌, ℕ, zero, suc, ◌+◌, ◌*◌, ◌-◌, ◌<◌, ◌≤◌, Bool, true, false, cond, ltb, List, [], ◌∷◌, ◌++◌, length, Option, Some, None, refl, sym, ◌∙◌, ap, subst, arith}
use Rattle.std.specs.Prelude.{option_and_then, option_map}
use Rattle.std.specs.List.{filter_map, cons_option}
use Rattle.std.proofs.lemmas.Bool.{ltb-true, ltb-false}
use Rattle.std.proofs.lemmas.Option.{none-some, same_Some}
use Rattle.aiger_read.specs.aiger_records.Lines.{Cut, first_line}
use Rattle.aiger_read.specs.aiger_records.Numbers.{numbers, numbers_behind, words_of}
use Rattle.aiger_read.specs.aiger_records.Packed.{PackedNumber, packed}
use Rattle.aiger_read.specs.declared.aiger_records.header.Form.{Form}
use Rattle.aiger_read.specs.declared.aiger_records.header.Form.TheVariants.{Ascii, Binary}
use Rattle.aiger_read.specs.declared.aiger_records.header.Header.{Header}
use Rattle.aiger_read.specs.declared.aiger_records.record.Section.{Section}
use Rattle.aiger_read.specs.declared.aiger_records.record.Section.TheVariants as section
use Rattle.aiger_read.specs.declared.aiger_records.record.Record.{Record}
use Rattle.aiger_read.specs.declared.aiger_records.record.Record.TheVariants.{Input, Latch, Output, Gate, Packed}
use Rattle.aiger_read.specs.aiger_records.Records.{Taken, listed, input_lines, body_length, section_at, section_of, left_out, line_record, cut_record, second_difference, packed_record, is_packed, record_at, gate_literal, inputs_to, implied, followed_by}
use Rattle.aiger_read.specs.declared.aiger_file.file.AigerFile.{AigerFile}
use Rattle.aiger_read.specs.aiger_file.Reading.{body_with, body_from, body_of, those_there, file_with, Headed, headed, spelled}
use Rattle.aiger_read.specs.aiger_file.aiger_graph.Circuit.{LatchLine, input_of, output_of, latch_of, input_literals, output_literals, latches_in}

-- the section that a record is of
abbrev section_by : Record → Section
section_by (Input literal) = section.Input
section_by (Latch literal next reset) = section.Latch
section_by (Output literal) = section.Output
section_by (Gate literal left right) = section.Gate
section_by (Packed literal first second) = section.Gate

-- a record that is listed is of its section
listed_is : (s : Section) (ns : List ℕ) (r : Record) → listed s ns ≡ Some r → section_by r ≡ s
listed_is section.Input (a ∷ []) r e = ap section_by (sym (same_Some _ r e))
listed_is section.Latch (a ∷ b ∷ []) r e = ap section_by (sym (same_Some _ r e))
listed_is section.Latch (a ∷ b ∷ c ∷ []) r e = ap section_by (sym (same_Some _ r e))
listed_is section.Output (a ∷ []) r e = ap section_by (sym (same_Some _ r e))
listed_is section.Gate (a ∷ b ∷ c ∷ []) r e = ap section_by (sym (same_Some _ r e))
listed_is section.Input [] r e = absurd (none-some r e)
listed_is section.Input (a ∷ b ∷ ns) r e = absurd (none-some r e)
listed_is section.Latch [] r e = absurd (none-some r e)
listed_is section.Latch (a ∷ []) r e = absurd (none-some r e)
listed_is section.Latch (a ∷ b ∷ c ∷ d ∷ ns) r e = absurd (none-some r e)
listed_is section.Output [] r e = absurd (none-some r e)
listed_is section.Output (a ∷ b ∷ ns) r e = absurd (none-some r e)
listed_is section.Gate [] r e = absurd (none-some r e)
listed_is section.Gate (a ∷ []) r e = absurd (none-some r e)
listed_is section.Gate (a ∷ b ∷ []) r e = absurd (none-some r e)
listed_is section.Gate (a ∷ b ∷ c ∷ d ∷ ns) r e = absurd (none-some r e)

line_is : (h : Header) (k : ℕ) (s : Section) (line : List ℕ) (r : Record) → line_record h k s line ≡ Some r → section_by r ≡ s
line_is h k s line r e = go (numbers_behind (left_out h k h.form s) (numbers (words_of line))) e
  where
    go : (o : Option (List ℕ)) → option_and_then (listed s) o ≡ Some r → section_by r ≡ s
    go None h = absurd (none-some r h)
    go (Some ns) h = listed_is s ns r h

cut_is : (h : Header) (k : ℕ) (s : Section) (text : List ℕ) (t : Taken) → option_and_then (cut_record h k s) (first_line text) ≡ Some t → section_by t.found ≡ s
cut_is h k s text t e = go (first_line text) e
  where
    of_line : (after : List ℕ) (o : Option Record) → ((r : Record) → o ≡ Some r → section_by r ≡ s) → option_map (followed_by after) o ≡ Some t → section_by t.found ≡ s
    of_line after None known h = absurd (none-some t h)
    of_line after (Some r) known h = ap (λ (x : Taken). section_by x.found) (sym (same_Some (followed_by after r) t h)) ∙ known r refl

    go : (o : Option Cut) → option_and_then (cut_record h k s) o ≡ Some t → section_by t.found ≡ s
    go None h = absurd (none-some t h)
    go (Some cut) h' = of_line cut.after (line_record h k s cut.before) (line_is h k s cut.before) h'

packed_is : (literal : ℕ) (text : List ℕ) (t : Taken) → packed_record literal text ≡ Some t → section_by t.found ≡ section.Gate
packed_is literal text t e = go (packed 5 text) e
  where
    second : (first : PackedNumber) (o : Option PackedNumber) → option_map (λ (second : PackedNumber). followed_by second.after (Packed literal first.value second.value)) o ≡ Some t → section_by t.found ≡ section.Gate
    second first None h = absurd (none-some t h)
    second first (Some n) h = ap (λ (x : Taken). section_by x.found) (sym (same_Some (followed_by n.after (Packed literal first.value n.value)) t h))

    go : (o : Option PackedNumber) → option_and_then (second_difference literal) o ≡ Some t → section_by t.found ≡ section.Gate
    go None h = absurd (none-some t h)
    go (Some first) h = second first (packed 5 first.after) h

packed_gate : (form : Form) (s : Section) → is_packed form s ≡ true → s ≡ section.Gate
packed_gate Binary section.Gate e = refl
packed_gate Binary section.Input e = cc
packed_gate Binary section.Latch e = cc
packed_gate Binary section.Output e = cc
packed_gate Ascii s e = cc

record_is : (h : Header) (k : ℕ) (text : List ℕ) (t : Taken) → record_at h k text ≡ Some t → section_by t.found ≡ section_of h k
unfolding record_at
record_is h k text t e = go (is_packed h.form (section_of h k)) refl e
  where
    go : (b : Bool) → is_packed h.form (section_of h k) ≡ b → cond b (packed_record (gate_literal h k) text) (option_and_then (cut_record h k (section_of h k)) (first_line text)) ≡ Some t → section_by t.found ≡ section_of h k
    go true is taken = packed_is (gate_literal h k) text t taken ∙ sym (packed_gate h.form (section_of h k) is)
    go false is taken = cut_is h k (section_of h k) text t taken

-- where the records of a section stand
input_place : (inputs latches outputs k : ℕ) → section_at inputs latches outputs k ≡ section.Input → k < inputs
input_place inputs latches outputs k e = go (ltb k inputs) (ltb k (inputs + latches)) (ltb k (inputs + latches + outputs)) refl e
  where
    go : (a b c : Bool) → ltb k inputs ≡ a → cond a section.Input (cond b section.Latch (cond c section.Output section.Gate)) ≡ section.Input → k < inputs
    go true b c first is = ltb-true k inputs first
    go false true c first is = cc
    go false false true first is = cc
    go false false false first is = cc

latch_place : (inputs latches outputs k : ℕ) → section_at inputs latches outputs k ≡ section.Latch → (inputs ≤ k) × (k < inputs + latches)
latch_place inputs latches outputs k e = go (ltb k inputs) (ltb k (inputs + latches)) (ltb k (inputs + latches + outputs)) refl refl e
  where
    go : (a b c : Bool) → ltb k inputs ≡ a → ltb k (inputs + latches) ≡ b → cond a section.Input (cond b section.Latch (cond c section.Output section.Gate)) ≡ section.Latch → (inputs ≤ k) × (k < inputs + latches)
    go true b c first second is = cc
    go false true c first second is = (ltb-false k inputs first, ltb-true k (inputs + latches) second)
    go false false true first second is = cc
    go false false false first second is = cc

output_place : (inputs latches outputs k : ℕ) → section_at inputs latches outputs k ≡ section.Output → (inputs + latches ≤ k) × (k < inputs + latches + outputs)
output_place inputs latches outputs k e = go (ltb k inputs) (ltb k (inputs + latches)) (ltb k (inputs + latches + outputs)) refl refl e
  where
    go : (a b c : Bool) → ltb k (inputs + latches) ≡ b → ltb k (inputs + latches + outputs) ≡ c → cond a section.Input (cond b section.Latch (cond c section.Output section.Gate)) ≡ section.Output → (inputs + latches ≤ k) × (k < inputs + latches + outputs)
    go true b c second third is = cc
    go false true c second third is = cc
    go false false true second third is = (ltb-false k (inputs + latches) second, ltb-true k (inputs + latches + outputs) third)
    go false false false second third is = cc

-- How many records of a section a body has: those from record k on are as many as there are places from k on.
module _ {X : Type 0} (pick : Record → Option X) (s : Section) (picks : (r : Record) (x : X) → pick r ≡ Some x → section_by r ≡ s) (h : Header) (low high : ℕ) (places : (k : ℕ) → section_of h k ≡ s → (low ≤ k) × (k < high)) where
  few_picked : (n k : ℕ) (text : List ℕ) → length (filter_map pick (those_there (body_from h n k text).records)) ≤ high - low - (k - low)
  few_picked zero k text = omega arith
  few_picked (suc n) k text = go (record_at h k text) refl (λ (t : Taken). few_picked n (k + 1) t.after)
    where
      picked : (t : Taken) (o : Option X) → record_at h k text ≡ Some t → pick t.found ≡ o → length (filter_map pick (those_there (body_from h n (k + 1) t.after).records)) ≤ high - low - (k + 1 - low) →
          length (cons_option o (filter_map pick (those_there (body_from h n (k + 1) t.after).records))) ≤ high - low - (k - low)
      picked t None at is rest = omega (arith, rest)
      picked t (Some x) at is rest = let there = places k (sym (record_is h k text t at) ∙ picks t.found x is) in let a = there.0 in let b = there.1 in omega (arith, rest, a, b)

      go : (o : Option Taken) → record_at h k text ≡ o → ((t : Taken) → length (filter_map pick (those_there (body_from h n (k + 1) t.after).records)) ≤ high - low - (k + 1 - low)) →
          length (filter_map pick (those_there (body_with o (λ (t : Taken). body_from h n (k + 1) t.after)).records)) ≤ high - low - (k - low)
      go None at rest = omega arith
      go (Some t) at rest = picked t (pick t.found) at refl (rest t)

input_picks : (r : Record) (l : ℕ) → input_of r ≡ Some l → section_by r ≡ section.Input
input_picks (Input literal) l e = refl
input_picks (Latch literal next reset) l e = absurd (none-some l e)
input_picks (Output literal) l e = absurd (none-some l e)
input_picks (Gate literal left right) l e = absurd (none-some l e)
input_picks (Packed literal first second) l e = absurd (none-some l e)

latch_picks : (r : Record) (l : LatchLine) → latch_of r ≡ Some l → section_by r ≡ section.Latch
latch_picks (Latch literal next reset) l e = refl
latch_picks (Input literal) l e = absurd (none-some l e)
latch_picks (Output literal) l e = absurd (none-some l e)
latch_picks (Gate literal left right) l e = absurd (none-some l e)
latch_picks (Packed literal first second) l e = absurd (none-some l e)

output_picks : (r : Record) (l : ℕ) → output_of r ≡ Some l → section_by r ≡ section.Output
output_picks (Output literal) l e = refl
output_picks (Input literal) l e = absurd (none-some l e)
output_picks (Latch literal next reset) l e = absurd (none-some l e)
output_picks (Gate literal left right) l e = absurd (none-some l e)
output_picks (Packed literal first second) l e = absurd (none-some l e)

-- the inputs without records, by kinds
picked_append : {X : Type 0} (pick : Record → Option X) (xs ys : List Record) → length (filter_map pick (xs ++ ys)) ≡ length (filter_map pick xs) + length (filter_map pick ys)
picked_append pick [] ys = omega arith
picked_append {X} pick (x ∷ xs) ys = go (pick x) (picked_append pick xs ys)
  where
    go : (o : Option X) → length (filter_map pick (xs ++ ys)) ≡ length (filter_map pick xs) + length (filter_map pick ys) → length (cons_option o (filter_map pick (xs ++ ys))) ≡ length (cons_option o (filter_map pick xs)) + length (filter_map pick ys)
    go None e = e
    go (Some y) e = omega (arith, e)

implied_inputs : (n : ℕ) → length (filter_map input_of (inputs_to n)) ≡ n
implied_inputs zero = refl
implied_inputs (suc n) = let e = picked_append input_of (inputs_to n) (Input (2 * suc n) ∷ []) in let k = implied_inputs n in omega (arith, e, k)

implied_latches : (n : ℕ) → length (filter_map latch_of (inputs_to n)) ≡ 0
implied_latches zero = refl
implied_latches (suc n) = let e = picked_append latch_of (inputs_to n) (Input (2 * suc n) ∷ []) in let k = implied_latches n in omega (arith, e, k)

implied_outputs : (n : ℕ) → length (filter_map output_of (inputs_to n)) ≡ 0
implied_outputs zero = refl
implied_outputs (suc n) = let e = picked_append output_of (inputs_to n) (Input (2 * suc n) ∷ []) in let k = implied_outputs n in omega (arith, e, k)

-- no more than the header tells
pub record IsCounted (f : AigerFile) : Type 0 where
  pub inputs : length (input_literals f.records) ≤ f.header.inputs
  pub latches : length (latches_in f.records) ≤ f.header.latches
  pub outputs : length (output_literals f.records) ≤ f.header.outputs

counted_body : (h : Header) (text : List ℕ) → IsCounted (file_with h (body_of h text))
unfolding body_of
counted_body h text = record {
  inputs = inputs_counted;
  latches = (let e = picked_append latch_of (implied h.form h.inputs) (those_there (body_from h (body_length h) 0 text).records) in
      let a = few_picked latch_of section.Latch latch_picks h (input_lines h.form h.inputs) (input_lines h.form h.inputs + h.latches) (λ k is. latch_place (input_lines h.form h.inputs) h.latches h.outputs k is) (body_length h) 0 text in
      let b = none_latch h.form in
      omega (arith, e, a, b));
  outputs = (let e = picked_append output_of (implied h.form h.inputs) (those_there (body_from h (body_length h) 0 text).records) in
      let a = few_picked output_of section.Output output_picks h (input_lines h.form h.inputs + h.latches) (input_lines h.form h.inputs + h.latches + h.outputs) (λ k is. output_place (input_lines h.form h.inputs) h.latches h.outputs k is) (body_length h) 0 text in
      let b = none_output h.form in
      omega (arith, e, a, b));
}
  where
    none_latch : (form : Form) → length (filter_map latch_of (implied form h.inputs)) ≡ 0
    none_latch Ascii = refl
    none_latch Binary = implied_latches h.inputs

    none_output : (form : Form) → length (filter_map output_of (implied form h.inputs)) ≡ 0
    none_output Ascii = refl
    none_output Binary = implied_outputs h.inputs

    inputs_at : (form : Form) → length (filter_map input_of (implied form h.inputs)) + input_lines form h.inputs ≡ h.inputs
    inputs_at Ascii = omega arith
    inputs_at Binary = let e = implied_inputs h.inputs in omega (arith, e)

    inputs_counted : length (filter_map input_of (implied h.form h.inputs ++ those_there (body_from h (body_length h) 0 text).records)) ≤ h.inputs
    inputs_counted =
        let e = picked_append input_of (implied h.form h.inputs) (those_there (body_from h (body_length h) 0 text).records) in
        let a = few_picked input_of section.Input input_picks h 0 (input_lines h.form h.inputs) (λ k is. (omega arith, input_place (input_lines h.form h.inputs) h.latches h.outputs k is)) (body_length h) 0 text in
        let b = inputs_at h.form in
        omega (arith, e, a, b)

-- of the file that a text spells
pub counted : (text : List ℕ) (f : AigerFile) → spelled text ≡ Some f → IsCounted f
counted text f is = go (headed text) is
  where
    go : (o : Option Headed) → option_map (λ (file : Headed). file_with file.header (body_of file.header file.after)) o ≡ Some f → IsCounted f
    go None e = absurd (none-some f e)
    go (Some head) e = subst IsCounted (same_Some (file_with head.header (body_of head.header head.after)) f e) (counted_body head.header head.after)
