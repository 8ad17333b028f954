-- The form of a stimulus and its lines.
use Rattle.std.proofs.Common.{◌≡◌, ℕ, zero, suc, ◌<◌, ◌≤◌, ◌==◌, ◌||◌, cond, Bool, true, false, List, [], ◌∷◌, ◌++◌, map, length, codes, refl, sym, ◌∙◌, ap, subst, arith, inl, inr, ◌⊎◌, append_assoc, slice_get, Some}
use Rattle.std.specs.List.{slice_split, join_with_byte, Contains, flat_map, list_any}
use Rattle.std.specs.Io.BufRead.{strip_last}
use Rattle.std.proofs.lemmas.List.{append_cancel_right, append-nil}
use Rattle.std.proofs.lemmas.List.Elements.{All-contains, Contains-append_cases, Contains-append_right}
use Rattle.std.proofs.lemmas.List.Splits.{join_with_byte-slice_split}
use Rattle.std.proofs.lemmas.Bool.Decides.{Decides-eqb}
use Rattle.std.proofs.lemmas.Option.{slice_get_within}
use Rattle.circuit_theory.proofs.Lists.{Contains-head, Contains-tail, Contains-cases, Contains-map_from, All-from_each}
use Rattle.base_tables.specs.Table.{AreDistinct, is_among}
use Rattle.base_tables.proofs.TableLemmas.{is_among-at}
use Rattle.witness_report.specs.Text.{digit_of, names_text, header_line, row_text, row_line, stimulus_text}
use Rattle.witness_report.specs.Form.{IsName, AreNames, AreRows, IsForm, lines_of, IsBadRow}
use Rattle.witness_report.specs.Parts.{IsBadLine}
use Rattle.witness_report.specs.declared.error.StimError.{StimError}
use Rattle.witness_report.specs.declared.error.StimError.TheVariants as stim_error
use Rattle.witness_report.proofs.Splits.{split_join, piece_byte, split_push, strip_cases, strip_push, split_few, strip_few}

-- the header is its words joined by blanks
words_joined : (word : List ℕ) (names : List (List ℕ)) → word ++ names_text names ≡ join_with_byte 32 (word ∷ names)
words_joined word [] = append-nil word
words_joined word (name ∷ names) = ap (λ rest. word ++ 32 ∷ rest) (words_joined name names)

-- the text is its lines joined by line feeds, and one at the end
lines_joined : (line : List ℕ) (rows : List (List Bool)) → line ++ 10 ∷ flat_map row_line rows ≡ join_with_byte 10 (line ∷ map row_text rows) ++ 10 ∷ []
lines_joined line [] = refl
lines_joined line (row ∷ rows) =
    ap (λ rest. line ++ 10 ∷ rest) (append_assoc (row_text row) (10 ∷ []) (flat_map row_line rows) ∙ lines_joined (row_text row) rows)
    ∙ sym (append_assoc line (10 ∷ join_with_byte 10 (row_text row ∷ map row_text rows)) (10 ∷ []))

pub text_joined : (names : List (List ℕ)) (rows : List (List Bool)) → stimulus_text names rows ≡ join_with_byte 10 (header_line names ∷ map row_text rows) ++ 10 ∷ []
unfolding stimulus_text
text_joined names rows = append_assoc (header_line names) (10 ∷ []) (flat_map row_line rows) ∙ lines_joined (header_line names) rows

-- the bytes of a digit, of a row and of a header
digit_no_feed : (bit : Bool) → digit_of bit ≡ 10 → ⊥
digit_no_feed true e = omega (arith, e)
digit_no_feed false e = omega (arith, e)

digits_no_feed : (bits : List Bool) → Contains (map digit_of bits) 10 → ⊥
digits_no_feed bits h = let b = Contains-map_from digit_of bits 10 h in digit_no_feed b.0 b.2

row_no_feed : (row : List Bool) → Contains (row_text row) 10 → ⊥
row_no_feed [] h = digits_dash (Contains-cases 45 10 [] h)
  where
    digits_dash : (◌≡◌ {A = ℕ} 45 10) ⊎ Contains {X = ℕ} [] 10 → ⊥
    digits_dash (inl e) = omega (arith, e)
    digits_dash (inr z) = omega (arith, z.1)
row_no_feed (bit ∷ bits) h = digits_no_feed (bit ∷ bits) h

names_byte : (names : List (List ℕ)) (b : ℕ) → Contains (names_text names) b → (32 ≡ b) ⊎ ((name : List ℕ) × Contains names name × Contains name b)
names_byte [] b h = absurd (omega (arith, h.1))
names_byte (name ∷ names) b h = go (Contains-cases 32 b (name ++ names_text names) h) (names_byte names b)
  where
    later : ((32 ≡ b) ⊎ ((n : List ℕ) × Contains names n × Contains n b)) → (32 ≡ b) ⊎ ((n : List ℕ) × Contains (name ∷ names) n × Contains n b)
    later (inl e) = inl e
    later (inr x) = inr (x.0, Contains-tail name x.0 names x.1, x.2)

    parts : Contains name b ⊎ Contains (names_text names) b → (Contains (names_text names) b → (32 ≡ b) ⊎ ((n : List ℕ) × Contains names n × Contains n b)) → (32 ≡ b) ⊎ ((n : List ℕ) × Contains (name ∷ names) n × Contains n b)
    parts (inl here) ih = inr (name, Contains-head name names, here)
    parts (inr there) ih = later (ih there)

    go : (32 ≡ b) ⊎ Contains (name ++ names_text names) b → (Contains (names_text names) b → (32 ≡ b) ⊎ ((n : List ℕ) × Contains names n × Contains n b)) → (32 ≡ b) ⊎ ((n : List ℕ) × Contains (name ∷ names) n × Contains n b)
    go (inl e) ih = inl e
    go (inr there) ih = parts (Contains-append_cases name (names_text names) b there) ih

-- a list in which no byte is found to be c
free_by : (c : ℕ) (xs : List ℕ) → list_any (λ b. b == c) xs ≡ false → Contains xs c → ⊥
free_by c [] e h = omega (arith, h.1)
free_by c (x ∷ xs) e h = go (x == c) refl e (Contains-cases x c xs h) (λ k. free_by c xs k)
  where
    no : true ≡ false → ⊥
    no q = cc

    go : (t : Bool) → (x == c) ≡ t → t || list_any (λ b. b == c) xs ≡ false → (x ≡ c) ⊎ Contains xs c → (list_any (λ b. b == c) xs ≡ false → Contains xs c → ⊥) → ⊥
    go true q all which ih = no all
    go false q all (inl same) ih = no (sym ((Decides-eqb x c).1 same) ∙ q)
    go false q all (inr there) ih = ih all there

header_no_feed : (names : List (List ℕ)) → AreNames names → Contains (header_line names) 10 → ⊥
header_no_feed names are h = go (Contains-append_cases (codes "inputs") (names_text names) 10 h)
  where
    in_names : (◌≡◌ {A = ℕ} 32 10) ⊎ ((name : List ℕ) × Contains names name × Contains name 10) → ⊥
    in_names (inl e) = omega (arith, e)
    in_names (inr x) = (All-contains IsName names x.0 are.each x.1).no_line_feed x.2

    go : Contains (codes "inputs") 10 ⊎ Contains (names_text names) 10 → ⊥
    go (inl k) = free_by 10 (codes "inputs") refl k
    go (inr k) = in_names (names_byte names 10 k)

line_no_feed : (names : List (List ℕ)) (rows : List (List Bool)) → AreNames names → (p : List ℕ) → Contains (header_line names ∷ map row_text rows) p → Contains p 10 → ⊥
line_no_feed names rows are p h k = go (Contains-cases (header_line names) p (map row_text rows) h)
  where
    go : (header_line names ≡ p) ⊎ Contains (map row_text rows) p → ⊥
    go (inl e) = header_no_feed names are (subst (λ q. Contains q 10) (sym e) k)
    go (inr there) = let r = Contains-map_from row_text rows p there in row_no_feed r.0 (subst (λ q. Contains q 10) (sym r.2) k)

row_some : (row : List Bool) → 0 < length (row_text row)
row_some [] = omega arith
row_some (bit ∷ bits) = omega arith

line_some : (names : List (List ℕ)) (rows : List (List Bool)) (p : List ℕ) → Contains (header_line names ∷ map row_text rows) p → 0 < length p
line_some names rows p h = go (Contains-cases (header_line names) p (map row_text rows) h)
  where
    go : (header_line names ≡ p) ⊎ Contains (map row_text rows) p → 0 < length p
    go (inl e) = subst (λ (q : List ℕ). 0 < length q) e (omega arith)
    go (inr there) = let r = Contains-map_from row_text rows p there in subst (λ (q : List ℕ). 0 < length q) r.2 (row_some r.0)

module _ (names : List (List ℕ)) (rows : List (List Bool)) (are : AreNames names) where
  joined_splits : slice_split (λ b. b == 10) (join_with_byte 10 (header_line names ∷ map row_text rows)) ≡ header_line names ∷ map row_text rows
  joined_splits = split_join 10 (header_line names) (map row_text rows) (line_no_feed names rows are)

  -- the lines have no line feed at their end
  joined_strip : strip_last 10 (join_with_byte 10 (header_line names ∷ map row_text rows)) ≡ join_with_byte 10 (header_line names ∷ map row_text rows)
  joined_strip = go (strip_cases joined)
    where
      joined : List ℕ
      joined = join_with_byte 10 (header_line names ∷ map row_text rows)

      go : (strip_last 10 joined ≡ joined) ⊎ (strip_last 10 joined ++ 10 ∷ [] ≡ joined) → strip_last 10 joined ≡ joined
      go (inl e) = e
      go (inr e) =
          let parts : slice_split (λ b. b == 10) (strip_last 10 joined) ++ [] ∷ [] ≡ header_line names ∷ map row_text rows =
          sym (split_push 10 (strip_last 10 joined)) ∙ (ap (slice_split (λ b. b == 10)) e ∙ joined_splits) in
          let empty : Contains (header_line names ∷ map row_text rows) [] =
          subst (λ (ls : List (List ℕ)). Contains ls []) parts (Contains-append_right (slice_split (λ b. b == 10) (strip_last 10 joined)) ([] ∷ []) [] (Contains-head [] [])) in
          absurd (let z = line_some names rows [] empty in omega (arith, z))

  -- a form has its lines
  pub form_lines : (text : List ℕ) → (text ≡ stimulus_text names rows) ⊎ (text ++ 10 ∷ [] ≡ stimulus_text names rows) → lines_of text ≡ header_line names ∷ map row_text rows
  form_lines text (inl e) = ap (slice_split (λ b. b == 10)) (ap (strip_last 10) (e ∙ text_joined names rows) ∙ strip_push (join_with_byte 10 (header_line names ∷ map row_text rows))) ∙ joined_splits
  form_lines text (inr e) =
      let same = append_cancel_right text (join_with_byte 10 (header_line names ∷ map row_text rows)) (10 ∷ []) (e ∙ text_joined names rows) in
      ap (slice_split (λ b. b == 10)) (ap (strip_last 10) same ∙ joined_strip) ∙ joined_splits

  -- what has the lines is a form
  pub lines_form : (text : List ℕ) → AreRows (length names) rows → lines_of text ≡ header_line names ∷ map row_text rows → IsForm text names rows
  lines_form text wide lines = record { names_are = are; rows_are = wide; spelled = go (strip_cases text) }
    where
      stripped : strip_last 10 text ≡ join_with_byte 10 (header_line names ∷ map row_text rows)
      stripped = sym (join_with_byte-slice_split 10 (strip_last 10 text)) ∙ ap (join_with_byte 10) lines

      go : (strip_last 10 text ≡ text) ⊎ (strip_last 10 text ++ 10 ∷ [] ≡ text) → (text ≡ stimulus_text names rows) ⊎ (text ++ 10 ∷ [] ≡ stimulus_text names rows)
      go (inl e) = inr (ap (λ (t : List ℕ). t ++ 10 ∷ []) (sym e ∙ stripped) ∙ sym (text_joined names rows))
      go (inr e) = inl (sym e ∙ (ap (λ (t : List ℕ). t ++ 10 ∷ []) stripped ∙ sym (text_joined names rows)))

-- a header's words are its names
pub header_names : (names : List (List ℕ)) → AreNames names → slice_split (λ b. b == 32) (header_line names) ≡ codes "inputs" ∷ names
header_names names are = ap (slice_split (λ b. b == 32)) (words_joined (codes "inputs") names) ∙ split_join 32 (codes "inputs") names free
  where
    free : (p : List ℕ) → Contains (codes "inputs" ∷ names) p → Contains p 32 → ⊥
    free p h k = go (Contains-cases (codes "inputs") p names h)
      where
        go : (codes "inputs" ≡ p) ⊎ Contains names p → ⊥
        go (inl e) = free_by 32 (codes "inputs") refl (subst (λ q. Contains q 32) (sym e) k)
        go (inr there) = (All-contains IsName names p are.each there).no_blank k

tails : {X : Type 0} (x y : X) (xs ys : List X) → x ∷ xs ≡ y ∷ ys → (x ≡ y) × (xs ≡ ys)
tails x y xs ys e = (cc, cc)

pub same_names : (names others : List (List ℕ)) → AreNames names → AreNames others → header_line names ≡ header_line others → names ≡ others
same_names names others a b e = (tails _ _ names others (sym (header_names names a) ∙ (ap (slice_split (λ c. c == 32)) e ∙ header_names others b))).1

-- what is split into the word and these names is their header
pub header_from : (line : List ℕ) (names : List (List ℕ)) → (Contains line 10 → ⊥) → slice_split (λ b. b == 32) line ≡ codes "inputs" ∷ names →
    ((name : List ℕ) → Contains names name → 0 < length name) → AreDistinct names → (line ≡ header_line names) × AreNames names
header_from line names free split some distinct = (
  sym (join_with_byte-slice_split 32 line) ∙ (ap (join_with_byte 32) split ∙ sym (words_joined (codes "inputs") names)),
  record { each = All-from_each IsName names named; distinct = distinct },
)
  where
    byte : (name : List ℕ) → Contains names name → (b : ℕ) → Contains name b → Contains line b × ((b == 32) ≡ false)
    byte name h = piece_byte 32 line name (subst (λ (ps : List (List ℕ)). Contains ps name) (sym split) (Contains-tail (codes "inputs") name names h))

    no : true ≡ false → ⊥
    no q = cc

    named : (name : List ℕ) → Contains names name → IsName name
    named name h = record {
      some = some name h;
      no_blank = λ k. no (sym ((Decides-eqb 32 32).1 refl) ∙ (byte name h 32 k).1);
      no_line_feed = λ k. free (byte name h 10 k).0;
    }

-- digits and rows tell bits apart
digit_same : (a b : Bool) → digit_of a ≡ digit_of b → a ≡ b
digit_same true true e = refl
digit_same true false e = absurd (omega (arith, e))
digit_same false true e = absurd (omega (arith, e))
digit_same false false e = refl

digits_same : (xs ys : List Bool) → map digit_of xs ≡ map digit_of ys → xs ≡ ys
digits_same [] [] e = refl
digits_same [] (y ∷ ys) e = absurd (let f = ap length e in omega (arith, f))
digits_same (x ∷ xs) [] e = absurd (let f = ap length e in omega (arith, f))
digits_same (x ∷ xs) (y ∷ ys) e =
    let parts = tails (digit_of x) (digit_of y) (map digit_of xs) (map digit_of ys) e in
    let head = digit_same x y parts.0 in
    let tail = digits_same xs ys parts.1 in
    cc

row_same : (xs ys : List Bool) → length xs ≡ length ys → row_text xs ≡ row_text ys → xs ≡ ys
row_same [] [] l e = refl
row_same [] (y ∷ ys) l e = absurd (omega (arith, l))
row_same (x ∷ xs) [] l e = absurd (omega (arith, l))
row_same (x ∷ xs) (y ∷ ys) l e = digits_same (x ∷ xs) (y ∷ ys) e

rows_same : (count : ℕ) (xs ys : List (List Bool)) → ((r : List Bool) → Contains xs r → length r ≡ count) → ((r : List Bool) → Contains ys r → length r ≡ count) → map row_text xs ≡ map row_text ys → xs ≡ ys
rows_same count [] [] a b e = refl
rows_same count [] (y ∷ ys) a b e = absurd (let f = ap length e in omega (arith, f))
rows_same count (x ∷ xs) [] a b e = absurd (let f = ap length e in omega (arith, f))
rows_same count (x ∷ xs) (y ∷ ys) a b e =
    let parts = tails (row_text x) (row_text y) (map row_text xs) (map row_text ys) e in
    let head : x ≡ y = row_same x y (a x (Contains-head x xs) ∙ sym (b y (Contains-head y ys))) parts.0 in
    let tail : xs ≡ ys = rows_same count xs ys (λ r h. a r (Contains-tail x r xs h)) (λ r h. b r (Contains-tail y r ys h)) parts.1 in
    cc

-- a text is the form of one stimulus alone
pub one_form : (text : List ℕ) (names others : List (List ℕ)) (rows more : List (List Bool)) → AreNames names → AreRows (length names) rows → lines_of text ≡ header_line names ∷ map row_text rows →
    IsForm text others more → (names ≡ others) × (rows ≡ more)
one_form text names others rows more are wide lines form =
    let both = tails (header_line names) (header_line others) (map row_text rows) (map row_text more) (sym lines ∙ form_lines others more form.names_are text form.spelled) in
    let same : names ≡ others = same_names names others are form.names_are both.0 in (
      same,
      rows_same (length names) rows more (λ r h. All-contains (λ (row : List Bool). length row ≡ length names) rows r wide h)
          (λ r h. All-contains (λ (row : List Bool). length row ≡ length others) more r form.rows_are h ∙ sym (ap length same)) both.1,
    )

-- a form has a header and no faulty row
pub has_header : (text header : List ℕ) (left names : List (List ℕ)) (rows : List (List Bool)) → lines_of text ≡ header ∷ left → IsForm text names rows → AreNames names × (header ≡ header_line names)
has_header text header left names rows lines form =
    (form.names_are, (tails header (header_line names) left (map row_text rows) (sym lines ∙ form_lines names rows form.names_are text form.spelled)).0)

pub no_bad_line : (text : List ℕ) (names others : List (List ℕ)) (left : List (List ℕ)) (rows : List (List Bool)) (number : ℕ) → AreNames names → lines_of text ≡ header_line names ∷ left → IsForm text others rows →
    IsBadLine (length names) left number → ⊥
no_bad_line text names others left rows number are lines form bad =
    let both = tails (header_line names) (header_line others) left (map row_text rows) (sym lines ∙ form_lines others rows form.names_are text form.spelled) in
    let same : names ≡ others = same_names names others are form.names_are both.0 in
    let there : Contains (map row_text rows) bad.line =
    subst (λ (ls : List (List ℕ)). Contains ls bad.line) (sym bad.lines_are ∙ both.1) (Contains-append_right (map row_text bad.rows) (bad.line ∷ bad.more) bad.line (Contains-head bad.line bad.more)) in
    let row = Contains-map_from row_text rows bad.line there in
    bad.faulty row.0 (All-contains (λ (r : List Bool). length r ≡ length others) rows row.0 form.rows_are row.1 ∙ sym (ap length same)) row.2

pub bad_row : (text : List ℕ) (names left : List (List ℕ)) (number : ℕ) → AreNames names → lines_of text ≡ header_line names ∷ left → IsBadLine (length names) left number → IsBadRow text number
bad_row text names left number are lines bad = record {
  names = names;
  rows = bad.rows;
  line = bad.line;
  more = bad.more;
  lines = lines ∙ ap (λ ls. header_line names ∷ ls) bad.lines_are;
  names_are = are;
  rows_are = bad.rows_are;
  faulty = bad.faulty;
  place = bad.place;
}

-- a text with a form has a line
pub no_lines : (text : List ℕ) (names : List (List ℕ)) (rows : List (List Bool)) → lines_of text ≡ [] → IsForm text names rows → ⊥
no_lines text names rows none form = let f = ap length (sym none ∙ form_lines names rows form.names_are text form.spelled) in omega (arith, f)

-- a line has no line feed
pub header_free : (text header : List ℕ) (left : List (List ℕ)) → lines_of text ≡ header ∷ left → Contains header 10 → ⊥
header_free text header left lines h = differ (sym ((Decides-eqb 10 10).1 refl) ∙ (piece_byte 10 (strip_last 10 text) header (subst (λ (ls : List (List ℕ)). Contains ls header) (sym lines) (Contains-head header left)) 10 h).1)
  where
    differ : true ≡ false → ⊥
    differ q = cc

-- the lines are few
pub few_lines : (text header : List ℕ) (left : List (List ℕ)) → lines_of text ≡ header ∷ left → length left ≤ length text
few_lines text header left lines =
    let f = ap length lines in
    let g = split_few 10 (strip_last 10 text) in
    let h = strip_few text in
    omega (arith, f, g, h)

place_left : (xs ys : List (List ℕ)) (k : ℕ) (x : List ℕ) → slice_get xs k ≡ Some x → slice_get (xs ++ ys) k ≡ Some x
place_left [] ys k x h = absurd (let w = slice_get_within [] k x h in omega arith)
place_left (y ∷ xs) ys zero x h = h
place_left (y ∷ xs) ys (suc k) x h = place_left xs ys k x h

place_at : (xs : List (List ℕ)) (x : List ℕ) (ys : List (List ℕ)) → slice_get (xs ++ x ∷ ys) (length xs) ≡ Some x
place_at [] x ys = refl
place_at (y ∷ xs) x ys = place_at xs x ys

-- the names so far and what is left of a header
module _ (line : List ℕ) (names pieces : List (List ℕ)) (name : List ℕ) (rest : List (List ℕ)) (split : slice_split (λ b. b == 32) line ≡ codes "inputs" ∷ (names ++ pieces)) (next : pieces ≡ name ∷ rest) where
  others_are : (others : List (List ℕ)) → AreNames others → line ≡ header_line others → others ≡ names ++ name ∷ rest
  others_are others are e =
      (tails (codes "inputs") (codes "inputs") others (names ++ pieces) (sym (header_names others are) ∙ (ap (slice_split (λ b. b == 32)) (sym e) ∙ split))).1 ∙ ap (λ (ps : List (List ℕ)). names ++ ps) next

  pub empty_name : (length name == 0) ≡ true → (others : List (List ℕ)) → AreNames others → line ≡ header_line others → ⊥
  empty_name empty others are e =
      let there : Contains others name = subst (λ (ns : List (List ℕ)). Contains ns name) (sym (others_are others are e)) (Contains-append_right names (name ∷ rest) name (Contains-head name rest)) in
      let some = (All-contains IsName others name are.each there).some in
      let none = (Decides-eqb (length name) 0).0 empty in
      omega (arith, some, none)

  pub twice_name : is_among names name ≡ true → (others : List (List ℕ)) → AreNames others → line ≡ header_line others → ⊥
  twice_name among others are e =
      let same = others_are others are e in
      let at = is_among-at names name among in
      let first : slice_get others at.0 ≡ Some name = ap (λ (ns : List (List ℕ)). slice_get ns at.0) same ∙ place_left names (name ∷ rest) at.0 name at.1 in
      let second : slice_get others (length names) ≡ Some name = ap (λ (ns : List (List ℕ)). slice_get ns (length names)) same ∙ place_at names name rest in
      let one = are.distinct at.0 (length names) name first second in
      let below = slice_get_within names at.0 name at.1 in
      omega (arith, one, below)

  pub more_name : (length name == 0) ≡ false → is_among names name ≡ false → (new : List (List ℕ)) → new ≡ cond (is_among names name) names (names ++ name ∷ []) →
      ((n : List ℕ) → Contains names n → 0 < length n) → (slice_split (λ b. b == 32) line ≡ codes "inputs" ∷ (new ++ rest)) × ((n : List ℕ) → Contains new n → 0 < length n)
  more_name some apart new is all = (
    split ∙ ap (λ (ns : List (List ℕ)). codes "inputs" ∷ ns) (ap (λ (ps : List (List ℕ)). names ++ ps) next ∙ (sym (append_assoc names (name ∷ []) rest) ∙ ap (λ (ns : List (List ℕ)). ns ++ rest) (sym pushed))),
    λ n h. pick n (Contains-append_cases names (name ∷ []) n (subst (λ (ns : List (List ℕ)). Contains ns n) pushed h)),
  )
    where
      pushed : new ≡ names ++ name ∷ []
      pushed = is ∙ ap (λ t. cond t names (names ++ name ∷ [])) apart

      positive : (n : List ℕ) → (length n == 0) ≡ false → 0 < length n
      positive [] q = absurd (empty q)
        where
          empty : true ≡ false → ⊥
          empty z = cc
      positive (x ∷ xs) q = omega arith

      last : (n : List ℕ) → (name ≡ n) ⊎ Contains [] n → 0 < length n
      last n (inl e) = subst (λ (k : List ℕ). 0 < length k) e (positive name some)
      last n (inr z) = absurd (omega (arith, z.1))

      pick : (n : List ℕ) → Contains names n ⊎ Contains (name ∷ []) n → 0 < length n
      pick n (inl h) = all n h
      pick n (inr h) = last n (Contains-cases name n [] h)

-- the only error that no line causes
pub only_memory : (e : StimError) → ((n : ℕ) → e ≡ stim_error.BadHeader n → ⊥) → ((n : ℕ) → e ≡ stim_error.BadRow n → ⊥) → e ≡ stim_error.NoMemory
only_memory (stim_error.BadHeader n) header row = absurd (header n refl)
only_memory (stim_error.BadRow n) header row = absurd (row n refl)
only_memory stim_error.NoMemory header row = refl
