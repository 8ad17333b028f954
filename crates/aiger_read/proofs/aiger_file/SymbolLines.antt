-- Symbols, line by line.
use Rattle.std.proofs.Common.{◌≡◌, ℕ, zero, suc, ◌+◌, ◌<◌, ◌≤◌, Bool, true, false, cond, ltb, List, [], ◌∷◌, ◌++◌, map, length, take, Option, Some, None, refl, sym, ◌∙◌, ap, subst, arith, append_assoc, append-nil, ◌-◌, get_or, drop, ap₂}
use Rattle.std.specs.List.{slice_split, onto_first, position_or_len, before_first, after_first}
use Rattle.std.specs.Prelude.{option_and_then}
use Rattle.std.proofs.lemmas.List.{take_rest}
use Rattle.std.proofs.lemmas.List.Splits.{slice_split_first, slice_split_none, length-slice_split}
use Rattle.std.proofs.lemmas.List.Sums.{fails_before_first}
use Rattle.std.proofs.lemmas.Bool.Decides.{Decides-eqb, Decides-ltb}
use Rattle.std.proofs.lemmas.Option.{none-some, same_Some}
use Rattle.std.proofs.lemmas.Bool.{ltb-false}
use Rattle.aiger_read.specs.declared.aiger_records.header.Header.{Header}
use Rattle.aiger_read.specs.declared.aiger_records.error.AigerKind.{AigerKind}
use Rattle.aiger_read.specs.declared.aiger_file.symbol.Named.{Named}
use Rattle.aiger_read.specs.aiger_records.Lines.{Cut, cut_at, is_line_feed}
use Rattle.aiger_read.specs.aiger_records.Numbers.{is_blank, number_of}
use Rattle.aiger_read.specs.declared.aiger_records.record.Section.{Section}
use Rattle.aiger_read.specs.aiger_file.Symbols.{section_named, symbol_parted, symbol_with, Symbol, symbol_of, symbols_in, symbols_of, is_end, is_comment, symbol_fault}
use Rattle.aiger_read.specs.aiger_file.Reading.{first_symbol_fault, fault_at, at, those_there, named_by}
use Rattle.aiger_read.specs.aiger_file.State.{SymbolsTo}

-- nothing is read from the end on
pub no_symbols : (text : List ℕ) → is_end text ≡ true → symbols_of text ≡ []
no_symbols [] e = refl
no_symbols (byte ∷ text) e =
    let P : ℕ → Type 0 = λ b. symbols_of (b ∷ text) ≡ [] in
    subst P (sym ((Decides-eqb byte 99).0 e)) (comment (slice_split is_line_feed text))
  where
    comment : (pieces : List (List ℕ)) → symbols_in (onto_first 99 pieces) ≡ []
    comment [] = refl
    comment (piece ∷ []) = refl
    comment (piece ∷ next ∷ pieces) = refl

-- where a text is cut
cut_is : (test : ℕ → Bool) (text : List ℕ) (cut : Cut) → cut_at test text ≡ Some cut → (position_or_len test text < length text) × (before_first test text ≡ cut.before) × (after_first test text ≡ cut.after)
cut_is test text cut e = go (ltb (position_or_len test text) (length text)) refl e
  where
    go : (b : Bool) → ltb (position_or_len test text) (length text) ≡ b → cond {A = Option Cut} b (Some (record { before = before_first test text; after = after_first test text })) None ≡ Some cut →
        (position_or_len test text < length text) × (before_first test text ≡ cut.before) × (after_first test text ≡ cut.after)
    go true is same = ((Decides-ltb (position_or_len test text) (length text)).0 is, ap (λ (c : Cut). c.before) (same_Some _ _ same), ap (λ (c : Cut). c.after) (same_Some _ _ same))
    go false is same = absurd (none-some _ same)

not_cut : (test : ℕ → Bool) (text : List ℕ) → cut_at test text ≡ None → length text ≤ position_or_len test text
not_cut test text e = go (ltb (position_or_len test text) (length text)) refl e
  where
    go : (b : Bool) → ltb (position_or_len test text) (length text) ≡ b → cond {A = Option Cut} b (Some (record { before = before_first test text; after = after_first test text })) None ≡ None → length text ≤ position_or_len test text
    go true is same = absurd (none-some _ (sym same))
    go false is same = ltb-false (position_or_len test text) (length text) is

no_comment : (text : List ℕ) (n : ℕ) → is_end text ≡ false → is_comment (take n text) ≡ false
no_comment [] n e = cc
no_comment (byte ∷ text) zero e = refl
no_comment (byte ∷ text) (suc n) e = e

symbol_line : (line : List ℕ) (pieces : List (List ℕ)) → is_comment line ≡ false → 0 < length pieces → symbols_in (line ∷ pieces) ≡ symbol_of line ∷ symbols_in pieces
symbol_line line [] e some = absurd (omega arith)
symbol_line line (next ∷ pieces) e some = rw e refl

pub next_symbol : (text : List ℕ) (cut : Cut) → is_end text ≡ false → cut_at is_line_feed text ≡ Some cut → symbols_of text ≡ symbol_of cut.before ∷ symbols_of cut.after
next_symbol text cut e is =
    let there = cut_is is_line_feed text cut is in
    let P : List ℕ → List ℕ → Type 0 = λ before after. symbols_of text ≡ symbol_of before ∷ symbols_of after in
    let found : symbols_of text ≡ symbol_of (before_first is_line_feed text) ∷ symbols_of (after_first is_line_feed text) =
    ap symbols_in (slice_split_first is_line_feed text 0 there.0)
    ∙ symbol_line (before_first is_line_feed text) (slice_split is_line_feed (after_first is_line_feed text)) (no_comment text (position_or_len is_line_feed text) e)
    (omega (arith, length-slice_split is_line_feed (after_first is_line_feed text))) in
    found ∙ ap (λ (b : List ℕ). symbol_of b ∷ symbols_of (after_first is_line_feed text)) there.1 ∙ ap (λ (a : List ℕ). symbol_of cut.before ∷ symbols_of a) there.2

pub cut_symbol : (text : List ℕ) → is_end text ≡ false → cut_at is_line_feed text ≡ None → symbols_of text ≡ None ∷ []
cut_symbol text e is =
    let past = not_cut is_line_feed text is in
    ap symbols_in (slice_split_none is_line_feed text (λ k d h. fails_before_first is_line_feed text k d (omega arith))) ∙ rw e refl

pub symbols_go_on : (h : Header) (place next : ℕ) (whole left : List (Option Symbol)) (s : Symbol) (before after : Named) → symbol_fault h before.keys s ≡ None →
    after.keys ≡ before.keys ++ s.key ∷ [] → after.names ≡ before.names ++ s.name ∷ [] →
    SymbolsTo h place whole (Some s ∷ left) next before → SymbolsTo h place whole left (next + 1) after
symbols_go_on h place next whole left s before after sound keys names to = record {
  fault = to.fault ∙ ap (λ f. fault_at next f (first_symbol_fault h (next + 1) (before.keys ++ s.key ∷ []) left)) sound ∙ ap (λ ks. first_symbol_fault h (next + 1) ks left) (sym keys);
  keys = to.keys ∙ sym (append_assoc before.keys (s.key ∷ []) (map (λ s. s.key) (those_there left))) ∙ ap (λ ks. ks ++ map (λ s. s.key) (those_there left)) (sym keys);
  names = to.names ∙ sym (append_assoc before.names (s.name ∷ []) (map (λ s. s.name) (those_there left))) ∙ ap (λ ns. ns ++ map (λ s. s.name) (those_there left)) (sym names);
}

pub symbol_is_faulty : (h : Header) (place next : ℕ) (whole left : List (Option Symbol)) (s : Symbol) (before : Named) (fault : AigerKind) → symbol_fault h before.keys s ≡ Some fault →
    SymbolsTo h place whole (Some s ∷ left) next before → first_symbol_fault h place [] whole ≡ Some (at next fault)
symbol_is_faulty h place next whole left s before fault found to =
    to.fault ∙ ap (λ f. fault_at next f (first_symbol_fault h (next + 1) (before.keys ++ s.key ∷ []) left)) found

pub symbols_end : (h : Header) (place next : ℕ) (whole left : List (Option Symbol)) (before : Named) → left ≡ [] → SymbolsTo h place whole left next before →
    (first_symbol_fault h place [] whole ≡ None) × (before ≡ named_by (those_there whole))
symbols_end h place next whole left before none to =
    let P : List (Option Symbol) → Type 0 = λ ss. SymbolsTo h place whole ss next before in
    let now : SymbolsTo h place whole [] next before = subst P none to in
    let made : List (List ℕ) → List (List ℕ) → Named = λ (ks : List (List ℕ)) (ns : List (List ℕ)). record { keys = ks; names = ns } in
    (now.fault, sym (ap (λ ks. made ks (map (λ s. s.name) (those_there whole))) (now.keys ∙ append-nil before.keys) ∙ ap (λ ns. made before.keys ns) (now.names ∙ append-nil before.names)))

-- the symbol of a line by its parts, or none
pub symbol_is : (line key name : List ℕ) (section : Option Section) (number : Option ℕ) → cut_at is_blank line ≡ Some (record { before = key; after = name }) → 1 ≤ length key → section ≡ section_named (get_or key 0 0) →
    number ≡ number_of (take (length key - 1) (drop 1 key)) → symbol_of line ≡ symbol_with key name section number
unfolding symbol_of
symbol_is line key name section number cut some is_section is_number = ap (option_and_then (λ (c : Cut). symbol_parted c.before c.after)) cut ∙ parted key some is_section is_number
  where
    parted : (word : List ℕ) → 1 ≤ length word → section ≡ section_named (get_or word 0 0) → number ≡ number_of (take (length word - 1) (drop 1 word)) → symbol_parted word name ≡ symbol_with word name section number
    parted [] h i n = absurd (omega (arith, h))
    parted (letter ∷ digits) h i n = sym (ap₂ (symbol_with (letter ∷ digits) name) i (n ∙ ap number_of (take_rest (letter ∷ digits) 1)))
