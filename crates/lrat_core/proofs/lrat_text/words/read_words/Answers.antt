use Rattle.std.proofs.Common.{Bool, List, ℕ, ◌∷◌, sym, ◌∙◌, ap, subst, bytes_eq}
use Rattle.text_numbers.specs.Numbers.{numbers_of, IsRead}
use Rattle.lrat_core.proofs.lrat_text.Worded.{addition_words, no_addition_words, no_second_word, deletion_words, no_deletion_words}
use Rattle.lrat_core.proofs.lrat_text.words.read_words.Goals as goal

pub returns-then-branch-2 : goal.returns-then-branch-2
returns-then-branch-2 c = λ limit.
    let first = c.in-Some.first.now in
    let second = c.in-Some-next_token.second.now in
    addition_words limit _ first second c.next_token-2.new.self c.in-Some-number_of.id c.in-Some-number_of-2.next c.clear.new.self.items c.push.new.self.items c.push-2.new.self.items c.read_numbers-2.new.numbers.items
    (sym c.new-tokens.ensures ∙ (c.in-Some.ensures ∙ ap (λ (ts : List (List ℕ)). first ∷ ts) c.in-Some-next_token.ensures)) (sym (c.if-eq.ensures ∙ ap (bytes_eq second) c.as_slice.ensures))
    (sym c.number_of.ensures ∙ c.in-Some-number_of.is) (sym c.number_of-2.ensures ∙ c.in-Some-number_of-2.is) c.clear.ensures.items c.in_ok-push.ensures.items c.in_ok-push-2.ensures.items
    (subst (λ (b : Bool). IsRead (numbers_of c.next_token-2.new.self) b c.push-2.new.self.items c.read_numbers-2.new.numbers.items) c.if-branch-2.true c.in_ok-read_numbers-2.ensures)

pub returns : goal.returns
returns c = λ limit.
    let first = c.in-Some.first.now in
    let second = c.in-Some-next_token.second.now in
    no_addition_words limit _ first second c.next_token-2.new.self c.in-Some-number_of.id c.in-Some-number_of-2.next
    (sym c.new-tokens.ensures ∙ (c.in-Some.ensures ∙ ap (λ (ts : List (List ℕ)). first ∷ ts) c.in-Some-next_token.ensures)) (sym (c.if-eq.ensures ∙ ap (bytes_eq second) c.as_slice.ensures))
    (sym c.number_of.ensures ∙ c.in-Some-number_of.is) (sym c.number_of-2.ensures ∙ c.in-Some-number_of-2.is)
    (subst (λ (b : Bool). IsRead (numbers_of c.next_token-2.new.self) b c.push-2.new.self.items c.read_numbers-2.new.numbers.items) c.if-branch-2.false c.in_ok-read_numbers-2.ensures)

pub returns-in_default-number_of-2 : goal.returns-in_default-number_of-2
returns-in_default-number_of-2 c = λ limit.
    let first = c.in-Some.first.now in
    let second = c.in-Some-next_token.second.now in
    no_second_word limit _ first second c.next_token-2.new.self c.in-Some-number_of.id
    (sym c.new-tokens.ensures ∙ (c.in-Some.ensures ∙ ap (λ (ts : List (List ℕ)). first ∷ ts) c.in-Some-next_token.ensures)) (sym (c.if-eq.ensures ∙ ap (bytes_eq second) c.as_slice.ensures))
    (sym c.number_of.ensures ∙ c.in-Some-number_of.is) (sym c.number_of-2.ensures ∙ c.in_default-number_of-2.is)

pub returns-then-branch : goal.returns-then-branch
returns-then-branch c = λ limit.
    let first = c.in-Some.first.now in
    let second = c.in-Some-next_token.second.now in
    deletion_words limit _ first second c.next_token-2.new.self c.in-Some-number_of.id c.clear.new.self.items c.push.new.self.items c.read_numbers.new.numbers.items
    (sym c.new-tokens.ensures ∙ (c.in-Some.ensures ∙ ap (λ (ts : List (List ℕ)). first ∷ ts) c.in-Some-next_token.ensures)) (sym (c.if-eq.ensures ∙ ap (bytes_eq second) c.as_slice.ensures))
    (sym c.number_of.ensures ∙ c.in-Some-number_of.is) c.clear.ensures.items c.in_ok-push.ensures.items
    (subst (λ (b : Bool). IsRead (numbers_of c.next_token-2.new.self) b c.push.new.self.items c.read_numbers.new.numbers.items) c.if-branch.true c.in_ok-read_numbers.ensures)

pub returns-then-eq : goal.returns-then-eq
returns-then-eq c = λ limit.
    let first = c.in-Some.first.now in
    let second = c.in-Some-next_token.second.now in
    no_deletion_words limit _ first second c.next_token-2.new.self c.in-Some-number_of.id
    (sym c.new-tokens.ensures ∙ (c.in-Some.ensures ∙ ap (λ (ts : List (List ℕ)). first ∷ ts) c.in-Some-next_token.ensures)) (sym (c.if-eq.ensures ∙ ap (bytes_eq second) c.as_slice.ensures))
    (sym c.number_of.ensures ∙ c.in-Some-number_of.is)
    (subst (λ (b : Bool). IsRead (numbers_of c.next_token-2.new.self) b c.push.new.self.items c.read_numbers.new.numbers.items) c.if-branch.false c.in_ok-read_numbers.ensures)
