-- Tokens written one after the other.
use Rattle.std.proofs.Common.{◌≡◌, ℕ, Bool, ◌&&◌, List, [], ◌∷◌, ◌++◌, refl, sym, ap, ap₂, ◌∙◌, append_assoc, if◌then◌else◌, codes}
use Rattle.lv_text.specs.Lexemes.{Lexeme}
use Rattle.lv_formula_text.specs.Spacing.{is_wordlike, spaced, ends_in_word, written}

pub spaced_more : (after : Bool) (ts us : List Lexeme) → spaced after (ts ++ us) ≡ spaced after ts ++ spaced (ends_in_word after ts) us
spaced_more after [] us = refl
spaced_more after (t ∷ ts) us =
    let gap = if after && is_wordlike t.kind then codes " " else [] in
    ap (λ xs. gap ++ (t.text ++ xs)) (spaced_more (is_wordlike t.kind) ts us)
    ∙ ap (λ xs. gap ++ xs) (sym (append_assoc t.text (spaced (is_wordlike t.kind) ts) (spaced (ends_in_word (is_wordlike t.kind) ts) us)))
    ∙ sym (append_assoc gap (t.text ++ spaced (is_wordlike t.kind) ts) (spaced (ends_in_word (is_wordlike t.kind) ts) us))

pub ends_more : (after : Bool) (ts us : List Lexeme) → ends_in_word after (ts ++ us) ≡ ends_in_word (ends_in_word after ts) us
ends_more after [] us = refl
ends_more after (t ∷ ts) us = ends_more (is_wordlike t.kind) ts us

pub written_more : (ts us : List Lexeme) (w : List ℕ × Bool) → written (ts ++ us) w ≡ written us (written ts w)
written_more ts us w =
    ap₂ (λ (x : List ℕ) (y : Bool). (x, y))
    (ap (λ xs. w.0 ++ xs) (spaced_more w.1 ts us) ∙ sym (append_assoc w.0 (spaced w.1 ts) (spaced (ends_in_word w.1 ts) us)))
    (ends_more w.1 ts us)
