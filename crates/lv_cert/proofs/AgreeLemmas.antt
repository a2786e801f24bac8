-- Two readings of a text that both can't go on are one.
use Rattle.std.proofs.Common.{◌≡◌, ℕ, ◌+◌, true, false, List, [], ◌∷◌, ◌++◌, length, drop, Option, Some, None, refl, sym, ap, ap₂, subst, ◌∙◌}
use Rattle.std.specs.List.{list_all, slice_split}
use Rattle.std.specs.Option.{option_and_then}
use Rattle.std.proofs.lemmas.Bool.{and_parts}
use Rattle.std.proofs.lemmas.List.{append_assoc, append-nil}
use Rattle.std.proofs.Math.Seq.{drop-append_seam}
use Rattle.lv_cert.specs.declared.line.Line.{Line}
use Rattle.lv_cert.specs.declared.order.Place.{Place}
use Rattle.lv_cert.specs.Texts.{words_of, joined, line_text, text_of}
use Rattle.lv_cert.specs.Words.{is_space, is_line_feed}
use Rattle.lv_cert.specs.Reading.{line_of}
use Rattle.lv_cert.specs.Order.{place_after, place_behind}
use Rattle.lv_cert.specs.Form.{is_formed, has_ended, IsStuck}
use Rattle.lv_cert.specs.Laws.{CertificateIsOne, FaultIsOne, FaultIsNoCertificate}
use Rattle.lv_cert.proofs.TextLemmas.{line_written}
use Rattle.lv_cert.proofs.TakingLemmas.{line_first}

-- a text begins with one line
same_line : (l m : Line) (x y : List ℕ) → is_formed l ≡ true → is_formed m ≡ true → line_text l ++ x ≡ line_text m ++ y → (l ≡ m) × (x ≡ y)
same_line l m x y h i e =
    let parts : joined (words_of l) ∷ slice_split is_line_feed x ≡ joined (words_of m) ∷ slice_split is_line_feed y =
    sym (line_first l x h) ∙ ap (slice_split is_line_feed) e ∙ line_first m y i in
    let text : joined (words_of l) ≡ joined (words_of m) = cc in
    let both : Some l ≡ Some m = sym (line_written l h) ∙ ap (λ t. line_of (slice_split is_space t)) text ∙ line_written m i in
    let same : l ≡ m = cc in
    let more : line_text l ++ x ≡ line_text l ++ y = e ∙ ap (λ k. line_text k ++ y) (sym same) in
    (same, sym (drop-append_seam (line_text l) x) ∙ ap (drop (length (line_text l))) more ∙ drop-append_seam (line_text l) y)

-- the first step of lines in order
first_step : (p q : Place) (l : Line) (ls : List Line) → place_behind p (l ∷ ls) ≡ Some q → (next : Place) × (place_after p l ≡ Some next) × (place_behind next ls ≡ Some q)
first_step p q l ls h = by (place_after p l) refl h
  where
    by : (o : Option Place) → place_after p l ≡ o → option_and_then (λ r. place_behind r ls) o ≡ Some q → (next : Place) × (place_after p l ≡ Some next) × (place_behind next ls ≡ Some q)
    by None is e = absurd (cc)
    by (Some r) is e = (r, is, e)

-- a line can't be read where none can
not_stuck : (p q : Place) (l : Line) (ls : List Line) (rest more : List ℕ) → IsStuck p rest → is_formed l ≡ true → rest ≡ text_of (l ∷ ls) ++ more → place_behind p (l ∷ ls) ≡ Some q → ⊥
not_stuck p q l ls rest more s h e o =
    let step = first_step p q l ls o in
    let none : place_after p l ≡ None = s.none l (text_of ls ++ more) h (e ∙ append_assoc (line_text l) (text_of ls) more) in
    let some : place_after p l ≡ Some step.0 = step.1 in
    absurd (cc)

agree : (front lines : List Line) (p place q : Place) (rest other : List ℕ) → text_of front ++ rest ≡ text_of lines ++ other → list_all is_formed front ≡ true → list_all is_formed lines ≡ true
    → place_behind p front ≡ Some place → place_behind p lines ≡ Some q → IsStuck place rest → IsStuck q other → (front ≡ lines) × (place ≡ q) × (rest ≡ other)
agree [] [] p place q rest other e h i o u s t = let same : place ≡ q = cc in (refl, same, e)
agree [] (m ∷ ms) p place q rest other e h i o u s t =
    let here : place ≡ p = cc in
    absurd (not_stuck p q m ms rest other (subst (λ r. IsStuck r rest) here s) (and_parts _ _ i).0 e u)
agree (l ∷ ls) [] p place q rest other e h i o u s t =
    let here : q ≡ p = cc in
    absurd (not_stuck p place l ls other rest (subst (λ r. IsStuck r other) here t) (and_parts _ _ h).0 (sym e) o)
agree (l ∷ ls) (m ∷ ms) p place q rest other e h i o u s t =
    let one = first_step p place l ls o in
    let two = first_step p q m ms u in
    let begin = same_line l m (text_of ls ++ rest) (text_of ms ++ other) (and_parts _ _ h).0 (and_parts _ _ i).0
    (sym (append_assoc (line_text l) (text_of ls) rest) ∙ e ∙ append_assoc (line_text m) (text_of ms) other) in
    let there : Some one.0 ≡ Some two.0 = sym one.1 ∙ ap (place_after p) begin.0 ∙ two.1 in
    let same : two.0 ≡ one.0 = cc in
    let later = agree ls ms one.0 place q rest other begin.1 (and_parts _ _ h).1 (and_parts _ _ i).1 one.2 (subst (λ r. place_behind r ms ≡ Some q) same two.2) s t in
    (ap₂ (λ (x : Line) (xs : List Line). x ∷ xs) begin.0 later.0, later.1, later.2)

-- nothing comes behind the end
end_stuck : (rest : List ℕ) → IsStuck Place.Done rest
end_stuck rest = record { none = λ l more h e. refl }

pub one_certificate : CertificateIsOne
one_certificate bytes ls ms c d =
    let e : text_of ls ++ [] ≡ text_of ms ++ [] = append-nil (text_of ls) ∙ sym c.text ∙ d.text ∙ sym (append-nil (text_of ms)) in
    (agree ls ms Place.Start Place.Done Place.Done [] [] e c.formed d.formed c.order d.order (end_stuck []) (end_stuck [])).0

pub one_fault : FaultIsOne
one_fault bytes n m f g =
    let e : text_of f.front ++ f.rest ≡ text_of g.front ++ g.rest = sym f.read.text ∙ g.read.text in
    let same = agree f.front g.front Place.Start f.place g.place f.rest g.rest e f.read.formed g.read.formed f.read.order g.read.order f.stuck g.stuck in
    f.at ∙ ap (λ ls. length ls + 1) same.0 ∙ sym g.at

pub fault_or_certificate : FaultIsNoCertificate
fault_or_certificate bytes ls n c f =
    let e : text_of ls ++ [] ≡ text_of f.front ++ f.rest = append-nil (text_of ls) ∙ sym c.text ∙ f.read.text in
    let same = agree ls f.front Place.Start Place.Done f.place [] f.rest e c.formed f.read.formed c.order f.read.order (end_stuck []) f.stuck in
    let ended : has_ended f.place f.rest ≡ true = ap₂ (λ (p : Place) (t : List ℕ). has_ended p t) (sym same.1) (sym same.2) in
    let unended : has_ended f.place f.rest ≡ false = f.unended in
    absurd (cc)
