-- What is taken off a text, and where no line can be.
use Rattle.std.proofs.Common.{◌≡◌, ℕ, ◌+◌, ◌-◌, ◌<◌, true, false, nat_eq, List, [], ◌∷◌, ◌++◌, length, take, drop, Option, Some, None, refl, sym, ap, ap₂, subst, ◌∙◌, arith}
use Rattle.std.specs.List.{slice_split, position}
use Rattle.std.specs.Option.{option_and_then}
use Rattle.std.proofs.lemmas.Bool.{and_parts, and_from}
use Rattle.std.proofs.lemmas.Bool.Decides.{nat_tests}
use Rattle.std.proofs.lemmas.List.{append_assoc, append-nil, length-drop}
use Rattle.std.proofs.lemmas.List.Folds.{list_all-append}
use Rattle.std.proofs.lemmas.List.Splits.{slice_split_at, length-slice_split}
use Rattle.lv_cert.specs.declared.line.Line.{Line}
use Rattle.lv_cert.specs.declared.order.Place.{Place}
use Rattle.lv_cert.specs.declared.whole.Taken.{Taken}
use Rattle.lv_cert.specs.Texts.{words_of, joined, line_text, text_of}
use Rattle.lv_cert.specs.Words.{is_space, is_line_feed}
use Rattle.lv_cert.specs.Reading.{line_of}
use Rattle.lv_cert.specs.Order.{place_after, place_behind}
use Rattle.lv_cert.specs.Form.{is_formed, is_done, has_ended, IsReadTo, IsCertificate, IsStuck, IsFaultAt}
use Rattle.lv_cert.specs.Taking.{IsTaken}
use Rattle.lv_cert.proofs.CutLemmas.{found_place, split_none, split_found, cut_found, behind}
use Rattle.lv_cert.proofs.TextLemmas.{line_read, line_written, line_inside}

-- the parts at line feeds of a text that begins with a line
pub line_first : (l : Line) (more : List ℕ) → is_formed l ≡ true → slice_split is_line_feed (line_text l ++ more) ≡ joined (words_of l) ∷ slice_split is_line_feed more
line_first l more h = ap (slice_split is_line_feed) (append_assoc (joined (words_of l)) (10 ∷ []) more) ∙ slice_split_at is_line_feed (joined (words_of l)) 10 more (line_inside l h) refl

-- the bytes before the first line feed are the line that the text begins with
begins_at : (text : List ℕ) (at : ℕ) (l : Line) (more : List ℕ) → position is_line_feed text ≡ Some at → is_formed l ≡ true → text ≡ line_text l ++ more → joined (words_of l) ≡ take at text
begins_at text at l more place h e =
    let same : joined (words_of l) ∷ slice_split is_line_feed more ≡ take at text ∷ slice_split is_line_feed (drop (at + 1) text) =
    sym (line_first l more h) ∙ ap (slice_split is_line_feed) (sym e) ∙ split_found is_line_feed text at 0 place in
    cc

-- no line begins a text without a line feed
pub stuck_torn : (place : Place) (text : List ℕ) → position is_line_feed text ≡ None → IsStuck place text
stuck_torn place text none = record {
  none = λ l more h e.
      let same : joined (words_of l) ∷ slice_split is_line_feed more ≡ text ∷ [] = sym (line_first l more h) ∙ ap (slice_split is_line_feed) (sym e) ∙ split_none is_line_feed text none in
      let empty : slice_split is_line_feed more ≡ [] = cc in
      let long : length (slice_split is_line_feed more) ≡ _ = length-slice_split is_line_feed more in
      let zero_long : length (slice_split is_line_feed more) ≡ 0 = ap length empty in
      absurd (omega arith);
}

-- nor one whose first line is none
pub stuck_unread : (place : Place) (text : List ℕ) (at : ℕ) → position is_line_feed text ≡ Some at → line_of (slice_split is_space (take at text)) ≡ None → IsStuck place text
stuck_unread place text at found none = record {
  none = λ l more h e.
      let read : line_of (slice_split is_space (take at text)) ≡ Some l = ap (λ t. line_of (slice_split is_space t)) (sym (begins_at text at l more found h e)) ∙ line_written l h in
      absurd (cc);
}

-- nor one whose first line can't come at the place
pub stuck_there : (place : Place) (text : List ℕ) (at : ℕ) (l : Line) → position is_line_feed text ≡ Some at → line_of (slice_split is_space (take at text)) ≡ Some l
    → place_after place l ≡ None → IsStuck place text
stuck_there place text at k found is none = record {
  none = λ l more h e.
      let read : line_of (slice_split is_space (take at text)) ≡ Some l = ap (λ t. line_of (slice_split is_space t)) (sym (begins_at text at l more found h e)) ∙ line_written l h in
      let same : k ≡ l = cc in
      subst (λ m. place_after place m ≡ None) same none;
}

feed : (b : ℕ) → is_line_feed b ≡ true → b ≡ 10
feed b h = grind (arith, nat_tests)

-- a line that was read, and may come
pub taken : (place : Place) (text : List ℕ) (at : ℕ) (l : Line) (next : Place) → position is_line_feed text ≡ Some at → line_of (slice_split is_space (take at text)) ≡ Some l
    → place_after place l ≡ Some next → IsTaken place text (record { line = l; place = next; length = at + 1 })
taken place text at l next found is order =
    let read = line_read (take at text) l is in
    let there = found_place is_line_feed text at found in
    record {
      begins = cut_found is_line_feed 10 feed text at found ∙ sym (append_assoc (take at text) (10 ∷ []) (drop (at + 1) text)) ∙ ap (λ t. t ++ 10 ∷ [] ++ drop (at + 1) text) (sym read.0);
      formed = read.1;
      order = order;
      some = omega arith;
      inside = omega (arith, there.1);
    }

-- the text and the places of lines with one more
text_more : (ls : List Line) (l : Line) → text_of (ls ++ l ∷ []) ≡ text_of ls ++ line_text l
text_more [] l = append-nil (line_text l)
text_more (k ∷ ks) l = ap (λ t. line_text k ++ t) (text_more ks l) ∙ sym (append_assoc (line_text k) (text_of ks) (line_text l))

place_more : (place : Place) (ls : List Line) (l : Line) → place_behind place (ls ++ l ∷ []) ≡ option_and_then (λ q. place_after q l) (place_behind place ls)
place_more place [] l = by (place_after place l)
  where
    by : (o : Option Place) → option_and_then (λ q. Some q) o ≡ o
    by None = refl
    by (Some q) = refl
place_more place (k ∷ ks) l = by (place_after place k) (λ q. place_more q ks l)
  where
    by : (o : Option Place) → ((q : Place) → place_behind q (ks ++ l ∷ []) ≡ option_and_then (λ r. place_after r l) (place_behind q ks))
        → option_and_then (λ q. place_behind q (ks ++ l ∷ [])) o ≡ option_and_then (λ q. place_after q l) (option_and_then (λ q. place_behind q ks) o)
    by None later = refl
    by (Some q) later = later q

-- reading goes on by a line that was taken
pub read_on : (place : Place) (front : List Line) (bytes rest : List ℕ) (t : Taken) → IsReadTo place front bytes rest → IsTaken place rest t
    → IsReadTo t.place (front ++ t.line ∷ []) bytes (take (length rest - t.length) (drop t.length rest))
read_on place front bytes rest t r h = record {
  text = r.text ∙ ap (λ x. text_of front ++ x) h.begins ∙ sym (append_assoc (text_of front) (line_text t.line) (drop t.length rest))
      ∙ ap₂ (λ (x y : List ℕ). x ++ y) (sym (text_more front t.line)) (sym (behind rest t.length));
  formed = list_all-append is_formed front (t.line ∷ []) ∙ and_from _ _ r.formed (and_from _ _ h.formed refl);
  order = place_more Place.Start front t.line ∙ ap (option_and_then (λ q. place_after q t.line)) r.order ∙ h.order;
}

-- and what is left gets shorter
pub shorter : (place : Place) (rest : List ℕ) (t : Taken) → IsTaken place rest t → length (take (length rest - t.length) (drop t.length rest)) < length rest
shorter place rest t h =
    let e : length (take (length rest - t.length) (drop t.length rest)) ≡ length rest - t.length = ap length (behind rest t.length) ∙ length-drop t.length rest in
    let some = h.some in let inside = h.inside in
    omega arith

-- nothing is read at the start
pub nothing_read : (bytes : List ℕ) → IsReadTo Place.Start [] bytes bytes
nothing_read bytes = record { text = refl; formed = refl; order = refl }

-- a certificate that has ended
pub whole : (place : Place) (lines : List Line) (bytes rest : List ℕ) → has_ended place rest ≡ true → IsReadTo place lines bytes rest → IsCertificate bytes lines
whole place lines bytes rest end r =
    let parts = and_parts _ _ end in
    let done : place ≡ Place.Done = is_end place parts.0 in
    let empty : rest ≡ [] = nothing rest parts.1 in
    record {
      text = r.text ∙ ap (λ t. text_of lines ++ t) empty ∙ append-nil (text_of lines);
      formed = r.formed;
      order = r.order ∙ ap (λ q. Some q) done;
    }
  where
    is_end : (q : Place) → is_done q ≡ true → q ≡ Place.Done
    is_end Place.Done h = refl
    is_end Place.Start h = absurd (cc)
    is_end _ h = absurd (cc)

    nothing : (us : List ℕ) → nat_eq (length us) 0 ≡ true → us ≡ []
    nothing [] e = refl
    nothing (u ∷ us) e = absurd (grind (arith, nat_tests))

-- where no line can be taken there is the fault
pub fault : (place : Place) (front : List Line) (bytes rest : List ℕ) (n : ℕ) → n ≡ length front + 1 → has_ended place rest ≡ false → IsReadTo place front bytes rest → IsStuck place rest
    → IsFaultAt bytes n
fault place front bytes rest n at open_ r s = record { place = place; front = front; rest = rest; read = r; at = at; unended = open_; stuck = s }
