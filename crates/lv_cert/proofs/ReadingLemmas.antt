-- Words that read as a line are its words, and the line has its form.
use Rattle.std.proofs.Common.{◌≡◌, ℕ, ◌+◌, ◌≤◌, Bool, true, false, cond, ◌&&◌, nat_eq, List, [], ◌∷◌, ◌++◌, length, take, drop, map, Option, Some, None, refl, sym, ap, ap₂, subst, ◌∙◌, arith}
use Rattle.std.specs.Prelude.{codes, decimal}
use Rattle.std.specs.Str.{bytes_eq}
use Rattle.std.specs.List.{list_all, position}
use Rattle.std.specs.Option.{option_map, option_and_then}
use Rattle.std.proofs.lemmas.Bool.{and_parts, and_from}
use Rattle.std.proofs.lemmas.Bool.Decides.{nat_tests}
use Rattle.std.proofs.lemmas.List.{length-map}
use Rattle.std.proofs.Math.ListN.{drop_of_length-le}
use Rattle.lv_text.specs.Numbers.{number_value}
use Rattle.lv_cert.specs.declared.line.Question.{Question}
use Rattle.lv_cert.specs.declared.line.Moment.{Moment}
use Rattle.lv_cert.specs.declared.line.Evidence.{Evidence}
use Rattle.lv_cert.specs.declared.line.Head.{Head}
use Rattle.lv_cert.specs.declared.line.Line.{Line}
use Rattle.lv_cert.specs.Texts.{question_word, moment_word, head_word, literal_word, evidence_words, words_of}
use Rattle.lv_cert.specs.Words.{is_word}
use Rattle.lv_cert.specs.Numbers.{is_number, is_positive, is_literal, literal_value}
use Rattle.lv_cert.specs.Reading.{question_of, moment_of, rare_head_of, head_of, has_fitting_count, numbers_of, literals_of, hints_of, row_of, only_word, certificate_of, number_of, fact_of, numbered, evidence_of, split_of, is_zero, clause_of, goal_of, model_of, end_of, other_line_of, distinct_of, limit_of, line_from, line_of}
use Rattle.lv_cert.specs.Form.{is_within_limit, is_formed_hint, is_formed_literal, is_formed_evidence, is_formed}
use Rattle.lv_cert.proofs.SpellingLemmas.{same_text, spelled, limited, literal_spelled}
use Rattle.lv_cert.proofs.CutLemmas.{cut_found}

-- a line has these words and its form
abbrev Reads : List (List ℕ) → Line → Type 0
Reads ws l = (words_of l ≡ ws) × (is_formed l ≡ true)

-- a choice by a word
choose : {A : Type 0} (P : Type 0) (w t : List ℕ) (first more : Option A) (a : A) → cond (bytes_eq w t) first more ≡ Some a → (w ≡ t → first ≡ Some a → P) → (more ≡ Some a → P) → P
choose P w t first more a h this later = by (bytes_eq w t) refl h
  where
    by : (c : Bool) → bytes_eq w t ≡ c → cond c first more ≡ Some a → P
    by true is e = this (same_text w t is) e
    by false is e = later e

-- the last choice by a word
only : {A : Type 0} (P : Type 0) (w t : List ℕ) (first : Option A) (a : A) → cond (bytes_eq w t) first None ≡ Some a → (w ≡ t → first ≡ Some a → P) → P
only P w t first a h this = choose P w t first None a h this (λ e. absurd (cc))

got : {A : Type 0} {x y : A} → Some x ≡ Some y → x ≡ y
got h = cc

-- a value under a test
under : {A : Type 0} (P : Type 0) (c : Bool) (first : Option A) (a : A) → cond c first None ≡ Some a → (c ≡ true → first ≡ Some a → P) → P
under P c first a h this = by c refl h
  where
    by : (d : Bool) → c ≡ d → cond d first None ≡ Some a → P
    by true is e = this is e
    by false is e = absurd (cc)

-- a value that was made of another
mapped : {A B : Type 0} (P : Type 0) (f : A → B) (o : Option A) (b : B) → option_map f o ≡ Some b → ((a : A) → o ≡ Some a → f a ≡ b → P) → P
mapped P f None b h this = absurd (cc)
mapped P f (Some a) b h this = this a refl (got h)

chained : {A B : Type 0} (P : Type 0) (f : A → Option B) (o : Option A) (b : B) → option_and_then f o ≡ Some b → ((a : A) → o ≡ Some a → f a ≡ Some b → P) → P
chained P f None b h this = absurd (cc)
chained P f (Some a) b h this = this a refl h

pub question_reads : (w : List ℕ) (q : Question) → question_of w ≡ Some q → question_word q ≡ w
question_reads w q h = choose _ w (codes "diagnosis") _ _ q h (λ e f. ap question_word (sym (got f)) ∙ sym e) (λ h. only _ w (codes "recovery") _ q h (λ e f. ap question_word (sym (got f)) ∙ sym e))

pub moment_reads : (w : List ℕ) (m : Moment) → moment_of w ≡ Some m → moment_word m ≡ w
moment_reads w m h = choose _ w (codes "now") _ _ m h (λ e f. ap moment_word (sym (got f)) ∙ sym e) (λ h. only _ w (codes "next") _ m h (λ e f. ap moment_word (sym (got f)) ∙ sym e))

rare_head_reads : (w : List ℕ) (head : Head) → rare_head_of w ≡ Some head → head_word head ≡ w
rare_head_reads w head h =
    choose _ w (codes "k") _ _ head h (λ e f. ap head_word (sym (got f)) ∙ sym e) (λ h.
    choose _ w (codes "state") _ _ head h (λ e f. ap head_word (sym (got f)) ∙ sym e) (λ h.
    choose _ w (codes "control") _ _ head h (λ e f. ap head_word (sym (got f)) ∙ sym e) (λ h.
    choose _ w (codes "recovery") _ _ head h (λ e f. ap head_word (sym (got f)) ∙ sym e) (λ h.
    only _ w (codes "good") _ head h (λ e f. ap head_word (sym (got f)) ∙ sym e)))))

pub head_reads : (w : List ℕ) (head : Head) → head_of w ≡ Some head → head_word head ≡ w
head_reads w head h =
    choose _ w (codes "listed") _ _ head h (λ e f. ap head_word (sym (got f)) ∙ sym e) (λ h.
    choose _ w (codes "now") _ _ head h (λ e f. ap head_word (sym (got f)) ∙ sym e) (λ h.
    choose _ w (codes "next") _ _ head h (λ e f. ap head_word (sym (got f)) ∙ sym e) (λ h.
    choose _ w (codes "conflict") _ _ head h (λ e f. ap head_word (sym (got f)) ∙ sym e) (λ h.
    choose _ w (codes "proof") _ _ head h (λ e f. ap head_word (sym (got f)) ∙ sym e) (λ h.
    choose _ w (codes "counter") _ _ head h (λ e f. ap head_word (sym (got f)) ∙ sym e) (rare_head_reads w head))))))

-- words that spell numbers
numbers_spelled : (ws : List (List ℕ)) → list_all is_number ws ≡ true → (map decimal (map number_value ws) ≡ ws) × (list_all is_within_limit (map number_value ws) ≡ true)
numbers_spelled [] h = (refl, refl)
numbers_spelled (w ∷ ws) h =
    let parts = and_parts _ _ h in let later = numbers_spelled ws parts.1 in
    (ap₂ (λ (x : List ℕ) (xs : List (List ℕ)). x ∷ xs) (spelled w parts.0) later.0, and_from _ _ (limited w parts.0) later.1)

hints_spelled : (ws : List (List ℕ)) → list_all is_positive ws ≡ true → (map decimal (map number_value ws) ≡ ws) × (list_all is_formed_hint (map number_value ws) ≡ true)
hints_spelled [] h = (refl, refl)
hints_spelled (w ∷ ws) h =
    let parts = and_parts _ _ h in let both = and_parts _ _ parts.0 in let later = hints_spelled ws parts.1 in
    (ap₂ (λ (x : List ℕ) (xs : List (List ℕ)). x ∷ xs) (spelled w both.0) later.0, and_from _ _ (and_from _ _ (limited w both.0) both.1) later.1)

literals_spelled : (ws : List (List ℕ)) → list_all is_literal ws ≡ true → (map literal_word (map literal_value ws) ≡ ws) × (list_all is_formed_literal (map literal_value ws) ≡ true)
literals_spelled [] h = (refl, refl)
literals_spelled (w ∷ ws) h =
    let parts = and_parts _ _ h in let this = literal_spelled w parts.0 in let later = literals_spelled ws parts.1 in
    (ap₂ (λ (x : List ℕ) (xs : List (List ℕ)). x ∷ xs) this.0 later.0, and_from _ _ this.1 later.1)

number_reads : (w : List ℕ) (n : ℕ) → number_of w ≡ Some n → (decimal n ≡ w) × (is_within_limit n ≡ true)
number_reads w n h = under _ (is_number w) (Some (number_value w)) n h (λ is e.
    let same : number_value w ≡ n = got e in
    (ap decimal (sym same) ∙ spelled w is, subst (λ m. is_within_limit m ≡ true) same (limited w is)))

row_reads : (head : Head) (ws : List (List ℕ)) (l : Line) → row_of head ws ≡ Some l → Reads (head_word head ∷ ws) l
row_reads head ws l h =
    under _ (has_fitting_count head (length ws)) _ l h (λ fits e.
    mapped _ (λ ns. Line.Numbers head ns) (numbers_of ws) l e (λ ns f same.
    under _ (list_all is_number ws) (Some (map number_value ws)) ns f (λ is g.
    let all = numbers_spelled ws is in
    let long : length (map number_value ws) ≡ length ws = length-map ws number_value in
    subst (Reads (head_word head ∷ ws)) same (subst (λ ms. Reads (head_word head ∷ ws) (Line.Numbers head ms)) (got g)
    (ap (λ t. head_word head ∷ t) all.0, and_from _ _ (subst (λ n. has_fitting_count head n ≡ true) (sym long) fits) all.1)))))

word_reads : (ws : List (List ℕ)) (t : List ℕ) → only_word ws ≡ Some t → (t ∷ [] ≡ ws) × (is_word t ≡ true)
word_reads [] t h = absurd (cc)
word_reads (w ∷ []) t h = under _ (is_word w) (Some w) t h (λ is e. let same : w ≡ t = got e in (ap (λ x. x ∷ []) (sym same), subst (λ x. is_word x ≡ true) same is))
word_reads (w ∷ u ∷ us) t h = absurd (cc)

goal_reads : (ws : List (List ℕ)) (l : Line) → goal_of ws ≡ Some l → Reads (codes "goal" ∷ ws) l
goal_reads ws l h = mapped _ (λ t. Line.Goal t) (only_word ws) l h (λ t e same. let word = word_reads ws t e in subst (Reads (codes "goal" ∷ ws)) same (ap (λ us. codes "goal" ∷ us) word.0, word.1))

model_reads : (ws : List (List ℕ)) (l : Line) → model_of ws ≡ Some l → Reads (codes "model" ∷ ws) l
model_reads ws l h = mapped _ (λ t. Line.Model t) (only_word ws) l h (λ t e same. let word = word_reads ws t e in subst (Reads (codes "model" ∷ ws)) same (ap (λ us. codes "model" ∷ us) word.0, word.1))

certificate_reads : (ws : List (List ℕ)) (l : Line) → certificate_of ws ≡ Some l → Reads (codes "certificate" ∷ ws) l
certificate_reads [] l h = absurd (cc)
certificate_reads (w ∷ []) l h = mapped _ (λ q. Line.Certificate q) (question_of w) l h (λ q e same.
    subst (Reads (codes "certificate" ∷ w ∷ [])) same (ap (λ t. codes "certificate" ∷ t ∷ []) (question_reads w q e), refl))
certificate_reads (w ∷ u ∷ us) l h = absurd (cc)

fact_reads : (ws : List (List ℕ)) (l : Line) → fact_of ws ≡ Some l → Reads (codes "fact" ∷ ws) l
fact_reads [] l h = absurd (cc)
fact_reads (m ∷ []) l h = absurd (cc)
fact_reads (m ∷ x ∷ []) l h = absurd (cc)
fact_reads (m ∷ x ∷ v ∷ []) l h =
    chained _ _ (moment_of m) l h (λ moment e h.
    chained _ _ (number_of x) l h (λ a f h.
    mapped _ (λ b. Line.Fact moment a b) (number_of v) l h (λ b g same.
    let one = moment_reads m moment e in let two = number_reads x a f in let three = number_reads v b g in
    subst (Reads (codes "fact" ∷ m ∷ x ∷ v ∷ [])) same
    (ap (λ t. codes "fact" ∷ t ∷ decimal a ∷ decimal b ∷ []) one ∙ ap₂ (λ (t u : List ℕ). codes "fact" ∷ m ∷ t ∷ u ∷ []) two.0 three.0, and_from _ _ two.1 three.1))))
fact_reads (m ∷ x ∷ v ∷ u ∷ us) l h = absurd (cc)

numbered_reads : (w : List ℕ) (n : ℕ) (e : Evidence) → numbered w n ≡ Some e → is_within_limit n ≡ true → (evidence_words e ≡ w ∷ decimal n ∷ []) × (is_formed_evidence e ≡ true)
numbered_reads w n e h small =
    choose _ w (codes "conflict") _ _ e h (λ is f. subst (λ k. (evidence_words k ≡ w ∷ decimal n ∷ []) × (is_formed_evidence k ≡ true)) (got f) (ap (λ t. t ∷ decimal n ∷ []) (sym is), small)) (λ h.
    choose _ w (codes "listed") _ _ e h (λ is f. subst (λ k. (evidence_words k ≡ w ∷ decimal n ∷ []) × (is_formed_evidence k ≡ true)) (got f) (ap (λ t. t ∷ decimal n ∷ []) (sym is), small)) (λ h.
    only _ w (codes "target") _ e h (λ is f. subst (λ k. (evidence_words k ≡ w ∷ decimal n ∷ []) × (is_formed_evidence k ≡ true)) (got f) (ap (λ t. t ∷ decimal n ∷ []) (sym is), small))))

evidence_reads : (ws : List (List ℕ)) (e : Evidence) → evidence_of ws ≡ Some e → (evidence_words e ≡ ws) × (is_formed_evidence e ≡ true)
evidence_reads [] e h = absurd (cc)
evidence_reads (w ∷ []) e h = only _ w (codes "recovery") _ e h (λ is f. subst (λ k. (evidence_words k ≡ w ∷ []) × (is_formed_evidence k ≡ true)) (got f) (ap (λ t. t ∷ []) (sym is), refl))
evidence_reads (w ∷ n ∷ []) e h = chained _ (numbered w) (number_of n) e h (λ a f h.
    let number = number_reads n a f in let this = numbered_reads w a e h number.1 in (this.0 ∙ ap (λ t. w ∷ t ∷ []) number.0, this.1))
evidence_reads (w ∷ n ∷ u ∷ us) e h = absurd (cc)

split_reads : (ws : List (List ℕ)) (l : Line) → split_of ws ≡ Some l → Reads (codes "split" ∷ ws) l
split_reads [] l h = absurd (cc)
split_reads (z ∷ ws) l h =
    chained _ _ (number_of z) l h (λ zone e h.
    mapped _ (λ k. Line.Split zone k) (evidence_of ws) l h (λ k f same.
    let one = number_reads z zone e in let two = evidence_reads ws k f in
    subst (Reads (codes "split" ∷ z ∷ ws)) same
    (ap₂ (λ (t : List ℕ) (us : List (List ℕ)). codes "split" ∷ t ∷ us) one.0 two.0, and_from _ _ one.1 two.1)))

-- words cut at the first 0
zero_found : (ws : List (List ℕ)) (at : ℕ) → position is_zero ws ≡ Some at → ws ≡ take at ws ++ codes "0" ∷ drop (at + 1) ws
zero_found ws at h = cut_found is_zero (codes "0") (λ w e. same_text w (codes "0") e) ws at h

clause_reads : (ws : List (List ℕ)) (l : Line) → clause_of ws ≡ Some l → Reads (codes "clause" ∷ ws) l
clause_reads ws l h =
    chained _ _ (position is_zero ws) l h (λ at e h.
    chained _ _ (position is_zero (drop (at + 1) ws)) l h (λ end f h.
    under _ (nat_eq (end + 1) (length (drop (at + 1) ws))) _ l h (λ last h.
    chained _ _ (literals_of (take at ws)) l h (λ literals g h.
    mapped _ (λ hints. Line.Clause literals hints) (hints_of (take end (drop (at + 1) ws))) l h (λ hints i same.
    under _ (list_all is_literal (take at ws)) _ literals g (λ good g.
    under _ (list_all is_positive (take end (drop (at + 1) ws))) _ hints i (λ fine i.
    let one = literals_spelled (take at ws) good in let two = hints_spelled (take end (drop (at + 1) ws)) fine in
    let whole : ws ≡ take at ws ++ codes "0" ∷ (take end (drop (at + 1) ws) ++ codes "0" ∷ []) = clause_cut ws at end e f last in
    subst (Reads (codes "clause" ∷ ws)) same (subst (λ ls. Reads (codes "clause" ∷ ws) (Line.Clause ls hints)) (got g)
    (subst (λ hs. Reads (codes "clause" ∷ ws) (Line.Clause (map literal_value (take at ws)) hs)) (got i)
    (ap (λ t. codes "clause" ∷ t) (ap₂ (λ (ls hs : List (List ℕ)). ls ++ codes "0" ∷ (hs ++ codes "0" ∷ [])) one.0 two.0 ∙ sym whole), and_from _ _ one.1 two.1))))))))))
  where
    clause_cut : (ws : List (List ℕ)) (at end : ℕ) → position is_zero ws ≡ Some at → position is_zero (drop (at + 1) ws) ≡ Some end → nat_eq (end + 1) (length (drop (at + 1) ws)) ≡ true
        → ws ≡ take at ws ++ codes "0" ∷ (take end (drop (at + 1) ws) ++ codes "0" ∷ [])
    clause_cut ws at end e f last =
        let hs : List (List ℕ) = drop (at + 1) ws in
        let long : length hs ≤ end + 1 = grind (arith, nat_tests) in
        let none : drop (end + 1) hs ≡ [] = drop_of_length-le hs long in
        zero_found ws at e ∙ ap (λ t. take at ws ++ codes "0" ∷ t) (zero_found hs end f ∙ ap (λ t. take end hs ++ codes "0" ∷ t) none)

end_reads : (w : List ℕ) (ws : List (List ℕ)) (l : Line) → end_of w ws ≡ Some l → Reads (w ∷ ws) l
end_reads w ws l h = under _ (bytes_eq w (codes "end") && nat_eq (length ws) 0) _ l h (λ is e.
    let parts = and_parts _ _ is in
    subst (Reads (w ∷ ws)) (got e) (ap₂ (λ (x : List ℕ) (xs : List (List ℕ)). x ∷ xs) (sym (same_text w (codes "end") parts.0)) (sym (nothing ws parts.1)), refl))
  where
    nothing : (us : List (List ℕ)) → nat_eq (length us) 0 ≡ true → us ≡ []
    nothing [] e = refl
    nothing (u ∷ us) e = absurd (grind (arith, nat_tests))

-- a choice by the first word
first_word : (w t : List ℕ) (ws : List (List ℕ)) (l : Line) → Reads (t ∷ ws) l → w ≡ t → Reads (w ∷ ws) l
first_word w t ws l h e = subst (λ x. Reads (x ∷ ws) l) (sym e) h

other_reads : (w : List ℕ) (ws : List (List ℕ)) (l : Line) → other_line_of w ws ≡ Some l → Reads (w ∷ ws) l
other_reads w ws l h =
    choose _ w (codes "clause") _ _ l h (λ e f. first_word w _ ws l (clause_reads ws l f) e) (λ h.
    choose _ w (codes "split") _ _ l h (λ e f. first_word w _ ws l (split_reads ws l f) e) (λ h.
    choose _ w (codes "fact") _ _ l h (λ e f. first_word w _ ws l (fact_reads ws l f) e) (λ h.
    choose _ w (codes "goal") _ _ l h (λ e f. first_word w _ ws l (goal_reads ws l f) e) (λ h.
    choose _ w (codes "model") _ _ l h (λ e f. first_word w _ ws l (model_reads ws l f) e) (λ h.
    choose _ w (codes "certificate") _ _ l h (λ e f. first_word w _ ws l (certificate_reads ws l f) e) (end_reads w ws l))))))

distinct_reads : (n w : List ℕ) (l : Line) → distinct_of n w ≡ Some l → Reads (codes "k" ∷ n ∷ w ∷ []) l
distinct_reads n w l h =
    only _ w (codes "distinct") _ l h (λ is h.
    mapped _ (λ k. Line.Distinct k) (number_of n) l h (λ k e same.
    let one = number_reads n k e in
    subst (Reads (codes "k" ∷ n ∷ w ∷ [])) same (ap₂ (λ (t u : List ℕ). codes "k" ∷ t ∷ u ∷ []) one.0 (sym is), one.1)))

limit_reads : (ws : List (List ℕ)) (l : Line) → limit_of ws ≡ Some l → Reads (codes "k" ∷ ws) l
limit_reads [] l h = row_reads Head.Limit [] l h
limit_reads (n ∷ []) l h = row_reads Head.Limit (n ∷ []) l h
limit_reads (n ∷ w ∷ []) l h = distinct_reads n w l h
limit_reads (n ∷ w ∷ u ∷ us) l h = row_reads Head.Limit (n ∷ w ∷ u ∷ us) l h

-- words behind a head
headed_reads : (head : Head) (w : List ℕ) (ws : List (List ℕ)) (l : Line) → line_from (Some head) w ws ≡ Some l → Reads (head_word head ∷ ws) l
headed_reads Head.Limit w ws l h = limit_reads ws l h
headed_reads Head.State w ws l h = row_reads Head.State ws l h
headed_reads Head.Control w ws l h = row_reads Head.Control ws l h
headed_reads Head.Listed w ws l h = row_reads Head.Listed ws l h
headed_reads Head.Now w ws l h = row_reads Head.Now ws l h
headed_reads Head.Next w ws l h = row_reads Head.Next ws l h
headed_reads Head.Conflict w ws l h = row_reads Head.Conflict ws l h
headed_reads Head.Recovery w ws l h = row_reads Head.Recovery ws l h
headed_reads Head.Good w ws l h = row_reads Head.Good ws l h
headed_reads Head.Proof w ws l h = row_reads Head.Proof ws l h
headed_reads Head.Counter w ws l h = row_reads Head.Counter ws l h

-- words that read as a line are its words, and it has its form
pub line_reads : (ws : List (List ℕ)) (l : Line) → line_of ws ≡ Some l → (words_of l ≡ ws) × (is_formed l ≡ true)
line_reads [] l h = absurd (cc)
line_reads (w ∷ ws) l h = by (head_of w) refl h
  where
    by : (o : Option Head) → head_of w ≡ o → line_from o w ws ≡ Some l → Reads (w ∷ ws) l
    by None is e = other_reads w ws l e
    by (Some head) is e = first_word w _ ws l (headed_reads head w ws l e) (sym (head_reads w head is))
