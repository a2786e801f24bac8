-- The word that a line begins with.
use Rattle.std.proofs.Common.{◌≡◌, ℕ, List, [], ◌∷◌, drop, Option, Some, None, refl, sym, subst, ◌∙◌, codes}
use Rattle.lv_base.specs.declared.names.Class.TheVariants.{Control, Dependent, Observable}
use Rattle.lv_text.specs.Lexemes.{Lexeme, says}
use Rattle.lv_text.proofs.Choices.{if_holds}
use Rattle.lv_formula_text.specs.Spacing.{word}
use Rattle.lv_reader.specs.declared.keyword.Keyword.{Keyword}
use Rattle.lv_reader.specs.declared.keyword.Keyword.TheVariants.{ModelWord, DomainWord, TypeWord, ClassWord, ModeWord, LawWord, InWord, StepWord, FaultWord, EndWord, PartWord, PriceWord, VersionWord}
use Rattle.lv_reader.specs.Keywords.{keyword_of, keyword_in_type}
use Rattle.lv_reader.specs.CanonicalTokens.{class_word}
use Rattle.lv_reader.proofs.Places.{says_next}

abbrev pub keyword_text : Keyword → List ℕ
keyword_text ModelWord = codes "model"
keyword_text DomainWord = codes "domain"
keyword_text TypeWord = codes "type"
keyword_text (ClassWord class) = class_word class
keyword_text ModeWord = codes "mode"
keyword_text LawWord = codes "law"
keyword_text InWord = codes "in"
keyword_text StepWord = codes "step"
keyword_text FaultWord = codes "fault"
keyword_text EndWord = codes "end"
keyword_text PartWord = codes "part"
keyword_text PriceWord = codes "price"
keyword_text VersionWord = codes "version"

abbrev Begins : List Lexeme → Option Keyword → Type 0
Begins ts None = Unit {0}
Begins ts (Some k) = drop 0 ts ≡ word (keyword_text k) ∷ drop 1 ts

begins_in_type : (ts : List Lexeme) → Begins ts (keyword_in_type ts)
begins_in_type ts =
    if_holds P (says (codes "control") ts 0) (Some (ClassWord Control)) _ (says_next (codes "control") ts 0) (λ _.
    if_holds P (says (codes "variable") ts 0) (Some (ClassWord Dependent)) _ (says_next (codes "variable") ts 0) (λ _.
    if_holds P (says (codes "observable") ts 0) (Some (ClassWord Observable)) _ (says_next (codes "observable") ts 0) (λ _.
    if_holds P (says (codes "mode") ts 0) (Some ModeWord) _ (says_next (codes "mode") ts 0) (λ _.
    if_holds P (says (codes "in") ts 0) (Some InWord) _ (says_next (codes "in") ts 0) (λ _.
    if_holds P (says (codes "step") ts 0) (Some StepWord) _ (says_next (codes "step") ts 0) (λ _.
    if_holds P (says (codes "fault") ts 0) (Some FaultWord) _ (says_next (codes "fault") ts 0) (λ _.
    if_holds P (says (codes "end") ts 0) (Some EndWord) None (says_next (codes "end") ts 0) (λ _. tt))))))))
  where
    P : Option Keyword → Type 0
    P = Begins ts

begins : (ts : List Lexeme) → Begins ts (keyword_of ts)
unfolding keyword_of
begins ts =
    if_holds P (says (codes "law") ts 0) (Some LawWord) _ (says_next (codes "law") ts 0) (λ _.
    if_holds P (says (codes "part") ts 0) (Some PartWord) _ (says_next (codes "part") ts 0) (λ _.
    if_holds P (says (codes "price") ts 0) (Some PriceWord) _ (says_next (codes "price") ts 0) (λ _.
    if_holds P (says (codes "domain") ts 0) (Some DomainWord) _ (says_next (codes "domain") ts 0) (λ _.
    if_holds P (says (codes "type") ts 0) (Some TypeWord) _ (says_next (codes "type") ts 0) (λ _.
    if_holds P (says (codes "model") ts 0) (Some ModelWord) _ (says_next (codes "model") ts 0) (λ _.
    if_holds P (says (codes "version") ts 0) (Some VersionWord) _ (says_next (codes "version") ts 0) (λ _.
    begins_in_type ts)))))))
  where
    P : Option Keyword → Type 0
    P = Begins ts

whole : (ts : List Lexeme) → drop 0 ts ≡ ts
whole [] = refl
whole (t ∷ ts) = refl

pub keyword_first : (ts : List Lexeme) (k : Keyword) → keyword_of ts ≡ Some k → ts ≡ word (keyword_text k) ∷ drop 1 ts
keyword_first ts k e = sym (whole ts) ∙ subst (Begins ts) e (begins ts)
