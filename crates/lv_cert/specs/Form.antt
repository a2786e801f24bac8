-- Which lines have their form, and which texts are certificates.
use Rattle.std.specs.Prelude.{ℕ, ◌+◌, ◌^◌, ◌≡◌, ◌++◌, List, Bool, true, false, length, nat_eq, nat_le, nat_lt, ◌&&◌}
use Rattle.std.specs.declared.option.Option.TheVariants.{Some, None}
use Rattle.std.specs.List.{list_all}
use Rattle.lv_cert.specs.declared.line.Literal.{Literal}
use Rattle.lv_cert.specs.declared.line.Evidence.{Evidence}
use Rattle.lv_cert.specs.declared.line.Line.{Line}
use Rattle.lv_cert.specs.declared.order.Place.{Place}
use Rattle.lv_cert.specs.Texts.{line_text, text_of}
use Rattle.lv_cert.specs.Words.{is_word}
use Rattle.lv_cert.specs.Reading.{has_fitting_count}
use Rattle.lv_cert.specs.Order.{place_after, place_behind}

-- a number is at most 10 ^ 30
abbrev pub is_within_limit : ℕ → Bool
is_within_limit n = nat_le n (10 ^ 30)

abbrev pub is_formed_hint : ℕ → Bool
is_formed_hint n = is_within_limit n && nat_lt 0 n

abbrev pub is_formed_literal : Literal → Bool
is_formed_literal l = is_formed_hint l.number

abbrev pub is_formed_evidence : Evidence → Bool
is_formed_evidence (Evidence.Conflict n) = is_within_limit n
is_formed_evidence (Evidence.Listed n) = is_within_limit n
is_formed_evidence (Evidence.Target n) = is_within_limit n
is_formed_evidence Evidence.Recovery = true

-- a line has its form: names and goals are words, numbers within the limit, literals and hints not 0, and as many
-- numbers stand behind a head as may
abbrev pub is_formed : Line → Bool
is_formed (Line.Certificate question) = true
is_formed (Line.Model name) = is_word name
is_formed (Line.Goal text) = is_word text
is_formed (Line.Distinct k) = is_within_limit k
is_formed (Line.Fact moment x v) = is_within_limit x && is_within_limit v
is_formed (Line.Clause literals hints) = list_all is_formed_literal literals && list_all is_formed_hint hints
is_formed (Line.Split zone evidence) = is_within_limit zone && is_formed_evidence evidence
is_formed (Line.Numbers head numbers) = has_fitting_count head (length numbers) && list_all is_within_limit numbers
is_formed Line.End = true

-- bytes are read up to a place: they begin with the text of lines that have their form and lead from the start to there
pub record IsReadTo (place : Place) (lines : List Line) (bytes rest : List ℕ) : Type 0 where
  pub text : bytes ≡ text_of lines ++ rest
  pub formed : list_all is_formed lines ≡ true
  pub order : place_behind Place.Start lines ≡ Some place

-- bytes are the text of these lines, which have their form and lead from the start to the end
pub record IsCertificate (bytes : List ℕ) (lines : List Line) : Type 0 where
  pub text : bytes ≡ text_of lines
  pub formed : list_all is_formed lines ≡ true
  pub order : place_behind Place.Start lines ≡ Some Place.Done

-- no line in its form that the rest begins with may come at the place
pub record IsStuck (place : Place) (rest : List ℕ) : Type 0 where
  pub none : (l : Line) (behind : List ℕ) → is_formed l ≡ true → rest ≡ line_text l ++ behind → place_after place l ≡ None

abbrev pub is_done : Place → Bool
is_done Place.Done = true
is_done _ = false

-- the last line came, and nothing stands behind it
abbrev pub has_ended : Place → List ℕ → Bool
has_ended place rest = is_done place && nat_eq (length rest) 0

-- the first line out of form or order is the n-th: the lines before it are read, with which the certificate has not
-- ended, and no line can be read behind them
pub record IsFaultAt (bytes : List ℕ) (n : ℕ) : Type 0 where
  pub place : Place
  pub front : List Line
  pub rest : List ℕ
  pub read : IsReadTo place front bytes rest
  pub at : n ≡ length front + 1
  pub unended : has_ended place rest ≡ false
  pub stuck : IsStuck place rest
