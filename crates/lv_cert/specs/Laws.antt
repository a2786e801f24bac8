-- What holds of certificates whatever their text.
use Rattle.std.specs.Prelude.{ℕ, ◌≡◌, List, true}
use Rattle.std.specs.declared.option.Option.TheVariants.{Some}
use Rattle.std.specs.List.{slice_split}
use Rattle.lv_cert.specs.declared.line.Line.{Line}
use Rattle.lv_cert.specs.Texts.{words_of, joined}
use Rattle.lv_cert.specs.Words.{is_space}
use Rattle.lv_cert.specs.Reading.{line_of}
use Rattle.lv_cert.specs.Form.{is_formed, IsCertificate, IsFaultAt}

-- a line in its form, written and read, is that line
abbrev pub LineReadsBack : Type 0
LineReadsBack = (l : Line) → is_formed l ≡ true → line_of (slice_split is_space (joined (words_of l))) ≡ Some l

-- bytes are one certificate at most
abbrev pub CertificateIsOne : Type 0
CertificateIsOne = (bytes : List ℕ) (lines others : List Line) → IsCertificate bytes lines → IsCertificate bytes others → lines ≡ others

-- bytes have one first line out of form or order at most
abbrev pub FaultIsOne : Type 0
FaultIsOne = (bytes : List ℕ) (n m : ℕ) → IsFaultAt bytes n → IsFaultAt bytes m → n ≡ m

-- bytes that have one are no certificate
abbrev pub FaultIsNoCertificate : Type 0
FaultIsNoCertificate = (bytes : List ℕ) (lines : List Line) (n : ℕ) → IsCertificate bytes lines → ¬ IsFaultAt bytes n

-- what reading bytes comes to: the lines of a certificate, or the first line out of form or order
pub data IsRead (bytes : List ℕ) : Type 0 where
  as_lines : (lines : List Line) → IsCertificate bytes lines → IsRead bytes
  with_fault : (n : ℕ) → IsFaultAt bytes n → IsRead bytes

-- whatever the bytes
abbrev pub EveryTextIsRead : Type 0
EveryTextIsRead = (bytes : List ℕ) → IsRead bytes
