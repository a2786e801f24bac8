-- Statements taken one after the other, line by line.
use Rattle.std.proofs.Common.{◌≡◌, ℕ, ◌+◌, ◌-◌, ◌≤◌, List, [], ◌∷◌, ◌++◌, length, take, drop, refl, sym, subst, ◌∙◌, ap, append_assoc, Option, Some, None, Bool, true, false, if◌then◌else◌}
use Rattle.std.proofs.lemmas.List.{append-nil}
use Rattle.lv_base.specs.declared.limits.TheConstants.{MODEL_BYTES}
use Rattle.lv_text.specs.Lines.{lines_of, BeginsWithLine}
use Rattle.lv_reader.specs.declared.fault.ModelFault.{ModelFault}
use Rattle.lv_reader.specs.declared.statement.Statement.{Statement}
use Rattle.lv_reader.specs.declared.statement.NumberedStatement.{NumberedStatement}
use Rattle.lv_reader.specs.declared.version.Version.{Version}
use Rattle.lv_reader.specs.Lines.{Says}
use Rattle.lv_reader.specs.Versions.{version_in, known_behind, gives_version, stated}
use Rattle.lv_reader.specs.Texts.{numbered, ReadsAs, AddsLine, TellsLine, TellsLines}
use Rattle.lv_reader.specs.Taking.{TakesAll, none_taken, one_taken, TakesLine, TakesText}
use Rattle.lv_reader.proofs.TextLemmas.{IsUnderWay, at_start, line_read, line_tells, all_read}

module _ {S : Type 0} (takes : S → NumberedStatement → S → Type 0) where
  pub more_taken : (s t u : S) (xs ys : List NumberedStatement) → TakesAll takes s xs t → TakesAll takes t ys u → TakesAll takes s (xs ++ ys) u
  more_taken s t u [] ys (none_taken e) more = subst (λ (v : S). TakesAll takes v ys u) e more
  more_taken s t u (x ∷ xs) ys (one_taken {t = v} first rest) more = one_taken first (more_taken v t u xs ys rest more)

  -- so many lines were read, and what they say was taken
  pub record IsTaking (bytes rest : List ℕ) (known : Option Version) (lines : ℕ) (old new : S) : Type 0 where
    pub statements : List NumberedStatement
    pub way : IsUnderWay bytes rest known lines statements
    pub taken : TakesAll takes old statements new

  pub taking_starts : (bytes : List ℕ) (s : S) → IsTaking bytes bytes None 0 s s
  taking_starts bytes s = record { statements = []; way = at_start bytes; taken = none_taken refl }

  -- one more line is read and taken
  pub line_taken : (bytes rest : List ℕ) (known next : Option Version) (lines shown whole : ℕ) (old mid new : S) → IsTaking bytes rest known lines old mid
      → BeginsWithLine rest shown whole → TakesLine takes known (lines + 1) (take shown rest) mid new next
      → IsTaking bytes (take (length rest - whole) (drop whole rest)) next (lines + 1) old new
  line_taken bytes rest known next lines shown whole old mid new i b a =
      record {
        statements = i.statements ++ numbered (lines + 1) (stated known a.said);
        way =
            line_read bytes rest known next lines shown whole i.statements (i.statements ++ numbered (lines + 1) (stated known a.said)) i.way b
            (record { said = a.said; says = a.says; added = refl; behind = a.behind });
        taken = more_taken old mid new i.statements (numbered (lines + 1) (stated known a.said)) i.taken a.taken;
      }

  pub line_refuses : (bytes rest : List ℕ) (known : Option Version) (lines shown whole : ℕ) (old mid : S) (fault : ModelFault) → IsTaking bytes rest known lines old mid
      → BeginsWithLine rest shown whole → TellsLine fault known (lines + 1) (take shown rest) → TellsLines fault (lines_of bytes)
  line_refuses bytes rest known lines shown whole old mid fault i b told = line_tells bytes rest known lines shown whole i.statements fault i.way b told

  pub all_taken : (bytes rest : List ℕ) (known : Option Version) (lines : ℕ) (old new : S) → IsTaking bytes rest known lines old new → rest ≡ [] → length bytes ≤ MODEL_BYTES
      → TakesText takes bytes old new lines
  all_taken bytes rest known lines old new i e within =
      record { statements = i.statements; reads = all_read bytes rest known lines i.statements i.way e within; taken = i.taken }

  -- what a line says is taken where it isn't the version of the text
  pub statement_taken : (old new : S) (known next : Option Version) (at : ℕ) (line : List ℕ) (s : Statement) → Says (version_in known) line (Some s) → gives_version known s ≡ false
      → takes old (record { line = at; statement = s }) new → next ≡ known_behind known (Some s) → TakesLine takes known at line old new next
  statement_taken old new known next at line s says other taken behind =
      record {
        said = Some s;
        says = says;
        taken = subst (λ (b : Bool). TakesAll takes old (numbered at (if b then None else Some s)) new) (sym other) (one_taken taken (none_taken refl));
        behind = behind;
      }

  pub version_passed : (old : S) (known next : Option Version) (at : ℕ) (line : List ℕ) (s : Statement) → Says (version_in known) line (Some s) → gives_version known s ≡ true
      → next ≡ known_behind known (Some s) → TakesLine takes known at line old old next
  version_passed old known next at line s says is behind =
      record {
        said = Some s;
        says = says;
        taken = subst (λ (b : Bool). TakesAll takes old (numbered at (if b then None else Some s)) old) (sym is) (none_taken refl);
        behind = behind;
      }

  -- where each is put behind the others, all are
  pub all_listed : (items : S → List NumberedStatement) → ((s t : S) (x : NumberedStatement) → takes s x t → items t ≡ items s ++ x ∷ []) → (s t : S) (xs : List NumberedStatement)
      → TakesAll takes s xs t → items t ≡ items s ++ xs
  all_listed items step s t [] (none_taken e) = ap items e ∙ sym (append-nil (items s))
  all_listed items step s t (x ∷ xs) (one_taken {t = u} first rest) =
      all_listed items step u t xs rest ∙ ap (λ (ys : List NumberedStatement). ys ++ xs) (step s u x first) ∙ append_assoc (items s) (x ∷ []) xs

  pub nothing_taken : (old : S) (known : Option Version) (at : ℕ) (line : List ℕ) → Says (version_in known) line None → TakesLine takes known at line old old known
  nothing_taken old known at line says = record { said = None; says = says; taken = none_taken refl; behind = stays known }
    where
      stays : (v : Option Version) → v ≡ known_behind v None
      stays None = refl
      stays (Some version) = refl
