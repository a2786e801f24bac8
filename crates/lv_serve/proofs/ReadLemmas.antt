-- What was read and served so far, and where the serving ends.
use Rattle.std.proofs.Common.{◌≡◌, ◌≢◌, ℕ, ◌+◌, ◌-◌, ◌≤◌, Bool, true, false, List, [], ◌++◌, length, take, Option, None, Some, Result, Ok, Err, refl, sym, ◌∙◌, ap, subst, arith, length-append, length-take}
use Rattle.std.specs.Prelude.{IsErrAnd}
use Rattle.std.proofs.lemmas.List.{append-nil}
use Rattle.std.proofs.Math.Seq.{take-append_seam}
use Rattle.std.specs.Io.KnownBytes.{prepend_known, append_known}
use Rattle.lv_base.specs.declared.limits.TheConstants.{SESSION_BYTES}
use Rattle.lv_io.specs.declared.IoFault.{IoFault}
use Rattle.lv_io.specs.declared.IoFault.TheVariants.{Failed, Memory as NoMemory}
use Rattle.lv_io.proofs.Pieces.{prepend-prepend}
use Rattle.lv_text.specs.Lines.{lines_of}
use Rattle.lv_serve.specs.Ends.{ended}
use Rattle.lv_serve.specs.Unfinished.{kept_of}
use Rattle.lv_serve.specs.Pieces.{Came}
use Rattle.lv_serve.specs.Serving.{StandsAt}
use Rattle.lv_serve.specs.declared.serving.Serving.{Serving}
use Rattle.lv_serve.specs.Faults.{fault_of_sink}
use Rattle.lv_serve.specs.Served.{AddsReplies, AddsFrontOfReplies, quits, Serves, ServesAll, ServesLimit, ServesFront, at_end, at_quit, ended_lines, all_lines}
use Rattle.lv_serve.specs.declared.fault.ServeFault.{ServeFault}
use Rattle.lv_serve.specs.declared.fault.ServeFault.TheVariants.{Read, Write, TooLong, Memory}
use Rattle.lv_serve.proofs.Writing.{append-none}
use Rattle.lv_serve.proofs.StandingLemmas.{waits_written, stands_at_start}
use Rattle.lv_serve.proofs.PieceLemmas.{stands_front}

prepend-none : (left : Option (List ℕ)) → prepend_known [] left ≡ left
prepend-none None = refl
prepend-none (Some left) = refl

module _ {S : Type 0} (next : S → List ℕ → S) (says : S → List ℕ → List ℕ → Type 0) (has_ended : S → Bool) where
  -- these bytes were read, within the limit; no `quit` was accepted among them, and nothing waits
  pub record Reading (start : S) (first rest : Option (List ℕ)) (left : ℕ) (before : Option (List ℕ)) (now : Serving S) (text : Option (List ℕ)) : Type 0 where
    pub read : List ℕ
    pub taken : first ≡ prepend_known read rest
    pub count : length read + left ≡ SESSION_BYTES
    pub goes_on : quits next has_ended start read ≡ false
    pub stands : StandsAt next says start read before now text
    pub none : now.replies ≡ []

  pub nothing_read : (rest before : Option (List ℕ)) (now : Serving S)
      → has_ended now.at ≡ false
      → now.line ≡ kept_of []
      → now.replies ≡ []
      → Reading now.at rest rest SESSION_BYTES before now before
  nothing_read rest before now goes_on line none = record {
    read = [];
    taken = sym (prepend-none rest);
    count = refl;
    goes_on = goes_on;
    stands = stands_at_start next says now.at now before refl line none;
    none = none;
  }

  -- where nothing waits, what was written is the replies to the lines that have ended
  all_written : (start : S) (read : List ℕ) (before text : Option (List ℕ)) (now : Serving S)
      → StandsAt next says start read before now text
      → now.replies ≡ []
      → AddsReplies next says start (ended read) before text
  all_written start read before text now at none =
      waits_written next says start (lines_of (ended read)) now.replies before text text at.waits
      (sym (ap (append_known text) none ∙ append-none text))

  module _ (start : S) (first rest rest_after : Option (List ℕ)) (left : ℕ) (before : Option (List ℕ)) (now : Serving S) (text : Option (List ℕ))
      (reading : Reading start first rest left before now text) where
    within_limit : length reading.read ≤ SESSION_BYTES
    within_limit = omega (arith, reading.count)

    -- the next piece was not read
    pub not_read : (result : Result (Unit {0}) ServeFault) (fault : ServeFault)
        → IsErrAnd result (λ e. e ≡ fault)
        → fault ≢ Write
        → fault ≢ TooLong
        → rest_after ≡ rest
        → Serves next says has_ended start first rest_after before text result
    not_read (Ok x) fault handed writes long same = absurd handed
    not_read (Err Read) fault handed writes long same = record {
      read = reading.read;
      taken = reading.taken ∙ ap (prepend_known reading.read) (sym same);
      within = within_limit;
      goes_on = reading.goes_on;
      written = all_written start reading.read before text now reading.stands reading.none;
    }
    not_read (Err Write) fault handed writes long same = absurd (writes (sym handed))
    not_read (Err TooLong) fault handed writes long same = absurd (long (sym handed))
    not_read (Err Memory) fault handed writes long same = record {
      read = reading.read;
      taken = reading.taken ∙ ap (prepend_known reading.read) (sym same);
      within = within_limit;
      due = ended reading.read;
      is_due = ended_lines;
      front = stands_front next says start reading.read before text now reading.stands;
    }

    -- a read gave this piece
    module _ (most : ℕ) (buf : List ℕ) (n : ℕ) (reads : Came most buf rest rest_after n) where
      long_piece : length (take n buf) ≡ n
      long_piece = omega (arith, length-take n buf, reads.inside)

      taken_more : first ≡ prepend_known (reading.read ++ take n buf) rest_after
      taken_more = reading.taken ∙ ap (prepend_known reading.read) reads.taken ∙ prepend-prepend reading.read (take n buf) rest_after

      none_more : n ≡ 0 → first ≡ prepend_known reading.read rest_after
      none_more none =
          taken_more ∙ ap (λ (k : ℕ). prepend_known (reading.read ++ take k buf) rest_after) none
          ∙ ap (λ (l : List ℕ). prepend_known l rest_after) (append-nil reading.read)

      -- the session's end was read
      pub all_served : (after : Option (List ℕ)) → n ≡ 0
          → AddsReplies next says start reading.read before after
          → ServesAll next says has_ended start first rest_after before after
      all_served after none written = record {
        read = reading.read;
        taken = none_more none;
        within = within_limit;
        due = reading.read;
        is_whole = at_end (reads.at_end none);
        written = written;
      }

      pub last_unserved : (after : Option (List ℕ)) (result : Result (Unit {0}) ServeFault) (fault : IoFault) → n ≡ 0
          → IsErrAnd result (λ e. e ≡ fault_of_sink fault)
          → AddsFrontOfReplies next says start reading.read before after
          → Serves next says has_ended start first rest_after before after result
      last_unserved after (Ok x) fault none handed front = absurd handed
      last_unserved after (Err Read) fault none handed front = absurd (not_reading fault handed)
        where
          not_reading : (f : IoFault) → Read ≡ fault_of_sink f → ⊥
          not_reading Failed e = absurd (cc)
          not_reading NoMemory e = absurd (cc)
      last_unserved after (Err TooLong) fault none handed front = absurd (not_long fault handed)
        where
          not_long : (f : IoFault) → TooLong ≡ fault_of_sink f → ⊥
          not_long Failed e = absurd (cc)
          not_long NoMemory e = absurd (cc)
      last_unserved after (Err Write) fault none handed front = record {
        read = reading.read;
        taken = none_more none;
        within = within_limit;
        due = reading.read;
        is_due = all_lines (reads.at_end none);
        front = front;
      }
      last_unserved after (Err Memory) fault none handed front = record {
        read = reading.read;
        taken = none_more none;
        within = within_limit;
        due = reading.read;
        is_due = all_lines (reads.at_end none);
        front = front;
      }

      -- a byte past the limit was read
      pub past_limit : left ≡ 0 → n ≢ 0 → most ≤ 1 → ServesLimit next says has_ended start first rest_after before text
      past_limit none some room =
          let one : n ≡ 1 = omega (arith, reads.within) in
          let all : length reading.read ≡ SESSION_BYTES = omega (arith, reading.count) in
          let front : take SESSION_BYTES (reading.read ++ take n buf) ≡ reading.read =
          ap (λ (k : ℕ). take k (reading.read ++ take n buf)) (sym all) ∙ take-append_seam reading.read (take n buf) in
          record {
            read = reading.read ++ take n buf;
            taken = taken_more;
            beyond = length-append reading.read (take n buf) ∙ omega (arith, long_piece, all, one);
            goes_on = ap (quits next has_ended start) front ∙ reading.goes_on;
            written = subst (λ (l : List ℕ). AddsReplies next says start (ended l) before text) (sym front)
                (all_written start reading.read before text now reading.stands reading.none);
          }

      count_more : n ≤ left → length (reading.read ++ take n buf) + (left - n) ≡ SESSION_BYTES
      count_more fits = omega (arith, length-append reading.read (take n buf), long_piece, reading.count)

      within_more : n ≤ left → length (reading.read ++ take n buf) ≤ SESSION_BYTES
      within_more fits = omega (arith, count_more fits)

      -- the piece was not served
      pub piece_unserved : (after : Option (List ℕ)) (result : Result (Unit {0}) ServeFault) (fault : IoFault) → n ≤ left
          → IsErrAnd result (λ e. e ≡ fault_of_sink fault)
          → AddsFrontOfReplies next says start (ended (reading.read ++ take n buf)) before after
          → Serves next says has_ended start first rest_after before after result
      piece_unserved after (Ok x) fault fits handed front = absurd handed
      piece_unserved after (Err Read) fault fits handed front = absurd (not_reading fault handed)
        where
          not_reading : (f : IoFault) → Read ≡ fault_of_sink f → ⊥
          not_reading Failed e = absurd (cc)
          not_reading NoMemory e = absurd (cc)
      piece_unserved after (Err TooLong) fault fits handed front = absurd (not_long fault handed)
        where
          not_long : (f : IoFault) → TooLong ≡ fault_of_sink f → ⊥
          not_long Failed e = absurd (cc)
          not_long NoMemory e = absurd (cc)
      piece_unserved after (Err Write) fault fits handed front = record {
        read = reading.read ++ take n buf;
        taken = taken_more;
        within = within_more fits;
        due = ended (reading.read ++ take n buf);
        is_due = ended_lines;
        front = front;
      }
      piece_unserved after (Err Memory) fault fits handed front = record {
        read = reading.read ++ take n buf;
        taken = taken_more;
        within = within_more fits;
        due = ended (reading.read ++ take n buf);
        is_due = ended_lines;
        front = front;
      }

      -- the piece was served, and a `quit` was accepted
      pub quit_served : (after : Option (List ℕ)) (later : Serving S) → n ≤ left
          → StandsAt next says start (reading.read ++ take n buf) before later after
          → later.replies ≡ []
          → has_ended later.at ≡ true
          → ServesAll next says has_ended start first rest_after before after
      quit_served after later fits stands none is_ended =
          let quit : quits next has_ended start (reading.read ++ take n buf) ≡ true =
          sym (ap has_ended stands.at_is) ∙ is_ended in
          record {
            read = reading.read ++ take n buf;
            taken = taken_more;
            within = within_more fits;
            due = ended (reading.read ++ take n buf);
            is_whole = at_quit quit;
            written = all_written start (reading.read ++ take n buf) before after later stands none;
          }

      -- the piece was served, and the session goes on
      pub reads_on : (after : Option (List ℕ)) (later : Serving S) → n ≤ left
          → StandsAt next says start (reading.read ++ take n buf) before later after
          → later.replies ≡ []
          → has_ended later.at ≡ false
          → Reading start first rest_after (left - n) before later after
      reads_on after later fits stands none goes_on = record {
        read = reading.read ++ take n buf;
        taken = taken_more;
        count = count_more fits;
        goes_on = sym (ap has_ended stands.at_is) ∙ goes_on;
        stands = stands;
        none = none;
      }
