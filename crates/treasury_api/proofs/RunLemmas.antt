-- A run, from one read to the next, and how it ends.
use Rattle.std.proofs.Common.{◌≡◌, ◌≢◌, ◌≤◌, ◌+◌, ◌-◌, ℕ, List, [], ◌∷◌, ◌++◌, ◌⊎◌, inl, inr, take, length, Option}
use Rattle.std.proofs.Common.{arith, sym, subst, ap, ◌∙◌, append_assoc, append-nil, refl, length-append}
use Rattle.std.proofs.KnownBytes.{Appends-trans, Appends-nil, Consumes-nil, Consumes-trans, Consumes-kept}
use Rattle.std.proofs.lemmas.List.Elements.{All-nil, All-append}
use Rattle.std.specs.Io.KnownBytes.{Appends, Consumes, IsAtEnd, Keeps}
use Rattle.std.specs.Str.Lines.{strip_carriage_return}
use Rattle.money_core.specs.declared.cause.Cause.{Cause}
use Rattle.money_core.specs.declared.cause.Cause.TheVariants.{OutOfMemory, ReadFault, WriteFault}
use Rattle.treasury_api.specs.Transcript.{requests_among, AnswersInTurn, IsTranscript}
use Rattle.treasury_api.specs.RunEnd.{IsWholeLines, HasNoLineFeed, AnswersWhole, GoesOn, GaveUp, Torn, StopsBy}
use Rattle.treasury_api.specs.RunEnd.{Finished, Broken, EndsBy}
use Rattle.treasury_api.specs.Served.{Served, HalfServed, FailsLineBy}
use Rattle.treasury_api.proofs.LineLemmas.{requests_one, requests_last, whole-append, transcript-append}

abbrev pub Stepping : Type 0 → Type 1
Stepping S = S → List ℕ → List ℕ → S → Type 0

-- ---- the complete lines of what was seen

pub whole_none : {S : Type 0} (Step : Stepping S) (w : Option (List ℕ)) (s : S) (seen line : List ℕ) → seen ≡ line
    → HasNoLineFeed line → AnswersWhole Step w w s seen line s
whole_none Step w s seen line same part = record {
  whole = [];
  written = [];
  split = same;
  complete = inl refl;
  part = part;
  transcript = (refl, refl);
  appended = Appends-nil w;
}

-- further bytes of a line
pub whole_part : {S : Type 0} (Step : Stepping S) (w0 w1 : Option (List ℕ)) (s t : S) (seen line part line' : List ℕ)
    → AnswersWhole Step w0 w1 s seen line t → HasNoLineFeed part → line' ≡ line ++ part
    → AnswersWhole Step w0 w1 s (seen ++ part) line' t
whole_part Step w0 w1 s t seen line part line' so_far plain longer = record {
  whole = so_far.whole;
  written = so_far.written;
  split =
      ap (λ x. x ++ part) so_far.split ∙ append_assoc so_far.whole line part ∙ sym (ap (λ x. so_far.whole ++ x) longer);
  complete = so_far.complete;
  part = (let P : List ℕ → Type 0 = λ x.
      HasNoLineFeed x in subst P (sym longer) (All-append (λ x. x ≢ 10) line part so_far.part plain));
  transcript = so_far.transcript;
  appended = so_far.appended;
}

whole_line : (line : List ℕ) → IsWholeLines (line ++ (10 ∷ []))
whole_line line = inr (line, refl)

-- the end of a line, whose request is served
pub whole_line_served : {S : Type 0} (Step : Stepping S) (w0 w1 w2 : Option (List ℕ))
    (s m t : S) (seen line seen' line' : List ℕ) (b : ℕ) → AnswersWhole Step w0 w1 s seen line m
    → Served Step w1 w2 m (requests_among (strip_carriage_return line ∷ [])) t → b ≡ 10 → seen' ≡ seen ++ (b ∷ [])
    → line' ≡ [] → AnswersWhole Step w0 w2 s seen' line' t
whole_line_served Step w0 w1 w2 s m t seen line seen' line' b so_far served feed more empty = record {
  whole = so_far.whole ++ (line ++ (10 ∷ []));
  written = so_far.written ++ served.written;
  split = more ∙ ap (λ x. seen ++ (x ∷ [])) feed ∙ ap (λ x. x ++ (10 ∷ [])) so_far.split ∙ append_assoc so_far.whole
      line (10 ∷ [])
      ∙ sym (append-nil (so_far.whole ++ (line ++ (10 ∷ [])))) ∙ sym
      (ap (λ x. (so_far.whole ++ (line ++ (10 ∷ []))) ++ x) empty);
  complete = whole-append so_far.whole (line ++ (10 ∷ [])) so_far.complete (whole_line line);
  part = (let P : List ℕ → Type 0 = λ x. HasNoLineFeed x in subst P (sym empty) (All-nil (λ x. x ≢ 10)));
  transcript = (
      let P : List (List ℕ) → Type 0 = λ requests. AnswersInTurn Step m requests served.written t in
      transcript-append Step s m t so_far.whole (line ++ (10 ∷ [])) so_far.written served.written so_far.complete
      so_far.transcript
      (subst P (sym (requests_one line so_far.part)) served.answers)
      );
  appended = Appends-trans w0 w1 w2 so_far.written served.written so_far.appended served.appended;
}

-- further bytes, with the lines that they end
pub whole_further : {S : Type 0} (Step : Stepping S) (w0 w1 w2 : Option (List ℕ))
    (s m t : S) (seen line new line' : List ℕ) → AnswersWhole Step w0 w1 s seen line m
    → AnswersWhole Step w1 w2 m (line ++ new) line' t → AnswersWhole Step w0 w2 s (seen ++ new) line' t
whole_further Step w0 w1 w2 s m t seen line new line' so_far next = record {
  whole = so_far.whole ++ next.whole;
  written = so_far.written ++ next.written;
  split = ap (λ x. x ++ new) so_far.split ∙ append_assoc so_far.whole line new ∙ ap (λ x. so_far.whole ++ x) next.split
      ∙ sym (append_assoc so_far.whole next.whole line');
  complete = whole-append so_far.whole next.whole so_far.complete next.complete;
  part = next.part;
  transcript = transcript-append Step s m t so_far.whole next.whole so_far.written next.written so_far.complete
      so_far.transcript next.transcript;
  appended = Appends-trans w0 w1 w2 so_far.written next.written so_far.appended next.appended;
}

-- ---- where the answers stop

-- memory was refused between two requests
pub gave_up_here : {S : Type 0} (Step : Stepping S) (w0 w1 : Option (List ℕ)) (s t : S) (seen line rest all : List ℕ)
    → AnswersWhole Step w0 w1 s seen line t → all ≡ seen ++ rest → GaveUp Step w0 w1 s all t
gave_up_here Step w0 w1 s t seen line rest all so_far split = record {
  whole = so_far.whole;
  further = line ++ rest;
  written = so_far.written;
  split = split ∙ ap (λ x. x ++ rest) so_far.split ∙ append_assoc so_far.whole line rest;
  complete = so_far.complete;
  transcript = so_far.transcript;
  appended = so_far.appended;
}

half_served_is_torn : {S : Type 0} (Step : Stepping S) (AtEnd : Type 0) (w0 w1 w2 : Option (List ℕ)) (s m t : S)
    (seen line further all : List ℕ) (requests : List (List ℕ)) → AnswersWhole Step w0 w1 s seen line m
    → HalfServed Step w1 w2 m requests t → ((request : List ℕ) → requests ≡ request ∷ [] → GoesOn AtEnd further request)
    → ((whole : List ℕ) → seen ≡ whole ++ line → all ≡ whole ++ further) → Torn Step AtEnd w0 w2 s all t
half_served_is_torn Step AtEnd w0 w1 w2 s m t seen line further all requests so_far failed next split = record {
  whole = so_far.whole;
  further = further;
  written = so_far.written;
  mid = m;
  request = failed.request;
  answer = failed.answer;
  taken = failed.taken;
  part = failed.part;
  split = split so_far.whole so_far.split;
  complete = so_far.complete;
  transcript = so_far.transcript;
  next = next failed.request failed.one;
  last = failed.last;
  appended = Appends-trans w0 w1 w2 so_far.written (take failed.taken failed.answer) so_far.appended failed.appended;
}

stops_by_failing : {S : Type 0} (cause : Cause) (Step : Stepping S) (AtEnd : Type 0) (w0 w1 w2 : Option (List ℕ))
    (s m t : S) (seen line further all : List ℕ) (requests : List (List ℕ)) → AnswersWhole Step w0 w1 s seen line m
    → FailsLineBy cause Step w1 w2 m requests t
    → ((request : List ℕ) → requests ≡ request ∷ [] → GoesOn AtEnd further request)
    → ((whole : List ℕ) → seen ≡ whole ++ line → all ≡ whole ++ further) → StopsBy cause Step AtEnd w0 w2 s all t
stops_by_failing WriteFault Step AtEnd w0 w1 w2 s m t seen line further all requests so_far failed next split =
    half_served_is_torn Step AtEnd w0 w1 w2 s m t seen line further all requests so_far failed next split
stops_by_failing _ Step AtEnd w0 w1 w2 s m t seen line further all requests so_far failed next split = absurd failed

goes_on_line : (AtEnd : Type 0) (line rest : List ℕ) → HasNoLineFeed line → (request : List ℕ)
    → requests_among (strip_carriage_return line ∷ []) ≡ request ∷ [] → GoesOn AtEnd (line ++ (10 ∷ rest)) request
goes_on_line AtEnd line rest part request one = record {
  line = line ++ (10 ∷ []);
  rest = rest;
  split = sym (append_assoc line (10 ∷ []) rest);
  one = requests_one line part ∙ one;
  ended = inl (whole_line line);
}

goes_on_last : (AtEnd : Type 0) (line : List ℕ) → HasNoLineFeed line → AtEnd → (request : List ℕ)
    → requests_among (line ∷ []) ≡ request ∷ [] → GoesOn AtEnd line request
goes_on_last AtEnd line part last request one = record {
  line = line;
  rest = [];
  split = sym (append-nil line);
  one = requests_last line part ∙ one;
  ended = inr (refl, last);
}

-- the answers stop at a line that a line feed ends
pub stops_at_line : {S : Type 0} (cause : Cause) (Step : Stepping S) (AtEnd : Type 0) (w0 w1 w2 : Option (List ℕ))
    (s m t : S) (seen line rest all : List ℕ) (b : ℕ) → AnswersWhole Step w0 w1 s seen line m
    → FailsLineBy cause Step w1 w2 m (requests_among (strip_carriage_return line ∷ [])) t → b ≡ 10
    → all ≡ seen ++ (b ∷ rest) → StopsBy cause Step AtEnd w0 w2 s all t
stops_at_line cause Step AtEnd w0 w1 w2 s m t seen line rest all b so_far failed feed split =
    stops_by_failing cause Step AtEnd w0 w1 w2 s m t seen line (line ++ (10 ∷ rest)) all _ so_far failed
    (goes_on_line AtEnd line rest so_far.part)
    (λ whole e. split ∙ ap (λ x. seen ++ (x ∷ rest)) feed ∙ ap (λ x. x ++ (10 ∷ rest)) e ∙ append_assoc whole line
    (10 ∷ rest))

-- the answers stop at the last line, which has no end
pub stops_at_last : {S : Type 0} (cause : Cause) (Step : Stepping S) (AtEnd : Type 0) (w0 w1 w2 : Option (List ℕ))
    (s m t : S) (seen line : List ℕ) → AnswersWhole Step w0 w1 s seen line m
    → FailsLineBy cause Step w1 w2 m (requests_among (line ∷ [])) t → AtEnd → StopsBy cause Step AtEnd w0 w2 s seen t
stops_at_last cause Step AtEnd w0 w1 w2 s m t seen line so_far failed last =
    stops_by_failing cause Step AtEnd w0 w1 w2 s m t seen line line seen _ so_far failed
    (goes_on_last AtEnd line so_far.part last) (λ whole e. e)

goes_on : (AtEnd : Type 0) (text request : List ℕ) → GoesOn ⊥ text request → GoesOn AtEnd text request
goes_on AtEnd text request next = record {
  line = next.line;
  rest = next.rest;
  split = next.split;
  one = next.one;
  ended = (elim next.ended [ inl whole ↦ inl whole | inr (e, never) ↦ absurd never ]);
}

seen_split : {S : Type 0} (Step : Stepping S) (w0 w1 : Option (List ℕ)) (s m : S) (seen line new whole further : List ℕ)
    (so_far : AnswersWhole Step w0 w1 s seen line m) → line ++ new ≡ whole ++ further
    → seen ++ new ≡ (so_far.whole ++ whole) ++ further
seen_split Step w0 w1 s m seen line new whole further so_far split =
    ap (λ x. x ++ new) so_far.split ∙ append_assoc so_far.whole line new ∙ ap (λ x. so_far.whole ++ x) split ∙ sym
    (append_assoc so_far.whole whole further)

gave_up_later : {S : Type 0} (Step : Stepping S) (w0 w1 w2 : Option (List ℕ)) (s m t : S) (seen line new : List ℕ)
    → AnswersWhole Step w0 w1 s seen line m → GaveUp Step w1 w2 m (line ++ new) t → GaveUp Step w0 w2 s (seen ++ new) t
gave_up_later Step w0 w1 w2 s m t seen line new so_far next = record {
  whole = so_far.whole ++ next.whole;
  further = next.further;
  written = so_far.written ++ next.written;
  split = seen_split Step w0 w1 s m seen line new next.whole next.further so_far next.split;
  complete = whole-append so_far.whole next.whole so_far.complete next.complete;
  transcript = transcript-append Step s m t so_far.whole next.whole so_far.written next.written so_far.complete
      so_far.transcript next.transcript;
  appended = Appends-trans w0 w1 w2 so_far.written next.written so_far.appended next.appended;
}

torn_later : {S : Type 0} (Step : Stepping S) (AtEnd : Type 0) (w0 w1 w2 : Option (List ℕ)) (s m t : S)
    (seen line new : List ℕ) → AnswersWhole Step w0 w1 s seen line m → Torn Step ⊥ w1 w2 m (line ++ new) t
    → Torn Step AtEnd w0 w2 s (seen ++ new) t
torn_later Step AtEnd w0 w1 w2 s m t seen line new so_far next = record {
  whole = so_far.whole ++ next.whole;
  further = next.further;
  written = so_far.written ++ next.written;
  mid = next.mid;
  request = next.request;
  answer = next.answer;
  taken = next.taken;
  part = next.part;
  split = seen_split Step w0 w1 s m seen line new next.whole next.further so_far next.split;
  complete = whole-append so_far.whole next.whole so_far.complete next.complete;
  transcript = transcript-append Step s m next.mid so_far.whole next.whole so_far.written next.written so_far.complete
      so_far.transcript next.transcript;
  next = goes_on AtEnd next.further next.request next.next;
  last = next.last;
  appended = (
      let P : List ℕ → Type 0 = λ o. Appends w0 w2 o in
      subst P (sym (append_assoc so_far.written next.written (take next.taken next.answer)))
      (Appends-trans w0 w1 w2 so_far.written (next.written ++ take next.taken next.answer) so_far.appended
      next.appended)
      );
}

-- the answers stop within further bytes
pub stops_later : {S : Type 0} (cause : Cause) (Step : Stepping S) (AtEnd : Type 0) (w0 w1 w2 : Option (List ℕ))
    (s m t : S) (seen line new : List ℕ) → AnswersWhole Step w0 w1 s seen line m
    → StopsBy cause Step ⊥ w1 w2 m (line ++ new) t → StopsBy cause Step AtEnd w0 w2 s (seen ++ new) t
stops_later OutOfMemory Step AtEnd w0 w1 w2 s m t seen line new so_far next =
    gave_up_later Step w0 w1 w2 s m t seen line new so_far next
stops_later WriteFault Step AtEnd w0 w1 w2 s m t seen line new so_far next =
    torn_later Step AtEnd w0 w1 w2 s m t seen line new so_far next
stops_later _ Step AtEnd w0 w1 w2 s m t seen line new so_far next = absurd next

-- ---- the lines of further bytes, one after another

-- a line that a feed ends is answered, and the bytes after it are left
pub fed_further : {S : Type 0} (Step : Stepping S) (w0 w1 w2 : Option (List ℕ))
    (s m t : S) (seen line front next rest all line' : List ℕ) → AnswersWhole Step w0 w1 s seen line m
    → AnswersWhole Step w1 w2 m ((line ++ front) ++ 10 ∷ []) line' t → rest ≡ front ++ (10 ∷ next) → all ≡ seen ++ rest
    → (x : List ℕ) × (AnswersWhole Step w0 w2 s x line' t × (all ≡ x ++ next))
fed_further {S = S} Step w0 w1 w2 s m t seen line front next rest all line' so_far ended cut split =
    let new = front ++ 10 ∷ [] in
    let P : List ℕ → Type 0 = λ x. AnswersWhole Step w1 w2 m x line' t in (
      seen ++ new,
      (
        whole_further Step w0 w1 w2 s m t seen line new line' so_far
            (subst P (append_assoc line front (10 ∷ [])) ended),
        split ∙ ap (λ x. seen ++ x) (cut ∙ sym (append_assoc front (10 ∷ []) next)) ∙ sym (append_assoc seen new next),
      ),
    )

-- the answers stop at a line that a feed ends
pub fed_stops : {S : Type 0} (cause : Cause) (Step : Stepping S) (w0 w1 w2 : Option (List ℕ)) (s m t : S)
    (seen line front next rest all : List ℕ) → AnswersWhole Step w0 w1 s seen line m
    → ((more : List ℕ) → StopsBy cause Step ⊥ w1 w2 m ((line ++ front) ++ 10 ∷ more) t) → rest ≡ front ++ (10 ∷ next)
    → all ≡ seen ++ rest → StopsBy cause Step ⊥ w0 w2 s all t
fed_stops cause Step w0 w1 w2 s m t seen line front next rest all so_far failed cut split =
    let P : List ℕ → Type 0 = λ x. StopsBy cause Step ⊥ w1 w2 m x t in
    let Q : List ℕ → Type 0 = λ x. StopsBy cause Step ⊥ w0 w2 s x t in
    subst Q (sym (split ∙ ap (λ x. seen ++ x) cut))
    (stops_later cause Step ⊥ w0 w1 w2 s m t seen line (front ++ (10 ∷ next)) so_far
    (subst P (append_assoc line front (10 ∷ next)) (failed next)))

-- ---- one read after another

-- what was read so far, and how many bytes may still be read
pub record Passed {S : Type 0} (Step : Stepping S) (r0 r1 w0 w1 : Option (List ℕ)) (s t : S) (line : List ℕ)
    (left most : ℕ) : Type 0 where
  pub seen : List ℕ
  pub read : Consumes r0 r1 seen
  pub answered : AnswersWhole Step w0 w1 s seen line t
  pub count : length seen + left ≡ most

pub passed_none : {S : Type 0} (Step : Stepping S) (r w : Option (List ℕ)) (s : S) (line : List ℕ) (most : ℕ)
    → line ≡ [] → Passed Step r r w w s s line most most
passed_none Step r w s line most empty = record {
  seen = [];
  read = Consumes-nil r;
  answered = whole_none Step w s [] line (sym empty)
      (let P : List ℕ → Type 0 = λ x. HasNoLineFeed x in subst P (sym empty) (All-nil (λ x. x ≢ 10)));
  count = omega arith;
}

pub passed_more : {S : Type 0} (Step : Stepping S) (r0 r1 r2 w0 w1 w2 : Option (List ℕ))
    (s m t : S) (line line' new : List ℕ) (left count most : ℕ) → Passed Step r0 r1 w0 w1 s m line left most
    → Consumes r1 r2 new → length new ≡ count → count ≤ left → AnswersWhole Step w1 w2 m (line ++ new) line' t
    → Passed Step r0 r2 w0 w2 s t line' (left - count) most
passed_more Step r0 r1 r2 w0 w1 w2 s m t line line' new left count most passed read counted within next = record {
  seen = passed.seen ++ new;
  read = Consumes-trans r0 r1 r2 passed.seen new passed.read read;
  answered = whole_further Step w0 w1 w2 s m t passed.seen line new line' passed.answered next;
  count = (let h = length-append passed.seen new in let k = passed.count in omega arith);
}

within_most : (seen : List ℕ) (left most : ℕ) → length seen + left ≡ most → length seen ≤ most
within_most seen left most count = omega arith

-- nothing more is there, and the last line is served
pub run_finished : {S : Type 0} (Step : Stepping S) (r0 r1 r2 w0 w1 w2 : Option (List ℕ)) (s m t : S) (line : List ℕ)
    (left most : ℕ) → Passed Step r0 r1 w0 w1 s m line left most → Consumes r1 r2 [] → IsAtEnd r2
    → Served Step w1 w2 m (requests_among (line ∷ [])) t → Finished Step most r0 r2 w0 w2 s t
run_finished Step r0 r1 r2 w0 w1 w2 s m t line left most passed read last served =
    let so_far = passed.answered in record {
      seen = passed.seen;
      written = so_far.written ++ served.written;
      read = (let P : List ℕ → Type 0 = λ x.
          Consumes r0 r2 x in subst P (append-nil passed.seen)
          (Consumes-trans r0 r1 r2 passed.seen [] passed.read read));
      last = last;
      within = within_most passed.seen left most passed.count;
      transcript = (
          let P : List (List ℕ) → Type 0 = λ requests. AnswersInTurn Step m requests served.written t in
          let Q : List ℕ → Type 0 = λ x. IsTranscript Step s x (so_far.written ++ served.written) t in
          subst Q (sym so_far.split)
          (transcript-append Step s m t so_far.whole line so_far.written served.written so_far.complete
          so_far.transcript
          (subst P (sym (requests_last line so_far.part)) served.answers))
          );
      appended = Appends-trans w0 w1 w2 so_far.written served.written so_far.appended served.appended;
    }

-- a read failed, or gave the byte past the bound
pub run_broken : {S : Type 0} (Step : Stepping S) (r0 r1 r2 w0 w1 : Option (List ℕ)) (s t : S) (line over : List ℕ)
    (left most : ℕ) → Passed Step r0 r1 w0 w1 s t line left most → Consumes r1 r2 over
    → (over ≡ []) ⊎ ((length over ≡ 1) × (left ≡ 0)) → Broken Step most r0 r2 w0 w1 s t
run_broken Step r0 r1 r2 w0 w1 s t line over left most passed read past = record {
  seen = passed.seen;
  begun = line;
  over = over;
  read = Consumes-trans r0 r1 r2 passed.seen over passed.read read;
  within = within_most passed.seen left most passed.count;
  past = (elim past [
    | inl none_read ↦ inl none_read
    | inr (one, full) ↦ inr (one, (let k = passed.count in omega arith))
  ]);
  answered = passed.answered;
}

pub Keeps_consumes_nothing : (a b : Option (List ℕ)) → Keeps a b → Consumes a b []
Keeps_consumes_nothing a b same = Consumes-kept a a b [] (Consumes-nil a) same

ends_by : {S : Type 0} (cause : Cause) (Step : Stepping S) (most : ℕ) (r0 r1 w0 w1 : Option (List ℕ)) (s t : S)
    (seen : List ℕ) → Consumes r0 r1 seen → length seen ≤ most → StopsBy cause Step (IsAtEnd r1) w0 w1 s seen t
    → EndsBy cause Step most r0 r1 w0 w1 s t
ends_by OutOfMemory Step most r0 r1 w0 w1 s t seen read within stopped =
    record { seen = seen; read = read; within = within; stops = stopped }
ends_by WriteFault Step most r0 r1 w0 w1 s t seen read within stopped =
    record { seen = seen; read = read; within = within; stops = stopped }
ends_by ReadFault Step most r0 r1 w0 w1 s t seen read within stopped = absurd stopped
ends_by _ Step most r0 r1 w0 w1 s t seen read within stopped = absurd stopped

-- the run stops within the bytes of one read
pub stopped_later : {S : Type 0} (cause : Cause) (Step : Stepping S) (r0 r1 r2 w0 w1 w2 : Option (List ℕ)) (s m t : S)
    (line new : List ℕ) (left count most : ℕ) → Passed Step r0 r1 w0 w1 s m line left most → Consumes r1 r2 new
    → length new ≡ count → count ≤ left → StopsBy cause Step ⊥ w1 w2 m (line ++ new) t
    → EndsBy cause Step most r0 r2 w0 w2 s t
stopped_later cause Step r0 r1 r2 w0 w1 w2 s m t line new left count most passed read counted within next =
    ends_by cause Step most r0 r2 w0 w2 s t (passed.seen ++ new)
    (Consumes-trans r0 r1 r2 passed.seen new passed.read read)
    (let h = length-append passed.seen new in let k = passed.count in omega arith)
    (stops_later cause Step (IsAtEnd r2) w0 w1 w2 s m t passed.seen line new passed.answered next)

-- the run stops at the last line, which has no end
pub stopped_last : {S : Type 0} (cause : Cause) (Step : Stepping S) (r0 r1 r2 w0 w1 w2 : Option (List ℕ)) (s m t : S)
    (line : List ℕ) (left most : ℕ) → Passed Step r0 r1 w0 w1 s m line left most → Consumes r1 r2 [] → IsAtEnd r2
    → FailsLineBy cause Step w1 w2 m (requests_among (line ∷ [])) t → EndsBy cause Step most r0 r2 w0 w2 s t
stopped_last cause Step r0 r1 r2 w0 w1 w2 s m t line left most passed read last failed =
    let P : List ℕ → Type 0 = λ x. Consumes r0 r2 x in
    ends_by cause Step most r0 r2 w0 w2 s t passed.seen
    (subst P (append-nil passed.seen) (Consumes-trans r0 r1 r2 passed.seen [] passed.read read))
    (within_most passed.seen left most passed.count)
    (stops_at_last cause Step (IsAtEnd r2) w0 w1 w2 s m t passed.seen line passed.answered failed last)
