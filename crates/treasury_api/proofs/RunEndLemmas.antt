-- What a run on a treasury leaves: turns lead to its end, also where it is cut off, and so it keeps the books; and what
-- is left of the tables.
use Rattle.std.proofs.Common.{◌≡◌, ◌⊎◌, ◌||◌, ℕ, Bool, true, false, IsTrue, List, [], ◌∷◌, ◌++◌, Option, Result}
use Rattle.std.proofs.Common.{Ok, Err, IfErr, refl, sym, subst, ap, ◌∙◌, inl, inr, append_assoc}
use Rattle.sqlite.specs.Store.{Ghosts}
use Rattle.sqlite.specs.Held.{state}
use Rattle.money_core.specs.declared.cause.Cause.{Cause}
use Rattle.money_core.specs.declared.cause.Cause.TheVariants.{OutOfMemory, ReadFault, WriteFault}
use Rattle.treasury_state.specs.Federation.{Federation}
use Rattle.treasury_state.specs.Rows.{rows}
use Rattle.treasury_core.specs.Run.{state_after}
use Rattle.treasury_laws.proofs.HeadlineLemmas.{keeps_books}
use Rattle.treasury_tables.specs.Kept.{ShutsByFault, IsFaithful}
use Rattle.treasury_store.specs.Treasury.{Treasury, IsTreasuryOf, is_failure}
use Rattle.treasury_store.specs.Left.{LeavesRows}
use Rattle.treasury_store.proofs.LeftLemmas.{shuts_same, shuts_then}
use Rattle.treasury_api.specs.Step.{Standing, Answers}
use Rattle.treasury_api.specs.Transcript.{requests_in, AnswersInTurn, IsTranscript}
use Rattle.treasury_api.specs.RunEnd.{most_input, EndsBy, Ends}
use Rattle.treasury_api.specs.History.{LineTurn, turn_of, after_line_turn, AreTurns, standing_after, texts_of}
use Rattle.treasury_api.specs.History.{IsRunOfLines, commands_of}
use Rattle.treasury_api.specs.Left.{LeavesAsked, IsOpenBut, FailedAt, LeavesRun}
use Rattle.treasury_api.specs.Replied.{standing, Serves}
use Rattle.treasury_api.specs.Kept.{AreTurnsOf, Runs}
use Rattle.treasury_api.proofs.HistoryLemmas.{IsRunOf, transcript_of, failure_is, commands_run, commands_end}
use Rattle.treasury_api.proofs.HistoryLemmas.{turns_leave, lines_leave}
use Rattle.treasury_api.proofs.LeftLemmas.{LeavesShown}

-- ---- turns, and further ones after them

turns_then : (s : Standing) (ts us : List LineTurn) → AreTurns s ts → AreTurns (standing_after s ts) us
    → AreTurns s (ts ++ us)
turns_then s [] us first then = then
turns_then s (t ∷ ts) us (asks, replies, first) then =
    (asks, replies, turns_then (after_line_turn s t) ts us first then)

end_then : (s : Standing) (ts us : List LineTurn)
    → standing_after s (ts ++ us) ≡ standing_after (standing_after s ts) us
end_then s [] us = refl
end_then s (t ∷ ts) us = end_then (after_line_turn s t) ts us

-- ---- lines that are served one after another

pub shuts_along : {S : Type 0} (g : Ghosts S) (a b : Treasury S) (requests : List (List ℕ)) (output : List ℕ)
    → AnswersInTurn (Serves g) a requests output b → ShutsByFault g a.store.conn b.store.conn
shuts_along {S = S} g a b [] output (none, same) =
    subst (λ (t : Treasury S). ShutsByFault g a.store.conn t.store.conn) (sym same) (shuts_same g a.store.conn)
shuts_along g a b (request ∷ requests) output (mid, answer, rest, (step, more, split)) =
    shuts_then g a.store.conn mid.store.conn b.store.conn step.shuts (shuts_along g mid b requests rest more)

pub closed_along : {S : Type 0} (g : Ghosts S) (a b : Treasury S) (requests : List (List ℕ)) (output : List ℕ)
    → AnswersInTurn (Serves g) a requests output b → IsTrue a.store.failed → b ≡ a
closed_along g a b [] output (none, same) failed = same
closed_along {S = S} g a b (request ∷ requests) output (mid, answer, rest, (step, more, split)) failed =
    let stays : mid ≡ a = step.closed failed in
    closed_along g mid b requests rest more (subst (λ (t : Treasury S). IsTrue t.store.failed) (sym stays) failed) ∙
    stays

-- ---- what is left along turns

-- the treasury is open; or one of the turns was answered 41, and a call has failed
abbrev Leaving : {S : Type 0} → Ghosts S → Treasury S → Standing → List LineTurn → Type 0
Leaving g new start turns =
    IsTrue (state g new.store.conn).is_open
    ⊎ (FailedAt g new.store.conn start turns × IsTrue new.store.failed)

-- the same of turns that begin on an open treasury, on which no call has failed
abbrev LeavingIf : {S : Type 0} → Ghosts S → Treasury S → Treasury S → Standing → List LineTurn → Type 0
LeavingIf g old new start turns =
    IsTrue (state g old.store.conn).is_open → old.store.failed ≡ false → Leaving g new start turns

module _ {S : Type 0} (g : Ghosts S) (old mid new : Treasury S)
    (closed : IsTrue mid.store.failed → new ≡ mid) where
  -- a turn, and what is left along those after it
  leaving_first : (f e : Federation) (turn : LineTurn) (turns : List LineTurn)
      → standing mid e ≡ after_line_turn (standing old f) turn → old.store.failed ≡ false
      → LeavesAsked g mid.store.conn f turn.asked × IsOpenBut g mid.store.conn turn.reply
      → LeavingIf g mid new (after_line_turn (standing old f) turn) turns
      → Leaving g new (standing old f) (turn ∷ turns)
  leaving_first f e turn turns at unfailed (asked, but) then = by_failure (is_failure turn.reply) refl
    where
      flag : mid.store.failed ≡ is_failure turn.reply
      flag = ap (λ (s : Standing). s.failed) at ∙ ap (λ (b : Bool). b || is_failure turn.reply) unfailed

      shift : Leaving g new (after_line_turn (standing old f) turn) turns
          → Leaving g new (standing old f) (turn ∷ turns)
      shift (inl still) = inl still
      shift (inr (there, closes)) = inr (
        record {
          before = turn ∷ there.before;
          turn = there.turn;
          behind = there.behind;
          split = ap (λ (ts : List LineTurn). turn ∷ ts) there.split;
          failed = there.failed;
          left = there.left;
        },
        closes,
      )

      by_open : is_failure turn.reply ≡ false → IsOpenBut g mid.store.conn turn.reply
          → Leaving g new (standing old f) (turn ∷ turns)
      by_open harmless (inl still) = shift (then still (flag ∙ harmless))
      by_open harmless (inr failed) =
          absurd (let clash : true ≡ false = sym (ap is_failure failed) ∙ harmless in cc)

      by_failure : (failed : Bool) → is_failure turn.reply ≡ failed → Leaving g new (standing old f) (turn ∷ turns)
      by_failure true is =
          let closes : IsTrue mid.store.failed = flag ∙ is in
          let same : mid ≡ new = sym (closed closes) in
          inr (
            record {
              before = [];
              turn = turn;
              behind = turns;
              split = refl;
              failed = failure_is turn.reply is;
              left = subst (λ (t : Treasury S). LeavesAsked g t.store.conn f turn.asked) same asked;
            },
            subst (λ (t : Treasury S). IsTrue t.store.failed) same closes,
          )
      by_failure false is = by_open is but

  -- turns, and one more after them
  leaving_last : (start : Standing) (e end : Federation) (turns : List LineTurn) (turn : LineTurn)
      → standing mid e ≡ standing_after start turns → standing new end ≡ after_line_turn (standing mid e) turn
      → (IsTrue (state g mid.store.conn).is_open → mid.store.failed ≡ false
      → LeavesAsked g new.store.conn e turn.asked × IsOpenBut g new.store.conn turn.reply)
      → Leaving g mid start turns → Leaving g new start (turns ++ turn ∷ [])
  leaving_last start e end turns turn at next step (inl still) = by_failed mid.store.failed refl
    where
      by_open : is_failure turn.reply ≡ false → IsOpenBut g new.store.conn turn.reply
          → Leaving g new start (turns ++ turn ∷ [])
      by_open harmless (inl still) = inl still
      by_open harmless (inr failed) =
          absurd (let clash : true ≡ false = sym (ap is_failure failed) ∙ harmless in cc)

      by_failure : (failed : Bool) → is_failure turn.reply ≡ failed → mid.store.failed ≡ false
          → LeavesAsked g new.store.conn e turn.asked × IsOpenBut g new.store.conn turn.reply
          → Leaving g new start (turns ++ turn ∷ [])
      by_failure true is unfailed (asked, but) = inr (
        record {
          before = turns;
          turn = turn;
          behind = [];
          split = refl;
          failed = failure_is turn.reply is;
          left = subst (λ (s : Standing). LeavesAsked g new.store.conn s.now turn.asked) at asked;
        },
        ap (λ (s : Standing). s.failed) next ∙ (ap (λ (b : Bool). b || is_failure turn.reply) unfailed ∙ is),
      )
      by_failure false is unfailed (asked, but) = by_open is but

      by_failed : (failed : Bool) → mid.store.failed ≡ failed → Leaving g new start (turns ++ turn ∷ [])
      by_failed true is =
          inl (subst (λ (t : Treasury S). IsTrue (state g t.store.conn).is_open) (sym (closed is)) still)
      by_failed false is = by_failure (is_failure turn.reply) refl is (step still is)
  leaving_last start e end turns turn at next step (inr (there, closes)) =
      let same : mid ≡ new = sym (closed closes) in
      inr (
        record {
          before = there.before;
          turn = there.turn;
          behind = there.behind ++ turn ∷ [];
          split = ap (λ (ts : List LineTurn). ts ++ turn ∷ []) there.split ∙ append_assoc there.before
              (there.turn ∷ there.behind) (turn ∷ []);
          failed = there.failed;
          left = subst (λ (t : Treasury S). LeavesAsked g t.store.conn (standing_after start there.before).now
              there.turn.asked) same there.left;
        },
        subst (λ (t : Treasury S). IsTrue t.store.failed) same closes,
      )

-- ---- the turns of lines that are served

record AreServed {S : Type 0} (g : Ghosts S) (old new : Treasury S) (start : Standing) (requests : List (List ℕ))
    (output : List ℕ) (end : Federation) (turns : List LineTurn) : Type 0 where
  run : IsRunOf start requests output (standing new end) turns
  leaving : LeavingIf g old new start turns

-- from whichever state the treasury is of
serve_all : {S : Type 0} (g : Ghosts S) (old new : Treasury S) (requests : List (List ℕ)) (output : List ℕ)
    → AnswersInTurn (Serves g) old requests output new → IsFaithful g new.store.conn
    → (f : Federation) → IsTreasuryOf g old f
    → (end : Federation) × (IsTreasuryOf g new end
    × ((turns : List LineTurn) × AreServed g old new (standing old f) requests output end turns))
serve_all {S = S} g old new [] output (none, same) clean f of = (
  f,
  (
    subst (λ (t : Treasury S). IsTreasuryOf g t f) (sym same) of,
    (
      [],
      record {
        run =
            record { requests = refl; follow = tt; written = none; left = ap (λ (t : Treasury S). standing t f) same };
        leaving = λ is_open unfailed. inl
            (subst (λ (t : Treasury S). IsTrue (state g t.store.conn).is_open) (sym same) is_open);
      },
    ),
  ),
)
serve_all {S = S} g old new (request ∷ requests) output (mid, answer, rest, (step, more, split)) clean f of =
    let later = shuts_along g mid new requests rest more in
    let first = step.answers (later.clean clean) f of in
    let a = first.1.1.0 in
    let turn : LineTurn = record { line = request; asked = a.asked; reply = a.reply } in
    let then = serve_all g mid new requests rest more clean first.0 first.1.0 in
    let from : (turns : List LineTurn)
    × AreServed g mid new (after_line_turn (standing old f) turn) requests rest then.0 turns =
    subst (λ (s : Standing). (turns : List LineTurn) × AreServed g mid new s requests rest then.0 turns) a.left
    then.1.1 in (
      then.0,
      (
        then.1.0,
        (
          turn ∷ from.0,
          record {
            run = record {
              requests = ap (λ (lines : List (List ℕ)). request ∷ lines) from.1.run.requests;
              follow = (a.asks, a.replies, from.1.run.follow);
              written = split ∙ (ap (λ (xs : List ℕ). answer ++ xs) from.1.run.written ∙ ap
                  (λ (xs : List ℕ). xs ++ texts_of (after_line_turn (standing old f) turn) from.0) a.text);
              left = from.1.run.left;
            };
            leaving = λ is_open unfailed.
                leaving_first g old mid new (closed_along g mid new requests rest more) f first.0 turn from.0 a.left
                unfailed (first.1.1.1 is_open unfailed) from.1.leaving;
          },
        ),
      ),
    )

-- they are a run
as_run : {S : Type 0} (g : Ghosts S) (old new : Treasury S) (start : Standing) (input output : List ℕ)
    (end : Federation) (turns : List LineTurn) → AreServed g old new start (requests_in input) output end turns
    → IsRunOfLines start input output (standing new end) turns
as_run g old new start input output end turns served =
    let run = served.run in
    record { requests = run.requests; follow = run.follow; written = run.written; left = run.left }

-- their transcript
served_transcript : {S : Type 0} (g : Ghosts S) (old new : Treasury S) (start : Standing) (input output : List ℕ)
    (end : Federation) (turns : List LineTurn) → AreServed g old new start (requests_in input) output end turns
    → IsTranscript Answers start input output (standing new end)
served_transcript g old new start input output end turns served =
    transcript_of start input output (standing new end) turns
    (as_run g old new start input output end turns served)

-- ---- the turns of a run that is cut off

-- they follow one another, and lead to its end
turns_lead : (cause : Cause) (r0 r1 w0 w1 : Option (List ℕ)) (start end : Standing)
    (ends : EndsBy cause Answers most_input r0 r1 w0 w1 start end) (turns : List LineTurn)
    → AreTurnsOf cause r0 r1 w0 w1 start end ends turns → AreTurns start turns × (end ≡ standing_after start turns)
turns_lead OutOfMemory r0 r1 w0 w1 start end ends turns run = (run.follow, run.left)
turns_lead ReadFault r0 r1 w0 w1 start end ends turns run = (run.follow, run.left)
turns_lead WriteFault r0 r1 w0 w1 start end ends turns (front, run, split) =
    let torn = ends.stops in
    let a = torn.last in
    let turn : LineTurn = turn_of a in
    let at = run.left in
    let follow : AreTurns torn.mid (turn ∷ []) = (a.asks, a.replies, tt) in (
      subst (AreTurns start) (sym split) (turns_then start front (turn ∷ []) run.follow
          (subst (λ (s : Standing). AreTurns s (turn ∷ [])) at follow)),
      a.left ∙ (ap (λ (s : Standing). standing_after s (turn ∷ [])) at ∙ (sym (end_then start front (turn ∷ [])) ∙ ap
          (standing_after start) (sym split))),
    )
turns_lead _ r0 r1 w0 w1 start end ends turns run = absurd run

-- ---- runs

-- turns that lead to the end of a run that is cut off
record IsLed {S : Type 0} (g : Ghosts S) (cause : Cause) (r0 r1 w0 w1 : Option (List ℕ)) (old new : Treasury S)
    (start : Standing) (end : Federation) (turns : List LineTurn) : Type 0 where
  ends : EndsBy cause Answers most_input r0 r1 w0 w1 start (standing new end)
  run : AreTurnsOf cause r0 r1 w0 w1 start (standing new end) ends turns
  leaving : LeavingIf g old new start turns

led_where_cut_off : {S : Type 0} (g : Ghosts S) (cause : Cause) (r0 r1 w0 w1 : Option (List ℕ)) (old new : Treasury S)
    → EndsBy cause (Serves g) most_input r0 r1 w0 w1 old new
    → IsFaithful g new.store.conn → (f : Federation) → IsTreasuryOf g old f
    → (end : Federation) × (IsTreasuryOf g new end
    × ((turns : List LineTurn) × IsLed g cause r0 r1 w0 w1 old new (standing old f) end turns))
led_where_cut_off g OutOfMemory r0 r1 w0 w1 old new ends clean f of =
    let stops = ends.stops in
    let all = serve_all g old new (requests_in stops.whole) stops.written stops.transcript clean f of in
    let served = all.1.1.1 in (
      all.0,
      (
        all.1.0,
        (
          all.1.1.0,
          record {
            ends = record {
              seen = ends.seen;
              read = ends.read;
              within = ends.within;
              stops = record {
                whole = stops.whole;
                further = stops.further;
                written = stops.written;
                split = stops.split;
                complete = stops.complete;
                transcript =
                    served_transcript g old new (standing old f) stops.whole stops.written all.0 all.1.1.0 served;
                appended = stops.appended;
              };
            };
            run = as_run g old new (standing old f) stops.whole stops.written all.0 all.1.1.0 served;
            leaving = served.leaving;
          },
        ),
      ),
    )
led_where_cut_off g ReadFault r0 r1 w0 w1 old new ends clean f of =
    let answered = ends.answered in
    let all = serve_all g old new (requests_in answered.whole) answered.written answered.transcript clean f of in
    let served = all.1.1.1 in (
      all.0,
      (
        all.1.0,
        (
          all.1.1.0,
          record {
            ends = record {
              seen = ends.seen;
              begun = ends.begun;
              over = ends.over;
              read = ends.read;
              within = ends.within;
              past = ends.past;
              answered = record {
                whole = answered.whole;
                written = answered.written;
                split = answered.split;
                complete = answered.complete;
                part = answered.part;
                transcript =
                    served_transcript g old new (standing old f) answered.whole answered.written all.0 all.1.1.0 served;
                appended = answered.appended;
              };
            };
            run = as_run g old new (standing old f) answered.whole answered.written all.0 all.1.1.0 served;
            leaving = served.leaving;
          },
        ),
      ),
    )
led_where_cut_off g WriteFault r0 r1 w0 w1 old new ends clean f of =
    let stops = ends.stops in
    let step = stops.last in
    let mid = stops.mid in
    let all =
    serve_all g old mid (requests_in stops.whole) stops.written stops.transcript (step.shuts.clean clean) f of in
    let served = all.1.1.1 in
    let turns = all.1.1.0 in
    let then = step.answers clean all.0 all.1.0 in
    let a = then.1.1.0 in
    let turn : LineTurn = record { line = stops.request; asked = a.asked; reply = a.reply } in
    let at = served.run.left in (
      then.0,
      (
        then.1.0,
        (
          turns ++ turn ∷ [],
          record {
            ends = record {
              seen = ends.seen;
              read = ends.read;
              within = ends.within;
              stops = record {
                whole = stops.whole;
                further = stops.further;
                written = stops.written;
                mid = standing mid all.0;
                request = stops.request;
                answer = stops.answer;
                taken = stops.taken;
                part = stops.part;
                split = stops.split;
                complete = stops.complete;
                transcript = served_transcript g old mid (standing old f) stops.whole stops.written all.0 turns served;
                next = stops.next;
                last = a;
                appended = stops.appended;
              };
            };
            run = (
              turns,
              as_run g old mid (standing old f) stops.whole stops.written all.0 turns served,
              refl,
            );
            leaving = λ is_open unfailed.
                leaving_last g old mid new step.closed (standing old f) all.0 then.0 turns turn at
                a.left
                then.1.1.1 (served.leaving is_open unfailed);
          },
        ),
      ),
    )
led_where_cut_off g _ r0 r1 w0 w1 old new ends clean f of = absurd ends

-- the state after turns is the one after their commands
left_by : (start : Standing) (turns : List LineTurn) (end : Standing) → end ≡ standing_after start turns
    → end.now ≡ state_after start.now (commands_of turns)
left_by start turns end last = ap (λ (s : Standing). s.now) last ∙ commands_end start turns

leaves_run : {S : Type 0} (g : Ghosts S) → LeavesShown g
    → (old new : Treasury S) (start : Standing) (turns : List LineTurn) (end : Federation) → IsTreasuryOf g new end
    → LeavingIf g old new start turns → LeavesRun g old new start turns (standing new end)
leaves_run g shown old new start turns end of leaving is_open unfailed = by_end (leaving is_open unfailed)
  where
    by_end : Leaving g new start turns
        → (IsTrue (state g new.store.conn).is_open × LeavesRows g new.store.conn (rows end))
        ⊎ FailedAt g new.store.conn start turns
    by_end (inl still) = inl (still, shown new.store.conn (rows end) of.store.tables still)
    by_end (inr (failed, closes)) = inr failed

-- a run on a treasury of a state ends as it may, keeps the books, and leaves of the tables what its turns say
pub run_keeps_books : {S T R W : Type 0} (g : Ghosts S) → LeavesShown g
    → (result : Result T Cause) (remaining : R → Option (List ℕ)) (r0 r1 : R) (contents : W → Option (List ℕ))
    (w0 w1 : W) (old new : Treasury S)
    → Ends result (Serves g) most_input remaining r0 r1 contents w0 w1 old new → IsFaithful g new.store.conn
    → (f : Federation) → IsTreasuryOf g old f
    → (end : Federation) × (IsTreasuryOf g new end
    × Runs g old new result remaining r0 r1 contents w0 w1 (standing old f) (standing new end))
run_keeps_books g shown (Ok x) remaining r0 r1 contents w0 w1 old new finished clean f of =
    let start = standing old f in
    let all = serve_all g old new (requests_in finished.seen) finished.written finished.transcript clean f of in
    let turns = all.1.1.0 in
    let served = all.1.1.1 in
    let run = served.run in
    let commanded = commands_run start turns run.follow in (
      all.0,
      (
        all.1.0,
        (
          record {
            turns = turns;
            finished = record {
              seen = finished.seen;
              written = finished.written;
              read = finished.read;
              last = finished.last;
              within = finished.within;
              transcript = served_transcript g old new start finished.seen finished.written all.0 turns served;
              appended = finished.appended;
            };
            run = as_run g old new start finished.seen finished.written all.0 turns served;
            commands = commanded;
            left = left_by start turns (standing new all.0) run.left;
            headline = keeps_books f (commands_of turns) of.store.good commanded;
            refusals = turns_leave start turns;
            lines = lines_leave start turns;
          },
          leaves_run g shown old new start turns all.0 all.1.0 served.leaving,
        ),
      ),
    )
run_keeps_books g shown (Err cause) remaining r0 r1 contents w0 w1 old new ends clean f of =
    let start = standing old f in
    let all =
    led_where_cut_off g cause (remaining r0) (remaining r1) (contents w0) (contents w1) old new ends clean f of in
    let turns = all.1.1.0 in
    let led = all.1.1.1 in
    let lead = turns_lead cause (remaining r0) (remaining r1) (contents w0) (contents w1) start (standing new all.0)
    led.ends turns led.run in
    let commanded = commands_run start turns lead.0 in (
      all.0,
      (
        all.1.0,
        (
          record {
            ends = led.ends;
            turns = turns;
            run = led.run;
            commands = commanded;
            left = left_by start turns (standing new all.0) lead.1;
            headline = keeps_books f (commands_of turns) of.store.good commanded;
            refusals = turns_leave start turns;
          },
          leaves_run g shown old new start turns all.0 all.1.0 led.leaving,
        ),
      ),
    )

-- ---- whatever the disk returned

-- a run that ends, whichever way, is lines that are served one after another
pub served_along : {S T R W : Type 0} (g : Ghosts S) (P : Treasury S → Treasury S → Type 0) (result : Result T Cause)
    (most : ℕ) (remaining : R → Option (List ℕ)) (r0 r1 : R) (contents : W → Option (List ℕ)) (w0 w1 : W)
    (old new : Treasury S)
    → ((a b : Treasury S) (requests : List (List ℕ)) (output : List ℕ) → AnswersInTurn (Serves g) a requests output b
    → P a b)
    → ((a b c : Treasury S) (line text : List ℕ) → P a b → Serves g b line text c → P a c)
    → Ends result (Serves g) most remaining r0 r1 contents w0 w1 old new → P old new
served_along g P (Ok x) most remaining r0 r1 contents w0 w1 old new lines then ends =
    lines old new (requests_in ends.seen) ends.written ends.transcript
served_along g P (Err OutOfMemory) most remaining r0 r1 contents w0 w1 old new lines then ends =
    let stops = ends.stops in lines old new (requests_in stops.whole) stops.written stops.transcript
served_along g P (Err ReadFault) most remaining r0 r1 contents w0 w1 old new lines then ends =
    let answered = ends.answered in lines old new (requests_in answered.whole) answered.written answered.transcript
served_along g P (Err WriteFault) most remaining r0 r1 contents w0 w1 old new lines then ends =
    let stops = ends.stops in
    then old stops.mid new stops.request stops.answer
    (lines old stops.mid (requests_in stops.whole) stops.written stops.transcript) stops.last
served_along g P (Err _) most remaining r0 r1 contents w0 w1 old new lines then ends = absurd ends

pub run_shuts : {S T R W : Type 0} (g : Ghosts S) (result : Result T Cause) (most : ℕ) (remaining : R → Option (List ℕ))
    (r0 r1 : R) (contents : W → Option (List ℕ)) (w0 w1 : W) (old new : Treasury S)
    → Ends result (Serves g) most remaining r0 r1 contents w0 w1 old new → ShutsByFault g old.store.conn new.store.conn
run_shuts {S = S} g result most remaining r0 r1 contents w0 w1 old new ends =
    served_along g (λ (a b : Treasury S). ShutsByFault g a.store.conn b.store.conn) result most remaining r0 r1 contents
    w0 w1 old new (shuts_along g)
    (λ a b c line text one step. shuts_then g a.store.conn b.store.conn c.store.conn one step.shuts) ends

pub run_closed : {S T R W : Type 0} (g : Ghosts S) (result : Result T Cause) (most : ℕ)
    (remaining : R → Option (List ℕ)) (r0 r1 : R) (contents : W → Option (List ℕ)) (w0 w1 : W) (old new : Treasury S)
    → Ends result (Serves g) most remaining r0 r1 contents w0 w1 old new → IsTrue old.store.failed → new ≡ old
run_closed {S = S} g result most remaining r0 r1 contents w0 w1 old new ends =
    served_along g (λ (a b : Treasury S). IsTrue a.store.failed → b ≡ a) result most remaining r0 r1 contents w0 w1 old
    new (closed_along g)
    (λ a b c line text one step failed.
    step.closed (subst (λ (t : Treasury S). IsTrue t.store.failed) (sym (one failed)) failed) ∙ one failed) ends

-- a run is refused by 40, 45 or 46
pub run_causes : {S T R W : Type 0} (Step : S → List ℕ → List ℕ → S → Type 0) (result : Result T Cause) (most : ℕ)
    (remaining : R → Option (List ℕ)) (r0 r1 : R) (contents : W → Option (List ℕ)) (w0 w1 : W) (start end : S)
    → Ends result Step most remaining r0 r1 contents w0 w1 start end
    → IfErr result (λ cause. (cause ≡ OutOfMemory) ⊎ ((cause ≡ ReadFault) ⊎ (cause ≡ WriteFault)))
run_causes Step (Ok x) most remaining r0 r1 contents w0 w1 start end ends = tt
run_causes Step (Err OutOfMemory) most remaining r0 r1 contents w0 w1 start end ends = inl refl
run_causes Step (Err ReadFault) most remaining r0 r1 contents w0 w1 start end ends = inr (inl refl)
run_causes Step (Err WriteFault) most remaining r0 r1 contents w0 w1 start end ends = inr (inr refl)
run_causes Step (Err _) most remaining r0 r1 contents w0 w1 start end ends = absurd ends
