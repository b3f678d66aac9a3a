-- That turns are what a transcript has; that their commands are a run of the machine of commands; and what leaves the
-- state.
use Rattle.std.proofs.Common.{◌≡◌, ◌++◌, ℕ, Bool, true, false, if◌then◌else◌, List, [], ◌∷◌, Result, Ok, Err, map}
use Rattle.std.proofs.Common.{arith, refl, ap, ◌∙◌, sym, subst, inl, inr, slice_index}
use Rattle.money_core.specs.declared.cause.Cause.TheVariants.{Store as Failed}
use Rattle.book_core.specs.declared.refusal.Refusal.{Refusal}
use Rattle.book_core.specs.declared.refusal.Refusal.TheVariants.{Plain}
use Rattle.treasury_state.specs.Federation.{Federation}
use Rattle.treasury_state.specs.Good.{IsGoodState}
use Rattle.treasury_core.specs.declared.command.Answer.{Answer}
use Rattle.treasury_core.specs.declared.command.Answer.TheVariants.{Done, Entered, Repeated}
use Rattle.treasury_core.specs.declared.command.Command.{Command as AnyCommand}
use Rattle.treasury_core.specs.Run.{Replies as CommandReplies, IsRun as IsCommandRun, state_after}
use Rattle.treasury_core.proofs.ReplyLemmas.{run_good}
use Rattle.treasury_laws.specs.History.{IsRefusedOrRepeated}
use Rattle.treasury_store.specs.Treasury.{is_failure}
use Rattle.treasury_api.specs.declared.asking.Asked.{Asked}
use Rattle.treasury_api.specs.declared.asking.Asked.TheVariants.{Command, DryRun, Report}
use Rattle.treasury_api.specs.Asked.{Asks}
use Rattle.treasury_api.specs.Answer.{answer_text}
use Rattle.treasury_api.specs.Step.{Standing, after_asked, next, reply_text, MayReplyAsked, Answers}
use Rattle.treasury_api.specs.Transcript.{requests_in, AnswersInTurn, IsTranscript}
use Rattle.treasury_api.specs.History.{LineTurn, after_line_turn, AreTurns, standing_after, texts_of, IsRunOfLines}
use Rattle.treasury_api.specs.History.{command_if, commands_of}
use Rattle.treasury_api.specs.History.{RefusalsLeaveStanding, IsRefusalOrRepeat, RefusedLinesLeave}
use Rattle.treasury_api.proofs.AskedLemmas.{asked_fits}

-- ---- a transcript has turns, and turns have a transcript

pub record IsRunOf (start : Standing) (lines : List (List ℕ)) (output : List ℕ) (end : Standing)
    (turns : List LineTurn) : Type 0 where
  pub requests : map (λ (t : LineTurn). t.line) turns ≡ lines
  pub follow : AreTurns start turns
  pub written : output ≡ texts_of start turns
  pub left : end ≡ standing_after start turns

run_of : (start : Standing) (requests : List (List ℕ)) (output : List ℕ) (end : Standing)
    → AnswersInTurn Answers start requests output end
    → (turns : List LineTurn) × IsRunOf start requests output end turns
run_of start [] output end t = ([], record { requests = refl; follow = tt; written = t.0; left = t.1 })
run_of start (request ∷ requests) output end t =
    let a = t.3.0 in
    let turn : LineTurn = record { line = request; asked = a.asked; reply = a.reply } in
    let rest : (turns : List LineTurn) × IsRunOf (after_line_turn start turn) requests t.2 end turns =
    subst (λ (s : Standing). (turns : List LineTurn) × IsRunOf s requests t.2 end turns) a.left
    (run_of t.0 requests t.2 end t.3.1) in (
      turn ∷ rest.0,
      record {
        requests = ap (λ (lines : List (List ℕ)). request ∷ lines) rest.1.requests;
        follow = (a.asks, a.replies, rest.1.follow);
        written = t.3.2 ∙ (ap (λ (xs : List ℕ). t.1 ++ xs) rest.1.written ∙ ap
            (λ (xs : List ℕ). xs ++ texts_of (after_line_turn start turn) rest.0) a.text);
        left = rest.1.left;
      },
    )

pub turns_of : (start : Standing) (input output : List ℕ) (end : Standing) → IsTranscript Answers start input output end
    → (turns : List LineTurn) × IsRunOfLines start input output end turns
turns_of start input output end t =
    let run = run_of start (requests_in input) output end t in
    (run.0, record { requests = run.1.requests; follow = run.1.follow; written = run.1.written; left = run.1.left })

answered_in_turn : (start : Standing) (turns : List LineTurn) → AreTurns start turns
    → AnswersInTurn Answers start (map (λ (t : LineTurn). t.line) turns) (texts_of start turns)
    (standing_after start turns)
answered_in_turn start [] h = (refl, refl)
answered_in_turn start (t ∷ ts) h =
    let text = reply_text start.now t.asked t.reply in
    let answers : Answers start t.line text (after_line_turn start t) =
    record { asked = t.asked; reply = t.reply; asks = h.0; replies = h.1; text = refl; left = refl } in (
      after_line_turn start t,
      text,
      texts_of (after_line_turn start t) ts,
      (answers, answered_in_turn (after_line_turn start t) ts h.2, refl),
    )

pub transcript_of : (start : Standing) (input output : List ℕ) (end : Standing) (turns : List LineTurn)
    → IsRunOfLines start input output end turns → IsTranscript Answers start input output end
transcript_of start input output end turns run =
    let t0 = answered_in_turn start turns run.follow in
    let t1 = subst (λ (requests : List (List ℕ)).
    AnswersInTurn Answers start requests (texts_of start turns) (standing_after start turns)) run.requests t0 in
    let t2 = subst (λ (xs : List ℕ). AnswersInTurn Answers start (requests_in input) xs (standing_after start turns))
    (sym run.written) t1 in
    subst (λ (s : Standing). AnswersInTurn Answers start (requests_in input) output s) (sym run.left) t2

-- ---- the commands of turns are a run

-- 41 is no reply of the step, and leaves the state
pub failure_is : (r : Result Answer Refusal) → is_failure r ≡ true → r ≡ Err (Plain Failed)
failure_is (Ok answer) h = absurd cc
failure_is (Err (Plain Failed)) h = refl
failure_is (Err refusal) h = absurd cc

pub failure_leaves : (f : Federation) (c : AnyCommand) (r : Result Answer Refusal) → is_failure r ≡ true
    → after_asked f (Ok (Command c)) r ≡ f
failure_leaves f c r h = ap (after_asked f (Ok (Command c))) (failure_is r h)

-- a command that is not answered 41 is replied to by the machine of commands
pub command_replied : (s : Standing) (c : AnyCommand) (r : Result Answer Refusal) → is_failure r ≡ false
    → MayReplyAsked s (Ok (Command c)) r → CommandReplies s.now c r
command_replied s c r h (inl stepped) = inl stepped
command_replied s c r h (inr (inl memory)) = inr memory
command_replied s c r h (inr (inr failed)) = let e = ap is_failure failed.1 in absurd cc

pub commands_run : (start : Standing) (turns : List LineTurn) → AreTurns start turns
    → IsCommandRun start.now (commands_of turns)
commands_run start [] h = tt
commands_run start (t ∷ ts) h = with_first t.asked t.reply h.0 h.1.0 h.2 (λ s k. commands_run s ts k)
  where
    commanded : (failure : Bool) (c : AnyCommand) (r : Result Answer Refusal) → is_failure r ≡ failure
        → Asks start.failed start.now t.line (Ok (Command c))
        → MayReplyAsked start (Ok (Command c)) r
        → IsCommandRun (after_asked start.now (Ok (Command c)) r) (commands_of ts)
        → IsCommandRun start.now ((if failure then [] else record { command = c; reply = r } ∷ []) ++ commands_of ts)
    commanded true c r e asks replies rest =
        subst (λ (f : Federation). IsCommandRun f (commands_of ts)) (failure_leaves start.now c r e) rest
    commanded false c r e asks replies rest =
        (asked_fits start.failed start.now t.line c asks, command_replied start c r e replies, rest)

    with_first : (asked : Result Asked Refusal) (r : Result Answer Refusal)
        → Asks start.failed start.now t.line asked → MayReplyAsked start asked r
        → AreTurns (next start asked r) ts → ((s : Standing) → AreTurns s ts → IsCommandRun s.now (commands_of ts))
        → IsCommandRun start.now (command_if asked r ++ commands_of ts)
    with_first (Ok (Command c)) r asks replies follow rest =
        commanded (is_failure r) c r refl asks replies (rest (next start (Ok (Command c)) r) follow)
    with_first (Ok (DryRun c)) r asks replies follow rest = rest (next start (Ok (DryRun c)) r) follow
    with_first (Ok (Report report)) r asks replies follow rest = rest (next start (Ok (Report report)) r) follow
    with_first (Err refusal) r asks replies follow rest = rest (next start (Err refusal) r) follow

pub commands_end : (start : Standing) (turns : List LineTurn)
    → (standing_after start turns).now ≡ state_after start.now (commands_of turns)
commands_end start [] = refl
commands_end start (t ∷ ts) = with_first t.asked t.reply (λ s. commands_end s ts)
  where
    commanded : (failure : Bool) (c : AnyCommand) (r : Result Answer Refusal) → is_failure r ≡ failure
        → (standing_after (next start (Ok (Command c)) r) ts).now
        ≡ state_after (after_asked start.now (Ok (Command c)) r) (commands_of ts)
        → (standing_after (next start (Ok (Command c)) r) ts).now
        ≡ state_after start.now ((if failure then [] else record { command = c; reply = r } ∷ []) ++ commands_of ts)
    commanded true c r e rest =
        rest ∙ ap (λ (f : Federation). state_after f (commands_of ts)) (failure_leaves start.now c r e)
    commanded false c r e rest = rest

    with_first : (asked : Result Asked Refusal) (r : Result Answer Refusal)
        → ((s : Standing) → (standing_after s ts).now ≡ state_after s.now (commands_of ts))
        → (standing_after (next start asked r) ts).now ≡ state_after start.now (command_if asked r ++ commands_of ts)
    with_first (Ok (Command c)) r rest = commanded (is_failure r) c r refl (rest (next start (Ok (Command c)) r))
    with_first (Ok (DryRun c)) r rest = rest (next start (Ok (DryRun c)) r)
    with_first (Ok (Report report)) r rest = rest (next start (Ok (Report report)) r)
    with_first (Err refusal) r rest = rest (next start (Err refusal) r)

pub turns_good : (start : Standing) (turns : List LineTurn) → AreTurns start turns → IsGoodState start.now
    → IsGoodState (standing_after start turns).now
turns_good start turns h ok = subst IsGoodState (sym (commands_end start turns))
    (run_good start.now (commands_of turns) ok (commands_run start turns h))

pub answers_good : (s : Standing) (line text : List ℕ) (t : Standing) → Answers s line text t → IsGoodState s.now
    → IsGoodState t.now
answers_good s line text t a ok =
    let turn : LineTurn = record { line = line; asked = a.asked; reply = a.reply } in
    subst (λ (end : Standing). IsGoodState end.now) (sym a.left) (turns_good s (turn ∷ []) (a.asks, a.replies, tt) ok)

-- ---- a refusal and a repeat leave the state

reply_leaves : (f : Federation) (asked : Result Asked Refusal) (r : Result Answer Refusal) → IsRefusedOrRepeated r
    → after_asked f asked r ≡ f
reply_leaves f (Ok (Command c)) (Ok Done) h = absurd h
reply_leaves f (Ok (Command c)) (Ok Repeated) h = refl
reply_leaves f (Ok (Command c)) (Ok (Entered n m)) h = absurd h
reply_leaves f (Ok (Command c)) (Err refusal) h = refl
reply_leaves f (Ok (DryRun c)) r h = refl
reply_leaves f (Ok (Report report)) r h = refl
reply_leaves f (Err refusal) r h = refl

pub turns_leave : (start : Standing) (turns : List LineTurn) → RefusalsLeaveStanding start turns
turns_leave start [] = tt
turns_leave start (t ∷ ts) = (reply_leaves start.now t.asked t.reply, turns_leave (after_line_turn start t) ts)

-- the first byte tells a refusal or a repeat from what is done
says_no : (text : List ℕ) → IsRefusalOrRepeat text → slice_index text 0 ≡ 114
says_no text (inl refused) = ap (λ t. slice_index t 0) refused.1
says_no text (inr repeated) = ap (λ t. slice_index t 0) repeated

not_done : (f : Federation) (P : Type 0) → IsRefusalOrRepeat (answer_text f.styles (Ok Done)) → P
unfolding answer_text
not_done f P h = let e : 111 ≡ 114 = says_no (answer_text f.styles (Ok Done)) h in absurd (omega (arith, e))

not_entered : (f : Federation) (n m : ℕ) (P : Type 0) → IsRefusalOrRepeat (answer_text f.styles (Ok (Entered n m))) → P
unfolding answer_text
not_entered f n m P h =
    let e : 111 ≡ 114 = says_no (answer_text f.styles (Ok (Entered n m))) h in absurd (omega (arith, e))

told_leaves : (f : Federation) (asked : Result Asked Refusal) (r : Result Answer Refusal)
    → IsRefusalOrRepeat (reply_text f asked r) → after_asked f asked r ≡ f
told_leaves f (Ok (Command c)) (Ok Done) h = not_done f _ h
told_leaves f (Ok (Command c)) (Ok Repeated) h = refl
told_leaves f (Ok (Command c)) (Ok (Entered n m)) h = not_entered f n m _ h
told_leaves f (Ok (Command c)) (Err refusal) h = refl
told_leaves f (Ok (DryRun c)) r h = refl
told_leaves f (Ok (Report report)) r h = refl
told_leaves f (Err refusal) r h = refl

pub answered_leaves : (s : Standing) (line text : List ℕ) (t : Standing) → Answers s line text t
    → IsRefusalOrRepeat text → t.now ≡ s.now
answered_leaves s line text t a h =
    ap (λ (end : Standing). end.now) a.left ∙ told_leaves s.now a.asked a.reply (subst IsRefusalOrRepeat a.text h)

pub lines_leave : (start : Standing) (turns : List LineTurn) → RefusedLinesLeave start turns
lines_leave start [] = tt
lines_leave start (t ∷ ts) = (told_leaves start.now t.asked t.reply, lines_leave (after_line_turn start t) ts)
