-- what every run keeps: commodities, branches and records stay where they are
use Rattle.std.proofs.Common.{◌≡◌, ℕ, List, [], ◌∷◌, refl, sym, subst, subst₂, Ok, Err, Bool, true, false, ◌++◌, ap}
use Rattle.std.proofs.Common.{◌∙◌, append_assoc, append-nil, Option, Some, None}
use Rattle.std.specs.Prelude.{Result, if◌then◌else◌}
use Rattle.std.specs.Str.{bytes_eq}
use Rattle.book_core.specs.declared.refusal.Refusal.{Refusal}
use Rattle.journal_format.specs.declared.txn.Located.{Located}
use Rattle.treasury_state.specs.Federation.{Federation, Branch, records_of, names_of}
use Rattle.treasury_state.specs.Good.{IsGoodState}
use Rattle.treasury_state.specs.declared.transfer.Transfer.{Transfer}
use Rattle.treasury_state.specs.Joined.{new_branch, with_records, with_lock, changed}
use Rattle.treasury_state.specs.Transfer.{dispatch_record, receipt_record, transfer_at}
use Rattle.treasury_state.proofs.FairLemmas.{adds_up_named, open_low_named}
use Rattle.treasury_core.specs.declared.command.Answer.{Answer}
use Rattle.treasury_core.specs.declared.command.Answer.TheVariants.{Done, Entered, Repeated}
use Rattle.treasury_core.specs.declared.command.Close.{Close}
use Rattle.treasury_core.specs.declared.command.Command.{Command}
use Rattle.treasury_core.specs.declared.command.Command.TheVariants as cmd
use Rattle.treasury_core.specs.Step.{reply, after, step, done, delta, new_records, transfer_of, receipt_of}
use Rattle.treasury_core.specs.Step.{with_receipt_of, closing_records}
use Rattle.treasury_core.specs.Run.{Turn, Replies, after_turn, IsRun, state_after}
use Rattle.treasury_core.specs.declared.command.Receive.{Receive}
use Rattle.treasury_core.specs.Closing.{closing_in}
use Rattle.treasury_core.proofs.ReplyLemmas.{reply_if_Ok, accepted_new, after_good, run_good}
use Rattle.treasury_core.proofs.ChangeLemmas.{KeepsName}
use Rattle.treasury_laws.specs.History.{IsRefusedOrRepeated, records_among, Grows, HasGrown}
use Rattle.treasury_laws.specs.Headline.{RefusalsLeave, Brings, FilesBring, Closes, ClosingsClose, KeepsBooks}
use Rattle.treasury_laws.proofs.HistoryLemmas.{run_records, run_moved, after_records}
use Rattle.treasury_laws.proofs.JoinedLemmas.{run_joined}
use Rattle.treasury_laws.proofs.OwnLemmas.{accepted_counts, entered_records}
use Rattle.treasury_laws.proofs.SoundLemmas.{good_balances, good_holds}
use Rattle.treasury_laws.proofs.AcceptedClosing.{closing_adds_one, closing_locked, closing_apart, closing_zero}
use Rattle.treasury_laws.proofs.AcceptedClosing.{closing_stays, closing_untouched, closing_elsewhere}

-- ---- refusals and repeats

after_refused_or_repeated : (f : Federation) (c : Command) (r : Result Answer Refusal) → IsRefusedOrRepeated r
    → after f c r ≡ f
after_refused_or_repeated f c (Ok Done) h = absurd h
after_refused_or_repeated f c (Ok (Entered new repeated)) h = absurd h
after_refused_or_repeated f c (Ok Repeated) h = refl
after_refused_or_repeated f c (Err refusal) h = refl

refusals_leave : (f : Federation) (turns : List Turn) → RefusalsLeave f turns
refusals_leave f [] = tt
refusals_leave f (t ∷ ts) = (after_refused_or_repeated f t.command t.reply, refusals_leave (after_turn f t) ts)

-- ---- accepted files

module _ (f : Federation) (name : List ℕ) (file : List Located) (new repeated : ℕ) where
  brings_step : reply f (cmd.Enter name file) ≡ Ok (Entered new repeated)
      → Brings f name file new repeated (step f (cmd.Enter name file)).next
  brings_step h =
      let counts = accepted_counts f name file new repeated h in
      record {
        brought = entered_records f name file new repeated h;
        fresh = accepted_new f name file (Entered new repeated) h;
        counted = counts.0;
        rest = counts.1;
      }

  brings_reply : Replies f (cmd.Enter name file) (Ok (Entered new repeated))
      → Brings f name file new repeated (after f (cmd.Enter name file) (Ok (Entered new repeated)))
  brings_reply h =
      let is = reply_if_Ok f (cmd.Enter name file) (Entered new repeated) h in
      subst (λ (r : Result Answer Refusal). Brings f name file new repeated (after f (cmd.Enter name file) r)) is
      (brings_step is)

  brings_turn : (c : Command) (r : Result Answer Refusal) → c ≡ cmd.Enter name file → r ≡ Ok (Entered new repeated)
      → Replies f c r → Brings f name file new repeated (after f c r)
  brings_turn c r is_enter is_entered =
      subst₂ (λ (c : Command) (r : Result Answer Refusal). Replies f c r
      → Brings f name file new repeated (after f c r)) (sym is_enter) (sym is_entered) brings_reply

files_bring : (f : Federation) (turns : List Turn) → IsRun f turns → FilesBring f turns
files_bring f [] run = tt
files_bring f (t ∷ ts) run = (
  (λ name file new repeated is_enter is_entered.
      brings_turn f name file new repeated t.command t.reply is_enter is_entered run.1),
  files_bring (after_turn f t) ts run.2,
)

-- ---- accepted closings

module _ (f : Federation) (x : Close) (later : List Turn) (good : IsGoodState f) where
  closes_step : reply f (cmd.Close x) ≡ Ok Done → IsRun (step f (cmd.Close x)).next later
      → Closes f x (step f (cmd.Close x)).next (state_after (step f (cmd.Close x)).next later)
  closes_step h run = record {
    adds = closing_adds_one f x h;
    locks = closing_locked f x h;
    apart = closing_apart f x h;
    zero = λ account unit is. closing_zero f x account unit good h is;
    stays = λ account unit is. closing_stays f x later account unit good h run is;
    untouched = λ account unit on other apart. closing_untouched f x account unit on good h other apart;
    elsewhere = λ other apart. closing_elsewhere f x other h apart;
  }

  closes_reply : Replies f (cmd.Close x) (Ok Done) → IsRun (after f (cmd.Close x) (Ok Done)) later
      → Closes f x (after f (cmd.Close x) (Ok Done)) (state_after (after f (cmd.Close x) (Ok Done)) later)
  closes_reply h =
      let is = reply_if_Ok f (cmd.Close x) Done h in
      subst (λ (r : Result Answer Refusal). IsRun (after f (cmd.Close x) r) later
      → Closes f x (after f (cmd.Close x) r) (state_after (after f (cmd.Close x) r) later)) is (closes_step is)

  closes_turn : (c : Command) (r : Result Answer Refusal) → c ≡ cmd.Close x → r ≡ Ok Done → Replies f c r
      → IsRun (after f c r) later → Closes f x (after f c r) (state_after (after f c r) later)
  closes_turn c r is_close is_done =
      subst₂ (λ (c : Command) (r : Result Answer Refusal). Replies f c r → IsRun (after f c r) later
      → Closes f x (after f c r) (state_after (after f c r) later))
      (sym is_close) (sym is_done) closes_reply

closings_close : (f : Federation) (turns : List Turn) → IsGoodState f → IsRun f turns → ClosingsClose f turns
closings_close f [] good run = tt
closings_close f (t ∷ ts) good run = (
  (λ x is_close is_done. closes_turn f x ts good t.command t.reply is_close is_done run.1 run.2),
  closings_close (after_turn f t) ts (after_good f t.command t.reply good run.0 run.1) run.2,
)

-- ---- all of it

pub keeps_books : (f : Federation) (turns : List Turn) → IsGoodState f → IsRun f turns → KeepsBooks f turns
keeps_books f turns good run =
    let end = run_good f turns good run in
    record {
      good = end;
      accepted = run_joined f turns;
      records = λ name. run_records f turns name run;
      balanced = good_balances (state_after f turns) end;
      moved = λ name reach account unit day. run_moved f turns name reach account unit day run;
      transit = λ from to there here apart. adds_up_named (state_after f turns) from to end there here apart;
      on_way = λ from to unit day. open_low_named (state_after f turns) from to unit day end;
      asserted = good_holds (state_after f turns) end;
      closings = closings_close f turns good run;
      refusals = refusals_leave f turns;
      files = files_bring f turns run;
    }

Grows-refl : {X : Type 0} (xs : List X) → Grows xs xs
Grows-refl xs = ([], sym (append-nil xs))

pub grows_twice : {X : Type 0} (xs ys zs : List X) → Grows xs ys → Grows ys zs → Grows xs zs
grows_twice xs ys zs h k = (h.0 ++ k.0, k.1 ∙ (ap (λ us. us ++ k.0) h.1 ∙ append_assoc xs h.0 k.0))

-- a change of a branch leaves the names
names_at : (g : Branch → Branch) (b : Branch) (bs xs : List Branch) (t : Bool) → KeepsName g → names_of xs ≡ names_of bs
    → names_of (if t then g b ∷ bs else b ∷ xs) ≡ names_of (b ∷ bs)
names_at g b bs xs true k e = ap (λ (n : List ℕ). n ∷ names_of bs) (k b)
names_at g b bs xs false k e = ap (λ (ns : List (List ℕ)). b.name ∷ ns) e

same_names : (g : Branch → Branch) (name : List ℕ) (bs : List Branch) → KeepsName g
    → names_of (changed g name bs) ≡ names_of bs
same_names g name [] k = refl
same_names g name (b ∷ bs) k = names_at g b bs (changed g name bs) (bytes_eq b.name name) k (same_names g name bs k)

names_push : (bs : List Branch) (name : List ℕ) → names_of (bs ++ new_branch name ∷ []) ≡ names_of bs ++ name ∷ []
names_push [] name = refl
names_push (b ∷ bs) name = ap (λ (ns : List (List ℕ)). b.name ∷ ns) (names_push bs name)

grows_if_same : (xs ys : List (List ℕ)) → ys ≡ xs → Grows xs ys
grows_if_same xs ys e = subst (Grows xs) (sym e) (Grows-refl xs)

received_names : (f : Federation) (r : Receive) (o : Option Transfer)
    → Grows (names_of f.branches) (names_of (with_receipt_of f r o).branches)
received_names f r None = Grows-refl (names_of f.branches)
received_names f r (Some t) = grows_if_same (names_of f.branches) _
    (same_names (with_records (receipt_record t (receipt_of t r) ∷ [])) r.branch f.branches (λ b. refl))

done_names : (f : Federation) (c : Command) → Grows (names_of f.branches) (names_of (done f c).branches)
unfolding done
done_names f (cmd.Branch name) = (name ∷ [], names_push f.branches name)
done_names f (cmd.Commodity style) = Grows-refl (names_of f.branches)
done_names f (cmd.Enter name file) =
    grows_if_same (names_of f.branches) _
    (same_names (with_records (new_records f name file)) name f.branches (λ b. refl))
done_names f (cmd.Dispatch d) =
    grows_if_same (names_of f.branches) _
    (same_names (with_records (dispatch_record (transfer_of d) ∷ [])) d.source f.branches (λ b. refl))
done_names f (cmd.Receive r) = received_names f r (transfer_at f r.id)
done_names f (cmd.Lock name day) =
    grows_if_same (names_of f.branches) _ (same_names (with_lock day) name f.branches (λ b. refl))
done_names f (cmd.Close x) =
    let rs = closing_records x.day (closing_in f x.branch x.day x.choice) in
    grows_if_same (names_of f.branches) _
    (same_names (with_lock x.day) x.branch (changed (with_records rs) x.branch f.branches) (λ b. refl) ∙ same_names
    (with_records rs) x.branch f.branches (λ b. refl))

received_styles : (f : Federation) (r : Receive) (o : Option Transfer) → Grows f.styles (with_receipt_of f r o).styles
received_styles f r None = Grows-refl f.styles
received_styles f r (Some t) = Grows-refl f.styles

done_styles : (f : Federation) (c : Command) → Grows f.styles (done f c).styles
unfolding done
done_styles f (cmd.Branch name) = Grows-refl f.styles
done_styles f (cmd.Commodity style) = (style ∷ [], refl)
done_styles f (cmd.Enter name file) = Grows-refl f.styles
done_styles f (cmd.Dispatch d) = Grows-refl f.styles
done_styles f (cmd.Receive r) = received_styles f r (transfer_at f r.id)
done_styles f (cmd.Lock name day) = Grows-refl f.styles
done_styles f (cmd.Close x) = Grows-refl f.styles

after_styles : (f : Federation) (c : Command) (r : Result Answer Refusal) → Grows f.styles (after f c r).styles
after_styles f c (Ok Done) = done_styles f c
after_styles f c (Ok (Entered new repeated)) = done_styles f c
after_styles f c (Ok Repeated) = Grows-refl f.styles
after_styles f c (Err refusal) = Grows-refl f.styles

after_names : (f : Federation) (c : Command) (r : Result Answer Refusal)
    → Grows (names_of f.branches) (names_of (after f c r).branches)
after_names f c (Ok Done) = done_names f c
after_names f c (Ok (Entered new repeated)) = done_names f c
after_names f c (Ok Repeated) = Grows-refl (names_of f.branches)
after_names f c (Err refusal) = Grows-refl (names_of f.branches)

pub run_grown : (f : Federation) (turns : List Turn) → IsRun f turns → HasGrown f (state_after f turns)
run_grown f [] r = record {
  styles = Grows-refl f.styles;
  branches = Grows-refl (names_of f.branches);
  records = λ name.
      Grows-refl (records_of f name);
}
run_grown f (t ∷ ts) r =
    let g = after_turn f t in
    let h = state_after g ts in
    let rest = run_grown g ts r.2 in
    record {
      styles = grows_twice f.styles g.styles h.styles (after_styles f t.command t.reply) rest.styles;
      branches = grows_twice (names_of f.branches) (names_of g.branches) (names_of h.branches)
          (after_names f t.command t.reply) rest.branches;
      records = λ name. grows_twice (records_of f name) (records_of g name) (records_of h name)
          (records_among name (delta f t.command t.reply), after_records f t.command t.reply name r.1)
          (rest.records name);
    }
