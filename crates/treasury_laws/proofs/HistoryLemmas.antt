-- the records of a branch are its old ones and those that were added
use Rattle.std.proofs.Common.{◌≡◌, ◌+ℤ◌, ℕ, Bool, true, false, ◌||◌, List, [], ◌∷◌, ◌++◌, map, refl, ap, ◌∙◌, sym}
use Rattle.std.proofs.Common.{append_assoc, append-nil, inl, inr, Option, Some, None, Ok, Err}
use Rattle.std.specs.Prelude.{if◌then◌else◌, Result, not, ⊤}
use Rattle.std.specs.List.{list_any}
use Rattle.std.specs.Str.{bytes_eq}
use Rattle.money_core.specs.declared.day.Day.{Day}
use Rattle.money_core.specs.declared.unit.Unit.{Unit as Commodity}
use Rattle.money_core.specs.declared.cause.Cause.TheVariants.{OutOfMemory}
use Rattle.money_core.proofs.BytesLemmas.{third_bytes, same_bytes}
use Rattle.book_core.specs.declared.entry.Entry.{Entry}
use Rattle.book_core.specs.declared.refusal.Refusal.{Refusal}
use Rattle.book_core.specs.declared.refusal.Refusal.TheVariants.{Plain}
use Rattle.book_core.specs.declared.account.Reach.{Reach}
use Rattle.book_core.specs.declared.place.Until.TheVariants.{Through}
use Rattle.book_core.specs.Balance.{balance}
use Rattle.book_core.proofs.BalanceLemmas.{balance-append}
use Rattle.treasury_state.specs.declared.record.Record.{Record}
use Rattle.treasury_state.specs.declared.delta.Addition.{Addition}
use Rattle.treasury_state.specs.declared.delta.Addition.TheVariants as add
use Rattle.treasury_state.specs.declared.transfer.Transfer.{Transfer}
use Rattle.treasury_state.specs.Transfer.{dispatch_record, receipt_record, transfer_at}
use Rattle.treasury_state.specs.Federation.{Branch, Federation, has_name, has_branch, records_in, records_of, entries}
use Rattle.treasury_state.specs.Federation.{book_of}
use Rattle.treasury_state.specs.Joined.{new_branch, with_records, with_lock, changed}
use Rattle.treasury_state.proofs.EntriesLemmas.{entries-append}
use Rattle.treasury_core.specs.declared.command.Answer.{Answer}
use Rattle.treasury_core.specs.declared.command.Answer.TheVariants.{Done, Entered, Repeated}
use Rattle.treasury_core.specs.declared.command.Command.{Command}
use Rattle.treasury_core.specs.declared.command.Command.TheVariants as cmd
use Rattle.treasury_core.specs.declared.command.Receive.{Receive}
use Rattle.treasury_core.specs.Closing.{closing_in}
use Rattle.treasury_core.specs.Step.{reply, done, added, after, delta, new_records, transfer_of, receipt_of}
use Rattle.treasury_core.specs.Step.{receipt_additions, with_receipt_of, closing_records}
use Rattle.treasury_core.specs.Run.{Turn, Replies, IsRun, state_after}
use Rattle.treasury_laws.specs.History.{history, record_if, records_among}

-- a new branch has no records
branch_at : (b : Branch) (name : List ℕ) (t : Bool) (xs ys : List Record) → xs ≡ ys
    → (if t then b.records else xs) ≡ (if t then b.records else ys)
branch_at b name true xs ys e = refl
branch_at b name false xs ys e = e

none_or : (t : Bool) → (if t then (let rs : List Record = [] in rs) else []) ≡ []
none_or true = refl
none_or false = refl

records-branch : (bs : List Branch) (other name : List ℕ)
    → records_in (bs ++ new_branch other ∷ []) name ≡ records_in bs name
records-branch [] other name = none_or (bytes_eq other name)
records-branch (b ∷ bs) other name = branch_at b name (bytes_eq b.name name) _ _ (records-branch bs other name)

-- a lock leaves records
lock_at : (day : Day) (b : Branch) (bs xs : List Branch) (name : List ℕ) (t : Bool)
    → records_in xs name ≡ records_in bs name
    → records_in (if t then with_lock day b ∷ bs else b ∷ xs) name ≡ records_in (b ∷ bs) name
lock_at day b bs xs name true e = refl
lock_at day b bs xs name false e = branch_at b name (bytes_eq b.name name) _ _ e

pub records-locked : (bs : List Branch) (day : Day) (other name : List ℕ)
    → records_in (changed (with_lock day) other bs) name ≡ records_in bs name
records-locked [] day other name = refl
records-locked (b ∷ bs) day other name =
    lock_at day b bs _ name (bytes_eq b.name other) (records-locked bs day other name)

-- records of the branch itself, or of another
abbrev pub own_or : Bool → List Record → List Record
own_or t rs = if t then rs else []

here_at : (rs old later : List Record) (t : Bool)
    → (if t then old ++ rs else later) ≡ (if t then old else later) ++ own_or t rs
here_at rs old later true = refl
here_at rs old later false = sym (append-nil later)

there_at : (rs old xs later : List Record) (t s : Bool) → (t ≡ true → s ≡ false) → xs ≡ later ++ own_or s rs
    → (if t then old else xs) ≡ (if t then old else later) ++ own_or s rs
there_at rs old xs later true s e h = rw (e refl) (sym (append-nil old))
there_at rs old xs later false s e h = h

entered_at : (rs : List Record) (b : Branch) (bs xs : List Branch) (other name : List ℕ) (t : Bool)
    → bytes_eq b.name other ≡ t → (t || list_any (has_name other) bs) ≡ true
    → (list_any (has_name other) bs ≡ true → records_in xs name ≡ records_in bs name ++ own_or (bytes_eq other name) rs)
    → records_in (if t then with_records rs b ∷ bs else b ∷ xs) name
    ≡ records_in (b ∷ bs) name ++ own_or (bytes_eq other name) rs
entered_at rs b bs xs other name true e k h =
    here_at rs b.records (records_in bs name) (bytes_eq b.name name) ∙ ap
    (λ (m : List ℕ). records_in (b ∷ bs) name ++ own_or (bytes_eq m name) rs) (same_bytes b.name other e)
entered_at rs b bs xs other name false e k h =
    there_at rs b.records (records_in xs name) (records_in bs name) (bytes_eq b.name name) (bytes_eq other name)
    (λ f. third_bytes b.name other name e f) (h k)

pub records-entered : (rs : List Record) (bs : List Branch) (other name : List ℕ) → list_any (has_name other) bs ≡ true
    → records_in (changed (with_records rs) other bs) name ≡ records_in bs name ++ own_or (bytes_eq other name) rs
records-entered rs [] other name e = absurd cc
records-entered rs (b ∷ bs) other name e =
    entered_at rs b bs _ other name (bytes_eq b.name other) refl e (records-entered rs bs other name)

-- among additions
among_more : (t : Bool) (r : Record) (rs : List Record) → own_or t (r ∷ []) ++ own_or t rs ≡ own_or t (r ∷ rs)
among_more true r rs = refl
among_more false r rs = refl

among_none : (t : Bool) → own_or t [] ≡ []
among_none true = refl
among_none false = refl

pub among-records : (other name : List ℕ) (rs : List Record)
    → records_among name (map (λ (r : Record). add.Record other r) rs) ≡ own_or (bytes_eq other name) rs
among-records other name [] = sym (among_none (bytes_eq other name))
among-records other name (r ∷ rs) =
    ap (λ (xs : List Record). own_or (bytes_eq other name) (r ∷ []) ++ xs) (among-records other name rs) ∙ among_more
    (bytes_eq other name) r rs

pub among-append : (name : List ℕ) (xs ys : List Addition)
    → records_among name (xs ++ ys) ≡ records_among name xs ++ records_among name ys
among-append name [] ys = refl
among-append name (x ∷ xs) ys =
    ap (λ (rs : List Record). record_if name x ++ rs) (among-append name xs ys) ∙ sym
    (append_assoc (record_if name x) (records_among name xs) (records_among name ys))

-- an accepted command's branch is there
abbrev HasTarget : Federation → Command → Type 0
HasTarget f (cmd.Branch name) = ⊤
HasTarget f (cmd.Commodity style) = ⊤
HasTarget f (cmd.Enter name file) = has_branch f name ≡ true
HasTarget f (cmd.Dispatch d) = has_branch f d.source ≡ true
HasTarget f (cmd.Receive r) = has_branch f r.branch ≡ true
HasTarget f (cmd.Lock name day) = ⊤
HasTarget f (cmd.Close x) = has_branch f x.branch ≡ true

there_if : (t : Bool) (e : Refusal) (x : Result Answer Refusal) (a : Answer) → (if not t then Err e else x) ≡ Ok a
    → t ≡ true
there_if true e x a h = refl
there_if false e x a h = absurd cc

has_target : (f : Federation) (c : Command) (a : Answer) → reply f c ≡ Ok a → HasTarget f c
unfolding reply
has_target f (cmd.Branch name) a h = tt
has_target f (cmd.Commodity style) a h = tt
has_target f (cmd.Enter name file) a h = there_if (has_branch f name) _ _ a h
has_target f (cmd.Dispatch d) a h = there_if (has_branch f d.source) _ _ a h
has_target f (cmd.Receive r) a h = there_if (has_branch f r.branch) _ _ a h
has_target f (cmd.Lock name day) a h = tt
has_target f (cmd.Close x) a h = there_if (has_branch f x.branch) _ _ a h

-- what a receipt adds
received_records : (f : Federation) (r : Receive) (o : Option Transfer) (name : List ℕ) → has_branch f r.branch ≡ true
    → records_of (with_receipt_of f r o) name ≡ records_of f name ++ records_among name (receipt_additions r o)
received_records f r None name e = sym (append-nil (records_of f name))
received_records f r (Some t) name e =
    records-entered (receipt_record t (receipt_of t r) ∷ []) f.branches r.branch name e
    ∙ ap (λ (xs : List Record). records_of f name ++ xs) (sym (append-nil _))

-- what a closing adds
pub among-closed : (other : List ℕ) (day : Day) (rs : List Record) (name : List ℕ)
    → records_among name (map (λ (x : Record). add.Record other x) rs ++ add.Locked other day ∷ [])
    ≡ own_or (bytes_eq other name) rs
among-closed other day rs name =
    among-append name (map (λ (x : Record). add.Record other x) rs) (add.Locked other day ∷ []) ∙ append-nil _ ∙
    among-records other name rs

done_records : (f : Federation) (c : Command) (name : List ℕ) → HasTarget f c
    → records_of (done f c) name ≡ records_of f name ++ records_among name (added f c)
unfolding done added
done_records f (cmd.Branch other) name e = records-branch f.branches other name ∙ sym (append-nil (records_of f name))
done_records f (cmd.Commodity style) name e = sym (append-nil (records_of f name))
done_records f (cmd.Enter other file) name e =
    records-entered (new_records f other file) f.branches other name e ∙ ap
    (λ (xs : List Record). records_of f name ++ xs) (sym (among-records other name (new_records f other file)))
done_records f (cmd.Dispatch d) name e =
    records-entered (dispatch_record (transfer_of d) ∷ []) f.branches d.source name e
    ∙ ap (λ (xs : List Record). records_of f name ++ xs) (sym (append-nil _))
done_records f (cmd.Receive r) name e = received_records f r (transfer_at f r.id) name e
done_records f (cmd.Lock other day) name e =
    records-locked f.branches day other name ∙ sym (append-nil (records_of f name))
done_records f (cmd.Close x) name e =
    let rs = closing_records x.day (closing_in f x.branch x.day x.choice) in
    records-locked (changed (with_records rs) x.branch f.branches) x.day x.branch name
    ∙ (records-entered rs f.branches x.branch name e ∙ ap (λ (xs : List Record). records_of f name ++ xs)
    (sym (among-closed x.branch x.day rs name)))

abbrev no_memory : Result Answer Refusal
no_memory = Err (Plain OutOfMemory)

target_of : (f : Federation) (c : Command) (a : Answer) → Replies f c (Ok a) → HasTarget f c
target_of f c a (inl e) = has_target f c a (sym e)
target_of f c a (inr e) = absurd (let k : Ok a ≡ no_memory = e in cc)

pub after_records : (f : Federation) (c : Command) (r : Result Answer Refusal) (name : List ℕ) → Replies f c r
    → records_of (after f c r) name ≡ records_of f name ++ records_among name (delta f c r)
after_records f c (Ok Done) name h = done_records f c name (target_of f c Done h)
after_records f c (Ok (Entered new repeated)) name h = done_records f c name (target_of f c (Entered new repeated) h)
after_records f c (Ok Repeated) name h = sym (append-nil (records_of f name))
after_records f c (Err refusal) name h = sym (append-nil (records_of f name))

pub run_records : (f : Federation) (turns : List Turn) (name : List ℕ) → IsRun f turns
    → records_of (state_after f turns) name ≡ records_of f name ++ records_among name (history f turns)
run_records f [] name h = sym (append-nil (records_of f name))
run_records f (t ∷ ts) name h =
    let g = after f t.command t.reply in
    run_records g ts name h.2
    ∙ ap (λ (rs : List Record). rs ++ records_among name (history g ts)) (after_records f t.command t.reply name h.1)
    ∙ append_assoc (records_of f name) (records_among name (delta f t.command t.reply))
    (records_among name (history g ts))
    ∙ ap (λ (rs : List Record). records_of f name ++ rs)
    (sym (among-append name (delta f t.command t.reply) (history g ts)))

pub run_moved : (f : Federation) (turns : List Turn) (name : List ℕ) (reach : Reach) (account : List ℕ)
    (unit : Commodity) (day : Day) → IsRun f turns
    → balance reach (book_of (state_after f turns) name) account unit (Through day)
    ≡ balance reach (book_of f name) account unit (Through day)
    +ℤ balance reach (entries (records_among name (history f turns))) account unit (Through day)
run_moved f turns name reach account unit day h =
    ap (λ (b : List Entry). balance reach b account unit (Through day))
    (ap entries (run_records f turns name h) ∙ entries-append (records_of f name)
    (records_among name (history f turns)))
    ∙ balance-append reach (book_of f name) (entries (records_among name (history f turns))) account unit day
