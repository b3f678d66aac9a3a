-- the next state is the state with what the command adds
use Rattle.std.proofs.Common.{◌≡◌, ℕ, Bool, true, false, List, [], ◌∷◌, ◌++◌, map, refl, ap, ◌∙◌, sym, append_assoc}
use Rattle.std.proofs.Common.{append-nil, Option, Some, None, Ok, Err}
use Rattle.std.specs.Prelude.{if◌then◌else◌, Result}
use Rattle.std.specs.Str.{bytes_eq}
use Rattle.money_core.specs.declared.day.Day.{Day}
use Rattle.book_core.specs.declared.refusal.Refusal.{Refusal}
use Rattle.journal_format.specs.declared.txn.Txn.{Txn}
use Rattle.treasury_state.specs.declared.record.Record.{Record}
use Rattle.treasury_state.specs.declared.delta.Addition.{Addition}
use Rattle.treasury_state.specs.declared.delta.Addition.TheVariants as add
use Rattle.treasury_state.specs.declared.transfer.Transfer.{Transfer}
use Rattle.treasury_state.specs.Federation.{Branch, Federation}
use Rattle.treasury_state.specs.Joined.{with_records, changed, with_entered, with_locked, joined, joined_one}
use Rattle.treasury_state.specs.Transfer.{transfer_at}
use Rattle.treasury_core.specs.declared.command.Answer.{Answer}
use Rattle.treasury_core.specs.declared.command.Answer.TheVariants.{Done, Entered, Repeated}
use Rattle.treasury_core.specs.declared.command.Receive.{Receive}
use Rattle.treasury_core.specs.declared.command.Command.{Command}
use Rattle.treasury_core.specs.declared.command.Command.TheVariants as cmd
use Rattle.treasury_core.specs.Closing.{closing_in}
use Rattle.treasury_core.specs.Step.{done, added, after, delta, new_records, receipt_additions, with_receipt_of}
use Rattle.treasury_core.specs.Step.{closing_records}

-- one list of records is another
same_records : (b : Branch) (xs ys : List Record) → xs ≡ ys
    → (let c : Branch = record b { records = xs } in c) ≡ record b { records = ys }
same_records b xs ys e = ap (λ (zs : List Record). let c : Branch = record b { records = zs } in c) e

-- no more records
none_at : (t : Bool) (b : Branch) (xs ys : List Branch) → xs ≡ ys
    → (if t then with_records [] b ∷ ys else b ∷ xs) ≡ b ∷ ys
none_at true b xs ys e = ap (λ (c : Branch). c ∷ ys) (same_records b (b.records ++ []) b.records (append-nil b.records))
none_at false b xs ys e = ap (λ (zs : List Branch). b ∷ zs) e

changed-none : (name : List ℕ) (bs : List Branch) → changed (with_records []) name bs ≡ bs
changed-none name [] = refl
changed-none name (b ∷ bs) = none_at (bytes_eq b.name name) b _ bs (changed-none name bs)

pub with_none : (f : Federation) (name : List ℕ) → with_entered f name [] ≡ f
with_none f name =
    ap (λ (bs : List Branch). let g : Federation = record f { branches = bs } in g) (changed-none name f.branches)

-- a record, and then more
more_at : (name : List ℕ) (r : Record) (rs : List Record) (b : Branch) (bs : List Branch) (t : Bool)
    → bytes_eq b.name name ≡ t
    → changed (with_records rs) name (changed (with_records (r ∷ [])) name bs) ≡ changed (with_records (r ∷ rs)) name bs
    → changed (with_records rs) name
    (if t then with_records (r ∷ []) b ∷ bs else b ∷ changed (with_records (r ∷ [])) name bs)
    ≡ (if t then with_records (r ∷ rs) b ∷ bs else b ∷ changed (with_records (r ∷ rs)) name bs)
more_at name r rs b bs true e h =
    rw e (ap (λ (c : Branch). c ∷ bs)
    (same_records b ((b.records ++ r ∷ []) ++ rs) (b.records ++ r ∷ rs) (append_assoc b.records (r ∷ []) rs)))
more_at name r rs b bs false e h = rw e (ap (λ (zs : List Branch). b ∷ zs) h)

pub changed-more : (name : List ℕ) (r : Record) (rs : List Record) (bs : List Branch)
    → changed (with_records rs) name (changed (with_records (r ∷ [])) name bs) ≡ changed (with_records (r ∷ rs)) name bs
changed-more name r rs [] = refl
changed-more name r rs (b ∷ bs) = more_at name r rs b bs (bytes_eq b.name name) refl (changed-more name r rs bs)

pub joined_records : (name : List ℕ) (rs : List Record) (f : Federation)
    → joined f (map (λ (r : Record). add.Record name r) rs) ≡ with_entered f name rs
joined_records name [] f = sym (with_none f name)
joined_records name (r ∷ rs) f =
    joined_records name rs (with_entered f name (r ∷ []))
    ∙ ap (λ (bs : List Branch). let g : Federation = record f { branches = bs } in g)
    (changed-more name r rs f.branches)

received_joined : (f : Federation) (r : Receive) (o : Option Transfer)
    → with_receipt_of f r o ≡ joined f (receipt_additions r o)
received_joined f r None = refl
received_joined f r (Some t) = refl

closed_joined : (f : Federation) (name : List ℕ) (day : Day) (o : Option Txn)
    → with_locked (with_entered f name (closing_records day o)) name day
    ≡ joined f (map (λ (x : Record). add.Record name x) (closing_records day o) ++ add.Locked name day ∷ [])
closed_joined f name day None = ap (λ (g : Federation). with_locked g name day) (with_none f name)
closed_joined f name day (Some t) = refl

done_joined : (f : Federation) (c : Command) → done f c ≡ joined f (added f c)
unfolding done added
done_joined f (cmd.Branch name) = refl
done_joined f (cmd.Commodity style) = refl
done_joined f (cmd.Enter name file) = sym (joined_records name (new_records f name file) f)
done_joined f (cmd.Dispatch d) = refl
done_joined f (cmd.Receive r) = received_joined f r (transfer_at f r.id)
done_joined f (cmd.Lock name day) = refl
done_joined f (cmd.Close x) = closed_joined f x.branch x.day (closing_in f x.branch x.day x.choice)

pub after_joined : (f : Federation) (c : Command) (r : Result Answer Refusal) → after f c r ≡ joined f (delta f c r)
after_joined f c (Ok Done) = done_joined f c
after_joined f c (Ok (Entered new repeated)) = done_joined f c
after_joined f c (Ok Repeated) = refl
after_joined f c (Err refusal) = refl

pub joined-append : (f : Federation) (xs ys : List Addition) → joined f (xs ++ ys) ≡ joined (joined f xs) ys
joined-append f [] ys = refl
joined-append f (x ∷ xs) ys = joined-append (joined_one f x) xs ys
