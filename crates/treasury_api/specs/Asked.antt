-- What a line asks, once its texts are read (own rule; docs/FORMATS.md, "Requests"): a journal by the grammar's
-- relation, or by its first fault.
use Rattle.std.specs.Prelude.{◌≡◌, ℕ, ℤ, ◌==◌, Bool, true, false, List, ◌⊎◌, Option, Some, None, option_map, Result, Ok}
use Rattle.std.specs.Prelude.{Err, ◌&&◌, not, nat_lt, length, option_and_then, if◌then◌else◌}
use Rattle.std.specs.List.{slice_split}
use Rattle.money_core.specs.declared.style.Style.{Style}
use Rattle.money_core.specs.declared.unit.Unit.{Unit}
use Rattle.money_core.specs.declared.day.Day.{Day}
use Rattle.money_core.specs.declared.cause.Cause.{Cause}
use Rattle.money_core.specs.declared.cause.Fault.{Fault}
use Rattle.money_core.specs.declared.cause.Cause.TheVariants.{Amount, Closed, Changed, Request as NoRequest}
use Rattle.money_core.specs.Sampling.{style_of}
use Rattle.money_core.specs.Reading.{amount}
use Rattle.book_core.specs.declared.refusal.Refusal.{Refusal}
use Rattle.book_core.specs.declared.refusal.Refusal.TheVariants.{Plain, Text}
use Rattle.journal_format.specs.declared.txn.Located.{Located}
use Rattle.journal_format.specs.Pieces.{Reads}
use Rattle.journal_format.specs.Fault.{IsFirstFault}
use Rattle.treasury_state.specs.Federation.{Federation, branch_at}
use Rattle.treasury_core.specs.declared.command.Answer.{Answer}
use Rattle.treasury_core.specs.declared.command.Answer.TheVariants.{Done, Entered, Repeated}
use Rattle.treasury_core.specs.declared.command.Command.{Command as AnyCommand}
use Rattle.treasury_core.specs.declared.command.Command.TheVariants as cmd
use Rattle.treasury_core.specs.Step.{reply}
use Rattle.treasury_requests.specs.declared.request.WrittenPart.{WrittenPart}
use Rattle.treasury_requests.specs.declared.request.Spelled.{Spelled}
use Rattle.treasury_requests.specs.declared.request.Request.{Request}
use Rattle.treasury_requests.specs.declared.request.Request.TheVariants.{Branch, Commodity, Import, Dispatch}
use Rattle.treasury_requests.specs.declared.request.Request.TheVariants.{Receive, Lock, Close}
use Rattle.treasury_api.specs.declared.asking.Asked.{Asked}
use Rattle.treasury_api.specs.declared.asking.Asked.TheVariants.{Command, DryRun, Report}
use Rattle.treasury_requests.specs.Request.{spelled, branch_asked}

-- a sample asks for a commodity in its style; a text that is none asks for nothing
abbrev pub asked_by_sample : Option Style → Result Asked Refusal
asked_by_sample None = Err (Plain Amount)
asked_by_sample (Some style) = Ok (Command (cmd.Commodity style))

-- a journal asks to enter the list that the grammar relates to its text; or for nothing, by the text's first fault
abbrev pub JournalAsks : List Style → List ℕ → List ℕ → Result Asked Refusal → Type 0
JournalAsks styles name journal asked =
    ((list : List Located) × (Reads styles journal list × (asked ≡ Ok (Command (cmd.Enter name list)))))
    ⊎ ((fault : Fault) × (IsFirstFault styles journal fault × (asked ≡ Err (Text fault))))

-- a dispatch of the amount that its text is; a text that is none asks for nothing, by its first fault
abbrev pub asked_by_amount : List ℕ → List ℕ → List ℕ → Day → List ℕ → Result (Unit × ℤ) Cause → Result Asked Refusal
asked_by_amount id from to day account (Ok (unit, qty)) =
    Ok (Command (cmd.Dispatch (record
    { id = id; source = from; target = to; day = day; unit = unit; qty = qty; account = account })))
asked_by_amount id from to day account (Err cause) = Err (Plain cause)

-- a receipt of a part of the amount that its text is; a text that is none asks for nothing, by its first fault
abbrev pub asked_by_part : List ℕ → List ℕ → Day → List ℕ → List ℕ → Result (Unit × ℤ) Cause → Result Asked Refusal
asked_by_part id name day account key (Ok (unit, qty)) =
    Ok (Command (cmd.Receive (record {
      id = id;
      branch = name;
      day = day;
      account = account;
      part = Some (record { key = key; unit = unit; qty = qty });
    })))
asked_by_part id name day account key (Err cause) = Err (Plain cause)

-- a receipt of all that is left, or of a part
abbrev pub asked_by_receipt : List Style → List ℕ → List ℕ → Day → List ℕ → Option WrittenPart → Result Asked Refusal
asked_by_receipt styles id name day account None =
    Ok (Command (cmd.Receive (record { id = id; branch = name; day = day; account = account; part = None })))
asked_by_receipt styles id name day account (Some part) =
    asked_by_part id name day account part.key (amount styles part.amount)

-- a list, cut at each `;`: the empty text is one empty name
unfoldable pub cut_list : List ℕ → List (List ℕ)
cut_list text = slice_split (λ b. b == 59) text

-- what a request asks, under the declared commodities: a command, a report, or nothing, since a text has a fault
abbrev pub RequestAsks : List Style → Request → Result Asked Refusal → Type 0
RequestAsks styles (Branch name) asked = asked ≡ Ok (Command (cmd.Branch name))
RequestAsks styles (Commodity sample) asked = asked ≡ asked_by_sample (style_of sample)
RequestAsks styles (Import name journal) asked = JournalAsks styles name journal asked
RequestAsks styles (Dispatch id from to day text account) asked =
    asked ≡ asked_by_amount id from to day account (amount styles text)
RequestAsks styles (Receive id name day account part) asked = asked ≡ asked_by_receipt styles id name day account part
RequestAsks styles (Lock name day) asked = asked ≡ Ok (Command (cmd.Lock name day))
RequestAsks styles (Close name day accounts into) asked =
    asked ≡ Ok (Command (cmd.Close (record
    { branch = name; day = day; choice = record { accounts = option_map cut_list accounts; into = into } })))
RequestAsks styles report asked = asked ≡ Ok (Report report)

-- a dry run of a command asks what it would be answered; a report, and a text that has a fault, are the same either way
abbrev pub as_dry_run : Result Asked Refusal → Result Asked Refusal
as_dry_run (Ok (Command c)) = Ok (DryRun c)
as_dry_run (Ok (DryRun c)) = Ok (DryRun c)
as_dry_run (Ok (Report report)) = Ok (Report report)
as_dry_run (Err refusal) = Err refusal

-- what is asked, or the dry run of it
abbrev pub or_dry_run : Bool → Result Asked Refusal → Result Asked Refusal
or_dry_run false asked = asked
or_dry_run true asked = as_dry_run asked

-- how many entries the branch has on whose book the request is a command, if it is there
abbrev pub entries_asked : Federation → Request → Option ℕ
entries_asked f request =
    option_map (λ b. length b.records) (option_and_then (branch_at f.branches) (branch_asked request))

-- another count of entries is expected than there is
abbrev pub is_another : Option ℕ → Option ℕ → Bool
is_another (Some expected) (Some count) = not (count == expected)
is_another _ _ = false

-- a reply by which something is added, received, locked or closed
abbrev pub is_change : Result Answer Refusal → Bool
is_change (Ok Done) = true
is_change (Ok (Entered new repeated)) = nat_lt 0 new
is_change (Ok Repeated) = false
is_change (Err refusal) = false

-- the branch has changed since the command was shown: it has another count of entries than is expected, and the command
-- would change something
abbrev pub has_changed : Federation → Spelled → AnyCommand → Bool
has_changed f spelled c =
    is_another spelled.terms.if_entries (entries_asked f spelled.request) && is_change (reply f c)

-- what is asked, where the branch has not changed since it was shown
abbrev pub unless_changed : Federation → Spelled → Result Asked Refusal → Result Asked Refusal
unless_changed f spelled (Ok (Command c)) = if has_changed f spelled c then Err (Plain Changed) else Ok (Command c)
unless_changed f spelled asked = asked

-- what a request asks on its terms: a dry run of a command whose branch has changed is refused as the command is
abbrev pub SpelledAsks : Federation → Spelled → Result Asked Refusal → Type 0
SpelledAsks f spelled asked =
    (said : Result Asked Refusal) × (RequestAsks f.styles spelled.request said
    × (asked ≡ or_dry_run spelled.terms.is_dry_run (unless_changed f spelled said)))

-- what a request asks of a treasury: what its texts say, or nothing, by 42, where a call of its database has failed
abbrev pub AsksOf : Bool → Federation → Spelled → Result Asked Refusal → Type 0
AsksOf false f request asked = SpelledAsks f request asked
AsksOf true f request asked = asked ≡ Err (Plain Closed)

-- what a line asks: what its request does, or nothing where it spells none
abbrev pub Asks : Bool → Federation → List ℕ → Result Asked Refusal → Type 0
Asks failed f line asked =
    ((request : Spelled) × ((spelled line ≡ Some request) × AsksOf failed f request asked))
    ⊎ ((spelled line ≡ None) × (asked ≡ Err (Plain NoRequest)))
