-- The sentence of each refusal (own rule; docs/RULES.md, "Refusals", where they stand word for word).
use Rattle.std.specs.Prelude.{ℕ, List, [], ◌∷◌, codes, decimal}
use Rattle.money_core.specs.declared.cause.Cause.{Cause}
use Rattle.money_core.specs.declared.cause.Cause.TheVariants as is
use Rattle.treasury_messages.specs.declared.kind.MessageKind.TheVariants as kind
use Rattle.treasury_messages.specs.Said.{Said, says}

-- when the refusal comes
unfoldable pub sentence_of : Cause → List ℕ
sentence_of is.Utf8 = codes "a line is not UTF-8, or holds an ASCII control character (0 to 31, 127) other than tab"
sentence_of is.TooLong = codes "the text, a line or a part of an entry exceeds its limit"
sentence_of is.Date = codes "the text up to the first blank or `;` is not a date"
sentence_of is.Header = codes "the code of a header lacks its closing parenthesis"
sentence_of is.Directive =
    codes "a line that begins in the first column is of no known kind, or is `commodity` with nothing after it"
sentence_of is.StrayLine = codes "an indented line that is not a comment follows neither a header nor a directive"
sentence_of is.Account = codes "the account name is missing or not well formed"
sentence_of is.Amount = codes "an amount or a symbol is missing or not well formed, or the quantity exceeds its limit"
sentence_of is.UnknownCommodity = codes "the symbol is not declared"
sentence_of is.Decimals = codes "an amount has more decimals than its commodity, and they are not zeros"
sentence_of is.CommodityStyle =
    codes "a `commodity` directive differs from the declared commodity in its decimal mark or number of decimals, or its `format` line has another symbol"
sentence_of is.Cost = codes "a cost is negative, exceeds its limits, or is in the amount's own commodity"
sentence_of is.CostNotExact = codes "the product of a unit cost has more decimals than the cost's commodity"
sentence_of is.Assignment = codes "an assertion has no amount before it"
sentence_of is.Virtual = codes "the account begins with `(` or `[`"
sentence_of is.Marks = codes "a transaction has a second mark"
sentence_of is.TwoBlanks = codes "a transaction has a second posting without an amount"
sentence_of is.Unbalanced = codes "the values of a transaction do not sum to zero"
sentence_of is.UnknownBranch = codes "there is no branch of that name"
sentence_of is.BranchName = codes "the name is not well formed"
sentence_of is.CommodityExists = codes "the symbol is already declared with another style"
sentence_of is.Full = codes "a count has reached its limit"
sentence_of is.MarkClash = codes "the mark or the ID is already held with other content"
sentence_of is.ReservedMark = codes "the mark is one of the treasury's own, and the branch does not hold it"
sentence_of is.ReservedAccount =
    codes "an account is `assets:transit` or below it; in a list of accounts to close, `assets` too"
sentence_of is.Locked = codes "the day is on or before the lock day"
sentence_of is.Limit =
    codes "a leg or the turnover exceeds its limit, a closing entry has more than 1,000 postings, or a list of accounts to close exceeds 880 bytes"
sentence_of is.ClaimFailed = codes "a balance assertion fails"
sentence_of is.SameBranch = codes "the transfer goes to its own branch"
sentence_of is.UnknownTransfer = codes "there is no transfer with that ID"
sentence_of is.WrongBranch = codes "the transfer goes to another branch"
sentence_of is.AlreadyReceived =
    codes "the transfer or its part was received before with another day, account or amount; or nothing is left and no part is given"
sentence_of is.TooEarly = codes "the receipt is dated before the dispatch"
sentence_of is.LockBack = codes "the branch is locked through a later day"
sentence_of is.NothingToClose = codes "no selected account has a balance"
sentence_of is.BadAccount = codes "an account of the request is not well formed, or the target of a closing is selected"
sentence_of is.BadAmount = codes "the amount of a dispatch or of a part is not positive"
sentence_of is.BadId = codes "the ID or the key of a part is not well formed"
sentence_of is.OutOfMemory = codes "out of memory"
sentence_of is.Store = codes "a call to the database failed, though not for lack of memory"
sentence_of is.Closed = codes "an earlier request was answered 41"
sentence_of is.Damaged = codes "the tables are missing, or their rows are not those of a treasury"
sentence_of is.Request = codes "the request has none of the known forms"
sentence_of is.ReadFault = codes "a read failed, ended too early, or exceeded its limit"
sentence_of is.WriteFault = codes "a write failed"
sentence_of is.TooMuch = codes "the amount of a part is more than what is left, or in another commodity"
sentence_of is.Changed = codes "the branch has another number of entries than `if-entries` says"

-- the message that says it
abbrev pub sentence_said : Cause → Said
sentence_said cause = says kind.Sentence (sentence_of cause ∷ [])

-- the same, after the file and the line that it comes from
abbrev pub sentence_said_at : List ℕ → ℕ → Cause → Said
sentence_said_at source line cause = says kind.Sentence (source ∷ decimal line ∷ sentence_of cause ∷ [])
