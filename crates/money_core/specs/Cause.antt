-- The refusals with their numbers and names (own rule; docs/RULES.md, "Refusals").
use Rattle.std.specs.Prelude.{ℕ, List, codes}
use Rattle.money_core.specs.declared.cause.Cause.{Cause}
use Rattle.money_core.specs.declared.cause.Cause.TheVariants.{Utf8, TooLong, Date, Header, Directive, StrayLine}
use Rattle.money_core.specs.declared.cause.Cause.TheVariants.{Account, Amount, UnknownCommodity, Decimals}
use Rattle.money_core.specs.declared.cause.Cause.TheVariants.{CommodityStyle, Cost, CostNotExact, Assignment, Virtual}
use Rattle.money_core.specs.declared.cause.Cause.TheVariants.{Marks, TwoBlanks, Unbalanced, UnknownBranch, BranchName}
use Rattle.money_core.specs.declared.cause.Cause.TheVariants.{CommodityExists, Full, MarkClash, ReservedMark}
use Rattle.money_core.specs.declared.cause.Cause.TheVariants.{ReservedAccount, Locked, Limit, ClaimFailed, SameBranch}
use Rattle.money_core.specs.declared.cause.Cause.TheVariants.{UnknownTransfer, WrongBranch, AlreadyReceived, TooEarly}
use Rattle.money_core.specs.declared.cause.Cause.TheVariants.{LockBack, NothingToClose, BadAccount, BadAmount, BadId}
use Rattle.money_core.specs.declared.cause.Cause.TheVariants.{OutOfMemory, Store, Closed, Damaged, Request, ReadFault}
use Rattle.money_core.specs.declared.cause.Cause.TheVariants.{WriteFault, TooMuch, Changed}

-- the number of a refusal
abbrev pub cause_number : Cause → ℕ
cause_number Utf8 = 1
cause_number TooLong = 2
cause_number Date = 3
cause_number Header = 4
cause_number Directive = 5
cause_number StrayLine = 6
cause_number Account = 7
cause_number Amount = 8
cause_number UnknownCommodity = 9
cause_number Decimals = 10
cause_number CommodityStyle = 11
cause_number Cost = 12
cause_number CostNotExact = 13
cause_number Assignment = 14
cause_number Virtual = 15
cause_number Marks = 16
cause_number TwoBlanks = 17
cause_number Unbalanced = 18
cause_number UnknownBranch = 20
cause_number BranchName = 21
cause_number CommodityExists = 22
cause_number Full = 23
cause_number MarkClash = 24
cause_number ReservedMark = 25
cause_number ReservedAccount = 26
cause_number Locked = 27
cause_number Limit = 28
cause_number ClaimFailed = 29
cause_number SameBranch = 30
cause_number UnknownTransfer = 31
cause_number WrongBranch = 32
cause_number AlreadyReceived = 33
cause_number TooEarly = 34
cause_number LockBack = 35
cause_number NothingToClose = 36
cause_number BadAccount = 37
cause_number BadAmount = 38
cause_number BadId = 39
cause_number OutOfMemory = 40
cause_number Store = 41
cause_number Closed = 42
cause_number Damaged = 43
cause_number Request = 44
cause_number ReadFault = 45
cause_number WriteFault = 46
cause_number TooMuch = 47
cause_number Changed = 48

-- the name of a refusal
abbrev pub cause_name : Cause → List ℕ
cause_name Utf8 = codes "Utf8"
cause_name TooLong = codes "TooLong"
cause_name Date = codes "Date"
cause_name Header = codes "Header"
cause_name Directive = codes "Directive"
cause_name StrayLine = codes "StrayLine"
cause_name Account = codes "Account"
cause_name Amount = codes "Amount"
cause_name UnknownCommodity = codes "UnknownCommodity"
cause_name Decimals = codes "Decimals"
cause_name CommodityStyle = codes "CommodityStyle"
cause_name Cost = codes "Cost"
cause_name CostNotExact = codes "CostNotExact"
cause_name Assignment = codes "Assignment"
cause_name Virtual = codes "Virtual"
cause_name Marks = codes "Marks"
cause_name TwoBlanks = codes "TwoBlanks"
cause_name Unbalanced = codes "Unbalanced"
cause_name UnknownBranch = codes "UnknownBranch"
cause_name BranchName = codes "BranchName"
cause_name CommodityExists = codes "CommodityExists"
cause_name Full = codes "Full"
cause_name MarkClash = codes "MarkClash"
cause_name ReservedMark = codes "ReservedMark"
cause_name ReservedAccount = codes "ReservedAccount"
cause_name Locked = codes "Locked"
cause_name Limit = codes "Limit"
cause_name ClaimFailed = codes "ClaimFailed"
cause_name SameBranch = codes "SameBranch"
cause_name UnknownTransfer = codes "UnknownTransfer"
cause_name WrongBranch = codes "WrongBranch"
cause_name AlreadyReceived = codes "AlreadyReceived"
cause_name TooEarly = codes "TooEarly"
cause_name LockBack = codes "LockBack"
cause_name NothingToClose = codes "NothingToClose"
cause_name BadAccount = codes "BadAccount"
cause_name BadAmount = codes "BadAmount"
cause_name BadId = codes "BadId"
cause_name OutOfMemory = codes "OutOfMemory"
cause_name Store = codes "Store"
cause_name Closed = codes "Closed"
cause_name Damaged = codes "Damaged"
cause_name Request = codes "Request"
cause_name ReadFault = codes "ReadFault"
cause_name WriteFault = codes "WriteFault"
cause_name TooMuch = codes "TooMuch"
cause_name Changed = codes "Changed"
