-- What a message says: what it is about, and what it names, in order (own rule; docs/RULES.md, "Explanations").
use Rattle.std.specs.Prelude.{ℕ, List, ◌++◌, codes}
use Rattle.treasury_messages.specs.declared.kind.MessageKind.{MessageKind}
use Rattle.treasury_messages.specs.declared.kind.MessageKind.TheVariants as is

-- a message: what it is about, and the texts that it names
pub record Said : Type 0 where
  pub kind : MessageKind
  pub values : List (List ℕ)

-- a message of that kind, which names these
abbrev pub says : MessageKind → List (List ℕ) → Said
says kind values = record { kind = kind; values = values }

-- a message that names more
abbrev pub naming : Said → List (List ℕ) → Said
naming m vs = says m.kind (m.values ++ vs)

-- what stands at the beginning of a line of the kind
abbrev pub beginning : MessageKind → List ℕ
beginning is.Sentence = codes "treasury: "
beginning is.OtherBranch = codes "note: "
beginning is.FarAfter = codes "note: "
beginning is.FarBefore = codes "note: "
beginning is.OddAmount = codes "note: "
beginning is.EditedLegs = codes "note: "
beginning is.EditedAccounts = codes "note: "
beginning is.EditedAmounts = codes "note: "
beginning is.NewAccounts = codes "note: "
beginning is.NewAccountOption = codes "note: "
beginning is.NoAccount = codes "note: "
beginning is.DatedPosting = codes "note: "
beginning is.LateReceipt = codes "note: "
beginning is.LockedEarly = codes "note: "
beginning is.ClosedEarly = codes "note: "
beginning is.LaterEntries = codes "note: "
beginning is.OpenYear = codes "note: "
beginning is.NoAssertion = codes "note: "
beginning is.ThreeDecimals = codes "note: "
beginning is.NoMark = codes "note: "
beginning is.NothingImported = codes "note: "
beginning is.NoSuchAccount = codes "note: "
beginning is.NoSuchTag = codes "note: "
beginning is.LikeTransfer = codes "note: "
beginning is.MoreNotes = codes "note: "
beginning is.NewEntry = codes "new: "
beginning is.MoreNewEntries = codes "new: "
beginning _ = codes "  "
