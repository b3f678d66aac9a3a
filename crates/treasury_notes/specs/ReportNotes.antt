-- The notes of reports (own rule; docs/RULES.md, "Notes").
use Rattle.std.specs.Prelude.{ℕ, Bool, if◌then◌else◌, List, [], ◌∷◌, ◌++◌, Option, Some, None}
use Rattle.std.specs.List.{list_any}
use Rattle.treasury_state.specs.declared.record.Record.{Record}
use Rattle.treasury_state.specs.Federation.{Federation, Branch, branch_at}
use Rattle.treasury_reports.specs.RegisterReport.{txn_has}
use Rattle.treasury_requests.specs.declared.request.Request.{Request}
use Rattle.treasury_requests.specs.declared.request.Request.TheVariants as req
use Rattle.treasury_messages.specs.declared.kind.MessageKind.TheVariants as is
use Rattle.treasury_messages.specs.Said.{Said, says}
use Rattle.treasury_notes.specs.NamedAccount.{has_leg_inside}

-- no entry of the branch has a leg on the account or a subaccount
abbrev pub no_account_said : Branch → List ℕ → List Said
no_account_said b account =
    if list_any (has_leg_inside account) b.records then [] else says is.NoSuchAccount (b.name ∷ account ∷ []) ∷ []

-- the transaction has the tag, in a comment of its own or of a posting
abbrev pub has_tag : List ℕ → Record → Bool
has_tag tag r = txn_has tag r.txn

-- none has it, if one is asked for
abbrev pub no_tag_said : Branch → Option (List ℕ) → List Said
no_tag_said b None = []
no_tag_said b (Some tag) =
    if list_any (has_tag tag) b.records then []
    else says is.NoSuchTag (b.name ∷ tag ∷ []) ∷ []

-- of a register of the branch, if that is there
abbrev pub register_said : Option Branch → List ℕ → Option (List ℕ) → List Said
register_said None account tag = []
register_said (Some b) account tag = no_account_said b account ++ no_tag_said b tag

-- of a request
abbrev pub report_said : Federation → Request → List Said
report_said f (req.Register branch account tag from) = register_said (branch_at f.branches branch) account tag
report_said f _ = []
