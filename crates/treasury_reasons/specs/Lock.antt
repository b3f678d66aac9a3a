-- What is said of a lock that stands against a request (own rule; docs/RULES.md, "Explanations").
use Rattle.std.specs.Prelude.{List, ℕ, [], ◌∷◌, Option, Some, None}
use Rattle.money_core.specs.declared.day.Day.{Day}
use Rattle.treasury_state.specs.Federation.{Federation, lock_of}
use Rattle.treasury_requests.specs.declared.request.Request.{Request}
use Rattle.treasury_requests.specs.declared.request.Request.TheVariants as req
use Rattle.treasury_requests.specs.Request.{branch_asked}
use Rattle.treasury_messages.specs.declared.kind.MessageKind.TheVariants as is
use Rattle.treasury_messages.specs.Said.{Said, says}
use Rattle.treasury_messages.specs.Pieces.{shown_day}

-- what is said after it of a closing
abbrev pub close_hint : Request → List Said
close_hint (req.Close branch day accounts into) = says is.Hint [] ∷ []
close_hint _ = []

-- a branch, and through which day it is locked
abbrev pub locked_said : List Said → List ℕ → Option Day → List Said
locked_said hint name None = []
locked_said hint name (Some day) = says is.LockedThrough (name ∷ shown_day day ∷ []) ∷ hint

abbrev pub branch_lock : Federation → List Said → Option (List ℕ) → List Said
branch_lock f hint None = []
branch_lock f hint (Some name) = locked_said hint name (lock_of f name)

-- what is said of the lock of a request's branch
unfoldable pub lock_said : Federation → Request → List Said
lock_said f request = branch_lock f (close_hint request) (branch_asked request)
