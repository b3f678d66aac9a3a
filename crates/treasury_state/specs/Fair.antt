-- A transfer by itself: what holds of each transfer of a good state (own rule; docs/RULES.md, "Transfers").
use Rattle.std.specs.Prelude.{◌≡◌, ℕ, nat_eq, true, false, List, [], ◌∷◌, pos, int_le, ⊤}
use Rattle.std.specs.Str.{bytes_eq}
use Rattle.treasury_state.specs.declared.transfer.Transfer.{Transfer}
use Rattle.treasury_state.specs.Transfer.{is_id, is_reserved}
use Rattle.treasury_state.specs.Good.{HasGoodParts, IsGoodRest}

-- a text without a colon
abbrev pub HasNoColon : List ℕ → Type 0
HasNoColon [] = ⊤
HasNoColon (c ∷ cs) = (nat_eq c 58 ≡ false) × HasNoColon cs

-- a transfer whose records have marks of their own: its ID is well formed, and its parts are good
pub record IsMarked (t : Transfer) : Type 0 where
  pub id : is_id t.id ≡ true
  pub parts : HasGoodParts t

-- a transfer of a positive amount between two names without a colon that differ; neither its payer nor a payee is
-- `assets:transit` or below it, and its receipts are good
pub record IsFair (t : Transfer) : Type 0 where
  pub marked : IsMarked t
  pub positive : int_le (pos 1) t.qty ≡ true
  pub apart : bytes_eq t.source t.target ≡ false
  pub payer : is_reserved t.payer ≡ false
  pub source : HasNoColon t.source
  pub target : HasNoColon t.target
  pub rest : IsGoodRest t t.receipt
