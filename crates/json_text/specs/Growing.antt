-- Mirrors code: what a call that appends to a vector leaves, for private clauses.
use Rattle.std.specs.Prelude.{◌≡◌, ◌≤◌, ◌+◌, ◌++◌, ℕ, List, length, take, OnOk, OnErr, IsOk, Vec, vec_capacity}
use Rattle.std.specs.Prelude.{Result}
use Rattle.std.specs.declared.alloc.Global.{Global}
use Rattle.std.specs.declared.alloc.AllocError.{AllocError}

-- the text was appended; or memory was refused, where there was no room for it, and what was there stands in front
pub record AppendsText (text : List ℕ) (old new : Vec ℕ Global) (result : Result (Unit {0}) AllocError) : Type 0 where
  pub ok : OnOk result (new.items ≡ old.items ++ text)
  pub front : OnErr result (take (length old.items) new.items ≡ old.items)
  pub room : length old.items + length text ≤ vec_capacity old → IsOk result
  pub capacity : vec_capacity old ≤ vec_capacity new
