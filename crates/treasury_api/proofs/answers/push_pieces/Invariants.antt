use Rattle.std.proofs.Common.{◌≡◌, ◌≤◌, ◌++◌, take, vec_capacity}
use Rattle.std.specs.List.{flat_map}
use Rattle.treasury_api.proofs.answers.push_pieces.Given as goal

-- the pieces so far are appended, and the capacity has not shrunk
abbrev pub invariant-loop-piece : goal.invariant-loop-piece
invariant-loop-piece l =
    (l.line.items ≡ l.fn.line.items ++ flat_map (λ piece. piece.now) (take l.piece-index l.pieces))
    × (vec_capacity l.fn.line ≤ vec_capacity l.line)
