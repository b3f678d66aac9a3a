use Rattle.std.proofs.Common.{◌≡◌, ◌++◌, drop}
use Rattle.treasury_messages.specs.Pieces.{values}
use Rattle.treasury_messages.proofs.message.Message.add.Given as goal

-- what is named so far, and by the rest
abbrev pub invariant-loop-piece : goal.invariant-loop-piece
invariant-loop-piece l = record {
  kind : l.self.kind ≡ l.fn.self.kind;
  all : l.self.values ++ values (drop l.piece-index l.pieces) ≡ l.fn.self.values ++ values l.pieces;
}
