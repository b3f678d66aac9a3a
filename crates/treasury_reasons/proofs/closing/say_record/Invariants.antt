use Rattle.std.proofs.Common.{◌≡◌, ◌++◌, drop}
use Rattle.treasury_messages.specs.declared.kind.MessageKind.TheVariants as is
use Rattle.treasury_messages.specs.Pieces.{header_values}
use Rattle.treasury_reasons.proofs.closing.say_record.Given as goal

-- the comments so far, and the rest
abbrev pub invariant-loop-comment : goal.invariant-loop-comment
invariant-loop-comment l = record {
  kind : l.message.kind ≡ is.HeldClosing;
  all : l.message.values ++ drop l.comment-index l.comments ≡ header_values l.txn ++ l.comments;
}
