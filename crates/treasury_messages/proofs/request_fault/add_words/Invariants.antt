use Rattle.std.proofs.Common.{◌≡◌, ◌++◌, drop, map}
use Rattle.treasury_requests.specs.Words.{word_name}
use Rattle.treasury_messages.proofs.request_fault.add_words.Given as goal

-- the words so far, and the rest
abbrev pub invariant-loop-word : goal.invariant-loop-word
invariant-loop-word l = record {
  kind : l.message.kind ≡ l.fn.message.kind;
  all : l.message.values ++ map word_name (drop l.word-index l.words) ≡ l.fn.message.values ++ map word_name l.words;
}
