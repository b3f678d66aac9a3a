use Rattle.std.proofs.Common.{◌≡◌, ◌++◌, drop}
use Rattle.treasury_messages.specs.declared.kind.MessageKind.TheVariants as is
use Rattle.treasury_state.specs.Federation.{names_of}
use Rattle.treasury_state.specs.Seen.{branches_of}
use Rattle.treasury_reasons.proofs.held.say_branches.Given as goal

-- the names so far, and the rest
abbrev pub invariant-loop-branch : goal.invariant-loop-branch
invariant-loop-branch g l = record {
  kind : l.message.kind ≡ is.Branches;
  all : l.message.values ++ names_of (branches_of (drop l.branch-index l.branches))
      ≡ names_of (branches_of l.branches);
}
