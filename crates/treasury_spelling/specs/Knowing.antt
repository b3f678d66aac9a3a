-- Mirrors code: how the words that the program knows are put together.
use Rattle.std.specs.Prelude.{◌≡◌, false, List, [], ◌∷◌, Option, Some, None}
use Rattle.clap.specs.Walk.{Rule}
use Rattle.clap.specs.Simple.{App, Shape, app_of, with_rule, with_subcommand}
use Rattle.clap.specs.declared.builder.command.Command.{Command}
use Rattle.clap.specs.declared.builder.command.Command.TheViews.{out-Command}
use Rattle.clap.specs.Kinds.{Kinds}
use Rattle.clap.specs.declared.error.kind.ErrorKind.{ErrorKind}

-- a command has this shape, no subcommand, and no argument for subcommands
pub record IsLeaf (s : Shape) (c : Command) : Type 0 where
  pub app : app_of c ≡ record { top = s; subs = [] }
  pub local : (out-Command c).has_globals ≡ false

-- a command takes further arguments, after its own
abbrev pub with_rules : App → List Rule → App
with_rules a [] = a
with_rules a (r ∷ rs) = with_rules (with_rule a r) rs

-- a command has further subcommands, after its own
abbrev pub with_shapes : App → List Shape → App
with_shapes a [] = a
with_shapes a (s ∷ ss) = with_shapes (with_subcommand a s) ss

-- the kind of an error, if there is one
abbrev pub kinds_in : Option ErrorKind → Kinds
kinds_in None = []
kinds_in (Some kind) = kind ∷ []
