-- Which requests, and which commands, are of a branch (own rule; docs/FORMATS.md, "HTTP"): what is entered into its
-- journal, paid by it or paid to it, its lock and its closing.
use Rattle.std.specs.Prelude.{◌≡◌, ℕ, Bool, false, List, option_map}
use Rattle.std.specs.Option.{unwrap_or}
use Rattle.std.specs.Str.{bytes_eq}
use Rattle.treasury_core.specs.declared.command.Command.{Command as AnyCommand}
use Rattle.treasury_core.specs.declared.command.Command.TheVariants as cmd
use Rattle.treasury_requests.specs.declared.request.Request.{Request}
use Rattle.treasury_requests.specs.Request.{branch_asked}

-- the request is a command of the branch of that name
abbrev pub is_command_of : List ℕ → Request → Bool
is_command_of name request = unwrap_or (option_map (λ branch. bytes_eq branch name) (branch_asked request)) false

-- the same of a command, once the texts of its request are read
abbrev pub IsCommandOf : List ℕ → AnyCommand → Type 0
IsCommandOf name (cmd.Branch other) = ⊥
IsCommandOf name (cmd.Commodity style) = ⊥
IsCommandOf name (cmd.Enter branch list) = branch ≡ name
IsCommandOf name (cmd.Dispatch dispatch) = dispatch.source ≡ name
IsCommandOf name (cmd.Receive receive) = receive.branch ≡ name
IsCommandOf name (cmd.Lock branch day) = branch ≡ name
IsCommandOf name (cmd.Close close) = close.branch ≡ name
