use Rattle.std.proofs.Common.{◌≡◌, drop, map}
use Rattle.clap.specs.Simple.{app_of}
use Rattle.treasury_spelling.specs.Known.{request_shape}
use Rattle.treasury_spelling.specs.Knowing.{with_shapes}
use Rattle.treasury_spelling.proofs.known.with_requests.Given as goal

-- the words so far, and the rest
abbrev pub invariant-loop-page : goal.invariant-loop-page
invariant-loop-page l =
    with_shapes (app_of l.command) (map (λ page. request_shape page.word) (drop l.page-index l.pages))
    ≡ with_shapes (app_of l.initial.command) (map (λ page. request_shape page.word) l.pages)
