-- How arguments and words stand after others: those so far, and the rest.
use Rattle.std.proofs.Common.{◌≡◌, ◌∙◌, ◌∷◌, [], ◌++◌, ◌<◌, ◌+◌, ℕ, List, Bool, ◌||◌, false, ap, sym, codes}
use Rattle.std.proofs.Common.{length, get_or, drop, map, append_assoc, append-nil, IfOk, Ok, Err, Result}
use Rattle.std.proofs.lemmas.List.{at_drop_more}
use Rattle.std.proofs.lemmas.Simd.{map-map}
use Rattle.std.proofs.Math.Bool.{or-false}
use Rattle.clap.specs.Walk.{Rule, rule_of}
use Rattle.clap.specs.Simple.{App, Shape, app_of, with_rule, with_subcommand}
use Rattle.clap.specs.Built.{AddsArg, AddsSubcommand}
use Rattle.clap.specs.declared.builder.arg.Arg.{Arg}
use Rattle.clap.specs.declared.builder.command.Command.{Command}
use Rattle.clap.specs.declared.builder.command.Command.TheViews.{out-Command}
use Rattle.treasury_spelling.specs.declared.help.Page.{Page}
use Rattle.treasury_spelling.specs.Known.{file_shape, request_shape}
use Rattle.treasury_spelling.specs.Known.{serve_shape, run_shape, year, known}
use Rattle.treasury_spelling.specs.Knowing.{IsLeaf, with_rules, with_shapes}

-- a word with one more argument, which subcommands do not take
pub rule_added : (rule : Rule) (arg : Arg) (old new : Command) → rule_of arg ≡ rule → arg.global ≡ false
    → AddsArg old arg new → app_of new ≡ with_rule (app_of old) rule
rule_added rule arg old new is local adds = adds.shape local ∙ ap (with_rule (app_of old)) is

pub globals_stay : (arg : Arg) (old new : Command) → arg.global ≡ false → AddsArg old arg new
    → (out-Command new).has_globals ≡ (out-Command old).has_globals
globals_stay arg old new local adds =
    adds.globals
    ∙ ap (λ (it : Bool). (out-Command old).has_globals || it) local
    ∙ or-false (out-Command old).has_globals

-- a command with one more word
pub leaf_added : (s : Shape) (old sub new : Command) → IsLeaf s sub → AddsSubcommand old sub new
    → app_of new ≡ with_subcommand (app_of old) s
leaf_added s old sub new leaf adds =
    adds.shape leaf.local ∙ ap (λ (a : App). with_subcommand (app_of old) a.top) leaf.app

-- after one more, those so far and the rest are as many as before
pub rules_rest : {X : Type 0} (f : X → Rule) (xs : List X) (i : ℕ) (x : X) (old new whole : App) → i < length xs
    → new ≡ with_rule old (f (get_or xs i x)) → with_rules old (map f (drop i xs)) ≡ whole
    → with_rules new (map f (drop (i + 1) xs)) ≡ whole
rules_rest {X = X} f xs i x old new whole less is rest =
    ap (λ (a : App). with_rules a (map f (drop (i + 1) xs))) is
    ∙ sym (at_drop_more (λ (l : List X). with_rules old (map f l)) xs i x less)
    ∙ rest

pub shapes_rest : {X : Type 0} (f : X → Shape) (xs : List X) (i : ℕ) (x : X) (old new whole : App) → i < length xs
    → new ≡ with_subcommand old (f (get_or xs i x)) → with_shapes old (map f (drop i xs)) ≡ whole
    → with_shapes new (map f (drop (i + 1) xs)) ≡ whole
shapes_rest {X = X} f xs i x old new whole less is rest =
    ap (λ (a : App). with_shapes a (map f (drop (i + 1) xs))) is
    ∙ sym (at_drop_more (λ (l : List X). with_shapes old (map f l)) xs i x less)
    ∙ rest

abbrev leaf : Shape → List Rule → App
leaf s rules = record { top = record s { rules = rules }; subs = [] }

-- a word that takes further arguments has its own before them
rules_behind : (s : Shape) (own more : List Rule) → with_rules (leaf s own) more ≡ leaf s (own ++ more)
rules_behind s own [] = ap (leaf s) (sym (append-nil own))
rules_behind s own (r ∷ rs) = rules_behind s (own ++ r ∷ []) rs ∙ ap (leaf s) (append_assoc own (r ∷ []) rs)

-- a word that takes arguments twice has its own, the first and the second
pub leaf_with : {E : Type 0} (s : Shape) (first second : List Rule) (start between : Command)
    (result : Result Command E) → IsLeaf s start → app_of between ≡ with_rules (app_of start) first
    → (out-Command between).has_globals ≡ (out-Command start).has_globals
    → IfOk result (λ new. app_of new ≡ with_rules (app_of between) second)
    → IfOk result (λ new. (out-Command new).has_globals ≡ (out-Command between).has_globals)
    → IfOk result (IsLeaf (record s { rules = (s.rules ++ first) ++ second }))
leaf_with s first second start between (Ok new) begun taken same more all = record {
  app =
      more
      ∙ ap (λ (a : App). with_rules a second)
      (taken ∙ ap (λ (a : App). with_rules a first) begun.app ∙ rules_behind s s.rules first)
      ∙ rules_behind s (s.rules ++ first) second;
  local = all ∙ same ∙ begun.local;
}
leaf_with s first second start between (Err e) begun taken same more all = tt

-- the words of requests stand between `init` and those that are no requests
pub known_by : {E : Type 0} (pages : List Page) (begun filled served serving running : Command)
    (result : Result Command E) → map (λ (page : Page). page.word) pages ≡ year
    → app_of begun ≡ record { top = known.top; subs = file_shape (codes "init") [] ∷ [] }
    → app_of filled ≡ with_shapes (app_of begun) (map (λ (page : Page). request_shape page.word) pages)
    → IsLeaf serve_shape serving → AddsSubcommand filled serving served → IsLeaf run_shape running
    → IfOk result (λ new. AddsSubcommand served running new) → IfOk result (λ new. app_of new ≡ known)
known_by pages begun filled served serving running (Ok new) order start fills serves adds runs more =
    leaf_added run_shape served running new runs more
    ∙ ap (λ (a : App). with_subcommand a run_shape)
    (leaf_added serve_shape filled serving served serves adds
    ∙ ap (λ (a : App). with_subcommand a serve_shape)
    (fills
    ∙ ap (λ (a : App). with_shapes a (map (λ (page : Page). request_shape page.word) pages)) start
    ∙ ap (with_shapes (record { top = known.top; subs = file_shape (codes "init") [] ∷ [] }))
    (sym (map-map request_shape (λ (page : Page). page.word) pages) ∙ ap (map request_shape) order)))
known_by pages begun filled served serving running (Err e) order start fills serves adds runs more = tt
