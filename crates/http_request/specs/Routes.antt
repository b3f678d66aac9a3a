-- The routes (own rule): a method, a path, and the parts of the path, which are taken as they stand.
use Rattle.std.specs.Prelude.{ℕ, ◌==◌, ◌&&◌, if◌then◌else◌, List, [], ◌∷◌, ◌++◌, codes, Option, Some, None}
use Rattle.std.specs.Prelude.{option_map, option_and_then}
use Rattle.std.specs.List.{slice_split, find}
use Rattle.std.specs.Option.{option_or}
use Rattle.std.specs.Str.{bytes_eq}
use Rattle.treasury_requests.specs.declared.words.Key.{Key}
use Rattle.treasury_requests.specs.declared.given.Given.{Given}
use Rattle.treasury_requests.specs.Words.{all_words, is_word_named, paths}
use Rattle.http_request.specs.declared.routes.Route.{Route}
use Rattle.http_request.specs.declared.routes.Route.TheVariants.{Commands, Report}

-- what stands between the bytes of that value; nothing in no text
abbrev pub pieces_at : ℕ → Option (List ℕ) → List (List ℕ)
pieces_at at None = []
pieces_at at (Some text) = slice_split (λ b. b == at) text

-- what is given at a key
abbrev pub at_key : Key → List ℕ → Given
at_key key text = record { key = key; text = text }

-- what the parts of a path give at these keys, beside what is given: there are as many, and none is empty
abbrev pub parts_given : List Given → List Key → List (List ℕ) → Option (List Given)
parts_given given [] [] = Some given
parts_given given (k ∷ keys) ((b ∷ part) ∷ parts) = parts_given (given ++ at_key k (b ∷ part) ∷ []) keys parts
parts_given given _ _ = None

-- the same at the keys of the first of these paths that has as many
abbrev pub paths_given : List (List Key) → List (List ℕ) → Option (List Given)
paths_given [] parts = None
paths_given (keys ∷ others) parts = option_or (parts_given [] keys parts) (paths_given others parts)

-- the route of commands, or of those of one branch
abbrev pub command_at : List (List ℕ) → Option Route
command_at [] = Some (Commands None)
command_at ((b ∷ branch) ∷ []) = Some (Commands (Some (b ∷ branch)))
command_at _ = None

-- the route of a report, by its row of the table of words
abbrev pub report_at : List ℕ → List (List ℕ) → Option Route
report_at name parts =
    option_and_then (λ w. option_map (Report w) (paths_given (paths w) parts)) (find (is_word_named name) all_words)

-- the route of a method and a path of that name with these parts
abbrev pub route_by : List ℕ → List ℕ → List (List ℕ) → Option Route
route_by method name parts =
    if bytes_eq method (codes "POST") && bytes_eq name (codes "commands") then command_at parts
    else if bytes_eq method (codes "GET") then report_at name parts else None

-- the same by the pieces of a path: in front of its name stands a slash, and so before each part
abbrev pub route_in : List ℕ → List (List ℕ) → Option Route
route_in method ([] ∷ name ∷ parts) = route_by method name parts
route_in method _ = None

-- the route that a method and a path lead to; none where no row has this path
unfoldable pub route_of : List ℕ → List ℕ → Option Route
route_of method path = route_in method (slice_split (λ b. b == 47) path)
