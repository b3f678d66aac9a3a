-- Mirrors code: the members of the JSON object of a request, and where a line of a head ends.
use Rattle.std.specs.Prelude.{◌≡◌, ◌⊎◌, ℕ, Bool, List, [], ◌∷◌, Option, Some, None, option_map, codes, decimal}
use Rattle.std.specs.Prelude.{if◌then◌else◌}
use Rattle.serde_json.specs.Data.{Data, string, object, Members, no_members, put}
use Rattle.treasury_requests.specs.declared.words.Key.{Key}
use Rattle.treasury_requests.specs.declared.words.Key.TheVariants as key
use Rattle.treasury_requests.specs.declared.request.Spelled.{Spelled}
use Rattle.treasury_requests.specs.declared.request.Terms.{Terms}
use Rattle.treasury_requests.specs.declared.request.Request.{Request}
use Rattle.treasury_requests.specs.Words.{key_name, word_name, needed, further}
use Rattle.treasury_requests.specs.Request.{word_of, given_of}

-- with a text at a key
abbrev pub with_text : List ℕ → List ℕ → Members → Members
with_text key text ms = put key (string text) ms

-- with a text at a key, if there is one
abbrev pub with_optional : List ℕ → Option (List ℕ) → Members → Members
with_optional key None ms = ms
with_optional key (Some text) ms = with_text key text ms

-- with what is given at these keys
abbrev pub with_keys : (Key → Option (List ℕ)) → List Key → Members → Members
with_keys g [] ms = ms
with_keys g (k ∷ ks) ms = with_keys g ks (with_optional (key_name k) (g k) ms)

-- with the word of a request, and what it gives at the keys of its row
abbrev pub with_request : Request → Members → Members
with_request request ms =
    with_keys (given_of request) (further (word_of request)) (with_keys (given_of request) (needed (word_of request))
    (with_text (key_name key.Do) (word_name (word_of request)) ms))

-- the text at the key of a dry run, where it is one
abbrev pub dry_run_text : Bool → Option (List ℕ)
dry_run_text dry = if dry then Some (codes "yes") else None

-- with the key of a dry run, where it is one
abbrev pub with_dry_run : Bool → Members → Members
with_dry_run dry ms = with_optional (key_name key.DryRun) (dry_run_text dry) ms

-- with the key of how many entries the branch has to have, where that is said
abbrev pub with_if_entries : Option ℕ → Members → Members
with_if_entries count ms = with_optional (key_name key.IfEntries) (option_map decimal count) ms

-- with the keys of the terms
abbrev pub with_terms : Terms → Members → Members
with_terms terms ms = with_if_entries terms.if_entries (with_dry_run terms.is_dry_run ms)

-- the object of a request
abbrev pub object_of : Spelled → Data
object_of s = object (with_terms s.terms (with_request s.request no_members))

-- a line ends before this: there is nothing more, or a CR
abbrev pub EndsLine : List ℕ → Type 0
EndsLine rest = (rest ≡ []) ⊎ ((behind : List ℕ) × (rest ≡ 13 ∷ behind))
