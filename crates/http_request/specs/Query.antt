-- The query of a target: what stands after its first question mark (RFC 3986, section 3.4). What it gives, and that a
-- `+` stands for itself, are own rules.
use Rattle.std.specs.Prelude.{ℕ, ◌==◌, Bool, true, false, not, ◌&&◌, ◌||◌, if◌then◌else◌, List, [], ◌∷◌, ◌++◌, length}
use Rattle.std.specs.Prelude.{Option, Some, None, is_some, option_map, option_and_then}
use Rattle.std.specs.Char.{is_ascii_hexdigit}
use Rattle.std.specs.List.{after_first, before_first, list_any, list_all, find}
use Rattle.std.specs.Str.{is_utf8}
use Rattle.percent_encoding.specs.Percent.{percent_decode}
use Rattle.treasury_requests.specs.declared.words.Word.{Word}
use Rattle.treasury_requests.specs.declared.words.Key.{Key}
use Rattle.treasury_requests.specs.declared.given.Given.{Given}
use Rattle.treasury_requests.specs.Words.{needed}
use Rattle.treasury_requests.specs.Keys.{keys_of, is_key_named}
use Rattle.treasury_requests.specs.Given.{text_given}
use Rattle.http_request.specs.Routes.{pieces_at, at_key}

-- what stands after the first question mark; nothing where there is none
abbrev pub query_of : List ℕ → List ℕ
query_of target = after_first (λ b. b == 63) target

-- two hexadecimal digits stand in front
abbrev pub begins_with_digits : List ℕ → Bool
begins_with_digits [] = false
begins_with_digits (high ∷ []) = false
begins_with_digits (high ∷ low ∷ rest) = is_ascii_hexdigit high && is_ascii_hexdigit low

-- each `%` has two hexadecimal digits after it ("pct-encoded", section 2.1)
abbrev pub is_escaped : List ℕ → Bool
is_escaped [] = true
is_escaped (b ∷ bytes) = (not (b == 37) || begins_with_digits bytes) && is_escaped bytes

-- the text that is written so: a `%` with its digits stands for the byte of that number, each other byte for itself;
-- none where a `%` lacks digits, or where the bytes are not UTF-8
abbrev pub decoded : List ℕ → Option (List ℕ)
decoded written =
    if is_escaped written && is_utf8 (percent_decode written) then Some (percent_decode written) else None

-- what a piece of a query gives: the name of one of these keys, `=` and a text, both with escapes
abbrev pub piece_given : List Key → List ℕ → Option Given
piece_given keys piece =
    if list_any (λ b. b == 61) piece then
    option_and_then (λ name. option_and_then (λ k. option_map (at_key k) (decoded (after_first (λ b. b == 61) piece)))
    (find (is_key_named name) keys)) (decoded (before_first (λ b. b == 61) piece))
    else None

-- what is given with one key more, unless that is given already
abbrev pub with_key : List Given → Given → Option (List Given)
with_key given more = if is_some (text_given given more.key) then None else Some (given ++ more ∷ [])

-- what pieces give beside what is given: each gives one of these keys, and no key is given twice
abbrev pub pieces_given : List Key → List Given → List (List ℕ) → Option (List Given)
pieces_given keys given [] = Some given
pieces_given keys given (piece ∷ pieces) =
    option_and_then (λ more. option_and_then (λ all. pieces_given keys all pieces) (with_key given more))
    (piece_given keys piece)

-- all is given that the word needs
abbrev pub has_needed : Word → List Given → Bool
has_needed w given = list_all (λ k. is_some (text_given given k)) (needed w)

-- what is given, if that is all that the word needs
abbrev pub if_all_needed : Word → List Given → Option (List Given)
if_all_needed w given = if has_needed w given then Some given else None

-- what a path gives together with a query, of which `&` divides the pieces; where the path gives all keys of the word,
-- the query is not looked at
unfoldable pub with_query : Word → List Given → List ℕ → Option (List Given)
with_query w given query =
    if length given == length (keys_of w) then Some given
    else option_and_then (if_all_needed w) (pieces_given (keys_of w) given (pieces_at 38 (Some query)))
