-- What is given at the keys of a request, one by one.
use Rattle.std.specs.Prelude.{ℕ, Bool, List, Option, option_map}
use Rattle.std.specs.List.{find}
use Rattle.treasury_requests.specs.declared.words.Key.{Key}
use Rattle.treasury_requests.specs.declared.given.Given.{Given}
use Rattle.treasury_requests.specs.Words.{key_name}
use Rattle.treasury_requests.specs.Keys.{is_key_named}

-- it is given at this key
abbrev pub is_given_at : Key → Given → Bool
is_given_at k given = is_key_named (key_name k) given.key

-- the text at a key
abbrev pub text_given : List Given → Key → Option (List ℕ)
text_given given k = option_map (λ one. one.text) (find (is_given_at k) given)
