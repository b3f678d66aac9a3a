-- What a word lacks to make a request of what is given.
use Rattle.std.specs.Prelude.{ℕ, Bool, not, ◌&&◌, ◌||◌, List, Option, is_some}
use Rattle.std.specs.List.{find, list_any}
use Rattle.treasury_requests.specs.declared.words.Word.{Word}
use Rattle.treasury_requests.specs.declared.words.Key.{Key}
use Rattle.treasury_requests.specs.declared.words.Key.TheVariants as key
use Rattle.treasury_requests.specs.Words.{needed, further}
use Rattle.treasury_requests.specs.Request.{day_by, is_undated, part_by}
use Rattle.treasury_requests.specs.RequestFault.{is_receipt}

-- there is no text at the key, or at that of a day no date
abbrev pub is_missing : (Key → Option (List ℕ)) → Key → Bool
is_missing g key.Day = not (is_some (day_by g))
is_missing g k = not (is_some (g k))

-- of a part only the key or the amount is given
abbrev pub is_half : (Key → Option (List ℕ)) → Bool
is_half g = not (is_some (part_by g))

-- half of a part is given, a further day is no date, or a key that the word needs is missing
abbrev pub lacks_by : Word → (Key → Option (List ℕ)) → Bool
lacks_by w g =
    (is_receipt w && is_half g)
    || (is_some (find (is_undated w g) (further w)) || list_any (is_missing g) (needed w))
