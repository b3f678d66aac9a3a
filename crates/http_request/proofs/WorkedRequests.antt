-- Paths, lengths and what is foreign, worked out by hand.
use Rattle.std.specs.Prelude.{◌≡◌, ℕ, true, false, List, [], ◌∷◌, Option, Some, None, codes, refl}
use Rattle.std.specs.Str.{is_utf8, chars}
use lib.Utf8.{encode}
use Rattle.percent_encoding.specs.Percent.{percent_decode}
use Rattle.http_request.specs.Path.{path_of}
use Rattle.treasury_requests.specs.declared.words.Word.TheVariants as word
use Rattle.treasury_requests.specs.declared.words.Key.TheVariants as key
use Rattle.treasury_requests.specs.declared.given.Given.{Given}
use Rattle.http_request.specs.declared.routes.Route.{Route}
use Rattle.http_request.specs.declared.routes.Route.TheVariants.{Commands, Report}
use Rattle.http_request.specs.Routes.{at_key, route_of}
use Rattle.http_request.specs.Query.{query_of, decoded, with_query}
use Rattle.http_request.specs.Length.{body_length}
use Rattle.http_request.specs.Foreign.{is_loopback, is_origin_of, is_foreign}

-- a query is not looked at
pub query : (path_of (codes "/balance/north/2024-01-31?x=/y") ≡ codes "/balance/north/2024-01-31")
    × (path_of (codes "/commands") ≡ codes "/commands")
query = (refl, refl)

abbrev get : List ℕ → Option Route
get path = route_of (codes "GET") path

abbrev post : List ℕ → Option Route
post path = route_of (codes "POST") path

-- parts stand as they are, hold no slash, and are not empty
pub parts : (get (codes "/balance/%6eorth/2024.1.5")
    ≡ Some (Report word.Balance (at_key key.Branch (codes "%6eorth") ∷ at_key key.Day (codes "2024.1.5") ∷ [])))
    × (get (codes "/balance/north/2024/01") ≡ None) × (get (codes "/balance/north") ≡ None)
    × (get (codes "/balance//2024-01-05") ≡ None) × (get (codes "/balance/north/") ≡ None)
unfolding route_of
parts = (refl, refl, refl, refl, refl)

-- reports on all branches; a command has no path of its own
pub lists : (get (codes "/branches") ≡ Some (Report word.Branches [])) × (get (codes "/branches/") ≡ None)
    × (get (codes "/transfers/9999-12-31") ≡ Some (Report word.Transfers (at_key key.Day (codes "9999-12-31") ∷ [])))
    × (get (codes "/lock") ≡ None) × (get (codes "branches") ≡ None) × (get [] ≡ None)
    × (route_of (codes "HEAD") (codes "/branches") ≡ None)
unfolding route_of
lists = (refl, refl, refl, refl, refl, refl, refl)

-- commands, and those of a branch, also of one that is named as a route is, or holds an escape
pub posted : (post (codes "/commands") ≡ Some (Commands None)) × (get (codes "/commands") ≡ None)
    × (post (codes "/commands/north") ≡ Some (Commands (Some (codes "north"))))
    × (post (codes "/commands/commands") ≡ Some (Commands (Some (codes "commands"))))
    × (post (codes "/commands/%6eorth") ≡ Some (Commands (Some (codes "%6eorth"))))
    × (post (codes "/commands/north/") ≡ None) × (post (codes "/branches") ≡ None)
unfolding route_of
posted = (refl, refl, refl, refl, refl, refl, refl)

-- one length, of digits, within 8 MiB, whatever case its name has
pub one_length : (body_length ((codes "Host", codes "localhost") ∷ (codes "content-LENGTH", codes "007") ∷ []) ≡ Some 7)
    × (body_length ((codes "Content-Length", codes "0") ∷ []) ≡ Some 0)
    × (body_length ((codes "Content-Length", codes "8388608") ∷ []) ≡ Some 8_388_608)
one_length = (refl, refl, refl)

pub no_length : (body_length ((codes "Host", codes "localhost") ∷ []) ≡ None)
    × (body_length ((codes "Content-Length", codes "8388609") ∷ []) ≡ None)
    × (body_length ((codes "Content-Length", codes "+5") ∷ []) ≡ None)
    × (body_length ((codes "Content-Length", []) ∷ []) ≡ None)
    × (body_length ((codes "Content-Length", codes "5") ∷ (codes "Content-Length", codes "5") ∷ []) ≡ None)
    × (body_length ((codes "Content-Length", codes "5") ∷ (codes "Transfer-Encoding", []) ∷ []) ≡ None)
no_length = (refl, refl, refl, refl, refl, refl)

-- this machine, in any case, with a port and without
pub this_machine : (is_loopback (codes "localhost") ≡ true) × (is_loopback (codes "LOCALHOST") ≡ true)
    × (is_loopback (codes "localhost:8040") ≡ true) × (is_loopback (codes "127.0.0.1:") ≡ true)
    × (is_loopback (codes "[::1]:8040") ≡ true)
this_machine = (refl, refl, refl, refl, refl)

-- others, also those whose names only begin so
pub other_machines : (is_loopback (codes "localhost.") ≡ false) × (is_loopback (codes "localhost.example.org") ≡ false)
    × (is_loopback (codes "127.0.0.1.example.org:8040") ≡ false) × (is_loopback (codes "127.0.0.2") ≡ false)
    × (is_loopback (codes "localhost:80:80") ≡ false) × (is_loopback (codes "local") ≡ false)
    × (is_loopback [] ≡ false)
other_machines = (refl, refl, refl, refl, refl, refl, refl)

-- the origin of a host, byte for byte, and of one alone
pub origins : (is_origin_of (codes "localhost" ∷ []) (codes "http://localhost") ≡ true)
    × (is_origin_of (codes "localhost" ∷ []) (codes "http://localhost:8040") ≡ false)
    × (is_origin_of (codes "localhost" ∷ []) (codes "http://localhost.example.org") ≡ false)
    × (is_origin_of (codes "localhost:8040" ∷ []) (codes "http://localhost") ≡ false)
    × (is_origin_of (codes "localhost" ∷ []) (codes "https://localhost") ≡ false)
    × (is_origin_of (codes "localhost" ∷ []) (codes "null") ≡ false)
    × (is_origin_of [] (codes "http://localhost") ≡ false)
    × (is_origin_of (codes "localhost" ∷ codes "localhost" ∷ []) (codes "http://localhost") ≡ false)
origins = (refl, refl, refl, refl, refl, refl, refl, refl)

-- requests of curl, of a typed address, and of a page of the same origin
pub own : (is_foreign [] ≡ false) × (is_foreign ((codes "Host", codes "localhost:8040") ∷ []) ≡ false)
    × (is_foreign ((codes "Host", codes "localhost") ∷ (codes "Sec-Fetch-Site", codes "none") ∷ []) ≡ false)
    × (is_foreign ((codes "ORIGIN", codes "http://127.0.0.1:80") ∷ (codes "Host", codes "127.0.0.1:80")
    ∷ (codes "sec-fetch-site", codes "same-origin") ∷ []) ≡ false)
own = (refl, refl, refl, refl)

-- a name that leads here, and a page of that name
pub rebound : (is_foreign ((codes "Host", codes "example.org") ∷ []) ≡ true)
    × (is_foreign ((codes "Host", codes "example.org") ∷ (codes "Origin", codes "http://example.org") ∷ []) ≡ true)
rebound = (refl, refl)

-- forms of another site, of a page without an origin and of one on another port; an image, which has no origin
pub of_another_site :
    (is_foreign ((codes "Host", codes "127.0.0.1") ∷ (codes "Origin", codes "http://example.org") ∷ []) ≡ true)
    × (is_foreign ((codes "Host", codes "127.0.0.1") ∷ (codes "Origin", codes "null") ∷ []) ≡ true)
    × (is_foreign ((codes "Host", codes "127.0.0.1") ∷ (codes "Origin", codes "http://127.0.0.1:80") ∷ []) ≡ true)
    × (is_foreign ((codes "Host", codes "127.0.0.1") ∷ (codes "Sec-Fetch-Site", codes "cross-site") ∷ []) ≡ true)
    × (is_foreign ((codes "Host", codes "127.0.0.1") ∷ (codes "Sec-Fetch-Site", codes "same-site") ∷ []) ≡ true)
    × (is_foreign ((codes "Origin", codes "http://127.0.0.1") ∷ []) ≡ true)
of_another_site = (refl, refl, refl, refl, refl, refl)

-- fields that are there twice
pub doubled : (is_foreign ((codes "Host", codes "localhost") ∷ (codes "host", codes "localhost") ∷ []) ≡ true)
    × (is_foreign ((codes "Host", codes "localhost") ∷ (codes "Origin", codes "http://localhost")
    ∷ (codes "Origin", codes "null") ∷ []) ≡ true)
    × (is_foreign ((codes "Sec-Fetch-Site", codes "none") ∷ (codes "Sec-Fetch-Site", codes "none") ∷ []) ≡ true)
doubled = (refl, refl, refl)

-- ---- queries

-- the query stands after the first question mark
pub queries : (query_of (codes "/register/north?account=a?b") ≡ codes "account=a?b")
    × (query_of (codes "/register/north") ≡ []) × (query_of (codes "/register/north?") ≡ [])
queries = (refl, refl, refl)

-- escapes in letters of either case, and what is none; a plus is a plus
pub escapes : (decoded (codes "a%3Ab%3a%2f") ≡ Some (codes "a:b:/")) × (decoded (codes "a+b") ≡ Some (codes "a+b"))
    × (decoded (codes "%2541") ≡ Some (codes "%41")) × (decoded (codes "%00") ≡ Some (0 ∷ []))
    × (decoded (codes "%") ≡ None) × (decoded (codes "%4") ≡ None) × (decoded (codes "%4g") ≡ None)
    × (decoded (codes "%%41") ≡ None) × (decoded (codes "%u0041") ≡ None)
unfolding percent_decode is_utf8 chars encode
escapes = (refl, refl, refl, refl, refl, refl, refl, refl, refl)

-- bytes at UTF-8's borders: a character of two bytes, one byte of it, a surrogate, the last character, one after it
pub borders : (decoded (codes "%C3%A9") ≡ Some (195 ∷ 169 ∷ [])) × (decoded (codes "%C3") ≡ None)
    × (decoded (codes "%80") ≡ None) × (decoded (codes "%C0%80") ≡ None) × (decoded (codes "%ED%A0%80") ≡ None)
    × (decoded (codes "%F4%8F%BF%BF") ≡ Some (244 ∷ 143 ∷ 191 ∷ 191 ∷ [])) × (decoded (codes "%F4%90%80%80") ≡ None)
unfolding percent_decode is_utf8 chars encode
borders = (refl, refl, refl, refl, refl, refl, refl)

-- what the register of a branch is asked of
abbrev register : List ℕ → Option (List Given)
register query = with_query word.Register (at_key key.Branch (codes "north") ∷ []) query

abbrev with : List Given → Option (List Given)
with more = Some (at_key key.Branch (codes "north") ∷ more)

-- an account, alone, with a tag, in either order, or with a day; their keys may have escapes, and their values `=`
pub given : (register (codes "account=assets%3Abank") ≡ with (at_key key.Account (codes "assets:bank") ∷ []))
    × (register (codes "account=a&tag=b") ≡ with (at_key key.Account (codes "a") ∷ at_key key.Tag (codes "b") ∷ []))
    × (register (codes "account=a&from=b") ≡ with (at_key key.Account (codes "a") ∷ at_key key.From (codes "b") ∷ []))
    × (register (codes "tag=b&account=a") ≡ with (at_key key.Tag (codes "b") ∷ at_key key.Account (codes "a") ∷ []))
    × (register (codes "%61ccount=a") ≡ with (at_key key.Account (codes "a") ∷ []))
    × (register (codes "account=a=b") ≡ with (at_key key.Account (codes "a=b") ∷ []))
    × (register (codes "account=a%26tag%3Db") ≡ with (at_key key.Account (codes "a&tag=b") ∷ []))
    × (register (codes "account=&tag=") ≡ with (at_key key.Account [] ∷ at_key key.Tag [] ∷ []))
unfolding percent_decode is_utf8 chars encode with_query
given = (refl, refl, refl, refl, refl, refl, refl, refl)

-- no account, a key that is unknown, in other letters, there twice, or in the path, and a piece without `=`
pub not_given : (register [] ≡ None) × (register (codes "tag=b") ≡ None) × (register (codes "account") ≡ None)
    × (register (codes "account=a&day=b") ≡ None) × (register (codes "Account=a") ≡ None)
    × (register (codes "account=a&account=a") ≡ None) × (register (codes "account=a&tag=b&tag=b") ≡ None)
    × (register (codes "account=a&branch=south") ≡ None) × (register (codes "account=a&do=register") ≡ None)
    × (register (codes "account=a&") ≡ None) × (register (codes "account=a&tag") ≡ None)
    × (register (codes "account=%") ≡ None) × (register (codes "account=a;tag=b&tag=%C3") ≡ None)
unfolding percent_decode is_utf8 chars encode with_query
not_given = (refl, refl, refl, refl, refl, refl, refl, refl, refl, refl, refl, refl, refl)

-- the query of a path that gives all keys is not looked at
pub unread : (with_query word.Journal (at_key key.Branch (codes "north") ∷ []) (codes "tag=%")
    ≡ Some (at_key key.Branch (codes "north") ∷ [])) × (with_query word.Branches [] (codes "account=a") ≡ Some [])
unfolding with_query
unread = (refl, refl)
