-- Which requests are foreign (own rule; docs/FORMATS.md, "HTTP"): those that name another machine than this one, and
-- those of which a browser says that a page of another origin has it ask (`Host`: RFC 9110, section 7.2; `Origin`: RFC
-- 6454, section 7; `Sec-Fetch-Site`: W3C, "Fetch Metadata Request Headers").
use Rattle.std.specs.Prelude.{ℕ, ◌==◌, Bool, true, false, not, ◌&&◌, ◌||◌, List, [], ◌∷◌, ◌++◌, length, take, drop}
use Rattle.std.specs.Prelude.{codes}
use Rattle.std.specs.Char.{is_ascii_digit}
use Rattle.std.specs.List.{list_all}
use Rattle.std.specs.Str.{bytes_eq}
use Rattle.http_request.specs.Fields.{is_named, values_of}

-- after a host's name there is nothing, or a colon and a port of digits, perhaps of none (RFC 3986, section 3.2.3)
abbrev pub is_port : List ℕ → Bool
is_port [] = true
is_port (colon ∷ port) = (colon == 58) && list_all is_ascii_digit port

-- a host has that name, whatever case its letters have, with a port or without
abbrev pub is_at : List ℕ → List ℕ → Bool
is_at name host = is_named name (take (length name) host) && is_port (drop (length name) host)

-- it is this machine
abbrev pub is_loopback : List ℕ → Bool
is_loopback host = is_at (codes "localhost") host || is_at (codes "127.0.0.1") host || is_at (codes "[::1]") host

-- there is one host, and the origin is that of a page which it served, byte for byte
abbrev pub is_origin_of : List (List ℕ) → List ℕ → Bool
is_origin_of (host ∷ []) origin = bytes_eq origin (codes "http://" ++ host)
is_origin_of hosts origin = false

-- what asks is a page of the same origin, or no page, as where an address is typed
abbrev pub is_own_site : List ℕ → Bool
is_own_site site = bytes_eq site (codes "same-origin") || bytes_eq site (codes "none")

-- there is no value, or one alone, of which that holds
abbrev pub is_none_or : (List ℕ → Bool) → List (List ℕ) → Bool
is_none_or holds [] = true
is_none_or holds (value ∷ []) = holds value
is_none_or holds (value ∷ other ∷ more) = false

-- A request is foreign, by the names and values of its fields, unless each of these three is missing, or is there once:
-- a host that is this machine, an origin that is that host's, and a site that is the treasury's own or none.
abbrev pub is_foreign : List (List ℕ × List ℕ) → Bool
is_foreign fields =
    not (is_none_or is_loopback (values_of (codes "host") fields)
    && is_none_or (is_origin_of (values_of (codes "host") fields)) (values_of (codes "origin") fields)
    && is_none_or is_own_site (values_of (codes "sec-fetch-site") fields))
