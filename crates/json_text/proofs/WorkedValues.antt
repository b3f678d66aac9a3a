-- Values worked out by hand.
use Rattle.std.proofs.Common.{◌≡◌, ◌∷◌, [], refl}
use Rattle.std.specs.Prelude.{codes}
use Rattle.json_text.specs.JsonText.{escaped, quoted, strings_text, rows_text, lines_of, object_text, string, strings}
use Rattle.json_text.specs.JsonText.{rows}

-- a quote, a backslash, a slash
pub marks : quoted (codes "a\"b\\c/") ≡ codes "\"a\\\"b\\\\c/\""
unfolding escaped
marks = refl

-- bytes below the blank, the first of them and the last; LF; a blank and DEL stand as they are
pub controls : quoted (0 ∷ 31 ∷ 10 ∷ 32 ∷ 127 ∷ []) ≡ codes "\"\\u0000\\u001f\\u000a \u{7f}\""
unfolding escaped
controls = refl

-- the euro sign, three bytes
pub others : quoted (226 ∷ 130 ∷ 172 ∷ []) ≡ 34 ∷ 226 ∷ 130 ∷ 172 ∷ 34 ∷ []
unfolding escaped
others = refl

pub nothing : (strings_text [] ≡ codes "[]") × (rows_text [] ≡ codes "[]") × (object_text [] ≡ codes "{}")
nothing = (refl, refl, refl)

pub texts : strings_text (codes "a" ∷ [] ∷ codes "b" ∷ []) ≡ codes "[\"a\",\"\",\"b\"]"
unfolding escaped
texts = refl

pub table : rows_text ((codes "a" ∷ codes "b" ∷ []) ∷ (codes "c" ∷ []) ∷ []) ≡ codes "[[\"a\",\"b\"],[\"c\"]]"
unfolding escaped
table = refl

pub object : object_text
    ((codes "x", string (codes "1")) ∷ (codes "y", strings []) ∷ (codes "z", rows (([] ∷ []) ∷ [])) ∷ [])
    ≡ codes "{\"x\":\"1\",\"y\":[],\"z\":[[\"\"]]}"
unfolding escaped
object = refl

-- an LF ends a line; what follows the last one is a line where it is something
pub lines : (lines_of (codes "a\n\nb\n") ≡ codes "a" ∷ [] ∷ codes "b" ∷ [])
    × (lines_of (codes "a\nb") ≡ codes "a" ∷ codes "b" ∷ []) × (lines_of [] ≡ []) × (lines_of (codes "\n") ≡ [] ∷ [])
unfolding lines_of
lines = (refl, refl, refl, refl)
