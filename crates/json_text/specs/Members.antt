-- The members of an object, as the code has them (own rule).
use Rattle.std.specs.Prelude.{ℕ, List, map}
use Rattle.json_text.specs.declared.object.Member.{Member}
use Rattle.json_text.specs.declared.object.MemberValue.{MemberValue}
use Rattle.json_text.specs.declared.object.MemberValue.TheVariants.{Text, Lines}
use Rattle.json_text.specs.JsonText.{Held, string, strings, lines_of}

-- a text stands at its key as a string, its lines as an array of strings
abbrev pub held_of : MemberValue → Held
held_of (Text text) = string text.now
held_of (Lines text) = strings (lines_of text.now)

-- the key of a member, and what the object has at it
abbrev pub member_of : Member → List ℕ × Held
member_of m = (m.key.now, held_of m.value)

-- the same of each member, in order
abbrev pub members_of : List Member → List (List ℕ × Held)
members_of members = map member_of members
