-- Mirrors code: what is left of the room that a text may take.
use Rattle.std.specs.Prelude.{ℕ, ◌-◌, nat_le, if◌then◌else◌, Option, Some, None}

-- what is left after so many bytes, if they fit
unfoldable pub room_behind : ℕ → ℕ → Option ℕ
room_behind room size = if nat_le size room then Some (room - size) else None
