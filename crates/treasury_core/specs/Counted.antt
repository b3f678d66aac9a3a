-- Mirrors code: how a file's texts are counted.
use Rattle.std.specs.Prelude.{ℕ, ◌≡◌, ◌+◌, Bool, if◌then◌else◌, List}
use Rattle.std.specs.Option.{unwrap_or}
use Rattle.std.specs.Str.{bytes_eq}
use Rattle.std.specs.Global.{Vec}
use Rattle.std.specs.HashMap.{HashMap, get}
use Rattle.std.specs.declared.hash.FoldHasher.{FoldHasher}
use Rattle.std.specs.declared.hash.BuildHasherDefault.{BuildHasherDefault}
use Rattle.money_core.specs.declared.style.Style.{Style}
use Rattle.journal_format.specs.declared.txn.Txn.{Txn}
use Rattle.treasury_state.specs.Mark.{alike}

-- two texts are equal
abbrev pub are_equal_texts : Vec ℕ → Vec ℕ → Bool
are_equal_texts x y = bytes_eq x.items y.items

-- how often a text was counted
abbrev pub count_of : HashMap (Vec ℕ) ℕ (BuildHasherDefault FoldHasher) → Vec ℕ → ℕ
count_of counts text = unwrap_or (get are_equal_texts counts text) 0

-- the counts once a text that was counted so often is counted again
abbrev pub counted_more : Vec ℕ → ℕ → Vec ℕ → ℕ → ℕ
counted_more text n other m = if bytes_eq text.items other.items then n + 1 else m

-- each text is counted as often as an unmarked transaction of the list has it
abbrev pub AreCounted : List Style → HashMap (Vec ℕ) ℕ (BuildHasherDefault FoldHasher) → List Txn → Type 0
AreCounted styles counts ts = (text : Vec ℕ) → count_of counts text ≡ alike styles text.items ts
