-- What is said to a word, what is said by a cause alone, and what is told of it (own rules; docs/RULES.md, "The
-- program").
use Rattle.std.specs.Prelude.{◌≡◌, ◌<◌, ◌⊎◌, ℕ, Bool, true, List, [], take, if◌then◌else◌, length, Option, Err}
use Rattle.std.specs.Io.KnownBytes.{Appends}
use Rattle.money_core.specs.declared.cause.Cause.{Cause}
use Rattle.money_core.specs.declared.cause.Cause.TheVariants.{OutOfMemory, Store, Damaged, ReadFault}
use Rattle.book_core.specs.declared.refusal.Refusal.TheVariants.{Plain}
use Rattle.treasury_api.specs.Answer.{answer_text}

-- what is said to a word: a text for standard output, and whether that is a refusal
pub record Spoken : Type 0 where
  pub text : List ℕ
  pub refused : Bool

-- ---- what is said by a cause alone

-- the answer line of this cause is said, as a refusal
abbrev pub IsRefusedBy : Cause → Spoken → Type 0
IsRefusedBy cause said = (said.text ≡ answer_text [] (Err (Plain cause))) × (said.refused ≡ true)

-- 40, 41 or 43: there is no memory, the file cannot be used, or it has no treasury
abbrev pub IsFileRefused : Spoken → Type 0
IsFileRefused said = IsRefusedBy OutOfMemory said ⊎ (IsRefusedBy Store said ⊎ IsRefusedBy Damaged said)

-- 45 or 40: the journal's file cannot be read
abbrev pub IsJournalRefused : Spoken → Type 0
IsJournalRefused said = IsRefusedBy ReadFault said ⊎ IsRefusedBy OutOfMemory said

-- ---- what is told: a text on standard output, and an exit status

-- All of the text is written, and the status is 1 where it is a refusal, else 0; or the output takes a part of it and
-- no more, and it is 1.
abbrev pub Tells : {W : Type 0} → (W → Option (List ℕ)) → W → W → ℕ → Spoken → Type 0
Tells contents w0 w1 status said =
    (Appends (contents w0) (contents w1) said.text × (status ≡ (if said.refused then 1 else 0)))
    ⊎ ((taken : ℕ) × (taken < length said.text) × Appends (contents w0) (contents w1) (take taken said.text)
    × (status ≡ 1))
