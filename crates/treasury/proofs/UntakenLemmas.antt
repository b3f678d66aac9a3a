-- How the program ends by its words: those that are not taken, and a run.
use Rattle.std.proofs.Common.{◌≡◌, ◌≢◌, ℕ, List, Result, Ok, Err, OnOk, OnErr, MatchResult, sym}
use Rattle.std.proofs.Common.{◌∙◌, inl, inr, ◌⊎◌}
use Rattle.money_core.specs.declared.cause.Cause.{Cause}
use Rattle.clap.specs.Kinds.{IsAmong}
use Rattle.clap.specs.declared.error.kind.ErrorKind.{ErrorKind}
use Rattle.clap.specs.declared.error.kind.ErrorKind.TheVariants.{OutOfMemory}
use Rattle.treasury_spelling.specs.Words.{objections, AreTaken, MayAskForHelp}
use Rattle.treasury.specs.OverFileParts.{AnswersUntaken}
use Rattle.treasury_spelling.proofs.WordLemmas.{taken_fails, help_shown, taken_shows_none}

-- the status of a run that is cut off
pub cut_off_status : {T : Type 0} (result : Result T Cause) (status : ℕ) (P : Type 0)
    → MatchResult result (λ _. status ≡ 0) (λ _. status ≡ 1) → OnErr result P → status ≢ 0 → (status ≡ 1) × P
cut_off_status (Ok x) status P is cut other = absurd (other is)
cut_off_status (Err cause) status P is cut other = (is, cut)

-- the status of a run that is not
pub done_status : {T : Type 0} (result : Result T Cause) (status : ℕ) (P : Type 0)
    → MatchResult result (λ _. status ≡ 0) (λ _. status ≡ 1) → OnOk result P → status ≡ 0 → P
done_status (Ok x) status P is done zero = done
done_status (Err cause) status P is done zero = let clash : 1 ≡ 0 = sym is ∙ zero in absurd cc

-- words that are not taken, and may not ask for help or for the version, are answered 2, or 1 for want of memory
pub untaken_status : {W : Type 0} (words : List (List ℕ)) (kind : ErrorKind) (w0 w1 : W) (status : ℕ)
    → (kind ≡ OutOfMemory) ⊎ IsAmong kind (objections words) → (MayAskForHelp words → ⊥)
    → AnswersUntaken kind w0 w1 status → ((status ≡ 2) ⊎ (status ≡ 1)) × (w1 ≡ w0)
untaken_status words kind w0 w1 status fails helpless (inl (memory, (one, same))) = (inr one, same)
untaken_status words kind w0 w1 status fails helpless (inr (inl (shown, other))) =
    absurd (helpless (help_shown words kind fails shown))
untaken_status words kind w0 w1 status fails helpless (inr (inr (other, (two, same)))) = (inl two, same)

-- where that is 2, nothing is written
pub unwritten_on_2 : {W : Type 0} (kind : ErrorKind) (w0 w1 : W) (status : ℕ) → AnswersUntaken kind w0 w1 status
    → status ≡ 2 → w1 ≡ w0
unwritten_on_2 kind w0 w1 status (inl (memory, (one, same))) two = same
unwritten_on_2 kind w0 w1 status (inr (inl (shown, other))) two = absurd (other two)
unwritten_on_2 kind w0 w1 status (inr (inr (other, (is, same)))) two = same

-- and words that are taken are answered 1, for want of memory
pub taken_untold : {W : Type 0} (words : List (List ℕ)) (kind : ErrorKind) (w0 w1 : W) (status : ℕ)
    → (kind ≡ OutOfMemory) ⊎ IsAmong kind (objections words) → AreTaken words
    → AnswersUntaken kind w0 w1 status → (status ≡ 1) × (w1 ≡ w0)
taken_untold words kind w0 w1 status fails asks (inl (memory, told)) = told
taken_untold words kind w0 w1 status fails asks (inr (inl (shown, other))) =
    absurd (taken_shows_none words kind fails shown asks)
taken_untold words kind w0 w1 status fails asks (inr (inr (other, told))) =
    absurd (other (taken_fails words kind fails asks))
