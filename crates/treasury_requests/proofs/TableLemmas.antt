-- The request of a word, by what is given at its keys: what it lacks if there is none, and that what a request gives
-- makes it again.
use Rattle.std.proofs.Common.{◌≡◌, ℕ, Bool, false, not, ◌||◌, List, Option, Some, None, is_some}
use Rattle.std.proofs.Common.{option_map, option_and_then, cond, refl}
use Rattle.money_core.specs.declared.day.Day.{Day}
use Rattle.journal_lines.specs.Date.{IsDayNumber, printed_date}
use Rattle.journal_lines.specs.DateReading.{date_of}
use Rattle.journal_lines.proofs.DateLemmas.{dates_print, date_reads}
use Rattle.treasury_requests.specs.declared.words.Word.{Word}
use Rattle.treasury_requests.specs.declared.words.Word.TheVariants as word
use Rattle.treasury_requests.specs.declared.words.Key.{Key}
use Rattle.treasury_requests.specs.declared.words.Key.TheVariants as key
use Rattle.treasury_requests.specs.declared.request.Request.{Request}
use Rattle.treasury_requests.specs.declared.request.Request.TheVariants.{Branch, Commodity, Import, Dispatch}
use Rattle.treasury_requests.specs.declared.request.Request.TheVariants.{Receive, Lock}
use Rattle.treasury_requests.specs.declared.request.Request.TheVariants.{Close, Balance, Register, Transit, Journal}
use Rattle.treasury_requests.specs.declared.request.Request.TheVariants.{Branches, Commodities, Accounts, Transfers}
use Rattle.treasury_requests.specs.Request.{request_by, word_of, given_of, day_by, further_day, part_by, HasDayNumbers}
use Rattle.treasury_requests.specs.Lacking.{lacks_by}

lacks_first : {A B : Type 0} (o : Option A) (f : A → Option B) (rest : Bool)
    → ((a : A) → not (is_some (f a)) ≡ rest) → not (is_some (option_and_then f o)) ≡ (not (is_some o) || rest)
lacks_first None f rest h = refl
lacks_first (Some a) f rest h = h a

lacks_last : {A B : Type 0} (o : Option A) (f : A → B) → not (is_some (option_map f o)) ≡ (not (is_some o) || false)
lacks_last None f = refl
lacks_last (Some a) f = refl

lacks_register : (branch account tag : Option (List ℕ)) (from : Option (Option Day))
    → not (is_some (option_and_then (λ b. option_and_then (λ a. option_map (Register b a tag) from) account) branch))
    ≡ (is_some (cond (not (is_some from)) (Some key.From) None)
    || (not (is_some branch) || (not (is_some account) || false)))
lacks_register None account tag None = refl
lacks_register None account tag (Some day) = refl
lacks_register (Some b) None tag None = refl
lacks_register (Some b) None tag (Some day) = refl
lacks_register (Some b) (Some a) tag None = refl
lacks_register (Some b) (Some a) tag (Some day) = refl

-- a word makes no request if a key that it needs is missing, half of a part, or a further day that is no date
pub lacks_iff : (w : Word) (g : Key → Option (List ℕ)) → not (is_some (request_by w g)) ≡ lacks_by w g
lacks_iff word.Branch g = lacks_last (g key.Name) _
lacks_iff word.Commodity g = lacks_last (g key.Sample) _
lacks_iff word.Import g = lacks_first (g key.Branch) _ _ (λ _. lacks_last (g key.Journal) _)
lacks_iff word.Dispatch g =
    lacks_first (g key.Id) _ _ (λ _. lacks_first (g key.From) _ _ (λ _. lacks_first (g key.To) _ _ (λ _.
    lacks_first (day_by g) _ _ (λ _. lacks_first (g key.Amount) _ _ (λ _. lacks_last (g key.Account) _)))))
lacks_iff word.Receive g =
    lacks_first (part_by g) _ _ (λ _. lacks_first (g key.Id) _ _ (λ _. lacks_first (g key.Branch) _ _ (λ _.
    lacks_first (day_by g) _ _ (λ _. lacks_last (g key.Account) _))))
lacks_iff word.Lock g = lacks_first (g key.Branch) _ _ (λ _. lacks_last (day_by g) _)
lacks_iff word.Close g = lacks_first (g key.Branch) _ _ (λ _. lacks_last (day_by g) _)
lacks_iff word.Balance g = lacks_first (g key.Branch) _ _ (λ _. lacks_last (day_by g) _)
lacks_iff word.Register g = lacks_register (g key.Branch) (g key.Account) (g key.Tag) (further_day (g key.From))
lacks_iff word.Transit g = lacks_last (day_by g) _
lacks_iff word.Journal g = lacks_last (g key.Branch) _
lacks_iff word.Branches g = refl
lacks_iff word.Commodities g = refl
lacks_iff word.Accounts g = lacks_last (g key.Branch) _
lacks_iff word.Transfers g = lacks_last (day_by g) _

-- a printed day is read
pub day_reads : (day : Day) → IsDayNumber day → date_of (printed_date day) ≡ Some day
day_reads day range = date_reads (printed_date day) day (dates_print day range).reads

-- what a request gives makes it again
pub request_by-given_of : (r : Request) → HasDayNumbers r → request_by (word_of r) (given_of r) ≡ Some r
request_by-given_of (Branch name) days = refl
request_by-given_of (Commodity sample) days = refl
request_by-given_of (Import branch journal) days = refl
request_by-given_of (Dispatch id from to day amount account) days = rw (day_reads day days) refl
request_by-given_of (Receive id branch day account None) days = rw (day_reads day days) refl
request_by-given_of (Receive id branch day account (Some part)) days = rw (day_reads day days) refl
request_by-given_of (Lock branch day) days = rw (day_reads day days) refl
request_by-given_of (Close branch day accounts into) days = rw (day_reads day days) refl
request_by-given_of (Balance branch day) days = rw (day_reads day days) refl
request_by-given_of (Register branch account tag None) days = refl
request_by-given_of (Register branch account tag (Some day)) days = rw (day_reads day days) refl
request_by-given_of (Transit day) days = rw (day_reads day days) refl
request_by-given_of (Journal branch) days = refl
request_by-given_of Branches days = refl
request_by-given_of Commodities days = refl
request_by-given_of (Accounts branch) days = refl
request_by-given_of (Transfers day) days = rw (day_reads day days) refl
