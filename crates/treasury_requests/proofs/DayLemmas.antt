-- The days of a request that is spelled are of the years 1 to 9999.
use Rattle.std.proofs.Common.{◌≡◌, ℕ, Bool, true, false, List, Option, Some, None, if◌then◌else◌}
use Rattle.std.proofs.Common.{option_map, option_and_then, IfSome, refl, subst}
use Rattle.std.specs.Str.{is_utf8}
use Rattle.serde_json.specs.Data.{Data}
use Rattle.serde_json.specs.Read.{read}
use Rattle.money_core.specs.declared.day.Day.{Day}
use Rattle.journal_lines.specs.Date.{IsDayNumber}
use Rattle.journal_lines.specs.DateReading.{date_of}
use Rattle.journal_lines.proofs.DateLemmas.{dates_bound}
use Rattle.treasury_requests.specs.declared.words.Word.{Word}
use Rattle.treasury_requests.specs.declared.words.Word.TheVariants as word
use Rattle.treasury_requests.specs.declared.words.Key.{Key}
use Rattle.treasury_requests.specs.declared.words.Key.TheVariants as key
use Rattle.treasury_requests.specs.declared.request.Terms.{Terms}
use Rattle.treasury_requests.specs.declared.request.Spelled.{Spelled}
use Rattle.treasury_requests.specs.declared.request.Request.{Request}
use Rattle.treasury_requests.specs.declared.request.Request.TheVariants.{Branches, Commodities}
use Rattle.treasury_requests.specs.Keys.{given_in, has_form}
use Rattle.treasury_requests.specs.Request.{request_by, terms_by, spelled_by, word_in, request_of, spelled, day_by}
use Rattle.treasury_requests.specs.Request.{further_day}
use Rattle.treasury_requests.specs.Request.{part_by, HasDayNumbers}

-- each request that is made has its days
abbrev AllDays : Option Request → Type 0
AllDays o = (r : Request) → o ≡ Some r → HasDayNumbers r

days_first : {A : Type 0} (o : Option A) (f : A → Option Request) → ((a : A) → o ≡ Some a → AllDays (f a))
    → AllDays (option_and_then f o)
days_first None f h r e = absurd cc
days_first (Some a) f h r e = h a refl r e

days_last : {A : Type 0} (o : Option A) (f : A → Request) → ((a : A) → o ≡ Some a → HasDayNumbers (f a))
    → AllDays (option_map f o)
days_last None f h r e = absurd cc
days_last (Some a) f h r e = (let same : f a ≡ r = cc in subst HasDayNumbers same (h a refl))

is_day : (text : Option (List ℕ)) (day : Day) → option_and_then date_of text ≡ Some day → IsDayNumber day
is_day None day e = absurd cc
is_day (Some text) day e = dates_bound text day e

is_further_day : (text : Option (List ℕ)) (day : Option Day) → further_day text ≡ Some day → IfSome day IsDayNumber
is_further_day None day e = (let same : None ≡ day = cc in subst (λ (d : Option Day). IfSome d IsDayNumber) same tt)
is_further_day (Some text) day e = by_date (date_of text) refl e
  where
    by_date : (o : Option Day) → date_of text ≡ o → option_map Some o ≡ Some day → IfSome day IsDayNumber
    by_date None is e = absurd cc
    by_date (Some read) is e =
        let same : Some read ≡ day = cc in
        subst (λ (d : Option Day). IfSome d IsDayNumber) same (dates_bound text read is)

days-request_by : (w : Word) (g : Key → Option (List ℕ)) → AllDays (request_by w g)
days-request_by word.Branch g = days_last (g key.Name) _ (λ _ _. tt)
days-request_by word.Commodity g = days_last (g key.Sample) _ (λ _ _. tt)
days-request_by word.Import g = days_first (g key.Branch) _ (λ _ _. days_last (g key.Journal) _ (λ _ _. tt))
days-request_by word.Dispatch g =
    days_first (g key.Id) _ (λ _ _. days_first (g key.From) _ (λ _ _. days_first (g key.To) _ (λ _ _.
    days_first (day_by g) _ (λ d e. days_first (g key.Amount) _ (λ _ _. days_last (g key.Account) _ (λ _ _.
    is_day (g key.Day) d e))))))
days-request_by word.Receive g =
    days_first (part_by g) _ (λ _ _. days_first (g key.Id) _ (λ _ _. days_first (g key.Branch) _ (λ _ _.
    days_first (day_by g) _ (λ d e. days_last (g key.Account) _ (λ _ _. is_day (g key.Day) d e)))))
days-request_by word.Lock g = days_first (g key.Branch) _ (λ _ _. days_last (day_by g) _ (is_day (g key.Day)))
days-request_by word.Close g = days_first (g key.Branch) _ (λ _ _. days_last (day_by g) _ (is_day (g key.Day)))
days-request_by word.Balance g = days_first (g key.Branch) _ (λ _ _. days_last (day_by g) _ (is_day (g key.Day)))
days-request_by word.Register g =
    days_first (g key.Branch) _ (λ _ _. days_first (g key.Account) _ (λ _ _. days_last (further_day (g key.From)) _
    (is_further_day (g key.From))))
days-request_by word.Transit g = days_last (day_by g) _ (is_day (g key.Day))
days-request_by word.Journal g = days_last (g key.Branch) _ (λ _ _. tt)
days-request_by word.Branches g = λ r e. (let same : Branches ≡ r = cc in subst HasDayNumbers same tt)
days-request_by word.Commodities g = λ r e. (let same : Commodities ≡ r = cc in subst HasDayNumbers same tt)
days-request_by word.Accounts g = days_last (g key.Branch) _ (λ _ _. tt)
days-request_by word.Transfers g = days_last (day_by g) _ (is_day (g key.Day))

on_terms_days : (r : Option Request) (t : Option Terms) (s : Spelled) → AllDays r
    → option_and_then (λ terms. option_map (λ request. record { request = request; terms = terms }) r) t ≡ Some s
    → HasDayNumbers s.request
on_terms_days r None s h e = absurd cc
on_terms_days None (Some terms) s h e = absurd cc
on_terms_days (Some r) (Some terms) s h e =
    let made : Spelled = record { request = r; terms = terms } in
    let same : made ≡ s = cc in subst (λ (s : Spelled). HasDayNumbers s.request) same (h r refl)

form_days : (t : Bool) (w : Word) (d : Data) (s : Spelled)
    → (if t then spelled_by w (given_in d) else None) ≡ Some s → HasDayNumbers s.request
form_days true w d s e =
    on_terms_days (request_by w (given_in d)) (terms_by (given_in d)) s (days-request_by w (given_in d)) e
form_days false w d s e = absurd cc

word_days : (o : Option Word) (d : Data) (s : Spelled)
    → option_and_then (λ w. if has_form w d then spelled_by w (given_in d) else None) o ≡ Some s
    → HasDayNumbers s.request
word_days None d s e = absurd cc
word_days (Some w) d s e = form_days (has_form w d) w d s e

json_days : (o : Option Data) (s : Spelled) → option_and_then request_of o ≡ Some s → HasDayNumbers s.request
json_days None s e = absurd cc
json_days (Some d) s e = word_days (word_in d) d s e

pub spelled_days : (bytes : List ℕ) (s : Spelled) → spelled bytes ≡ Some s → HasDayNumbers s.request
unfolding spelled
spelled_days bytes s e = by_utf8 (is_utf8 bytes) e
  where
    by_utf8 : (t : Bool) → (if t then option_and_then request_of (read bytes) else None) ≡ Some s
        → HasDayNumbers s.request
    by_utf8 true e = json_days (read bytes) s e
    by_utf8 false e = absurd cc
