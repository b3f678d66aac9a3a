-- The object of a request is read as that request.
use Rattle.std.proofs.Common.{◌≡◌, ◌≤◌, Bool, true, false, None, Some, String, string_bytes, option_and_then}
use Rattle.std.proofs.Common.{refl, sym, ap, ◌∙◌, ◌<◌, ◌^◌, arith, length, decimal, Option, option_map, nat_lt, nat_le}
use Rattle.std.proofs.Common.{subst, ◌==◌, ◌||◌, ◌&&◌, not, ℕ, suc, List, [], ◌∷◌, IfSome, is_some, bytes_eq, nat_cmp}
use Rattle.std.proofs.Common.{Ordering, Less, Equal, Greater}
use Rattle.std.proofs.Math.Path.{fun_ext}
use Rattle.std.proofs.lemmas.Slice.Eq.{bytes_eq-Decides}
use Rattle.std.specs.Option.{option_or}
use Rattle.std.specs.Bool.{⊤}
use Rattle.std.specs.List.{find, list_any}
use Rattle.std.specs.Ordering.{match_ordering}
use Rattle.std.specs.Cmp.Lexicographic.{slice_cmp}
use Rattle.std.proofs.lemmas.Grind.{common_steps}
use Rattle.std.proofs.lemmas.Fmt.{decimal_is_IsNumeral, length-decimal-le}
use Rattle.money_core.proofs.RoundTrip.{all_digits_decimal}
use Rattle.journal_lines.specs.Number.{entry_count}
use Rattle.std.proofs.lemmas.Str.{IsUtf8-string_bytes, IsUtf8-from_is_utf8}
use Rattle.std.specs.Str.{IsUtf8, is_utf8}
use Rattle.std.specs.Char.{is_ascii_digit}
use Rattle.money_core.proofs.ClassLemmas.{all_weaker}
use Rattle.money_core.proofs.Utf8Lemmas.{is_low, utf8_low}
use Rattle.serde_json.specs.Data.{Data, null, boolean, number, string, array, object, Members, no_members, member}
use Rattle.serde_json.specs.Data.{put, depth, members_depth}
use Rattle.serde_json.specs.Find.{get_member, as_str}
use Rattle.serde_json.specs.Read.{read, max_depth}
use Rattle.serde_json.proofs.Views.{get_member-put, get_member-put_other}
use Rattle.money_core.specs.declared.day.Day.{Day}
use Rattle.journal_lines.specs.Date.{IsDayNumber, printed_date}
use Rattle.journal_lines.proofs.DateLemmas.{dates_print}
use Rattle.treasury_requests.specs.declared.words.Word.{Word}
use Rattle.treasury_requests.specs.declared.words.Key.{Key}
use Rattle.treasury_requests.specs.declared.words.Key.TheVariants as key
use Rattle.treasury_requests.specs.declared.request.Spelled.{Spelled}
use Rattle.treasury_requests.specs.declared.request.Terms.{Terms}
use Rattle.treasury_requests.specs.declared.request.Request.{Request}
use Rattle.treasury_requests.specs.declared.request.Request.TheVariants.{Branch, Commodity, Import, Dispatch}
use Rattle.treasury_requests.specs.declared.request.Request.TheVariants.{Receive, Lock}
use Rattle.treasury_requests.specs.declared.request.Request.TheVariants.{Close, Balance, Register, Transit, Journal}
use Rattle.treasury_requests.specs.declared.request.Request.TheVariants.{Branches, Commodities, Accounts, Transfers}
use Rattle.treasury_requests.specs.Words.{key_name, word_name, needed, further, all_words, is_word_named}
use Rattle.treasury_requests.specs.Keys.{text_at, given_in, keys_of, is_odd, is_other_key, names_in, has_form}
use Rattle.treasury_requests.specs.Request.{request_by, word_of, given_of, is_report, is_on_a_book, dry_run_by}
use Rattle.treasury_requests.specs.Request.{if_entries_by, spelled_by, word_in, request_of, spelled, HasDayNumbers}
use Rattle.treasury_requests.proofs.RequestLemmas.{spelled-utf8}
use Rattle.treasury_requests.proofs.TableLemmas.{request_by-given_of}
use Rattle.treasury_client.specs.Sending.{IsSendable, HasText}
use Rattle.treasury_client.specs.Parts.{with_text, with_optional, with_keys, with_request, dry_run_text, with_dry_run}
use Rattle.treasury_client.specs.Parts.{with_terms, object_of}

-- a printed count is read
count_reads : (n : ℕ) → n < 100_000 → entry_count (decimal n) ≡ Some n
unfolding entry_count
count_reads n small =
    let range : n < 2 ^ 64 = omega (arith, small) in
    let numeral = decimal_is_IsNumeral n range in
    let short : length (decimal n) ≤ 5 = length-decimal-le 5 n (omega arith) small range in
    let some : nat_lt 0 (length (decimal n)) ≡ true = grind (arith, common_steps, numeral.0.0) in
    let few : nat_le (length (decimal n)) 5 ≡ true = grind (arith, common_steps, short) in
    rw some (rw few (rw (all_digits_decimal n range) (ap Some numeral.1)))

-- ---- what stands at a key

-- a text is put over what is held where the names are equal, if there is one
abbrev put_over : Bool → Option (List ℕ) → Option (List ℕ) → Option (List ℕ)
put_over true text held = option_or text held
put_over false text held = held

-- what is held at a name once all is put that is given at these keys
abbrev held_by : (Key → Option (List ℕ)) → List Key → List ℕ → Option (List ℕ) → Option (List ℕ)
held_by g [] name held = held
held_by g (k ∷ ks) name held = held_by g ks name (put_over (bytes_eq (key_name k) name) (g k) held)

put_none : (same : Bool) (held : Option (List ℕ)) → held ≡ put_over same None held
put_none true held = refl
put_none false held = refl

put_text : (same : Bool) (key text name : List ℕ) (ms : Members) → bytes_eq key name ≡ same
    → text_at name (object (put key (string text) ms)) ≡ put_over same (Some text) (text_at name (object ms))
put_text true key text name ms is =
    ap (λ (at : List ℕ). text_at at (object (put key (string text) ms))) (sym ((bytes_eq-Decides key name).0 is))
    ∙ ap (option_and_then as_str) (get_member-put key (string text) ms)
put_text false key text name ms is =
    ap (option_and_then as_str) (get_member-put_other name key (string text) ms (λ same.
    (let clash : true ≡ false = sym ((bytes_eq-Decides key name).1 (sym same)) ∙ is in absurd cc)))

put_reads : (key : List ℕ) (o : Option (List ℕ)) (name : List ℕ) (ms : Members)
    → text_at name (object (with_optional key o ms)) ≡ put_over (bytes_eq key name) o (text_at name (object ms))
put_reads key None name ms = put_none (bytes_eq key name) (text_at name (object ms))
put_reads key (Some text) name ms = put_text (bytes_eq key name) key text name ms refl

keys_read : (g : Key → Option (List ℕ)) (ks : List Key) (name : List ℕ) (ms : Members)
    → text_at name (object (with_keys g ks ms)) ≡ held_by g ks name (text_at name (object ms))
keys_read g [] name ms = refl
keys_read g (k ∷ ks) name ms =
    keys_read g ks name (with_optional (key_name k) (g k) ms)
    ∙ ap (held_by g ks name) (put_reads (key_name k) (g k) name ms)

-- what the object of a request holds at a name
abbrev held_in : Request → Terms → List ℕ → Option (List ℕ)
held_in request terms name =
    put_over (bytes_eq (key_name key.IfEntries) name) (option_map decimal terms.if_entries)
    (put_over (bytes_eq (key_name key.DryRun) name) (dry_run_text terms.is_dry_run)
    (held_by (given_of request) (further (word_of request)) name
    (held_by (given_of request) (needed (word_of request)) name
    (put_over (bytes_eq (key_name key.Do) name) (Some (word_name (word_of request))) None))))

object_reads : (s : Spelled) (name : List ℕ) → text_at name (object_of s) ≡ held_in s.request s.terms name
object_reads s name =
    let w = word_of s.request in
    let g = given_of s.request in
    let first = with_text (key_name key.Do) (word_name w) no_members in
    let second = with_keys g (needed w) first in
    let third = with_keys g (further w) second in
    put_reads (key_name key.IfEntries) (option_map decimal s.terms.if_entries) name
    (with_dry_run s.terms.is_dry_run third)
    ∙ ap (put_over (bytes_eq (key_name key.IfEntries) name) (option_map decimal s.terms.if_entries))
    (put_reads (key_name key.DryRun) (dry_run_text s.terms.is_dry_run) name third
    ∙ ap (put_over (bytes_eq (key_name key.DryRun) name) (dry_run_text s.terms.is_dry_run))
    (keys_read g (further w) name second
    ∙ ap (held_by g (further w) name)
    (keys_read g (needed w) name first
    ∙ ap (held_by g (needed w) name) (put_reads (key_name key.Do) (Some (word_name w)) name no_members))))

-- ---- what the row of each word says of that

or_none : (o : Option (List ℕ)) → option_or o None ≡ o
or_none None = refl
or_none (Some text) = refl

-- What is held is what the request gives, and the terms. Its word is found by its name; it may have each key that is
-- put, and those of terms that can be sent.
abbrev Fits : Request → Terms → Type 0
Fits request terms =
    (request_by (word_of request) (λ k. held_in request terms (key_name k))
    ≡ request_by (word_of request) (given_of request))
    × (held_in request terms (key_name key.Do) ≡ Some (word_name (word_of request)))
    × (held_in request terms (key_name key.DryRun) ≡ option_or (dry_run_text terms.is_dry_run) None)
    × (held_in request terms (key_name key.IfEntries) ≡ option_or (option_map decimal terms.if_entries) None)
    × (find (is_word_named (word_name (word_of request))) all_words ≡ Some (word_of request))
    × (list_any (λ k. is_other_key (word_of request) (key_name k)) (needed (word_of request)) ≡ false)
    × (list_any (λ k. is_other_key (word_of request) (key_name k)) (further (word_of request)) ≡ false)
    × ((is_report request || not (is_other_key (word_of request) (key_name key.DryRun))) ≡ true)
    × ((not (is_on_a_book request) || not (is_other_key (word_of request) (key_name key.IfEntries))) ≡ true)

fits : (request : Request) (terms : Terms) → Fits request terms
fits (Branch name) terms = (refl, refl, refl, refl, refl, refl, refl, refl, refl)
fits (Commodity sample) terms = (refl, refl, refl, refl, refl, refl, refl, refl, refl)
fits (Import branch journal) terms = (refl, refl, refl, refl, refl, refl, refl, refl, refl)
fits (Dispatch id from to day amount account) terms = (refl, refl, refl, refl, refl, refl, refl, refl, refl)
fits (Receive id branch day account part) terms = (simp or_none, refl, refl, refl, refl, refl, refl, refl, refl)
fits (Lock branch day) terms = (refl, refl, refl, refl, refl, refl, refl, refl, refl)
fits (Close branch day accounts into) terms = (simp or_none, refl, refl, refl, refl, refl, refl, refl, refl)
fits (Balance branch day) terms = (refl, refl, refl, refl, refl, refl, refl, refl, refl)
fits (Register branch account tag from) terms = (simp or_none, refl, refl, refl, refl, refl, refl, refl, refl)
fits (Transit day) terms = (refl, refl, refl, refl, refl, refl, refl, refl, refl)
fits (Journal branch) terms = (refl, refl, refl, refl, refl, refl, refl, refl, refl)
fits Branches terms = (refl, refl, refl, refl, refl, refl, refl, refl, refl)
fits Commodities terms = (refl, refl, refl, refl, refl, refl, refl, refl, refl)
fits (Accounts branch) terms = (refl, refl, refl, refl, refl, refl, refl, refl, refl)
fits (Transfers day) terms = (refl, refl, refl, refl, refl, refl, refl, refl, refl)

-- ---- the form of the object

-- each member is a text, at a key that the request of the word may have
abbrev IsPlain : Word → Members → Type 0
IsPlain w no_members = ⊤
IsPlain w (member name d ms) = (is_other_key w name ≡ false) × (is_some (as_str d) ≡ true) × IsPlain w ms

plain_put : (w : Word) (name text : List ℕ) (ms : Members) → is_other_key w name ≡ false → IsPlain w ms
    → IsPlain w (put name (string text) ms)
plain_put w name text no_members own plain = (own, refl, tt)
plain_put w name text (member l e ms) own plain =
    by_order (slice_cmp nat_cmp name l) (plain_put w name text ms own plain.2) where
      by_order : (o : Ordering) → IsPlain w (put name (string text) ms)
          → IsPlain w (match_ordering o (member name (string text) (member l e ms))
          (member l (string text) ms) (member l e (put name (string text) ms)))
      by_order Less later = (own, refl, plain)
      by_order Equal later = (plain.0, refl, plain.2)
      by_order Greater later = (plain.0, plain.1, later)

plain_optional : (w : Word) (name : List ℕ) (o : Option (List ℕ)) (ms : Members)
    → (is_some o ≡ true → is_other_key w name ≡ false) → IsPlain w ms → IsPlain w (with_optional name o ms)
plain_optional w name None ms own plain = plain
plain_optional w name (Some text) ms own plain = plain_put w name text ms (own refl) plain

plain_keys : (w : Word) (g : Key → Option (List ℕ)) (ks : List Key) (ms : Members)
    → list_any (λ k. is_other_key w (key_name k)) ks ≡ false → IsPlain w ms → IsPlain w (with_keys g ks ms)
plain_keys w g [] ms own plain = plain
plain_keys w g (k ∷ ks) ms own plain =
    let both = neither (is_other_key w (key_name k)) (list_any (λ k. is_other_key w (key_name k)) ks) own in
    plain_keys w g ks (with_optional (key_name k) (g k) ms) both.1
    (plain_optional w (key_name k) (g k) ms (λ _. both.0) plain) where
      neither : (a b : Bool) → (a || b) ≡ false → (a ≡ false) × (b ≡ false)
      neither true b e = absurd cc
      neither false b e = (refl, e)

-- if no other key is put unless something holds, and that does not, none is
not_other : (a other : Bool) → (a || not other) ≡ true → a ≡ false → other ≡ false
not_other true other may e = absurd cc
not_other false true may e = absurd cc
not_other false false may e = refl

object_is_plain : (s : Spelled) → IsSendable s
    → IsPlain (word_of s.request) (with_terms s.terms (with_request s.request no_members))
object_is_plain s sendable =
    let w = word_of s.request in
    let row = fits s.request s.terms in
    plain_optional w (key_name key.IfEntries) (option_map decimal s.terms.if_entries) _
    (on_book s.terms.if_entries sendable.on_a_book)
    (plain_optional w (key_name key.DryRun) (dry_run_text s.terms.is_dry_run) _
    (dry s.terms.is_dry_run (is_report s.request) refl sendable.dry_run)
    (plain_keys w (given_of s.request) (further w) _ row.6
    (plain_keys w (given_of s.request) (needed w) _ row.5
    (plain_put w (key_name key.Do) (word_name w) no_members refl tt)))) where
      dry : (is : Bool) (report : Bool) → is_report s.request ≡ report → (is_report s.request ≡ true → is ≡ false)
          → is_some (dry_run_text is) ≡ true → is_other_key (word_of s.request) (key_name key.DryRun) ≡ false
      dry false report e none some = absurd cc
      dry true true e none some = (let clash : true ≡ false = none e in absurd cc)
      dry true false e none some = not_other _ _ (fits s.request s.terms).7 e

      on_book : (count : Option ℕ) → IfSome count (λ n. (is_on_a_book s.request ≡ true) × (n < 100_000))
          → is_some (option_map decimal count) ≡ true
          → is_other_key (word_of s.request) (key_name key.IfEntries) ≡ false
      on_book None said some = absurd cc
      on_book (Some n) said some = not_other _ _ (fits s.request s.terms).8 (ap not said.0)

no_other : (w : Word) (ms : Members) → IsPlain w ms → find (is_other_key w) (names_in ms) ≡ None
no_other w no_members plain = refl
no_other w (member name d ms) plain = rw plain.0 (no_other w ms plain.2)

-- a value that is there is a text
text_there : (w : Word) (name : List ℕ) (ms : Members) → IsPlain w ms
    → (is_some (get_member name ms) && not (is_some (option_and_then as_str (get_member name ms)))) ≡ false
text_there w name no_members plain = refl
text_there w name (member l d ms) plain =
    by_order (slice_cmp nat_cmp name l) (get_member name ms) (text_there w name ms plain.2) where
      by_order : (o : Ordering) (rest : Option Data)
          → (is_some rest && not (is_some (option_and_then as_str rest))) ≡ false
          → (is_some (match_ordering o rest (Some d) rest)
          && not (is_some (option_and_then as_str (match_ordering o rest (Some d) rest)))) ≡ false
      by_order Less rest later = later
      by_order Equal rest later = ap not plain.1
      by_order Greater rest later = later

none_odd : (w : Word) (ms : Members) (ks : List Key) → IsPlain w ms → list_any (is_odd (object ms)) ks ≡ false
none_odd w ms [] plain = refl
none_odd w ms (k ∷ ks) plain = rw (text_there w (key_name k) ms plain) (none_odd w ms ks plain)

has_the_form : (w : Word) (ms : Members) → IsPlain w ms → has_form w (object ms) ≡ true
has_the_form w ms plain = rw (no_other w ms plain) (ap not (none_odd w ms (keys_of w) plain))

flat : (w : Word) (ms : Members) → IsPlain w ms → members_depth ms ≡ 0
flat w no_members plain = refl
flat w (member name d ms) plain = rw (flat_text d plain.1, flat w ms plain.2) where
  flat_text : (d : Data) → is_some (as_str d) ≡ true → depth d ≡ 0
  flat_text null e = absurd cc
  flat_text (boolean b) e = absurd cc
  flat_text (number n) e = absurd cc
  flat_text (string s) e = refl
  flat_text (array ds) e = absurd cc
  flat_text (object os) e = absurd cc

-- ---- the request that it spells

dry_run_reads : (dry : Bool) → dry_run_by (dry_run_text dry) ≡ Some dry
dry_run_reads true = refl
dry_run_reads false = refl

if_entries_reads : (on_a_book : Bool) (count : Option ℕ) → IfSome count (λ n. (on_a_book ≡ true) × (n < 100_000))
    → if_entries_by (option_map decimal count) ≡ Some count
if_entries_reads on_a_book None said = refl
if_entries_reads on_a_book (Some n) said = ap (option_map Some) (count_reads n said.1)

spelled_reads : (w : Word) (g : Key → Option (List ℕ)) (s : Spelled) → request_by w g ≡ Some s.request
    → dry_run_by (g key.DryRun) ≡ Some s.terms.is_dry_run → if_entries_by (g key.IfEntries) ≡ Some s.terms.if_entries
    → spelled_by w g ≡ Some s
spelled_reads w g s made dry count = rw (dry, count, made)

object_spells : (s : Spelled) → HasDayNumbers s.request → IsSendable s → request_of (object_of s) ≡ Some s
object_spells s days sendable =
    let w = word_of s.request in
    let row = fits s.request s.terms in
    let given : given_in (object_of s) ≡ (λ k. held_in s.request s.terms (key_name k)) =
    fun_ext (λ k. object_reads s (key_name k)) in
    let made : request_by w (given_in (object_of s)) ≡ Some s.request =
    ap (request_by w) given ∙ (row.0 ∙ request_by-given_of s.request days) in
    let dry : dry_run_by (given_in (object_of s) key.DryRun) ≡ Some s.terms.is_dry_run =
    ap dry_run_by (object_reads s (key_name key.DryRun) ∙ (row.2 ∙ or_none (dry_run_text s.terms.is_dry_run)))
    ∙ dry_run_reads s.terms.is_dry_run in
    let count : if_entries_by (given_in (object_of s) key.IfEntries) ≡ Some s.terms.if_entries =
    ap if_entries_by
    (object_reads s (key_name key.IfEntries) ∙ (row.3 ∙ or_none (option_map decimal s.terms.if_entries)))
    ∙ if_entries_reads (is_on_a_book s.request) s.terms.if_entries sendable.on_a_book in
    let word : word_in (object_of s) ≡ Some w =
    ap (option_and_then (λ text. find (is_word_named text) all_words))
    (object_reads s (key_name key.Do) ∙ row.1) ∙ row.4 in
    let form : has_form w (object_of s) ≡ true =
    has_the_form w (with_terms s.terms (with_request s.request no_members)) (object_is_plain s sendable) in
    rw (word, form) (spelled_reads w (given_in (object_of s)) s made dry count)

-- a text that is read as the object of a request spells it
pub text_spells : {Z : Type 0} (s : Spelled) (text : String Z) (d : Data) → HasDayNumbers s.request → IsSendable s
    → d ≡ object_of s → (depth d ≤ max_depth → read (string_bytes text) ≡ Some d)
    → spelled (string_bytes text) ≡ Some s
text_spells s text d days sendable is reads =
    let shallow : depth d ≡ 1 = ap depth is
    ∙ ap suc (flat (word_of s.request) (with_terms s.terms (with_request s.request no_members))
    (object_is_plain s sendable)) in
    let within : depth d ≤ max_depth = omega (arith, shallow) in
    spelled-utf8 (string_bytes text) (IsUtf8-string_bytes text)
    ∙ (ap (option_and_then request_of) (reads within) ∙ (ap request_of is ∙ object_spells s days sendable))

-- the date of a day is a text
pub date_is_text : (day : Day) → IsDayNumber day → IsUtf8 (printed_date day)
date_is_text day range =
    IsUtf8-from_is_utf8 (printed_date day)
    (utf8_low (printed_date day)
    (all_weaker (λ b. is_ascii_digit b || (b == 45)) is_low (printed_date day)
    (λ b h. grind (arith, common_steps)) (dates_print day range).form))

-- bytes that are no text are none by the test
pub not_text : (bytes : List ℕ) → (IsUtf8 bytes → ⊥) → is_utf8 bytes ≡ false
not_text bytes lacks = by_test (is_utf8 bytes) refl where
  by_test : (t : Bool) → is_utf8 bytes ≡ t → t ≡ false
  by_test true e = absurd (lacks (IsUtf8-from_is_utf8 bytes e))
  by_test false e = refl

-- what a request that has a text has at the key of a journal is a text
pub journal_is_text : (request : Request) (k : Key) (journal : List ℕ) → Some journal ≡ given_of request k
    → k ≡ key.Journal → HasText request → is_utf8 journal ≡ true
journal_is_text request k journal given at has =
    subst (λ (o : Option (List ℕ)). IfSome o (λ bytes. is_utf8 bytes ≡ true))
    (sym (given ∙ ap (given_of request) at)) has
