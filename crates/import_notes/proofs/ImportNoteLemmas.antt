-- all notes of an import
use Rattle.std.proofs.Common.{◌≡◌, ◌∙◌, ℕ, zero, suc, Bool, true, false, ◌&&◌, List, [], ◌∷◌, ◌++◌, length, drop}
use Rattle.std.proofs.Common.{refl, ap, sym, arith, Option, Some, None, append-nil, append_assoc, true≢false}
use Rattle.std.specs.Prelude.{◌↔◌, IsTrue}
use Rattle.std.specs.List.{position_from, flat_map, AllByRecursion}
use Rattle.money_core.specs.declared.style.Style.{Style}
use Rattle.journal_format.specs.declared.txn.Located.{Located}
use Rattle.treasury_state.specs.declared.record.Record.{Record}
use Rattle.treasury_messages.specs.Said.{Said}
use Rattle.treasury_reasons.specs.Reading.{line_of, lines_by}
use Rattle.import_notes.specs.declared.edited.Edited.{Edited}
use Rattle.import_notes.specs.BroughtAccounts.{posted_at, first_ones, brought_said, accounts_said}
use Rattle.import_notes.specs.Dated.{is_dated}
use Rattle.import_notes.specs.Edited.{edited_said, edited_of, first_passed, passes_at, pairs_from}
use Rattle.import_notes.specs.FarDays.{far_notes}
use Rattle.import_notes.specs.Imported.{Imported}
use Rattle.import_notes.specs.ImportNotes.{accounts_if, dated_at, dated_said, notes_with, notes_in}
use Rattle.journal_hints.specs.Listed.{most_notes, listed}
use Rattle.import_notes.specs.Marks.{unmarked_in, no_mark_said, no_marks_said}
use Rattle.import_notes.specs.NewAccount.{is_new_account, has_imported}
use Rattle.journal_hints.specs.OddAmount.{OddText, odd_said, odd_amounts}
use Rattle.journal_hints.specs.OddNotes.{odd_notes}
use Rattle.journal_hints.proofs.BelowLemmas.{Line}
use Rattle.import_notes.proofs.BroughtLemmas.{no_filter}

pub all_drop : {X : Type 0} (P : X → Type 0) (xs : List X) (n : ℕ) → AllByRecursion P xs → AllByRecursion P (drop n xs)
all_drop P xs zero h = h
all_drop P [] (suc n) h = h
all_drop P (x ∷ xs) (suc n) h = all_drop P xs n h.1

pub empty_list : {X : Type 0} (xs : List X) → length xs ≡ 0 → xs ≡ []
empty_list [] e = refl
empty_list (x ∷ xs) e = absurd (omega (arith, e))

-- ---- what was appended, one after another
pub appended_two : {X : Type 0} (a b c x y : List X) → b ≡ a ++ x → c ≡ b ++ y → c ≡ a ++ (x ++ y)
appended_two a b c x y e f = f ∙ (ap (λ l. l ++ y) e ∙ append_assoc a x y)

pub appended_six : {X : Type 0} (a b c d e f g p q r s t u : List X) → b ≡ a ++ p → c ≡ b ++ q → d ≡ c ++ r
    → e ≡ d ++ s → f ≡ e ++ t → g ≡ f ++ u → g ≡ a ++ (p ++ (q ++ (r ++ (s ++ (t ++ u)))))
appended_six a b c d e f g p q r s t u i j k l m n =
    appended_two a b g p (q ++ (r ++ (s ++ (t ++ u)))) i
    (appended_two b c g q (r ++ (s ++ (t ++ u))) j (appended_two c d g r (s ++ (t ++ u)) k
    (appended_two d e g s (t ++ u) l (appended_two e f g t u m n))))

-- ---- kinds of which there is none
none_listed : {X : Type 0} (said : X → List Said) → listed most_notes said [] ≡ []
unfolding listed
none_listed said = refl

none_named : (source branch text lines : List ℕ) (is : List ℕ → Bool) → ((account : List ℕ) → is account ≡ false)
    → accounts_said source branch text lines is ≡ []
unfolding accounts_said
none_named source branch text lines is none =
    ap (brought_said source branch)
    (no_filter (λ (l : Line). is l.1) (λ l. none l.1) (first_ones (posted_at lines text)))

none_edited : (it : Imported) (line : Record → ℕ) (file : List Record) → pairs_from it.held 0 it.new ≡ []
    → listed most_notes (edited_said it line) (edited_of file it.held it.new) ≡ []
none_edited it line file none =
    ap (λ (es : List Edited).
    listed most_notes (edited_said it line) (first_passed (passes_at file it.held) None es)) none
    ∙ none_listed (edited_said it line)

none_odd : (styles : List Style) (source text heads : List ℕ) → odd_amounts styles heads text ≡ []
    → odd_notes styles source text heads ≡ []
unfolding odd_notes listed
none_odd styles source text heads e = ap (λ (xs : List OddText). listed most_notes (odd_said styles source) xs) e

six_none : {X : Type 0} (a b c d e f : List X) → a ≡ [] → b ≡ [] → c ≡ [] → d ≡ [] → e ≡ [] → f ≡ []
    → a ++ (b ++ (c ++ (d ++ (e ++ f)))) ≡ []
six_none a b c d e f p q r s t u = rw (p, q, r, s, t, u) refl

none_unmarked : (source : List ℕ) (line : Record → ℕ) (new : List Record) → unmarked_in line new ≡ []
    → no_marks_said source line new ≡ []
none_unmarked source line new none =
    ap (λ (us : List (ℕ × List ℕ)). listed most_notes (no_mark_said source) us) none
    ∙ none_listed (no_mark_said source)

-- where nothing is found before the text is read again
pub none_with : (styles : List Style) (it : Imported) (names : Bool) (file : List Located) (rows : List Record)
    → far_notes it (line_of file rows) ≡ []
    → odd_amounts styles (flat_map (lines_by file rows) it.new) it.text ≡ []
    → pairs_from it.held 0 it.new ≡ [] → names ≡ false → position_from is_dated 0 it.new ≡ None
    → unmarked_in (line_of file rows) it.new ≡ [] → notes_with styles it names file rows ≡ []
none_with styles it names file rows far odd pairs named dated unmarked =
    let lines = flat_map (lines_by file rows) it.new in
    let line = line_of file rows in
    six_none (far_notes it line) (odd_notes styles it.source it.text lines)
    (listed most_notes (edited_said it line) (edited_of rows it.held it.new))
    (accounts_if names it lines) (dated_said it lines) (no_marks_said it.source line it.new)
    far (none_odd styles it.source it.text lines odd) (none_edited it line rows pairs)
    (ap (λ (t : Bool). accounts_if t it lines) named) (ap (dated_at it lines) dated)
    (none_unmarked it.source line it.new unmarked)

-- ---- accounts: named exactly if one is new, and where none is, the note is empty
named_same : (it : Imported) (lines : List ℕ) (is wanted : Bool)
    → (IsTrue is ↔ ((wanted ≡ true) × ((account : List ℕ) × (is_new_account it.held it.new account ≡ true))))
    → accounts_if is it lines ≡ accounts_if wanted it lines
named_same it lines true wanted said = ap (λ (t : Bool). accounts_if t it lines) (sym (said.0 refl).0)
named_same it lines false false said = refl
named_same it lines false true said =
    sym (none_named it.source it.branch it.text lines (is_new_account it.held it.new)
    (λ account. no_account account (is_new_account it.held it.new account) refl))
  where
    no_account : (account : List ℕ) (t : Bool) → is_new_account it.held it.new account ≡ t → t ≡ false
    no_account account true e = absurd (true≢false (sym (said.1 (refl, (account, e)))))
    no_account account false e = refl

pub named_with : (styles : List Style) (it : Imported) (grown names : Bool) (file : List Located) (rows : List Record)
    → (IsTrue names ↔ (((grown && has_imported it.held) ≡ true)
    × ((account : List ℕ) × (is_new_account it.held it.new account ≡ true))))
    → notes_with styles it names file rows ≡ notes_in styles it grown file rows
named_with styles it grown names file rows said =
    let lines = flat_map (lines_by file rows) it.new in
    ap (λ (xs : List Said). far_notes it (line_of file rows) ++ (odd_notes styles it.source it.text lines
    ++ (listed most_notes (edited_said it (line_of file rows)) (edited_of rows it.held it.new)
    ++ (xs ++ (dated_said it lines ++ no_marks_said it.source (line_of file rows) it.new)))))
    (named_same it lines names (grown && has_imported it.held) said)

-- ---- nothing was appended
pub none_appended : {X : Type 0} (old more : List X) → more ≡ [] → old ≡ old ++ more
none_appended {X = X} old more none = sym (append-nil old) ∙ sym (ap (λ (xs : List X). old ++ xs) none)
