-- Lines have one place after them, and a line after them one cause.
use Rattle.std.proofs.Common.{◌≡◌, ◌≤◌, ◌<◌, ◌+◌, ◌-◌, ◌++◌, ℕ, List, Bool, true, length, drop, arith, refl, ap, ◌∙◌}
use Rattle.std.proofs.Common.{append-nil, sym, subst, Ok}
use Rattle.std.specs.List.{list_all}
use Rattle.std.proofs.lemmas.List.{drop_at}
use Rattle.money_core.specs.declared.style.Style.{Style}
use Rattle.money_core.specs.declared.cause.Cause.{Cause}
use Rattle.journal_format.specs.Line.{is_line}
use Rattle.journal_format.specs.declared.txn.Located.{Located}
use Rattle.journal_format.specs.Machine.{Context, State, opened, list_of, run, begin}
use Rattle.journal_format.specs.declared.state.Context.TheVariants as at
use Rattle.journal_format.specs.Pieces.{ArePieces}
use Rattle.journal_format.specs.LineFaults.{IsFirst}
use Rattle.journal_format.specs.Place.{Open, StandsOpen, transaction_count, faults_at, HasCause}
use Rattle.journal_format.specs.Place.Open.{nothing, entry, directive, skipped, block}
use Rattle.journal_format.proofs.StepLemmas.{ok_same, run-append}
use Rattle.journal_format.proofs.LeadLemmas.{all_parts, PiecesLead, pieces_lead, entry_run, directive_run, skipped_run}
use Rattle.journal_format.proofs.LeadLemmas.{unclosed_run}
use Rattle.journal_format.proofs.FirstLemmas.{one_first}

-- the state after such a place; an entry's header stands on line n
abbrev context_of : Open → ℕ → Context
context_of nothing n = at.Outside
context_of (entry part t) n = at.Entry n t
context_of (directive unit) n = at.Commodities unit
context_of skipped n = at.Skipping
context_of block n = at.Block

-- the place of a state
abbrev place_at : List (List ℕ) → Context → Open
place_at before at.Outside = nothing
place_at before at.Skipping = skipped
place_at before (at.Commodities unit) = directive unit
place_at before (at.Entry n t) = entry (drop (n - 1) before) t
place_at before at.Block = block

front_lead : (styles : List Style) {last : Bool} (front part : List (List ℕ)) (done : List Located)
    → ArePieces styles last front done → list_all is_line (front ++ part) ≡ true → length done ≤ 5000
    → PiecesLead styles last front done
front_lead styles front part done h lines few = pieces_lead styles h (all_parts is_line front part lines).0 few

-- after pieces, lines that run from their state
run_front_part : (styles : List Style) (before front part : List (List ℕ)) (s t : State) → before ≡ front ++ part
    → run styles 1 front begin ≡ Ok s → run styles (length front + 1) part s ≡ Ok t → run styles 1 before begin ≡ Ok t
run_front_part styles before front part s t e r k =
    let from : 1 + length front ≡ length front + 1 = omega arith in
    ap (λ (xs : List (List ℕ)). run styles 1 xs begin) e ∙
    (run-append styles 1 front part begin s r ∙ (ap (λ (n : ℕ). run styles n part s) from ∙ k))

pub open_place_reached : (styles : List Style) (before : List (List ℕ)) (done : List Located) (place : Open)
    → StandsOpen styles before done place → list_all is_line before ≡ true → transaction_count done place ≤ 5000
    → (n : ℕ) × ((run styles 1 before begin ≡ Ok (record { done = done; context = context_of place n }))
    × (place_at before (context_of place n) ≡ place))
unfolding entry_run directive_run skipped_run
open_place_reached styles before done nothing h lines few =
    let k = pieces_lead styles h lines few in
    let outside = k.bare refl in
    let done_is : k.leads.to.done ≡ done =
    sym (append-nil k.leads.to.done) ∙
    (ap (λ (c : Context). k.leads.to.done ++ opened c) (sym outside) ∙ k.leads.all) in
    (0, (k.leads.runs ∙ (λ i. Ok (record { done = done_is i; context = outside i })), refl))
open_place_reached styles before done (entry part t) h lines few =
    let right = subst (λ (xs : List (List ℕ)). list_all is_line xs ≡ true) h.lines lines in
    let k = front_lead styles h.front h.part done h.before right (omega (arith, few)) in
    let s = k.leads.to in
    let m = entry_run styles (length h.front + 1) h.part t s h.holds.1 (all_parts is_line h.front h.part right).1
    k.leads.free (subst (λ (xs : List Located). length xs < 5000) (sym k.leads.all) (omega (arith, few))) in (
      length h.front + 1,
      (
        run_front_part styles before h.front h.part s m.to h.lines k.leads.runs m.runs ∙ ap
            (λ (xs : List Located). Ok (record { done = xs; context = at.Entry (length h.front + 1) t })) k.leads.all,
        ap (λ (xs : List (List ℕ)). entry xs t) part_is,
      ),
    )
  where
    part_is : drop ((length h.front + 1) - 1) before ≡ part
    part_is =
        let less : (length h.front + 1) - 1 ≡ length h.front = omega arith in
        ap (λ (m : ℕ). drop m before) less ∙
        (ap (drop (length h.front)) h.lines ∙ (drop_at h.front h.part (length h.front) refl ∙ h.holds.0))
open_place_reached styles before done (directive unit) h lines few =
    let right = subst (λ (xs : List (List ℕ)). list_all is_line xs ≡ true) h.lines lines in
    let k = front_lead styles h.front h.part done h.before right few in
    let s = k.leads.to in
    let m = directive_run styles (length h.front + 1) h.part unit s h.holds (all_parts is_line h.front h.part right).1
    k.leads.free in (
      0,
      (
        run_front_part styles before h.front h.part s m.to h.lines k.leads.runs m.runs ∙ ap
            (λ (xs : List Located). Ok (record { done = xs; context = at.Commodities unit })) k.leads.all,
        refl,
      ),
    )
open_place_reached styles before done skipped h lines few =
    let right = subst (λ (xs : List (List ℕ)). list_all is_line xs ≡ true) h.lines lines in
    let k = front_lead styles h.front h.part done h.before right few in
    let s = k.leads.to in
    let m = skipped_run styles (length h.front + 1) h.part s h.holds (all_parts is_line h.front h.part right).1
    k.leads.free in (
      0,
      (
        run_front_part styles before h.front h.part s m.to h.lines k.leads.runs m.runs ∙ ap
            (λ (xs : List Located). Ok (record { done = xs; context = at.Skipping })) k.leads.all,
        refl,
      ),
    )
open_place_reached styles before done block h lines few =
    let right = subst (λ (xs : List (List ℕ)). list_all is_line xs ≡ true) h.lines lines in
    let k = front_lead styles h.front h.part done h.before right few in
    let s = k.leads.to in
    let r = unclosed_run styles (length h.front + 1) h.part s h.holds (all_parts is_line h.front h.part right).1
    k.leads.free in (
      0,
      (
        run_front_part styles before h.front h.part s (record { done = list_of s; context = at.Block }) h.lines
            k.leads.runs r ∙ ap (λ (xs : List Located). Ok (record { done = xs; context = at.Block })) k.leads.all,
        refl,
      ),
    )

-- lines have one place after them
pub one_place : (styles : List Style) (before : List (List ℕ)) (d e : List Located) (p q : Open)
    → list_all is_line before ≡ true → StandsOpen styles before d p → transaction_count d p ≤ 5000
    → StandsOpen styles before e q → transaction_count e q ≤ 5000 → (d ≡ e) × (p ≡ q)
one_place styles before d e p q right h few k less =
    let a = open_place_reached styles before d p h right few in
    let b = open_place_reached styles before e q k right less in
    let same : record { done = d; context = context_of p a.0 } ≡ record { done = e; context = context_of q b.0 } =
    ok_same (record { done = d; context = context_of p a.0 }) (record { done = e; context = context_of q b.0 })
    (sym a.1.0 ∙ b.1.0) in
    (ap (λ (s : State). s.done) same, sym a.1.1 ∙ (ap (λ (s : State). place_at before s.context) same ∙ b.1.1))

-- and a line after them one cause
pub one_cause : (styles : List Style) (before : List (List ℕ)) (line : List ℕ) (c d : Cause)
    → list_all is_line before ≡ true → HasCause styles before line c → HasCause styles before line d → c ≡ d
one_cause styles before line c d right h k =
    let same = one_place styles before h.done k.done h.place k.place right h.stands h.few k.stands k.few in
    let moved : IsFirst (faults_at styles (transaction_count k.done k.place) k.place line) c =
    subst (λ (p : Open). IsFirst (faults_at styles (transaction_count k.done p) p line) c) same.1
    (subst (λ (xs : List Located). IsFirst (faults_at styles (transaction_count xs h.place) h.place line) c) same.0
    h.first)
    in
    one_first (faults_at styles (transaction_count k.done k.place) k.place line) c d moved k.first
