use Rattle.std.proofs.Common.{◌≤◌, ◌++◌, ◌∙◌, List, ℕ, ap, sym, length, arith}
use Rattle.std.specs.Prelude.{filter}
use Rattle.std.specs.List.{flat_map}
use Rattle.std.proofs.lemmas.List.{take_all}
use Rattle.std.specs.Str.{bytes_eq}
use denote.Ref.{Bor}
use Rattle.treasury_state.specs.declared.transfer.Transfer.{Transfer}
use Rattle.treasury_reports.specs.TransitReport.{is_from, is_way, way_rows, branch_names}
use Rattle.treasury_reports.specs.Lent.{lent}
use Rattle.treasury_reports.specs.Written.{rows_in}
use Rattle.treasury_reports.proofs.FilterLemmas.{filter-filter}
use Rattle.treasury_reports.proofs.RowLemmas.{joined_rows}
use Rattle.treasury_reports.proofs.transit.push_from.Goals as goal

pub push_way-requires : goal.push_way-requires
push_way-requires g c =
    let ts = c.args.state.now.transfers in
    let from = c.args.from.now in
    let sent = ap (λ (xs : List (Bor Transfer)). lent xs) c.deref.ensures.value ∙ c.in_ok-sent.ensures.value ∙ ap
    (filter (is_from from c.args.day)) c.transfers.ensures in
    ap (λ (xs : List (Bor Transfer)). lent xs) c.deref-in-targets.ensures.value ∙ c.in_ok-part.ensures.value ∙ ap
    (filter (λ (t : Transfer). bytes_eq t.target c.as_str.result.now)) sent ∙ filter-filter
    (is_from from c.args.day) (λ (t : Transfer). bytes_eq t.target c.as_str.result.now) ts
    ∙ ap (λ (to : List ℕ). filter (is_way from to c.args.day) ts) (c.as_str.ensures ∙ sym c.as_str-in-targets.ensures)

pub returns-clause-ok : goal.returns-clause-ok
returns-clause-ok g c =
    let old = c.args.rows.now.items in
    let layout = c.args.layout in
    let names = c.args.names.now in
    let past : length names ≤ c.targets.to-index = omega arith in
    let rows = way_rows c.args.state.now c.args.day c.args.from.now in
    c.targets.invariant
    ∙ ap (λ (ns : List (List ℕ)). old ++ flat_map (λ (to : List ℕ). rows_in layout (rows to)) ns)
    (take_all c.targets.to-index names past ∙ c.requires)
    ∙ ap (λ (l : List ℕ). old ++ l) (joined_rows layout rows (branch_names c.args.state.now))
