-- The reports that may be asked for (own rule; docs/RULES.md, "Reports"), by the rows of `treasury_reports`; in
-- JSON each is an object that has its rows (docs/FORMATS.md, "Replies in JSON").
use Rattle.std.specs.Prelude.{ℕ, List, [], ◌∷◌, ◌++◌, map, codes, Bool, true}
use Rattle.std.specs.Option.{option_map_or}
use Rattle.json_text.specs.JsonText.{Held, rows, object_text}
use Rattle.http_request.specs.declared.call.Form.{Form}
use Rattle.http_request.specs.declared.call.Form.TheVariants as form
use Rattle.treasury_state.specs.Federation.{Federation, has_branch}
use Rattle.treasury_reports.specs.declared.rows.Layout.TheVariants.{Text}
use Rattle.treasury_reports.specs.Rows.{Row, strings_of, report_as}
use Rattle.treasury_reports.specs.BalanceReport.{balance_rows}
use Rattle.treasury_reports.specs.RegisterReport.{register_rows}
use Rattle.treasury_reports.specs.TransitReport.{transit_rows}
use Rattle.treasury_reports.specs.JournalReport.{journal_rows}
use Rattle.treasury_reports.specs.BranchesReport.{branches_rows}
use Rattle.treasury_reports.specs.CommoditiesReport.{commodities_rows}
use Rattle.treasury_reports.specs.AccountsReport.{accounts_rows}
use Rattle.treasury_reports.specs.TransfersReport.{transfers_rows}
use Rattle.treasury_requests.specs.declared.words.Key.TheVariants as key
use Rattle.treasury_requests.specs.declared.request.Request.{Request}
use Rattle.treasury_requests.specs.declared.request.Request.TheVariants.{Balance, Register, Transit, Journal}
use Rattle.treasury_requests.specs.declared.request.Request.TheVariants.{Branches, Commodities, Accounts, Transfers}
use Rattle.treasury_requests.specs.Request.{given_of}

-- the rows of a report; a command has none
abbrev pub report_rows : Federation → Request → List Row
report_rows f (Balance name day) = balance_rows f name day
report_rows f (Register name account tag from) = register_rows f name account tag from
report_rows f (Transit day) = transit_rows f day
report_rows f (Journal name) = journal_rows f name
report_rows f Branches = branches_rows f
report_rows f Commodities = commodities_rows f
report_rows f (Accounts name) = accounts_rows f name
report_rows f (Transfers day) = transfers_rows f day
report_rows f _ = []

-- its lines
abbrev pub report_text : Federation → Request → List ℕ
report_text f report = report_as Text (report_rows f report)

-- the members of the object of a report
abbrev pub report_members : Federation → Request → List (List ℕ × Held)
report_members f report = (codes "lines", rows (map strings_of (report_rows f report))) ∷ []

-- the object of a report, with a line feed after it
abbrev pub report_json : Federation → Request → List ℕ
report_json f report = object_text (report_members f report) ++ codes "\n"

-- what a report is answered with in a form: its lines, or its object
abbrev pub report_in : Form → Federation → Request → List ℕ
report_in form.Text f report = report_text f report
report_in form.Json f report = report_json f report

-- the branch that a report is on is there; those on all branches ask for none
abbrev pub has_its_branch : Federation → Request → Bool
has_its_branch f report = option_map_or (has_branch f) (given_of report key.Branch) true
