-- The place of a line (hledger manual, "Journal format"): what stands open after the lines before it, by whole pieces.
-- It says of which kind the line is, and so which faults it may have; its cause is the first of them that it has (own
-- rule).
use Rattle.std.specs.Prelude.{◌≡◌, ◌≤◌, ℕ, ◌+◌, List, [], ◌++◌, length, Bool, true, false}
use Rattle.money_core.specs.declared.style.Style.{Style}
use Rattle.money_core.specs.declared.unit.Unit.{Unit as Commodity}
use Rattle.money_core.specs.declared.cause.Cause.{Cause}
use Rattle.journal_lines.specs.declared.line_kind.LineKind.{LineKind}
use Rattle.journal_lines.specs.declared.line_kind.LineKind.TheVariants as kind
use Rattle.journal_lines.specs.LineKind.{kind_of, is_remark}
use Rattle.journal_lines.specs.Comment.{front_of}
use Rattle.journal_format.specs.declared.txn.Txn.{Txn}
use Rattle.journal_format.specs.declared.txn.Located.{Located}
use Rattle.journal_format.specs.DirectiveForm.{behind_word}
use Rattle.journal_format.specs.Pieces.{IsEntry, IsDirective, IsSkipped, IsUnclosed, ArePieces, transaction_limit}
use Rattle.journal_format.specs.LineFaults.{LineFault, IsFirst, line_faults, header_faults, remark_faults}
use Rattle.journal_format.specs.LineFaults.{posting_faults, directive_faults, format_faults, stray_faults}
use Rattle.journal_format.specs.LineFaults.{unknown_faults, plain_faults}

-- what stands open: nothing, an entry of these lines with its transaction so far, a directive of that commodity, a
-- skipped line, or a block
pub data Open : Type 0 where
  nothing : Open
  entry : List (List ℕ) → Txn → Open
  directive : Commodity → Open
  skipped : Open
  block : Open

-- lines are whole pieces with these transactions, and after them such a part
pub record EndsIn (styles : List Style) (is : List (List ℕ) → Type 0) (ls : List (List ℕ))
    (done : List Located) : Type 0 where
  pub last : Bool
  pub front : List (List ℕ)
  pub part : List (List ℕ)
  pub before : ArePieces styles last front done
  pub holds : is part
  pub lines : ls ≡ front ++ part

-- this stands open after the lines, and these transactions stand before it
abbrev pub StandsOpen : List Style → List (List ℕ) → List Located → Open → Type 0
StandsOpen styles ls done nothing = ArePieces styles false ls done
StandsOpen styles ls done (entry part t) = EndsIn styles (λ p. (p ≡ part) × IsEntry styles p t) ls done
StandsOpen styles ls done (directive unit) = EndsIn styles (IsDirective styles unit) ls done
StandsOpen styles ls done skipped = EndsIn styles IsSkipped ls done
StandsOpen styles ls done block = EndsIn styles IsUnclosed ls done

-- how many transactions there are
abbrev pub transaction_count : List Located → Open → ℕ
transaction_count done nothing = length done
transaction_count done (entry part t) = length done + 1
transaction_count done (directive unit) = length done
transaction_count done skipped = length done
transaction_count done block = length done

-- the faults of an indented line, which may be a comment line
abbrev pub indented_faults : List Style → Open → List ℕ → Bool → List LineFault
indented_faults styles nothing line remark = stray_faults line
indented_faults styles (entry part t) line true = remark_faults styles part t line
indented_faults styles (entry part t) line false = posting_faults styles part t line
indented_faults styles (directive unit) line remark = line_faults line [] (format_faults styles unit line)
indented_faults styles skipped line remark = plain_faults line
indented_faults styles block line remark = plain_faults line

-- of a line of that kind outside a block, after so many transactions
abbrev pub kind_faults : List Style → ℕ → Open → List ℕ → LineKind → List LineFault
kind_faults styles count place line kind.Header = header_faults styles count line
kind_faults styles count place line kind.Indented = indented_faults styles place line (is_remark line)
kind_faults styles count place line kind.Commodity =
    line_faults line [] (directive_faults styles (behind_word (front_of line)))
kind_faults styles count place line kind.Unknown = unknown_faults line
kind_faults styles count place line kind.Blank = plain_faults line
kind_faults styles count place line kind.Comment = plain_faults line
kind_faults styles count place line kind.Block = plain_faults line
kind_faults styles count place line kind.Skipped = plain_faults line

-- of a line in its place; in a block the kind does not matter
abbrev pub faults_at : List Style → ℕ → Open → List ℕ → List LineFault
faults_at styles count block line = plain_faults line
faults_at styles count nothing line = kind_faults styles count nothing line (kind_of line)
faults_at styles count (entry part t) line = kind_faults styles count (entry part t) line (kind_of line)
faults_at styles count (directive unit) line = kind_faults styles count (directive unit) line (kind_of line)
faults_at styles count skipped line = kind_faults styles count skipped line (kind_of line)

-- after these lines the line has that cause: the first fault in its place
pub record HasCause (styles : List Style) (before : List (List ℕ)) (line : List ℕ) (c : Cause) : Type 0 where
  pub done : List Located
  pub place : Open
  pub stands : StandsOpen styles before done place
  pub few : transaction_count done place ≤ transaction_limit
  pub first : IsFirst (faults_at styles (transaction_count done place) place line) c
