-- Declared styles only grow: what is printable under some is printable under them and more, with the same texts.
use Rattle.std.specs.Prelude.{◌≡◌, List, ◌++◌}
use Rattle.money_core.specs.declared.style.Style.{Style}
use Rattle.journal_format.specs.declared.txn.Txn.{Txn}
use Rattle.journal_format.specs.CanonicalText.{txn_text, body_text}
use Rattle.journal_format.specs.Printable.{IsPrintable}

-- a transaction stays printable when styles are appended to those that are declared, and its texts stay the same
pub record StaysPrintable (styles more : List Style) (t : Txn) : Type 0 where
  pub printable : IsPrintable (styles ++ more) t
  pub text : txn_text (styles ++ more) t ≡ txn_text styles t
  pub body : body_text (styles ++ more) t ≡ body_text styles t
