-- A CREATE is understood alike under each schema: it makes its table, or it is refused.
use Rattle.std.proofs.Common.{◌≡◌, ℕ, List, [], codes, Ok, Err, Result, None, Some, Option, true, false, Bool, refl}
use Rattle.std.proofs.Common.{subst, if◌then◌else◌, ◌&&◌, ◌==◌, not, length}
use Rattle.std.specs.Option.{option_or}
use Rattle.sqlite.specs.Schema.{Schema}
use Rattle.sqlite.specs.Command.TheVariants.{CreateTable, Nothing, Insert}
use Rattle.sqlite_schema.specs.Names.{table_named, index_named, view_named}
use Rattle.sqlite_schema.specs.declared.command.Command.{Command}
use Rattle.sqlite_ast.specs.declared.Statement.{Statement}
use Rattle.sqlite_ast.specs.declared.Statement.TheVariants as written
use Rattle.sqlite_resolve.specs.declared.compiled.Compiled.{Compiled}
use Rattle.sqlite_resolve.specs.declared.error.CompileError.{CompileError}
use Rattle.sqlite_resolve.specs.declared.error.CompileError.TheVariants.{Misuse, Unsupported}
use Rattle.sqlite_resolve.specs.Lowering.{Checked, and_then}
use Rattle.sqlite_resolve.specs.Scope.{Name}
use Rattle.sqlite_resolve.specs.Define as define
use Rattle.sqlite_resolve.specs.Compile.{compiled, first, creates, is_attached, with_command}
use Rattle.sqlite.specs.State.{text_of}
use Rattle.sqlite.specs.Listing.{understood, misses_table, if_select, listing_schema}
use Rattle.sqlite_tied.specs.Compute.{everything}
use Rattle.std.proofs.Common.{slice_get}
use Rattle.sqlite.proofs.Callers.{IsPlain, command_of}
use Rattle.sqlite.specs.Source.TheVariants.{Values}
use Rattle.treasury_tables.specs.Tables.{format_table}
use Rattle.treasury_tables.proofs.Texts.{add_format_text, format_terms, create_format_text, create_unit_text}
use Rattle.treasury_tables.proofs.Texts.{create_branch_text, create_entry_text, create_leg_text, create_claim_text}
use Rattle.treasury_tables.proofs.Texts.{create_transfer_text, create_receipt_text}

-- what CREATE TABLE asks of a schema: whether an index or trigger that is kept aside has the name, and what has it
abbrev made_by : Bool → Option ℕ → Option ℕ → List Name → Statement → Checked Command
made_by aside same other formats (written.CreateTable def) =
    if aside then Err Unsupported else
    and_then (creates def.if_missing def.name same other) (λ is_new.
    if is_new then and_then (define.table formats def)
    (λ t. if length t.computed == length t.stamps.places && not def.resolves then Ok CreateTable
    else Err Unsupported) else Ok Nothing)
made_by aside same other formats _ = Err Misuse

abbrev makes : List ℕ → Bool → Option ℕ → Option ℕ → Result Compiled CompileError
makes text aside same other = and_then (first text)
    (λ p. and_then
    (and_then (and_then (made_by aside same other p.formats p.statement) (λ c. Ok (c, None))) (λ found. Ok ([], found)))
    (λ plan. Ok (with_command p plan)))

abbrev told : List ℕ → Result Compiled CompileError → Result Compiled CompileError
told text r = if misses_table r then if_select (compiled listing_schema text) else r

pub record IsCreation (text : List ℕ) (c : Compiled) : Type 0 where
  pub command : c.command ≡ CreateTable
  pub whole : text_of text c ≡ text
  pub returns : c.returning ≡ None
  pub untimed : c.formats ≡ []

same_value : {B E : Type 0} {a b : B} → ◌≡◌ {A = Result B E} (Ok a) (Ok b) → a ≡ b
same_value e = cc

pub creates_format : (s : Schema) (c : Compiled) → understood s create_format_text ≡ Ok c
    → IsCreation create_format_text c
unfolding understood everything
creates_format s = go (is_attached s (codes "format"))
    (option_or (table_named s (codes "format")) (view_named s (codes "format"))) (index_named s (codes "format"))
  where
    go : (aside : Bool) (same other : Option ℕ) (c : Compiled)
        → told create_format_text (makes create_format_text aside same other) ≡ Ok c → IsCreation create_format_text c
    go true same other c e = absurd (cc)
    go false same (Some at) c e = absurd (cc)
    go false (Some at) None c e = absurd (cc)
    go false None None c e = subst (IsCreation create_format_text) (same_value e)
        (record { command = refl; whole = refl; returns = refl; untimed = refl })

pub creates_unit : (s : Schema) (c : Compiled) → understood s create_unit_text ≡ Ok c → IsCreation create_unit_text c
unfolding understood everything
creates_unit s = go (is_attached s (codes "unit"))
    (option_or (table_named s (codes "unit")) (view_named s (codes "unit"))) (index_named s (codes "unit"))
  where
    go : (aside : Bool) (same other : Option ℕ) (c : Compiled)
        → told create_unit_text (makes create_unit_text aside same other) ≡ Ok c → IsCreation create_unit_text c
    go true same other c e = absurd (cc)
    go false same (Some at) c e = absurd (cc)
    go false (Some at) None c e = absurd (cc)
    go false None None c e = subst (IsCreation create_unit_text) (same_value e)
        (record { command = refl; whole = refl; returns = refl; untimed = refl })

pub creates_branch : (s : Schema) (c : Compiled) → understood s create_branch_text ≡ Ok c
    → IsCreation create_branch_text c
unfolding understood everything
creates_branch s = go (is_attached s (codes "branch"))
    (option_or (table_named s (codes "branch")) (view_named s (codes "branch"))) (index_named s (codes "branch"))
  where
    go : (aside : Bool) (same other : Option ℕ) (c : Compiled)
        → told create_branch_text (makes create_branch_text aside same other) ≡ Ok c → IsCreation create_branch_text c
    go true same other c e = absurd (cc)
    go false same (Some at) c e = absurd (cc)
    go false (Some at) None c e = absurd (cc)
    go false None None c e = subst (IsCreation create_branch_text) (same_value e)
        (record { command = refl; whole = refl; returns = refl; untimed = refl })

pub creates_entry : (s : Schema) (c : Compiled) → understood s create_entry_text ≡ Ok c → IsCreation create_entry_text c
unfolding understood everything
creates_entry s = go (is_attached s (codes "entry"))
    (option_or (table_named s (codes "entry")) (view_named s (codes "entry"))) (index_named s (codes "entry"))
  where
    go : (aside : Bool) (same other : Option ℕ) (c : Compiled)
        → told create_entry_text (makes create_entry_text aside same other) ≡ Ok c → IsCreation create_entry_text c
    go true same other c e = absurd (cc)
    go false same (Some at) c e = absurd (cc)
    go false (Some at) None c e = absurd (cc)
    go false None None c e = subst (IsCreation create_entry_text) (same_value e)
        (record { command = refl; whole = refl; returns = refl; untimed = refl })

pub creates_leg : (s : Schema) (c : Compiled) → understood s create_leg_text ≡ Ok c → IsCreation create_leg_text c
unfolding understood everything
creates_leg s = go (is_attached s (codes "leg")) (option_or (table_named s (codes "leg")) (view_named s (codes "leg")))
    (index_named s (codes "leg"))
  where
    go : (aside : Bool) (same other : Option ℕ) (c : Compiled)
        → told create_leg_text (makes create_leg_text aside same other) ≡ Ok c → IsCreation create_leg_text c
    go true same other c e = absurd (cc)
    go false same (Some at) c e = absurd (cc)
    go false (Some at) None c e = absurd (cc)
    go false None None c e = subst (IsCreation create_leg_text) (same_value e)
        (record { command = refl; whole = refl; returns = refl; untimed = refl })

pub creates_claim : (s : Schema) (c : Compiled) → understood s create_claim_text ≡ Ok c → IsCreation create_claim_text c
unfolding understood everything
creates_claim s = go (is_attached s (codes "claim"))
    (option_or (table_named s (codes "claim")) (view_named s (codes "claim"))) (index_named s (codes "claim"))
  where
    go : (aside : Bool) (same other : Option ℕ) (c : Compiled)
        → told create_claim_text (makes create_claim_text aside same other) ≡ Ok c → IsCreation create_claim_text c
    go true same other c e = absurd (cc)
    go false same (Some at) c e = absurd (cc)
    go false (Some at) None c e = absurd (cc)
    go false None None c e = subst (IsCreation create_claim_text) (same_value e)
        (record { command = refl; whole = refl; returns = refl; untimed = refl })

pub creates_transfer : (s : Schema) (c : Compiled) → understood s create_transfer_text ≡ Ok c
    → IsCreation create_transfer_text c
unfolding understood everything
creates_transfer s = go (is_attached s (codes "transfer"))
    (option_or (table_named s (codes "transfer")) (view_named s (codes "transfer"))) (index_named s (codes "transfer"))
  where
    go : (aside : Bool) (same other : Option ℕ) (c : Compiled)
        → told create_transfer_text (makes create_transfer_text aside same other) ≡ Ok c
        → IsCreation create_transfer_text c
    go true same other c e = absurd (cc)
    go false same (Some at) c e = absurd (cc)
    go false (Some at) None c e = absurd (cc)
    go false None None c e = subst (IsCreation create_transfer_text) (same_value e)
        (record { command = refl; whole = refl; returns = refl; untimed = refl })

pub creates_receipt : (s : Schema) (c : Compiled) → understood s create_receipt_text ≡ Ok c
    → IsCreation create_receipt_text c
unfolding understood everything
creates_receipt s = go (is_attached s (codes "receipt"))
    (option_or (table_named s (codes "receipt")) (view_named s (codes "receipt"))) (index_named s (codes "receipt"))
  where
    go : (aside : Bool) (same other : Option ℕ) (c : Compiled)
        → told create_receipt_text (makes create_receipt_text aside same other) ≡ Ok c
        → IsCreation create_receipt_text c
    go true same other c e = absurd (cc)
    go false same (Some at) c e = absurd (cc)
    go false (Some at) None c e = absurd (cc)
    go false None None c e = subst (IsCreation create_receipt_text) (same_value e)
        (record { command = refl; whole = refl; returns = refl; untimed = refl })

pub adds_format : (s : Schema) (at n : ℕ) → table_named s (codes "format") ≡ Some at
    → slice_get s.tables at ≡ Some (record format_table { tree = n })
    → (command_of (understood s add_format_text) ≡ Insert at (Values format_terms 2))
    × IsPlain (understood s add_format_text)
unfolding understood everything
adds_format s at n named is = rw (named, is) (refl, (refl, refl))
