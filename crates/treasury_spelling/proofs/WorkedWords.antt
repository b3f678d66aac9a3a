-- What words ask for, worked out by hand, whatever name the program is called by.
use Rattle.std.specs.Prelude.{◌≡◌, ℕ, true, false, List, [], ◌∷◌, Some, option_and_then, option_map, codes, refl}
use Rattle.clap.specs.declared.error.kind.ErrorKind.TheVariants.{UnknownArgument, InvalidSubcommand, ArgumentConflict}
use Rattle.clap.specs.declared.error.kind.ErrorKind.TheVariants.{MissingRequiredArgument, ValueValidation, DisplayHelp}
use Rattle.clap.specs.declared.error.kind.ErrorKind.TheVariants.{DisplayVersion}
use Rattle.clap.specs.declared.error.kind.ErrorKind.TheVariants.{DisplayHelpOnMissingArgumentOrSubcommand}
use Rattle.clap.proofs.OnLiterals.{clap_on_literals}
use Rattle.clap.specs.Walk.{first_of}
use Rattle.journal_lines.specs.DateReading.{date_of}
use Rattle.treasury_requests.specs.declared.request.Request.TheVariants.{Branch, Balance, Journal, Branches}
use Rattle.treasury_spelling.specs.Words.{objections, named}
use Rattle.treasury_spelling.specs.Spelling.{request_in, terms_in, is_explained, number_spelled}

pub run_is_asked_for : (name : List ℕ) → objections (name ∷ codes "run" ∷ []) ≡ []
unfolding clap_on_literals objections named
run_is_asked_for name = refl

pub no_word : (name : List ℕ) → objections (name ∷ []) ≡ DisplayHelpOnMissingArgumentOrSubcommand ∷ []
unfolding clap_on_literals objections named
no_word name = refl

pub not_even_a_name : objections [] ≡ DisplayHelpOnMissingArgumentOrSubcommand ∷ []
unfolding clap_on_literals objections named
not_even_a_name = refl

pub unknown_word : (name : List ℕ) → objections (name ∷ codes "fly" ∷ []) ≡ UnknownArgument ∷ InvalidSubcommand ∷ []
unfolding clap_on_literals objections named
unknown_word name = refl

pub further_word : (name : List ℕ) → objections (name ∷ codes "run" ∷ codes "fast" ∷ []) ≡ UnknownArgument ∷ []
unfolding clap_on_literals objections named
further_word name = refl

-- a run may be explained, and has no other flag; the flag has no value

pub explained_run_is_asked_for : (name : List ℕ)
    → option_map (λ p. is_explained p.1) (named (name ∷ codes "run" ∷ codes "--explain" ∷ [])) ≡ Some true
unfolding clap_on_literals named
explained_run_is_asked_for name = refl

pub run_alone_is_not_explained : (name : List ℕ)
    → option_map (λ p. is_explained p.1) (named (name ∷ codes "run" ∷ [])) ≡ Some false
unfolding clap_on_literals named
run_alone_is_not_explained name = refl

pub no_run_is_dry : (name : List ℕ) → objections (name ∷ codes "run" ∷ codes "--dry-run" ∷ []) ≡ UnknownArgument ∷ []
unfolding clap_on_literals objections named
no_run_is_dry name = refl

pub help_is_asked_for : (name : List ℕ) → objections (name ∷ codes "--help" ∷ []) ≡ DisplayHelp ∷ []
unfolding clap_on_literals objections named
help_is_asked_for name = refl

pub version_is_asked_for : (name : List ℕ) → objections (name ∷ codes "--version" ∷ []) ≡ DisplayVersion ∷ []
unfolding clap_on_literals objections named
version_is_asked_for name = refl

-- words over a database file

-- a balance without a day is that through the last day, and no other report may lack its day
pub balance_of_all_days : (name : List ℕ)
    → option_and_then (λ p. request_in p.0 p.1)
    (named (name ∷ codes "balance" ∷ codes "--db=t.db" ∷ codes "--branch=north" ∷ []))
    ≡ option_map (Balance (codes "north")) (date_of (codes "9999-12-31"))
unfolding clap_on_literals named
balance_of_all_days name = refl

pub transit_of_no_day : (name : List ℕ)
    → objections (name ∷ codes "transit" ∷ codes "--db=t.db" ∷ []) ≡ MissingRequiredArgument ∷ []
unfolding clap_on_literals objections named
transit_of_no_day name = refl

pub balance_is_taken : (name : List ℕ)
    → objections (name ∷ codes "balance" ∷ codes "--db" ∷ codes "t.db" ∷ codes "--branch" ∷ codes "north"
    ∷ codes "--day" ∷ codes "2024-01-31" ∷ []) ≡ []
unfolding clap_on_literals objections named
balance_is_taken name = refl

pub no_file_is_given : (name : List ℕ)
    → objections (name ∷ codes "transit" ∷ codes "--day" ∷ codes "2024-01-31" ∷ []) ≡ MissingRequiredArgument ∷ []
unfolding clap_on_literals objections named
no_file_is_given name = refl

pub at_is_taken : (name : List ℕ)
    → objections (name ∷ codes "balance" ∷ codes "--at" ∷ codes "8040" ∷ codes "--branch" ∷ codes "north"
    ∷ codes "--day" ∷ codes "2024-01-31" ∷ []) ≡ []
unfolding clap_on_literals objections named
at_is_taken name = refl

pub file_and_port_are_given : (name : List ℕ)
    → objections (name ∷ codes "transit" ∷ codes "--day" ∷ codes "2024-01-31" ∷ codes "--db" ∷ codes "t.db"
    ∷ codes "--at" ∷ codes "8040" ∷ []) ≡ ArgumentConflict ∷ []
unfolding clap_on_literals objections named
file_and_port_are_given name = refl

pub no_port_is_zero : (name : List ℕ)
    → objections (name ∷ codes "branches" ∷ codes "--at" ∷ codes "0" ∷ []) ≡ ValueValidation ∷ []
unfolding clap_on_literals objections named
no_port_is_zero name = refl

pub largest_port : (name : List ℕ) → objections (name ∷ codes "branches" ∷ codes "--at=65535" ∷ []) ≡ []
unfolding clap_on_literals objections named
largest_port name = refl

pub port_is_out_of_range : (name : List ℕ)
    → objections (name ∷ codes "branches" ∷ codes "--at=65536" ∷ []) ≡ ValueValidation ∷ []
unfolding clap_on_literals objections named
port_is_out_of_range name = refl

pub port_is_the_number_that_is_given : (name : List ℕ)
    → option_and_then (λ p. option_map number_spelled (first_of (codes "at") p.1))
    (named (name ∷ codes "branches" ∷ codes "--at" ∷ codes "8040" ∷ [])) ≡ Some 8040
unfolding clap_on_literals named
port_is_the_number_that_is_given name = refl

pub treasuries_are_made_in_files : (name : List ℕ)
    → objections (name ∷ codes "init" ∷ codes "--at=8040" ∷ []) ≡ UnknownArgument ∷ []
unfolding clap_on_literals objections named
treasuries_are_made_in_files name = refl

pub option_is_given_twice : (name : List ℕ)
    → objections (name ∷ codes "journal" ∷ codes "--db" ∷ codes "t.db" ∷ codes "--db" ∷ codes "t.db" ∷ codes "--branch"
    ∷ codes "north" ∷ []) ≡ ArgumentConflict ∷ []
unfolding clap_on_literals objections named
option_is_given_twice name = refl

pub serve_is_taken : (name : List ℕ)
    → objections (name ∷ codes "serve" ∷ codes "--db" ∷ codes "t.db" ∷ codes "--port" ∷ codes "65535"
    ∷ codes "--requests" ∷ codes "4294967295" ∷ []) ≡ []
unfolding clap_on_literals objections named
serve_is_taken name = refl

pub port_is_too_large : (name : List ℕ)
    → objections (name ∷ codes "serve" ∷ codes "--db" ∷ codes "t.db" ∷ codes "--port" ∷ codes "65536"
    ∷ codes "--requests" ∷ codes "1" ∷ []) ≡ ValueValidation ∷ []
unfolding clap_on_literals objections named
port_is_too_large name = refl

pub number_of_connections_is_too_large : (name : List ℕ)
    → objections (name ∷ codes "serve" ∷ codes "--db" ∷ codes "t.db" ∷ codes "--port" ∷ codes "0" ∷ codes "--requests"
    ∷ codes "4294967296" ∷ []) ≡ ValueValidation ∷ []
unfolding clap_on_literals objections named
number_of_connections_is_too_large name = refl

pub journal_is_asked_for : (name : List ℕ)
    → option_and_then (λ p. request_in p.0 p.1)
    (named (name ∷ codes "journal" ∷ codes "--db" ∷ codes "t.db" ∷ codes "--branch" ∷ codes "north" ∷ []))
    ≡ Some (Journal (codes "north"))
unfolding clap_on_literals named
journal_is_asked_for name = refl

pub branch_is_asked_for : (name : List ℕ)
    → option_and_then (λ p. request_in p.0 p.1) (named (name ∷ codes "branch" ∷ codes "--db=t.db" ∷ codes "north" ∷ []))
    ≡ Some (Branch (codes "north"))
unfolding clap_on_literals named
branch_is_asked_for name = refl

pub branches_are_asked_for : (name : List ℕ)
    → option_and_then (λ p. request_in p.0 p.1) (named (name ∷ codes "branches" ∷ codes "--db" ∷ codes "t.db" ∷ []))
    ≡ Some Branches
unfolding clap_on_literals named
branches_are_asked_for name = refl

-- a dry run is asked for by the flag alone, wherever it stands, and once

pub dry_run_is_asked_for : (name : List ℕ)
    → option_map (λ p. (terms_in p.1).is_dry_run)
    (named (name ∷ codes "branch" ∷ codes "--dry-run" ∷ codes "--db=t.db" ∷ codes "north" ∷ [])) ≡ Some true
unfolding clap_on_literals named
dry_run_is_asked_for name = refl

pub dry_run_is_not_asked_for : (name : List ℕ)
    → option_map (λ p. (terms_in p.1).is_dry_run)
    (named (name ∷ codes "branch" ∷ codes "--db=t.db" ∷ codes "north" ∷ []))
    ≡ Some false
unfolding clap_on_literals named
dry_run_is_not_asked_for name = refl

pub branch_of_a_dry_run : (name : List ℕ)
    → option_and_then (λ p. request_in p.0 p.1)
    (named (name ∷ codes "branch" ∷ codes "--db=t.db" ∷ codes "north" ∷ codes "--dry-run" ∷ []))
    ≡ Some (Branch (codes "north"))
unfolding clap_on_literals named
branch_of_a_dry_run name = refl

pub dry_run_has_no_value : (name : List ℕ)
    → objections (name ∷ codes "branch" ∷ codes "--db=t.db" ∷ codes "north" ∷ codes "--dry-run" ∷ codes "yes" ∷ [])
    ≡ UnknownArgument ∷ []
unfolding clap_on_literals objections named
dry_run_has_no_value name = refl

pub report_has_no_dry_run : (name : List ℕ)
    → objections (name ∷ codes "journal" ∷ codes "--db=t.db" ∷ codes "--branch=north" ∷ codes "--dry-run" ∷ [])
    ≡ UnknownArgument ∷ []
unfolding clap_on_literals objections named
report_has_no_dry_run name = refl
