-- What the texts of the statements of 8 rows compile to.
use Rattle.std.proofs.Common.{◌≡◌, ℕ, List, [], ◌∷◌, codes, refl}
use Rattle.sqlite.specs.declared.types.Value.TheVariants.{Null}
use Rattle.sqlite.specs.Command.TheVariants.{Insert}
use Rattle.sqlite.specs.Source.TheVariants.{Values}
use Rattle.sqlite.specs.Term.{Term, lit, col}
use Rattle.sqlite.specs.Listing.{understood}
use Rattle.sqlite_tied.specs.Compute.{everything}
use Rattle.sqlite.proofs.Callers.{IsPlain, command_of}
use Rattle.treasury_tables.specs.Tables.{store_schema}

abbrev pub add_entry_eights_text : List ℕ
add_entry_eights_text = codes "INSERT INTO entry (branch, nr, day, mark, body) VALUES (?1, ?2, ?3, ?4, ?5), (?6, ?7, ?8, ?9, ?10), (?11, ?12, ?13, ?14, ?15), (?16, ?17, ?18, ?19, ?20), (?21, ?22, ?23, ?24, ?25), (?26, ?27, ?28, ?29, ?30), (?31, ?32, ?33, ?34, ?35), (?36, ?37, ?38, ?39, ?40)"

abbrev pub entry_eights_terms : List Term
entry_eights_terms = lit Null ∷ col 0 0 ∷ col 0 1 ∷ col 0 2 ∷ col 0 3 ∷ col 0 4 ∷ lit Null ∷ col 0 5 ∷ col 0 6 ∷ col 0 7
    ∷ col 0 8 ∷ col 0 9 ∷ lit Null ∷ col 0 10 ∷ col 0 11 ∷ col 0 12 ∷ col 0 13 ∷ col 0 14 ∷ lit Null ∷ col 0 15
    ∷ col 0 16 ∷ col 0 17 ∷ col 0 18 ∷ col 0 19 ∷ lit Null ∷ col 0 20 ∷ col 0 21 ∷ col 0 22 ∷ col 0 23 ∷ col 0 24
    ∷ lit Null ∷ col 0 25 ∷ col 0 26 ∷ col 0 27 ∷ col 0 28 ∷ col 0 29 ∷ lit Null ∷ col 0 30 ∷ col 0 31 ∷ col 0 32
    ∷ col 0 33 ∷ col 0 34 ∷ lit Null ∷ col 0 35 ∷ col 0 36 ∷ col 0 37 ∷ col 0 38 ∷ col 0 39 ∷ []

pub add_entry_eights_is : (command_of (understood store_schema add_entry_eights_text)
    ≡ Insert 3 (Values entry_eights_terms 6)) × IsPlain (understood store_schema add_entry_eights_text)
unfolding understood everything
add_entry_eights_is = (refl, (refl, refl))

abbrev pub add_leg_eights_text : List ℕ
add_leg_eights_text = codes "INSERT INTO leg (branch, entry, nr, account, unit, qty) VALUES (?1, ?2, ?3, ?4, ?5, ?6), (?7, ?8, ?9, ?10, ?11, ?12), (?13, ?14, ?15, ?16, ?17, ?18), (?19, ?20, ?21, ?22, ?23, ?24), (?25, ?26, ?27, ?28, ?29, ?30), (?31, ?32, ?33, ?34, ?35, ?36), (?37, ?38, ?39, ?40, ?41, ?42), (?43, ?44, ?45, ?46, ?47, ?48)"

abbrev pub leg_eights_terms : List Term
leg_eights_terms = lit Null ∷ col 0 0 ∷ col 0 1 ∷ col 0 2 ∷ col 0 3 ∷ col 0 4 ∷ col 0 5 ∷ lit Null ∷ col 0 6 ∷ col 0 7
    ∷ col 0 8 ∷ col 0 9 ∷ col 0 10 ∷ col 0 11 ∷ lit Null ∷ col 0 12 ∷ col 0 13 ∷ col 0 14 ∷ col 0 15 ∷ col 0 16
    ∷ col 0 17 ∷ lit Null ∷ col 0 18 ∷ col 0 19 ∷ col 0 20 ∷ col 0 21 ∷ col 0 22 ∷ col 0 23 ∷ lit Null ∷ col 0 24
    ∷ col 0 25 ∷ col 0 26 ∷ col 0 27 ∷ col 0 28 ∷ col 0 29 ∷ lit Null ∷ col 0 30 ∷ col 0 31 ∷ col 0 32 ∷ col 0 33
    ∷ col 0 34 ∷ col 0 35 ∷ lit Null ∷ col 0 36 ∷ col 0 37 ∷ col 0 38 ∷ col 0 39 ∷ col 0 40 ∷ col 0 41 ∷ lit Null
    ∷ col 0 42 ∷ col 0 43 ∷ col 0 44 ∷ col 0 45 ∷ col 0 46 ∷ col 0 47 ∷ []

pub add_leg_eights_is : (command_of (understood store_schema add_leg_eights_text)
    ≡ Insert 4 (Values leg_eights_terms 7)) × IsPlain (understood store_schema add_leg_eights_text)
unfolding understood everything
add_leg_eights_is = (refl, (refl, refl))

abbrev pub add_claim_eights_text : List ℕ
add_claim_eights_text = codes "INSERT INTO claim (branch, entry, leg, kind, unit, qty) VALUES (?1, ?2, ?3, ?4, ?5, ?6), (?7, ?8, ?9, ?10, ?11, ?12), (?13, ?14, ?15, ?16, ?17, ?18), (?19, ?20, ?21, ?22, ?23, ?24), (?25, ?26, ?27, ?28, ?29, ?30), (?31, ?32, ?33, ?34, ?35, ?36), (?37, ?38, ?39, ?40, ?41, ?42), (?43, ?44, ?45, ?46, ?47, ?48)"

abbrev pub claim_eights_terms : List Term
claim_eights_terms = lit Null ∷ col 0 0 ∷ col 0 1 ∷ col 0 2 ∷ col 0 3 ∷ col 0 4 ∷ col 0 5 ∷ lit Null ∷ col 0 6 ∷ col 0 7
    ∷ col 0 8 ∷ col 0 9 ∷ col 0 10 ∷ col 0 11 ∷ lit Null ∷ col 0 12 ∷ col 0 13 ∷ col 0 14 ∷ col 0 15 ∷ col 0 16
    ∷ col 0 17 ∷ lit Null ∷ col 0 18 ∷ col 0 19 ∷ col 0 20 ∷ col 0 21 ∷ col 0 22 ∷ col 0 23 ∷ lit Null ∷ col 0 24
    ∷ col 0 25 ∷ col 0 26 ∷ col 0 27 ∷ col 0 28 ∷ col 0 29 ∷ lit Null ∷ col 0 30 ∷ col 0 31 ∷ col 0 32 ∷ col 0 33
    ∷ col 0 34 ∷ col 0 35 ∷ lit Null ∷ col 0 36 ∷ col 0 37 ∷ col 0 38 ∷ col 0 39 ∷ col 0 40 ∷ col 0 41 ∷ lit Null
    ∷ col 0 42 ∷ col 0 43 ∷ col 0 44 ∷ col 0 45 ∷ col 0 46 ∷ col 0 47 ∷ []

pub add_claim_eights_is : (command_of (understood store_schema add_claim_eights_text)
    ≡ Insert 5 (Values claim_eights_terms 7)) × IsPlain (understood store_schema add_claim_eights_text)
unfolding understood everything
add_claim_eights_is = (refl, (refl, refl))
