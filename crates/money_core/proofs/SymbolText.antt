-- What is known of a symbol, and how it is printed.
use Rattle.std.proofs.Common.{◌≡◌, ◌<◌, ◌-◌, ℕ, List, [], ◌∷◌, true, ◌&&◌, ◌==◌, not, length, slice_index, nat_lt}
use Rattle.std.proofs.Common.{arith, refl, inl, inr}
use Rattle.std.proofs.lemmas.Bool.{cases_Bool, and_parts, and_from, ltb-true, leb-true, cond-true, cond-false}
use Rattle.std.proofs.lemmas.Bool.{not_from_false, not-true}
use Rattle.std.proofs.lemmas.List.Sums.{AllPass-from_list_all}
use Rattle.std.proofs.lemmas.Grind.{common_steps}
use Rattle.std.specs.List.{list_all}
use Rattle.std.specs.Str.{is_utf8}
use Rattle.money_core.specs.declared.class.Class.TheVariants.{Symbol}
use Rattle.money_core.specs.Class.{is_of_class}
use Rattle.money_core.specs.Symbol.{is_short_symbol, is_bare, is_quoted_byte, no_double, has_no_outer_space, is_symbol}
use Rattle.money_core.specs.Symbol.{WritesSymbol}
use Rattle.money_core.specs.NamePart.{is_part_byte, SymbolsAreNameParts}
use Rattle.money_core.specs.AmountText.{printed_symbol}
use Rattle.money_core.proofs.ClassLemmas.{all_weaker, symbol_no_space}

-- the parts of the test on symbols in quotes
pub record SymbolFacts (symbol : List ℕ) : Type 0 where
  pub short : is_short_symbol symbol ≡ true
  pub utf8 : is_utf8 symbol ≡ true
  pub bytes : list_all is_quoted_byte symbol ≡ true
  pub single : no_double symbol ≡ true
  pub ends : has_no_outer_space symbol ≡ true

pub symbol_facts : (symbol : List ℕ) → is_symbol symbol ≡ true → SymbolFacts symbol
symbol_facts symbol h =
    let four =
    and_parts (is_short_symbol symbol && is_utf8 symbol && list_all is_quoted_byte symbol && no_double symbol) _ h in
    let three = and_parts (is_short_symbol symbol && is_utf8 symbol && list_all is_quoted_byte symbol) _ four.0 in
    let two = and_parts (is_short_symbol symbol && is_utf8 symbol) _ three.0 in
    let one = and_parts (is_short_symbol symbol) _ two.0 in
    record { short = one.0; utf8 = one.1; bytes = two.1; single = three.1; ends = four.1 }

-- the parts of the test on symbols without quotes
pub record BareFacts (symbol : List ℕ) : Type 0 where
  pub short : is_short_symbol symbol ≡ true
  pub bytes : list_all (is_of_class Symbol) symbol ≡ true
  pub utf8 : is_utf8 symbol ≡ true

pub bare_facts : (symbol : List ℕ) → is_bare symbol ≡ true → BareFacts symbol
bare_facts symbol h =
    let dense = and_parts (is_short_symbol symbol && list_all (is_of_class Symbol) symbol) _ h in
    let one = and_parts (is_short_symbol symbol) _ dense.0 in
    record { short = one.0; bytes = one.1; utf8 = (and_parts (is_utf8 symbol) _ dense.1).0 }

pub short_some : (symbol : List ℕ) → is_short_symbol symbol ≡ true → 0 < length symbol
short_some symbol h = ltb-true 0 (length symbol) (and_parts (nat_lt 0 (length symbol)) _ h).0

-- a symbol that can stand bare can stand in quotes
symbol_quoted : (b : ℕ) → is_of_class Symbol b ≡ true → is_quoted_byte b ≡ true
symbol_quoted b h = grind (arith, common_steps)

bare_no_double : (symbol : List ℕ) → list_all (is_of_class Symbol) symbol ≡ true → no_double symbol ≡ true
bare_no_double [] h = refl
bare_no_double (b ∷ symbol) h =
    let both = and_parts (is_of_class Symbol b) _ h in rw (symbol_no_space b both.0) (bare_no_double symbol both.1)

bare_no_outer : (symbol : List ℕ) → 0 < length symbol → list_all (is_of_class Symbol) symbol ≡ true
    → has_no_outer_space symbol ≡ true
bare_no_outer symbol some h =
    let all = AllPass-from_list_all (is_of_class Symbol) symbol h in
    and_from _ _ (not_from_false _ (symbol_no_space (slice_index symbol 0) (all 0 0 some)))
    (not_from_false _ (symbol_no_space (slice_index symbol (length symbol - 1))
    (all (length symbol - 1) 0 (omega arith))))

bare_symbol : (symbol : List ℕ) → is_bare symbol ≡ true → is_symbol symbol ≡ true
bare_symbol symbol h =
    let f = bare_facts symbol h in
    and_from _ _ (and_from _ _ (and_from _ _ (and_from _ _ f.short f.utf8)
    (all_weaker (is_of_class Symbol) is_quoted_byte symbol symbol_quoted f.bytes)) (bare_no_double symbol f.bytes))
    (bare_no_outer symbol (short_some symbol f.short) f.bytes)

-- what is written is a symbol
pub written_symbol : (symbol written : List ℕ) → WritesSymbol symbol written → is_symbol symbol ≡ true
written_symbol symbol written (inl h) = bare_symbol symbol h.0
written_symbol symbol written (inr h) = h.0

-- A printed symbol is one as it may be written.
pub printed_symbol_writes : (symbol : List ℕ) → is_symbol symbol ≡ true → WritesSymbol symbol (printed_symbol symbol)
unfolding printed_symbol
printed_symbol_writes symbol h =
    elim (cases_Bool (is_bare symbol)) [
      | inl bare ↦ inl (bare, cond-true (is_bare symbol) _ _ bare)
      | inr quoted ↦ inr (h, cond-false (is_bare symbol) _ _ quoted)
    ]

-- a byte that may stand in quotes may stand in an account name
quoted_part : (b : ℕ) → is_quoted_byte b ≡ true → is_part_byte b ≡ true
quoted_part b h = grind (arith, common_steps)

pub name_parts : SymbolsAreNameParts
name_parts symbol h =
    let f = symbol_facts symbol h in
    let size = and_parts (nat_lt 0 (length symbol)) _ f.short in
    let ends = and_parts (not (slice_index symbol 0 == 32)) _ f.ends in
    record {
      some = short_some symbol f.short;
      short = omega (arith, leb-true (length symbol) 24 size.1);
      utf8 = f.utf8;
      good = all_weaker is_quoted_byte is_part_byte symbol quoted_part f.bytes;
      single = f.single;
      first = not-true _ ends.0;
      last = not-true _ ends.1;
    }
