-- Texts that are cut at a byte, piece by piece.
use Rattle.std.proofs.Common.{◌≡◌, ◌<◌, ◌==◌, ℕ, List, [], ◌∷◌, length, Bool, Some, None, Option, Bor}
use Rattle.std.proofs.Common.{if◌then◌else◌, refl, ap, ◌∙◌, sym, subst, All, arith, false}
use Rattle.std.specs.Prelude.{MatchOption, option_map, option_and_then}
use Rattle.std.specs.List.{after_first, before_first, position_or_len, slice_split, find}
use Rattle.std.proofs.lemmas.List.Elements.{All-from_get_or}
use Rattle.std.proofs.lemmas.List.Folds.{list_any_none}
use Rattle.std.proofs.lemmas.List.Splits.{slice_split_first, slice_split_none}
use Rattle.std.proofs.lemmas.List.Sums.{fails_before_first}
use Rattle.std.proofs.lemmas.Str.Pattern.{IsSplitOnceResult, split_once_first}
use Rattle.money_core.proofs.RoundTrip.{split_some}
use Rattle.treasury_requests.specs.declared.words.Key.{Key}
use Rattle.treasury_requests.specs.Keys.{is_key_named}
use Rattle.treasury_requests.specs.declared.given.Given.{Given}
use Rattle.http_request.specs.Routes.{at_key, parts_given, command_at}
use Rattle.http_request.specs.Query.{decoded, piece_given}

-- where a byte does not stand
pub lacks_byte : (c : ℕ) (text : List ℕ) → position_or_len (λ b. b == c) text ≡ length text
    → All (λ x. (x == c) ≡ false) text
lacks_byte c text end =
    All-from_get_or (λ x. (x == c) ≡ false) text 0
    (λ i within. fails_before_first (λ b. b == c) text i 0 (subst (λ (n : ℕ). i < n) (sym end) within))

-- what a cut gives, and what it means that there is none
abbrev Cuts : ℕ → List ℕ → Option (Bor (List ℕ) × Bor (List ℕ)) → Type 0
Cuts at text r =
    MatchOption r (position_or_len (λ b. b == at) text ≡ length text)
    (λ x. (position_or_len (λ b. b == at) text < length text) × (x.0.now ≡ before_first (λ b. b == at) text)
    × (x.1.now ≡ after_first (λ b. b == at) text))

pub cut_some : (at code : ℕ) (text : List ℕ) (r : Option (Bor (List ℕ) × Bor (List ℕ)))
    (x : Bor (List ℕ) × Bor (List ℕ)) → code ≡ at → at < 128 → IsSplitOnceResult code text r → r ≡ Some x
    → slice_split (λ b. b == at) text ≡ x.0.now ∷ slice_split (λ b. b == at) x.1.now
cut_some at code text r x same small h e =
    let cut = subst (λ (c : ℕ). IsSplitOnceResult c text r) same h in
    let m = subst (Cuts at text) e (split_once_first at text r cut small) in
    slice_split_first (λ b. b == at) text 0 m.0
    ∙ (ap (λ (t : List ℕ). t ∷ slice_split (λ b. b == at) (after_first (λ b. b == at) text)) (sym m.1)
    ∙ ap (λ (t : List ℕ). x.0.now ∷ slice_split (λ b. b == at) t) (sym m.2))

pub cut_none : (at code : ℕ) (text : List ℕ) (r : Option (Bor (List ℕ) × Bor (List ℕ))) → code ≡ at → at < 128
    → IsSplitOnceResult code text r → r ≡ None → slice_split (λ b. b == at) text ≡ text ∷ []
cut_none at code text r same small h e =
    let cut = subst (λ (c : ℕ). IsSplitOnceResult c text r) same h in
    let m = subst (Cuts at text) e (split_once_first at text r cut small) in
    slice_split_none (λ b. b == at) text (lacks_byte at text m)

-- a text has a piece, so where no key is left there is one too many
pub one_more : (given : List Given) (keys : List Key) (text : List ℕ) → length keys ≡ 0
    → None ≡ parts_given given keys (slice_split (λ b. b == 47) text)
one_more given [] text none = by_pieces (slice_split (λ b. b == 47) text) (split_some (λ b. b == 47) text)
  where
    by_pieces : (pieces : List (List ℕ)) → 0 < length pieces → None ≡ parts_given given [] pieces
    by_pieces [] some = absurd (omega arith)
    by_pieces (piece ∷ pieces) some = refl
one_more given (k ∷ keys) text none = absurd (omega (arith, none))

-- commands have one part at most
pub more_pieces : (first rest : List ℕ) → None ≡ command_at (first ∷ slice_split (λ b. b == 47) rest)
more_pieces first rest = by_pieces first (slice_split (λ b. b == 47) rest) (split_some (λ b. b == 47) rest)
  where
    by_pieces : (first : List ℕ) (pieces : List (List ℕ)) → 0 < length pieces → None ≡ command_at (first ∷ pieces)
    by_pieces first [] some = absurd (omega arith)
    by_pieces [] (piece ∷ pieces) some = refl
    by_pieces (b ∷ first) (piece ∷ pieces) some = refl

-- a piece without `=` gives nothing
pub no_piece : (keys : List Key) (piece : List ℕ) → position_or_len (λ b. b == 61) piece ≡ length piece
    → None ≡ piece_given keys piece
no_piece keys piece end =
    sym (ap (λ (v : Bool). if v then
    option_and_then (λ name. option_and_then (λ k. option_map (at_key k) (decoded (after_first (λ b. b == 61) piece)))
    (find (is_key_named name) keys)) (decoded (before_first (λ b. b == 61) piece)) else None)
    (list_any_none (λ b. b == 61) piece (lacks_byte 61 piece end)))
