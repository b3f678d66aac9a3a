-- accounts that are taken one by one, and a map of accounts that is not empty
use Rattle.std.proofs.Common.{◌≡◌, ◌<◌, ◌+◌, ℕ, Bool, true, false, cond, ◌&&◌, ◌||◌, List, [], ◌∷◌, length, take}
use Rattle.std.proofs.Common.{refl, ap, ◌∙◌, sym, arith, Option, Some, None, get_or}
use Rattle.std.specs.Prelude.{is_some, not, IsTrue, ◌↔◌}
use Rattle.std.specs.List.{list_any}
use Rattle.std.specs.Map.{lookup}
use Rattle.std.specs.Str.{bytes_eq}
use Rattle.std.specs.String.{string_bytes}
use Rattle.std.specs.declared.string.String.{String}
use Rattle.std.specs.declared.alloc.Global.{Global}
use Rattle.std.proofs.lemmas.List.Folds.{list_any_more}
use Rattle.money_core.proofs.BytesLemmas.{bytes_eq-refl}

but_not : (a b c : Bool) → ((a && not b) && not c) ≡ (a && not (b || c))
but_not true true c = refl
but_not true false c = refl
but_not false b c = refl

-- one more item of a list, whose test takes from what holds
pub none_next : {X : Type 0} (p : X → Bool) (xs : List X) (i : ℕ) (x : X) (start old new : Bool) → i < length xs
    → x ≡ get_or xs i x → old ≡ (start && not (list_any p (take i xs))) → new ≡ (old && not (p x))
    → new ≡ (start && not (list_any p (take (i + 1) xs)))
none_next p xs i x start old new h e before put =
    put
    ∙ ap (λ (t : Bool). t && not (p x)) before
    ∙ but_not start (list_any p (take i xs)) (p x)
    ∙ ap (λ (t : Bool). start && not (list_any p (take i xs) || t)) (ap p e)
    ∙ ap (λ (t : Bool). start && not t) (sym (list_any_more p xs i x h))

-- ---- a key that is put or taken
pub is_put : (o : Option (Unit {0})) (t : Bool) → is_some (cond t (Some tt) o) ≡ (is_some o || t)
is_put None true = refl
is_put None false = refl
is_put (Some x) true = refl
is_put (Some x) false = refl

pub is_taken : (o : Option (Unit {0})) (t : Bool) → is_some (cond t None o) ≡ (is_some o && not t)
is_taken None true = refl
is_taken None false = refl
is_taken (Some x) true = refl
is_taken (Some x) false = refl

-- ---- a map that is not empty has a key
abbrev pub Entries : Type 0
Entries = List (String Global × Unit {0})

abbrev pub has_key : Entries → List ℕ → Bool
has_key es k = is_some (lookup (λ (q : String Global). bytes_eq k (string_bytes q)) es)

some_key : (es : Entries) → 0 < length es → (k : List ℕ) × (has_key es k ≡ true)
some_key [] h = absurd (omega arith)
some_key (e ∷ es) h = (
  string_bytes e.0,
  ap (λ (t : Bool). is_some (cond t (Some e.1)
      (lookup (λ (q : String Global). bytes_eq (string_bytes e.0) (string_bytes q)) es)))
      (bytes_eq-refl (string_bytes e.0)),
)

any_key : (es : Entries) (k : List ℕ) → has_key es k ≡ true → 0 < length es
any_key [] k h = absurd cc
any_key (e ∷ es) k h = omega arith

some_left : (es : Entries) (empty : Bool) → (IsTrue empty ↔ (length es ≡ 0)) → IsTrue (not empty) → 0 < length es
some_left [] empty said h = absurd (no_both empty (said.1 refl) h)
  where
    no_both : (t : Bool) → t ≡ true → not t ≡ true → ⊥
    no_both true h k = cc
    no_both false h k = cc
some_left (e ∷ es) empty said h = omega arith

not_empty : (es : Entries) (empty : Bool) → (IsTrue empty ↔ (length es ≡ 0)) → 0 < length es → IsTrue (not empty)
not_empty es true said h = absurd (let none = said.0 refl in omega arith)
not_empty es false said h = refl

pub is_any : (es : Entries) (empty : Bool) (P : Type 0) (test : List ℕ → Bool) → (IsTrue empty ↔ (length es ≡ 0))
    → ((k : List ℕ) → has_key es k ≡ test k) → P → (IsTrue (not empty) ↔ (P × ((k : List ℕ) × (test k ≡ true))))
is_any es empty P test said same p = (
  λ h. (let some = some_key es (some_left es empty said h) in (p, (some.0, sym (same some.0) ∙ some.1))),
  λ h. not_empty es empty said (any_key es h.1.0 (same h.1.0 ∙ h.1.1)),
)
