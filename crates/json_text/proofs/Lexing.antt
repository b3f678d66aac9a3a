-- Texts and the tokens that a reader finds in them.
use Rattle.std.proofs.Common.{◌≡◌, ◌∙◌, ◌++◌, ◌∷◌, ℕ, List, [], true, false, refl, sym, ap, ap₂, append_assoc}
use Rattle.std.proofs.Common.{subst}
use Rattle.std.specs.Prelude.{codes}
use Rattle.std.specs.List.{flat_map}
use Rattle.json.specs.Token.{Token, begin_object, end_object, begin_array, end_array, key, string}
use Rattle.json.specs.Lex.{Lexeme, token, comma, colon, string_token, lex, between, Place, fresh, after_value}
use Rattle.json.specs.Lex.{after_comma, after_key}
use Rattle.json.specs.Lex.{begins_colon, may_begin, punctuate, tokens}
use Rattle.json_text.specs.JsonText.{escaped, quoted, with_commas}
use Rattle.json_text.proofs.Spelling.{content-escaped, lex-escaped}

-- ---- bytes and lexemes

-- before any other text, the text is these lexemes
abbrev pub Lexes : List ℕ → List Lexeme → Type 0
Lexes text ls = (r : List ℕ) → lex between (text ++ r) ≡ ls ++ lex between r

pub lexes_both : (a b : List ℕ) (k l : List Lexeme) → Lexes a k → Lexes b l → Lexes (a ++ b) (k ++ l)
lexes_both a b k l first second r =
    ap (lex between) (append_assoc a b r) ∙ first (b ++ r) ∙ ap (λ (x : List Lexeme). k ++ x) (second r)
    ∙ sym (append_assoc k l (lex between r))

pub lexes_string : (s : List ℕ) → Lexes (quoted s) (token (string s) ∷ [])
unfolding lex
lexes_string s r =
    let e = append_assoc (flat_map escaped s) (34 ∷ []) r in
    ap (λ (l : List ℕ). lex between (34 ∷ l)) e
    ∙ ap₂ (λ o l. token (string_token o) ∷ l) (content-escaped s r) (lex-escaped s r)

lexes_nothing : Lexes [] []
lexes_nothing r = refl

lexes_comma : Lexes (codes ",") (comma ∷ [])
unfolding lex
lexes_comma r = refl

pub lexes_colon : Lexes (codes ":") (colon ∷ [])
unfolding lex
lexes_colon r = refl

pub lexes_open_array : Lexes (codes "[") (token begin_array ∷ [])
unfolding lex
lexes_open_array r = refl

pub lexes_close_array : Lexes (codes "]") (token end_array ∷ [])
unfolding lex
lexes_close_array r = refl

pub lexes_open_object : Lexes (codes "{") (token begin_object ∷ [])
unfolding lex
lexes_open_object r = refl

pub lexes_close_object : Lexes (codes "}") (token end_object ∷ [])
unfolding lex
lexes_close_object r = refl

-- ---- lexemes and tokens

-- where a value may begin, and before no colon, the lexemes are these tokens, after which a value has ended
abbrev pub Punctuates : List Lexeme → List Token → Type 0
Punctuates ls ts = (p : Place) (r : List Lexeme) → may_begin p ≡ true → begins_colon r ≡ false
    → punctuate p (ls ++ r) ≡ ts ++ punctuate after_value r

pub punctuates_string : (s : List ℕ) → Punctuates (token (string s) ∷ []) (string s ∷ [])
unfolding punctuate
punctuates_string s fresh r h k = rw k refl
punctuates_string s after_value r h k = absurd (cc)
punctuates_string s after_comma r h k = rw k refl
punctuates_string s after_key r h k = absurd (cc)

pub punctuates_member : (s : List ℕ) (ls : List Lexeme) (ts : List Token) → Punctuates ls ts
    → Punctuates (token (string s) ∷ (colon ∷ ls)) (key s ∷ ts)
unfolding punctuate
punctuates_member s ls ts value fresh r h k = ap (λ (l : List Token). key s ∷ l) (value fresh r refl k)
punctuates_member s ls ts value after_value r h k = absurd (cc)
punctuates_member s ls ts value after_comma r h k = ap (λ (l : List Token). key s ∷ l) (value fresh r refl k)
punctuates_member s ls ts value after_key r h k = absurd (cc)

-- ---- both

-- a text is these tokens
pub record Written (text : List ℕ) (ts : List Token) : Type 0 where
  pub ls : List Lexeme
  pub lexed : Lexes text ls
  pub punctuated : Punctuates ls ts

pub written_string : (s : List ℕ) → Written (quoted s) (string s ∷ [])
written_string s = record { ls = token (string s) ∷ []; lexed = lexes_string s; punctuated = punctuates_string s }

-- a bracket that closes ends a value, after its first bracket and after a value
pub record Closes (t : Token) : Type 0 where
  pub first : (r : List Lexeme) → punctuate fresh (token t ∷ r) ≡ t ∷ punctuate after_value r
  pub later : (r : List Lexeme) → punctuate after_value (token t ∷ r) ≡ t ∷ punctuate after_value r

pub closes_array : Closes end_array
unfolding punctuate
closes_array = record { first = λ r. refl; later = λ r. refl }

pub closes_object : Closes end_object
unfolding punctuate
closes_object = record { first = λ r. refl; later = λ r. refl }

-- a bracket that opens stands where a value may begin, and after it a first value may
abbrev pub Opens : Token → Type 0
Opens t = (p : Place) (r : List Lexeme) → may_begin p ≡ true → punctuate p (token t ∷ r) ≡ t ∷ punctuate fresh r

pub opens_array : Opens begin_array
unfolding punctuate
opens_array fresh r h = refl
opens_array after_value r h = absurd (cc)
opens_array after_comma r h = refl
opens_array after_key r h = absurd (cc)

pub opens_object : Opens begin_object
unfolding punctuate
opens_object fresh r h = refl
opens_object after_value r h = absurd (cc)
opens_object after_comma r h = refl
opens_object after_key r h = absurd (cc)

module _ {X : Type 0} (text : X → List ℕ) (ts : X → List Token) (each : (x : X) → Written (text x) (ts x)) where
  -- each after a comma
  abbrev later : List X → List Lexeme
  later xs = flat_map (λ x. comma ∷ (each x).ls) xs

  -- with commas between them
  abbrev among : List X → List Lexeme
  among [] = []
  among (x ∷ xs) = (each x).ls ++ later xs

  lexes_later : (xs : List X) → Lexes (flat_map (λ x. codes "," ++ text x) xs) (later xs)
  lexes_later [] = lexes_nothing
  lexes_later (x ∷ xs) =
      lexes_both (codes "," ++ text x) (flat_map (λ y. codes "," ++ text y) xs) (comma ∷ (each x).ls) (later xs)
      (lexes_both (codes ",") (text x) (comma ∷ []) (each x).ls lexes_comma (each x).lexed) (lexes_later xs)

  lexes_among : (xs : List X) → Lexes (with_commas text xs) (among xs)
  lexes_among [] = lexes_nothing
  lexes_among (x ∷ xs) =
      lexes_both (text x) (flat_map (λ y. codes "," ++ text y) xs) (each x).ls (later xs) (each x).lexed
      (lexes_later xs)

  module _ (close : Token) (closes : Closes close) where
    -- what stands after a value
    abbrev rest : List X → List Lexeme → List Lexeme
    rest xs r = later xs ++ token close ∷ r

    no_colon : (xs : List X) (r : List Lexeme) → begins_colon (rest xs r) ≡ false
    no_colon [] r = refl
    no_colon (x ∷ xs) r = refl

    punctuates_later : (xs : List X) (r : List Lexeme)
        → punctuate after_value (rest xs r) ≡ flat_map ts xs ++ close ∷ punctuate after_value r
    unfolding punctuate
    punctuates_later [] r = closes.later r
    punctuates_later (x ∷ xs) r =
        ap (punctuate after_comma) (append_assoc (each x).ls (later xs) (token close ∷ r))
        ∙ (each x).punctuated after_comma (rest xs r) refl (no_colon xs r)
        ∙ ap (λ (l : List Token). ts x ++ l) (punctuates_later xs r)
        ∙ sym (append_assoc (ts x) (flat_map ts xs) (close ∷ punctuate after_value r))

    punctuates_among : (xs : List X) (r : List Lexeme)
        → punctuate fresh (among xs ++ token close ∷ r) ≡ flat_map ts xs ++ close ∷ punctuate after_value r
    unfolding punctuate
    punctuates_among [] r = closes.first r
    punctuates_among (x ∷ xs) r =
        ap (punctuate fresh) (append_assoc (each x).ls (later xs) (token close ∷ r))
        ∙ (each x).punctuated fresh (rest xs r) refl (no_colon xs r)
        ∙ ap (λ (l : List Token). ts x ++ l) (punctuates_later xs r)
        ∙ sym (append_assoc (ts x) (flat_map ts xs) (close ∷ punctuate after_value r))

    -- the list of them, in its brackets
    pub written_list : (begin : Token) (opened closed : List ℕ) → Opens begin → Lexes opened (token begin ∷ [])
        → Lexes closed (token close ∷ []) → (xs : List X)
        → Written (opened ++ with_commas text xs ++ closed) (begin ∷ (flat_map ts xs ++ close ∷ []))
    written_list begin opened closed opens first last xs = record {
      ls = token begin ∷ (among xs ++ token close ∷ []);
      lexed = lexes_both (opened ++ with_commas text xs) closed (token begin ∷ among xs) (token close ∷ [])
          (lexes_both opened (with_commas text xs) (token begin ∷ []) (among xs) first (lexes_among xs)) last;
      punctuated = λ p r h k.
          opens p ((among xs ++ token close ∷ []) ++ r) h
          ∙ ap (λ (l : List Lexeme). begin ∷ punctuate fresh l) (append_assoc (among xs) (token close ∷ []) r)
          ∙ ap (λ (l : List Token). begin ∷ l) (punctuates_among xs r)
          ∙ ap (λ (l : List Token). begin ∷ l)
          (sym (append_assoc (flat_map ts xs) (close ∷ []) (punctuate after_value r)));
    }

pub written_as : (text : List ℕ) (ts us : List Token) → ts ≡ us → Written text ts → Written text us
written_as text ts us same written = subst (λ (l : List Token). Written text l) same written

-- the tokens of a whole text, after which stands nothing that is read
pub tokens_of_written : (text tail : List ℕ) (ts : List Token) → Written text ts → lex between tail ≡ []
    → tokens (text ++ tail) ≡ ts ++ []
unfolding punctuate
tokens_of_written text tail ts written blank =
    ap (punctuate fresh) (written.lexed tail ∙ ap (λ (l : List Lexeme). written.ls ++ l) blank)
    ∙ written.punctuated fresh [] refl refl
